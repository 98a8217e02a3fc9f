-- What the calls answer has the values that their exported structs have fields for.
use Rattle.std.proofs.Common.{ℕ, ◌≡◌, refl, sym, ap, ◌∙◌, List, [], ◌∷◌, ℤ, pos}
use Rattle.refusals.specs.declared.Refusal.{Refusal}
use Rattle.std.specs.Prelude.{Result, Ok, Err, ⊤}
use Rattle.sheet.specs.Brought.{Brought}
use Rattle.figures.specs.declared.Worth as Figures
use Rattle.figures.specs.Answer.{Answer, Done, Position, Worth, Ratio, answer_of, done_answer, position_answer, worth_answer, ratio_answer}
use Rattle.walk.specs.declared.Reply.{Reply}
use Rattle.walk.specs.declared.Walk.{Walk}
use Rattle.rows.specs.Rows.{Rows, rows_of}
use Rattle.walk.specs.Answers.{said_of}
use Rattle.walk.specs.Calls.{Outcome, replied, forward_outcome, or_outcome, open_call, back_call, value_call, ratio_call, forward_call}
use Rattle.figures.specs.Replies.{worth}
use Rattle.returns.specs.declared.Opened.{Opened}
use Rattle.returns.specs.declared.Moved.{Moved}
use Rattle.returns.specs.declared.Valued.{Valued}
use Rattle.returns.specs.declared.Hedged.{Hedged}
use Rattle.returns.specs.Figures.{position_in, default_in, premium_in, net_in, ratio_in}
use Rattle.returns.specs.Returns.{Return, returned, opened, moved, valued, hedged}

-- ---- the values of each call, whatever is found

-- An outcome with the values given apart.
abbrev with_values : Outcome → List ℤ → Return
with_values o vs = record { number = (said_of o.answer).number; values = vs; walk = o.walk; rows = o.rows }

position_or : (f : Result ⊤ Refusal) (w v : Walk) (l k : Rows) (i : ℕ)
    → with_values (or_outcome f w l (record { answer = Position i; walk = v; rows = k }))
    (pos (position_in (or_outcome f w l (record { answer = Position i; walk = v; rows = k })).answer) ∷ [])
    ≡ returned 1 (or_outcome f w l (record { answer = Position i; walk = v; rows = k }))
unfolding or_outcome
position_or (Ok tt) w v l k i = refl
position_or (Err f) w v l k i = refl

worth_or : (f : Result ⊤ Refusal) (w v : Walk) (l k : Rows) (d a : ℕ) (z : ℤ)
    → with_values (or_outcome f w l (record { answer = Worth d a z; walk = v; rows = k }))
    (pos (default_in (or_outcome f w l (record { answer = Worth d a z; walk = v; rows = k })).answer)
    ∷ pos (premium_in (or_outcome f w l (record { answer = Worth d a z; walk = v; rows = k })).answer)
    ∷ net_in (or_outcome f w l (record { answer = Worth d a z; walk = v; rows = k })).answer
    ∷ [])
    ≡ returned 3 (or_outcome f w l (record { answer = Worth d a z; walk = v; rows = k }))
unfolding or_outcome
worth_or (Ok tt) w v l k d a z = refl
worth_or (Err f) w v l k d a z = refl

ratio_or : (f : Result ⊤ Refusal) (w v : Walk) (l k : Rows) (z : ℤ)
    → with_values (or_outcome f w l (record { answer = Ratio z; walk = v; rows = k }))
    (ratio_in (or_outcome f w l (record { answer = Ratio z; walk = v; rows = k })).answer ∷ [])
    ≡ returned 1 (or_outcome f w l (record { answer = Ratio z; walk = v; rows = k }))
unfolding or_outcome
ratio_or (Ok tt) w v l k z = refl
ratio_or (Err f) w v l k z = refl

module _ (x : Brought) (register : List ℕ) (w : Walk) (l : Rows) where
  back_values : (c : ℕ)
      → with_values (back_call x register w l c) (pos (position_in (back_call x register w l c).answer) ∷ []) ≡ returned 1 (back_call x register w l c)
  unfolding back_call
  back_values c = position_or _ _ _ _ _ _

  value_values : (j k : ℕ)
      → with_values (value_call x register w l j k)
      (pos (default_in (value_call x register w l j k).answer) ∷ pos (premium_in (value_call x register w l j k).answer)
      ∷ net_in (value_call x register w l j k).answer ∷ [])
      ≡ returned 3 (value_call x register w l j k)
  unfolding value_call worth
  value_values j k = worth_or _ _ _ _ _ _ _ _

  ratio_values : (j k : ℕ)
      → with_values (ratio_call x register w l j k) (ratio_in (ratio_call x register w l j k).answer ∷ []) ≡ returned 1 (ratio_call x register w l j k)
  unfolding ratio_call
  ratio_values j k = ratio_or _ _ _ _ _ _

-- ---- what each exported struct returns

module _ (x : Brought) (register : List ℕ) (w : Walk) (l : Rows) (d p : List ℕ) where
  pub open_returned : (r : Reply ⊤) (o : Opened) → replied done_answer r d p ≡ open_call x register w l
      → o.number ≡ (said_of (done_answer r.answer)).number → o.walk ≡ r.walk
      → opened o (rows_of d p) ≡ returned 0 (open_call x register w l)
  open_returned r o e n v = (λ t. record { number = n t; values = []; walk = v t; rows = rows_of d p }) ∙ ap (returned 0) e

  pub back_returned : (r : Reply ℕ) (c : ℕ) (o : Moved) → replied position_answer r d p ≡ back_call x register w l c
      → o.number ≡ (said_of (position_answer r.answer)).number → o.position ≡ position_in (position_answer r.answer) → o.walk ≡ r.walk
      → moved o (rows_of d p) ≡ returned 1 (back_call x register w l c)
  back_returned r c o e n i v =
      (λ t. record { number = n t; values = pos (i t) ∷ []; walk = v t; rows = rows_of d p })
      ∙ (λ t. record { number = (said_of (e t).answer).number; values = pos (position_in (e t).answer) ∷ []; walk = (e t).walk; rows = (e t).rows })
      ∙ back_values _ _ _ _ c

  pub value_returned : (r : Reply Figures.Worth) (j k : ℕ) (o : Valued) → replied worth_answer r d p ≡ value_call x register w l j k
      → o.number ≡ (said_of (worth_answer r.answer)).number → o.default ≡ default_in (worth_answer r.answer) → o.premium ≡ premium_in (worth_answer r.answer)
      → o.net ≡ net_in (worth_answer r.answer) → o.walk ≡ r.walk
      → valued o (rows_of d p) ≡ returned 3 (value_call x register w l j k)
  value_returned r j k o e n f g h v =
      (λ t. record { number = n t; values = pos (f t) ∷ pos (g t) ∷ h t ∷ []; walk = v t; rows = rows_of d p })
      ∙ (λ t.
      record {
        number = (said_of (e t).answer).number;
        values = pos (default_in (e t).answer) ∷ pos (premium_in (e t).answer) ∷ net_in (e t).answer ∷ [];
        walk = (e t).walk;
        rows = (e t).rows;
      })
      ∙ value_values _ _ _ _ j k

  pub ratio_returned : (r : Reply ℤ) (j k : ℕ) (o : Hedged) → replied ratio_answer r d p ≡ ratio_call x register w l j k
      → o.number ≡ (said_of (ratio_answer r.answer)).number → o.ratio ≡ ratio_in (ratio_answer r.answer) → o.walk ≡ r.walk
      → hedged o (rows_of d p) ≡ returned 1 (ratio_call x register w l j k)
  ratio_returned r j k o e n z v =
      (λ t. record { number = n t; values = z t ∷ []; walk = v t; rows = rows_of d p })
      ∙ (λ t. record { number = (said_of (e t).answer).number; values = ratio_in (e t).answer ∷ []; walk = (e t).walk; rows = (e t).rows })
      ∙ ratio_values _ _ _ _ j k

-- The same of forward, whose answer has no value and no walk.
pub forward_returned : (x : Brought) (register row : List ℕ) (i : ℕ) (a : Result ⊤ Refusal) (left : List ℕ) (n : ℕ)
    → forward_outcome a left ≡ forward_call x register row i → n ≡ (said_of (done_answer a)).number
    → (n ≡ (said_of (forward_call x register row i).answer).number) × (left ≡ (forward_call x register row i).row)
forward_returned x register row i a left n e h = (h ∙ (λ t. (said_of (e t).answer).number), (λ t. (e t).row))
