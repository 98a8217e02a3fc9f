-- Wrong engines, each ours but for one call. proofs/Refuted.antt shows that the promise admits none of them.
use Rattle.std.specs.Prelude.{ℕ, zero, suc, ◌+◌, ◌-◌, ◌*◌, ◌/◌, min, Bool, true, false, cond, List, [], ◌∷◌, ◌++◌, get_or, set, take, replicate, leb, eqb, ℤ, pos, nat_abs}
use Rattle.hedges.specs.declared.Node.{Node}
use Rattle.cash.specs.Units.{B, half}
use Rattle.cash.specs.Losses.{premium_payment}
use Rattle.hedges.specs.Hedges.{net_value, jump_of, negative, unlike, with_sign, millionths, ratio_of}
use Rattle.register.specs.Register.{status_in}
use Rattle.tree.specs.Paths.{survive, default, count_after, Cash}
use Rattle.tree.specs.Backward.{Leg}
use Rattle.tree.specs.Legs.{elapsed_cash, premium_leg}
use Rattle.sheet.specs.Terms.{Terms}
use Rattle.tree.specs.Sheet.{hazard_of, discount_of, accrual_of, elapsed_of, pool_loss_of, outstanding_of, default_of, premium_of}
use Rattle.rows.specs.Tables.{tab}
use Rattle.rows.specs.Rows.{node_in, row_of, rolled_back, distribution_row, Rows}
use Rattle.sheet.specs.Brought.{Brought}
use Rattle.walk.specs.declared.Walk.{Walk}
use Rattle.walk.specs.Answers.{Said, accepted, fresh}
use Rattle.figures.specs.Nodes.{node_of, jump}
use Rattle.admission.specs.LentTests.{is_withdrawn, is_unissued}
use Rattle.walk.specs.Calls.{zeros, rolls}
use Rattle.walk.specs.CallRules.{RegisterResult, WalkResult, ForwardResult, says}
use Rattle.walk.specs.Engine.{Engine}
use Rattle.walk.specs.OurEngine.{ours}

-- ---- ours, with one call replaced

abbrev pub issue_by : (List ℕ → ℕ → RegisterResult) → Engine
issue_by f =
    record {
      issue = f;
      withdraw = ours.withdraw;
      opening = ours.opening;
      back = ours.back;
      value = ours.value;
      ratio = ours.ratio;
      forward = ours.forward;
    }

abbrev pub withdraw_by : (List ℕ → ℕ → RegisterResult) → Engine
withdraw_by f =
    record {
      issue = ours.issue;
      withdraw = f;
      opening = ours.opening;
      back = ours.back;
      value = ours.value;
      ratio = ours.ratio;
      forward = ours.forward;
    }

abbrev pub open_by : (Brought → List ℕ → Walk → Rows → WalkResult) → Engine
open_by f =
    record {
      issue = ours.issue;
      withdraw = ours.withdraw;
      opening = f;
      back = ours.back;
      value = ours.value;
      ratio = ours.ratio;
      forward = ours.forward;
    }

abbrev pub back_by : (Brought → List ℕ → Walk → Rows → ℕ → WalkResult) → Engine
back_by f =
    record {
      issue = ours.issue;
      withdraw = ours.withdraw;
      opening = ours.opening;
      back = f;
      value = ours.value;
      ratio = ours.ratio;
      forward = ours.forward;
    }

abbrev pub value_by : (Brought → List ℕ → Walk → Rows → ℕ → ℕ → WalkResult) → Engine
value_by f =
    record {
      issue = ours.issue;
      withdraw = ours.withdraw;
      opening = ours.opening;
      back = ours.back;
      value = f;
      ratio = ours.ratio;
      forward = ours.forward;
    }

abbrev pub ratio_by : (Brought → List ℕ → Walk → Rows → ℕ → ℕ → WalkResult) → Engine
ratio_by f =
    record {
      issue = ours.issue;
      withdraw = ours.withdraw;
      opening = ours.opening;
      back = ours.back;
      value = ours.value;
      ratio = f;
      forward = ours.forward;
    }

abbrev pub forward_by : (Brought → List ℕ → List ℕ → ℕ → ForwardResult) → Engine
forward_by f =
    record {
      issue = ours.issue;
      withdraw = ours.withdraw;
      opening = ours.opening;
      back = ours.back;
      value = ours.value;
      ratio = ours.ratio;
      forward = f;
    }

-- ---- what a call gives back, changed

abbrev pub refusal : ℕ → Said
refusal n = record { number = n; values = [] }

abbrev pub with_said : WalkResult → Said → WalkResult
with_said o s = record { said = s; walk = o.walk; rows = o.rows }

abbrev with_rows : WalkResult → Rows → WalkResult
with_rows o l = record { said = o.said; walk = o.walk; rows = l }

-- At the position i, which a back also answers.
abbrev moved_to : WalkResult → ℕ → WalkResult
moved_to o i =
    record { said = says (pos i ∷ []); walk = record { «open» = o.walk.«open»; number = o.walk.number; position = i }; rows = o.rows }

-- The first where the call was accepted, and the second where it was refused.
abbrev pub by_answer : WalkResult → WalkResult → WalkResult → WalkResult
by_answer o a b = cond (accepted o.said) a b

-- Two refusal numbers taken for one another.
abbrev exchanged : ℕ → ℕ → Said → Said
exchanged m n s = cond (eqb s.number m) (refusal n) (cond (eqb s.number n) (refusal m) s)

-- The register with the sheet's number live again, where it is withdrawn.
abbrev revived : Brought → List ℕ → List ℕ
revived x g = cond (is_withdrawn (status_in g x.number)) (set g x.number 0xA5) g

-- So where it is withdrawn by another byte than 00.
abbrev revived_but : Brought → List ℕ → List ℕ
revived_but x g = cond (eqb (get_or g x.number 0) 0) g (revived x g)

-- ---- issue and withdraw

abbrev pub always_live : Engine
always_live = issue_by (λ g y. record { said = refusal 17; register = g })

-- A withdrawn number is issued again.
abbrev pub issued_again : Engine
issued_again = issue_by (λ g y. cond (is_withdrawn (status_in g y)) (record { said = says []; register = set g y 0xA5 }) (ours.issue g y))

-- Withdraw answers as it should and leaves the byte.
abbrev pub byte_left : Engine
byte_left = withdraw_by (λ g y. record { said = (ours.withdraw g y).said; register = g })

-- Withdraw sets bits: the byte it leaves says unissued again.
abbrev pub bits_set : Engine
bits_set = withdraw_by (λ g y. record { said = (ours.withdraw g y).said; register = cond (accepted (ours.withdraw g y).said) (set g y 0xFF) g })

-- An accepted issue writes a byte besides: that of the number 0, where it says withdrawn by 00.
abbrev pub other_byte_written : Engine
other_byte_written =
    issue_by (λ g y.
    record {
      said = (ours.issue g y).said;
      register = cond (accepted (ours.issue g y).said) (set (set g y 0xA5) 0 (cond (eqb (get_or g 0 0) 0) 0xF5 (get_or (set g y 0xA5) 0 0))) g;
    })

-- A refused withdraw of a number never issued writes 00.
abbrev pub refused_stores : Engine
refused_stores =
    withdraw_by (λ g y.
    record { said = (ours.withdraw g y).said; register = cond (is_unissued (status_in g y)) (set g y 0x00) (ours.withdraw g y).register })

-- ---- open

abbrev pub all_refused : Engine
all_refused = open_by (λ x g w l. record { said = refusal 1; walk = w; rows = l })

-- 3 and 4 exchanged.
abbrev pub exchanged_numbers : Engine
exchanged_numbers = open_by (λ x g w l. with_said (ours.opening x g w l) (exchanged 3 4 (ours.opening x g w l).said))

-- 9 is seen before the limits of the sheet.
abbrev pub withdrawn_first : Engine
withdrawn_first =
    open_by (λ x g w l. cond (is_withdrawn (status_in g x.number)) (record { said = refusal 9; walk = w; rows = l }) (ours.opening x g w l))

-- An accepted open leaves the rows as they were lent.
abbrev pub not_cleared : Engine
not_cleared = open_by (λ x g w l. with_rows (ours.opening x g w l) l)

-- A refused open zeroes the rows lent to it.
abbrev pub refused_zeroes : Engine
refused_zeroes = open_by (λ x g w l. by_answer (ours.opening x g w l) (ours.opening x g w l) (with_rows (ours.opening x g w l) (zeros x)))

-- A refused open closes the walk.
abbrev pub refused_closes : Engine
refused_closes =
    open_by (λ x g w l.
    by_answer (ours.opening x g w l) (ours.opening x g w l) (record { said = (ours.opening x g w l).said; walk = fresh; rows = l }))

-- A number that was never issued is opened.
abbrev pub unissued_taken : Engine
unissued_taken = open_by (λ x g w l. ours.opening x (cond (is_unissued (status_in g x.number)) (set g x.number 0xA5) g) w l)

-- A register of another length is taken: bytes that it lacks are read as live.
abbrev pub other_length : Engine
other_length = open_by (λ x g w l. ours.opening x (take 256 (g ++ replicate 256 0xA5)) w l)

-- Only 00 is read as withdrawn.
abbrev pub zero_alone : Engine
zero_alone = open_by (λ x g w l. ours.opening x (revived_but x g) w l)

-- ---- back

-- The rows are left as they are: at zero, after an open.
abbrev pub rows_left : Engine
rows_left = back_by (λ x g w l c. with_rows (ours.back x g w l c) l)

-- An accepted back leaves the rows that f gives, from what ours leaves.
abbrev pub back_rows : (Brought → Walk → Rows → ℕ → Rows → Rows) → Engine
back_rows f =
    back_by (λ x g w l c.
    by_answer (ours.back x g w l c) (with_rows (ours.back x g w l c) (f x w l c (ours.back x g w l c).rows)) (ours.back x g w l c))

-- One figure for all nodes.
abbrev pub one_figure : Engine
one_figure =
    back_rows (λ x w l c m.
    record {
      defaults = row_of x.sheet (λ j k. node_in x.sheet m.defaults 0 0);
      premiums = row_of x.sheet (λ j k. node_in x.sheet m.premiums 0 0);
    })

-- The first back walks to the root, later ones only lower the position.
abbrev pub root_at_once : Engine
root_at_once = back_rows (λ x w l c m. cond (eqb w.position x.sheet.steps) (rolls x w.position w.position l) l)

-- One step back by another rule of a node, and c of them.
unfoldable pub stepped_by : (ℕ → ℕ → ℕ → ℕ → ℕ) → Terms → (ℕ → Leg) → ℕ → List ℕ → List ℕ
stepped_by node x leg i row =
    row_of x (λ j k.
    node (hazard_of x (suc i) k) (discount_of x (suc i))
    (node_in x row j (suc k) + (leg j).rounded (suc i) k default)
    (node_in x row j k + (leg j).rounded (suc i) k survive))

unfoldable pub rolled_by : (ℕ → ℕ → ℕ → ℕ → ℕ) → Terms → (ℕ → Leg) → ℕ → ℕ → List ℕ → List ℕ
rolled_by node x leg i zero row = row
rolled_by node x leg i (suc c) row = stepped_by node x leg (i - suc c) (rolled_by node x leg i c row)

abbrev pub back_nodes : (ℕ → ℕ → ℕ → ℕ → ℕ) → Engine
back_nodes node =
    back_rows (λ x w l c m.
    record {
      defaults = rolled_by node x.sheet (default_of x.sheet) w.position c l.defaults;
      premiums = rolled_by node x.sheet (premium_of x.sheet) w.position c l.premiums;
    })

-- One rounding for chance and discount together.
abbrev pub one_rounding : Engine
one_rounding =
    back_nodes (λ hazard discount defaulted survived. (discount * (hazard * defaulted + (B - hazard) * survived) + B * B / 2) / (B * B))

-- Both roundings down.
abbrev pub rounded_down : Engine
rounded_down = back_nodes (λ hazard discount defaulted survived. discount * ((hazard * defaulted + (B - hazard) * survived) / B) / B)

-- A leg with other rounded cash.
abbrev pub paying : Leg → Cash → Leg
paying g cash = record { exactly = g.exactly; rounded = cash; halves = g.halves }

-- The premium legs with other cash.
abbrev pub back_premiums : (Terms → ℕ → Cash) → Engine
back_premiums cash =
    back_rows (λ x w l c m.
    record {
      defaults = m.defaults;
      premiums = rolled_back x.sheet (λ j. paying (premium_of x.sheet j) (cash x.sheet j)) w.position c l.premiums;
    })

-- Other cash of a premium date, and ours up to a default.
abbrev back_dates : (Terms → ℕ → Cash) → Engine
back_dates cash = back_premiums (λ x j s k m. cash x j s k m + elapsed_cash (elapsed_of x) (outstanding_of x j) s k m)

-- Premium paid on the count before the step.
abbrev pub count_before : Engine
count_before = back_dates (λ x j s k m. premium_payment (accrual_of x s) (outstanding_of x j k))

-- A premium payment rounded down.
abbrev pub premium_rounded_down : Engine
premium_rounded_down = back_dates (λ x j s k m. accrual_of x s * outstanding_of x j (count_after k m) / B)

-- Index outstanding taken as B - L(k).
abbrev pub index_by_loss : Engine
index_by_loss =
    back_premiums (λ x j.
    (premium_leg (accrual_of x) (elapsed_of x) (λ k. cond (leb x.tranches j) (B - pool_loss_of x k) (outstanding_of x j k))).rounded)

-- The position is made up: c below the last step, wherever the walk stands.
abbrev pub position_made_up : Engine
position_made_up =
    back_by (λ x g w l c. by_answer (ours.back x g w l c) (moved_to (ours.back x g w l c) (x.sheet.steps - c)) (ours.back x g w l c))

-- `out of steps` before a step is used: back by the whole position is refused.
abbrev pub step_early : Engine
step_early =
    back_by (λ x g w l c.
    by_answer (ours.back x g w l c)
    (cond (eqb c w.position) (record { said = refusal 13; walk = w; rows = l }) (ours.back x g w l c)) (ours.back x g w l c))

-- Back by 0 is refused.
abbrev pub zero_refused : Engine
zero_refused =
    back_by (λ x g w l c.
    by_answer (ours.back x g w l c)
    (cond (eqb c 0) (record { said = refusal 13; walk = w; rows = l }) (ours.back x g w l c)) (ours.back x g w l c))

-- A refused back moves the walk.
abbrev pub refused_moves : Engine
refused_moves =
    back_by (λ x g w l c.
    by_answer (ours.back x g w l c) (ours.back x g w l c)
    (with_said (moved_to (ours.back x g w l c) (w.position - c)) (ours.back x g w l c).said))

-- A back to the root closes the walk.
abbrev pub closed_at_root : Engine
closed_at_root =
    back_by (λ x g w l c.
    by_answer (ours.back x g w l c)
    (cond (eqb c w.position)
    (record { said = (ours.back x g w l c).said; walk = fresh; rows = (ours.back x g w l c).rows }) (ours.back x g w l c))
    (ours.back x g w l c))

-- ---- value

-- One figure for all nodes.
abbrev pub one_answer : Engine
one_answer =
    value_by (λ x g w l j k. by_answer (ours.value x g w l j k) (ours.value x g w l 0 0) (ours.value x g w l j k))

-- D and A of a node, and W by another rule.
abbrev pub value_nets : (Brought → ℕ → ℕ → ℕ → ℤ) → Engine
value_nets net =
    value_by (λ x g w l j k.
    by_answer (ours.value x g w l j k)
    (with_said (ours.value x g w l j k)
    (says (pos (node_in x.sheet l.defaults j k) ∷ pos (node_in x.sheet l.premiums j k)
    ∷ net x j (node_in x.sheet l.defaults j k) (node_in x.sheet l.premiums j k) ∷ [])))
    (ours.value x g w l j k))

-- W with the coupon of tranche 0.
abbrev pub first_coupon : Engine
first_coupon = value_nets (λ x j d a. net_value d (get_or x.coupons 0 0) a)

-- W without its sign.
abbrev pub net_unsigned : Engine
net_unsigned = value_nets (λ x j d a. pos (nat_abs (net_value d (get_or x.coupons j 0) a)))

-- An accepted value zeroes the rows lent to it.
abbrev pub value_zeroes : Engine
value_zeroes = value_by (λ x g w l j k. by_answer (ours.value x g w l j k) (with_rows (ours.value x g w l j k) (zeros x)) (ours.value x g w l j k))

-- A withdrawn number is still answered.
abbrev pub withdrawn_answered : Engine
withdrawn_answered = value_by (λ x g w l j k. ours.value x (revived x g) w l j k)

-- Only 00 is read as withdrawn.
abbrev pub value_zero_alone : Engine
value_zero_alone = value_by (λ x g w l j k. ours.value x (revived_but x g) w l j k)

-- A withdrawn number is said to be unissued.
abbrev pub withdrawn_unissued : Engine
withdrawn_unissued = value_by (λ x g w l j k. with_said (ours.value x g w l j k) (exchanged 9 10 (ours.value x g w l j k).said))

-- A refused value tells D and A beside its number.
abbrev pub refused_tells : Engine
refused_tells =
    value_by (λ x g w l j k.
    by_answer (ours.value x g w l j k) (ours.value x g w l j k)
    (with_said (ours.value x g w l j k)
    (record {
      number = (ours.value x g w l j k).said.number;
      values = pos (node_in x.sheet l.defaults j k) ∷ pos (node_in x.sheet l.premiums j k) ∷ [];
    })))

-- A walk that stands above the last step is taken for one that stands there.
abbrev pub walk_above : Engine
walk_above =
    value_by (λ x g w l j k.
    record {
      said = (ours.value x g (record { «open» = w.«open»; number = w.number; position = min w.position x.sheet.steps }) l j k).said;
      walk = w;
      rows = l;
    })

-- ---- hedge ratio

-- An accepted ratio by another rule.
abbrev pub ratio_of_rows : (Brought → Rows → ℕ → ℕ → ℤ) → Engine
ratio_of_rows f =
    ratio_by (λ x g w l j k.
    by_answer (ours.ratio x g w l j k) (with_said (ours.ratio x g w l j k) (says (f x l j k ∷ []))) (ours.ratio x g w l j k))

-- The index's jump over the tranche's.
abbrev pub upside_down : Engine
upside_down = ratio_of_rows (λ x l j k. ratio_of (jump x l x.sheet.tranches k) (jump x l j k))

abbrev pub sign_lost : Engine
sign_lost = ratio_of_rows (λ x l j k. pos (nat_abs (ratio_of (jump x l j k) (jump x l x.sheet.tranches k))))

-- The rest cut off, towards zero.
abbrev pub rest_cut : Engine
rest_cut =
    ratio_of_rows (λ x l j k.
    with_sign (unlike (negative (jump x l j k)) (negative (jump x l x.sheet.tranches k)))
    (nat_abs (jump x l j k) * 1_000_000 / nat_abs (jump x l x.sheet.tranches k)))

-- A half rounded upwards, also below zero.
abbrev upwards : Bool → ℕ → ℕ → ℤ
upwards true s d = with_sign true ((2 * (s * 1_000_000) + d - 1) / (2 * d))
upwards false s d = with_sign false (millionths s d)

abbrev pub half_upwards : Engine
half_upwards =
    ratio_of_rows (λ x l j k.
    upwards (unlike (negative (jump x l j k)) (negative (jump x l x.sheet.tranches k)))
    (nat_abs (jump x l j k)) (nat_abs (jump x l x.sheet.tranches k)))

-- Jumps without what the default itself pays.
abbrev unpaid : Node → Node
unpaid a = record { loss = 0; default = a.default; premium = a.premium }

abbrev unpaid_jump : Brought → Rows → ℕ → ℕ → ℤ
unpaid_jump x l j k = jump_of (get_or x.coupons j 0) (unpaid (node_of x.sheet l j k)) (unpaid (node_of x.sheet l j (suc k)))

abbrev pub payment_lost : Engine
payment_lost = ratio_of_rows (λ x l j k. ratio_of (unpaid_jump x l j k) (unpaid_jump x l x.sheet.tranches k))

-- 15 and 16 exchanged.
abbrev pub flat_for_scale : Engine
flat_for_scale = ratio_by (λ x g w l j k. with_said (ours.ratio x g w l j k) (exchanged 15 16 (ours.ratio x g w l j k).said))

-- A withdrawn number is still answered.
abbrev pub ratio_answered : Engine
ratio_answered = ratio_by (λ x g w l j k. ours.ratio x (revived x g) w l j k)

-- ---- forward

abbrev pub step_short : Engine
step_short = forward_by (λ x g q i. ours.forward x g q (i - 1))

-- Moves made in place from low k: c comes from the count below.
unfoldable pub moved_in_place : List ℕ → List ℕ → ℕ → List ℕ
moved_in_place [] h c = []
moved_in_place (q ∷ l) [] c = (q + c) ∷ moved_in_place l [] 0
moved_in_place (q ∷ l) (p ∷ h) c = (q + c - half ((q + c) * p)) ∷ moved_in_place l h (half ((q + c) * p))

unfoldable pub low_row : Terms → ℕ → List ℕ
low_row x zero = tab (x.names + 1) (λ k. cond (eqb k 0) B 0)
low_row x (suc i) = moved_in_place (low_row x i) x.hazards 0

abbrev pub in_place : Engine
in_place =
    forward_by (λ x g q i.
    cond (accepted (ours.forward x g q i).said) (record { said = says []; row = low_row x.sheet i }) (ours.forward x g q i))

-- A refused forward writes the row.
abbrev pub refused_writes : Engine
refused_writes = forward_by (λ x g q i. record { said = (ours.forward x g q i).said; row = distribution_row x.sheet i })

-- A withdrawn number is still answered.
abbrev pub forward_answered : Engine
forward_answered = forward_by (λ x g q i. ours.forward x (revived x g) q i)
