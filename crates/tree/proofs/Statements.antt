-- The statements of specs/Statements.antt, proved.
use Rattle.std.proofs.Common.{ℕ, suc, ◌*◌, ◌≤◌, zero-le, le_of_eq, ◌≡◌, refl, sym, ◌∙◌, ap, subst, arith}
use Rattle.cash.proofs.Nearness.{near_as, near_halve}
use Rattle.cash.proofs.Sums.{sum_times}
use Rattle.tree.specs.Paths.{Tree, Fair}
use Rattle.tree.specs.Backward.{Leg, back_from, back, leg_value, leg_halves}
use Rattle.sheet.specs.Terms.{Terms}
use Rattle.tree.specs.Sheet.{hazard_of, discount_of, loss_of, accrual_of, elapsed_of, outstanding_of, tree_of, default_of, premium_of, D, A, exact_d, exact_a, dates, elapsed_count, premium_halves, WholePool, spanning}
use Rattle.tree.specs.DatesOnly.{dates_only}
use Rattle.tree.proofs.DatesOnly.{by_dates}
use Rattle.tree.proofs.Legs.{taken_off}
use Rattle.sheet.specs.Limits.{TermsWithin}
use Rattle.tree.specs.Statements.{Certain, Distance, IndexPremiums, Additive, Ceilings, Jumps, DistributionBounds}
use Rattle.tree.proofs.PathSums.{total_chance}
use Rattle.tree.proofs.Distances.{leg_distance}
use Rattle.tree.proofs.Additions.{Spans, legs_exact, legs_add, legs_alike}
use Rattle.tree.proofs.Jumps.{default_jump, premium_jump}
use Rattle.tree.proofs.Sheets.{fair_of, outstanding_less, default_agrees_of, premium_agrees_of, default_halves_of, premium_halves_of, defaults_spanned, premiums_spanned, outstandings_index, premiums_of_index, default_keeps, premium_keeps}
use Rattle.tree.proofs.Forward.{distribution_total, distribution_errors}

pub certain : (t : Tree) → Fair t → Certain t
certain t fair = total_chance t fair

pub distance : (x : Terms) → TermsWithin x → Distance x
unfolding D A exact_d exact_a tree_of
distance x w =
    record {
      default =
          λ j h i k l. near_halve (near_as (leg_distance (tree_of x) (fair_of x w) (default_of x j) (default_agrees_of x j) h i k l) (rw (default_halves_of x j h i) (omega arith)) refl refl);
      premium =
          λ j h i k l. near_as (leg_distance (tree_of x) (fair_of x w) (premium_of x j) (premium_agrees_of x j) h i k l) (rw (premium_halves_of x j h i) (omega arith)) refl refl;
    }

index_premiums : (x : Terms) → TermsWithin x → WholePool x → IndexPremiums x
unfolding A exact_a tree_of
index_premiums x w p =
    record {
      dates = λ s k. sum_times (accrual_of x s) x.tranches (λ j. outstanding_of x j k) ∙ ap (λ y. accrual_of x s * y) (outstandings_index x w.tranches p k);
      elapsed = λ s k. taken_off x.tranches (elapsed_of x s) (outstanding_of x) (outstanding_of x x.tranches) k (outstandings_index x w.tranches p) (outstanding_less x w.tranches);
      exact = legs_exact (tree_of x) x.tranches (premium_of x) (premium_of x x.tranches) adds;
      computed =
          λ h i k l. near_as
          (legs_add (tree_of x) (fair_of x w) x.tranches (premium_of x) (premium_of x x.tranches) (premium_agrees_of x) (premium_agrees_of x x.tranches) adds h i k l)
          (le_of_eq (legs_alike x.tranches (premium_halves x h i) (premium_of x) (premium_of x x.tranches) h i (λ j below. premium_halves_of x j h i) (premium_halves_of x x.tranches h i)))
          refl refl;
    }
  where
    adds : Spans x.tranches (premium_of x) (premium_of x x.tranches)
    adds = premiums_of_index x w.tranches p

pub additive : (x : Terms) → TermsWithin x → Additive x
unfolding D A exact_d exact_a spanning tree_of hazard_of discount_of
additive x w =
    record {
      default_exact = legs_exact (tree_of x) x.tranches (default_of x) (default_of (spanning x) 0) (defaults_spanned x w.tranches);
      premium_exact = legs_exact (tree_of x) x.tranches (premium_of x) (premium_of (spanning x) 0) (premiums_spanned x w.tranches);
      default =
          λ h i k l. near_halve (near_as
          (legs_add (tree_of x) (fair_of x w) x.tranches (default_of x) (default_of (spanning x) 0) (default_agrees_of x) (default_agrees_of (spanning x) 0) (defaults_spanned x w.tranches) h i k l)
          (omega (arith, legs_alike x.tranches (2 * h) (default_of x) (default_of (spanning x) 0) h i (λ j below. default_halves_of x j h i) (default_halves_of (spanning x) 0 h i)))
          refl refl);
      premium =
          λ h i k l. near_as
          (legs_add (tree_of x) (fair_of x w) x.tranches (premium_of x) (premium_of (spanning x) 0) (premium_agrees_of x) (premium_agrees_of (spanning x) 0) (premiums_spanned x w.tranches) h i k l)
          (le_of_eq (legs_alike x.tranches (premium_halves x h i) (premium_of x) (premium_of (spanning x) 0) h i (λ j below. premium_halves_of x j h i) (same_halves h i)))
          refl refl;
      index = index_premiums x w;
    }
  where
    same_halves : (h i : ℕ) → leg_halves (premium_of (spanning x) 0) h i ≡ premium_halves x h i
    same_halves h i = unfold premium_halves dates accrual_of elapsed_count elapsed_of in premium_halves_of (spanning x) 0 h i

pub ceilings : (x : Terms) → TermsWithin x → Ceilings x
unfolding D A leg_value back
ceilings x w =
    record {
      default = λ j h i k e l. default_keeps x w j (λ k. 0) (λ k l. zero-le) h i k l;
      premium = premium_keeps x w;
    }

pub jumps : (x : Terms) → TermsWithin x → Jumps x
unfolding D A leg_value back tree_of default_of dates_only
jumps x w =
    record {
      default = λ j. default_jump (tree_of x) (fair_of x w) (loss_of x j) (λ k. 0) (λ k l. zero-le);
      premium = λ none j h i k l.
          subst (λ (g : Leg). back_from (tree_of x) g.rounded (λ k. 0) h i (suc k) ≤ back_from (tree_of x) g.rounded (λ k. 0) h i k) (sym (by_dates x none j))
          (premium_jump (tree_of x) (fair_of x w) (accrual_of x) (outstanding_of x j) (λ k. 0) (outstanding_less x w.tranches j) (λ k l. zero-le) h i k l);
    }

pub distribution_bounds : (x : Terms) → TermsWithin x → DistributionBounds x
unfolding tree_of
distribution_bounds x w =
    record {
      whole = distribution_total (tree_of x) (fair_of x w);
      error = distribution_errors (tree_of x) (fair_of x w);
    }
