-- Multiples of a number divided one after the other, with the remainder kept.
use Rattle.std.proofs.Common.{ℕ, ◌+◌, ◌-◌, ◌*◌, ◌/◌, ◌%◌, ◌≤◌, ◌<◌, ◌≡◌, ap, sym, ◌∙◌, div-add-mod', mod-lt, mul-le-mul, mul-le-mul_left}
use Rattle.std.proofs.Common.{mul-le-mul_right, div-le_self, arith}
use native.Mathlib.Decide.{dec_lt}
use lib.Arith.{digits_div}

-- k times y, divided by n.
pub record Shared (y n k loss rest : ℕ) : Type 0 where
  pub sums : loss * n + rest ≡ k * y
  pub less : rest < n

pub shared_is : {y n k loss rest : ℕ} → Shared y n k loss rest → loss ≡ k * y / n
shared_is {y} {n} {k} {loss} s = sym (digits_div loss s.less) ∙ ap (λ z. z / n) s.sums

pub shared_most : {y n k loss rest : ℕ} → Shared y n k loss rest → loss ≤ k * y
shared_most {y} {n} {k} {loss} s =
    let one : loss * 1 ≤ loss * n = mul-le-mul_left loss (omega (arith, s.less)) in
    omega (arith, s.sums)

-- small enough to go on, for the counts of a sheet
pub shared_fits : {y n k loss rest : ℕ} → Shared y n k loss rest → k ≤ 126 → y ≤ 1_000_000_000 → loss + y / n ≤ 127_000_000_000
shared_fits {y} {n} {k} s h q =
    let most : k * y ≤ 126 * 1_000_000_000 = mul-le-mul {n₁ = k} {m₁ = y} {n₂ = 126} {m₂ = 1_000_000_000} h q in
    omega (arith, shared_most s, div-le_self y n)

-- what one more brings, and what the remainder then carries over
module _ {y n k loss rest : ℕ} (s : Shared y n k loss rest) (whole part more : ℕ) (whole_is : whole ≡ y / n) (part_is : part ≡ y % n) (more_is : more ≡ (rest + part) / n) where
  positive : 0 < n
  positive = omega (arith, s.less)

  y_is : whole * n + part ≡ y
  y_is = rw (whole_is, part_is) (div-add-mod' y n)

  pub part_less : part < n
  part_less = rw part_is (mod-lt y positive)

  rest_is : more * n + (rest + part) % n ≡ rest + part
  rest_is = rw more_is (div-add-mod' (rest + part) n)

  pub carried_most : more * n ≤ rest + part
  carried_most = omega (arith, rest_is)

  pub more_most : more ≤ 1
  more_most = small (dec_lt 1 more)
    where
      small : Dec (1 < more) → more ≤ 1
      small (yes h) = let two : 2 * n ≤ more * n = mul-le-mul_right n h in absurd (omega (arith, carried_most, part_less, s.less))
      small (no h) = omega arith

  pub shared_more : Shared y n (k + 1) (loss + (whole + more)) (rest + part - more * n)
  shared_more =
      let left : rest + part - more * n ≡ (rest + part) % n = omega (arith, rest_is) in
      record {
        sums = omega (arith, rest_is, y_is, s.sums, left);
        less = omega (arith, left, mod-lt (rest + part) positive);
      }
