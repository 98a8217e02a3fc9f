-- Parts of a list.
use Rattle.std.proofs.Common.{ℕ, ◌+◌, ◌-◌, ◌≡◌, ap, List, arith, take, drop}

-- A part of a length has it.
pub part_whole : (xs : List ℕ) (at n : ℕ) → take ((at + n) - at) (drop at xs) ≡ take n (drop at xs)
part_whole xs at n =
    let p : (at + n) - at ≡ n = omega arith in
    ap (λ (k : ℕ). take k (drop at xs)) p
