-- What a withdraw that was accepted promises of the register that it leaves.
use Rattle.std.proofs.Common.{◌≡◌, sym, ◌∙◌, ap, subst, true, List, ℕ, set, length-set}
use Rattle.std.specs.declared.result.Result.TheVariants.{Ok}
use Rattle.register.specs.Register.{withdraw, answer_of, is_accepted}
use Rattle.register.specs.Events.{Lasts}
use Rattle.register.proofs.Cuts.{accepts}
use Rattle.register.proofs.Forever.{Zero, set_zero, keeps_all, gone}

pub lasts : (register : List ℕ) (x : ℕ) {l : List ℕ} → Ok tt ≡ answer_of withdraw register x → l ≡ set register x 0x00 → Lasts l x
lasts register x e k es h =
    let t : is_accepted (answer_of withdraw register x) ≡ true = sym (ap is_accepted e) in
    let left : Zero (set register x 0x00) x =
    record { size = length-set register x 0x00 ∙ (accepts withdraw register x t).0; byte = set_zero register x } in
    gone (keeps_all (subst (λ (l : List ℕ). Zero l x) (sym k) left) es h)
