-- `lines::put_bytes` meets its contract.
use Rattle.std.proofs.Common.{ℕ, ◌+◌, length, List, ◌++◌, drop, take, sym, refl, ap, ◌∙◌, arith}
use Rattle.std.proofs.lemmas.List.Edits.{sets-eq}
use Rattle.std.proofs.lemmas.Slice.{put_mid-paste}
use Rattle.std.proofs.Math.Seq.{take_all}
use Rattle.lines.proofs.put_bytes.Goals as goal

pub returns : goal.returns
returns c =
    let out = c.args.out.now in
    let at = c.args.at in
    let text = c.args.text.now in
    let n = length text in
    record {
      bytes =
          put_mid-paste at _ out _ text n c.copy_from_slice.ensures.after (omega arith) refl
          ∙ ap (λ (l : List ℕ). take at out ++ l ++ drop (at + n) out) (take_all n text (omega arith))
          ∙ sym (sets-eq text out at (omega arith));
      stop = refl;
    }
