use Rattle.std.proofs.Common.{ℕ, List, ◌++◌, length, sym, subst, ap, ◌∙◌, arith}
use Rattle.std.proofs.Math.Logic.{∥∥₁_map}
use Rattle.std.proofs.lemmas.List.{take_all}
use Rattle.sha2.specs.Hashers.{Holds256}
use Rattle.szg_verified.proofs.digests.HashingOutput.give.Goals as goal

pub invariant_of-self : goal.invariant_of-self
invariant_of-self c =
    let whole = take_all (length c.args.chunk.now) c.args.chunk.now (omega arith) in
    record {
      fed = ∥∥₁_map c.args.self.now.fed (λ taken. subst (Holds256 c.update.new.self) (sym (c.append-self.ensures ∙ ap (λ (xs : List ℕ). c.args.self.now.taken.bytes ++ xs) whole)) (c.update.ensures _ taken));
    }
