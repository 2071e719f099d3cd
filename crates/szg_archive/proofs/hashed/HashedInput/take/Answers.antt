use Rattle.std.proofs.Common.{sym, subst}
use Rattle.std.proofs.Math.Logic.{∥∥₁_map}
use Rattle.szg_archive.proofs.hashed.HashedInput.take.Goals as goal

-- the bytes that were read are those that the hasher has taken
pub invariant_of-self : goal.invariant_of-self
invariant_of-self g c = record {
  fed = ∥∥₁_map c.args.self.now.fed (λ taken. subst (g.H.Hasher.has_taken c.feed.new.self) (sym c.in-Ok.ensures.moved) (c.feed.ensures _ taken));
}
