use Rattle.std.proofs.Math.Logic.{∥∥₁_elim}
use denote.Struct.Props.{props}
use Rattle.szg_verified.proofs.digests.Hashing.digest.Goals as goal

-- the hasher has taken the bytes that were written
pub returns : goal.returns
returns c = ∥∥₁_elim c.args.self.fed (search props) (λ taken. c.finalize.ensures _ taken)
