use Rattle.std.proofs.Math.Logic.{∥∥₁_elim}
use denote.Struct.Props.{props}
use Rattle.szg_archive.proofs.hashed.Hashed+F+Sha256.digest.Goals as goal

-- the hasher has taken the bytes that were read
pub returns : goal.returns
returns g c = ∥∥₁_elim c.args.self.fed (search props) (λ taken. c.finalize.ensures _ taken)
