use Rattle.szg_archive.proofs.Hashing.{same_hashed}
use Rattle.szg_archive.proofs.hashed.HashedInput.expect.Goals as goal

pub returns : goal.returns
returns g c = record { same = same_hashed _ c.args.self.now _ c.expect.ensures.same }
