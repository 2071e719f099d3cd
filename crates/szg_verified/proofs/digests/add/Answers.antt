use Rattle.std.proofs.Common.{◌∙◌, ◌++◌, ℕ, List, ap}
use Rattle.szg_file.specs.Held.{file_bytes}
use Rattle.szg_verified.proofs.Hashed.{file_absent, file_there, taken}
use Rattle.szg_verified.proofs.digests.add.Goals as goal

pub returns-in-Some : goal.returns-in-Some
returns-in-Some c =
    taken _ c.args.hashing.now c.write.new.output c.write.result (file_bytes c.in-Some.table.now) c.write.ensures.ok c.write.ensures.failed
    ∙ ap (λ (bytes : List ℕ). c.args.hashing.now.taken.bytes ++ bytes) (file_there c.args.tables.now c.args.kind c.args.material.now c.in-Some.table.now c.in-Some.ensures)

pub returns-in_default : goal.returns-in_default
returns-in_default c = file_absent c.args.tables.now c.args.kind c.args.material.now c.args.hashing.now.taken.bytes c.in_default.ensures
