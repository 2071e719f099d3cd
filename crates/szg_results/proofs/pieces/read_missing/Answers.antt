use Rattle.std.proofs.Common.{string_bytes}
use Rattle.szg_results.proofs.Kept.{read_is}
use Rattle.szg_results.proofs.pieces.read_missing.Goals as goal

pub returns-in_ok-read_from-in-Some-clause-table : goal.returns-in_ok-read_from-in-Some-clause-table
returns-in_ok-read_from-in-Some-clause-table g c =
    read_is (g.S.FileSystem.content c.args.system.now) _ c.args.missing.now.material c.args.missing.now.kind c.in_ok-read_from-in-Some.field-0 (string_bytes c.in-Some.found.path) _
    (rw (c.in-Some.is) at c.in_ok-found.ensures.first) (rw (c.in-Some.is) at c.in_ok-found.ensures.coming) c.in_ok-read_from-in-Some.ensures.table c.in_ok-read_from-in-Some.ensures.there
