use Rattle.szg_archive.proofs.Hashing.{found_alone}
use Rattle.szg_archive.proofs.one.check_file.Goals as goal

pub returns : goal.returns
returns g c =
    rw c.undigested.ensures (found_alone g.F.Input c.args.has_digest c.args.due c.args.material.now c.args.kind c.args.file c.in_ok-verdict.field-0.input c.in_ok-verdict.field-0.verdict c.if-has_digest.false c.in_ok-verdict.ensures)
