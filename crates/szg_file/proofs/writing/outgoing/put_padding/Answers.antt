use Rattle.std.proofs.Common.{ℕ, ◌+◌, ◌%◌, ◌^◌, ap}
use Rattle.szg_file.specs.Contents.{gap}
use Rattle.szg_file.proofs.Writers.WritingLaws.{writes_padding}
use Rattle.szg_file.proofs.writing.outgoing.put_padding.Goals as goal

pub returns : goal.returns
returns g c =
    writes_padding c.args.unit _ c.put_spare.result c.requires.whole
    (ap (λ (n : ℕ). gap c.args.unit ((c.args.outgoing.now.out + n) % 2 ^ 64)) c.len.ensures.value) c.put_spare.ensures
