use Rattle.std.proofs.Common.{◌≡◌, List, ℕ, Some, true, false, subst}
use Rattle.szg_values.specs.declared.Kind.{Kind}
use Rattle.szg_values.specs.Material.{Sides}
use Rattle.szg_file.specs.Format.{verdict}
use Rattle.szg_file.specs.File.{file}
use Rattle.szg_file.specs.WholeRead.{FollowsVerdict}
use Rattle.szg_file.proofs.Readers.ReadAnswers.{in_memory}
use Rattle.szg_file.proofs.reading.read_bytes.Goals as goal

pub returns : goal.returns
returns c =
    let m : Sides = c.args.material in
    let k : Kind = c.args.kind in
    in_memory (verdict (file m k) 0 c.args.bytes.now) c.read.result (Some c.read.new.input.left.now)
    (subst (λ (z : List ℕ). FollowsVerdict (verdict (file m k) 0 z) c.read.result (Some c.read.new.input.left.now)) c.new-input.ensures.left c.read.ensures.verdict)
    (λ e. let never : false ≡ true = c.read.ensures.may_fail e in cc)
