use Rattle.std.proofs.Common.{◌≡◌, ℕ, ap, ◌∙◌, subst, Some}
use Rattle.std.specs.Prelude.{slice_get}
use Rattle.szg_values.specs.declared.Kind.{Kind}
use Rattle.szg_block.specs.Views as block
use Rattle.szg_block.specs.Subtable.{packed_of, values_over}
use Rattle.szg_file.specs.Lookup.{byte_of}
use Rattle.szg_file.specs.Values.{subtable_at, constant_value}
use Rattle.szg_file.proofs.Tables.TableFinds.{value_at}
use Rattle.szg_file.proofs.Tables.StepsFound.{steps_at}
use Rattle.szg_file.proofs.table.Table.get_counted.Goals as goal

pub returns-clause-value : goal.returns-clause-value
returns-clause-value c =
    let kind : Kind = c.args.self.now.contents.kind in
    let kind_is : c.kind.result ≡ kind = c.kind.ensures in
    let sub = c.in-Some.found.sub.now in
    let size : ℕ = c.in-Some.found.size in
    let value : ℕ = c.in-Ok.counted.0 in
    let constant_is : c.constant_value-constant.result ≡ constant_value kind (byte_of sub) = c.constant_value-constant.ensures ∙ ap (λ (k : Kind). constant_value k (byte_of sub)) kind_is in
    let got = subst (λ (shown : block.Shown). slice_get (block.values_shown shown) c.args.i ≡ Some value) c.of-sound.ensures c.in-Ok.ensures.value in
    value_at (subtable_at c.args.self.now.contents c.args.part c.args.side) kind sub size c.args.i value c.in-Some.ensures.found
    (subst (λ (k : ℕ). slice_get (values_over sub (packed_of sub) size k) c.args.i ≡ Some value) constant_is got)

pub returns-clause-steps : goal.returns-clause-steps
returns-clause-steps c =
    steps_at (subtable_at c.args.self.now.contents c.args.part c.args.side) c.in-Some.found.sub.now c.in-Some.found.size c.args.i c.in-Ok.counted.1 c.in-Some.ensures.found
    (subst (λ (shown : block.Shown). c.in-Ok.counted.1 ≡ block.steps_shown shown c.args.i) c.of-sound.ensures c.in-Ok.ensures.steps)
