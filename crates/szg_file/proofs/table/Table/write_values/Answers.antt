use Rattle.std.proofs.Common.{◌≡◌, ℕ, ap, ◌∙◌, sym}
use Rattle.szg_values.specs.declared.Kind.{Kind}
use Rattle.szg_block.specs.Views as block
use Rattle.szg_block.specs.Subtable.{packed_of, values_over}
use Rattle.szg_file.specs.Lookup.{byte_of}
use Rattle.szg_file.specs.Values.{subtable_at, constant_value}
use Rattle.szg_file.proofs.Tables.TableFinds.{values_at, size_found}
use Rattle.szg_file.proofs.table.Table.write_values.Goals as goal

pub write_values-requires : goal.write_values-requires
write_values-requires c = size_found (subtable_at c.args.self.now.contents c.args.part c.args.side) c.in-Some.found.sub.now c.in-Some.found.size c.args.values.now c.in-Some.ensures.found c.requires.number
    ∙ sym (ap (λ (s : block.Shown). s.size) c.of.ensures)

pub returns : goal.returns
returns c =
    let kind : Kind = c.args.self.now.contents.kind in
    let kind_is : c.kind.result ≡ kind = c.kind.ensures in
    let sub = c.in-Some.found.sub.now in
    let size : ℕ = c.in-Some.found.size in
    let constant_is : c.constant_value-constant.result ≡ constant_value kind (byte_of sub) = c.constant_value-constant.ensures ∙ ap (λ (k : Kind). constant_value k (byte_of sub)) kind_is in
    values_at (subtable_at c.args.self.now.contents c.args.part c.args.side) kind sub size c.write_values.new.values c.in-Some.ensures.found
    (c.write_values.ensures ∙ ap block.values_shown c.of.ensures ∙ ap (λ (k : ℕ). values_over sub (packed_of sub) size k) constant_is)
