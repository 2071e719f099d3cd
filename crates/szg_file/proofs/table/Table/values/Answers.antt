use Rattle.std.proofs.Common.{◌≡◌, ℕ, ap, ◌∙◌}
use Rattle.std.proofs.lemmas.Result.{IfOk-weaker}
use Rattle.szg_values.specs.declared.Kind.{Kind}
use Rattle.szg_block.specs.Views as block
use Rattle.szg_block.specs.Subtable.{packed_of, values_over}
use Rattle.szg_file.specs.Lookup.{byte_of}
use Rattle.szg_file.specs.Values.{subtable_at, constant_value}
use Rattle.szg_file.proofs.Tables.TableFinds.{values_at}
use Rattle.szg_file.proofs.table.Table.values.Goals as goal

pub returns : goal.returns
returns c =
    let kind : Kind = c.args.self.now.contents.kind in
    let kind_is : c.kind.result ≡ kind = c.kind.ensures in
    let sub = c.in-Some.found.sub.now in
    let size : ℕ = c.in-Some.found.size in
    let constant_is : c.constant_value-constant.result ≡ constant_value kind (byte_of sub) = c.constant_value-constant.ensures ∙ ap (λ (k : Kind). constant_value k (byte_of sub)) kind_is in
    IfOk-weaker c.values.result _ _
    (λ values stated.
    values_at (subtable_at c.args.self.now.contents c.args.part c.args.side) kind sub size values.items c.in-Some.ensures.found
    (stated ∙ ap block.values_shown c.of.ensures ∙ ap (λ (k : ℕ). values_over sub (packed_of sub) size k) constant_is))
    c.values.ensures
