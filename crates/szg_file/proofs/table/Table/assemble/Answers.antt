use Rattle.std.proofs.Common.{List, map, sym, subst}
use Rattle.szg_block.specs.declared.Sub.{Sub}
use Rattle.szg_file.specs.Assembled.{fields_shown}
use Rattle.szg_file.specs.Contents.{Contents}
use Rattle.szg_file.specs.File.{flags_of}
use Rattle.szg_file.specs.Held.{subtable_of}
use Rattle.szg_file.specs.Index.{IsIndex, index_with}
use Rattle.szg_file.proofs.Tables.IndexLaws.{accepted_index}
use Rattle.szg_file.proofs.table.Table.assemble.Goals as goal

pub index_of_subs-index-requires-clause-is_valid : goal.index_of_subs-index-requires-clause-is_valid
index_of_subs-index-requires-clause-is_valid c =
    let t : Contents = (fields_shown c.args.fields).contents in
    subst (λ (l : List Sub). IsIndex (index_with t.material t.kind t.parts (map flags_of (map subtable_of l)) t.maps)) (sym c.deref-2.ensures.value) (accepted_index t c.args.fields.fill.items c.requires)
