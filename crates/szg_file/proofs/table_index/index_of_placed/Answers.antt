use Rattle.std.proofs.Common.{◌∙◌, ℕ, List, ap, map, option_map, arith}
use Rattle.std.proofs.lemmas.List.{take_all}
use Rattle.szg_file.specs.declared.reading.dropping.PlacedSub.{PlacedSub}
use Rattle.szg_file.specs.File.{flags_of}
use Rattle.szg_file.specs.Held.{part_of, map_of, subtable_of}
use Rattle.szg_file.specs.Index.{index_with}
use Rattle.szg_file.proofs.table_index.index_of_placed.Goals as goal

pub returns : goal.returns
returns c =
    c.new.ensures ∙ ap (λ (flags : List ℕ). index_with c.args.material c.args.kind (map part_of c.args.parts.bytes.items) flags (map (option_map map_of) c.args.maps.items))
    (c.loop-placed.invariant ∙ ap (map (λ (placed : PlacedSub). flags_of (subtable_of placed.sub))) (take_all c.loop-placed.placed-index c.args.subs.now (omega (arith, c.loop-placed-test.false))))
