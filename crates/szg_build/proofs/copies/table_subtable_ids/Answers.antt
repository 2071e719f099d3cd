use Rattle.std.proofs.Common.{ℕ, map, ap, sym, ◌∙◌}
use Rattle.szg_file.specs.Values.{subtable_at}
use Rattle.szg_build.specs.Dump.{subtable_ids_of}
use Rattle.szg_build.proofs.Builders.PlaceLaws.{places_are_valid}
use Rattle.szg_build.proofs.copies.table_subtable_ids.Goals as goal

pub returns : goal.returns
returns c =
    let t = c.args.table.now.contents in
    let same = c.places.ensures.places ∙ ap (λ m. subtable_ids_of m c.kind.result) c.material.ensures ∙ ap (λ k. subtable_ids_of t.material k) c.kind.ensures in
    places_are_valid t c.args.table.now.filled c.table_fits.ensures ∙ ap (map (λ (place : ℕ × ℕ). subtable_at t place.0 place.1)) (sym same)
