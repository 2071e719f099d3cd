use Rattle.std.proofs.Common.{◌≡◌, ◌∙◌, ℕ, List, length, ap, sym, refl, arith, Option}
use Rattle.szg_values.specs.declared.Kind.{Kind}
use Rattle.szg_values.specs.declared.Kind.TheVariants.{Wdl, Dtz}
use Rattle.szg_values.specs.Material.{Sides}
use Rattle.szg_file.specs.Contents.{Map, Slot}
use Rattle.szg_file.specs.Index.{slots_in}
use Rattle.szg_build.specs.Dump.{subtable_ids_of}
use Rattle.szg_build.specs.Streaming.{heads_of, heads_with}
use Rattle.szg_build.proofs.Writers.StreamLaws.{heads_count}
use Rattle.szg_build.proofs.writing.streaming.count_subs.Goals as goal

-- an index has flags for each slot, and in DTZ an item among the maps
counted : (kind : Kind) (slots : List Slot) (flags : List ℕ) (maps : List (Option Map)) → length flags ≡ length slots → (kind ≡ Dtz → length maps ≡ length flags) → length (heads_with kind slots flags maps) ≡ length flags
counted Wdl slots flags maps flagged mapped = heads_count Wdl slots flags maps ∙ sym flagged
counted Dtz slots flags maps flagged mapped = omega (arith, heads_count Dtz slots flags maps, flagged, mapped refl)

pub returns : goal.returns
returns c =
    let x = c.args.index.now in
    let heads : length (heads_of x) ≡ length x.flags = counted x.kind (slots_in x) x.flags x.maps c.flags.ensures.is_valid.flags_many c.flags.ensures.is_valid.maps_many in
    let places : c.places-places.result.now ≡ subtable_ids_of x.material x.kind =
    c.places-places.ensures.places ∙ ap (λ (m : Sides). subtable_ids_of m c.kind.result) c.material.ensures ∙ ap (λ (k : Kind). subtable_ids_of x.material k) c.kind.ensures in
    omega (arith, c.min.ensures, heads, ap length c.flags.ensures.flags, ap length places)
