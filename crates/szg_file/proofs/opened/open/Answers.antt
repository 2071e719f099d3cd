use Rattle.std.proofs.Common.{◌≡◌, ℕ, List, map, option_map, refl, sym, ap, subst, ◌∙◌, drop, take, Some, Option, IsSome}
use Rattle.szg_values.specs.declared.Kind.{Kind}
use Rattle.szg_values.specs.Material.{Sides}
use Rattle.szg_block.specs.Paging.{buffer_len_of, source_of}
use Rattle.szg_file.specs.Contents.{Contents, Slot}
use Rattle.szg_file.specs.File.{file, flags_of}
use Rattle.szg_file.specs.Format.{verdict}
use Rattle.szg_file.specs.Forward.{Forward}
use Rattle.szg_file.specs.Held.{part_of, subtable_of, map_of}
use Rattle.szg_file.specs.Index.{Index, IsIndex, index_with, slots_in}
use Rattle.szg_file.specs.Opened.{IsOpenRefusal, IsOpened}
use Rattle.szg_file.specs.Outline.{outlined}
use Rattle.szg_file.specs.declared.reading.dropping.PlacedSub.{PlacedSub}
use Rattle.szg_file.specs.declared.reading.Outline.{Outline}
use Rattle.szg_file.specs.declared.opened.OpenFault.{OpenFault}
use Rattle.szg_file.proofs.Openings.OpenedLaws.{forward_kept, opened_by, refusal_follows}
use Rattle.szg_file.proofs.Openings.OutlinedLaws.{outline_index, outlined_index, outlined_by}
use Rattle.szg_file.proofs.Readers.KeptReads.{whole_reading}
use Rattle.szg_file.proofs.opened.open.Goals as goal

pub index_of_placed-index-requires-clause-is_valid : goal.index_of_placed-index-requires-clause-is_valid
index_of_placed-index-requires-clause-is_valid g c =
    let m : Sides = c.args.material in
    let k : Kind = c.args.kind in
    let o : Outline = c.in-Ok.outline in
    let old : Forward = c.new-input.result in
    let new : Forward = c.read_outline.new.input in
    let h = whole_reading (file c.args.material c.args.kind) (outlined c.args.material c.args.kind (take c.read_outline.new.input.place c.read_outline.new.input.content)) c.in-Ok.outline c.in-Ok.ensures.outline in
    let is_valid = outlined_index m k o c.new-state.result c.read_outline.new.state old.place new.place old.content new.content h.bytes c.new-state.ensures.place c.new-state.ensures.fill h.answer.0 in
    subst (λ (l : List PlacedSub). IsIndex (index_with m k (map part_of o.parts.bytes.items) (map (λ held. flags_of (subtable_of held.sub)) l) (map (option_map map_of) o.maps.items))) (sym c.deref.ensures.value) is_valid

pub invariant_of-result : goal.invariant_of-result
invariant_of-result g c =
    let m : Sides = c.args.material in
    let k : Kind = c.args.kind in
    let o : Outline = c.in-Ok.outline in
    let old : Forward = c.new-input.result in
    let new : Forward = c.read_outline.new.input in
    let h = whole_reading (file c.args.material c.args.kind) (outlined c.args.material c.args.kind (take c.read_outline.new.input.place c.read_outline.new.input.content)) c.in-Ok.outline c.in-Ok.ensures.outline in
    let content = g.S.Source.content (source_of c.new.result) in
    let same = ap (g.S.Source.content) c.new.ensures.source ∙ c.into_source.ensures.content in
    let is : c.index_of_placed-index.result ≡ outline_index m k o =
    c.index_of_placed-index.ensures ∙ ap (λ (l : List PlacedSub). index_with m k (map part_of o.parts.bytes.items) (map (λ held. flags_of (subtable_of held.sub)) l) (map (option_map map_of) o.maps.items)) c.deref.ensures.value in
    let opened = opened_by m k o c.new-state.result c.read_outline.new.state old.place new.place old.content new.content h.bytes content _ (buffer_len_of c.new.result)
    c.new-state.ensures.place c.new-state.ensures.fill c.new-input.ensures.place h.taken.bytes_moved h.answer.0 c.in-Ok.ensures.slots c.in-Ok.ensures.fits same c.new.ensures.buffer_len in (
      subst (λ (x : Index). IsOpened x.material x.kind content (buffer_len_of c.new.result) (slots_in x) o.subs.items) (sym is)
          (subst (λ (l : List Slot). IsOpened m k content (buffer_len_of c.new.result) l o.subs.items) c.in-Ok.ensures.slots opened),
      outlined_by m k o c.new-state.result c.read_outline.new.state old.place new.place old.content new.content h.bytes content c.index_of_placed-index.result
          c.new-state.ensures.place c.new-state.ensures.fill c.new-input.ensures.place h.taken.bytes_moved h.answer.0 same is,
    )

pub returns-in-Ok-clause-table : goal.returns-in-Ok-clause-table
returns-in-Ok-clause-table g c =
    let old : Forward = c.new-input.result in
    let new : Forward = c.read_outline.new.input in
    let content : List ℕ = g.S.Source.content c.args.source in
    let h = whole_reading (file c.args.material c.args.kind) (outlined c.args.material c.args.kind (take c.read_outline.new.input.place c.read_outline.new.input.content)) c.in-Ok.outline c.in-Ok.ensures.outline in
    let kept : new.content ≡ old.content = forward_kept old.place new.place old.content new.content h.bytes c.new-input.ensures.place h.taken.bytes_gone h.taken.bytes_moved in
    let opened = opened_by c.args.material c.args.kind c.in-Ok.outline c.new-state.result c.read_outline.new.state old.place new.place old.content new.content h.bytes
    content _ _ c.new-state.ensures.place c.new-state.ensures.fill c.new-input.ensures.place h.taken.bytes_moved h.answer.0 c.in-Ok.ensures.slots c.in-Ok.ensures.fits
    (sym c.new-input.ensures.content ∙ sym kept) refl in
    subst (λ (o : Option Contents). IsSome o) (sym opened.there) refl

pub returns-clause-refused : goal.returns-clause-refused
returns-clause-refused g c =
    let m : Sides = c.args.material in
    let k : Kind = c.args.kind in
    let old : Forward = c.new-input.result in
    let content : List ℕ = g.S.Source.content c.args.source in
    let stated : Some (drop old.place old.content) ≡ Some content = ap (λ (n : ℕ). Some (drop n old.content)) c.new-input.ensures.place ∙ ap (λ (z : List ℕ). Some z) c.new-input.ensures.content in
    subst (λ (e : OpenFault). IsOpenRefusal (verdict (file m k) 0 content) e) (sym c.open_fault.ensures)
    (refusal_follows (file m k) (λ (t : Contents). t) c.in-Err.fault content c.new-state.ensures.place stated c.in-Err.ensures.outline)
