use Rattle.std.proofs.Common.{◌≡◌, ℕ, ◌∙◌, ap, arith, length, map, option_map, List, Ok, Err, refl}
use Rattle.std.proofs.lemmas.Result.{err_from_is_err_and}
use Rattle.szg_values.specs.declared.Kind.{Kind}
use Rattle.szg_values.specs.Material.{Sides}
use Rattle.szg_file.specs.Contents.{Part, Slot, Subtable, slots, part_numbers}
use Rattle.szg_file.specs.File.{Begun, begun, each, part_field, filled_to, head_field, maps_field, sparse_field, lengths_field}
use Rattle.szg_file.specs.FilePieces.{Opened, opening_field, measured_field}
use Rattle.szg_file.specs.Format.{Format, means, ◌>>=◌}
use Rattle.szg_file.specs.Held.{part_of, map_of}
use Rattle.szg_file.specs.Reading.{start_field}
use Rattle.szg_file.specs.Unread.{FrontRead}
use Rattle.szg_file.specs.Values.{slotted}
use Rattle.szg_file.proofs.Grammar.EachLaws.{then-then}
use Rattle.szg_file.proofs.Openings.FrontLaws.{after_opening}
use Rattle.szg_file.proofs.Readers.ReadingLaws.{reads_then, reads_stopped, reads_nothing}
use Rattle.szg_file.proofs.Readers.StreamedTables.{slot_of, slotted_begun}
use Rattle.szg_file.proofs.Readers.Taken.{reads_equal}
use Rattle.szg_file.proofs.Readers.WholeReads.{after_start, after_parts, after_gap, after_heads, opening_read}
use Rattle.szg_file.proofs.reading.read_front.Goals as goal

-- the contents of a front whose sparse indexes and block lengths were read
abbrev made : Opened → List Begun → Format FrontRead
made o measured = means (record { byte4 = o.byte4; parts = o.parts; maps = o.maps; measured = measured })

-- what follows the opening: the sparse indexes and block lengths
steps : (m : Sides) (k : Kind) (o : Opened) → measured_field (begun (slots m k o.parts) o.heads) >>= made o ≡ after_opening m k o
steps m k o = then-then (each sparse_field (begun (slots m k o.parts) o.heads)) (each lengths_field) (made o)

pub returns-in_err-byte4-clause-front : goal.returns-in_err-byte4-clause-front
returns-in_err-byte4-clause-front g c =
    let m : Sides = c.args.material.now in
    let k : Kind = c.args.kind in
    let p = err_from_is_err_and c.from_residual.result c.from_residual.ensures.1 in
    rw (p.1, p.2)
    (reads_stopped (opening_field m k) (after_opening m k) (λ (o : Opened). o) (λ (f : FrontRead). f) c.in_err-byte4.field-0.0
    (reads_stopped (start_field m k) (after_start m k) (λ b. b) (λ (o : Opened). o) c.in_err-byte4.field-0.0 c.in_err-byte4.ensures.start))

pub returns-in_err-parts-clause-front : goal.returns-in_err-parts-clause-front
returns-in_err-parts-clause-front g c =
    let m : Sides = c.args.material.now in
    let k : Kind = c.args.kind in
    let byte : ℕ = c.in_ok-byte4.byte4 in
    let p = err_from_is_err_and c.from_residual-in_err-parts.result c.from_residual-in_err-parts.ensures.1 in
    rw (p.1, p.2)
    (reads_stopped (opening_field m k) (after_opening m k) (λ (o : Opened). o) (λ (f : FrontRead). f) c.in_err-parts.field-0.0
    (reads_then (start_field m k) (after_start m k) (λ b. b) (λ (o : Opened). o) byte c.in_ok-byte4.ensures.start
    (reads_stopped (each (λ _. part_field m k) (part_numbers m)) (after_parts m k byte) (λ parts. map part_of parts.bytes.items) (λ (o : Opened). o) c.in_err-parts.field-0.0 c.in_err-parts.ensures.parts)))

pub returns-in_err-take_fill-clause-front : goal.returns-in_err-take_fill-clause-front
returns-in_err-take_fill-clause-front g c =
    let m : Sides = c.args.material.now in
    let k : Kind = c.args.kind in
    let byte : ℕ = c.in_ok-byte4.byte4 in
    let parts : List Part = map part_of c.in_ok-parts.parts.bytes.items in
    let p = err_from_is_err_and c.from_residual-in_err-take_fill.result c.from_residual-in_err-take_fill.ensures.1 in
    rw (p.1, p.2)
    (reads_stopped (opening_field m k) (after_opening m k) (λ (o : Opened). o) (λ (f : FrontRead). f) c.in_err-take_fill.field-0.0
    (reads_then (start_field m k) (after_start m k) (λ b. b) (λ (o : Opened). o) byte c.in_ok-byte4.ensures.start
    (reads_then (each (λ _. part_field m k) (part_numbers m)) (after_parts m k byte) (λ parts. map part_of parts.bytes.items) (λ (o : Opened). o) c.in_ok-parts.parts c.in_ok-parts.ensures.parts
    (reads_stopped (filled_to 2) (after_gap m k byte parts) (λ _. tt) (λ (o : Opened). o) c.in_err-take_fill.field-0.0 c.in_err-take_fill.ensures.fill))))

pub returns-in_err-heads-clause-front : goal.returns-in_err-heads-clause-front
returns-in_err-heads-clause-front g c =
    let m : Sides = c.args.material.now in
    let k : Kind = c.args.kind in
    let byte : ℕ = c.in_ok-byte4.byte4 in
    let parts : List Part = map part_of c.in_ok-parts.parts.bytes.items in
    let at : c.as_slice.result.now ≡ slots m k parts = c.as_slice.ensures.value ∙ c.in_ok-parts.ensures.slots in
    let p = err_from_is_err_and c.from_residual-in_err-heads.result c.from_residual-in_err-heads.ensures.1 in
    rw (p.1, p.2)
    (reads_stopped (opening_field m k) (after_opening m k) (λ (o : Opened). o) (λ (f : FrontRead). f) c.in_err-heads.field-0.0
    (reads_then (start_field m k) (after_start m k) (λ b. b) (λ (o : Opened). o) byte c.in_ok-byte4.ensures.start
    (reads_then (each (λ _. part_field m k) (part_numbers m)) (after_parts m k byte) (λ parts. map part_of parts.bytes.items) (λ (o : Opened). o) c.in_ok-parts.parts c.in_ok-parts.ensures.parts
    (reads_then (filled_to 2) (after_gap m k byte parts) (λ _. tt) (λ (o : Opened). o) c.in_ok-take_fill.field-0 c.in_ok-take_fill.ensures.fill
    (reads_stopped (each head_field (slots m k parts)) (after_heads m k byte parts) (λ list. map (λ begun. begun.subtable) list.items) (λ (o : Opened). o) c.in_err-heads.field-0.0
    (reads_equal (each head_field c.as_slice.result.now) (each head_field (slots m k parts)) _ (Err c.in_err-heads.field-0.0) (ap (each head_field) at) c.in_err-heads.ensures.heads))))))

pub returns-in_err-maps-clause-front : goal.returns-in_err-maps-clause-front
returns-in_err-maps-clause-front g c =
    let m : Sides = c.args.material.now in
    let k : Kind = c.args.kind in
    let byte : ℕ = c.in_ok-byte4.byte4 in
    let parts : List Part = map part_of c.in_ok-parts.parts.bytes.items in
    let at : c.as_slice.result.now ≡ slots m k parts = c.as_slice.ensures.value ∙ c.in_ok-parts.ensures.slots in
    let heads : List Subtable = map (λ (begun : Begun). begun.subtable) c.in_ok-heads.heads.items in
    let p = err_from_is_err_and c.from_residual-in_err-maps.result c.from_residual-in_err-maps.ensures.1 in
    rw (p.1, p.2)
    (reads_stopped (opening_field m k) (after_opening m k) (λ (o : Opened). o) (λ (f : FrontRead). f) c.in_err-maps.field-0.0
    (reads_then (start_field m k) (after_start m k) (λ b. b) (λ (o : Opened). o) byte c.in_ok-byte4.ensures.start
    (reads_then (each (λ _. part_field m k) (part_numbers m)) (after_parts m k byte) (λ parts. map part_of parts.bytes.items) (λ (o : Opened). o) c.in_ok-parts.parts c.in_ok-parts.ensures.parts
    (reads_then (filled_to 2) (after_gap m k byte parts) (λ _. tt) (λ (o : Opened). o) c.in_ok-take_fill.field-0 c.in_ok-take_fill.ensures.fill
    (reads_then (each head_field (slots m k parts)) (after_heads m k byte parts) (λ list. map (λ begun. begun.subtable) list.items) (λ (o : Opened). o) c.in_ok-heads.heads
    (reads_equal (each head_field c.as_slice.result.now) (each head_field (slots m k parts)) _ (Ok c.in_ok-heads.heads) (ap (each head_field) at) c.in_ok-heads.ensures.heads)
    (reads_stopped (maps_field k heads) (λ found. means (record { byte4 = byte; parts = parts; heads = heads; maps = found })) (λ list. map (option_map map_of) list.items) (λ (o : Opened). o) c.in_err-maps.field-0.0
    (reads_equal _ (maps_field k heads) _ (Err c.in_err-maps.field-0.0) (ap (λ (z : List Begun). maps_field k (map (λ (begun : Begun). begun.subtable) z)) c.deref.ensures.value) c.in_err-maps.ensures.maps)))))))

pub returns-in_err-measured-clause-front : goal.returns-in_err-measured-clause-front
returns-in_err-measured-clause-front g c =
    let m : Sides = c.args.material.now in
    let k : Kind = c.args.kind in
    let byte : ℕ = c.in_ok-byte4.byte4 in
    let parts : List Part = map part_of c.in_ok-parts.parts.bytes.items in
    let slots_at : c.as_slice.result.now ≡ slots m k parts = c.as_slice.ensures.value ∙ c.in_ok-parts.ensures.slots in
    let heads : List Subtable = map (λ (begun : Begun). begun.subtable) c.in_ok-heads.heads.items in
    let o : Opened = record { byte4 = byte; parts = parts; heads = heads; maps = map (option_map map_of) c.in_ok-maps.maps.items } in
    let list : List Begun = begun (slots m k parts) heads in
    let at : c.in_ok-heads.heads.items ≡ list = c.in_ok-heads.ensures.begun ∙ ap (λ (z : List Slot). begun z heads) slots_at in
    let opening = opening_read m k (λ parts. map part_of parts.bytes.items) (λ list. map (λ (begun : Begun). begun.subtable) list.items) (λ list. map (option_map map_of) list.items)
    byte c.in_ok-parts.parts c.in_ok-take_fill.field-0 c.in_ok-heads.heads c.in_ok-maps.maps c.in_ok-byte4.ensures.start c.in_ok-parts.ensures.parts c.in_ok-take_fill.ensures.fill
    (reads_equal (each head_field c.as_slice.result.now) (each head_field (slots m k parts)) _ (Ok c.in_ok-heads.heads) (ap (each head_field) slots_at) c.in_ok-heads.ensures.heads)
    (reads_equal _ (maps_field k heads) _ (Ok c.in_ok-maps.maps) (ap (λ (z : List Begun). maps_field k (map (λ (begun : Begun). begun.subtable) z)) c.deref.ensures.value) c.in_ok-maps.ensures.maps) in
    let p = err_from_is_err_and c.from_residual-in_err-measured.result c.from_residual-in_err-measured.ensures.1 in
    rw (p.1, p.2)
    (reads_then (opening_field m k) (after_opening m k) (λ (o : Opened). o) (λ (f : FrontRead). f) o opening
    (reads_equal (measured_field list >>= made o) (after_opening m k o) (λ (f : FrontRead). f) (Err c.in_err-measured.field-0.0) (steps m k o)
    (reads_stopped (measured_field list) (made o) (λ (l : List Begun). l) (λ (f : FrontRead). f) c.in_err-measured.field-0.0
    (reads_equal (measured_field c.in_ok-heads.heads.items) (measured_field list) (λ (l : List Begun). l) (Err c.in_err-measured.field-0.0) (ap measured_field at) c.in_err-measured.ensures.lengths))))

pub returns-clause-front : goal.returns-clause-front
returns-clause-front g c =
    let m : Sides = c.args.material.now in
    let k : Kind = c.args.kind in
    let byte : ℕ = c.in_ok-byte4.byte4 in
    let parts : List Part = map part_of c.in_ok-parts.parts.bytes.items in
    let slots_at : c.as_slice.result.now ≡ slots m k parts = c.as_slice.ensures.value ∙ c.in_ok-parts.ensures.slots in
    let heads : List Subtable = map (λ (begun : Begun). begun.subtable) c.in_ok-heads.heads.items in
    let o : Opened = record { byte4 = byte; parts = parts; heads = heads; maps = map (option_map map_of) c.in_ok-maps.maps.items } in
    let list : List Begun = begun (slots m k parts) heads in
    let at : c.in_ok-heads.heads.items ≡ list = c.in_ok-heads.ensures.begun ∙ ap (λ (z : List Slot). begun z heads) slots_at in
    let opening = opening_read m k (λ parts. map part_of parts.bytes.items) (λ list. map (λ (begun : Begun). begun.subtable) list.items) (λ list. map (option_map map_of) list.items)
    byte c.in_ok-parts.parts c.in_ok-take_fill.field-0 c.in_ok-heads.heads c.in_ok-maps.maps c.in_ok-byte4.ensures.start c.in_ok-parts.ensures.parts c.in_ok-take_fill.ensures.fill
    (reads_equal (each head_field c.as_slice.result.now) (each head_field (slots m k parts)) _ (Ok c.in_ok-heads.heads) (ap (each head_field) slots_at) c.in_ok-heads.ensures.heads)
    (reads_equal _ (maps_field k heads) _ (Ok c.in_ok-maps.maps) (ap (λ (z : List Begun). maps_field k (map (λ (begun : Begun). begun.subtable) z)) c.deref.ensures.value) c.in_ok-maps.ensures.maps) in
    let read = c.in_ok-measured.ensures.lengths in
    let whole : FrontRead = record { byte4 = o.byte4; parts = o.parts; maps = o.maps; measured = read.0 } in (
      whole,
      ap (λ (l : List Begun). let f : FrontRead = record { byte4 = o.byte4; parts = o.parts; maps = o.maps; measured = l } in f) read.1,
      reads_then (opening_field m k) (after_opening m k) (λ (o : Opened). o) (λ _. whole) o opening
          (reads_equal (measured_field list >>= made o) (after_opening m k o) _ (Ok _) (steps m k o)
          (reads_then (measured_field list) (made o) (λ _. read.0) (λ _. whole) c.in_ok-measured.measured
          (reads_equal (measured_field c.in_ok-heads.heads.items) (measured_field list) (λ _. read.0) (Ok c.in_ok-measured.measured) (ap measured_field at) read.2)
          (reads_nothing _ (λ _. whole) _ refl))),
    )

pub returns-clause-slotted : goal.returns-clause-slotted
returns-clause-slotted g c = λ subs many.
    let m : Sides = c.args.material.now in
    let k : Kind = c.args.kind in
    let parts : List Part = map part_of c.in_ok-parts.parts.bytes.items in
    let heads : List Subtable = map (λ (begun : Begun). begun.subtable) c.in_ok-heads.heads.items in
    let at : c.in_ok-heads.heads.items ≡ begun (slots m k parts) heads = c.in_ok-heads.ensures.begun ∙ ap (λ (z : List Slot). begun z heads) (c.as_slice.ensures.value ∙ c.in_ok-parts.ensures.slots) in
    ap (λ (l : List Slot). slotted l subs) c.in_ok-measured.ensures.slots
    ∙ ap (λ (l : List Begun). slotted (map slot_of l) subs) at
    ∙ slotted_begun (slots m k parts) heads subs (many ∙ c.in_ok-measured.ensures.count ∙ ap (λ (l : List Begun). length l) at)

pub returns-clause-grown : goal.returns-clause-grown
returns-clause-grown g c = omega (arith, c.in_ok-byte4.ensures.grown, c.in_ok-parts.ensures.grown, c.in_ok-take_fill.ensures.grown, c.in_ok-heads.ensures.grown, c.in_ok-maps.ensures.grown, c.in_ok-measured.ensures.grown, c.in_ok-measured.ensures.count)
