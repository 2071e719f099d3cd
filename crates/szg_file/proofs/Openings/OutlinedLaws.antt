-- What an opened table returns without its blocks is that of the table that was opened.
use Rattle.std.proofs.Common.{◌≡◌, ℕ, List, [], ◌∷◌, ◌++◌, map, take, drop, refl, sym, ap, subst, ◌∙◌, Option, Some, option_map}
use Rattle.std.specs.Prelude.{IsSomeAnd, option_and_then}
use Rattle.std.proofs.lemmas.List.{take-append-drop}
use Rattle.szg_values.specs.declared.Kind.{Kind}
use Rattle.szg_values.specs.Material.{Sides}
use Rattle.szg_block.specs.declared.Sub.{Sub}
use Rattle.szg_file.specs.Blocks.{with_blocks}
use Rattle.szg_file.specs.Contents.{Contents, Slot, Subtable, constant, pairs}
use Rattle.szg_file.specs.File.{file, flags_of}
use Rattle.szg_file.specs.Format.{verdict, good}
use Rattle.szg_file.specs.Held.{part_of, map_of, subtable_of}
use Rattle.szg_file.specs.Index.{Index, IsIndex, index_with, slot_in}
use Rattle.szg_file.specs.Opened.{table_of, table_in, IsIndexIn}
use Rattle.szg_file.specs.Outline.{outlined}
use Rattle.szg_file.specs.Placed.{whole_sub}
use Rattle.szg_file.specs.Reading.{Advances}
use Rattle.szg_file.specs.Values.{subtable_at}
use Rattle.szg_file.specs.declared.reading.dropping.PlacedSub.{PlacedSub}
use Rattle.szg_file.specs.declared.reading.state.ReaderState.{ReaderState}
use Rattle.szg_file.specs.declared.reading.Outline.{Outline}
use Rattle.szg_file.proofs.Grammar.FormatLaws.{good-more}
use Rattle.szg_file.proofs.Readers.ReadAnswers.{whole_file}
use Rattle.szg_file.proofs.Openings.OpenedLaws.{forward_moved}
use Rattle.szg_file.proofs.Tables.IndexLaws.{accepted_index, size_of_table}

-- a property of the table that was opened
pub stated_in : (P : Contents → Type 0) (there : Option Contents) (t : Contents) → there ≡ Some t → P t → IsSomeAnd there P
stated_in P there t e h = subst (λ (o : Option Contents). IsSomeAnd o P) (sym e) h

-- blocks do not change the flags
pub flags_with : (s : Subtable) (packed : List ℕ) → flags_of (with_blocks s packed) ≡ flags_of s
flags_with (constant flags byte) packed = refl
flags_with (pairs head sparse lengths blocks) packed = refl

pub flags_stated : (subs : List Sub) → map (λ sub. flags_of (subtable_of sub)) subs ≡ map flags_of (map subtable_of subs)
flags_stated [] = refl
flags_stated (sub ∷ subs) = ap (λ (l : List ℕ). flags_of (subtable_of sub) ∷ l) (flags_stated subs)

pub flags_whole : (bytes : List ℕ) (subs : List PlacedSub) → map flags_of (map (whole_sub bytes) subs) ≡ map (λ placed. flags_of (subtable_of placed.sub)) subs
flags_whole bytes [] = refl
flags_whole bytes (sub ∷ subs) =
    ap (λ (k : ℕ). k ∷ map flags_of (map (whole_sub bytes) subs)) (flags_with (subtable_of sub.sub) _)
    ∙ ap (λ (l : List ℕ). flags_of (subtable_of sub.sub) ∷ l) (flags_whole bytes subs)

-- ---- the index of the table that was opened

pub size_opened : (x : Index) (content : List ℕ) (part side : ℕ) → IsIndexIn x content →
    option_map (λ (slot : Slot). slot.size) (slot_in x part side) ≡ option_map (λ found. found.0.size) (option_and_then (λ t. subtable_at t part side) (table_in x.material x.kind content))
size_opened x content part side h =
    ap (λ (y : Index). option_map (λ (slot : Slot). slot.size) (slot_in y part side)) h.index_is
    ∙ size_of_table h.table h.is_valid.filled part side h.is_valid.accepted
    ∙ sym (ap (λ (o : Option Contents). option_map (λ (found : Slot × Subtable). found.0.size) (option_and_then (λ t. subtable_at t part side) o)) h.there)

-- the index of the contents that were read
abbrev pub outline_index : Sides → Kind → Outline → Index
outline_index material kind o =
    index_with material kind (map part_of o.parts.bytes.items) (map (λ placed. flags_of (subtable_of placed.sub)) o.subs.items) (map (option_map map_of) o.maps.items)

pub outlined_index : (material : Sides) (kind : Kind) (o : Outline) (begun ended : ReaderState) (from to : ℕ) (old new bytes : List ℕ) → begun.place ≡ 0 → begun.fill.items ≡ [] →
    Advances (file material kind) (outlined material kind (take to new) o) begun ended bytes → IsIndex (outline_index material kind o)
outlined_index material kind o begun ended from to old new bytes place fill h =
    let table : Contents = outlined material kind (take to new) o in
    let w = whole_file material kind table begun ended bytes place fill h in
    subst (λ (flags : List ℕ). IsIndex (index_with material kind table.parts flags table.maps)) (flags_whole (take to new) o.subs.items) (accepted_index table ended.fill.items w.accepted)

-- the contents that were read are the table whose file the source's bytes begin with
pub outlined_by : (material : Sides) (kind : Kind) (o : Outline) (begun ended : ReaderState) (from to : ℕ) (old new bytes content : List ℕ) (x : Index) → begun.place ≡ 0 → begun.fill.items ≡ [] →
    from ≡ 0 → take to new ≡ take from old ++ bytes → Advances (file material kind) (outlined material kind (take to new) o) begun ended bytes → content ≡ new →
    x ≡ outline_index material kind o → IsIndexIn x content
outlined_by material kind o begun ended from to old new bytes content x place fill first came h same is =
    let moved : take to new ≡ bytes = forward_moved from to old new bytes first came in
    let table : Contents = outlined material kind (take to new) o in
    let w = whole_file material kind table begun ended bytes place fill h in
    let whole = subst (λ (z : List ℕ). verdict (file material kind) 0 z ≡ good table ended.fill.items []) (sym moved) w.whole in
    let e : content ≡ take to new ++ drop to new = same ∙ sym (take-append-drop to new) in
    let one : IsIndexIn (outline_index material kind o) content = record {
      table = table;
      there = ap (λ (z : List ℕ). table_in material kind z) e ∙ ap table_of (good-more (file material kind) 0 (take to new) (drop to new) table ended.fill.items [] whole);
      is_valid = record { filled = ended.fill.items; accepted = w.accepted; material_is = refl; kind_is = refl };
      index_is = ap (λ (flags : List ℕ). index_with material kind table.parts flags table.maps) (sym (flags_whole (take to new) o.subs.items));
    } in
    subst (λ (y : Index). IsIndexIn y content) (sym is) one
