-- The index, length and subtables of a table that is opened by its front are those of the table that the bytes
-- begin with. Its blocks are not checked.
use Rattle.std.proofs.Common.{◌≡◌, ℕ, Bool, ◌+◌, ◌<◌, ◌≤◌, ◌^◌, List, [], ◌++◌, length, map, take, drop, refl, sym, ap, subst, ◌∙◌, arith, inl, inr}
use Rattle.std.proofs.lemmas.Bool.{cases_lt}
use Rattle.std.specs.List.{AllByRecursion}
use Rattle.std.proofs.lemmas.List.{length-append, length-map, take-append-drop}
use Rattle.szg_values.specs.declared.Kind.{Kind}
use Rattle.szg_values.specs.Material.{Sides}
use Rattle.szg_block.specs.BlocksTrait.{bytes_at}
use Rattle.szg_file.specs.Accepted.{AreNumbers, AreMaps, IsMapOf, SideBySide}
use Rattle.szg_file.specs.Contents.{Contents, Slot, Subtable, gap, slots}
use Rattle.szg_file.specs.File.{flags_of}
use Rattle.szg_file.specs.Format.{good, verdict, Verdict}
use Rattle.szg_file.specs.FrontTable.{FrontKept, IsFrontOf}
use Rattle.szg_file.specs.Held.{subtable_of}
use Rattle.szg_file.specs.Index.{Index, IsIndex, index_with}
use Rattle.szg_file.specs.Opened.{table_of}
use Rattle.szg_file.specs.Placed.{whole_sub, Fits}
use Rattle.szg_file.specs.Reading.{Advances}
use Rattle.szg_file.specs.Kept.{kept_front, kept_subs}
use Rattle.szg_file.specs.Unread.{FrontRead, BeginsWithFront, front_field, unread_end, unread_file, unread_table, unread_subs, IsUnread}
use Rattle.szg_file.specs.WholeRead.{Refuses}
use Rattle.szg_file.specs.declared.reading.dropping.PlacedSub.{PlacedSub}
use Rattle.szg_file.specs.declared.fault.Reason.TheVariants.{Truncated}
use Rattle.szg_file.specs.declared.reading.state.ReaderState.{ReaderState}
use Rattle.szg_file.proofs.Grammar.FormatLaws.{good-more, take_front}
use Rattle.szg_file.proofs.Grammar.KeptLaws.{kept_all_flags}
use Rattle.szg_file.proofs.Openings.OpenedLaws.{forward_moved}
use Rattle.szg_file.proofs.Openings.OutlinedLaws.{flags_whole}
use Rattle.szg_file.proofs.Tables.TableFinds.{side_lengths}
use Rattle.szg_file.proofs.Openings.FrontLaws.{file_end, last_at, last_bytes, following_text, front_good, front_cut}
use Rattle.szg_file.proofs.Openings.FrontValid.{FrontValid, gives_front, slots_unread, unread_are_valid, are_maps_valid}
use Rattle.szg_file.proofs.Openings.KeptFronts.{kept_unread, kept_unread_end}

module _ (material : Sides) (kind : Kind) (f : FrontRead) (place : ℕ) (content : List ℕ) (h : BeginsWithFront material kind f place content) where
  begins : verdict (front_field material kind) 0 content ≡ good f h.filled (drop place content)
  begins =
      ap (λ (z : List ℕ). verdict (front_field material kind) 0 z) (sym (take-append-drop place content))
      ∙ good-more (front_field material kind) 0 (take place content) (drop place content) f h.filled [] h.whole

  pub front_is_valid : FrontValid material kind f
  front_is_valid = (gives_front material kind).gives 0 (take place content) f h.filled h.small h.whole

  abbrev table_subs : List Subtable
  table_subs = unread_subs content place f.measured

  unread : SideBySide IsUnread (slots material kind f.parts) table_subs
  unread = unread_are_valid (slots material kind f.parts) f.measured content place front_is_valid.measured

  -- what is kept of it
  module _ (all : Bool) (mine : FrontRead) (is : mine ≡ kept_front all f) where
    same_end : unread_end place mine.measured ≡ unread_end place f.measured
    same_end = ap (λ (m : FrontRead). unread_end place m.measured) is ∙ kept_unread_end all place f.measured

    module _ (subs : List PlacedSub) (same : map (whole_sub content) subs ≡ unread_subs content place mine.measured) where
      kept_are : map (whole_sub content) subs ≡ kept_subs all (slots material kind f.parts) table_subs
      kept_are =
          same ∙ ap (λ (m : FrontRead). unread_subs content place m.measured) is ∙ kept_unread all content place f.measured
          ∙ ap (λ (l : List Slot). kept_subs all l table_subs) (slots_unread (slots material kind f.parts) f.measured front_is_valid.measured)

      kept_flags_are : map (λ placed. flags_of (subtable_of placed.sub)) subs ≡ map flags_of table_subs
      kept_flags_are =
          sym (flags_whole content subs) ∙ ap (map flags_of) kept_are ∙ kept_all_flags all (slots material kind f.parts) table_subs (side_lengths IsUnread (slots material kind f.parts) table_subs unread)

      kept_index : index_with material kind mine.parts (map (λ placed. flags_of (subtable_of placed.sub)) subs) mine.maps ≡ index_with material kind f.parts (map flags_of table_subs) f.maps
      kept_index =
          ap (λ (m : FrontRead). index_with material kind m.parts (map (λ placed. flags_of (subtable_of placed.sub)) subs) m.maps) is
          ∙ ap (λ (flags : List ℕ). index_with material kind f.parts flags f.maps) kept_flags_are

  pub front_kept : (all : Bool) (mine : FrontRead) → mine ≡ kept_front all f → (kept : FrontKept) → kept.byte4 ≡ mine.byte4 → kept.ending ≡ last_at place mine.measured → kept.ending + 16 ≤ length content →
      kept.index ≡ index_with material kind mine.parts (map (λ placed. flags_of (subtable_of placed.sub)) kept.subs) mine.maps → length content ≡ kept.length → kept.length < 2 ^ 64 →
      map (whole_sub content) kept.subs ≡ unread_subs content place mine.measured → AllByRecursion (Fits (length content) kept.room) kept.subs → (h : IsFrontOf kept content) × (h.all ≡ all)
  front_kept all mine mine_is kept mine_byte mine_at room mine_index long short mine_subs fits =
      let same_byte : kept.byte4 ≡ f.byte4 = mine_byte ∙ ap (λ (m : FrontRead). m.byte4) mine_is in
      let at : kept.ending ≡ last_at place f.measured = mine_at ∙ ap (λ (n : ℕ). n + gap 64 n) (same_end all mine mine_is) in
      let same_index = mine_index ∙ kept_index all mine mine_is kept.subs mine_subs in
      let whole : file_end place f.measured ≤ length content = subst (λ (n : ℕ). n + 16 ≤ length content) at room in
      let table : Contents = unread_table material kind f (unread_subs content place f.measured) (last_bytes content place f.measured) in
      let is : verdict (unread_file material kind) 0 content ≡ good table (h.filled ++ (following_text material kind f content place whole).filled) (drop (file_end place f.measured) content) =
      front_good material kind f content place h.filled (drop place content) begins refl h.inside whole in
      let is_valid = front_is_valid in
      let kept_is : IsFrontOf kept content = record {
        table = table;
        there = ap (λ (x : Index). table_of (verdict (unread_file x.material x.kind) 0 content)) same_index ∙ ap table_of is;
        byte4_is = same_byte;
        filled = h.filled ++ (following_text material kind f content place whole).filled;
        ends = ap (λ (x : Index). verdict (unread_file x.material x.kind) 0 content) same_index ∙ is ∙ ap (λ (n : ℕ). good table (h.filled ++ (following_text material kind f content place whole).filled) (drop (n + 16) content)) (sym at);
        inside = omega (arith, room, long);
        last_is = ap (λ (n : ℕ). bytes_at content n 16) (sym at);
        index_is = same_index;
        long = long;
        short = short;
        all = all;
        subs_are = kept_are all mine mine_is kept.subs mine_subs;
        parts = is_valid.parts;
        unread = unread;
        maps = are_maps_valid kind f.measured content place f.maps is_valid.maps;
        fits = fits;
      } in
      (kept_is, refl)

  -- its index is a valid index
  pub front_index : (all : Bool) (mine : FrontRead) → mine ≡ kept_front all f → (subs : List PlacedSub) → map (whole_sub content) subs ≡ unread_subs content place mine.measured →
      IsIndex (index_with material kind mine.parts (map (λ placed. flags_of (subtable_of placed.sub)) subs) mine.maps)
  front_index all mine mine_is subs same =
      let is_valid = front_is_valid in
      let as_many : length (map flags_of table_subs) ≡ length table_subs = length-map table_subs flags_of in
      subst IsIndex (sym (kept_index all mine mine_is subs same)) (record {
        parts_are_valid = is_valid.parts;
        flags_many = as_many ∙ sym (side_lengths IsUnread (slots material kind f.parts) table_subs unread);
        maps_many = λ dtz.
            let maps : SideBySide IsMapOf table_subs f.maps = subst (λ (k : Kind). AreMaps k table_subs f.maps) dtz (are_maps_valid kind f.measured content place f.maps is_valid.maps) in
            sym (side_lengths IsMapOf table_subs f.maps maps) ∙ sym as_many;
      })

  pub front_short : (all : Bool) (mine : FrontRead) → mine ≡ kept_front all f → (size : ℕ) → length content ≡ size → (file_end place mine.measured ≤ length content → ⊥) → Refuses (verdict (unread_file material kind) 0 content) size Truncated
  front_short all mine mine_is size long mine_lacks =
      let lacks : file_end place f.measured ≤ length content → ⊥ = λ room. mine_lacks (subst (λ (n : ℕ). n + gap 64 n + 16 ≤ length content) (sym (same_end all mine mine_is)) room) in
      let short : length content < file_end place f.measured = elim (cases_lt (length content) (file_end place f.measured)) [ inl less ↦ less | inr more ↦ absurd (lacks more) ] in
      subst (λ (v : Verdict Contents). Refuses v size Truncated) (sym (front_cut material kind f content place h.filled (drop place content) begins refl h.inside short)) (sym long, refl)

-- a reader over a source that began at the first byte has read a front
pub begins_by : (material : Sides) (kind : Kind) (f : FrontRead) (begun ended : ReaderState) (from to place : ℕ) (old new bytes content : List ℕ) → begun.place ≡ 0 → from ≡ 0 → take to new ≡ take from old ++ bytes →
    Advances (front_field material kind) f begun ended bytes → content ≡ new → place ≡ ended.place → BeginsWithFront material kind f place content
begins_by material kind f begun ended from to place old new bytes content start first came h same at =
    let moved : take to new ≡ bytes = forward_moved from to old new bytes first came in
    let whole : content ≡ bytes ++ drop to new = same ∙ sym (take-append-drop to new) ∙ ap (λ (z : List ℕ). z ++ drop to new) moved in
    let none : 0 + length bytes ≡ length bytes = omega arith in
    let long : place ≡ length bytes = at ∙ h.place ∙ ap (λ (n : ℕ). n + length bytes) start ∙ none in
    let front : take place content ≡ bytes = ap (λ (z : List ℕ). take place z) whole ∙ take_front place bytes (drop to new) (sym long) in
    let more : length content ≡ length bytes + length (drop to new) = ap (λ (z : List ℕ). length z) whole ∙ length-append bytes (drop to new) in
    record {
      small = subst (λ (z : List ℕ). AreNumbers 1 z) (sym front) h.fits;
      filled = h.filled;
      whole = ap (λ (z : List ℕ). verdict (front_field material kind) 0 z) front ∙ ap (λ (n : ℕ). verdict (front_field material kind) n bytes) (sym start) ∙ h.whole;
      inside = omega (arith, more, long);
    }
