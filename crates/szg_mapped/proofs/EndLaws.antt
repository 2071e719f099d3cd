-- The sparse indexes and block lengths of a front: the last bytes of the front spell them.
use Rattle.std.proofs.Common.{◌≡◌, ℕ, ◌+◌, ◌*◌, ◌/◌, ◌≤◌, Bool, true, false, List, [], ◌∷◌, ◌++◌, length, map, take, drop, refl, sym, ap, subst, ◌∙◌, append_assoc, append-nil, arith, drop-drop, Option, Some, None, IfSome, sum_by}
use Rattle.std.proofs.lemmas.List.{length-append, length-map, length-take, take-append-drop}
use Rattle.std.proofs.lemmas.List.Sums.{sum_by-cons}
use Rattle.szg_values.specs.Material.{Sides}
use Rattle.szg_values.specs.declared.Kind.{Kind}
use Rattle.szg_block.specs.BlocksTrait.{bytes_at}
use Rattle.szg_block.specs.FirstFault.{has_total, first_bad_entry}
use Rattle.szg_block.specs.Layout.{SparseEntry}
use Rattle.szg_block.specs.Sound.{entry_count}
use Rattle.szg_block.specs.Subtable.{layout_of}
use Rattle.szg_block.specs.declared.Sub.{Sub}
use Rattle.szg_block.specs.declared.Sub.TheVariants.{Constant, Pairs}
use Rattle.szg_file.specs.Blocks.{with_blocks}
use Rattle.szg_file.specs.Contents.{Slot, Subtable, constant, pairs, items, layout_of as layout_with, number_of, slots}
use Rattle.szg_file.specs.File.{Begun, begun, demand, each, entry_of_bytes, index_check, lengths_field, lengths_of, none_fails, rows_field, sparse_field, sparse_index_of}
use Rattle.szg_file.specs.FilePieces.{opening_field}
use Rattle.szg_file.specs.Format.{Format, means, ◌>>=◌, good, verdict}
use Rattle.szg_file.specs.Held.{subtable_of}
use Rattle.szg_mapped.specs.InPlace.{entries_in, lengths_in, sparse_size, lengths_size, AreSparseFrom, AreLengthsFrom, EndAt}
use Rattle.szg_file.specs.Placed.{whole_sub}
use Rattle.szg_file.specs.Unread.{FrontRead, BeginsWithFront, front_field, blocks_count, blocks_end, blocks_first, unread_subs}
use Rattle.szg_file.specs.declared.fault.Reason.{Reason}
use Rattle.szg_file.specs.declared.reading.dropping.PlacedSub.{PlacedSub}
use Rattle.szg_file.proofs.Grammar.FileLaws.{field_text, parts}
use Rattle.szg_file.proofs.Grammar.FormatLaws.{drop_front, take_front}
use Rattle.szg_file.proofs.Openings.FrontLaws.{after_opening}
use Rattle.szg_mapped.proofs.InPlaceLaws.{length-items}

-- ---- an accepted text of several formats

-- what holds of no text and is kept by one more holds of all
pub each_holds : {A B : Type 0} (f : A → Format B) (P : List A → List B → List ℕ → Type 0) → P [] [] [] →
    ((x : A) (y : B) (xs : List A) (ys : List B) (first others : List ℕ) (place : ℕ) (filled : List ℕ) → verdict (f x) place first ≡ good y filled [] → P xs ys others → P (x ∷ xs) (y ∷ ys) (first ++ others)) →
    (xs : List A) (place : ℕ) (bytes : List ℕ) (ys : List B) (filled : List ℕ) → verdict (each f xs) place bytes ≡ good ys filled [] → P xs ys bytes
each_holds f P none more [] place bytes ys filled e =
    let no_bytes : bytes ≡ [] = cc e in
    let no_items : [] ≡ ys = cc e in
    subst (λ (z : List _). P [] z bytes) no_items (subst (λ (z : List ℕ). P [] [] z) (sym no_bytes) none)
each_holds f P none more (x ∷ xs) place bytes ys filled e =
    let p = parts (f x) (λ y. each f xs >>= λ ys. means (y ∷ ys)) place bytes ys filled [] e in
    let q = parts (each f xs) (λ ys. means (p.value ∷ ys)) (place + length p.first) p.others ys p.other_fill [] p.is_other in
    let last = q.is_other in
    let no_bytes : q.others ≡ [] = cc last in
    let all : p.value ∷ q.value ≡ ys = cc last in
    let others : p.others ≡ q.first = q.bytes_are ∙ ap (λ (z : List ℕ). q.first ++ z) no_bytes ∙ append-nil q.first in
    let rest : P xs q.value p.others = subst (λ (z : List ℕ). P xs q.value z) (sym others) (each_holds f P none more xs (place + length p.first) q.first q.value q.first_fill q.is_first) in
    subst (λ (z : List _). P (x ∷ xs) z bytes) all
    (subst (λ (z : List ℕ). P (x ∷ xs) (p.value ∷ q.value) z) (sym p.bytes_are) (more x p.value xs q.value p.first p.others place p.first_fill p.is_first rest))

-- ---- lists that bytes spell

-- a list is spelled by these bytes, `width` bytes for each item
pub record IsSpelled {X : Type 0} (width : ℕ) (in_bytes : List ℕ → List X) (list : List X) (bytes : List ℕ) : Type 0 where
  pub long : length bytes ≡ width * length list
  pub is : list ≡ in_bytes bytes

-- lists are spelled by these bytes, one after another
abbrev pub AreSpelled : {X : Type 0} → ℕ → (List ℕ → List X) → List (List X) → List ℕ → Type 0
AreSpelled width in_bytes [] bytes = bytes ≡ []
AreSpelled width in_bytes (list ∷ lists) bytes = (first : List ℕ) × (others : List ℕ) × (bytes ≡ first ++ others) × IsSpelled width in_bytes list first × AreSpelled width in_bytes lists others

-- the lists of a subtable
abbrev pub sparse_in : Subtable → List SparseEntry
sparse_in (constant flags byte) = []
sparse_in (pairs head sparse lengths packed) = sparse

abbrev pub counts_in : Subtable → List ℕ
counts_in (constant flags byte) = []
counts_in (pairs head sparse lengths packed) = lengths

abbrev pub all_sparse : List Begun → List (List SparseEntry)
all_sparse list = map (λ b. sparse_in b.subtable) list

abbrev pub all_counts : List Begun → List (List ℕ)
all_counts list = map (λ b. counts_in b.subtable) list

spelled_rows : {X : Type 0} (width : ℕ) (item_of : List ℕ → X) (count : ℕ) (bytes : List ℕ) → 1 ≤ width → count ≡ length bytes / width → length bytes ≡ width * count →
    IsSpelled width (λ z. map item_of (items width (length z / width) z)) (map item_of (items width count bytes)) bytes
spelled_rows width item_of count bytes some many long = record {
  long = long ∙ ap (λ (n : ℕ). width * n) (sym (length-map (items width count bytes) item_of ∙ length-items width count bytes));
  is = ap (λ (n : ℕ). map item_of (items width n bytes)) many;
}

-- ---- sparse indexes

sparse_spelled : (slot : Slot) (s : Subtable) (place : ℕ) (bytes : List ℕ) (y : Begun) (filled : List ℕ) → verdict (sparse_index_of slot s) place bytes ≡ good y filled [] →
    IsSpelled 6 entries_in (sparse_in y.subtable) bytes
sparse_spelled slot (constant flags byte) place bytes y filled e =
    let no_bytes : bytes ≡ [] = cc e in
    let is : record { slot = slot; subtable = constant flags byte; index = 0 } ≡ y = cc e in
    subst (λ (b : Begun). IsSpelled 6 entries_in (sparse_in b.subtable) bytes) is (subst (λ (z : List ℕ). IsSpelled 6 entries_in [] z) (sym no_bytes) (record { long = refl; is = refl }))
sparse_spelled slot (pairs head sparse lengths packed) place bytes y filled e =
    let count : ℕ = entry_count head.span_bits slot.size in
    let made : List ℕ → Begun = λ b. record { slot = slot; subtable = pairs head (map entry_of_bytes (items 6 count b)) lengths packed; index = place } in
    let h = field_text (6 * count) made place bytes y filled e in
    let many : count ≡ length bytes / 6 = omega (arith, h.0) in
    subst (λ (b : Begun). IsSpelled 6 entries_in (sparse_in b.subtable) bytes) h.1 (spelled_rows 6 entry_of_bytes count bytes (omega arith) many h.0)

all_sparse_spelled : (list : List Begun) (place : ℕ) (bytes : List ℕ) (indexed : List Begun) (filled : List ℕ) → verdict (each sparse_field list) place bytes ≡ good indexed filled [] →
    AreSpelled 6 entries_in (all_sparse indexed) bytes
all_sparse_spelled list place bytes indexed filled e =
    each_holds sparse_field (λ _ ys bytes. AreSpelled 6 entries_in (all_sparse ys) bytes) refl
    (λ x y xs ys first others place filled one rest. (first, others, refl, sparse_spelled x.slot x.subtable place first y filled one, rest))
    list place bytes indexed filled e

-- ---- block lengths

checked : {A : Type 0} (test : Bool) (item : Option ℕ) (at : ℕ) (place_of : ℕ → ℕ) (why why' : Reason) (a b : A) (place : ℕ) (bytes filled : List ℕ) →
    verdict ((demand test at why >>= λ _. none_fails item place_of why') >>= λ _. means a) place bytes ≡ good b filled [] → (bytes ≡ []) × (a ≡ b)
checked true None at place_of why why' a b place bytes filled e = (cc e, cc e)
checked true (Some k) at place_of why why' a b place bytes filled e = absurd (cc e)
checked false item at place_of why why' a b place bytes filled e = absurd (cc e)

-- the subtable's block lengths are spelled, and its sparse index is as before
pub record IsCounted (s : Subtable) (y : Begun) (bytes : List ℕ) : Type 0 where
  pub counts : IsSpelled 2 lengths_in (counts_in y.subtable) bytes
  pub same : sparse_in y.subtable ≡ sparse_in s

counts_spelled : (slot : Slot) (index : ℕ) (s : Subtable) (place : ℕ) (bytes : List ℕ) (y : Begun) (filled : List ℕ) → verdict (lengths_of slot index s) place bytes ≡ good y filled [] → IsCounted s y bytes
counts_spelled slot index (constant flags byte) place bytes y filled e =
    let no_bytes : bytes ≡ [] = cc e in
    let is : record { slot = slot; subtable = constant flags byte; index = index } ≡ y = cc e in
    subst (λ (b : Begun). IsCounted (constant flags byte) b bytes) is
    (subst (λ (z : List ℕ). IsCounted (constant flags byte) (record { slot = slot; subtable = constant flags byte; index = index }) z) (sym no_bytes) (record { counts = record { long = refl; is = refl }; same = refl }))
counts_spelled slot index (pairs head sparse lengths packed) place bytes y filled e =
    let count : ℕ = head.blocks + head.extra in
    let made : List (List ℕ) → Begun = λ list. record { slot = slot; subtable = pairs head sparse (map number_of list) packed; index = index } in
    let p = parts (rows_field 2 count) (λ list. index_check place index (layout_with head sparse (map number_of list)) slot.size >>= λ _. means (made list)) place bytes y filled [] e in
    let h = field_text (2 * count) (items 2 count) place p.first p.value p.first_fill p.is_first in
    let layout = layout_with head sparse (map number_of p.value) in
    let q = checked (has_total layout slot.size) (first_bad_entry layout) _ _ _ _ (made p.value) y (place + length p.first) p.others p.other_fill p.is_other in
    let all : bytes ≡ p.first = p.bytes_are ∙ ap (λ (z : List ℕ). p.first ++ z) q.0 ∙ append-nil p.first in
    let long : length p.first ≡ 2 * count = h.0 in
    let many : count ≡ length p.first / 2 = omega (arith, long) in
    let counts : IsSpelled 2 lengths_in (map number_of p.value) p.first =
    subst (λ (z : List (List ℕ)). IsSpelled 2 lengths_in (map number_of z) p.first) h.1 (spelled_rows 2 number_of count p.first (omega arith) many long) in
    subst (λ (b : Begun). IsCounted (pairs head sparse lengths packed) b bytes) q.1
    (subst (λ (z : List ℕ). IsCounted (pairs head sparse lengths packed) (made p.value) z) (sym all) (record { counts = counts; same = refl }))

pub record AreCounted (indexed measured : List Begun) (bytes : List ℕ) : Type 0 where
  pub counts : AreSpelled 2 lengths_in (all_counts measured) bytes
  pub same : all_sparse measured ≡ all_sparse indexed

all_counts_spelled : (indexed : List Begun) (place : ℕ) (bytes : List ℕ) (measured : List Begun) (filled : List ℕ) → verdict (each lengths_field indexed) place bytes ≡ good measured filled [] →
    AreCounted indexed measured bytes
all_counts_spelled indexed place bytes measured filled e =
    each_holds lengths_field AreCounted (record { counts = refl; same = refl })
    (λ x y xs ys first others place filled one rest.
    let h = counts_spelled x.slot x.index x.subtable place first y filled one in
    record {
      counts = (first, others, refl, h.counts, rest.counts);
      same = ap (λ (z : List SparseEntry). z ∷ all_sparse ys) h.same ∙ ap (λ (z : List (List SparseEntry)). sparse_in x.subtable ∷ z) rest.same;
    })
    indexed place bytes measured filled e

-- ---- the subtables that are kept

abbrev pub kept_sparse : List PlacedSub → List (List SparseEntry)
kept_sparse subs = map (λ placed. sparse_in (subtable_of placed.sub)) subs

abbrev pub kept_counts : List PlacedSub → List (List ℕ)
kept_counts subs = map (λ placed. counts_in (subtable_of placed.sub)) subs

-- blocks change no list
sparse_with : (s : Subtable) (blocks : List ℕ) → sparse_in (with_blocks s blocks) ≡ sparse_in s
sparse_with (constant flags byte) blocks = refl
sparse_with (pairs head sparse lengths packed) blocks = refl

counts_with : (s : Subtable) (blocks : List ℕ) → counts_in (with_blocks s blocks) ≡ counts_in s
counts_with (constant flags byte) blocks = refl
counts_with (pairs head sparse lengths packed) blocks = refl

same_sparse : (content : List ℕ) (place : ℕ) (list : List Begun) (subs : List PlacedSub) → map (whole_sub content) subs ≡ unread_subs content place list → kept_sparse subs ≡ all_sparse list
same_sparse content place [] [] e = refl
same_sparse content place [] (placed ∷ subs) e = absurd (cc e)
same_sparse content place (b ∷ list) [] e = absurd (cc e)
same_sparse content place (b ∷ list) (placed ∷ subs) e =
    let here : whole_sub content placed ≡ with_blocks b.subtable (bytes_at content (blocks_first place b.subtable) (blocks_count b.subtable)) = cc e in
    let rest : map (whole_sub content) subs ≡ unread_subs content (blocks_end place b.subtable) list = cc e in
    let one : sparse_in (subtable_of placed.sub) ≡ sparse_in b.subtable = sym (sparse_with (subtable_of placed.sub) _) ∙ ap sparse_in here ∙ sparse_with b.subtable _ in
    ap (λ (z : List SparseEntry). z ∷ kept_sparse subs) one ∙ ap (λ (z : List (List SparseEntry)). sparse_in b.subtable ∷ z) (same_sparse content (blocks_end place b.subtable) list subs rest)

same_counts : (content : List ℕ) (place : ℕ) (list : List Begun) (subs : List PlacedSub) → map (whole_sub content) subs ≡ unread_subs content place list → kept_counts subs ≡ all_counts list
same_counts content place [] [] e = refl
same_counts content place [] (placed ∷ subs) e = absurd (cc e)
same_counts content place (b ∷ list) [] e = absurd (cc e)
same_counts content place (b ∷ list) (placed ∷ subs) e =
    let here : whole_sub content placed ≡ with_blocks b.subtable (bytes_at content (blocks_first place b.subtable) (blocks_count b.subtable)) = cc e in
    let rest : map (whole_sub content) subs ≡ unread_subs content (blocks_end place b.subtable) list = cc e in
    let one : counts_in (subtable_of placed.sub) ≡ counts_in b.subtable = sym (counts_with (subtable_of placed.sub) _) ∙ ap counts_in here ∙ counts_with b.subtable _ in
    ap (λ (z : List ℕ). z ∷ kept_counts subs) one ∙ ap (λ (z : List (List ℕ)). counts_in b.subtable ∷ z) (same_counts content (blocks_end place b.subtable) list subs rest)

-- the lists that a subtable keeps, and their bytes
sparse_is : (sub : Sub) (list : List SparseEntry) → sparse_in (subtable_of sub) ≡ list → IfSome (layout_of sub) (λ layout. layout.sparse ≡ list)
sparse_is (Constant flags byte) list e = tt
sparse_is (Pairs flags block_bits span_bits extra blocks code dict sparse lengths packed) list e = e

counts_are : (sub : Sub) (list : List ℕ) → counts_in (subtable_of sub) ≡ list → IfSome (layout_of sub) (λ layout. layout.lengths ≡ list)
counts_are (Constant flags byte) list e = tt
counts_are (Pairs flags block_bits span_bits extra blocks code dict sparse lengths packed) list e = e

sparse_bytes : (sub : Sub) (first : ℕ) → sparse_size (record { sub = sub; first = first }) ≡ 6 * length (sparse_in (subtable_of sub))
sparse_bytes (Constant flags byte) first = refl
sparse_bytes (Pairs flags block_bits span_bits extra blocks code dict sparse lengths packed) first = refl

counts_bytes : (sub : Sub) (first : ℕ) → lengths_size (record { sub = sub; first = first }) ≡ 2 * length (counts_in (subtable_of sub))
counts_bytes (Constant flags byte) first = refl
counts_bytes (Pairs flags block_bits span_bits extra blocks code dict sparse lengths packed) first = refl

-- bytes at an offset, and what follows them
module _ (content : List ℕ) (at : ℕ) (first others rest : List ℕ) (there : drop at content ≡ (first ++ others) ++ rest) where
  joint : drop at content ≡ first ++ (others ++ rest)
  joint = there ∙ append_assoc first others rest

  pub taken_here : (n : ℕ) → n ≡ length first → bytes_at content at n ≡ first
  taken_here n e = ap (λ (z : List ℕ). take n z) joint ∙ take_front n first (others ++ rest) (sym e)

  pub left_here : (n : ℕ) → n ≡ length first → drop (at + n) content ≡ others ++ rest
  left_here n e = sym (drop-drop n at content) ∙ ap (λ (z : List ℕ). drop n z) joint ∙ drop_front n first (others ++ rest) (sym e)

-- lists from an offset on, and the number of their bytes
pub record StandFrom (From : List ℕ → ℕ → List PlacedSub → Type 0) (size : PlacedSub → ℕ) (content : List ℕ) (at : ℕ) (subs : List PlacedSub) (bytes : List ℕ) : Type 0 where
  pub are : From content at subs
  pub long : sum_by size subs ≡ length bytes

sparse_stand : (content : List ℕ) (subs : List PlacedSub) (at : ℕ) (bytes rest : List ℕ) → AreSpelled 6 entries_in (kept_sparse subs) bytes → drop at content ≡ bytes ++ rest →
    StandFrom AreSparseFrom sparse_size content at subs bytes
sparse_stand content [] at bytes rest h there = record { are = tt; long = sym (ap (λ (z : List ℕ). length z) h) }
sparse_stand content (placed ∷ subs) at bytes rest (first, others, joined, one, more) there =
    let from : drop at content ≡ (first ++ others) ++ rest = there ∙ ap (λ (z : List ℕ). z ++ rest) joined in
    let size : sparse_size placed ≡ length first = sparse_bytes placed.sub placed.first ∙ sym one.long in
    let later = sparse_stand content subs (at + sparse_size placed) others rest more (left_here content at first others rest from (sparse_size placed) size) in
    record {
      are = (sparse_is placed.sub _ (one.is ∙ ap (λ (z : List ℕ). entries_in z) (sym (taken_here content at first others rest from (sparse_size placed) size))), later.are);
      long = omega (arith, sum_by-cons sparse_size placed subs, size, later.long, ap (λ (z : List ℕ). length z) joined, length-append first others);
    }

counts_stand : (content : List ℕ) (subs : List PlacedSub) (at : ℕ) (bytes rest : List ℕ) → AreSpelled 2 lengths_in (kept_counts subs) bytes → drop at content ≡ bytes ++ rest →
    StandFrom AreLengthsFrom lengths_size content at subs bytes
counts_stand content [] at bytes rest h there = record { are = tt; long = sym (ap (λ (z : List ℕ). length z) h) }
counts_stand content (placed ∷ subs) at bytes rest (first, others, joined, one, more) there =
    let from : drop at content ≡ (first ++ others) ++ rest = there ∙ ap (λ (z : List ℕ). z ++ rest) joined in
    let size : lengths_size placed ≡ length first = counts_bytes placed.sub placed.first ∙ sym one.long in
    let later = counts_stand content subs (at + lengths_size placed) others rest more (left_here content at first others rest from (lengths_size placed) size) in
    record {
      are = (counts_are placed.sub _ (one.is ∙ ap (λ (z : List ℕ). lengths_in z) (sym (taken_here content at first others rest from (lengths_size placed) size))), later.are);
      long = omega (arith, sum_by-cons lengths_size placed subs, size, later.long, ap (λ (z : List ℕ). length z) joined, length-append first others);
    }

-- ---- a whole front

-- the front's last bytes: the sparse indexes, then the block lengths
pub record EndsBy (f : FrontRead) (bytes : List ℕ) : Type 0 where
  pub opening : List ℕ
  pub sparse : List ℕ
  pub counts : List ℕ
  pub bytes_are : bytes ≡ opening ++ (sparse ++ counts)
  pub sparse_spelled : AreSpelled 6 entries_in (all_sparse f.measured) sparse
  pub counts_spelled : AreSpelled 2 lengths_in (all_counts f.measured) counts

front_ends : (material : Sides) (kind : Kind) (f : FrontRead) (bytes filled : List ℕ) → verdict (front_field material kind) 0 bytes ≡ good f filled [] → EndsBy f bytes
front_ends material kind f bytes filled e =
    let o = parts (opening_field material kind) (after_opening material kind) 0 bytes f filled [] e in
    let list : List Begun = begun (slots material kind o.value.parts) o.value.heads in
    let made : List Begun → FrontRead = λ measured. record { byte4 = o.value.byte4; parts = o.value.parts; maps = o.value.maps; measured = measured } in
    let i = parts (each sparse_field list) (λ indexed. each lengths_field indexed >>= λ measured. means (made measured)) (0 + length o.first) o.others f o.other_fill [] o.is_other in
    let m = parts (each lengths_field i.value) (λ measured. means (made measured)) (0 + length o.first + length i.first) i.others f i.other_fill [] i.is_other in
    let last = m.is_other in
    let no_bytes : m.others ≡ [] = cc last in
    let is : made m.value ≡ f = cc last in
    let measured : m.value ≡ f.measured = ap (λ (x : FrontRead). x.measured) is in
    let counted = all_counts_spelled i.value _ m.first m.value m.first_fill m.is_first in
    let lengths : i.others ≡ m.first = m.bytes_are ∙ ap (λ (z : List ℕ). m.first ++ z) no_bytes ∙ append-nil m.first in
    record {
      opening = o.first;
      sparse = i.first;
      counts = m.first;
      bytes_are = o.bytes_are ∙ ap (λ (z : List ℕ). o.first ++ z) (i.bytes_are ∙ ap (λ (z : List ℕ). i.first ++ z) lengths);
      sparse_spelled = subst (λ (z : List Begun). AreSpelled 6 entries_in (all_sparse z) i.first) measured
          (subst (λ (z : List (List SparseEntry)). AreSpelled 6 entries_in z i.first) (sym counted.same) (all_sparse_spelled list _ i.first i.value i.first_fill i.is_first));
      counts_spelled = subst (λ (z : List Begun). AreSpelled 2 lengths_in (all_counts z) m.first) measured counted.counts;
    }

ends_here : (f : FrontRead) (place : ℕ) (content : List ℕ) → place ≤ length content → EndsBy f (take place content) → (subs : List PlacedSub) →
    map (whole_sub content) subs ≡ unread_subs content place f.measured → EndAt content subs place
ends_here f place content inside e subs same =
    let rest : List ℕ = drop place content in
    let all : content ≡ (e.opening ++ (e.sparse ++ e.counts)) ++ rest = sym (take-append-drop place content) ∙ ap (λ (z : List ℕ). z ++ rest) e.bytes_are in
    let first : ℕ = length e.opening in
    let middle : ℕ = first + length e.sparse in
    let after_opening : drop first content ≡ (e.sparse ++ e.counts) ++ rest = ap (λ (z : List ℕ). drop first z) (all ∙ append_assoc e.opening (e.sparse ++ e.counts) rest) ∙ drop_front first e.opening ((e.sparse ++ e.counts) ++ rest) refl in
    let after_sparse : drop middle content ≡ e.counts ++ rest = left_here content first e.sparse e.counts rest after_opening (length e.sparse) refl in
    let sparse = sparse_stand content subs first e.sparse (e.counts ++ rest) (subst (λ (z : List (List SparseEntry)). AreSpelled 6 entries_in z e.sparse) (sym (same_sparse content place f.measured subs same)) e.sparse_spelled)
    (after_opening ∙ append_assoc e.sparse e.counts rest) in
    let counts = counts_stand content subs middle e.counts rest (subst (λ (z : List (List ℕ)). AreSpelled 2 lengths_in z e.counts) (sym (same_counts content place f.measured subs same)) e.counts_spelled) after_sparse in
    let whole : length (take place content) ≡ first + (length e.sparse + length e.counts) = ap (λ (z : List ℕ). length z) e.bytes_are ∙ length-append e.opening (e.sparse ++ e.counts) ∙ ap (λ (n : ℕ). first + n) (length-append e.sparse e.counts) in
    let cut : length (take place content) ≡ place = omega (arith, length-take place content, inside) in
    record {
      first = first;
      middle = middle;
      sparse = sparse.are;
      sparse_end = ap (λ (n : ℕ). first + n) sparse.long;
      lengths = counts.are;
      lengths_end = omega (arith, counts.long, whole, cut);
      inside = inside;
    }

pub end_at : (material : Sides) (kind : Kind) (f : FrontRead) (place : ℕ) (content : List ℕ) → BeginsWithFront material kind f place content → (subs : List PlacedSub) →
    map (whole_sub content) subs ≡ unread_subs content place f.measured → EndAt content subs place
end_at material kind f place content h subs same = ends_here f place content h.inside (front_ends material kind f (take place content) h.filled h.whole) subs same
