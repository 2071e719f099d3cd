-- Subtables that are put in place one after another.
use Rattle.std.proofs.Common.{◌≡◌, ℕ, suc, ◌+◌, ◌-◌, ◌<◌, ◌≤◌, List, [], ◌∷◌, ◌++◌, length, take, drop, get_or, sum_by, sym, ap, subst, ◌∙◌, arith, drop-cons, IfSome}
use Rattle.std.proofs.lemmas.List.Sums.{sum_by-cons}
use Rattle.szg_block.specs.BlocksTrait.{bytes_at}
use Rattle.szg_block.specs.Subtable.{layout_of}
use Rattle.szg_file.specs.Accepted.{SideBySide}
use Rattle.szg_file.specs.Held.{subtable_of}
use Rattle.szg_mapped.specs.InPlace.{entries_in, header_of, lengths_in, lengths_size, sparse_size, AreLengthsFrom, AreSparseFrom, EndAt, Stands}
use Rattle.szg_mapped.specs.declared.in_place.SubInPlace.{SubInPlace}
use Rattle.szg_file.specs.declared.reading.dropping.PlacedSub.{PlacedSub}
use Rattle.szg_file.proofs.Readers.LoopReads.{taken_next}
use Rattle.szg_file.proofs.Tables.AssembledLaws.{side-append}

-- where the lists begin, given the offset where they end
module _ (content : List ℕ) (subs : List PlacedSub) (place sparse_bytes length_bytes : ℕ) (h : EndAt content subs place) (sparse : sparse_bytes ≡ sum_by sparse_size subs) (lengths : length_bytes ≡ sum_by lengths_size subs) where
  pub lengths_begin : place - length_bytes ≡ h.middle
  lengths_begin = omega (arith, h.lengths_end, lengths)

  pub sparse_begins : place - length_bytes - sparse_bytes ≡ h.first
  sparse_begins = omega (arith, h.lengths_end, lengths, h.sparse_end, sparse)

  pub few_bytes : sum_by sparse_size subs + sum_by lengths_size subs ≤ length content
  few_bytes = omega (arith, h.lengths_end, h.sparse_end, h.inside)

-- the bytes between two offsets
pub between_at : (content : List ℕ) (at size count : ℕ) → size ≡ count → take (at + size - at) (drop at content) ≡ bytes_at content at count
between_at content at size count e =
    let n : at + size - at ≡ count = omega (arith, e) in
    ap (λ (k : ℕ). take k (drop at content)) n

-- the next subtable, and its lists at these offsets
module _ (content : List ℕ) (subs : List PlacedSub) (n : ℕ) (placed : PlacedSub) (there : n < length subs) (is : placed ≡ get_or subs n placed) where
  pub rest_is : drop n subs ≡ placed ∷ drop (suc n) subs
  rest_is = drop-cons subs n placed there ∙ ap (λ (y : PlacedSub). y ∷ drop (suc n) subs) (sym is)

  pub ends_within : (size : PlacedSub → ℕ) (at : ℕ) → at + sum_by size (drop n subs) ≤ length content → at + size placed + sum_by size (drop (suc n) subs) ≤ length content
  ends_within size at h = omega (arith, h, ap (λ (l : List PlacedSub). sum_by size l) rest_is, sum_by-cons size placed (drop (suc n) subs))

  pub ends_after : (size : PlacedSub → ℕ) (at m count : ℕ) → m ≡ n + 1 → count ≡ size placed → at + sum_by size (drop n subs) ≤ length content → at + count + sum_by size (drop m subs) ≤ length content
  ends_after size at m count e same h =
      let k : suc n ≡ m = omega (arith, e) in
      subst (λ (i : ℕ). at + count + sum_by size (drop i subs) ≤ length content) k (omega (arith, ends_within size at h, same))

  pub put_more : (put put' : List SubInPlace) (sub : SubInPlace) (m : ℕ) → put' ≡ put ++ sub ∷ [] → m ≡ n + 1 → SideBySide Stands (take n subs) put → Stands placed sub → SideBySide Stands (take m subs) put'
  put_more put put' sub m pushed e before here =
      let taken : take m subs ≡ take n subs ++ placed ∷ [] = ap (λ (k : ℕ). take k subs) e ∙ taken_next subs n placed there is in
      subst (λ (l : List SubInPlace). SideBySide Stands (take m subs) l) (sym pushed)
      (subst (λ (l : List PlacedSub). SideBySide Stands l (put ++ sub ∷ [])) (sym taken) (side-append Stands (take n subs) put placed sub before here))

  module _ (sparse_at lengths_at : ℕ) (sparse : AreSparseFrom content sparse_at (drop n subs)) (lengths : AreLengthsFrom content lengths_at (drop n subs)) where
    sparse_next : AreSparseFrom content sparse_at (placed ∷ drop (suc n) subs)
    sparse_next = subst (λ (l : List PlacedSub). AreSparseFrom content sparse_at l) rest_is sparse

    lengths_next : AreLengthsFrom content lengths_at (placed ∷ drop (suc n) subs)
    lengths_next = subst (λ (l : List PlacedSub). AreLengthsFrom content lengths_at l) rest_is lengths

    pub sparse_after : (m size : ℕ) → m ≡ n + 1 → size ≡ sparse_size placed → AreSparseFrom content (sparse_at + size) (drop m subs)
    sparse_after m size e same =
        let k : suc n ≡ m = omega (arith, e) in
        subst (λ (i : ℕ). AreSparseFrom content (sparse_at + size) (drop i subs)) k (subst (λ (s : ℕ). AreSparseFrom content (sparse_at + s) (drop (suc n) subs)) (sym same) sparse_next.1)

    pub lengths_after : (m size : ℕ) → m ≡ n + 1 → size ≡ lengths_size placed → AreLengthsFrom content (lengths_at + size) (drop m subs)
    lengths_after m size e same =
        let k : suc n ≡ m = omega (arith, e) in
        subst (λ (i : ℕ). AreLengthsFrom content (lengths_at + size) (drop i subs)) k (subst (λ (s : ℕ). AreLengthsFrom content (lengths_at + s) (drop (suc n) subs)) (sym same) lengths_next.1)

    pub one_stands : (sub : SubInPlace) → sub.placed.first ≡ placed.first → subtable_of sub.placed.sub ≡ header_of (subtable_of placed.sub) → sub.index.sparse.now ≡ bytes_at content sparse_at (sparse_size placed) →
        sub.index.lengths.now ≡ bytes_at content lengths_at (lengths_size placed) → Stands placed sub
    one_stands sub first head sparse_is lengths_are = record {
      first = first;
      head = head;
      sparse = subst (λ (z : List ℕ). IfSome (layout_of placed.sub) (λ layout. layout.sparse ≡ entries_in z)) (sym sparse_is) sparse_next.0;
      lengths = subst (λ (z : List ℕ). IfSome (layout_of placed.sub) (λ layout. layout.lengths ≡ lengths_in z)) (sym lengths_are) lengths_next.0;
    }
