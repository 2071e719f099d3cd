-- Ranks of lead pawns, by tables and the ranks of sets.
use Rattle.std.proofs.Common.{◌≡◌, ℕ, suc, ◌+◌, ◌-◌, ◌*◌, ◌<◌, ◌≤◌, inr, List, [], ◌∷◌, length, map, refl, sym, ap, ◌∙◌, subst, Bool, true, arith}
use Rattle.std.specs.Prelude.{Some, slice_get, slice_index, reverse, ◌==◌, nat_le}
use Rattle.std.specs.List.{list_all, range_with_len}
use Rattle.std.proofs.lemmas.Bool.{eqb-true, leb-true}
use Rattle.std.proofs.lemmas.List.FromFn.{get_or-map-range_with_len, length-map-range_with_len}
use Rattle.szg_values.specs.Men.{square_at}
use Rattle.szg_count.specs.Sets.{sets_of, subsets, choose, IsFallingBelow}
use Rattle.szg_count.specs.Leads.{lists_by, after, pawn_order, lead_pawn_sets}
use Rattle.szg_count.specs.Laws.{IsIn}
use Rattle.szg_count.proofs.Counting.{set_count}
use Rattle.szg_count.proofs.Differ.{IsIn-lists_by, IsIn-map}
use Rattle.szg_count.proofs.Free.{range-below}
use Rattle.szg_count.proofs.LeadSets.{pawns_set}
use Rattle.szg_count.proofs.Sizes.{power}
use Rattle.szg_place.specs.declared.lead_pawns.TheConstants.{PAWN_NUMBERS, PAWN_SQUARES, WAYS_BEFORE}
use Rattle.szg_place.proofs.Ranks.Lists.{tested}
use Rattle.szg_place.proofs.Ranks.NumberedSets.{IsNumbering, wider, rank_small, IsIn-get_or, set_numbers, set_placed, set_stated, sizes_before, sizes_same, sizes_more, sizes_all, lists_by-at}

abbrev pub pawn_number : ℕ → ℕ
pawn_number square = slice_index PAWN_NUMBERS square

-- the squares of a file that pawns may have, and the pawn squares that come after the r-th of them
abbrev pub first_squares : ℕ → List ℕ
first_squares file = map (square_at file) (range_with_len 1 6)

abbrev pub first_square : ℕ → ℕ → ℕ
first_square file r = square_at file (1 + r)

abbrev pub following : ℕ → ℕ → List ℕ
following file r = after (first_square file r) pawn_order

-- ---- the tables

abbrev is_numbering : ℕ → ℕ → Bool
is_numbering file r = list_all (λ j. pawn_number (slice_index (reverse (following file r)) j) == j) (range_with_len 0 (length (following file r)))

numbering_test : list_all (λ file. list_all (is_numbering file) (range_with_len 0 6)) (range_with_len 0 4) ≡ true
unfolding after pawn_order
numbering_test = refl

pub after_numbered : (file r : ℕ) → file < 4 → r < 6 → IsNumbering pawn_number (following file r)
after_numbered file r f h j k =
    let a = tested (λ file. list_all (is_numbering file) (range_with_len 0 6)) 4 file numbering_test f in
    let b = tested (is_numbering file) 6 r a h in
    eqb-true (pawn_number (slice_index (reverse (following file r)) j)) j
    (tested (λ j. pawn_number (slice_index (reverse (following file r)) j) == j) (length (following file r)) j b k)

few_test : list_all (λ file. list_all (λ r. nat_le (length (following file r)) 48) (range_with_len 0 6)) (range_with_len 0 4) ≡ true
unfolding after pawn_order
few_test = refl

pub after_fewer : (file r : ℕ) → file < 4 → r < 6 → length (following file r) ≤ 48
after_fewer file r f h =
    let a = tested (λ file. list_all (λ r. nat_le (length (following file r)) 48) (range_with_len 0 6)) 4 file few_test f in
    leb-true (length (following file r)) 48 (tested (λ r. nat_le (length (following file r)) 48) 6 r a h)

pub after_few : (file r : ℕ) → file < 4 → r < 6 → length (following file r) ≤ 64
after_few file r f h = let k = after_fewer file r f h in omega (arith, k)

abbrev pub ways_from : ℕ → ℕ → ℕ → ℕ
ways_from k file r = sizes_before (λ q. choose (length (after q pawn_order)) k) (first_squares file) r

abbrev is_way : ℕ → ℕ → ℕ → Bool
is_way k file r = slice_index WAYS_BEFORE (24 * k + 6 * file + r) == ways_from k file r

ways_test : list_all (λ k. list_all (λ file. list_all (is_way k file) (range_with_len 0 6)) (range_with_len 0 4)) (range_with_len 0 4) ≡ true
unfolding after pawn_order choose
ways_test = refl

pub ways_stated : (k file r : ℕ) → k < 4 → file < 4 → r < 6 → slice_index WAYS_BEFORE (24 * k + 6 * file + r) ≡ ways_from k file r
ways_stated k file r a b h =
    let x = tested (λ k. list_all (λ file. list_all (is_way k file) (range_with_len 0 6)) (range_with_len 0 4)) 4 k ways_test a in
    let y = tested (λ file. list_all (is_way k file) (range_with_len 0 6)) 4 file x b in
    eqb-true (slice_index WAYS_BEFORE (24 * k + 6 * file + r)) (ways_from k file r) (tested (is_way k file) 6 r y h)

abbrev is_first_way : ℕ → ℕ → Bool
is_first_way file r = slice_index WAYS_BEFORE (6 * file + r) == r

first_ways_test : list_all (λ file. list_all (is_first_way file) (range_with_len 0 6)) (range_with_len 0 4) ≡ true
first_ways_test = refl

-- one pawn has one set for each lower rank
pub one_way : (file r : ℕ) → file < 4 → r < 6 → slice_index WAYS_BEFORE (6 * file + r) ≡ r
one_way file r a h =
    let x = tested (λ file. list_all (is_first_way file) (range_with_len 0 6)) 4 file first_ways_test a in
    eqb-true (slice_index WAYS_BEFORE (6 * file + r)) r (tested (is_first_way file) 6 r x h)

-- ---- the sets

-- a set of lead pawns: the first one's rank, and the rest
pub record IsPawnLead (k file : ℕ) (set : List ℕ) : Type 0 where
  pub r : ℕ
  pub rest : List ℕ
  pub rank : r < 6
  pub is : set ≡ first_square file r ∷ rest
  pub others : IsIn rest (sets_of (k - 1) (following file r))

pub pawn_parts : (k file : ℕ) (set : List ℕ) → IsIn set (lead_pawn_sets k file) → IsPawnLead k file set
unfolding lead_pawn_sets
pawn_parts k file set h =
    let p = IsIn-lists_by (first_squares file) (λ q. sets_of (k - 1) (after q pawn_order)) set h in
    let m = IsIn-map (square_at file) (range_with_len 1 6) p.0 p.3 in
    let b = range-below 1 6 m.0 m.1 in
    let e : 1 + (m.0 - 1) ≡ m.0 = omega (arith, b) in
    let q : p.0 ≡ first_square file (m.0 - 1) = m.2 ∙ ap (square_at file) (sym e) in
    record {
      r = m.0 - 1;
      rest = p.1;
      rank = omega (arith, b);
      is = p.2 ∙ ap (λ x. x ∷ p.1) q;
      others = subst (λ (x : ℕ). IsIn p.1 (sets_of (k - 1) (after x pawn_order))) q p.4;
    }

-- the values P of the pawns after the first
pub record IsRest (k file r : ℕ) (rest : List ℕ) : Type 0 where
  pub few : length (map pawn_number rest) ≡ k - 1
  pub within : IsFallingBelow (length (following file r)) (map pawn_number rest)
  pub falling : IsFallingBelow 64 (map pawn_number rest)

pub rest_numbers : (k file r : ℕ) (rest : List ℕ) → file < 4 → r < 6 → IsIn rest (sets_of (k - 1) (following file r)) → IsRest k file r rest
rest_numbers k file r rest f h i =
    let n = set_numbers pawn_number (following file r) (k - 1) rest (after_numbered file r f h) i in record {
      few = n.size;
      within = n.falling;
      falling = wider (length (following file r)) 64 (map pawn_number rest) (after_few file r f h) n.falling;
    }

pub rest_inside : (k file : ℕ) (set rest : List ℕ) (q : ℕ) → 0 < k → file < 4 → IsIn set (lead_pawn_sets k file) → set ≡ q ∷ rest → (j : ℕ) → j < length rest → slice_index rest j < 64
rest_inside k file set rest q a f h e j m =
    (pawns_set k file set a f h).inside (slice_index rest j) (subst (λ (l : List ℕ). IsIn (slice_index rest j) l) (sym e) (inr (IsIn-get_or rest j 0 m)))

-- a rank is below the bound
pub rest_small : (k file r j : ℕ) (rest : List ℕ) → k ≤ 4 → file < 4 → r < 6 → IsRest k file r rest →
    slice_get (subsets (length (following file r)) (length (map pawn_number rest))) j ≡ Some (map pawn_number rest) → j < power 6
rest_small k file r j rest b f h p e = let n = p.few in
    rank_small (length (following file r)) (length (map pawn_number rest)) j (map pawn_number rest) (after_few file r f h) (omega (arith, n, b)) e

at_first : (file r : ℕ) → r < 6 → slice_index (first_squares file) r ≡ first_square file r
at_first file r h = get_or-map-range_with_len (square_at file) 1 6 r (1 + r) 0 h refl

many_firsts : (file : ℕ) → length (first_squares file) ≡ 6
many_firsts file = length-map-range_with_len (square_at file) 1 6

-- the lists of a file, one after another by the square of the lead pawn
lead_list_at : (k file r j : ℕ) (rest : List ℕ) → 0 < k → k ≤ 4 → file < 4 → r < 6 → slice_get (sets_of (k - 1) (following file r)) j ≡ Some rest →
    slice_get (lead_pawn_sets k file) (slice_index WAYS_BEFORE (24 * (k - 1) + 6 * file + r) + j) ≡ Some (first_square file r ∷ rest)
unfolding lead_pawn_sets
lead_list_at k file r j rest a b f h at =
    let rests = λ (q : ℕ). sets_of (k - 1) (after q pawn_order) in
    let here = at_first file r h in
    let many = many_firsts file in
    let stated : slice_index WAYS_BEFORE (24 * (k - 1) + 6 * file + r) ≡ sizes_before (λ x. length (rests x)) (first_squares file) r =
    ways_stated (k - 1) file r (omega (arith, a, b)) f h
    ∙ sizes_same (λ q. choose (length (after q pawn_order)) (k - 1)) (λ x. length (rests x)) (first_squares file) r (λ x. sym (set_count (k - 1) (after x pawn_order))) in
    ap (λ n. slice_get (lists_by (first_squares file) rests) (n + j)) stated
    ∙ lists_by-at (first_squares file) rests r j rest (omega (arith, h, many)) (subst (λ (q : ℕ). slice_get (rests q) j ≡ Some rest) (sym here) at)
    ∙ ap (λ q. Some (q ∷ rest)) here

pub lead_pawns_placed : (k file r j : ℕ) (rest : List ℕ) → 0 < k → k ≤ 4 → file < 4 → r < 6 → IsIn rest (sets_of (k - 1) (following file r)) →
    slice_get (subsets (length (following file r)) (length (map pawn_number rest))) j ≡ Some (map pawn_number rest) →
    slice_get (lead_pawn_sets k file) (slice_index WAYS_BEFORE (24 * (k - 1) + 6 * file + r) + j) ≡ Some (first_square file r ∷ rest)
lead_pawns_placed k file r j rest a b f h i e =
    let numbered = set_numbers pawn_number (following file r) (k - 1) rest (after_numbered file r f h) i in
    let at = set_placed pawn_number (following file r) (k - 1) j rest numbered e in
    lead_list_at k file r j rest a b f h at

-- ---- unranking

first_test : list_all (λ file. list_all (λ r. pawn_number (first_square file r) == length (following file r)) (range_with_len 0 6)) (range_with_len 0 4) ≡ true
unfolding after pawn_order
first_test = refl

pub first_number : (file r : ℕ) → file < 4 → r < 6 → pawn_number (first_square file r) ≡ length (following file r)
first_number file r f h =
    let a = tested (λ file. list_all (λ r. pawn_number (first_square file r) == length (following file r)) (range_with_len 0 6)) 4 file first_test f in
    eqb-true (pawn_number (first_square file r)) (length (following file r)) (tested (λ r. pawn_number (first_square file r) == length (following file r)) 6 r a h)

-- the number of sets up to a rank of the board, by the number up to the rank before
pub ways_more : (k file r : ℕ) → file < 4 → r < 6 → ways_from k file (suc r) ≡ ways_from k file r + choose (pawn_number (first_square file r)) k
ways_more k file r f h =
    sizes_more (λ q. choose (length (after q pawn_order)) k) (first_squares file) r (let m = many_firsts file in omega (arith, h, m))
    ∙ ap (λ q. ways_from k file r + choose (length (after q pawn_order)) k) (at_first file r h)
    ∙ ap (λ n. ways_from k file r + choose n k) (sym (first_number file r f h))

pub ways_all : (k file : ℕ) → length (lead_pawn_sets k file) ≡ ways_from (k - 1) file 6
unfolding lead_pawn_sets
ways_all k file =
    sizes_all (first_squares file) (λ q. sets_of (k - 1) (after q pawn_order)) 6 (sym (many_firsts file))
    ∙ sizes_same (λ x. length (sets_of (k - 1) (after x pawn_order))) (λ q. choose (length (after q pawn_order)) (k - 1)) (first_squares file) 6 (λ x. set_count (k - 1) (after x pawn_order))

abbrev is_square_at : ℕ → ℕ → ℕ → Bool
is_square_at file r j = slice_index (reverse (following file r)) j == slice_index PAWN_SQUARES j

squares_test : list_all (λ file. list_all (λ r. list_all (is_square_at file r) (range_with_len 0 (length (following file r)))) (range_with_len 0 6)) (range_with_len 0 4) ≡ true
unfolding after pawn_order
squares_test = refl

squares_following : (file r j : ℕ) → file < 4 → r < 6 → j < length (following file r) → slice_index (reverse (following file r)) j ≡ slice_index PAWN_SQUARES j
squares_following file r j f h k =
    let a = tested (λ file. list_all (λ r. list_all (is_square_at file r) (range_with_len 0 (length (following file r)))) (range_with_len 0 6)) 4 file squares_test f in
    let b = tested (λ r. list_all (is_square_at file r) (range_with_len 0 (length (following file r)))) 6 r a h in
    eqb-true (slice_index (reverse (following file r)) j) (slice_index PAWN_SQUARES j) (tested (is_square_at file r) (length (following file r)) j b k)

map_below : (f g : ℕ → ℕ) (n : ℕ) (set : List ℕ) → ((j : ℕ) → j < n → f j ≡ g j) → IsFallingBelow n set → map f set ≡ map g set
map_below f g n [] h k = refl
map_below f g n (x ∷ set) h k =
    let a = h x k.0 in let l = k.0 in let b = map_below f g x set (λ j m. h j (omega (arith, l, m))) k.1 in (λ i. a i ∷ b i)

pub lead_pawns_found : (k file r j : ℕ) (nums : List ℕ) → 0 < k → k ≤ 4 → file < 4 → r < 6 → IsFallingBelow (length (following file r)) nums →
    slice_get (subsets (length (following file r)) (k - 1)) j ≡ Some nums →
    slice_get (lead_pawn_sets k file) (slice_index WAYS_BEFORE (24 * (k - 1) + 6 * file + r) + j) ≡ Some (first_square file r ∷ map (slice_index PAWN_SQUARES) nums)
lead_pawns_found k file r j nums a b f h fall e =
    let rest = map (slice_index PAWN_SQUARES) nums in
    let same : map (slice_index (reverse (following file r))) nums ≡ rest =
    map_below (slice_index (reverse (following file r))) (slice_index PAWN_SQUARES) (length (following file r)) nums (λ n m. squares_following file r n f h m) fall in
    let at : slice_get (sets_of (k - 1) (following file r)) j ≡ Some rest = set_stated (following file r) (k - 1) j nums e ∙ ap Some same in
    lead_list_at k file r j rest a b f h at
