-- The men of an index are already in normal form.
use Rattle.std.proofs.Common.{◌≡◌, ℕ, zero, suc, ◌-◌, ◌<◌, ◌↔◌, inl, inr, List, [], ◌∷◌, ◌++◌, length, map, take, refl, sym, ap, ◌∙◌, subst, Bool, true, false, cond, arith}
use Rattle.std.specs.Prelude.{filter, ◌==◌, nat_lt, min, slice_index}
use Rattle.std.specs.List.{concat, range_with_len}
use Rattle.std.proofs.Math.Bool.{not, ◌&&◌, ◌||◌, and-false}
use Rattle.std.proofs.lemmas.Bool.{cases_Bool, eqb-true, eq-eqb, ne_eqb, ltb-true, le-ltb, and_parts, not-true, false_from_ne_true}
use Rattle.szg_values.specs.Men.{file_of, rank_of, square_at}
use Rattle.szg_values.specs.Material.{Sides, IsMaterial, has_pawns, has_single_lead, count_of, man_codes, lead_pawns, lead_pawn_code}
use Rattle.szg_count.specs.Sets.{sets_of}
use Rattle.szg_count.specs.Leads.{contains, squares, squares_down, pawn_squares, pawn_order, after, is_on_diagonal, is_below_diagonal, is_touching, is_mirrored, is_both_on_diagonal, diagonal, below_diagonal, triangle_below, triangle_diagonal, lists_by, no_more, triples_from, triples, pairs_from, king_pairs, lead_pawn_sets}
use Rattle.szg_count.specs.Groups.{IsPart, groups_of, lead_sets, lead_length, is_rearrangement, has_pawns_first}
use Rattle.szg_count.specs.Laws.{IsIn, AllDiffer}
use Rattle.szg_count.proofs.Differ.{IsIn-append, IsIn-filter, IsIn-sets_of, IsIn-lists_by, IsIn-triples_from, AllDiffer-pawn_order, contains_it}
use Rattle.szg_count.proofs.Free.{contains-IsIn}
use Rattle.szg_place.specs.Normal.{CodedMan, squares_with, lead_squares, normal_pieces, squares_by_group, part_of, is_first_above, with_file, with_rank, with_reflection, moved, flip_file, flip_rank, reflect}
use Rattle.szg_place.specs.Spots.{ordered_sets}
use Rattle.szg_place.specs.Ranks.{EachInList}
use Rattle.szg_place.proofs.Ranks.Lists.{all-IsIn, filter-same, filter-set, IsIn-map_back}
use Rattle.szg_place.proofs.Ranks.Ways.{laid_none, lead_pawns_order}
use Rattle.szg_place.proofs.MenOnSlots.Pieces.{IsStood, is_valid, is_pawn_code}
use Rattle.szg_place.proofs.Symmetries.Flips.{IsLow, SlottedMen, slots_of}
use Rattle.szg_place.proofs.Symmetries.PawnLead.{lead_pawns_with, normal_pawns, part_pawns}
use Rattle.szg_count.proofs.Rearranged.{count_of-in, rearranged_counts}
use Rattle.szg_place.proofs.MenOnSlots.Codes.{IsOwn, Parted, later_groups, concat-groups, lead_length-pawns}
use Rattle.szg_place.proofs.MenOnSlots.Standing.{count-map}
use Rattle.szg_place.proofs.Symmetries.Normals.{IsFit, lead_only, lead_pawns-count}
use Rattle.szg_place.proofs.Placements.Stated.{pair, paired, sized, paired-squares, paired-codes, pair-in, laid_all, later_again, valid_there, pawns_placed, man_on}

clash : (b : Bool) → b ≡ true → b ≡ false → ⊥
clash true e f = cc
clash false e f = cc

-- ---- the lists of lead squares are lists of flipped squares

below_facts : (x : ℕ) → IsIn x below_diagonal → (is_on_diagonal x ≡ false) × (nat_lt (file_of x) (rank_of x) ≡ false)
unfolding below_diagonal
below_facts x h = let k = ltb-true (rank_of x) (file_of x) (IsIn-filter is_below_diagonal squares x h).1 in
    (ne_eqb (rank_of x) (file_of x) (λ e. absurd (omega (arith, e, k))), le-ltb (file_of x) (rank_of x) (omega (arith, k)))

diagonal_fact : (x : ℕ) → IsIn x diagonal → is_on_diagonal x ≡ true
unfolding diagonal
diagonal_fact x h = (IsIn-filter is_on_diagonal squares x h).1

record IsCorner (x : ℕ) : Type 0 where
  file : file_of x < 4
  rank : rank_of x < 4

corner_below : (x : ℕ) → IsIn x triangle_below → IsCorner x × (is_on_diagonal x ≡ false) × (nat_lt (file_of x) (rank_of x) ≡ false)
corner_below x h = (
  record { file = ltb-true (file_of x) 4 (all-IsIn (λ y. nat_lt (file_of y) 4) triangle_below x refl h); rank = ltb-true (rank_of x) 4 (all-IsIn (λ y. nat_lt (rank_of y) 4) triangle_below x refl h) },
  not-true (is_on_diagonal x) (all-IsIn (λ y. not (is_on_diagonal y)) triangle_below x refl h),
  not-true (nat_lt (file_of x) (rank_of x)) (all-IsIn (λ y. not (nat_lt (file_of y) (rank_of y))) triangle_below x refl h),
)

corner_diagonal : (x : ℕ) → IsIn x triangle_diagonal → IsCorner x × (is_on_diagonal x ≡ true)
corner_diagonal x h = (
  record { file = ltb-true (file_of x) 4 (all-IsIn (λ y. nat_lt (file_of y) 4) triangle_diagonal x refl h); rank = ltb-true (rank_of x) 4 (all-IsIn (λ y. nat_lt (rank_of y) 4) triangle_diagonal x refl h) },
  all-IsIn is_on_diagonal triangle_diagonal x refl h,
)

low_from : (s : ℕ) (ss set : List ℕ) → set ≡ s ∷ ss → IsCorner s → is_first_above (s ∷ ss) ≡ false → IsLow set
low_from s ss set e c b = subst (λ (l : List ℕ). IsLow l) (sym e) (record { file = c.file; rank = c.rank; below = b })

pub triples_low : (set : List ℕ) → IsIn set triples → IsLow set
unfolding triples
triples_low set h =
    let a = triples_from triangle_below squares squares in
    let b = triples_from triangle_diagonal below_diagonal squares in
    let c = triples_from triangle_diagonal diagonal below_diagonal in
    let d = triples_from triangle_diagonal diagonal diagonal in
    elim (IsIn-append set (a ++ b ++ c) d h) [
      | inl k ↦ elim (IsIn-append set (a ++ b) c k) [
        | inl l ↦ elim (IsIn-append set a b l) [
          | inl m ↦ let r = IsIn-triples_from set triangle_below squares squares m in let s = corner_below r.s r.in_first in
              low_from r.s (r.t ∷ r.u ∷ []) set r.is s.0 (let x = s.1 in let y = s.2 in rw (x, y) refl)
          | inr m ↦ let r = IsIn-triples_from set triangle_diagonal below_diagonal squares m in let s = corner_diagonal r.s r.in_first in let t = below_facts r.t r.in_second in
              low_from r.s (r.t ∷ r.u ∷ []) set r.is s.0 (let x = s.1 in let y = t.0 in let z = t.1 in rw (x, y, z) refl)
        ]
        | inr l ↦ let r = IsIn-triples_from set triangle_diagonal diagonal below_diagonal l in let s = corner_diagonal r.s r.in_first in let t = diagonal_fact r.t r.in_second in let u = below_facts r.u r.in_third in
            low_from r.s (r.t ∷ r.u ∷ []) set r.is s.0 (let x = s.1 in let y = u.0 in let z = u.1 in rw (x, t, y, z) refl)
      ]
      | inr k ↦ let r = IsIn-triples_from set triangle_diagonal diagonal diagonal k in let s = corner_diagonal r.s r.in_first in let t = diagonal_fact r.t r.in_second in let u = diagonal_fact r.u r.in_third in
          low_from r.s (r.t ∷ r.u ∷ []) set r.is s.0 (let x = s.1 in rw (x, t, u) refl)
    ]

-- a pair of kings in normal form, on squares that are not neighbours
pub record IsPairApart (set : List ℕ) : Type 0 where
  pub low : IsLow set
  pub apart : is_touching (slice_index set 0) (slice_index set 1) ≡ false

first_below : (s t : ℕ) → IsIn s (triangle_below ++ triangle_diagonal) → is_mirrored s t ≡ false → is_first_above (s ∷ t ∷ []) ≡ false
first_below s t h e = elim (IsIn-append s triangle_below triangle_diagonal h) [
  | inl l ↦ let c = corner_below s l in let x = c.1 in let y = c.2 in rw (x, y) refl
  | inr l ↦ let c = corner_diagonal s l in let x = c.1 in
      let z : nat_lt (file_of t) (rank_of t) ≡ false = second (is_on_diagonal s) (nat_lt (file_of t) (rank_of t)) x e in rw (x, z) (either (is_on_diagonal t))
] where
  second : (a b : Bool) → a ≡ true → (a && b) ≡ false → b ≡ false
  second true b e f = f
  second false b e f = cc

  either : (b : Bool) → cond b false false ≡ false
  either true = refl
  either false = refl

corner_of : (s : ℕ) → IsIn s (triangle_below ++ triangle_diagonal) → IsCorner s
corner_of s h = elim (IsIn-append s triangle_below triangle_diagonal h) [ inl l ↦ (corner_below s l).0 | inr l ↦ (corner_diagonal s l).0 ]

nothing : (rest : List ℕ) → IsIn rest ([] ∷ []) → rest ≡ []
nothing rest (inl e) = e
nothing rest (inr h) = absurd h

pair_low : (x : ℕ → ℕ → Bool) (set : List ℕ) → IsIn set (pairs_from (λ a b. not (is_touching a b) && not (is_mirrored a b) && x a b)) → IsPairApart set
pair_low x set h =
    let passes : ℕ → ℕ → Bool = λ a b. not (is_touching a b) && not (is_mirrored a b) && x a b in
    let p = IsIn-lists_by (triangle_below ++ triangle_diagonal) (λ a. lists_by (filter (passes a) squares) no_more) set h in
    let q = IsIn-lists_by (filter (passes p.0) squares) no_more p.1 p.4 in
    let r = IsIn-filter (passes p.0) squares q.0 q.3 in
    let is : set ≡ p.0 ∷ q.0 ∷ [] = p.2 ∙ ap (λ l. p.0 ∷ l) q.2 ∙ ap (λ l. p.0 ∷ q.0 ∷ l) (nothing q.1 q.4) in
    let t = and_parts (not (is_touching p.0 q.0) && not (is_mirrored p.0 q.0)) (x p.0 q.0) r.1 in
    let u = and_parts (not (is_touching p.0 q.0)) (not (is_mirrored p.0 q.0)) t.0 in
    subst (λ (l : List ℕ). IsPairApart l) (sym is) (record {
      low = record { file = (corner_of p.0 p.3).file; rank = (corner_of p.0 p.3).rank; below = first_below p.0 q.0 p.3 (not-true (is_mirrored p.0 q.0) u.1) };
      apart = not-true (is_touching p.0 q.0) u.0;
    })

pub king_pairs_low : (set : List ℕ) → IsIn set king_pairs → IsPairApart set
unfolding king_pairs
king_pairs_low set h = elim (IsIn-append set (pairs_from (λ a b. not (is_touching a b) && not (is_mirrored a b) && not (is_both_on_diagonal a b)))
    (pairs_from (λ a b. not (is_touching a b) && not (is_mirrored a b) && is_both_on_diagonal a b)) h) [
      | inl l ↦ pair_low (λ a b. not (is_both_on_diagonal a b)) set l
      | inr r ↦ pair_low is_both_on_diagonal set r
    ]

low_either : (b : Bool) (set : List ℕ) → IsIn set (cond b triples king_pairs) → IsLow set
low_either true set h = triples_low set h
low_either false set h = (king_pairs_low set h).low

pub low_set : (sides : Sides) (part : ℕ) (set : List ℕ) → has_pawns sides ≡ false → IsIn set (lead_sets sides part) → IsLow set
unfolding lead_sets
low_set sides part set e h = low_either (has_single_lead sides) set (subst (λ (b : Bool). IsIn set (cond b (lead_pawn_sets (lead_pawns sides) part) (cond (has_single_lead sides) triples king_pairs))) e h)

-- ---- the lead squares of lead pawns

filter_lead : (q r : ℕ) (rest order : List ℕ) → AllDiffer order → IsIn q order → IsIn rest (sets_of r (after q order)) → filter (contains (q ∷ rest)) order ≡ q ∷ rest
unfolding after
filter_lead q r rest [] d h i = absurd h
filter_lead q r rest (y ∷ ys) d h i = elim (cases_Bool (q == y)) [
  | inl t ↦ let e = eqb-true q y t in
      let j : IsIn rest (sets_of r ys) = rw t at i in
      let first : contains (q ∷ rest) y ≡ true = contains_it y (q ∷ rest) (inl (sym e)) in
      let more : filter (contains (q ∷ rest)) ys ≡ rest =
      filter-same (contains (q ∷ rest)) (contains rest) ys (λ x k. ap (λ b. b || contains rest x) (false_from_ne_true (x == q) (λ s. d.0 (subst (λ (n : ℕ). IsIn n ys) (eqb-true x q s ∙ e) k))))
      ∙ filter-set r ys rest d.1 j in
      ap (λ b. cond b (y ∷ filter (contains (q ∷ rest)) ys) (filter (contains (q ∷ rest)) ys)) first
      ∙ ap (λ l. y ∷ l) more ∙ ap (λ n. n ∷ rest) (sym e)
  | inr n ↦ let j : IsIn rest (sets_of r (after q ys)) = rw n at i in
      let there : IsIn q ys = elim h [ inl e ↦ absurd (clash (q == y) (eq-eqb q y e) n) | inr k ↦ k ] in
      let out : contains (q ∷ rest) y ≡ false = false_from_ne_true (contains (q ∷ rest) y) (λ c. elim (contains-IsIn y (q ∷ rest) c) [
        | inl e ↦ clash (q == y) (eq-eqb q y (sym e)) n
        | inr k ↦ d.0 (in_after q y ys (IsIn-sets_of r (after q ys) rest y j k))
      ]) in
      ap (λ b. cond b (y ∷ filter (contains (q ∷ rest)) ys) (filter (contains (q ∷ rest)) ys)) out ∙ filter_lead q r rest ys d.1 there j
] where
  in_after : (x y : ℕ) (xs : List ℕ) → IsIn y (after x xs) → IsIn y xs
  in_after x y [] h = absurd h
  in_after x y (z ∷ xs) h = later (x == z) (in_after x y xs) h where
    later : (b : Bool) → (IsIn y (after x xs) → IsIn y xs) → IsIn y (cond b xs (after x xs)) → IsIn y (z ∷ xs)
    later true f k = inr k
    later false f k = inr (f k)

-- a set of lead pawns: its first square is on the file, and listing the set in pawn order returns it
pub record IsPawnSet (file : ℕ) (set : List ℕ) : Type 0 where
  pub first : ℕ
  pub rest : List ℕ
  pub is : set ≡ first ∷ rest
  pub on : file_of first ≡ file
  pub again : filter (contains set) pawn_order ≡ set

on_file : (file : ℕ) → file < 4 → (x : ℕ) → IsIn x (map (square_at file) (range_with_len 1 6)) → file_of x ≡ file
on_file zero h x i = eqb-true (file_of x) 0 (all-IsIn (λ y. file_of y == 0) (map (square_at 0) (range_with_len 1 6)) x refl i)
on_file (suc zero) h x i = eqb-true (file_of x) 1 (all-IsIn (λ y. file_of y == 1) (map (square_at 1) (range_with_len 1 6)) x refl i)
on_file (suc (suc zero)) h x i = eqb-true (file_of x) 2 (all-IsIn (λ y. file_of y == 2) (map (square_at 2) (range_with_len 1 6)) x refl i)
on_file (suc (suc (suc zero))) h x i = eqb-true (file_of x) 3 (all-IsIn (λ y. file_of y == 3) (map (square_at 3) (range_with_len 1 6)) x refl i)
on_file (suc (suc (suc (suc file)))) h x i = absurd (omega arith)

pawn_set_again : (k file : ℕ) (set : List ℕ) → file < 4 → ((x : ℕ) → IsIn x set → IsIn x pawn_order) → IsIn set (lead_pawn_sets k file) → IsPawnSet file set
unfolding lead_pawn_sets
pawn_set_again k file set f inside h =
    let p = IsIn-lists_by (map (square_at file) (range_with_len 1 6)) (λ q. sets_of (k - 1) (after q pawn_order)) set h in
    record {
      first = p.0;
      rest = p.1;
      is = p.2;
      on = on_file file f p.0 p.3;
      again = ap (λ (l : List ℕ). filter (contains l) pawn_order) p.2
          ∙ filter_lead p.0 (k - 1) p.1 pawn_order AllDiffer-pawn_order (inside p.0 (subst (λ (l : List ℕ). IsIn p.0 l) (sym p.2) (inl refl))) p.4 ∙ sym p.2;
    }

pub pawn_set : (sides : Sides) (part : ℕ) (set : List ℕ) → has_pawns sides ≡ true → IsPart sides part → IsIn set (lead_sets sides part) → IsPawnSet part set
unfolding lead_sets
pawn_set sides part set e q h = pawn_set_again (lead_pawns sides) part set (subst (λ (b : Bool). part < cond b 4 1) e q) (lead_pawns_order sides part set e q h)
    (subst (λ (b : Bool). IsIn set (cond b (lead_pawn_sets (lead_pawns sides) part) (cond (has_single_lead sides) triples king_pairs))) e h)

-- ---- men of an index

-- a valid order, and squares that are in its groups' ordered lists
pub record IsListed (sides : Sides) (part : ℕ) (men lead set : List ℕ) (later sets : List (List ℕ)) : Type 0 where
  pub material : IsMaterial sides
  pub has_part : IsPart sides part
  pub is_lead : lead ≡ take (lead_length sides) men
  pub is_later : later ≡ later_groups sides men
  pub pieces : is_rearrangement men (man_codes sides) ≡ true
  pub pawns : has_pawns_first sides men ≡ true
  pub fits : IsFit sides men
  pub lists : EachInList sides part [] (lead ∷ later) (set ∷ sets)

joined : (sides : Sides) (part : ℕ) (men lead set : List ℕ) (later sets : List (List ℕ)) → IsListed sides part men lead set later sets → concat (lead ∷ later) ≡ men
unfolding groups_of
joined sides part men lead set later sets h =
    ap (λ (l : List ℕ). l ++ concat later) h.is_lead ∙ ap (λ (l : List (List ℕ)). take (lead_length sides) men ++ concat l) h.is_later ∙ concat-groups sides men

pub codes_stated : (sides : Sides) (part : ℕ) (men lead set : List ℕ) (later sets : List (List ℕ)) → IsListed sides part men lead set later sets →
    map (λ (p : CodedMan). p.code) (paired (lead ∷ later) (set ∷ sets)) ≡ men
codes_stated sides part men lead set later sets h =
    paired-codes (lead ∷ later) (set ∷ sets) (sized sides part [] (lead ∷ later) (set ∷ sets) h.lists) ∙ joined sides part men lead set later sets h

pub pawn_stated : (sides : Sides) (part : ℕ) (men lead set : List ℕ) (later sets : List (List ℕ)) → IsListed sides part men lead set later sets →
    (p : CodedMan) → IsIn p (paired (lead ∷ later) (set ∷ sets)) → is_pawn_code p.code ≡ true → IsIn p.square pawn_squares
pawn_stated sides part men lead set later sets h p i e =
    pawns_placed sides part men lead set later sets h.material h.has_part h.is_lead h.is_later h.pieces h.pawns h.fits h.lists p i e
    (count_of-in p.code men (subst (λ (l : List ℕ). IsIn p.code l) (codes_stated sides part men lead set later sets h) (IsIn-map_back (λ (q : CodedMan). q.code) (paired (lead ∷ later) (set ∷ sets)) p i)))

pub stated_stood : (sides : Sides) (part : ℕ) (men lead set : List ℕ) (later sets : List (List ℕ)) → IsListed sides part men lead set later sets → IsStood sides men (paired (lead ∷ later) (set ∷ sets))
stated_stood sides part men lead set later sets h =
    let pieces = paired (lead ∷ later) (set ∷ sets) in
    let on : map (λ (p : CodedMan). p.square) pieces ≡ concat (set ∷ sets) = paired-squares (lead ∷ later) (set ∷ sets) (sized sides part [] (lead ∷ later) (set ∷ sets) h.lists) in
    let laid = laid_all sides part [] (lead ∷ later) (set ∷ sets) h.material h.has_part (laid_none sides) h.lists in
    record {
      differ = subst (λ (l : List ℕ). AllDiffer l) (sym on) laid.differ;
      inside = λ p i. laid.inside p.square (subst (λ (l : List ℕ). IsIn p.square l) on (IsIn-map_back (λ (q : CodedMan). q.square) pieces p i));
      counts = λ c. sym (count-map (λ (p : CodedMan). p.code) c pieces) ∙ ap (count_of c) (codes_stated sides part men lead set later sets h);
      pawns = λ e p i t. pawn_stated sides part men lead set later sets h p i t;
    }

-- ---- the normal form of the men of an index

slotted_in : (pieces : List CodedMan) (codes ss : List ℕ) → length ss ≡ length codes → ((p : CodedMan) → IsIn p (pair codes ss) → IsIn p pieces) → SlottedMen pieces codes ss
slotted_in pieces [] [] e h = tt
slotted_in pieces [] (s ∷ ss) e h = absurd (omega arith)
slotted_in pieces (c ∷ cs) [] e h = absurd (omega arith)
slotted_in pieces (c ∷ cs) (s ∷ ss) e h = (h (man_on (c, s)) (inl refl), slotted_in pieces cs ss (omega arith) (λ p i. h p (inr i)))

in_front : (p : CodedMan) (xs ys : List CodedMan) → IsIn p xs → IsIn p (xs ++ ys)
in_front p [] ys h = absurd h
in_front p (x ∷ xs) ys (inl e) = inl e
in_front p (x ∷ xs) ys (inr h) = inr (in_front p xs ys h)

pub record IsNormal (sides : Sides) (part : ℕ) (lead set : List ℕ) (pieces : List CodedMan) : Type 0 where
  pub normal : normal_pieces sides lead pieces ≡ pieces
  pub leads : lead_squares sides lead pieces ≡ set
  pub part_is : part_of sides pieces ≡ part

file_kept : (sides : Sides) (lead set : List ℕ) (pieces : List CodedMan) → lead_squares sides lead pieces ≡ set → file_of (slice_index set 0) < 4 → with_file sides lead pieces ≡ pieces
unfolding with_file
file_kept sides lead set pieces e h = ap (λ (l : List ℕ). cond (nat_lt 3 (file_of (slice_index l 0))) (moved flip_file pieces) pieces) e
    ∙ ap (λ b. cond b (moved flip_file pieces) pieces) (le-ltb 3 (file_of (slice_index set 0)) (omega (arith, h)))

rank_kept : (sides : Sides) (lead set : List ℕ) (pieces : List CodedMan) → lead_squares sides lead pieces ≡ set → rank_of (slice_index set 0) < 4 → with_rank sides lead pieces ≡ pieces
unfolding with_rank
rank_kept sides lead set pieces e h = ap (λ (l : List ℕ). cond (not (has_pawns sides) && nat_lt 3 (rank_of (slice_index l 0))) (moved flip_rank pieces) pieces) e
    ∙ ap (λ b. cond (not (has_pawns sides) && b) (moved flip_rank pieces) pieces) (le-ltb 3 (rank_of (slice_index set 0)) (omega (arith, h)))
    ∙ ap (λ b. cond b (moved flip_rank pieces) pieces) (and-false (not (has_pawns sides)))

reflection_kept : (sides : Sides) (lead set : List ℕ) (pieces : List CodedMan) → lead_squares sides lead pieces ≡ set → is_first_above set ≡ false → with_reflection sides lead pieces ≡ pieces
unfolding with_reflection
reflection_kept sides lead set pieces e h = ap (λ (l : List ℕ). cond (not (has_pawns sides) && is_first_above l) (moved reflect pieces) pieces) e
    ∙ ap (λ b. cond (not (has_pawns sides) && b) (moved reflect pieces) pieces) h
    ∙ ap (λ b. cond b (moved reflect pieces) pieces) (and-false (not (has_pawns sides)))

none_flipped : (sides : Sides) (lead set : List ℕ) (pieces : List CodedMan) → lead_squares sides lead pieces ≡ set → IsLow set → normal_pieces sides lead pieces ≡ pieces
unfolding normal_pieces
none_flipped sides lead set pieces e low =
    ap (λ (l : List CodedMan). with_reflection sides lead (with_rank sides lead l)) (file_kept sides lead set pieces e low.file)
    ∙ ap (λ (l : List CodedMan). with_reflection sides lead l) (rank_kept sides lead set pieces e low.rank)
    ∙ reflection_kept sides lead set pieces e low.below

normal_none : (sides : Sides) (part : ℕ) (men lead set : List ℕ) (later sets : List (List ℕ)) → has_pawns sides ≡ false → IsListed sides part men lead set later sets →
    IsNormal sides part lead set (paired (lead ∷ later) (set ∷ sets))
unfolding ordered_sets
normal_none sides part men lead set later sets none h =
    let pieces = paired (lead ∷ later) (set ∷ sets) in
    let one : (c : ℕ) → IsIn c lead → count_of c men ≡ 1 = λ c i. h.fits.single none c (subst (λ (l : List ℕ). IsIn c l) h.is_lead i) in
    let put_on_slots : SlottedMen pieces lead set = slotted_in pieces lead set h.lists.1 (λ p i. in_front p (pair lead set) (paired later sets) i) in
    let stated = slots_of sides men lead pieces set none one (record { stood = stated_stood sides part men lead set later sets h; put_on_slots = put_on_slots }) in
    let first : part < 1 = subst (λ (b : Bool). part < cond b 4 1) none h.has_part in
    record {
      normal = none_flipped sides lead set pieces stated (low_set sides part set none h.lists.0);
      leads = stated;
      part_is = part_zero sides pieces none ∙ (let k : 0 ≡ part = omega (arith, first) in k);
    }
  where
    part_zero : (sides : Sides) (pieces : List CodedMan) → has_pawns sides ≡ false → part_of sides pieces ≡ 0
    part_zero sides pieces e =
        let file = file_of (slice_index (squares_with (lead_pawn_code sides ∷ []) pieces pawn_order) 0) in
        ap (λ b. pick b (min file (7 - file))) e
      where
        pick : Bool → ℕ → ℕ
        pick b n = cond b n 0

normal_pawn : (sides : Sides) (part : ℕ) (men lead set : List ℕ) (later sets : List (List ℕ)) → has_pawns sides ≡ true → IsListed sides part men lead set later sets →
    IsNormal sides part lead set (paired (lead ∷ later) (set ∷ sets))
unfolding ordered_sets
normal_pawn sides part men lead set later sets e h =
    let pieces = paired (lead ∷ later) (set ∷ sets) in
    let only : (x : ℕ) → IsIn x lead ↔ (x ≡ lead_pawn_code sides) = λ x. subst (λ (l : List ℕ). IsIn x l ↔ (x ≡ lead_pawn_code sides)) (sym h.is_lead) (lead_only sides men h.material e h.pawns h.fits x) in
    let size : length lead ≡ lead_pawns sides = ap length h.is_lead ∙ h.fits.lead_size ∙ lead_length-pawns sides e in
    let own : IsOwn men [] lead = record {
      code = lead_pawn_code sides;
      has = (only (lead_pawn_code sides)).1 refl;
      only = λ x i. (only x).0 i;
      count = rearranged_counts men (man_codes sides) h.pieces (lead_pawn_code sides) ∙ lead_pawns-count sides ∙ sym size;
      new = λ i. i;
    } in
    let parts : Parted men lead later = subst (λ (l : List ℕ). Parted men l later) (sym h.is_lead) (subst (λ (l : List (List ℕ)). Parted men (take (lead_length sides) men) l) (sym h.is_later) h.fits.parts) in
    let set_is = pawn_set sides part set e h.has_part h.lists.0 in
    let found : squares_with lead pieces pawn_order ≡ set =
    filter-same (is_valid lead pieces) (contains set) pawn_order (λ x i. valid_there men [] lead set later sets [] (λ p j. absurd j) own parts h.lists.1 x) ∙ set_is.again in
    let four : part < 4 = subst (λ (b : Bool). part < cond b 4 1) e h.has_part in
    let on = set_is.on in
    record {
      normal = normal_pawns sides lead pieces e
          ∙ ap (λ (l : List ℕ). cond (nat_lt 3 (file_of (slice_index l 0))) (moved flip_file pieces) pieces) (found ∙ set_is.is)
          ∙ ap (λ b. cond b (moved flip_file pieces) pieces) (le-ltb 3 (file_of set_is.first) (omega (arith, on, four)));
      leads = lead_pawns_with sides lead pieces e ∙ found;
      part_is = part_pawns sides lead pieces e only set_is.first set_is.rest (found ∙ set_is.is)
          ∙ (let k : min (file_of set_is.first) (7 - file_of set_is.first) ≡ part = omega (arith, on, four) in k);
    }

pub normal_stated : (sides : Sides) (part : ℕ) (men lead set : List ℕ) (later sets : List (List ℕ)) → IsListed sides part men lead set later sets →
    IsNormal sides part lead set (paired (lead ∷ later) (set ∷ sets))
normal_stated sides part men lead set later sets h = elim (cases_Bool (has_pawns sides)) [
  | inl e ↦ normal_pawn sides part men lead set later sets e h
  | inr e ↦ normal_none sides part men lead set later sets e h
]

pub squares_stated_by_group : (sides : Sides) (part : ℕ) (men lead set : List ℕ) (later sets : List (List ℕ)) → IsListed sides part men lead set later sets →
    squares_by_group sides (lead ∷ later) (normal_pieces sides lead (paired (lead ∷ later) (set ∷ sets))) ≡ set ∷ sets
unfolding squares_by_group
squares_stated_by_group sides part men lead set later sets h =
    let pieces = paired (lead ∷ later) (set ∷ sets) in
    let n = normal_stated sides part men lead set later sets h in
    let parts : Parted men lead later = subst (λ (l : List ℕ). Parted men l later) (sym h.is_lead) (subst (λ (l : List (List ℕ)). Parted men (take (lead_length sides) men) l) (sym h.is_later) h.fits.parts) in
    ap (λ (q : List CodedMan). lead_squares sides lead q ∷ map (λ group. squares_with group q squares_down) later) n.normal
    ∙ ap (λ l. l ∷ map (λ group. squares_with group pieces squares_down) later) n.leads
    ∙ ap (λ l. set ∷ l) (later_again sides part men set [] lead later sets (pair lead set) (λ p i. (pair-in lead set p i).0) parts h.lists.2)
