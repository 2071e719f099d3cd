-- Each group's ordered list has the group's number of ways, if the groups before it are on different squares.
use Rattle.std.proofs.Common.{◌≡◌, ℕ, zero, suc, ◌+◌, ◌-◌, ◌<◌, inl, inr, List, [], ◌∷◌, ◌++◌, length, map, take, refl, sym, ap, ◌∙◌, subst, Bool, true, false, cond, arith, length-append, append_assoc}
use Rattle.std.specs.Prelude.{◌==◌, Some, slice_get, unwrap_or}
use Rattle.std.specs.List.{concat, range_with_len, zip}
use Rattle.std.proofs.Math.Bool.{not, ◌&&◌}
use Rattle.std.proofs.lemmas.Bool.{eqb-true, ne_eqb, and_parts}
use Rattle.std.proofs.lemmas.List.{take_at, append-nil}
use Rattle.szg_values.specs.Men.{square_at}
use Rattle.szg_values.specs.Material.{Sides, IsMaterial, has_pawns, lead_pawns, has_single_lead}
use Rattle.szg_count.specs.Sets.{sets_of, choose}
use Rattle.szg_count.specs.Leads.{contains, without, squares, pawn_squares, squares_down, pawn_order, after, lead_pawn_sets, triples, king_pairs, rank_in}
use Rattle.szg_count.specs.Groups.{IsPart, lead_sets, lead_ways, lead_length, group_ways, free_count, has_other_pawns}
use Rattle.szg_count.specs.Laws.{IsIn, AllDiffer}
use Rattle.szg_count.specs.Radix.{EachBelow}
use Rattle.szg_count.proofs.Counting.{subset_count}
use Rattle.szg_count.proofs.Formulas.{free_set_count}
use Rattle.szg_count.proofs.Differ.{IsIn-append, IsIn-filter, IsIn-sets_of, IsIn-lists_by, AllDiffer-append, AllDiffer-filter, contains_it}
use Rattle.szg_count.proofs.Free.{contains-IsIn}
use Rattle.szg_count.proofs.LeadSets.{lead_sets_contain_filtered}
use Rattle.szg_count.proofs.RanksInLists.{rank_in-below, set_below, length-set}
use Rattle.szg_place.specs.Spots.{ordered_sets, ranks_in_lists, squares_of_ranks, set_at}
use Rattle.szg_place.specs.Ranks.{EachInList, EachRankBelow}
use Rattle.szg_place.proofs.Ranks.Ranking.{AllDiffer-pawn_squares, AllDiffer-squares_down}
use Rattle.szg_place.proofs.Ranks.Lists.{tested, all-IsIn, AllDiffer-set, not_true}

-- the squares of earlier groups: different, on the board, and on ranks 2 to 7 if the lead pawns are the only earlier
-- group
pub record IsLaid (sides : Sides) (before : List (List ℕ)) : Type 0 where
  pub differ : AllDiffer (concat before)
  pub inside : (square : ℕ) → IsIn square (concat before) → square < 64
  pub pawns : has_other_pawns sides ≡ true → length before ≡ 1 → (square : ℕ) → IsIn square (concat before) → IsIn square pawn_squares

pub IsIn-squares_down : (x : ℕ) → x < 64 → IsIn x squares_down
unfolding squares_down squares
IsIn-squares_down x h = contains-IsIn x squares_down (tested (contains squares_down) 64 x refl h)

pub on_squares_down : (x : ℕ) → IsIn x squares_down → x < 64
unfolding squares_down squares
on_squares_down x h = below x (all-IsIn (λ y. contains squares y) squares_down x refl h) where
  below : (x : ℕ) → contains squares x ≡ true → x < 64
  below x e = let k : IsIn x (range_with_len 0 64) = contains-IsIn x squares e in let r = in_range 0 64 x k in omega (arith, r) where
    in_range : (a n x : ℕ) → IsIn x (range_with_len a n) → x < a + n
    in_range a zero x h = absurd h
    in_range a (suc n) x (inl e) = omega arith
    in_range a (suc n) x (inr h) = let r = in_range (a + 1) n x h in omega (arith, r)

pub pawns_down : (x : ℕ) → IsIn x pawn_squares → x < 64
unfolding pawn_squares squares_down squares
pawns_down x h = on_squares_down x (contains-IsIn x squares_down (all-IsIn (contains squares_down) pawn_squares x refl h))

pub pawn_order-squares : (x : ℕ) → IsIn x pawn_order → IsIn x pawn_squares
unfolding pawn_squares pawn_order
pawn_order-squares x h = contains-IsIn x pawn_squares (all-IsIn (contains pawn_squares) pawn_order x refl h)

length-pawn_squares : length pawn_squares ≡ 48
unfolding pawn_squares
length-pawn_squares = refl

length-squares_down : length squares_down ≡ 64
unfolding squares_down squares
length-squares_down = refl

-- the squares that a later group may occupy
abbrev pub free_of : Sides → ℕ → List ℕ
free_of sides n = cond (has_other_pawns sides && n == 0) pawn_squares squares_down

pub concat-more : (before : List (List ℕ)) (set : List ℕ) → concat (before ++ set ∷ []) ≡ concat before ++ set
concat-more [] set = append-nil set
concat-more (b ∷ before) set = ap (λ l. b ++ l) (concat-more before set) ∙ sym (append_assoc b (concat before) set)

free_ways : (b : Bool) (some : List ℕ) (size : ℕ) → AllDiffer some → ((x : ℕ) → IsIn x some → IsIn x (cond b pawn_squares squares_down)) →
    length (sets_of size (without some (cond b pawn_squares squares_down))) ≡ choose (cond b 48 64 - length some) size
free_ways true some size d h = free_set_count some pawn_squares size d AllDiffer-pawn_squares h ∙ ap (λ n. choose (n - length some) size) length-pawn_squares
free_ways false some size d h = free_set_count some squares_down size d AllDiffer-squares_down h ∙ ap (λ n. choose (n - length some) size) length-squares_down

in_free : (sides : Sides) (lead : List ℕ) (rest : List (List ℕ)) (b : Bool) → (has_other_pawns sides && length rest == 0) ≡ b → IsLaid sides (lead ∷ rest) →
    (x : ℕ) → IsIn x (concat (lead ∷ rest)) → IsIn x (cond b pawn_squares squares_down)
in_free sides lead rest true e laid x i =
    let p = and_parts (has_other_pawns sides) (length rest == 0) e in
    laid.pawns p.0 (ap suc (eqb-true (length rest) 0 p.1)) x i
in_free sides lead rest false e laid x i = IsIn-squares_down x (laid.inside x i)

slice_get-at : (front : List (List ℕ)) (group : List ℕ) (groups : List (List ℕ)) → slice_get (front ++ group ∷ groups) (length front) ≡ Some group
slice_get-at [] group groups = refl
slice_get-at (f ∷ front) group groups = slice_get-at front group groups

second_here : (a b : ℕ) → a ≡ b → (suc a == 1) ≡ (b == 0)
second_here zero zero e = refl
second_here zero (suc b) e = absurd (omega arith)
second_here (suc a) zero e = absurd (omega arith)
second_here (suc a) (suc b) e = ne_eqb (suc (suc a)) 1 (λ h. omega arith) ∙ sym (ne_eqb (suc b) 0 (λ h. omega arith))

pub ways_here : (sides : Sides) (part : ℕ) (before front : List (List ℕ)) (group : List ℕ) (groups : List (List ℕ)) →
    length front ≡ length before → length (concat front) ≡ length (concat before) → IsLaid sides before →
    length (ordered_sets sides part before (length group)) ≡ group_ways sides part (front ++ group ∷ groups) (length front)
unfolding ordered_sets group_ways lead_ways
ways_here sides part [] [] group groups e c laid = refl
ways_here sides part [] (f ∷ front) group groups e c laid = absurd (omega arith)
ways_here sides part (lead ∷ rest) [] group groups e c laid = absurd (omega arith)
ways_here sides part (lead ∷ rest) (f ∷ fs) group groups e c laid =
    let all = f ∷ fs ++ group ∷ groups in
    let b = has_other_pawns sides && length rest == 0 in
    let same : (suc (length fs) == 1) ≡ (length rest == 0) = second_here (length fs) (length rest) (omega arith) in
    let taken : length (concat (take (suc (length fs)) all)) ≡ length (concat (lead ∷ rest)) =
    ap (λ l. length (concat l)) (take_at (f ∷ fs) (group ∷ groups) (suc (length fs)) refl) ∙ c in
    let free : free_count sides all (suc (length fs)) ≡ cond b 48 64 - length (concat (lead ∷ rest)) =
    ap (λ t. cond (has_other_pawns sides && t) 48 64 - length (concat (take (suc (length fs)) all))) same
    ∙ ap (λ n. cond b 48 64 - n) taken in
    let own : length (unwrap_or (slice_get all (suc (length fs))) []) ≡ length group = ap (λ o. length (unwrap_or o [])) (slice_get-at (f ∷ fs) group groups) in
    free_ways b (concat (lead ∷ rest)) (length group) laid.differ (in_free sides lead rest b refl laid)
    ∙ sym (subset_count (free_count sides all (suc (length fs))) (length (unwrap_or (slice_get all (suc (length fs))) []))
    ∙ ap (λ n. choose n (length (unwrap_or (slice_get all (suc (length fs))) []))) free
    ∙ ap (λ n. choose (cond b 48 64 - length (concat (lead ∷ rest))) n) own)

-- ---- one more group

on_file : (file : ℕ) → file < 4 → (x : ℕ) → IsIn x (map (square_at file) (range_with_len 1 6)) → IsIn x pawn_order
unfolding pawn_order
on_file zero h x i = contains-IsIn x pawn_order (all-IsIn (contains pawn_order) (map (square_at 0) (range_with_len 1 6)) x refl i)
on_file (suc zero) h x i = contains-IsIn x pawn_order (all-IsIn (contains pawn_order) (map (square_at 1) (range_with_len 1 6)) x refl i)
on_file (suc (suc zero)) h x i = contains-IsIn x pawn_order (all-IsIn (contains pawn_order) (map (square_at 2) (range_with_len 1 6)) x refl i)
on_file (suc (suc (suc zero))) h x i = contains-IsIn x pawn_order (all-IsIn (contains pawn_order) (map (square_at 3) (range_with_len 1 6)) x refl i)
on_file (suc (suc (suc (suc file)))) h x i = absurd (omega arith)

IsIn-after : (x y : ℕ) (xs : List ℕ) → IsIn y (after x xs) → IsIn y xs
unfolding after
IsIn-after x y [] h = absurd h
IsIn-after x y (z ∷ xs) h = later (x == z) (IsIn-after x y xs) h where
  later : (b : Bool) → (IsIn y (after x xs) → IsIn y xs) → IsIn y (cond b xs (after x xs)) → IsIn y (z ∷ xs)
  later true f k = inr k
  later false f k = inr (f k)

pawn_set : (k file : ℕ) (set : List ℕ) → file < 4 → IsIn set (lead_pawn_sets k file) → (x : ℕ) → IsIn x set → IsIn x pawn_order
unfolding lead_pawn_sets
pawn_set k file set f h x i =
    let p = IsIn-lists_by (map (square_at file) (range_with_len 1 6)) (λ q. sets_of (k - 1) (after q pawn_order)) set h in
    elim (subst (λ (l : List ℕ). IsIn x l) p.2 i) [
      | inl e ↦ on_file file f x (subst (λ (y : ℕ). IsIn y (map (square_at file) (range_with_len 1 6))) (sym e) p.3)
      | inr j ↦ IsIn-after p.0 x pawn_order (IsIn-sets_of (k - 1) (after p.0 pawn_order) p.1 x p.4 j)
    ]

-- the squares of lead pawns are squares of pawns
pub lead_pawns_order : (sides : Sides) (part : ℕ) (set : List ℕ) → has_pawns sides ≡ true → IsPart sides part → IsIn set (lead_sets sides part) → (x : ℕ) → IsIn x set → IsIn x pawn_order
unfolding lead_sets
lead_pawns_order sides part set e p i x j =
    pawn_set (lead_pawns sides) part set (subst (λ (b : Bool). part < cond b 4 1) e p)
    (subst (λ (b : Bool). IsIn set (cond b (lead_pawn_sets (lead_pawns sides) part) (cond (has_single_lead sides) triples king_pairs))) e i) x j

pub free_below : (b : Bool) (x : ℕ) → IsIn x (cond b pawn_squares squares_down) → x < 64
free_below true x h = pawns_down x h
free_below false x h = on_squares_down x h

pub AllDiffer-free : (b : Bool) → AllDiffer (cond b pawn_squares squares_down)
AllDiffer-free true = AllDiffer-pawn_squares
AllDiffer-free false = AllDiffer-squares_down

pub laid_none : (sides : Sides) → IsLaid sides []
laid_none sides = record { differ = tt; inside = λ x h. absurd h; pawns = λ e f x h. absurd h }

pub laid_more : (sides : Sides) (part : ℕ) (before : List (List ℕ)) (size : ℕ) (set : List ℕ) → IsMaterial sides → IsPart sides part →
    IsLaid sides before → IsIn set (ordered_sets sides part before size) → IsLaid sides (before ++ set ∷ [])
unfolding ordered_sets
laid_more sides part [] size set m p laid h =
    let r = lead_sets_contain_filtered sides part set m p h in
    let e : concat ([] ++ set ∷ []) ≡ set = append-nil set in record {
      differ = subst (λ (l : List ℕ). AllDiffer l) (sym e) r.1;
      inside = λ x i. r.2 x (subst (λ (l : List ℕ). IsIn x l) e i);
      pawns = λ o n x i. pawn_order-squares x (lead_pawns_order sides part set (and_parts (has_pawns sides) _ o).0 p h x (subst (λ (l : List ℕ). IsIn x l) e i));
    }
laid_more sides part (lead ∷ rest) size set m p laid h =
    let before = lead ∷ rest in
    let base = free_of sides (length rest) in
    let left = without (concat before) base in
    let e : concat (before ++ set ∷ []) ≡ concat before ++ set = concat-more before set in
    let of_base : (x : ℕ) → IsIn x set → IsIn x base × (not (contains (concat before) x) ≡ true) =
    λ x i. IsIn-filter (λ y. not (contains (concat before) y)) base x (IsIn-sets_of size left set x h i) in record {
      differ = subst (λ (l : List ℕ). AllDiffer l) (sym e)
          (AllDiffer-append (concat before) set laid.differ
          (AllDiffer-set size left set (AllDiffer-filter (λ y. not (contains (concat before) y)) base (AllDiffer-free (has_other_pawns sides && length rest == 0))) h)
          (λ x i j. not_true (contains (concat before) x) (of_base x j).1 (contains_it x (concat before) i)));
      inside = λ x i. elim (IsIn-append x (concat before) set (subst (λ (l : List ℕ). IsIn x l) e i)) [
        | inl j ↦ laid.inside x j
        | inr j ↦ free_below (has_other_pawns sides && length rest == 0) x (of_base x j).0
      ];
      pawns = λ o n. let k : length (before ++ set ∷ []) ≡ length before + 1 = length-append before (set ∷ []) in absurd (omega (arith, n, k));
    }

-- ---- ranks are below ways

pub each_below : (sides : Sides) (part : ℕ) (before front groups squares : List (List ℕ)) → IsMaterial sides → IsPart sides part →
    length front ≡ length before → length (concat front) ≡ length (concat before) → IsLaid sides before → EachInList sides part before groups squares →
    EachBelow (ranks_in_lists sides part before squares) (map (group_ways sides part (front ++ groups)) (range_with_len (length front) (length groups)))
unfolding ranks_in_lists
each_below sides part before front [] [] m p e c laid h = tt
each_below sides part before front [] (set ∷ sets) m p e c laid h = absurd h
each_below sides part before front (group ∷ groups) [] m p e c laid h = absurd h
each_below sides part before front (group ∷ groups) (set ∷ sets) m p e c laid h =
    let ways = ways_here sides part before front group groups e c laid in
    let below : rank_in (ordered_sets sides part before (length set)) set < length (ordered_sets sides part before (length group)) =
    subst (λ (n : ℕ). rank_in (ordered_sets sides part before (length set)) set < length (ordered_sets sides part before n)) h.1
    (rank_in-below (ordered_sets sides part before (length set)) set h.0) in
    let again : front ++ group ∷ [] ++ groups ≡ front ++ group ∷ groups = append_assoc front (group ∷ []) groups in
    let one : length (front ++ group ∷ []) ≡ length front + 1 = length-append front (group ∷ []) in
    let more = each_below sides part (before ++ set ∷ []) (front ++ group ∷ []) groups sets m p
    (let a = length-append before (set ∷ []) in omega (arith, a, one, e))
    (let a = ap length (concat-more front group) in let b = ap length (concat-more before set) in let x = length-append (concat front) group in
    let y = length-append (concat before) set in let z = h.1 in omega (arith, a, b, x, y, z, c))
    (laid_more sides part before (length set) set m p laid h.0) h.2 in (
      omega (arith, ways, below),
      subst (λ (l : List ℕ). EachBelow (ranks_in_lists sides part (before ++ set ∷ []) sets) l)
          (ap (λ (l : List (List ℕ)). map (group_ways sides part l) (range_with_len (length (front ++ group ∷ [])) (length groups))) again
          ∙ ap (λ n. map (group_ways sides part (front ++ group ∷ groups)) (range_with_len n (length groups))) one) more,
    )

-- the sets of a group's list have one square for each man of the group
length-listed : (sides : Sides) (part : ℕ) (before : List (List ℕ)) (group set : List ℕ) → IsMaterial sides → IsPart sides part → (before ≡ [] → length group ≡ lead_length sides) →
    IsIn set (ordered_sets sides part before (length group)) → length set ≡ length group
unfolding ordered_sets
length-listed sides part [] group set m p z i = (lead_sets_contain_filtered sides part set m p i).0 ∙ sym (z refl)
length-listed sides part (lead ∷ rest) group set m p z i = length-set (length group) (without (concat (lead ∷ rest)) (free_of sides (length rest))) set i

-- numbers below the ways are ranks
pub each_rank : (sides : Sides) (part : ℕ) (before front groups : List (List ℕ)) (group_ranks : List ℕ) → IsMaterial sides → IsPart sides part →
    length front ≡ length before → length (concat front) ≡ length (concat before) → IsLaid sides before →
    (before ≡ [] → (group : List ℕ) (more : List (List ℕ)) → groups ≡ group ∷ more → length group ≡ lead_length sides) →
    EachBelow group_ranks (map (group_ways sides part (front ++ groups)) (range_with_len (length front) (length groups))) → EachRankBelow sides part before groups group_ranks
each_rank sides part before front [] [] m p e c laid z h = tt
each_rank sides part before front [] (rank ∷ group_ranks) m p e c laid z h = absurd h
each_rank sides part before front (group ∷ groups) [] m p e c laid z h = absurd h
each_rank sides part before front (group ∷ groups) (rank ∷ group_ranks) m p e c laid z h =
    let ways = ways_here sides part before front group groups e c laid in
    let sets = ordered_sets sides part before (length group) in
    let first = h.0 in
    let below : rank < length sets = omega (arith, ways, first) in
    let s = set_below sets rank below in
    let set = set_at sides part before (group, rank) in
    let is : set ≡ s.0 = ap (λ o. unwrap_or o []) s.1 in
    let i : IsIn set sets = subst (λ (t : List ℕ). IsIn t sets) (sym is) s.2 in
    let size : length set ≡ length group = length-listed sides part before group set m p (λ b. z b group groups refl) i in
    let again : front ++ group ∷ [] ++ groups ≡ front ++ group ∷ groups = append_assoc front (group ∷ []) groups in
    let one : length (front ++ group ∷ []) ≡ length front + 1 = length-append front (group ∷ []) in (
      below,
      each_rank sides part (before ++ set ∷ []) (front ++ group ∷ []) groups group_ranks m p
          (let a = length-append before (set ∷ []) in omega (arith, a, one, e))
          (let a = ap length (concat-more front group) in let b = ap length (concat-more before set) in let x = length-append (concat front) group in
          let y = length-append (concat before) set in omega (arith, a, b, x, y, size, c))
          (laid_more sides part before (length group) set m p laid i)
          (λ b g q f. absurd (let k = length-append before (set ∷ []) in let l = ap length b in omega (arith, k, l)))
          (subst (λ (l : List ℕ). EachBelow group_ranks l)
          (sym (ap (λ (l : List (List ℕ)). map (group_ways sides part l) (range_with_len (length (front ++ group ∷ [])) (length groups))) again
          ∙ ap (λ n. map (group_ways sides part (front ++ group ∷ groups)) (range_with_len n (length groups))) one)) h.1),
    )

-- unranked squares are in their lists
pub stated_in_lists : (sides : Sides) (part : ℕ) (before groups : List (List ℕ)) (group_ranks : List ℕ) → IsMaterial sides → IsPart sides part →
    (before ≡ [] → (group : List ℕ) (more : List (List ℕ)) → groups ≡ group ∷ more → length group ≡ lead_length sides) →
    EachRankBelow sides part before groups group_ranks → EachInList sides part before groups (squares_of_ranks sides part before (zip groups group_ranks))
unfolding squares_of_ranks
stated_in_lists sides part before [] [] m p z h = tt
stated_in_lists sides part before [] (rank ∷ group_ranks) m p z h = absurd h
stated_in_lists sides part before (group ∷ groups) [] m p z h = absurd h
stated_in_lists sides part before (group ∷ groups) (rank ∷ group_ranks) m p z h =
    let sets = ordered_sets sides part before (length group) in
    let s = set_below sets rank h.0 in
    let set = set_at sides part before (group, rank) in
    let is : set ≡ s.0 = ap (λ o. unwrap_or o []) s.1 in
    let i : IsIn set sets = subst (λ (t : List ℕ). IsIn t sets) (sym is) s.2 in
    let size : length set ≡ length group = length-listed sides part before group set m p (λ b. z b group groups refl) i in (
      subst (λ (n : ℕ). IsIn set (ordered_sets sides part before n)) (sym size) i,
      size,
      stated_in_lists sides part (before ++ set ∷ []) groups group_ranks m p
          (λ b g q f. absurd (let k = length-append before (set ∷ []) in let l = ap length b in omega (arith, k, l))) h.1,
    )
