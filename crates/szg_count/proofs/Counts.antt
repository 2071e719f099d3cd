-- The ways of lead groups and of all groups, by the lengths.
use Rattle.std.proofs.Common.{◌≡◌, ℕ, zero, suc, ◌+◌, ◌-◌, ◌*◌, ◌<◌, ◌≤◌, List, [], ◌∷◌, length, map, get_or, take, refl, sym, ap, ◌∙◌, subst, inl, inr, Bool, true, false, cond, arith}
use Rattle.std.specs.Prelude.{◌==◌, sum, slice_get, slice_index, unwrap_or}
use Rattle.std.specs.List.{range_with_len, concat}
use Rattle.std.proofs.Math.Bool.{◌&&◌}
use Rattle.std.proofs.lemmas.List.Sums.{sum_by-cons, sum_by-take-le}
use Rattle.std.proofs.lemmas.Bool.Decides.{eqb_tells}
use Rattle.szg_values.specs.Material.{Sides, IsMaterial, has_pawns, lead_pawns, has_single_lead}
use Rattle.szg_count.specs.Sets.{choose}
use Rattle.szg_count.specs.Leads.{lead_pawn_sets, triples, king_pairs}
use Rattle.szg_count.specs.Groups.{IsPart, lead_sets, lead_ways, group_ways, free_count, has_other_pawns}
use Rattle.szg_count.specs.Steps.{ArePositive, ways_by}
use Rattle.szg_count.proofs.Counting.{subset_count}
use Rattle.szg_count.proofs.Rows.{triples_length, king_pairs_length}
use Rattle.szg_count.proofs.Binomials.{pawn_ways, choose-positive, lead_pawn_sum}
use Rattle.szg_count.proofs.Pawns.{some_lead}
use Rattle.szg_count.proofs.Cutting.{sum-lengths}

pick_pawns : (b : Bool) (x y : List (List ℕ)) → b ≡ true → length (cond b x y) ≡ length x
pick_pawns true x y e = refl
pick_pawns false x y e = cc

pick_three : (b s : Bool) (x y z : List (List ℕ)) → b ≡ false → s ≡ true → length (cond b x (cond s y z)) ≡ length y
pick_three true s x y z e f = cc
pick_three false true x y z e f = refl
pick_three false false x y z e f = cc

pick_kings : (b s : Bool) (x y z : List (List ℕ)) → b ≡ false → s ≡ false → length (cond b x (cond s y z)) ≡ length z
pick_kings true s x y z e f = cc
pick_kings false true x y z e f = cc
pick_kings false false x y z e f = refl

pub lead_ways-pawns : (sides : Sides) (part : ℕ) → has_pawns sides ≡ true → lead_ways sides part ≡ length (lead_pawn_sets (lead_pawns sides) part)
unfolding lead_ways lead_sets
lead_ways-pawns sides part e = pick_pawns (has_pawns sides) (lead_pawn_sets (lead_pawns sides) part) (cond (has_single_lead sides) triples king_pairs) e

pub lead_ways-three : (sides : Sides) (part : ℕ) → has_pawns sides ≡ false → has_single_lead sides ≡ true → lead_ways sides part ≡ 31332
unfolding lead_ways lead_sets
lead_ways-three sides part e f = pick_three (has_pawns sides) (has_single_lead sides) (lead_pawn_sets (lead_pawns sides) part) triples king_pairs e f ∙ triples_length

pub lead_ways-kings : (sides : Sides) (part : ℕ) → has_pawns sides ≡ false → has_single_lead sides ≡ false → lead_ways sides part ≡ 462
unfolding lead_ways lead_sets
lead_ways-kings sides part e f = pick_kings (has_pawns sides) (has_single_lead sides) (lead_pawn_sets (lead_pawns sides) part) triples king_pairs e f ∙ king_pairs_length

pub part_file : (sides : Sides) (part : ℕ) → has_pawns sides ≡ true → IsPart sides part → part < 4
part_file sides part e h = subst (λ (b : Bool). part < cond b 4 1) e h

-- a lead group has at least one way
pawns-positive : (k file : ℕ) → k ≤ 4 → file < 4 → 0 < length (lead_pawn_sets k file)
pawns-positive k file h f =
    let all = lead_pawn_sum k file f in
    let first = sum_by-cons (λ (n : ℕ). n) (pawn_ways k file 0) (map (pawn_ways k file) (range_with_len 1 5)) in
    let some = choose-positive (47 - 12 * file - 2 * 0) (k - 1) (omega arith) in
    omega (arith, all, first, some)

pub lead_ways-positive : (sides : Sides) (part : ℕ) → IsMaterial sides → IsPart sides part → 0 < lead_ways sides part
lead_ways-positive sides part h i = split (has_pawns sides) (has_single_lead sides) refl refl where
  split : (b s : Bool) → has_pawns sides ≡ b → has_single_lead sides ≡ s → 0 < lead_ways sides part
  split true s e f = rw (lead_ways-pawns sides part e) (pawns-positive (lead_pawns sides) part (some_lead sides h e).1 (part_file sides part e i))
  split false true e f = rw (lead_ways-three sides part e f) (omega arith)
  split false false e f = rw (lead_ways-kings sides part e f) (omega arith)

get_or-le-sum : (xs : List ℕ) (i : ℕ) → get_or xs i 0 ≤ sum xs
get_or-le-sum [] i = omega arith
get_or-le-sum (x ∷ xs) zero = let s = sum_by-cons (λ (n : ℕ). n) x xs in omega (arith, s)
get_or-le-sum (x ∷ xs) (suc i) = let s = sum_by-cons (λ (n : ℕ). n) x xs in let r = get_or-le-sum xs i in omega (arith, s, r)

-- each group has at least one way
pub ways_by-positive : (lead : ℕ) (other : Bool) (lengths : List ℕ) (i : ℕ) → 0 < lead → sum lengths ≤ 6 → 0 < ways_by lead other lengths i
ways_by-positive lead other lengths i h k = by_group (i == 0) (other && i == 1) where
  by_group : (b p : Bool) → 0 < cond b lead (choose (cond p 48 64 - sum (take i lengths)) (slice_index lengths i))
  by_group true p = h
  by_group false true = let a = sum_by-take-le (λ (n : ℕ). n) lengths i in let b = get_or-le-sum lengths i in choose-positive (48 - sum (take i lengths)) (slice_index lengths i) (omega (arith, a, b, k))
  by_group false false = let a = sum_by-take-le (λ (n : ℕ). n) lengths i in let b = get_or-le-sum lengths i in choose-positive (64 - sum (take i lengths)) (slice_index lengths i) (omega (arith, a, b, k))

pub ArePositive-map : (f : ℕ → ℕ) (a n : ℕ) → ((i : ℕ) → 0 < f i) → ArePositive (map f (range_with_len a n))
ArePositive-map f a zero h = tt
ArePositive-map f a (suc n) h = (h a, ArePositive-map f (a + 1) n h)

-- ---- the definition's ways, by the groups, are those by the lengths

abbrev lengths : List (List ℕ) → List ℕ
lengths gs = map (λ g. length g) gs

take-lengths : (i : ℕ) (gs : List (List ℕ)) → take i (lengths gs) ≡ lengths (take i gs)
take-lengths zero gs = refl
take-lengths (suc i) [] = refl
take-lengths (suc i) (g ∷ gs) = ap (λ l. length g ∷ l) (take-lengths i gs)

pub sum-take : (i : ℕ) (gs : List (List ℕ)) → length (concat (take i gs)) ≡ sum (take i (lengths gs))
sum-take i gs = sym (sum-lengths (take i gs)) ∙ ap sum (sym (take-lengths i gs))

pub length-at : (i : ℕ) (gs : List (List ℕ)) → length (unwrap_or (slice_get gs i) []) ≡ slice_index (lengths gs) i
length-at i [] = refl
length-at zero (g ∷ gs) = refl
length-at (suc i) (g ∷ gs) = length-at i gs

pub group_ways-by : (sides : Sides) (part : ℕ) (groups : List (List ℕ)) (i : ℕ) →
    group_ways sides part groups i ≡ ways_by (lead_ways sides part) (has_other_pawns sides) (lengths groups) i
unfolding group_ways
group_ways-by sides part groups zero = refl
group_ways-by sides part groups (suc i) =
    let r = length (unwrap_or (slice_get groups (suc i)) []) in
    let a : group_ways sides part groups (suc i) ≡ choose (free_count sides groups (suc i)) r = subset_count (free_count sides groups (suc i)) r in
    let b : choose (free_count sides groups (suc i)) r ≡ choose (cond (has_other_pawns sides && suc i == 1) 48 64 - sum (take (suc i) (lengths groups))) r =
    ap (λ n. choose (cond (has_other_pawns sides && suc i == 1) 48 64 - n) r) (sum-take (suc i) groups) in
    let later : (suc i == 0) ≡ false = elim (eqb_tells (suc i) 0) [ inl e ↦ absurd (let f = e.1 in omega (arith, f)) | inr n ↦ n.0 ] in
    let d : choose (cond (has_other_pawns sides && suc i == 1) 48 64 - sum (take (suc i) (lengths groups))) r ≡ ways_by (lead_ways sides part) (has_other_pawns sides) (lengths groups) (suc i) =
    rw later (ap (λ n. choose (cond (has_other_pawns sides && suc i == 1) 48 64 - sum (take (suc i) (lengths groups))) n) (length-at (suc i) groups)) in
    a ∙ b ∙ d
