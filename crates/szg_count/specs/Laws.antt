-- Laws of the ordered lists: their lengths, that their members are different, what they contain and in which order.
use Rattle.std.specs.Prelude.{◌≡◌, ℕ, suc, ◌+◌, ◌-◌, ◌*◌, ◌^◌, ◌<◌, ◌⊎◌, Bool, List, [], ◌∷◌, map, length, filter, take, sum, ⊤, None, IsTrue, if◌then◌else◌, slice_get, slice_index, unwrap_or, Some, reverse, ◌↔◌}
use Rattle.std.specs.List.{range_with_len, concat}
use Rattle.szg_values.specs.Men.{square_at}
use Rattle.szg_values.specs.Material.{Sides, IsMaterial, has_pawns, lead_pawns, other_pawns, has_single_lead, man_codes, count_of}
use Rattle.szg_count.specs.Sets.{sets_of, subsets, choose, IsFallingBelow, binomial_sum}
use Rattle.szg_count.specs.Leads.{triples, king_pairs, pawn_order, after, lead_pawn_sets, without}
use Rattle.szg_count.specs.Groups.{IsPart, lead_sets, lead_ways, lead_length, group_ways, groups_of, runs_of, has_other_pawns, Nibbles, order_fault, counted, product}

-- x is an element of the list
abbrev pub IsIn : {A : Type 0} → A → List A → Type 0
IsIn x [] = ⊥
IsIn x (y ∷ ys) = (x ≡ y) ⊎ IsIn x ys

-- the members of the list are all different
abbrev pub AllDiffer : {A : Type 0} → List A → Type 0
AllDiffer [] = ⊤
AllDiffer (x ∷ xs) = (IsIn x xs → ⊥) × AllDiffer xs

-- there are `choose` sets of r elements of a list
abbrev pub LawSetCount : Type 0
LawSetCount = (r : ℕ) (xs : List ℕ) → length (sets_of r xs) ≡ choose (length xs) r

-- the number of sets of r numbers below n is the binomial
abbrev pub LawSubsetCount : Type 0
LawSubsetCount = (n r : ℕ) → length (subsets n r) ≡ choose n r

-- choose (n + 1) (k + 1) follows from choose n k
abbrev pub LawChooseStep : Type 0
LawChooseStep = (n k : ℕ) → choose (suc n) (suc k) * suc k ≡ suc n * choose n k

abbrev pub LawTripleCount : Type 0
LawTripleCount = length triples ≡ 31332

abbrev pub LawKingPairCount : Type 0
LawKingPairCount = length king_pairs ≡ 462

-- the value P of the squares of ranks 2 to 7, from a2 to h7, as the format's table has them: the number of squares
-- after each in the order
abbrev pub pawn_table : List ℕ
pawn_table = 47 ∷ 35 ∷ 23 ∷ 11 ∷ 10 ∷ 22 ∷ 34 ∷ 46
    ∷ 45 ∷ 33 ∷ 21 ∷ 9 ∷ 8 ∷ 20 ∷ 32 ∷ 44
    ∷ 43 ∷ 31 ∷ 19 ∷ 7 ∷ 6 ∷ 18 ∷ 30 ∷ 42
    ∷ 41 ∷ 29 ∷ 17 ∷ 5 ∷ 4 ∷ 16 ∷ 28 ∷ 40
    ∷ 39 ∷ 27 ∷ 15 ∷ 3 ∷ 2 ∷ 14 ∷ 26 ∷ 38
    ∷ 37 ∷ 25 ∷ 13 ∷ 1 ∷ 0 ∷ 12 ∷ 24 ∷ 36 ∷ []

abbrev pub LawPawnValues : Type 0
LawPawnValues = map (λ square. length (after square pawn_order)) (range_with_len 8 48) ≡ pawn_table

-- k lead pawns on a file: the sum over its squares of the ways to place the others on squares of smaller P
abbrev pub LawLeadPawnCount : Type 0
LawLeadPawnCount = (k file : ℕ) →
    length (lead_pawn_sets k file) ≡ sum (map (λ q. choose (length (after q pawn_order)) (k - 1)) (map (square_at file) (range_with_len 1 6)))

-- one to four lead pawns on each file
abbrev pub LawLeadPawnTable : Type 0
LawLeadPawnTable = map (λ k. map (λ file. length (lead_pawn_sets k file)) (range_with_len 0 4)) (range_with_len 1 4) ≡
    (6 ∷ 6 ∷ 6 ∷ 6 ∷ []) ∷ (252 ∷ 180 ∷ 108 ∷ 36 ∷ []) ∷ (5201 ∷ 2645 ∷ 953 ∷ 125 ∷ []) ∷ (70315 ∷ 25375 ∷ 5491 ∷ 295 ∷ []) ∷ []

-- The ways of a lead group. For lead pawns it is the sum over the squares of the part's file; the first has 47 - 12
-- part squares after it, and each further one two fewer.
abbrev pub LawLeadWays : Type 0
LawLeadWays = (sides : Sides) (part : ℕ) → IsPart sides part → lead_ways sides part ≡
    (if has_pawns sides then sum (map (λ rank. choose (47 - 12 * part - 2 * rank) (lead_pawns sides - 1)) (range_with_len 0 6)) else
    if has_single_lead sides then 31332 else 462)

-- the ways of other pawns: on the squares of ranks 2 to 7 that the lead pawns leave free
abbrev pub LawOtherPawnWays : Type 0
LawOtherPawnWays = (sides : Sides) (part : ℕ) (n : Nibbles) → IsMaterial sides → order_fault sides n ≡ None → IsTrue (has_other_pawns sides) →
    group_ways sides part (groups_of sides n.men) 1 ≡ choose (48 - lead_pawns sides) (other_pawns sides)

-- the ways of a run: on the squares that all men of the groups before it leave free
abbrev pub LawRunWays : Type 0
LawRunWays = (sides : Sides) (part : ℕ) (groups : List (List ℕ)) (i : ℕ) → (if has_other_pawns sides then 1 else 0) < i →
    group_ways sides part groups i ≡ choose (64 - length (concat (take i groups))) (length (unwrap_or (slice_get groups i) []))

-- the sets are all different
abbrev pub LawSetsDiffer : Type 0
LawSetsDiffer = (r : ℕ) (xs : List ℕ) → AllDiffer xs → AllDiffer (sets_of r xs)

abbrev pub LawSubsetsDiffer : Type 0
LawSubsetsDiffer = (n r : ℕ) → AllDiffer (subsets n r)

abbrev pub LawLeadsDiffer : Type 0
LawLeadsDiffer = (sides : Sides) (part : ℕ) → part < 4 → AllDiffer (lead_sets sides part)

-- the elements of a list that pass a test are one of its sets
abbrev pub LawSetsContainFiltered : Type 0
LawSetsContainFiltered = (test : ℕ → Bool) (xs : List ℕ) → IsIn (filter test xs) (sets_of (length (filter test xs)) xs)

-- the sets of r numbers below n are the lists of r numbers that decrease from below n
abbrev pub LawSubsetsFall : Type 0
LawSubsetsFall = (n r : ℕ) (set : List ℕ) → IsIn set (subsets n r) ↔ ((length set ≡ r) × IsFallingBelow n set)

-- for two lists of one length: at the first difference the first list has the lesser member
abbrev pub IsBefore : List ℕ → List ℕ → Type 0
IsBefore [] ys = ⊥
IsBefore (x ∷ xs) [] = ⊥
IsBefore (x ∷ xs) (y ∷ ys) = (x < y) ⊎ ((x ≡ y) × IsBefore xs ys)

-- the sets, each listed from its greatest member down, are ordered by the greatest member, then by the next one,
-- and so on
abbrev pub LawSubsetsRise : Type 0
LawSubsetsRise = (n r i j : ℕ) (a b : List ℕ) → slice_get (subsets n r) i ≡ Some a → slice_get (subsets n r) j ≡ Some b → i < j → IsBefore a b

-- the rank of a set is the sum of its binomials
abbrev pub LawRankSubset : Type 0
LawRankSubset = (n : ℕ) (set : List ℕ) → IsFallingBelow n set → slice_get (subsets n (length set)) (binomial_sum set) ≡ Some set

-- the sets of a list correspond to the sets of the indexes of its elements, counted from its last element, in the
-- same order
abbrev pub LawSetsNumbered : Type 0
LawSetsNumbered = (r : ℕ) (xs : List ℕ) → sets_of r xs ≡ map (map (slice_index (reverse xs))) (subsets (length xs) r)

-- of a list of different elements without some of them, the length is the difference of the two lengths
abbrev pub LawFreeCount : Type 0
LawFreeCount = (some xs : List ℕ) → AllDiffer some → AllDiffer xs → ((x : ℕ) → IsIn x some → IsIn x xs) → length (without some xs) + length some ≡ length xs

-- the number of sets of the remaining elements is the binomial of their number
abbrev pub LawFreeSetCount : Type 0
LawFreeSetCount = (some xs : List ℕ) (r : ℕ) → AllDiffer some → AllDiffer xs → ((x : ℕ) → IsIn x some → IsIn x xs) →
    length (sets_of r (without some xs)) ≡ choose (length xs - length some) r

-- the size of a subtable is below 2^33
abbrev pub LawSizeBelow : Type 0
LawSizeBelow = (sides : Sides) (part : ℕ) (n : Nibbles) → IsMaterial sides → IsPart sides part → order_fault sides n ≡ None →
    product (counted sides part n).ways < 2 ^ 33

-- the squares of a set of a lead list are all different and on the board, and their number is the number of men of
-- the lead group
abbrev pub LawLeadSets : Type 0
LawLeadSets = (sides : Sides) (part : ℕ) (set : List ℕ) → IsMaterial sides → IsPart sides part → IsIn set (lead_sets sides part) →
    (length set ≡ lead_length sides) × AllDiffer set × ((square : ℕ) → IsIn square set → square < 64)

-- The men of an accepted order are the material's men, in any order.
abbrev pub LawMenOfOrder : Type 0
LawMenOfOrder = (sides : Sides) (n : Nibbles) → order_fault sides n ≡ None → (code : ℕ) → count_of code n.men ≡ count_of code (man_codes sides)

-- the groups joined are the men
abbrev pub LawGroupsJoined : Type 0
LawGroupsJoined = (sides : Sides) (men : List ℕ) → concat (groups_of sides men) ≡ men

-- at least one man, and all men equal to the first
abbrev pub IsRun : List ℕ → Type 0
IsRun [] = ⊥
IsRun (x ∷ run) = (y : ℕ) → IsIn y run → y ≡ x

-- no man of a run is one of the next run's
abbrev pub DiffersFromFirst : List ℕ → List (List ℕ) → Type 0
DiffersFromFirst run [] = ⊤
DiffersFromFirst run (next ∷ runs) = (x y : ℕ) → IsIn x run → IsIn y next → x ≡ y → ⊥

abbrev pub NeighboursDiffer : List (List ℕ) → Type 0
NeighboursDiffer [] = ⊤
NeighboursDiffer (run ∷ runs) = DiffersFromFirst run runs × NeighboursDiffer runs

-- The runs joined are the men. Each run has at least one man and equal men, and neighbouring runs have different
-- men.
abbrev pub LawRuns : Type 0
LawRuns = (men : List ℕ) → (concat (runs_of men) ≡ men) × ((run : List ℕ) → IsIn run (runs_of men) → IsRun run) × NeighboursDiffer (runs_of men)
