-- The format's formulas for the ways of groups, and that the sets of numbers are all different.
use Rattle.std.proofs.Common.{◌≡◌, ℕ, zero, suc, ◌+◌, ◌-◌, ◌<◌, ◌≤◌, List, [], ◌∷◌, ◌++◌, length, map, take, drop, inl, inr, refl, ap, ◌∙◌, Bool, true, false, cond, arith, length-take, length-drop, length-append}
use Rattle.std.specs.Prelude.{◌==◌, nat_lt, sum, slice_get, unwrap_or, Option, Some, None}
use Rattle.std.specs.List.{range_with_len, concat}
use Rattle.std.proofs.Math.Bool.{not, ◌&&◌}
use Rattle.std.proofs.lemmas.Bool.Decides.{eqb_tells}
use Rattle.std.proofs.lemmas.Bool.{and_parts}
use Rattle.szg_values.specs.Material.{man_codes, has_pawns, lead_pawns, other_pawns, has_single_lead}
use Rattle.szg_count.specs.declared.OrderFault.{OrderFault}
use Rattle.szg_count.specs.Sets.{numbers_below, choose}
use Rattle.szg_count.specs.Leads.{without}
use Rattle.szg_count.specs.Groups.{is_rearrangement, has_other_pawns, order_fault, groups_of, group_ways, lead_ways, lead_length, later_men, runs_of}
use Rattle.szg_count.specs.Laws.{IsIn, AllDiffer, LawLeadPawnTable, LawLeadWays, LawOtherPawnWays, LawRunWays, LawSubsetsDiffer, LawFreeSetCount}
use Rattle.szg_count.proofs.Counting.{set_count, subset_count}
use Rattle.szg_count.proofs.Rows.{lead_pawn_sets_one, lead_pawn_sets_two, lead_pawn_sets_three, lead_pawn_sets_four}
use Rattle.szg_count.proofs.Differ.{sets_differ}
use Rattle.szg_count.proofs.Free.{free_count_law}
use Rattle.szg_count.proofs.Binomials.{pawn_ways, lead_pawn_sum}
use Rattle.szg_count.proofs.Pawns.{peopled, rearranged-length}
use Rattle.szg_count.proofs.Counts.{lead_ways-pawns, lead_ways-three, lead_ways-kings, part_file}

rows : (a b c d e f g h : List ℕ) → a ≡ e → b ≡ f → c ≡ g → d ≡ h → a ∷ b ∷ c ∷ d ∷ [] ≡ e ∷ f ∷ g ∷ h ∷ []
rows a b c d e f g h i j k l = cc

pub lead_pawn_table : LawLeadPawnTable
lead_pawn_table = rows _ _ _ _ _ _ _ _ lead_pawn_sets_one lead_pawn_sets_two lead_pawn_sets_three lead_pawn_sets_four

pub lead_group_ways : LawLeadWays
lead_group_ways sides part i = split (has_pawns sides) (has_single_lead sides) refl refl where
  split : (b s : Bool) → has_pawns sides ≡ b → has_single_lead sides ≡ s → lead_ways sides part ≡ cond b (sum (map (pawn_ways (lead_pawns sides) part) (range_with_len 0 6))) (cond s 31332 462)
  split true s e f = lead_ways-pawns sides part e ∙ lead_pawn_sum (lead_pawns sides) part (part_file sides part e i)
  split false true e f = lead_ways-three sides part e f
  split false false e f = lead_ways-kings sides part e f

-- ---- later groups

-- the numbers below n are different
below-differs : (n m : ℕ) → n ≤ m → IsIn m (numbers_below n) → ⊥
unfolding numbers_below
below-differs zero m h i = i
below-differs (suc n) m h (inl e) = omega arith
below-differs (suc n) m h (inr i) = below-differs n m (omega arith) i

numbers-differ : (n : ℕ) → AllDiffer (numbers_below n)
unfolding numbers_below
numbers-differ zero = tt
numbers-differ (suc n) = (below-differs n n (omega arith), numbers-differ n)

pub subsets_differ : LawSubsetsDiffer
subsets_differ n r = sets_differ r (numbers_below n) (numbers-differ n)

pub free_set_count : LawFreeSetCount
free_set_count some xs r d e h =
    let k = free_count_law some xs d e h in
    let m : length (without some xs) ≡ length xs - length some = omega (arith, k) in
    set_count r (without some xs) ∙ ap (λ n. choose n r) m

picked : (b : Bool) (k m : ℕ) → b ≡ false → cond b k m ≡ m
picked true k m e = cc
picked false k m e = refl

abbrev squares_for : Bool → ℕ → ℕ
squares_for b i = cond (b && i == 1) 48 64

later_squares : (b : Bool) (i : ℕ) → cond b 1 0 < i → squares_for b i ≡ 64
later_squares true i h = elim (eqb_tells i 1) [ inl e ↦ absurd (let f = e.1 in omega (arith, f, h)) | inr n ↦ picked (i == 1) 48 64 n.0 ]
later_squares false i h = refl

pub run_ways : LawRunWays
unfolding group_ways
run_ways sides part groups zero h = absurd (omega arith)
run_ways sides part groups (suc i) h =
    let r = length (unwrap_or (slice_get groups (suc i)) []) in
    subset_count (cond (has_other_pawns sides && suc i == 1) 48 64 - length (concat (take (suc i) groups))) r
    ∙ ap (λ n. choose (n - length (concat (take (suc i) groups))) r) (later_squares (has_other_pawns sides) (suc i) h)

no_fault : (b : Bool) (fault : OrderFault) (rest : Option OrderFault) → cond (not b) (Some fault) rest ≡ None → b ≡ true
no_fault true fault rest e = refl
no_fault false fault rest e = cc

-- with pawns the lead group has the lead pawns
with_pawns : (b : Bool) (k m : ℕ) → b ≡ true → cond b k m ≡ k
with_pawns true k m e = refl
with_pawns false k m e = cc

second : (b : Bool) (k m : ℕ) (men : List ℕ) (runs : List (List ℕ)) → b ≡ true → k + m ≤ length men →
    (length (concat (take 1 (take k men ∷ (cond b (take m (drop k men) ∷ []) []) ++ runs))) ≡ k)
    × (length (unwrap_or (slice_get (take k men ∷ (cond b (take m (drop k men) ∷ []) []) ++ runs) 1) []) ≡ m)
second true k m men runs e h = (
  let a = length-append (take k men) [] in let b = length-take k men in omega (arith, a, b, h),
  let a = length-take m (drop k men) in let b = length-drop k men in omega (arith, a, b, h),
)
second false k m men runs e h = cc

pub other_pawn_ways : LawOtherPawnWays
unfolding group_ways groups_of order_fault
other_pawn_ways sides part n h o e =
    let r = no_fault (is_rearrangement n.men (man_codes sides)) _ _ o in
    let same = rearranged-length n.men (man_codes sides) r in
    let p = peopled sides h in let few = p.pawns in
    let x = and_parts (has_pawns sides) (nat_lt 0 (other_pawns sides)) e in
    let lead = with_pawns (has_pawns sides) (lead_pawns sides) (cond (has_single_lead sides) 3 2) x.0 in
    let groups = groups_of sides n.men in
    let parts = second (has_other_pawns sides) (lead_length sides) (other_pawns sides) n.men (runs_of (later_men sides n.men)) e (omega (arith, lead, few, same)) in
    subset_count (cond (has_other_pawns sides && 1 == 1) 48 64 - length (concat (take 1 groups))) (length (unwrap_or (slice_get groups 1) []))
    ∙ ap (λ b. choose (cond (b && 1 == 1) 48 64 - length (concat (take 1 groups))) (length (unwrap_or (slice_get groups 1) []))) e
    ∙ ap (λ k. choose (48 - k) (length (unwrap_or (slice_get groups 1) []))) (parts.0 ∙ lead)
    ∙ ap (λ m. choose (48 - lead_pawns sides) m) parts.1
