-- Ranking and unranking of groups' squares undo each other.
use Rattle.std.proofs.Common.{◌≡◌, ℕ, ◌<◌, List, [], ◌∷◌, ◌++◌, length, refl, sym, ap, ◌∙◌, subst, Bool, true, false, ◌&&◌, cond}
use Rattle.std.specs.Prelude.{Some, slice_get, unwrap_or, ◌==◌}
use Rattle.std.specs.List.{zip, concat}
use Rattle.szg_values.specs.Material.{Sides}
use Rattle.szg_count.specs.Sets.{sets_of}
use Rattle.szg_count.specs.Leads.{without, rank_in, squares, pawn_squares, squares_down}
use Rattle.szg_count.specs.Groups.{has_other_pawns}
use Rattle.szg_count.specs.Laws.{IsIn, AllDiffer}
use Rattle.szg_count.proofs.Differ.{AllDiffer-test, AllDiffer-filter, sets_differ, leads_differ}
use Rattle.szg_count.proofs.RanksInLists.{slice_get-rank_in, set_below, rank_in-slice_get, length-set}
use Rattle.szg_place.specs.Spots.{ordered_sets, ranks_in_lists, squares_of_ranks, set_at}
use Rattle.szg_place.specs.Ranks.{EachInList, EachRankBelow, LawUnrankAfterRank, LawRankAfterUnrank}

stated_again : (sides : Sides) (part : ℕ) (before groups squares : List (List ℕ)) → EachInList sides part before groups squares →
    squares_of_ranks sides part before (zip groups (ranks_in_lists sides part before squares)) ≡ squares
unfolding squares_of_ranks ranks_in_lists
stated_again sides part before [] [] h = refl
stated_again sides part before [] (set ∷ sets) h = absurd h
stated_again sides part before (group ∷ groups) [] h = absurd h
stated_again sides part before (group ∷ groups) (set ∷ sets) h =
    let e : set_at sides part before (group, rank_in (ordered_sets sides part before (length set)) set) ≡ set =
    ap (λ n. unwrap_or (slice_get (ordered_sets sides part before n) (rank_in (ordered_sets sides part before (length set)) set)) []) (sym h.1)
    ∙ ap (λ o. unwrap_or o []) (slice_get-rank_in (ordered_sets sides part before (length set)) set h.0) in
    (λ i. e i ∷ squares_of_ranks sides part (before ++ e i ∷ []) (zip groups (ranks_in_lists sides part (before ++ set ∷ []) sets)))
    ∙ ap (λ l. set ∷ l) (stated_again sides part (before ++ set ∷ []) groups sets h.2)

pub squares_again : LawUnrankAfterRank
squares_again sides part groups squares h = stated_again sides part [] groups squares h

-- ---- an ordered list has no duplicates

either_differ : (b : Bool) (x y : List ℕ) → AllDiffer x → AllDiffer y → AllDiffer (cond b x y)
either_differ true x y p q = p
either_differ false x y p q = q

pub AllDiffer-pawn_squares : AllDiffer pawn_squares
unfolding pawn_squares
AllDiffer-pawn_squares = AllDiffer-test pawn_squares refl

pub AllDiffer-squares_down : AllDiffer squares_down
unfolding squares_down squares
AllDiffer-squares_down = AllDiffer-test squares_down refl

pub AllDiffer-ordered_sets : (sides : Sides) (part : ℕ) (before : List (List ℕ)) (size : ℕ) → part < 4 → AllDiffer (ordered_sets sides part before size)
unfolding ordered_sets
AllDiffer-ordered_sets sides part [] size h = leads_differ sides part h
AllDiffer-ordered_sets sides part (lead ∷ before) size h =
    sets_differ size _ (AllDiffer-filter _ _
    (either_differ (has_other_pawns sides && length before == 0) pawn_squares squares_down AllDiffer-pawn_squares AllDiffer-squares_down))

-- the ordered list of a later group depends on the number of squares only
same_size : (sides : Sides) (part : ℕ) (before : List (List ℕ)) (size : ℕ) (set : List ℕ) → IsIn set (ordered_sets sides part before size) →
    ordered_sets sides part before (length set) ≡ ordered_sets sides part before size
unfolding ordered_sets
same_size sides part [] size set h = refl
same_size sides part (lead ∷ before) size set h =
    ap (λ n. sets_of n (without (concat (lead ∷ before)) (cond (has_other_pawns sides && length before == 0) pawn_squares squares_down)))
    (length-set size (without (concat (lead ∷ before)) (cond (has_other_pawns sides && length before == 0) pawn_squares squares_down)) set h)

ranks_from : (sides : Sides) (part : ℕ) (before groups : List (List ℕ)) (group_ranks : List ℕ) → part < 4 → EachRankBelow sides part before groups group_ranks →
    ranks_in_lists sides part before (squares_of_ranks sides part before (zip groups group_ranks)) ≡ group_ranks
unfolding squares_of_ranks ranks_in_lists
ranks_from sides part before [] [] p h = refl
ranks_from sides part before [] (rank ∷ group_ranks) p h = absurd h
ranks_from sides part before (group ∷ groups) [] p h = absurd h
ranks_from sides part before (group ∷ groups) (rank ∷ group_ranks) p h =
    let sets = ordered_sets sides part before (length group) in
    let s = set_below sets rank h.0 in
    let set = set_at sides part before (group, rank) in
    let e : set ≡ s.0 = ap (λ o. unwrap_or o []) s.1 in
    let i : IsIn set sets = subst (λ (t : List ℕ). IsIn t sets) (sym e) s.2 in
    let g : slice_get sets rank ≡ Some set = s.1 ∙ ap Some (sym e) in
    let here : rank_in (ordered_sets sides part before (length set)) set ≡ rank =
    ap (λ l. rank_in l set) (same_size sides part before (length group) set i)
    ∙ rank_in-slice_get sets rank set (AllDiffer-ordered_sets sides part before (length group) p) g in
    let more = ranks_from sides part (before ++ set ∷ []) groups group_ranks p h.1 in
    (λ j. here j ∷ more j)

pub ranks_again : LawRankAfterUnrank
ranks_again sides part groups group_ranks p h = ranks_from sides part [] groups group_ranks p h
