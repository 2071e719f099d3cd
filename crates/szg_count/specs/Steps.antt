-- The steps of the computation, over plain lists of men, of lengths, of ways and of positions.
use Rattle.std.specs.Prelude.{ℕ, suc, ◌+◌, ◌-◌, ◌<◌, Bool, not, ◌&&◌, ◌==◌, nat_lt, List, [], ◌∷◌, ◌++◌, map, length, take, drop, sum, Option, option_to_list, is_some, if◌then◌else◌, slice_index}
use Rattle.std.specs.List.{list_any, list_all, range_with_len}
use Rattle.szg_count.specs.Sets.{choose}
use Rattle.szg_count.specs.Leads.{without}
use Rattle.szg_count.specs.Groups.{runs_of, ways_before, product}
use Rattle.szg_count.specs.declared.Group.{Group}

-- how many men at the beginning of a list are equal to `man`
abbrev pub leading : ℕ → List ℕ → ℕ
leading man [] = 0
leading man (x ∷ men) = if man == x then suc (leading man men) else 0

-- the lengths of runs of equal men
abbrev pub run_lengths : List ℕ → List ℕ
run_lengths men = map (λ run. length run) (runs_of men)

-- the lengths of the groups: of the lead group, of the other pawns (if any), of the runs after them
abbrev pub lengths_of : ℕ → ℕ → List ℕ → List ℕ
lengths_of lead other men = lead ∷ (if nat_lt 0 other then other ∷ [] else []) ++ run_lengths (drop (lead + other) men)

-- the ways of group i, from the lengths of the groups; `lead` for the lead group
abbrev pub ways_by : ℕ → Bool → List ℕ → ℕ → ℕ
ways_by lead has_other lengths i = if i == 0 then lead else choose ((if has_other && i == 1 then 48 else 64) - sum (take i lengths)) (slice_index lengths i)

-- the given positions are valid: a second one exactly if there are other pawns, and different ones below the number
-- of groups
abbrev pub are_valid_positions : Bool → ℕ → Option ℕ → ℕ → Bool
are_valid_positions has_other lead other count = (if is_some other then has_other else not has_other)
    && list_all (λ position. nat_lt position count) (lead ∷ option_to_list other)
    && not (list_any (λ position. position == lead) (option_to_list other))

-- the given positions, followed by the remaining ones
abbrev pub positions_from : ℕ → Option ℕ → ℕ → List ℕ
positions_from lead other count = let fixed = lead ∷ option_to_list other in fixed ++ without fixed (range_with_len 0 count)

-- no number is 0
abbrev pub ArePositive : List ℕ → Type 0
ArePositive [] = Unit {0}
ArePositive (x ∷ xs) = (0 < x) × ArePositive xs

-- group i of lists of lengths, ways and positions
abbrev pub group_from : List ℕ → List ℕ → List ℕ → ℕ → Group
group_from lengths ways positions i = record {
  first = sum (take i lengths);
  length = slice_index lengths i;
  ways = slice_index ways i;
  factor = product (ways_before (slice_index positions i) positions ways);
}
