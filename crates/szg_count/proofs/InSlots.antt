-- The groups that a side's order cuts its men into, as the code walks them.
use Rattle.std.proofs.Common.{◌≡◌, ℕ, zero, suc, ◌+◌, ◌<◌, ◌≤◌, List, [], ◌∷◌, ◌++◌, length, map, take, drop, get_or, refl, sym, ap, ◌∙◌, subst, Bool, true, arith, append_assoc, length-append}
use Rattle.std.specs.Prelude.{Some, slice_get, ◌==◌}
use Rattle.std.specs.List.{concat, list_all, range_with_len}
use Rattle.std.proofs.Math.Bool.{◌&&◌, ◌||◌}
use Rattle.std.proofs.lemmas.List.{take_at, drop_at}
use Rattle.std.proofs.lemmas.List.FromFn.{get_or-map-range_with_len, length-map-range_with_len}
use Rattle.std.proofs.lemmas.Option.{slice_get-get_or, unwrap_or-slice_get}
use Rattle.szg_values.specs.Material.{Sides, has_pawns, count_of}
use Rattle.szg_count.specs.Groups.{Nibbles, Counted, counted, groups_of, lead_length}
use Rattle.szg_count.specs.Grouped.{is_regular}
use Rattle.szg_count.specs.Views.{group_at, groups_in_slot_order}
use Rattle.szg_count.specs.declared.Group.{Group}
use Rattle.szg_count.proofs.Rearranged.{groups_joined}

whole : (sets : List (List ℕ)) (i : ℕ) → i < length sets → concat sets ≡ concat (take i sets) ++ (get_or sets i [] ++ concat (drop (suc i) sets))
whole [] i h = absurd (omega (arith, h))
whole (set ∷ sets) zero h = refl
whole (set ∷ sets) (suc i) h =
    ap (λ (l : List ℕ). set ++ l) (whole sets i (omega (arith, h)))
    ∙ sym (append_assoc set (concat (take i sets)) (get_or sets i [] ++ concat (drop (suc i) sets)))

pub squares_before : (sets : List (List ℕ)) (i n : ℕ) → i < length sets → n ≡ length (concat (take i sets)) → take n (concat sets) ≡ concat (take i sets)
squares_before sets i n h e =
    ap (λ (l : List ℕ). take n l) (whole sets i h) ∙ take_at (concat (take i sets)) (get_or sets i [] ++ concat (drop (suc i) sets)) n (sym e)

pub squares_here : (sets : List (List ℕ)) (i n m : ℕ) → i < length sets → n ≡ length (concat (take i sets)) → m ≡ length (get_or sets i []) → take m (drop n (concat sets)) ≡ get_or sets i []
squares_here sets i n m h e f =
    ap (λ (l : List ℕ). take m l) (ap (λ (l : List ℕ). drop n l) (whole sets i h) ∙ drop_at (concat (take i sets)) (get_or sets i [] ++ concat (drop (suc i) sets)) n (sym e))
    ∙ take_at (get_or sets i []) (concat (drop (suc i) sets)) m (sym f)

pub squares_room : (sets : List (List ℕ)) (i : ℕ) → i < length sets → length (concat (take i sets)) + length (get_or sets i []) ≤ length (concat sets)
squares_room sets i h =
    let a = ap length (whole sets i h) in
    let b = length-append (concat (take i sets)) (get_or sets i [] ++ concat (drop (suc i) sets)) in
    let c = length-append (get_or sets i []) (concat (drop (suc i) sets)) in omega (arith, a, b, c)

pub group_is : (c : Counted) (i : ℕ) (group : Group) → i < length c.groups → slice_get (groups_in_slot_order c) i ≡ Some group → group ≡ group_at c i
unfolding groups_in_slot_order
group_is c i group h e =
    let all = map (group_at c) (range_with_len 0 (length c.groups)) in
    let n : length all ≡ length c.groups = length-map-range_with_len (group_at c) 0 (length c.groups) in
    let x : slice_get all i ≡ Some (get_or all i (group_at c 0)) = slice_get-get_or all i (group_at c 0) (omega (arith, n, h)) in
    let z : 0 + i ≡ i = omega arith in
    let y : get_or all i (group_at c 0) ≡ group_at c i = get_or-map-range_with_len (group_at c) 0 (length c.groups) i i (group_at c 0) h z in
    let s : Some group ≡ Some (group_at c i) = sym e ∙ x ∙ ap Some y in cc

pub groups_many : (c : Counted) → length (groups_in_slot_order c) ≡ length c.groups
unfolding groups_in_slot_order
groups_many c = length-map-range_with_len (group_at c) 0 (length c.groups)

pub groups_are : (sides : Sides) (part : ℕ) (n : Nibbles) → (counted sides part n).groups ≡ groups_of sides n.men
unfolding counted
groups_are sides part n = refl

pub record IsCut (men : List ℕ) (sets : List (List ℕ)) (i : ℕ) (group : Group) : Type 0 where
  pub inside : i < length sets
  pub first : group.first ≡ length (concat (take i sets))
  pub size : group.length ≡ length (get_or sets i [])
  pub here : take group.length (drop group.first men) ≡ get_or sets i []
  pub room : group.first + group.length ≤ length men

pub cut_of : (sides : Sides) (part : ℕ) (n : Nibbles) (i : ℕ) (group : Group) (groups : List Group) → groups ≡ groups_in_slot_order (counted sides part n) → i < length groups →
    slice_get groups i ≡ Some group → IsCut n.men (groups_of sides n.men) i group
cut_of sides part n i group groups e h g =
    let c = counted sides part n in let sets = groups_of sides n.men in
    let stated = subst (λ (l : List Group). slice_get l i ≡ Some group) e g in
    let all = groups_many c in let many = ap length e in let same = groups_are sides part n in let count = ap length same in
    let inside : i < length c.groups = omega (arith, h, all, many) in
    let there : i < length sets = omega (arith, inside, count) in
    let is = group_is c i group inside stated in
    let first : group.first ≡ length (concat (take i sets)) = ap (λ (x : Group). x.first) is ∙ ap (λ (l : List (List ℕ)). length (concat (take i l))) same in
    let size : group.length ≡ length (get_or sets i []) = ap (λ (x : Group). x.length) is ∙ ap length (unwrap_or-slice_get c.groups i []) ∙ ap (λ (l : List (List ℕ)). length (get_or l i [])) same in
    let whole = groups_joined sides n.men in
    let room = squares_room sets i there in let long = ap length whole in record {
      inside = there;
      first = first;
      size = size;
      here = ap (λ (l : List ℕ). take group.length (drop group.first l)) (sym whole) ∙ squares_here sets i group.first group.length there first size;
      room = omega (arith, room, long, first, size);
    }

pub stated_long : (sides : Sides) (part : ℕ) (n : Nibbles) (groups : List Group) → groups ≡ groups_in_slot_order (counted sides part n) → length groups ≡ length (groups_of sides n.men)
stated_long sides part n groups e = ap length e ∙ groups_many (counted sides part n) ∙ ap length (groups_are sides part n)

-- there is at least one group, the lead group
pub some_group : (sides : Sides) (men : List ℕ) → 0 < length (groups_of sides men)
unfolding groups_of
some_group sides men = omega arith

pub lead_first : (sides : Sides) (men : List ℕ) → get_or (groups_of sides men) 0 [] ≡ take (lead_length sides) men
unfolding groups_of
lead_first sides men = refl

pub regular_is : (sides : Sides) (men : List ℕ) →
    ((has_pawns sides || list_all (λ code. count_of code men == 1) (get_or (groups_of sides men) 0 [])) && list_all (λ group. list_all (λ code. count_of code men == length group) group) (drop 1 (groups_of sides men)))
    ≡ is_regular sides (groups_of sides men)
regular_is sides men = split (groups_of sides men) (some_group sides men) (groups_joined sides men) where
  split : (groups : List (List ℕ)) → 0 < length groups → concat groups ≡ men →
      ((has_pawns sides || list_all (λ code. count_of code men == 1) (get_or groups 0 [])) && list_all (λ group. list_all (λ code. count_of code men == length group) group) (drop 1 groups))
      ≡ is_regular sides groups
  split [] h e = absurd (omega (arith, h))
  split (lead ∷ groups) h e =
      ap (λ (l : List ℕ). (has_pawns sides || list_all (λ code. count_of code l == 1) lead) && list_all (λ group. list_all (λ code. count_of code l == length group) group) groups) (sym e)

-- the test over the groups from the i-th on, by group i and the groups after it
pub all_more : (test : List ℕ → Bool) (groups : List (List ℕ)) (i : ℕ) → i < length groups → list_all test (drop i groups) ≡ (test (get_or groups i []) && list_all test (drop (i + 1) groups))
all_more test [] i h = absurd (omega (arith, h))
all_more test (group ∷ groups) zero h = refl
all_more test (group ∷ groups) (suc i) h =
    let e : suc i + 1 ≡ suc (i + 1) = omega arith in
    all_more test groups i (omega (arith, h)) ∙ ap (λ n. test (get_or groups i []) && list_all test (drop n (group ∷ groups))) (sym e)

pub all_done : (test : List ℕ → Bool) (groups : List (List ℕ)) (i : ℕ) → length groups ≤ i → list_all test (drop i groups) ≡ true
all_done test [] zero h = refl
all_done test [] (suc i) h = refl
all_done test (group ∷ groups) zero h = absurd (omega (arith, h))
all_done test (group ∷ groups) (suc i) h = all_done test groups i (omega (arith, h))
