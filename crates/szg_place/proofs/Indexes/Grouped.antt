-- The groups that a table's order cuts its men into, as the code walks them.
use Rattle.std.proofs.Common.{◌≡◌, ℕ, zero, suc, ◌+◌, ◌<◌, ◌≤◌, inl, List, [], ◌∷◌, ◌++◌, length, map, take, get_or, refl, sym, ap, ◌∙◌, subst, arith, length-append}
use Rattle.std.specs.Prelude.{Some, None, slice_get}
use Rattle.std.specs.List.{concat}
use Rattle.szg_values.specs.Material.{Sides, IsMaterial}
use Rattle.szg_count.specs.Leads.{squares_down}
use Rattle.szg_count.specs.Groups.{Nibbles, groups_of, order_fault, lead_length}
use Rattle.szg_count.specs.declared.Group.{Group}
use Rattle.szg_count.specs.Laws.{IsIn}
use Rattle.szg_count.proofs.InSlots.{squares_room, cut_of}
use Rattle.szg_count.proofs.Differ.{IsIn-at}
use Rattle.szg_place.specs.Normal.{CodedMan, squares_with, lead_squares, squares_by_group}
use Rattle.szg_place.specs.Known.{AreGrouped}
use Rattle.szg_place.specs.Ranks.{EachInList}
use Rattle.szg_place.proofs.Indexes.Spotted.{ordered}
use Rattle.szg_place.proofs.MenOnSlots.Codes.{IsRun, later_groups, later_runs, concat-groups}
use Rattle.szg_place.proofs.Indexes.Indexing.{step_in}
use Rattle.szg_place.proofs.MenOnSlots.Slotted.{run_squares}

-- ---- regular groups

-- ---- squares, group after group

concat_at : (sets : List (List ℕ)) (i : ℕ) → i < length sets → 0 < length (get_or sets i []) → IsIn (get_or (concat sets) (length (concat (take i sets))) 0) (get_or sets i [])
concat_at [] i h s = absurd (omega (arith, h))
concat_at ([] ∷ sets) zero h s = absurd (omega (arith, s))
concat_at ((x ∷ set) ∷ sets) zero h s = inl refl
concat_at (set ∷ sets) (suc i) h s =
    let more = concat_at sets i (omega (arith, h)) s in
    let n = length (concat (take i sets)) in
    subst (λ (m : ℕ). IsIn m (get_or sets i [])) (sym (ap (λ k. get_or (set ++ concat sets) k 0) (length-append set (concat (take i sets))) ∙ following set (concat sets) n)) more
  where
    following : (xs ys : List ℕ) (n : ℕ) → get_or (xs ++ ys) (length xs + n) 0 ≡ get_or ys n 0
    following [] ys n = let e : 0 + n ≡ n = omega arith in ap (λ k. get_or ys k 0) e
    following (x ∷ xs) ys n = let e : suc (length xs) + n ≡ suc (length xs + n) = omega arith in ap (λ k. get_or (x ∷ xs ++ ys) k 0) e ∙ following xs ys n

concat_takes : (sets : List (List ℕ)) (i : ℕ) → i < length sets → concat (take (i + 1) sets) ≡ concat (take i sets) ++ get_or sets i []
concat_takes [] i h = absurd (omega (arith, h))
concat_takes (set ∷ sets) zero h = nothing set where
  nothing : (xs : List ℕ) → xs ++ [] ≡ xs
  nothing [] = refl
  nothing (x ∷ xs) = ap (λ l. x ∷ l) (nothing xs)
concat_takes (set ∷ sets) (suc i) h =
    let e : suc i + 1 ≡ suc (i + 1) = omega arith in
    ap (λ n. concat (take n (set ∷ sets))) e ∙ ap (λ l. set ++ l) (concat_takes sets i (omega (arith, h))) ∙ sym (joined set (concat (take i sets)) (get_or sets i []))
  where
    joined : (xs ys zs : List ℕ) → xs ++ ys ++ zs ≡ xs ++ (ys ++ zs)
    joined [] ys zs = refl
    joined (x ∷ xs) ys zs = ap (λ l. x ∷ l) (joined xs ys zs)

in_tail : (sets : List (List ℕ)) (i : ℕ) → i < length sets → IsIn (get_or sets i []) sets
in_tail sets i h = IsIn-at sets i [] h

-- what is known of a later group
pub record IsLater (men : List ℕ) (sets : List (List ℕ)) (groups : List (List ℕ)) (pieces : List CodedMan) (i : ℕ) (code : ℕ) : Type 0 where
  pub some : 0 < length (get_or groups i [])
  pub set : squares_with (code ∷ []) pieces squares_down ≡ get_or sets i []
  pub more : concat (take (i + 1) sets) ≡ concat (take i sets) ++ get_or sets i []
  pub room : length (concat (take i sets)) + length (get_or sets i []) ≤ length (concat sets)

pub sets_long : (sides : Sides) (men : List ℕ) (pieces : List CodedMan) → length (squares_by_group sides (groups_of sides men) pieces) ≡ length (groups_of sides men)
unfolding squares_by_group
sets_long sides men pieces = each (groups_of sides men) where
  mapped : (groups : List (List ℕ)) → length (map (λ group. squares_with group pieces squares_down) groups) ≡ length groups
  mapped [] = refl
  mapped (group ∷ groups) = ap suc (mapped groups)

  each : (groups : List (List ℕ)) → length (squares_by_group sides groups pieces) ≡ length groups
  each [] = refl
  each (group ∷ groups) = ap suc (mapped groups)

later_set : (sides : Sides) (groups : List (List ℕ)) (pieces : List CodedMan) (i : ℕ) → 0 < i → i < length groups → get_or (squares_by_group sides groups pieces) i [] ≡ squares_with (get_or groups i []) pieces squares_down
unfolding squares_by_group
later_set sides [] pieces i p h = absurd (omega (arith, h))
later_set sides (lead ∷ groups) pieces zero p h = absurd (omega (arith, p))
later_set sides (lead ∷ groups) pieces (suc i) p h = mapped groups i (omega (arith, h)) where
  mapped : (groups : List (List ℕ)) (i : ℕ) → i < length groups → get_or (map (λ group. squares_with group pieces squares_down) groups) i [] ≡ squares_with (get_or groups i []) pieces squares_down
  mapped [] i h = absurd (omega (arith, h))
  mapped (group ∷ groups) zero h = refl
  mapped (group ∷ groups) (suc i) h = mapped groups i (omega (arith, h))

pub later_run : (sides : Sides) (n : Nibbles) (i : ℕ) → IsMaterial sides → order_fault sides n ≡ None → 0 < i → i < length (groups_of sides n.men) → IsRun (get_or (groups_of sides n.men) i [])
unfolding groups_of
later_run sides n zero m o p h = absurd (omega (arith, p))
later_run sides n (suc i) m o p h = let k = ordered sides n o in
    later_runs sides n.men m k.pieces k.pawns (get_or (later_groups sides n.men) i []) (in_tail (later_groups sides n.men) i (omega (arith, h)))

pub some_in : (xs : List ℕ) (x : ℕ) → IsIn x xs → 0 < length xs
some_in [] x h = absurd h
some_in (y ∷ ys) x h = omega arith

pub later_of : (sides : Sides) (n : Nibbles) (pieces : List CodedMan) (i first : ℕ) → IsMaterial sides → order_fault sides n ≡ None → 0 < i → i < length (groups_of sides n.men) →
    first ≡ length (concat (take i (groups_of sides n.men))) →
    IsLater n.men (squares_by_group sides (groups_of sides n.men) pieces) (groups_of sides n.men) pieces i (get_or n.men first 0)
later_of sides n pieces i first m o p h f =
    let groups = groups_of sides n.men in let sets = squares_by_group sides groups pieces in
    let group = get_or groups i [] in
    let run = later_run sides n i m o p h in
    let some = some_in group run.code run.has in
    let at : IsIn (get_or n.men first 0) group = subst (λ (l : List ℕ). IsIn (get_or l first 0) group) (concat-groups sides n.men)
    (subst (λ (k : ℕ). IsIn (get_or (concat groups) k 0) group) (sym f) (concat_at groups i h some)) in
    let code = run.only (get_or n.men first 0) at in
    let long = sets_long sides n.men pieces in
    let there : i < length sets = omega (arith, h, long) in record {
      some = some;
      set = run_squares group (get_or n.men first 0) pieces squares_down (λ x. (λ j. run.only x j ∙ sym code, λ e. subst (λ (k : ℕ). IsIn k group) (sym e) at)) ∙ sym (later_set sides groups pieces i p h);
      more = concat_takes sets i there;
      room = squares_room sets i there;
    }

-- the lead group comes before the first later group
pub lead_squares-first : (sides : Sides) (men : List ℕ) (pieces : List CodedMan) → concat (take 1 (squares_by_group sides (groups_of sides men) pieces)) ≡ lead_squares sides (take (lead_length sides) men) pieces
unfolding groups_of squares_by_group
lead_squares-first sides men pieces = nothing (lead_squares sides (take (lead_length sides) men) pieces) where
  nothing : (xs : List ℕ) → xs ++ [] ≡ xs
  nothing [] = refl
  nothing (x ∷ xs) = ap (λ l. x ∷ l) (nothing xs)

pub takes_all : (sets : List (List ℕ)) (i : ℕ) → length sets ≤ i → take i sets ≡ sets
takes_all [] zero h = refl
takes_all [] (suc i) h = refl
takes_all (set ∷ sets) zero h = absurd (omega (arith, h))
takes_all (set ∷ sets) (suc i) h = ap (λ l. set ∷ l) (takes_all sets i (omega (arith, h)))

-- a later group in the code's loop: its men's squares, and room for them in the list
pub record IsGroupSet (sides : Sides) (n : Nibbles) (pieces : List CodedMan) (i size code : ℕ) : Type 0 where
  pub set : squares_with (code ∷ []) pieces squares_down ≡ get_or (squares_by_group sides (groups_of sides n.men) pieces) i []
  pub size_is : size ≡ length (squares_with (code ∷ []) pieces squares_down)
  pub room : length (concat (take i (squares_by_group sides (groups_of sides n.men) pieces))) + size ≤ length (concat (squares_by_group sides (groups_of sides n.men) pieces))
  pub more : concat (take (i + 1) (squares_by_group sides (groups_of sides n.men) pieces)) ≡
      concat (take i (squares_by_group sides (groups_of sides n.men) pieces)) ++ squares_with (code ∷ []) pieces squares_down

pub group_set : {sides : Sides} {part : ℕ} {n : Nibbles} {pieces : List CodedMan} {i count from : ℕ} {group : Group} {groups : List Group} {men : List ℕ} → IsMaterial sides → AreGrouped sides part n groups →
    EachInList sides part [] (groups_of sides n.men) (squares_by_group sides (groups_of sides n.men) pieces) → 0 < i → i < count → count ≡ length groups → slice_get groups i ≡ Some group →
    from ≡ group.first → men ≡ n.men → IsGroupSet sides n pieces i group.length (get_or men from 0)
group_set {sides} {part} {n} {pieces} {i} {count} {from} {group} {groups} {men} m g listed p k q e f w =
    let sets = squares_by_group sides (groups_of sides n.men) pieces in
    let cut = cut_of sides part n i group groups g.groups_are (omega (arith, k, q)) e in
    let later = later_of sides n pieces i from m g.ordered p cut.inside (f ∙ cut.first) in
    let set = ap (λ (c : ℕ). squares_with (c ∷ []) pieces squares_down) (ap (λ (l : List ℕ). get_or l from 0) w) ∙ later.set in
    let size = (step_in m g listed k q e).size in let room = later.room in record {
      set = set;
      size_is = size ∙ sym (ap length set);
      room = omega (arith, size, room);
      more = later.more ∙ ap (λ (l : List ℕ). concat (take i sets) ++ l) (sym set);
    }
