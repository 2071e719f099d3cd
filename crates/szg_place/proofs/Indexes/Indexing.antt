-- An index as a sum over the groups.
use Rattle.std.proofs.Common.{◌≡◌, ℕ, zero, suc, ◌+◌, ◌*◌, ◌<◌, ◌≤◌, inl, inr, List, [], ◌∷◌, ◌++◌, length, map, get_or, take, drop, refl, sym, ap, ◌∙◌, subst, Bool, true, false, cond, arith, append_assoc, drop-cons, add-one, length-append}
use Rattle.std.specs.Prelude.{Some, None, slice_get, unwrap_or, ◌==◌, ◌&&◌, ◌^◌}
use Rattle.std.specs.List.{zip, concat}
use Rattle.std.proofs.lemmas.Bool.{cases_Bool, and_parts, eqb-true}
use Rattle.std.proofs.lemmas.List.{length-map, length-take-le}
use Rattle.std.proofs.lemmas.Option.{unwrap_or-slice_get}
use Rattle.std.proofs.lemmas.List.{take_more}
use Rattle.std.proofs.lemmas.List.Sums.{sum_by-cons}
use Rattle.szg_values.specs.Material.{Sides, IsMaterial, has_pawns}
use Rattle.szg_count.specs.Leads.{rank_in}
use Rattle.szg_count.specs.Groups.{IsPart, Nibbles, order_fault, groups_of, counted, factors_of, has_other_pawns}
use Rattle.szg_count.specs.Views.{groups_in_slot_order}
use Rattle.szg_count.specs.declared.Group.{Group}
use Rattle.szg_count.proofs.Free.{positions_order_groups}
use Rattle.szg_count.proofs.Sizes.{size_below}
use Rattle.szg_count.proofs.RanksInLists.{rank_in-slice_get}
use Rattle.szg_count.specs.Laws.{IsIn, AllDiffer}
use Rattle.szg_count.specs.Radix.{index_with}
use Rattle.szg_count.proofs.InSlots.{group_is, groups_many, groups_are}
use Rattle.szg_place.specs.Spots.{ordered_sets, ranks_in_lists}
use Rattle.szg_place.specs.Known.{AreGrouped, ComesAfterGroups}
use Rattle.szg_place.specs.Ranks.{EachInList}
use Rattle.szg_place.proofs.Ranks.Ranking.{AllDiffer-ordered_sets}
use Rattle.szg_place.proofs.Ranks.Ways.{IsLaid, laid_more, laid_none, IsIn-squares_down}
use Rattle.szg_place.proofs.Indexes.Spotted.{ordered, index_inside}
use Rattle.szg_place.proofs.Ranks.FreeSquares.{base_of}

index_more : (d f : ℕ) (ds fs : List ℕ) → index_with (d ∷ ds) (f ∷ fs) ≡ d * f + index_with ds fs
index_more d f ds fs = sum_by-cons (λ (n : ℕ). n) (d * f) (map (λ x. x.0 * x.1) (zip ds fs))

ranks_more : (sides : Sides) (part : ℕ) (before : List (List ℕ)) (set : List ℕ) (sets : List (List ℕ)) →
    ranks_in_lists sides part before (set ∷ sets) ≡ rank_in (ordered_sets sides part before (length set)) set ∷ ranks_in_lists sides part (before ++ set ∷ []) sets
unfolding ranks_in_lists
ranks_more sides part before set sets = refl

ranks_done : (sides : Sides) (part : ℕ) (before : List (List ℕ)) → ranks_in_lists sides part before [] ≡ []
unfolding ranks_in_lists
ranks_done sides part before = refl

-- what the groups from the i-th on add to an index
abbrev pub index_after : Sides → ℕ → List (List ℕ) → List ℕ → ℕ → ℕ
index_after sides part sets factors i = index_with (ranks_in_lists sides part (take i sets) (drop i sets)) (drop i factors)

abbrev pub rank_at : Sides → ℕ → List (List ℕ) → ℕ → ℕ
rank_at sides part sets i = rank_in (ordered_sets sides part (take i sets) (length (get_or sets i []))) (get_or sets i [])

pub index_step : (sides : Sides) (part : ℕ) (sets : List (List ℕ)) (factors : List ℕ) (i : ℕ) → i < length sets → length factors ≡ length sets →
    index_after sides part sets factors i ≡ rank_at sides part sets i * get_or factors i 0 + index_after sides part sets factors (i + 1)
index_step sides part sets factors i h e =
    let s : drop i sets ≡ get_or sets i [] ∷ drop (i + 1) sets = rw add-one (drop-cons sets i [] h) in
    let f : drop i factors ≡ get_or factors i 0 ∷ drop (i + 1) factors = rw add-one (drop-cons factors i 0 (omega (arith, h, e))) in
    let t : take i sets ++ get_or sets i [] ∷ [] ≡ take (i + 1) sets = sym (take_more sets i [] h) in
    ap (λ (l : List (List ℕ)). index_with (ranks_in_lists sides part (take i sets) l) (drop i factors)) s
    ∙ ap (λ (l : List ℕ). index_with (ranks_in_lists sides part (take i sets) (get_or sets i [] ∷ drop (i + 1) sets)) l) f
    ∙ ap (λ (l : List ℕ). index_with l (get_or factors i 0 ∷ drop (i + 1) factors)) (ranks_more sides part (take i sets) (get_or sets i []) (drop (i + 1) sets))
    ∙ index_more (rank_at sides part sets i) (get_or factors i 0) (ranks_in_lists sides part (take i sets ++ get_or sets i [] ∷ []) (drop (i + 1) sets)) (drop (i + 1) factors)
    ∙ ap (λ (l : List (List ℕ)). rank_at sides part sets i * get_or factors i 0 + index_with (ranks_in_lists sides part l (drop (i + 1) sets)) (drop (i + 1) factors)) t

-- what is known before group i is ranked
pub record IsTurn (sides : Sides) (part : ℕ) (before groups sets : List (List ℕ)) (i : ℕ) : Type 0 where
  pub laid : IsLaid sides (before ++ take i sets)
  pub listed : IsIn (get_or sets i []) (ordered_sets sides part (before ++ take i sets) (length (get_or sets i [])))
  pub size : length (get_or sets i []) ≡ length (get_or groups i [])

pub symmetry : (sides : Sides) (part : ℕ) (before groups sets : List (List ℕ)) (i : ℕ) → IsMaterial sides → IsPart sides part → IsLaid sides before →
    EachInList sides part before groups sets → i < length sets → IsTurn sides part before groups sets i
symmetry sides part before groups [] i m p laid h k = absurd (omega (arith, k))
symmetry sides part before [] (set ∷ sets) i m p laid h k = absurd h
symmetry sides part before (group ∷ groups) (set ∷ sets) zero m p laid h k =
    let e : before ≡ before ++ [] = sym (nothing before) in record {
      laid = subst (λ (l : List (List ℕ)). IsLaid sides l) e laid;
      listed = subst (λ (l : List (List ℕ)). IsIn set (ordered_sets sides part l (length set))) e h.0;
      size = h.1;
    } where
      nothing : (xs : List (List ℕ)) → xs ++ [] ≡ xs
      nothing [] = refl
      nothing (x ∷ xs) = ap (λ l. x ∷ l) (nothing xs)
symmetry sides part before (group ∷ groups) (set ∷ sets) (suc i) m p laid h k =
    let r = symmetry sides part (before ++ set ∷ []) groups sets i m p (laid_more sides part before (length set) set m p laid h.0) h.2 (omega (arith, k)) in
    let e : before ++ set ∷ [] ++ take i sets ≡ before ++ (set ∷ take i sets) = append_assoc before (set ∷ []) (take i sets) in record {
      laid = subst (λ (l : List (List ℕ)). IsLaid sides l) e r.laid;
      listed = subst (λ (l : List (List ℕ)). IsIn (get_or sets i []) (ordered_sets sides part l (length (get_or sets i [])))) e r.listed;
      size = r.size;
    }

-- ---- the squares of groups, one group after the other

pub sets_many : (sides : Sides) (part : ℕ) (before groups sets : List (List ℕ)) → EachInList sides part before groups sets → length sets ≡ length groups
sets_many sides part before [] [] h = refl
sets_many sides part before [] (set ∷ sets) h = absurd h
sets_many sides part before (group ∷ groups) [] h = absurd h
sets_many sides part before (group ∷ groups) (set ∷ sets) h = ap suc (sets_many sides part (before ++ set ∷ []) groups sets h.2)

pub sets_long : (sides : Sides) (part : ℕ) (before groups sets : List (List ℕ)) (i : ℕ) → EachInList sides part before groups sets →
    length (concat (take i sets)) ≡ length (concat (take i groups))
sets_long sides part before [] [] i h = refl
sets_long sides part before [] (set ∷ sets) i h = absurd h
sets_long sides part before (group ∷ groups) [] i h = absurd h
sets_long sides part before (group ∷ groups) (set ∷ sets) zero h = refl
sets_long sides part before (group ∷ groups) (set ∷ sets) (suc i) h =
    let a = sets_long sides part (before ++ set ∷ []) groups sets i h.2 in
    let b = length-append set (concat (take i sets)) in let c = length-append group (concat (take i groups)) in let e = h.1 in omega (arith, a, b, c, e)

-- ---- the groups of an index

factors_many : (sides : Sides) (part : ℕ) (n : Nibbles) → order_fault sides n ≡ None → length (counted sides part n).factors ≡ length (groups_of sides n.men)
unfolding counted factors_of
factors_many sides part n o = simp length-map (positions_order_groups sides n (ordered sides n o).group_ranks).1

-- what is known in step i
pub record IsStep (sides : Sides) (part : ℕ) (n : Nibbles) (sets : List (List ℕ)) (i : ℕ) (group : Group) : Type 0 where
  pub count : i < length sets
  pub many : length (counted sides part n).factors ≡ length sets
  pub first : group.first ≡ length (concat (take i sets))
  pub size : group.length ≡ length (get_or sets i [])
  pub factor : group.factor ≡ get_or (counted sides part n).factors i 0
  pub ways : group.ways ≡ get_or (counted sides part n).ways i 0
  pub symmetry : IsTurn sides part [] (groups_of sides n.men) sets i

pub step_of : (sides : Sides) (part : ℕ) (n : Nibbles) (sets : List (List ℕ)) (i : ℕ) (group : Group) → IsMaterial sides → IsPart sides part → order_fault sides n ≡ None →
    EachInList sides part [] (groups_of sides n.men) sets → i < length (groups_in_slot_order (counted sides part n)) → slice_get (groups_in_slot_order (counted sides part n)) i ≡ Some group →
    IsStep sides part n sets i group
step_of sides part n sets i group m p o h k e =
    let c = counted sides part n in
    let all = groups_many c in
    let groups = groups_are sides part n in
    let many = sets_many sides part [] (groups_of sides n.men) sets h in
    let same = ap length groups in
    let inside : i < length c.groups = omega (arith, k, all) in
    let here : i < length sets = omega (arith, inside, same, many) in
    let g = group_is c i group inside e in
    let t = symmetry sides part [] (groups_of sides n.men) sets i m p (laid_none sides) h here in
    let long = sets_long sides part [] (groups_of sides n.men) sets i h in
    let taken = ap (λ (l : List (List ℕ)). length (concat (take i l))) groups in
    let own : length (unwrap_or (slice_get c.groups i) []) ≡ length (get_or (groups_of sides n.men) i []) =
    ap length (unwrap_or-slice_get c.groups i []) ∙ ap (λ (l : List (List ℕ)). length (get_or l i [])) groups in
    record {
      count = here;
      many = factors_many sides part n o ∙ sym many;
      first = ap (λ (x : Group). x.first) g ∙ taken ∙ sym long;
      size = ap (λ (x : Group). x.length) g ∙ own ∙ sym t.size;
      factor = ap (λ (x : Group). x.factor) g;
      ways = ap (λ (x : Group). x.ways) g;
      symmetry = t;
    }

-- the squares of earlier groups are among the squares on which group i is ranked
pub left_to : (sides : Sides) (before : List (List ℕ)) (i : ℕ) → length before ≡ i → IsLaid sides before → (x : ℕ) → IsIn x (concat before) →
    IsIn x (base_of (has_other_pawns sides && i == 1))
left_to sides before i e laid x h = elim (cases_Bool (has_other_pawns sides && i == 1)) [
  | inl t ↦ let p = and_parts (has_other_pawns sides) (i == 1) t in let q = eqb-true i 1 p.1 in
      rw t (laid.pawns p.0 (omega (arith, e, q)) x h)
  | inr f ↦ rw f (IsIn-squares_down x (laid.inside x h))
]

-- the whole index
pub index_start : (sides : Sides) (part : ℕ) (sets : List (List ℕ)) (factors : List ℕ) → index_after sides part sets factors 0 ≡ index_with (ranks_in_lists sides part [] sets) factors
index_start sides part [] [] = refl
index_start sides part [] (f ∷ fs) = refl
index_start sides part (s ∷ ss) [] = refl
index_start sides part (s ∷ ss) (f ∷ fs) = refl

pub index_end : (sides : Sides) (part : ℕ) (sets : List (List ℕ)) (factors : List ℕ) (i : ℕ) → length sets ≤ i → index_after sides part sets factors i ≡ 0
index_end sides part sets factors i h =
    ap (λ (l : List (List ℕ)). index_with (ranks_in_lists sides part (take i sets) l) (drop i factors)) (nothing i sets h)
    ∙ ap (λ (l : List ℕ). index_with l (drop i factors)) (ranks_done sides part (take i sets)) where
      nothing : (i : ℕ) (xs : List (List ℕ)) → length xs ≤ i → drop i xs ≡ []
      nothing zero [] h = refl
      nothing (suc i) [] h = refl
      nothing zero (x ∷ xs) h = absurd (omega (arith, h))
      nothing (suc i) (x ∷ xs) h = nothing i xs (omega (arith, h))

pub index_fits : (sides : Sides) (part : ℕ) (n : Nibbles) (sets : List (List ℕ)) → IsMaterial sides → IsPart sides part → order_fault sides n ≡ None →
    EachInList sides part [] (groups_of sides n.men) sets → index_after sides part sets (counted sides part n).factors 0 < 2 ^ 33
index_fits sides part n sets m p o h =
    let a = index_start sides part sets (counted sides part n).factors in
    let b = index_inside sides part n sets m p (ordered sides n o).group_ranks h in
    let c = size_below sides part n m p o in omega (arith, a, b, c)

-- the rank that the code finds is the group's rank
pub rank_is : (sides : Sides) (part : ℕ) (sets : List (List ℕ)) (i rank : ℕ) (set : List ℕ) → part < 4 → set ≡ get_or sets i [] →
    slice_get (ordered_sets sides part (take i sets) (length set)) rank ≡ Some set → rank_at sides part sets i ≡ rank
rank_is sides part sets i rank set p e h =
    let k = subst (λ (s : List ℕ). slice_get (ordered_sets sides part (take i sets) (length s)) rank ≡ Some s) e h in
    rank_in-slice_get (ordered_sets sides part (take i sets) (length (get_or sets i []))) rank (get_or sets i [])
    (AllDiffer-ordered_sets sides part (take i sets) (length (get_or sets i [])) p) k

pub stated_many : (sides : Sides) (part : ℕ) (n : Nibbles) (sets : List (List ℕ)) → EachInList sides part [] (groups_of sides n.men) sets →
    length (groups_in_slot_order (counted sides part n)) ≡ length sets
stated_many sides part n sets h =
    let a = groups_many (counted sides part n) in let b = ap length (groups_are sides part n) in
    let d = sets_many sides part [] (groups_of sides n.men) sets h in omega (arith, a, b, d)

pub part_small : (b : Bool) (part : ℕ) → part < cond b 4 1 → part < 4
part_small true part h = h
part_small false part h = omega (arith, h)

-- the sum after one more group
pub gained : (sides : Sides) (part : ℕ) (n : Nibbles) (sets : List (List ℕ)) (i rank index : ℕ) (group : Group) → IsStep sides part n sets i group → rank_at sides part sets i ≡ rank →
    index + index_after sides part sets (counted sides part n).factors i ≡ index_after sides part sets (counted sides part n).factors 0 →
    (index + rank * group.factor) + index_after sides part sets (counted sides part n).factors (i + 1) ≡ index_after sides part sets (counted sides part n).factors 0
gained sides part n sets i rank index group s e h =
    let factors = (counted sides part n).factors in
    let t = index_step sides part sets factors i s.count s.many in
    let f = s.factor in
    let k : rank_at sides part sets i * get_or factors i 0 ≡ rank * group.factor = ap (λ x. x * get_or factors i 0) e ∙ ap (λ x. rank * x) (sym f) in
    omega (arith, t, k, h)

-- ---- the steps of the code

pub step_in : {sides : Sides} {part i count : ℕ} {n : Nibbles} {sets : List (List ℕ)} {group : Group} {groups : List Group} → IsMaterial sides → AreGrouped sides part n groups →
    EachInList sides part [] (groups_of sides n.men) sets → i < count → count ≡ length groups → slice_get groups i ≡ Some group → IsStep sides part n sets i group
step_in {sides} {part} {i} {count} {n} {sets} {group} {groups} m g h k l f =
    step_of sides part n sets i group m g.has_part g.ordered h (let a = ap length g.groups_are in omega (arith, k, l, a)) (subst (λ (x : List Group). slice_get x i ≡ Some group) g.groups_are f)

pub after_at : {sides : Sides} {part i : ℕ} {n : Nibbles} {sets : List (List ℕ)} {group : Group} {taken : List ℕ} → IsPart sides part → IsStep sides part n sets i group → taken ≡ concat (take i sets) →
    ComesAfterGroups sides part i taken (take i sets)
after_at {sides} {part} {i} {n} {sets} p s e =
    let number : i ≡ length (take i sets) = sym (length-take-le i sets (let k = s.count in omega (arith, k))) in record {
      has_part = p;
      taken_are = e;
      number_is = number;
      differ = subst (λ (l : List ℕ). AllDiffer l) (sym e) s.symmetry.laid.differ;
      inside = λ pos x h. left_to sides (take i sets) i (sym number) s.symmetry.laid x (subst (λ (l : List ℕ). IsIn x l) e h);
    }

-- the squares before a group's squares, and the group's squares
pub record IsSplit (sides : Sides) (part : ℕ) (n : Nibbles) (sets : List (List ℕ)) (i : ℕ) (group : Group) (taken set : List ℕ) : Type 0 where
  pub step : IsStep sides part n sets i group
  pub taken_is : taken ≡ concat (take i sets)
  pub set_is : set ≡ get_or sets i []

pub gained_at : {sides : Sides} {part : ℕ} {n : Nibbles} {sets : List (List ℕ)} {i : ℕ} {group : Group} {taken set : List ℕ} (rank index : ℕ) → IsPart sides part → IsSplit sides part n sets i group taken set →
    slice_get (ordered_sets sides part (take i sets) (length set)) rank ≡ Some set →
    index + index_after sides part sets (counted sides part n).factors i ≡ index_after sides part sets (counted sides part n).factors 0 →
    (index + rank * group.factor) + index_after sides part sets (counted sides part n).factors (i + 1) ≡ index_after sides part sets (counted sides part n).factors 0
gained_at {sides} {part} {n} {sets} {i} {group} {set = set} rank index p c e h =
    gained sides part n sets i rank index group c.step (rank_is sides part sets i rank set (part_small (has_pawns sides) part p) c.set_is e) h

-- the sum up to a group is below 2^33
pub room_at : {sides : Sides} {part : ℕ} {n : Nibbles} {sets : List (List ℕ)} {i : ℕ} {group : Group} {groups : List Group} {taken set : List ℕ} (rank index : ℕ) → IsMaterial sides → AreGrouped sides part n groups →
    EachInList sides part [] (groups_of sides n.men) sets → IsSplit sides part n sets i group taken set → slice_get (ordered_sets sides part (take i sets) (length set)) rank ≡ Some set →
    index + index_after sides part sets (counted sides part n).factors i ≡ index_after sides part sets (counted sides part n).factors 0 → index + rank * group.factor < 2 ^ 33
room_at {sides} {part} {n} {sets} rank index m g l c e h =
    let k = gained_at rank index g.has_part c e h in let f = index_fits sides part n sets m g.has_part g.ordered l in omega (arith, k, f)

pub split_first : {sides : Sides} {part : ℕ} {n : Nibbles} {sets : List (List ℕ)} {group : Group} {set : List ℕ} → IsStep sides part n sets 0 group → set ≡ get_or sets 0 [] → IsSplit sides part n sets 0 group [] set
split_first s e = record { step = s; taken_is = refl; set_is = e }
