-- The positions of all groups, one after another.
use Rattle.std.proofs.Common.{◌≡◌, ℕ, zero, suc, ◌+◌, ◌-◌, ◌<◌, ◌≤◌, List, [], ◌∷◌, ◌++◌, length, refl, sym, ap, ◌∙◌, Bool, true, false, cond, arith, length-append, append_assoc, zero-add, add-zero, add-one, map, get_or, take}
use Rattle.std.specs.Prelude.{◌==◌, nat_lt, Option, option_to_list, is_some, filter, sum}
use Rattle.std.specs.List.{list_any, list_all, range_with_len}
use Rattle.std.proofs.Math.Bool.{not, ◌&&◌}
use Rattle.std.proofs.lemmas.List.Elements.{filter-append}
use Rattle.std.proofs.lemmas.List.FromFn.{map-range_with_len_more}
use Rattle.std.proofs.lemmas.Bool.{and_parts}
use Rattle.szg_count.specs.Leads.{contains, without}
use Rattle.szg_count.specs.Groups.{product, ways_before}
use Rattle.szg_count.specs.declared.Group.{Group}
use Rattle.szg_count.specs.Steps.{are_valid_positions, positions_from, group_from}
use Rattle.szg_count.proofs.Free.{ordering_of, given_differ, all_below}

range-split : (a m n : ℕ) → range_with_len a (m + n) ≡ range_with_len a m ++ range_with_len (a + m) n
range-split a zero n = rw (zero-add n, add-zero a) refl
range-split a (suc m) n =
    let e : suc m + n ≡ suc (m + n) = omega arith in
    let f : a + 1 + m ≡ a + suc m = omega arith in
    ap (range_with_len a) e ∙ ap (λ l. a ∷ l) (range-split (a + 1) m n ∙ ap (λ k. range_with_len (a + 1) m ++ range_with_len k n) f)

-- the number of positions is the number of groups
pub length-positions_from : (b : Bool) (lead : ℕ) (other : Option ℕ) (count : ℕ) → are_valid_positions b lead other count ≡ true → length (positions_from lead other count) ≡ count
length-positions_from b lead other count e =
    let front = cond (is_some other) b (not b) in
    let all = list_all (λ position. nat_lt position count) (lead ∷ option_to_list other) in
    let last = not (list_any (λ position. position == lead) (option_to_list other)) in
    let x = (and_parts (front && all) last e).0 in
    (ordering_of (lead ∷ option_to_list other) count (given_differ lead other (and_parts (front && all) last e).1)
    (all_below (lead ∷ option_to_list other) count (and_parts front all x).1)).1

-- one more position
pub positions_from-more : (lead : ℕ) (other : Option ℕ) (position : ℕ) →
    positions_from lead other (position + 1) ≡ positions_from lead other position ++ cond (not (contains (lead ∷ option_to_list other) position)) (position ∷ []) []
positions_from-more lead other position =
    let fixed = lead ∷ option_to_list other in
    let passes : ℕ → Bool = λ x. not (contains fixed x) in
    let e : without fixed (range_with_len 0 (position + 1)) ≡ without fixed (range_with_len 0 position) ++ cond (passes position) (position ∷ []) [] =
    ap (without fixed) (range-split 0 position 1) ∙ filter-append passes (range_with_len 0 position) (range_with_len (0 + position) 1)
    ∙ ap (λ k. filter passes (range_with_len 0 position) ++ filter passes (k ∷ [])) (zero-add position) in
    ap (λ l. fixed ++ l) e ∙ sym (append_assoc fixed (without fixed (range_with_len 0 position)) (cond (passes position) (position ∷ []) []))

positions_from-le : (lead : ℕ) (other : Option ℕ) (a b : ℕ) → length (positions_from lead other a) ≤ length (positions_from lead other (a + b))
positions_from-le lead other a b =
    let fixed = lead ∷ option_to_list other in
    let passes : ℕ → Bool = λ x. not (contains fixed x) in
    let e : without fixed (range_with_len 0 (a + b)) ≡ without fixed (range_with_len 0 a) ++ without fixed (range_with_len (0 + a) b) =
    ap (without fixed) (range-split 0 a b) ∙ filter-append passes (range_with_len 0 a) (range_with_len (0 + a) b) in
    let f = ap length e in
    let g = length-append (without fixed (range_with_len 0 a)) (without fixed (range_with_len (0 + a) b)) in
    let h = length-append fixed (without fixed (range_with_len 0 a)) in
    let i = length-append fixed (without fixed (range_with_len 0 (a + b))) in
    omega (arith, f, g, h, i)

-- a remaining position fits into the list
pub positions_from-room : (lead : ℕ) (other : Option ℕ) (position count : ℕ) → contains (lead ∷ option_to_list other) position ≡ false → position < count →
    length (positions_from lead other position) < length (positions_from lead other count)
positions_from-room lead other position count e h =
    let more = positions_from-more lead other position ∙ ap (λ b. positions_from lead other position ++ cond (not b) (position ∷ []) []) e in
    let a = ap length more in let b = length-append (positions_from lead other position) (position ∷ []) in
    let f : (position + 1) + (count - (position + 1)) ≡ count = omega arith in
    let g = positions_from-le lead other (position + 1) (count - (position + 1)) in
    let k = ap (λ n. length (positions_from lead other n)) f in
    omega (arith, a, b, g, k)

-- ---- lists by their items

range-shift : (f : ℕ → ℕ) (a n : ℕ) → map f (range_with_len (a + 1) n) ≡ map (λ i. f (suc i)) (range_with_len a n)
range-shift f a zero = refl
range-shift f a (suc n) = ap (λ k. f k ∷ map f (range_with_len (a + 1 + 1) n)) (add-one a) ∙ ap (λ l. f (suc a) ∷ l) (range-shift f (a + 1) n)

-- a list's items in order are the list
pub items_given : (ws : List ℕ) → map (λ i. get_or ws i 0) (range_with_len 0 (length ws)) ≡ ws
items_given [] = refl
items_given (w ∷ ws) = ap (λ l. w ∷ l) (range-shift (λ i. get_or (w ∷ ws) i 0) 0 (length ws) ∙ items_given ws)

-- two functions that agree over a range
pub map-range-same : {A : Type 0} (f g : ℕ → A) (a n : ℕ) → ((i : ℕ) → a ≤ i → i < a + n → f i ≡ g i) → map f (range_with_len a n) ≡ map g (range_with_len a n)
map-range-same f g a zero h = refl
map-range-same f g a (suc n) h =
    ap (λ x. x ∷ map f (range_with_len (a + 1) n)) (h a (omega arith) (omega arith))
    ∙ ap (λ l. g a ∷ l) (map-range-same f g (a + 1) n (λ i p q. h i (omega arith) (omega arith)))

map-ways : (lengths ways positions ns : List ℕ) → map (λ group. group.ways) (map (group_from lengths ways positions) ns) ≡ map (λ i. get_or ways i 0) ns
map-ways lengths ways positions [] = refl
map-ways lengths ways positions (n ∷ ns) = ap (λ l. get_or ways n 0 ∷ l) (map-ways lengths ways positions ns)

-- the ways of the groups of lists are those of the list
pub ways_given : (lengths ways positions : List ℕ) → length ways ≡ length lengths →
    map (λ group. group.ways) (map (group_from lengths ways positions) (range_with_len 0 (length lengths))) ≡ ways
ways_given lengths ways positions h =
    map-ways lengths ways positions (range_with_len 0 (length lengths)) ∙ ap (λ n. map (λ i. get_or ways i 0) (range_with_len 0 n)) (sym h) ∙ items_given ways

pub group_same : (lengths ways positions : List ℕ) (i first factor : ℕ) → first ≡ sum (take i lengths) → factor ≡ product (ways_before (get_or positions i 0) positions ways) →
    (let group : Group = record { first = first; length = get_or lengths i 0; ways = get_or ways i 0; factor = factor } in group) ≡ group_from lengths ways positions i
group_same lengths ways positions i first factor e f =
    ap (λ (n : ℕ). let group : Group = record { first = n; length = get_or lengths i 0; ways = get_or ways i 0; factor = factor } in group) e
    ∙ ap (λ (n : ℕ). let group : Group = record { first = sum (take i lengths); length = get_or lengths i 0; ways = get_or ways i 0; factor = n } in group) f

-- one more group at the end of a list
pub push_given : (lengths ways positions : List ℕ) (i first factor : ℕ) (items pushed : List Group) →
    items ≡ map (group_from lengths ways positions) (range_with_len 0 i) → first ≡ sum (take i lengths) → factor ≡ product (ways_before (get_or positions i 0) positions ways) →
    pushed ≡ items ++ (let group : Group = record { first = first; length = get_or lengths i 0; ways = get_or ways i 0; factor = factor } in group) ∷ [] →
    pushed ≡ map (group_from lengths ways positions) (range_with_len 0 (i + 1))
push_given lengths ways positions i first factor items pushed e f g h =
    let group : Group = record { first = first; length = get_or lengths i 0; ways = get_or ways i 0; factor = factor } in
    h ∙ ap (λ l. l ++ group ∷ []) e
    ∙ ap (λ (x : Group). map (group_from lengths ways positions) (range_with_len 0 i) ++ x ∷ []) (group_same lengths ways positions i first factor f g)
    ∙ sym (map-range_with_len_more (group_from lengths ways positions) 0 i i (omega arith))
