-- The numbers of free squares: how many free squares are below each.
use Rattle.std.proofs.Common.{◌≡◌, ℕ, zero, suc, ◌+◌, ◌-◌, ◌*◌, ◌<◌, ◌≤◌, inl, inr, List, [], ◌∷◌, ◌++◌, length, refl, sym, ap, ◌∙◌, subst, Bool, true, false, cond, arith}
use Rattle.std.specs.Prelude.{slice_index, reverse, filter, nat_lt}
use Rattle.std.specs.List.{range_with_len}
use mir.Val.{bool_byte}
use Rattle.std.proofs.Math.Bool.{not}
use Rattle.std.proofs.lemmas.Bool.{cases_Bool, cases_lt, ltb-true, lt-ltb}
use Rattle.std.proofs.lemmas.Bool.Decides.{eqb_tells}
use Rattle.std.proofs.lemmas.List.{reverse-reverse, length-reverse, append-nil}
use Rattle.std.proofs.lemmas.List.Elements.{filter-append}
use Rattle.std.proofs.lemmas.List.Sums.{length-filter}
use Rattle.std.proofs.lemmas.List.FromFn.{length-range_with_len}
use Rattle.std.proofs.lemmas.Grind.{reverse_onto}
use Rattle.szg_count.specs.Leads.{contains, without, squares, pawn_squares, squares_down}
use Rattle.szg_count.specs.Laws.{IsIn, AllDiffer}
use Rattle.szg_count.proofs.Differ.{AllDiffer-filter, IsIn-filter, contains_it}
use Rattle.szg_count.proofs.Free.{contains-IsIn, free_count_law, range-below}
use Rattle.szg_place.specs.Numbers.{count_below, free_number}
use Rattle.szg_place.proofs.Ranks.Lists.{filter-same, IsIn-filter_back, same_tests, all-IsIn}
use Rattle.szg_place.proofs.Ranks.NumberedSets.{IsNumbering, IsIn-get_or}
use Rattle.szg_place.proofs.Ranks.Ranking.{AllDiffer-pawn_squares, AllDiffer-squares_down}

-- ---- a reversed list

filter-reverse : (f : ℕ → Bool) (xs : List ℕ) → filter f (reverse xs) ≡ reverse (filter f xs)
filter-reverse f [] = refl
filter-reverse f (x ∷ xs) =
    let turned : reverse (x ∷ xs) ≡ reverse xs ++ x ∷ [] = reverse_onto xs x [] in
    ap (λ l. filter f l) turned ∙ filter-append f (reverse xs) (x ∷ []) ∙ ap (λ l. l ++ filter f (x ∷ [])) (filter-reverse f xs) ∙ last (f x) where
      last : (b : Bool) → reverse (filter f xs) ++ cond b (x ∷ []) [] ≡ reverse (cond b (x ∷ filter f xs) (filter f xs))
      last true = sym (reverse_onto (filter f xs) x [])
      last false = append-nil (reverse (filter f xs))

-- ---- the numbers of a range that pass a test

pub record IsPassing (f : ℕ → Bool) (a n j y : ℕ) : Type 0 where
  pub least : a ≤ y
  pub most : y < a + n
  pub before : length (filter f (range_with_len a (y - a))) ≡ j

counted : (b : Bool) (x j : ℕ) (xs : List ℕ) → length xs ≡ j → length (cond b (x ∷ xs) xs) ≡ cond b (suc j) j
counted true x j xs e = ap suc e
counted false x j xs e = e

one_more : (f : ℕ → Bool) (b : Bool) (a n j y : ℕ) → f a ≡ b → IsPassing f (a + 1) n j y → IsPassing f a (suc n) (cond b (suc j) j) y
one_more f b a n j y e p =
    let l = p.least in let m = p.most in
    let d : y - a ≡ suc (y - (a + 1)) = omega (arith, l) in
    let rest = filter f (range_with_len (a + 1) (y - (a + 1))) in record {
      least = omega (arith, l);
      most = omega (arith, m);
      before = ap (λ k. length (filter f (range_with_len a k))) d ∙ ap (λ c. length (cond c (a ∷ rest) rest)) e ∙ counted b a j rest p.before;
    }

first_one : (f : ℕ → Bool) (a n : ℕ) → IsPassing f a (suc n) 0 a
first_one f a n = record {
  least = omega arith;
  most = omega arith;
  before = let z : a - a ≡ 0 = omega arith in ap (λ k. length (filter f (range_with_len a k))) z;
}

pub passing : (f : ℕ → Bool) (a n j : ℕ) → j < length (filter f (range_with_len a n)) → IsPassing f a n j (slice_index (filter f (range_with_len a n)) j)
passing f a zero j h = absurd (omega (arith, h))
passing f a (suc n) zero h = elim (cases_Bool (f a)) [
  | inl e ↦ rw e (first_one f a n)
  | inr e ↦ let k : 0 < length (filter f (range_with_len (a + 1) n)) = rw e at h in
      rw e (one_more f false a n 0 (slice_index (filter f (range_with_len (a + 1) n)) 0) e (passing f (a + 1) n 0 k))
]
passing f a (suc n) (suc j) h = elim (cases_Bool (f a)) [
  | inl e ↦ let k : suc j < suc (length (filter f (range_with_len (a + 1) n))) = rw e at h in
      rw e (one_more f true a n j (slice_index (filter f (range_with_len (a + 1) n)) j) e (passing f (a + 1) n j (omega (arith, k))))
  | inr e ↦ let k : suc j < length (filter f (range_with_len (a + 1) n)) = rw e at h in
      rw e (one_more f false a n (suc j) (slice_index (filter f (range_with_len (a + 1) n)) (suc j)) e (passing f (a + 1) n (suc j) k))
]

-- ---- taken and free

range-has : (a n x : ℕ) → a ≤ x → x < a + n → IsIn x (range_with_len a n)
range-has a zero x h k = absurd (omega arith)
range-has a (suc n) x h k = elim (eqb_tells x a) [
  | inl e ↦ inl e.1
  | inr m ↦ inr (range-has (a + 1) n x (let f : x ≡ a → ⊥ = m.1 in omega (arith, f)) (omega arith))
]

range-differs : (a n : ℕ) → AllDiffer (range_with_len a n)
range-differs a zero = tt
range-differs a (suc n) = (λ h. let r = range-below (a + 1) n a h in absurd (omega (arith, r)), range-differs (a + 1) n)

-- below a + n there are n numbers from a on: those taken and those free
pub split_below : (some : List ℕ) (a n : ℕ) → AllDiffer some → ((t : ℕ) → IsIn t some → a ≤ t) →
    length (without some (range_with_len a n)) + count_below (a + n) some ≡ n
split_below some a n d h =
    let test = λ (t : ℕ). nat_lt t (a + n) in
    let few = filter test some in
    let same : without some (range_with_len a n) ≡ without few (range_with_len a n) =
    filter-same (λ x. not (contains some x)) (λ x. not (contains few x)) (range_with_len a n) (λ x i.
    let r = range-below a n x i in let s = r.1 in
    ap not (same_tests (contains some x) (contains few x)
    (λ e. contains_it x few (IsIn-filter_back test some x (contains-IsIn x some e) (lt-ltb x (a + n) s)))
    (λ e. contains_it x some (IsIn-filter test some x (contains-IsIn x few e)).0))) in
    let law = free_count_law few (range_with_len a n) (AllDiffer-filter test some d) (range-differs a n) (λ x i.
    let r = IsIn-filter test some x i in let l = h x r.0 in let m = ltb-true x (a + n) r.1 in
    range-has a n x l m) in
    let one = ap length same in let two = length-filter test some in let three = length-range_with_len a n in
    omega (arith, law, one, two, three)

free_range : (some : List ℕ) (a n : ℕ) → AllDiffer some → ((t : ℕ) → IsIn t some → a ≤ t) → (j : ℕ) → j < length (without some (range_with_len a n)) →
    free_number a some (slice_index (without some (range_with_len a n)) j) ≡ j
free_range some a n d h j k =
    let y = slice_index (without some (range_with_len a n)) j in
    let p = passing (λ x. not (contains some x)) a n j k in
    let l = p.least in let b = p.before in
    let s = split_below some a (y - a) d h in
    let e : a + (y - a) ≡ y = omega (arith, l) in
    let c : count_below (a + (y - a)) some ≡ count_below y some = ap (λ z. count_below z some) e in
    omega (arith, s, c, b, l)

-- what is known in the search for the free square with number j
pub record IsSought (some : List ℕ) (a n j y : ℕ) : Type 0 where
  pub reached : a + j ≤ y
  pub within : y < a + n
  pub free : contains some y ≡ false
  pub number : free_number a some y ≡ j

pub sought : (some : List ℕ) (a n : ℕ) → AllDiffer some → ((t : ℕ) → IsIn t some → a ≤ t) → (j : ℕ) → j < length (without some (range_with_len a n)) →
    IsSought some a n j (slice_index (without some (range_with_len a n)) j)
sought some a n d h j k =
    let y = slice_index (without some (range_with_len a n)) j in
    let p = passing (λ x. not (contains some x)) a n j k in
    let l = p.least in let b = p.before in
    let s = split_below some a (y - a) d h in
    record {
      reached = omega (arith, s, b, l);
      within = p.most;
      free = other (contains some y) (IsIn-filter (λ x. not (contains some x)) (range_with_len a n) y (IsIn-get_or (without some (range_with_len a n)) j 0 k)).1;
      number = free_range some a n d h j k;
    }
  where
    other : (b : Bool) → not b ≡ true → b ≡ false
    other true e = sym e
    other false e = refl

-- a number that passes the test raises the count
passed_more : (f : ℕ → Bool) (a m n : ℕ) → m < n → f (a + m) ≡ true → length (filter f (range_with_len a m)) < length (filter f (range_with_len a n))
passed_more f a zero zero h e = absurd (omega (arith, h))
passed_more f a zero (suc n) h e =
    let z : a + 0 ≡ a = omega arith in
    let here : f a ≡ true = subst (λ (x : ℕ). f x ≡ true) z e in rw here (omega arith)
passed_more f a (suc m) zero h e = absurd (omega (arith, h))
passed_more f a (suc m) (suc n) h e =
    let z : a + suc m ≡ a + 1 + m = omega arith in
    let more = passed_more f (a + 1) m n (omega (arith, h)) (subst (λ (x : ℕ). f x ≡ true) z e) in either (f a) more
  where
    either : (b : Bool) → length (filter f (range_with_len (a + 1) m)) < length (filter f (range_with_len (a + 1) n)) →
        length (cond b (a ∷ filter f (range_with_len (a + 1) m)) (filter f (range_with_len (a + 1) m))) < length (cond b (a ∷ filter f (range_with_len (a + 1) n)) (filter f (range_with_len (a + 1) n)))
    either true k = omega (arith, k)
    either false k = k

-- a free square up to y that has number j is y
pub sought_first : (some : List ℕ) (a n j y x : ℕ) → AllDiffer some → ((t : ℕ) → IsIn t some → a ≤ t) → IsSought some a n j y → a ≤ x → x ≤ y →
    contains some x ≡ false → free_number a some x ≡ j → x ≡ y
sought_first some a n j y x d h p least most free number = elim (cases_lt x y) [
  | inl less ↦
      let f = λ (z : ℕ). not (contains some z) in
      let e : a + (x - a) ≡ x = omega (arith, least) in
      let e' : a + (y - a) ≡ y = omega (arith, least, less) in
      let c : count_below (a + (x - a)) some ≡ count_below x some = ap (λ z. count_below z some) e in
      let c' : count_below (a + (y - a)) some ≡ count_below y some = ap (λ z. count_below z some) e' in
      let s = split_below some a (x - a) d h in let s' = split_below some a (y - a) d h in
      let here : f (a + (x - a)) ≡ true = ap f e ∙ ap not free in
      let more = passed_more f a (x - a) (y - a) (omega (arith, least, less)) here in
      let k = p.number in
      absurd (omega (arith, c, c', s, s', more, k, number, least, less))
  | inr following ↦ omega (arith, following, most)
]

-- in the list from the greatest down, a square's number is its index from the end
pub free_numbered : (some : List ℕ) (a n : ℕ) → AllDiffer some → ((t : ℕ) → IsIn t some → a ≤ t) →
    IsNumbering (free_number a some) (without some (reverse (range_with_len a n)))
free_numbered some a n d h j k =
    let turned : without some (reverse (range_with_len a n)) ≡ reverse (without some (range_with_len a n)) = filter-reverse (λ x. not (contains some x)) (range_with_len a n) in
    let back : reverse (without some (reverse (range_with_len a n))) ≡ without some (range_with_len a n) =
    ap (λ (l : List ℕ). reverse l) turned ∙ reverse-reverse (without some (range_with_len a n)) in
    let m : j < length (without some (range_with_len a n)) = let x = ap length turned in let z = length-reverse (without some (range_with_len a n)) in omega (arith, k, x, z) in
    ap (λ (l : List ℕ). free_number a some (slice_index l j)) back ∙ free_range some a n d h j m

-- no more squares below a square are taken than there are squares below it
pub free_room : (some : List ℕ) (a n y : ℕ) → AllDiffer some → ((t : ℕ) → IsIn t some → a ≤ t) → a ≤ y → a + count_below y some ≤ y
free_room some a n y d h l =
    let s = split_below some a (y - a) d h in
    let e : a + (y - a) ≡ y = omega (arith, l) in
    let c : count_below (a + (y - a)) some ≡ count_below y some = ap (λ z. count_below z some) e in
    omega (arith, s, c, l)

-- ---- the squares that a later group may have

abbrev pub base_of : Bool → List ℕ
base_of pawns = cond pawns pawn_squares squares_down

abbrev pub lowest : Bool → ℕ
lowest pawns = cond pawns 8 0

pub lowest_is : (pawns : Bool) (n : ℕ) → n ≡ bool_byte pawns → 8 * n ≡ lowest pawns
lowest_is true n e = ap (λ (k : ℕ). 8 * k) e
lowest_is false n e = ap (λ (k : ℕ). 8 * k) e

-- the square after the last one
pub end_is : (pawns : Bool) (low : ℕ) → low ≡ lowest pawns → 64 - low ≡ cond pawns 56 64
end_is true low e = ap (λ (k : ℕ). 64 - k) e
end_is false low e = ap (λ (k : ℕ). 64 - k) e

base_range : (pawns : Bool) → base_of pawns ≡ reverse (range_with_len (lowest pawns) (cond pawns 48 64))
unfolding pawn_squares squares_down squares
base_range true = refl
base_range false = refl

pub on_base : (pawns : Bool) (x : ℕ) → IsIn x (base_of pawns) → (lowest pawns ≤ x) × (x < 64)
unfolding pawn_squares squares_down squares
on_base true x h = let r = range-below 8 48 x (contains-IsIn x (range_with_len 8 48) (all-IsIn (contains (range_with_len 8 48)) (reverse (range_with_len 8 48)) x refl h)) in (omega (arith, r), omega (arith, r))
on_base false x h = let r = range-below 0 64 x (contains-IsIn x (range_with_len 0 64) (all-IsIn (contains (range_with_len 0 64)) (reverse (range_with_len 0 64)) x refl h)) in (omega arith, omega (arith, r))

pub later_numbered : (pawns : Bool) (some : List ℕ) → AllDiffer some → ((t : ℕ) → IsIn t some → IsIn t (base_of pawns)) →
    IsNumbering (free_number (lowest pawns) some) (without some (base_of pawns))
later_numbered pawns some d h =
    subst (λ (l : List ℕ). IsNumbering (free_number (lowest pawns) some) (without some l)) (sym (base_range pawns))
    (free_numbered some (lowest pawns) (cond pawns 48 64) d (λ t i. (on_base pawns t (h t i)).0))

pub later_inside : (pawns : Bool) (some : List ℕ) (x : ℕ) → IsIn x (without some (base_of pawns)) → (lowest pawns ≤ x) × (x < 64)
later_inside pawns some x h = on_base pawns x (IsIn-filter (λ y. not (contains some y)) (base_of pawns) x h).0

pub later_room : (pawns : Bool) (some : List ℕ) (y : ℕ) → AllDiffer some → ((t : ℕ) → IsIn t some → IsIn t (base_of pawns)) → lowest pawns ≤ y →
    lowest pawns + count_below y some ≤ y
later_room pawns some y d h l = free_room some (lowest pawns) 64 y d (λ t i. (on_base pawns t (h t i)).0) l

base_many : (pawns : Bool) → length (base_of pawns) ≤ 64
unfolding pawn_squares squares_down squares
base_many true = omega arith
base_many false = omega arith

filter-few : (f : ℕ → Bool) (xs : List ℕ) → length (filter f xs) ≤ length xs
filter-few f [] = omega arith
filter-few f (x ∷ xs) = let k = filter-few f xs in kept (f x) k where
  kept : (b : Bool) → length (filter f xs) ≤ length xs → length (cond b (x ∷ filter f xs) (filter f xs)) ≤ suc (length xs)
  kept true k = omega (arith, k)
  kept false k = omega (arith, k)

pub later_few : (pawns : Bool) (some : List ℕ) → length (without some (base_of pawns)) ≤ 64
later_few pawns some = let a = filter-few (λ y. not (contains some y)) (base_of pawns) in let b = base_many pawns in omega (arith, a, b)

-- reversed, the free squares rise
pub free_flipped : (pawns : Bool) (some : List ℕ) → reverse (without some (base_of pawns)) ≡ without some (range_with_len (lowest pawns) (cond pawns 48 64))
free_flipped pawns some =
    ap (λ (l : List ℕ). reverse (without some l)) (base_range pawns)
    ∙ ap (λ (l : List ℕ). reverse l) (filter-reverse (λ x. not (contains some x)) (range_with_len (lowest pawns) (cond pawns 48 64)))
    ∙ reverse-reverse (without some (range_with_len (lowest pawns) (cond pawns 48 64)))

AllDiffer-base : (pawns : Bool) → AllDiffer (base_of pawns)
AllDiffer-base true = AllDiffer-pawn_squares
AllDiffer-base false = AllDiffer-squares_down

base_length : (pawns : Bool) → length (base_of pawns) ≡ cond pawns 48 64
unfolding pawn_squares squares_down squares
base_length true = refl
base_length false = refl

pub free_many : (pawns : Bool) (some : List ℕ) → AllDiffer some → ((t : ℕ) → IsIn t some → IsIn t (base_of pawns)) →
    length (without some (base_of pawns)) + length some ≡ cond pawns 48 64
free_many pawns some d h = free_count_law some (base_of pawns) d (AllDiffer-base pawns) h ∙ base_length pawns
