-- Lists that a loop makes piece by piece.
use Rattle.std.proofs.Common.{◌≡◌, ℕ, ◌+◌, ◌-◌, ◌<◌, ◌≤◌, List, [], ◌∷◌, ◌++◌, length, get_or, take, drop, drop-cons, zero, suc, refl, sym, ap, ◌∙◌, Bool, true, false, cond, arith, length-append, zero-add}
use Rattle.std.specs.Prelude.{filter, flat_map}
use Rattle.std.specs.List.{range_with_len}
use Rattle.std.proofs.lemmas.List.{append-nil, take-append-drop}
use Rattle.std.proofs.lemmas.List.Elements.{filter_more, filter-append}
use Rattle.std.proofs.lemmas.List.Concat.{flat_map-append}
use Rattle.std.proofs.lemmas.Bool.{cases_Bool}
use Rattle.std.proofs.Common.{inl, inr}

-- what passes `legal` of the pieces of the elements that pass `own`
abbrev pub passed : {X A : Type 0} → (A → Bool) → (X → List A) → (X → Bool) → List X → List A
passed legal f own xs = filter legal (flat_map f (filter own xs))

-- one more element that passes is added at the end
pub filter_yes : {X : Type 0} (own : X → Bool) (xs : List X) (i : ℕ) (x : X) → i < length xs → x ≡ get_or xs i x → own x ≡ true → filter own (take (i + 1) xs) ≡ filter own (take i xs) ++ x ∷ []
filter_yes {X} own xs i x h e passes =
    filter_more own xs i x h ∙ ap (λ (y : X). filter own (take i xs) ++ cond (own y) (y ∷ []) []) (sym e) ∙ ap (λ (b : Bool). filter own (take i xs) ++ cond b (x ∷ []) []) passes

pub filter_no : {X : Type 0} (own : X → Bool) (xs : List X) (i : ℕ) (x : X) → i < length xs → x ≡ get_or xs i x → own x ≡ false → filter own (take (i + 1) xs) ≡ filter own (take i xs)
filter_no {X} own xs i x h e fails =
    filter_more own xs i x h ∙ ap (λ (y : X). filter own (take i xs) ++ cond (own y) (y ∷ []) []) (sym e) ∙ ap (λ (b : Bool). filter own (take i xs) ++ cond b (x ∷ []) []) fails ∙ append-nil (filter own (take i xs))

pub passed_yes : {X A : Type 0} (legal : A → Bool) (f : X → List A) (own : X → Bool) (xs : List X) (i : ℕ) (x : X) → i < length xs → x ≡ get_or xs i x → own x ≡ true →
    passed legal f own (take (i + 1) xs) ≡ passed legal f own (take i xs) ++ filter legal (f x)
passed_yes {X} {A} legal f own xs i x h e passes =
    ap (λ (ys : List X). filter legal (flat_map f ys)) (filter_yes own xs i x h e passes)
    ∙ ap (filter legal) (flat_map-append f (filter own (take i xs)) (x ∷ []))
    ∙ filter-append legal (flat_map f (filter own (take i xs))) (f x ++ [])
    ∙ ap (λ (ys : List A). passed legal f own (take i xs) ++ filter legal ys) (append-nil (f x))

pub passed_no : {X A : Type 0} (legal : A → Bool) (f : X → List A) (own : X → Bool) (xs : List X) (i : ℕ) (x : X) → i < length xs → x ≡ get_or xs i x → own x ≡ false →
    passed legal f own (take (i + 1) xs) ≡ passed legal f own (take i xs)
passed_no {X} {A} legal f own xs i x h e fails = ap (λ (ys : List X). filter legal (flat_map f ys)) (filter_no own xs i x h e fails)

pub length-filter-le : {X : Type 0} (p : X → Bool) (xs : List X) → length (filter p xs) ≤ length xs
length-filter-le p [] = omega arith
length-filter-le {X} p (x ∷ xs) = elim (cases_Bool (p x)) [
  | inl t ↦ rw t (let h = length-filter-le p xs in omega arith)
  | inr f ↦ rw f (let h = length-filter-le p xs in omega arith)
]

-- a piece is part of the whole
grown : {X A : Type 0} (f : X → List A) (own : X → Bool) (xs : List X) (i : ℕ) (x : X) → i < length xs → x ≡ get_or xs i x → own x ≡ true →
    length (flat_map f (filter own (take i xs))) + length (f x) ≤ length (flat_map f (filter own xs))
grown {X} {A} f own xs i x h e passes =
    let split : xs ≡ take i xs ++ x ∷ drop (suc i) xs = sym (take-append-drop i xs) ∙ ap (λ (ys : List X). take i xs ++ ys) (drop-cons xs i x h ∙ ap (λ (y : X). y ∷ drop (suc i) xs) (sym e)) in
    let kept : filter own (x ∷ drop (suc i) xs) ≡ x ∷ filter own (drop (suc i) xs) = ap (λ (b : Bool). cond b (x ∷ filter own (drop (suc i) xs)) (filter own (drop (suc i) xs))) passes in
    let whole : flat_map f (filter own xs) ≡ flat_map f (filter own (take i xs)) ++ (f x ++ flat_map f (filter own (drop (suc i) xs))) =
    ap (λ (ys : List X). flat_map f (filter own ys)) split ∙ ap (flat_map f) (filter-append own (take i xs) (x ∷ drop (suc i) xs))
    ∙ ap (λ (ys : List X). flat_map f (filter own (take i xs) ++ ys)) kept ∙ flat_map-append f (filter own (take i xs)) (x ∷ filter own (drop (suc i) xs)) in
    let size = ap length whole ∙ length-append (flat_map f (filter own (take i xs))) (f x ++ flat_map f (filter own (drop (suc i) xs))) in
    let more = length-append (f x) (flat_map f (filter own (drop (suc i) xs))) in
    omega (arith, size, more)

-- there is room for the next piece
pub room : {X A : Type 0} (legal : A → Bool) (f : X → List A) (own : X → Bool) (xs : List X) (i : ℕ) (x : X) → i < length xs → x ≡ get_or xs i x → own x ≡ true →
    length (passed legal f own (take i xs)) + length (f x) ≤ length (flat_map f (filter own xs))
room legal f own xs i x h e passes =
    let few = length-filter-le legal (flat_map f (filter own (take i xs))) in let more = grown f own xs i x h e passes in omega (arith, few, more)

-- one more number
pub range_more : (i : ℕ) → range_with_len 0 (i + 1) ≡ range_with_len 0 i ++ i ∷ []
range_more i = more 0 i ∙ ap (λ (k : ℕ). range_with_len 0 i ++ k ∷ []) (zero-add i)
  where
    more : (a n : ℕ) → range_with_len a (n + 1) ≡ range_with_len a n ++ (a + n) ∷ []
    more a zero = let e : a + 0 ≡ a = omega arith in rw e refl
    more a (suc n) =
        let one : suc n + 1 ≡ suc (n + 1) = omega arith in let e : (a + 1) + n ≡ a + suc n = omega arith in
        rw one (ap (λ (ys : List ℕ). a ∷ ys) (more (a + 1) n ∙ ap (λ (k : ℕ). range_with_len (a + 1) n ++ k ∷ []) e))

pub range_split : (n i : ℕ) → i < n → (rest : List ℕ) × (range_with_len 0 n ≡ range_with_len 0 i ++ i ∷ rest)
range_split n i h = let found = split 0 n i h in (found.0, found.1 ∙ ap (λ (k : ℕ). range_with_len 0 i ++ k ∷ found.0) (zero-add i))
  where
    split : (a n i : ℕ) → i < n → (rest : List ℕ) × (range_with_len a n ≡ range_with_len a i ++ (a + i) ∷ rest)
    split a zero i h = absurd (omega arith)
    split a (suc n) zero h = let e : a + 0 ≡ a = omega arith in (range_with_len (a + 1) n, rw e refl)
    split a (suc n) (suc i) h =
        let before = split (a + 1) n i (omega arith) in let e : (a + 1) + i ≡ a + suc i = omega arith in
        (before.0, ap (λ (ys : List ℕ). a ∷ ys) (before.1 ∙ ap (λ (k : ℕ). range_with_len (a + 1) i ++ k ∷ before.0) e))

-- the pieces of the numbers so far, of which those that pass are kept
pub pieces_more : {A : Type 0} (legal : A → Bool) (f : ℕ → List A) (i : ℕ) →
    filter legal (flat_map f (range_with_len 0 (i + 1))) ≡ filter legal (flat_map f (range_with_len 0 i)) ++ filter legal (f i)
pieces_more {A} legal f i =
    ap (λ (ys : List ℕ). filter legal (flat_map f ys)) (range_more i)
    ∙ ap (filter legal) (flat_map-append f (range_with_len 0 i) (i ∷ []))
    ∙ filter-append legal (flat_map f (range_with_len 0 i)) (f i ++ [])
    ∙ ap (λ (ys : List A). filter legal (flat_map f (range_with_len 0 i)) ++ filter legal ys) (append-nil (f i))

pub pieces_room : {A : Type 0} (legal : A → Bool) (f : ℕ → List A) (n i : ℕ) → i < n →
    length (filter legal (flat_map f (range_with_len 0 i))) + length (f i) ≤ length (flat_map f (range_with_len 0 n))
pieces_room {A} legal f n i h =
    let split = range_split n i h in
    let few = length-filter-le legal (flat_map f (range_with_len 0 i)) in
    let size = ap (λ (ys : List ℕ). length (flat_map f ys)) split.1 ∙ ap length (flat_map-append f (range_with_len 0 i) (i ∷ split.0)) ∙ length-append (flat_map f (range_with_len 0 i)) (f i ++ flat_map f split.0) in
    let more = length-append (f i) (flat_map f split.0) in
    omega (arith, few, size, more)

-- numbers whose pieces are empty add nothing
pub pieces_skip : {A : Type 0} (legal : A → Bool) (f : ℕ → List A) (a b : ℕ) → a ≤ b → ((i : ℕ) → a ≤ i → i < b → f i ≡ []) →
    filter legal (flat_map f (range_with_len 0 b)) ≡ filter legal (flat_map f (range_with_len 0 a))
pieces_skip {A} legal f a b h none = skip (b - a) b (omega (arith, h)) none
  where
    skip : (k b : ℕ) → a + k ≡ b → ((i : ℕ) → a ≤ i → i < b → f i ≡ []) → filter legal (flat_map f (range_with_len 0 b)) ≡ filter legal (flat_map f (range_with_len 0 a))
    skip zero b e none = let same : b ≡ a = omega (arith, e) in rw same refl
    skip (suc k) b e none =
        let last : b ≡ (a + k) + 1 = omega (arith, e) in
        ap (λ (n : ℕ). filter legal (flat_map f (range_with_len 0 n))) last ∙ pieces_more legal f (a + k)
        ∙ ap (λ (ys : List A). filter legal (flat_map f (range_with_len 0 (a + k))) ++ filter legal ys) (none (a + k) (omega arith) (omega (arith, last)))
        ∙ append-nil (filter legal (flat_map f (range_with_len 0 (a + k))))
        ∙ skip k (a + k) refl (λ i from to. none i from (omega (arith, last, to)))
