-- Keys hold the number of men of each kind and colour, and so decide whether men are a material's.
use Rattle.std.proofs.Common.{◌≡◌, ℕ, zero, suc, ◌+◌, ◌*◌, ◌/◌, ◌%◌, ◌^◌, ◌<◌, ◌≤◌, inl, inr, List, [], ◌∷◌, length, refl, sym, ap, ◌∙◌, subst, Bool, true, false, cond, pow-suc, arith}
use Rattle.std.specs.Prelude.{◌==◌, nat_lt, count_by, None, IsNone}
use Rattle.std.specs.List.{list_all, sum_by}
use Rattle.std.proofs.Math.Bool.{not, ◌&&◌, ◌||◌}
use Rattle.std.proofs.lemmas.Bool.{cases_Bool, cases_order, eq-eqb, ne_eqb, and_from, and_parts, false_from_ne_true}
use Rattle.std.proofs.lemmas.Bool.Decides.{nat_tests}
use Rattle.std.proofs.lemmas.List.Sums.{sum_by-cons, count_by-le-length}
use Rattle.szg_values.specs.Men.{code_of, man_at, is_man, is_color, name_order}
use Rattle.szg_values.specs.Material.{Sides, IsMaterial, is_in_order, may_be_first, is_not_later, is_symmetric, man_codes, is_same_men}
use Rattle.szg_values.specs.Placement.{PlacedMan, Board, placement_fault, side_of, material_of}
use Rattle.szg_values.specs.declared.Man.{Man}
use Rattle.szg_values.specs.declared.Man.TheVariants.{Pawn, Knight, Bishop, Rook, Queen, King}
use Rattle.szg_values.specs.declared.Color.{Color}
use Rattle.szg_values.specs.declared.Color.TheVariants.{White, Black}
use Rattle.szg_values.proofs.SameMen.{same_men, same_men-refl, same_sides-Decides}
use Rattle.szg_values.proofs.SideOf.{white_first, black_first}
use Rattle.szg_values.proofs.MaterialOf.{material_of_placement}
use Rattle.szg_count.specs.Laws.{IsIn}
use Rattle.szg_count.proofs.Pawns.{peopled}
use Rattle.szg_count.specs.Facts.{key_of, with_exchanged_halves}
use Rattle.szg_count.proofs.ManCodes.{code_small, codes_small}
use Rattle.szg_place.specs.Keys.{men_key}
use Rattle.szg_place.specs.Normal.{colored_code, exchanged_color, is_exchanged}
use Rattle.szg_place.specs.Spots.{is_of_material}
use Rattle.szg_place.proofs.MenOnSlots.Slotted.{few_men}
use Rattle.szg_place.proofs.Indexes.Spotted.{none_is}
use Rattle.szg_place.proofs.MenOnSlots.Pieces.{count-cons, count-same}
use Rattle.szg_place.proofs.MenOnSlots.Standing.{white_code, black_code, codes_first, codes_second, kind_count, sorted, exchanged_when, named_sides, IsNamed, white_exchanged, black_exchanged, raw_counts, count_raw, man_at-first}

-- ---- digits

-- n digits of base 8 from the a-th on, the lowest first
digits : (ℕ → ℕ) → ℕ → ℕ → ℕ
digits f a zero = 0
digits f a (suc n) = f a + 8 * digits f (a + 1) n

digits-same : (f g : ℕ → ℕ) (a n : ℕ) → ((c : ℕ) → f c ≡ g c) → digits f a n ≡ digits g a n
unfolding digits
digits-same f g a zero h = refl
digits-same f g a (suc n) h = let x = h a in let m = digits-same f g (a + 1) n h in omega (arith, x, m)

digits-plus : (f g : ℕ → ℕ) (a n : ℕ) → digits (λ c. f c + g c) a n ≡ digits f a n + digits g a n
unfolding digits
digits-plus f g a zero = refl
digits-plus f g a (suc n) = let m = digits-plus f g (a + 1) n in omega (arith, m)

digits-none : (a n : ℕ) → digits (λ c. 0) a n ≡ 0
unfolding digits
digits-none a zero = refl
digits-none a (suc n) = let m = digits-none (a + 1) n in omega (arith, m)

-- the counts with 1 for code x and 0 for the others
mark : ℕ → ℕ → ℕ
mark x c = cond (x == c) 1 0

mark-past : (x a n : ℕ) → x < a → digits (mark x) a n ≡ 0
unfolding digits mark
mark-past x a zero h = refl
mark-past x a (suc n) h =
    let k : ◌≡◌ {A = ℕ} (mark x a) 0 = ap (λ (b : Bool). cond b 1 0) (ne_eqb x a (λ e. absurd (omega (arith, e, h)))) in
    let m = mark-past x (a + 1) n (omega (arith, h)) in omega (arith, k, m)

power-more : (k : ℕ) → 8 ^ suc k ≡ 8 * 8 ^ k
power-more k = omega (arith, pow-suc 8 k)

mark-at : (k x a n : ℕ) → x ≡ a + k → k < n → digits (mark x) a n ≡ 8 ^ k
unfolding digits mark
mark-at k x a zero e h = absurd (omega (arith, h))
mark-at zero x a (suc n) e h =
    let k : ◌≡◌ {A = ℕ} (mark x a) 1 = ap (λ (b : Bool). cond b 1 0) (eq-eqb x a (omega (arith, e))) in
    let m = mark-past x (a + 1) n (omega (arith, e)) in omega (arith, k, m)
mark-at (suc k) x a (suc n) e h =
    let d : ◌≡◌ {A = ℕ} (mark x a) 0 = ap (λ (b : Bool). cond b 1 0) (ne_eqb x a (λ f. absurd (omega (arith, e, f)))) in
    let m = mark-at k x (a + 1) n (omega (arith, e)) (omega (arith, h)) in let p = power-more k in omega (arith, d, m, p)

-- equal numbers have equal digits below 8
digits-stated : (f g : ℕ → ℕ) (a n k : ℕ) → ((c : ℕ) → f c < 8) → ((c : ℕ) → g c < 8) → digits f a n ≡ digits g a n → k < n → f (a + k) ≡ g (a + k)
unfolding digits
digits-stated f g a zero k p q e h = absurd (omega (arith, h))
digits-stated f g a (suc n) zero p q e h =
    let x = p a in let y = q a in let same : f a ≡ g a = omega (arith, x, y, e) in
    let z : a ≡ a + 0 = omega arith in subst (λ (c : ℕ). f c ≡ g c) z same
digits-stated f g a (suc n) (suc k) p q e h =
    let x = p a in let y = q a in let rest : digits f (a + 1) n ≡ digits g (a + 1) n = omega (arith, x, y, e) in
    let m = digits-stated f g (a + 1) n k p q rest (omega (arith, h)) in
    let z : a + 1 + k ≡ a + suc k = omega arith in subst (λ (c : ℕ). f c ≡ g c) z m

-- a key's digits are the counts
key-digits : {A : Type 0} (f : A → ℕ) (xs : List A) → ((x : A) → IsIn x xs → f x < 16) → sum_by (λ x. 8 ^ f x) xs ≡ digits (λ c. count_by (λ x. f x == c) xs) 0 16
unfolding mark
key-digits f [] h = sym (digits-none 0 16)
key-digits f (x ∷ xs) h =
    let d = digits-same (λ c. count_by (λ y. f y == c) (x ∷ xs)) (λ c. mark (f x) c + count_by (λ y. f y == c) xs) 0 16 (λ c. counted c) in
    let p = digits-plus (mark (f x)) (λ c. count_by (λ y. f y == c) xs) 0 16 in
    let m = mark-at (f x) (f x) 0 16 (omega arith) (h x (inl refl)) in
    let s = sum_by-cons (λ y. 8 ^ f y) x xs in
    let r = key-digits f xs (λ y i. h y (inr i)) in omega (arith, d, p, m, s, r)
  where
    counted : (c : ℕ) → count_by (λ y. f y == c) (x ∷ xs) ≡ mark (f x) c + count_by (λ y. f y == c) xs
    counted c = count-cons (λ y. f y == c) x xs

-- two lists of at most six men with equal keys have equally many men of each code
same_counts : {A B : Type 0} (f : A → ℕ) (g : B → ℕ) (xs : List A) (ys : List B) → ((x : A) → IsIn x xs → f x < 16) → ((y : B) → IsIn y ys → g y < 16) → length xs ≤ 6 → length ys ≤ 6 →
    sum_by (λ x. 8 ^ f x) xs ≡ sum_by (λ y. 8 ^ g y) ys → (c : ℕ) → c < 16 → count_by (λ x. f x == c) xs ≡ count_by (λ y. g y == c) ys
same_counts f g xs ys p q a b e c h =
    let z : 0 + c ≡ c = omega arith in
    subst (λ (d : ℕ). count_by (λ x. f x == d) xs ≡ count_by (λ y. g y == d) ys) z
    (digits-stated (λ d. count_by (λ x. f x == d) xs) (λ d. count_by (λ y. g y == d) ys) 0 16 c
    (λ d. let k = count_by-le-length (λ x. f x == d) xs in omega (arith, k, a)) (λ d. let k = count_by-le-length (λ y. g y == d) ys in omega (arith, k, b))
    (sym (key-digits f xs p) ∙ e ∙ key-digits g ys q) h)

-- two lists with equally many men of each code have equal keys
same_keys : {A B : Type 0} (f : A → ℕ) (g : B → ℕ) (xs : List A) (ys : List B) → ((x : A) → IsIn x xs → f x < 16) → ((y : B) → IsIn y ys → g y < 16) →
    ((c : ℕ) → count_by (λ x. f x == c) xs ≡ count_by (λ y. g y == c) ys) → sum_by (λ x. 8 ^ f x) xs ≡ sum_by (λ y. 8 ^ g y) ys
same_keys f g xs ys p q e = key-digits f xs p ∙ digits-same (λ d. count_by (λ x. f x == d) xs) (λ d. count_by (λ y. g y == d) ys) 0 16 e ∙ sym (key-digits g ys q)

-- ---- codes are below 16

coded_small : (man : Man) (color : Color) → colored_code man color < 16
coded_small man White = let k = code_small man in omega (arith, k)
coded_small man Black = let k = code_small man in omega (arith, k)

-- ---- what a man adds to a key

-- ---- colours exchanged

-- what a man adds, by his colour
record IsManKey (man : Man) (color : Color) (white black : ℕ) : Type 0 where
  plain : 8 ^ colored_code man (exchanged_color false color) ≡ white + 16777216 * black
  turned : 8 ^ colored_code man (exchanged_color true color) ≡ black + 16777216 * white
  small : white ≤ 262144
  other : black ≤ 262144

man_key : (man : Man) (color : Color) → (white : ℕ) × ((black : ℕ) × IsManKey man color white black)
man_key Pawn White = (8, (0, record { plain = refl; turned = refl; small = omega arith; other = omega arith }))
man_key Knight White = (64, (0, record { plain = refl; turned = refl; small = omega arith; other = omega arith }))
man_key Bishop White = (512, (0, record { plain = refl; turned = refl; small = omega arith; other = omega arith }))
man_key Rook White = (4096, (0, record { plain = refl; turned = refl; small = omega arith; other = omega arith }))
man_key Queen White = (32768, (0, record { plain = refl; turned = refl; small = omega arith; other = omega arith }))
man_key King White = (262144, (0, record { plain = refl; turned = refl; small = omega arith; other = omega arith }))
man_key Pawn Black = (0, (8, record { plain = refl; turned = refl; small = omega arith; other = omega arith }))
man_key Knight Black = (0, (64, record { plain = refl; turned = refl; small = omega arith; other = omega arith }))
man_key Bishop Black = (0, (512, record { plain = refl; turned = refl; small = omega arith; other = omega arith }))
man_key Rook Black = (0, (4096, record { plain = refl; turned = refl; small = omega arith; other = omega arith }))
man_key Queen Black = (0, (32768, record { plain = refl; turned = refl; small = omega arith; other = omega arith }))
man_key King Black = (0, (262144, record { plain = refl; turned = refl; small = omega arith; other = omega arith }))

record AreKeys (men : List PlacedMan) (white black : ℕ) : Type 0 where
  plain : men_key false men ≡ white + 16777216 * black
  turned : men_key true men ≡ black + 16777216 * white
  small : white ≤ 262144 * length men
  other : black ≤ 262144 * length men

are_keys : (men : List PlacedMan) → (white : ℕ) × ((black : ℕ) × AreKeys men white black)
are_keys [] = (0, (0, record { plain = refl; turned = refl; small = omega arith; other = omega arith }))
are_keys (s ∷ men) =
    let h = man_key s.0 s.1 in let r = are_keys men in
    let a = h.1.1.plain in let b = r.1.1.plain in let p = sum_by-cons (λ (x : PlacedMan). 8 ^ colored_code x.0 (exchanged_color false x.1)) s men in
    let c = h.1.1.turned in let d = r.1.1.turned in let q = sum_by-cons (λ (x : PlacedMan). 8 ^ colored_code x.0 (exchanged_color true x.1)) s men in
    let e = h.1.1.small in let f = r.1.1.small in let g = h.1.1.other in let k = r.1.1.other in
    (h.0 + r.0, (h.1.0 + r.1.0, record { plain = omega (arith, a, b, p); turned = omega (arith, c, d, q); small = omega (arith, e, f); other = omega (arith, g, k) }))

halves : (key other white black : ℕ) → key ≡ white + 16777216 * black → other ≡ black + 16777216 * white → white < 16777216 → other ≡ with_exchanged_halves key
halves key other white black e f h =
    let low : key % 16777216 ≡ white = omega arith in let high : key / 16777216 ≡ black = omega arith in omega (arith, low, high, f)

-- the key of men with colours exchanged
pub exchanged_key : (men : List PlacedMan) → length men ≤ 6 → men_key true men ≡ with_exchanged_halves (men_key false men)
exchanged_key men few =
    let r = are_keys men in let h = r.1.1 in let s = h.small in
    halves (men_key false men) (men_key true men) r.0 r.1.0 h.plain h.turned (omega (arith, s, few))

pub men_key-small : (men : List PlacedMan) → length men ≤ 6 → men_key false men < 281474976710656
men_key-small men few = let r = are_keys men in let h = r.1.1 in let p = h.plain in let a = h.small in let b = h.other in omega (arith, p, a, b, few)

-- colours exchanged twice
pub exchanged_twice : (key : ℕ) → key < 281474976710656 → with_exchanged_halves (with_exchanged_halves key) ≡ key
exchanged_twice key h = sym (halves (with_exchanged_halves key) key (key / 16777216) (key % 16777216) (omega arith) (omega arith) (omega (arith, h)))

-- ---- the sides

all_men : (test : Man → Bool) (men : List Man) → ((man : Man) → test man ≡ true) → list_all test men ≡ true
all_men test [] h = refl
all_men test (man ∷ men) h = and_from (test man) (list_all test men) (h man) (all_men test men h)

side_order : (placed_men : List PlacedMan) → placement_fault placed_men ≡ None → (is_in_order (side_of White placed_men) ≡ true) × (is_in_order (side_of Black placed_men) ≡ true)
side_order placed_men fine =
    let white = side_of White placed_men in let black = side_of Black placed_men in
    let o = sorted (material_of placed_men) (material_of_placement placed_men fine) in
    elim (cases_Bool (may_be_first white black)) [
      | inl t ↦ let e = white_first placed_men t in (sym (ap (λ (s : Sides). is_in_order s.first) e) ∙ o.first, sym (ap (λ (s : Sides). is_in_order s.second) e) ∙ o.second)
      | inr f ↦ let e = black_first placed_men f in (sym (ap (λ (s : Sides). is_in_order s.second) e) ∙ o.second, sym (ap (λ (s : Sides). is_in_order s.first) e) ∙ o.first)
    ]

either_order : (placed_men : List PlacedMan) (color : Color) → placement_fault placed_men ≡ None → is_in_order (side_of color placed_men) ≡ true
either_order placed_men White fine = (side_order placed_men fine).0
either_order placed_men Black fine = (side_order placed_men fine).1

abbrev coded : Bool → PlacedMan → ℕ
coded ex s = colored_code s.0 (exchanged_color ex s.1)

kind_first : (ex : Bool) (placed_men : List PlacedMan) (kind : Man) → count_by (λ s. coded ex s == code_of kind) placed_men ≡ count_by (is_man kind) (side_of (exchanged_color ex White) placed_men)
kind_first ex placed_men kind =
    count-same (λ s. coded ex s == code_of kind) (λ s. is_man kind s.0 && is_color (exchanged_color ex White) s.1) placed_men
    (λ s i. white_code kind s.0 (exchanged_color ex s.1) ∙ ap (λ b. is_man kind s.0 && b) (white_exchanged ex s.1))
    ∙ sym (kind_count kind (exchanged_color ex White) placed_men)

kind_second : (ex : Bool) (placed_men : List PlacedMan) (kind : Man) → count_by (λ s. coded ex s == (8 + code_of kind)) placed_men ≡ count_by (is_man kind) (side_of (exchanged_color ex Black) placed_men)
kind_second ex placed_men kind =
    count-same (λ s. coded ex s == (8 + code_of kind)) (λ s. is_man kind s.0 && is_color (exchanged_color ex Black) s.1) placed_men
    (λ s i. black_code kind s.0 (exchanged_color ex s.1) ∙ ap (λ b. is_man kind s.0 && b) (black_exchanged ex s.1))
    ∙ sym (kind_count kind (exchanged_color ex Black) placed_men)

-- the key of a material's men determines the sides
pub named_by_key : (sides : Sides) (ex : Bool) (placed_men : List PlacedMan) → IsMaterial sides → placement_fault placed_men ≡ None → length placed_men ≤ 6 →
    men_key ex placed_men ≡ key_of (man_codes sides) → IsNamed sides ex placed_men
named_by_key sides ex placed_men h fine few e =
    let o = sorted sides h in let p = (peopled sides h).few in
    let counts = same_counts (coded ex) (λ (c : ℕ). c) placed_men (man_codes sides) (λ s i. coded_small s.0 (exchanged_color ex s.1)) (codes_small sides) few p e in
    let white = side_of (exchanged_color ex White) placed_men in let black = side_of (exchanged_color ex Black) placed_men in
    let first : (kind : Man) → count_by (is_man kind) white ≡ count_by (is_man kind) sides.first = λ kind.
    sym (kind_first ex placed_men kind) ∙ counts (code_of kind) (let k = code_small kind in omega (arith, k)) ∙ codes_first sides kind in
    let second : (kind : Man) → count_by (is_man kind) black ≡ count_by (is_man kind) sides.second = λ kind.
    sym (kind_second ex placed_men kind) ∙ counts (8 + code_of kind) (let k = code_small kind in omega (arith, k)) ∙ codes_second sides kind in
    record {
      first = same_men white sides.first (either_order placed_men (exchanged_color ex White) fine) o.first
          (all_men (λ kind. count_by (is_man kind) white == count_by (is_man kind) sides.first) name_order (λ kind. eq-eqb (count_by (is_man kind) white) (count_by (is_man kind) sides.first) (first kind)));
      second = same_men black sides.second (either_order placed_men (exchanged_color ex Black) fine) o.second
          (all_men (λ kind. count_by (is_man kind) black == count_by (is_man kind) sides.second) name_order (λ kind. eq-eqb (count_by (is_man kind) black) (count_by (is_man kind) sides.second) (second kind)));
    }

pub key_of_named : (sides : Sides) (ex : Bool) (placed_men : List PlacedMan) → IsNamed sides ex placed_men → men_key ex placed_men ≡ key_of (man_codes sides)
key_of_named sides ex placed_men n =
    same_keys (coded ex) (λ (c : ℕ). c) placed_men (man_codes sides) (λ s i. coded_small s.0 (exchanged_color ex s.1)) (codes_small sides)
    (λ c. sym (count_raw ex c placed_men) ∙ raw_counts sides ex placed_men n c)

-- ---- which side is first

same_man : (a b : Man) → code_of a ≡ code_of b → a ≡ b
same_man a b e = sym (man_at-first a) ∙ ap man_at e ∙ man_at-first b

neither_later : (a b : List Man) → length a ≡ length b → is_not_later a b ≡ true → is_not_later b a ≡ true → a ≡ b
neither_later [] [] l p q = refl
neither_later [] (y ∷ b) l p q = absurd (omega (arith, l))
neither_later (x ∷ a) [] l p q = absurd (omega (arith, l))
neither_later (x ∷ a) (y ∷ b) l p q = elim (cases_order (code_of x) (code_of y)) [
  | inl s ↦
      let f : nat_lt (code_of y) (code_of x) ≡ false = grind (arith, nat_tests) in
      let g : nat_lt (code_of x) (code_of y) ≡ false = grind (arith, nat_tests) in
      let t : is_not_later a b ≡ true = (and_parts (is_man x y) (is_not_later a b) (or_none (nat_lt (code_of y) (code_of x)) (is_man x y && is_not_later a b) f p)).1 in
      let u : is_not_later b a ≡ true = (and_parts (is_man y x) (is_not_later b a) (or_none (nat_lt (code_of x) (code_of y)) (is_man y x && is_not_later b a) g q)).1 in
      ap (λ z. z ∷ a) (same_man x y s) ∙ ap (λ men. y ∷ men) (neither_later a b (omega (arith, l)) t u)
  | inr r ↦ elim r [
    | inl s ↦ absurd (
        let f : nat_lt (code_of y) (code_of x) ≡ false = grind (arith, nat_tests) in
        let g : is_man x y ≡ false = grind (arith, nat_tests) in
        clash (is_man x y) (and_parts (is_man x y) (is_not_later a b) (or_none (nat_lt (code_of y) (code_of x)) (is_man x y && is_not_later a b) f p)).0 g)
    | inr s ↦ absurd (
        let f : nat_lt (code_of x) (code_of y) ≡ false = grind (arith, nat_tests) in
        let g : is_man y x ≡ false = grind (arith, nat_tests) in
        clash (is_man y x) (and_parts (is_man y x) (is_not_later b a) (or_none (nat_lt (code_of x) (code_of y)) (is_man y x && is_not_later b a) f q)).0 g)
  ]
] where
  or_none : (a b : Bool) → a ≡ false → (a || b) ≡ true → b ≡ true
  or_none true b e f = cc
  or_none false b e f = f

  clash : (b : Bool) → b ≡ true → b ≡ false → ⊥
  clash true e f = cc
  clash false e f = cc

-- if each of two sides may be the first, they are the same
both_first : (a b : List Man) → may_be_first a b ≡ true → may_be_first b a ≡ true → a ≡ b
both_first a b p q = elim (cases_order (length a) (length b)) [
  | inl s ↦
      let f : nat_lt (length b) (length a) ≡ false = grind (arith, nat_tests) in
      let g : nat_lt (length a) (length b) ≡ false = grind (arith, nat_tests) in
      neither_later a b s (later (length b) (length a) (length a == length b) (is_not_later a b) f p) (later (length a) (length b) (length b == length a) (is_not_later b a) g q)
  | inr r ↦ elim r [
    | inl s ↦ absurd (
        let f : nat_lt (length b) (length a) ≡ false = grind (arith, nat_tests) in
        let g : (length a == length b) ≡ false = grind (arith, nat_tests) in
        none (nat_lt (length b) (length a)) (length a == length b) (is_not_later a b) f g p)
    | inr s ↦ absurd (
        let f : nat_lt (length a) (length b) ≡ false = grind (arith, nat_tests) in
        let g : (length b == length a) ≡ false = grind (arith, nat_tests) in
        none (nat_lt (length a) (length b)) (length b == length a) (is_not_later b a) f g q)
  ]
] where
  later : (m n : ℕ) (t u : Bool) → nat_lt m n ≡ false → (nat_lt m n || (t && u)) ≡ true → u ≡ true
  later m n t u e f = rest (nat_lt m n) t u e f where
    rest : (s t u : Bool) → s ≡ false → (s || (t && u)) ≡ true → u ≡ true
    rest true t u e f = cc
    rest false true u e f = f
    rest false false u e f = cc

  none : (s t u : Bool) → s ≡ false → t ≡ false → (s || (t && u)) ≡ true → ⊥
  none true t u e f g = cc
  none false true u e f g = cc
  none false false u e f g = cc

abbrev sides_from : List Man → List Man → Sides
sides_from a b = record { first = a; second = b }

same_sides : (a b : List Man) (sides : Sides) → a ≡ sides.first → b ≡ sides.second → sides_from a b ≡ sides
same_sides a b sides e f = ap (λ (x : List Man). sides_from x b) e ∙ ap (λ (x : List Man). sides_from sides.first x) f

material_named : (sides : Sides) (ex : Bool) (placed_men : List PlacedMan) → IsMaterial sides → IsNamed sides ex placed_men → material_of placed_men ≡ sides
material_named sides false placed_men h n =
    let o = sorted sides h in
    let t = ap (λ (a : List Man). may_be_first a (side_of Black placed_men)) n.first ∙ ap (λ (b : List Man). may_be_first sides.first b) n.second ∙ o.named in
    white_first placed_men t ∙ same_sides (side_of White placed_men) (side_of Black placed_men) sides n.first n.second
material_named sides true placed_men h n =
    let o = sorted sides h in
    let white = side_of White placed_men in let black = side_of Black placed_men in
    elim (cases_Bool (may_be_first white black)) [
      | inl t ↦
          let other : may_be_first sides.second sides.first ≡ true = sym (ap (λ (a : List Man). may_be_first a sides.first) n.second) ∙ sym (ap (λ (b : List Man). may_be_first white b) n.first) ∙ t in
          let e = both_first sides.second sides.first other o.named in
          white_first placed_men t ∙ same_sides white black sides (n.second ∙ e) (n.first ∙ sym e)
      | inr f ↦ black_first placed_men f ∙ same_sides black white sides n.first n.second
    ]

pub of_named : (sides : Sides) (ex : Bool) (board : Board) → IsMaterial sides → IsNamed sides ex board.placed_men → is_of_material sides board ≡ true
of_named sides ex board h n =
    ap (λ (o : Sides). is_same_men o.first sides.first && is_same_men o.second sides.second) (material_named sides ex board.placed_men h n)
    ∙ and_from (is_same_men sides.first sides.first) (is_same_men sides.second sides.second) (same_men-refl sides.first) (same_men-refl sides.second)

-- ---- whether colours are exchanged

pub named_plain : (sides : Sides) (board : Board) → IsNamed sides false board.placed_men → is_exchanged sides board ≡ (is_symmetric sides && is_color Black board.mover)
named_plain sides board n = elim (cases_Bool (is_symmetric sides)) [
  | inl t ↦ rw t refl
  | inr f ↦
      let same : is_same_men (side_of White board.placed_men) sides.first ≡ true = subst (λ (l : List Man). is_same_men l sides.first ≡ true) (sym n.first) (same_men-refl sides.first) in
      exchanged_when sides board f ∙ ap not same ∙ sym (ap (λ b. b && is_color Black board.mover) f)
]

pub named_flipped : (sides : Sides) (board : Board) → IsMaterial sides → IsNamed sides true board.placed_men → (IsNamed sides false board.placed_men → ⊥) → is_exchanged sides board ≡ true
named_flipped sides board h n out =
    let o = sorted sides h in
    elim (cases_Bool (is_symmetric sides)) [
      | inl t ↦ let e = same_men sides.first sides.second o.first o.second t in absurd (out (record { first = n.second ∙ sym e; second = n.first ∙ e }))
      | inr f ↦
          let other : is_same_men (side_of White board.placed_men) sides.first ≡ false = false_from_ne_true (is_same_men (side_of White board.placed_men) sides.first)
          (λ q. let e = same_men sides.second sides.first o.second o.first (subst (λ (l : List Man). is_same_men l sides.first ≡ true) n.second q) in
          out (record { first = n.second ∙ e; second = n.first ∙ sym e })) in
          exchanged_when sides board f ∙ ap not other
    ]

-- with neither key the men are another material's
pub other_keys : (sides : Sides) (board : Board) → IsMaterial sides → placement_fault board.placed_men ≡ None →
    (men_key false board.placed_men ≡ key_of (man_codes sides) → ⊥) → (men_key true board.placed_men ≡ key_of (man_codes sides) → ⊥) → is_of_material sides board ≡ false
other_keys sides board h fine p q = false_from_ne_true (is_of_material sides board) (λ t.
    let same = (same_sides-Decides (material_of board.placed_men) sides (material_of_placement board.placed_men fine) h).0 t in
    by_case (is_exchanged sides board) (named_sides sides board h same))
  where
    by_case : (ex : Bool) → IsNamed sides ex board.placed_men → ⊥
    by_case true n = q (key_of_named sides true board.placed_men n)
    by_case false n = p (key_of_named sides false board.placed_men n)

-- ---- what the code finds

pub named_if : (sides : Sides) (ex : Bool) (board : Board) (list : List PlacedMan) (key own : ℕ) → IsMaterial sides → list ≡ board.placed_men → IsNone (placement_fault list) →
    key ≡ men_key ex list → own ≡ key_of (man_codes sides) → key ≡ own → IsNamed sides ex board.placed_men
named_if sides ex board list key own h e sound k o same =
    let fine = none_is (placement_fault list) sound in
    subst (λ (l : List PlacedMan). IsNamed sides ex l) e (named_by_key sides ex list h fine (few_men list sound) (sym k ∙ same ∙ o))

pub not_if : (sides : Sides) (ex : Bool) (board : Board) (list : List PlacedMan) (key own : ℕ) → list ≡ board.placed_men →
    key ≡ men_key ex list → own ≡ key_of (man_codes sides) → (key ≡ own → ⊥) → men_key ex board.placed_men ≡ key_of (man_codes sides) → ⊥
not_if sides ex board list key own e k o out f = out (k ∙ ap (men_key ex) e ∙ f ∙ sym o)

-- the three results of the test
pub plain_if : (sides : Sides) (board : Board) (list : List PlacedMan) (key own : ℕ) → IsMaterial sides → list ≡ board.placed_men → IsNone (placement_fault list) →
    key ≡ men_key false list → own ≡ key_of (man_codes sides) → key ≡ own →
    (is_of_material sides board ≡ true) × (is_exchanged sides board ≡ (is_symmetric sides && is_color Black board.mover))
plain_if sides board list key own h e sound k o same =
    let n = named_if sides false board list key own h e sound k o same in (of_named sides false board h n, named_plain sides board n)

pub flipped_if : (sides : Sides) (board : Board) (list : List PlacedMan) (key turned own : ℕ) → IsMaterial sides → list ≡ board.placed_men → IsNone (placement_fault list) →
    key ≡ men_key false list → turned ≡ men_key true list → own ≡ key_of (man_codes sides) → (key ≡ own → ⊥) → turned ≡ own →
    (is_of_material sides board ≡ true) × (is_exchanged sides board ≡ true)
flipped_if sides board list key turned own h e sound k l o out same =
    let n = named_if sides true board list turned own h e sound l o same in
    (of_named sides true board h n, named_flipped sides board h n (λ p. not_if sides false board list key own e k o out (key_of_named sides false board.placed_men p)))

pub other_if : (sides : Sides) (board : Board) (list : List PlacedMan) (key turned own : ℕ) → IsMaterial sides → list ≡ board.placed_men → IsNone (placement_fault list) →
    key ≡ men_key false list → turned ≡ men_key true list → own ≡ key_of (man_codes sides) → (key ≡ own → ⊥) → (turned ≡ own → ⊥) → is_of_material sides board ≡ false
other_if sides board list key turned own h e sound k l o p q =
    other_keys sides board h (none_is (placement_fault board.placed_men) (subst (λ (s : List PlacedMan). IsNone (placement_fault s)) e sound))
    (not_if sides false board list key own e k o p) (not_if sides true board list turned own e l o q)
