-- The list contains all materials, each once.
use Rattle.std.proofs.Common.{◌≡◌, ℕ, zero, suc, ◌+◌, ◌*◌, ◌-◌, ◌<◌, ◌≤◌, inl, inr, ◌⊎◌, List, [], ◌∷◌, ◌++◌, length, refl, sym, ap, ◌∙◌, subst, Bool, true, false, not, ◌&&◌, arith, get_or}
use Rattle.std.specs.Prelude.{nat_lt, nat_le, map, flat_map, filter}
use Rattle.std.specs.List.{list_any, Contains}
use Rattle.std.proofs.lemmas.Bool.{cases_Bool, eqb-true, ltb-true, and_parts, or_parts, not-true, leb-true}
use Rattle.szg_values.specs.Men.{code_of, is_man}
use Rattle.szg_values.specs.Material.{Sides, is_material, IsMaterial, has_king_first, is_in_order, may_be_first, is_count}
use Rattle.szg_values.specs.Names.{words, pairs, numbers, materials}
use Rattle.szg_values.specs.Laws.{AllDifferent, LawNameCount}
use Rattle.szg_values.proofs.SameMen.{same_code}
use Rattle.szg_values.specs.declared.Man.{Man}
use Rattle.szg_values.specs.declared.Man.TheVariants.{Pawn, Knight, Bishop, Rook, Queen, King}

In : {A : Type 0} → A → List A → Type 0
In x [] = ⊥
In x (y ∷ ys) = (x ≡ y) ⊎ In x ys

in_left : {A : Type 0} (x : A) (xs ys : List A) → In x xs → In x (xs ++ ys)
unfolding In
in_left x [] ys h = absurd h
in_left x (y ∷ xs) ys (inl e) = inl e
in_left x (y ∷ xs) ys (inr i) = inr (in_left x xs ys i)

in_right : {A : Type 0} (x : A) (xs ys : List A) → In x ys → In x (xs ++ ys)
unfolding In
in_right x [] ys h = h
in_right x (y ∷ xs) ys h = inr (in_right x xs ys h)

in_map : {A B : Type 0} (f : A → B) (x : A) (xs : List A) → In x xs → In (f x) (map f xs)
unfolding In
in_map f x [] h = absurd h
in_map f x (y ∷ xs) (inl e) = inl (ap f e)
in_map f x (y ∷ xs) (inr i) = inr (in_map f x xs i)

in_flat_map : {A B : Type 0} (f : A → List B) (x : A) (z : B) (xs : List A) → In x xs → In z (f x) → In z (flat_map f xs)
unfolding In
in_flat_map f x z [] h k = absurd h
in_flat_map f x z (y ∷ xs) (inl e) k = in_left z (f y) (flat_map f xs) (subst (λ w. In z (f w)) e k)
in_flat_map f x z (y ∷ xs) (inr i) k = in_right z (f y) (flat_map f xs) (in_flat_map f x z xs i k)

in_filter : (test : Sides → Bool) (x : Sides) (xs : List Sides) → In x xs → test x ≡ true → In x (filter test xs)
unfolding In
in_filter test x [] h t = absurd h
in_filter test x (y ∷ xs) (inl e) t = let s : test y ≡ true = ap test (sym e) ∙ t in rw s (inl e)
in_filter test x (y ∷ xs) (inr i) t = elim (cases_Bool (test y)) [
  | inl s ↦ rw s (inr (in_filter test x xs i t))
  | inr s ↦ rw s (in_filter test x xs i t)
]

filter_in : (test : Sides → Bool) (x : Sides) (xs : List Sides) → In x (filter test xs) → test x ≡ true
unfolding In
filter_in test x [] h = absurd h
filter_in test x (y ∷ xs) h = elim (cases_Bool (test y)) [
  | inl s ↦ let k : (x ≡ y) ⊎ In x (filter test xs) = rw s at h in elim k [ inl e ↦ ap test e ∙ s | inr i ↦ filter_in test x xs i ]
  | inr s ↦ let k : In x (filter test xs) = rw s at h in filter_in test x xs k
]

-- ---- every material is there

other : (man : Man) → is_man King man ≡ false → In man (Queen ∷ Rook ∷ Bishop ∷ Knight ∷ Pawn ∷ [])
unfolding In
other King e = absurd (let k : true ≡ false = e in cc)
other Queen e = inl refl
other Rook e = inr (inl refl)
other Bishop e = inr (inr (inl refl))
other Knight e = inr (inr (inr (inl refl)))
other Pawn e = inr (inr (inr (inr (inl refl))))

in_words : (men : List Man) → list_any (is_man King) men ≡ false → In men (words (length men))
unfolding In
in_words [] e = inl refl
in_words (man ∷ men) e =
    let parts = or_parts (is_man King man) (list_any (is_man King) men) e in
    in_flat_map (λ m. map (λ word. m ∷ word) (words (length men))) man (man ∷ men) (Queen ∷ Rook ∷ Bishop ∷ Knight ∷ Pawn ∷ [])
    (other man parts.0) (in_map (λ word. man ∷ word) men (words (length men)) (in_words men parts.1))

-- a king and other men
record IsKinged (men : List Man) : Type 0 where
  others : List Man
  is : men ≡ King ∷ others
  kingless : list_any (is_man King) others ≡ false

kinged : (men : List Man) → has_king_first men ≡ true → IsKinged men
kinged [] e = cc
kinged (man ∷ men) e =
    let parts = and_parts (is_man King man) (not (list_any (is_man King) men)) e in
    record { others = men; is = ap (λ m. m ∷ men) (sym (same_code King man (eqb-true (code_of King) (code_of man) parts.0))); kingless = not-true (list_any (is_man King) men) parts.1 }

in_numbers : (i j : ℕ) → i + j ≤ 4 → In (i, j) numbers
unfolding In
in_numbers zero zero h = inl refl
in_numbers zero (suc zero) h = inr (inl refl)
in_numbers (suc zero) zero h = inr (inr (inl refl))
in_numbers zero (suc (suc zero)) h = inr (inr (inr (inl refl)))
in_numbers (suc zero) (suc zero) h = inr (inr (inr (inr (inl refl))))
in_numbers (suc (suc zero)) zero h = inr (inr (inr (inr (inr (inl refl)))))
in_numbers zero (suc (suc (suc zero))) h = inr (inr (inr (inr (inr (inr (inl refl))))))
in_numbers (suc zero) (suc (suc zero)) h = inr (inr (inr (inr (inr (inr (inr (inl refl)))))))
in_numbers (suc (suc zero)) (suc zero) h = inr (inr (inr (inr (inr (inr (inr (inr (inl refl))))))))
in_numbers (suc (suc (suc zero))) zero h = inr (inr (inr (inr (inr (inr (inr (inr (inr (inl refl)))))))))
in_numbers zero (suc (suc (suc (suc zero)))) h = inr (inr (inr (inr (inr (inr (inr (inr (inr (inr (inl refl))))))))))
in_numbers (suc zero) (suc (suc (suc zero))) h = inr (inr (inr (inr (inr (inr (inr (inr (inr (inr (inr (inl refl)))))))))))
in_numbers (suc (suc zero)) (suc (suc zero)) h = inr (inr (inr (inr (inr (inr (inr (inr (inr (inr (inr (inr (inl refl))))))))))))
in_numbers (suc (suc (suc zero))) (suc zero) h = inr (inr (inr (inr (inr (inr (inr (inr (inr (inr (inr (inr (inr (inl refl)))))))))))))
in_numbers (suc (suc (suc (suc zero)))) zero h = inr (inr (inr (inr (inr (inr (inr (inr (inr (inr (inr (inr (inr (inr (inl refl))))))))))))))
in_numbers i j h = absurd (omega arith)

in_pairs : (a b : List Man) → list_any (is_man King) a ≡ false → list_any (is_man King) b ≡ false →
    In (record { first = King ∷ a; second = King ∷ b }) (pairs (length a, length b))
in_pairs a b e f =
    in_flat_map (λ x. map (λ y. record { first = King ∷ x; second = King ∷ y }) (words (length b))) a (record { first = King ∷ a; second = King ∷ b }) (words (length a))
    (in_words a e) (in_map (λ y. record { first = King ∷ a; second = King ∷ y }) b (words (length b)) (in_words b f))

listed : (sides : Sides) → IsMaterial sides → In sides materials
unfolding materials
listed sides h =
    let kings = has_king_first sides.first && has_king_first sides.second in
    let order = is_in_order sides.first && is_in_order sides.second in
    let sorted = may_be_first sides.first sides.second in
    let counted = is_count (length sides.first + length sides.second) in
    let whole = and_parts (kings && order && sorted) counted h in
    let both = and_parts kings order (and_parts (kings && order) sorted whole.0).0 in
    let k = and_parts (has_king_first sides.first) (has_king_first sides.second) both.0 in
    let a = kinged sides.first k.0 in let b = kinged sides.second k.1 in
    let few : length sides.first + length sides.second ≤ 6 = leb-true (length sides.first + length sides.second) 6 (and_parts (nat_le 3 (length sides.first + length sides.second)) (nat_le (length sides.first + length sides.second) 6) whole.1).1 in
    let m : length sides.first ≡ suc (length a.others) = ap length a.is in
    let n : length sides.second ≡ suc (length b.others) = ap length b.is in
    let is : ◌≡◌ {A = Sides} (record { first = King ∷ a.others; second = King ∷ b.others }) sides =
    ap (λ x. record { first = x; second = King ∷ b.others }) (sym a.is) ∙ ap (λ y. record { first = sides.first; second = y }) (sym b.is) in
    let there = in_flat_map pairs (length a.others, length b.others) (record { first = King ∷ a.others; second = King ∷ b.others }) numbers
    (in_numbers (length a.others) (length b.others) (omega (arith, few, m, n))) (in_pairs a.others b.others a.kingless b.kingless) in
    in_filter is_material sides (flat_map pairs numbers) (subst (λ s. In s (flat_map pairs numbers)) is there) h

contained : (x : Sides) (xs : List Sides) → In x xs → Contains xs x
unfolding In
contained x [] h = absurd h
contained x (y ∷ xs) (inl e) = (0, omega arith, sym e)
contained x (y ∷ xs) (inr i) = let c = contained x xs i in let below = c.1 in (suc c.0, omega arith, c.2)

within : (x : Sides) (xs : List Sides) → Contains xs x → In x xs
unfolding In
within x [] c = absurd (let below = c.1 in omega arith)
within x (y ∷ xs) c = at c.0 c.1 c.2 (within x xs) where
  at : (k : ℕ) → k < suc (length xs) → get_or (y ∷ xs) k x ≡ x → (Contains xs x → In x xs) → (x ≡ y) ⊎ In x xs
  at zero h e more = inl (sym e)
  at (suc k) h e more = inr (more (k, omega arith, e))

only_materials : (sides : Sides) → Contains materials sides → IsMaterial sides
unfolding materials
only_materials sides c = filter_in is_material sides (flat_map pairs numbers) (within sides materials c)

-- ---- each once: the materials are listed by an increasing number

key : Sides → ℕ
key sides = digits (digits ((length sides.first + length sides.second) * 8 + length sides.first) sides.first) sides.second where
  digits : ℕ → List Man → ℕ
  digits n [] = n
  digits n (man ∷ men) = digits (n * 8 + (7 - code_of man)) men

rises : ℕ → List ℕ → Bool
rises n [] = true
rises n (m ∷ more) = nat_lt n m && rises m more

rising : (n : ℕ) (xs : List Sides) → rises n (map key xs) ≡ true → (x : Sides) → In x xs → n < key x
unfolding In rises
rising n [] e x h = absurd h
rising n (y ∷ xs) e x (inl f) = subst (λ s. n < key s) (sym f) (ltb-true n (key y) (and_parts (nat_lt n (key y)) (rises (key y) (map key xs)) e).0)
rising n (y ∷ xs) e x (inr i) =
    let parts = and_parts (nat_lt n (key y)) (rises (key y) (map key xs)) e in
    let a = ltb-true n (key y) parts.0 in let b = rising (key y) xs parts.1 x i in omega (arith, a, b)

differing : (n : ℕ) (xs : List Sides) → rises n (map key xs) ≡ true → AllDifferent xs
unfolding rises
differing n [] e = tt
differing n (y ∷ xs) e =
    let parts = and_parts (nat_lt n (key y)) (rises (key y) (map key xs)) e in
    (λ c. let less : key y < key y = rising (key y) xs parts.1 y (within y xs c) in omega arith, differing (key y) xs parts.1)

rise : rises 0 (map key materials) ≡ true
unfolding rises key materials
rise = refl

many : length materials ≡ 510
unfolding materials
many = refl

pub name_count : LawNameCount
name_count = (many, (λ sides. (only_materials sides, λ h. contained sides materials (listed sides h))), differing 0 materials rise)
