-- A text is accepted exactly if it is the name of a material, and the result is that material.
use Rattle.std.proofs.Common.{◌≡◌, ℕ, ◌+◌, List, [], ◌∷◌, ◌++◌, length, refl, sym, ap, ◌∙◌, subst, Bool, true, false, not, ◌&&◌, ◌||◌, cond, arith, add-one, one-add}
use Rattle.std.specs.Prelude.{Result, Ok, Err, Some, map, filter_map, count_by, ◌==◌}
use Rattle.std.specs.List.{list_all, before_first, after_first}
use Rattle.std.proofs.lemmas.List.Sums.{sum_by-cons}
use Rattle.std.proofs.lemmas.List.Folds.{list_all-append}
use Rattle.std.proofs.lemmas.Bool.{cases_Bool, eqb-true, and_parts}
use Rattle.std.proofs.lemmas.Bool.Decides.{eqb_tells}
use Rattle.std.proofs.Common.{inl, inr, zero-add}
use Rattle.szg_values.specs.declared.NameFault.{NameFault}
use Rattle.szg_values.specs.declared.NameFault.TheVariants as fault
use Rattle.szg_values.specs.Material.{has_king_first, is_in_order, may_be_first, is_count}
use Rattle.szg_values.specs.Laws.{LawNames}
use Rattle.szg_values.specs.Men.{letter_of, man_of}
use Rattle.szg_values.specs.Material.{Sides, name_of, sides_of, parsed, is_v, is_name_letter, is_spelled, is_material, IsMaterial}
use Rattle.szg_values.specs.declared.Man.{Man}
use Rattle.szg_values.specs.declared.Man.TheVariants.{Pawn, Knight, Bishop, Rook, Queen, King}

pub man_of-letter_of : (man : Man) → man_of (letter_of man) ≡ Some man
man_of-letter_of Pawn = refl
man_of-letter_of Knight = refl
man_of-letter_of Bishop = refl
man_of-letter_of Rook = refl
man_of-letter_of Queen = refl
man_of-letter_of King = refl

is_v-letter_of : (man : Man) → is_v (letter_of man) ≡ false
is_v-letter_of Pawn = refl
is_v-letter_of Knight = refl
is_v-letter_of Bishop = refl
is_v-letter_of Rook = refl
is_v-letter_of Queen = refl
is_v-letter_of King = refl

is_name_letter-letter_of : (man : Man) → is_name_letter (letter_of man) ≡ true
is_name_letter-letter_of Pawn = refl
is_name_letter-letter_of Knight = refl
is_name_letter-letter_of Bishop = refl
is_name_letter-letter_of Rook = refl
is_name_letter-letter_of Queen = refl
is_name_letter-letter_of King = refl

before_first-here : (c : ℕ) (cs : List ℕ) → is_v c ≡ true → before_first is_v (c ∷ cs) ≡ []
before_first-here c cs e = rw e refl

before_first-later : (c : ℕ) (cs : List ℕ) → is_v c ≡ false → before_first is_v (c ∷ cs) ≡ c ∷ before_first is_v cs
before_first-later c cs e = rw (e, one-add) refl

after_first-here : (c : ℕ) (cs : List ℕ) → is_v c ≡ true → after_first is_v (c ∷ cs) ≡ cs
after_first-here c cs e = rw e refl

after_first-later : (c : ℕ) (cs : List ℕ) → is_v c ≡ false → after_first is_v (c ∷ cs) ≡ after_first is_v cs
after_first-later c cs e = simp (e, one-add, add-one)

-- a letter of a name other than v is the letter of a man
pub record IsLetter (c : ℕ) : Type 0 where
  pub man : Man
  pub stands : man_of c ≡ Some man
  pub is : letter_of man ≡ c

no_letter : (a b c d e f g : Bool) → a ≡ false → b ≡ false → c ≡ false → d ≡ false → e ≡ false → f ≡ false → g ≡ false →
    (a || (b || (c || (d || (e || (f || (g || false))))))) ≡ true → ⊥
no_letter a b c d e f g p q r s t u v h = let k = rw (p, q, r, s, t, u, v) at h in cc

letter_cases : (c : ℕ) → is_name_letter c ≡ true → is_v c ≡ false → IsLetter c
letter_cases c h v = elim (eqb_tells c 75) [
  | inl e ↦ subst (λ (x : ℕ). IsLetter x) (sym e.1) (record { man = King; stands = refl; is = refl })
  | inr k ↦ elim (eqb_tells c 81) [
    | inl e ↦ subst (λ (x : ℕ). IsLetter x) (sym e.1) (record { man = Queen; stands = refl; is = refl })
    | inr q ↦ elim (eqb_tells c 82) [
      | inl e ↦ subst (λ (x : ℕ). IsLetter x) (sym e.1) (record { man = Rook; stands = refl; is = refl })
      | inr r ↦ elim (eqb_tells c 66) [
        | inl e ↦ subst (λ (x : ℕ). IsLetter x) (sym e.1) (record { man = Bishop; stands = refl; is = refl })
        | inr b ↦ elim (eqb_tells c 78) [
          | inl e ↦ subst (λ (x : ℕ). IsLetter x) (sym e.1) (record { man = Knight; stands = refl; is = refl })
          | inr n ↦ elim (eqb_tells c 80) [
            | inl e ↦ subst (λ (x : ℕ). IsLetter x) (sym e.1) (record { man = Pawn; stands = refl; is = refl })
            | inr p ↦ absurd (no_letter (c == 75) (c == 81) (c == 82) (c == 66) (c == 78) (c == 80) (c == 118) k.0 q.0 r.0 b.0 n.0 p.0 v h)
          ]
        ]
      ]
    ]
  ]
]

pub count-cons : (c : ℕ) (cs : List ℕ) → count_by is_v (c ∷ cs) ≡ cond (is_v c) 1 0 + count_by is_v cs
count-cons c cs = sum_by-cons (λ x. cond (is_v x) 1 0) c cs

-- letters without a v are those of their men
spelled_men : (cs : List ℕ) → list_all is_name_letter cs ≡ true → count_by is_v cs ≡ 0 → map letter_of (filter_map man_of cs) ≡ cs
spelled_men [] h n = refl
spelled_men (c ∷ cs) h n = elim (cases_Bool (is_v c)) [
  | inl v ↦ absurd (let m = rw (count-cons c cs, v) at n in omega arith)
  | inr v ↦ let l = letter_cases c (and_parts (is_name_letter c) (list_all is_name_letter cs) h).0 v in
      let m : count_by is_v cs ≡ 0 = let k = rw (count-cons c cs, v) at n in omega arith in
      rw (l.stands, l.is, spelled_men cs (and_parts (is_name_letter c) (list_all is_name_letter cs) h).1 m) refl
]

-- letters with exactly one v are the name of their sides
pub spelled_name : (cs : List ℕ) → list_all is_name_letter cs ≡ true → count_by is_v cs ≡ 1 → name_of (sides_of cs) ≡ cs
spelled_name [] h n = cc
spelled_name (c ∷ cs) h n = elim (cases_Bool (is_v c)) [
  | inl v ↦ let m : count_by is_v cs ≡ 0 = let k = rw (count-cons c cs, v) at n in omega arith in
      let e : c ≡ 118 = eqb-true c 118 v in
      rw (before_first-here c cs v, after_first-here c cs v, spelled_men cs (and_parts (is_name_letter c) (list_all is_name_letter cs) h).1 m)
      (ap (λ x. x ∷ cs) (sym e))
  | inr v ↦ let l = letter_cases c (and_parts (is_name_letter c) (list_all is_name_letter cs) h).0 v in
      let m : count_by is_v cs ≡ 1 = let k = rw (count-cons c cs, v) at n in omega arith in
      rw (before_first-later c cs v, after_first-later c cs v, l.stands, l.is)
      (ap (λ x. c ∷ x) (spelled_name cs (and_parts (is_name_letter c) (list_all is_name_letter cs) h).1 m))
]

-- ---- the checks in a row

passed : (b : Bool) (e : NameFault) (rest : Result Sides NameFault) (sides : Sides) → cond (not b) (Err e) rest ≡ Ok sides → (b ≡ true) × (rest ≡ Ok sides)
passed true e rest sides h = (refl, h)
passed false e rest sides h = cc

same_ok : (a b : Sides) → ◌≡◌ {A = Result Sides NameFault} (Ok a) (Ok b) → a ≡ b
same_ok a b e = cc

abbrev checks : Bool → Sides → Result Sides NameFault
checks spelled sides =
    cond (not spelled) (Err fault.Letter)
    (cond (not (has_king_first sides.first && has_king_first sides.second)) (Err fault.King)
    (cond (not (is_in_order sides.first && is_in_order sides.second)) (Err fault.Order)
    (cond (not (may_be_first sides.first sides.second)) (Err fault.Sides)
    (cond (not (is_count (length sides.first + length sides.second))) (Err fault.Men) (Ok sides)))))

all_five : (a b c d : Bool) → a ≡ true → b ≡ true → c ≡ true → d ≡ true → (a && b && c && d) ≡ true
all_five a b c d p q r s = rw (p, q, r, s) refl

pub named : (text : List ℕ) (sides : Sides) → parsed text ≡ Ok sides → (name_of sides ≡ text) × IsMaterial sides
unfolding parsed
named text sides h =
    let s = sides_of text in
    let a = passed (is_spelled text) fault.Letter _ sides h in
    let b = passed (has_king_first s.first && has_king_first s.second) fault.King _ sides a.1 in
    let c = passed (is_in_order s.first && is_in_order s.second) fault.Order _ sides b.1 in
    let d = passed (may_be_first s.first s.second) fault.Sides _ sides c.1 in
    let e = passed (is_count (length s.first + length s.second)) fault.Men _ sides d.1 in
    let f = same_ok s sides e.1 in
    subst (λ (x : Sides). (name_of x ≡ text) × IsMaterial x) f (
      spelled_name text (and_parts (list_all is_name_letter text) (count_by is_v text == 1) a.0).0
          (eqb-true (count_by is_v text) 1 (and_parts (list_all is_name_letter text) (count_by is_v text == 1) a.0).1),
      all_five _ _ _ _ b.0 c.0 d.0 e.0,
    )

-- ---- the name of a material is accepted

pub filter_map-letters : (men : List Man) → filter_map man_of (map letter_of men) ≡ men
filter_map-letters [] = refl
filter_map-letters (man ∷ men) = rw (man_of-letter_of man, filter_map-letters men) refl

pub before-name : (men : List Man) (rest : List ℕ) → before_first is_v (map letter_of men ++ 118 ∷ rest) ≡ map letter_of men
before-name [] rest = before_first-here 118 rest refl
before-name (man ∷ men) rest = before_first-later (letter_of man) (map letter_of men ++ 118 ∷ rest) (is_v-letter_of man) ∙ ap (λ l. letter_of man ∷ l) (before-name men rest)

pub after-name : (men : List Man) (rest : List ℕ) → after_first is_v (map letter_of men ++ 118 ∷ rest) ≡ rest
after-name [] rest = after_first-here 118 rest refl
after-name (man ∷ men) rest = after_first-later (letter_of man) (map letter_of men ++ 118 ∷ rest) (is_v-letter_of man) ∙ after-name men rest

sides_of-name_of : (sides : Sides) → sides_of (name_of sides) ≡ sides
sides_of-name_of sides =
    rw (before-name sides.first (map letter_of sides.second), after-name sides.first (map letter_of sides.second), filter_map-letters sides.first, filter_map-letters sides.second) refl

letters-men : (men : List Man) → list_all is_name_letter (map letter_of men) ≡ true
letters-men [] = refl
letters-men (man ∷ men) = rw (is_name_letter-letter_of man) (letters-men men)

count-men : (men : List Man) → count_by is_v (map letter_of men) ≡ 0
count-men [] = refl
count-men (man ∷ men) = count-cons (letter_of man) (map letter_of men) ∙ rw (is_v-letter_of man, count-men men) refl

count-name : (men : List Man) (rest : List ℕ) → count_by is_v (map letter_of men ++ 118 ∷ rest) ≡ 1 + count_by is_v rest
count-name [] rest = count-cons 118 rest
count-name (man ∷ men) rest = count-cons (letter_of man) (map letter_of men ++ 118 ∷ rest) ∙ rw (is_v-letter_of man, count-name men rest, zero-add) refl

is_spelled-name_of : (sides : Sides) → is_spelled (name_of sides) ≡ true
is_spelled-name_of sides =
    rw (
      list_all-append is_name_letter (map letter_of sides.first) (118 ∷ map letter_of sides.second),
      letters-men sides.first,
      letters-men sides.second,
      count-name sides.first (map letter_of sides.second),
      count-men sides.second,
    ) refl

all_pass : (sides : Sides) → is_material sides ≡ true → checks true sides ≡ Ok sides
all_pass sides h =
    let d = (and_parts (has_king_first sides.first && has_king_first sides.second && (is_in_order sides.first && is_in_order sides.second) && may_be_first sides.first sides.second) _ h).1 in
    let x = (and_parts (has_king_first sides.first && has_king_first sides.second && (is_in_order sides.first && is_in_order sides.second) && may_be_first sides.first sides.second) _ h).0 in
    let c = (and_parts (has_king_first sides.first && has_king_first sides.second && (is_in_order sides.first && is_in_order sides.second)) _ x).1 in
    let y = (and_parts (has_king_first sides.first && has_king_first sides.second && (is_in_order sides.first && is_in_order sides.second)) _ x).0 in
    let b = (and_parts (has_king_first sides.first && has_king_first sides.second) _ y).1 in
    let a = (and_parts (has_king_first sides.first && has_king_first sides.second) _ y).0 in
    rw (a, b, c, d) refl

pub accepted : (text : List ℕ) (sides : Sides) → (name_of sides ≡ text) × IsMaterial sides → parsed text ≡ Ok sides
unfolding parsed
accepted text sides h =
    subst (λ (t : List ℕ). parsed t ≡ Ok sides) h.0
    (subst (λ (b : Bool). checks b (sides_of (name_of sides)) ≡ Ok sides) (sym (is_spelled-name_of sides))
    (subst (λ (s : Sides). checks true s ≡ Ok sides) (sym (sides_of-name_of sides)) (all_pass sides h.1)))

pub names : LawNames
names text sides = (named text sides, accepted text sides)
