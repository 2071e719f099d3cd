-- Men that can't be put on their squares don't stand.
use Rattle.std.proofs.Common.{◌≡◌, ◌≢◌, ◌∙◌, ◌⊎◌, inl, inr, ◌<◌, ◌≤◌, ◌+◌, ℕ, zero, suc, List, [], ◌∷◌, length, take, get_or, Bool, true, false, ap, refl, sym, arith}
use Rattle.std.specs.Prelude.{◌&&◌, ◌||◌, ◌==◌, nat_lt, not, IsTrue}
use Rattle.std.specs.List.{list_all, list_any}
use Rattle.std.proofs.lemmas.Bool.{and_parts, cases_Bool, eqb-false, ltb-true, or_left, or_right}
use Rattle.std.proofs.lemmas.List.{length-map}
use Rattle.std.proofs.lemmas.List.Folds.{list_all_at, list_any_at, list_any_more}
use Rattle.szg_values.specs.Placement.{AreStanding, PlacedMan, has_distinct_squares, is_barred, is_taken}
use Rattle.szg_chess.proofs.Enemies.{in_none}
use Rattle.szg_c_positions.specs.declared.men.RawMan.{RawMan}
use Rattle.szg_c_positions.specs.Men.{HaveFault, is_coded_man, placed_man_of}

-- a man is on the square
abbrev pub is_on : ℕ → PlacedMan → Bool
is_on q s = s.2 == q

-- a square is taken only if one of the first i men is on it
abbrev pub AreTaken : List PlacedMan → ℕ → ℕ → Type 0
AreTaken men i taken = (q : ℕ) → is_taken taken q ≡ true → list_any (is_on q) (take i men) ≡ true

pub taken_none : (men : List PlacedMan) → AreTaken men 0 0
taken_none men = λ q t. let no : is_taken 0 q ≡ false = in_none q in absurd (cc (t, no))

pub taken_more : (men : List PlacedMan) (i taken more : ℕ) (s : PlacedMan) → i < length men → s ≡ get_or men i s → AreTaken men i taken →
    ((q : ℕ) → q ≢ s.2 → is_taken more q ≡ is_taken taken q) → AreTaken men (i + 1) more
taken_more men i taken more s h is before others = λ q t.
    list_any_more (is_on q) men i s h ∙ ap (λ (x : PlacedMan). list_any (is_on q) (take i men) || is_on q x) (sym is) ∙ elim (cases_Bool (s.2 == q)) [
      | inl e ↦ or_right (list_any (is_on q) (take i men)) (s.2 == q) e
      | inr e ↦ or_left (list_any (is_on q) (take i men)) (s.2 == q) (before q (sym (others q (λ same. eqb-false s.2 q e (sym same))) ∙ t))
    ]

and_false : (b : Bool) → (b && false) ≡ false
and_false true = refl
and_false false = refl

same_square : (men : List PlacedMan) (i : ℕ) (s : PlacedMan) → i < length men → s ≡ get_or men i s → list_any (is_on s.2) (take i men) ≡ true → has_distinct_squares men ≡ false
same_square [] i s h is any = absurd (omega (arith, h))
same_square (x ∷ men) zero s h is any = absurd (cc any)
same_square (x ∷ men) (suc i) s h is any = elim (cases_Bool (x.2 == s.2)) [
  | inl e ↦
      let there : list_any (λ (t : PlacedMan). x.2 == t.2) men ≡ true = list_any_at (λ (t : PlacedMan). x.2 == t.2) men i s (omega (arith, h)) (ap (λ (t : PlacedMan). x.2 == t.2) (sym is) ∙ e) in
      rw there refl
  | inr e ↦
      let rest : list_any (is_on s.2) (take i men) ≡ true = rw e at any in
      ap (λ (b : Bool). not (list_any (λ (t : PlacedMan). x.2 == t.2) men) && b) (same_square men i s (omega (arith, h)) is rest) ∙ and_false (not (list_any (λ (t : PlacedMan). x.2 == t.2) men))
]

either : (t b : Bool) → IsTrue (t || b) → (t ≡ true) ⊎ (b ≡ true)
either true b h = inl refl
either false true h = inr refl
either false false h = absurd cc

pub no_room : (men : List PlacedMan) (i taken : ℕ) (s : PlacedMan) → i < length men → s ≡ get_or men i s → AreTaken men i taken → IsTrue (is_taken taken s.2 || is_barred s.0 s.2) → ¬ AreStanding men
no_room men i taken s h is before closed = λ standing. elim (either (is_taken taken s.2) (is_barred s.0 s.2) closed) [
  | inl t ↦ let no = same_square men i s h is (before s.2 t) in let yes = standing.apart in cc (yes, no)
  | inr b ↦
      let no = list_all_at (λ (t : PlacedMan). not (is_barred t.0 t.2)) men i s h (ap (λ (t : PlacedMan). not (is_barred t.0 t.2)) (sym is) ∙ ap not b) in
      let yes = standing.inside in cc (yes, no)
]

-- ---- men as C passes them

pub uncoded : (men : List RawMan) (i : ℕ) (d : RawMan) → i < length men → (is_coded_man (get_or men i d) ≡ true → ⊥) → list_all is_coded_man men ≡ true → ⊥
uncoded men i d h wrong all = elim (cases_Bool (is_coded_man (get_or men i d))) [
  | inl t ↦ wrong t
  | inr f ↦ let none = list_all_at is_coded_man men i d h f in cc (all, none)
]

pub no_side : (men : List RawMan) (mover : ℕ) → 2 ≤ mover → HaveFault men mover
no_side men mover h = λ stated standing. let low = ltb-true mover 2 (and_parts (nat_lt mover 2) (list_all is_coded_man men) stated).0 in omega (arith, h, low)

pub too_many : (men : List RawMan) (mover : ℕ) → 6 < length men → HaveFault men mover
too_many men mover h = λ stated standing. let few = standing.few in let long = length-map men placed_man_of in omega (arith, h, few, long)
