-- The men after a move, of which those on one square vanish and the one on another square goes elsewhere.
use Rattle.std.proofs.Common.{◌≡◌, ◌≢◌, ℕ, List, [], ◌∷◌, length, get_or, suc, refl, sym, ap, ◌∙◌, Bool, true, false, inl, inr}
use Rattle.std.specs.Prelude.{filter, map, not, ◌==◌}
use Rattle.std.specs.List.{list_any, All, Contains}
use Rattle.std.proofs.lemmas.Bool.{cases_Bool, cases_eq, and_parts, and_from, eq-eqb, ne_eqb, eqb-true, eqb-false, not-true, not_from_false, both_ways}
use Rattle.std.proofs.lemmas.List.Elements.{All-head, All-tail, All-map, All-filter, filter_passes}
use Rattle.std.proofs.lemmas.List.Folds.{list_any_none}
use Rattle.szg_values.specs.Placement.{PlacedMan, has_distinct_squares}
use Rattle.szg_chess.specs.declared.Move.{Move}
use Rattle.szg_chess.specs.Moves.{man_after}
use Rattle.szg_chess.proofs.Members.{none_of, any_map, any_filter}

-- a man who is not on this square
abbrev pub is_off : ℕ → PlacedMan → Bool
is_off square s = not (s.2 == square)

abbrev pub moved : Move → ℕ → List PlacedMan → List PlacedMan
moved m square men = map (man_after m) (filter (is_off square) men)

pub off_is : (square : ℕ) (s : PlacedMan) → is_off square s ≡ true → s.2 ≢ square
off_is square s e = eqb-false s.2 square (not-true (s.2 == square) e)

pub off_from : (square : ℕ) (s : PlacedMan) → s.2 ≢ square → is_off square s ≡ true
off_from square s e = not_from_false (s.2 == square) (ne_eqb s.2 square e)

pub goes : (m : Move) (s : PlacedMan) → s.2 ≡ m.from → (man_after m s).2 ≡ m.to
goes m s e = rw (eq-eqb s.2 m.from e) refl

pub stays : (m : Move) (s : PlacedMan) → s.2 ≢ m.from → man_after m s ≡ s
stays m s e = rw (ne_eqb s.2 m.from e) refl

-- what holds of each man who is left holds afterwards
pub all_moved : (P : PlacedMan → Type 0) (m : Move) (square : ℕ) (men : List PlacedMan) → All (λ u. u.2 ≢ square → P (man_after m u)) men → All P (moved m square men)
all_moved P m square men all =
    let Q : PlacedMan → Type 0 = λ u. u.2 ≢ square → P (man_after m u) in
    let kept = All-filter (is_off square) Q men all in
    let off = filter_passes (is_off square) men in
    All-map P (man_after m) (filter (is_off square) men) (λ k d h. kept k d h (off_is square (get_or (filter (is_off square) men) k d) (off k d h)))

pub none_moved : (test : PlacedMan → Bool) (m : Move) (square : ℕ) (men : List PlacedMan) → All (λ u. u.2 ≢ square → test (man_after m u) ≡ false) men → list_any test (moved m square men) ≡ false
none_moved test m square men all = list_any_none test (moved m square men) (all_moved (λ u. test u ≡ false) m square men all)

pub some_moved : (test : PlacedMan → Bool) (m : Move) (square : ℕ) (men : List PlacedMan) (s : PlacedMan) → Contains men s → s.2 ≢ square → test (man_after m s) ≡ true → list_any test (moved m square men) ≡ true
some_moved test m square men s held off e =
    any_map test (man_after m) (filter (is_off square) men) ∙ any_filter (λ u. test (man_after m u)) (is_off square) men s held (off_from square s off) e

-- ---- no two men on a square

differ_after : (m : Move) (s u : PlacedMan) → s.2 ≢ u.2 → s.2 ≢ m.to → u.2 ≢ m.to → (man_after m s).2 ≢ (man_after m u).2
differ_after m s u differ off off_too = elim (cases_eq s.2 m.from) [
  | inl here ↦ elim (cases_eq u.2 m.from) [
    | inl there ↦ absurd (differ (here ∙ sym there))
    | inr there ↦ λ e. off_too (ap (λ (t : PlacedMan). t.2) (sym (stays m u there)) ∙ sym e ∙ goes m s here)
  ]
  | inr here ↦ elim (cases_eq u.2 m.from) [
    | inl there ↦ λ e. off (ap (λ (t : PlacedMan). t.2) (sym (stays m s here)) ∙ e ∙ goes m u there)
    | inr there ↦ λ e. differ (ap (λ (t : PlacedMan). t.2) (sym (stays m s here)) ∙ e ∙ ap (λ (t : PlacedMan). t.2) (stays m u there))
  ]
]

-- who is on the square that the man goes to vanishes
abbrev pub IsClear : Move → ℕ → List PlacedMan → Type 0
IsClear m square men = All (λ u. u.2 ≡ m.to → u.2 ≡ square) men

pub apart_moved : (m : Move) (square : ℕ) (men : List PlacedMan) → IsClear m square men → has_distinct_squares men ≡ true → has_distinct_squares (moved m square men) ≡ true
apart_moved m square [] clear apart = refl
apart_moved m square (s ∷ men) clear apart =
    let P : PlacedMan → Type 0 = λ u. u.2 ≡ m.to → u.2 ≡ square in
    let parts = and_parts (not (list_any (λ t. s.2 == t.2) men)) (has_distinct_squares men) apart in
    let rest = All-tail P s men clear in
    let more = apart_moved m square men rest parts.1 in
    let none = none_of (λ (t : PlacedMan). s.2 == t.2) men (not-true (list_any (λ t. s.2 == t.2) men) parts.0) in
    elim (cases_Bool (is_off square s)) [
      | inl off ↦
          let off_to : s.2 ≢ m.to = λ e. off_is square s off (All-head P s men clear e) in
          let apart_now = none_moved (λ t. (man_after m s).2 == t.2) m square men (λ k d h kept.
          let u = get_or men k d in
          ne_eqb (man_after m s).2 (man_after m u).2 (differ_after m s u (eqb-false s.2 u.2 (none k d h)) off_to (λ e. kept (rest k d h e)))) in
          rw off (and_from (not (list_any (λ t. (man_after m s).2 == t.2) (moved m square men))) (has_distinct_squares (moved m square men)) (not_from_false (list_any (λ t. (man_after m s).2 == t.2) (moved m square men)) apart_now) more)
      | inr on ↦ rw on more
    ]

-- ---- counts

-- the men who vanish fail the test, and the others keep what it says
pub count_moved : (test : PlacedMan → Bool) (m : Move) (square : ℕ) (men : List PlacedMan) → All (λ u. (u.2 ≡ square → test u ≡ false) × (test (man_after m u) ≡ test u)) men →
    length (filter test (moved m square men)) ≡ length (filter test men)
count_moved test m square [] all = refl
count_moved test m square (s ∷ men) all =
    let P : PlacedMan → Type 0 = λ u. (u.2 ≡ square → test u ≡ false) × (test (man_after m u) ≡ test u) in
    let here = All-head P s men all in
    let more = count_moved test m square men (All-tail P s men all) in
    elim (cases_Bool (is_off square s)) [
      | inl off ↦ elim (cases_Bool (test s)) [
        | inl t ↦ rw (off, here.1, t) (ap (λ (n : ℕ). suc n) more)
        | inr f ↦ rw (off, here.1, f) more
      ]
      | inr on ↦ rw (on, here.0 (on_is square s on)) more
    ]
  where
    on_is : (square : ℕ) (s : PlacedMan) → is_off square s ≡ false → s.2 ≡ square
    on_is square s e = elim (cases_Bool (s.2 == square)) [
      | inl t ↦ eqb-true s.2 square t
      | inr f ↦ absurd (both_ways (is_off square s) e (not_from_false (s.2 == square) f))
    ]
