-- The single pass over men: it finds that they are on different squares, by the squares taken so far.
use Rattle.std.proofs.Common.{◌≡◌, ◌≢◌, ℕ, ◌+◌, ◌<◌, List, [], ◌∷◌, length, get_or, take, drop, drop-cons, ◌≤◌, suc, refl, sym, ap, ◌∙◌, inl, inr, Bool, true, false, arith}
use Rattle.std.specs.Prelude.{not, ◌==◌, ◌||◌, count_by, None}
use Rattle.std.specs.List.{list_all, list_any}
use Rattle.std.proofs.lemmas.Bool.{cases_Bool, and_from, and_parts, eqb-true, eq-eqb}
use Rattle.std.proofs.lemmas.List.Sums.{count_by_more_yes, count_by_more_no}
use mir.Val.{bool_byte}
use Rattle.szg_values.specs.Material.{is_count}
use Rattle.szg_values.specs.Placement.{PlacedMan, has_distinct_squares, is_taken, has_pawns_on_inner_ranks, number_of, placement_fault}
use Rattle.szg_values.specs.declared.Man.TheVariants.{King}
use Rattle.szg_values.specs.declared.Color.TheVariants.{White, Black}

-- none of these men is on a square that is taken
abbrev pub are_free : ℕ → List PlacedMan → Bool
are_free taken men = list_all (λ t. not (is_taken taken t.2)) men

not_true : (b : Bool) → b ≡ false → not b ≡ true
not_true true e = cc
not_true false e = refl

not_false : (b : Bool) → not b ≡ true → b ≡ false
not_false true e = cc
not_false false e = refl

-- If the later men are on free squares after this man's square is taken, then none of them is on his square, and
-- all are on squares that were free before.
pub free_more : (taken more : ℕ) (s : PlacedMan) (rest : List PlacedMan) → is_taken more s.2 ≡ true → ((other : ℕ) → other ≢ s.2 → is_taken more other ≡ is_taken taken other) →
    are_free more rest ≡ true → (are_free taken rest ≡ true) × (list_any (λ t. s.2 == t.2) rest ≡ false)
free_more taken more s [] here others free = (refl, refl)
free_more taken more s (t ∷ rest) here others free =
    let parts = and_parts (not (is_taken more t.2)) (are_free more rest) free in
    let clear : is_taken more t.2 ≡ false = not_false (is_taken more t.2) parts.0 in
    let behind = free_more taken more s rest here others parts.1 in
    elim (cases_Bool (s.2 == t.2)) [
      | inl same ↦ absurd (clash (is_taken more s.2) here (ap (λ n. is_taken more n) (eqb-true s.2 t.2 same) ∙ clear))
      | inr differs ↦
          let apart : t.2 ≢ s.2 = λ e. clash (s.2 == t.2) (same_square s.2 t.2 (sym e)) differs in (
            and_from (not (is_taken taken t.2)) (are_free taken rest) (not_true (is_taken taken t.2) (sym (others t.2 apart) ∙ clear)) behind.0,
            none (s.2 == t.2) (list_any (λ u. s.2 == u.2) rest) differs behind.1,
          )
    ]
  where
    clash : (b : Bool) → b ≡ true → b ≡ false → ⊥
    clash true e f = cc
    clash false e f = cc

    same_square : (a b : ℕ) → a ≡ b → (a == b) ≡ true
    same_square a b e = eq-eqb a b e

    none : (a b : Bool) → a ≡ false → b ≡ false → (a || b) ≡ false
    none true b e f = cc
    none false b e f = f

-- a man on a free square is on another square than the men after him, if those are on free squares once his is
-- taken
pub apart_more : (taken more square : ℕ) (men : List PlacedMan) (i : ℕ) (s : PlacedMan) → i < length men → s ≡ get_or men i s → square ≡ s.2 →
    is_taken taken square ≡ false → is_taken more square ≡ true → ((other : ℕ) → other ≢ square → is_taken more other ≡ is_taken taken other) →
    are_free more (drop (i + 1) men) ≡ true → has_distinct_squares (drop (i + 1) men) ≡ true → (are_free taken (drop i men) ≡ true) × (has_distinct_squares (drop i men) ≡ true)
apart_more taken more square men i s h e same clear here others free apart =
    let one : i + 1 ≡ suc i = omega arith in
    let split : drop i men ≡ s ∷ drop (i + 1) men = drop-cons men i s h ∙ ap (λ (t : PlacedMan). t ∷ drop (suc i) men) (sym e) ∙ ap (λ (k : ℕ). s ∷ drop k men) (sym one) in
    let behind = free_more taken more s (drop (i + 1) men) (ap (is_taken more) (sym same) ∙ here) (λ other differs. others other (λ f. differs (f ∙ same))) free in (
      ap (are_free taken) split ∙ and_from (not (is_taken taken s.2)) (are_free taken (drop (i + 1) men)) (not_true (is_taken taken s.2) (ap (is_taken taken) (sym same) ∙ clear)) behind.0,
      ap has_distinct_squares split ∙ and_from (not (list_any (λ t. s.2 == t.2) (drop (i + 1) men))) (has_distinct_squares (drop (i + 1) men)) (not_true (list_any (λ t. s.2 == t.2) (drop (i + 1) men)) behind.1) apart,
    )

-- one more man is counted if he passes the test
pub count_more : (test : PlacedMan → Bool) (men : List PlacedMan) (i : ℕ) (s : PlacedMan) → i < length men → s ≡ get_or men i s →
    count_by test (take (i + 1) men) ≡ count_by test (take i men) + bool_byte (test s)
count_more test men i s h e = elim (cases_Bool (test s)) [
  | inl t ↦ rw t (count_by_more_yes test men i s h (ap test (sym e) ∙ t))
  | inr f ↦ rw f (omega (arith, count_by_more_no test men i s h (ap test (sym e) ∙ f)))
]

-- men that pass each check have no fault
pub no_fault_found : (men : List PlacedMan) → is_count (length men) ≡ true → number_of King White men ≡ 1 → number_of King Black men ≡ 1 → has_distinct_squares men ≡ true → has_pawns_on_inner_ranks men ≡ true →
    placement_fault men ≡ None
unfolding placement_fault
no_fault_found men count white black apart inside =
    rw (count, white, black, apart, inside) refl

pub bit_small : (b : Bool) → bool_byte b ≤ 1
bit_small true = omega arith
bit_small false = omega arith
