-- A man attacks a square if it reaches it on an empty board, and no man is between.
use Rattle.std.proofs.Common.{◌≡◌, ℕ, ◌+◌, ◌<◌, ◌≤◌, List, [], refl, sym, ap, ◌∙◌, Bool, true, false, arith, inl, inr, ◌⊎◌}
use Rattle.std.specs.Prelude.{not, ◌&&◌, ◌||◌, ◌==◌, nat_lt, nat_le, min}
use Rattle.std.specs.List.{All, list_any, Contains}
use Rattle.std.specs.Int.{bit_at}
use Rattle.std.specs.Int.Bits.{bit_and}
use Rattle.std.proofs.lemmas.Bool.{cases_Bool, and_parts, and_right, or_cases, eq-eqb, ne_eqb, eqb-true, leb-true, ltb-true, ltb-false, both_ways, false_from_ne_true}
use Rattle.std.proofs.lemmas.List.Elements.{All-contains}
use Rattle.std.proofs.lemmas.Nat.Bits.{bit_at_and, bit_at-zero, bit_at_above, same_from_bits}
use Rattle.szg_values.specs.Men.{is_man, file_of, rank_of}
use Rattle.szg_values.specs.Placement.{PlacedMan, AreOnBoard}
use Rattle.szg_values.specs.declared.Man.TheVariants.{Pawn, Knight, Bishop, Rook, Queen, King}
use Rattle.szg_values.specs.declared.Color.{Color}
use Rattle.szg_values.specs.declared.Color.TheVariants.{White, Black}
use Rattle.szg_chess.specs.Attacks.{distance, files_apart, ranks_apart, is_straight, is_diagonal, is_amid, is_between, is_ahead, is_occupied, is_clear, is_king_step, is_knight_jump, is_pawn_attack, attacks}
use Rattle.szg_chess.specs.Moves.{may_enter}
use Rattle.szg_chess.specs.Squares.{is_in, reach_of, squares_of, squares_between, attacks_past}
use Rattle.szg_chess.proofs.Members.{any_of, some_of, none_of}
use Rattle.szg_chess.proofs.Sets.{set_small, in_set, in_bit, no_bit}

-- ---- no square is between two near ones

amid_far : (a b m : ℕ) → is_amid a b m ≡ true → 2 ≤ distance a b
amid_far a b m e = elim (or_cases (nat_lt a m && nat_lt m b) (nat_lt b m && nat_lt m a) e) [
  | inl up ↦ let parts = and_parts (nat_lt a m) (nat_lt m b) up in let x = ltb-true a m parts.0 in let y = ltb-true m b parts.1 in omega (arith, x, y)
  | inr down ↦ let parts = and_parts (nat_lt b m) (nat_lt m a) down in let x = ltb-true b m parts.0 in let y = ltb-true m a parts.1 in omega (arith, x, y)
]

equal_from : (a b m : ℕ) → (distance a m == 0) ≡ true → (distance m b == 0) ≡ true → distance a b ≡ 0
equal_from a b m e f = let x = eqb-true (distance a m) 0 e in let y = eqb-true (distance m b) 0 f in omega (arith, x, y)

-- squares with one between are on a line, and two or more apart
IsFar : ℕ → ℕ → Type 0
IsFar a b = ((files_apart a b ≡ 0) × (2 ≤ ranks_apart a b)) ⊎ (((ranks_apart a b ≡ 0) × (2 ≤ files_apart a b)) ⊎ ((2 ≤ files_apart a b) × (2 ≤ ranks_apart a b)))

far : (a b m : ℕ) → is_between a b m ≡ true → IsFar a b
unfolding is_between IsFar
far a b m e =
    let file = files_apart a m == 0 && files_apart m b == 0 && is_amid (rank_of a) (rank_of b) (rank_of m) in
    let rank = ranks_apart a m == 0 && ranks_apart m b == 0 && is_amid (file_of a) (file_of b) (file_of m) in
    let diagonal = is_diagonal a m && is_diagonal m b && is_amid (file_of a) (file_of b) (file_of m) && is_amid (rank_of a) (rank_of b) (rank_of m) in
    elim (or_cases (file || rank) diagonal e) [
      | inl line ↦ elim (or_cases file rank line) [
        | inl h ↦
            let parts = and_parts (files_apart a m == 0 && files_apart m b == 0) (is_amid (rank_of a) (rank_of b) (rank_of m)) h in
            let both = and_parts (files_apart a m == 0) (files_apart m b == 0) parts.0 in
            inl (equal_from (file_of a) (file_of b) (file_of m) both.0 both.1, amid_far (rank_of a) (rank_of b) (rank_of m) parts.1)
        | inr h ↦
            let parts = and_parts (ranks_apart a m == 0 && ranks_apart m b == 0) (is_amid (file_of a) (file_of b) (file_of m)) h in
            let both = and_parts (ranks_apart a m == 0) (ranks_apart m b == 0) parts.0 in
            inr (inl (equal_from (rank_of a) (rank_of b) (rank_of m) both.0 both.1, amid_far (file_of a) (file_of b) (file_of m) parts.1))
      ]
      | inr h ↦
          let parts = and_parts (is_diagonal a m && is_diagonal m b && is_amid (file_of a) (file_of b) (file_of m)) (is_amid (rank_of a) (rank_of b) (rank_of m)) h in
          let more = and_parts (is_diagonal a m && is_diagonal m b) (is_amid (file_of a) (file_of b) (file_of m)) parts.0 in
          inr (inr (amid_far (file_of a) (file_of b) (file_of m) more.1, amid_far (rank_of a) (rank_of b) (rank_of m) parts.1))
    ]

none_between : (men : List PlacedMan) (a b : ℕ) → ((m : ℕ) → is_between a b m ≡ false) → is_clear men a b ≡ true
none_between men a b none = ap not (false_from_ne_true (list_any (λ s. is_between a b s.2) men) (λ e. let found = some_of (λ (s : PlacedMan). is_between a b s.2) men e in both_ways (is_between a b found.0.2) (none found.0.2) found.1.1))

near : (a b : ℕ) → files_apart a b ≤ 1 → ranks_apart a b ≤ 1 → (m : ℕ) → is_between a b m ≡ false
unfolding IsFar
near a b f r m = false_from_ne_true (is_between a b m) (λ e. elim (far a b m e) [
  | inl h ↦ let x = h.1 in omega (arith, x, r)
  | inr more ↦ elim more [
    | inl h ↦ let x = h.1 in omega (arith, x, f)
    | inr h ↦ let x = h.0 in omega (arith, x, f)
  ]
])

jump_parts : (a b : ℕ) → is_knight_jump a b ≡ true → (m : ℕ) → is_between a b m ≡ false
unfolding IsFar
jump_parts a b e m = false_from_ne_true (is_between a b m) (λ t. elim (or_cases (files_apart a b == 1 && ranks_apart a b == 2) (files_apart a b == 2 && ranks_apart a b == 1) e) [
  | inl h ↦ let parts = and_parts (files_apart a b == 1) (ranks_apart a b == 2) h in let f = eqb-true (files_apart a b) 1 parts.0 in let r = eqb-true (ranks_apart a b) 2 parts.1 in apart (files_apart a b) (ranks_apart a b) f r (far a b m t)
  | inr h ↦ let parts = and_parts (files_apart a b == 2) (ranks_apart a b == 1) h in let f = eqb-true (files_apart a b) 2 parts.0 in let r = eqb-true (ranks_apart a b) 1 parts.1 in beside (files_apart a b) (ranks_apart a b) f r (far a b m t)
])
  where
    apart : (f r : ℕ) → f ≡ 1 → r ≡ 2 → ((f ≡ 0) × (2 ≤ r)) ⊎ (((r ≡ 0) × (2 ≤ f)) ⊎ ((2 ≤ f) × (2 ≤ r))) → ⊥
    apart f r e h (inl x) = let a = x.0 in omega (arith, a, e)
    apart f r e h (inr (inl x)) = let a = x.1 in omega (arith, a, e)
    apart f r e h (inr (inr x)) = let a = x.0 in omega (arith, a, e)

    beside : (f r : ℕ) → f ≡ 2 → r ≡ 1 → ((f ≡ 0) × (2 ≤ r)) ⊎ (((r ≡ 0) × (2 ≤ f)) ⊎ ((2 ≤ f) × (2 ≤ r))) → ⊥
    beside f r e h (inl x) = let a = x.0 in omega (arith, a, e)
    beside f r e h (inr (inl x)) = let a = x.0 in omega (arith, a, h)
    beside f r e h (inr (inr x)) = let a = x.1 in omega (arith, a, h)

step_near : (a b : ℕ) → is_king_step a b ≡ true → (m : ℕ) → is_between a b m ≡ false
step_near a b e =
    let parts = and_parts (not (a == b) && nat_le (files_apart a b) 1) (nat_le (ranks_apart a b) 1) e in
    let more = and_parts (not (a == b)) (nat_le (files_apart a b) 1) parts.0 in
    near a b (leb-true (files_apart a b) 1 more.1) (leb-true (ranks_apart a b) 1 parts.1)

ahead_near : (color : Color) (a b : ℕ) → is_ahead color a b ≡ true → ranks_apart a b ≤ 1
ahead_near White a b e = let x = eqb-true (rank_of b) (rank_of a + 1) e in omega (arith, x)
ahead_near Black a b e = let x = eqb-true (rank_of a) (rank_of b + 1) e in omega (arith, x)

pawn_near : (color : Color) (a b : ℕ) → is_pawn_attack color a b ≡ true → (m : ℕ) → is_between a b m ≡ false
pawn_near color a b e =
    let parts = and_parts (is_ahead color a b) (files_apart a b == 1) e in
    let f = eqb-true (files_apart a b) 1 parts.1 in
    near a b (omega (arith, f)) (ahead_near color a b parts.0)

-- ---- on an empty board, and between

with_clear : (b c : Bool) → (b ≡ true → c ≡ true) → b ≡ (b && c)
with_clear true c h = sym (h refl)
with_clear false c h = refl

empty_clear : (b c : Bool) → (b && c) ≡ ((b && true) && c)
empty_clear true c = refl
empty_clear false c = refl

pub reach_split : (men : List PlacedMan) (s : PlacedMan) (to : ℕ) → attacks men s to ≡ (attacks [] s to && is_clear men s.2 to)
unfolding attacks
reach_split men (Pawn, color, from) to = with_clear (is_pawn_attack color from to) (is_clear men from to) (λ e. none_between men from to (pawn_near color from to e))
reach_split men (Knight, color, from) to = with_clear (is_knight_jump from to) (is_clear men from to) (λ e. none_between men from to (jump_parts from to e))
reach_split men (Bishop, color, from) to = empty_clear (is_diagonal from to) (is_clear men from to)
reach_split men (Rook, color, from) to = empty_clear (is_straight from to) (is_clear men from to)
reach_split men (Queen, color, from) to = empty_clear (is_straight from to || is_diagonal from to) (is_clear men from to)
reach_split men (King, color, from) to = with_clear (is_king_step from to) (is_clear men from to) (λ e. none_between men from to (step_near from to e))

-- ---- no man is between, by sets

is_there : (men : List PlacedMan) (s : PlacedMan) → Contains men s → is_occupied men s.2 ≡ true
is_there men s held = any_of (λ (t : PlacedMan). t.2 == s.2) men s held (eq-eqb s.2 s.2 refl)

all_zero : (men : List PlacedMan) (a b : ℕ) → All (λ (s : PlacedMan). is_between a b s.2 ≡ false) men → (i : ℕ) → min (bit_at (squares_between a b) i) (bit_at (squares_of men) i) ≡ 0
all_zero men a b none i = elim (cases_Bool (nat_lt i 64)) [
  | inl t ↦
      let h = ltb-true i 64 t in
      elim (cases_Bool (is_occupied men i)) [
        | inl there ↦
            let found = some_of (λ (s : PlacedMan). s.2 == i) men there in
            let clear : is_between a b i ≡ false = ap (is_between a b) (sym (eqb-true found.0.2 i found.1.1)) ∙ All-contains (λ (s : PlacedMan). is_between a b s.2 ≡ false) men found.0 none found.1.0 in
            let off = no_bit (squares_between a b) i (in_set (is_between a b) i h ∙ clear) in omega (arith, off)
        | inr empty ↦ let off = no_bit (squares_of men) i (in_set (is_occupied men) i h ∙ empty) in omega (arith, off)
      ]
  | inr f ↦ let above = bit_at_above (squares_between a b) 64 i (set_small (is_between a b) 64) (ltb-false i 64 f) in omega (arith, above)
]

clear_set : (men : List PlacedMan) → AreOnBoard men → (a b : ℕ) → (bit_and (squares_between a b) (squares_of men) == 0) ≡ is_clear men a b
clear_set men on_board a b = elim (cases_Bool (list_any (λ s. is_between a b s.2) men)) [
  | inl t ↦
      let found = some_of (λ (s : PlacedMan). is_between a b s.2) men t in
      let q = found.0.2 in
      let inside : q < 64 = All-contains (λ (s : PlacedMan). s.2 < 64) men found.0 on_board found.1.0 in
      let one = in_bit (squares_between a b) q (in_set (is_between a b) q inside ∙ found.1.1) in
      let two = in_bit (squares_of men) q (in_set (is_occupied men) q inside ∙ is_there men found.0 found.1.0) in
      let both = bit_at_and (squares_between a b) (squares_of men) q in
      rw t (ne_eqb (bit_and (squares_between a b) (squares_of men)) 0 (λ e. let zero_bit = ap (λ (k : ℕ). bit_at k q) e ∙ bit_at-zero q in omega (arith, both, one, two, zero_bit)))
  | inr f ↦
      let none = none_of (λ (s : PlacedMan). is_between a b s.2) men f in
      rw f (eq-eqb (bit_and (squares_between a b) (squares_of men)) 0 (same_from_bits (bit_and (squares_between a b) (squares_of men)) 0 (λ i. bit_at_and (squares_between a b) (squares_of men) i ∙ all_zero men a b none i ∙ sym (bit_at-zero i))))
]

-- an attack by sets is an attack
pub attacks_by_sets : (men : List PlacedMan) → AreOnBoard men → (s : PlacedMan) (to : ℕ) → to < 64 → attacks_past (squares_of men) s to ≡ attacks men s to
unfolding attacks_past
attacks_by_sets men on_board s to h =
    ap (λ (b : Bool). b && bit_and (squares_between s.2 to) (squares_of men) == 0) (in_set (attacks [] s) to h)
    ∙ ap (λ (b : Bool). attacks [] s to && b) (clear_set men on_board s.2 to) ∙ sym (reach_split men s to)

-- a piece enters no square that it does not attack on an empty board
pub unreached : (s : PlacedMan) (to : ℕ) → to < 64 → is_man Pawn s.0 ≡ false → is_in (reach_of s) to ≡ false → (men : List PlacedMan) → may_enter men s to ≡ false
unfolding may_enter
unreached s to inside piece none men =
    let far : attacks [] s to ≡ false = sym (in_set (attacks [] s) to inside) ∙ none in
    rw piece (ap (λ (b : Bool). not (is_occupied men to) && b) (reach_split men s to ∙ ap (λ (b : Bool). b && is_clear men s.2 to) far) ∙ and_right (not (is_occupied men to)) false refl)

-- a pawn enters no square of another file
pub off_file : (s : PlacedMan) (to : ℕ) → is_man Pawn s.0 ≡ true → (file_of to == file_of s.2) ≡ false → (men : List PlacedMan) → may_enter men s to ≡ false
unfolding may_enter
off_file s to pawn none men =
    let apart : (files_apart s.2 to == 0) ≡ false = ne_eqb (files_apart s.2 to) 0 (λ e. both_ways (file_of to == file_of s.2) none (eq-eqb (file_of to) (file_of s.2) (omega (arith, e)))) in
    rw (pawn, apart) (and_right (not (is_occupied men to)) false refl)
