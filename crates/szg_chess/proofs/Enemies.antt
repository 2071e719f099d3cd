-- The squares of a colour's men that men of the other one reach, as a set.
use Rattle.std.proofs.Common.{◌≡◌, ℕ, ◌+◌, ◌*◌, ◌%◌, ◌^◌, ◌<◌, ◌≤◌, List, [], ◌∷◌, length, take, get_or, zero, suc, refl, sym, ap, ◌∙◌, Bool, true, false, arith, inl, inr}
use Rattle.std.specs.Prelude.{not, ◌&&◌, ◌||◌, ◌==◌, ◌++◌, nat_lt, min, max, filter, flat_map, is_some, Option, Some, None}
use Rattle.std.specs.List.{list_any, Contains}
use Rattle.std.specs.Int.{bit_at, from_bool}
use Rattle.std.specs.Int.Bits.{bit_and, bit_or}
use Rattle.std.proofs.lemmas.Bool.{cases_Bool, and_parts, and_from, or_parts, both_ways, eq-eqb, eqb-true, ltb-true, ltb-false}
use Rattle.std.proofs.lemmas.List.Elements.{All-contains}
use Rattle.std.proofs.lemmas.List.Folds.{list_any_more}
use Rattle.std.proofs.lemmas.Nat.Bits.{bit_at-zero, bit_at_and, bit_at_or, bit_at-lt}
use Rattle.szg_values.specs.Men.{is_color, other_color}
use Rattle.szg_values.specs.declared.Color.{Color}
use Rattle.szg_values.specs.declared.Color.TheVariants.{White, Black}
use Rattle.szg_values.specs.Placement.{PlacedMan, AreOnBoard}
use Rattle.szg_chess.specs.Attacks.{attacks, is_clear}
use Rattle.szg_chess.specs.declared.Move.{Move}
use Rattle.szg_chess.specs.Position.{Position}
use Rattle.szg_chess.specs.Moves.{men_of, moves_if, is_legal, captures_of, en_passant_moves, legal_captures, may_capture}
use Rattle.szg_chess.specs.Squares.{is_in, reach_of, reached_of}
use Rattle.szg_chess.proofs.Members.{any_of, some_of}
use Rattle.szg_chess.proofs.Reach.{reach_split}
use Rattle.szg_chess.proofs.Sets.{added, in_set, same_bool, turned}

-- a man of the colour is on the square
abbrev pub stands : Color → ℕ → PlacedMan → Bool
stands color q s = is_color color s.1 && s.2 == q

-- a man of the colour would attack the square on an empty board
abbrev pub reaches : Color → ℕ → PlacedMan → Bool
reaches color q s = is_color color s.1 && attacks [] s q

max_either : (x y : ℕ) → x < 2 → y < 2 → (max x y == 1) ≡ (x == 1 || y == 1)
max_either zero zero h k = refl
max_either zero (suc zero) h k = refl
max_either zero (suc (suc y)) h k = absurd (omega (arith, k))
max_either (suc zero) zero h k = refl
max_either (suc zero) (suc zero) h k = refl
max_either (suc zero) (suc (suc y)) h k = absurd (omega (arith, k))
max_either (suc (suc x)) y h k = absurd (omega (arith, h))

in_either : (a b q : ℕ) → is_in (bit_or a b) q ≡ (is_in a q || is_in b q)
in_either a b q = ap (λ (k : ℕ). k == 1) (bit_at_or a b q) ∙ max_either (bit_at a q) (bit_at b q) (bit_at-lt a q) (bit_at-lt b q)

pub in_none : (q : ℕ) → is_in 0 q ≡ false
in_none q = ap (λ (n : ℕ). n == 1) (bit_at-zero q)

-- the set of one square
in_one : (n q : ℕ) → n < 64 → is_in (1 * 2 ^ n % 2 ^ 64) q ≡ (q == n)
in_one n q h =
    let one = 1 * 2 ^ n % 2 ^ 64 in
    sym (in_either 0 one q ∙ ap (λ (b : Bool). b || is_in one q) (in_none q)) ∙ added 0 n q h ∙ ap (λ (b : Bool). b || q == n) (in_none q)

-- the set of one square, or of none
pub in_one_if : (b : Bool) (n q : ℕ) → n < 64 → is_in (from_bool b * 2 ^ n % 2 ^ 64) q ≡ (b && n == q)
in_one_if true n q h = in_one n q h ∙ turned q n
in_one_if false n q h = let e : 0 * 2 ^ n % 2 ^ 64 ≡ 0 = omega arith in ap (λ (k : ℕ). is_in k q) e ∙ in_none q

-- ---- a set, man by man

pub with_set : (test : PlacedMan → Bool) (men : List PlacedMan) (i : ℕ) (s : PlacedMan) (squares set q : ℕ) → i < length men → s ≡ get_or men i s → is_in set q ≡ test s →
    is_in squares q ≡ list_any test (take i men) → is_in (bit_or squares set) q ≡ list_any test (take (i + 1) men)
with_set test men i s squares set q h is same before =
    in_either squares set q
    ∙ ap (λ (b : Bool). b || is_in set q) before
    ∙ ap (λ (b : Bool). list_any test (take i men) || b) (same ∙ ap test is)
    ∙ sym (list_any_more test men i s h)

-- ---- colours

pub is_other : (a b : Color) → is_color (other_color a) b ≡ not (is_color a b)
is_other White White = refl
is_other White Black = refl
is_other Black White = refl
is_other Black Black = refl

pub back_again : (color : Color) → other_color (other_color color) ≡ color
back_again White = refl
back_again Black = refl

-- ---- two sets

min_both : (x y : ℕ) → x < 2 → y < 2 → (min x y == 1) ≡ (x == 1 && y == 1)
min_both zero zero h k = refl
min_both zero (suc zero) h k = refl
min_both zero (suc (suc y)) h k = absurd (omega (arith, k))
min_both (suc zero) zero h k = refl
min_both (suc zero) (suc zero) h k = refl
min_both (suc zero) (suc (suc y)) h k = absurd (omega (arith, k))
min_both (suc (suc x)) y h k = absurd (omega (arith, h))

in_both : (a b q : ℕ) → is_in (bit_and a b) q ≡ (is_in a q && is_in b q)
in_both a b q = ap (λ (k : ℕ). k == 1) (bit_at_and a b q) ∙ min_both (bit_at a q) (bit_at b q) (bit_at-lt a q) (bit_at-lt b q)

pub in_two : (a b q : ℕ) (s t : Bool) → is_in a q ≡ s → is_in b q ≡ t → is_in (bit_and a b) q ≡ (s && t)
in_two a b q s t one two = in_both a b q ∙ ap (λ (x : Bool). x && is_in b q) one ∙ ap (λ (y : Bool). s && y) two

-- the squares that are reached
pub in_reached : (color : Color) (men : List PlacedMan) (reached q : ℕ) → reached ≡ reached_of men color → q < 64 → is_in reached q ≡ (list_any (reaches color q) men && list_any (stands (other_color color) q) men)
in_reached color men reached q same h = ap (λ (n : ℕ). is_in n q) same ∙ in_set (λ (square : ℕ). list_any (reaches color square) men && list_any (stands (other_color color) square) men) q h

-- a set has a first square exactly if it has one
first_some : (set first : ℕ) (b : Bool) → (first < 64 → is_in set first ≡ true) → ((q : ℕ) → 0 ≤ q → q < first → is_in set q ≡ false) →
    ((q : ℕ) → q < 64 → is_in set q ≡ true → b ≡ true) → (b ≡ true → (q : ℕ) × (q < 64) × (is_in set q ≡ true)) → nat_lt first 64 ≡ b
first_some set first b found none there back = same_bool (nat_lt first 64) b (λ e. let inside = ltb-true first 64 e in there first inside (found inside)) (λ e.
    let one = back e in let inside = one.1 in
    elim (cases_Bool (nat_lt first 64)) [
      | inl t ↦ t
      | inr f ↦ let far = ltb-false first 64 f in absurd (both_ways (is_in set one.0) (none one.0 (omega arith) (omega (arith, inside, far))) one.2)
    ])

-- a man of the other colour that the man would attack on an empty board
abbrev pub is_hit : Color → PlacedMan → PlacedMan → Bool
is_hit other s t = is_color other t.1 && attacks [] s t.2

-- if a man attacks a square on an empty board, an enemy that is on it is hit
hits : (other : Color) (men : List PlacedMan) (s : PlacedMan) (q : ℕ) → attacks [] s q ≡ true → list_any (stands other q) men ≡ true → list_any (is_hit other s) men ≡ true
hits other men s q attacked e =
    let enemy = some_of (stands other q) men e in
    let parts = and_parts (is_color other enemy.0.1) (enemy.0.2 == q) enemy.1.1 in
    any_of (is_hit other s) men enemy.0 enemy.1.0 (and_from (is_color other enemy.0.1) (attacks [] s enemy.0.2) parts.0 (ap (attacks [] s) (eqb-true enemy.0.2 q parts.1) ∙ attacked))

-- a hit of a man of the colour is on a square that is reached
hit_at : (color : Color) (men : List PlacedMan) (reached : ℕ) (s : PlacedMan) → AreOnBoard men → reached ≡ reached_of men color → Contains men s → is_color color s.1 ≡ true →
    list_any (is_hit (other_color color) s) men ≡ true → (q : ℕ) × (q < 64) × (attacks [] s q ≡ true) × (is_in reached q ≡ true)
hit_at color men reached s on_board same standing own e =
    let other = other_color color in
    let enemy = some_of (is_hit other s) men e in
    let q = enemy.0.2 in
    let inside : q < 64 = All-contains (λ (t : PlacedMan). t.2 < 64) men enemy.0 on_board enemy.1.0 in
    let parts = and_parts (is_color other enemy.0.1) (attacks [] s q) enemy.1.1 in
    let one = any_of (reaches color q) men s standing (and_from (is_color color s.1) (attacks [] s q) own parts.1) in
    let two = any_of (stands other q) men enemy.0 enemy.1.0 (and_from (is_color other enemy.0.1) (q == q) parts.0 (eq-eqb q q refl)) in
    (q, inside, parts.1, in_reached color men reached q same inside ∙ and_from (list_any (reaches color q) men) (list_any (stands other q) men) one two)

-- the first square that is reached and that the man would attack on an empty board, if any, has an enemy on it
pub first_reached : (color : Color) (men : List PlacedMan) (s : PlacedMan) (a reached first : ℕ) → AreOnBoard men → Contains men s → is_color color s.1 ≡ true → a ≡ reach_of s → reached ≡ reached_of men color →
    (first < 64 → is_in (bit_and a reached) first ≡ true) → ((q : ℕ) → 0 ≤ q → q < first → is_in (bit_and a reached) q ≡ false) → nat_lt first 64 ≡ list_any (is_hit (other_color color) s) men
first_reached color men s a reached first on_board standing own reach same found none = first_some (bit_and a reached) first (list_any (is_hit other s) men) found none
    (λ q inside e.
    let both = and_parts (is_in a q) (is_in reached q) (sym (in_both a reached q) ∙ e) in
    hits other men s q (sym (in_a q inside) ∙ both.0) (and_parts (list_any (reaches color q) men) (list_any (stands other q) men) (sym (in_reached color men reached q same inside) ∙ both.1)).1)
    (λ e.
    let hit = hit_at color men reached s on_board same standing own e in
    (hit.0, hit.1, in_both a reached hit.0 ∙ and_from (is_in a hit.0) (is_in reached hit.0) (in_a hit.0 hit.1 ∙ hit.2) hit.3))
  where
    other : Color
    other = other_color color

    in_a : (q : ℕ) → q < 64 → is_in a q ≡ attacks [] s q
    in_a q inside = ap (λ (n : ℕ). is_in n q) reach ∙ in_set (attacks [] s) q inside

-- ---- captures

flat_none : {X A : Type 0} (own test : X → Bool) (f : X → List A) (xs : List X) → list_any (λ x. own x && test x) xs ≡ false → ((x : X) → test x ≡ false → f x ≡ []) → flat_map f (filter own xs) ≡ []
flat_none own test f [] e none = refl
flat_none own test f (x ∷ xs) e none =
    let parts = or_parts (own x && test x) (list_any (λ y. own y && test y) xs) e in
    elim (cases_Bool (own x)) [
      | inl t ↦ let no : test x ≡ false = rw t at parts.0 in rw (t, none x no) (flat_none own test f xs parts.1 none)
      | inr f' ↦ rw f' (flat_none own test f xs parts.1 none)
    ]

-- a man that reaches no man of the colour has no capture of one
pub none_captured : (color : Color) (men : List PlacedMan) (s : PlacedMan) → list_any (λ t. is_color color t.1 && attacks [] s t.2) men ≡ false → flat_map (λ t. moves_if (attacks men s t.2) s t.2) (men_of color men) ≡ []
none_captured color men s e =
    flat_none (λ (t : PlacedMan). is_color color t.1) (λ (t : PlacedMan). attacks [] s t.2) (λ (t : PlacedMan). moves_if (attacks men s t.2) s t.2) men e
    (λ t no. ap (λ (b : Bool). moves_if b s t.2) (reach_split men s t.2 ∙ ap (λ (b : Bool). b && is_clear men s.2 t.2) no))

-- a man of the colour that would attack a man of the other on an empty board
abbrev pub reaches_some : Color → List PlacedMan → PlacedMan → Bool
reaches_some color men s = is_color color s.1 && list_any (λ t. is_color (other_color color) t.1 && attacks [] s t.2) men

-- the first square that is reached, if any, is one that such a man reaches
pub first_reached_by : (color : Color) (men : List PlacedMan) (reached first : ℕ) → AreOnBoard men → reached ≡ reached_of men color →
    (first < 64 → is_in reached first ≡ true) → ((q : ℕ) → 0 ≤ q → q < first → is_in reached q ≡ false) → nat_lt first 64 ≡ list_any (reaches_some color men) men
first_reached_by color men reached first on_board same found none = first_some reached first (list_any (reaches_some color men) men) found none
    (λ q inside e.
    let both = and_parts (list_any (reaches color q) men) (list_any (stands (other_color color) q) men) (sym (in_reached color men reached q same inside) ∙ e) in
    let man = some_of (reaches color q) men both.0 in
    let parts = and_parts (is_color color man.0.1) (attacks [] man.0 q) man.1.1 in
    any_of (reaches_some color men) men man.0 man.1.0 (and_from (is_color color man.0.1) (list_any (is_hit (other_color color) man.0) men) parts.0 (hits (other_color color) men man.0 q parts.1 both.1)))
    (λ e.
    let man = some_of (reaches_some color men) men e in
    let has = and_parts (is_color color man.0.1) (list_any (is_hit (other_color color) man.0) men) man.1.1 in
    let hit = hit_at color men reached man.0 on_board same man.1.0 has.0 has.1 in
    (hit.0, hit.1, hit.3))

-- without such a man, and without an en passant square, there is no capture
pub nothing_captured : (p : Position) → may_capture p ≡ false → legal_captures p ≡ []
unfolding captures_of
nothing_captured p e = nowhere p.en_passant (or_parts (is_some p.en_passant) (list_any (reaches_some p.mover p.placed_men) p.placed_men) e)
  where
    nowhere : (o : Option ℕ) → (is_some o ≡ false) × (list_any (reaches_some p.mover p.placed_men) p.placed_men ≡ false) →
        filter (is_legal p) (flat_map (λ s. flat_map (λ t. moves_if (attacks p.placed_men s t.2) s t.2) (men_of (other_color p.mover) p.placed_men) ++ en_passant_moves p.placed_men o s) (men_of p.mover p.placed_men)) ≡ []
    nowhere None h =
        ap (filter (is_legal p)) (flat_none (λ (s : PlacedMan). is_color p.mover s.1) (λ (s : PlacedMan). list_any (λ t. is_color (other_color p.mover) t.1 && attacks [] s t.2) p.placed_men)
        (λ (s : PlacedMan). flat_map (λ t. moves_if (attacks p.placed_men s t.2) s t.2) (men_of (other_color p.mover) p.placed_men) ++ []) p.placed_men h.1
        (λ s no. ap (λ (ms : List Move). ms ++ []) (none_captured (other_color p.mover) p.placed_men s no)))
    nowhere (Some square) h = let some = h.0 in cc
