-- What a position without a fault is.
use Rattle.std.proofs.Common.{◌≡◌, ◌<◌, ◌≤◌, List, [], ◌∷◌, length, refl, Bool, true, false, arith, inl, inr, Option, Some, None}
use Rattle.std.specs.Prelude.{filter, ◌&&◌, ◌==◌, not, nat_le, if◌then◌else◌, IsSome}
use Rattle.std.proofs.lemmas.Bool.{cases_Bool, and_parts, false_from_ne_true, leb-true, le-leb, eqb-true, eq-eqb}
use Rattle.std.proofs.lemmas.List.Sums.{length-filter}
use Rattle.szg_values.specs.Men.{is_man, is_color, other_color}
use Rattle.szg_values.specs.Placement.{AreStanding, PlacedMan, number_of, has_distinct_squares, has_pawns_on_inner_ranks, placement_fault}
use Rattle.szg_values.specs.declared.Man.{Man}
use Rattle.szg_values.specs.declared.Man.TheVariants.{King}
use Rattle.szg_values.specs.declared.Color.{Color}
use Rattle.szg_values.specs.declared.Color.TheVariants.{White, Black}
use Rattle.szg_chess.specs.Attacks.{is_in_check}
use Rattle.szg_chess.specs.Position.{Position, IsPosition, without_en_passant, first_of, men_fault, state_fault, position_fault, has_two_to_six, has_kings, has_sound_en_passant}
use Rattle.szg_chess.specs.Moves.{men_of}
use Rattle.szg_chess.specs.declared.PositionFault.{PositionFault}
use Rattle.szg_chess.specs.declared.PositionFault.TheVariants as fault

-- two to six men, with exactly one king of each colour
abbrev pub has_men : List PlacedMan → Bool
has_men men = has_two_to_six men && has_kings men

pub record IsFaultless (p : Position) : Type 0 where
  pub men : has_men p.placed_men ≡ true
  pub apart : has_distinct_squares p.placed_men ≡ true
  pub inside : has_pawns_on_inner_ranks p.placed_men ≡ true
  pub safe : is_in_check p.placed_men (other_color p.mover) ≡ false
  pub sound : has_sound_en_passant p.placed_men p.mover p.en_passant ≡ true

men_by : Bool → Bool → Bool → Bool → Option PositionFault
men_by few kings apart inside =
    if not few then Some fault.Men else
    if not kings then Some fault.Kings else
    if not apart then Some fault.SameSquare else
    if not inside then Some fault.PawnRank else None

men_none : (a b c d : Bool) → men_by a b c d ≡ None → (a ≡ true) × (b ≡ true) × (c ≡ true) × (d ≡ true)
unfolding men_by
men_none true true true true h = (refl, refl, refl, refl)
men_none true true true false h = cc
men_none true true false d h = cc
men_none true false c d h = cc
men_none false b c d h = cc

state_by : Bool → Bool → Option PositionFault
state_by sound attacked =
    if not sound then Some fault.EnPassant else
    if attacked then Some fault.OpponentInCheck else None

state_none : (a b : Bool) → state_by a b ≡ None → (a ≡ true) × (b ≡ false)
unfolding state_by
state_none true false h = (refl, refl)
state_none true true h = cc
state_none false b h = cc

pub first_none : (o : Option PositionFault) (os : List (Option PositionFault)) → first_of (o ∷ os) ≡ None → (o ≡ None) × (first_of os ≡ None)
first_none None os h = (refl, h)
first_none (Some f) os h = absurd cc

pub record AreSound (men : List PlacedMan) : Type 0 where
  pub number : has_men men ≡ true
  pub apart : has_distinct_squares men ≡ true
  pub inside : has_pawns_on_inner_ranks men ≡ true

pub sound_men : (men : List PlacedMan) → men_fault men ≡ None → AreSound men
unfolding men_fault men_by
sound_men men h =
    let parts = men_none (has_two_to_six men) (has_kings men) (has_distinct_squares men) (has_pawns_on_inner_ranks men) h in
    record { number = rw (parts.0, parts.1) refl; apart = parts.2; inside = parts.3 }

pub faultless : (p : Position) → position_fault p ≡ None → IsFaultless p
unfolding position_fault state_fault state_by
faultless p h =
    let both = first_none (men_fault p.placed_men) (state_fault p ∷ []) h in
    let men = sound_men p.placed_men both.0 in
    let state = state_none (has_sound_en_passant p.placed_men p.mover p.en_passant) (is_in_check p.placed_men (other_color p.mover)) (first_none (state_fault p) [] both.1).0 in
    record { men = men.number; apart = men.apart; inside = men.inside; safe = state.1; sound = state.0 }

pub no_fault : (p : Position) → IsFaultless p → position_fault p ≡ None
unfolding position_fault men_fault state_fault
no_fault p known = let men = and_parts (has_two_to_six p.placed_men) (has_kings p.placed_men) known.men in rw (men.0, men.1, known.apart, known.inside, known.safe, known.sound) refl

pub position_without : (p : Position) → IsPosition p → IsPosition (without_en_passant p)
position_without p position =
    let known = faultless p position.no_fault in
    record {
      no_fault = no_fault (without_en_passant p) (record { men = known.men; apart = known.apart; inside = known.inside; safe = known.safe; sound = refl });
      squares = record { men = position.squares.men; en_passant = λ x e. cc };
    }

-- ---- the men

pub record HasMen (men : List PlacedMan) : Type 0 where
  pub many : 2 ≤ length men
  pub few : length men ≤ 6
  pub white : number_of King White men ≡ 1
  pub black : number_of King Black men ≡ 1

pub has_men_parts : (men : List PlacedMan) → has_men men ≡ true → HasMen men
has_men_parts men h =
    let all = and_parts (has_two_to_six men) (has_kings men) h in
    let a = and_parts (nat_le 2 (length men)) (nat_le (length men) 6) all.0 in
    let b = and_parts (number_of King White men == 1) (number_of King Black men == 1) all.1 in
    record { many = leb-true 2 (length men) a.0; few = leb-true (length men) 6 a.1; white = eqb-true (number_of King White men) 1 b.0; black = eqb-true (number_of King Black men) 1 b.1 }

pub few_men_of : (men : List PlacedMan) → men_fault men ≡ None → length men ≤ 6
few_men_of men none = (has_men_parts men (sound_men men none).number).few

pub one_king : (men : List PlacedMan) → HasMen men → (color : Color) → number_of King color men ≡ 1
one_king men known White = known.white
one_king men known Black = known.black

-- what passes one test passes another
pub filter_le : {X : Type 0} (p q : X → Bool) → ((x : X) → p x ≡ true → q x ≡ true) → (xs : List X) → length (filter p xs) ≤ length (filter q xs)
filter_le p q imply [] = omega arith
filter_le p q imply (x ∷ xs) = elim (cases_Bool (p x)) [
  | inl t ↦ let u = imply x t in rw (t, u) (let h = filter_le p q imply xs in omega arith)
  | inr f ↦ elim (cases_Bool (q x)) [
    | inl t ↦ rw (f, t) (let h = filter_le p q imply xs in omega arith)
    | inr u ↦ rw (f, u) (filter_le p q imply xs)
  ]
]

-- the men of a kind and colour are men of the colour
count_of_color : (man : Man) (color : Color) (men : List PlacedMan) → number_of man color men ≤ length (men_of color men)
count_of_color man color men =
    let both : PlacedMan → Bool = λ s. is_man man s.0 && is_color color s.1 in
    let own : PlacedMan → Bool = λ s. is_color color s.1 in
    let le = filter_le both own (λ s h. (and_parts (is_man man s.0) (is_color color s.1) h).1) men in
    let count = length-filter both men in
    omega (arith, le, count)

pub some_of_color : (men : List PlacedMan) → HasMen men → (color : Color) → 1 ≤ length (men_of color men)
some_of_color men known color = let one = one_king men known color in let le = count_of_color King color men in omega (arith, one, le)

-- the men of a position are those of a placement, if there are at least three
pub placed : (p : Position) → IsFaultless p → 3 ≤ length p.placed_men → placement_fault p.placed_men ≡ None
unfolding placement_fault
placed p known three =
    let men = p.placed_men in let parts = has_men_parts men known.men in
    rw (le-leb 3 (length men) three, le-leb (length men) 6 parts.few, eq-eqb (number_of King White men) 1 parts.white, eq-eqb (number_of King Black men) 1 parts.black, known.apart, known.inside) refl

-- the men of a position stand on squares of the board
pub standing : (p : Position) → IsPosition p → AreStanding p.placed_men
standing p position =
    let known = faultless p position.no_fault in
    record { few = (has_men_parts p.placed_men known.men).few; apart = known.apart; inside = known.inside; on_board = position.squares.men }

-- fewer than three men are no placement
pub no_placement : (men : List PlacedMan) → length men < 3 → IsSome (placement_fault men)
unfolding placement_fault
no_placement men few =
    let short : nat_le 3 (length men) ≡ false = false_from_ne_true (nat_le 3 (length men)) (λ t. let many = leb-true 3 (length men) t in omega (arith, many, few)) in
    rw short refl
