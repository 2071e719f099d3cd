-- Men that were put on their squares, as a position.
use Rattle.std.proofs.Common.{rules, ◌≡◌, ◌∙◌, ◌<◌, ◌≤◌, ℕ, List, true, Option, None, Some, refl, sym, ap, map, inl, inr}
use Rattle.std.specs.Prelude.{Result, Ok, Err, nat_lt, IfSome, IsNone}
use Rattle.std.specs.List.{list_all}
use Rattle.std.proofs.lemmas.Bool.{cases_Bool, ltb-true, ltb-false}
use Rattle.szg_values.specs.Placement.{PlacedMan}
use Rattle.szg_values.specs.declared.Color.{Color}
use Rattle.szg_chess.specs.Position.{Position, position_fault}
use Rattle.szg_chess.specs.declared.PositionFault.{PositionFault}
use Rattle.szg_c_positions.specs.declared.men.RawMan.{RawMan}
use Rattle.szg_c_positions.specs.Men.{color_of, is_coded_man, placed_man_of}
use Rattle.szg_c_positions.specs.Positions.{coded_position, position_of, position_status, position_unless, square_of}

abbrev pub status_of : Result Position PositionFault → Result Position ℕ
status_of (Ok p) = Ok p
status_of (Err why) = Err (position_status why)

position_unless_fault : (men : List RawMan) (mover en_passant : ℕ) → nat_lt mover 2 ≡ true → list_all is_coded_man men ≡ true →
    position_of men mover en_passant ≡ position_unless (position_fault (coded_position men mover en_passant)) (coded_position men mover en_passant)
unfolding position_of
position_unless_fault men mover en_passant side reported = rw (side, reported) refl

none_is : {X : Type 0} (o : Option X) → IsNone o → o ≡ None
none_is None h = refl
none_is (Some x) h = cc

pub square_is : (n : ℕ) (o : Option ℕ) → (n < 64 → o ≡ Some n) → (64 ≤ n → IsNone o) → o ≡ square_of n
square_is n o below beyond = elim (cases_Bool (nat_lt n 64)) [
  | inl t ↦ rw t (below (ltb-true n 64 t))
  | inr f ↦ rw f (none_is o (beyond (ltb-false n 64 f)))
]

unless_by : (o : Option PositionFault) (p : Position) (r : Result Position PositionFault) → (IsNone o → r ≡ Ok p) → IfSome o (λ why. r ≡ Err why) → position_unless o p ≡ status_of r
unless_by None p r accepted refused = sym (ap status_of (accepted (search rules)))
unless_by (Some why) p r accepted refused = sym (ap status_of refused)

pub position_is : (men : List RawMan) (mover en_passant : ℕ) (placed : List PlacedMan) (color : Color) (square : Option ℕ) (r : Result Position PositionFault) →
    nat_lt mover 2 ≡ true → list_all is_coded_man men ≡ true → placed ≡ map placed_man_of men → color ≡ color_of mover → square ≡ square_of en_passant →
    (IsNone (position_fault (record { placed_men = placed; mover = color; en_passant = square })) → r ≡ Ok (record { placed_men = placed; mover = color; en_passant = square })) →
    IfSome (position_fault (record { placed_men = placed; mover = color; en_passant = square })) (λ why. r ≡ Err why) → status_of r ≡ position_of men mover en_passant
position_is men mover en_passant placed color square r side reported are is at accepted refused =
    let p : Position = record { placed_men = placed; mover = color; en_passant = square } in
    let same : p ≡ coded_position men mover en_passant = rw (are, is, at) refl in
    sym (position_unless_fault men mover en_passant side reported
    ∙ ap (λ (q : Position). position_unless (position_fault q) q) (sym same)
    ∙ unless_by (position_fault p) p r accepted refused)

-- the position that was made
pub made_of : (o : Option PositionFault) (p q : Position) (r : Result Position PositionFault) → (IsNone o → r ≡ Ok p) → IfSome o (λ why. r ≡ Err why) → r ≡ Ok q → q ≡ p
made_of None p q r accepted refused is = let here = accepted (search rules) in cc (here, is)
made_of (Some why) p q r accepted refused is = absurd (cc (refused, is))
