-- Men whose numbers are invalid, or more than six, are no placement and no position.
use Rattle.std.proofs.Common.{◌≡◌, ◌<◌, ◌∙◌, ℕ, List, Some, length, map, true, false, ap, refl, inl, inr, arith}
use Rattle.std.specs.Prelude.{◌&&◌, ◌⊎◌, nat_le, nat_lt, Err, IsFalse, IsTrue, Result}
use Rattle.std.specs.List.{list_all}
use Rattle.std.proofs.lemmas.Bool.{le-leb, lt-leb}
use Rattle.std.proofs.lemmas.List.{length-map}
use Rattle.szg_values.proofs.TooMany.{too_many_mapped}
use Rattle.szg_values.specs.Placement.{Board, PlacedMan}
use Rattle.szg_chess.specs.Position.{Position, position_fault, men_fault}
use Rattle.szg_chess.specs.declared.PositionFault.TheVariants.{Men}
use Rattle.szg_c_positions.specs.Men.{board_of, is_coded_man, placed_man_of}
use Rattle.szg_c_positions.specs.Positions.{coded_position, position_of}
use Rattle.szg_c_positions.specs.declared.men.RawMan.{RawMan}

too_many_men : (men : List RawMan) (p : Position) → p.placed_men ≡ map placed_man_of men → 6 < length men → position_fault p ≡ Some Men
unfolding position_fault men_fault
too_many_men men p are many =
    let long : length p.placed_men ≡ length men = ap (λ (l : List PlacedMan). length l) are ∙ length-map men placed_man_of in
    let two : nat_le 2 (length p.placed_men) ≡ true = le-leb 2 (length p.placed_men) (omega (arith, long, many)) in
    let six : nat_le (length p.placed_men) 6 ≡ false = lt-leb (length p.placed_men) 6 (omega (arith, long, many)) in
    rw (two, six) refl

-- what the status of men that are not decoded says
abbrev IsUndecoded : List RawMan → ℕ → ℕ → Type 0
IsUndecoded men mover status =
    ((status ≡ 6) × IsFalse (nat_lt mover 2 && list_all is_coded_man men)) ⊎ ((status ≡ 7) × IsTrue (nat_lt mover 2 && list_all is_coded_man men) × (6 < length men))

pub refused_board : (men : List RawMan) (mover status : ℕ) → IsUndecoded men mover status → ◌≡◌ {A = Result Board ℕ} (Err status) (board_of men mover)
unfolding board_of
refused_board men mover status (inl (e, unstated)) = rw (e, unstated) refl
refused_board men mover status (inr (e, stated, many)) = rw (e, stated, too_many_mapped placed_man_of men many) refl

pub refused_position : (men : List RawMan) (mover en_passant status : ℕ) → IsUndecoded men mover status → ◌≡◌ {A = Result Position ℕ} (Err status) (position_of men mover en_passant)
unfolding position_of
refused_position men mover en_passant status (inl (e, unstated)) = rw (e, unstated) refl
refused_position men mover en_passant status (inr (e, stated, many)) = rw (e, stated, too_many_men men (coded_position men mover en_passant) refl many) refl
