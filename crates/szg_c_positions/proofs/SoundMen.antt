-- Men that are put on their squares are a placement, or have a fault.
use Rattle.std.proofs.Common.{rules, ◌≡◌, ℕ, List, Option, None, Some, refl, sym, ap, ◌∙◌, subst, true}
use Rattle.std.specs.Prelude.{Result, Ok, nat_lt, map, IfSome, IsNone, IsSome}
use Rattle.std.specs.List.{list_all}
use Rattle.szg_values.specs.Placement.{AreStanding, Board, PlacedMan, men_key, placement_fault}
use Rattle.szg_values.specs.declared.PlacementFault.{PlacementFault}
use Rattle.szg_c_positions.specs.declared.men.RawMan.{RawMan}
use Rattle.szg_c_positions.specs.Men.{ArePut, board_of, color_of, is_coded_man, placed_man_of}

pub put_all : (men : List RawMan) (mover : ℕ) (placed : List PlacedMan) (r : Option ℕ) → nat_lt mover 2 ≡ true → IfSome r (λ key. list_all is_coded_man men ≡ true) → IfSome r (λ key. placed ≡ map placed_man_of men) →
    IfSome r (λ key. AreStanding (map placed_man_of men)) → IfSome r (λ key. key ≡ men_key (map placed_man_of men)) → IfSome r (λ key. ArePut men mover placed key)
put_all men mover placed None side reported is stand k = search rules
put_all men mover placed (Some key) side reported is stand k = record {
  mover_stated = side;
  reported = reported;
  placed = is;
  standing = subst (λ (l : List PlacedMan). AreStanding l) (sym is) stand;
  key_is = k ∙ ap men_key (sym is);
}

stated_board : (men : List RawMan) (mover : ℕ) → nat_lt mover 2 ≡ true → list_all is_coded_man men ≡ true → placement_fault (map placed_man_of men) ≡ None →
    board_of men mover ≡ Ok (record { placed_men = map placed_man_of men; mover = color_of mover })
unfolding board_of
stated_board men mover side reported none = rw (side, reported, none) refl

found : (o : Option PlacementFault) (r : Option Board) (board : Board) (whole : Result Board ℕ) → (IsNone o → r ≡ Some board) → (IsSome o → r ≡ None) → (o ≡ None → whole ≡ Ok board) →
    IfSome r (λ p. whole ≡ Ok p)
found None r board whole accepted refused same = rw (accepted (search rules)) (same refl)
found (Some why) r board whole accepted refused same = rw (refused (search rules)) (search rules)

pub sound_board : (men : List RawMan) (mover : ℕ) (placed : List PlacedMan) (key : ℕ) (board : Board) (r : Option Board) → ArePut men mover placed key → board ≡ record { placed_men = placed; mover = color_of mover } →
    (IsNone (placement_fault placed) → r ≡ Some board) → (IsSome (placement_fault placed) → r ≡ None) → IfSome r (λ p. board_of men mover ≡ Ok p)
sound_board men mover placed key board r put e accepted refused =
    found (placement_fault placed) r board (board_of men mover) accepted refused
    (λ none. stated_board men mover put.mover_stated put.reported (ap placement_fault (sym put.placed) ∙ none)
    ∙ ap Ok (ap (λ (l : List PlacedMan). let b : Board = record { placed_men = l; mover = color_of mover } in b) (sym put.placed) ∙ sym e))
