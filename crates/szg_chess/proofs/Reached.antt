-- A king that no man of the other side would attack on an empty board is not in check.
use Rattle.std.proofs.Common.{◌≡◌, ℕ, ◌<◌, List, [], ◌∷◌, refl, sym, ap, ◌∙◌, Bool, true, false}
use Rattle.std.specs.Prelude.{◌&&◌, ◌==◌}
use Rattle.std.specs.List.{list_any, Contains}
use Rattle.std.specs.Int.Bits.{bit_and}
use Rattle.std.proofs.lemmas.Bool.{and_parts, and_from, or_from, eq-eqb}
use Rattle.std.proofs.lemmas.List.Elements.{All-contains, All-contains_itself}
use Rattle.szg_values.specs.Men.{is_man, is_color, other_color}
use Rattle.szg_values.specs.declared.Man.TheVariants.{King}
use Rattle.szg_values.specs.declared.Color.{Color}
use Rattle.szg_values.specs.Placement.{PlacedMan, AreOnBoard}
use Rattle.szg_chess.specs.Attacks.{attacks, is_in_check}
use Rattle.szg_chess.specs.Squares.{is_in, reached_of, squares_of, squares_between, reach_of, attacks_past}
use Rattle.szg_chess.proofs.Enemies.{back_again, in_none, in_reached, reaches, stands}
use Rattle.szg_chess.proofs.Members.{any_of, some_of}
use Rattle.szg_chess.proofs.SafeMove.{any_alike, check_here}
use Rattle.szg_chess.proofs.Sets.{in_set}

past_reaches : (occupied : ℕ) (t : PlacedMan) (q : ℕ) → q < 64 → attacks_past occupied t q ≡ true → attacks [] t q ≡ true
unfolding attacks_past
past_reaches occupied t q inside e = sym (in_set (attacks [] t) q inside) ∙ (and_parts (is_in (reach_of t) q) (bit_and (squares_between t.2 q) occupied == 0) e).0

dropped : (k r a : Bool) → (k ≡ true → a ≡ true → r ≡ true) → (k && r && a) ≡ (k && a)
dropped false r a h = refl
dropped true true a h = refl
dropped true false false h = refl
dropped true false true h = h refl refl

-- no square is in the empty set
no_king : (king attacked : Bool) → (king && false && attacked) ≡ false
no_king false attacked = refl
no_king true attacked = refl

no_reached : (king attacked : PlacedMan → Bool) (xs : List PlacedMan) → list_any (λ s. king s && is_in 0 s.2 && attacked s) xs ≡ false
no_reached king attacked [] = refl
no_reached king attacked (x ∷ xs) =
    or_from (king x && is_in 0 x.2 && attacked x) (list_any (λ s. king s && is_in 0 s.2 && attacked s) xs) (ap (λ (b : Bool). king x && b && attacked x) (in_none x.2) ∙ no_king (king x) (attacked x)) (no_reached king attacked xs)

module _ (men : List PlacedMan) (occupied reached : ℕ) (color other : Color) (on_board : AreOnBoard men) (squares : occupied ≡ squares_of men) (is : other ≡ other_color color) (same : reached ≡ reached_of men other) where
  abbrev attacked : PlacedMan → Bool
  attacked s = list_any (λ t. is_color other t.1 && attacks_past occupied t s.2) men

  -- a king's square that is attacked is reached
  is_reached : (s : PlacedMan) → Contains men s → (is_man King s.0 && is_color color s.1) ≡ true → attacked s ≡ true → is_in reached s.2 ≡ true
  is_reached s i king e =
      let inside : s.2 < 64 = All-contains (λ (t : PlacedMan). t.2 < 64) men s on_board i in
      let man = some_of (λ (t : PlacedMan). is_color other t.1 && attacks_past occupied t s.2) men e in
      let parts = and_parts (is_color other man.0.1) (attacks_past occupied man.0 s.2) man.1.1 in
      let one = any_of (reaches other s.2) men man.0 man.1.0 (and_from (is_color other man.0.1) (attacks [] man.0 s.2) parts.0 (past_reaches occupied man.0 s.2 inside parts.1)) in
      let own : is_color (other_color other) s.1 ≡ true = ap (λ (c : Color). is_color (other_color c) s.1) is ∙ ap (λ (c : Color). is_color c s.1) (back_again color) ∙ (and_parts (is_man King s.0) (is_color color s.1) king).1 in
      let two = any_of (stands (other_color other) s.2) men s i (and_from (is_color (other_color other) s.1) (s.2 == s.2) own (eq-eqb s.2 s.2 refl)) in
      in_reached other men reached s.2 same inside ∙ and_from (list_any (reaches other s.2) men) (list_any (stands (other_color other) s.2) men) one two

  pub check_reached : list_any (λ s. is_man King s.0 && is_color color s.1 && is_in reached s.2 && attacked s) men ≡ is_in_check men color
  check_reached =
      any_alike (Contains men) (λ (s : PlacedMan). is_man King s.0 && is_color color s.1 && is_in reached s.2 && attacked s) (λ (s : PlacedMan). is_man King s.0 && is_color color s.1 && attacked s) men (All-contains_itself men)
      (λ s i. dropped (is_man King s.0 && is_color color s.1) (is_in reached s.2) (attacked s) (is_reached s i))
      ∙ ap (λ (other : Color). list_any (λ s. is_man King s.0 && is_color color s.1 && list_any (λ t. is_color other t.1 && attacks_past occupied t s.2) men) men) is
      ∙ check_here men occupied color on_board squares

  pub unreached : reached ≡ 0 → is_in_check men color ≡ false
  unreached none =
      sym check_reached ∙ ap (λ (r : ℕ). list_any (λ s. is_man King s.0 && is_color color s.1 && is_in r s.2 && attacked s) men) none
      ∙ no_reached (λ s. is_man King s.0 && is_color color s.1) attacked men
