-- The numbers of a position are taken as this position.
use Rattle.std.proofs.Common.{suc, ◌≡◌, ◌∙◌, ℕ, ◌<◌, List, [], ◌∷◌, ◌++◌, length, map, take, Option, None, Some, true, ap, refl, sym, arith}
use Rattle.std.specs.Prelude.{Ok, nat_lt}
use Rattle.std.specs.List.{list_all}
use Rattle.std.specs.Option.{ForSome}
use Rattle.std.proofs.Math.Seq.{take-append_seam}
use Rattle.std.proofs.lemmas.Bool.{and_from, lt-ltb}
use Rattle.std.proofs.lemmas.List.{length-map}
use Rattle.szg_values.specs.Placement.{AreOnBoard, PlacedMan}
use Rattle.szg_values.specs.declared.Man.{Man}
use Rattle.szg_values.specs.declared.Man.TheVariants as man
use Rattle.szg_values.specs.declared.Color.{Color}
use Rattle.szg_values.specs.declared.Color.TheVariants as color
use Rattle.szg_values.specs.Men.{code_of, man_at}
use Rattle.szg_chess.specs.Position.{IsPosition, Position}
use Rattle.szg_c_positions.specs.Men.{coded_man, color_code, color_of, is_coded_man, placed_man_of}
use Rattle.szg_c_positions.specs.Fens.{square_code}
use Rattle.szg_c_positions.specs.Positions.{position_of, square_of}
use Rattle.szg_c_positions.specs.declared.men.RawMan.{RawMan}

color_again : (c : Color) → color_of (color_code c) ≡ c
color_again color.White = refl
color_again color.Black = refl

color_known : (c : Color) → nat_lt (color_code c) 2 ≡ true
color_known color.White = refl
color_known color.Black = refl

man_again : (m : Man) → man_at (code_of m) ≡ m
man_again man.Pawn = refl
man_again man.Knight = refl
man_again man.Bishop = refl
man_again man.Rook = refl
man_again man.Queen = refl
man_again man.King = refl

known : (m : Man) (c : Color) (square : ℕ) → square < 64 → is_coded_man (coded_man (m, c, square)) ≡ true
known man.Pawn c square h = let e = color_known c in let f = lt-ltb square 64 h in rw (e, f) refl
known man.Knight c square h = let e = color_known c in let f = lt-ltb square 64 h in rw (e, f) refl
known man.Bishop c square h = let e = color_known c in let f = lt-ltb square 64 h in rw (e, f) refl
known man.Rook c square h = let e = color_known c in let f = lt-ltb square 64 h in rw (e, f) refl
known man.Queen c square h = let e = color_known c in let f = lt-ltb square 64 h in rw (e, f) refl
known man.King c square h = let e = color_known c in let f = lt-ltb square 64 h in rw (e, f) refl

again : (s : PlacedMan) → placed_man_of (coded_man s) ≡ s
again (m, c, square) = let e = man_again m in let f = color_again c in rw (e, f) refl

all_again : (men : List PlacedMan) → map placed_man_of (map coded_man men) ≡ men
all_again [] = refl
all_again (s ∷ men) = let e = again s in let f = all_again men in rw (e, f) refl

all_known : (men : List PlacedMan) → AreOnBoard men → list_all is_coded_man (map coded_man men) ≡ true
all_known [] h = refl
all_known (s ∷ men) h = and_from _ _ (known s.0 s.1 s.2 (h 0 s (omega arith))) (all_known men (λ k d l. h (suc k) d (omega arith)))

square_again : (o : Option ℕ) → ForSome o (λ square. square < 64) → square_of (square_code o) ≡ o
square_again None h = refl
square_again (Some square) h = let e = lt-ltb square 64 (h square refl) in rw e refl

-- the first of these numbers, with those of the side to move and of the en passant square
pub read_again : (p : Position) (placed : List PlacedMan) (coded rest : List RawMan) (mover passed : ℕ) → IsPosition p → placed ≡ p.placed_men → coded ≡ map coded_man placed → mover ≡ color_code p.mover → passed ≡ square_code p.en_passant →
    position_of (take (length placed) (coded ++ rest)) mover passed ≡ Ok p
unfolding position_of
read_again p placed coded rest mover passed is e f g h =
    let few : take (length placed) (coded ++ rest) ≡ map coded_man p.placed_men =
    ap (λ n. take n (coded ++ rest)) (sym (ap length f ∙ length-map placed coded_man)) ∙ take-append_seam coded rest ∙ f ∙ ap (map coded_man) e in
    let men = all_again p.placed_men in
    let all = all_known p.placed_men is.squares.men in
    let side = color_again p.mover in
    let low = color_known p.mover in
    let square = square_again p.en_passant is.squares.en_passant in
    let sound = is.no_fault in
    rw (few, g, h, low, all, men, side, square, sound) refl
