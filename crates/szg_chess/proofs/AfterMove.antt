-- The position after a legal move is a position.
use Rattle.std.proofs.Common.{◌≡◌, ◌≢◌, ℕ, ◌+◌, ◌<◌, ◌≤◌, List, length, get_or, refl, sym, ap, ◌∙◌, subst, Bool, true, false, arith, inl, inr, ◌⊎◌, Option, Some, None}
use Rattle.std.specs.Prelude.{filter, not, ◌&&◌, ◌||◌, ◌==◌, nat_le, if◌then◌else◌, unwrap_or}
use Rattle.std.specs.List.{All, Contains}
use Rattle.std.specs.Option.{ForSome}
use Rattle.std.proofs.lemmas.Bool.{cases_eq, and_parts, and_from, and_left, or_cases, eq-eqb, ne_eqb, eqb-true, le-leb, not-true, not_from_false, both_ways, false_from_ne_true}
use Rattle.std.proofs.lemmas.List.Elements.{All-contains, All-contains_itself}
use Rattle.std.proofs.lemmas.List.Sums.{length-filter}
use Rattle.std.proofs.lemmas.List.{length-map}
use Rattle.szg_values.specs.Men.{is_man, is_color, other_color, file_of, rank_of, square_at}
use Rattle.szg_values.specs.Placement.{PlacedMan, AreOnBoard, number_of, has_distinct_squares, has_pawns_on_inner_ranks}
use Rattle.szg_values.specs.declared.Man.{Man}
use Rattle.szg_values.specs.declared.Man.TheVariants.{Pawn, Knight, Bishop, Rook, Queen, King}
use Rattle.szg_values.specs.declared.Color.{Color}
use Rattle.szg_values.specs.declared.Color.TheVariants.{White, Black}
use Rattle.szg_chess.specs.declared.Move.{Move}
use Rattle.szg_chess.specs.Attacks.{attacks, is_attacked, is_in_check, is_occupied, is_ahead, is_pawn_attack, files_apart, ranks_apart}
use Rattle.szg_chess.specs.Position.{Position, IsPosition, AreSquares, is_on, was_passed, has_sound_en_passant}
use Rattle.szg_chess.specs.Moves.{may_enter, is_push, home_rank, double_rank, middle, is_pawn_on, is_square, is_en_passant, captured_square, man_after, men_after, is_double_step, after, is_legal, legal_moves}
use Rattle.szg_chess.proofs.Bounds.{sides}
use Rattle.szg_chess.proofs.Facts.{has_men, IsFaultless, faultless, no_fault, has_men_parts, filter_le}
use Rattle.szg_chess.proofs.Members.{any_of, some_of, none_of, all_of, each_of, same_man}
use Rattle.szg_chess.proofs.AfterMen.{moved, goes, stays, all_moved, none_moved, some_moved, IsClear, apart_moved, count_moved}
use Rattle.szg_chess.proofs.MoveFacts.{Takes, Passes, Enters, IsMove, legal_move}
use Rattle.szg_chess.proofs.Pushing.{length-filter-le}

-- ---- kinds and colours

pub is_pawn : (man : Man) → is_man Pawn man ≡ true → man ≡ Pawn
is_pawn Pawn e = refl
is_pawn Knight e = cc
is_pawn Bishop e = cc
is_pawn Rook e = cc
is_pawn Queen e = cc
is_pawn King e = cc

pawn_no_king : (man : Man) → is_man Pawn man ≡ true → is_man King man ≡ false
pawn_no_king Pawn e = refl
pawn_no_king Knight e = cc
pawn_no_king Bishop e = cc
pawn_no_king Rook e = cc
pawn_no_king Queen e = cc
pawn_no_king King e = cc

pub twice : (color : Color) → other_color (other_color color) ≡ color
twice White = refl
twice Black = refl

-- ---- a pawn's attack

pub pawn_attack : (men : List PlacedMan) (s : PlacedMan) (to : ℕ) → is_man Pawn s.0 ≡ true → attacks men s to ≡ true → is_pawn_attack s.1 s.2 to ≡ true
unfolding attacks
pawn_attack men (Pawn, color, from) to pawn attacked = attacked
pawn_attack men (Knight, color, from) to pawn attacked = cc
pawn_attack men (Bishop, color, from) to pawn attacked = cc
pawn_attack men (Rook, color, from) to pawn attacked = cc
pawn_attack men (Queen, color, from) to pawn attacked = cc
pawn_attack men (King, color, from) to pawn attacked = cc

-- a pawn's square and the square one rank ahead
ahead_white : (from to : ℕ) → is_ahead White from to ≡ true → rank_of to ≡ rank_of from + 1
ahead_white from to e = eqb-true (rank_of to) (rank_of from + 1) e

ahead_black : (from to : ℕ) → is_ahead Black from to ≡ true → rank_of from ≡ rank_of to + 1
ahead_black from to e = eqb-true (rank_of from) (rank_of to + 1) e

one_rank : (color : Color) (from to : ℕ) → is_ahead color from to ≡ true → ranks_apart from to ≡ 1
one_rank White from to e = let h = ahead_white from to e in omega (arith, h)
one_rank Black from to e = let h = ahead_black from to e in omega (arith, h)

-- ---- the en passant square

passed_empty : (mover : Color) (men : List PlacedMan) (square : ℕ) → was_passed men mover square ≡ true → is_occupied men square ≡ false
passed_empty White men square e =
    let a = and_parts (rank_of square == 5 && not (is_occupied men square) && not (is_occupied men (square_at (file_of square) 6))) (is_on Pawn Black men (square_at (file_of square) 4)) e in
    let b = and_parts (rank_of square == 5 && not (is_occupied men square)) (not (is_occupied men (square_at (file_of square) 6))) a.0 in
    not-true (is_occupied men square) (and_parts (rank_of square == 5) (not (is_occupied men square)) b.0).1
passed_empty Black men square e =
    let a = and_parts (rank_of square == 2 && not (is_occupied men square) && not (is_occupied men (square_at (file_of square) 1))) (is_on Pawn White men (square_at (file_of square) 3)) e in
    let b = and_parts (rank_of square == 2 && not (is_occupied men square)) (not (is_occupied men (square_at (file_of square) 1))) a.0 in
    not-true (is_occupied men square) (and_parts (rank_of square == 2) (not (is_occupied men square)) b.0).1

-- beside a pawn that attacks the square is the pawn that passed over it
passed_pawn : (mover : Color) (men : List PlacedMan) (from square : ℕ) → was_passed men mover square ≡ true → is_ahead mover from square ≡ true → is_on Pawn (other_color mover) men (square_at (file_of square) (rank_of from)) ≡ true
passed_pawn White men from square e ahead =
    let a = and_parts (rank_of square == 5 && not (is_occupied men square) && not (is_occupied men (square_at (file_of square) 6))) (is_on Pawn Black men (square_at (file_of square) 4)) e in
    let b = and_parts (rank_of square == 5 && not (is_occupied men square)) (not (is_occupied men (square_at (file_of square) 6))) a.0 in
    let five = eqb-true (rank_of square) 5 (and_parts (rank_of square == 5) (not (is_occupied men square)) b.0).0 in
    let one = ahead_white from square ahead in
    let four : rank_of from ≡ 4 = omega (arith, five, one) in
    ap (λ (rank : ℕ). is_on Pawn Black men (square_at (file_of square) rank)) four ∙ a.1
passed_pawn Black men from square e ahead =
    let a = and_parts (rank_of square == 2 && not (is_occupied men square) && not (is_occupied men (square_at (file_of square) 1))) (is_on Pawn White men (square_at (file_of square) 3)) e in
    let b = and_parts (rank_of square == 2 && not (is_occupied men square)) (not (is_occupied men (square_at (file_of square) 1))) a.0 in
    let two = eqb-true (rank_of square) 2 (and_parts (rank_of square == 2) (not (is_occupied men square)) b.0).0 in
    let one = ahead_black from square ahead in
    let three : rank_of from ≡ 3 = omega (arith, two, one) in
    ap (λ (rank : ℕ). is_on Pawn White men (square_at (file_of square) rank)) three ∙ a.1

pub square_empty : (mover : Color) (men : List PlacedMan) (o : Option ℕ) (square : ℕ) → has_sound_en_passant men mover o ≡ true → is_square o square ≡ true → is_occupied men square ≡ false
square_empty mover men None square sound e = cc
square_empty mover men (Some other) square sound e = ap (is_occupied men) (sym (eqb-true other square e)) ∙ passed_empty mover men other sound

-- ---- who is captured

-- who is on the square that the man goes to is captured, and no king is
pub record IsSafe (p : Position) (m : Move) : Type 0 where
  pub clear : IsClear m (captured_square p m) p.placed_men
  pub spared : All (λ u. u.2 ≡ captured_square p m → is_man King u.0 ≡ false) p.placed_men

-- the men on an empty square: none
pub nobody : (men : List PlacedMan) (square : ℕ) → is_occupied men square ≡ false → All (λ u. u.2 ≡ square → ⊥) men
nobody men square e = λ k d h here. both_ways ((get_or men k d).2 == square) (none_of (λ (u : PlacedMan). u.2 == square) men e k d h) (eq-eqb (get_or men k d).2 square here)

pub plain_capture : (p : Position) (m : Move) → is_en_passant p m ≡ false → captured_square p m ≡ m.to
plain_capture p m e = rw e refl

pub taking_plain : (p : Position) (m : Move) (s : PlacedMan) → IsFaultless p → Takes p s m.to → captured_square p m ≡ m.to
unfolding is_en_passant
taking_plain p m s known takes =
    let men = p.placed_men in
    let occupied : is_occupied men m.to ≡ true = any_of (λ (u : PlacedMan). u.2 == m.to) men takes.taken takes.stands (eq-eqb takes.taken.2 m.to (sym takes.there)) in
    let no_pass : is_square p.en_passant m.to ≡ false = false_from_ne_true (is_square p.en_passant m.to) (λ e. both_ways (is_occupied men m.to) (square_empty p.mover men p.en_passant m.to known.sound e) occupied) in
    plain_capture p m (rw no_pass refl)

safe_taking : (p : Position) (m : Move) (s : PlacedMan) → IsFaultless p → Contains p.placed_men s → is_color p.mover s.1 ≡ true → Takes p s m.to → IsSafe p m
safe_taking p m s known stands own takes =
    let men = p.placed_men in
    let plain = taking_plain p m s known takes in
    let color = other_color p.mover in
    let attacked : is_attacked men (other_color color) takes.taken.2 ≡ true = any_of (λ (u : PlacedMan). is_color (other_color color) u.1 && attacks men u takes.taken.2) men s stands (and_from (is_color (other_color color) s.1) (attacks men s takes.taken.2) (ap (λ (c : Color). is_color c s.1) (twice p.mover) ∙ own) takes.attacked) in
    let no_king : is_man King takes.taken.0 ≡ false = false_from_ne_true (is_man King takes.taken.0) (λ king. both_ways (is_in_check men color) known.safe
    (any_of (λ (u : PlacedMan). is_man King u.0 && is_color color u.1 && is_attacked men (other_color color) u.2) men takes.taken takes.stands
    (and_from (is_man King takes.taken.0 && is_color color takes.taken.1) (is_attacked men (other_color color) takes.taken.2) (and_from (is_man King takes.taken.0) (is_color color takes.taken.1) king takes.enemy) attacked))) in
    record {
      clear = λ k d h here. here ∙ sym plain;
      spared = λ k d h here.
          let u = get_or men k d in
          let same = same_man men known.apart takes.taken takes.stands u (All-contains_itself men k d h) (here ∙ plain ∙ takes.there) in
          ap (λ (t : PlacedMan). is_man King t.0) same ∙ no_king;
    }

passing_square : (mover : Color) (men : List PlacedMan) (o : Option ℕ) (square : ℕ) → o ≡ Some square → has_sound_en_passant men mover o ≡ true → was_passed men mover square ≡ true
passing_square mover men o square is sound = sym (ap (has_sound_en_passant men mover) is) ∙ sound

pub same_color : (a b : Color) → is_color a b ≡ true → b ≡ a
same_color White White e = refl
same_color White Black e = cc
same_color Black White e = cc
same_color Black Black e = refl

-- a capture en passant is one
pub pass_is : (p : Position) (m : Move) (s : PlacedMan) → Contains p.placed_men s → is_color p.mover s.1 ≡ true → m.from ≡ s.2 → Passes p s m.to → is_en_passant p m ≡ true
unfolding is_en_passant
pass_is p m s stands own from_is passes =
    let men = p.placed_men in
    let may = and_parts (is_man Pawn s.0) (attacks men s m.to) passes.may in
    let parts = and_parts (is_ahead s.1 s.2 m.to) (files_apart s.2 m.to == 1) (pawn_attack men s m.to may.0 may.1) in
    let square : is_square p.en_passant m.to ≡ true = ap (λ (o : Option ℕ). is_square o m.to) passes.passed ∙ eq-eqb m.to m.to refl in
    let beside : (files_apart m.from m.to == 1) ≡ true = ap (λ (x : ℕ). files_apart x m.to == 1) from_is ∙ parts.1 in
    let pawn_on : is_pawn_on p m.from ≡ true = any_of (λ (u : PlacedMan). is_man Pawn u.0 && is_color p.mover u.1 && u.2 == m.from) men s stands
    (and_from (is_man Pawn s.0 && is_color p.mover s.1) (s.2 == m.from) (and_from (is_man Pawn s.0) (is_color p.mover s.1) may.0 own) (eq-eqb s.2 m.from (sym from_is))) in
    and_from (is_square p.en_passant m.to && files_apart m.from m.to == 1) (is_pawn_on p m.from) (and_from (is_square p.en_passant m.to) (files_apart m.from m.to == 1) square beside) pawn_on

-- the pawn that is captured en passant
pub record Victim (p : Position) (m : Move) : Type 0 where
  pub pawn : PlacedMan
  pub stands : Contains p.placed_men pawn
  pub is : is_man Pawn pawn.0 ≡ true
  pub there : captured_square p m ≡ pawn.2

pub victim : (p : Position) (m : Move) (s : PlacedMan) → IsFaultless p → Contains p.placed_men s → is_color p.mover s.1 ≡ true → m.from ≡ s.2 → Passes p s m.to → Victim p m
victim p m s known stands own from_is passes =
    let men = p.placed_men in
    let may = and_parts (is_man Pawn s.0) (attacks men s m.to) passes.may in
    let parts = and_parts (is_ahead s.1 s.2 m.to) (files_apart s.2 m.to == 1) (pawn_attack men s m.to may.0 may.1) in
    let was = passing_square p.mover men p.en_passant m.to passes.passed known.sound in
    let pass = pass_is p m s stands own from_is passes in
    let at : captured_square p m ≡ square_at (file_of m.to) (rank_of m.from) = ap (λ (b : Bool). if b then square_at (file_of m.to) (rank_of m.from) else m.to) pass in
    let ahead : is_ahead p.mover m.from m.to ≡ true = ap (λ (x : ℕ). is_ahead p.mover x m.to) from_is ∙ ap (λ (c : Color). is_ahead c s.2 m.to) (sym (same_color p.mover s.1 own)) ∙ parts.0 in
    let found = some_of (λ (u : PlacedMan). is_man Pawn u.0 && is_color (other_color p.mover) u.1 && u.2 == square_at (file_of m.to) (rank_of m.from)) men (passed_pawn p.mover men m.from m.to was ahead) in
    let q = found.0 in
    let facts = and_parts (is_man Pawn q.0 && is_color (other_color p.mover) q.1) (q.2 == square_at (file_of m.to) (rank_of m.from)) found.1.1 in
    record {
      pawn = q;
      stands = found.1.0;
      is = (and_parts (is_man Pawn q.0) (is_color (other_color p.mover) q.1) facts.0).0;
      there = at ∙ sym (eqb-true q.2 (square_at (file_of m.to) (rank_of m.from)) facts.1);
    }

safe_passing : (p : Position) (m : Move) (s : PlacedMan) → IsFaultless p → Contains p.placed_men s → is_color p.mover s.1 ≡ true → m.from ≡ s.2 → Passes p s m.to → IsSafe p m
safe_passing p m s known stands own from_is passes =
    let men = p.placed_men in
    let empty = passed_empty p.mover men m.to (passing_square p.mover men p.en_passant m.to passes.passed known.sound) in
    let taken = victim p m s known stands own from_is passes in
    record {
      clear = λ k d h here. absurd (nobody men m.to empty k d h here);
      spared = λ k d h here.
          let u = get_or men k d in
          let same = same_man men known.apart taken.pawn taken.stands u (All-contains_itself men k d h) (here ∙ taken.there) in
          ap (λ (t : PlacedMan). is_man King t.0) same ∙ pawn_no_king taken.pawn.0 taken.is;
    }

-- a pawn that goes to an empty square is pushed
pub pushed : (men : List PlacedMan) (s : PlacedMan) (to : ℕ) → may_enter men s to ≡ true → is_man Pawn s.0 ≡ true → is_push men s.1 s.2 to ≡ true
unfolding may_enter
pushed men s to may pawn = let e = (and_parts (not (is_occupied men to)) (if is_man Pawn s.0 then is_push men s.1 s.2 to else attacks men s to) may).1 in rw pawn at e

pub entered_empty : (men : List PlacedMan) (s : PlacedMan) (to : ℕ) → may_enter men s to ≡ true → is_occupied men to ≡ false
unfolding may_enter
entered_empty men s to may = not-true (is_occupied men to) (and_parts (not (is_occupied men to)) (if is_man Pawn s.0 then is_push men s.1 s.2 to else attacks men s to) may).0

pushed_file : (men : List PlacedMan) (color : Color) (from to : ℕ) → is_push men color from to ≡ true → files_apart from to ≡ 0
pushed_file men color from to e = eqb-true (files_apart from to) 0 (and_parts (files_apart from to == 0) (is_ahead color from to || (rank_of from == home_rank color && rank_of to == double_rank color && not (is_occupied men (middle from to)))) e).0

-- the mover's pawn on the square that the man leaves is the man
pub its_pawn : (p : Position) (s : PlacedMan) (from : ℕ) → IsFaultless p → Contains p.placed_men s → from ≡ s.2 → is_pawn_on p from ≡ true → is_man Pawn s.0 ≡ true
its_pawn p s from known stands from_is on =
    let found = some_of (λ (u : PlacedMan). is_man Pawn u.0 && is_color p.mover u.1 && u.2 == from) p.placed_men on in
    let q = found.0 in
    let facts = and_parts (is_man Pawn q.0 && is_color p.mover q.1) (q.2 == from) found.1.1 in
    let same = same_man p.placed_men known.apart s stands q found.1.0 (eqb-true q.2 from facts.1 ∙ from_is) in
    sym (ap (λ (t : PlacedMan). is_man Pawn t.0) same) ∙ (and_parts (is_man Pawn q.0) (is_color p.mover q.1) facts.0).0

pub entering_plain : (p : Position) (m : Move) (s : PlacedMan) → IsFaultless p → Contains p.placed_men s → m.from ≡ s.2 → Enters p s m.to → is_en_passant p m ≡ false
unfolding is_en_passant
entering_plain p m s known stands from_is enters = false_from_ne_true (is_en_passant p m) (λ e.
    let men = p.placed_men in
    let parts = and_parts (is_square p.en_passant m.to && files_apart m.from m.to == 1) (is_pawn_on p m.from) e in
    let pawn = its_pawn p s m.from known stands from_is parts.1 in
    let file = pushed_file men s.1 s.2 m.to (pushed men s m.to enters.may pawn) in
    let one = eqb-true (files_apart m.from m.to) 1 (and_parts (is_square p.en_passant m.to) (files_apart m.from m.to == 1) parts.0).1 in
    let same = ap (λ (x : ℕ). files_apart x m.to) from_is in
    omega (arith, file, one, same))

safe_entering : (p : Position) (m : Move) (s : PlacedMan) → IsFaultless p → Contains p.placed_men s → m.from ≡ s.2 → Enters p s m.to → IsSafe p m
safe_entering p m s known stands from_is enters =
    let men = p.placed_men in
    let empty = entered_empty men s m.to enters.may in
    let no_pass = entering_plain p m s known stands from_is enters in
    let plain : captured_square p m ≡ m.to = plain_capture p m no_pass in
    record {
      clear = λ k d h here. here ∙ sym plain;
      spared = λ k d h here. absurd (nobody men m.to empty k d h (here ∙ plain));
    }

pub safe_move : (p : Position) (m : Move) → IsFaultless p → IsMove p m → IsSafe p m
safe_move p m known move = elim move.way [
  | inl takes ↦ safe_taking p m move.man known move.stands move.own takes
  | inr other ↦ elim other [
    | inl passes ↦ safe_passing p m move.man known move.stands move.own move.from_is passes
    | inr enters ↦ safe_entering p m move.man known move.stands move.from_is enters
  ]
]

-- ---- the men afterwards

abbrev pub list_after : Position → Move → List PlacedMan
list_after p m = moved m (captured_square p m) p.placed_men

pub after_is : (p : Position) (m : Move) → men_after p m ≡ list_after p m
unfolding men_after
after_is p m = refl

-- the man that moves, or another who stays
pub is_it : (p : Position) (m : Move) → IsFaultless p → (move : IsMove p m) → (u : PlacedMan) → Contains p.placed_men u → (u ≡ move.man) ⊎ (u.2 ≢ m.from)
is_it p m known move u held = elim (cases_eq u.2 m.from) [
  | inl e ↦ inl (same_man p.placed_men known.apart move.man move.stands u held (e ∙ move.from_is))
  | inr e ↦ inr e
]

-- what the man is afterwards
pub man_now : (p : Position) (m : Move) → (move : IsMove p m) → man_after m move.man ≡ (unwrap_or m.promotion move.man.0, move.man.1, m.to)
man_now p m move = rw (eq-eqb move.man.2 m.from (sym move.from_is)) refl

pub inside_to : (p : Position) (m : Move) → AreSquares p → IsMove p m → m.to < 64
inside_to p m squares move = elim move.way [
  | inl takes ↦ let inside = All-contains (λ (s : PlacedMan). s.2 < 64) p.placed_men takes.taken squares.men takes.stands in let there = takes.there in omega (arith, inside, there)
  | inr other ↦ elim other [
    | inl passes ↦ passed_inside p.en_passant m.to passes.passed squares.en_passant
    | inr enters ↦ enters.inside
  ]
]
  where
    passed_inside : (o : Option ℕ) (to : ℕ) → o ≡ Some to → ForSome o (λ square. square < 64) → to < 64
    passed_inside o to is inside = subst (λ (x : Option ℕ). ForSome x (λ (square : ℕ). square < 64)) is inside to refl

on_board_after : (p : Position) (m : Move) → IsFaultless p → AreSquares p → IsMove p m → AreOnBoard (list_after p m)
on_board_after p m known squares move = all_moved (λ u. u.2 < 64) m (captured_square p m) p.placed_men (λ k d h kept.
    let u = get_or p.placed_men k d in let inside = squares.men k d h in
    elim (cases_eq u.2 m.from) [
      | inl e ↦ let at = goes m u e in let to = inside_to p m squares move in omega (arith, at, to)
      | inr e ↦ let at = ap (λ (t : PlacedMan). t.2) (stays m u e) in omega (arith, at, inside)
    ])

-- a king stays a king, and no other man becomes one
same_king : (p : Position) (m : Move) → IsFaultless p → IsMove p m → (color : Color) → (u : PlacedMan) → Contains p.placed_men u →
    (is_man King (man_after m u).0 && is_color color (man_after m u).1) ≡ (is_man King u.0 && is_color color u.1)
same_king p m known move color u held = elim (is_it p m known move u held) [
  | inl same ↦
      let now = ap (man_after m) same ∙ man_now p m move in
      let s = move.man in
      let kind : is_man King (unwrap_or m.promotion s.0) ≡ is_man King s.0 = elim move.rank [
        | inl promoted ↦ ap (λ (o : Option Man). is_man King (unwrap_or o s.0)) promoted.is ∙ promoted.no_king ∙ sym (pawn_no_king s.0 (and_parts (is_man Pawn s.0) (rank_of m.to == 0 || rank_of m.to == 7) promoted.reaches).0)
        | inr remains ↦ ap (λ (o : Option Man). is_man King (unwrap_or o s.0)) remains.is
      ] in
      ap (λ (t : PlacedMan). is_man King t.0 && is_color color t.1) now ∙ ap (λ (b : Bool). b && is_color color s.1) kind ∙ ap (λ (t : PlacedMan). is_man King t.0 && is_color color t.1) (sym same)
  | inr other ↦ ap (λ (t : PlacedMan). is_man King t.0 && is_color color t.1) (stays m u other)
]

kings_after : (p : Position) (m : Move) → IsFaultless p → IsMove p m → IsSafe p m → (color : Color) → number_of King color (list_after p m) ≡ number_of King color p.placed_men
kings_after p m known move safe color =
    let test : PlacedMan → Bool = λ u. is_man King u.0 && is_color color u.1 in
    let count = count_moved test m (captured_square p m) p.placed_men (λ k d h.
    let u = get_or p.placed_men k d in
    ((λ here. and_left (is_man King u.0) (is_color color u.1) (safe.spared k d h here)), same_king p m known move color u (All-contains_itself p.placed_men k d h))) in
    sym (length-filter test (list_after p m)) ∙ count ∙ length-filter test p.placed_men

many_men : (men : List PlacedMan) → number_of King White men ≡ 1 → number_of King Black men ≡ 1 → 2 ≤ length men
many_men men white black =
    let both = sides White men in
    let a = length-filter (λ (u : PlacedMan). is_man King u.0 && is_color White u.1) men in
    let b = length-filter (λ (u : PlacedMan). is_man King u.0 && is_color Black u.1) men in
    let w = filter_le (λ (u : PlacedMan). is_man King u.0 && is_color White u.1) (λ u. is_color White u.1) (λ u e. (and_parts (is_man King u.0) (is_color White u.1) e).1) men in
    let c = filter_le (λ (u : PlacedMan). is_man King u.0 && is_color Black u.1) (λ u. is_color Black u.1) (λ u e. (and_parts (is_man King u.0) (is_color Black u.1) e).1) men in
    omega (arith, both, a, b, w, c, white, black)

has_men_after : (p : Position) (m : Move) → IsFaultless p → IsMove p m → IsSafe p m → has_men (list_after p m) ≡ true
has_men_after p m known move safe =
    let men = has_men_parts p.placed_men known.men in
    let now = list_after p m in
    let white : number_of King White now ≡ 1 = kings_after p m known move safe White ∙ men.white in
    let black : number_of King Black now ≡ 1 = kings_after p m known move safe Black ∙ men.black in
    let kept = filter (λ (s : PlacedMan). not (s.2 == captured_square p m)) p.placed_men in
    let fewer = length-filter-le (λ (s : PlacedMan). not (s.2 == captured_square p m)) p.placed_men in
    let size = length-map kept (man_after m) in
    let most = men.few in
    let few : length now ≤ 6 = omega (arith, fewer, size, most) in
    and_from (nat_le 2 (length now) && nat_le (length now) 6) (number_of King White now == 1 && number_of King Black now == 1)
    (and_from (nat_le 2 (length now)) (nat_le (length now) 6) (le-leb 2 (length now) (many_men now white black)) (le-leb (length now) 6 few))
    (and_from (number_of King White now == 1) (number_of King Black now == 1) (eq-eqb (number_of King White now) 1 white) (eq-eqb (number_of King Black now) 1 black))

-- no pawn is on the first or last rank
abbrev is_inner : PlacedMan → Bool
is_inner s = not (is_man Pawn s.0 && (rank_of s.2 == 0 || rank_of s.2 == 7))

inner_after : (p : Position) (m : Move) → IsFaultless p → IsMove p m → has_pawns_on_inner_ranks (list_after p m) ≡ true
inner_after p m known move =
    let before = each_of is_inner p.placed_men known.inside in
    all_of is_inner (list_after p m) (all_moved (λ u. is_inner u ≡ true) m (captured_square p m) p.placed_men (λ k d h kept.
    let u = get_or p.placed_men k d in let s = move.man in
    elim (is_it p m known move u (All-contains_itself p.placed_men k d h)) [
      | inl same ↦
          let now = ap (man_after m) same ∙ man_now p m move in
          let test : is_inner (unwrap_or m.promotion s.0, s.1, m.to) ≡ true = elim move.rank [
            | inl promoted ↦ ap (λ (o : Option Man). is_inner (unwrap_or o s.0, s.1, m.to)) promoted.is ∙ not_from_false (is_man Pawn promoted.piece && (rank_of m.to == 0 || rank_of m.to == 7)) (and_left (is_man Pawn promoted.piece) (rank_of m.to == 0 || rank_of m.to == 7) promoted.no_pawn)
            | inr remains ↦ ap (λ (o : Option Man). is_inner (unwrap_or o s.0, s.1, m.to)) remains.is ∙ not_from_false (is_man Pawn s.0 && (rank_of m.to == 0 || rank_of m.to == 7)) remains.inner
          ] in
          ap is_inner now ∙ test
      | inr other ↦ ap is_inner (stays m u other) ∙ before k d h
    ]))

-- ---- the en passant square afterwards

-- the square half-way, by its file and rank
half_white : (from to : ℕ) → files_apart from to ≡ 0 → rank_of from ≡ 1 → rank_of to ≡ 3 → (rank_of (middle from to) ≡ 2) × (square_at (file_of (middle from to)) 1 ≡ from) × (square_at (file_of (middle from to)) 3 ≡ to)
half_white from to file a b = (omega (arith, file, a, b), omega (arith, file, a, b), omega (arith, file, a, b))

half_black : (from to : ℕ) → files_apart from to ≡ 0 → rank_of from ≡ 6 → rank_of to ≡ 4 → (rank_of (middle from to) ≡ 5) × (square_at (file_of (middle from to)) 6 ≡ from) × (square_at (file_of (middle from to)) 4 ≡ to)
half_black from to file a b = (omega (arith, file, a, b), omega (arith, file, a, b), omega (arith, file, a, b))

was_passed_by : (mover : Color) (men : List PlacedMan) (from to : ℕ) → files_apart from to ≡ 0 → rank_of from ≡ home_rank mover → rank_of to ≡ double_rank mover →
    is_occupied men (middle from to) ≡ false → is_occupied men from ≡ false → is_on Pawn mover men to ≡ true → was_passed men (other_color mover) (middle from to) ≡ true
was_passed_by White men from to file a b empty left pawn =
    let half = half_white from to file a b in let x = middle from to in
    and_from (rank_of x == 2 && not (is_occupied men x) && not (is_occupied men (square_at (file_of x) 1))) (is_on Pawn White men (square_at (file_of x) 3))
    (and_from (rank_of x == 2 && not (is_occupied men x)) (not (is_occupied men (square_at (file_of x) 1)))
    (and_from (rank_of x == 2) (not (is_occupied men x)) (eq-eqb (rank_of x) 2 half.0) (not_from_false (is_occupied men x) empty))
    (not_from_false (is_occupied men (square_at (file_of x) 1)) (ap (is_occupied men) half.1 ∙ left)))
    (ap (is_on Pawn White men) half.2 ∙ pawn)
was_passed_by Black men from to file a b empty left pawn =
    let half = half_black from to file a b in let x = middle from to in
    and_from (rank_of x == 5 && not (is_occupied men x) && not (is_occupied men (square_at (file_of x) 6))) (is_on Pawn Black men (square_at (file_of x) 4))
    (and_from (rank_of x == 5 && not (is_occupied men x)) (not (is_occupied men (square_at (file_of x) 6)))
    (and_from (rank_of x == 5) (not (is_occupied men x)) (eq-eqb (rank_of x) 5 half.0) (not_from_false (is_occupied men x) empty))
    (not_from_false (is_occupied men (square_at (file_of x) 6)) (ap (is_occupied men) half.1 ∙ left)))
    (ap (is_on Pawn Black men) half.2 ∙ pawn)

-- a double step is a pawn's push to an empty square over an empty square
pub record Doubles (p : Position) (m : Move) (s : PlacedMan) : Type 0 where
  pub pawn : is_man Pawn s.0 ≡ true
  pub file : files_apart m.from m.to ≡ 0
  pub home : rank_of m.from ≡ home_rank p.mover
  pub reached : rank_of m.to ≡ double_rank p.mover
  pub over : is_occupied p.placed_men (middle m.from m.to) ≡ false
  pub empty : is_occupied p.placed_men m.to ≡ false

one_step : (p : Position) (m : Move) (s : PlacedMan) (to : ℕ) → is_man Pawn s.0 ≡ true → attacks p.placed_men s to ≡ true → m.from ≡ s.2 → m.to ≡ to → ranks_apart m.from m.to ≡ 2 → ⊥
one_step p m s to pawn attacked from_is to_is two =
    let one = one_rank s.1 s.2 to (and_parts (is_ahead s.1 s.2 to) (files_apart s.2 to == 1) (pawn_attack p.placed_men s to pawn attacked)).0 in
    let same = ap (λ (x : ℕ). ranks_apart x m.to) from_is ∙ ap (λ (x : ℕ). ranks_apart s.2 x) to_is in
    omega (arith, one, same, two)

pub double_push : (men : List PlacedMan) (color : Color) (from to : ℕ) → is_push men color from to ≡ true → ranks_apart from to ≡ 2 → (rank_of from ≡ home_rank color) × (rank_of to ≡ double_rank color) × (is_occupied men (middle from to) ≡ false)
double_push men color from to push two =
    let parts = and_parts (files_apart from to == 0) (is_ahead color from to || (rank_of from == home_rank color && rank_of to == double_rank color && not (is_occupied men (middle from to)))) push in
    elim (or_cases (is_ahead color from to) (rank_of from == home_rank color && rank_of to == double_rank color && not (is_occupied men (middle from to))) parts.1) [
      | inl ahead ↦ let one = one_rank color from to ahead in absurd (omega (arith, one, two))
      | inr far ↦
          let a = and_parts (rank_of from == home_rank color && rank_of to == double_rank color) (not (is_occupied men (middle from to))) far in
          let b = and_parts (rank_of from == home_rank color) (rank_of to == double_rank color) a.0 in
          (eqb-true (rank_of from) (home_rank color) b.0, eqb-true (rank_of to) (double_rank color) b.1, not-true (is_occupied men (middle from to)) a.1)
    ]

pub doubles : (p : Position) (m : Move) → IsFaultless p → (move : IsMove p m) → is_double_step p m ≡ true → Doubles p m move.man
doubles p m known move step =
    let s = move.man in let men = p.placed_men in
    let parts = and_parts (ranks_apart m.from m.to == 2) (is_pawn_on p m.from) step in
    let two = eqb-true (ranks_apart m.from m.to) 2 parts.0 in
    let pawn = its_pawn p s m.from known move.stands move.from_is parts.1 in
    elim move.way [
      | inl takes ↦ absurd (one_step p m s takes.taken.2 pawn takes.attacked move.from_is takes.there two)
      | inr other ↦ elim other [
        | inl passes ↦ absurd (one_step p m s m.to pawn (and_parts (is_man Pawn s.0) (attacks men s m.to) passes.may).1 move.from_is refl two)
        | inr enters ↦
            let push : is_push men p.mover m.from m.to ≡ true = ap (λ (x : ℕ). is_push men p.mover x m.to) move.from_is ∙ ap (λ (c : Color). is_push men c s.2 m.to) (sym (same_color p.mover s.1 move.own)) ∙ pushed men s m.to enters.may pawn in
            let far = double_push men p.mover m.from m.to push two in
            record { pawn = pawn; file = pushed_file men p.mover m.from m.to push; home = far.0; reached = far.1; over = far.2; empty = entered_empty men s m.to enters.may }
      ]
    ]

same_file_no_pass : (p : Position) (m : Move) → files_apart m.from m.to ≡ 0 → is_en_passant p m ≡ false
unfolding is_en_passant
same_file_no_pass p m file = false_from_ne_true (is_en_passant p m) (λ e.
    let one = eqb-true (files_apart m.from m.to) 1 (and_parts (is_square p.en_passant m.to) (files_apart m.from m.to == 1) (and_parts (is_square p.en_passant m.to && files_apart m.from m.to == 1) (is_pawn_on p m.from) e).0).1 in
    omega (arith, file, one))

-- numbers of a double step
step_numbers : (mover : Color) (from to : ℕ) → files_apart from to ≡ 0 → rank_of from ≡ home_rank mover → rank_of to ≡ double_rank mover → (from ≢ to) × (middle from to ≢ to) × (middle from to < 64) × ((rank_of to == 0 || rank_of to == 7) ≡ false)
step_numbers White from to file a b = (λ e. omega (arith, file, a, b, e), λ e. omega (arith, file, a, b, e), omega (arith, file, a, b), rw b refl)
step_numbers Black from to file a b = (λ e. omega (arith, file, a, b, e), λ e. omega (arith, file, a, b, e), omega (arith, file, a, b), rw b refl)

double_after : (p : Position) (m : Move) → IsFaultless p → (move : IsMove p m) → IsSafe p m → Doubles p m move.man → was_passed (list_after p m) (other_color p.mover) (middle m.from m.to) ≡ true
double_after p m known move safe step =
    let s = move.man in let men = p.placed_men in let c = captured_square p m in let x = middle m.from m.to in
    let numbers = step_numbers p.mover m.from m.to step.file step.home step.reached in
    let off : (square : ℕ) → square ≢ m.to → ((k : ℕ) (d : PlacedMan) → k < length men → (get_or men k d).2 ≢ m.from → (get_or men k d).2 ≢ square) → is_occupied (list_after p m) square ≡ false =
    λ square away others. none_moved (λ (u : PlacedMan). u.2 == square) m c men (λ k d h kept.
    let u = get_or men k d in
    elim (cases_eq u.2 m.from) [
      | inl e ↦ ne_eqb (man_after m u).2 square (λ same. away (sym same ∙ goes m u e))
      | inr e ↦ ne_eqb (man_after m u).2 square (λ same. others k d h e (ap (λ (t : PlacedMan). t.2) (sym (stays m u e)) ∙ same))
    ]) in
    let empty : is_occupied (list_after p m) x ≡ false = off x numbers.1 (λ k d h _ here. nobody men x step.over k d h here) in
    let left : is_occupied (list_after p m) m.from ≡ false = off m.from numbers.0 (λ k d h e. e) in
    let plain : c ≡ m.to = plain_capture p m (same_file_no_pass p m step.file) in
    let not_captured : s.2 ≢ c = λ e. numbers.0 (move.from_is ∙ e ∙ plain) in
    let unpromoted : m.promotion ≡ None = elim move.rank [
      | inl promoted ↦ absurd (both_ways (rank_of m.to == 0 || rank_of m.to == 7) numbers.3 (and_parts (is_man Pawn s.0) (rank_of m.to == 0 || rank_of m.to == 7) promoted.reaches).1)
      | inr remains ↦ remains.is
    ] in
    let is : man_after m s ≡ (s.0, s.1, m.to) = man_now p m move ∙ ap (λ (o : Option Man). (unwrap_or o s.0, s.1, m.to)) unpromoted in
    let now : (is_man Pawn (man_after m s).0 && is_color p.mover (man_after m s).1 && (man_after m s).2 == m.to) ≡ true =
    ap (λ (u : PlacedMan). is_man Pawn u.0 && is_color p.mover u.1 && u.2 == m.to) is
    ∙ and_from (is_man Pawn s.0 && is_color p.mover s.1) (m.to == m.to) (and_from (is_man Pawn s.0) (is_color p.mover s.1) step.pawn move.own) (eq-eqb m.to m.to refl) in
    let pawn : is_on Pawn p.mover (list_after p m) m.to ≡ true = some_moved (λ (u : PlacedMan). is_man Pawn u.0 && is_color p.mover u.1 && u.2 == m.to) m c men s move.stands not_captured now in
    was_passed_by p.mover (list_after p m) m.from m.to step.file step.home step.reached empty left pawn

sound_after : (p : Position) (m : Move) → IsFaultless p → IsMove p m → IsSafe p m → (b : Bool) → is_double_step p m ≡ b → has_sound_en_passant (list_after p m) (other_color p.mover) (if b then Some (middle m.from m.to) else None) ≡ true
sound_after p m known move safe true step = double_after p m known move safe (doubles p m known move step)
sound_after p m known move safe false step = refl

passed_inside : (p : Position) (m : Move) → IsFaultless p → IsMove p m → (b : Bool) → is_double_step p m ≡ b → ForSome (if b then Some (middle m.from m.to) else None) (λ square. square < 64)
passed_inside p m known move true is =
    let step = doubles p m known move is in
    let inside = (step_numbers p.mover m.from m.to step.file step.home step.reached).2 in
    λ square same. let e : middle m.from m.to ≡ square = cc in omega (arith, inside, e)
passed_inside p m known move false is = λ square same. absurd (cc)

-- the position after a legal move is a position
pub after_is_position : (p : Position) (m : Move) → IsPosition p → Contains (legal_moves p) m → IsPosition (after p m)
unfolding after is_legal
after_is_position p m position held =
    let known = faultless p position.no_fault in
    let legal = legal_move p m held in
    let move = legal.0 in
    let safe = safe_move p m known move in
    let now = list_after p m in let men = men_after p m in
    let is = after_is p m in
    let unattacked : is_in_check men p.mover ≡ false = not-true (is_in_check men p.mover) legal.1 in
    record {
      no_fault = no_fault (after p m) (record {
        men = ap has_men is ∙ has_men_after p m known move safe;
        apart = ap has_distinct_squares is ∙ apart_moved m (captured_square p m) p.placed_men safe.clear known.apart;
        inside = ap has_pawns_on_inner_ranks is ∙ inner_after p m known move;
        safe = ap (is_in_check men) (twice p.mover) ∙ unattacked;
        sound = ap (λ (ms : List PlacedMan). has_sound_en_passant ms (other_color p.mover) (if is_double_step p m then Some (middle m.from m.to) else None)) is ∙ sound_after p m known move safe (is_double_step p m) refl;
      });
      squares = record {
        men = rw is (on_board_after p m known position.squares move);
        en_passant = passed_inside p m known move (is_double_step p m) refl;
      };
    }
