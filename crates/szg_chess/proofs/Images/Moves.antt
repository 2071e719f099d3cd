-- The moves of an image are the images of the moves.
use Rattle.std.proofs.Common.{◌≡◌, ℕ, ◌<◌, List, refl, sym, ap, ◌∙◌, subst, Bool, true, false, arith, inl, inr, Contains, Option, Some, None}
use Rattle.std.specs.Prelude.{map, filter, not, ◌&&◌, ◌||◌, ◌==◌, option_map, is_none, if◌then◌else◌, ◌↔◌}
use Rattle.std.specs.List.{list_any}
use Rattle.std.specs.Option.{ForSome}
use Rattle.std.proofs.lemmas.Bool.{cases_Bool, and_parts, and_right, eqb-true, lt-ltb, both_ways, false_from_ne_true, or_left, not_from_false}
use Rattle.std.proofs.lemmas.List.Elements.{All-contains}
use Rattle.szg_values.specs.Men.{is_man, is_color, other_color, rank_of}
use Rattle.szg_values.specs.Placement.{PlacedMan}
use Rattle.szg_values.specs.declared.Man.TheVariants.{Pawn}
use Rattle.szg_values.specs.declared.Color.{Color}
use Rattle.szg_chess.specs.declared.Move.{Move}
use Rattle.szg_chess.specs.Attacks.{attacks, is_occupied, is_ahead, is_in_check, files_apart, ranks_apart}
use Rattle.szg_chess.specs.Position.{Position, IsPosition, is_on}
use Rattle.szg_chess.specs.Moves.{promotes, may_enter, is_push, home_rank, double_rank, middle, is_pawn_on, is_square, is_en_passant, captured_square, man_after, men_after, is_double_step, after, is_legal, legal_moves, is_capture, is_zeroing}
use Rattle.szg_chess.specs.Laws.{is_enemy_on, may_go, is_promotion, IsMoveOf}
use Rattle.szg_chess.specs.Images.{Symmetry, square_image, color_image, man_image, move_image, keeps_pawns, fits, IsImage, IsMoveImage}
use Rattle.szg_chess.proofs.Facts.{faultless}
use Rattle.szg_chess.proofs.Members.{some_of}
use Rattle.szg_chess.proofs.Relation.{contains_filter, moves_law}
use Rattle.szg_chess.proofs.MoveFacts.{legal_move}
use Rattle.szg_chess.proofs.AfterMen.{is_off}
use Rattle.szg_chess.proofs.AfterMove.{inside_to, doubles, after_is_position}
use Rattle.szg_chess.proofs.Images.Geometry.{image_back, same_square, image_inside, same_colors, other_image, KeepsPawns, pawns_kept}
use Rattle.szg_chess.proofs.Images.Men.{AreImages, contains_map, map_contains, filter_contains, any_image}
use Rattle.szg_chess.proofs.Images.Men as men_of_images

-- the men of an image are images of the men
pub images_of : (f : Symmetry) (p q : Position) → IsImage f p q → AreImages f p.placed_men q.placed_men
images_of f p q is = record {
  there = λ s held. (is.men (man_image f s)).1 (contains_map (man_image f) p.placed_men s held);
  back = λ t held. map_contains (man_image f) p.placed_men t ((is.men t).0 held);
}

pub from_images : (f : Symmetry) (men others : List PlacedMan) → AreImages f men others → (s : PlacedMan) → Contains others s ↔ Contains (map (man_image f) men) s
from_images f men others images s = (
  λ held. let r = images.back s held in subst (λ (t : PlacedMan). Contains (map (man_image f) men) t) r.1.1 (contains_map (man_image f) men r.0 r.1.0),
  λ held. let r = map_contains (man_image f) men s held in subst (λ (t : PlacedMan). Contains others t) r.1.1 (images.there r.0 r.1.0),
)

module _ (f : Symmetry) (p q : Position) (position : IsPosition p) (is : IsImage f p q) where
  images : AreImages f p.placed_men q.placed_men
  images = images_of f p q is

  inside : (s : PlacedMan) → Contains p.placed_men s → s.2 < 64
  inside s held = All-contains (λ (t : PlacedMan). t.2 < 64) p.placed_men s position.squares.men held

  pawn_kept : (s : PlacedMan) → Contains p.placed_men s → is_man Pawn s.0 ≡ true → keeps_pawns f ≡ true
  pawn_kept = men_of_images.pawn_kept f p.placed_men q.placed_men images position.squares.men is.fitting

  occupied : (x : ℕ) → x < 64 → is_occupied q.placed_men (square_image f x) ≡ is_occupied p.placed_men x
  occupied = men_of_images.occupied f p.placed_men q.placed_men images position.squares.men is.fitting

  attacked : (s : PlacedMan) (to : ℕ) → Contains p.placed_men s → to < 64 → attacks q.placed_men (man_image f s) (square_image f to) ≡ attacks p.placed_men s to
  attacked = men_of_images.attacked f p.placed_men q.placed_men images position.squares.men is.fitting

  pub same_check : is_in_check q.placed_men q.mover ≡ is_in_check p.placed_men p.mover
  same_check = ap (is_in_check q.placed_men) is.mover ∙ men_of_images.in_check f p.placed_men q.placed_men images position.squares.men is.fitting p.mover

  -- ---- where a man may go

  enemy_on : (x : ℕ) → x < 64 → is_enemy_on q (square_image f x) ≡ is_enemy_on p x
  enemy_on x h = ap (λ (c : Color). list_any (λ (s : PlacedMan). is_color (other_color c) s.1 && s.2 == square_image f x) q.placed_men) is.mover
      ∙ ap (λ (c : Color). list_any (λ (s : PlacedMan). is_color c s.1 && s.2 == square_image f x) q.placed_men) (other_image f p.mover)
      ∙ men_of_images.taken f p.placed_men q.placed_men images position.squares.men is.fitting (other_color p.mover) x h

  square_by : (o : Option ℕ) (x : ℕ) → ForSome o (λ square. square < 64) → x < 64 → is_square (option_map (square_image f) o) (square_image f x) ≡ is_square o x
  square_by None x held h = refl
  square_by (Some other) x held h = same_square f other x (held other refl) h

  passed_square : (x : ℕ) → x < 64 → is_square q.en_passant (square_image f x) ≡ is_square p.en_passant x
  passed_square x h = ap (λ (o : Option ℕ). is_square o (square_image f x)) is.en_passant ∙ square_by p.en_passant x position.squares.en_passant h

  pushed : (color : Color) (a b : ℕ) → KeepsPawns f color a b → a < 64 → b < 64 → is_push q.placed_men (color_image f color) (square_image f a) (square_image f b) ≡ is_push p.placed_men color a b
  pushed color a b kept ha hb =
      rw (kept.files, kept.ahead, kept.home, kept.double) (by_file (files_apart a b == 0) refl (rank_of a == home_rank color) refl (rank_of b == double_rank color) refl)
    where
      by_file : (x : Bool) → (files_apart a b == 0) ≡ x → (y : Bool) → (rank_of a == home_rank color) ≡ y → (z : Bool) → (rank_of b == double_rank color) ≡ z →
          (x && (is_ahead color a b || (y && z && not (is_occupied q.placed_men (middle (square_image f a) (square_image f b)))))) ≡ (x && (is_ahead color a b || (y && z && not (is_occupied p.placed_men (middle a b)))))
      by_file false ex y ey z ez = refl
      by_file true ex false ey z ez = refl
      by_file true ex true ey false ez = refl
      by_file true ex true ey true ez =
          let file = eqb-true (files_apart a b) 0 ex in let home = eqb-true (rank_of a) (home_rank color) ey in let double = eqb-true (rank_of b) (double_rank color) ez in
          ap (λ (t : Bool). is_ahead color a b || not t) (ap (is_occupied q.placed_men) (kept.half file home double) ∙ occupied (middle a b) (omega arith))

  entered : (s : PlacedMan) (to : ℕ) → Contains p.placed_men s → to < 64 → may_enter q.placed_men (man_image f s) (square_image f to) ≡ may_enter p.placed_men s to
  unfolding may_enter
  entered s to held h = ap (λ (t : Bool). not t && (if is_man Pawn s.0 then is_push q.placed_men (color_image f s.1) (square_image f s.2) (square_image f to) else attacks q.placed_men (man_image f s) (square_image f to))) (occupied to h)
      ∙ ap (λ (t : Bool). not (is_occupied p.placed_men to) && t) (elim (cases_Bool (is_man Pawn s.0)) [
        | inl t ↦ rw t (pushed s.1 s.2 to (pawns_kept f s.1 s.2 to (pawn_kept s held t) (inside s held) h) (inside s held) h)
        | inr e ↦ rw e (attacked s to held h)
      ])

  may_go_there : (s : PlacedMan) (to : ℕ) → Contains p.placed_men s → to < 64 → may_go q (man_image f s) (square_image f to) ≡ may_go p s to
  may_go_there s to held h =
      rw (enemy_on to h, attacked s to held h, passed_square to h, entered s to held h)
      (rw (lt-ltb (square_image f to) 64 (image_inside f to h), lt-ltb to 64 h) refl)

  promoted : (s : PlacedMan) (to : ℕ) → Contains p.placed_men s → to < 64 → promotes (man_image f s) (square_image f to) ≡ promotes s to
  promoted s to held h = elim (cases_Bool (is_man Pawn s.0)) [
    | inl t ↦ ap (λ (b : Bool). is_man Pawn s.0 && b) (pawns_kept f s.1 s.2 to (pawn_kept s held t) (inside s held) h).last
    | inr e ↦ rw e refl
  ]

  pub move_there : (m : Move) → m.to < 64 → IsMoveOf p m → IsMoveOf q (move_image f m)
  move_there m h move =
      let s = move.man in
      record {
        man = man_image f s;
        stands = images.there s move.stands;
        own = ap (λ (c : Color). is_color c (color_image f s.1)) is.mover ∙ same_colors f p.mover s.1 ∙ move.own;
        leaves = ap (square_image f) move.leaves;
        goes = may_go_there s m.to move.stands h ∙ move.goes;
        rank = ap (λ (b : Bool). if b then is_promotion m.promotion else is_none m.promotion) (promoted s m.to move.stands h) ∙ move.rank;
      }

  -- ---- after a move

  pawn_on : (x : ℕ) → x < 64 → is_pawn_on q (square_image f x) ≡ is_pawn_on p x
  pawn_on x h = ap (λ (c : Color). is_on Pawn c q.placed_men (square_image f x)) is.mover ∙ men_of_images.on f p.placed_men q.placed_men images position.squares.men is.fitting Pawn p.mover x h

  kept_at : (x : ℕ) → is_pawn_on p x ≡ true → keeps_pawns f ≡ true
  kept_at x e =
      let r = some_of (λ (s : PlacedMan). is_man Pawn s.0 && is_color p.mover s.1 && s.2 == x) p.placed_men e in let s = r.0 in
      pawn_kept s r.1.0 (and_parts (is_man Pawn s.0) (is_color p.mover s.1) (and_parts (is_man Pawn s.0 && is_color p.mover s.1) (s.2 == x) r.1.1).0).0

  module _ (m : Move) (from_in : m.from < 64) (to_in : m.to < 64) where
    abbrev k : Move
    k = move_image f m

    passes : is_en_passant q k ≡ is_en_passant p m
    unfolding is_en_passant
    passes = rw (passed_square m.to to_in, pawn_on m.from from_in) (elim (cases_Bool (is_pawn_on p m.from)) [
      | inl t ↦ rw (pawns_kept f p.mover m.from m.to (kept_at m.from t) from_in to_in).files refl
      | inr e ↦ rw e (and_right (is_square p.en_passant m.to && files_apart k.from k.to == 1) false refl ∙ sym (and_right (is_square p.en_passant m.to && files_apart m.from m.to == 1) false refl))
    ])

    steps_double : is_double_step q k ≡ is_double_step p m
    steps_double = rw (pawn_on m.from from_in) (elim (cases_Bool (is_pawn_on p m.from)) [
      | inl t ↦ rw (pawns_kept f p.mover m.from m.to (kept_at m.from t) from_in to_in).ranks refl
      | inr e ↦ rw e (and_right (ranks_apart k.from k.to == 2) false refl ∙ sym (and_right (ranks_apart m.from m.to == 2) false refl))
    ])

    pub same_capture : is_capture q k ≡ is_capture p m
    same_capture = ap (λ (t : Bool). t || is_en_passant q k) (enemy_on m.to to_in) ∙ ap (λ (t : Bool). is_enemy_on p m.to || t) passes

    pub same_zeroing : is_zeroing q k ≡ is_zeroing p m
    same_zeroing = ap (λ (t : Bool). t || is_capture q k) (pawn_on m.from from_in) ∙ ap (λ (t : Bool). is_pawn_on p m.from || t) same_capture

    passing_pawn : is_en_passant p m ≡ true → is_pawn_on p m.from ≡ true
    unfolding is_en_passant
    passing_pawn e = (and_parts (is_square p.en_passant m.to && files_apart m.from m.to == 1) (is_pawn_on p m.from) e).1

    captured : captured_square q k ≡ square_image f (captured_square p m)
    captured = rw passes (elim (cases_Bool (is_en_passant p m)) [
      | inl t ↦ rw t (pawns_kept f p.mover m.from m.to (kept_at m.from (passing_pawn t)) from_in to_in).beside
      | inr e ↦ rw e refl
    ])

    captured_in : captured_square p m < 64
    captured_in = elim (cases_Bool (is_en_passant p m)) [
      | inl t ↦ rw t (omega arith)
      | inr e ↦ rw e to_in
    ]

    man_there : (s : PlacedMan) → Contains p.placed_men s → man_after k (man_image f s) ≡ man_image f (man_after m s)
    man_there s held = rw (same_square f s.2 m.from (inside s held) from_in) (elim (cases_Bool (s.2 == m.from)) [ inl t ↦ rw t refl | inr e ↦ rw e refl ])

    off_there : (s : PlacedMan) → Contains p.placed_men s → is_off (captured_square q k) (man_image f s) ≡ is_off (captured_square p m) s
    off_there s held = ap (λ (x : ℕ). not (square_image f s.2 == x)) captured ∙ ap not (same_square f s.2 (captured_square p m) (inside s held) captured_in)

    men_there : AreImages f (men_after p m) (men_after q k)
    unfolding men_after
    men_there = record {
      there = λ s held.
          let r = map_contains (man_after m) (filter (is_off (captured_square p m)) p.placed_men) s held in let u = r.0 in
          let stays = filter_contains (is_off (captured_square p m)) p.placed_men u r.1.0 in
          let off : is_off (captured_square q k) (man_image f u) ≡ true = off_there u stays.0 ∙ stays.1 in
          let listed = contains_map (man_after k) (filter (is_off (captured_square q k)) q.placed_men) (man_image f u) (contains_filter (is_off (captured_square q k)) q.placed_men (man_image f u) (images.there u stays.0) off) in
          subst (λ (t : PlacedMan). Contains (map (man_after k) (filter (is_off (captured_square q k)) q.placed_men)) t) (man_there u stays.0 ∙ ap (man_image f) r.1.1) listed;
      back = λ t held.
          let r = map_contains (man_after k) (filter (is_off (captured_square q k)) q.placed_men) t held in let v = r.0 in
          let stays = filter_contains (is_off (captured_square q k)) q.placed_men v r.1.0 in
          let o = images.back v stays.0 in let u = o.0 in
          let off : is_off (captured_square p m) u ≡ true = sym (off_there u o.1.0) ∙ ap (is_off (captured_square q k)) o.1.1 ∙ stays.1 in (
            man_after m u,
            (
              contains_map (man_after m) (filter (is_off (captured_square p m)) p.placed_men) u (contains_filter (is_off (captured_square p m)) p.placed_men u o.1.0 off),
              sym (man_there u o.1.0) ∙ ap (man_after k) o.1.1 ∙ r.1.1,
            ),
          );
    }

  module _ (m : Move) (held : Contains (legal_moves p) m) where
    abbrev k' : Move
    k' = move_image f m

    known_to : m.to < 64
    known_to = inside_to p m position.squares (legal_move p m held).0

    known_from : m.from < 64
    known_from = let move = (legal_move p m held).0 in let h = inside move.man move.stands in let e = move.from_is in omega (arith, h, e)

    fitting_after : fits f (men_after p m) ≡ true
    unfolding men_after
    fitting_after = elim (cases_Bool (keeps_pawns f)) [
      | inl t ↦ or_left (keeps_pawns f) (not (list_any (λ (s : PlacedMan). is_man Pawn s.0) (men_after p m))) t
      | inr e ↦ rw e (not_from_false (list_any (λ (s : PlacedMan). is_man Pawn s.0) (men_after p m)) (false_from_ne_true (list_any (λ (s : PlacedMan). is_man Pawn s.0) (men_after p m)) (λ some.
          let move = (legal_move p m held).0 in
          let r = some_of (λ (s : PlacedMan). is_man Pawn s.0) (men_after p m) some in
          let o = map_contains (man_after m) (filter (is_off (captured_square p m)) p.placed_men) r.0 r.1.0 in let u = o.0 in
          let stands = (filter_contains (is_off (captured_square p m)) p.placed_men u o.1.0).0 in
          elim move.rank [
            | inl promoted ↦ both_ways (keeps_pawns f) e (pawn_kept move.man move.stands (and_parts (is_man Pawn move.man.0) (rank_of m.to == 0 || rank_of m.to == 7) promoted.reaches).0)
            | inr remains ↦ both_ways (keeps_pawns f) e (pawn_kept u stands (sym (ap (is_man Pawn) (same_kind u remains.is)) ∙ ap (λ (s : PlacedMan). is_man Pawn s.0) o.1.1 ∙ r.1.1))
          ])))
    ]
      where
        same_kind : (u : PlacedMan) → m.promotion ≡ None → (man_after m u).0 ≡ u.0
        same_kind u none = elim (cases_Bool (u.2 == m.from)) [ inl t ↦ rw (t, none) refl | inr e ↦ rw e refl ]

    position_after : IsPosition (after p m)
    position_after = after_is_position p m position held

    legal_there : is_legal q k' ≡ is_legal p m
    unfolding is_legal after
    legal_there = ap not (ap (is_in_check (men_after q k')) is.mover
        ∙ men_of_images.in_check f (men_after p m) (men_after q k') (men_there m known_from known_to) position_after.squares.men fitting_after p.mover)

    listed_there : Contains (legal_moves q) k'
    listed_there = let known = (moves_law p m).0 held in (moves_law q k').1 (move_there m known_to known.0, legal_there ∙ known.1)

    passed_after : (b : Bool) → is_double_step p m ≡ b → (if b then Some (middle k'.from k'.to) else None) ≡ option_map (square_image f) (if b then Some (middle m.from m.to) else None)
    passed_after true e =
        let step = doubles p m (faultless p position.no_fault) (legal_move p m held).0 e in
        let pawn = (and_parts (ranks_apart m.from m.to == 2) (is_pawn_on p m.from) e).1 in
        ap (λ (x : ℕ). Some x) ((pawns_kept f p.mover m.from m.to (kept_at m.from pawn) known_from known_to).half step.file step.home step.reached)
    passed_after false e = refl

    image_after : IsImage f (after p m) (after q k')
    unfolding after
    image_after = record {
      position = after_is_position q k' is.position listed_there;
      fitting = fitting_after;
      men = from_images f (men_after p m) (men_after q k') (men_there m known_from known_to);
      mover = ap other_color is.mover ∙ other_image f p.mover;
      en_passant = ap (λ (b : Bool). if b then Some (middle k'.from k'.to) else None) (steps_double m known_from known_to) ∙ passed_after (is_double_step p m) refl;
    }

    pub move_image_of : IsMoveImage f p q m
    move_image_of = record {
      legal = listed_there;
      capture = same_capture m known_from known_to;
      passing = passes m known_from known_to;
      zeroing = same_zeroing m known_from known_to;
      leads = image_after;
    }

    -- the image of the image of the move
    pub move_again : move_image f (move_image f m) ≡ m
    move_again = ap (λ (x : ℕ). let n : Move = record { from = x; to = square_image f (square_image f m.to); promotion = m.promotion } in n) (image_back f m.from known_from)
        ∙ ap (λ (x : ℕ). let n : Move = record { from = m.from; to = x; promotion = m.promotion } in n) (image_back f m.to known_to)
