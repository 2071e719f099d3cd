-- The number of men and of ranks that pawns have to go.
use Rattle.std.proofs.Common.{◌≡◌, ◌≢◌, ℕ, ◌+◌, ◌<◌, ◌≤◌, List, [], ◌∷◌, get_or, refl, sym, ap, ◌∙◌, Bool, true, false, arith, inl, inr, Contains, Option, None}
use Rattle.std.specs.Prelude.{not, ◌&&◌, ◌||◌, ◌==◌, unwrap_or}
use Rattle.std.specs.List.{All}
use Rattle.std.proofs.lemmas.Bool.{cases_Bool, and_parts, or_parts, or_cases, eqb-true, eq-eqb, both_ways, and_from}
use Rattle.std.proofs.lemmas.List.Elements.{All-head, All-tail, All-contains_itself}
use Rattle.szg_values.specs.Men.{is_man, is_color, rank_of}
use Rattle.szg_values.specs.Placement.{PlacedMan}
use Rattle.szg_values.specs.declared.Man.{Man}
use Rattle.szg_values.specs.declared.Man.TheVariants.{Pawn, Knight, Bishop, Rook, Queen, King}
use Rattle.szg_values.specs.declared.Color.{Color}
use Rattle.szg_values.specs.declared.Color.TheVariants.{White, Black}
use Rattle.szg_chess.specs.declared.Move.{Move}
use Rattle.szg_chess.specs.Attacks.{attacks, is_ahead, is_occupied, files_apart}
use Rattle.szg_chess.specs.Position.{Position, IsPosition}
use Rattle.szg_chess.specs.Moves.{is_push, home_rank, double_rank, middle, is_pawn_on, captured_square, man_after, after, is_capture, is_zeroing, legal_moves}
use Rattle.szg_chess.specs.Laws.{ranks_to_go, zeroing_left}
use Rattle.szg_chess.proofs.Facts.{faultless}
use Rattle.szg_chess.proofs.Members.{any_of, contains_cons}
use Rattle.szg_chess.proofs.AfterMen.{is_off, off_is, off_from, moved, stays}
use Rattle.szg_chess.proofs.MoveFacts.{IsMove, Made, Way, legal_move}
use Rattle.szg_chess.proofs.AfterMove.{is_pawn, pawn_attack, pushed, its_pawn, is_it, man_now, inside_to, taking_plain, pass_is, list_after, after_is}
use Rattle.szg_chess.proofs.Captured.{capture_takes, capture_passes, capture_enters, enters_off}

abbrev pub to_go : PlacedMan → ℕ
to_go s = ranks_to_go s.0 s.1 s.2

-- ---- lists

pub left_le : (m : Move) (square : ℕ) (men : List PlacedMan) → All (λ u. to_go (man_after m u) ≤ to_go u) men → zeroing_left (moved m square men) ≤ zeroing_left men
unfolding zeroing_left
left_le m square [] all = omega arith
left_le m square (s ∷ men) all =
    let P : PlacedMan → Type 0 = λ u. to_go (man_after m u) ≤ to_go u in
    let here = All-head P s men all in let more = left_le m square men (All-tail P s men all) in
    elim (cases_Bool (is_off square s)) [
      | inl off ↦ rw off (omega (arith, here, more))
      | inr on ↦ rw on (omega (arith, more))
    ]

-- a man who vanishes or has fewer ranks to go makes it less
pub left_lt : (m : Move) (square : ℕ) (men : List PlacedMan) → All (λ u. to_go (man_after m u) ≤ to_go u) men → (s : PlacedMan) → Contains men s → (s.2 ≢ square → to_go (man_after m s) < to_go s) →
    zeroing_left (moved m square men) < zeroing_left men
unfolding zeroing_left
left_lt m square [] all s held less = absurd (omega (arith, held.1))
left_lt m square (x ∷ men) all s held less =
    let P : PlacedMan → Type 0 = λ u. to_go (man_after m u) ≤ to_go u in
    let here = All-head P x men all in let rest = All-tail P x men all in
    elim (contains_cons x men s held) [
      | inl same ↦
          let more = left_le m square men rest in
          elim (cases_Bool (is_off square x)) [
            | inl off ↦
                let away : s.2 ≢ square = λ e. off_is square x off (ap (λ (u : PlacedMan). u.2) same ∙ e) in
                let lower = less away in let a = ap (λ (u : PlacedMan). to_go (man_after m u)) same in let b = ap to_go same in
                rw off (omega (arith, lower, a, b, more))
            | inr on ↦ rw on (omega (arith, more))
          ]
      | inr later ↦
          let more = left_lt m square men rest s later less in
          elim (cases_Bool (is_off square x)) [
            | inl off ↦ rw off (omega (arith, here, more))
            | inr on ↦ rw on (omega (arith, more))
          ]
    ]

pub left_same : (m : Move) (square : ℕ) (men : List PlacedMan) → All (λ u. (is_off square u ≡ true) × (to_go (man_after m u) ≡ to_go u)) men → zeroing_left (moved m square men) ≡ zeroing_left men
unfolding zeroing_left
left_same m square [] all = refl
left_same m square (s ∷ men) all =
    let P : PlacedMan → Type 0 = λ u. (is_off square u ≡ true) × (to_go (man_after m u) ≡ to_go u) in
    let here = All-head P s men all in let same = here.1 in let more = left_same m square men (All-tail P s men all) in
    rw here.0 (omega (arith, same, more))

-- ---- the man that moves

-- a pawn of this colour goes forwards
abbrev pub advances : Color → ℕ → ℕ → Type 0
advances White from to = rank_of from < rank_of to
advances Black from to = rank_of to < rank_of from

ahead_advances : (color : Color) (from to : ℕ) → is_ahead color from to ≡ true → advances color from to
ahead_advances White from to e = let h = eqb-true (rank_of to) (rank_of from + 1) e in omega (arith, h)
ahead_advances Black from to e = let h = eqb-true (rank_of from) (rank_of to + 1) e in omega (arith, h)

far_advances : (color : Color) (from to : ℕ) → rank_of from ≡ home_rank color → rank_of to ≡ double_rank color → advances color from to
far_advances White from to a b = omega (arith, a, b)
far_advances Black from to a b = omega (arith, a, b)

push_advances : (men : List PlacedMan) (color : Color) (from to : ℕ) → is_push men color from to ≡ true → advances color from to
push_advances men color from to e =
    let far : Bool = rank_of from == home_rank color && rank_of to == double_rank color && not (is_occupied men (middle from to)) in
    elim (or_cases (is_ahead color from to) far (and_parts (files_apart from to == 0) (is_ahead color from to || far) e).1) [
      | inl ahead ↦ ahead_advances color from to ahead
      | inr step ↦
          let a = and_parts (rank_of from == home_rank color && rank_of to == double_rank color) (not (is_occupied men (middle from to))) step in
          let b = and_parts (rank_of from == home_rank color) (rank_of to == double_rank color) a.0 in
          far_advances color from to (eqb-true (rank_of from) (home_rank color) b.0) (eqb-true (rank_of to) (double_rank color) b.1)
    ]

attack_advances : (men : List PlacedMan) (s : PlacedMan) (to : ℕ) → is_man Pawn s.0 ≡ true → attacks men s to ≡ true → advances s.1 s.2 to
attack_advances men s to pawn attacked = ahead_advances s.1 s.2 to (and_parts (is_ahead s.1 s.2 to) (files_apart s.2 to == 1) (pawn_attack men s to pawn attacked)).0

-- whatever a pawn becomes has fewer ranks to go than it had
fewer_to_go : (man : Man) (color : Color) (from to : ℕ) → advances color from to → to < 64 → ranks_to_go man color to < ranks_to_go Pawn color from
fewer_to_go Pawn White from to forwards inside = omega arith
fewer_to_go Pawn Black from to forwards inside = omega arith
fewer_to_go Knight White from to forwards inside = omega arith
fewer_to_go Knight Black from to forwards inside = omega arith
fewer_to_go Bishop White from to forwards inside = omega arith
fewer_to_go Bishop Black from to forwards inside = omega arith
fewer_to_go Rook White from to forwards inside = omega arith
fewer_to_go Rook Black from to forwards inside = omega arith
fewer_to_go Queen White from to forwards inside = omega arith
fewer_to_go Queen Black from to forwards inside = omega arith
fewer_to_go King White from to forwards inside = omega arith
fewer_to_go King Black from to forwards inside = omega arith

piece_to_go : (man : Man) (color : Color) (square : ℕ) → is_man Pawn man ≡ false → ranks_to_go man color square ≡ 0
piece_to_go Pawn color square e = cc
piece_to_go Knight color square e = refl
piece_to_go Bishop color square e = refl
piece_to_go Rook color square e = refl
piece_to_go Queen color square e = refl
piece_to_go King color square e = refl

-- a pawn's move
pub pawn_lowers : (p : Position) (m : Move) → IsPosition p → (move : IsMove p m) → is_man Pawn move.man.0 ≡ true → to_go (man_after m move.man) < to_go move.man
pawn_lowers p m position move pawn =
    let s = move.man in let men = p.placed_men in
    let forwards : advances s.1 s.2 m.to = elim move.way [
      | inl takes ↦ rw takes.there (attack_advances men s takes.taken.2 pawn takes.attacked)
      | inr other ↦ elim other [
        | inl passes ↦ attack_advances men s m.to pawn (and_parts (is_man Pawn s.0) (attacks men s m.to) passes.may).1
        | inr enters ↦ push_advances men s.1 s.2 m.to (pushed men s m.to enters.may pawn)
      ]
    ] in
    let less = fewer_to_go (unwrap_or m.promotion s.0) s.1 s.2 m.to forwards (inside_to p m position.squares move) in
    let now = ap to_go (man_now p m move) in
    let before = ap (λ (man : Man). ranks_to_go man s.1 s.2) (is_pawn s.0 pawn) in
    omega (arith, less, now, before)

-- a piece's move
pub piece_keeps : (p : Position) (m : Move) → (move : IsMove p m) → is_man Pawn move.man.0 ≡ false → to_go (man_after m move.man) ≡ to_go move.man
piece_keeps p m move piece =
    let s = move.man in
    let same : m.promotion ≡ None = elim move.rank [
      | inl promoted ↦ absurd (both_ways (is_man Pawn s.0) piece (and_parts (is_man Pawn s.0) (rank_of m.to == 0 || rank_of m.to == 7) promoted.reaches).0)
      | inr remains ↦ remains.is
    ] in
    ap to_go (man_now p m move) ∙ ap (λ (o : Option Man). ranks_to_go (unwrap_or o s.0) s.1 m.to) same ∙ piece_to_go s.0 s.1 m.to piece ∙ sym (piece_to_go s.0 s.1 s.2 piece)

-- no man has more ranks to go
none_more : (p : Position) (m : Move) → IsPosition p → (move : IsMove p m) → All (λ u. to_go (man_after m u) ≤ to_go u) p.placed_men
none_more p m position move = λ k d h.
    let u = get_or p.placed_men k d in
    elim (is_it p m (faultless p position.no_fault) move u (All-contains_itself p.placed_men k d h)) [
      | inl same ↦ rw same (elim (cases_Bool (is_man Pawn move.man.0)) [
        | inl pawn ↦ let less = pawn_lowers p m position move pawn in omega (arith, less)
        | inr piece ↦ let keeps = piece_keeps p m move piece in omega (arith, keeps)
      ])
      | inr other ↦ let e = ap to_go (stays m u other) in omega (arith, e)
    ]

-- the mover's pawn is on the square that it leaves
pub pawn_on : (p : Position) (m : Move) (W : PlacedMan → ℕ → Type 0) → (move : Made p W m) → is_man Pawn move.man.0 ≡ true → is_pawn_on p m.from ≡ true
pawn_on p m W move pawn =
    let s = move.man in
    any_of (λ (u : PlacedMan). is_man Pawn u.0 && is_color p.mover u.1 && u.2 == m.from) p.placed_men s move.stands
    (and_from (is_man Pawn s.0 && is_color p.mover s.1) (s.2 == m.from) (and_from (is_man Pawn s.0) (is_color p.mover s.1) pawn move.own) (eq-eqb s.2 m.from (sym move.from_is)))

pub zeroing_law : (p : Position) (m : Move) → IsPosition p → Contains (legal_moves p) m → is_zeroing p m ≡ true → zeroing_left (after p m).placed_men < zeroing_left p.placed_men
unfolding after
zeroing_law p m position held zeroing =
    let known = faultless p position.no_fault in
    let move = (legal_move p m held).0 in let s = move.man in let c = captured_square p m in
    let none = none_more p m position move in
    let by_pawn : is_man Pawn s.0 ≡ true → zeroing_left (list_after p m) < zeroing_left p.placed_men = λ pawn. left_lt m c p.placed_men none s move.stands (λ _. pawn_lowers p m position move pawn) in
    let less : zeroing_left (list_after p m) < zeroing_left p.placed_men = elim (or_cases (is_pawn_on p m.from) (is_capture p m) zeroing) [
      | inl pawn ↦ by_pawn (its_pawn p s m.from known move.stands move.from_is pawn)
      | inr capture ↦ elim move.way [
        | inl takes ↦ left_lt m c p.placed_men none takes.taken takes.stands (λ off. absurd (off (sym (taking_plain p m s known takes ∙ takes.there))))
        | inr other ↦ elim other [
          | inl passes ↦ by_pawn (and_parts (is_man Pawn s.0) (attacks p.placed_men s m.to) passes.may).0
          | inr enters ↦ absurd (both_ways (is_capture p m) (capture_enters p m s known move.stands move.from_is enters) capture)
        ]
      ]
    ] in
    rw (after_is p m) less

pub quiet_law : (p : Position) (m : Move) → IsPosition p → Contains (legal_moves p) m → is_zeroing p m ≡ false → zeroing_left (after p m).placed_men ≡ zeroing_left p.placed_men
unfolding after
quiet_law p m position held quiet =
    let known = faultless p position.no_fault in
    let move = (legal_move p m held).0 in let s = move.man in let c = captured_square p m in
    let parts = or_parts (is_pawn_on p m.from) (is_capture p m) quiet in
    let piece : is_man Pawn s.0 ≡ false = elim (cases_Bool (is_man Pawn s.0)) [
      | inl pawn ↦ absurd (both_ways (is_pawn_on p m.from) parts.0 (pawn_on p m (Way p) move pawn))
      | inr piece ↦ piece
    ] in
    let off : All (λ (u : PlacedMan). u.2 ≢ c) p.placed_men = elim move.way [
      | inl takes ↦ absurd (both_ways (is_capture p m) parts.1 (capture_takes p m s takes))
      | inr other ↦ elim other [
        | inl passes ↦ absurd (both_ways (is_capture p m) parts.1 (capture_passes p m s (pass_is p m s move.stands move.own move.from_is passes)))
        | inr enters ↦ enters_off p m s known move.stands move.from_is enters
      ]
    ] in
    let same = left_same m c p.placed_men (λ k d h.
    let u = get_or p.placed_men k d in (
      off_from c u (off k d h),
      elim (is_it p m known move u (All-contains_itself p.placed_men k d h)) [
        | inl it ↦ rw it (piece_keeps p m move piece)
        | inr other ↦ ap to_go (stays m u other)
      ],
    )) in
    ap zeroing_left (after_is p m) ∙ same
