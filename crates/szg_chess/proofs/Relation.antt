-- The moves in the list are those that the relation says.
use Rattle.std.proofs.Common.{◌≡◌, ℕ, ◌<◌, List, [], ◌∷◌, zero, suc, refl, sym, ap, ◌∙◌, subst, Bool, true, false, arith, inl, inr, Contains, Option, Some, None, zero-add}
use Rattle.std.specs.Prelude.{filter, flat_map, ◌&&◌, ◌||◌, ◌==◌, ◌↔◌, nat_lt, is_none, if◌then◌else◌}
use Rattle.std.specs.List.{range_with_len}
use Rattle.std.proofs.lemmas.Bool.{cases_Bool, and_parts, and_from, or_cases, or_left, or_right, eq-eqb, eqb-true, ltb-true, lt-ltb}
use Rattle.std.proofs.lemmas.List.Elements.{Contains-append_left, Contains-append_right}
use Rattle.std.proofs.lemmas.List.FromFn.{length-range_with_len, get_or-range_with_len}
use Rattle.szg_values.specs.Men.{is_man, is_color, other_color}
use Rattle.szg_values.specs.Placement.{PlacedMan}
use Rattle.szg_values.specs.declared.Man.{Man}
use Rattle.szg_values.specs.declared.Man.TheVariants.{Pawn, Knight, Bishop, Rook, Queen, King}
use Rattle.szg_chess.specs.declared.Move.{Move}
use Rattle.szg_chess.specs.Attacks.{attacks}
use Rattle.szg_chess.specs.Position.{Position}
use Rattle.szg_chess.specs.Moves.{men_of, promotes, moves_to, moves_if, may_pass, en_passant_moves, captures_by, captures_of, may_enter, all_squares, quiet_moves_by, quiet_moves_of, moves_of, is_square, is_legal, legal_moves}
use Rattle.szg_chess.specs.Laws.{is_enemy_on, may_go, is_promotion, fits_rank, IsMoveOf}
use Rattle.szg_chess.proofs.Squares.{all_is}
use Rattle.szg_chess.proofs.Members.{any_of, some_of}
use Rattle.szg_chess.proofs.MoveFacts.{IsMove, legal_move}

-- ---- elements of lists that are made of others

contains_flat_map : {X A : Type 0} (f : X → List A) (xs : List X) (x : X) (y : A) → Contains xs x → Contains (f x) y → Contains (flat_map f xs) y
contains_flat_map f [] x y held inner = absurd (omega (arith, held.1))
contains_flat_map {X} {A} f (z ∷ xs) x y (zero, h, e) inner = Contains-append_left (f z) (flat_map f xs) y (subst (λ (w : X). Contains (f w) y) (sym e) inner)
contains_flat_map f (z ∷ xs) x y (suc k, h, e) inner = Contains-append_right (f z) (flat_map f xs) y (contains_flat_map f xs x y (k, omega arith, e) inner)

pub contains_filter : {X : Type 0} (test : X → Bool) (xs : List X) (x : X) → Contains xs x → test x ≡ true → Contains (filter test xs) x
contains_filter test [] x held t = absurd (omega (arith, held.1))
contains_filter {X} test (z ∷ xs) x (zero, h, e) t = let here : test z ≡ true = ap test e ∙ t in rw here (0, omega arith, e)
contains_filter {X} test (z ∷ xs) x (suc k, h, e) t =
    let rest = contains_filter test xs x (k, omega arith, e) t in
    elim (cases_Bool (test z)) [
      | inl pass ↦ rw pass (Contains-append_right (z ∷ []) (filter test xs) x rest)
      | inr fail ↦ rw fail rest
    ]

square_at_place : (n to : ℕ) → n ≡ 64 → to < n → Contains all_squares to
square_at_place n to e h =
    let size = length-range_with_len 0 n in
    let held : Contains (range_with_len 0 n) to = (to, omega (arith, size, h), get_or-range_with_len 0 n to to h ∙ zero-add to) in
    rw (all_is n e) held

-- ---- the moves of a man to a square

listed_to : (s : PlacedMan) (to : ℕ) (o : Option Man) → (if promotes s to then is_promotion o else is_none o) ≡ true → Contains (moves_to s to) (record { from = s.2; to = to; promotion = o })
listed_to s to None fits = elim (cases_Bool (promotes s to)) [
  | inl t ↦ let h = rw t at fits in absurd cc
  | inr f ↦ rw f (0, omega arith, refl)
]
listed_to s to (Some Pawn) fits = elim (cases_Bool (promotes s to)) [ inl t ↦ let h = rw t at fits in absurd cc | inr f ↦ let h = rw f at fits in absurd cc ]
listed_to s to (Some King) fits = elim (cases_Bool (promotes s to)) [ inl t ↦ let h = rw t at fits in absurd cc | inr f ↦ let h = rw f at fits in absurd cc ]
listed_to s to (Some Queen) fits = elim (cases_Bool (promotes s to)) [ inl t ↦ rw t (0, omega arith, refl) | inr f ↦ let h = rw f at fits in absurd cc ]
listed_to s to (Some Rook) fits = elim (cases_Bool (promotes s to)) [ inl t ↦ rw t (1, omega arith, refl) | inr f ↦ let h = rw f at fits in absurd cc ]
listed_to s to (Some Bishop) fits = elim (cases_Bool (promotes s to)) [ inl t ↦ rw t (2, omega arith, refl) | inr f ↦ let h = rw f at fits in absurd cc ]
listed_to s to (Some Knight) fits = elim (cases_Bool (promotes s to)) [ inl t ↦ rw t (3, omega arith, refl) | inr f ↦ let h = rw f at fits in absurd cc ]

listed_if : (b : Bool) (s : PlacedMan) (m : Move) → b ≡ true → m.from ≡ s.2 → fits_rank s m ≡ true → Contains (moves_if b s m.to) m
listed_if b s m t leaves fits =
    rw t (subst (λ (from : ℕ). Contains (moves_to s m.to) (record { from = from; to = m.to; promotion = m.promotion })) (sym leaves) (listed_to s m.to m.promotion fits))

-- ---- from the relation to the list

listed_taking : (p : Position) (s : PlacedMan) (m : Move) → m.from ≡ s.2 → fits_rank s m ≡ true → is_enemy_on p m.to ≡ true → attacks p.placed_men s m.to ≡ true → Contains (captures_by p s) m
listed_taking p s m leaves fits enemy attacked =
    let men = p.placed_men in
    let f : PlacedMan → List Move = λ t. moves_if (attacks men s t.2) s t.2 in
    let foe : PlacedMan → Bool = λ t. is_color (other_color p.mover) t.1 in
    let found = some_of (λ (t : PlacedMan). is_color (other_color p.mover) t.1 && t.2 == m.to) men enemy in
    let t = found.0 in
    let parts = and_parts (foe t) (t.2 == m.to) found.1.1 in
    let there : m.to ≡ t.2 = sym (eqb-true t.2 m.to parts.1) in
    let here : Contains (f t) m = subst (λ (square : ℕ). Contains (moves_if (attacks men s square) s square) m) there (listed_if (attacks men s m.to) s m attacked leaves fits) in
    Contains-append_left (flat_map f (men_of (other_color p.mover) men)) (en_passant_moves men p.en_passant s) m
    (contains_flat_map f (men_of (other_color p.mover) men) t m (contains_filter foe men t found.1.0 parts.0) here)

listed_en_passant : (men : List PlacedMan) (o : Option ℕ) (s : PlacedMan) (m : Move) → m.from ≡ s.2 → fits_rank s m ≡ true → is_square o m.to ≡ true → may_pass men s m.to ≡ true → Contains (en_passant_moves men o s) m
listed_en_passant men None s m leaves fits square may = absurd cc
listed_en_passant men (Some other) s m leaves fits square may =
    subst (λ (x : ℕ). Contains (moves_if (may_pass men s x) s x) m) (sym (eqb-true other m.to square)) (listed_if (may_pass men s m.to) s m may leaves fits)

listed_capture : (p : Position) (s : PlacedMan) (m : Move) → Contains p.placed_men s → is_color p.mover s.1 ≡ true → Contains (captures_by p s) m → Contains (moves_of p) m
unfolding captures_of
listed_capture p s m stands own held =
    Contains-append_left (captures_of p) (quiet_moves_of p) m (contains_flat_map (captures_by p) (men_of p.mover p.placed_men) s m (contains_filter (λ (u : PlacedMan). is_color p.mover u.1) p.placed_men s stands own) held)

listed_quiet : (p : Position) (s : PlacedMan) (m : Move) → Contains p.placed_men s → is_color p.mover s.1 ≡ true → m.from ≡ s.2 → fits_rank s m ≡ true → m.to < 64 → may_enter p.placed_men s m.to ≡ true → Contains (moves_of p) m
unfolding quiet_moves_of
listed_quiet p s m stands own leaves fits inside may =
    let f : ℕ → List Move = λ to. moves_if (may_enter p.placed_men s to) s to in
    Contains-append_right (captures_of p) (quiet_moves_of p) m
    (contains_flat_map (quiet_moves_by p.placed_men) (men_of p.mover p.placed_men) s m (contains_filter (λ (u : PlacedMan). is_color p.mover u.1) p.placed_men s stands own)
    (contains_flat_map f all_squares m.to m (square_at_place 64 m.to refl inside) (listed_if (may_enter p.placed_men s m.to) s m may leaves fits)))

listed : (p : Position) (m : Move) → IsMoveOf p m → Contains (moves_of p) m
listed p m move =
    let s = move.man in let men = p.placed_men in
    let taking = is_enemy_on p m.to && attacks men s m.to in
    let passing = is_square p.en_passant m.to && may_pass men s m.to in
    let entering = nat_lt m.to 64 && may_enter men s m.to in
    elim (or_cases taking (passing || entering) move.goes) [
      | inl takes ↦ let parts = and_parts (is_enemy_on p m.to) (attacks men s m.to) takes in listed_capture p s m move.stands move.own (listed_taking p s m move.leaves move.rank parts.0 parts.1)
      | inr other ↦ elim (or_cases passing entering other) [
        | inl passes ↦
            let parts = and_parts (is_square p.en_passant m.to) (may_pass men s m.to) passes in
            let f : PlacedMan → List Move = λ t. moves_if (attacks men s t.2) s t.2 in
            listed_capture p s m move.stands move.own (Contains-append_right (flat_map f (men_of (other_color p.mover) men)) (en_passant_moves men p.en_passant s) m (listed_en_passant men p.en_passant s m move.leaves move.rank parts.0 parts.1))
        | inr enters ↦ let parts = and_parts (nat_lt m.to 64) (may_enter men s m.to) enters in listed_quiet p s m move.stands move.own move.leaves move.rank (ltb-true m.to 64 parts.0) parts.1
      ]
    ]

-- ---- from the list to the relation

piece_promotes : (man : Man) → is_man Pawn man ≡ false → is_man King man ≡ false → is_promotion (Some man) ≡ true
piece_promotes Pawn a b = cc
piece_promotes Knight a b = refl
piece_promotes Bishop a b = refl
piece_promotes Rook a b = refl
piece_promotes Queen a b = refl
piece_promotes King a b = cc

fits : (p : Position) (m : Move) → (move : IsMove p m) → fits_rank move.man m ≡ true
fits p m move = elim move.rank [
  | inl promoted ↦ rw (promoted.reaches, promoted.is) (piece_promotes promoted.piece promoted.no_pawn promoted.no_king)
  | inr remains ↦ rw (remains.inner, remains.is) refl
]

goes : (p : Position) (m : Move) → (move : IsMove p m) → may_go p move.man m.to ≡ true
goes p m move =
    let s = move.man in let men = p.placed_men in
    let taking = is_enemy_on p m.to && attacks men s m.to in
    let passing = is_square p.en_passant m.to && may_pass men s m.to in
    let entering = nat_lt m.to 64 && may_enter men s m.to in
    elim move.way [
      | inl takes ↦
          let enemy = any_of (λ (u : PlacedMan). is_color (other_color p.mover) u.1 && u.2 == m.to) men takes.taken takes.stands (and_from (is_color (other_color p.mover) takes.taken.1) (takes.taken.2 == m.to) takes.enemy (eq-eqb takes.taken.2 m.to (sym takes.there))) in
          or_left taking (passing || entering) (and_from (is_enemy_on p m.to) (attacks men s m.to) enemy (ap (attacks men s) takes.there ∙ takes.attacked))
      | inr other ↦ or_right taking (passing || entering) (elim other [
        | inl passes ↦ or_left passing entering (and_from (is_square p.en_passant m.to) (may_pass men s m.to) (ap (λ (o : Option ℕ). is_square o m.to) passes.passed ∙ eq-eqb m.to m.to refl) passes.may)
        | inr enters ↦ or_right passing entering (and_from (nat_lt m.to 64) (may_enter men s m.to) (lt-ltb m.to 64 enters.inside) enters.may)
      ])
    ]

related : (p : Position) (m : Move) → IsMove p m → IsMoveOf p m
related p m move = record { man = move.man; stands = move.stands; own = move.own; leaves = move.from_is; goes = goes p m move; rank = fits p m move }

pub moves_law : (p : Position) (m : Move) → Contains (legal_moves p) m ↔ (IsMoveOf p m × (is_legal p m ≡ true))
moves_law p m = (
  λ held. let known = legal_move p m held in (related p m known.0, known.1),
  λ known. contains_filter (is_legal p) (moves_of p) m (listed p m known.0) known.1,
)
