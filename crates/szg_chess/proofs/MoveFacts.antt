-- What a move of a position is: a man of the mover's, a square, and why it may go there.
use Rattle.std.proofs.Common.{◌≡◌, ℕ, ◌<◌, List, [], ◌∷◌, refl, Bool, true, false, arith, inl, inr, ◌⊎◌, Option, Some, None}
use Rattle.std.specs.Prelude.{flat_map}
use Rattle.std.specs.List.{All, Contains, range_with_len}
use Rattle.std.proofs.lemmas.Bool.{cases_Bool}
use Rattle.std.proofs.lemmas.List.Elements.{All-nil, All-cons, All-append, All-weaker, All-contains, All-filter, filter_passes}
use Rattle.std.proofs.lemmas.List.FromFn.{length-range_with_len, get_or-range_with_len}
use Rattle.szg_values.specs.Men.{is_man, is_color, other_color}
use Rattle.szg_values.specs.Placement.{PlacedMan}
use Rattle.szg_values.specs.declared.Man.{Man}
use Rattle.szg_values.specs.declared.Man.TheVariants.{Pawn, Knight, Bishop, Rook, Queen, King}
use Rattle.szg_chess.specs.declared.Move.{Move}
use Rattle.szg_chess.specs.Attacks.{attacks}
use Rattle.szg_chess.specs.Position.{Position}
use Rattle.szg_chess.specs.Moves.{men_of, promotes, moves_to, moves_if, may_pass, en_passant_moves, captures_by, captures_of, may_enter, all_squares, quiet_moves_by, quiet_moves_of, moves_of, is_legal, legal_moves}
use Rattle.szg_chess.proofs.Squares.{all_is}
use Rattle.szg_chess.proofs.Members.{All-flat_map, All-passing}

-- the man captures another
pub record Takes (p : Position) (s : PlacedMan) (to : ℕ) : Type 0 where
  pub taken : PlacedMan
  pub stands : Contains p.placed_men taken
  pub enemy : is_color (other_color p.mover) taken.1 ≡ true
  pub attacked : attacks p.placed_men s taken.2 ≡ true
  pub there : to ≡ taken.2

-- the man captures en passant
pub record Passes (p : Position) (s : PlacedMan) (to : ℕ) : Type 0 where
  pub passed : p.en_passant ≡ Some to
  pub may : may_pass p.placed_men s to ≡ true

-- the man goes to an empty square
pub record Enters (p : Position) (s : PlacedMan) (to : ℕ) : Type 0 where
  pub may : may_enter p.placed_men s to ≡ true
  pub inside : to < 64

abbrev pub Way : Position → PlacedMan → ℕ → Type 0
Way p s to = Takes p s to ⊎ (Passes p s to ⊎ Enters p s to)

-- what the man is promoted to
pub record Promotes (s : PlacedMan) (m : Move) : Type 0 where
  pub reaches : promotes s m.to ≡ true
  pub piece : Man
  pub is : m.promotion ≡ Some piece
  pub no_pawn : is_man Pawn piece ≡ false
  pub no_king : is_man King piece ≡ false

pub record Remains (s : PlacedMan) (m : Move) : Type 0 where
  pub inner : promotes s m.to ≡ false
  pub is : m.promotion ≡ None

-- a move of a man of the mover's, to a square where W says why
pub record Made (p : Position) (W : PlacedMan → ℕ → Type 0) (m : Move) : Type 0 where
  pub man : PlacedMan
  pub stands : Contains p.placed_men man
  pub own : is_color p.mover man.1 ≡ true
  pub from_is : m.from ≡ man.2
  pub rank : Promotes man m ⊎ Remains man m
  pub way : W man m.to

abbrev pub IsMove : Position → Move → Type 0
IsMove p m = Made p (Way p) m

abbrev pub Captures : Position → PlacedMan → ℕ → Type 0
Captures p s to = Takes p s to ⊎ Passes p s to

made_weaker : (p : Position) (V W : PlacedMan → ℕ → Type 0) → ((s : PlacedMan) (to : ℕ) → V s to → W s to) → (m : Move) → Made p V m → Made p W m
made_weaker p V W imply m made = record { man = made.man; stands = made.stands; own = made.own; from_is = made.from_is; rank = made.rank; way = imply made.man m.to made.way }

all_to : (p : Position) (W : PlacedMan → ℕ → Type 0) (s : PlacedMan) (to : ℕ) → Contains p.placed_men s → is_color p.mover s.1 ≡ true → W s to → All (Made p W) (moves_to s to)
all_to p W s to stands own way = elim (cases_Bool (promotes s to)) [
  | inl t ↦
      let move : Man → Move = λ piece. record { from = s.2; to = to; promotion = Some piece } in
      let promoted : (piece : Man) → is_man Pawn piece ≡ false → is_man King piece ≡ false → Made p W (move piece) =
      λ piece no_pawn no_king. record { man = s; stands = stands; own = own; from_is = refl; rank = inl (record { reaches = t; piece = piece; is = refl; no_pawn = no_pawn; no_king = no_king }); way = way } in
      rw t (All-cons (Made p W) (move Queen) (move Rook ∷ move Bishop ∷ move Knight ∷ []) (promoted Queen refl refl)
      (All-cons (Made p W) (move Rook) (move Bishop ∷ move Knight ∷ []) (promoted Rook refl refl)
      (All-cons (Made p W) (move Bishop) (move Knight ∷ []) (promoted Bishop refl refl)
      (All-cons (Made p W) (move Knight) [] (promoted Knight refl refl) (All-nil (Made p W))))))
  | inr f ↦
      let move : Move = record { from = s.2; to = to; promotion = None } in
      rw f (All-cons (Made p W) move [] (record { man = s; stands = stands; own = own; from_is = refl; rank = inr (record { inner = f; is = refl }); way = way }) (All-nil (Made p W)))
]

all_if : (p : Position) (W : PlacedMan → ℕ → Type 0) (b : Bool) (s : PlacedMan) (to : ℕ) → Contains p.placed_men s → is_color p.mover s.1 ≡ true → (b ≡ true → W s to) → All (Made p W) (moves_if b s to)
all_if p W true s to stands own way = all_to p W s to stands own (way refl)
all_if p W false s to stands own way = All-nil (Made p W)

all_en_passant : (p : Position) (o : Option ℕ) (s : PlacedMan) → p.en_passant ≡ o → Contains p.placed_men s → is_color p.mover s.1 ≡ true → All (Made p (Captures p)) (en_passant_moves p.placed_men o s)
all_en_passant p None s is stands own = All-nil (Made p (Captures p))
all_en_passant p (Some square) s is stands own = all_if p (Captures p) (may_pass p.placed_men s square) s square stands own (λ may. inr (record { passed = is; may = may }))

all_captures_by : (p : Position) (s : PlacedMan) → Contains p.placed_men s → is_color p.mover s.1 ≡ true → All (Made p (Captures p)) (captures_by p s)
all_captures_by p s stands own =
    let enemy : PlacedMan → Bool = λ t. is_color (other_color p.mover) t.1 in
    let f : PlacedMan → List Move = λ t. moves_if (attacks p.placed_men s t.2) s t.2 in
    let Enemy : PlacedMan → Type 0 = λ t. Contains p.placed_men t × (enemy t ≡ true) in
    let each : (t : PlacedMan) → Enemy t → All (Made p (Captures p)) (f t) =
    λ t held. all_if p (Captures p) (attacks p.placed_men s t.2) s t.2 stands own (λ attacked. inl (record { taken = t; stands = held.0; enemy = held.1; attacked = attacked; there = refl })) in
    All-append (Made p (Captures p)) (flat_map f (men_of (other_color p.mover) p.placed_men)) (en_passant_moves p.placed_men p.en_passant s)
    (All-flat_map f (Made p (Captures p)) (men_of (other_color p.mover) p.placed_men) (All-weaker Enemy (λ t. All (Made p (Captures p)) (f t)) each (men_of (other_color p.mover) p.placed_men) (All-passing enemy p.placed_men)))
    (all_en_passant p p.en_passant s refl stands own)

all_inside : (n : ℕ) → n ≡ 64 → All (λ to. to < n) all_squares
all_inside n e =
    let inside : All (λ (to : ℕ). to < n) (range_with_len 0 n) = λ k d h.
    let size = length-range_with_len 0 n in let at = get_or-range_with_len 0 n k d (omega (arith, size)) in omega (arith, at, size) in
    rw (all_is n e) inside

-- each move of a man to an empty square is one of this man
pub quiet_by : (p : Position) (s : PlacedMan) → Contains p.placed_men s → is_color p.mover s.1 ≡ true → All (Made p (λ u to. Enters p u to × (u ≡ s))) (quiet_moves_by p.placed_men s)
quiet_by p s stands own =
    let W : PlacedMan → ℕ → Type 0 = λ u to. Enters p u to × (u ≡ s) in
    let f : ℕ → List Move = λ to. moves_if (may_enter p.placed_men s to) s to in
    All-flat_map f (Made p W) all_squares (All-weaker (λ (to : ℕ). to < 64) (λ to. All (Made p W) (f to))
    (λ to inside. all_if p W (may_enter p.placed_men s to) s to stands own (λ may. (record { may = may; inside = inside }, refl))) all_squares (all_inside 64 refl))

all_quiet_by : (p : Position) (s : PlacedMan) → Contains p.placed_men s → is_color p.mover s.1 ≡ true → All (Made p (Enters p)) (quiet_moves_by p.placed_men s)
all_quiet_by p s stands own =
    let W : PlacedMan → ℕ → Type 0 = λ u to. Enters p u to × (u ≡ s) in
    All-weaker (Made p W) (Made p (Enters p)) (made_weaker p W (Enters p) (λ u to way. way.0)) (quiet_moves_by p.placed_men s) (quiet_by p s stands own)

-- each capture is one
pub all_captures : (p : Position) → All (Made p (Captures p)) (captures_of p)
unfolding captures_of
all_captures p =
    let own : PlacedMan → Bool = λ s. is_color p.mover s.1 in
    let Own : PlacedMan → Type 0 = λ s. Contains p.placed_men s × (own s ≡ true) in
    All-flat_map (captures_by p) (Made p (Captures p)) (men_of p.mover p.placed_men) (All-weaker Own (λ s. All (Made p (Captures p)) (captures_by p s)) (λ s held. all_captures_by p s held.0 held.1) (men_of p.mover p.placed_men) (All-passing own p.placed_men))

-- each other move goes to an empty square
pub all_quiet : (p : Position) → All (Made p (Enters p)) (quiet_moves_of p)
unfolding quiet_moves_of
all_quiet p =
    let own : PlacedMan → Bool = λ s. is_color p.mover s.1 in
    let Own : PlacedMan → Type 0 = λ s. Contains p.placed_men s × (own s ≡ true) in
    All-flat_map (quiet_moves_by p.placed_men) (Made p (Enters p)) (men_of p.mover p.placed_men) (All-weaker Own (λ s. All (Made p (Enters p)) (quiet_moves_by p.placed_men s)) (λ s held. all_quiet_by p s held.0 held.1) (men_of p.mover p.placed_men) (All-passing own p.placed_men))

as_way : (p : Position) (s : PlacedMan) (to : ℕ) → Captures p s to → Way p s to
as_way p s to way = elim way [ inl takes ↦ inl takes | inr passes ↦ inr (inl passes) ]

-- each move of a position is one
pub all_moves : (p : Position) → All (IsMove p) (moves_of p)
all_moves p = All-append (IsMove p) (captures_of p) (quiet_moves_of p)
    (All-weaker (Made p (Captures p)) (IsMove p) (made_weaker p (Captures p) (Way p) (as_way p)) (captures_of p) (all_captures p))
    (All-weaker (Made p (Enters p)) (IsMove p) (made_weaker p (Enters p) (Way p) (λ s to enters. inr (inr enters))) (quiet_moves_of p) (all_quiet p))

-- a legal move is a move, and leaves the mover's king unattacked
pub legal_move : (p : Position) (m : Move) → Contains (legal_moves p) m → IsMove p m × (is_legal p m ≡ true)
legal_move p m held = (
  All-contains (IsMove p) (legal_moves p) m (All-filter (is_legal p) (IsMove p) (moves_of p) (all_moves p)) held,
  All-contains (λ (n : Move). is_legal p n ≡ true) (legal_moves p) m (filter_passes (is_legal p) (moves_of p)) held,
)
