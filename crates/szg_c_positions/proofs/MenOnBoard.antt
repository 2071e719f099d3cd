-- The men of a board, square by square.
use Rattle.std.proofs.Common.{◌≡◌, ◌∙◌, ◌<◌, ◌≤◌, ◌+◌, ◌-◌, ◌++◌, ◌∷◌, [], ℕ, List, zero, suc, true, false, ap, refl, arith, length, length-append}
use Rattle.std.specs.Prelude.{flat_map, if◌then◌else◌}
use Rattle.std.specs.List.{range_with_len}
use Rattle.std.proofs.lemmas.List.{append-nil}
use Rattle.std.proofs.lemmas.List.Concat.{flat_map-append}
use Rattle.szg_chess.specs.Moves.{all_squares}
use Rattle.szg_chess.specs.Squares.{is_in}
use Rattle.szg_chess.proofs.Squares.{all_is}
use Rattle.szg_chess.proofs.Pushing.{range_more, range_split}
use Rattle.szg_c_positions.specs.declared.boards.RawBoard.{RawBoard}
use Rattle.szg_c_positions.specs.declared.men.RawMan.{RawMan}
use Rattle.szg_c_positions.specs.Boards.{man_on}

-- the man on a square of a set
abbrev pub piece : RawBoard → ℕ → ℕ → List RawMan
piece b squares square = if is_in squares square then man_on b square ∷ [] else []

-- the men on the squares below n
abbrev pub so_far : RawBoard → ℕ → ℕ → List RawMan
so_far b squares n = flat_map (piece b squares) (range_with_len 0 n)

one_more : (b : RawBoard) (squares n : ℕ) → so_far b squares (n + 1) ≡ so_far b squares n ++ piece b squares n
one_more b squares n =
    ap (flat_map (piece b squares)) (range_more n)
    ∙ flat_map-append (piece b squares) (range_with_len 0 n) (n ∷ [])
    ∙ ap (λ (ys : List RawMan). so_far b squares n ++ ys) (append-nil (piece b squares n))

there : (b : RawBoard) (squares n : ℕ) → is_in squares n ≡ true → piece b squares n ≡ man_on b n ∷ []
there b squares n h = rw h refl

empty : (b : RawBoard) (squares n : ℕ) → is_in squares n ≡ false → piece b squares n ≡ []
empty b squares n h = rw h refl

pub with_man : (b : RawBoard) (squares n : ℕ) → is_in squares n ≡ true → so_far b squares (n + 1) ≡ so_far b squares n ++ man_on b n ∷ []
with_man b squares n h = one_more b squares n ∙ ap (λ (ys : List RawMan). so_far b squares n ++ ys) (there b squares n h)

without : (b : RawBoard) (squares n : ℕ) → is_in squares n ≡ false → so_far b squares (n + 1) ≡ so_far b squares n
without b squares n h = one_more b squares n ∙ ap (λ (ys : List RawMan). so_far b squares n ++ ys) (empty b squares n h) ∙ append-nil (so_far b squares n)

skip_some : (b : RawBoard) (squares n k : ℕ) → ((square : ℕ) → n ≤ square → square < n + k → is_in squares square ≡ false) → so_far b squares (n + k) ≡ so_far b squares n
skip_some b squares n zero h = let e : n + 0 ≡ n = omega arith in ap (so_far b squares) e
skip_some b squares n (suc k) h =
    let e : n + suc k ≡ (n + k) + 1 = omega arith in
    ap (so_far b squares) e ∙ without b squares (n + k) (h (n + k) (omega arith) (omega arith)) ∙ skip_some b squares n k (λ square from before. h square from (omega (arith, before)))

-- squares that are not in the set have no men
pub skip : (b : RawBoard) (squares n m : ℕ) → n ≤ m → ((square : ℕ) → n ≤ square → square < m → is_in squares square ≡ false) → so_far b squares m ≡ so_far b squares n
skip b squares n m le h =
    let e : m ≡ n + (m - n) = omega (arith, le) in
    ap (so_far b squares) e ∙ skip_some b squares n (m - n) (λ square from before. h square from (omega (arith, le, before)))

more_at : (b : RawBoard) (squares n m : ℕ) → m ≡ 64 → n < m → is_in squares n ≡ true → length (so_far b squares n) < length (flat_map (piece b squares) all_squares)
more_at b squares n m e h is =
    let split = range_split m n h in
    let f = piece b squares in
    let whole : length (flat_map f all_squares) ≡ length (so_far b squares n) + length (f n ++ flat_map f split.0) =
    ap (λ (ys : List ℕ). length (flat_map f ys)) (all_is m e ∙ split.1) ∙ ap length (flat_map-append f (range_with_len 0 n) (n ∷ split.0))
    ∙ length-append (so_far b squares n) (f n ++ flat_map f split.0) in
    let rest = length-append (f n) (flat_map f split.0) in
    let one = ap length (there b squares n is) in
    omega (arith, whole, rest, one)

-- the men on the squares below one of the set are not all
pub more_than : (b : RawBoard) (squares n : ℕ) → n < 64 → is_in squares n ≡ true → length (so_far b squares n) < length (flat_map (piece b squares) all_squares)
more_than b squares n h is = more_at b squares n 64 refl h is
