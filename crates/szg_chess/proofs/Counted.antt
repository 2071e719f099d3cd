-- A man's captures and its other moves are together at most its squares on an empty board: at most 116 moves in all.
use Rattle.std.proofs.Common.{◌≡◌, ℕ, ◌+◌, ◌*◌, ◌<◌, ◌≤◌, List, [], ◌∷◌, length, get_or, zero, suc, refl, sym, ap, ◌∙◌, Bool, true, false, arith, length-append, inl, inr, Option, Some, None}
use Rattle.std.specs.Prelude.{filter, flat_map, ◌&&◌, ◌||◌, ◌==◌, not, nat_le, if◌then◌else◌}
use Rattle.std.specs.List.{list_all, All, range_with_len}
use Rattle.std.proofs.lemmas.Bool.{cases_Bool, cases_eq, and_parts, leb-true, eqb-true, eq-eqb, ne_eqb}
use Rattle.std.proofs.lemmas.List.Elements.{All-head, All-tail, All-filter, All-weaker}
use Rattle.std.proofs.lemmas.List.Folds.{list_any_none}
use Rattle.std.proofs.lemmas.List.Sums.{length-filter}
use Rattle.szg_values.specs.Men.{is_man, is_color, other_color, rank_of}
use Rattle.szg_values.specs.Placement.{PlacedMan, AreOnBoard}
use Rattle.szg_values.specs.declared.Man.{Man}
use Rattle.szg_values.specs.declared.Man.TheVariants.{Pawn, Knight, Bishop, Rook, Queen, King}
use Rattle.szg_values.specs.declared.Color.{Color}
use Rattle.szg_values.specs.declared.Color.TheVariants.{White, Black}
use Rattle.szg_chess.specs.declared.Move.{Move}
use Rattle.szg_chess.specs.Attacks.{attacks, files_apart, is_straight, is_diagonal, is_clear, is_king_step, is_knight_jump, is_pawn_attack, is_occupied}
use Rattle.szg_chess.specs.Position.{Position}
use Rattle.szg_chess.specs.Moves.{men_of, moves_to, moves_if, en_passant_moves, captures_by, captures_of, may_enter, all_squares, quiet_moves_by, quiet_moves_of}
use Rattle.szg_chess.proofs.Facts.{IsFaultless, has_men_parts, one_king, some_of_color}
use Rattle.szg_chess.proofs.Squares.{all_is, at_square}
use Rattle.szg_chess.proofs.Bounds.{sides, few_to, one_en_passant, pawn_costs}
use Rattle.szg_chess.proofs.Different.{KeysDiffer, square_of, keys_filter, keys_men}

-- ---- sums

abbrev one_if : Bool → ℕ
one_if b = if b then 1 else 0

total : {X : Type 0} → (X → ℕ) → List X → ℕ
total cost [] = 0
total cost (x ∷ xs) = cost x + total cost xs

total_mono : {X : Type 0} (f g : X → ℕ) → (xs : List X) → All (λ x. f x ≤ g x) xs → total f xs ≤ total g xs
unfolding total
total_mono f g [] le = omega arith
total_mono {X} f g (x ∷ xs) le =
    let P : X → Type 0 = λ y. f y ≤ g y in
    let here = All-head P x xs le in let more = total_mono f g xs (All-tail P x xs le) in omega (arith, here, more)

total_add : {X : Type 0} (f g : X → ℕ) (xs : List X) → total (λ x. f x + g x) xs ≡ total f xs + total g xs
unfolding total
total_add f g [] = omega arith
total_add f g (x ∷ xs) = let more = total_add f g xs in omega (arith, more)

total_length : {X A : Type 0} (f : X → List A) (cost : X → ℕ) (xs : List X) → All (λ x. length (f x) ≤ cost x) xs → length (flat_map f xs) ≤ total cost xs
unfolding total
total_length f cost [] le = omega arith
total_length {X} f cost (x ∷ xs) le =
    let P : X → Type 0 = λ y. length (f y) ≤ cost y in
    let here = All-head P x xs le in let more = total_length f cost xs (All-tail P x xs le) in let size = length-append (f x) (flat_map f xs) in omega (arith, here, more, size)

total_times : {X : Type 0} (k : ℕ) (f : X → ℕ) (xs : List X) → total (λ x. k * f x) xs ≡ k * total f xs
unfolding total
total_times k f [] = omega arith
total_times k f (x ∷ xs) = let more = total_times k f xs in omega (arith, more)

-- a square is one of the squares
point_from : (r : ℕ → Bool) (x a n : ℕ) → a ≤ x → x < a + n → one_if (r x) ≤ total (λ to. one_if (r to && x == to)) (range_with_len a n)
unfolding total
point_from r x a zero low high = absurd (omega arith)
point_from r x a (suc n) low high = elim (cases_eq x a) [
  | inl here ↦ let e = eq-eqb x a here in let same = ap r here in rw (e, same) (elim (cases_Bool (r a)) [ inl t ↦ rw t (omega arith) | inr f ↦ rw f (omega arith) ])
  | inr away ↦ let more = point_from r x (a + 1) n (omega arith) (omega arith) in omega (arith, more)
]

point_at : (r : ℕ → Bool) (x n : ℕ) → n ≡ 64 → x < n → one_if (r x) ≤ total (λ to. one_if (r to && x == to)) all_squares
point_at r x n e h = rw (all_is n e) (point_from r x 0 n (omega arith) (omega arith))

-- men on different squares, of which those in reach are counted, are at most the occupied squares in reach
both_le : (r a b : Bool) → (a ≡ true → b ≡ false) → one_if (r && a) + one_if (r && b) ≤ one_if (r && (a || b))
both_le true true true apart = let h = apart refl in absurd cc
both_le true true false apart = omega arith
both_le true false true apart = omega arith
both_le true false false apart = omega arith
both_le false a b apart = omega arith

hits_le : (r : ℕ → Bool) (men : List PlacedMan) → KeysDiffer square_of men → AreOnBoard men → total (λ t. one_if (r t.2)) men ≤ total (λ to. one_if (r to && is_occupied men to)) all_squares
unfolding total
hits_le r [] keys inside = omega arith
hits_le r (x ∷ men) keys inside =
    let On : PlacedMan → Type 0 = λ s. s.2 < 64 in
    let more = hits_le r men keys.1 (All-tail On x men inside) in
    let here = point_at r x.2 64 refl (All-head On x men inside) in
    let f : ℕ → ℕ = λ to. one_if (r to && x.2 == to) in let g : ℕ → ℕ = λ to. one_if (r to && is_occupied men to) in
    let both = total_mono (λ to. f to + g to) (λ to. one_if (r to && (x.2 == to || is_occupied men to))) all_squares (λ k d h.
    let to = get_or all_squares k d in
    both_le (r to) (x.2 == to) (is_occupied men to) (λ e. list_any_none (λ (u : PlacedMan). u.2 == to) men (λ i c g. ne_eqb (get_or men i c).2 to (λ same. keys.0 i c g (eqb-true x.2 to e ∙ sym same))))) in
    let sum = total_add f g all_squares in
    omega (arith, more, here, both, sum)

-- men of one kind among the men occupy no more squares than all do
more_occupied : (test : PlacedMan → Bool) (men : List PlacedMan) (to : ℕ) → is_occupied (filter test men) to ≡ true → is_occupied men to ≡ true
more_occupied test [] to e = e
more_occupied test (x ∷ men) to e = elim (cases_Bool (x.2 == to)) [
  | inl t ↦ rw t refl
  | inr f ↦ rw f (more_occupied test men to (elim (cases_Bool (test x)) [
    | inl pass ↦ let h = rw (pass, f) at e in h
    | inr fail ↦ let h = rw fail at e in h
  ]))
]

-- ---- the squares in reach on an empty board

is_queen_line : ℕ → ℕ → Bool
is_queen_line from to = is_straight from to || is_diagonal from to

reach : Man → Color → ℕ → ℕ → Bool
reach Pawn color from to = is_pawn_attack color from to
reach Knight color from to = is_knight_jump from to
reach Bishop color from to = is_queen_line from to
reach Rook color from to = is_queen_line from to
reach Queen color from to = is_queen_line from to
reach King color from to = is_king_step from to

most : Man → ℕ
most Pawn = 2
most Knight = 27
most Bishop = 27
most Rook = 27
most Queen = 27
most King = 8

reaches_few : Man → Color → ℕ → Bool
reaches_few man color from = nat_le (total (λ to. one_if (reach man color from to)) all_squares) (most man)

white_pawns : list_all (reaches_few Pawn White) all_squares ≡ true
unfolding all_squares reaches_few total reach most
white_pawns = refl

black_pawns : list_all (reaches_few Pawn Black) all_squares ≡ true
unfolding all_squares reaches_few total reach most
black_pawns = refl

knights : list_all (reaches_few Knight White) all_squares ≡ true
unfolding all_squares reaches_few total reach most
knights = refl

queens : list_all (reaches_few Queen White) all_squares ≡ true
unfolding all_squares reaches_few total reach most is_queen_line
queens = refl

kings : list_all (reaches_few King White) all_squares ≡ true
unfolding all_squares reaches_few total reach most
kings = refl

all_reach : (man : Man) (color : Color) → list_all (reaches_few man color) all_squares ≡ true
unfolding reaches_few reach most
all_reach Pawn White = white_pawns
all_reach Pawn Black = black_pawns
all_reach Knight color = knights
all_reach Bishop color = queens
all_reach Rook color = queens
all_reach Queen color = queens
all_reach King color = kings

few_reached : (man : Man) (color : Color) (from : ℕ) → from < 64 → total (λ to. one_if (reach man color from to)) all_squares ≤ most man
unfolding reaches_few
few_reached man color from inside = leb-true (total (λ to. one_if (reach man color from to)) all_squares) (most man) (at_square (reaches_few man color) (all_reach man color) from inside)

or_r : (a b : Bool) → b ≡ true → (a || b) ≡ true
or_r true b e = refl
or_r false b e = e

or_l : (a b : Bool) → a ≡ true → (a || b) ≡ true
or_l true b e = refl
or_l false b e = cc

attacks_reach : (men : List PlacedMan) (man : Man) (color : Color) (from to : ℕ) → attacks men (man, color, from) to ≡ true → reach man color from to ≡ true
unfolding attacks reach is_queen_line
attacks_reach men Pawn color from to e = e
attacks_reach men Knight color from to e = e
attacks_reach men Bishop color from to e = or_r (is_straight from to) (is_diagonal from to) (and_parts (is_diagonal from to) (is_clear men from to) e).0
attacks_reach men Rook color from to e = or_l (is_straight from to) (is_diagonal from to) (and_parts (is_straight from to) (is_clear men from to) e).0
attacks_reach men Queen color from to e = (and_parts (is_straight from to || is_diagonal from to) (is_clear men from to) e).0
attacks_reach men King color from to e = e

-- ---- the moves of a man

abbrev takes : Position → PlacedMan → PlacedMan → List Move
takes p s t = moves_if (attacks p.placed_men s t.2) s t.2

abbrev enters : List PlacedMan → PlacedMan → ℕ → List Move
enters men s to = moves_if (may_enter men s to) s to

abbrev enemies : Position → List PlacedMan
enemies p = men_of (other_color p.mover) p.placed_men

abbrev reached : PlacedMan → ℕ → Bool
reached s to = reach s.0 s.1 s.2 to

some_moves : (b c : Bool) (k : ℕ) (moves : List Move) → (b ≡ true → c ≡ true) → length moves ≤ k → length (if b then moves else []) ≤ k * one_if c
some_moves true c k moves imply few = rw (imply refl) (omega (arith, few))
some_moves false c k moves imply few = omega arith

-- the enemy men in reach are at most the occupied squares in reach
hits : (p : Position) (s : PlacedMan) → IsFaultless p → AreOnBoard p.placed_men → total (λ t. one_if (reached s t.2)) (enemies p) ≤ total (λ to. one_if (reached s to && is_occupied p.placed_men to)) all_squares
hits p s known inside =
    let foe : PlacedMan → Bool = λ t. is_color (other_color p.mover) t.1 in let men = p.placed_men in
    let few = hits_le (reached s) (enemies p) (keys_filter square_of foe men (keys_men men known.apart)) (All-filter foe (λ (t : PlacedMan). t.2 < 64) men inside) in
    let more = total_mono (λ to. one_if (reached s to && is_occupied (enemies p) to)) (λ to. one_if (reached s to && is_occupied men to)) all_squares (λ k d h.
    let to = get_or all_squares k d in narrower (reached s to) (is_occupied (enemies p) to) (is_occupied men to) (more_occupied foe men to)) in
    omega (arith, few, more)
  where
    narrower : (r a b : Bool) → (a ≡ true → b ≡ true) → one_if (r && a) ≤ one_if (r && b)
    narrower true true b imply = let e = imply refl in rw e (omega arith)
    narrower true false b imply = omega arith
    narrower false a b imply = omega arith

captures_of_men : (p : Position) (s : PlacedMan) (k : ℕ) → ((to : ℕ) → length (moves_to s to) ≤ k) → length (flat_map (takes p s) (enemies p)) ≤ k * total (λ t. one_if (reached s t.2)) (enemies p)
captures_of_men p s k few =
    let le = total_length (takes p s) (λ t. k * one_if (reached s t.2)) (enemies p) (λ i d h.
    let t = get_or (enemies p) i d in some_moves (attacks p.placed_men s t.2) (reached s t.2) k (moves_to s t.2) (attacks_reach p.placed_men s.0 s.1 s.2 t.2) (few t.2)) in
    let times = total_times k (λ (t : PlacedMan). one_if (reached s t.2)) (enemies p) in
    omega (arith, le, times)

one_move : (s : PlacedMan) (to : ℕ) → is_man Pawn s.0 ≡ false → length (moves_to s to) ≤ 1
one_move s to piece = rw piece (omega arith)

no_pass : (men : List PlacedMan) (o : Option ℕ) (s : PlacedMan) → is_man Pawn s.0 ≡ false → length (en_passant_moves men o s) ≡ 0
no_pass men None s piece = refl
no_pass men (Some square) s piece = rw piece refl

enters_attacked : (men : List PlacedMan) (s : PlacedMan) (to : ℕ) → is_man Pawn s.0 ≡ false → may_enter men s to ≡ true → (reached s to && not (is_occupied men to)) ≡ true
unfolding may_enter
enters_attacked men s to piece may =
    let parts = and_parts (not (is_occupied men to)) (attacks men s to) (rw piece at may) in
    rw (attacks_reach men s.0 s.1 s.2 to parts.1, parts.0) refl

-- a piece: its captures and its other moves go to different squares in reach
piece_moves : (p : Position) (s : PlacedMan) → IsFaultless p → AreOnBoard p.placed_men → s.2 < 64 → is_man Pawn s.0 ≡ false → length (captures_by p s) + length (quiet_moves_by p.placed_men s) ≤ most s.0
piece_moves p s known inside on piece =
    let men = p.placed_men in
    let size = length-append (flat_map (takes p s) (enemies p)) (en_passant_moves men p.en_passant s) in
    let none = no_pass men p.en_passant s piece in
    let first = captures_of_men p s 1 (λ to. one_move s to piece) in
    let hit = hits p s known inside in
    let quiet = total_length (enters men s) (λ to. 1 * one_if (reached s to && not (is_occupied men to))) all_squares (λ k d h.
    let to = get_or all_squares k d in some_moves (may_enter men s to) (reached s to && not (is_occupied men to)) 1 (moves_to s to) (enters_attacked men s to piece) (one_move s to piece)) in
    let once = total_times 1 (λ to. one_if (reached s to && not (is_occupied men to))) all_squares in
    let sum = total_add (λ to. one_if (reached s to && is_occupied men to)) (λ to. one_if (reached s to && not (is_occupied men to))) all_squares in
    let both = total_mono (λ to. one_if (reached s to && is_occupied men to) + one_if (reached s to && not (is_occupied men to))) (λ to. one_if (reached s to)) all_squares (λ k d h.
    let to = get_or all_squares k d in either (reached s to) (is_occupied men to)) in
    let bound = few_reached s.0 s.1 s.2 on in
    omega (arith, size, none, first, hit, quiet, once, sum, both, bound)
  where
    either : (r o : Bool) → one_if (r && o) + one_if (r && not o) ≤ one_if r
    either true true = omega arith
    either true false = omega arith
    either false o = omega arith

-- as many of a list pass a test as it has items, at most
ones_few : {X : Type 0} (test : X → Bool) (xs : List X) → total (λ x. one_if (test x)) xs ≤ length xs
unfolding total
ones_few test [] = omega arith
ones_few test (x ∷ xs) = let more = ones_few test xs in elim (cases_Bool (test x)) [ inl t ↦ rw t (omega (arith, more)) | inr f ↦ rw f (omega (arith, more)) ]

-- a piece captures each enemy man at most once
piece_captures : (p : Position) (s : PlacedMan) → is_man Pawn s.0 ≡ false → length (captures_by p s) ≤ length (enemies p)
piece_captures p s piece =
    let size = length-append (flat_map (takes p s) (enemies p)) (en_passant_moves p.placed_men p.en_passant s) in
    let none = no_pass p.placed_men p.en_passant s piece in
    let first = captures_of_men p s 1 (λ to. one_move s to piece) in
    let few = ones_few (λ (t : PlacedMan). reached s t.2) (enemies p) in
    omega (arith, size, none, first, few)

-- a pawn captures each of at most two men in four ways at most, and en passant once
pawn_captures : (p : Position) (color : Color) (from : ℕ) → IsFaultless p → AreOnBoard p.placed_men → from < 64 →
    (length (captures_by p (Pawn, color, from)) ≤ 9) × (length (captures_by p (Pawn, color, from)) ≤ 4 * length (enemies p) + 1)
unfolding most
pawn_captures p color from known inside on =
    let s : PlacedMan = (Pawn, color, from) in let men = p.placed_men in
    let size = length-append (flat_map (takes p s) (enemies p)) (en_passant_moves men p.en_passant s) in
    let pass = one_en_passant men p.mover p.en_passant s known.sound in
    let first = captures_of_men p s 4 (few_to s) in
    let hit = hits p s known inside in
    let occupied = total_mono (λ to. one_if (reached s to && is_occupied men to)) (λ to. one_if (reached s to)) all_squares (λ k d h. let to = get_or all_squares k d in fewer (reached s to) (is_occupied men to)) in
    let bound = few_reached Pawn color from on in
    let few = ones_few (λ (t : PlacedMan). reached s t.2) (enemies p) in
    (omega (arith, size, pass, first, hit, occupied, bound), omega (arith, size, pass, first, few))
  where
    fewer : (r o : Bool) → one_if (r && o) ≤ one_if r
    fewer true true = omega arith
    fewer true false = omega arith
    fewer false o = omega arith

-- a pawn moves on the squares of its file
push_cost : ℕ → ℕ → ℕ
push_cost from to = if files_apart from to == 0 then (if rank_of to == 0 || rank_of to == 7 then 4 else 1) else 0

pushes_few : ℕ → Bool
pushes_few from = nat_le (total (push_cost from) all_squares) 14

all_pushes : list_all pushes_few all_squares ≡ true
unfolding all_squares pushes_few total push_cost
all_pushes = refl

pawn_enters : (men : List PlacedMan) (color : Color) (from to : ℕ) → length (enters men (Pawn, color, from) to) ≤ push_cost from to
unfolding may_enter push_cost
pawn_enters men color from to = pawn_costs (not (is_occupied men to)) (files_apart from to == 0) _ color from to

pawn_moves : (p : Position) (color : Color) (from : ℕ) → IsFaultless p → AreOnBoard p.placed_men → from < 64 → length (captures_by p (Pawn, color, from)) + length (quiet_moves_by p.placed_men (Pawn, color, from)) ≤ 26
unfolding pushes_few
pawn_moves p color from known inside on =
    let s : PlacedMan = (Pawn, color, from) in
    let few = (pawn_captures p color from known inside on).0 in
    let quiet = total_length (enters p.placed_men s) (push_cost from) all_squares (λ k d h. pawn_enters p.placed_men color from (get_or all_squares k d)) in
    let pushes = leb-true (total (push_cost from) all_squares) 14 (at_square pushes_few all_pushes from on) in
    omega (arith, few, quiet, pushes)

-- ---- all men

most_of : ℕ → ℕ → PlacedMan → ℕ
most_of king other s = if is_man King s.0 then king else other

moves_of_man : (p : Position) → IsFaultless p → AreOnBoard p.placed_men → (man : Man) (color : Color) (from : ℕ) → from < 64 → length (captures_by p (man, color, from)) + length (quiet_moves_by p.placed_men (man, color, from)) ≤ most_of 8 27 (man, color, from)
unfolding most_of most
moves_of_man p known inside Pawn color from on = let h = pawn_moves p color from known inside on in omega (arith, h)
moves_of_man p known inside Knight color from on = piece_moves p (Knight, color, from) known inside on refl
moves_of_man p known inside Bishop color from on = piece_moves p (Bishop, color, from) known inside on refl
moves_of_man p known inside Rook color from on = piece_moves p (Rook, color, from) known inside on refl
moves_of_man p known inside Queen color from on = piece_moves p (Queen, color, from) known inside on refl
moves_of_man p known inside King color from on = piece_moves p (King, color, from) known inside on refl

both_lengths : {X A : Type 0} (f g : X → List A) (cost : X → ℕ) (xs : List X) → All (λ x. length (f x) + length (g x) ≤ cost x) xs → length (flat_map f xs) + length (flat_map g xs) ≤ total cost xs
unfolding total
both_lengths f g cost [] le = omega arith
both_lengths {X} f g cost (x ∷ xs) le =
    let P : X → Type 0 = λ y. length (f y) + length (g y) ≤ cost y in
    let here = All-head P x xs le in let more = both_lengths f g cost xs (All-tail P x xs le) in
    let a = length-append (f x) (flat_map f xs) in let b = length-append (g x) (flat_map g xs) in
    omega (arith, here, more, a, b)

-- what the men of a colour have together at most, by its kings and the others
sum_of_most : (king other : ℕ) (color : Color) (men : List PlacedMan) →
    total (most_of king other) (men_of color men) + other * length (filter (λ s. is_man King s.0 && is_color color s.1) men)
    ≡ other * length (men_of color men) + king * length (filter (λ s. is_man King s.0 && is_color color s.1) men)
unfolding total most_of
sum_of_most king other color [] = omega arith
sum_of_most king other color (s ∷ men) =
    let more = sum_of_most king other color men in
    elim (cases_Bool (is_color color s.1)) [
      | inl own ↦ elim (cases_Bool (is_man King s.0)) [
        | inl king ↦ rw (own, king) (omega (arith, more))
        | inr other ↦ rw (own, other) (omega (arith, more))
      ]
      | inr foe ↦ elim (cases_Bool (is_man King s.0)) [
        | inl king ↦ rw (foe, king) more
        | inr other ↦ rw (foe, other) more
      ]
    ]

-- and with one king
most_together : (king other : ℕ) (p : Position) → IsFaultless p →
    total (most_of king other) (men_of p.mover p.placed_men) + other ≡ other * length (men_of p.mover p.placed_men) + king
most_together king other p known =
    let sum = sum_of_most king other p.mover p.placed_men in
    let count = length-filter (λ (s : PlacedMan). is_man King s.0 && is_color p.mover s.1) p.placed_men in
    let one = one_king p.placed_men (has_men_parts p.placed_men known.men) p.mover in
    let kings : length (filter (λ (s : PlacedMan). is_man King s.0 && is_color p.mover s.1) p.placed_men) ≡ 1 = omega (arith, count, one) in
    let h = rw kings at sum in
    omega (arith, h)

record Sides (p : Position) : Type 0 where
  few : length (men_of p.mover p.placed_men) + length (enemies p) ≤ 6
  enemy : 1 ≤ length (enemies p)

both_sides : (p : Position) → IsFaultless p → Sides p
both_sides p known =
    let men = has_men_parts p.placed_men known.men in
    let both = sides p.mover p.placed_men in
    let few = men.few in
    record { few = omega (arith, both, few); enemy = some_of_color p.placed_men men (other_color p.mover) }

-- a position has at most 116 moves
pub few_moves : (p : Position) → IsFaultless p → AreOnBoard p.placed_men → length (captures_of p) + length (quiet_moves_of p) ≤ 116
unfolding captures_of quiet_moves_of
few_moves p known inside =
    let own = men_of p.mover p.placed_men in
    let On : PlacedMan → Type 0 = λ s. s.2 < 64 in
    let on : All On own = All-filter (λ s. is_color p.mover s.1) On p.placed_men inside in
    let all = both_lengths (captures_by p) (quiet_moves_by p.placed_men) (most_of 8 27) own (All-weaker On (λ s. length (captures_by p s) + length (quiet_moves_by p.placed_men s) ≤ most_of 8 27 s) (λ s. moves_of_man p known inside s.0 s.1 s.2) own on) in
    let most = most_together 8 27 p known in
    let men = both_sides p known in
    let few = men.few in let enemy = men.enemy in
    omega (arith, all, most, few, enemy)

-- ---- captures

abbrev FewCaptures : Position → PlacedMan → Type 0
FewCaptures p s = (length (captures_by p s) ≤ most_of (length (enemies p)) 9 s) × (length (captures_by p s) ≤ most_of (length (enemies p)) (4 * length (enemies p) + 1) s)

of_piece : (p : Position) → IsFaultless p → (s : PlacedMan) → is_man Pawn s.0 ≡ false → (length (captures_by p s) ≤ 9) × (length (captures_by p s) ≤ 4 * length (enemies p) + 1)
of_piece p known s piece = let h = piece_captures p s piece in let few = (both_sides p known).few in (omega (arith, h, few), omega (arith, h))

captures_of_man : (p : Position) → IsFaultless p → AreOnBoard p.placed_men → (man : Man) (color : Color) (from : ℕ) → from < 64 → FewCaptures p (man, color, from)
unfolding most_of
captures_of_man p known inside Pawn color from on = pawn_captures p color from known inside on
captures_of_man p known inside King color from on = let h = piece_captures p (King, color, from) refl in (h, h)
captures_of_man p known inside Knight color from on = of_piece p known (Knight, color, from) refl
captures_of_man p known inside Bishop color from on = of_piece p known (Bishop, color, from) refl
captures_of_man p known inside Rook color from on = of_piece p known (Rook, color, from) refl
captures_of_man p known inside Queen color from on = of_piece p known (Queen, color, from) refl

-- n captures of a men, beside e enemies
few_of_few : (n a e : ℕ) → a + e ≤ 6 → 1 ≤ e → n + 9 ≤ 9 * a + e → n + (4 * e + 1) ≤ (4 * e + 1) * a + e → n ≤ 29
few_of_few n a zero few enemy first second = absurd (omega arith)
few_of_few n a (suc zero) few enemy first second = omega arith
few_of_few n a (suc (suc e)) few enemy first second = omega (arith, few, first)

-- a position has at most 29 captures: with four men against two, two by the king and nine by each pawn
pub few_captures : (p : Position) → IsFaultless p → AreOnBoard p.placed_men → length (captures_of p) ≤ 29
unfolding captures_of
few_captures p known inside =
    let own = men_of p.mover p.placed_men in let e = length (enemies p) in
    let On : PlacedMan → Type 0 = λ s. s.2 < 64 in
    let on : All On own = All-filter (λ s. is_color p.mover s.1) On p.placed_men inside in
    let first = total_length (captures_by p) (most_of e 9) own (All-weaker On (λ s. length (captures_by p s) ≤ most_of e 9 s) (λ s here. (captures_of_man p known inside s.0 s.1 s.2 here).0) own on) in
    let second = total_length (captures_by p) (most_of e (4 * e + 1)) own (All-weaker On (λ s. length (captures_by p s) ≤ most_of e (4 * e + 1) s) (λ s here. (captures_of_man p known inside s.0 s.1 s.2 here).1) own on) in
    let a = most_together e 9 p known in
    let b = most_together e (4 * e + 1) p known in
    let men = both_sides p known in
    few_of_few (length (flat_map (captures_by p) own)) (length own) e men.few men.enemy (omega (arith, first, a)) (omega (arith, second, b))
