-- The tables of squares.
use Rattle.std.proofs.Common.{◌≡◌, ℕ, [], ◌+◌, ◌*◌, ◌/◌, ◌%◌, ◌^◌, ◌<◌, zero, suc, refl, sym, ap, ◌∙◌, Bool, true, false, arith, zero-add}
use Rattle.std.specs.Prelude.{◌==◌, ◌&&◌, slice_index, if◌then◌else◌}
use Rattle.std.specs.Int.{bit_at}
use Rattle.std.specs.List.{list_all, range_with_len}
use Rattle.std.proofs.lemmas.Bool.{eqb-true, and_parts}
use Rattle.std.proofs.lemmas.Nat.Bits.{bit_at-zero}
use Rattle.szg_values.specs.Men.{is_man, is_color, code_of, file_of}
use Rattle.szg_values.specs.declared.Man.{Man}
use Rattle.szg_values.specs.declared.Man.TheVariants.{Pawn, Knight, Bishop, Rook, Queen, King}
use Rattle.szg_values.specs.declared.Color.{Color}
use Rattle.szg_values.specs.declared.Color.TheVariants.{White, Black}
use Rattle.szg_chess.specs.Attacks.{attacks, is_between}
use Rattle.szg_chess.specs.Squares.{is_in, set_below, squares_between, reach_of}
use Rattle.szg_chess.specs.Moves.{all_squares}
use Rattle.szg_chess.specs.declared.tables.TheConstants.{REACH, BETWEEN}
use Rattle.szg_chess.proofs.Sets.{in_set}
use Rattle.szg_chess.proofs.Squares.{at_square}

abbrev is_between_set : ℕ → Bool
is_between_set n = slice_index BETWEEN n == squares_between (n / 64) (n % 64)

-- the table is computed in parts, since each computation may take so many steps only
abbrev is_part : ℕ → Type 0
is_part k = list_all is_between_set (range_with_len (256 * k) 256) ≡ true

part0 : is_part 0
unfolding is_between set_below
part0 = refl

part1 : is_part 1
unfolding is_between set_below
part1 = refl

part2 : is_part 2
unfolding is_between set_below
part2 = refl

part3 : is_part 3
unfolding is_between set_below
part3 = refl

part4 : is_part 4
unfolding is_between set_below
part4 = refl

part5 : is_part 5
unfolding is_between set_below
part5 = refl

part6 : is_part 6
unfolding is_between set_below
part6 = refl

part7 : is_part 7
unfolding is_between set_below
part7 = refl

part8 : is_part 8
unfolding is_between set_below
part8 = refl

part9 : is_part 9
unfolding is_between set_below
part9 = refl

part10 : is_part 10
unfolding is_between set_below
part10 = refl

part11 : is_part 11
unfolding is_between set_below
part11 = refl

part12 : is_part 12
unfolding is_between set_below
part12 = refl

part13 : is_part 13
unfolding is_between set_below
part13 = refl

part14 : is_part 14
unfolding is_between set_below
part14 = refl

part15 : is_part 15
unfolding is_between set_below
part15 = refl

part : (k : ℕ) → k < 16 → is_part k
part zero h = part0
part (suc zero) h = part1
part (suc (suc zero)) h = part2
part (suc (suc (suc zero))) h = part3
part (suc (suc (suc (suc zero)))) h = part4
part (suc (suc (suc (suc (suc zero))))) h = part5
part (suc (suc (suc (suc (suc (suc zero)))))) h = part6
part (suc (suc (suc (suc (suc (suc (suc zero))))))) h = part7
part (suc (suc (suc (suc (suc (suc (suc (suc zero)))))))) h = part8
part (suc (suc (suc (suc (suc (suc (suc (suc (suc zero))))))))) h = part9
part (suc (suc (suc (suc (suc (suc (suc (suc (suc (suc zero)))))))))) h = part10
part (suc (suc (suc (suc (suc (suc (suc (suc (suc (suc (suc zero))))))))))) h = part11
part (suc (suc (suc (suc (suc (suc (suc (suc (suc (suc (suc (suc zero)))))))))))) h = part12
part (suc (suc (suc (suc (suc (suc (suc (suc (suc (suc (suc (suc (suc zero))))))))))))) h = part13
part (suc (suc (suc (suc (suc (suc (suc (suc (suc (suc (suc (suc (suc (suc zero)))))))))))))) h = part14
part (suc (suc (suc (suc (suc (suc (suc (suc (suc (suc (suc (suc (suc (suc (suc zero))))))))))))))) h = part15
part (suc (suc (suc (suc (suc (suc (suc (suc (suc (suc (suc (suc (suc (suc (suc (suc k)))))))))))))))) h = absurd (omega (arith, h))

range_test : (test : ℕ → Bool) (a n : ℕ) → list_all test (range_with_len a n) ≡ true → (i : ℕ) → i < n → test (a + i) ≡ true
range_test test a zero e i h = absurd (omega arith)
range_test test a (suc n) e zero h = let z : a + 0 ≡ a = omega arith in ap test z ∙ (and_parts (test a) (list_all test (range_with_len (a + 1) n)) e).0
range_test test a (suc n) e (suc i) h =
    let z : a + suc i ≡ (a + 1) + i = omega arith in
    ap test z ∙ range_test test (a + 1) n (and_parts (test a) (list_all test (range_with_len (a + 1) n)) e).1 i (omega arith)

pub between_read : (a b : ℕ) → a < 64 → b < 64 → slice_index BETWEEN (64 * a + b) ≡ squares_between a b
between_read a b h k =
    let n = 64 * a + b in
    let file : n / 64 ≡ a = omega arith in let rank : n % 64 ≡ b = omega arith in
    let whole : 256 * (n / 256) + n % 256 ≡ n = omega arith in
    let e = range_test is_between_set (256 * (n / 256)) 256 (part (n / 256) (omega arith)) (n % 256) (omega arith) in
    eqb-true (slice_index BETWEEN n) (squares_between (n / 64) (n % 64)) (ap is_between_set (sym whole) ∙ e)
    ∙ ap (λ (x : ℕ). squares_between x (n % 64)) file ∙ ap (squares_between a) rank

abbrev is_row : ℕ → Man → Color → ℕ → Bool
is_row number man color from = slice_index REACH (64 * number + from) == reach_of (man, color, from)

black_pawn : list_all (is_row 0 Pawn Black) all_squares ≡ true
unfolding attacks set_below all_squares
black_pawn = refl

white_pawn : list_all (is_row 1 Pawn White) all_squares ≡ true
unfolding attacks set_below all_squares
white_pawn = refl

knight : list_all (is_row 2 Knight White) all_squares ≡ true
unfolding attacks set_below all_squares
knight = refl

bishop : list_all (is_row 3 Bishop White) all_squares ≡ true
unfolding attacks set_below all_squares
bishop = refl

rook : list_all (is_row 4 Rook White) all_squares ≡ true
unfolding attacks set_below all_squares
rook = refl

queen : list_all (is_row 5 Queen White) all_squares ≡ true
unfolding attacks set_below all_squares
queen = refl

king : list_all (is_row 6 King White) all_squares ≡ true
unfolding attacks set_below all_squares
king = refl

read : (number : ℕ) (man : Man) (color : Color) → list_all (is_row number man color) all_squares ≡ true → (from : ℕ) → from < 64 → slice_index REACH (64 * number + from) ≡ reach_of (man, color, from)
read number man color all from h = eqb-true (slice_index REACH (64 * number + from)) (reach_of (man, color, from)) (at_square (is_row number man color) all from h)

no_row : list_all (λ from. slice_index REACH (64 * 7 + from) == 0) all_squares ≡ true
unfolding all_squares
no_row = refl

pub reach_read : (man : Man) (color : Color) (from : ℕ) → from < 64 → slice_index REACH (64 * (if is_man Pawn man && is_color Black color then 0 else code_of man) + from) ≡ reach_of (man, color, from)
unfolding attacks
reach_read Pawn White from h = read 1 Pawn White white_pawn from h
reach_read Pawn Black from h = read 0 Pawn Black black_pawn from h
reach_read Knight color from h = read 2 Knight White knight from h
reach_read Bishop color from h = read 3 Bishop White bishop from h
reach_read Rook color from h = read 4 Rook White rook from h
reach_read Queen color from h = read 5 Queen White queen from h
reach_read King color from h = read 6 King White king from h

-- the sets of a man, or the empty ones
pub reach_by_read : (own : Bool) (man : Man) (color : Color) (from square : ℕ) → from < 64 → square < 64 →
    is_in (slice_index REACH (64 * (if own then (if is_man Pawn man && is_color Black color then 0 else code_of man) else 7) + from)) square ≡ (own && attacks [] (man, color, from) square)
reach_by_read true man color from square h inside = ap (λ (n : ℕ). is_in n square) (reach_read man color from h) ∙ in_set (attacks [] (man, color, from)) square inside
reach_by_read false man color from square h inside =
    ap (λ (n : ℕ). is_in n square) (eqb-true (slice_index REACH (64 * 7 + from)) 0 (at_square (λ (n : ℕ). slice_index REACH (64 * 7 + n) == 0) no_row from h)) ∙ ap (λ (n : ℕ). n == 1) (bit_at-zero square)

-- the squares of a file
abbrev is_filed : ℕ → Bool
is_filed n = bit_at (0x0101010101010101 * 2 ^ (n / 64) % 2 ^ 64) (n % 64) == (if file_of (n % 64) == n / 64 then 1 else 0)

filed : list_all is_filed (range_with_len 0 512) ≡ true
filed = refl

one_if : (b : Bool) → ((if b then 1 else 0) == 1) ≡ b
one_if true = refl
one_if false = refl

pub of_file : (file square : ℕ) → file < 8 → square < 64 → is_in (0x0101010101010101 * 2 ^ file % 2 ^ 64) square ≡ (file_of square == file)
of_file file square few inside =
    let n = 64 * file + square in
    let high : n / 64 ≡ file = omega arith in let low : n % 64 ≡ square = omega arith in
    let e = ap is_filed (sym (zero-add n)) ∙ range_test is_filed 0 512 filed n (omega arith) in
    ap (λ (k : ℕ). k == 1) (ap (λ (k : ℕ). bit_at (0x0101010101010101 * 2 ^ k % 2 ^ 64) square) (sym high) ∙ ap (bit_at (0x0101010101010101 * 2 ^ (n / 64) % 2 ^ 64)) (sym low)
    ∙ eqb-true (bit_at (0x0101010101010101 * 2 ^ (n / 64) % 2 ^ 64) (n % 64)) (if file_of (n % 64) == n / 64 then 1 else 0) e)
    ∙ one_if (file_of (n % 64) == n / 64) ∙ ap (λ (q : ℕ). file_of q == n / 64) low ∙ ap (λ (k : ℕ). file_of square == k) high
