-- Geometry of the board under its symmetries.
use Rattle.std.proofs.Common.{◌≡◌, ℕ, ◌+◌, ◌<◌, ◌≤◌, refl, sym, ap, ◌∙◌, Bool, true, false, arith, inl, inr, ◌⊎◌}
use Rattle.std.specs.Prelude.{◌-◌, not, ◌&&◌, ◌||◌, ◌==◌, nat_lt, nat_le}
use Rattle.std.proofs.lemmas.Bool.{eqb-true, eq-eqb, ltb-true, lt-ltb}
use Rattle.std.proofs.Math.Bool.{or_comm, and_comm}
use Rattle.szg_values.specs.Men.{is_color, other_color, file_of, rank_of, square_at}
use Rattle.szg_values.specs.declared.Color.{Color}
use Rattle.szg_values.specs.declared.Color.TheVariants.{White, Black}
use Rattle.szg_chess.specs.Attacks.{distance, files_apart, ranks_apart, is_straight, is_diagonal, is_amid, is_between, is_ahead, is_king_step, is_knight_jump}
use Rattle.szg_chess.specs.Moves.{home_rank, double_rank, middle}
use Rattle.szg_chess.specs.Images.{Symmetry, Same, FlipFiles, FlipRanks, FlipDiagonal, ExchangeColors, square_image, color_image, keeps_pawns}

-- ---- tests with the same meaning

pub same_test : (a b : Bool) → (a ≡ true → b ≡ true) → (b ≡ true → a ≡ true) → a ≡ b
same_test true b there back = sym (there refl)
same_test false true there back = sym (sym (back refl))
same_test false false there back = refl

same_eqb : (a b c d : ℕ) → (a ≡ b → c ≡ d) → (c ≡ d → a ≡ b) → (a == b) ≡ (c == d)
same_eqb a b c d there back = same_test (a == b) (c == d) (λ e. eq-eqb c d (there (eqb-true a b e))) (λ e. eq-eqb a b (back (eqb-true c d e)))

same_lt : (a b c d : ℕ) → (a < b → c < d) → (c < d → a < b) → nat_lt a b ≡ nat_lt c d
same_lt a b c d there back = same_test (nat_lt a b) (nat_lt c d) (λ e. lt-ltb c d (there (ltb-true a b e))) (λ e. lt-ltb a b (back (ltb-true c d e)))

-- ---- files and ranks of an image

abbrev file_image : Symmetry → ℕ → ℕ → ℕ
file_image Same x y = x
file_image FlipFiles x y = 7 - x
file_image FlipRanks x y = x
file_image FlipDiagonal x y = y
file_image ExchangeColors x y = x

abbrev rank_image : Symmetry → ℕ → ℕ → ℕ
rank_image Same x y = y
rank_image FlipFiles x y = y
rank_image FlipRanks x y = 7 - y
rank_image FlipDiagonal x y = x
rank_image ExchangeColors x y = 7 - y

file_is : (f : Symmetry) (a : ℕ) → a < 64 → file_of (square_image f a) ≡ file_image f (file_of a) (rank_of a)
file_is Same a h = refl
file_is FlipFiles a h = omega arith
file_is FlipRanks a h = omega arith
file_is FlipDiagonal a h = omega arith
file_is ExchangeColors a h = omega arith

rank_is : (f : Symmetry) (a : ℕ) → a < 64 → rank_of (square_image f a) ≡ rank_image f (file_of a) (rank_of a)
rank_is Same a h = refl
rank_is FlipFiles a h = omega arith
rank_is FlipRanks a h = omega arith
rank_is FlipDiagonal a h = omega arith
rank_is ExchangeColors a h = omega arith

pub image_inside : (f : Symmetry) (a : ℕ) → a < 64 → square_image f a < 64
image_inside Same a h = h
image_inside FlipFiles a h = omega arith
image_inside FlipRanks a h = omega arith
image_inside FlipDiagonal a h = omega arith
image_inside ExchangeColors a h = omega arith

pub image_back : (f : Symmetry) (a : ℕ) → a < 64 → square_image f (square_image f a) ≡ a
image_back Same a h = refl
image_back FlipFiles a h = omega arith
image_back FlipRanks a h = omega arith
image_back FlipDiagonal a h = omega arith
image_back ExchangeColors a h = omega arith

pub same_square : (f : Symmetry) (a b : ℕ) → a < 64 → b < 64 → (square_image f a == square_image f b) ≡ (a == b)
same_square f a b ha hb = same_eqb (square_image f a) (square_image f b) a b (λ e. sym (image_back f a ha) ∙ ap (square_image f) e ∙ image_back f b hb) (ap (square_image f))

-- ---- lines

flipped : (x y : ℕ) → x ≤ 7 → y ≤ 7 → distance (7 - x) (7 - y) ≡ distance x y
flipped x y hx hy = omega arith

flipped_amid : (x y m : ℕ) → x ≤ 7 → y ≤ 7 → m ≤ 7 → is_amid (7 - x) (7 - y) (7 - m) ≡ is_amid x y m
flipped_amid x y m hx hy hm =
    let lt : (a b : ℕ) → a ≤ 7 → b ≤ 7 → nat_lt (7 - a) (7 - b) ≡ nat_lt b a = λ a b ha hb. same_lt (7 - a) (7 - b) b a (λ h. omega arith) (λ h. omega arith) in
    ap (λ (t : Bool). (t && nat_lt (7 - m) (7 - y)) || (nat_lt (7 - y) (7 - m) && nat_lt (7 - m) (7 - x))) (lt x m hx hm)
    ∙ ap (λ (t : Bool). (nat_lt m x && t) || (nat_lt (7 - y) (7 - m) && nat_lt (7 - m) (7 - x))) (lt m y hm hy)
    ∙ ap (λ (t : Bool). (nat_lt m x && nat_lt y m) || (t && nat_lt (7 - m) (7 - x))) (lt y m hy hm)
    ∙ ap (λ (t : Bool). (nat_lt m x && nat_lt y m) || (nat_lt m y && t)) (lt m x hm hx)
    ∙ ap (λ (t : Bool). t || (nat_lt m y && nat_lt x m)) (and_comm (nat_lt m x) (nat_lt y m))
    ∙ ap (λ (t : Bool). (nat_lt y m && nat_lt m x) || t) (and_comm (nat_lt m y) (nat_lt x m))
    ∙ or_comm (nat_lt y m && nat_lt m x) (nat_lt x m && nat_lt m y)

low_file : (a : ℕ) → file_of a ≤ 7
low_file a = omega arith

low_rank : (a : ℕ) → a < 64 → rank_of a ≤ 7
low_rank a h = omega arith

-- two squares are as far apart in files and in ranks as two others, or the other way round
pub record AreAlikeApart (a b c d : ℕ) : Type 0 where
  pub is : ((files_apart c d ≡ files_apart a b) × (ranks_apart c d ≡ ranks_apart a b)) ⊎ ((files_apart c d ≡ ranks_apart a b) × (ranks_apart c d ≡ files_apart a b))

files_between : (f : Symmetry) (a b : ℕ) → a < 64 → b < 64 → files_apart (square_image f a) (square_image f b) ≡ distance (file_image f (file_of a) (rank_of a)) (file_image f (file_of b) (rank_of b))
files_between f a b ha hb = ap (λ (x : ℕ). distance x (file_of (square_image f b))) (file_is f a ha) ∙ ap (distance (file_image f (file_of a) (rank_of a))) (file_is f b hb)

ranks_between : (f : Symmetry) (a b : ℕ) → a < 64 → b < 64 → ranks_apart (square_image f a) (square_image f b) ≡ distance (rank_image f (file_of a) (rank_of a)) (rank_image f (file_of b) (rank_of b))
ranks_between f a b ha hb = ap (λ (x : ℕ). distance x (rank_of (square_image f b))) (rank_is f a ha) ∙ ap (distance (rank_image f (file_of a) (rank_of a))) (rank_is f b hb)

pub apart : (f : Symmetry) (a b : ℕ) → a < 64 → b < 64 → AreAlikeApart a b (square_image f a) (square_image f b)
apart Same a b ha hb = record { is = inl (refl, refl) }
apart FlipFiles a b ha hb = record { is = inl (files_between FlipFiles a b ha hb ∙ flipped (file_of a) (file_of b) (low_file a) (low_file b), ranks_between FlipFiles a b ha hb) }
apart FlipRanks a b ha hb = record { is = inl (files_between FlipRanks a b ha hb, ranks_between FlipRanks a b ha hb ∙ flipped (rank_of a) (rank_of b) (low_rank a ha) (low_rank b hb)) }
apart FlipDiagonal a b ha hb = record { is = inr (files_between FlipDiagonal a b ha hb, ranks_between FlipDiagonal a b ha hb) }
apart ExchangeColors a b ha hb = record { is = inl (files_between ExchangeColors a b ha hb, ranks_between ExchangeColors a b ha hb ∙ flipped (rank_of a) (rank_of b) (low_rank a ha) (low_rank b hb)) }

same_both_ways : (x y : ℕ) → (x == y) ≡ (y == x)
same_both_ways x y = same_eqb x y y x sym sym

ends_flipped : (r : ℕ) → r ≤ 7 → ((7 - r == 0) || (7 - r == 7)) ≡ (r == 0 || r == 7)
ends_flipped r h = ap (λ (t : Bool). t || (7 - r == 7)) (same_eqb (7 - r) 0 r 7 (λ e. omega arith) (λ e. omega arith))
    ∙ ap (λ (t : Bool). (r == 7) || t) (same_eqb (7 - r) 7 r 0 (λ e. omega arith) (λ e. omega arith))
    ∙ or_comm (r == 7) (r == 0)

module _ (f : Symmetry) (a b : ℕ) (ha : a < 64) (hb : b < 64) where
  pub same_straight : is_straight (square_image f a) (square_image f b) ≡ is_straight a b
  same_straight = ap (λ (t : Bool). not t && (files_apart (square_image f a) (square_image f b) == 0 || ranks_apart (square_image f a) (square_image f b) == 0)) (same_square f a b ha hb)
      ∙ elim (apart f a b ha hb).is [
        | inl e ↦ rw (e.0, e.1) refl
        | inr e ↦ rw (e.0, e.1) (ap (λ (t : Bool). not (a == b) && t) (or_comm (ranks_apart a b == 0) (files_apart a b == 0)))
      ]

  pub same_diagonal : is_diagonal (square_image f a) (square_image f b) ≡ is_diagonal a b
  same_diagonal = ap (λ (t : Bool). not t && files_apart (square_image f a) (square_image f b) == ranks_apart (square_image f a) (square_image f b)) (same_square f a b ha hb)
      ∙ elim (apart f a b ha hb).is [
        | inl e ↦ rw (e.0, e.1) refl
        | inr e ↦ rw (e.0, e.1) (ap (λ (t : Bool). not (a == b) && t) (same_both_ways (ranks_apart a b) (files_apart a b)))
      ]

  pub same_king_step : is_king_step (square_image f a) (square_image f b) ≡ is_king_step a b
  same_king_step = ap (λ (t : Bool). not t && nat_le (files_apart (square_image f a) (square_image f b)) 1 && nat_le (ranks_apart (square_image f a) (square_image f b)) 1) (same_square f a b ha hb)
      ∙ elim (apart f a b ha hb).is [
        | inl e ↦ rw (e.0, e.1) refl
        | inr e ↦ rw (e.0, e.1) (and_last (not (a == b)) (nat_le (ranks_apart a b) 1) (nat_le (files_apart a b) 1))
      ]
    where
      and_last : (x y z : Bool) → (x && y && z) ≡ (x && z && y)
      and_last true y z = and_comm y z
      and_last false y z = refl

  pub same_knight_jump : is_knight_jump (square_image f a) (square_image f b) ≡ is_knight_jump a b
  same_knight_jump = elim (apart f a b ha hb).is [
    | inl e ↦ rw (e.0, e.1) refl
    | inr e ↦ rw (e.0, e.1) (exchanged (ranks_apart a b == 1) (files_apart a b == 2) (ranks_apart a b == 2) (files_apart a b == 1))
  ]
    where
      exchanged : (x y z w : Bool) → ((x && y) || (z && w)) ≡ ((w && z) || (y && x))
      exchanged x y z w = or_comm (x && y) (z && w) ∙ ap (λ (t : Bool). t || (x && y)) (and_comm z w) ∙ ap (λ (t : Bool). (w && z) || t) (and_comm x y)

-- ---- between two squares

-- whether m is between a and b, by their files and ranks, if neither is m
between_at : Bool → Bool → ℕ → ℕ → ℕ → ℕ → ℕ → ℕ → Bool
between_at am mb fa ra fb rb fm rm =
    (distance fa fm == 0 && distance fm fb == 0 && is_amid ra rb rm)
    || (distance ra rm == 0 && distance rm rb == 0 && is_amid fa fb fm)
    || ((not am && distance fa fm == distance ra rm) && (not mb && distance fm fb == distance rm rb) && is_amid fa fb fm && is_amid ra rb rm)

between_is : (a b m : ℕ) → is_between a b m ≡ between_at (a == m) (m == b) (file_of a) (rank_of a) (file_of b) (rank_of b) (file_of m) (rank_of m)
unfolding is_between between_at
between_is a b m = refl

between_exchanged : (am mb : Bool) (fa ra fb rb fm rm : ℕ) → between_at am mb ra fa rb fb rm fm ≡ between_at am mb fa ra fb rb fm rm
unfolding between_at
between_exchanged am mb fa ra fb rb fm rm =
    let x = distance fa fm == 0 && distance fm fb == 0 && is_amid ra rb rm in
    let y = distance ra rm == 0 && distance rm rb == 0 && is_amid fa fb fm in
    rw (same_both_ways (distance ra rm) (distance fa fm), same_both_ways (distance rm rb) (distance fm fb))
    (joined y x (not am && distance fa fm == distance ra rm) (not mb && distance fm fb == distance rm rb) (is_amid ra rb rm) (is_amid fa fb fm))
  where
    joined : (y x d e u v : Bool) → (y || x || (d && e && u && v)) ≡ (x || y || (d && e && v && u))
    joined y x false e u v = ap (λ (t : Bool). t || false) (or_comm y x)
    joined y x true false u v = ap (λ (t : Bool). t || false) (or_comm y x)
    joined y x true true u v = ap (λ (t : Bool). t || (u && v)) (or_comm y x) ∙ ap (λ (t : Bool). (x || y) || t) (and_comm u v)

between_image : (f : Symmetry) (am mb : Bool) (fa ra fb rb fm rm : ℕ) → fa ≤ 7 → ra ≤ 7 → fb ≤ 7 → rb ≤ 7 → fm ≤ 7 → rm ≤ 7 →
    between_at am mb (file_image f fa ra) (rank_image f fa ra) (file_image f fb rb) (rank_image f fb rb) (file_image f fm rm) (rank_image f fm rm) ≡ between_at am mb fa ra fb rb fm rm
unfolding between_at
between_image Same am mb fa ra fb rb fm rm hfa hra hfb hrb hfm hrm = refl
between_image FlipFiles am mb fa ra fb rb fm rm hfa hra hfb hrb hfm hrm = rw (flipped fa fm hfa hfm, flipped fm fb hfm hfb, flipped_amid fa fb fm hfa hfb hfm) refl
between_image FlipRanks am mb fa ra fb rb fm rm hfa hra hfb hrb hfm hrm = rw (flipped ra rm hra hrm, flipped rm rb hrm hrb, flipped_amid ra rb rm hra hrb hrm) refl
between_image FlipDiagonal am mb fa ra fb rb fm rm hfa hra hfb hrb hfm hrm = between_exchanged am mb fa ra fb rb fm rm
between_image ExchangeColors am mb fa ra fb rb fm rm hfa hra hfb hrb hfm hrm = rw (flipped ra rm hra hrm, flipped rm rb hrm hrb, flipped_amid ra rb rm hra hrb hrm) refl

pub same_between : (f : Symmetry) (a b m : ℕ) → a < 64 → b < 64 → m < 64 → is_between (square_image f a) (square_image f b) (square_image f m) ≡ is_between a b m
same_between f a b m ha hb hm =
    between_is (square_image f a) (square_image f b) (square_image f m)
    ∙ rw (same_square f a m ha hm, same_square f m b hm hb, file_is f a ha, rank_is f a ha, file_is f b hb, rank_is f b hb, file_is f m hm, rank_is f m hm)
    (between_image f (a == m) (m == b) (file_of a) (rank_of a) (file_of b) (rank_of b) (file_of m) (rank_of m) (low_file a) (low_rank a ha) (low_file b) (low_rank b hb) (low_file m) (low_rank m hm))
    ∙ sym (between_is a b m)

-- ---- colours

pub same_colors : (f : Symmetry) (c d : Color) → is_color (color_image f c) (color_image f d) ≡ is_color c d
same_colors Same c d = refl
same_colors FlipFiles c d = refl
same_colors FlipRanks c d = refl
same_colors FlipDiagonal c d = refl
same_colors ExchangeColors White White = refl
same_colors ExchangeColors White Black = refl
same_colors ExchangeColors Black White = refl
same_colors ExchangeColors Black Black = refl

pub other_image : (f : Symmetry) (c : Color) → other_color (color_image f c) ≡ color_image f (other_color c)
other_image Same c = refl
other_image FlipFiles c = refl
other_image FlipRanks c = refl
other_image FlipDiagonal c = refl
other_image ExchangeColors c = refl

pub color_back : (f : Symmetry) (c : Color) → color_image f (color_image f c) ≡ c
color_back Same c = refl
color_back FlipFiles c = refl
color_back FlipRanks c = refl
color_back FlipDiagonal c = refl
color_back ExchangeColors White = refl
color_back ExchangeColors Black = refl

-- ---- pawns

-- what a symmetry that keeps the pawns' direction keeps of two squares
pub record KeepsPawns (f : Symmetry) (color : Color) (a b : ℕ) : Type 0 where
  pub files : files_apart (square_image f a) (square_image f b) ≡ files_apart a b
  pub ranks : ranks_apart (square_image f a) (square_image f b) ≡ ranks_apart a b
  pub ahead : is_ahead (color_image f color) (square_image f a) (square_image f b) ≡ is_ahead color a b
  pub home : (rank_of (square_image f a) == home_rank (color_image f color)) ≡ (rank_of a == home_rank color)
  pub double : (rank_of (square_image f b) == double_rank (color_image f color)) ≡ (rank_of b == double_rank color)
  pub last : (rank_of (square_image f b) == 0 || rank_of (square_image f b) == 7) ≡ (rank_of b == 0 || rank_of b == 7)
  pub beside : square_at (file_of (square_image f b)) (rank_of (square_image f a)) ≡ square_image f (square_at (file_of b) (rank_of a))
  pub half : files_apart a b ≡ 0 → rank_of a ≡ home_rank color → rank_of b ≡ double_rank color → middle (square_image f a) (square_image f b) ≡ square_image f (middle a b)

pub pawns_kept : (f : Symmetry) (color : Color) (a b : ℕ) → keeps_pawns f ≡ true → a < 64 → b < 64 → KeepsPawns f color a b
pawns_kept Same color a b k ha hb = record { files = refl; ranks = refl; ahead = refl; home = refl; double = refl; last = refl; beside = refl; half = λ file home double. refl }
pawns_kept FlipFiles White a b k ha hb = record {
  files = files_between FlipFiles a b ha hb ∙ flipped (file_of a) (file_of b) (low_file a) (low_file b);
  ranks = ranks_between FlipFiles a b ha hb;
  ahead = rw (rank_is FlipFiles a ha, rank_is FlipFiles b hb) refl;
  home = rw (rank_is FlipFiles a ha) refl;
  double = rw (rank_is FlipFiles b hb) refl;
  last = rw (rank_is FlipFiles b hb) refl;
  beside = rw (rank_is FlipFiles a ha, file_is FlipFiles b hb) (omega arith);
  half = λ file home double. omega (arith, file, home, double);
}
pawns_kept FlipFiles Black a b k ha hb = record {
  files = files_between FlipFiles a b ha hb ∙ flipped (file_of a) (file_of b) (low_file a) (low_file b);
  ranks = ranks_between FlipFiles a b ha hb;
  ahead = rw (rank_is FlipFiles a ha, rank_is FlipFiles b hb) refl;
  home = rw (rank_is FlipFiles a ha) refl;
  double = rw (rank_is FlipFiles b hb) refl;
  last = rw (rank_is FlipFiles b hb) refl;
  beside = rw (rank_is FlipFiles a ha, file_is FlipFiles b hb) (omega arith);
  half = λ file home double. omega (arith, file, home, double);
}
pawns_kept FlipRanks color a b k ha hb = absurd (cc)
pawns_kept FlipDiagonal color a b k ha hb = absurd (cc)
pawns_kept ExchangeColors White a b k ha hb = record {
  files = files_between ExchangeColors a b ha hb;
  ranks = ranks_between ExchangeColors a b ha hb ∙ flipped (rank_of a) (rank_of b) (low_rank a ha) (low_rank b hb);
  ahead = rw (rank_is ExchangeColors a ha, rank_is ExchangeColors b hb) (same_eqb (7 - rank_of a) (7 - rank_of b + 1) (rank_of b) (rank_of a + 1) (λ e. omega arith) (λ e. omega arith));
  home = rw (rank_is ExchangeColors a ha) (same_eqb (7 - rank_of a) 6 (rank_of a) 1 (λ e. omega arith) (λ e. omega arith));
  double = rw (rank_is ExchangeColors b hb) (same_eqb (7 - rank_of b) 4 (rank_of b) 3 (λ e. omega arith) (λ e. omega arith));
  last = rw (rank_is ExchangeColors b hb) (ends_flipped (rank_of b) (low_rank b hb));
  beside = rw (rank_is ExchangeColors a ha, file_is ExchangeColors b hb) (omega arith);
  half = λ file home double. omega (arith, file, home, double);
}
pawns_kept ExchangeColors Black a b k ha hb = record {
  files = files_between ExchangeColors a b ha hb;
  ranks = ranks_between ExchangeColors a b ha hb ∙ flipped (rank_of a) (rank_of b) (low_rank a ha) (low_rank b hb);
  ahead = rw (rank_is ExchangeColors a ha, rank_is ExchangeColors b hb) (same_eqb (7 - rank_of b) (7 - rank_of a + 1) (rank_of a) (rank_of b + 1) (λ e. omega arith) (λ e. omega arith));
  home = rw (rank_is ExchangeColors a ha) (same_eqb (7 - rank_of a) 1 (rank_of a) 6 (λ e. omega arith) (λ e. omega arith));
  double = rw (rank_is ExchangeColors b hb) (same_eqb (7 - rank_of b) 3 (rank_of b) 4 (λ e. omega arith) (λ e. omega arith));
  last = rw (rank_is ExchangeColors b hb) (ends_flipped (rank_of b) (low_rank b hb));
  beside = rw (rank_is ExchangeColors a ha, file_is ExchangeColors b hb) (omega arith);
  half = λ file home double. omega (arith, file, home, double);
}
