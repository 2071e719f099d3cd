-- The single pass over men: those before a man stand on different squares, and their key is counted.
use Rattle.std.proofs.Common.{◌≡◌, ◌≢◌, ℕ, ◌+◌, ◌*◌, ◌^◌, ◌<◌, ◌≤◌, List, ◌∷◌, length, get_or, take, drop, drop-cons, suc, refl, sym, ap, ◌∙◌, subst, Bool, true, false, arith}
use Rattle.std.specs.Prelude.{not, ◌&&◌}
use Rattle.std.proofs.lemmas.List.{take_all, drop_all}
use Rattle.std.proofs.lemmas.List.Elements.{All-more}
use Rattle.szg_values.specs.Placement.{PlacedMan, AreOnBoard, has_distinct_squares, has_pawns_on_inner_ranks, is_barred, is_taken, men_key, colored_code}
use Rattle.szg_values.proofs.Sound.{are_free, apart_more}
use Rattle.szg_values.proofs.MenKeys.{key_more, key_small}

pub record AreStood (men : List PlacedMan) (i taken sum : ℕ) : Type 0 where
  pub key : sum ≡ men_key (take i men)
  pub small : sum ≤ i * 2 ^ 60
  pub apart : are_free taken (drop i men) ≡ true → has_distinct_squares (drop i men) ≡ true → has_distinct_squares men ≡ true
  pub inside : has_pawns_on_inner_ranks men ≡ has_pawns_on_inner_ranks (drop i men)
  pub on_board : AreOnBoard (take i men)

pub stood_none : (men : List PlacedMan) → AreStood men 0 0 0
stood_none men = record { key = refl; small = omega arith; apart = λ _ apart. apart; inside = refl; on_board = λ k d h. absurd (omega arith) }

next_inside : (men : List PlacedMan) (i : ℕ) (s : PlacedMan) → i < length men → s ≡ get_or men i s → is_barred s.0 s.2 ≡ false → has_pawns_on_inner_ranks (drop i men) ≡ has_pawns_on_inner_ranks (drop (i + 1) men)
next_inside men i s h e clear =
    let one : i + 1 ≡ suc i = omega arith in
    ap has_pawns_on_inner_ranks (drop-cons men i s h ∙ ap (λ (t : PlacedMan). t ∷ drop (suc i) men) (sym e) ∙ ap (λ (k : ℕ). s ∷ drop k men) (sym one))
    ∙ ap (λ (b : Bool). not b && has_pawns_on_inner_ranks (drop (i + 1) men)) clear

-- one man more, on a square that was free
pub stood_more : {men : List PlacedMan} {i taken sum : ℕ} (more one : ℕ) (s : PlacedMan) → AreStood men i taken sum → i < length men → s ≡ get_or men i s → s.2 < 64 →
    is_taken taken s.2 ≡ false → is_barred s.0 s.2 ≡ false → is_taken more s.2 ≡ true → ((other : ℕ) → other ≢ s.2 → is_taken more other ≡ is_taken taken other) →
    one ≡ 8 ^ colored_code s.0 s.1 → AreStood men (i + 1) more (sum + one)
stood_more {men} {i} {taken} {sum} more one s known h e inside clear free here others key = record {
  key = key_more men i s h e sum one known.key key;
  small = let a = known.small in let b = key_small s.0 s.1 in omega (arith, a, b, key);
  apart = λ unused apart. let before = apart_more taken more s.2 men i s h e refl clear here others unused apart in known.apart before.0 before.1;
  inside = known.inside ∙ next_inside men i s h e free;
  on_board = All-more (λ (t : PlacedMan). t.2 < 64) men i s h known.on_board (subst (λ (t : PlacedMan). t.2 < 64) e inside);
}

-- all men stand
pub record Stood (men : List PlacedMan) (sum : ℕ) : Type 0 where
  pub key : sum ≡ men_key men
  pub apart : has_distinct_squares men ≡ true
  pub inside : has_pawns_on_inner_ranks men ≡ true
  pub on_board : AreOnBoard men

pub stood_all : {men : List PlacedMan} {i taken sum : ℕ} → AreStood men i taken sum → length men ≤ i → Stood men sum
stood_all {men} {i} {taken} {sum} known whole =
    let all = take_all i men whole in let none = drop_all i men whole in record {
      key = known.key ∙ ap men_key all;
      apart = known.apart (ap (are_free taken) none) (ap has_distinct_squares none);
      inside = known.inside ∙ ap has_pawns_on_inner_ranks none;
      on_board = rw all at known.on_board;
    }
