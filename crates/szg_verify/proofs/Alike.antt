-- Steps that count alike: after a zeroing move only the class counts.
use Rattle.std.proofs.Common.{◌≡◌, ℕ, ◌+◌, List, [], ◌∷◌, refl, ap, ◌∙◌, Bool, true, false}
use Rattle.std.specs.Prelude.{not, ◌&&◌, ◌||◌}
use Rattle.std.specs.List.{list_any, list_all}
use Rattle.szg_game.specs.Game.{Move as Step, is_empty}
use Rattle.szg_game.specs.Certified.{accepts, accepts_as, is_win, is_loss, is_won, is_lost, makes_progress, lasts}
use Rattle.szg_game.specs.declared.Class.{Class}
use Rattle.szg_game.specs.declared.Class.TheVariants.{Loss, BlessedLoss, Draw, CursedWin, Win}
use Rattle.szg_game.specs.declared.Entry.{Entry}

pub record IsAlike (x y : Step Entry) : Type 0 where
  pub zeroing : x.1 ≡ y.1
  pub class : x.0.class ≡ y.0.class
  pub entry : x.1 ≡ false → x.0 ≡ y.0

abbrev pub AreAlike : List (Step Entry) → List (Step Entry) → Type 0
AreAlike [] [] = Unit {0}
AreAlike [] (y ∷ ys) = ⊥
AreAlike (x ∷ xs) [] = ⊥
AreAlike (x ∷ xs) (y ∷ ys) = IsAlike x y × AreAlike xs ys

-- a test that reads only the class after a zeroing move
abbrev ReadsClass : (Step Entry → Bool) → Type 0
ReadsClass t = (e f : Entry) → e.class ≡ f.class → t (e, true) ≡ t (f, true)

alike_by : (t : Step Entry → Bool) → ReadsClass t → (e f : Entry) (a b : Bool) → a ≡ b → e.class ≡ f.class → (a ≡ false → e ≡ f) → t (e, a) ≡ t (f, b)
alike_by t reads e f true true same class entry = reads e f class
alike_by t reads e f false false same class entry = ap (λ (g : Entry). t (g, false)) (entry refl)
alike_by t reads e f true false same class entry = cc
alike_by t reads e f false true same class entry = cc

alike_test : (t : Step Entry → Bool) → ReadsClass t → (x y : Step Entry) → IsAlike x y → t x ≡ t y
alike_test t reads x y h = alike_by t reads x.0 y.0 x.1 y.1 h.zeroing h.class h.entry

any_alike : (t : Step Entry → Bool) → ReadsClass t → (xs ys : List (Step Entry)) → AreAlike xs ys → list_any t xs ≡ list_any t ys
any_alike t reads [] [] h = refl
any_alike t reads [] (y ∷ ys) h = absurd h
any_alike t reads (x ∷ xs) [] h = absurd h
any_alike t reads (x ∷ xs) (y ∷ ys) h = ap (λ (b : Bool). b || list_any t xs) (alike_test t reads x y h.0) ∙ ap (λ (b : Bool). t y || b) (any_alike t reads xs ys h.1)

all_alike : (t : Step Entry → Bool) → ReadsClass t → (xs ys : List (Step Entry)) → AreAlike xs ys → list_all t xs ≡ list_all t ys
all_alike t reads [] [] h = refl
all_alike t reads [] (y ∷ ys) h = absurd h
all_alike t reads (x ∷ xs) [] h = absurd h
all_alike t reads (x ∷ xs) (y ∷ ys) h = ap (λ (b : Bool). b && list_all t xs) (alike_test t reads x y h.0) ∙ ap (λ (b : Bool). t y && b) (all_alike t reads xs ys h.1)

empty_alike : (xs ys : List (Step Entry)) → AreAlike xs ys → is_empty xs ≡ is_empty ys
empty_alike [] [] h = refl
empty_alike [] (y ∷ ys) h = absurd h
empty_alike (x ∷ xs) [] h = absurd h
empty_alike (x ∷ xs) (y ∷ ys) h = refl

module _ (limit : ℕ) (entry : Entry) (in_check : Bool) (xs ys : List (Step Entry)) (alike : AreAlike xs ys) where
  by_progress : (test : Class → Bool) → ReadsClass (λ m. test m.0.class && makes_progress entry m)
  by_progress test e f same = ap (λ (k : Class). test k && true) same

  by_lasting : (test : Class → Bool) (bound : ℕ) → ReadsClass (λ m. not (test m.0.class) || lasts bound m)
  by_lasting test bound e f same = ap (λ (k : Class). not (test k) || false) same

  by_class : (test : Class → Bool) → ReadsClass (λ m. not (test m.0.class))
  by_class test e f same = ap (λ (k : Class). not (test k)) same

  as_alike : (k : Class) → accepts_as k limit entry in_check xs ≡ accepts_as k limit entry in_check ys
  as_alike Win =
      let wins = any_alike (λ m. is_loss m.0.class && makes_progress entry m) (by_progress is_loss) xs ys alike in
      let sooner = all_alike (λ m. not (is_loss m.0.class) || lasts entry.lower m) (by_lasting is_loss entry.lower) xs ys alike in
      cc
  as_alike Loss =
      let empty = empty_alike xs ys alike in
      let loses = all_alike (λ m. is_win m.0.class && makes_progress entry m) (by_progress is_win) xs ys alike in
      let sooner = any_alike (λ m. not (is_win m.0.class) || lasts entry.lower m) (by_lasting is_win entry.lower) xs ys alike in
      cc
  as_alike CursedWin =
      let wins = any_alike (λ m. is_lost m.0.class && makes_progress entry m) (by_progress is_lost) xs ys alike in
      let sooner = all_alike (λ m. not (is_loss m.0.class) || lasts (limit + 1) m) (by_lasting is_loss (limit + 1)) xs ys alike in
      cc
  as_alike BlessedLoss =
      let empty = empty_alike xs ys alike in
      let loses = all_alike (λ m. is_won m.0.class && makes_progress entry m) (by_progress is_won) xs ys alike in
      let sooner = any_alike (λ m. not (is_win m.0.class) || lasts (limit + 1) m) (by_lasting is_win (limit + 1)) xs ys alike in
      cc
  as_alike Draw =
      let empty = empty_alike xs ys alike in
      let lost = all_alike (λ m. not (is_lost m.0.class)) (by_class is_lost) xs ys alike in
      let won = any_alike (λ m. not (is_won m.0.class)) (by_class is_won) xs ys alike in
      cc

  pub accepts_alike : accepts limit entry in_check xs ≡ accepts limit entry in_check ys
  accepts_alike = as_alike entry.class
