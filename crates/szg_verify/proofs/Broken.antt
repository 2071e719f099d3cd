-- An entry that is not accepted breaks a condition.
use Rattle.std.proofs.Common.{◌≡◌, ℕ, ◌+◌, List, [], ◌∷◌, refl, sym, ap, ◌∙◌, Bool, true, false, arith, Option, Some, None}
use Rattle.std.specs.Prelude.{IfSome, IsTrue, not, ◌&&◌, ◌||◌, ◌==◌, nat_lt, leb, if◌then◌else◌}
use Rattle.std.specs.List.{list_all, list_any}
use Rattle.szg_game.specs.Game.{Move as Step, is_empty}
use Rattle.szg_game.specs.Certified.{accepts, accepts_as, is_loss, is_lost, is_win, is_won, lasts, makes_progress, wins_no_sooner, loses_no_sooner, wins_by, loses_by}
use Rattle.szg_game.specs.declared.Class.{Class}
use Rattle.szg_game.specs.declared.Class.TheVariants.{Loss, BlessedLoss, Draw, CursedWin, Win}
use Rattle.szg_game.specs.declared.Entry.{Entry}
use Rattle.szg_chess.specs.Position.{Position}
use Rattle.szg_chess.specs.Moves.{is_check}
use Rattle.szg_probe.specs.Chess.{ply_limit}
use Rattle.szg_verify.specs.declared.conditions.Condition.{Condition}
use Rattle.szg_verify.specs.declared.conditions.Condition.TheVariants.{NoNumber, NoNumberAfter}
use Rattle.szg_verify.specs.Entries.{StoredTables, is_drawn, keeps, plain_entry}
use Rattle.szg_verify.proofs.Checked.{all_steps}
use Rattle.szg_verify.specs.Conditions.{breaks, breaks_at, breaks_from, comes_sooner, is_out_of_range, is_still, has_better_move, has_no_move_that_keeps, is_within}

-- some element fails, or each passes
any_not : {A : Type 0} (f g : A → Bool) → ((x : A) → g x ≡ not (f x)) → (xs : List A) → list_any g xs ≡ not (list_all f xs)
any_not f g e [] = refl
any_not f g e (x ∷ xs) = let here = e x in let rest = any_not f g e xs in rw (here, rest) (both (f x) (list_all f xs))
  where
    both : (a b : Bool) → (not a || not b) ≡ not (a && b)
    both true b = refl
    both false b = refl

all_not : {A : Type 0} (f g : A → Bool) → ((x : A) → g x ≡ not (f x)) → (xs : List A) → list_all g xs ≡ not (list_any f xs)
all_not f g e [] = refl
all_not f g e (x ∷ xs) = let here = e x in let rest = all_not f g e xs in rw (here, rest) (both (f x) (list_any f xs))
  where
    both : (a b : Bool) → (not a && not b) ≡ not (a || b)
    both true b = refl
    both false b = refl

all_both : {A : Type 0} (f g : A → Bool) (xs : List A) → list_all (λ x. f x && g x) xs ≡ (list_all f xs && list_all g xs)
all_both f g [] = refl
all_both f g (x ∷ xs) = let rest = all_both f g xs in rw rest (four (f x) (g x) (list_all f xs) (list_all g xs))
  where
    four : (a b c d : Bool) → ((a && b) && (c && d)) ≡ ((a && c) && (b && d))
    four true true c d = refl
    four true false true d = refl
    four true false false d = refl
    four false b c d = refl

not_or : (a b : Bool) → (not a || b) ≡ not (a && not b)
not_or true true = refl
not_or true false = refl
not_or false b = refl

-- What is left of an accepted win or loss, where nothing else fails: l and u are its bounds, s says that no move comes sooner.
win_left : (limit l u : ℕ) (w s : Bool) → not w ≡ false → (nat_lt limit u || u == 0 && true) ≡ false → (leb 1 u && leb u limit && w && (leb l 1 || s)) ≡ false → (true && not s || false) ≡ true
win_left limit l u w s a b c = grind arith

loss_left : (limit l u : ℕ) (w s : Bool) → w ≡ true → (nat_lt limit u || u == 0 && true) ≡ false → (leb u limit && (false || (leb 1 u && (true && w) && (leb l 1 || s)))) ≡ false → (false || true && not s) ≡ true
loss_left limit l u w s a b c = grind arith

two : (a c : Bool) → not a ≡ false → not c ≡ false → (a && c) ≡ true
two true true x y = refl
two true false x y = sym y
two false c x y = sym x

one : (a : Bool) → not a ≡ false → a ≡ true
one true x = refl
one false x = sym x

clash : (w s : Bool) → w ≡ true → s ≡ true → (w && s) ≡ false → false ≡ true
clash w s a b c = sym c ∙ rw (a, b) refl

sooner_as : (k : Class) (limit : ℕ) (e : Entry) (b : Bool) (next : List (Step Entry)) → is_empty next ≡ false → accepts_as k limit e b next ≡ false →
    ((is_win k || is_loss k) && (nat_lt limit e.upper || e.upper == 0 && not (is_empty next))) ≡ false → has_better_move limit k next ≡ false → has_no_move_that_keeps limit k next ≡ false →
    (if is_won k then not (list_any (λ m. keeps k m.0.class && makes_progress e m) next) else not (is_drawn k) && not (list_all (makes_progress e) next)) ≡ false →
    (is_win k && not (wins_no_sooner e.lower next) || is_loss k && not (loses_no_sooner e.lower next)) ≡ true
sooner_as k limit e b [] empty refused range better none still = absurd cc
sooner_as Win limit e b (m ∷ ms) empty refused range better none still =
    win_left limit e.lower e.upper (wins_by is_loss e (m ∷ ms)) (wins_no_sooner e.lower (m ∷ ms)) still range refused
sooner_as Loss limit e b (m ∷ ms) empty refused range better none still =
    loss_left limit e.lower e.upper (list_all (λ x. is_win x.0.class && makes_progress e x) (m ∷ ms)) (loses_no_sooner e.lower (m ∷ ms))
    (all_both (λ x. is_win x.0.class) (makes_progress e) (m ∷ ms) ∙ two (list_all (λ x. is_win x.0.class) (m ∷ ms)) (list_all (makes_progress e) (m ∷ ms)) better still) range refused
sooner_as CursedWin limit e b (m ∷ ms) empty refused range better none still =
    clash (wins_by is_lost e (m ∷ ms)) (wins_no_sooner (limit + 1) (m ∷ ms)) (one (wins_by is_lost e (m ∷ ms)) still)
    (all_not (λ x. is_loss x.0.class && is_within limit x) (λ x. not (is_loss x.0.class) || lasts (limit + 1) x) (λ x. not_or (is_loss x.0.class) (lasts (limit + 1) x)) (m ∷ ms) ∙ ap not better) refused
sooner_as BlessedLoss limit e b (m ∷ ms) empty refused range better none still =
    clash (loses_by is_won e (m ∷ ms)) (loses_no_sooner (limit + 1) (m ∷ ms))
    (all_both (λ x. is_won x.0.class) (makes_progress e) (m ∷ ms) ∙ two (list_all (λ x. is_won x.0.class) (m ∷ ms)) (list_all (makes_progress e) (m ∷ ms)) better still)
    (any_not (λ x. is_win x.0.class && is_within limit x) (λ x. not (is_win x.0.class) || lasts (limit + 1) x) (λ x. not_or (is_win x.0.class) (lasts (limit + 1) x)) (m ∷ ms) ∙ ap not none) refused
sooner_as Draw limit e b (m ∷ ms) empty refused range better none still =
    clash (list_all (λ x. not (is_lost x.0.class)) (m ∷ ms)) (list_any (λ x. not (is_won x.0.class)) (m ∷ ms))
    (all_not (λ x. is_lost x.0.class) (λ x. not (is_lost x.0.class)) (λ x. refl) (m ∷ ms) ∙ ap not better)
    (any_not (λ x. is_won x.0.class) (λ x. not (is_won x.0.class)) (λ x. refl) (m ∷ ms) ∙ ap not none) refused

-- where nothing else fails, the game ends sooner than the entry says
pub sooner : (limit : ℕ) (e : Entry) (b : Bool) (next : List (Step Entry)) → is_empty next ≡ false → accepts limit e b next ≡ false → is_out_of_range limit e next ≡ false →
    has_better_move limit e.class next ≡ false → has_no_move_that_keeps limit e.class next ≡ false → is_still e next ≡ false → comes_sooner e next ≡ true
sooner limit e b next empty refused range better none still = sooner_as e.class limit e b next empty refused range better none still

module _ (tables : StoredTables) (p : Position) where
  pub no_number : plain_entry tables p ≡ None → breaks tables p NoNumber ≡ true
  unfolding breaks
  no_number none = ap (λ (o : Option Entry). breaks_from (is_check p) o (all_steps tables p) NoNumber) none

  pub no_number_after : (e : Entry) → plain_entry tables p ≡ Some e → all_steps tables p ≡ None → breaks tables p NoNumberAfter ≡ true
  unfolding breaks
  no_number_after e there none = ap (λ (o : Option Entry). breaks_from (is_check p) o (all_steps tables p) NoNumberAfter) there ∙ ap (λ (o : Option (List (Step Entry))). breaks_from (is_check p) (Some e) o NoNumberAfter) none

  -- what an entry and the entries after its moves break, the position breaks
  pub broken_with : (e : Entry) (next steps : List (Step Entry)) (b : Bool) (o : Option Condition) → plain_entry tables p ≡ Some e → all_steps tables p ≡ Some next → b ≡ is_check p → steps ≡ next →
      IfSome o (λ c. IsTrue (breaks_at ply_limit e b steps c)) → IfSome o (λ c. IsTrue (breaks tables p c))
  unfolding breaks
  broken_with e next steps b None there after check same h = h
  broken_with e next steps b (Some c) there after check same h =
      ap (λ (o : Option Entry). breaks_from (is_check p) o (all_steps tables p) c) there
      ∙ ap (λ (o : Option (List (Step Entry))). breaks_from (is_check p) (Some e) o c) after
      ∙ sym (ap (λ (x : Bool). breaks_at ply_limit e x next c) check)
      ∙ sym (ap (λ (xs : List (Step Entry)). breaks_at ply_limit e b xs c) same)
      ∙ h
