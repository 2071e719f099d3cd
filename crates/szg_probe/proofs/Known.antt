-- When the tables say a class, and when they are true.
use Rattle.std.proofs.Common.{◌≡◌, ℕ, zero, suc, ◌<◌, ◌≤◌, List, [], ◌∷◌, length, map, refl, ap, ◌∙◌, subst, Bool, arith, inl, inr, Option, Some, None}
use Rattle.std.specs.Prelude.{◌||◌, ◌==◌, IsSome}
use Rattle.std.specs.List.{list_any}
use Rattle.std.proofs.lemmas.Bool.{cases_Bool, eqb-false}
use Rattle.szg_game.specs.Classes.{better, best_after}
use Rattle.szg_game.specs.Certified.{is_win}
use Rattle.szg_game.specs.declared.Class.{Class}
use Rattle.szg_game.specs.declared.Class.TheVariants.{Draw, Win}
use Rattle.szg_game.proofs.Graded.{one_class}
use Rattle.szg_game.proofs.Lists.{IsIn, in_all}
use Rattle.szg_chess.specs.declared.Move.{Move}
use Rattle.szg_chess.specs.Position.{Position, IsPosition}
use Rattle.szg_chess.specs.Moves.{after, legal_captures}
use Rattle.szg_probe.specs.Chess.{chess, ply_limit, ChessClass, without_right}
use Rattle.szg_probe.specs.Probing.{StoredClasses, stored_class, is_known_loss, all_known, best_capture, has_only_en_passant, class_from, probed_at, probed, AreTrue}
use Rattle.szg_probe.proofs.WithoutRight.{position_without}
use Rattle.szg_probe.proofs.Beside.{map_same}
use Rattle.szg_probe.proofs.Probed.{men_two, capture_fewer}

-- ---- known

abbrev pub Known : {A : Type 0} → Option A → Type 0
Known {A} o = (k : A) × (o ≡ Some k)

pub all_known_some : {A B : Type 0} (f : A → Option B) (xs : List A) → ((x : A) → IsIn xs x → Known (f x)) → Known (all_known (map f xs))
all_known_some f [] each = ([], refl)
all_known_some f (x ∷ xs) each =
    let here = each x (inl refl) in
    let rest = all_known_some f xs (λ y i. each y (inr i)) in
    (here.0 ∷ rest.0, rw (here.1, rest.1) refl)

best_known : {A : Type 0} (f : A → Option Class) (xs : List A) → ((x : A) → IsIn xs x → Known (f x)) → Known (best_capture (map f xs))
best_known f xs each = elim (cases_Bool (list_any is_known_loss (map f xs))) [
  | inl t ↦ (Win, rw t refl)
  | inr e ↦ (let r = all_known_some f xs each in (best_after r.0, rw (e, r.1) refl))
]

from_both : (only : Bool) (best stored : Option Class) → Known best → Known stored → Known (class_from only best stored)
from_both only best stored b s = elim (cases_Bool (is_win b.0 || only)) [
  | inl t ↦ (b.0, rw (b.1, t) refl)
  | inr f ↦ (better s.0 b.0, rw (b.1, f, s.1) refl)
]

-- each position of n men or fewer has a stored class
abbrev pub AreThere : StoredClasses → ℕ → Type 0
AreThere tables n = (q : Position) → IsPosition q → q.en_passant ≡ None → 2 < length q.placed_men → length q.placed_men ≤ n → IsSome (tables q.placed_men q.mover)

some_known : {A : Type 0} (o : Option A) → IsSome o → Known o
some_known None h = cc
some_known (Some k) h = (k, refl)

known_some : {A : Type 0} (o : Option A) → Known o → IsSome o
known_some None h = cc (h.1)
known_some (Some k) h = refl

stored_known : (tables : StoredClasses) (p : Position) → IsPosition p → AreThere tables (length p.placed_men) → Known (stored_class tables p)
stored_known tables p position there = elim (cases_Bool (length p.placed_men == 2)) [
  | inl t ↦ (Draw, rw t refl)
  | inr f ↦ (
      let differ = eqb-false (length p.placed_men) 2 f in
      let two = men_two p position in
      let r = some_known (tables p.placed_men p.mover) (there (without_right p) (position_without p position) refl (omega arith) (omega arith)) in
      (r.0, rw f r.1))
]

known_at : (tables : StoredClasses) (n : ℕ) (p : Position) → IsPosition p → length p.placed_men ≡ n → AreThere tables n → Known (probed_at n tables p)
unfolding probed_at
known_at tables zero p position size there = let two = men_two p position in absurd (omega arith)
known_at tables (suc n) p position size there =
    from_both (has_only_en_passant p) (best_capture (map (λ (m : Move). probed_at n tables (after p m)) (legal_captures p))) (stored_class tables p)
    (best_known (λ (m : Move). probed_at n tables (after p m)) (legal_captures p) (λ m i.
    let next = capture_fewer p position m i in
    let fewer = next.1 in
    known_at tables n (after p m) next.0 (omega arith) (λ q at none more few. there q at none more (omega arith))))
    (stored_known tables p position (λ q at none more few. there q at none more (omega arith)))

pub probed_known : (tables : StoredClasses) (p : Position) → IsPosition p → AreThere tables (length p.placed_men) → IsSome (probed tables p)
probed_known tables p position there = known_some (probed tables p) (known_at tables (length p.placed_men) p position refl there)

-- ---- true

pub true_by_classes : (tables : StoredClasses) (truth : Position → Class) → ((p : Position) → IsPosition p → ChessClass p (truth p)) →
    ((p : Position) (k : Class) → IsPosition p → p.en_passant ≡ None → tables p.placed_men p.mover ≡ Some k → truth p ≡ better k (best_after (map (λ m. truth (after p m)) (legal_captures p)))) →
    AreTrue tables
true_by_classes tables truth right stored p k position none there class have =
    let same = map_same (λ (m : Move). truth (after p m)) (λ m. class (after p m)) (legal_captures p) (λ m i.
    one_class chess ply_limit (after p m) (truth (after p m)) (class (after p m)) (right (after p m) (capture_fewer p position m i).0) (in_all (λ (n : Move). ChessClass (after p n) (class (after p n))) (legal_captures p) m have i)) in
    subst (ChessClass p) (stored p k position none there ∙ ap (λ (ks : List Class). better k (best_after ks)) same) (right p position)
