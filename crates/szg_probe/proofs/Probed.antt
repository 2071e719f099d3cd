-- What true tables say of a position is its class.
use Rattle.std.proofs.Common.{◌≡◌, ℕ, zero, suc, ◌+◌, ◌≤◌, List, [], ◌∷◌, length, map, refl, sym, ap, ◌∙◌, subst, Bool, true, false, arith, inl, inr, ◌⊎◌, Option, Some, None}
use Rattle.std.specs.Prelude.{◌||◌, ◌==◌, leb, option_map, unwrap_or, if◌then◌else◌}
use Rattle.std.specs.List.{list_any}
use Rattle.std.proofs.lemmas.Bool.{cases_Bool, eqb-true, both_ways}
use Rattle.szg_game.specs.Classes.{level, negate, better, best_after}
use Rattle.szg_game.specs.Certified.{is_win}
use Rattle.szg_game.specs.declared.Class.{Class}
use Rattle.szg_game.specs.declared.Class.TheVariants.{Loss, BlessedLoss, Draw, CursedWin, Win}
use Rattle.szg_game.proofs.Lists.{IsIn, contains_in, some_in_map}
use Rattle.szg_chess.specs.declared.Move.{Move}
use Rattle.szg_chess.specs.Position.{Position, IsPosition}
use Rattle.szg_chess.specs.Moves.{after, is_capture, legal_moves, legal_captures}
use Rattle.szg_chess.proofs.Facts.{faultless, has_men_parts}
use Rattle.szg_chess.proofs.AfterMove.{after_is_position}
use Rattle.szg_chess.proofs.Captured.{captured_law}
use Rattle.szg_probe.specs.Chess.{ChessClass, without_right}
use Rattle.szg_probe.specs.Probing.{StoredClasses, stored_class, is_known_loss, all_known, best_capture, has_only_en_passant, class_from, probed_at, probed, IsTrueFor, AreTrue}
use Rattle.szg_probe.proofs.WithoutRight.{position_without, capture_in}
use Rattle.szg_probe.proofs.Kings.{TwoKings, kings_after, kings_draw}
use Rattle.szg_probe.proofs.Beside.{CapturesHave, capture_wins, only_captures_class, only_en_passant, have_without, class_beside}

-- ---- what is known of a list

-- the class, if it is known
unfoldable pub known_class : Option Class → Class
known_class o = unwrap_or o Loss

loss_is : (o : Option Class) → is_known_loss o ≡ true → o ≡ Some Loss
loss_is None e = cc
loss_is (Some Loss) e = refl
loss_is (Some BlessedLoss) e = cc
loss_is (Some Draw) e = cc
loss_is (Some CursedWin) e = cc
loss_is (Some Win) e = cc

known_step : (o : Option Class) (rest : Option (List Class)) (ks : List (Option Class)) (js : List Class) → all_known (o ∷ ks) ≡ Some js → all_known ks ≡ rest →
    (tail : List Class) × (o ≡ Some (known_class o)) × (rest ≡ Some tail) × (js ≡ known_class o ∷ tail)
unfolding known_class
known_step None rest ks js e r = cc
known_step (Some k) None ks js e r = let h = rw r at e in cc
known_step (Some k) (Some tail) ks js e r = let h = rw r at e in (tail, refl, refl, cc)

pub all_known_parts : {A : Type 0} (f : A → Option Class) (xs : List A) (js : List Class) → all_known (map f xs) ≡ Some js →
    (js ≡ map (λ x. known_class (f x)) xs) × ((x : A) → IsIn xs x → f x ≡ Some (known_class (f x)))
all_known_parts f [] js e = (cc, λ x i. absurd i)
all_known_parts {A} f (x ∷ xs) js e =
    let step = known_step (f x) (all_known (map f xs)) (map f xs) js e refl in
    let more = all_known_parts f xs step.0 step.2 in
    (step.3 ∙ ap (λ (ks : List Class). known_class (f x) ∷ ks) more.0, each step.1 more.1)
  where
    each : f x ≡ Some (known_class (f x)) → ((y : A) → IsIn xs y → f y ≡ Some (known_class (f y))) → (y : A) → IsIn (x ∷ xs) y → f y ≡ Some (known_class (f y))
    each here there y (inl same) = subst (λ (z : A). f z ≡ Some (known_class (f z))) same here
    each here there y (inr i) = there y i

-- ---- wins

win_either : (a b : Class) → is_win (better a b) ≡ true → (is_win a ≡ true) ⊎ (is_win b ≡ true)
win_either a b e = elim (cases_Bool (leb (level a) (level b))) [ inl t ↦ inr (rw t at e) | inr f ↦ inl (rw f at e) ]

win_negated : (k : Class) → is_win (negate k) ≡ true → k ≡ Loss
win_negated Loss e = refl
win_negated BlessedLoss e = cc
win_negated Draw e = cc
win_negated CursedWin e = cc
win_negated Win e = cc

win_is : (k : Class) → is_win k ≡ true → k ≡ Win
win_is Loss e = cc
win_is BlessedLoss e = cc
win_is Draw e = cc
win_is CursedWin e = cc
win_is Win e = refl

win_from : {A : Type 0} (f : A → Class) (xs : List A) → is_win (best_after (map f xs)) ≡ true → (x : A) × IsIn xs x × (f x ≡ Loss)
win_from f [] e = cc
win_from f (x ∷ xs) e = elim (win_either (negate (f x)) (best_after (map f xs)) e) [
  | inl h ↦ (x, inl refl, win_negated (f x) h)
  | inr h ↦ (let r = win_from f xs h in (r.0, inr r.1, r.2))
]

class_from_parts : (only : Bool) (best : Class) (stored : Option Class) (k : Class) → class_from only (Some best) stored ≡ Some k →
    ((is_win best ≡ true) × (best ≡ k)) ⊎ (((only ≡ true) × (best ≡ k)) ⊎ ((only ≡ false) × (s : Class) × (stored ≡ Some s) × (better s best ≡ k)))
class_from_parts only best stored k e = elim (cases_Bool (is_win best)) [
  | inl w ↦ (let h : Some best ≡ Some k = rw w at e in inl (w, cc))
  | inr f ↦ inr (by_only only stored (rw f at e))
]
  where
    by_only : (only : Bool) (stored : Option Class) → (if false || only then Some best else option_map (λ s. better s best) stored) ≡ Some k →
        ((only ≡ true) × (best ≡ k)) ⊎ ((only ≡ false) × (s : Class) × (stored ≡ Some s) × (better s best ≡ k))
    by_only true stored h = inl (refl, cc)
    by_only false None h = cc
    by_only false (Some s) h = inr (refl, s, refl, cc)

-- ---- a position

pub no_capture : (p : Position) → TwoKings p → (moves : List Move) → legal_captures p ≡ moves → legal_captures p ≡ []
no_capture p kings [] e = e
no_capture p kings (m ∷ ms) e =
    let held = capture_in p kings.position m (subst (λ (ns : List Move). IsIn ns m) (sym e) (inl refl)) in
    absurd (both_ways (is_capture p m) (kings_after p kings m held.0).0 held.1)

module _ (tables : StoredClasses) (right : AreTrue tables) (p : Position) (position : IsPosition p) where
  -- the stored class, for the position without the right to capture en passant
  stored_true : (k : Class) → stored_class tables p ≡ Some k → IsTrueFor k (without_right p)
  stored_true k e = elim (cases_Bool (length p.placed_men == 2)) [
    | inl t ↦ (
        let drawn : Some Draw ≡ Some k = rw t at e in
        let is : Draw ≡ k = cc in
        kings_case is (eqb-true (length p.placed_men) 2 t))
    | inr f ↦ (let there : tables p.placed_men p.mover ≡ Some k = rw f at e in right (without_right p) k (position_without p position) refl there)
  ]
    where
      kings_case : Draw ≡ k → length p.placed_men ≡ 2 → IsTrueFor k (without_right p)
      kings_case is two class have =
          let kings : TwoKings (without_right p) = record { position = position_without p position; two = two } in
          let none : legal_captures (without_right p) ≡ [] = no_capture (without_right p) kings (legal_captures (without_right p)) refl in
          let q = without_right p in
          let same = ap (λ (ms : List Move). better Draw (best_after (map (λ m. class (after q m)) ms))) none in
          subst (λ (j : Class). ChessClass q (better j (best_after (map (λ m. class (after q m)) (legal_captures q))))) is (subst (ChessClass q) (sym same) (kings_draw q kings))

  module _ (g : Position → Option Class) (below : (m : Move) → IsIn (legal_captures p) m → (j : Class) → g (after p m) ≡ Some j → ChessClass (after p m) j) where
    abbrev after_known : Position → Class
    after_known q = known_class (g q)

    from_known : (js : List Class) → all_known (map (λ m. g (after p m)) (legal_captures p)) ≡ Some js → (k : Class) →
        class_from (has_only_en_passant p) (Some (best_after js)) (stored_class tables p) ≡ Some k → ChessClass p k
    from_known js known k e =
        let captures = legal_captures p in
        let parts = all_known_parts (λ (m : Move). g (after p m)) captures js known in
        let have : CapturesHave after_known p = λ m i. below m i (after_known (after p m)) (parts.1 m i) in
        let best = best_after (map (λ (m : Move). after_known (after p m)) captures) in
        let whole : class_from (has_only_en_passant p) (Some best) (stored_class tables p) ≡ Some k =
        subst (λ (ks : List Class). class_from (has_only_en_passant p) (Some (best_after ks)) (stored_class tables p) ≡ Some k) parts.0 e in
        elim (class_from_parts (has_only_en_passant p) best (stored_class tables p) k whole) [
          | inl won ↦ (
              let r = win_from (λ (m : Move). after_known (after p m)) captures won.0 in
              let lost = subst (ChessClass (after p r.0)) r.2 (have r.0 r.1) in
              subst (ChessClass p) (sym (win_is best won.0) ∙ won.1) (capture_wins p position r.0 r.1 lost))
          | inr other ↦ elim other [
            | inl only ↦ subst (ChessClass p) only.1 (only_captures_class p position after_known have (only_en_passant p only.0))
            | inr beside ↦ (
                let there = stored_true beside.1 beside.2 after_known (have_without p position after_known have) in
                subst (ChessClass p) beside.3 (class_beside p position after_known have beside.1 there beside.0))
          ]
        ]

    pub settled : (k : Class) → class_from (has_only_en_passant p) (best_capture (map (λ m. g (after p m)) (legal_captures p))) (stored_class tables p) ≡ Some k → ChessClass p k
    settled k e = elim (cases_Bool (list_any is_known_loss (map (λ (m : Move). g (after p m)) (legal_captures p)))) [
      | inl t ↦ (
          let r = some_in_map (λ (m : Move). g (after p m)) is_known_loss (legal_captures p) t in
          let won : Some Win ≡ Some k = rw t at e in
          let is : Win ≡ k = cc in
          subst (ChessClass p) is (capture_wins p position r.0 r.1 (below r.0 r.1 Loss (loss_is (g (after p r.0)) r.2))))
      | inr f ↦ go (all_known (map (λ (m : Move). g (after p m)) (legal_captures p))) refl (rw f at e)
    ]
      where
        go : (o : Option (List Class)) → all_known (map (λ (m : Move). g (after p m)) (legal_captures p)) ≡ o →
            class_from (has_only_en_passant p) (option_map best_after (all_known (map (λ (m : Move). g (after p m)) (legal_captures p)))) (stored_class tables p) ≡ Some k → ChessClass p k
        go None is whole = let h = rw is at whole in cc
        go (Some js) is whole = from_known js is k (rw is at whole)

-- ---- all positions

pub men_two : (p : Position) → IsPosition p → 2 ≤ length p.placed_men
men_two p position = (has_men_parts p.placed_men (faultless p position.no_fault).men).many

-- a capture leads to a position of one man fewer
pub capture_fewer : (p : Position) → IsPosition p → (m : Move) → IsIn (legal_captures p) m → IsPosition (after p m) × (length (after p m).placed_men + 1 ≡ length p.placed_men)
capture_fewer p position m i =
    let r = capture_in p position m i in
    let held = contains_in (legal_moves p) m r.0 in
    (after_is_position p m position held, rw r.1 at (captured_law p m position held))

pub probed_at_true : (tables : StoredClasses) → AreTrue tables → (n : ℕ) (p : Position) (k : Class) → IsPosition p → length p.placed_men ≡ n → probed_at n tables p ≡ Some k → ChessClass p k
unfolding probed_at
probed_at_true tables right zero p k position size e = cc
probed_at_true tables right (suc n) p k position size e = settled tables right p position (probed_at n tables) (λ m i j is.
    let next = capture_fewer p position m i in
    let fewer = next.1 in
    probed_at_true tables right n (after p m) j next.0 (omega arith) is) k e

pub probed_true : (tables : StoredClasses) (p : Position) (k : Class) → AreTrue tables → IsPosition p → probed tables p ≡ Some k → ChessClass p k
probed_true tables p k right position e = probed_at_true tables right (length p.placed_men) p k position refl e
