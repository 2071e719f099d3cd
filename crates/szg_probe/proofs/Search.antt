-- The search of the captures: what is known after some of them.
use Rattle.std.proofs.Common.{◌≡◌, ℕ, zero, suc, ◌+◌, ◌<◌, ◌≤◌, List, [], ◌∷◌, ◌++◌, length, map, refl, sym, ap, ◌∙◌, subst, Bool, true, false, arith, inl, inr, Option, Some, None, take, get_or, Contains}
use Rattle.std.specs.Prelude.{◌||◌, ◌&&◌, ◌==◌, not, filter, is_some, option_map, Result, Ok, Err, IfOk}
use Rattle.std.specs.List.{list_any, list_all}
use Rattle.std.proofs.lemmas.Bool.{cases_Bool, cases_eq, or_parts, or_left, or_right, or_from, and_parts, and_from, eq-eqb, eqb-true, not-true, both_ways, not_from_false, not_from_true, false_from_ne_true}
use Rattle.std.proofs.lemmas.List.{take_more, take_all}
use Rattle.szg_game.specs.Classes.{negate, better, best_after}
use Rattle.szg_game.specs.Certified.{is_win, is_loss}
use Rattle.szg_game.specs.declared.Class.{Class}
use Rattle.szg_game.specs.declared.Class.TheVariants.{Loss, BlessedLoss, Draw, CursedWin, Win}
use Rattle.szg_game.proofs.Lists.{IsIn, in_contains, contains_in, any_in, in_map, all_in, each_in}
use Rattle.szg_values.specs.Placement.{PlacedMan}
use Rattle.szg_values.specs.declared.Color.{Color}
use Rattle.szg_chess.specs.declared.Move.{Move}
use Rattle.szg_chess.specs.Position.{Position, IsPosition}
use Rattle.szg_chess.specs.Moves.{after, is_capture, is_zeroing, is_en_passant, is_square, is_pawn_on, legal_moves, legal_captures, has_no_move, may_capture}
use Rattle.szg_chess.specs.Attacks.{attacks, files_apart}
use Rattle.szg_values.specs.Men.{is_color, other_color}
use Rattle.szg_chess.proofs.Captured.{captures_law}
use Rattle.szg_probe.specs.Chess.{without_right}
use Rattle.szg_probe.specs.Distances.{StoredNumbers, is_drawn, MayFailByZeroing, MayFailBySearch}
use Rattle.szg_probe.specs.Probing.{StoredClasses, stored_class, is_known_loss, all_known, best_capture, has_only_captures, has_only_en_passant, class_from, probed_at, probed, MayFail}
use Rattle.szg_probe.proofs.Choosing.{better_loss, better_turns, better_joins, filter_true, filter_in}
use Rattle.szg_probe.proofs.Beside.{map_same, only_en_passant}
use Rattle.szg_probe.proofs.Kings.{TwoKings, each_of_full}
use Rattle.szg_probe.proofs.Probed.{men_two, capture_fewer, no_capture}
use Rattle.szg_probe.proofs.WithoutRight.{is_plain, captures_without, plain_after}

-- ---- captures alone

-- each legal move is a capture if there are as many captures as moves
only_by_count : (p : Position) → IsPosition p → has_only_captures p ≡ (not (length (legal_captures p) == 0) && length (legal_moves p) == length (legal_captures p))
only_by_count p position =
    let moves = legal_moves p in
    let captures = captures_law p position in
    elim (cases_Bool (length (legal_captures p) == 0)) [
      | inl none ↦ rw none (no_captures none)
      | inr some ↦ rw some (by_count some)
    ]
  where
    -- no capture: no move is one
    no_captures : (length (legal_captures p) == 0) ≡ true → has_only_captures p ≡ false
    no_captures none = false_from_ne_true (has_only_captures p) (λ only.
        let parts = and_parts (not (has_no_move p)) (list_all (is_capture p) (legal_moves p)) only in
        let all : legal_moves p ≡ legal_captures p = sym (filter_true (is_capture p) (legal_moves p) (each_in (is_capture p) (legal_moves p) parts.1)) ∙ captures_law p position in
        both_ways (has_no_move p) (not-true (has_no_move p) parts.0) (ap (λ (ms : List Move). length ms == 0) all ∙ none))

    by_count : (length (legal_captures p) == 0) ≡ false → has_only_captures p ≡ (length (legal_moves p) == length (legal_captures p))
    by_count some = elim (cases_Bool (length (legal_moves p) == length (legal_captures p))) [
      | inl same ↦ (
          let full : length (filter (is_capture p) (legal_moves p)) ≡ length (legal_moves p) = ap length (captures_law p position) ∙ sym (eqb-true (length (legal_moves p)) (length (legal_captures p)) same) in
          let all = all_in (is_capture p) (legal_moves p) (each_of_full (is_capture p) (legal_moves p) full) in
          let there : has_no_move p ≡ false = ap (λ (n : ℕ). n == 0) (eqb-true (length (legal_moves p)) (length (legal_captures p)) same) ∙ some in
          and_from (not (has_no_move p)) (list_all (is_capture p) (legal_moves p)) (not_from_false (has_no_move p) there) all ∙ sym same)
      | inr differ ↦ false_from_ne_true (has_only_captures p) (λ only.
          let parts = and_parts (not (has_no_move p)) (list_all (is_capture p) (legal_moves p)) only in
          let all : legal_moves p ≡ legal_captures p = sym (filter_true (is_capture p) (legal_moves p) (each_in (is_capture p) (legal_moves p) parts.1)) ∙ captures_law p position in
          both_ways (length (legal_moves p) == length (legal_captures p)) differ (eq-eqb (length (legal_moves p)) (length (legal_captures p)) (ap length all))) ∙ sym differ
    ]

-- ---- captures en passant alone

no_passing : (p : Position) (m : Move) → is_some p.en_passant ≡ false → is_en_passant p m ≡ false
unfolding is_en_passant
no_passing p m e = nowhere p.en_passant e
  where
    nowhere : (o : Option ℕ) → is_some o ≡ false → (is_square o m.to && files_apart m.from m.to == 1 && is_pawn_on p m.from) ≡ false
    nowhere None h = refl
    nowhere (Some s) h = cc

-- without an en passant square no move is a capture en passant
pub only_none : (p : Position) → is_some p.en_passant ≡ false → has_only_en_passant p ≡ false
only_none p e = by_moves (legal_moves p)
  where
    by_moves : (ms : List Move) → not ((length ms == 0) || list_any (λ m. not (is_en_passant p m)) ms) ≡ false
    by_moves [] = refl
    by_moves (m ∷ ms) =
        let t = λ (n : Move). not (is_en_passant p n) in
        not_from_true ((length (m ∷ ms) == 0) || list_any t (m ∷ ms)) (or_right (length (m ∷ ms) == 0) (list_any t (m ∷ ms)) (or_left (t m) (list_any t ms) (not_from_false (is_en_passant p m) (no_passing p m e))))

-- ---- probing by captures

-- a position is probed by probing what its captures lead to
pub probed_by_captures : (tables : StoredClasses) (p : Position) → IsPosition p →
    probed tables p ≡ class_from (has_only_en_passant p) (best_capture (map (λ m. probed tables (after p m)) (legal_captures p))) (stored_class tables p)
unfolding probed_at
probed_by_captures tables p position = go (length p.placed_men) refl
  where
    go : (n : ℕ) → length p.placed_men ≡ n → probed_at n tables p ≡ class_from (has_only_en_passant p) (best_capture (map (λ m. probed tables (after p m)) (legal_captures p))) (stored_class tables p)
    go zero size = let two = men_two p position in absurd (omega arith)
    go (suc n) size =
        ap (λ (ks : List (Option Class)). class_from (has_only_en_passant p) (best_capture ks) (stored_class tables p))
        (map_same (λ (m : Move). probed_at n tables (after p m)) (λ m. probed tables (after p m)) (legal_captures p) (λ m i.
        let fewer = (capture_fewer p position m i).1 in
        let same : n ≡ length (after p m).placed_men = omega arith in
        ap (λ (k : ℕ). probed_at k tables (after p m)) same))

lost_is : (k : Class) → is_loss k ≡ true → k ≡ Loss
lost_is Loss e = refl
lost_is BlessedLoss e = cc
lost_is Draw e = cc
lost_is CursedWin e = cc
lost_is Win e = cc

-- ---- two kings

-- two kings alone are probed as a draw, whatever the tables store
pub kings_known : (tables : StoredClasses) (p : Position) → TwoKings p → probed tables p ≡ Some Draw
kings_known tables p kings =
    let none = no_capture p kings (legal_captures p) refl in
    let more : has_only_captures p ≡ false = only_by_count p kings.position ∙ ap (λ (ms : List Move). not (length ms == 0) && length (legal_moves p) == length ms) none in
    let only : has_only_en_passant p ≡ false = false_from_ne_true (has_only_en_passant p) (λ t. both_ways (has_only_captures p) more (only_en_passant p t)) in
    let two : (length p.placed_men == 2) ≡ true = eq-eqb (length p.placed_men) 2 kings.two in
    let stored : stored_class tables p ≡ Some Draw = rw two refl in
    probed_by_captures tables p kings.position
    ∙ ap (λ (ms : List Move). class_from (has_only_en_passant p) (best_capture (map (λ m. probed tables (after p m)) ms)) (stored_class tables p)) none
    ∙ rw (only, stored) refl

-- a position that is not probed as a draw has more men
pub more_men : (tables : StoredClasses) (p : Position) (k : Class) → IsPosition p → probed tables p ≡ Some k → is_drawn k ≡ false → 2 < length p.placed_men
more_men tables p k position e differs =
    let two = men_two p position in
    elim (cases_eq (length p.placed_men) 2) [
      | inl same ↦ (
          let drawn : Some k ≡ Some Draw = sym e ∙ kings_known tables p (record { position = position; two = same }) in
          let is : k ≡ Draw = cc in
          absurd (both_ways (is_drawn k) differs (ap is_drawn is)))
      | inr differ ↦ omega (arith, two, differ)
    ]

-- ---- some of the captures

-- after these none wins, all are known, and this is the best
pub record BestSoFar {A : Type 0} (f : A → Option Class) (xs : List A) (best : Class) : Type 0 where
  pub none_wins : list_any is_known_loss (map f xs) ≡ false
  pub classes : List Class
  pub known : all_known (map f xs) ≡ Some classes
  pub is : best ≡ best_after classes

pub best_start : {A : Type 0} (f : A → Option Class) → BestSoFar f [] Loss
best_start f = record { none_wins = refl; classes = []; known = refl; is = refl }

pub best_end : {A : Type 0} (f : A → Option Class) (xs : List A) (best : Class) → BestSoFar f xs best → best_capture (map f xs) ≡ Some best
best_end f xs best h = rw (h.none_wins, h.known) (ap (λ (k : Class). Some k) (sym h.is))

pub best_win : {A : Type 0} (f : A → Option Class) (xs : List A) (x : A) → IsIn xs x → f x ≡ Some Loss → best_capture (map f xs) ≡ Some Win
best_win f xs x i e =
    let found : list_any is_known_loss (map f xs) ≡ true = any_in is_known_loss (map f xs) (f x) (in_map f xs x i) (ap is_known_loss e) in
    rw found refl

pub any_more : {A : Type 0} (t : A → Bool) (xs : List A) (x : A) → list_any t xs ≡ false → t x ≡ false → list_any t (xs ++ x ∷ []) ≡ false
any_more t [] x none e = rw e refl
any_more t (y ∷ ys) x none e = let parts = or_parts (t y) (list_any t ys) none in rw parts.0 (any_more t ys x parts.1 e)

pub map_more : {A B : Type 0} (f : A → B) (xs : List A) (x : A) → map f (xs ++ x ∷ []) ≡ map f xs ++ f x ∷ []
map_more f [] x = refl
map_more {A} {B} f (y ∷ ys) x = ap (λ (zs : List B). f y ∷ zs) (map_more f ys x)

pub known_more : {A : Type 0} (ks : List (Option A)) (js : List A) (k : A) → all_known ks ≡ Some js → all_known (ks ++ Some k ∷ []) ≡ Some (js ++ k ∷ [])
known_more {A} [] js k e = let h : [] ≡ js = cc in ap (λ (ks : List A). Some (ks ++ k ∷ [])) h
known_more {A} (None ∷ ks) js k e = cc
known_more {A} (Some j ∷ ks) js k e = go (all_known ks) refl e (λ tail is. known_more ks tail k is)
  where
    go : (o : Option (List A)) → all_known ks ≡ o → option_map (λ tail. j ∷ tail) (all_known ks) ≡ Some js →
        ((tail : List A) → all_known ks ≡ Some tail → all_known (ks ++ Some k ∷ []) ≡ Some (tail ++ k ∷ [])) →
        option_map (λ tail. j ∷ tail) (all_known (ks ++ Some k ∷ [])) ≡ Some (js ++ k ∷ [])
    go None is h more = let none = rw is at h in cc
    go (Some tail) is h more =
        let there : Some (j ∷ tail) ≡ Some js = rw is at h in
        let same : j ∷ tail ≡ js = cc in
        ap (option_map (λ (t : List A). j ∷ t)) (more tail is) ∙ ap (λ (t : List A). Some (t ++ k ∷ [])) same

loss_better : (k : Class) → better k Loss ≡ better Loss k
loss_better k = better_turns k Loss

after_more : (js : List Class) (k : Class) → best_after (js ++ k ∷ []) ≡ better (best_after js) (negate k)
after_more [] k = loss_better (negate k)
after_more (j ∷ js) k = ap (better (negate j)) (after_more js k) ∙ better_joins (negate j) (best_after js) (negate k)

pub best_more : {A : Type 0} (f : A → Option Class) (xs : List A) (best : Class) (x : A) (k : Class) → BestSoFar f xs best → f x ≡ Some k → is_loss k ≡ false →
    BestSoFar f (xs ++ x ∷ []) (better best (negate k))
best_more f xs best x k h e no_loss = record {
  none_wins = ap (list_any is_known_loss) (map_more f xs x) ∙ any_more is_known_loss (map f xs) (f x) h.none_wins (ap is_known_loss e ∙ no_loss);
  classes = h.classes ++ k ∷ [];
  known = ap all_known (map_more f xs x) ∙ ap (λ (o : Option Class). all_known (map f xs ++ o ∷ [])) e ∙ known_more (map f xs) h.classes k h.known;
  is = ap (λ (j : Class). better j (negate k)) h.is ∙ sym (after_more h.classes k);
}

-- ---- what the search returns

abbrev pub after_in : StoredClasses → Position → Move → Option Class
after_in tables p m = probed tables (after p m)

pub probed_win : (tables : StoredClasses) (p : Position) (m : Move) (k : Class) → IsPosition p → IsIn (legal_captures p) m → probed tables (after p m) ≡ Some k → is_loss k ≡ true → probed tables p ≡ Some Win
probed_win tables p m k position i e lost =
    let best = best_win (after_in tables p) (legal_captures p) m i (e ∙ ap (λ (j : Class). Some j) (lost_is k lost)) in
    probed_by_captures tables p position ∙ ap (λ (o : Option Class). class_from (has_only_en_passant p) o (stored_class tables p)) best

pub probed_best : (tables : StoredClasses) (p : Position) (best : Class) → IsPosition p → BestSoFar (after_in tables p) (legal_captures p) best → (is_win best || has_only_en_passant p) ≡ true → probed tables p ≡ Some best
probed_best tables p best position h e =
    probed_by_captures tables p position ∙ ap (λ (o : Option Class). class_from (has_only_en_passant p) o (stored_class tables p)) (best_end (after_in tables p) (legal_captures p) best h) ∙ rw e refl

pub probed_both : (tables : StoredClasses) (p : Position) (best s : Class) → IsPosition p → BestSoFar (after_in tables p) (legal_captures p) best → is_win best ≡ false → has_only_en_passant p ≡ false →
    stored_class tables p ≡ Some s → probed tables p ≡ Some (better s best)
probed_both tables p best s position h no_win more stored =
    let neither : (is_win best || has_only_en_passant p) ≡ false = or_from (is_win best) (has_only_en_passant p) no_win more in
    probed_by_captures tables p position ∙ ap (λ (o : Option Class). class_from (has_only_en_passant p) o (stored_class tables p)) (best_end (after_in tables p) (legal_captures p) best h) ∙ rw (neither, stored) refl

-- without a capture, and without an en passant square, what is stored is the position's class
pub probed_stored : (tables : StoredClasses) (p : Position) (k : Class) → IsPosition p → may_capture p ≡ false → legal_captures p ≡ [] → stored_class tables p ≡ Some k → probed tables p ≡ Some k
probed_stored tables p k position quiet none stored =
    let right = or_parts (is_some p.en_passant) (list_any (λ s. is_color p.mover s.1 && list_any (λ t. is_color (other_color p.mover) t.1 && attacks [] s t.2) p.placed_men) p.placed_men) quiet in
    let start = subst (λ (ms : List Move). BestSoFar (after_in tables p) ms Loss) (sym none) (best_start (after_in tables p)) in
    probed_both tables p Loss k position start refl (only_none p right.0) stored ∙ ap (λ (j : Class). Some j) (better_loss k)

pub stored_as_probed : {E : Type 0} (r : Result Class E) (tables : StoredClasses) (p : Position) → IsPosition p → may_capture p ≡ false → legal_captures p ≡ [] → IfOk r (λ k. stored_class tables p ≡ Some k) →
    IfOk r (λ k. probed tables p ≡ Some k)
stored_as_probed (Ok k) tables p position quiet none stored = probed_stored tables p k position quiet none stored
stored_as_probed (Err fault) tables p position quiet none stored = stored

-- what is probed is the same for equal tables and positions
pub probed_carried : (a b : StoredClasses) (q r : Position) (k : Class) → a ≡ b → q ≡ r → probed a q ≡ Some k → probed b r ≡ Some k
probed_carried a b q r k e f h = sym (ap (λ (s : StoredClasses). probed s q) e ∙ ap (probed b) f) ∙ h

-- one capture more
pub best_step : (tables : StoredClasses) (p : Position) (items : List Move) (i : ℕ) (m : Move) (best k now : Class) → i < length items → m ≡ get_or items i m → BestSoFar (after_in tables p) (take i items) best →
    probed tables (after p m) ≡ Some k → is_loss k ≡ false → now ≡ better best (negate k) → BestSoFar (after_in tables p) (take (i + 1) items) now
best_step tables p items i m best k now h is before e no_loss same =
    let more : take (i + 1) items ≡ take i items ++ m ∷ [] = take_more items i m h ∙ ap (λ (n : Move). take i items ++ n ∷ []) (sym is) in
    let next = best_more (after_in tables p) (take i items) best m k before e no_loss in
    subst (λ (xs : List Move). BestSoFar (after_in tables p) xs now) (sym more) (subst (BestSoFar (after_in tables p) (take i items ++ m ∷ [])) (sym same) next)

-- all captures
pub best_whole : (tables : StoredClasses) (p : Position) (items : List Move) (i : ℕ) (best : Class) → items ≡ legal_captures p → length items ≤ i → BestSoFar (after_in tables p) (take i items) best → BestSoFar (after_in tables p) (legal_captures p) best
best_whole tables p items i best is h before = subst (λ (xs : List Move). BestSoFar (after_in tables p) xs best) (take_all i items h ∙ is) before

-- the move at an index is a capture
pub item_in : (p : Position) (items : List Move) (i : ℕ) (m : Move) → items ≡ legal_captures p → i < length items → m ≡ get_or items i m → IsIn (legal_captures p) m
item_in p items i m is h at = subst (λ (xs : List Move). IsIn xs m) is (in_contains items m (i, h, sym at))

-- ---- faults

-- a fault of a position that an equal one leads to
pub fault_carried : {E : Type 0} (explains : StoredClasses → StoredNumbers → E → List PlacedMan → Color → Type 0) (a b : StoredClasses) (s t : StoredNumbers) (q r : Position) (fault : E) → a ≡ b → s ≡ t → q ≡ r →
    MayFail (explains a s fault) q → MayFail (explains b t fault) r
fault_carried explains a b s t q r fault e d f h = subst (λ (n : StoredNumbers). MayFail (explains b n fault) r) d (subst (λ (c : StoredClasses). MayFail (explains c s fault) r) e (subst (MayFail (explains a s fault)) f h))

-- a fault for the position itself
pub fault_here : (F : List PlacedMan → Color → Type 0) (p : Position) → F p.placed_men p.mover → MayFail F p
fault_here F p f = ([], tt, f)

-- a fault after a legal capture
pub fault_below : (F : List PlacedMan → Color → Type 0) (p : Position) (m : Move) → IsIn (legal_captures p) m → MayFail F (after p m) → MayFail F p
fault_below F p m i f = (m ∷ f.0, (contains_in (legal_captures p) m i, f.1), f.2)

-- a fault without the right to capture en passant
pub fault_without : (F : List PlacedMan → Color → Type 0) (p q : Position) → IsPosition p → q ≡ without_right p → MayFail F q → MayFail F p
fault_without F p q position same f = by_moves (subst (MayFail F) same f)
  where
    by_moves : MayFail F (without_right p) → MayFail F p
    by_moves ([], w, f) = fault_here F p f
    by_moves (m ∷ ms, w, f) =
        let i = subst (λ (xs : List Move). IsIn xs m) (captures_without p position) (in_contains (legal_captures (without_right p)) m w.0) in
        let parts = filter_in (is_plain p) (legal_captures p) m i in
        fault_below F p m parts.0 (subst (MayFail F) (sym (plain_after p m parts.1)) (ms, w.1, f))

-- a fault after a zeroing move
pub fault_by_zeroing : (F : List PlacedMan → Color → Type 0) (p : Position) (m : Move) (q : Position) → Contains (legal_moves p) m → is_zeroing p m ≡ true → q ≡ after p m → MayFail F q → MayFailByZeroing F p
fault_by_zeroing F p m q held zeroing same f = inr (m, held, zeroing, subst (MayFail F) same f)

-- a fault after another move
pub fault_by_search : (F : List PlacedMan → Color → Type 0) (p : Position) (m : Move) (q : Position) → Contains (legal_moves p) m → is_zeroing p m ≡ false → q ≡ after p m → MayFailByZeroing F q → MayFailBySearch F p
fault_by_search F p m q held quiet same f = inr (m, held, quiet, subst (MayFailByZeroing F) same f)
