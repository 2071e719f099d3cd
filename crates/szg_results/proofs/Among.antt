-- What is probed over a part of what tables store.
use Rattle.std.proofs.Common.{◌≡◌, ◌∙◌, ℕ, zero, suc, List, [], ◌∷◌, length, map, refl, sym, subst, Bool, true, false, inl, inr, Option, Some, None, option_map}
use Rattle.std.specs.Prelude.{◌+◌, ◌||◌, ◌==◌, not, option_and_then, if◌then◌else◌}
use Rattle.std.specs.List.{list_any}
use Rattle.std.proofs.lemmas.Bool.{cases_Bool}
use Rattle.szg_game.specs.Classes.{better, best_after, level, negate}
use Rattle.szg_game.specs.Certified.{is_win, is_won}
use Rattle.szg_game.specs.declared.Class.{Class}
use Rattle.szg_game.specs.declared.Class.TheVariants.{Draw, Win}
use Rattle.szg_chess.specs.declared.Move.{Move}
use Rattle.szg_chess.specs.Position.{Position}
use Rattle.szg_chess.specs.Moves.{after, has_no_move, is_mate, is_stalemate, is_zeroing, legal_captures, legal_moves}
use Rattle.szg_probe.specs.Chess.{without_right}
use Rattle.szg_probe.specs.Probing.{StoredClasses, stored_class, is_known_loss, all_known, best_capture, has_only_captures, has_only_en_passant, class_from, probed_at, probed}
use Rattle.szg_probe.specs.Distances.{StoredNumbers, at_counter, chosen, differs_without_right, distance_by, distance_of, has_zeroing, is_drawn, is_known_true, is_next, keeps_by_zeroing, move_distance, offset_of, probed_distance, quiet_distance, ranked, searched_distance, signed_distance, stays, stored_distance, stored_or}
use Rattle.szg_probe.specs.declared.assessments.RankedMove.{RankedMove}
use Rattle.szg_tables.specs.Fetched.{AreAmong, AreNumbersAmong}
use Rattle.szg_tables.proofs.Among.{Among, if_among, map_among, then_among}
use Rattle.szg_results.specs.Objects.{dtz_over}
use Rattle.szg_results.specs.Results.{IsAnswer, zero_numbers}
use Rattle.szg_results.specs.declared.results.Answer.{Answer}

-- ---- lists

abbrev pub AllAmong : {A : Type 0} → List (Option A) → List (Option A) → Type 0
AllAmong [] [] = Unit {0}
AllAmong [] (b ∷ vs) = ⊥
AllAmong (a ∷ us) [] = ⊥
AllAmong (a ∷ us) (b ∷ vs) = Among a b × AllAmong us vs

pub maps_among : {A B : Type 0} (f g : A → Option B) (xs : List A) → ((x : A) → Among (f x) (g x)) → AllAmong (map f xs) (map g xs)
maps_among f g [] each = tt
maps_among f g (x ∷ xs) each = (each x, maps_among f g xs each)

from_map : {A B : Type 0} (f : A → B) (o : Option A) (x : B) → option_map f o ≡ Some x → (y : A) × (o ≡ Some y)
from_map f None x e = let no : None ≡ Some x = e in absurd (cc no)
from_map f (Some y) x e = (y, refl)

rest_known : {A : Type 0} (x : A) (o : Option (List A)) (xs : List A) → option_map (λ js. x ∷ js) o ≡ Some xs → (ys : List A) × (o ≡ Some ys)
rest_known x None xs e = let no : None ≡ Some xs = e in absurd (cc no)
rest_known x (Some ys) xs e = (ys, refl)

-- where all are known, both lists are one
same_known : {A : Type 0} (us vs : List (Option A)) (xs : List A) → AllAmong us vs → all_known us ≡ Some xs → vs ≡ us
same_known [] [] xs h e = refl
same_known [] (b ∷ vs) xs h e = absurd h
same_known (a ∷ us) [] xs h e = absurd h
same_known (None ∷ us) (b ∷ vs) xs h e = let no : None ≡ Some xs = e in absurd (cc no)
same_known (Some x ∷ us) (b ∷ vs) xs h e =
    let rest = rest_known x (all_known us) xs e in
    rw (h.0 x refl, same_known us vs rest.0 h.1 rest.1) refl

all_known_among : {A : Type 0} (us vs : List (Option A)) → AllAmong us vs → Among (all_known us) (all_known vs)
all_known_among us vs h xs e = subst (λ (os : List (Option _)). all_known os ≡ Some xs) (sym (same_known us vs xs h e)) e

or_among : (a b c d : Bool) → (a ≡ true → c ≡ true) → (b ≡ true → d ≡ true) → (a || b) ≡ true → (c || d) ≡ true
or_among true b c d f g e = rw (f refl) refl
or_among false b true d f g e = refl
or_among false b false d f g e = g e

-- a test of what is known
module _ {A B : Type 0} (p : Option A → Bool) (unknown : p None ≡ false) (v : B) (f : List A → B) where
  test_among : (a b : Option A) → Among a b → p a ≡ true → p b ≡ true
  test_among None b h e = let no : false ≡ true = sym unknown ∙ e in absurd (cc no)
  test_among (Some x) b h e = rw (h x refl) e

  any_among : (us vs : List (Option A)) → AllAmong us vs → list_any p us ≡ true → list_any p vs ≡ true
  any_among [] [] h e = e
  any_among [] (b ∷ vs) h e = absurd h
  any_among (a ∷ us) [] h e = absurd h
  any_among (a ∷ us) (b ∷ vs) h e = or_among (p a) (list_any p us) (p b) (list_any p vs) (test_among a b h.0) (any_among us vs h.1) e

  -- one that passes decides; else all have to be known
  pub decided_among : (us vs : List (Option A)) → AllAmong us vs → Among (if list_any p us then Some v else option_map f (all_known us)) (if list_any p vs then Some v else option_map f (all_known vs))
  decided_among us vs h x e = elim (cases_Bool (list_any p us)) [
    | inl t ↦ rw (any_among us vs h t) (rw t at e)
    | inr n ↦ (
        let known = from_map f (all_known us) x (rw n at e) in
        subst (λ (os : List (Option A)). (if list_any p os then Some v else option_map f (all_known os)) ≡ Some x) (sym (same_known us vs known.0 h known.1)) e)
  ]

-- ---- classes

from_among : (only : Bool) (a b s u : Option Class) → Among a b → Among s u → Among (class_from only a s) (class_from only b u)
from_among only None b s u h g x e = let no : None ≡ Some x = e in absurd (cc no)
from_among only (Some best) b s u h g x e =
    rw (h best refl) (if_among (is_win best || only) (Some best) (option_map (λ k. better k best) s) (Some best) (option_map (λ k. better k best) u) (λ k i. i) (map_among (λ k. better k best) s u g) x e)

module _ (few many : StoredClasses) (among : AreAmong few many) where
  stored_among : (p : Position) → Among (stored_class few p) (stored_class many p)
  stored_among p = if_among (length p.placed_men == 2) (Some Draw) (few p.placed_men p.mover) (Some Draw) (many p.placed_men p.mover) (λ k i. i) (among p.placed_men p.mover)

  probed_at_among : (n : ℕ) (p : Position) → Among (probed_at n few p) (probed_at n many p)
  unfolding probed_at
  probed_at_among zero p x e = let no : None ≡ Some x = e in absurd (cc no)
  probed_at_among (suc n) p x e =
      let here = λ (m : Move). probed_at n few (after p m) in
      let there = λ (m : Move). probed_at n many (after p m) in
      from_among (has_only_en_passant p) (best_capture (map here (legal_captures p))) (best_capture (map there (legal_captures p))) (stored_class few p) (stored_class many p)
      (decided_among is_known_loss refl Win best_after (map here (legal_captures p)) (map there (legal_captures p)) (maps_among here there (legal_captures p) (λ m. probed_at_among n (after p m))))
      (stored_among p) x e

  pub probed_among : (p : Position) → Among (probed few p) (probed many p)
  probed_among p = probed_at_among (length p.placed_men) p

-- ---- distances

stored_or_among : (a b : Option (Option ℕ)) (s u : Option ℕ) → Among a b → Among s u → Among (stored_or a s) (stored_or b u)
stored_or_among None b s u h g x e = let no : None ≡ Some x = e in absurd (cc no)
stored_or_among (Some None) b s u h g x e = rw (h None refl) (g x e)
stored_or_among (Some (Some d)) b s u h g x e = rw (h (Some d) refl) e

module _ (few many : StoredClasses) (among : AreAmong few many) where
  classes_known : (p : Position) → Among (probed few p) (probed many p)
  classes_known p = probed_among few many among p

  keeps_among : (p : Position) (k : Class) (m : Move) → Among (keeps_by_zeroing few p k m) (keeps_by_zeroing many p k m)
  unfolding keeps_by_zeroing
  keeps_among p k m =
      let keeps = λ (j : Class). level j == level (negate k) in
      if_among (is_zeroing p m) (option_map keeps (probed few (after p m))) (Some false) (option_map keeps (probed many (after p m))) (Some false)
      (map_among keeps (probed few (after p m)) (probed many (after p m)) (classes_known (after p m))) (λ x e. e)

  zeroing_among : (p : Position) (k : Class) → Among (has_zeroing few p k) (has_zeroing many p k)
  zeroing_among p k =
      decided_among is_known_true refl true (λ all. false) (map (keeps_by_zeroing few p k) (legal_moves p)) (map (keeps_by_zeroing many p k) (legal_moves p))
      (maps_among (keeps_by_zeroing few p k) (keeps_by_zeroing many p k) (legal_moves p) (keeps_among p k))

  next_among : (p : Position) (k : Class) → Among (is_next few p k) (is_next many p k)
  next_among p k =
      let rest = λ (classes : StoredClasses). if is_won k then has_zeroing classes p k else Some false in
      let by = λ (classes : StoredClasses) (differs : Bool). if differs then Some true else rest classes in
      let differ = λ (j : Class). not (level j == level k) in
      if_among (has_no_move p || has_only_captures p) (Some true) (option_and_then (by few) (differs_without_right few p k)) (Some true) (option_and_then (by many) (differs_without_right many p k)) (λ x e. e)
      (then_among (by few) (by many) (differs_without_right few p k) (differs_without_right many p k) (map_among differ (probed few (without_right p)) (probed many (without_right p)) (classes_known (without_right p)))
      (λ differs. if_among differs (Some true) (rest few) (Some true) (rest many) (λ x e. e) (if_among (is_won k) (has_zeroing few p k) (Some false) (has_zeroing many p k) (Some false) (zeroing_among p k) (λ x e. e))))

  module _ (numbers others : StoredNumbers) (also : AreNumbersAmong numbers others) where
    stored_distance_among : (p : Position) (k : Class) → Among (stored_distance few numbers p k) (stored_distance many others p k)
    unfolding stored_distance
    stored_distance_among p k =
        let at = Some (Some (1 + offset_of k)) in
        let more = option_map (λ (n : ℕ). 1 + n + offset_of k) in
        let by = λ (stored : StoredNumbers) (next : Bool). if next then at else option_map more (stored p.placed_men p.mover k) in
        if_among (is_drawn k) (Some (Some 0)) (option_and_then (by numbers) (is_next few p k)) (Some (Some 0)) (option_and_then (by others) (is_next many p k)) (λ x e. e)
        (then_among (by numbers) (by others) (is_next few p k) (is_next many p k) (next_among p k)
        (λ next. if_among next at (option_map more (numbers p.placed_men p.mover k)) at (option_map more (others p.placed_men p.mover k)) (λ x e. e)
        (map_among more (numbers p.placed_men p.mover k) (others p.placed_men p.mover k) (also p.placed_men p.mover k))))

    by_among : (j : Class) (q : Position) → Among (distance_by few numbers j q) (distance_by many others j q)
    unfolding distance_by
    by_among j q =
        let a = stored_distance few numbers q j in
        let b = stored_distance many others q j in
        let inner = option_and_then (λ (d : Option ℕ). d) in
        if_among (is_mate q) (Some 1) (option_map (λ d. 1 + d) (inner a)) (Some 1) (option_map (λ d. 1 + d) (inner b)) (λ x e. e)
        (map_among (λ d. 1 + d) (inner a) (inner b) (then_among (λ d. d) (λ d. d) a b (stored_distance_among q j) (λ d x e. e)))

    quiet_among : (p : Position) (k : Class) (m : Move) → Among (quiet_distance few numbers p k m) (quiet_distance many others p k m)
    unfolding quiet_distance
    quiet_among p k m =
        let q = after p m in
        let some = option_map (λ (d : ℕ). Some d) in
        let by = λ (classes : StoredClasses) (stored : StoredNumbers) (j : Class). if stays k j then some (distance_by classes stored j q) else Some None in
        if_among (is_zeroing p m) (Some None) (option_and_then (by few numbers) (probed few q)) (Some None) (option_and_then (by many others) (probed many q)) (λ x e. e)
        (then_among (by few numbers) (by many others) (probed few q) (probed many q) (classes_known q)
        (λ j. if_among (stays k j) (some (distance_by few numbers j q)) (Some None) (some (distance_by many others j q)) (Some None)
        (map_among (λ (d : ℕ). Some d) (distance_by few numbers j q) (distance_by many others j q) (by_among j q)) (λ x e. e)))

    searched_among : (p : Position) (k : Class) → Among (searched_distance few numbers p k) (searched_distance many others p k)
    unfolding searched_distance
    searched_among p k =
        let here = map (quiet_distance few numbers p k) (legal_moves p) in
        let there = map (quiet_distance many others p k) (legal_moves p) in
        then_among (chosen k) (chosen k) (all_known here) (all_known there)
        (all_known_among here there (maps_among (quiet_distance few numbers p k) (quiet_distance many others p k) (legal_moves p) (quiet_among p k))) (λ ds x e. e)

    distance_of_among : (p : Position) (k : Class) → Among (distance_of few numbers p k) (distance_of many others p k)
    distance_of_among p k =
        stored_or_among (stored_distance few numbers p k) (stored_distance many others p k) (searched_distance few numbers p k) (searched_distance many others p k) (stored_distance_among p k) (searched_among p k)

    pub distance_among : (p : Position) → Among (probed_distance few numbers p) (probed_distance many others p)
    distance_among p =
        then_among (λ k. option_map (λ d. (k, d)) (distance_of few numbers p k)) (λ k. option_map (λ d. (k, d)) (distance_of many others p k)) (probed few p) (probed many p) (classes_known p)
        (λ k. map_among (λ d. (k, d)) (distance_of few numbers p k) (distance_of many others p k) (distance_of_among p k))

    -- ---- moves

    move_among : (p : Position) (m : Move) (j : Class) → Among (move_distance few numbers p m j) (move_distance many others p m j)
    unfolding move_distance
    move_among p m j =
        let q = after p m in
        let some = λ (d : ℕ). λ (x : ℕ) (e : Some d ≡ Some x). e in
        let a = option_map (λ d. 1 + d) (distance_of few numbers q j) in
        let b = option_map (λ d. 1 + d) (distance_of many others q j) in
        let rest = λ (last : Option ℕ). if is_mate q then Some 1 else last in
        let next = λ (last : Option ℕ). if is_zeroing p m then Some (1 + offset_of j) else rest last in
        if_among (is_drawn j) (Some 0) (next a) (Some 0) (next b) (some 0)
        (if_among (is_zeroing p m) (Some (1 + offset_of j)) (rest a) (Some (1 + offset_of j)) (rest b) (some (1 + offset_of j))
        (if_among (is_mate q) (Some 1) a (Some 1) b (some 1) (map_among (λ d. 1 + d) (distance_of few numbers q j) (distance_of many others q j) (distance_of_among q j))))

    ranked_among : (counter : ℕ) (p : Position) (m : Move) → Among (ranked few numbers counter p m) (ranked many others counter p m)
    ranked_among counter p m =
        let q = after p m in
        let to : Class → ℕ → RankedMove = λ j d. record { m = m; distance = at_counter counter (negate j) d; zeroing = is_zeroing p m; mate = is_mate q; stalemate = is_stalemate q } in
        then_among (λ j. option_map (to j) (move_distance few numbers p m j)) (λ j. option_map (to j) (move_distance many others p m j)) (probed few q) (probed many q) (classes_known q)
        (λ j. map_among (to j) (move_distance few numbers p m j) (move_distance many others p m j) (move_among p m j))

    -- ---- answers

    pub answer_among : (p : Position) (counter : ℕ) (a : Answer) → IsAnswer few numbers p counter a → IsAnswer many others p counter a
    answer_among p counter a is = record {
      class = is.class;
      plies = is.plies;
      probed = distance_among p (is.class, is.plies) is.probed;
      distance = is.distance;
      all = is.all;
      known = all_known_among (map (ranked few numbers counter p) (legal_moves p)) (map (ranked many others counter p) (legal_moves p))
          (maps_among (ranked few numbers counter p) (ranked many others counter p) (legal_moves p) (ranked_among counter p)) is.all is.known;
      same_moves = is.same_moves;
      best_first = is.best_first;
      legal = is.legal;
    }

pub chosen_among : (numbers others : StoredNumbers) (b : Bool) → AreNumbersAmong numbers others → AreNumbersAmong (if b then numbers else zero_numbers) (if b then others else zero_numbers)
chosen_among numbers others true also = also
chosen_among numbers others false also = λ men mover k n e. e

-- ---- the DTZ of positions after moves

pub dtz_among : (few many : StoredClasses) (among : AreAmong few many) (numbers others : StoredNumbers) (also : AreNumbersAmong numbers others) (p : Position) → Among (dtz_over few numbers p) (dtz_over many others p)
dtz_among few many among numbers others also p =
    map_among (λ (found : Class × ℕ). signed_distance found.0 found.1) (probed_distance few numbers p) (probed_distance many others p) (distance_among few many among numbers others also p)
