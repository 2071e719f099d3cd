-- Loops over the legal moves.
use Rattle.std.proofs.Common.{◌≡◌, ℕ, ◌+◌, ◌<◌, ◌≤◌, List, [], ◌∷◌, ◌++◌, length, map, max, take, get_or, refl, sym, ap, ◌∙◌, subst, Bool, true, false, arith, inl, inr, Option, Some, None}
use Rattle.std.specs.Prelude.{◌||◌, ◌&&◌, ◌==◌, not, filter, option_and_then, option_map}
use Rattle.std.specs.List.{list_any, list_all, All, Contains}
use Rattle.std.proofs.lemmas.Bool.{cases_Bool, ne_eqb}
use Rattle.std.proofs.lemmas.List.{take_more, take_all}
use Rattle.std.proofs.lemmas.List.Elements.{All-contains_itself, All-filter, filter_passes}
use Rattle.szg_game.specs.Certified.{is_won}
use Rattle.szg_game.specs.declared.Class.{Class}
use Rattle.szg_game.proofs.Lists.{IsIn, in_contains, any_in, in_map}
use Rattle.szg_chess.specs.declared.Move.{Move}
use Rattle.szg_chess.specs.Position.{Position}
use Rattle.szg_chess.specs.Moves.{after, has_no_move, is_capture, is_zeroing, legal_moves}
use Rattle.szg_probe.specs.Probing.{StoredClasses, all_known, has_only_captures, probed}
use Rattle.szg_probe.specs.Distances.{StoredNumbers, is_known_true, any_known, keeps_by_zeroing, has_zeroing, is_drawn, stored_distance, distance_of, probed_distance, choose_some, least, greatest, chosen, offset_of, stays, distance_by, quiet_distance, move_distance, ranked, MayLack}
use Rattle.szg_probe.specs.declared.distances.DistanceFault.{DistanceFault}
use Rattle.szg_probe.specs.declared.distances.DistanceFault.TheVariants.{Tables, Contradiction}
use Rattle.szg_probe.proofs.Search.{any_more, map_more, known_more}

-- ---- all moves

more : {A : Type 0} (items : List A) (i : ℕ) (x : A) → i < length items → x ≡ get_or items i x → take (i + 1) items ≡ take i items ++ x ∷ []
more {A} items i x h is = take_more items i x h ∙ ap (λ (y : A). take i items ++ y ∷ []) (sym is)

-- one more is known
pub known_next : {A : Type 0} (f : Move → Option A) (items : List Move) (i : ℕ) (m : Move) (js : List A) (j : A) → i < length items → m ≡ get_or items i m → all_known (map f (take i items)) ≡ Some js → f m ≡ Some j →
    all_known (map f (take (i + 1) items)) ≡ Some (js ++ j ∷ [])
known_next {A} f items i m js j h is before e =
    ap (λ (ms : List Move). all_known (map f ms)) (more items i m h is) ∙ ap all_known (map_more f (take i items) m) ∙ ap (λ (o : Option A). all_known (map f (take i items) ++ o ∷ [])) e
    ∙ known_more (map f (take i items)) js j before

pub known_whole : {A : Type 0} (f : Move → Option A) (p : Position) (items : List Move) (i : ℕ) (js : List A) → items ≡ legal_moves p → length items ≤ i → all_known (map f (take i items)) ≡ Some js → all_known (map f (legal_moves p)) ≡ Some js
known_whole f p items i js is h before = sym (ap (λ (ms : List Move). all_known (map f ms)) (take_all i items h ∙ is)) ∙ before

-- ---- some of these are true

-- none of these is true, and all are known
pub record NoneSoFar {A : Type 0} (f : A → Option Bool) (xs : List A) : Type 0 where
  pub none : list_any is_known_true (map f xs) ≡ false
  pub answers : List Bool
  pub known : all_known (map f xs) ≡ Some answers

pub none_start : {A : Type 0} (f : A → Option Bool) → NoneSoFar f []
none_start f = record { none = refl; answers = []; known = refl }

none_more : {A : Type 0} (f : A → Option Bool) (xs : List A) (x : A) → NoneSoFar f xs → f x ≡ Some false → NoneSoFar f (xs ++ x ∷ [])
none_more f xs x h e = record {
  none = ap (list_any is_known_true) (map_more f xs x) ∙ any_more is_known_true (map f xs) (f x) h.none (ap is_known_true e);
  answers = h.answers ++ false ∷ [];
  known = ap all_known (map_more f xs x) ∙ ap (λ (o : Option Bool). all_known (map f xs ++ o ∷ [])) e ∙ known_more (map f xs) h.answers false h.known;
}

pub none_next : {A : Type 0} (f : A → Option Bool) (items : List A) (i : ℕ) (x : A) → i < length items → x ≡ get_or items i x → NoneSoFar f (take i items) → f x ≡ Some false → NoneSoFar f (take (i + 1) items)
none_next {A} f items i x h is before e = subst (NoneSoFar f) (sym (more items i x h is)) (none_more f (take i items) x before e)

pub none_whole : {A : Type 0} (f : A → Option Bool) (items whole : List A) (i : ℕ) → items ≡ whole → length items ≤ i → NoneSoFar f (take i items) → any_known (map f whole) ≡ Some false
none_whole f items whole i is h before = let all = subst (NoneSoFar f) (take_all i items h ∙ is) before in rw (all.none, all.known) refl

pub some_at : {A : Type 0} (f : A → Option Bool) (items whole : List A) (i : ℕ) (x : A) → items ≡ whole → i < length items → x ≡ get_or items i x → f x ≡ Some true → any_known (map f whole) ≡ Some true
some_at {A} f items whole i x same h is e =
    let at = subst (λ (xs : List A). IsIn xs x) same (in_contains items x (i, h, sym is)) in
    let found : list_any is_known_true (map f whole) ≡ true = any_in is_known_true (map f whole) (f x) (in_map f whole x at) (ap is_known_true e) in
    rw found refl

-- ---- zeroing moves

known_skips : {A B : Type 0} (g : List A → List A) (c : B) (o : Option (List A)) → option_map (λ all. c) (option_map g o) ≡ option_map (λ all. c) o
known_skips g c None = refl
known_skips g c (Some all) = refl

-- elements of which it is known that they are not are passed over
any_passed : (f : Move → Option Bool) (c : Move → Bool) (ms : List Move) → ((m : Move) → c m ≡ false → f m ≡ Some false) → any_known (map f (filter c ms)) ≡ any_known (map f ms)
any_passed f c ms passed = let any = any_same ms in let all = all_same ms in rw (any, all) refl
  where
    any_same : (xs : List Move) → list_any is_known_true (map f (filter c xs)) ≡ list_any is_known_true (map f xs)
    any_same [] = refl
    any_same (x ∷ xs) = elim (cases_Bool (c x)) [
      | inl e ↦ rw e (ap (λ b. is_known_true (f x) || b) (any_same xs))
      | inr e ↦ (let known = passed x e in rw (e, known) (any_same xs))
    ]

    all_same : (xs : List Move) → option_map (λ all. false) (all_known (map f (filter c xs))) ≡ option_map (λ all. false) (all_known (map f xs))
    all_same [] = refl
    all_same (x ∷ xs) = elim (cases_Bool (c x)) [
      | inl e ↦ rw e (by_first (f x) (all_same xs))
      | inr e ↦ (let known = passed x e in rw (e, known) (all_same xs ∙ sym (known_skips (λ js. false ∷ js) false (all_known (map f xs)))))
    ]
      where
        by_first : (o : Option Bool) → option_map (λ all. false) (all_known (map f (filter c xs))) ≡ option_map (λ all. false) (all_known (map f xs)) → option_map (λ all. false) (all_known (o ∷ map f (filter c xs))) ≡ option_map (λ all. false) (all_known (o ∷ map f xs))
        by_first None h = refl
        by_first (Some b) h = known_skips (λ js. b ∷ js) false (all_known (map f (filter c xs))) ∙ h ∙ sym (known_skips (λ js. b ∷ js) false (all_known (map f xs)))

-- a move that is not zeroing keeps no class by zeroing
quiet_keeps_none : (classes : StoredClasses) (p : Position) (k : Class) (m : Move) → is_zeroing p m ≡ false → keeps_by_zeroing classes p k m ≡ Some false
unfolding keeps_by_zeroing
quiet_keeps_none classes p k m quiet = rw quiet refl

-- zeroing moves alone count
pub by_zeroing : (classes : StoredClasses) (p : Position) (k : Class) → any_known (map (keeps_by_zeroing classes p k) (filter (is_zeroing p) (legal_moves p))) ≡ has_zeroing classes p k
by_zeroing classes p k = any_passed (keeps_by_zeroing classes p k) (is_zeroing p) (legal_moves p) (λ m quiet. quiet_keeps_none classes p k m quiet)

-- one of the zeroing moves
pub zeroing_at : (p : Position) (items : List Move) (i : ℕ) (m : Move) → items ≡ filter (is_zeroing p) (legal_moves p) → i < length items → m ≡ get_or items i m → Contains (legal_moves p) m × (is_zeroing p m ≡ true)
zeroing_at p items i m same h is =
    let legal = All-filter (is_zeroing p) (Contains (legal_moves p)) (legal_moves p) (All-contains_itself (legal_moves p)) in
    let all = subst (λ (ms : List Move). All (λ n. Contains (legal_moves p) n × (is_zeroing p n ≡ true)) ms) (sym same) (λ k d l. (legal k d l, filter_passes (is_zeroing p) (legal_moves p) k d l)) in
    subst (λ (n : Move). Contains (legal_moves p) n × (is_zeroing p n ≡ true)) (sym is) (all i m h)

-- all pass a test if none fails it
pub none_fails : {A : Type 0} (test : A → Bool) (xs : List A) → not (list_any (λ x. not (test x)) xs) ≡ list_all test xs
none_fails test [] = refl
none_fails test (x ∷ xs) = elim (cases_Bool (test x)) [
  | inl e ↦ rw e (none_fails test xs)
  | inr e ↦ rw e refl
]

-- each legal move is a capture if there is none, or captures alone
pub no_quiet_move : (p : Position) → (has_no_move p || has_only_captures p) ≡ list_all (is_capture p) (legal_moves p)
no_quiet_move p = by_moves (legal_moves p)
  where
    by_moves : (ms : List Move) → ((length ms == 0) || (not (length ms == 0) && list_all (is_capture p) ms)) ≡ list_all (is_capture p) ms
    by_moves [] = refl
    by_moves (m ∷ ms) = let there : (length (m ∷ ms) == 0) ≡ false = ne_eqb (length (m ∷ ms)) 0 (λ e. cc) in rw there refl

-- a draw has the distance 0
pub drawn_distance : (classes : StoredClasses) (numbers : StoredNumbers) (p : Position) (k : Class) → probed classes p ≡ Some k → is_drawn k ≡ true → probed_distance classes numbers p ≡ Some (k, 0)
unfolding stored_distance
drawn_distance classes numbers p k known drawn = rw (known, drawn) refl

-- ---- what some moves choose

-- the distances by these moves are known, and this is chosen from them
pub record ChosenSoFar (f : Move → Option (Option ℕ)) (k : Class) (items : List Move) (found : Option ℕ) : Type 0 where
  pub distances : List (Option ℕ)
  pub known : all_known (map f items) ≡ Some distances
  pub is : found ≡ chosen k distances

same : {a b : ℕ} → a ≡ b → Some a ≡ Some b
same e = ap (λ (n : ℕ). Some n) e

least_more : (ds : List (Option ℕ)) (d : Option ℕ) → least (ds ++ d ∷ []) ≡ choose_some true d (least ds)
least_more [] d = refl
least_more (e ∷ ds) d = ap (choose_some true e) (least_more ds d) ∙ swap e d (least ds)
  where
    swap : (e d o : Option ℕ) → choose_some true e (choose_some true d o) ≡ choose_some true d (choose_some true e o)
    swap None d o = refl
    swap (Some e) None o = refl
    swap (Some e) (Some d) None = same (omega arith)
    swap (Some e) (Some d) (Some o) = same (omega arith)

greatest_more : (n : ℕ) (ds : List (Option ℕ)) (d : Option ℕ) → Some (greatest n (ds ++ d ∷ [])) ≡ choose_some false d (Some (greatest n ds))
greatest_more n [] None = refl
greatest_more n [] (Some d) = refl
greatest_more n (None ∷ ds) d = greatest_more n ds d
greatest_more n (Some e ∷ ds) None = ap (λ (o : Option ℕ). choose_some false (Some e) o) (greatest_more n ds None)
greatest_more n (Some e ∷ ds) (Some d) =
    ap (λ (o : Option ℕ). choose_some false (Some e) o) (greatest_more n ds (Some d)) ∙ swap (greatest n ds)
  where
    swap : (g : ℕ) → Some (max e (max d g)) ≡ Some (max d (max e g))
    swap g = same (omega arith)

chosen_more : (k : Class) (ds : List (Option ℕ)) (d : Option ℕ) → chosen k (ds ++ d ∷ []) ≡ choose_some (is_won k) d (chosen k ds)
chosen_more k ds d = elim (cases_Bool (is_won k)) [
  | inl w ↦ rw w (least_more ds d)
  | inr l ↦ rw l (greatest_more (1 + offset_of k) ds d)
]

pub chosen_start : (f : Move → Option (Option ℕ)) (k : Class) (found : Option ℕ) → found ≡ chosen k [] → ChosenSoFar f k [] found
chosen_start f k found e = record { distances = []; known = refl; is = e }

pub chosen_next : (f : Move → Option (Option ℕ)) (k : Class) (items : List Move) (i : ℕ) (m : Move) (found now quiet : Option ℕ) → i < length items → m ≡ get_or items i m → ChosenSoFar f k (take i items) found →
    f m ≡ Some quiet → now ≡ choose_some (is_won k) quiet found → ChosenSoFar f k (take (i + 1) items) now
chosen_next f k items i m found now quiet h is before e same = record {
  distances = before.distances ++ quiet ∷ [];
  known = known_next f items i m before.distances quiet h is before.known e;
  is = same ∙ ap (choose_some (is_won k) quiet) before.is ∙ sym (chosen_more k before.distances quiet);
}

pub chosen_end : (f : Move → Option (Option ℕ)) (k : Class) (items whole : List Move) (i : ℕ) (found : Option ℕ) → items ≡ whole → length items ≤ i → ChosenSoFar f k (take i items) found →
    option_and_then (chosen k) (all_known (map f whole)) ≡ found
chosen_end f k items whole i found is h before =
    let all : ChosenSoFar f k whole found = subst (λ (ms : List Move). ChosenSoFar f k ms found) (take_all i items h ∙ is) before in
    ap (option_and_then (chosen k)) all.known ∙ sym all.is

-- ---- faults

pub unknown_in : {A B : Type 0} (f : A → Option B) (xs : List A) (x : A) → IsIn xs x → f x ≡ None → all_known (map f xs) ≡ None
unknown_in f [] y i e = elim i [ ]
unknown_in f (x ∷ xs) y (inl same) e = let here = ap f same ∙ e in rw here refl
unknown_in {A} {B} f (x ∷ xs) y (inr i) e = by_first (f x) (unknown_in f xs y i e)
  where
    by_first : (o : Option B) → all_known (map f xs) ≡ None → all_known (o ∷ map f xs) ≡ None
    by_first None h = refl
    by_first (Some k) h = rw h refl

-- other reasons
pub lack_by : {F : Type 0} {A B : Type 0} (f g : F → Type 0) (fault : DistanceFault F) → ((e : F) → f e → g e) → (A → B) → MayLack f A fault → MayLack g B fault
lack_by f g (Tables fault) more none h = more fault h
lack_by f g Contradiction more none h = none h

-- with equal tables
pub lack_over : {F A : Type 0} (fails : StoredClasses → StoredNumbers → F → Type 0) (f : StoredClasses → StoredNumbers → Option A) (a b : StoredClasses) (s t : StoredNumbers) (fault : DistanceFault F) → a ≡ b → s ≡ t →
    MayLack (fails a s) (f a s ≡ None) fault → MayLack (fails b t) (f b t ≡ None) fault
lack_over fails f a b s t fault e d lack =
    subst (λ (n : StoredNumbers). MayLack (fails b n) (f b n ≡ None) fault) d (subst (λ (c : StoredClasses). MayLack (fails c s) (f c s ≡ None) fault) e lack)

-- at one of the legal moves
pub lack_at : {F : Type 0} {A : Type 0} (fails : StoredClasses → StoredNumbers → F → Type 0) (f : StoredClasses → StoredNumbers → Move → Option A) (a b : StoredClasses) (s t : StoredNumbers) (p : Position)
    (items : List Move) (i : ℕ) (m : Move) (fault : DistanceFault F) → a ≡ b → s ≡ t → items ≡ legal_moves p → i < length items → m ≡ get_or items i m →
    MayLack (fails a s) (f a s m ≡ None) fault → MayLack (fails b t) (all_known (map (f b t) (legal_moves p)) ≡ None) fault
lack_at fails f a b s t p items i m fault e d is h at lack =
    let here = lack_over fails (λ c n. f c n m) a b s t fault e d lack in
    let held = subst (λ (ms : List Move). IsIn ms m) is (in_contains items m (i, h, sym at)) in
    lack_by (fails b t) (fails b t) fault (λ fault h. h) (unknown_in (f b t) (legal_moves p) m held) here

pub quiet_unknown : (classes : StoredClasses) (numbers : StoredNumbers) (p : Position) (k j : Class) (m : Move) (q : Position) → q ≡ after p m → is_zeroing p m ≡ false → probed classes q ≡ Some j → stays k j ≡ true → distance_by classes numbers j q ≡ None →
    quiet_distance classes numbers p k m ≡ None
unfolding quiet_distance
quiet_unknown classes numbers p k j m q same quiet known stay none =
    let there : probed classes (after p m) ≡ Some j = ap (probed classes) (sym same) ∙ known in
    let lacks : distance_by classes numbers j (after p m) ≡ None = ap (distance_by classes numbers j) (sym same) ∙ none in
    rw (quiet, there, stay, lacks) refl

pub probed_unknown : (classes : StoredClasses) (numbers : StoredNumbers) (p : Position) (k : Class) → probed classes p ≡ Some k → distance_of classes numbers p k ≡ None → probed_distance classes numbers p ≡ None
probed_unknown classes numbers p k known none = rw (known, none) refl

pub ranked_unknown : (classes : StoredClasses) (numbers : StoredNumbers) (counter : ℕ) (p : Position) (m : Move) (j : Class) (q : Position) → q ≡ after p m → probed classes q ≡ Some j → move_distance classes numbers p m j ≡ None →
    ranked classes numbers counter p m ≡ None
ranked_unknown classes numbers counter p m j q same known none =
    let there : probed classes (after p m) ≡ Some j = ap (probed classes) (sym same) ∙ known in
    rw (there, none) refl

-- ---- the same for equal tables

pub carried : {A : Type 0} (f : StoredClasses → StoredNumbers → A) (a b : StoredClasses) (s t : StoredNumbers) (x : A) → a ≡ b → s ≡ t → f a s ≡ x → f b t ≡ x
carried f a b s t x e d h = sym (ap (λ (c : StoredClasses). f c s) e ∙ ap (f b) d) ∙ h
