-- Loops over moves: what is known after some of them.
use Rattle.std.proofs.Common.{◌≡◌, ℕ, suc, ◌+◌, ◌<◌, ◌≤◌, List, [], ◌∷◌, ◌++◌, length, take, drop, get_or, refl, sym, ap, ◌∙◌, Bool, true, false, arith, inl, inr, Option, Some, None, min, max, drop-cons, add-one}
use Rattle.std.specs.Prelude.{filter, not, option_map}
use Rattle.std.specs.Option.{option_and_then}
use Rattle.std.proofs.lemmas.Bool.{cases_Bool, not_from_false}
use Rattle.std.proofs.lemmas.List.{take_more, append-nil}
use Rattle.std.proofs.lemmas.List.Elements.{filter-append}
use Rattle.szg_game.specs.Game.{Move as Step}
use Rattle.szg_game.proofs.Lists.{IsIn, in_contains}
use Rattle.szg_game.specs.declared.Class.{Class}
use Rattle.szg_game.specs.declared.Entry.{Entry}
use Rattle.szg_chess.specs.declared.Move.{Move}
use Rattle.szg_chess.specs.Position.{Position}
use Rattle.szg_chess.specs.Moves.{is_zeroing}
use Rattle.szg_probe.specs.Probing.{StoredClasses}
use Rattle.szg_probe.proofs.Choosing.{in_filter}
use Rattle.szg_verify.specs.Entries.{StoredTables, StoredDistances, tables_of, keeps, greatest, least, farthest, steps_to}

-- one more element of what is left
pub next_left : {A : Type 0} (xs : List A) (i : ℕ) (x : A) → i < length xs → x ≡ get_or xs i x → drop i xs ≡ x ∷ drop (i + 1) xs
next_left {A} xs i x less is = drop-cons xs i x less ∙ ap (λ (y : A). y ∷ drop (suc i) xs) (sym is) ∙ rw add-one refl

pub greatest_more : (bound : Entry → ℕ) (xs : List (Step Entry)) (i : ℕ) (x : Step Entry) (most whole : ℕ) → i < length xs → x ≡ get_or xs i x →
    max most (greatest bound (drop i xs)) ≡ whole → max (max (bound x.0) most) (greatest bound (drop (i + 1) xs)) ≡ whole
greatest_more bound xs i x most whole less is so_far =
    let e = ap (greatest bound) (next_left xs i x less is) in
    omega (arith, e, so_far)

pub least_kept : (bound : Entry → ℕ) (k : Class) (xs : List (Step Entry)) (i : ℕ) (x : Step Entry) (fewest whole : ℕ) → i < length xs → x ≡ get_or xs i x → keeps k x.0.class ≡ true →
    min fewest (least bound k (drop i xs)) ≡ whole → min (min (bound x.0) fewest) (least bound k (drop (i + 1) xs)) ≡ whole
least_kept bound k xs i x fewest whole less is kept so_far =
    let e : least bound k (drop i xs) ≡ min (bound x.0) (least bound k (drop (i + 1) xs)) = ap (least bound k) (next_left xs i x less is) ∙ rw kept refl in
    omega (arith, e, so_far)

pub least_left : (bound : Entry → ℕ) (k : Class) (xs : List (Step Entry)) (i : ℕ) (x : Step Entry) (fewest whole : ℕ) → i < length xs → x ≡ get_or xs i x → keeps k x.0.class ≡ false →
    min fewest (least bound k (drop i xs)) ≡ whole → min fewest (least bound k (drop (i + 1) xs)) ≡ whole
least_left bound k xs i x fewest whole less is kept so_far =
    let e : least bound k (drop i xs) ≡ least bound k (drop (i + 1) xs) = ap (least bound k) (next_left xs i x less is) ∙ rw kept refl in
    ap (min fewest) (sym e) ∙ so_far

pub least_near : (bound : Entry → ℕ) (k : Class) (xs : List (Step Entry)) → least bound k xs ≤ farthest
least_near bound k [] = omega arith
least_near bound k (x ∷ xs) =
    let rest = least_near bound k xs in
    elim (cases_Bool (keeps k x.0.class)) [ inl t ↦ rw t (omega arith) | inr f ↦ rw f rest ]

-- ---- steps

abbrev step_before : (Move → Option Entry) → Position → Move → Option (List (Step Entry)) → Option Entry → Option (List (Step Entry))
step_before entry p n rest o = option_and_then (λ f. option_map (λ next. (f, is_zeroing p n) ∷ next) rest) o

before_more : (entry : Move → Option Entry) (p : Position) (n : Move) (rest longer : Option (List (Step Entry))) (last next : List (Step Entry)) → ((tail : List (Step Entry)) → rest ≡ Some tail → longer ≡ Some (tail ++ last)) → (o : Option Entry) →
    step_before entry p n rest o ≡ Some next → step_before entry p n longer o ≡ Some (next ++ last)
before_more entry p n rest longer last next more None h = cc
before_more entry p n None longer last next more (Some f) h = cc
before_more entry p n (Some tail) longer last next more (Some f) h =
    let same : (f, is_zeroing p n) ∷ tail ≡ next = cc in
    ap (option_map (λ (ns : List (Step Entry)). (f, is_zeroing p n) ∷ ns)) (more tail refl) ∙ ap (λ (ns : List (Step Entry)). Some (ns ++ last)) same

pub steps_more : (entry : Move → Option Entry) (p : Position) (ms : List Move) (next : List (Step Entry)) (m : Move) (e : Entry) → steps_to entry p ms ≡ Some next → entry m ≡ Some e →
    steps_to entry p (ms ++ m ∷ []) ≡ Some (next ++ (e, is_zeroing p m) ∷ [])
unfolding steps_to
steps_more entry p [] next m e so_far is = let none : [] ≡ next = cc in rw is (ap (λ (ns : List (Step Entry)). Some (ns ++ (e, is_zeroing p m) ∷ [])) none)
steps_more entry p (n ∷ ms) next m e so_far is =
    before_more entry p n (steps_to entry p ms) (steps_to entry p (ms ++ m ∷ [])) ((e, is_zeroing p m) ∷ []) next (λ tail t. steps_more entry p ms tail m e t is) (entry n) so_far

before_none : (entry : Move → Option Entry) (p : Position) (n : Move) (rest : Option (List (Step Entry))) → rest ≡ None → (o : Option Entry) → step_before entry p n rest o ≡ None
before_none entry p n rest r None = refl
before_none entry p n rest r (Some f) = rw r refl

pub steps_none : (entry : Move → Option Entry) (p : Position) (ms : List Move) (m : Move) → IsIn ms m → entry m ≡ None → steps_to entry p ms ≡ None
unfolding steps_to
steps_none entry p [] m i is = absurd i
steps_none entry p (n ∷ ms) m (inl e) is = rw (ap (λ (k : Move). entry k) e ∙ is) refl
steps_none entry p (n ∷ ms) m (inr i) is = before_none entry p n (steps_to entry p ms) (steps_none entry p ms m i is) (entry n)

-- ---- moves that are not zeroing, of the first ones

abbrev pub quiet : Position → List Move → List Move
quiet p ms = filter (λ m. not (is_zeroing p m)) ms

pub quiet_more : (p : Position) (ms : List Move) (i : ℕ) (m : Move) → i < length ms → m ≡ get_or ms i m → is_zeroing p m ≡ false → quiet p (take (i + 1) ms) ≡ quiet p (take i ms) ++ m ∷ []
quiet_more p ms i m less is plain =
    ap (quiet p) (take_more ms i m less ∙ ap (λ (n : Move). take i ms ++ n ∷ []) (sym is)) ∙ filter-append (λ (n : Move). not (is_zeroing p n)) (take i ms) (m ∷ [])
    ∙ ap (λ (ns : List Move). quiet p (take i ms) ++ ns) (rw plain refl)

pub quiet_same : (p : Position) (ms : List Move) (i : ℕ) (m : Move) → i < length ms → m ≡ get_or ms i m → is_zeroing p m ≡ true → quiet p (take (i + 1) ms) ≡ quiet p (take i ms)
quiet_same p ms i m less is zeroing =
    ap (quiet p) (take_more ms i m less ∙ ap (λ (n : Move). take i ms ++ n ∷ []) (sym is)) ∙ filter-append (λ (n : Move). not (is_zeroing p n)) (take i ms) (m ∷ [])
    ∙ ap (λ (ns : List Move). quiet p (take i ms) ++ ns) (rw zeroing refl) ∙ append-nil (quiet p (take i ms))

pub item_in : {A : Type 0} (xs : List A) (i : ℕ) (x : A) → i < length xs → x ≡ get_or xs i x → IsIn xs x
item_in xs i x less is = in_contains xs x (i, less, sym is)

module _ (entry : Move → Option Entry) (p : Position) (ms : List Move) (i : ℕ) (m : Move) (less : i < length ms) (is : m ≡ get_or ms i m) where
  pub quiet_pushed : (steps pushed : List (Step Entry)) (e : Entry) → is_zeroing p m ≡ false → steps_to entry p (quiet p (take i ms)) ≡ Some steps → entry m ≡ Some e →
      pushed ≡ steps ++ (e, false) ∷ [] → steps_to entry p (quiet p (take (i + 1) ms)) ≡ Some pushed
  quiet_pushed steps pushed e plain so_far there more =
      ap (steps_to entry p) (quiet_more p ms i m less is plain) ∙ steps_more entry p (quiet p (take i ms)) steps m e so_far there
      ∙ ap (λ (z : Bool). Some (steps ++ (e, z) ∷ [])) plain ∙ ap (λ (ns : List (Step Entry)). Some ns) (sym more)

  pub quiet_passed : (steps : List (Step Entry)) → is_zeroing p m ≡ true → steps_to entry p (quiet p (take i ms)) ≡ Some steps → steps_to entry p (quiet p (take (i + 1) ms)) ≡ Some steps
  quiet_passed steps zeroing so_far = ap (steps_to entry p) (quiet_same p ms i m less is zeroing) ∙ so_far

  pub quiet_stopped : is_zeroing p m ≡ false → entry m ≡ None → steps_to entry p (quiet p ms) ≡ None
  quiet_stopped plain none = steps_none entry p (quiet p ms) m (in_filter (λ (n : Move). not (is_zeroing p n)) ms m (item_in ms i m less is) (not_from_false (is_zeroing p m) plain)) none

  pub all_pushed : (steps pushed : List (Step Entry)) (e : Entry) → steps_to entry p (take i ms) ≡ Some steps → entry m ≡ Some e →
      pushed ≡ steps ++ (e, is_zeroing p m) ∷ [] → steps_to entry p (take (i + 1) ms) ≡ Some pushed
  all_pushed steps pushed e so_far there more =
      ap (steps_to entry p) (take_more ms i m less ∙ ap (λ (n : Move). take i ms ++ n ∷ []) (sym is)) ∙ steps_more entry p (take i ms) steps m e so_far there
      ∙ ap (λ (ns : List (Step Entry)). Some ns) (sym more)

  pub all_stopped : entry m ≡ None → steps_to entry p ms ≡ None
  all_stopped none = steps_none entry p ms m (item_in ms i m less is) none

pub none_yet : (entry : Move → Option Entry) (p : Position) (steps : List (Step Entry)) → steps ≡ [] → steps_to entry p [] ≡ Some steps
unfolding steps_to
none_yet entry p steps e = ap (λ (ns : List (Step Entry)). Some ns) (sym e)

-- an entry after a move, of the same tables
pub entry_carried_at : (entry : StoredTables → Position → Move → Option Entry) (a classes : StoredClasses) (b distances : StoredDistances) (p : Position) (m : Move) (o : Option Entry) → a ≡ classes → b ≡ distances →
    o ≡ entry (tables_of a b) p m → entry (tables_of classes distances) p m ≡ o
entry_carried_at entry a classes b distances p m o same_a same_b is =
    sym (is ∙ ap (λ (c : StoredClasses). entry (tables_of c b) p m) same_a ∙ ap (λ (d : StoredDistances). entry (tables_of classes d) p m) same_b)
