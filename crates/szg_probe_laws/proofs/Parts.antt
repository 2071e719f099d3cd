-- What a known distance is made of.
use Rattle.std.proofs.Common.{◌≡◌, ℕ, ◌+◌, ◌≤◌, List, [], ◌∷◌, map, min, max, refl, sym, ap, ◌∙◌, subst, Bool, true, false, arith, inl, inr, ◌⊎◌, Option, Some, None}
use Rattle.std.specs.Prelude.{◌||◌, ◌==◌, not, option_map, option_and_then, if◌then◌else◌}
use Rattle.std.specs.List.{list_any}
use Rattle.std.proofs.lemmas.Bool.{cases_Bool, or_parts}
use Rattle.szg_game.specs.Classes.{level, negate}
use Rattle.szg_game.specs.Certified.{is_won}
use Rattle.szg_game.specs.declared.Class.{Class}
use Rattle.szg_game.proofs.Tests.{or_parts as either-true}
use Rattle.szg_game.proofs.Lists.{IsIn}
use Rattle.szg_chess.specs.declared.Move.{Move}
use Rattle.szg_chess.specs.Position.{Position}
use Rattle.szg_chess.specs.Moves.{after, is_zeroing, legal_moves, has_no_move, is_mate}
use Rattle.szg_probe.specs.Chess.{without_right}
use Rattle.szg_probe.specs.Probing.{StoredClasses, all_known, has_only_captures, probed}
use Rattle.szg_probe.specs.Distances.{StoredNumbers, offset_of, is_drawn, is_known_true, any_known, keeps_by_zeroing, has_zeroing, differs_without_right, is_next, stored_distance, distance_by, stays, quiet_distance, choose_some, least, greatest, chosen, searched_distance, stored_or, distance_of, probed_distance, move_distance}

-- ---- options

pub and_then_parts : {A B : Type 0} (f : A → Option B) (o : Option A) (b : B) → option_and_then f o ≡ Some b → (a : A) × (o ≡ Some a) × (f a ≡ Some b)
and_then_parts f None b e = cc
and_then_parts f (Some a) b e = (a, refl, e)

pub map_parts : {A B : Type 0} (f : A → B) (o : Option A) (b : B) → option_map f o ≡ Some b → (a : A) × (o ≡ Some a) × (f a ≡ b)
map_parts f None b e = cc
map_parts f (Some a) b e = (a, refl, cc)

pub some_is : {A : Type 0} (a b : A) → Some a ≡ Some b → a ≡ b
some_is a b e = cc

-- ---- lists

known_step : {B : Type 0} (o : Option B) (ks : List (Option B)) (ys : List B) → all_known (o ∷ ks) ≡ Some ys → (y : B) × (zs : List B) × (o ≡ Some y) × (all_known ks ≡ Some zs) × (y ∷ zs ≡ ys)
known_step None ks ys e = cc
known_step {B} (Some y) ks ys e = let r = map_parts (λ (js : List B). y ∷ js) (all_known ks) ys e in (y, r.0, refl, r.1, r.2)

pub known_each : {A B : Type 0} (f : A → Option B) (xs : List A) (ys : List B) → all_known (map f xs) ≡ Some ys → (x : A) → IsIn xs x → (y : B) × IsIn ys y × (f x ≡ Some y)
known_each f [] ys e x i = absurd i
known_each {A} {B} f (x ∷ xs) ys e z (inl same) =
    let s = known_step (f x) (map f xs) ys e in
    (s.0, subst (λ (l : List B). IsIn l s.0) s.4 (inl refl), sym (ap f same) ∙ s.2)
known_each {A} {B} f (x ∷ xs) ys e z (inr i) =
    let s = known_step (f x) (map f xs) ys e in
    let r = known_each f xs s.1 s.3 z i in
    (r.0, subst (λ (l : List B). IsIn l r.0) s.4 (inr r.1), r.2)

pub known_back : {A B : Type 0} (f : A → Option B) (xs : List A) (ys : List B) → all_known (map f xs) ≡ Some ys → (y : B) → IsIn ys y → (x : A) × IsIn xs x × (f x ≡ Some y)
known_back {A} {B} f [] ys e y i = let none = some_is [] ys e in absurd (subst (λ (l : List B). IsIn l y) (sym none) i)
known_back {A} {B} f (x ∷ xs) ys e y i =
    let s = known_step (f x) (map f xs) ys e in
    go s.0 s.1 s.2 (known_back f xs s.1 s.3 y) (subst (λ (l : List B). IsIn l y) (sym s.4) i)
  where
    go : (z : B) (zs : List B) → f x ≡ Some z → (IsIn zs y → (w : A) × IsIn xs w × (f w ≡ Some y)) → IsIn (z ∷ zs) y → (w : A) × IsIn (x ∷ xs) w × (f w ≡ Some y)
    go z zs is rest (inl same) = (x, inl refl, is ∙ ap (λ (b : B). Some b) same)
    go z zs is rest (inr j) = let r = rest j in (r.0, inr r.1, r.2)

-- ---- the least and the greatest

pub least_in : (ds : List (Option ℕ)) (d : ℕ) → least ds ≡ Some d → IsIn ds (Some d)
least_in [] d e = cc
least_in (o ∷ ds) d e = go o (least ds) (least_in ds d) e
  where
    go : (o rest : Option ℕ) → (rest ≡ Some d → IsIn ds (Some d)) → choose_some true o rest ≡ Some d → IsIn (o ∷ ds) (Some d)
    go None rest below h = inr (below h)
    go (Some a) None below h = inl h
    go (Some a) (Some b) below h =
        let is = some_is (min a b) d h in
        elim (either a b) [
          | inl s ↦ inl (ap (λ (n : ℕ). Some n) (sym s ∙ is))
          | inr s ↦ inr (below (ap (λ (n : ℕ). Some n) (sym s ∙ is)))
        ]
      where
        either : (a b : ℕ) → (min a b ≡ a) ⊎ (min a b ≡ b)
        either a b = grind arith

pub least_some : (ds : List (Option ℕ)) (e : ℕ) → IsIn ds (Some e) → (d : ℕ) × (least ds ≡ Some d) × (d ≤ e)
least_some [] e i = absurd i
least_some (o ∷ ds) e (inl same) = head o (least ds) same
  where
    head : (o rest : Option ℕ) → o ≡ Some e → (d : ℕ) × (choose_some true o rest ≡ Some d) × (d ≤ e)
    head None rest s = cc
    head (Some a) None s = let is = some_is a e s in (a, refl, omega arith)
    head (Some a) (Some b) s = let is = some_is a e s in (min a b, refl, omega arith)
least_some (o ∷ ds) e (inr i) = let r = least_some ds e i in tail o (least ds) r.0 r.1 r.2
  where
    tail : (o rest : Option ℕ) (d : ℕ) → rest ≡ Some d → d ≤ e → (n : ℕ) × (choose_some true o rest ≡ Some n) × (n ≤ e)
    tail None rest d s h = (d, s, h)
    tail (Some a) None d s h = cc
    tail (Some a) (Some b) d s h = let is = some_is b d s in (min a b, refl, omega arith)

pub least_below : (ds : List (Option ℕ)) (d e : ℕ) → least ds ≡ Some d → IsIn ds (Some e) → d ≤ e
least_below ds d e h i =
    let r = least_some ds e i in
    let is = some_is d r.0 (sym h ∙ r.1) in
    let below = r.2 in
    omega arith

pub greatest_base : (n : ℕ) (ds : List (Option ℕ)) → n ≤ greatest n ds
greatest_base n [] = omega arith
greatest_base n (None ∷ ds) = greatest_base n ds
greatest_base n (Some d ∷ ds) = let h = greatest_base n ds in omega arith

pub greatest_above : (n : ℕ) (ds : List (Option ℕ)) (e : ℕ) → IsIn ds (Some e) → e ≤ greatest n ds
greatest_above n [] e i = absurd i
greatest_above n (None ∷ ds) e (inl same) = cc
greatest_above n (None ∷ ds) e (inr i) = greatest_above n ds e i
greatest_above n (Some d ∷ ds) e (inl same) = let is = some_is d e same in omega arith
greatest_above n (Some d ∷ ds) e (inr i) = let h = greatest_above n ds e i in omega arith

pub greatest_in : (n : ℕ) (ds : List (Option ℕ)) → (greatest n ds ≡ n) ⊎ IsIn ds (Some (greatest n ds))
greatest_in n [] = inl refl
greatest_in n (None ∷ ds) = elim (greatest_in n ds) [ inl e ↦ inl e | inr i ↦ inr (inr i) ]
greatest_in n (Some d ∷ ds) = go (greatest n ds) (greatest_in n ds)
  where
    either : (a b : ℕ) → (max a b ≡ a) ⊎ (max a b ≡ b)
    either a b = grind arith

    go : (g : ℕ) → (g ≡ n) ⊎ IsIn ds (Some g) → (max d g ≡ n) ⊎ IsIn (Some d ∷ ds) (Some (max d g))
    go g rest = elim (either d g) [
      | inl s ↦ inr (inl (ap (λ (k : ℕ). Some k) (sym s)))
      | inr s ↦ elim rest [
        | inl e ↦ inl (s ∙ e)
        | inr i ↦ inr (inr (subst (λ (k : ℕ). IsIn ds (Some k)) (sym s) i))
      ]
    ]

-- ---- distances

-- one more than a number, with what the fifty-move rule adds
abbrev pub counted : Class → ℕ → ℕ
counted k n = 1 + n + offset_of k

module _ (classes : StoredClasses) (numbers : StoredNumbers) where
  pub probed_parts : (p : Position) (k : Class) (d : ℕ) → probed_distance classes numbers p ≡ Some (k, d) → (probed classes p ≡ Some k) × (distance_of classes numbers p k ≡ Some d)
  probed_parts p k d e =
      let r = and_then_parts (λ (j : Class). option_map (λ (n : ℕ). (j, n)) (distance_of classes numbers p j)) (probed classes p) (k, d) e in
      let s = map_parts (λ (n : ℕ). (r.0, n)) (distance_of classes numbers p r.0) (k, d) r.2 in
      let class : r.0 ≡ k = ap (λ (x : Class × ℕ). x.0) s.2 in
      let number : s.0 ≡ d = ap (λ (x : Class × ℕ). x.1) s.2 in (
        r.1 ∙ ap (λ (j : Class). Some j) class,
        ap (distance_of classes numbers p) (sym class) ∙ s.1 ∙ ap (λ (n : ℕ). Some n) number,
      )

  pub record ByNumber (p : Position) (k : Class) (found : Option ℕ) : Type 0 where
    pub next : is_next classes p k ≡ Some false
    pub number : Option ℕ
    pub stored : numbers p.placed_men p.mover k ≡ Some number
    pub is : option_map (counted k) number ≡ found

  pub stored_parts : (p : Position) (k : Class) (found : Option ℕ) → is_drawn k ≡ false → stored_distance classes numbers p k ≡ Some found →
      ((is_next classes p k ≡ Some true) × (Some (1 + offset_of k) ≡ found)) ⊎ ByNumber p k found
  unfolding stored_distance
  stored_parts p k found drawn e =
      let r = and_then_parts (λ (next : Bool). if next then Some (Some (1 + offset_of k)) else option_map (option_map (counted k)) (numbers p.placed_men p.mover k)) (is_next classes p k) found (rw drawn at e) in
      go r.0 r.1 r.2
    where
      go : (next : Bool) → is_next classes p k ≡ Some next → (if next then Some (Some (1 + offset_of k)) else option_map (option_map (counted k)) (numbers p.placed_men p.mover k)) ≡ Some found →
          ((is_next classes p k ≡ Some true) × (Some (1 + offset_of k) ≡ found)) ⊎ ByNumber p k found
      go true is h = inl (is, some_is _ _ h)
      go false is h = let s = map_parts (option_map (counted k)) (numbers p.placed_men p.mover k) found h in inr (record { next = is; number = s.0; stored = s.1; is = s.2 })

  pub stored_drawn : (p : Position) (k : Class) (found : Option ℕ) → is_drawn k ≡ true → stored_distance classes numbers p k ≡ Some found → Some 0 ≡ found
  unfolding stored_distance
  stored_drawn p k found drawn e = some_is _ _ (rw drawn at e)

  pub distance_parts : (p : Position) (k : Class) (d : ℕ) → distance_of classes numbers p k ≡ Some d →
      (stored_distance classes numbers p k ≡ Some (Some d)) ⊎ ((stored_distance classes numbers p k ≡ Some None) × (searched_distance classes numbers p k ≡ Some d))
  distance_parts p k d e = go (stored_distance classes numbers p k) (searched_distance classes numbers p k) e
    where
      go : (s : Option (Option ℕ)) (searched : Option ℕ) → stored_or s searched ≡ Some d → (s ≡ Some (Some d)) ⊎ ((s ≡ Some None) × (searched ≡ Some d))
      go None searched h = cc
      go (Some None) searched h = inr (refl, h)
      go (Some (Some n)) searched h = inl (ap (λ (o : Option ℕ). Some o) h)

  pub by_parts : (j : Class) (q : Position) (e : ℕ) → distance_by classes numbers j q ≡ Some e →
      ((is_mate q ≡ true) × (1 ≡ e)) ⊎ ((is_mate q ≡ false) × (d : ℕ) × (stored_distance classes numbers q j ≡ Some (Some d)) × (1 + d ≡ e))
  unfolding distance_by
  by_parts j q e h = elim (cases_Bool (is_mate q)) [
    | inl t ↦ inl (t, some_is _ _ (rw t at h))
    | inr f ↦ (
        let r = map_parts (λ (d : ℕ). 1 + d) (option_and_then (λ (d : Option ℕ). d) (stored_distance classes numbers q j)) e (rw f at h) in
        let s = and_then_parts (λ (d : Option ℕ). d) (stored_distance classes numbers q j) r.0 r.1 in
        inr (f, r.0, s.1 ∙ ap (λ (o : Option ℕ). Some o) s.2, r.2))
  ]

  pub record IsQuiet (p : Position) (k : Class) (m : Move) (o : Option ℕ) : Type 0 where
    pub class : Class
    pub there : probed classes (after p m) ≡ Some class
    pub staying : stays k class ≡ true → (e : ℕ) × (Some e ≡ o) × (distance_by classes numbers class (after p m) ≡ Some e)
    pub leaving : stays k class ≡ false → None ≡ o

  pub quiet_parts : (p : Position) (k : Class) (m : Move) (o : Option ℕ) → is_zeroing p m ≡ false → quiet_distance classes numbers p k m ≡ Some o → IsQuiet p k m o
  unfolding quiet_distance
  quiet_parts p k m o quiet h =
      let r = and_then_parts (λ (j : Class). if stays k j then option_map (λ (d : ℕ). Some d) (distance_by classes numbers j (after p m)) else Some None) (probed classes (after p m)) o (rw quiet at h) in
      record {
        class = r.0;
        there = r.1;
        staying = λ s. (let t = map_parts (λ (d : ℕ). Some d) (distance_by classes numbers r.0 (after p m)) o (rw s at (r.2)) in (t.0, t.2, t.1));
        leaving = λ s. some_is _ _ (rw s at (r.2));
      }

  pub quiet_zeroing : (p : Position) (k : Class) (m : Move) (e : ℕ) → quiet_distance classes numbers p k m ≡ Some (Some e) → is_zeroing p m ≡ false
  unfolding quiet_distance
  quiet_zeroing p k m e h = elim (cases_Bool (is_zeroing p m)) [
    | inl t ↦ (let none : Some None ≡ Some (Some e) = rw t at h in cc)
    | inr f ↦ f
  ]

  pub searched_parts : (p : Position) (k : Class) (d : ℕ) → searched_distance classes numbers p k ≡ Some d →
      (ds : List (Option ℕ)) × (all_known (map (quiet_distance classes numbers p k) (legal_moves p)) ≡ Some ds) × (chosen k ds ≡ Some d)
  unfolding searched_distance
  searched_parts p k d e = and_then_parts (chosen k) (all_known (map (quiet_distance classes numbers p k) (legal_moves p))) d e

  pub move_parts : (p : Position) (m : Move) (j : Class) (d : ℕ) → move_distance classes numbers p m j ≡ Some d → is_drawn j ≡ false → is_zeroing p m ≡ false →
      ((is_mate (after p m) ≡ true) × (1 ≡ d)) ⊎ ((is_mate (after p m) ≡ false) × (n : ℕ) × (distance_of classes numbers (after p m) j ≡ Some n) × (1 + n ≡ d))
  unfolding move_distance
  move_parts p m j d h drawn quiet = elim (cases_Bool (is_mate (after p m))) [
    | inl t ↦ inl (t, some_is _ _ (rw (drawn, quiet, t) at h))
    | inr f ↦ (let r = map_parts (λ (n : ℕ). 1 + n) (distance_of classes numbers (after p m) j) d (rw (drawn, quiet, f) at h) in inr (f, r.0, r.1, r.2))
  ]

  pub move_zeroing : (p : Position) (m : Move) (j : Class) (d : ℕ) → move_distance classes numbers p m j ≡ Some d → is_drawn j ≡ false → is_zeroing p m ≡ true → 1 + offset_of j ≡ d
  unfolding move_distance
  move_zeroing p m j d h drawn zeroing = some_is _ _ (rw (drawn, zeroing) at h)

module _ (classes : StoredClasses) where
  pub keeps_parts : (p : Position) (k : Class) (m : Move) (b : Bool) → keeps_by_zeroing classes p k m ≡ Some b → is_zeroing p m ≡ true → (j : Class) × (probed classes (after p m) ≡ Some j) × ((level j == level (negate k)) ≡ b)
  unfolding keeps_by_zeroing
  keeps_parts p k m b h zeroing = map_parts (λ (j : Class). level j == level (negate k)) (probed classes (after p m)) b (rw zeroing at h)

  pub keeps_zeroing : (p : Position) (k : Class) (m : Move) → keeps_by_zeroing classes p k m ≡ Some true → is_zeroing p m ≡ true
  unfolding keeps_by_zeroing
  keeps_zeroing p k m h = elim (cases_Bool (is_zeroing p m)) [
    | inl t ↦ t
    | inr f ↦ (let no : Some false ≡ Some true = rw f at h in cc)
  ]

  pub any_true : (bs : List (Option Bool)) → any_known bs ≡ Some true → list_any is_known_true bs ≡ true
  any_true bs e = elim (cases_Bool (list_any is_known_true bs)) [
    | inl t ↦ t
    | inr f ↦ (let r = map_parts (λ (all : List Bool). false) (all_known bs) true (rw f at e) in let no = r.2 in cc)
  ]

  pub any_false : (bs : List (Option Bool)) → any_known bs ≡ Some false → (list_any is_known_true bs ≡ false) × (all : List Bool) × (all_known bs ≡ Some all)
  any_false bs e = elim (cases_Bool (list_any is_known_true bs)) [
    | inl t ↦ (let no : Some true ≡ Some false = rw t at e in cc)
    | inr f ↦ (let r = map_parts (λ (all : List Bool). false) (all_known bs) false (rw f at e) in (f, r.0, r.1))
  ]

  -- beside a position without a move, or with captures alone
  pub record IsBeside (p : Position) (k : Class) (b : Bool) : Type 0 where
    pub some : has_no_move p ≡ false
    pub others : has_only_captures p ≡ false
    pub class : Class
    pub there : probed classes (without_right p) ≡ Some class
    pub differs : (level class == level k) ≡ false → b ≡ true
    pub zeroing : (level class == level k) ≡ true → is_won k ≡ true → has_zeroing classes p k ≡ Some b
    pub lost : (level class == level k) ≡ true → is_won k ≡ false → b ≡ false

  pub next_parts : (p : Position) (k : Class) (b : Bool) → is_next classes p k ≡ Some b → ((b ≡ true) × ((has_no_move p ≡ true) ⊎ (has_only_captures p ≡ true))) ⊎ IsBeside p k b
  next_parts p k b e = elim (cases_Bool (has_no_move p || has_only_captures p)) [
    | inl t ↦ (let is : Some true ≡ Some b = rw t at e in inl (sym (some_is true b is), either-true (has_no_move p) (has_only_captures p) t))
    | inr f ↦ (let no = or_parts (has_no_move p) (has_only_captures p) f in inr (beside no.0 no.1 (rw f at e)))
  ]
    where
      beside : has_no_move p ≡ false → has_only_captures p ≡ false →
          option_and_then (λ differs. if differs then Some true else if is_won k then has_zeroing classes p k else Some false) (differs_without_right classes p k) ≡ Some b → IsBeside p k b
      beside f g h =
          let r = and_then_parts (λ (differs : Bool). if differs then Some true else if is_won k then has_zeroing classes p k else Some false) (differs_without_right classes p k) b h in
          let s = map_parts (λ (j : Class). not (level j == level k)) (probed classes (without_right p)) r.0 r.1 in
          let whole : (if not (level s.0 == level k) then Some true else if is_won k then has_zeroing classes p k else Some false) ≡ Some b =
          subst (λ (c : Bool). (if c then Some true else if is_won k then has_zeroing classes p k else Some false) ≡ Some b) (sym s.2) r.2 in
          record {
            some = f;
            others = g;
            class = s.0;
            there = s.1;
            differs = λ no. sym (some_is true b (rw no at whole));
            zeroing = λ yes won. rw (yes, won) at whole;
            lost = λ yes won. sym (some_is false b (rw (yes, won) at whole));
          }
