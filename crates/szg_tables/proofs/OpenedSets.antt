-- What opened tables store, by the table that is found.
use Rattle.std.proofs.Common.{get_or, set, ◌≡◌, ◌<◌, ℕ, zero, suc, Bool, true, cond, nat_lt, List, [], ◌∷◌, length, refl, sym, ap, ◌∙◌, subst, inl, inr, arith, Option, Some, None}
use Rattle.std.specs.Prelude.{IfNone, IfSome, IsSomeAnd, find, option_and_then, position, slice_get}
use Rattle.std.specs.List.{position_or_len}
use Rattle.std.proofs.lemmas.Bool.{and_parts, cases_Bool, ltb-false, ltb-true}
use Rattle.std.proofs.lemmas.List.Folds.{find_at}
use Rattle.std.proofs.lemmas.List.{set-get_or}
use Rattle.std.proofs.lemmas.Option.{slice_get_past, slice_get-get_or}
use Rattle.szg_values.specs.Material.{Sides}
use Rattle.szg_values.specs.Placement.{PlacedMan, Board, material_of}
use Rattle.szg_values.specs.declared.Color.{Color}
use Rattle.szg_values.specs.declared.Kind.{Kind}
use Rattle.szg_values.specs.declared.Kind.TheVariants.{Wdl, Dtz}
use Rattle.szg_game.specs.declared.Class.{Class}
use Rattle.szg_place.specs.declared.Spot.{Spot}
use Rattle.szg_tables.specs.Opened.{IsReason, IsReasonIn, Opened, class_in, first_for, is_for, number_in, opened_classes, opened_numbers}
use Rattle.szg_tables.specs.Stored.{board_of, is_kind}
use Rattle.szg_tables.specs.declared.Missing.{Missing}
use Rattle.szg_tables.specs.declared.MissingReason.{MissingReason}
use Rattle.szg_tables.specs.declared.MissingReason.TheVariants.{Table}

-- ---- the first that passes a test

none_there : {X : Type 0} (xs : List X) (n : ℕ) → n < length xs → slice_get xs n ≡ None → ⊥
none_there [] n h e = omega (arith, h)
none_there (x ∷ xs) zero h e = cc e
none_there (x ∷ xs) (suc n) h e = none_there xs n (omega (arith, h)) e

module _ {X : Type 0} (p : X → Bool) where
  pub passes : (xs : List X) (x : X) → find p xs ≡ Some x → p x ≡ true
  passes [] x e = absurd (cc e)
  passes (y ∷ ys) x e = elim (cases_Bool (p y)) [
    | inl t ↦ let same : y ≡ x = cc (sym (ap (λ (b : Bool). cond b (Some y) (find p ys)) t) ∙ e) in ap p (sym same) ∙ t
    | inr f ↦ passes ys x (sym (ap (λ (b : Bool). cond b (Some y) (find p ys)) f) ∙ e)
  ]

  -- the number that is found is the length of what comes before it
  found_is : (xs : List X) (n : ℕ) → position p xs ≡ Some n → (position_or_len p xs ≡ n) × (n < length xs)
  found_is xs n e = elim (cases_Bool (nat_lt (position_or_len p xs) (length xs))) [
    | inl t ↦
        let same : position_or_len p xs ≡ n = cc (sym (ap (λ (b : Bool). cond b (Some (position_or_len p xs)) None) t) ∙ e) in
        (same, subst (λ (k : ℕ). k < length xs) same (ltb-true _ _ t))
    | inr f ↦ absurd (cc (sym (ap (λ (b : Bool). cond b (Some (position_or_len p xs)) None) f) ∙ e))
  ]

  pub first_is : (xs : List X) (n : ℕ) → position p xs ≡ Some n → position_or_len p xs ≡ n
  first_is xs n e = (found_is xs n e).0

  pub first_below : (xs : List X) (n : ℕ) → position p xs ≡ Some n → n < length xs
  first_below xs n e = (found_is xs n e).1

  pub first_at : (xs : List X) (n : ℕ) → position p xs ≡ Some n → find p xs ≡ slice_get xs n
  first_at xs n e = find_at p xs ∙ ap (λ (k : ℕ). slice_get xs k) (first_is xs n e)

  first_passes : (P : X → Type 0) → ((x : X) → p x ≡ true → P x) → (xs : List X) (n : ℕ) → position p xs ≡ Some n → IsSomeAnd (slice_get xs n) P
  first_passes P of xs n e = go (slice_get xs n) refl where
    go : (o : Option X) → slice_get xs n ≡ o → IsSomeAnd o P
    go (Some x) at = of x (passes xs x (first_at xs n e ∙ at))
    go None at = absurd (none_there xs n (first_below xs n e) at)

  first_nowhere : (xs : List X) → position p xs ≡ None → find p xs ≡ None
  first_nowhere xs e = elim (cases_Bool (nat_lt (position_or_len p xs) (length xs))) [
    | inl t ↦ absurd (cc (sym (ap (λ (b : Bool). cond b (Some (position_or_len p xs)) None) t) ∙ e))
    | inr f ↦ find_at p xs ∙ slice_get_past xs (position_or_len p xs) (ltb-false _ _ f)
  ]

-- ---- the element with a number

pub some_below : {X : Type 0} (xs : List X) (n : ℕ) (P : X → Type 0) → IsSomeAnd (slice_get xs n) P → n < length xs
some_below [] n P h = absurd h
some_below (x ∷ xs) zero P h = omega arith
some_below (x ∷ xs) (suc n) P h = let more = some_below xs n P h in omega (arith, more)

pub element_is : {X : Type 0} (xs ys : List X) (n : ℕ) (x : X) → xs ≡ ys → n < length ys → x ≡ get_or xs n x → slice_get ys n ≡ Some x
element_is {X} xs ys n x same below is =
    ap (λ (zs : List X). slice_get zs n) (sym same) ∙ slice_get-get_or xs n x (subst (λ (zs : List X). n < length zs) (sym same) below) ∙ ap (λ (y : X). Some y) (sym is)

-- one that is put back as it was changes nothing
pub put_back : {X : Type 0} (xs : List X) (n : ℕ) (new old : X) → new ≡ old → old ≡ get_or xs n old → set xs n new ≡ xs
put_back xs n new old same is = ap (set xs n) (same ∙ is) ∙ set-get_or xs n old

-- a table that passes the test for a kind is of this kind
pub same_kind : (kind k : Kind) → is_kind kind k ≡ true → k ≡ kind
same_kind Wdl Wdl e = refl
same_kind Wdl Dtz e = absurd (cc e)
same_kind Dtz Wdl e = absurd (cc e)
same_kind Dtz Dtz e = refl

-- ---- the first table for a board

module _ {A : Type 0} (opened : A → Opened) (kind : Kind) (board : Board) (tables' tables : List A) (same : tables' ≡ tables) where
  abbrev test : A → Bool
  test t = is_for kind (material_of board.placed_men) (opened t).index

  here : (o : Option ℕ) → o ≡ position test tables' → position test tables ≡ o
  here o is = sym (is ∙ ap (position test) same)

  pub found_at : (o : Option ℕ) → o ≡ position test tables' → IfSome o (λ n. first_for opened kind board tables ≡ slice_get tables n)
  found_at None is = tt
  found_at (Some n) is = first_at test tables n (here (Some n) is)

  pub kind_at : (o : Option ℕ) → o ≡ position test tables' → IfSome o (λ n. IsSomeAnd (slice_get tables n) (λ t. (opened t).index.kind ≡ kind))
  kind_at None is = tt
  kind_at (Some n) is = first_passes test (λ (t : A). (opened t).index.kind ≡ kind) (λ t e. same_kind kind (opened t).index.kind (and_parts _ _ e).0) tables n (here (Some n) is)

  pub found_nowhere : (o : Option ℕ) → o ≡ position test tables' → IfNone o (first_for opened kind board tables ≡ None)
  found_nowhere None is = first_nowhere test tables (here None is)
  found_nowhere (Some n) is = tt

pub same_index : {A : Type 0} (opened : A → Opened) (new old : A) → new ≡ old → (opened new).index ≡ (opened old).index
same_index {A} opened new old same = ap (λ (t : A). (opened t).index) same

-- ---- what is stored

module _ {A : Type 0} (opened : A → Opened) (tables : List A) (men : List PlacedMan) (mover : Color) (board : Board) (is : board ≡ board_of men mover) where
  pub class_by : (o : Option A) (x : Option Class) → first_for opened Wdl board tables ≡ o → option_and_then (λ t. class_in board (opened t)) o ≡ x → opened_classes opened tables men mover ≡ x
  class_by o x found there =
      subst (λ (b : Board). option_and_then (λ (t : A). class_in b (opened t)) (first_for opened Wdl b tables) ≡ x) is (ap (option_and_then (λ (t : A). class_in board (opened t))) found ∙ there)

  pub number_by_table : (k : Class) (o : Option A) (x : Option (Option ℕ)) → first_for opened Dtz board tables ≡ o → option_and_then (λ t. number_in board k (opened t)) o ≡ x →
      opened_numbers opened tables men mover k ≡ x
  number_by_table k o x found there =
      subst (λ (b : Board). option_and_then (λ (t : A). number_in b k (opened t)) (first_for opened Dtz b tables) ≡ x) is (ap (option_and_then (λ (t : A). number_in board k (opened t))) found ∙ there)

-- ---- why it is not

module _ {A : Type 0} (opened : A → Opened) (explains : A → Spot → MissingReason → Type 0) (kind : Kind) (tables : List A) (men : List PlacedMan) (mover : Color) (board : Board) (is : board ≡ board_of men mover) where
  reason_by : (o : Option A) (reason : MissingReason) → first_for opened kind board tables ≡ o → IfNone o (reason ≡ Table) → IfSome o (λ t. IsReasonIn (explains t) board (opened t) reason) →
      IsReason opened explains kind (board_of men mover) tables reason
  reason_by o reason found none some =
      subst (λ (b : Board). IsReason opened explains kind b tables reason) is
      (subst (λ (p : Option A). IfNone p (reason ≡ Table) × IfSome p (λ t. IsReasonIn (explains t) board (opened t) reason)) (sym found) (none, some))

  reason_of : (missing : Missing) (material : Sides) (reason : MissingReason) → missing ≡ record { material = material; kind = kind; reason = reason } → IsReason opened explains kind (board_of men mover) tables reason →
      IsReason opened explains missing.kind (board_of men mover) tables missing.reason
  reason_of missing material reason same h = subst (λ (m : Missing). IsReason opened explains m.kind (board_of men mover) tables m.reason) (sym same) h

  pub reason_nowhere : (missing : Missing) (material : Sides) → missing ≡ record { material = material; kind = kind; reason = Table } → first_for opened kind board tables ≡ None →
      IsReason opened explains missing.kind (board_of men mover) tables missing.reason
  reason_nowhere missing material same found = reason_of missing material Table same (reason_by None Table found refl tt)

  some_there : (o : Option A) (P : A → Type 0) (Q : Type 0) → IsSomeAnd o P → IfNone o Q
  some_there None P Q h = absurd h
  some_there (Some t) P Q h = tt

  pub reason_at : (missing : Missing) (material : Sides) (n : ℕ) (reason : MissingReason) → missing ≡ record { material = material; kind = kind; reason = reason } →
      first_for opened kind board tables ≡ slice_get tables n → IsSomeAnd (slice_get tables n) (λ t. (opened t).index.kind ≡ kind) →
      IfSome (slice_get tables n) (λ t. IsReasonIn (explains t) board (opened t) reason) → IsReason opened explains missing.kind (board_of men mover) tables missing.reason
  reason_at missing material n reason same found there why =
      reason_of missing material reason same (reason_by (slice_get tables n) reason found (some_there (slice_get tables n) (λ t. (opened t).index.kind ≡ kind) (reason ≡ Table) there) why)
