-- Hints stay right.
use Rattle.std.proofs.Common.{◌≡◌, ◌<◌, ◌+◌, ℕ, zero, suc, Bool, true, false, cond, nat_lt, List, [], ◌∷◌, ◌++◌, length, length-append, refl, sym, ap, ◌∙◌, arith, Some, None}
use Rattle.std.specs.Prelude.{count_by, not, position, slice_get, ◌==◌, ◌&&◌, if◌then◌else◌}
use Rattle.std.specs.List.{list_all, position_or_len}
use Rattle.std.proofs.lemmas.Bool.{and_parts, eqb-true, lt-ltb, ne_eqb}
use Rattle.std.proofs.lemmas.List.Elements.{All-weaker}
use Rattle.std.proofs.lemmas.List.Folds.{position_or_len_push}
use Rattle.szg_values.specs.Men.{is_man, name_order}
use Rattle.szg_values.specs.Material.{Sides, is_same_men}
use Rattle.szg_values.specs.declared.Man.{Man}
use Rattle.szg_values.specs.declared.Kind.{Kind}
use Rattle.szg_file.specs.Index.{Index}
use Rattle.szg_tables.specs.Hints.{AreHints, IsFirst, IsHint}
use Rattle.szg_tables.specs.Opened.{Opened, is_for}
use Rattle.szg_tables.specs.Stored.{is_kind}
use Rattle.szg_tables.proofs.OpenedSets.{first_at, first_below, first_is, passes, same_kind}

-- ---- materials of one table

same_counts : {A : Type 0} (f g x y : A → ℕ) (ks : List A) → list_all (λ k. f k == x k) ks ≡ true → list_all (λ k. g k == x k) ks ≡ true → list_all (λ k. f k == y k) ks ≡ list_all (λ k. g k == y k) ks
same_counts f g x y [] p q = refl
same_counts f g x y (k ∷ ks) p q =
    let a = and_parts (f k == x k) (list_all (λ j. f j == x j) ks) p in
    let b = and_parts (g k == x k) (list_all (λ j. g j == x j) ks) q in
    let same : f k ≡ g k = eqb-true (f k) (x k) a.0 ∙ sym (eqb-true (g k) (x k) b.0) in
    ap (λ (n : ℕ). (n == y k) && list_all (λ j. f j == y j) ks) same ∙ ap (λ (rest : Bool). (g k == y k) && rest) (same_counts f g x y ks a.1 b.1)

same_men : (a b x y : List Man) → is_same_men a x ≡ true → is_same_men b x ≡ true → is_same_men a y ≡ is_same_men b y
same_men a b x y p q = same_counts (λ (kind : Man). count_by (is_man kind) a) (λ kind. count_by (is_man kind) b) (λ kind. count_by (is_man kind) x) (λ kind. count_by (is_man kind) y) name_order p q

-- what names one table names the same tables
same_test : (kind other : Kind) (sides others : Sides) (x y : Index) → is_for kind sides x ≡ true → is_for other others x ≡ true → is_for other others y ≡ is_for kind sides y
same_test kind other sides others x y p q =
    let a = and_parts (is_kind kind x.kind) (is_same_men sides.first x.material.first && is_same_men sides.second x.material.second) p in
    let b = and_parts (is_kind other x.kind) (is_same_men others.first x.material.first && is_same_men others.second x.material.second) q in
    let c = and_parts (is_same_men sides.first x.material.first) (is_same_men sides.second x.material.second) a.1 in
    let d = and_parts (is_same_men others.first x.material.first) (is_same_men others.second x.material.second) b.1 in
    let kinds : other ≡ kind = sym (same_kind other x.kind b.0) ∙ same_kind kind x.kind a.0 in
    ap (λ (k : Kind). is_kind k y.kind && (is_same_men others.first y.material.first && is_same_men others.second y.material.second)) kinds
    ∙ ap (λ (first : Bool). is_kind kind y.kind && (first && is_same_men others.second y.material.second)) (same_men others.first sides.first x.material.first y.material.first d.0 c.0)
    ∙ ap (λ (second : Bool). is_kind kind y.kind && (is_same_men sides.first y.material.first && second)) (same_men others.second sides.second x.material.second y.material.second d.1 c.1)

same_position : {X : Type 0} (p q : X → Bool) (xs : List X) → ((x : X) → p x ≡ q x) → position_or_len p xs ≡ position_or_len q xs
same_position p q [] same = refl
same_position p q (x ∷ xs) same = ap (λ (b : Bool). cond (not b) (1 + position_or_len p xs) 0) (same x) ∙ ap (λ (n : ℕ). cond (not (q x)) (1 + n) 0) (same_position p q xs same)

-- ---- hints

get_before : {X : Type 0} (xs ys : List X) (n : ℕ) → n < length xs → slice_get (xs ++ ys) n ≡ slice_get xs n
get_before [] ys n h = absurd (omega (arith, h))
get_before (x ∷ xs) ys zero h = refl
get_before (x ∷ xs) ys (suc n) h = get_before xs ys n (omega (arith, h))

module _ {A : Type 0} (opened : A → Opened) where
  -- the table that a search finds is the first
  pub found_is_first : (tables : List A) (kind : Kind) (sides : Sides) (n : ℕ) → position (λ t. is_for kind sides (opened t).index) tables ≡ Some n → IsFirst opened tables n
  found_is_first tables kind sides n found = record {
    below = first_below (λ t. is_for kind sides (opened t).index) tables n found;
    first = λ other others t at named.
        let here = passes (λ (u : A). is_for kind sides (opened u).index) tables t (first_at (λ (u : A). is_for kind sides (opened u).index) tables n found ∙ at) in
        same_position (λ (u : A). is_for other others (opened u).index) (λ (u : A). is_for kind sides (opened u).index) tables (λ u. same_test kind other sides others (opened t).index (opened u).index here named)
        ∙ first_is (λ (u : A). is_for kind sides (opened u).index) tables n found;
  }

  -- a hint names the first table
  pub hint_finds : (tables : List A) (kind : Kind) (sides : Sides) (n : ℕ) (t : A) → IsFirst opened tables n → slice_get tables n ≡ Some t → is_for kind sides (opened t).index ≡ true → position (λ t. is_for kind sides (opened t).index) tables ≡ Some n
  hint_finds tables kind sides n t known at named =
      ap (λ (m : ℕ). cond (nat_lt m (length tables)) (Some m) None) (known.first kind sides t at named)
      ∙ ap (λ (b : Bool). cond b (Some n) None) (lt-ltb n (length tables) known.below)

  -- a table behind the others leaves each first one the first
  first_stays : (tables : List A) (more : A) (n : ℕ) → IsFirst opened tables n → IsFirst opened (tables ++ more ∷ []) n
  first_stays tables more n known = record {
    below = let longer = length-append tables (more ∷ []) in let h = known.below in omega (arith, longer, h);
    first = λ kind sides t at named.
        let p : A → Bool = λ u. is_for kind sides (opened u).index in
        let same = known.first kind sides t (sym (get_before tables (more ∷ []) n known.below) ∙ at) named in
        let h = known.below in
        position_or_len_push p tables more
        ∙ ap (λ (b : Bool). cond b (length tables + cond (p more) 0 1) (position_or_len p tables)) (ne_eqb (position_or_len p tables) (length tables) (λ e. omega (arith, same, h, e)))
        ∙ same;
  }

  hints_stay : (tables : List A) (more : A) (hints : List ℕ) → AreHints opened tables hints → AreHints opened (tables ++ more ∷ []) hints
  hints_stay tables more hints known = All-weaker (IsHint opened tables) (IsHint opened (tables ++ more ∷ [])) (λ hint h n e. first_stays tables more n (h n e)) hints known

  pub no_hint : (tables : List A) → IsHint opened tables 0
  no_hint tables n e = absurd cc

  pub pushed : (tables : List A) (more : A) (hints : List ℕ) (b : Bool) → AreHints opened tables hints → AreHints opened (if b then tables ++ more ∷ [] else tables) hints
  pushed tables more hints true known = hints_stay tables more hints known
  pushed tables more hints false known = known
