-- Sections that a sink takes one after another.
use Rattle.std.proofs.Common.{◌≡◌, ℕ, add-one, ◌+◌, ◌<◌, ◌≤◌, List, [], ◌∷◌, ◌++◌, length, map, take, get_or, refl, sym, ap, subst, ◌∙◌, append-nil}
use Rattle.std.specs.Prelude.{flat_map}
use Rattle.std.proofs.lemmas.List.{take_all}
use Rattle.std.proofs.lemmas.List.Folds.{flat_map-map}
use Rattle.std.proofs.lemmas.Grind.{flat_map-append}
use Rattle.std.proofs.Math.Seq.{take-suc}
use Rattle.szg_file.specs.FileOf.{Section, written}
use Rattle.szg_file.specs.Sections.{Took}
use Rattle.szg_file.proofs.Readers.Streamed.{folds_then}

module _ {S W : Type 0} (takes : S → W → Section → S → W → Type 0) where
  pub took_none : (s : S) (o : W) → Took takes [] s o s o
  took_none s o = record { steps = refl }

  pub took_then : (a b : List Section) {s t u : S} {o p q : W} → Took takes a s o t p → Took takes b t p u q → Took takes (a ++ b) s o u q
  took_then a b {s} {t} {u} {o} {p} {q} first second = record {
    steps = folds_then {P = S × W} (λ p section q. takes p.0 p.1 section q.0 q.1) a b (s, o) (t, p) (u, q) first.steps second.steps;
  }

  -- one section, and more after it
  pub took_more : {given section : Section} {rest : List Section} {s t u : S} {o p q : W} → given ≡ section →
      takes s o given t p → Took takes rest t p u q → Took takes (section ∷ rest) s o u q
  took_more {rest = rest} {s = s} {t = t} {u = u} {o = o} {p = p} {q = q} e step others =
      subst (λ (z : Section). Took takes (z ∷ rest) s o u q) e (record { steps = ((t, p), step, others.steps) })

  -- one field, and more after it
  pub took_field : {given bytes : List ℕ} {rest : List Section} {s t u : S} {o p q : W} → given ≡ bytes →
      takes s o (written given) t p → Took takes rest t p u q → Took takes (written bytes ∷ rest) s o u q
  took_field e step others = took_more (ap written e) step others

  -- equal sections
  pub took_as : {a b : List Section} {s t : S} {o p : W} → a ≡ b → Took takes b s o t p → Took takes a s o t p
  took_as {s = s} {t = t} {o = o} {p = p} e h = subst (λ (z : List Section). Took takes z s o t p) (sym e) h

  -- one more item, as a loop hands it over
  pub took_item : {A : Type 0} (f : A → List Section) (xs : List A) (at : ℕ) (x : A) {s t u : S} {o p q : W} → at < length xs → x ≡ get_or xs at x →
      Took takes (flat_map f (take at xs)) s o t p → Took takes (f x) t p u q → Took takes (flat_map f (take (at + 1) xs)) s o u q
  took_item f xs at x h is first second =
      let longer : take (at + 1) xs ≡ take at xs ++ x ∷ [] = ap (λ (m : ℕ). take m xs) (add-one at) ∙ take-suc xs at x h ∙ ap (λ z. take at xs ++ z ∷ []) (sym is) in
      let apart : flat_map f (take (at + 1) xs) ≡ flat_map f (take at xs) ++ f x =
      ap (flat_map f) longer ∙ flat_map-append f (take at xs) (x ∷ []) ∙ ap (λ (z : List Section). flat_map f (take at xs) ++ z) (append-nil (f x)) in
      took_as apart (took_then (flat_map f (take at xs)) (f x) first second)

  -- no item remains
  pub took_all : {A : Type 0} (f : A → List Section) (xs : List A) (at : ℕ) {s t : S} {o p : W} → length xs ≤ at →
      Took takes (flat_map f (take at xs)) s o t p → Took takes (flat_map f xs) s o t p
  took_all f xs at h first = took_as (ap (flat_map f) (sym (take_all at xs h))) first

  -- the sections of the views of the items
  pub took_mapped : {A B : Type 0} (f : B → List Section) (view : A → B) (xs : List A) {s t : S} {o p : W} →
      Took takes (flat_map (λ x. f (view x)) xs) s o t p → Took takes (flat_map f (map view xs)) s o t p
  took_mapped f view xs first = took_as (flat_map-map f view xs) first
