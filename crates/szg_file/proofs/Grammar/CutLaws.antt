-- Bytes that end within a text: none are left after it, or after the field that fails.
use Rattle.std.proofs.Common.{◌≡◌, ℕ, ◌+◌, ◌-◌, ◌<◌, ◌≤◌, List, [], ◌∷◌, ◌++◌, length, take, drop, refl, sym, ap, subst, ◌∙◌, arith, inl, inr, append-nil, Some}
use Rattle.std.proofs.lemmas.Bool.{cases_lt}
use Rattle.std.proofs.lemmas.List.{drop_all, length-append}
use Rattle.szg_file.specs.Format.{Format, means, refuses, field, fill, placed, Verdict, good, refused, truncated, after_fill, verdict, ◌>>=◌}
use Rattle.szg_file.specs.Reading.{StopsWithin, IsCut}
use Rattle.szg_file.specs.WholeRead.{LeavesMore}
use Rattle.szg_file.proofs.Grammar.FormatLaws.{field-short, field-whole, fill-short, fill-whole, verdict-then, continued, good-more, good-split, refused-more, refused-split}

pub stops-after_fill : {A : Type 0} (filled : List ℕ) (v : Verdict A) → StopsWithin v → StopsWithin (after_fill filled v)
stops-after_fill filled (good a more rest) h = h
stops-after_fill filled (refused at why rest) h = h
stops-after_fill filled (truncated count) h = h

-- the empty text
pub stops-nil : {A : Type 0} (f : Format A) (place : ℕ) → StopsWithin (verdict f place [])
stops-nil (means a) place = refl
stops-nil (refuses at why) place = refl
stops-nil (field size next) place =
    elim (cases_lt (length {A = ℕ} []) size) [
      | inl short ↦ subst (λ (v : Verdict _). StopsWithin v) (sym (field-short size next place [] short)) tt
      | inr whole ↦
          let none : drop {A = ℕ} size [] ≡ [] = drop_all size [] (omega arith) in
          let e : verdict (field size next) place [] ≡ verdict (next (take size [])) (place + size) [] =
          field-whole size next place [] whole ∙ ap (λ (z : List ℕ). verdict (next (take size [])) (place + size) z) none in
          subst (λ (v : Verdict _). StopsWithin v) (sym e) (stops-nil (next (take size [])) (place + size))
    ]
stops-nil (fill size next) place =
    elim (cases_lt (length {A = ℕ} []) size) [
      | inl short ↦ subst (λ (v : Verdict _). StopsWithin v) (sym (fill-short size next place [] short)) tt
      | inr whole ↦
          let none : drop {A = ℕ} size [] ≡ [] = drop_all size [] (omega arith) in
          let e : verdict (fill size next) place [] ≡ after_fill (take size []) (verdict next (place + size) []) =
          fill-whole size next place [] whole ∙ ap (λ (z : List ℕ). after_fill (take size []) (verdict next (place + size) z)) none in
          subst (λ (v : Verdict _). StopsWithin v) (sym e) (stops-after_fill (take size []) (verdict next (place + size) []) (stops-nil next (place + size)))
    ]
stops-nil (placed next) place = stops-nil (next place) place

-- a whole text with nothing after it
pub stops-whole : {A : Type 0} (f : Format A) (place : ℕ) (bytes : List ℕ) (a : A) (filled : List ℕ) → verdict f place bytes ≡ good a filled [] → StopsWithin (verdict f place bytes)
stops-whole f place bytes a filled e = subst (λ (v : Verdict _). StopsWithin v) (sym e) refl

stops-continued : {A B : Type 0} (g : A → Format B) (count : ℕ) (v : Verdict A) → StopsWithin v → StopsWithin (continued g count v)
stops-continued g count (good a filled rest) h =
    subst (λ (z : List ℕ). StopsWithin (after_fill filled (verdict (g a) (count - length z) z))) (sym h)
    (stops-after_fill filled (verdict (g a) (count - length {A = ℕ} []) []) (stops-nil (g a) (count - length {A = ℕ} [])))
stops-continued g count (refused at why rest) h = h
stops-continued g count (truncated at) h = tt

-- bytes that end within a text also end within a longer one
pub stops-then : {A B : Type 0} (f : Format A) (g : A → Format B) (place : ℕ) (bytes : List ℕ) → StopsWithin (verdict f place bytes) → StopsWithin (verdict (f >>= g) place bytes)
stops-then f g place bytes h =
    subst (λ (v : Verdict _). StopsWithin v) (sym (verdict-then f g place bytes)) (stops-continued g (place + length bytes) (verdict f place bytes) h)

-- ---- texts that are not whole

pub cut-after_fill : {A : Type 0} (filled : List ℕ) (v : Verdict A) → IsCut v → IsCut (after_fill filled v)
cut-after_fill filled (good a more rest) h = h
cut-after_fill filled (refused at why rest) h = h
cut-after_fill filled (truncated count) h = h

cut-continued : {A B : Type 0} (g : A → Format B) (count : ℕ) (v : Verdict A) → ((a : A) (place : ℕ) → IsCut (verdict (g a) place [])) → StopsWithin v → IsCut (continued g count v)
cut-continued g count (good a filled rest) needs h =
    subst (λ (z : List ℕ). IsCut (after_fill filled (verdict (g a) (count - length z) z))) (sym h)
    (cut-after_fill filled (verdict (g a) (count - length {A = ℕ} []) []) (needs a (count - length {A = ℕ} [])))
cut-continued g count (refused at why rest) needs h = h
cut-continued g count (truncated at) needs h = tt

-- if the second format needs bytes, bytes that end within the first text are not whole
pub cut-then : {A B : Type 0} (f : Format A) (g : A → Format B) (place : ℕ) (bytes : List ℕ) → ((a : A) (at : ℕ) → IsCut (verdict (g a) at [])) →
    StopsWithin (verdict f place bytes) → IsCut (verdict (f >>= g) place bytes)
cut-then f g place bytes needs h =
    subst (λ (v : Verdict _). IsCut v) (sym (verdict-then f g place bytes)) (cut-continued g (place + length bytes) (verdict f place bytes) needs h)

cut_first-continued : {A B : Type 0} (g : A → Format B) (count : ℕ) (v : Verdict A) → IsCut v → IsCut (continued g count v)
cut_first-continued g count (good a filled rest) h = absurd h
cut_first-continued g count (refused at why rest) h = h
cut_first-continued g count (truncated at) h = tt

pub cut-first : {A B : Type 0} (f : Format A) (g : A → Format B) (place : ℕ) (bytes : List ℕ) → IsCut (verdict f place bytes) → IsCut (verdict (f >>= g) place bytes)
cut-first f g place bytes h =
    subst (λ (v : Verdict _). IsCut v) (sym (verdict-then f g place bytes)) (cut_first-continued g (place + length bytes) (verdict f place bytes) h)

-- ---- the bytes that remain after bytes that are not whole

-- two ways to cut a list
cut_in_two : (xs ys us vs : List ℕ) → xs ++ ys ≡ us ++ vs → length vs ≤ length ys → (more : List ℕ) × (ys ≡ more ++ vs) × (us ≡ xs ++ more)
cut_in_two [] ys us vs e le = (us, e, refl)
cut_in_two (x ∷ xs) ys [] vs e le =
    let counted : length ((x ∷ xs) ++ ys) ≡ length vs = ap length e in
    absurd (omega (arith, counted, length-append (x ∷ xs) ys))
cut_in_two (x ∷ xs) ys (u ∷ us) vs e le =
    let same : x ≡ u = cc in
    let rest : xs ++ ys ≡ us ++ vs = cc in
    let h = cut_in_two xs ys us vs rest le in
    (h.0, h.1, ap (λ (z : List ℕ). u ∷ z) h.2 ∙ ap (λ (z : ℕ). z ∷ (xs ++ h.0)) (sym same))

leaves_good : {A : Type 0} (f : Format A) (place : ℕ) (bytes : List ℕ) (count : ℕ) (a : A) (filled more : List ℕ) → verdict f place bytes ≡ truncated count →
    verdict f place (bytes ++ more) ≡ good a filled [] → 0 < length more
leaves_good f place bytes count a filled [] e h =
    let no : truncated count ≡ good a filled [] = sym e ∙ ap (λ (z : List ℕ). verdict f place z) (sym (append-nil bytes)) ∙ h in
    absurd cc
leaves_good f place bytes count a filled (x ∷ more) e h = omega arith

leaves_cases : {A : Type 0} (f : Format A) (place : ℕ) (bytes rest : List ℕ) (count : ℕ) (v : Verdict A) → verdict f place bytes ≡ truncated count →
    verdict f place (bytes ++ rest) ≡ v → LeavesMore v (Some rest)
leaves_cases f place bytes rest count (good a filled following) e h =
    let text = good-split f place (bytes ++ rest) a filled following h in
    elim (cases_lt (length rest) (length following)) [
      | inl less ↦
          let other = cut_in_two text.0 following bytes rest (sym text.1) (omega (arith, less)) in
          let whole : verdict f place bytes ≡ good a filled other.0 =
          ap (λ (z : List ℕ). verdict f place z) other.2 ∙ good-more f place text.0 other.0 a filled [] text.2 in
          let no : truncated count ≡ good a filled other.0 = sym e ∙ whole in
          absurd cc
      | inr most ↦
          let h = cut_in_two bytes rest text.0 following text.1 most in
          let whole : verdict f place (bytes ++ h.0) ≡ good a filled [] = ap (λ (z : List ℕ). verdict f place z) (sym h.2) ∙ text.2 in
          (h.0, leaves_good f place bytes count a filled h.0 e whole, ap (λ (z : List ℕ). Some z) h.1)
    ]
leaves_cases f place bytes rest count (refused at why following) e h =
    let text = refused-split f place (bytes ++ rest) at why following h in
    elim (cases_lt (length rest) (length following)) [
      | inl less ↦
          let other = cut_in_two text.0 following bytes rest (sym text.1) (omega (arith, less)) in
          let fails : verdict f place bytes ≡ refused at why other.0 =
          ap (λ (z : List ℕ). verdict f place z) other.2 ∙ refused-more f place text.0 other.0 at why [] text.2 in
          let no : truncated count ≡ refused at why other.0 = sym e ∙ fails in
          absurd cc
      | inr most ↦
          let h = cut_in_two bytes rest text.0 following text.1 most in
          (h.0, ap (λ (z : List ℕ). Some z) h.1)
    ]
leaves_cases f place bytes rest count (truncated at) e h = tt

leaves_of : {A : Type 0} (f : Format A) (place : ℕ) (bytes rest : List ℕ) (v : Verdict A) → verdict f place bytes ≡ v → IsCut v → LeavesMore (verdict f place (bytes ++ rest)) (Some rest)
leaves_of f place bytes rest (good a filled following) e h = absurd h
leaves_of f place bytes rest (refused at why following) e h =
    let all : verdict f place (bytes ++ rest) ≡ refused at why rest =
    refused-more f place bytes rest at why following e ∙ ap (λ (z : List ℕ). refused at why (z ++ rest)) h in
    subst (λ (v : Verdict _). LeavesMore v (Some rest)) (sym all) ([], refl)
leaves_of f place bytes rest (truncated count) e h = leaves_cases f place bytes rest count (verdict f place (bytes ++ rest)) e refl

-- Bytes that are not whole leave at least what the verdict on all bytes leaves.
pub leaves_more : {A : Type 0} (f : Format A) (place : ℕ) (bytes rest : List ℕ) → IsCut (verdict f place bytes) → LeavesMore (verdict f place (bytes ++ rest)) (Some rest)
leaves_more f place bytes rest h = leaves_of f place bytes rest (verdict f place bytes) refl h
