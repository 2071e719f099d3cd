-- The loop that reads more of each subtable: its invariant, and the effect of one step.
use Rattle.std.proofs.Common.{◌≡◌, ℕ, ◌+◌, ◌<◌, List, [], ◌∷◌, ◌++◌, length, map, take, take_all, get_or, refl, sym, ap, ◌∙◌, arith, Ok}
use Rattle.std.specs.List.{sum_by}
use Rattle.std.proofs.lemmas.List.{length_push, map-id}
use Rattle.std.proofs.lemmas.List.Sums.{sum_by_push}
use Rattle.szg_file.specs.declared.reading.state.ReaderState.{ReaderState}
use Rattle.szg_file.specs.Format.{Format, means}
use Rattle.szg_file.specs.File.{each}
use Rattle.szg_file.specs.Grown.{HasCounted}
use Rattle.szg_file.specs.Reading.{Reading}
use Rattle.szg_io.specs.declared.device.Input.{Ghosts}
use Rattle.szg_file.proofs.Readers.Grown.{none_yet, one_more}
use Rattle.szg_file.proofs.Readers.LoopReads.{each_next}
use Rattle.szg_file.proofs.Readers.ReadingLaws.{reads_nothing}
use Rattle.szg_file.proofs.Readers.Taken.{reads_as, reads_equal}

-- the items passed on so far, with what was read into them, are in the resulting list
pub record Loading {T U X R : Type 0} (field : T → Format U) (items yielded : List T) (before : T → ℕ) (after : U → ℕ) (list_of : X → List U) (made : X) (o n : ReaderState)
    (dev : Ghosts R) (i j : R) : Type 0 where
  pub read : Reading (each field (take (length yielded) items)) list_of o n dev i j (Ok made)
  pub grown : HasCounted o n (sum_by before yielded) (length (list_of made) + sum_by after (list_of made))

pub loading_none : {T U X R : Type 0} (field : T → Format U) (items : List T) (before : T → ℕ) (after : U → ℕ) (list_of : X → List U) (made : X) {o : ReaderState} {dev : Ghosts R} {i : R} →
    list_of made ≡ [] → Loading field items [] before after list_of made o o dev i i
loading_none {U = U} field items before after list_of made empty = record {
  read = reads_nothing (means []) list_of made (ap (λ (l : List U). means l) (sym empty));
  grown = omega (arith, none_yet after (list_of made) empty);
}

-- The result of one more item, and the list with it.
pub record Loaded {T U X R : Type 0} (field : T → Format U) (item : T) (loaded : U) (before : T → ℕ) (after : U → ℕ) (list_of : X → List U) (made made' : X) (m p n : ReaderState)
    (dev : Ghosts R) (j k : R) : Type 0 where
  pub read : Reading (field item) (λ (u : U). u) m p dev j k (Ok loaded)
  pub grown : HasCounted m p (before item) (after loaded)
  pub pushed : list_of made' ≡ list_of made ++ loaded ∷ []
  pub same_place : n.place ≡ p.place
  pub same_fill : n.fill.items ≡ p.fill.items
  pub one_counted : n.growth ≡ p.growth + 1

pub loading_next : {T U X R : Type 0} (field : T → Format U) (items yielded : List T) (item : T) (loaded : U) (before : T → ℕ) (after : U → ℕ) (list_of : X → List U) (made made' : X) {o m p n : ReaderState}
    {dev : Ghosts R} {i j k : R} →
    length yielded < length items → item ≡ get_or items (length yielded) item →
    Loading field items yielded before after list_of made o m dev i j →
    Loaded field item loaded before after list_of made made' m p n dev j k →
    Loading field items (yielded ++ item ∷ []) before after list_of made' o n dev i k
loading_next {U = U} field items yielded item loaded before after list_of made made' there is h l =
    let longer : length (yielded ++ item ∷ []) ≡ length yielded + 1 = length_push yielded item in
    record {
      read = reads_equal (each field (take (length yielded + 1) items)) _ list_of (Ok made') (ap (λ (count : ℕ). each field (take count items)) (sym longer))
          (each_next field items (length yielded) item list_of (λ (u : U). u) list_of made loaded made' there is l.pushed h.read
          (reads_as (field item) (field item) (λ (u : U). u) (λ (u : U). u) loaded loaded refl refl l.same_place l.same_fill l.read));
      grown = omega (
        arith,
        one_more after (list_of made) (list_of made') loaded l.pushed,
        sum_by_push before yielded item,
        h.grown,
        l.grown,
        l.one_counted,
        ap length l.same_fill,
      );
    }

-- when all items were passed on, each was extended
pub loading_all : {T U X R : Type 0} (field : T → Format U) (items yielded : List T) (before : T → ℕ) (after : U → ℕ) (list_of : X → List U) (made : X) {o n : ReaderState}
    {dev : Ghosts R} {i j : R} →
    (map (λ item. item) yielded ≡ items) × (length yielded ≡ length items) →
    Loading field items yielded before after list_of made o n dev i j →
    Reading (each field items) list_of o n dev i j (Ok made) × HasCounted o n (sum_by before items) (length (list_of made) + sum_by after (list_of made))
loading_all {T = T} field items yielded before after list_of made (all, count) h =
    let same : yielded ≡ items = sym (map-id yielded) ∙ all in (
      reads_equal (each field (take (length yielded) items)) (each field items) list_of (Ok made) (ap (each field) (take_all (length yielded) items (omega (arith, count)))) h.read,
      omega (arith, h.grown, ap (sum_by before) same),
    )
