-- A table's numbering satisfies IsLayout: its parts have valid order nibbles and men, and its subtables have the sizes
-- of their groups.
use Rattle.std.proofs.Common.{◌≡◌, ℕ, zero, suc, ◌<◌, List, [], ◌∷◌, length, refl, ap, ◌∙◌, Bool, true, false, cond, arith}
use Rattle.std.specs.Prelude.{slice_get, unwrap_or, Option, Some, None, IsNone}
use Rattle.std.specs.List.{AllByRecursion}
use Rattle.szg_values.specs.declared.Kind.{Kind}
use Rattle.szg_values.specs.declared.Kind.TheVariants.{Wdl, Dtz}
use Rattle.szg_values.specs.Material.{Sides, IsMaterial, has_pawns, is_symmetric}
use Rattle.szg_count.specs.Groups.{nibbles_of, order_fault}
use Rattle.szg_file.specs.Contents.{Part, Contents, part_numbers, side_numbers, order_of}
use Rattle.szg_file.specs.Accepted.{SideBySide, IsPart, IsAccepted}
use Rattle.szg_file.specs.Index.{Index, index_of}
use Rattle.szg_place.specs.Layout.{IsLayout, nibbles_at, is_dtz}
use Rattle.szg_place.specs.Tables.{numbering_of, numbering_in}

-- if one of two lists side by side has an item at an index, so has the other
pub side_get : {A B : Type 0} (Q : B → Type 0) (xs : List A) (ys : List B) (i : ℕ) → SideBySide (λ _. Q) xs ys → i < length xs → (y : B) × (slice_get ys i ≡ Some y) × Q y
side_get Q [] ys i h l = absurd (omega arith)
side_get Q (x ∷ xs) [] i h l = absurd h
side_get Q (x ∷ xs) (y ∷ ys) zero h l = (y, refl, h.0)
side_get Q (x ∷ xs) (y ∷ ys) (suc i) h l = side_get Q xs ys i h.1 (omega arith)

side_length : {A B : Type 0} (P : A → B → Type 0) (xs : List A) (ys : List B) → SideBySide P xs ys → length ys ≡ length xs
side_length P [] [] h = refl
side_length P [] (y ∷ ys) h = absurd h
side_length P (x ∷ xs) [] h = absurd h
side_length P (x ∷ xs) (y ∷ ys) h = ap suc (side_length P xs ys h.1)

pub parts_many : (sides : Sides) → length (part_numbers sides) ≡ cond (has_pawns sides) 4 1
parts_many sides = either (has_pawns sides) where
  either : (b : Bool) → length {A = ℕ} (cond b (0 ∷ 1 ∷ 2 ∷ 3 ∷ []) (0 ∷ [])) ≡ cond b 4 1
  either true = refl
  either false = refl

each_side : (Q : ℕ → Type 0) (material : Sides) (kind : Kind) (side : ℕ) → AllByRecursion Q (side_numbers material kind) → side < cond (is_dtz kind) 1 (cond (is_symmetric material) 1 2) → Q side
each_side Q material Dtz zero h l = h.0
each_side Q material Dtz (suc side) h l = absurd (omega (arith, l))
each_side Q material Wdl side h l = either (is_symmetric material) side h l where
  either : (b : Bool) (side : ℕ) → AllByRecursion Q (cond b (0 ∷ []) (0 ∷ 1 ∷ [])) → side < cond false 1 (cond b 1 2) → Q side
  either true zero h l = h.0
  either true (suc side) h l = absurd (omega (arith, l))
  either false zero h l = h.0
  either false (suc zero) h l = h.1.0
  either false (suc (suc side)) h l = absurd (omega (arith, l))

none_holds : {A : Type 0} (o : Option A) → o ≡ None → IsNone o
none_holds None e = refl
none_holds (Some x) e = cc

-- parts that pass their checks have valid order nibbles and men
pub parts_numbering : (x : Index) → IsMaterial x.material → SideBySide (λ _. IsPart x.material x.kind) (part_numbers x.material) x.parts → IsLayout (numbering_in x)
parts_numbering x m stand = record {
  material = m;
  parts = side_length (λ _. IsPart x.material x.kind) (part_numbers x.material) x.parts stand ∙ parts_many x.material;
  ordered = λ part side p s.
      let many = parts_many x.material in
      let r = side_get (IsPart x.material x.kind) (part_numbers x.material) x.parts part stand (omega (arith, many, p)) in
      let ok : order_fault x.material (order_of side r.0) ≡ None = each_side (λ side. order_fault x.material (order_of side r.0) ≡ None) x.material x.kind side r.2.sides s in
      let same : nibbles_at (numbering_in x) part side ≡ order_of side r.0 =
      ap (λ (o : Option Part). let q = unwrap_or o (let none : Part = record { order = []; men = [] } in none) in nibbles_of side q.order q.men) r.1 in
      none_holds (order_fault x.material (nibbles_at (numbering_in x) part side)) (ap (order_fault x.material) same ∙ ok);
}

pub accepted_numbering : (t : Contents) (fill : List ℕ) → IsMaterial t.material → IsAccepted t fill → IsLayout (numbering_of t)
accepted_numbering t fill m a = parts_numbering (index_of t) m a.parts
