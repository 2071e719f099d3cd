-- What follows for a built table: it has the dump that it is built from, and it is found in its file with the values
-- that were passed.
use Rattle.std.proofs.Common.{ℕ, zero, suc, ◌≡◌, List, [], ◌∷◌, ◌++◌, map, Option, Some, None, option_map, refl, sym, ap, ◌∙◌}
use Rattle.std.specs.Prelude.{option_and_then}
use Rattle.szg_values.specs.declared.Kind.{Kind}
use Rattle.szg_values.specs.Material.{Sides}
use Rattle.szg_file.specs.Format.{verdict}
use Rattle.szg_file.specs.File.{file}
use Rattle.szg_file.specs.FileOf.{file_of}
use Rattle.szg_file.specs.Contents.{Slot, Subtable, Contents}
use Rattle.szg_file.specs.Values.{item, values_of, subtable_at}
use Rattle.szg_file.specs.Accepted.{IsAccepted}
use Rattle.szg_file.proofs.Grammar.GoodWhole.{accepted_file_is_good}
use Rattle.szg_build.specs.Dump.{subtable_ids_of}
use Rattle.szg_build.specs.Plan.{Plan}
use Rattle.szg_build.specs.Built.{IsBuilt, subtables_in}
use Rattle.szg_build.specs.Laws.{BuiltDumpStays, BuiltIsFound}
use Rattle.szg_build.proofs.Builders.PlaceLaws.{places_are_valid}

-- The dump of a table that is built from a dump is that dump.
pub built_dump_stays : BuiltDumpStays
built_dump_stays dump block_bits span_bits rounds t built = record {
  material = built.material;
  kind = built.kind;
  parts = built.parts;
  flags = built.flags;
  maps = built.maps;
  last = built.last;
  values = built.values;
}

-- ---- the subtable of a part and side

item-map : {A B : Type 0} (f : A → B) (xs : List A) (i : ℕ) → item (map f xs) i ≡ option_map f (item xs i)
item-map f [] i = refl
item-map f (x ∷ xs) zero = refl
item-map f (x ∷ xs) (suc i) = item-map f xs i

-- the values of a subtable found by its number and by its part and side are the same
same_values : (kind : Kind) (by_number by_place : Option (Slot × Subtable)) (list : List ℕ) (i : ℕ) → option_map Some by_number ≡ Some by_place → option_map (values_of kind) by_number ≡ Some list →
    option_and_then (λ found. item (values_of kind found) i) by_place ≡ item list i
same_values kind None by_place list i there stated = absurd cc
same_values kind (Some pair) by_place list i there stated =
    let place : by_place ≡ Some pair = cc in
    let values : values_of kind pair ≡ list = cc in
    ap (option_and_then (λ found. item (values_of kind found) i)) place ∙ ap (λ (z : List ℕ). item z i) values

value_at_place : (plan : Plan) (lists : List (List ℕ)) (t : Contents) (fill : List ℕ) → IsAccepted t fill → IsBuilt plan lists t → (s part side i : ℕ) (list : List ℕ) →
    item (subtable_ids_of plan.material plan.kind) s ≡ Some (part, side) → item lists s ≡ Some list →
    option_and_then (λ found. item (values_of t.kind found) i) (subtable_at t part side) ≡ item list i
value_at_place plan lists t fill accepted built s part side i list place stated =
    let own : item (subtable_ids_of t.material t.kind) s ≡ Some (part, side) =
    ap (λ (m : Sides). item (subtable_ids_of m t.kind) s) built.material ∙ ap (λ (k : Kind). item (subtable_ids_of plan.material k) s) built.kind ∙ place in
    let there : option_map Some (item (subtables_in t) s) ≡ Some (subtable_at t part side) =
    sym (item-map Some (subtables_in t) s) ∙ ap (λ (z : List (Option (Slot × Subtable))). item z s) (places_are_valid t fill accepted)
    ∙ item-map (λ (p : ℕ × ℕ). subtable_at t p.0 p.1) (subtable_ids_of t.material t.kind) s
    ∙ ap (option_map (λ (p : ℕ × ℕ). subtable_at t p.0 p.1)) own in
    let values : option_map (values_of t.kind) (item (subtables_in t) s) ≡ Some list =
    sym (item-map (values_of t.kind) (subtables_in t) s) ∙ ap (λ (z : List (List ℕ)). item z s) built.values ∙ stated in
    same_values t.kind (item (subtables_in t) s) (subtable_at t part side) list i there values

-- Bytes that begin with the file of a built table have its verdict, and its values are found at their indexes.
pub built_is_found : BuiltIsFound
built_is_found plan lists t fill rest accepted built = (
  ap (λ (m : Sides). verdict (file m plan.kind) 0 (file_of t fill ++ rest)) (sym built.material)
      ∙ ap (λ (k : Kind). verdict (file t.material k) 0 (file_of t fill ++ rest)) (sym built.kind)
      ∙ accepted_file_is_good t fill rest accepted,
  value_at_place plan lists t fill accepted built,
)
