-- Values by their lists.
use Rattle.std.proofs.Common.{◌≡◌, ℕ, ◌<◌, List, length, get_or, sym, ap, ◌∙◌, subst, Option, Some, None}
use Rattle.std.specs.Prelude.{IsSomeAnd, option_and_then}
use Rattle.std.proofs.lemmas.Option.{slice_get-get_or}
use Rattle.szg_values.specs.declared.Kind.{Kind}
use Rattle.szg_file.specs.Contents.{Contents, Slot, Subtable}
use Rattle.szg_file.specs.Values.{item, subtable_at, values_of}
use Rattle.szg_file.proofs.Tables.TableFinds.{item-slice_get}
use Rattle.szg_place.specs.Tables.{value_at}
use Rattle.szg_place.specs.declared.Spot.{Spot}
use Rattle.szg_tables.specs.Listed.{IsListOf}
use Rattle.szg_tables.specs.declared.listed.ValueList.{ValueList}

item_of : (kind : Kind) (xs : List ℕ) (i v : ℕ) (o : Option (Slot × Subtable)) → IsSomeAnd o (λ found. xs ≡ values_of kind found) → item xs i ≡ Some v → option_and_then (λ found. item (values_of kind found) i) o ≡ Some v
item_of kind xs i v None h e = absurd h
item_of kind xs i v (Some found) h e = ap (λ (ys : List ℕ). item ys i) (sym h) ∙ e

-- an item of the list of a spot's subtable
pub listed_is : (t : Contents) (list : ValueList) (spot : Spot) (v d : ℕ) → IsListOf t list → list.part ≡ spot.part → list.side ≡ spot.side →
    spot.index < length list.values.items → v ≡ get_or list.values.items spot.index d → value_at t spot ≡ Some v
listed_is t list spot v d of part side below is =
    let found : IsSomeAnd (subtable_at t spot.part spot.side) (λ found. list.values.items ≡ values_of t.kind found) =
    subst (λ (side : ℕ). IsSomeAnd (subtable_at t spot.part side) (λ found. list.values.items ≡ values_of t.kind found)) side
    (subst (λ (part : ℕ). IsSomeAnd (subtable_at t part list.side) (λ found. list.values.items ≡ values_of t.kind found)) part of) in
    item_of t.kind list.values.items spot.index v (subtable_at t spot.part spot.side) found
    (item-slice_get list.values.items spot.index ∙ slice_get-get_or list.values.items spot.index d below ∙ ap (λ (n : ℕ). Some n) (sym is))
