-- Lists are compared item by item.
use Rattle.std.proofs.Common.{◌≡◌, ℕ, true, false, List, [], ◌∷◌, map, refl, sym, ap, subst, ◌∙◌, Vec, Global}
use Rattle.std.specs.Bool.{Decides}
use Rattle.std.specs.Cmp.Lexicographic.{pointwise}
use Rattle.std.specs.Prelude.{Bool, ◌&&◌, Option, Some, None, option_map}
use Rattle.std.specs.Option.{option_eq}
use Rattle.std.specs.Str.{bytes_eq}
use Rattle.std.proofs.lemmas.Slice.Eq.{bytes_eq-Decides}
use Rattle.szg_file.specs.Contents.{Part, narrow, wide}
use Rattle.szg_file.specs.Held.{map_of, part_of}
use Rattle.szg_file.specs.declared.table.Map.{Map}
use Rattle.szg_file.specs.declared.table.Map.TheVariants.{Bytes, Wide}
use Rattle.szg_file.specs.declared.table.PartBytes.{PartBytes}
use Rattle.szg_file.specs.contracts.table.PartBytesPartialEq.TheImpl.{eq-value as part_eq}
use Rattle.szg_file.specs.contracts.table.MapPartialEq.TheImpl.{eq-value as map_eq}

both : (a b : Bool) → a ≡ true → b ≡ true → (a && b) ≡ true
both true b e h = h
both false b e h = absurd (cc e)

first : (a b : Bool) → (a && b) ≡ true → a ≡ true
first true b e = refl
first false b e = absurd (cc e)

second : (a b : Bool) → (a && b) ≡ true → b ≡ true
second true b e = e
second false b e = absurd (cc e)

-- a test of items that says whether their views are equal says it of lists too
module _ {A B : Type 0} (view : A → B) (E : A → A → Bool) (decides : (a b : A) → Decides (E a b) (view a ≡ view b)) where
  pub viewed-Decides : (xs ys : List A) → Decides (pointwise E xs ys) (map view xs ≡ map view ys)
  viewed-Decides [] [] = (λ _. refl, λ _. refl)
  viewed-Decides [] (y ∷ ys) = (λ t. absurd (cc t), λ e. absurd (cc e))
  viewed-Decides (x ∷ xs) [] = (λ t. absurd (cc t), λ e. absurd (cc e))
  viewed-Decides (x ∷ xs) (y ∷ ys) =
      let rest = viewed-Decides xs ys in
      let item = decides x y in (
        λ t.
            let here = item.0 (first (E x y) (pointwise E xs ys) t) in
            ap (λ (z : B). z ∷ map view xs) here ∙ ap (λ (z : List B). view y ∷ z) (rest.0 (second (E x y) (pointwise E xs ys) t)),
        λ e.
            let here : view x ≡ view y = cc e in
            let others : map view xs ≡ map view ys = cc e in
            both (E x y) (pointwise E xs ys) (item.1 here) (rest.1 others),
      )

  pub option-Decides : (a b : Option A) → Decides (option_eq E a b) (option_map view a ≡ option_map view b)
  option-Decides None None = (λ _. refl, λ _. refl)
  option-Decides None (Some y) = (λ t. absurd (cc t), λ e. absurd (cc e))
  option-Decides (Some x) None = (λ t. absurd (cc t), λ e. absurd (cc e))
  option-Decides (Some x) (Some y) = (λ t. ap Some ((decides x y).0 t), λ e. let here : view x ≡ view y = cc e in (decides x y).1 here)

-- ---- the tests of parts and maps

pub part_test : (a b : PartBytes) → Decides (part_eq.it a b) (part_of a ≡ part_of b)
part_test a b =
    let orders = bytes_eq-Decides a.order.items b.order.items in
    let men = bytes_eq-Decides a.men.items b.men.items in (
      λ t.
          let order : a.order.items ≡ b.order.items = orders.0 (first (bytes_eq a.order.items b.order.items) (bytes_eq a.men.items b.men.items) t) in
          let others : a.men.items ≡ b.men.items = men.0 (second (bytes_eq a.order.items b.order.items) (bytes_eq a.men.items b.men.items) t) in
          ap (λ (z : List ℕ). let p : Part = record { order = z; men = a.men.items } in p) order ∙ ap (λ (z : List ℕ). let p : Part = record { order = b.order.items; men = z } in p) others,
      λ e. both (bytes_eq a.order.items b.order.items) (bytes_eq a.men.items b.men.items) (orders.1 (ap (λ (p : Part). p.order) e)) (men.1 (ap (λ (p : Part). p.men) e)),
    )

lists_test : (xs ys : List (Vec ℕ Global)) → Decides (pointwise (λ (x y : Vec ℕ Global). bytes_eq x.items y.items) xs ys) (map (λ list. list.items) xs ≡ map (λ list. list.items) ys)
lists_test = viewed-Decides (λ (list : Vec ℕ Global). list.items) (λ (x y : Vec ℕ Global). bytes_eq x.items y.items) (λ x y. bytes_eq-Decides x.items y.items)

pub map_test : (a b : Map) → Decides (map_eq.it a b) (map_of a ≡ map_of b)
map_test (Bytes xs) (Bytes ys) = (λ t. ap narrow ((lists_test xs ys).0 t), λ e. let same : map (λ list. list.items) xs ≡ map (λ list. list.items) ys = cc e in (lists_test xs ys).1 same)
map_test (Wide xs) (Wide ys) = (λ t. ap wide ((lists_test xs ys).0 t), λ e. let same : map (λ list. list.items) xs ≡ map (λ list. list.items) ys = cc e in (lists_test xs ys).1 same)
map_test (Bytes xs) (Wide ys) = (λ t. absurd (cc t), λ e. absurd (cc e))
map_test (Wide xs) (Bytes ys) = (λ t. absurd (cc t), λ e. absurd (cc e))

-- lists of parts, and lists of maps
pub parts_test : (xs ys : List PartBytes) (r : Bool) → r ≡ pointwise part_eq.it xs ys → Decides r (map part_of xs ≡ map part_of ys)
parts_test xs ys r e = subst (λ (b : Bool). Decides b (map part_of xs ≡ map part_of ys)) (sym e) (viewed-Decides part_of part_eq.it part_test xs ys)

pub maps_test : (xs ys : List (Option Map)) (r : Bool) → r ≡ pointwise (option_eq map_eq.it) xs ys → Decides r (map (option_map map_of) xs ≡ map (option_map map_of) ys)
maps_test xs ys r e =
    subst (λ (b : Bool). Decides b (map (option_map map_of) xs ≡ map (option_map map_of) ys)) (sym e)
    (viewed-Decides (option_map map_of) (option_eq map_eq.it) (option-Decides map_of map_eq.it map_test) xs ys)
