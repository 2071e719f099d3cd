-- What is probed over a part of a folder's tables, of positions whose materials are verified.
use Rattle.std.proofs.Common.{◌≡◌, ◌∙◌, ℕ, ◌≤◌, List, [], ◌∷◌, ◌++◌, length, refl, ap, sym, subst, Bool, true, false, arith, inl, inr, All, Contains, Option, Some, None}
use Rattle.std.specs.Prelude.{◌==◌, ◌&&◌, IfSome, IsSomeAnd, count_by, find, is_some, option_and_then, string_bytes, if◌then◌else◌}
use Rattle.std.specs.List.{list_all}
use Rattle.std.proofs.lemmas.Bool.{and_from, and_parts, cases_Bool, eq-eqb, or_cases}
use Rattle.std.proofs.lemmas.List.Elements.{All-contains}
use Rattle.szg_values.specs.Men.{is_man, name_order}
use Rattle.szg_values.specs.Material.{IsMaterial, Sides, is_in_order, is_material, is_same_men, may_be_first}
use Rattle.szg_values.specs.Placement.{Board, PlacedMan, material_of, number_of, side_of}
use Rattle.szg_values.specs.declared.Color.{Color}
use Rattle.szg_values.specs.declared.Color.TheVariants.{White, Black}
use Rattle.szg_values.specs.declared.Kind.{Kind}
use Rattle.szg_values.specs.declared.Kind.TheVariants.{Wdl}
use Rattle.szg_values.specs.declared.Man.{Man}
use Rattle.szg_values.specs.declared.Man.TheVariants.{Pawn, Knight, Bishop, Rook, Queen, King}
use Rattle.szg_values.proofs.MaterialOf.{material_of_placement}
use Rattle.szg_values.proofs.SameMen.{same_men, same_sides-Decides}
use Rattle.szg_values.proofs.SideOf.{black_first, white_first}
use Rattle.szg_file.specs.Accepted.{AreNumbers}
use Rattle.szg_file.specs.Held.{Shown}
use Rattle.szg_file.specs.Opened.{table_in}
use Rattle.szg_game.specs.declared.Class.{Class}
use Rattle.szg_game.proofs.Lists.{contains_in, some_in}
use Rattle.szg_place.proofs.MenOnSlots.Keys.{of_named}
use Rattle.szg_place.proofs.MenOnSlots.Standing.{kind_count, sorted}
use Rattle.szg_chess.specs.Position.{Position, IsPosition}
use Rattle.szg_chess.proofs.Facts.{faultless, placed}
use Rattle.szg_probe.specs.Chess.{ChessClass}
use Rattle.szg_probe.specs.Probing.{StoredClasses, probed}
use Rattle.szg_probe.specs.Distances.{StoredNumbers, probed_distance}
use Rattle.szg_verify.specs.Materials.{covers, has_sides, is_of, kings_alone}
use Rattle.szg_verify.proofs.Materials.{closed_by_materials, from_sides}
use Rattle.szg_tables.specs.Fetched.{AreAmong, IsFileOf, IsOfFile, fetched, fetched_classes}
use Rattle.szg_tables.specs.Opened.{class_in, first_for, is_for as is_opened_for}
use Rattle.szg_tables.specs.Stored.{board_of, is_for, is_kind, stored_classes}
use Rattle.szg_tables.specs.Stored as stored
use Rattle.szg_tables.specs.declared.fetched.FetchedTable.{FetchedTable}
use Rattle.szg_tables.proofs.FetchedTables.{class_among as table_among, found_holds, with_some}
use Rattle.szg_tables.proofs.OpenedSets.{same_kind}
use Rattle.szg_results.specs.Folders.{IsAbsent, IsFetched, IsFirstPath, IsReadFrom, path_of}
use Rattle.szg_results.proofs.Among.{probed_among}
use Rattle.szg_verified.specs.Verified.{AreReadFrom, FolderIsTrue, IsKnownIn}
use Rattle.szg_verified.proofs.Answers.{class_is}
use Rattle.szg_verified.proofs.Covered.{probed_same}

-- ---- the material of covered men

all_kinds : (t : Man → Bool) → ((man : Man) → t man ≡ true) → list_all t name_order ≡ true
all_kinds t each = rw (each King, each Queen, each Rook, each Bishop, each Knight, each Pawn) refl

orders : (men : List PlacedMan) → IsMaterial (material_of men) → (is_in_order (side_of White men) ≡ true) × (is_in_order (side_of Black men) ≡ true)
orders men m = elim (cases_Bool (may_be_first (side_of White men) (side_of Black men))) [
  | inl t ↦ let x = sorted (record { first = side_of White men; second = side_of Black men }) (subst (λ (s : Sides). IsMaterial s) (white_first men t) m) in (x.first, x.second)
  | inr f ↦ let x = sorted (record { first = side_of Black men; second = side_of White men }) (subst (λ (s : Sides). IsMaterial s) (black_first men f) m) in (x.second, x.first)
]

same_by : (a b : List Man) → ((man : Man) → count_by (is_man man) a ≡ count_by (is_man man) b) → is_same_men a b ≡ true
same_by a b h = all_kinds (λ man. count_by (is_man man) a == count_by (is_man man) b) (λ man. eq-eqb (count_by (is_man man) a) (count_by (is_man man) b) (h man))

side_is : (color : Color) (men : List PlacedMan) (side : List Man) → is_in_order (side_of color men) ≡ true → is_in_order side ≡ true → ((man : Man) → number_of man color men ≡ count_by (is_man man) side) → side_of color men ≡ side
side_is color men side p q h = same_men (side_of color men) side p q (same_by (side_of color men) side (λ man. kind_count man color men ∙ h man))

-- a material of which the men are, with either color first
material_is : (mover : Color) (men : List PlacedMan) (sides : Sides) → IsMaterial sides → IsMaterial (material_of men) → is_of men sides ≡ true → material_of men ≡ sides
material_is mover men sides is m of =
    let board : Board = record { placed_men = men; mover = mover } in
    let o = sorted sides is in
    let own = orders men m in
    let same = (same_sides-Decides (material_of men) sides m is).0 in
    elim (or_cases (has_sides men sides.first sides.second) (has_sides men sides.second sides.first) of) [
      | inl t ↦ (
          let h = from_sides men sides.first sides.second t in
          same (of_named sides false board is (record { first = side_is White men sides.first own.0 o.first (λ man. (h man).0); second = side_is Black men sides.second own.1 o.second (λ man. (h man).1) })))
      | inr t ↦ (
          let h = from_sides men sides.second sides.first t in
          same (of_named sides true board is (record { first = side_is Black men sides.first own.1 o.first (λ man. (h man).1); second = side_is White men sides.second own.0 o.second (λ man. (h man).0) })))
    ]

one_king : (men : List PlacedMan) → IsMaterial (material_of men) → has_sides men (King ∷ []) (King ∷ []) ≡ true → ⊥
one_king men m t =
    let own = orders men m in
    let h = from_sides men (King ∷ []) (King ∷ []) t in
    let white = side_is White men (King ∷ []) own.0 refl (λ man. (h man).0) in
    let black = side_is Black men (King ∷ []) own.1 refl (λ man. (h man).1) in
    let first : may_be_first (side_of White men) (side_of Black men) ≡ true = rw (white, black) refl in
    let none : is_material (material_of men) ≡ false = rw (white_first men first, white, black) refl in
    cc (m, none)

pub covered_is : (materials : List Sides) (mover : Color) (men : List PlacedMan) → All (λ sides. IsMaterial sides) materials → IsMaterial (material_of men) → covers materials men ≡ true → Contains materials (material_of men)
covered_is materials mover men each m covered =
    let r = some_in (is_of men) (kings_alone ∷ materials) covered in
    elim r.1 [
      | inl e ↦ absurd (elim (or_cases (has_sides men (King ∷ []) (King ∷ [])) (has_sides men (King ∷ []) (King ∷ [])) (subst (λ (s : Sides). is_of men s ≡ true) (sym e) r.2)) [ inl t ↦ one_king men m t | inr t ↦ one_king men m t ])
      | inr i ↦ (
          let held = contains_in materials r.0 i in
          subst (Contains materials) (sym (material_is mover men r.0 (All-contains (λ (s : Sides). IsMaterial s) materials r.0 each held) m r.2)) held)
    ]

-- ---- the files of a folder

-- a fetched table of a file that is known
abbrev IsPart : (List ℕ → Option (List ℕ)) → List ℕ → FetchedTable → Type 0
IsPart files folder f = IsFetched files (folder ∷ []) f × IsKnownIn files f

module _ (files : List ℕ → Option (List ℕ)) (folder : List ℕ) where
  one_word : (before later : List (List ℕ)) (word : List ℕ) → folder ∷ [] ≡ before ++ word ∷ later → word ≡ folder
  one_word [] later word e = cc e
  one_word (w ∷ []) later word e = absurd (cc e)
  one_word (w ∷ v ∷ ws) later word e = absurd (cc e)

  path_is : (material : Sides) (kind : Kind) (path : List ℕ) → IsFirstPath files (folder ∷ []) material kind path → path_of material kind folder ≡ Some path
  path_is material kind path first = subst (λ (w : List ℕ). path_of material kind w ≡ Some path) (one_word first.before first.later first.word first.words_are) first.path_is

  not_absent : (material : Sides) (kind : Kind) (path content : List ℕ) → path_of material kind folder ≡ Some path → files path ≡ Some content → IsAbsent files (folder ∷ []) material kind → ⊥
  not_absent material kind path content at known absent =
      let none : files path ≡ None = subst (λ (o : Option (List ℕ)). IfSome o (λ path. files path ≡ None)) at (absent 0 folder (omega arith)) in
      cc (none, known)

  some_is : {A : Type 0} (o : Option A) (x : A) (P : A → Type 0) → o ≡ Some x → IfSome o P → P x
  some_is {A} o x P e h = subst (λ (o : Option A). IfSome o P) e h

  module _ (materials : List Sides) (tables : List Shown) (read : AreReadFrom files folder materials tables) (named : All (λ sides. IsMaterial sides) materials) where
    named_in : (sides : Sides) → Contains materials sides → IsMaterial sides
    named_in sides held = All-contains (λ (s : Sides). IsMaterial s) materials sides named held

    file_is : (f : FetchedTable) (content : List ℕ) → IsPart files folder f → files (string_bytes f.path) ≡ Some content → AreNumbers 1 content → (kind : Kind) (sides : Sides) → Contains materials sides →
        is_opened_for kind sides f.front.index ≡ true → IsSomeAnd (find (is_for kind sides) tables) (IsFileOf f)
    file_is f content part known small kind sides held passes = by (find (is_for kind sides) tables) refl where
      tests : (is_kind kind f.front.index.kind ≡ true) × ((is_same_men sides.first f.front.index.material.first && is_same_men sides.second f.front.index.material.second) ≡ true)
      tests = and_parts (is_kind kind f.front.index.kind) (is_same_men sides.first f.front.index.material.first && is_same_men sides.second f.front.index.material.second) passes

      same_material : sides ≡ f.front.index.material
      same_material = (same_sides-Decides sides f.front.index.material (named_in sides held) part.1.0).0 tests.1

      kind_is : f.front.index.kind ≡ kind
      kind_is = same_kind kind f.front.index.kind tests.0

      path : path_of sides kind folder ≡ Some (string_bytes f.path)
      path =
          ap (λ (s : Sides). path_of s kind folder) same_material ∙ ap (λ (k : Kind). path_of f.front.index.material k folder) (sym kind_is)
          ∙ path_is f.front.index.material f.front.index.kind (string_bytes f.path) part.0.first

      by : (o : Option Shown) → find (is_for kind sides) tables ≡ o → IsSomeAnd o (IsFileOf f)
      by None e = absurd (not_absent sides kind (string_bytes f.path) content path known (read.absent kind sides held (ap (λ (o : Option Shown). is_some o) e)))
      by (Some t) e =
          let r = found_holds (is_for kind sides) (λ (t : Shown). Contains materials t.contents.material × IsReadFrom files (folder ∷ []) t.contents.material t.contents.kind t) tables t read.each e in
          let own = and_parts (is_kind kind t.contents.kind) (is_same_men sides.first t.contents.material.first && is_same_men sides.second t.contents.material.second) r.1 in
          let material : sides ≡ t.contents.material = (same_sides-Decides sides t.contents.material (named_in sides held) (named_in t.contents.material r.0.0)).0 own.1 in
          let of_kind : t.contents.kind ≡ kind = same_kind kind t.contents.kind own.0 in
          let from = r.0.1 in
          let there : path_of sides kind folder ≡ Some from.path =
          ap (λ (s : Sides). path_of s kind folder) material ∙ ap (λ (k : Kind). path_of t.contents.material k folder) (sym of_kind) ∙ path_is t.contents.material t.contents.kind from.path from.first in
          let equal : Some from.path ≡ Some (string_bytes f.path) = sym there ∙ path in
          let same : from.path ≡ string_bytes f.path = cc equal in
          let whole : table_in t.contents.material t.contents.kind content ≡ Some t.contents =
          some_is (files from.path) content (λ bytes. table_in t.contents.material t.contents.kind bytes ≡ Some t.contents) (ap files same ∙ known) from.there in
          let table : table_in f.front.index.material f.front.index.kind content ≡ Some t.contents =
          ap (λ (k : Kind). table_in f.front.index.material k content) (kind_is ∙ sym of_kind) ∙ ap (λ (s : Sides). table_in s t.contents.kind content) (sym same_material ∙ material) ∙ whole in
          record {
            content = content;
            small = small;
            there = table;
            is = some_is (files (string_bytes f.path)) content (IsOfFile f) known part.0.there;
          }

    class_among : (parts : List FetchedTable) → All (IsPart files folder) parts → (men : List PlacedMan) (mover : Color) (k : Class) → Contains materials (material_of men) →
        fetched_classes parts men mover ≡ Some k → stored_classes tables men mover ≡ Some k
    class_among parts all men mover k held e = by (first_for fetched Wdl (board_of men mover) parts) refl e where
      by : (o : Option FetchedTable) → first_for fetched Wdl (board_of men mover) parts ≡ o → option_and_then (λ f. class_in (board_of men mover) (fetched f)) o ≡ Some k → stored_classes tables men mover ≡ Some k
      by None is e = let no : None ≡ Some k = e in absurd (cc no)
      by (Some f) is e =
          let sides : Sides = material_of men in
          let r = found_holds (λ (f : FetchedTable). is_opened_for Wdl sides f.front.index) (IsPart files folder) parts f all is in
          with_some (files (string_bytes f.path)) (AreNumbers 1) r.0.1.1 (λ content known small.
          with_some (find (is_for Wdl sides) tables) (IsFileOf f) (file_is f content r.0 known small Wdl sides held r.1) (λ t there of.
          ap (option_and_then (λ (u : Shown). stored.class_in (board_of men mover) u.contents)) there ∙ table_among f t.contents of.content of.small of.there of.is (board_of men mover) k e))

-- ---- an answer

class_of : (classes : StoredClasses) (numbers : StoredNumbers) (p : Position) (k : Class) (d : ℕ) → probed_distance classes numbers p ≡ Some (k, d) → probed classes p ≡ Some k
class_of classes numbers p k d e = by (probed classes p) refl where
  by : (o : Option Class) → probed classes p ≡ o → o ≡ Some k
  by None is = let no : None ≡ Some (k, d) = rw is at e in absurd (cc no)
  by (Some j) is = ap (λ (c : Class). Some c) (class_is classes numbers p j k d is e)

pub folder_is_true : FolderIsTrue
folder_is_true files folder tables materials parts fen a read named closed true_tables fetched-parts known position covered answer =
    let p = fen.position in
    let few = fetched_classes parts in
    let test = λ (men : List PlacedMan). covers materials men && is_material (material_of men) in
    let here : StoredClasses = λ men mover. if test men then few men mover else None in
    let part : All (IsPart files folder) parts = λ i f less. (fetched-parts i f less, known i f less) in
    let among : AreAmong here (stored_classes tables) = λ men mover k e. elim (cases_Bool (test men)) [
      | inl t ↦ (
          let both = and_parts (covers materials men) (is_material (material_of men)) t in
          let plain : few men mover ≡ Some k = rw t at e in
          class_among files folder materials tables read named parts part men mover k (covered_is materials mover men named both.1 both.0) plain)
      | inr n ↦ (let no : None ≡ Some k = rw n at e in absurd (cc no))
    ] in
    let agree = λ (q : Position) (sound : IsPosition q) (three : 3 ≤ length q.placed_men) (covered-men : covers materials q.placed_men ≡ true).
    let material = material_of_placement q.placed_men (placed q (faultless q sound.no_fault) three) in
    let both : test q.placed_men ≡ true = and_from (covers materials q.placed_men) (is_material (material_of q.placed_men)) covered-men material in
    sym (ap (λ (b : Bool). if b then few q.placed_men q.mover else None) both) in
    let same : probed few p ≡ probed here p = probed_same (covers materials) (closed_by_materials materials closed) few here agree p position covered in
    let own : probed few p ≡ Some answer.class = class_of few _ p answer.class answer.plies answer.probed in
    let there = probed_among here (stored_classes tables) among p answer.class (sym same ∙ own) in
    let right = true_tables p position covered in
    let equal : Some right.0 ≡ Some answer.class = sym right.1 ∙ there in
    let class : right.0 ≡ answer.class = cc equal in
    (answer.class, answer.plies, subst (λ (k : Class). ChessClass p k) class right.2, answer.distance)
