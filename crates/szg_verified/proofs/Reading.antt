-- The tables that a folder has of materials.
use Rattle.std.proofs.Common.{◌≡◌, ◌∙◌, ℕ, ◌+◌, ◌<◌, List, [], ◌∷◌, ◌++◌, length, get_or, take, refl, sym, ap, subst, true, false, inl, inr, All, Contains, Option, arith}
use Rattle.std.specs.Prelude.{◌&&◌}
use Rattle.std.proofs.lemmas.Bool.{and_from, cases_Bool}
use Rattle.std.proofs.lemmas.List.Elements.{All-nil, All-push, Contains-append_left, Contains-append_right}
use Rattle.std.proofs.lemmas.List.{take_more}
use Rattle.szg_values.specs.Material.{Sides, is_same_men}
use Rattle.szg_values.specs.declared.Kind.{Kind}
use Rattle.szg_values.specs.declared.Kind.TheVariants.{Wdl, Dtz}
use Rattle.szg_values.proofs.SameMen.{same_men-refl}
use Rattle.szg_file.specs.Held.{Shown}
use Rattle.szg_tables.specs.Stored.{is_for, is_kind}
use Rattle.szg_results.specs.Folders.{IsAbsent, IsReadFrom}
use Rattle.szg_verified.specs.Verified.{AreReadFrom, IsAdded, has_table}
use Rattle.szg_verified.proofs.Materials.{one_more, single}

-- ---- tables of a list

more_there : (kind : Kind) (material : Sides) (ts us : List Shown) → has_table (ts ++ us) kind material ≡ false → has_table ts kind material ≡ false
more_there kind material [] us e = refl
more_there kind material (t ∷ ts) us e = elim (cases_Bool (is_for kind material t)) [
  | inl passes ↦ (let h : true ≡ false = rw passes at e in absurd (cc h))
  | inr f ↦ (let h : has_table (ts ++ us) kind material ≡ false = rw f at e in rw f (more_there kind material ts us h))
]

last_there : (kind : Kind) (material : Sides) (ts : List Shown) (t : Shown) → is_for kind material t ≡ true → has_table (ts ++ t ∷ []) kind material ≡ false → ⊥
last_there kind material [] t is e = let h : true ≡ false = rw is at e in cc h
last_there kind material (u ∷ ts) t is e = elim (cases_Bool (is_for kind material u)) [
  | inl passes ↦ (let h : true ≡ false = rw passes at e in cc h)
  | inr f ↦ (let h : has_table (ts ++ t ∷ []) kind material ≡ false = rw f at e in last_there kind material ts t is h)
]

own_kind : (kind : Kind) → is_kind kind kind ≡ true
own_kind Wdl = refl
own_kind Dtz = refl

-- a table is for its own kind and material
for_itself : (kind : Kind) (material : Sides) (t : Shown) → t.contents.kind ≡ kind → t.contents.material ≡ material → is_for kind material t ≡ true
for_itself kind material t e d =
    rw (e, d) (and_from (is_kind kind kind) (is_same_men material.first material.first && is_same_men material.second material.second) (own_kind kind)
    (and_from (is_same_men material.first material.first) (is_same_men material.second material.second) (same_men-refl material.first) (same_men-refl material.second)))

-- ---- one more table

module _ (files : List ℕ → Option (List ℕ)) (folder : List ℕ) where
  abbrev IsOf : List Sides → Shown → Type 0
  IsOf materials t = Contains materials t.contents.material × IsReadFrom files (folder ∷ []) t.contents.material t.contents.kind t

  each_more : (materials : List Sides) (m : Sides) (kind : Kind) (old new : List Shown) → Contains materials m → IsAdded files folder m kind old new → All (IsOf materials) old → All (IsOf materials) new
  each_more materials m kind old new held (inl (t, from, e)) all =
      let of : IsReadFrom files (folder ∷ []) t.contents.material t.contents.kind t =
      subst (λ (s : Sides). IsReadFrom files (folder ∷ []) s t.contents.kind t) (sym from.table.material_is) (subst (λ (k : Kind). IsReadFrom files (folder ∷ []) m k t) (sym from.table.kind_is) from) in
      subst (All (IsOf materials)) (sym e) (All-push (IsOf materials) old t all (subst (Contains materials) (sym from.table.material_is) held, of))
  each_more materials m kind old new held (inr (absent, e)) all = subst (All (IsOf materials)) (sym e) all

  added_absent : (m : Sides) (kind : Kind) (old new : List Shown) → IsAdded files folder m kind old new → has_table new kind m ≡ false → IsAbsent files (folder ∷ []) m kind
  added_absent m kind old new (inl (t, from, e)) none =
      absurd (last_there kind m old t (for_itself kind m t from.table.kind_is from.table.material_is) (subst (λ (ts : List Shown). has_table ts kind m ≡ false) e none))
  added_absent m kind old new (inr (absent, e)) none = absent

  before : (m s : Sides) (added kind : Kind) (old new : List Shown) → IsAdded files folder m added old new → has_table new kind s ≡ false → has_table old kind s ≡ false
  before m s added kind old new (inl (t, from, e)) none = more_there kind s old (t ∷ []) (subst (λ (ts : List Shown). has_table ts kind s ≡ false) e none)
  before m s added kind old new (inr (absent, e)) none = subst (λ (ts : List Shown). has_table ts kind s ≡ false) e none

  both_absent : (m : Sides) (kind : Kind) (old mid new : List Shown) → IsAdded files folder m Wdl old mid → IsAdded files folder m Dtz mid new → has_table new kind m ≡ false → IsAbsent files (folder ∷ []) m kind
  both_absent m Wdl old mid new one other none = added_absent m Wdl old mid one (before m m Dtz Wdl mid new other none)
  both_absent m Dtz old mid new one other none = added_absent m Dtz mid new other none

  both_read : (ms : List Sides) (i : ℕ) (m : Sides) (old mid new : List Shown) → i < length ms → m ≡ get_or ms i m → AreReadFrom files folder (take i ms) old → IsAdded files folder m Wdl old mid → IsAdded files folder m Dtz mid new →
      AreReadFrom files folder (take (i + 1) ms) new
  both_read ms i m old mid new less is read one other =
      let more : take (i + 1) ms ≡ take i ms ++ m ∷ [] = take_more ms i m less ∙ ap (λ (s : Sides). take i ms ++ s ∷ []) (sym is) in
      let held : Contains (take (i + 1) ms) m = subst (λ (ss : List Sides). Contains ss m) (sym more) (Contains-append_right (take i ms) (m ∷ []) m (single m m refl)) in
      let all : All (IsOf (take (i + 1) ms)) old = λ j d within. (
      let of = read.each j d within in
      let s : Sides = (get_or old j d).contents.material in
      (subst (λ (ss : List Sides). Contains ss s) (sym more) (Contains-append_left (take i ms) (m ∷ []) s of.0), of.1)) in
      record {
        each = each_more (take (i + 1) ms) m Dtz mid new held other (each_more (take (i + 1) ms) m Wdl old mid held one all);
        absent = λ kind s there none. elim (one_more ms i m s less is there) [
          | inl same ↦ subst (λ (x : Sides). IsAbsent files (folder ∷ []) x kind) same (both_absent m kind old mid new one other (subst (λ (x : Sides). has_table new kind x ≡ false) (sym same) none))
          | inr earlier ↦ read.absent kind s earlier (before m s Wdl kind old mid one (before m s Dtz kind mid new other none))
        ];
      }

-- the same, by systems whose files stay
pub next_read : (files f g : List ℕ → Option (List ℕ)) (folder : List ℕ) (ms : List Sides) (i : ℕ) (m : Sides) (old mid new : List Shown) → i < length ms → m ≡ get_or ms i m → f ≡ files → g ≡ files →
    AreReadFrom files folder (take i ms) old → IsAdded f folder m Wdl old mid → IsAdded g folder m Dtz mid new → AreReadFrom files folder (take (i + 1) ms) new
next_read files f g folder ms i m old mid new less is e d read one other =
    both_read files folder ms i m old mid new less is read (subst (λ (x : List ℕ → Option (List ℕ)). IsAdded x folder m Wdl old mid) e one) (subst (λ (x : List ℕ → Option (List ℕ)). IsAdded x folder m Dtz mid new) d other)

pub none_read : (files : List ℕ → Option (List ℕ)) (folder : List ℕ) (tables : List Shown) → tables ≡ [] → AreReadFrom files folder [] tables
none_read files folder tables none = record {
  each = subst (All (IsOf files folder [])) (sym none) (All-nil (IsOf files folder []));
  absent = λ kind s there none. absurd (let less = there.1 in omega (arith, less));
}

pub same_read : (files : List ℕ → Option (List ℕ)) (folder : List ℕ) (materials more : List Sides) (tables others : List Shown) → materials ≡ more → tables ≡ others → AreReadFrom files folder materials tables → AreReadFrom files folder more others
same_read files folder materials more tables others e d read =
    subst (λ (ms : List Sides). AreReadFrom files folder ms others) e (subst (AreReadFrom files folder materials) d read)

-- ---- adding one

pub added : (files : List ℕ → Option (List ℕ)) (folder : List ℕ) (m : Sides) (kind : Kind) (t : Shown) (old new : List Shown) → IsReadFrom files (folder ∷ []) m kind t → new ≡ old ++ t ∷ [] → IsAdded files folder m kind old new
added files folder m kind t old new from e = inl (t, from, e)

pub not_added : (files : List ℕ → Option (List ℕ)) (folder : List ℕ) (m : Sides) (kind : Kind) (old new : List Shown) → IsAbsent files (folder ∷ []) m kind → new ≡ old → IsAdded files folder m kind old new
not_added files folder m kind old new absent e = inr (absent, e)
