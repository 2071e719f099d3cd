-- The functions that find a dictionary's first fault, and its rules and faults, in both directions.
use Rattle.std.proofs.Common.{ℕ, ◌≡◌, ◌↔◌, List, Option, Some, None, refl, ap}
use Rattle.szg_pairs.specs.Entry.{NamesSymbols}
use Rattle.szg_pairs.specs.Dictionary.{FailsFirst, HasExpansion, HasShortExpansion, IsDictionary, IsDictionaryFault}
use Rattle.szg_pairs.specs.FirstFault.{first_child, first_cycle, first_long}
use Rattle.szg_pairs.specs.Laws.{FindsFirst, FirstChildFinds, FirstCycleFinds, FirstLongFinds, FoundIsFault}
use Rattle.szg_pairs.specs.declared.DictFault.TheVariants.{Cycle, LongSymbol}
use Rattle.szg_pairs.proofs.Accepting.{FailsFirst-unique, named}
use Rattle.szg_pairs.proofs.Deciding.{first_child-None, first_child-Some, first_cycle-None, first_cycle-Some, first_long-None, first_long-Some}

none_of : (P : ℕ → Type 0) (found : Option ℕ) → ((n : ℕ) → found ≡ Some n → FailsFirst P n) → ((n : ℕ) → P n) → found ≡ None
none_of P None fails all = refl
none_of P (Some n) fails all = absurd ((fails n refl).here (all n))

some_of : (P : ℕ → Type 0) (found : Option ℕ) → (found ≡ None → (n : ℕ) → P n) → ((n : ℕ) → found ≡ Some n → FailsFirst P n) → (n : ℕ) → FailsFirst P n → found ≡ Some n
some_of P None all fails n first = absurd (first.here (all refl n))
some_of P (Some m) all fails n first = ap (λ (k : ℕ). Some k) (FailsFirst-unique P m n (fails m refl) first)

-- the first number for which P fails is unique
pub finds_first : (P : ℕ → Type 0) (found : Option ℕ) → (found ≡ None → (n : ℕ) → P n) → ((n : ℕ) → found ≡ Some n → FailsFirst P n) → FindsFirst P found
finds_first P found all fails = ((all, none_of P found fails), λ n. (fails n, some_of P found all fails n))

pub first_child_finds : FirstChildFinds
first_child_finds entries = finds_first (NamesSymbols entries) (first_child entries) (first_child-None entries) (first_child-Some entries)

pub first_cycle_finds : FirstCycleFinds
first_cycle_finds entries = finds_first (HasExpansion entries) (first_cycle entries) (first_cycle-None entries) (first_cycle-Some entries)

pub first_long_finds : FirstLongFinds
first_long_finds entries ends = finds_first (HasShortExpansion entries) (first_long entries) (first_long-None entries ends) (λ s. first_long-Some entries s ends)

-- all symbols expand: the first two functions find nothing
ends_of : (entries : List (List ℕ)) → ((s : ℕ) → HasExpansion entries s) → (first_child entries ≡ None) × (first_cycle entries ≡ None)
ends_of entries all = ((first_child_finds entries).0.1 (named entries all), (first_cycle_finds entries).0.1 all)

accepted : (entries : List (List ℕ)) → IsDictionary entries → (first_child entries ≡ None) × (first_cycle entries ≡ None) × (first_long entries ≡ None)
accepted entries h =
    let ends = ends_of entries (λ s there. let x = h s there in (x.0, x.1)) in
    (ends.0, ends.1, (first_long_finds entries ends.1).0.1 h)

cycle : (entries : List (List ℕ)) (s : ℕ) → IsDictionaryFault entries (Cycle s) ↔ ((first_child entries ≡ None) × (first_cycle entries ≡ Some s))
cycle entries s =
    let child = first_child_finds entries in
    let ends = first_cycle_finds entries in
    (λ h. (child.0.1 h.0, (ends.1 s).1 h.1), λ e. (child.0.0 e.0, (ends.1 s).0 e.1))

long : (entries : List (List ℕ)) (s : ℕ) → IsDictionaryFault entries (LongSymbol s) ↔ ((first_child entries ≡ None) × (first_cycle entries ≡ None) × (first_long entries ≡ Some s))
long entries s = (
  λ h. let ends = ends_of entries h.0 in (ends.0, ends.1, ((first_long_finds entries ends.1).1 s).1 h.1),
  λ e. ((first_cycle_finds entries).0.0 e.1, ((first_long_finds entries e.1).1 s).0 e.2),
)

pub found_is_fault : FoundIsFault
found_is_fault entries = (
  (accepted entries, λ e. (first_long_finds entries e.1).0.0 e.2),
  λ s. let child = (first_child_finds entries).1 s in (child.1, child.0),
  cycle entries,
  long entries,
)
