-- Laws of expansions and of dictionaries, over the definitions alone.
use Rattle.std.specs.Prelude.{ℕ, ◌≡◌, ◌<◌, ◌≤◌, ◌⊎◌, ◌↔◌, List, Option, Some, None, length}
use Rattle.szg_pairs.specs.Entry.{NamesSymbols}
use Rattle.szg_pairs.specs.Expansion.{Expands, expansion_of}
use Rattle.szg_pairs.specs.Dictionary.{FailsFirst, HasExpansion, HasShortExpansion, IsDictionary, IsDictionaryFault}
use Rattle.szg_pairs.specs.FirstFault.{first_child, first_cycle, first_long}
use Rattle.szg_pairs.specs.declared.DictFault.{DictFault}
use Rattle.szg_pairs.specs.declared.DictFault.TheVariants.{Child, Cycle, LongSymbol, Memory}

-- a symbol expands to at most one list
abbrev pub OneExpansion : Type 0
OneExpansion = (entries : List (List ℕ)) (s : ℕ) (xs ys : List ℕ) → Expands entries s xs → Expands entries s ys → xs ≡ ys

-- no expansion is empty
abbrev pub NoneEmpty : Type 0
NoneEmpty = (entries : List (List ℕ)) (s : ℕ) (xs : List ℕ) → Expands entries s xs → 0 < length xs

-- an expansion of at most 256 values is the one that expansion_of returns
abbrev pub ExpansionIsOf : Type 0
ExpansionIsOf = (entries : List (List ℕ)) (s : ℕ) (xs : List ℕ) → Expands entries s xs → length xs ≤ 256 → expansion_of entries s ≡ xs

-- an accepted dictionary has no fault; only memory may be refused
abbrev pub AcceptedHasNoFault : Type 0
AcceptedHasNoFault = (entries : List (List ℕ)) → IsDictionary entries → (fault : DictFault) → IsDictionaryFault entries fault → fault ≡ Memory

-- a dictionary has at most one fault, apart from refused memory
abbrev pub OneFault : Type 0
OneFault = (entries : List (List ℕ)) (f g : DictFault) → IsDictionaryFault entries f → IsDictionaryFault entries g → (f ≡ Memory) ⊎ ((g ≡ Memory) ⊎ (f ≡ g))

-- `found` is None if P holds for all numbers, else the least number for which it does not hold
abbrev pub FindsFirst : (ℕ → Type 0) → Option ℕ → Type 0
FindsFirst P found = ((found ≡ None) ↔ ((n : ℕ) → P n)) × ((n : ℕ) → (found ≡ Some n) ↔ FailsFirst P n)

-- first_child finds the least symbol whose pair has a child that does not exist
abbrev pub FirstChildFinds : Type 0
FirstChildFinds = (entries : List (List ℕ)) → FindsFirst (NamesSymbols entries) (first_child entries)

-- first_cycle finds the least symbol that has no finite expansion
abbrev pub FirstCycleFinds : Type 0
FirstCycleFinds = (entries : List (List ℕ)) → FindsFirst (HasExpansion entries) (first_cycle entries)

-- if first_cycle finds none, first_long finds the least symbol of more than 256 values
abbrev pub FirstLongFinds : Type 0
FirstLongFinds = (entries : List (List ℕ)) → first_cycle entries ≡ None → FindsFirst (HasShortExpansion entries) (first_long entries)

-- a dictionary is accepted exactly if first_child, first_cycle and first_long find no symbol; else the first of them
-- that finds one determines the fault
abbrev pub FoundIsFault : Type 0
FoundIsFault = (entries : List (List ℕ)) →
    (IsDictionary entries ↔ ((first_child entries ≡ None) × (first_cycle entries ≡ None) × (first_long entries ≡ None)))
    × ((s : ℕ) → IsDictionaryFault entries (Child s) ↔ (first_child entries ≡ Some s))
    × ((s : ℕ) → IsDictionaryFault entries (Cycle s) ↔ ((first_child entries ≡ None) × (first_cycle entries ≡ Some s)))
    × ((s : ℕ) → IsDictionaryFault entries (LongSymbol s) ↔ ((first_child entries ≡ None) × (first_cycle entries ≡ None) × (first_long entries ≡ Some s)))
