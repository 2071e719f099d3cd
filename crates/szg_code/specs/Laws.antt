-- Laws of words and of codes, over the definitions alone.
use Rattle.std.specs.Prelude.{ℕ, Bool, ◌≡◌, ◌+◌, ◌^◌, ◌<◌, ◌≤◌, ◌⊎◌, ◌↔◌, List, [], ◌∷◌, ◌++◌, Some, None, length, take}
use Rattle.szg_code.specs.Acceptance.{HasLengths, HasRoomAt, IsCode, IsCodeFault, IsFirstRise, IsLastOverfull, IsOrderedAt, IsOverfullAtLeast}
use Rattle.szg_code.specs.Canonical.{CanonicalCode, IsIn, IsWord, base, words}
use Rattle.szg_code.specs.Cursor.{Cursor, TakesWord}
use Rattle.szg_code.specs.FirstFault.{first_rise, first_overfull}
use Rattle.szg_code.specs.Spelling.{BeginsWithNoWord, Spells}
use Rattle.szg_code.specs.declared.CodeFault.{CodeFault}
use Rattle.szg_code.specs.declared.CodeFault.TheVariants.{LowestOrder, TooFull}

-- bits that begin with two words begin with the same word
abbrev pub NoWordBeginsAnother : Type 0
NoWordBeginsAnother = (code : CanonicalCode) → IsCode code → (w v x y : List Bool) (s t : ℕ) → IsWord code w s → IsWord code v t → w ++ x ≡ v ++ y → (w ≡ v) × (s ≡ t)

-- two words of one symbol are equal
abbrev pub OneWordAtMost : Type 0
OneWordAtMost = (code : CanonicalCode) → IsCode code → (w v : List Bool) (s : ℕ) → IsWord code w s → IsWord code v s → w ≡ v

-- the list of words contains the words, and nothing else
abbrev pub WordsAreListed : Type 0
WordsAreListed = (code : CanonicalCode) → IsCode code → (word : List Bool) (s : ℕ) → IsIn (words code) (word, s) ↔ IsWord code word s

-- of two lists of symbols that bits spell, the shorter is a prefix of the longer
abbrev pub OneListSpelled : Type 0
OneListSpelled = (code : CanonicalCode) → IsCode code → (bits : List Bool) (xs ys : List ℕ) → Spells code bits xs → Spells code bits ys → length xs ≤ length ys → take (length xs) ys ≡ xs

-- A reader at the offset of a written word takes this word, whatever follows: it cannot return that there is no
-- word, and it takes no other word.
abbrev pub WrittenIsRead : Type 0
WrittenIsRead = (code : CanonicalCode) → IsCode code → (word rest : List Bool) (s : ℕ) → IsWord code word s → (old new : Cursor) → old.left ≡ word ++ rest →
    (¬ BeginsWithNoWord code old.left) × ((t : ℕ) → TakesWord code old new t → (t ≡ s) × (new.taken ≡ old.taken ++ word) × (new.left ≡ rest))

-- words of these symbols were appended, one after another
abbrev pub Appended : CanonicalCode → List ℕ → List Bool → List Bool → Type 0
Appended code [] old new = new ≡ old
Appended code (s ∷ symbols) old new = (word : List Bool) × IsWord code word s × Appended code symbols (old ++ word) new

-- the appended bits spell these symbols, whatever follows
abbrev pub WrittenListIsSpelled : Type 0
WrittenListIsSpelled = (code : CanonicalCode) (symbols : List ℕ) (old new : List Bool) → Appended code symbols old new →
    (bits : List Bool) × (new ≡ old ++ bits) × ((rest : List Bool) → Spells code (bits ++ rest) symbols)

-- an accepted code has no fault, and any other has at most one
abbrev pub OneFaultAtMost : Type 0
OneFaultAtMost = (code : CanonicalCode) → (IsCode code → (f : CodeFault) → ¬ IsCodeFault code f) × ((f g : CodeFault) → IsCodeFault code f → IsCodeFault code g → f ≡ g)

-- first_rise finds the first index of a lowest symbol above the one before it
abbrev pub FirstRiseFinds : Type 0
FirstRiseFinds = (code : CanonicalCode) → ((first_rise code ≡ None) ↔ ((j : ℕ) → IsOrderedAt code j)) × ((j : ℕ) → (first_rise code ≡ Some j) ↔ IsFirstRise code j)

-- first_overfull finds the index of the greatest overfull length, or 0 if only the words of the least length do not
-- fit
abbrev pub FirstOverfullFinds : Type 0
FirstOverfullFinds = (code : CanonicalCode) →
    ((first_overfull code ≡ None) ↔ (((l : ℕ) → HasRoomAt code l) × (base code code.min_length < 2 ^ code.min_length)))
    × ((j : ℕ) → (first_overfull code ≡ Some j) ↔ (IsLastOverfull code (code.min_length + j) ⊎ ((j ≡ 0) × IsOverfullAtLeast code)))

-- if the lengths are valid, a code is accepted exactly if first_rise and first_overfull find no index; else the
-- first of them that finds one determines the fault
abbrev pub FoundIsFault : Type 0
FoundIsFault = (code : CanonicalCode) → HasLengths code →
    (IsCode code ↔ ((first_rise code ≡ None) × (first_overfull code ≡ None)))
    × ((j : ℕ) → IsCodeFault code (LowestOrder j) ↔ (first_rise code ≡ Some j))
    × ((j : ℕ) → IsCodeFault code (TooFull j) ↔ ((first_rise code ≡ None) × (first_overfull code ≡ Some j)))
