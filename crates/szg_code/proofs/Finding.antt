-- The functions that find the first fault of the lowest symbols, and the rules and faults of codes, in both
-- directions.
use Rattle.std.proofs.Common.{ℕ, ◌≡◌, ◌+◌, ◌^◌, ◌<◌, ◌≤◌, ◌⊎◌, ◌↔◌, inl, inr, Option, Some, None, refl, ap, arith}
use Rattle.szg_code.specs.Canonical.{CanonicalCode, base}
use Rattle.szg_code.specs.Acceptance.{HasLengths, IsOrderedAt, HasRoomAt, IsCode, IsFirstRise, IsLastOverfull, IsOverfullAtLeast, IsCodeFault}
use Rattle.szg_code.specs.declared.CodeFault.TheVariants.{TooFull}
use Rattle.szg_code.specs.FirstFault.{first_rise, first_overfull}
use Rattle.szg_code.specs.Laws.{FirstRiseFinds, FirstOverfullFinds, FoundIsFault}
use Rattle.szg_code.proofs.Accepting.{first_rise as one_rise, too_full}
use Rattle.szg_code.proofs.Deciding.{first_rise-None, first_rise-Some, first_overfull-None, first_overfull-Some, code_holds}

-- All is the rule, and Fails j is the fault at item j
none_of : (All : Type 0) (Fails : ℕ → Type 0) → ((j : ℕ) → Fails j → ¬ All) → (found : Option ℕ) → ((j : ℕ) → found ≡ Some j → Fails j) → All → found ≡ None
none_of All Fails refutes None fails all = refl
none_of All Fails refutes (Some j) fails all = absurd (refutes j (fails j refl) all)

some_of : (All : Type 0) (Fails : ℕ → Type 0) → ((j : ℕ) → Fails j → ¬ All) → ((i j : ℕ) → Fails i → Fails j → i ≡ j) →
    (found : Option ℕ) → (found ≡ None → All) → ((j : ℕ) → found ≡ Some j → Fails j) → (j : ℕ) → Fails j → found ≡ Some j
some_of All Fails refutes one None all fails j h = absurd (refutes j h (all refl))
some_of All Fails refutes one (Some i) all fails j h = ap (λ (k : ℕ). Some k) (one i j (fails i refl) h)

-- ---- order

pub first_rise_finds : FirstRiseFinds
first_rise_finds code = (
  (first_rise-None code, none_of ((j : ℕ) → IsOrderedAt code j) (IsFirstRise code) (λ j h all. h.here (all j)) (first_rise code) (first_rise-Some code)),
  λ j. (first_rise-Some code j, some_of ((j : ℕ) → IsOrderedAt code j) (IsFirstRise code) (λ j h all. h.here (all j)) (one_rise code) (first_rise code) (first_rise-None code) (first_rise-Some code) j),
)

-- ---- room

abbrev HasRoom : CanonicalCode → Type 0
HasRoom code = ((l : ℕ) → HasRoomAt code l) × (base code code.min_length < 2 ^ code.min_length)

abbrev IsOverfullItem : CanonicalCode → ℕ → Type 0
IsOverfullItem code j = IsLastOverfull code (code.min_length + j) ⊎ ((j ≡ 0) × IsOverfullAtLeast code)

no_item : (code : CanonicalCode) (j : ℕ) → IsOverfullItem code j → ¬ HasRoom code
no_item code j (inl last) room = last.here (room.0 (code.min_length + j))
no_item code j (inr least) room =
    let fits : base code code.min_length < 2 ^ code.min_length = room.1 in
    let over : 2 ^ code.min_length ≤ base code code.min_length = least.1.least in
    absurd (omega (arith, fits, over))

pub first_overfull_finds : FirstOverfullFinds
first_overfull_finds code = (
  (first_overfull-None code, none_of (HasRoom code) (IsOverfullItem code) (no_item code) (first_overfull code) (first_overfull-Some code)),
  λ j. (first_overfull-Some code j, some_of (HasRoom code) (IsOverfullItem code) (no_item code) (too_full code) (first_overfull code) (first_overfull-None code) (first_overfull-Some code) j),
)

-- ---- verdicts

accepted : (code : CanonicalCode) → IsCode code → (first_rise code ≡ None) × (first_overfull code ≡ None)
accepted code h = ((first_rise_finds code).0.1 h.ordered, (first_overfull_finds code).0.1 (h.room, h.least))

overfull : (code : CanonicalCode) → HasLengths code → (j : ℕ) → IsCodeFault code (TooFull j) ↔ ((first_rise code ≡ None) × (first_overfull code ≡ Some j))
overfull code lengths j =
    let rise = first_rise_finds code in
    let over = (first_overfull_finds code).1 j in
    (λ h. (rise.0.1 h.1, over.1 h.2), λ e. (lengths, rise.0.0 e.0, over.0 e.1))

pub found_is_fault : FoundIsFault
found_is_fault code lengths = (
  (accepted code, λ e. code_holds code lengths e.0 e.1),
  λ j. let rise = (first_rise_finds code).1 j in (λ h. rise.1 h.1, λ e. (lengths, rise.0 e)),
  overfull code lengths,
)
