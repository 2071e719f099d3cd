-- What loops require of the calls that are passed to them: calls that extend a subtable, and calls that read a
-- list.
use Rattle.std.specs.Prelude.{ℕ, ◌+◌, ◌*◌, ◌^◌, ◌<◌, ◌≤◌, Result, OnOk, IfOk}
use denote.Ref.{MutBor}
use denote.Param.Members.{Shared}
use Rattle.szg_io.specs.declared.device.Input.{Ghosts}
use Rattle.szg_file.specs.declared.reading.state.ReaderState.{ReaderState}
use Rattle.szg_file.specs.declared.fault.ReadFault.{ReadFault}
use Rattle.szg_file.specs.Format.{Format}
use Rattle.szg_file.specs.Grown.{HasCounted}
use Rattle.szg_file.specs.Reading.{Reading}

-- A call is allowed if few enough bytes were read, and the growth so far is within its bound.
abbrev pub MayTake : {M F T U R : Type 0} → Shared F (M × (T × (MutBor R × (MutBor ReaderState × Unit {0})))) (Result U ReadFault × (MutBor R × (MutBor ReaderState × Unit {0}))) → F → Type 0
MayTake {M = M} {T = T} {R = R} calls take =
    (alloc : M) (item : T) (input : MutBor R) (front : MutBor ReaderState) →
    front.now.place < 2 ^ 60 + 2 ^ 40 → front.now.growth ≤ 2 * front.now.place + 2 ^ 15 →
    calls.pre take (alloc, (item, (input, (front, tt))))

-- Each successful call reads few enough bytes, and lists grow by at most twice their number.
abbrev pub TakesFew : {M F T U R : Type 0} → Shared F (M × (T × (MutBor R × (MutBor ReaderState × Unit {0})))) (Result U ReadFault × (MutBor R × (MutBor ReaderState × Unit {0}))) → F → Type 0
TakesFew {M = M} {T = T} {U = U} {R = R} calls take =
    (alloc : M) (item : T) (input left : MutBor R) (front rest : MutBor ReaderState) (result : Result U ReadFault) →
    calls.post take (alloc, (item, (input, (front, tt)))) (result, (left, (rest, tt))) →
    OnOk result ((rest.now.place ≤ front.now.place + 2 ^ 36) × (rest.now.growth + 2 * front.now.place ≤ front.now.growth + 2 * rest.now.place))

-- Each call reads an item's field, and counts the growth of the item's lists.
abbrev pub TakesAs : {M F T U R : Type 0} → Shared F (M × (T × (MutBor R × (MutBor ReaderState × Unit {0})))) (Result U ReadFault × (MutBor R × (MutBor ReaderState × Unit {0}))) →
    Ghosts R → F → (T → Format U) → (T → ℕ) → (U → ℕ) → Type 0
TakesAs {M = M} {T = T} {U = U} {R = R} calls dev take field before after =
    (alloc : M) (item : T) (input left : MutBor R) (front rest : MutBor ReaderState) (result : Result U ReadFault) →
    calls.post take (alloc, (item, (input, (front, tt)))) (result, (left, (rest, tt))) →
    Reading (field item) (λ taken. taken) front.now rest.now dev input.now left.now result
    × IfOk result (λ taken. HasCounted front.now rest.now (before item) (after taken))

-- ---- a list

-- A call is allowed if few enough bytes were read, and the growth so far is within its bound.
abbrev pub MayRead : {M F X R : Type 0} → Shared F (M × (MutBor R × (MutBor ReaderState × Unit {0}))) (Result X ReadFault × (MutBor R × (MutBor ReaderState × Unit {0}))) → F → Type 0
MayRead {M = M} {R = R} calls read =
    (alloc : M) (input : MutBor R) (front : MutBor ReaderState) →
    front.now.place + 2 ^ 17 < 2 ^ 62 → front.now.growth ≤ 2 * front.now.place + 2 ^ 15 →
    calls.pre read (alloc, (input, (front, tt)))

-- Each successful call reads few enough bytes, and counts the growth of the list.
abbrev pub ReadsFew : {M F X R : Type 0} → Shared F (M × (MutBor R × (MutBor ReaderState × Unit {0}))) (Result X ReadFault × (MutBor R × (MutBor ReaderState × Unit {0}))) → F → (X → ℕ) → Type 0
ReadsFew {M = M} {X = X} {R = R} calls read count =
    (alloc : M) (input left : MutBor R) (front rest : MutBor ReaderState) (result : Result X ReadFault) →
    calls.post read (alloc, (input, (front, tt))) (result, (left, (rest, tt))) →
    OnOk result ((rest.now.place ≤ front.now.place + 2 ^ 17) × (rest.now.growth + 2 * front.now.place ≤ front.now.growth + 2 * rest.now.place))
    × IfOk result (λ list. HasCounted front.now rest.now 0 (count list))

-- Each call reads this format.
abbrev pub ReadsAs : {A M F X R : Type 0} → Shared F (M × (MutBor R × (MutBor ReaderState × Unit {0}))) (Result X ReadFault × (MutBor R × (MutBor ReaderState × Unit {0}))) →
    Ghosts R → F → Format A → (X → A) → Type 0
ReadsAs {M = M} {X = X} {R = R} calls dev read format view =
    (alloc : M) (input left : MutBor R) (front rest : MutBor ReaderState) (result : Result X ReadFault) →
    calls.post read (alloc, (input, (front, tt))) (result, (left, (rest, tt))) →
    Reading format view front.now rest.now dev input.now left.now result
