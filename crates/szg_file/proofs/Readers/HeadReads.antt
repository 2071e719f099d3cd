-- Readers of headers: readings with other views, and the checks of codes
-- and dictionaries.
use Rattle.std.proofs.Common.{◌≡◌, ℕ, ◌+◌, ◌*◌, List, refl, sym, ap, subst, ◌∙◌, inl, inr, Option, Some, None, Ok, Err}
use Rattle.std.specs.Prelude.{Result}
use Rattle.szg_code.specs.Canonical.{CanonicalCode}
use Rattle.szg_code.specs.Acceptance.{HasLengths, IsCode, IsCodeFault}
use Rattle.szg_code.specs.FirstFault.{first_rise, first_overfull}
use Rattle.szg_code.specs.declared.CodeFault.{CodeFault}
use Rattle.szg_code.specs.declared.CodeFault.TheVariants.{LowestOrder, TooFull}
use Rattle.szg_code.proofs.Deciding.{rise_is_fault, overfull_is_fault, code_holds}
use Rattle.szg_code.proofs.Accepting as codes
use Rattle.szg_pairs.specs.Dictionary.{IsDictionary, IsDictionaryFault}
use Rattle.szg_pairs.specs.FirstFault.{first_child, first_cycle, first_long}
use Rattle.szg_pairs.specs.declared.DictFault.{DictFault}
use Rattle.szg_pairs.specs.declared.DictFault.TheVariants as dict
use Rattle.szg_pairs.proofs.Deciding.{first_child-None, first_child-Some, first_cycle-None, first_cycle-Some, first_long-None, first_long-Some}
use Rattle.szg_pairs.proofs.Accepting as dictionaries
use Rattle.szg_file.specs.declared.reading.state.ReaderState.{ReaderState}
use Rattle.szg_file.specs.declared.fault.Reason.TheVariants as reason
use Rattle.szg_file.specs.declared.fault.ReadFault.{ReadFault}
use Rattle.szg_file.specs.declared.fault.ReadFault.TheVariants.{Refused, Device, Memory}
use Rattle.szg_file.specs.Format.{Format, means, ◌>>=◌, ◌>>◌}
use Rattle.szg_file.specs.File.{rows_field, none_fails, lowest_check, entries_check}
use Rattle.szg_file.specs.HeadPieces.{Refuses, entries_field, lowest_refusal, entries_refusal}
use Rattle.szg_file.specs.Reading.{Reading}
use Rattle.szg_io.specs.declared.device.Input.{Ghosts}
use Rattle.szg_file.proofs.Readers.ReadingLaws.{reads_then, reads_stopped, reads_nothing, reads_refused}
use Rattle.szg_file.proofs.Readers.Taken.{reads_like}
use Rattle.szg_file.proofs.Readers.LoopReads.{reads_lacking}

-- ---- readings

-- A fault is independent of the value that was being read.
pub reads_failed : {A X Y R : Type 0} (f : Format A) (view : X → A) (view' : Y → A) {o m n : ReaderState}
    {dev : Ghosts R} {i j : R} (fault : ReadFault) →
    Reading f view o m dev i j (Err fault) →
    Reading f view' o n dev i j (Err fault)
reads_failed f view view' (Refused place why) h = record { bytes = h.bytes; taken = h.taken; answer = h.answer }
reads_failed f view view' Device h = record { bytes = h.bytes; taken = h.taken; answer = h.answer }
reads_failed f view view' Memory h = record { bytes = h.bytes; taken = h.taken; answer = h.answer }

-- ---- codes

lowest_cases : (place : ℕ) (code : CanonicalCode) → HasLengths code → (fault : CodeFault) → IsCodeFault code fault →
    (rise overfull : Option ℕ) → first_rise code ≡ rise → first_overfull code ≡ overfull → lowest_check place code ≡ lowest_refusal place fault
lowest_cases place code lengths fault wrong (Some item) overfull e h =
    ap (λ (o : Option ℕ). none_fails o (λ item. place + 2 * item) reason.LowestOrder >> none_fails (first_overfull code) (λ item. place + 2 * item) reason.TooFull) e
    ∙ ap (lowest_refusal place) (codes.one_fault_at_most code (LowestOrder item) fault (rise_is_fault code item lengths e) wrong)
lowest_cases place code lengths fault wrong None (Some item) e h =
    ap (λ (o : Option ℕ). none_fails o (λ item. place + 2 * item) reason.LowestOrder >> none_fails (first_overfull code) (λ item. place + 2 * item) reason.TooFull) e
    ∙ ap (λ (o : Option ℕ). none_fails o (λ item. place + 2 * item) reason.TooFull) h
    ∙ ap (lowest_refusal place) (codes.one_fault_at_most code (TooFull item) fault (overfull_is_fault code item lengths e h) wrong)
lowest_cases place code lengths fault wrong None None e h = absurd (codes.accepted_has_no_fault code (code_holds code lengths e h) fault wrong)

pub lowest_refused : (place : ℕ) (code : CanonicalCode) → HasLengths code → (fault : CodeFault) → IsCodeFault code fault → lowest_check place code ≡ lowest_refusal place fault
lowest_refused place code lengths fault wrong = lowest_cases place code lengths fault wrong (first_rise code) (first_overfull code) refl refl

lowest_none : (place : ℕ) (code : CanonicalCode) → IsCode code → (rise overfull : Option ℕ) → first_rise code ≡ rise → first_overfull code ≡ overfull → lowest_check place code ≡ means tt
lowest_none place code is_valid (Some item) overfull e h = absurd (codes.accepted_has_no_fault code is_valid (LowestOrder item) (rise_is_fault code item is_valid.lengths e))
lowest_none place code is_valid None (Some item) e h = absurd (codes.accepted_has_no_fault code is_valid (TooFull item) (overfull_is_fault code item is_valid.lengths e h))
lowest_none place code is_valid None None e h =
    ap (λ (o : Option ℕ). none_fails o (λ item. place + 2 * item) reason.LowestOrder >> none_fails (first_overfull code) (λ item. place + 2 * item) reason.TooFull) e
    ∙ ap (λ (o : Option ℕ). none_fails o (λ item. place + 2 * item) reason.TooFull) h

pub lowest_passes : (place : ℕ) (code : CanonicalCode) → IsCode code → lowest_check place code ≡ means tt
lowest_passes place code is_valid = lowest_none place code is_valid (first_rise code) (first_overfull code) refl refl

-- ---- dictionaries

abbrev checks_from : ℕ → Option ℕ → Option ℕ → Option ℕ → Format (Unit {0})
checks_from place child cycle long =
    none_fails child (λ symbol. place + 3 * symbol) reason.Child
    >> (none_fails cycle (λ symbol. place + 3 * symbol) reason.Cycle >> none_fails long (λ symbol. place + 3 * symbol) reason.LongSymbol)

-- the first fault of a list of entries, if there is one
abbrev fault_of : Option ℕ → Option ℕ → Option ℕ → Option DictFault
fault_of (Some symbol) cycle long = Some (dict.Child symbol)
fault_of None (Some symbol) long = Some (dict.Cycle symbol)
fault_of None None (Some symbol) = Some (dict.LongSymbol symbol)
fault_of None None None = None

-- the conditions for this fault, or for none
abbrev IsVerdict : List (List ℕ) → Option DictFault → Type 0
IsVerdict entries None = IsDictionary entries
IsVerdict entries (Some fault) = IsDictionaryFault entries fault × (fault ≡ dict.Memory → ⊥)

decided : (entries : List (List ℕ)) (child cycle long : Option ℕ) → first_child entries ≡ child → first_cycle entries ≡ cycle → first_long entries ≡ long →
    IsVerdict entries (fault_of child cycle long)
decided entries (Some symbol) cycle long e h k = (first_child-Some entries symbol e, λ no. absurd cc)
decided entries None (Some symbol) long e h k = ((first_child-None entries e, first_cycle-Some entries symbol h), λ no. absurd cc)
decided entries None None (Some symbol) e h k = ((first_cycle-None entries h, first_long-Some entries symbol h k), λ no. absurd cc)
decided entries None None None e h k = first_long-None entries h k

-- the checks by the first fault
abbrev verdict_of : ℕ → Option DictFault → Format (Unit {0})
verdict_of place None = means tt
verdict_of place (Some fault) = entries_refusal place fault

checks_as : (place : ℕ) (child cycle long : Option ℕ) → checks_from place child cycle long ≡ verdict_of place (fault_of child cycle long)
checks_as place (Some symbol) cycle long = refl
checks_as place None (Some symbol) long = refl
checks_as place None None (Some symbol) = refl
checks_as place None None None = refl

entries_none : (place : ℕ) (entries : List (List ℕ)) → IsDictionary entries → (found : Option DictFault) → IsVerdict entries found → verdict_of place found ≡ means tt
entries_none place entries is_valid None h = refl
entries_none place entries is_valid (Some fault) h = absurd (h.1 (dictionaries.accepted_has_no_fault entries is_valid fault h.0))

entries_pass : (place : ℕ) (entries : List (List ℕ)) → IsDictionary entries → entries_check place entries ≡ means tt
entries_pass place entries is_valid =
    checks_as place (first_child entries) (first_cycle entries) (first_long entries)
    ∙ entries_none place entries is_valid (fault_of (first_child entries) (first_cycle entries) (first_long entries))
    (decided entries (first_child entries) (first_cycle entries) (first_long entries) refl refl refl)

entries_same : (place : ℕ) (entries : List (List ℕ)) (fault : DictFault) → IsDictionaryFault entries fault → (fault ≡ dict.Memory → ⊥) →
    (found : Option DictFault) → IsVerdict entries found → verdict_of place found ≡ entries_refusal place fault
entries_same place entries fault wrong there None h = absurd (there (dictionaries.accepted_has_no_fault entries h fault wrong))
entries_same place entries fault wrong there (Some first) h =
    elim (dictionaries.one_fault_at_most entries first fault h.0 wrong) [
      | inl none ↦ absurd (h.1 none)
      | inr o ↦ elim o [ inl none ↦ absurd (there none) | inr same ↦ ap (entries_refusal place) same ]
    ]

pub entries_refused : (place : ℕ) (entries : List (List ℕ)) (fault : DictFault) → IsDictionaryFault entries fault → (fault ≡ dict.Memory → ⊥) →
    entries_check place entries ≡ entries_refusal place fault
entries_refused place entries fault wrong there =
    checks_as place (first_child entries) (first_cycle entries) (first_long entries)
    ∙ entries_same place entries fault wrong there (fault_of (first_child entries) (first_cycle entries) (first_long entries))
    (decided entries (first_child entries) (first_cycle entries) (first_long entries) refl refl refl)

-- the refusal of a dictionary by its fault is the refusal by its checks
pub entries_stated : (place : ℕ) (entries : List (List ℕ)) (fault : DictFault) (r : ReadFault) → IsDictionaryFault entries fault →
    ((fault ≡ dict.Memory → ⊥) → Refuses (entries_refusal place fault) r) → (fault ≡ dict.Memory → r ≡ Memory) → (r ≡ Memory → ⊥) → Refuses (entries_check place entries) r
entries_stated place entries fault r wrong stated lacks there =
    let full : fault ≡ dict.Memory → ⊥ = λ e. there (lacks e) in
    subst (λ (f : Format (Unit {0})). Refuses f r) (sym (entries_refused place entries fault wrong full)) (stated full)

-- the format after the entries: their checks
abbrev after_rows : ℕ → List (List ℕ) → Format (List (List ℕ))
after_rows place entries = entries_check place entries >> means entries

-- entries that were not read whole
pub entries_unread : {X Y R : Type 0} (count : ℕ) (view : X → List (List ℕ)) (view' : Y → List (List ℕ)) {o n : ReaderState}
    {dev : Ghosts R} {i k : R} (fault : ReadFault) →
    Reading (rows_field 3 count) view o n dev i k (Err fault) →
    Reading (entries_field count) view' o n dev i k (Err fault)
entries_unread count view view' {o = o} fault h =
    reads_like (rows_field 3 count >>= after_rows o.place) (entries_field count) view' (Err fault) (λ bytes. refl)
    (reads_stopped (rows_field 3 count) (after_rows o.place) view view' fault h)

-- entries that were read and that are accepted
pub entries_read : {X Y R : Type 0} (count : ℕ) (view : X → List (List ℕ)) (view' : Y → List (List ℕ)) {o n : ReaderState}
    {dev : Ghosts R} {i k : R} (x : X) (y : Y) → view' y ≡ view x → IsDictionary (view x) →
    Reading (rows_field 3 count) view o n dev i k (Ok x) →
    Reading (entries_field count) view' o n dev i k (Ok y)
entries_read count view view' {o = o} x y same is_valid h =
    reads_like (rows_field 3 count >>= after_rows o.place) (entries_field count) view' (Ok y) (λ bytes. refl)
    (reads_then (rows_field 3 count) (after_rows o.place) view view' x h
    (reads_nothing (after_rows o.place (view x)) view' y (ap (λ (f : Format (Unit {0})). f >> means (view x)) (entries_pass o.place (view x) is_valid) ∙ ap means (sym same))))

-- entries that were read and that are refused
pub entries_stopped : {X Y R : Type 0} (count : ℕ) (view : X → List (List ℕ)) (view' : Y → List (List ℕ)) {o n : ReaderState}
    {dev : Ghosts R} {i k : R} (x : X) (r : ReadFault) →
    ((r ≡ Memory → ⊥) → Refuses (entries_check o.place (view x)) r) →
    Reading (rows_field 3 count) view o n dev i k (Ok x) →
    Reading (entries_field count) view' o n dev i k (Err r)
entries_stopped count view view' {o = o} x (Refused place why) stated h =
    reads_like (rows_field 3 count >>= after_rows o.place) (entries_field count) view' (Err (Refused place why)) (λ bytes. refl)
    (reads_then (rows_field 3 count) (after_rows o.place) view view' x h
    (reads_refused (after_rows o.place (view x)) view' place why (ap (λ (f : Format (Unit {0})). f >> means (view x)) (stated (λ no. absurd cc)))))
entries_stopped count view view' x Device stated h = absurd (stated (λ no. absurd cc))
entries_stopped count view view' x Memory stated h = entries_unread count view view' Memory (reads_lacking (rows_field 3 count) view view x h)

-- a fault that equals `Memory`
pub memory_is : {Y : Type 0} (fault : ReadFault) → ◌≡◌ {A = Result Y ReadFault} (Err fault) (Err Memory) → fault ≡ Memory
memory_is fault e = cc
