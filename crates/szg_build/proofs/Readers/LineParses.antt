-- The result for a line that was read is the meaning of its words.
use Rattle.std.proofs.Common.{◌≡◌, ◌∙◌, ℕ, List, refl, sym, ap, subst, inl, inr, Ok, Err}
use Rattle.std.specs.Prelude.{Result, IfOk, OnOk, IsErrAnd, IsErrOf}
use Rattle.std.proofs.lemmas.Result.{err_from_is_err_and}
use Rattle.szg_io.specs.declared.device.Input.{Ghosts}
use Rattle.szg_build.specs.declared.reading.incoming.Incoming.{Incoming}
use Rattle.szg_build.specs.declared.dump.DumpFault.{DumpFault}
use Rattle.szg_build.specs.declared.dump.DumpReadFault.{DumpReadFault}
use Rattle.szg_build.specs.declared.dump.DumpReadFault.TheVariants.{Memory}
use Rattle.szg_build.specs.Fronts.{ParsesLine, in_line}
use Rattle.szg_build.specs.Lines.{Lines, line, refuses, of_line, words_of}
use Rattle.szg_build.specs.Reading.{ReadsLines, IsParsed}
use Rattle.szg_build.proofs.Readers.LineRead.{words_line}
use Rattle.szg_build.proofs.Readers.ReadingLaws.{reads_then, reads_stopped, reads_nothing, reads_refused}

parses_in : {A X T R : Type 0} (next : List (List ℕ) → Lines A) (view : X → A) (words : T → List (List ℕ)) (text : T) {o m : Incoming} {dev : Ghosts R} {i k : R} (r : Result X DumpFault) →
    ReadsLines words_line words o m dev i k (Ok text) → IsParsed (next (words text)) view r → ReadsLines (line next) view o m dev i k (in_line m.line r)
parses_in next view words text (Ok x) first says = reads_then words_line next words view text first (reads_nothing (next (words text)) view x says)
parses_in next view words text (Err fault) first says = reads_then words_line next words view text first (reads_refused (next (words text)) view fault says)

pub reads_parsed : {A X T R : Type 0} (next : List (List ℕ) → Lines A) (view : X → A) (words : T → List (List ℕ)) (seen : List ℕ) (text : T) {o m : Incoming} {dev : Ghosts R} {i k : R}
    (r : Result X DumpFault) (answer : Result X DumpReadFault) → words text ≡ words_of seen →
    ReadsLines words_line words o m dev i k (Ok text) → IsParsed (next (words_of seen)) view r → answer ≡ in_line m.line r → ReadsLines (line next) view o m dev i k answer
reads_parsed next view words seen text {o = o} {m = m} {dev = dev} {i = i} {k = k} r answer same first says e =
    subst (λ a. ReadsLines (line next) view o m dev i k a) (sym e)
    (parses_in next view words text r first (subst (λ (z : List (List ℕ)). IsParsed (next z) view r) (sym same) says))

pub reads_unread : {A X T R : Type 0} (next : List (List ℕ) → Lines A) (words : T → List (List ℕ)) (view : X → A) {o m n : Incoming} {dev : Ghosts R} {i k : R} (fault : DumpReadFault) →
    ReadsLines words_line words o m dev i k (Err fault) → ReadsLines (line next) view o n dev i k (Err fault)
reads_unread next words view fault first = reads_stopped words_line next words view fault first

-- the result of parsing a line is the meaning of its words
pub known_reads : {A T R : Type 0} (next : List (List ℕ) → Lines A) (view : T → A) {parses : List ℕ → Result T DumpFault → Type 0} {o n : Incoming} {dev : Ghosts R} {i k : R} {result : Result T DumpReadFault} →
    ((text : List ℕ) (stated : Result T DumpFault) → parses text stated → IsParsed (next (words_of text)) view stated) → ParsesLine parses o n dev i k result → ReadsLines (line next) view o n dev i k result
known_reads next view {result = result} says (inl (text, stated, lines_after, first, same)) = reads_parsed next view words_of text text stated result refl first (says text stated lines_after) same
known_reads next view {o = o} {n = n} {dev = dev} {i = i} {k = k} says (inr (fault, first, same)) =
    subst (λ r. ReadsLines (line next) view o n dev i k r) (sym same) (reads_unread next words_of view fault first)

-- the fault of parsing a word is the fault of its line
pub parsed_fault : {A X : Type 0} (lines : Lines A) (result : Result X DumpFault) (view : X → A) (fault why : DumpFault) → IsErrAnd result (λ z. z ≡ fault) → fault ≡ why → lines ≡ refuses (of_line why) → IsParsed lines view result
parsed_fault lines result view fault why gave is refused =
    let p = err_from_is_err_and result gave in
    subst (λ r. IsParsed lines view r) (sym (p.1 ∙ ap (λ (z : DumpFault). Err z) (p.2 ∙ is))) refused

-- parsing a line never returns Memory
pub no_memory : {X : Type 0} (number : ℕ) (r : Result X DumpFault) (answer : Result X DumpReadFault) → answer ≡ in_line number r → IsErrOf answer Memory → ⊥
no_memory number (Ok x) answer same e = absurd cc
no_memory number (Err fault) answer same e = absurd cc

-- what follows from a parsed value follows from the result for the line
pub short_after : {X : Type 0} {P Q : Type 0} (number : ℕ) (r : Result X DumpFault) (answer : Result X DumpReadFault) → answer ≡ in_line number r → IfOk r (λ _. P) → (P → Q) → OnOk answer Q
short_after {Q = Q} number (Ok x) answer same long after = subst (λ a. OnOk a Q) (sym same) (after long)
short_after {Q = Q} number (Err fault) answer same long after = subst (λ a. OnOk a Q) (sym same) tt
