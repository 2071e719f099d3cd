-- The results of a reader of one line.
use Rattle.std.proofs.Common.{◌≡◌, ℕ, suc, ◌+◌, ◌-◌, ◌^◌, ◌<◌, ◌≤◌, List, [], ◌++◌, length, take, drop, get_or, min, refl, sym, ap, subst, ◌∙◌, append-nil, arith, Ok, Err}
use Rattle.std.specs.Io.KnownBytes.{IsAtEnd}
use Rattle.szg_io.specs.Moved.{Takes}
use Rattle.szg_io.specs.declared.device.Input.{Ghosts}
use Rattle.szg_io.proofs.DeviceLaws.{Takes-on, Takes-more}
use Rattle.szg_build.specs.declared.reading.incoming.Incoming.{Incoming}
use Rattle.szg_build.specs.declared.dump.DumpFault.TheVariants.{Field, Ended}
use Rattle.szg_build.specs.declared.dump.DumpReadFault.TheVariants.{Line}
use Rattle.szg_build.specs.Held.{held_of}
use Rattle.szg_build.specs.Lines.{Lines, line, means, words_of, of_line, good, refused, ended, verdict}
use Rattle.szg_build.specs.Reading.{ReadsLines, IsLineFault, EndsWith, saturated_line}
use Rattle.szg_build.proofs.Texts.LinesLaws.{line-whole, line-long, line-unended}
use Rattle.szg_build.proofs.Readers.FirstLine.{first_line-whole, first_line-long, first_line-unended}

abbrev pub words_line : Lines (List (List ℕ))
words_line = line means

next_parsed : (count old new : ℕ) → saturated_line count ≡ old → new ≡ min (old + 1) (2 ^ 64 - 1) → saturated_line (suc count) ≡ new
next_parsed count old new stated e = omega (arith, stated, e)

-- The line ends within the bytes that were read.
pub reads_whole : {X R : Type 0} (view : X → List (List ℕ)) (x : X) {o n : Incoming} {dev : Ghosts R} {i k : R} (held taken : List ℕ) (size : ℕ) →
    view x ≡ words_of (take size held) → held ≡ held_of o ++ taken → held_of n ≡ drop (suc size) held → n.line ≡ min (o.line + 1) (2 ^ 64 - 1) →
    size ≤ 80 → size < length held → get_or held size 0 ≡ 10 → ((k : ℕ) → k < size → get_or held k 0 ≡ 10 → ⊥) →
    Takes dev i k taken 0 → dev.failures k ≡ dev.failures i → ReadsLines words_line view o n dev i k (Ok x)
reads_whole view x {o = o} {n = n} held taken size text whole rest number fits there here before takes quiet = record {
  bytes = taken;
  taken = takes;
  answer = λ count stated. (
    suc count,
    next_parsed count o.line n.line stated number,
    ap (λ (z : List ℕ). verdict words_line count z) (sym whole)
        ∙ line-whole means count held (take size held) (drop (suc size) held) (first_line-whole 80 size held fits there here before)
        ∙ ap (λ (z : List (List ℕ)). good z (suc count) (drop (suc size) held)) (sym text)
        ∙ ap (λ (z : List ℕ). good (view x) (suc count) z) (sym rest),
    quiet,
  );
}

-- The line is too long.
pub reads_long : {X R : Type 0} (view : X → List (List ℕ)) {o n : Incoming} {dev : Ghosts R} {i k : R} (held taken : List ℕ) (number : ℕ) →
    held ≡ held_of o ++ taken → number ≡ min (o.line + 1) (2 ^ 64 - 1) → 80 < length held → ((k : ℕ) → k < 81 → k < length held → get_or held k 0 ≡ 10 → ⊥) →
    Takes dev i k taken 0 → dev.failures k ≡ dev.failures i → ReadsLines words_line view o n dev i k (Err (Line number Field))
reads_long view {o = o} {dev = dev} {k = k} held taken number whole e more before takes quiet = record {
  bytes = taken;
  taken = Takes-more taken 1 takes;
  answer = λ count stated.
      let same : verdict words_line count (held_of o ++ taken) ≡ refused (suc count) (of_line Field) (drop 81 held) =
      ap (λ (z : List ℕ). verdict words_line count z) (sym whole) ∙ line-long means count held (drop 81 held) (first_line-long 80 held more before) in
      (subst (λ v. IsLineFault v number Field) (sym same) (sym (next_parsed count o.line number stated e), refl), subst (λ v. EndsWith v (dev.coming k)) (sym same) tt, quiet);
}

nothing_more : {R : Type 0} {dev : Ghosts R} {i j k : R} (taken : List ℕ) → Takes dev i j taken 0 → Takes dev j k [] 1 → Takes dev i k taken 1
nothing_more {dev = dev} {i = i} {k = k} taken first last = subst (λ (z : List ℕ). Takes dev i k z 1) (append-nil taken) (Takes-on taken [] 1 first last)

-- The bytes end before the line does.
pub reads_ended : {X R : Type 0} (view : X → List (List ℕ)) {o n : Incoming} {dev : Ghosts R} {i j k : R} (held taken : List ℕ) (number : ℕ) →
    held ≡ held_of o ++ taken → number ≡ min (o.line + 1) (2 ^ 64 - 1) → length held ≤ 80 → ((k : ℕ) → k < 81 → k < length held → get_or held k 0 ≡ 10 → ⊥) →
    Takes dev i j taken 0 → dev.failures j ≡ dev.failures i → Takes dev j k [] 1 → IsAtEnd (dev.coming k) → dev.failures k ≡ dev.failures j →
    ReadsLines words_line view o n dev i k (Err (Line number Ended))
reads_ended view {o = o} {dev = dev} {k = k} held taken number whole e fits before takes quiet last at_end still = record {
  bytes = taken;
  taken = nothing_more taken takes last;
  answer = λ count stated.
      let same : verdict words_line count (held_of o ++ taken) ≡ ended (suc count) =
      ap (λ (z : List ℕ). verdict words_line count z) (sym whole) ∙ line-unended means count held (first_line-unended 80 held fits before) in
      (subst (λ v. IsLineFault v number Ended) (sym same) (sym (next_parsed count o.line number stated e), refl), subst (λ v. EndsWith v (dev.coming k)) (sym same) at_end, still ∙ quiet);
}
