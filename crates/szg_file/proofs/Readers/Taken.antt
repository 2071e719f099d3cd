-- Single fields that are read, and consecutive fields as one field.
use Rattle.std.proofs.Common.{◌≡◌, ℕ, ◌+◌, ◌-◌, List, [], ◌++◌, length, take, drop, refl, sym, ap, subst, inl, inr, ◌∙◌, append_assoc, arith, append-nil, Ok, Err}
use Rattle.std.specs.Prelude.{Result}
use Rattle.std.proofs.Math.Seq.{take-length, take-add, take-append_seam, drop-append_seam}
use Rattle.std.proofs.lemmas.Bool.{cases_lt}
use Rattle.std.proofs.lemmas.List.{drop_all, drop_at, take_all, take_at, take-take, length-append, length-drop, length-take-le, drop-drop, take-append-drop}
use Rattle.szg_io.specs.Moved.{Takes}
use Rattle.szg_file.specs.declared.reading.state.ReaderState.{ReaderState}
use Rattle.szg_file.specs.declared.fault.ReadFault.{ReadFault}
use Rattle.szg_file.specs.Format.{Format, field, means, Verdict, good, truncated, verdict, ◌>>=◌}
use Rattle.szg_file.specs.Accepted.{AreNumbers}
use Rattle.szg_file.specs.declared.fault.ReadFault.TheVariants.{Refused, Device, Memory}
use Rattle.szg_file.specs.Reading.{Reading, IsRefusal, StopsWithin}
use Rattle.szg_file.proofs.Grammar.FormatLaws.{field-whole, field-short}
use Rattle.szg_io.specs.declared.device.Input.{Ghosts}
use Rattle.szg_file.proofs.Readers.ReadingLaws.{reads_then, reads_stopped, reads_nothing}

-- a field of the text's own length is the text
pub field_of_text : (place : ℕ) (bytes : List ℕ) → verdict (field (length bytes) means) place bytes ≡ good bytes [] []
field_of_text place bytes =
    let taken : take (length bytes) bytes ≡ bytes = take-length bytes in
    let left : drop (length bytes) bytes ≡ [] = drop_all (length bytes) bytes (omega arith) in
    field-whole (length bytes) means place bytes (omega arith)
    ∙ ap (λ (z : List ℕ). good z [] (drop (length bytes) bytes)) taken
    ∙ ap (λ (z : List ℕ). good bytes [] z) left

pub field_taken : {R : Type 0} (o n : ReaderState) (chunk : List ℕ)
    {dev : Ghosts R} {i k : R} →
    AreNumbers 1 chunk → Takes dev i k chunk 0 →
    n.place ≡ o.place + length chunk → n.fill.items ≡ o.fill.items → dev.failures k ≡ dev.failures i →
    Reading (field (length chunk) means) (λ (_ : Unit {0}). chunk) o n dev i k (Ok tt)
field_taken o n chunk small taken place fill quiet = record {
  bytes = chunk;
  taken = taken;
  answer = (record { fits = small; filled = []; whole = field_of_text o.place chunk; place = place; fill = fill ∙ sym (append-nil o.fill.items) }, quiet);
}

-- ---- one field and its parts

-- `a` bytes followed by `b` bytes
abbrev pub two_fields : ℕ → ℕ → Format (List ℕ)
two_fields a b = field a means >>= λ x. field b means >>= λ y. means (x ++ y)

-- a field of `a + b` bytes is one of `a` followed by one of `b`
pub two_fields-one : (a b place : ℕ) (bytes : List ℕ) → verdict (two_fields a b) place bytes ≡ verdict (field (a + b) means) place bytes
two_fields-one a b place bytes =
    elim (cases_lt (length bytes) a) [
      | inl short ↦
          field-short a (λ x. field b means >>= λ y. means (x ++ y)) place bytes short
          ∙ sym (field-short (a + b) means place bytes (omega (arith, short)))
      | inr long ↦
          let left : length (drop a bytes) + a ≡ length bytes = omega (arith, length-drop a bytes, long) in
          field-whole a (λ x. field b means >>= λ y. means (x ++ y)) place bytes long
          ∙ elim (cases_lt (length (drop a bytes)) b) [
            | inl short ↦
                field-short b (λ y. means (take a bytes ++ y)) (place + a) (drop a bytes) short
                ∙ ap (λ (n : ℕ). truncated n) (omega (arith, left))
                ∙ sym (field-short (a + b) means place bytes (omega (arith, short, left)))
            | inr whole ↦
                field-whole b (λ y. means (take a bytes ++ y)) (place + a) (drop a bytes) whole
                ∙ ap (λ (z : List ℕ). good z [] (drop b (drop a bytes))) (sym (take-add a b bytes))
                ∙ ap (λ (z : List ℕ). good (take (a + b) bytes) [] z) (drop-drop b a bytes)
                ∙ sym (field-whole (a + b) means place bytes (omega (arith, whole, left)))
          ]
    ]

-- formats with the same verdicts have the same readings
pub reads_like : {A X R : Type 0} (f g : Format A) (view : X → A) {o n : ReaderState}
    {dev : Ghosts R} {i k : R} (r : Result X ReadFault) →
    ((bytes : List ℕ) → verdict f o.place bytes ≡ verdict g o.place bytes) →
    Reading f view o n dev i k r → Reading g view o n dev i k r
reads_like f g view (Ok x) same h = record {
  bytes = h.bytes;
  taken = h.taken;
  answer = (record { fits = h.answer.0.fits; filled = h.answer.0.filled; whole = sym (same h.bytes) ∙ h.answer.0.whole; place = h.answer.0.place; fill = h.answer.0.fill }, h.answer.1);
}
reads_like f g view {dev = dev} {k = k} (Err (Refused place reason)) same h = record {
  bytes = h.bytes;
  taken = h.taken;
  answer = (subst (λ (v : Verdict _). IsRefusal v place reason (dev.coming k)) (same h.bytes) h.answer.0, h.answer.1);
}
reads_like f g view (Err Device) same h = record { bytes = h.bytes; taken = h.taken; answer = h.answer }
reads_like f g view (Err Memory) same h = record {
  bytes = h.bytes;
  taken = h.taken;
  answer = (subst (λ (v : Verdict _). StopsWithin v) (same h.bytes) h.answer.0, h.answer.1);
}

-- more bytes of one field
pub field_more : {X Y Z R : Type 0} (a b : ℕ) (view : X → List ℕ) (view' : Y → List ℕ) (view'' : Z → List ℕ) {o m n : ReaderState}
    {dev : Ghosts R} {i j k : R} (v : X) (w : Y) (z : Z) →
    view'' z ≡ view v ++ view' w →
    Reading (field a means) view o m dev i j (Ok v) →
    Reading (field b means) view' m n dev j k (Ok w) →
    Reading (field (a + b) means) view'' o n dev i k (Ok z)
field_more a b view view' view'' {o = o} v w z e first second =
    reads_like (two_fields a b) (field (a + b) means) view'' (Ok z) (λ bytes. two_fields-one a b o.place bytes)
    (reads_then (field a means) (λ x. field b means >>= λ y. means (x ++ y)) view view'' v first
    (reads_then (field b means) (λ y. means (view v ++ y)) view' view'' w second
    (reads_nothing (means (view v ++ view' w)) view'' z (ap means (sym e)))))

-- a fault within one field
pub field_stopped : {X Y Z R : Type 0} (a b rest : ℕ) (view : X → List ℕ) (view' : Y → List ℕ) (view'' : Z → List ℕ) {o m n : ReaderState}
    {dev : Ghosts R} {i j k : R} (v : X) (fault : ReadFault) →
    Reading (field a means) view o m dev i j (Ok v) →
    Reading (field b means) view' m n dev j k (Err fault) →
    Reading (field (a + (b + rest)) means) view'' o n dev i k (Err fault)
field_stopped a b rest view view' view'' {o = o} {m = m} v fault first second =
    reads_like (two_fields a (b + rest)) (field (a + (b + rest)) means) view'' (Err fault) (λ bytes. two_fields-one a (b + rest) o.place bytes)
    (reads_then (field a means) (λ x. field (b + rest) means >>= λ y. means (x ++ y)) view view'' v first
    (reads_stopped (field (b + rest) means) (λ y. means (view v ++ y)) view'' view'' fault
    (reads_like (two_fields b rest) (field (b + rest) means) view'' (Err fault) (λ bytes. two_fields-one b rest m.place bytes)
    (reads_stopped (field b means) (λ x. field rest means >>= λ y. means (x ++ y)) view' view'' fault second))))

-- the same reading with an equal state and another view of its result
pub reads_as : {A X Y R : Type 0} (f g : Format A) (view : X → A) (view' : Y → A) {o n n' : ReaderState}
    {dev : Ghosts R} {i k : R} (v : X) (w : Y) →
    f ≡ g → view' w ≡ view v → n'.place ≡ n.place → n'.fill.items ≡ n.fill.items →
    Reading f view o n dev i k (Ok v) → Reading g view' o n' dev i k (Ok w)
reads_as f g view view' {o = o} v w same seen place fill h = record {
  bytes = h.bytes;
  taken = h.taken;
  answer = (
    record {
      fits = h.answer.0.fits;
      filled = h.answer.0.filled;
      whole = subst (λ (t : Format _). verdict t o.place h.bytes ≡ good (view' w) h.answer.0.filled []) same
          (subst (λ (a : _). verdict f o.place h.bytes ≡ good a h.answer.0.filled []) (sym seen) h.answer.0.whole);
      place = place ∙ h.answer.0.place;
      fill = fill ∙ h.answer.0.fill;
    },
    h.answer.1,
  );
}

-- a list whose tail from an index on was overwritten
pub tail_written : (before chunk after : List ℕ) (at size : ℕ) → length before ≡ at + size → length chunk ≡ size →
    drop at (take (at + size) ((take at before ++ (chunk ++ drop (length before - at) (drop at before))) ++ after)) ≡ chunk
tail_written before chunk after at size long sized =
    let none : drop (length before - at) (drop at before) ≡ [] = drop_all (length before - at) (drop at before) (omega (arith, length-drop at before)) in
    let front : length (take at before) ≡ at = length-take-le at before (omega (arith, long)) in
    let whole : length (take at before ++ chunk) ≡ at + size = omega (arith, length-append (take at before) chunk, front, sized) in
    ap (λ (z : List ℕ). drop at (take (at + size) ((take at before ++ (chunk ++ z)) ++ after))) none
    ∙ ap (λ (z : List ℕ). drop at (take (at + size) ((take at before ++ z) ++ after))) (append-nil chunk)
    ∙ ap (drop at) (take_at (take at before ++ chunk) after (at + size) whole)
    ∙ drop_at (take at before) chunk at front

-- the list before that index stays
pub head_kept : (list before chunk after more : List ℕ) (at size : ℕ) → length list ≡ at → length before ≡ at + size → before ≡ take (at + size) list ++ more →
    take (length list) (take (at + size) ((take at before ++ (chunk ++ drop (length before - at) (drop at before))) ++ after)) ≡ list
head_kept list before chunk after more at size here long is =
    let rest : List ℕ = chunk ++ drop (length before - at) (drop at before) in
    let front : length (take at before) ≡ at = length-take-le at before (omega (arith, long)) in
    let whole : take (at + size) list ≡ list = take_all (at + size) list (omega (arith, here)) in
    let head : take at before ≡ list = ap (take at) (is ∙ ap (λ (z : List ℕ). z ++ more) whole) ∙ take_at list more at here in
    ap (λ (n : ℕ). take n (take (at + size) ((take at before ++ rest) ++ after))) here
    ∙ take-take at (at + size) ((take at before ++ rest) ++ after) (omega arith)
    ∙ ap (take at) (append_assoc (take at before) rest after)
    ∙ take_at (take at before) (rest ++ after) at front
    ∙ head

pub tail_long : (before chunk after : List ℕ) (at size : ℕ) → length before ≡ at + size → length chunk ≡ size →
    length (take (at + size) ((take at before ++ (chunk ++ drop (length before - at) (drop at before))) ++ after)) ≡ at + size
tail_long before chunk after at size long sized =
    let left : List ℕ = drop (length before - at) (drop at before) in
    let front : length (take at before) ≡ at = length-take-le at before (omega (arith, long)) in
    length-take-le (at + size) ((take at before ++ (chunk ++ left)) ++ after)
    (omega (arith, front, sized, length-append (take at before ++ (chunk ++ left)) after, length-append (take at before) (chunk ++ left), length-append chunk left))

-- a field of no bytes
pub reads_no_bytes : {X R : Type 0} (size : ℕ) (view : X → List ℕ) (x : X) {o : ReaderState}
    {dev : Ghosts R} {i : R} → size ≡ 0 → view x ≡ [] →
    Reading (field size means) view o o dev i i (Ok x)
reads_no_bytes size view x {o = o} none empty =
    reads_like (means []) (field size means) view (Ok x)
    (λ bytes. ap (λ (z : List ℕ). good [] [] z) refl ∙ sym (ap (λ (n : ℕ). verdict (field n means) o.place bytes) none ∙ field-whole 0 means o.place bytes (omega arith)))
    (reads_nothing (means []) view x (ap means (sym empty)))

-- a list that grew twice
pub grown_twice : (first second third : List ℕ) → take (length first) second ≡ first → take (length second) third ≡ second →
    (take (length first) third ≡ first) × (drop (length first) third ≡ drop (length first) second ++ drop (length second) third)
grown_twice first second third p q =
    let d : List ℕ = drop (length first) second in
    let r : List ℕ = drop (length second) third in
    let whole : third ≡ first ++ (d ++ r) =
    sym (take-append-drop (length second) third)
    ∙ ap (λ (z : List ℕ). z ++ r) q
    ∙ ap (λ (z : List ℕ). z ++ r) (sym (take-append-drop (length first) second))
    ∙ ap (λ (z : List ℕ). (z ++ d) ++ r) p
    ∙ append_assoc first d r in (
      ap (take (length first)) whole ∙ take-append_seam first (d ++ r),
      ap (drop (length first)) whole ∙ drop-append_seam first (d ++ r),
    )

-- two equal formats
pub reads_equal : {A X R : Type 0} (f g : Format A) (view : X → A) {o n : ReaderState}
    {dev : Ghosts R} {i k : R} (r : Result X ReadFault) → f ≡ g →
    Reading f view o n dev i k r → Reading g view o n dev i k r
reads_equal f g view {o = o} {n = n} {dev = dev} {i = i} {k = k} r e h =
    subst (λ (t : Format _). Reading t view o n dev i k r) e h

-- the same reading from an equal state
pub reads_from : {A X R : Type 0} (f : Format A) (view : X → A) {o o' n : ReaderState}
    {dev : Ghosts R} {i k : R} (r : Result X ReadFault) →
    o'.place ≡ o.place → o'.fill.items ≡ o.fill.items →
    Reading f view o n dev i k r → Reading f view o' n dev i k r
reads_from f view {o = o} {o' = o'} (Ok x) place fill h = record {
  bytes = h.bytes;
  taken = h.taken;
  answer = (
    record {
      fits = h.answer.0.fits;
      filled = h.answer.0.filled;
      whole = ap (λ (p : ℕ). verdict f p h.bytes) place ∙ h.answer.0.whole;
      place = h.answer.0.place ∙ ap (λ (p : ℕ). p + length h.bytes) (sym place);
      fill = h.answer.0.fill ∙ ap (λ (z : List ℕ). z ++ h.answer.0.filled) (sym fill);
    },
    h.answer.1,
  );
}
reads_from f view {dev = dev} {k = k} (Err (Refused at reason)) place fill h = record {
  bytes = h.bytes;
  taken = h.taken;
  answer = (subst (λ (p : ℕ). IsRefusal (verdict f p h.bytes) at reason (dev.coming k)) (sym place) h.answer.0, h.answer.1);
}
reads_from f view (Err Device) place fill h = record { bytes = h.bytes; taken = h.taken; answer = h.answer }
reads_from f view (Err Memory) place fill h = record {
  bytes = h.bytes;
  taken = h.taken;
  answer = (subst (λ (p : ℕ). StopsWithin (verdict f p h.bytes)) (sym place) h.answer.0, h.answer.1);
}
