-- Writers compose: two calls one after another write the first text and then the second.
use Rattle.std.proofs.Common.{◌≡◌, ℕ, zero, suc, add-one, get_or, ◌+◌, ◌/◌, ◌%◌, ◌<◌, ◌≤◌, false, List, [], ◌∷◌, ◌++◌, length, take, drop, map, min, refl, sym, ap, subst, ◌∙◌, append_assoc, append-nil, arith, inl, inr, Option, None, option_map}
use Rattle.std.specs.Prelude.{Result, Ok, Err, OnOk, OnErr, IfErr, ◌⊎◌, ◌==◌, slice_index, codes}
use Rattle.std.specs.List.{flat_map, range_with_len}
use Rattle.std.specs.Fmt.{decimal}
use Rattle.std.proofs.lemmas.Bool.{eqb-true, eq-eqb}
use Rattle.std.proofs.lemmas.List.{length-append, length-take, length-drop, take-append-drop, take_all, length-map}
use Rattle.std.proofs.lemmas.List.FromFn.{length-range_with_len, get_or-range_with_len}
use Rattle.std.proofs.Math.Seq.{take-suc, drop-cons, take-append_seam}
use Rattle.std.proofs.lemmas.Grind.{flat_map-append}
use Rattle.std.proofs.lemmas.List.Folds.{flat_map-map}
use Rattle.hex.specs.Hex.{encode_with, encode_lower, lower_digits}
use Rattle.szg_io.specs.Device.{HasFailed}
use Rattle.szg_io.specs.Moved.{Gives}
use Rattle.szg_io.specs.declared.device.Output.{Ghosts}
use Rattle.szg_io.proofs.DeviceLaws.{Gives-on, Gives-none}
use Rattle.szg_file.specs.declared.fault.WriteFault.{WriteFault}
use Rattle.szg_build.specs.declared.writing.dump_text.DumpText.{DumpText}
use Rattle.szg_values.specs.Material.{Sides, name_of}
use Rattle.szg_values.specs.declared.Kind.{Kind}
use Rattle.szg_values.specs.declared.Kind.TheVariants.{Wdl, Dtz}
use Rattle.szg_file.specs.Contents as held
use Rattle.szg_build.specs.Dump.{Dump, SubDump, parts_of, subtable_ids_of, subs_of}
use Rattle.szg_build.specs.Text.{Form, runs, single, form_number, with_value, runs_of, line_text, lines_text, flat_map_beside, front_lines, part_lines, sub_lines, dump_lines, dump_text, kind_word, flags_lines, map_lines}
use Rattle.szg_file.specs.Held.{map_of}
use Rattle.szg_build.specs.declared.dump.Dump as declared
use Rattle.szg_build.specs.Shown.{form_of, count_at, sub_at, sub_in, sub_count, subs_seen}
use Rattle.szg_build.specs.Writing.{Writing, Writes, Stops, Answer, stated, retry_rounds}
use Rattle.szg_build.proofs.Texts.LinesLaws.{bool_cases}
use Rattle.szg_build.proofs.Texts.Runs.{with_value-same, with_value-other}

-- ---- one call after another

counts_on : (a b c count x y : ℕ) → (a ≡ stated count → b ≡ stated (count + x)) → ((n : ℕ) → b ≡ stated n → c ≡ stated (n + y)) → a ≡ stated count → c ≡ stated (count + (x + y))
counts_on a b c count x y p q h = let e : c ≡ stated ((count + x) + y) = q (count + x) (p h) in let same : (count + x) + y ≡ count + (x + y) = omega arith in e ∙ ap stated same

joined : (o m n s t x y : List ℕ) → x ++ m ≡ o ++ s → y ++ n ≡ m ++ t → (x ++ y) ++ n ≡ o ++ (s ++ t)
joined o m n s t x y p q = append_assoc x y n ∙ ap (λ (z : List ℕ). x ++ z) q ∙ sym (append_assoc x m t) ∙ ap (λ (z : List ℕ). z ++ t) p ∙ append_assoc o s t

Writes-then : (s t : List ℕ) (o m n : DumpText) (x y : List ℕ) → Writes s o m x → Writes t m n y → Writes (s ++ t) o n (x ++ y)
Writes-then s t o m n x y p q = record {
  counts = λ count h. counts_on o.out m.out n.out count (length x) (length y) (p.counts count) q.counts h ∙ ap (λ (z : ℕ). stated (count + z)) (sym (length-append x y));
  whole = joined o.held.items m.held.items n.held.items s t x y p.whole q.whole;
}

Writes-stops : (s t : List ℕ) (o m : DumpText) (out : ℕ) (x y : List ℕ) → Writes s o m x → Stops t m out y → Stops (s ++ t) o out (x ++ y)
Writes-stops s t o m out x y p q = record {
  counts = λ count h. counts_on o.out m.out out count (length x) (length y) (p.counts count) q.counts h ∙ ap (λ (z : ℕ). stated (count + z)) (sym (length-append x y));
  rest = q.rest;
  some = q.some;
  begun = joined o.held.items m.held.items q.rest s t x y p.whole q.begun;
}

Stops-first : (s t : List ℕ) (o : DumpText) (out : ℕ) (x : List ℕ) → Stops s o out x → Stops (s ++ t) o out x
Stops-first s t o out x p = record {
  counts = p.counts;
  rest = p.rest ++ t;
  some = let more : 0 < length p.rest = p.some in omega (arith, length-append p.rest t, more);
  begun = sym (append_assoc x p.rest t) ∙ ap (λ (z : List ℕ). z ++ t) p.begun ∙ append_assoc o.held.items s t;
}

Answer-then : {Y : Type 0} (s t : List ℕ) (o m n : DumpText) (fs fs' row : ℕ) (x y : List ℕ) (r : Result Y WriteFault) →
    Writes s o m x → Answer t m n fs fs' row y r → Answer (s ++ t) o n fs fs' row (x ++ y) r
Answer-then s t o m n fs fs' row x y (Ok v) first h = (Writes-then s t o m n x y first h.0, h.1)
Answer-then s t o m n fs fs' row x y (Err fault) first h = (Writes-stops s t o m fault.out x y first h.0, h.1)

-- A writer after one that wrote its text.
pub writes_then : {X Y W : Type 0} (s t : List ℕ) {o m n : DumpText}
    {dev : Ghosts W} {i j k : W} (v : X) {r : Result Y WriteFault} →
    Writing s o m dev i j (Ok v) →
    Writing t m n dev j k r →
    Writing (s ++ t) o n dev i k r
writes_then s t {o = o} {m = m} {n = n} {dev = dev} {i = i} {j = j} {k = k} v {r = r} first second =
    let same : dev.failures j ≡ dev.failures i = first.answer.1 in
    record {
      bytes = first.bytes ++ second.bytes;
      given = Gives-on first.bytes second.bytes (retry_rounds r) first.given second.given;
      answer = Answer-then s t o m n (dev.failures i) (dev.failures k) (dev.interrupted k) first.bytes second.bytes r first.answer.0
          (subst (λ (fs : ℕ). Answer t m n fs (dev.failures k) (dev.interrupted k) second.bytes r) same second.answer);
    }

-- A writer's fault is the fault of the whole.
pub writes_stopped : {X Y W : Type 0} (s t : List ℕ) {o n n' : DumpText}
    {dev : Ghosts W} {i k : W} (fault : WriteFault) →
    Writing {X = X} s o n dev i k (Err fault) →
    Writing {X = Y} (s ++ t) o n' dev i k (Err fault)
writes_stopped s t {o = o} fault h = record {
  bytes = h.bytes;
  given = h.given;
  answer = (Stops-first s t o fault.out h.bytes h.answer.0, h.answer.1);
}

-- A text that is buffered takes no call.
pub writes_held : {X W : Type 0} (x : X) (text : List ℕ) (o n : DumpText)
    {dev : Ghosts W} {i : W} →
    n.out ≡ o.out → n.held.items ≡ o.held.items ++ text →
    Writing text o n dev i i (Ok x)
writes_held x text o n {dev = dev} {i = i} out held = record {
  bytes = [];
  given = Gives-none dev i 0;
  answer = (
    record {
      counts = λ count h. out ∙ h ∙ ap stated (let e : count ≡ count + 0 = omega arith in e);
      whole = held;
    },
    refl,
  );
}

-- An empty text takes no call.
pub writes_nothing : {X W : Type 0} (x : X) {o : DumpText} {dev : Ghosts W} {i : W} → Writing [] o o dev i i (Ok x)
writes_nothing x {o = o} = writes_held x [] o o refl (sym (append-nil o.held.items))

-- A fault while the buffer is written.
pub writes_held_stopped : {X W : Type 0} (o n : DumpText)
    {dev : Ghosts W} {i k : W} (chunk : List ℕ) (count : ℕ) (fault : WriteFault) → chunk ≡ o.held.items →
    count < length chunk → fault.out ≡ stated (o.out + count) →
    Gives dev i k (take count chunk) 1 →
    HasFailed (dev.failures i) (dev.failures k) (dev.interrupted k) →
    Writing {X = X} [] o n dev i k (Err fault)
writes_held_stopped o n {dev = dev} {i = i} {k = k} chunk count fault held at out given failed = record {
  bytes = take count chunk;
  given = given;
  answer = (
    record {
      counts = λ n h. omega (arith, out, h, length-take count chunk, at);
      rest = drop count chunk;
      some = omega (arith, length-drop count chunk, at);
      begun = take-append-drop count chunk ∙ held ∙ sym (append-nil o.held.items);
    },
    failed,
  );
}

-- Writing an equal text.
pub writes_as : {X W : Type 0} {s t : List ℕ} {o n : DumpText}
    {dev : Ghosts W} {i k : W} {r : Result X WriteFault} → s ≡ t →
    Writing t o n dev i k r →
    Writing s o n dev i k r
writes_as {o = o} {n = n} {dev = dev} {i = i} {k = k} {r = r} e h =
    subst (λ (z : List ℕ). Writing z o n dev i k r) (sym e) h

-- ---- loops over items

-- One more item, at its index.
pub writes_next : {A Y W : Type 0} (f : A → List ℕ) (xs : List A) (at : ℕ) (d : A) {o m n : DumpText}
    {dev : Ghosts W} {i j k : W} (y : Y) → at < length xs →
    Writing {X = Unit {0}} (flat_map f (take at xs)) o m dev i j (Ok tt) →
    Writing (f (get_or xs at d)) m n dev j k (Ok y) →
    Writing {X = Unit {0}} (flat_map f (take (at + 1) xs)) o n dev i k (Ok tt)
writes_next f xs at d y h first second =
    let longer : take (at + 1) xs ≡ take at xs ++ get_or xs at d ∷ [] = ap (λ (m : ℕ). take m xs) (add-one at) ∙ take-suc xs at d h in
    let joint = writes_then (flat_map f (take at xs)) (f (get_or xs at d)) tt first second in
    writes_as (ap (flat_map f) longer ∙ flat_map-append f (take at xs) (get_or xs at d ∷ []) ∙ ap (λ (w : List ℕ). flat_map f (take at xs) ++ w) (append-nil (f (get_or xs at d))))
    (record { bytes = joint.bytes; given = joint.given; answer = joint.answer })

-- The fault of an item, at its index.
pub writes_next_stopped : {A Y Z W : Type 0} (f : A → List ℕ) (xs : List A) (at : ℕ) (d : A) {o m n n' : DumpText}
    {dev : Ghosts W} {i j k : W} (fault : WriteFault) → at < length xs →
    Writing {X = Unit {0}} (flat_map f (take at xs)) o m dev i j (Ok tt) →
    Writing {X = Y} (f (get_or xs at d)) m n dev j k (Err fault) →
    Writing {X = Z} (flat_map f xs) o n' dev i k (Err fault)
writes_next_stopped {Z = Z} f xs at d {n' = n'} fault h first second =
    let whole : take at xs ++ get_or xs at d ∷ drop (suc at) xs ≡ xs = ap (λ (z : List _). take at xs ++ z) (sym (drop-cons xs at d h)) ∙ take-append-drop at xs in
    let stopped = writes_stopped {Y = Z} (f (get_or xs at d)) (flat_map f (drop (suc at) xs)) {n' = n'} fault second in
    writes_as (ap (flat_map f) (sym whole) ∙ flat_map-append f (take at xs) (get_or xs at d ∷ drop (suc at) xs))
    (writes_then (flat_map f (take at xs)) (f (get_or xs at d) ++ flat_map f (drop (suc at) xs)) tt first stopped)

-- No item is left.
pub writes_all : {A W : Type 0} (f : A → List ℕ) (xs : List A) (at : ℕ) {o n : DumpText}
    {dev : Ghosts W} {i k : W} → length xs ≤ at →
    Writing {X = Unit {0}} (flat_map f (take at xs)) o n dev i k (Ok tt) →
    Writing {X = Unit {0}} (flat_map f xs) o n dev i k (Ok tt)
writes_all f xs at h first = writes_as (ap (flat_map f) (sym (take_all at xs h))) first

-- One more item.
pub writes_more : {A Y W : Type 0} (f : A → List ℕ) (xs : List A) (x : A) {o m n : DumpText}
    {dev : Ghosts W} {i j k : W} (y : Y) →
    Writing {X = Unit {0}} (flat_map f xs) o m dev i j (Ok tt) →
    Writing (f x) m n dev j k (Ok y) →
    Writing {X = Unit {0}} (flat_map f (xs ++ x ∷ [])) o n dev i k (Ok tt)
writes_more f xs x y first second =
    let joint = writes_then (flat_map f xs) (f x) tt first second in
    writes_as (flat_map-append f xs (x ∷ []) ∙ ap (λ (w : List ℕ). flat_map f xs ++ w) (append-nil (f x)))
    (record { bytes = joint.bytes; given = joint.given; answer = joint.answer })

-- The fault of an item, whatever items are still to come.
pub writes_more_stopped : {A Y Z W : Type 0} (f : A → List ℕ) (xs : List A) (x : A) (ys : List A) {o m n n' : DumpText}
    {dev : Ghosts W} {i j k : W} (fault : WriteFault) →
    Writing {X = Unit {0}} (flat_map f xs) o m dev i j (Ok tt) →
    Writing {X = Y} (f x) m n dev j k (Err fault) →
    Writing {X = Z} (flat_map f (xs ++ x ∷ ys)) o n' dev i k (Err fault)
writes_more_stopped {Z = Z} f xs x ys {n' = n'} fault first second =
    let stopped = writes_stopped {Y = Z} (f x) (flat_map f ys) {n' = n'} fault second in
    writes_as (flat_map-append f xs (x ∷ ys)) (writes_then (flat_map f xs) (f x ++ flat_map f ys) tt first stopped)

-- ---- lines

abbrev pub value_line : ℕ → List ℕ
value_line v = line_text (decimal v ∷ [])

abbrev pub run_line : ℕ × ℕ → List ℕ
run_line run = line_text (decimal run.0 ∷ decimal run.1 ∷ [])

pub lines_of_items : {A : Type 0} (number : A → ℕ) (items : List A) → lines_text (map (λ v. decimal v ∷ []) (map number items)) ≡ flat_map (λ item. value_line (number item)) items
lines_of_items number items = flat_map-map line_text (λ v. decimal v ∷ []) (map number items) ∙ flat_map-map value_line number items

abbrev pub byte_digits : ℕ → List ℕ
byte_digits b = encode_lower (b ∷ [])

pub digits_of_bytes : (bytes : List ℕ) → encode_lower bytes ≡ flat_map byte_digits bytes
unfolding encode_with
digits_of_bytes [] = refl
digits_of_bytes (b ∷ bytes) = ap (λ (z : List ℕ). slice_index lower_digits (b / 16) ∷ slice_index lower_digits (b % 16) ∷ z) (digits_of_bytes bytes)

pub lines-append : (xs ys : List (List (List ℕ))) → lines_text (xs ++ ys) ≡ lines_text xs ++ lines_text ys
lines-append xs ys = flat_map-append line_text xs ys

pub form_runs : (n : ℕ) → n ≡ 2 → form_of n ≡ runs
form_runs n e = rw (eq-eqb n 2 e) refl

pub form_single : (n : ℕ) → (n ≡ 2 → ⊥) → form_of n ≡ single
form_single n h = elim (bool_cases (n == 2)) [ inl e ↦ absurd (h (eqb-true n 2 e)) | inr e ↦ rw (e, form_of) refl ]

pub number_of_form : (n : ℕ) → (n ≡ 1) ⊎ (n ≡ 2) → form_number (form_of n) ≡ n
number_of_form n (inl e) = ap (λ (z : ℕ). form_number (form_of z)) e ∙ sym e
number_of_form n (inr e) = ap (λ (z : ℕ). form_number (form_of z)) e ∙ sym e

-- The first line, by the number of its form.
pub form_as : {X W : Type 0} {n m : ℕ} {o p : DumpText} {dev : Ghosts W} {i k : W} {r : Result X WriteFault} → n ≡ m → (n ≡ 1) ⊎ (n ≡ 2) →
    Writing (line_text (codes "szg-dump" ∷ decimal m ∷ [])) o p dev i k r →
    Writing (line_text (codes "szg-dump" ∷ decimal (form_number (form_of n)) ∷ [])) o p dev i k r
form_as {n = n} e one h = writes_as (ap (λ (z : ℕ). line_text (codes "szg-dump" ∷ decimal z ∷ [])) (number_of_form n one ∙ e)) h

-- ---- items of two lists side by side

beside_one : {A B C : Type 0} (f : A → B → List C) (xs : List A) (ys : List B) (at : ℕ) (x : A) (y : B) → at < length xs → at < length ys →
    flat_map_beside f (take (at + 1) xs) (take (at + 1) ys) ≡ flat_map_beside f (take at xs) (take at ys) ++ f (get_or xs at x) (get_or ys at y)
beside_one f [] ys at x y h h' = absurd (omega (arith, h))
beside_one f (a ∷ xs) [] at x y h h' = absurd (omega (arith, h'))
beside_one f (a ∷ xs) (b ∷ ys) zero x y h h' = append-nil (f a b)
beside_one f (a ∷ xs) (b ∷ ys) (suc at) x y h h' =
    let one : suc at + 1 ≡ suc (at + 1) = omega arith in
    ap (λ (m : ℕ). flat_map_beside f (take m (a ∷ xs)) (take m (b ∷ ys))) one
    ∙ ap (λ (z : List _). f a b ++ z) (beside_one f xs ys at x y (omega (arith, h)) (omega (arith, h')))
    ∙ sym (append_assoc (f a b) (flat_map_beside f (take at xs) (take at ys)) (f (get_or xs at x) (get_or ys at y)))

beside_rest : {A B C : Type 0} (f : A → B → List C) (xs : List A) (ys : List B) (at : ℕ) (x : A) (y : B) → at < length xs → at < length ys →
    (rest : List C) × (flat_map_beside f xs ys ≡ flat_map_beside f (take at xs) (take at ys) ++ (f (get_or xs at x) (get_or ys at y) ++ rest))
beside_rest f [] ys at x y h h' = absurd (omega (arith, h))
beside_rest f (a ∷ xs) [] at x y h h' = absurd (omega (arith, h'))
beside_rest f (a ∷ xs) (b ∷ ys) zero x y h h' = (flat_map_beside f xs ys, refl)
beside_rest f (a ∷ xs) (b ∷ ys) (suc at) x y h h' =
    let inner = beside_rest f xs ys at x y (omega (arith, h)) (omega (arith, h')) in
    (inner.0, ap (λ (z : List _). f a b ++ z) inner.1 ∙ sym (append_assoc (f a b) (flat_map_beside f (take at xs) (take at ys)) (f (get_or xs at x) (get_or ys at y) ++ inner.0)))

beside_all : {A B C : Type 0} (f : A → B → List C) (xs : List A) (ys : List B) (at : ℕ) → min (length xs) (length ys) ≤ at → flat_map_beside f (take at xs) (take at ys) ≡ flat_map_beside f xs ys
beside_all f [] ys zero h = refl
beside_all f [] ys (suc at) h = refl
beside_all f (a ∷ xs) [] zero h = refl
beside_all f (a ∷ xs) [] (suc at) h = refl
beside_all f (a ∷ xs) (b ∷ ys) zero h = absurd (omega (arith, h))
beside_all f (a ∷ xs) (b ∷ ys) (suc at) h = ap (λ (z : List _). f a b ++ z) (beside_all f xs ys at (omega (arith, h)))

-- One more pair of items.
pub writes_beside : {A B Y W : Type 0} (f : A → B → List (List (List ℕ))) (xs : List A) (ys : List B) (at : ℕ) (d : A) (e : B) {o m n : DumpText}
    {dev : Ghosts W} {i j k : W} (y : Y) → at < length xs → at < length ys →
    Writing {X = Unit {0}} (lines_text (flat_map_beside f (take at xs) (take at ys))) o m dev i j (Ok tt) →
    Writing (lines_text (f (get_or xs at d) (get_or ys at e))) m n dev j k (Ok y) →
    Writing {X = Unit {0}} (lines_text (flat_map_beside f (take (at + 1) xs) (take (at + 1) ys))) o n dev i k (Ok tt)
writes_beside f xs ys at d e y h h' first second =
    let before : List (List (List ℕ)) = flat_map_beside f (take at xs) (take at ys) in
    let here : List (List (List ℕ)) = f (get_or xs at d) (get_or ys at e) in
    let joint = writes_then (lines_text before) (lines_text here) tt first second in
    writes_as (ap lines_text (beside_one f xs ys at d e h h') ∙ lines-append before here)
    (record { bytes = joint.bytes; given = joint.given; answer = joint.answer })

-- The fault of a pair.
pub writes_beside_stopped : {A B Y Z W : Type 0} (f : A → B → List (List (List ℕ))) (xs : List A) (ys : List B) (at : ℕ) (d : A) (e : B) {o m n n' : DumpText}
    {dev : Ghosts W} {i j k : W} (fault : WriteFault) → at < length xs → at < length ys →
    Writing {X = Unit {0}} (lines_text (flat_map_beside f (take at xs) (take at ys))) o m dev i j (Ok tt) →
    Writing {X = Y} (lines_text (f (get_or xs at d) (get_or ys at e))) m n dev j k (Err fault) →
    Writing {X = Z} (lines_text (flat_map_beside f xs ys)) o n' dev i k (Err fault)
writes_beside_stopped {Z = Z} f xs ys at d e {n' = n'} fault h h' first second =
    let before : List (List (List ℕ)) = flat_map_beside f (take at xs) (take at ys) in
    let here : List (List (List ℕ)) = f (get_or xs at d) (get_or ys at e) in
    let rest = beside_rest f xs ys at d e h h' in
    let stopped = writes_stopped {Y = Z} (lines_text here) (lines_text rest.0) {n' = n'} fault second in
    writes_as (ap lines_text rest.1 ∙ lines-append before (here ++ rest.0) ∙ ap (λ (z : List ℕ). lines_text before ++ z) (lines-append here rest.0))
    (writes_then (lines_text before) (lines_text here ++ lines_text rest.0) tt first stopped)

-- No pair is left.
pub writes_beside_all : {A B W : Type 0} (f : A → B → List (List (List ℕ))) (xs : List A) (ys : List B) (at : ℕ) {o n : DumpText}
    {dev : Ghosts W} {i k : W} → min (length xs) (length ys) ≤ at →
    Writing {X = Unit {0}} (lines_text (flat_map_beside f (take at xs) (take at ys))) o n dev i k (Ok tt) →
    Writing {X = Unit {0}} (lines_text (flat_map_beside f xs ys)) o n dev i k (Ok tt)
writes_beside_all f xs ys at h first = writes_as (ap lines_text (sym (beside_all f xs ys at h))) first

-- ---- items by their indexes

pub mapped_item : {A B : Type 0} (xs : List A) (f : A → B) (i : ℕ) (x : A) (d : B) → i < length xs → x ≡ get_or xs i x → get_or (map f xs) i d ≡ f x
mapped_item [] f i x d h e = absurd (omega (arith, h))
mapped_item (a ∷ xs) f zero x d h e = ap f (sym e)
mapped_item (a ∷ xs) f (suc i) x d h e = mapped_item xs f i x d (omega (arith, h)) e

pub four_at : (j : ℕ) → j < 4 → get_or (0 ∷ 1 ∷ 2 ∷ 3 ∷ []) j 0 ≡ j
four_at zero h = refl
four_at (suc zero) h = refl
four_at (suc (suc zero)) h = refl
four_at (suc (suc (suc zero))) h = refl
four_at (suc (suc (suc (suc j)))) h = absurd (omega (arith, h))

pub number_at : (xs : List ℕ) (k n : ℕ) → xs ≡ range_with_len 0 k → n < k → (n < length xs) × (get_or xs n 0 ≡ n)
number_at xs k n e h =
    let counted : length xs ≡ k = ap length e ∙ length-range_with_len 0 k in
    let there : get_or xs n 0 ≡ 0 + n = ap (λ (z : List ℕ). get_or z n 0) e ∙ get_or-range_with_len 0 k n 0 h in
    (omega (arith, counted, h), omega (arith, there))

pub number_count : (xs : List ℕ) (k : ℕ) → xs ≡ range_with_len 0 k → length xs ≡ k
number_count xs k e = ap length e ∙ length-range_with_len 0 k

-- ---- a subtable of a dump

pub sub_values : (kind : Kind) (flags : List ℕ) (maps : List (Option held.Map)) (lists : List (List ℕ)) (s : ℕ) → (sub_at kind flags maps lists s).values ≡ get_or lists s []
sub_values Wdl flags maps lists s = refl
sub_values Dtz flags maps lists s = refl

pub values_below : (kind : Kind) (flags maps lists s : ℕ) → s < count_at kind flags maps lists → s < lists
values_below Wdl flags maps lists s h = h
values_below Dtz flags maps lists s h = omega (arith, h)

pub dtz_below : (kind : Kind) (flags maps lists s : ℕ) → kind ≡ Dtz → s < count_at kind flags maps lists → (s < flags) × (s < maps)
dtz_below kind flags maps lists s e h = let g : s < count_at Dtz flags maps lists = subst (λ (k : Kind). s < count_at k flags maps lists) e h in (omega (arith, g), omega (arith, g))

pub dtz_lines : (kind : Kind) (flags : List ℕ) (maps : List (Option held.Map)) (lists : List (List ℕ)) (s : ℕ) → kind ≡ Dtz →
    lines_text (flags_lines kind (sub_at kind flags maps lists s)) ≡ line_text (codes "flags" ∷ decimal (get_or flags s 0) ∷ []) ++ lines_text (map_lines (get_or maps s None))
dtz_lines kind flags maps lists s e = ap (λ (k : Kind). lines_text (flags_lines k (sub_at k flags maps lists s))) e

-- subtable s of a dump's subtables
pub sub_there : (kind : Kind) (flags : List ℕ) (maps : List (Option held.Map)) (lists : List (List ℕ)) (s : ℕ) (d : SubDump) → s < count_at kind (length flags) (length maps) (length lists) →
    (s < length (subs_of kind flags maps lists)) × (get_or (subs_of kind flags maps lists) s d ≡ sub_at kind flags maps lists s)
sub_there Wdl flags maps [] s d h = absurd (omega (arith, h))
sub_there Wdl flags maps (list ∷ lists) zero d h = (omega arith, refl)
sub_there Wdl flags maps (list ∷ lists) (suc s) d h = let inner = sub_there Wdl flags maps lists s d (omega (arith, h)) in (let below : s < length (subs_of Wdl flags maps lists) = inner.0 in omega (arith, below), inner.1)
sub_there Dtz [] maps lists s d h = absurd (omega (arith, h))
sub_there Dtz (flag ∷ flags) [] lists s d h = absurd (omega (arith, h))
sub_there Dtz (flag ∷ flags) (m ∷ maps) [] s d h = absurd (omega (arith, h))
sub_there Dtz (flag ∷ flags) (m ∷ maps) (list ∷ lists) zero d h = (omega arith, refl)
sub_there Dtz (flag ∷ flags) (m ∷ maps) (list ∷ lists) (suc s) d h = let inner = sub_there Dtz flags maps lists s d (omega (arith, h)) in (let below : s < length (subs_of Dtz flags maps lists) = inner.0 in omega (arith, below), inner.1)

pub subs_counted : (kind : Kind) (flags : List ℕ) (maps : List (Option held.Map)) (lists : List (List ℕ)) → length (subs_of kind flags maps lists) ≡ count_at kind (length flags) (length maps) (length lists)
subs_counted Wdl flags maps [] = refl
subs_counted Wdl flags maps (list ∷ lists) = ap suc (subs_counted Wdl flags maps lists)
subs_counted Dtz [] maps lists = omega arith
subs_counted Dtz (flag ∷ flags) [] lists = omega arith
subs_counted Dtz (flag ∷ flags) (m ∷ maps) [] = omega arith
subs_counted Dtz (flag ∷ flags) (m ∷ maps) (list ∷ lists) =
    let inner : length (subs_of Dtz flags maps lists) ≡ min (min (length flags) (length maps)) (length lists) = subs_counted Dtz flags maps lists in omega (arith, inner)

pub mapped_count : (dump : declared.Dump) (s : ℕ) → s < sub_count dump →
    s < count_at dump.kind (length dump.flags.items) (length (map (option_map map_of) dump.maps.items)) (length (map (λ list. list.items) dump.lists.items))
mapped_count dump s h =
    subst (λ (z : ℕ). s < count_at dump.kind (length dump.flags.items) z (length (map (λ list. list.items) dump.lists.items))) (sym (length-map dump.maps.items (option_map map_of)))
    (subst (λ (z : ℕ). s < count_at dump.kind (length dump.flags.items) (length dump.maps.items) z) (sym (length-map dump.lists.items (λ list. list.items))) h)

pub seen_counted : (dump : declared.Dump) → length (subs_seen dump) ≡ sub_count dump
seen_counted dump =
    subs_counted dump.kind dump.flags.items (map (option_map map_of) dump.maps.items) (map (λ list. list.items) dump.lists.items)
    ∙ ap (λ (z : ℕ). count_at dump.kind (length dump.flags.items) z (length (map (λ list. list.items) dump.lists.items))) (length-map dump.maps.items (option_map map_of))
    ∙ ap (λ (z : ℕ). count_at dump.kind (length dump.flags.items) (length dump.maps.items) z) (length-map dump.lists.items (λ list. list.items))

-- subtable s of a dump, as it is written for its part and side
pub subtable_shown : (form : Form) (dump : declared.Dump) (places : List (ℕ × ℕ)) (s : ℕ) → places ≡ subtable_ids_of dump.material dump.kind → s < length places → s < sub_count dump →
    (s < length (subtable_ids_of dump.material dump.kind)) × (s < length (subs_seen dump))
    × (lines_text (sub_lines form dump.kind (get_or (subtable_ids_of dump.material dump.kind) s (0, 0)) (get_or (subs_seen dump) s (sub_in dump s))) ≡ lines_text (sub_lines form dump.kind (get_or places s (0, 0)) (sub_in dump s)))
subtable_shown form dump places s same few there =
    let sub = sub_there dump.kind dump.flags.items (map (option_map map_of) dump.maps.items) (map (λ list. list.items) dump.lists.items) s (sub_in dump s) (mapped_count dump s there) in (
      omega (arith, few, ap length same),
      sub.0,
      ap (λ z. lines_text (sub_lines form dump.kind (get_or (subtable_ids_of dump.material dump.kind) s (0, 0)) z)) sub.1
          ∙ ap (λ z. lines_text (sub_lines form dump.kind (get_or z s (0, 0)) (sub_in dump s))) (sym same),
    )

-- the n-th part, as it is written under its number
pub parse_part : {A : Type 0} (part : A → held.Part) (parts : List A) (numbers : List ℕ) (count n : ℕ) (x : A) → numbers ≡ range_with_len 0 count → n < count → n < length parts → x ≡ get_or parts n x →
    (n < length numbers) × (n < length (map part parts)) × (lines_text (part_lines (get_or numbers n 0) (get_or (map part parts) n (part x))) ≡ lines_text (part_lines n (part x)))
parse_part part parts numbers count n x same few there is =
    let here = number_at numbers count n same few in (
      here.0,
      omega (arith, length-map parts part, there),
      ap (λ z. lines_text (part_lines z (get_or (map part parts) n (part x)))) here.1 ∙ ap (λ z. lines_text (part_lines n z)) (mapped_item parts part n x (part x) there is),
    )

-- ---- the lines before the subtables

pub front_apart : (form : Form) (material : Sides) (kind : Kind) (last : List ℕ) → lines_text (front_lines form material kind last) ≡
    line_text (codes "szg-dump" ∷ decimal (form_number form) ∷ [])
    ++ (line_text (codes "name" ∷ name_of material ∷ [])
    ++ (line_text (codes "kind" ∷ kind_word kind ∷ [])
    ++ (codes "end " ++ (encode_lower last ++ codes "\n"))))
front_apart form material kind last =
    ap (λ (z : List ℕ). line_text (codes "szg-dump" ∷ decimal (form_number form) ∷ []) ++ (line_text (codes "name" ∷ name_of material ∷ []) ++ (line_text (codes "kind" ∷ kind_word kind ∷ []) ++ z)))
    (append-nil (line_text (codes "end" ∷ encode_lower last ∷ [])) ∙ append_assoc (codes "end ") (encode_lower last) (10 ∷ []))

-- ---- runs

pub first_run : (v : ℕ) (found : List (ℕ × ℕ)) → (count : ℕ) × (others : List (ℕ × ℕ)) × (with_value v found ≡ (count, v) ∷ others)
first_run v [] = (1, [], refl)
first_run v ((count, w) ∷ others) =
    elim (bool_cases (v == w)) [
      | inl e ↦ (suc count, others, with_value-same v count w others e ∙ ap (λ (z : ℕ). (suc count, z) ∷ others) (sym (eqb-true v w e)))
      | inr e ↦ (1, (count, w) ∷ others, with_value-other v count w others e)
    ]

pub other_value : (v w : ℕ) → (w ≡ v → ⊥) → (v == w) ≡ false
other_value v w h = elim (bool_cases (v == w)) [ inl e ↦ absurd (h (sym (eqb-true v w e))) | inr e ↦ e ]

-- The values that are equal at the beginning are the first run.
pub runs_at : (values : List ℕ) (v n : ℕ) → 0 < n → n ≤ length values → ((k : ℕ) → k < n → get_or values k 0 ≡ v) → (n < length values → get_or values n 0 ≡ v → ⊥) →
    runs_of values ≡ (n, v) ∷ runs_of (drop n values)
runs_at values v zero some within same other = absurd (omega (arith, some))
runs_at [] v (suc n) some within same other = absurd (omega (arith, within))
runs_at (w ∷ []) v (suc zero) some within same other = ap (λ (z : ℕ). (1, z) ∷ []) (same 0 (omega arith))
runs_at (w ∷ u ∷ us) v (suc zero) some within same other =
    let here : w ≡ v = same 0 (omega arith) in
    let found = first_run u (runs_of us) in
    let apart : (v == u) ≡ false = other_value v u (other (omega arith)) in
    ap (λ (z : ℕ). with_value z (with_value u (runs_of us))) here
    ∙ ap (with_value v) found.2
    ∙ with_value-other v found.0 u found.1 apart
    ∙ ap (λ (z : List (ℕ × ℕ)). (1, v) ∷ z) (sym found.2)
runs_at (w ∷ ws) v (suc (suc n)) some within same other =
    let here : w ≡ v = same 0 (omega arith) in
    let inner : runs_of ws ≡ (suc n, v) ∷ runs_of (drop (suc n) ws) =
    runs_at ws v (suc n) (omega arith) (omega (arith, within)) (λ k h. same (suc k) (omega (arith, h))) (λ h. other (omega (arith, h))) in
    ap (λ (z : ℕ). with_value z (runs_of ws)) here
    ∙ ap (with_value v) inner
    ∙ with_value-same v (suc n) v (runs_of (drop (suc n) ws)) (eq-eqb v v refl)

-- ---- the whole text

pub dump_apart : (form : Form) (dump : Dump) → dump_text form dump ≡
    lines_text (front_lines form dump.material dump.kind dump.last)
    ++ (lines_text (flat_map_beside part_lines (parts_of dump.material) dump.parts)
    ++ lines_text (flat_map_beside (sub_lines form dump.kind) (subtable_ids_of dump.material dump.kind) (subs_of dump.kind dump.flags dump.maps dump.lists)))
unfolding dump_text dump_lines
dump_apart form dump =
    let front = front_lines form dump.material dump.kind dump.last in
    let parts = flat_map_beside part_lines (parts_of dump.material) dump.parts in
    let subs = flat_map_beside (sub_lines form dump.kind) (subtable_ids_of dump.material dump.kind) (subs_of dump.kind dump.flags dump.maps dump.lists) in
    lines-append (front ++ parts) subs ∙ ap (λ (z : List ℕ). z ++ lines_text subs) (lines-append front parts) ∙ append_assoc (lines_text front) (lines_text parts) (lines_text subs)

-- What was written of a dump, if it was written whole and if not.
pub whole_text : {X W : Type 0} (text : List ℕ) {o n : DumpText} {dev : Ghosts W} {i k : W} (x : X) → o.held.items ≡ [] → n.held.items ≡ [] →
    Writing text o n dev i k (Ok x) → Gives dev i k text 0
whole_text text {dev = dev} {i = i} {k = k} x none last h =
    let e : h.bytes ≡ text = sym (append-nil h.bytes) ∙ ap (λ (z : List ℕ). h.bytes ++ z) (sym last) ∙ h.answer.0.whole ∙ ap (λ (z : List ℕ). z ++ text) none in
    subst (λ (z : List ℕ). Gives dev i k z 0) e h.given

pub cut_text : {X W : Type 0} (text : List ℕ) {o n : DumpText} {dev : Ghosts W} {i k : W} (fault : WriteFault) → o.held.items ≡ [] → o.out ≡ 0 →
    Writing {X = X} text o n dev i k (Err fault) → (out : ℕ) × (out < length text) × (fault.out ≡ stated out) × Gives dev i k (take out text) 1
cut_text text {dev = dev} {i = i} {k = k} fault none zeroed h =
    let stops = h.answer.0 in
    let e : h.bytes ++ stops.rest ≡ text = stops.begun ∙ ap (λ (z : List ℕ). z ++ text) none in
    let more : 0 < length stops.rest = stops.some in
    let counted : fault.out ≡ stated (0 + length h.bytes) = stops.counts 0 zeroed in
    let same : 0 + length h.bytes ≡ length h.bytes = omega arith in
    let front : take (length h.bytes) text ≡ h.bytes = ap (λ (z : List ℕ). take (length h.bytes) z) (sym e) ∙ take-append_seam h.bytes stops.rest in
    (length h.bytes, omega (arith, more, length-append h.bytes stops.rest, ap length e), counted ∙ ap stated same, subst (λ (z : List ℕ). Gives dev i k z 1) (sym front) h.given)

-- The same for a result that may be a fault.
pub whole_answer : {W : Type 0} (text : List ℕ) {o n : DumpText} {dev : Ghosts W} {i k : W} (r : Result (Unit {0}) WriteFault) → o.held.items ≡ [] → OnOk r (n.held.items ≡ []) →
    Writing text o n dev i k r → OnOk r (Gives dev i k text 0)
whole_answer text (Ok x) none last h = whole_text text x none last h
whole_answer text (Err fault) none last h = tt

pub cut_answer : {W : Type 0} (text : List ℕ) {o n : DumpText} {dev : Ghosts W} {i k : W} (r : Result (Unit {0}) WriteFault) → o.held.items ≡ [] → o.out ≡ 0 →
    Writing text o n dev i k r → IfErr r (λ fault. (out : ℕ) × (out < length text) × (fault.out ≡ stated out) × Gives dev i k (take out text) 1)
cut_answer text (Ok x) none zeroed h = tt
cut_answer text (Err fault) none zeroed h = cut_text text fault none zeroed h

pub failed_answer : {W : Type 0} (text : List ℕ) {o n : DumpText} {dev : Ghosts W} {i k : W} (r : Result (Unit {0}) WriteFault) →
    Writing text o n dev i k r → OnErr r (HasFailed (dev.failures i) (dev.failures k) (dev.interrupted k))
failed_answer text (Ok x) h = tt
failed_answer text (Err fault) h = h.answer.1

pub quiet_answer : {W : Type 0} (text : List ℕ) {o n : DumpText} {dev : Ghosts W} {i k : W} (r : Result (Unit {0}) WriteFault) →
    Writing text o n dev i k r → OnOk r (dev.failures k ≡ dev.failures i)
quiet_answer text (Ok x) h = h.answer.1
quiet_answer text (Err fault) h = tt
