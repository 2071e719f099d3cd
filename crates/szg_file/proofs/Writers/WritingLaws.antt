-- Writers compose: two calls in sequence write their sections in sequence.
use Rattle.std.proofs.Common.{◌≡◌, ℕ, suc, add-one, get_or, ◌+◌, ◌-◌, ◌%◌, ◌^◌, ◌<◌, ◌≤◌, List, [], ◌∷◌, ◌++◌, length, take, drop, map, refl, sym, ap, subst, ◌∙◌, append_assoc, append-nil, arith, rules}
use Rattle.std.specs.Prelude.{Result, Ok, Err, flat_map}
use Rattle.std.proofs.lemmas.List.{length-append, length-take, length-drop, take-append-drop, take_all}
use Rattle.std.proofs.Math.Seq.{take-suc, drop-cons}
use Rattle.std.specs.Int.{w32, w64, to_le_bytes}
use Rattle.std.proofs.lemmas.Grind.{flat_map-append}
use Rattle.std.proofs.lemmas.List.Folds.{flat_map-map}
use Rattle.std.proofs.lemmas.Nat.Gcd.{dvd_of_mod-eq-zero}
use Rattle.std.proofs.Math.Nat.{mod-mod_of_dvd}
use Rattle.szg_io.specs.Device.{HasFailed}
use Rattle.szg_io.specs.Moved.{Gives}
use Rattle.szg_io.proofs.DeviceLaws.{Gives-on, Gives-none}
use Rattle.szg_file.specs.declared.writing.outgoing.Outgoing.{Outgoing}
use Rattle.szg_file.specs.declared.fault.WriteFault.{WriteFault}
use Rattle.szg_file.specs.Contents.{bytes_of, gap}
use Rattle.szg_file.specs.FileOf.{Section, written, padding, spare, fill_of, bytes_with, joined}
use Rattle.szg_io.specs.declared.device.Output.{Ghosts}
use Rattle.szg_file.specs.Writing.{Writing, Writes, Stops, Answer, CountsOut, turns_of}

-- joining sections extends the text
pub joined-front : (text : List ℕ) (s : List Section) (fill : List ℕ) → (rest : List ℕ) × (joined text s fill ≡ text ++ rest)
joined-front text [] fill = ([], sym (append-nil text))
joined-front text (section ∷ s) fill =
    let chunk : List ℕ = bytes_with section (take (fill_of section (length text)) fill) in
    let h = joined-front (text ++ chunk) s (drop (fill_of section (length text)) fill) in
    (chunk ++ h.0, h.1 ∙ append_assoc text chunk h.0)

-- ---- calls in sequence

Writes-then : (s t : List Section) (o m n : Outgoing) (x y : List ℕ) → Writes s o m x → Writes t m n y → Writes (s ++ t) o n (x ++ y)
Writes-then s t o m n x y p q = record {
  counts = λ text h. subst (λ (z : List ℕ). CountsOut n.out z) (append_assoc text x y) (q.counts (text ++ x) (p.counts text h));
  whole = λ text more h.
      ap (λ (z : List Section). joined (text ++ o.held.items) z o.fill.now) (append_assoc s t more)
      ∙ p.whole text (t ++ more) h
      ∙ q.whole (text ++ x) more (p.counts text h)
      ∙ ap (λ (z : List ℕ). joined (z ++ n.held.items) more n.fill.now) (append_assoc text x y);
}

Writes-stops : (s t : List Section) (o m : Outgoing) (out : ℕ) (x y : List ℕ) → Writes s o m x → Stops t m out y → Stops (s ++ t) o out (x ++ y)
Writes-stops s t o m out x y p q = record {
  counts = λ text h. subst (λ (z : List ℕ). CountsOut out z) (append_assoc text x y) (q.counts (text ++ x) (p.counts text h));
  begun = λ text more h.
      let b = q.begun (text ++ x) more (p.counts text h) in (
        b.0,
        b.1,
        ap (λ (z : List Section). joined (text ++ o.held.items) z o.fill.now) (append_assoc s t more)
            ∙ p.whole text (t ++ more) h
            ∙ b.2
            ∙ ap (λ (z : List ℕ). z ++ b.0) (append_assoc text x y),
      );
}

Stops-first : (s t : List Section) (o : Outgoing) (out : ℕ) (x : List ℕ) → Stops s o out x → Stops (s ++ t) o out x
Stops-first s t o out x p = record {
  counts = p.counts;
  begun = λ text more h.
      let b = p.begun text (t ++ more) h in
      (b.0, b.1, ap (λ (z : List Section). joined (text ++ o.held.items) z o.fill.now) (append_assoc s t more) ∙ b.2);
}

Answer-then : {Y : Type 0} (s t : List Section) (o m n : Outgoing) (fs fs' row : ℕ) (x y : List ℕ) (r : Result Y WriteFault) →
    Writes s o m x → Answer t m n fs fs' row y r → Answer (s ++ t) o n fs fs' row (x ++ y) r
Answer-then s t o m n fs fs' row x y (Ok v) first h = (Writes-then s t o m n x y first h.0, h.1)
Answer-then s t o m n fs fs' row x y (Err fault) first h = (Writes-stops s t o m fault.out x y first h.0, h.1)

-- A successful writer followed by another.
pub writes_then : {X Y W : Type 0} (s t : List Section) {o m n : Outgoing}
    {dev : Ghosts W} {i j k : W} (v : X) {r : Result Y WriteFault} →
    Writing s o m dev i j (Ok v) →
    Writing t m n dev j k r →
    Writing (s ++ t) o n dev i k r
writes_then s t {o = o} {m = m} {n = n} {dev = dev} {i = i} {j = j} {k = k} v {r = r} first second =
    let same : dev.failures j ≡ dev.failures i = first.answer.1 in
    record {
      bytes = first.bytes ++ second.bytes;
      given = Gives-on first.bytes second.bytes (turns_of r) first.given second.given;
      answer = Answer-then s t o m n (dev.failures i) (dev.failures k) (dev.interrupted k) first.bytes second.bytes r first.answer.0
          (subst (λ (fs : ℕ). Answer t m n fs (dev.failures k) (dev.interrupted k) second.bytes r) same second.answer);
    }

-- A writer that returns a fault ends the sequence.
pub writes_stopped : {X Y W : Type 0} (s t : List Section) {o n n' : Outgoing}
    {dev : Ghosts W} {i k : W} (fault : WriteFault) →
    Writing {X = X} s o n dev i k (Err fault) →
    Writing {X = Y} (s ++ t) o n' dev i k (Err fault)
writes_stopped s t {o = o} fault h = record {
  bytes = h.bytes;
  given = h.given;
  answer = (Stops-first s t o fault.out h.bytes h.answer.0, h.answer.1);
}

-- Writing no section takes no call.
pub writes_nothing : {X W : Type 0} (x : X) {o : Outgoing}
    {dev : Ghosts W} {i : W} →
    Writing [] o o dev i i (Ok x)
writes_nothing x {o = o} {dev = dev} {i = i} = record {
  bytes = [];
  given = Gives-none dev i 0;
  answer = (
    record {
      counts = λ text h. subst (λ (z : List ℕ). CountsOut o.out z) (sym (append-nil text)) h;
      whole = λ text more h. ap (λ (z : List ℕ). joined (z ++ o.held.items) more o.fill.now) (sym (append-nil text));
    },
    refl,
  );
}

-- ---- other sections with the same bytes

-- Sections that join to the same text after every text.
pub record Same (s t : List Section) : Type 0 where
  pub same : (text : List ℕ) (more : List Section) (fill : List ℕ) → joined text (s ++ more) fill ≡ joined text (t ++ more) fill

Answer-same : {X : Type 0} (s t : List Section) → Same s t → (o n : Outgoing) (fs fs' row : ℕ) (x : List ℕ) (r : Result X WriteFault) →
    Answer s o n fs fs' row x r → Answer t o n fs fs' row x r
Answer-same s t e o n fs fs' row x (Ok v) h =
    (record { counts = h.0.counts; whole = λ text more c. sym (e.same (text ++ o.held.items) more o.fill.now) ∙ h.0.whole text more c }, h.1)
Answer-same s t e o n fs fs' row x (Err fault) h =
    (record { counts = h.0.counts; begun = λ text more c. let b = h.0.begun text more c in (b.0, b.1, sym (e.same (text ++ o.held.items) more o.fill.now) ∙ b.2) }, h.1)

pub writes_same : {X W : Type 0} {s t : List Section} {o n : Outgoing}
    {dev : Ghosts W} {i k : W} {r : Result X WriteFault} → Same s t →
    Writing s o n dev i k r →
    Writing t o n dev i k r
writes_same {s = s} {t = t} {o = o} {n = n} {dev = dev} {i = i} {k = k} {r = r} e h = record {
  bytes = h.bytes;
  given = h.given;
  answer = Answer-same s t e o n (dev.failures i) (dev.failures k) (dev.interrupted k) h.bytes r h.answer;
}

-- two chunks written as one
pub Same-apart : (x y : List ℕ) → Same (written (x ++ y) ∷ []) (written x ∷ written y ∷ [])
Same-apart x y = record { same = λ text more fill. ap (λ (z : List ℕ). joined z more fill) (sym (append_assoc text x y)) }

-- items written in order, or as one chunk
joined-items : {A : Type 0} (f : A → List ℕ) (xs : List A) (text : List ℕ) (more : List Section) (fill : List ℕ) →
    joined text (flat_map (λ x. written (f x) ∷ []) xs ++ more) fill ≡ joined (text ++ flat_map f xs) more fill
joined-items f [] text more fill = ap (λ (z : List ℕ). joined z more fill) (sym (append-nil text))
joined-items f (x ∷ xs) text more fill =
    joined-items f xs (text ++ f x) more fill ∙ ap (λ (z : List ℕ). joined z more fill) (append_assoc text (f x) (flat_map f xs))

pub Same-items : {A : Type 0} (f : A → List ℕ) (xs : List A) → Same (flat_map (λ x. written (f x) ∷ []) xs) (written (flat_map f xs) ∷ [])
Same-items f xs = record { same = λ text more fill. joined-items f xs text more fill }

-- ---- loops over items

-- One more item.
pub writes_more : {A X Y Z W : Type 0} (f : A → List Section) (xs : List A) (x : A) {o m n : Outgoing}
    {dev : Ghosts W} {i j k : W} (v : X) (y : Y) (z : Z) →
    Writing (flat_map f xs) o m dev i j (Ok v) →
    Writing (f x) m n dev j k (Ok y) →
    Writing (flat_map f (xs ++ x ∷ [])) o n dev i k (Ok z)
writes_more f xs x {o = o} {n = n} {dev = dev} {i = i} {k = k} v y z first second =
    let joint = writes_then (flat_map f xs) (f x) v first second in
    let one : flat_map f (xs ++ x ∷ []) ≡ flat_map f xs ++ f x = flat_map-append f xs (x ∷ []) ∙ ap (λ (w : List Section). flat_map f xs ++ w) (append-nil (f x)) in
    subst (λ (w : List Section). Writing w o n dev i k (Ok z)) (sym one)
    (record { bytes = joint.bytes; given = joint.given; answer = joint.answer })

-- An item that returns a fault ends the loop, whatever items remain.
pub writes_more_stopped : {A X Y Z W : Type 0} (f : A → List Section) (xs : List A) (x : A) (ys : List A) {o m n n' : Outgoing}
    {dev : Ghosts W} {i j k : W} (v : X) (fault : WriteFault) →
    Writing (flat_map f xs) o m dev i j (Ok v) →
    Writing {X = Y} (f x) m n dev j k (Err fault) →
    Writing {X = Z} (flat_map f (xs ++ x ∷ ys)) o n' dev i k (Err fault)
writes_more_stopped {Z = Z} f xs x ys {o = o} {n = n} {n' = n'} {dev = dev} {i = i} {k = k} v fault first second =
    let stopped = writes_stopped {Y = Z} (f x) (flat_map f ys) {n' = n'} fault second in
    let joint = writes_then (flat_map f xs) (f x ++ flat_map f ys) v first stopped in
    subst (λ (w : List Section). Writing {X = Z} w o n' dev i k (Err fault)) (sym (flat_map-append f xs (x ∷ ys)))
    (record { bytes = joint.bytes; given = joint.given; answer = joint.answer })

-- ---- padding

-- Padding bytes, written as a chunk.
Writes-spare : (count : ℕ) (o m n : Outgoing) (x : List ℕ) → m.out ≡ o.out → m.held.items ≡ o.held.items → m.fill.now ≡ drop count o.fill.now →
    Writes (written (take count o.fill.now) ∷ []) m n x → Writes (spare count ∷ []) o n x
Writes-spare count o m n x out held fill p = record {
  counts = λ text h. p.counts text (out ∙ h);
  whole = λ text more h.
      ap (λ (z : List ℕ). joined ((text ++ z) ++ take count o.fill.now) more (drop count o.fill.now)) (sym held)
      ∙ ap (λ (z : List ℕ). joined ((text ++ m.held.items) ++ take count o.fill.now) more z) (sym fill)
      ∙ p.whole text more (out ∙ h);
}

Stops-spare : (count : ℕ) (o m : Outgoing) (at : ℕ) (x : List ℕ) → m.out ≡ o.out → m.held.items ≡ o.held.items → m.fill.now ≡ drop count o.fill.now →
    Stops (written (take count o.fill.now) ∷ []) m at x → Stops (spare count ∷ []) o at x
Stops-spare count o m at x out held fill p = record {
  counts = λ text h. p.counts text (out ∙ h);
  begun = λ text more h.
      let b = p.begun text more (out ∙ h) in (
        b.0,
        b.1,
        ap (λ (z : List ℕ). joined ((text ++ z) ++ take count o.fill.now) more (drop count o.fill.now)) (sym held)
            ∙ ap (λ (z : List ℕ). joined ((text ++ m.held.items) ++ take count o.fill.now) more z) (sym fill)
            ∙ b.2,
      );
}

Answer-spare : {X : Type 0} (count : ℕ) (o m n : Outgoing) (fs fs' row : ℕ) (x : List ℕ) (r : Result X WriteFault) → m.out ≡ o.out → m.held.items ≡ o.held.items → m.fill.now ≡ drop count o.fill.now →
    Answer (written (take count o.fill.now) ∷ []) m n fs fs' row x r → Answer (spare count ∷ []) o n fs fs' row x r
Answer-spare count o m n fs fs' row x (Ok v) out held fill h = (Writes-spare count o m n x out held fill h.0, h.1)
Answer-spare count o m n fs fs' row x (Err fault) out held fill h = (Stops-spare count o m fault.out x out held fill h.0, h.1)

pub writes_spare : {X W : Type 0} (count : ℕ) (o m : Outgoing) {n : Outgoing}
    {dev : Ghosts W} {i k : W} (r : Result X WriteFault) →
    m.out ≡ o.out → m.held.items ≡ o.held.items → m.fill.now ≡ drop count o.fill.now →
    Writing (written (take count o.fill.now) ∷ []) m n dev i k r →
    Writing (spare count ∷ []) o n dev i k r
writes_spare count o m {n = n} {dev = dev} {i = i} {k = k} r out held fill h = record {
  bytes = h.bytes;
  given = h.given;
  answer = Answer-spare count o m n (dev.failures i) (dev.failures k) (dev.interrupted k) h.bytes r out held fill h.answer;
}

-- The padding up to a multiple of the unit depends only on the offset modulo 2 ^ 64, which the unit divides.
pub padding_place : (unit out : ℕ) (text held : List ℕ) → 2 ^ 64 % unit ≡ 0 → CountsOut out text →
    gap unit ((out + length held) % 2 ^ 64) ≡ gap unit (length (text ++ held))
padding_place unit out text held whole h =
    let same : (out + length held) % 2 ^ 64 ≡ length (text ++ held) % 2 ^ 64 = omega (arith, length-append text held, h) in
    let divides = dvd_of_mod-eq-zero unit {n = 2 ^ 64} whole in
    let rests : ((out + length held) % 2 ^ 64) % unit ≡ length (text ++ held) % unit =
    ap (λ (p : ℕ). p % unit) same ∙ mod-mod_of_dvd unit {b = 2 ^ 64} (length (text ++ held)) divides in
    ap (λ (p : ℕ). (unit - p) % unit) rests

Answer-padding : {X : Type 0} (unit count : ℕ) (o n : Outgoing) (fs fs' row : ℕ) (x : List ℕ) (r : Result X WriteFault) →
    2 ^ 64 % unit ≡ 0 → count ≡ gap unit ((o.out + length o.held.items) % 2 ^ 64) →
    Answer (spare count ∷ []) o n fs fs' row x r → Answer (padding unit ∷ []) o n fs fs' row x r
Answer-padding unit count o n fs fs' row x (Ok v) whole e h = (
  record {
    counts = h.0.counts;
    whole = λ text more c.
        let size : gap unit (length (text ++ o.held.items)) ≡ count = sym (e ∙ padding_place unit o.out text o.held.items whole c) in
        ap (λ (p : ℕ). joined ((text ++ o.held.items) ++ take p o.fill.now) more (drop p o.fill.now)) size ∙ h.0.whole text more c;
  },
  h.1,
)
Answer-padding unit count o n fs fs' row x (Err fault) whole e h = (
  record {
    counts = h.0.counts;
    begun = λ text more c.
        let size : gap unit (length (text ++ o.held.items)) ≡ count = sym (e ∙ padding_place unit o.out text o.held.items whole c) in
        let b = h.0.begun text more c in
        (b.0, b.1, ap (λ (p : ℕ). joined ((text ++ o.held.items) ++ take p o.fill.now) more (drop p o.fill.now)) size ∙ b.2);
  },
  h.1,
)

pub writes_padding : {X W : Type 0} (unit count : ℕ) {o n : Outgoing}
    {dev : Ghosts W} {i k : W} (r : Result X WriteFault) →
    2 ^ 64 % unit ≡ 0 → count ≡ gap unit ((o.out + length o.held.items) % 2 ^ 64) →
    Writing (spare count ∷ []) o n dev i k r →
    Writing (padding unit ∷ []) o n dev i k r
writes_padding unit count {o = o} {n = n} {dev = dev} {i = i} {k = k} r whole e h = record {
  bytes = h.bytes;
  given = h.given;
  answer = Answer-padding unit count o n (dev.failures i) (dev.failures k) (dev.interrupted k) h.bytes r whole e h.answer;
}

-- ---- buffered bytes

-- A fault while the buffered bytes are written.
pub writes_held_stopped : {X W : Type 0} (o n : Outgoing)
    {dev : Ghosts W} {i k : W} (chunk : List ℕ) (count : ℕ) (fault : WriteFault) → chunk ≡ o.held.items →
    count < length chunk → fault.out ≡ (o.out + count) % 2 ^ 64 →
    Gives dev i k (take count chunk) 1 →
    HasFailed (dev.failures i) (dev.failures k) (dev.interrupted k) →
    Writing {X = X} [] o n dev i k (Err fault)
writes_held_stopped o n {dev = dev} {i = i} {k = k} chunk count fault held at out given failed = record {
  bytes = take count o.held.items;
  given = subst (λ (z : List ℕ). Gives dev i k (take count z) 1) held given;
  answer = let short : count < length o.held.items = omega (arith, at, ap length held) in (
    record {
      counts = λ text h. omega (arith, out, h, length-append text (take count o.held.items), length-take count o.held.items, short);
      begun = λ text more h.
          let rest = joined-front (text ++ o.held.items) more o.fill.now in
          let left : List ℕ = drop count o.held.items in (
            left ++ rest.0,
            omega (arith, length-append left rest.0, length-drop count o.held.items, short),
            rest.1
                ∙ ap (λ (z : List ℕ). (text ++ z) ++ rest.0) (sym (take-append-drop count o.held.items))
                ∙ ap (λ (z : List ℕ). z ++ rest.0) (sym (append_assoc text (take count o.held.items) left))
                ∙ append_assoc (text ++ take count o.held.items) left rest.0,
          );
    },
    failed,
  );
}

-- A chunk that is buffered.
pub writes_held : {X W : Type 0} (x : X) (chunk : List ℕ) (o n : Outgoing)
    {dev : Ghosts W} {i : W} →
    n.out ≡ o.out → n.held.items ≡ o.held.items ++ chunk → n.fill.now ≡ o.fill.now →
    Writing (written chunk ∷ []) o n dev i i (Ok x)
writes_held x chunk o n {dev = dev} {i = i} out held fill = record {
  bytes = [];
  given = Gives-none dev i 0;
  answer = (
    record {
      counts = λ text h. subst (λ (z : List ℕ). CountsOut n.out z) (sym (append-nil text)) (out ∙ h);
      whole = λ text more h.
          ap (λ (z : List ℕ). joined z more o.fill.now) (append_assoc text o.held.items chunk)
          ∙ ap (λ (z : List ℕ). joined (text ++ z) more o.fill.now) (sym held)
          ∙ ap (λ (z : List ℕ). joined (z ++ n.held.items) more o.fill.now) (sym (append-nil text))
          ∙ ap (λ (z : List ℕ). joined ((text ++ []) ++ n.held.items) more z) (sym fill);
    },
    refl,
  );
}

nothing_held : (text held chunk : List ℕ) → held ≡ [] → (text ++ held) ++ chunk ≡ text ++ chunk
nothing_held text held chunk e = ap (λ (z : List ℕ). (text ++ z) ++ chunk) e ∙ ap (λ (z : List ℕ). z ++ chunk) (append-nil text)

-- A chunk that is written while the buffer is empty.
pub writes_chunk : {X W : Type 0} (x : X) (chunk : List ℕ) (o n : Outgoing)
    {dev : Ghosts W} {i k : W} →
    o.held.items ≡ [] → n.held.items ≡ [] → n.out ≡ (o.out + length chunk) % 2 ^ 64 → n.fill.now ≡ o.fill.now →
    Gives dev i k chunk 0 → dev.failures k ≡ dev.failures i →
    Writing (written chunk ∷ []) o n dev i k (Ok x)
writes_chunk x chunk o n before after out fill given quiet = record {
  bytes = chunk;
  given = given;
  answer = (
    record {
      counts = λ text h. omega (arith, out, h, length-append text chunk);
      whole = λ text more h.
          ap (λ (z : List ℕ). joined z more o.fill.now) (nothing_held text o.held.items chunk before)
          ∙ ap (λ (z : List ℕ). joined z more o.fill.now) (sym (append-nil (text ++ chunk)))
          ∙ ap (λ (z : List ℕ). joined ((text ++ chunk) ++ z) more o.fill.now) (sym after)
          ∙ ap (λ (z : List ℕ). joined ((text ++ chunk) ++ n.held.items) more z) (sym fill);
    },
    quiet,
  );
}

-- A fault while it is written.
pub writes_chunk_stopped : {X W : Type 0} (chunk : List ℕ) (o n : Outgoing)
    {dev : Ghosts W} {i k : W} (count : ℕ) (fault : WriteFault) →
    o.held.items ≡ [] → count < length chunk → fault.out ≡ (o.out + count) % 2 ^ 64 →
    Gives dev i k (take count chunk) 1 →
    HasFailed (dev.failures i) (dev.failures k) (dev.interrupted k) →
    Writing {X = X} (written chunk ∷ []) o n dev i k (Err fault)
writes_chunk_stopped chunk o n count fault before short out given failed = record {
  bytes = take count chunk;
  given = given;
  answer = (
    record {
      counts = λ text h. omega (arith, out, h, length-append text (take count chunk), length-take count chunk, short);
      begun = λ text more h.
          let rest = joined-front (text ++ chunk) more o.fill.now in
          let left : List ℕ = drop count chunk in (
            left ++ rest.0,
            omega (arith, length-append left rest.0, length-drop count chunk, short),
            ap (λ (z : List ℕ). joined z more o.fill.now) (nothing_held text o.held.items chunk before)
                ∙ rest.1
                ∙ ap (λ (z : List ℕ). (text ++ z) ++ rest.0) (sym (take-append-drop count chunk))
                ∙ ap (λ (z : List ℕ). z ++ rest.0) (sym (append_assoc text (take count chunk) left))
                ∙ append_assoc (text ++ take count chunk) left rest.0,
          );
    },
    failed,
  );
}

-- ---- equal states

Answer-from : {X : Type 0} (s : List Section) (o o' n : Outgoing) (fs fs' row : ℕ) (x : List ℕ) (r : Result X WriteFault) →
    o'.out ≡ o.out → o'.held.items ≡ o.held.items → o'.fill.now ≡ o.fill.now → Answer s o' n fs fs' row x r → Answer s o n fs fs' row x r
Answer-from s o o' n fs fs' row x (Ok v) out held fill h = (
  record {
    counts = λ text c. h.0.counts text (out ∙ c);
    whole = λ text more c.
        ap (λ (z : List ℕ). joined (text ++ z) (s ++ more) o.fill.now) (sym held)
        ∙ ap (λ (z : List ℕ). joined (text ++ o'.held.items) (s ++ more) z) (sym fill)
        ∙ h.0.whole text more (out ∙ c);
  },
  h.1,
)
Answer-from s o o' n fs fs' row x (Err fault) out held fill h = (
  record {
    counts = λ text c. h.0.counts text (out ∙ c);
    begun = λ text more c.
        let b = h.0.begun text more (out ∙ c) in (
          b.0,
          b.1,
          ap (λ (z : List ℕ). joined (text ++ z) (s ++ more) o.fill.now) (sym held)
              ∙ ap (λ (z : List ℕ). joined (text ++ o'.held.items) (s ++ more) z) (sym fill)
              ∙ b.2,
        );
  },
  h.1,
)

pub writes_from : {X W : Type 0} (s : List Section) (o o' : Outgoing) {n : Outgoing}
    {dev : Ghosts W} {i k : W} {r : Result X WriteFault} →
    o'.out ≡ o.out → o'.held.items ≡ o.held.items → o'.fill.now ≡ o.fill.now →
    Writing s o' n dev i k r →
    Writing s o n dev i k r
writes_from s o o' {n = n} {dev = dev} {i = i} {k = k} {r = r} out held fill h = record {
  bytes = h.bytes;
  given = h.given;
  answer = Answer-from s o o' n (dev.failures i) (dev.failures k) (dev.interrupted k) h.bytes r out held fill h.answer;
}

-- ---- loops over a slice

-- One more item, at its index.
pub writes_next : {A Y W : Type 0} (f : A → List Section) (xs : List A) (at : ℕ) (d : A) {o m n : Outgoing}
    {dev : Ghosts W} {i j k : W} (y : Y) → at < length xs →
    Writing {X = Unit {0}} (flat_map f (take at xs)) o m dev i j (Ok tt) →
    Writing (f (get_or xs at d)) m n dev j k (Ok y) →
    Writing {X = Unit {0}} (flat_map f (take (at + 1) xs)) o n dev i k (Ok tt)
writes_next f xs at d {o = o} {n = n} {dev = dev} {i = i} {k = k} y h first second =
    let longer : take (at + 1) xs ≡ take at xs ++ get_or xs at d ∷ [] = ap (λ (m : ℕ). take m xs) (add-one at) ∙ take-suc xs at d h in
    subst (λ (ys : List _). Writing {X = Unit {0}} (flat_map f ys) o n dev i k (Ok tt)) (sym longer)
    (writes_more f (take at xs) (get_or xs at d) tt y tt first second)

-- An item that returns a fault, at its index.
pub writes_next_stopped : {A Y Z W : Type 0} (f : A → List Section) (xs : List A) (at : ℕ) (d : A) {o m n n' : Outgoing}
    {dev : Ghosts W} {i j k : W} (fault : WriteFault) → at < length xs →
    Writing {X = Unit {0}} (flat_map f (take at xs)) o m dev i j (Ok tt) →
    Writing {X = Y} (f (get_or xs at d)) m n dev j k (Err fault) →
    Writing {X = Z} (flat_map f xs) o n' dev i k (Err fault)
writes_next_stopped {Z = Z} f xs at d {o = o} {n' = n'} {dev = dev} {i = i} {k = k} fault h first second =
    let whole : take at xs ++ get_or xs at d ∷ drop (suc at) xs ≡ xs = ap (λ (z : List _). take at xs ++ z) (sym (drop-cons xs at d h)) ∙ take-append-drop at xs in
    subst (λ (ys : List _). Writing {X = Z} (flat_map f ys) o n' dev i k (Err fault)) whole
    (writes_more_stopped f (take at xs) (get_or xs at d) (drop (suc at) xs) tt fault first second)

-- No item remains.
pub writes_all : {A W : Type 0} (f : A → List Section) (xs : List A) (at : ℕ) {o n : Outgoing}
    {dev : Ghosts W} {i k : W} → length xs ≤ at →
    Writing {X = Unit {0}} (flat_map f (take at xs)) o n dev i k (Ok tt) →
    Writing {X = Unit {0}} (flat_map f xs) o n dev i k (Ok tt)
writes_all f xs at {o = o} {n = n} {dev = dev} {i = i} {k = k} h first =
    subst (λ (ys : List _). Writing {X = Unit {0}} (flat_map f ys) o n dev i k (Ok tt)) (take_all at xs h) first

-- ---- loops over items with a view

-- The sections of the views of the items.
pub writes_mapped : {A B X W : Type 0} (h : B → List Section) (v : A → B) (xs : List A) {o n : Outgoing}
    {dev : Ghosts W} {i k : W} {r : Result X WriteFault} →
    Writing (flat_map (λ x. h (v x)) xs) o n dev i k r →
    Writing (flat_map h (map v xs)) o n dev i k r
writes_mapped h v xs {o = o} {n = n} {dev = dev} {i = i} {k = k} {r = r} first =
    subst (λ (s : List Section). Writing s o n dev i k r) (sym (flat_map-map h v xs)) first

-- Items as one chunk.
pub Same-mapped : {A B : Type 0} (h : B → List ℕ) (v : A → B) (xs : List A) → Same (flat_map (λ x. written (h (v x)) ∷ []) xs) (written (flat_map h (map v xs)) ∷ [])
Same-mapped h v xs = subst (λ (z : List ℕ). Same (flat_map (λ x. written (h (v x)) ∷ []) xs) (written z ∷ [])) (sym (flat_map-map h v xs)) (Same-items (λ x. h (v x)) xs)

-- ---- numbers

-- bytes as one-byte numbers
pub ones_of : (list : List ℕ) → ((i d : ℕ) → i < length list → get_or list i d < 256) → flat_map (bytes_of 1) list ≡ list
ones_of [] small = refl
ones_of (byte ∷ list) small =
    let first : byte < 256 = small 0 0 (omega arith) in
    let low : byte % 256 ≡ byte = omega (arith, first) in
    ap (λ (n : ℕ). n ∷ flat_map (bytes_of 1) list) low ∙ ap (λ (z : List ℕ). byte ∷ z) (ones_of list (λ i d h. small (suc i) d (omega (arith, h))))

-- one chunk written as two
pub Same-joined : (x y : List ℕ) → Same (written x ∷ written y ∷ []) (written (x ++ y) ∷ [])
Same-joined x y = record { same = λ text more fill. ap (λ (z : List ℕ). joined z more fill) (append_assoc text x y) }

-- One more item, and a fault, with the item read out of the slice.
pub writes_item : {A Y W : Type 0} (f : A → List Section) (xs : List A) (at : ℕ) (x : A) {o m n : Outgoing}
    {dev : Ghosts W} {i j k : W} (y : Y) → at < length xs → x ≡ get_or xs at x →
    Writing {X = Unit {0}} (flat_map f (take at xs)) o m dev i j (Ok tt) →
    Writing (f x) m n dev j k (Ok y) →
    Writing {X = Unit {0}} (flat_map f (take (at + 1) xs)) o n dev i k (Ok tt)
writes_item f xs at x {m = m} {n = n} {dev = dev} {j = j} {k = k} y h is first second =
    writes_next f xs at x y h first (subst (λ (z : _). Writing (f z) m n dev j k (Ok y)) is second)

pub writes_item_stopped : {A Y Z W : Type 0} (f : A → List Section) (xs : List A) (at : ℕ) (x : A) {o m n n' : Outgoing}
    {dev : Ghosts W} {i j k : W} (fault : WriteFault) → at < length xs → x ≡ get_or xs at x →
    Writing {X = Unit {0}} (flat_map f (take at xs)) o m dev i j (Ok tt) →
    Writing {X = Y} (f x) m n dev j k (Err fault) →
    Writing {X = Z} (flat_map f xs) o n' dev i k (Err fault)
writes_item_stopped {Y = Y} f xs at x {m = m} {n = n} {dev = dev} {j = j} {k = k} fault h is first second =
    writes_next_stopped f xs at x fault h first (subst (λ (z : _). Writing {X = Y} (f z) m n dev j k (Err fault)) is second)

-- The first byte of a 64-bit number.
pub one_byte_of : (n : ℕ) → take 1 (to_le_bytes w64 n) ≡ bytes_of 1 n
one_byte_of n = refl

pub two_bytes_of : (n : ℕ) → take 2 (to_le_bytes w64 n) ≡ bytes_of 2 n
two_bytes_of n = refl

pub four_bytes_of : (n : ℕ) → to_le_bytes w32 n ≡ bytes_of 4 n
four_bytes_of n = search rules

-- Equal sections.
pub writes_as : {X W : Type 0} {s t : List Section} {o n : Outgoing}
    {dev : Ghosts W} {i k : W} {r : Result X WriteFault} → s ≡ t →
    Writing t o n dev i k r →
    Writing s o n dev i k r
writes_as {o = o} {n = n} {dev = dev} {i = i} {k = k} {r = r} e h =
    subst (λ (z : List Section). Writing z o n dev i k r) (sym e) h

pub one_chunk : (x y : List ℕ) → x ≡ y → written x ∷ [] ≡ written y ∷ []
one_chunk x y e = ap (λ (z : List ℕ). written z ∷ []) e

four_apart : (text : List ℕ) (a b c d : ℕ) → (((text ++ a ∷ []) ++ b ∷ []) ++ c ∷ []) ++ d ∷ [] ≡ text ++ a ∷ b ∷ c ∷ d ∷ []
four_apart text a b c d = simp append_assoc

-- four bytes written as one chunk
pub Same-four : (a b c d : ℕ) → Same (written (a ∷ b ∷ c ∷ d ∷ []) ∷ []) (written (a ∷ []) ∷ written (b ∷ []) ∷ written (c ∷ []) ∷ written (d ∷ []) ∷ [])
Same-four a b c d = record { same = λ text more fill. ap (λ (z : List ℕ). joined z more fill) (sym (four_apart text a b c d)) }
