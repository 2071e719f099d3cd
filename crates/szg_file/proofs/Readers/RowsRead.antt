-- Rows that are read in several pieces, as one field.
use Rattle.std.proofs.Common.{◌≡◌, ℕ, zero, suc, ◌+◌, ◌*◌, ◌≤◌, List, [], ◌∷◌, ◌++◌, length, map, take, drop, refl, sym, ap, ◌∙◌, append-nil, arith, Ok, Err, Vec, Global}
use Rattle.std.proofs.lemmas.List.{length-append, length-drop, map-append, drop-append-le, take-append-le}
use Rattle.szg_io.specs.declared.device.Input.{Ghosts}
use Rattle.szg_file.specs.declared.reading.state.ReaderState.{ReaderState}
use Rattle.szg_file.specs.declared.fault.ReadFault.{ReadFault}
use Rattle.szg_file.specs.Contents.{items, number_of}
use Rattle.szg_file.specs.File.{rows_field}
use Rattle.szg_file.specs.Format.{field, means, ◌>>=◌}
use Rattle.szg_file.specs.Held.{numbers_field}
use Rattle.szg_file.specs.Reading.{Reading}
use Rattle.szg_file.proofs.Readers.KeptReads.{mapped_fault, mapped_meaning}
use Rattle.szg_file.proofs.Readers.PassedBlocks.{field_is, field_unfilled}
use Rattle.szg_file.proofs.Readers.ReadingLaws.{reads_then, reads_stopped, reads_nothing}
use Rattle.szg_file.proofs.Readers.Taken.{reads_as, reads_equal, reads_no_bytes, field_more, field_stopped}

-- the items of bytes and of the bytes that follow them
items-append : (size a b : ℕ) (xs ys : List ℕ) → length xs ≡ size * a → items size (a + b) (xs ++ ys) ≡ items size a xs ++ items size b ys
items-append size zero b [] ys e = let same : 0 + b ≡ b = omega arith in ap (λ (k : ℕ). items size k ys) same
items-append size zero b (x ∷ xs) ys e = let none : size * 0 ≡ 0 = omega arith in absurd (omega (arith, e, none))
items-append size (suc a) b xs ys e =
    let next : suc a + b ≡ suc (a + b) = omega arith in
    let more : size * suc a ≡ size + size * a = omega arith in
    let there : size ≤ length xs = omega (arith, e, more) in
    let left : length (drop size xs) ≡ size * a = omega (arith, length-drop size xs, e, more) in
    ap (λ (k : ℕ). items size k (xs ++ ys)) next
    ∙ ap (λ (z : List ℕ). z ∷ items size (a + b) (drop size (xs ++ ys))) (take-append-le size xs ys there)
    ∙ ap (λ (z : List ℕ). take size xs ∷ items size (a + b) z) (drop-append-le size xs ys there)
    ∙ ap (λ (z : List (List ℕ)). take size xs ∷ z) (items-append size a b (drop size xs) ys left)

-- `n` rows were read, and decoded into a list
pub record RowsRead {X R : Type 0} (f : List ℕ → X) (size n : ℕ) (list : List X) (o m : ReaderState) (dev : Ghosts R) (i j : R) : Type 0 where
  pub bytes : List ℕ
  pub read : Reading (field (size * n) means) (λ (_ : Unit {0}). bytes) o m dev i j (Ok tt)
  pub long : length bytes ≡ size * n
  pub same : list ≡ map f (items size n bytes)

pub rows_none : {X R : Type 0} (f : List ℕ → X) (size n : ℕ) (list : List X) {o : ReaderState} {dev : Ghosts R} {i : R} → n ≡ 0 → list ≡ [] → RowsRead f size n list o o dev i i
rows_none f size n list none empty =
    let zero_bytes : size * 0 ≡ 0 = omega arith in
    let no_bytes : size * n ≡ 0 = ap (λ (k : ℕ). size * k) none ∙ zero_bytes in
    record {
      bytes = [];
      read = reads_no_bytes (size * n) (λ (_ : Unit {0}). []) tt no_bytes refl;
      long = sym no_bytes;
      same = empty ∙ ap (λ (k : ℕ). map f (items size k [])) (sym none);
    }

-- one chunk more
pub rows_on : {X Y R : Type 0} (f : List ℕ → X) (size n k m : ℕ) (list list' : List X) (view : Y → List ℕ) (v : Y) {o p q r : ReaderState} {dev : Ghosts R} {i j l : R} →
    m ≡ n + k → size * n + size * k ≡ size * m → RowsRead f size n list o p dev i j → Reading (field (size * k) means) view p q dev j l (Ok v) →
    length (view v) ≡ size * k → list' ≡ list ++ map f (items size k (view v)) → r.place ≡ q.place → r.fill.items ≡ q.fill.items → RowsRead f size m list' o r dev i l
rows_on {X = X} f size n k m list list' view v count sum h chunk long grown place fill =
    let bytes : List ℕ = h.bytes ++ view v in
    record {
      bytes = bytes;
      read = reads_as (field (size * n + size * k) means) (field (size * m) means) (λ (_ : Unit {0}). bytes) (λ (_ : Unit {0}). bytes) tt tt (ap (λ (c : ℕ). field c means) sum) refl place fill
          (field_more (size * n) (size * k) (λ (_ : Unit {0}). h.bytes) view (λ (_ : Unit {0}). bytes) tt v tt refl h.read chunk);
      long = length-append h.bytes (view v) ∙ omega (arith, h.long, long, sum);
      same = grown ∙ ap (λ (z : List X). z ++ map f (items size k (view v))) h.same
          ∙ sym (map-append f (items size n h.bytes) (items size k (view v)))
          ∙ ap (map f) (sym (items-append size n k h.bytes (view v) h.long))
          ∙ ap (λ (c : ℕ). map f (items size c bytes)) (sym count);
    }

-- all rows
pub rows_done : {X Y R : Type 0} (f : List ℕ → X) (size n : ℕ) (list : List X) (view : Y → List X) (y : Y) {o m : ReaderState} {dev : Ghosts R} {i j : R} →
    view y ≡ list → RowsRead f size n list o m dev i j → Reading (rows_field size n >>= λ rows. means (map f rows)) view o m dev i j (Ok y)
rows_done f size n list view y e h =
    reads_then (field (size * n) means) (λ b. means (map f (items size n b))) (λ (_ : Unit {0}). h.bytes) view tt h.read
    (reads_nothing (means (map f (items size n h.bytes))) view y (ap means (sym (e ∙ h.same))))

-- a fault within a chunk
pub rows_stopped : {X Y Z R : Type 0} (f : List ℕ → X) (size n k rest count : ℕ) (list : List X) (view : Y → List ℕ) (view' : Z → List X) (fault : ReadFault) {o m p : ReaderState}
    {dev : Ghosts R} {i j l : R} → size * n + (size * k + rest) ≡ size * count → RowsRead f size n list o m dev i j → Reading (field (size * k) means) view m p dev j l (Err fault) →
    Reading (rows_field size count >>= λ rows. means (map f rows)) view' o p dev i l (Err fault)
rows_stopped f size n k rest count list view view' fault sum h chunk =
    reads_stopped (field (size * count) means) (λ b. means (map f (items size count b))) view view' fault
    (reads_equal (field (size * n + (size * k + rest)) means) (field (size * count) means) view (Err fault) (ap (λ (c : ℕ). field c means) sum)
    (field_stopped (size * n) (size * k) rest (λ (_ : Unit {0}). h.bytes) view view tt fault h.read chunk))

-- ---- numbers that were read and decoded, and their bytes

pub record NumbersTaken {Y R : Type 0} (count : ℕ) (list : List ℕ) (y : Y) (o m : ReaderState) (dev : Ghosts R) (i j : R) : Type 0 where
  pub bytes : List ℕ
  pub numbers : list ≡ map number_of (items 2 count bytes)
  pub long : length bytes ≡ 2 * count
  pub fill : m.fill.items ≡ o.fill.items
  pub read : Reading (field (2 * count) means) (λ (_ : Y). bytes) o m dev i j (Ok y)

pub numbers_taken : {R : Type 0} (count : ℕ) (list : Vec ℕ Global) {o m : ReaderState} {dev : Ghosts R} {i j : R} → m.place ≡ o.place + 2 * count →
    Reading (numbers_field count) (λ (l : Vec ℕ Global). l.items) o m dev i j (Ok list) → NumbersTaken count list.items list o m dev i j
numbers_taken count list {o = o} place h =
    let found = mapped_meaning (field (2 * count) means) (λ (bytes : List ℕ). map number_of (items 2 count bytes)) (λ (l : Vec ℕ Global). l.items) list h in
    let is : found.2.bytes ≡ found.0 = field_is (2 * count) o.place found.2.bytes found.0 found.2.answer.0.filled found.2.answer.0.whole in
    let at = found.2.answer.0.place in
    let none : found.2.answer.0.filled ≡ [] = field_unfilled (2 * count) o.place found.2.bytes found.0 found.2.answer.0.filled found.2.answer.0.whole in
    record {
      bytes = found.0;
      numbers = sym found.1;
      long = ap (λ (l : List ℕ). length l) (sym is) ∙ omega (arith, at, place);
      fill = found.2.answer.0.fill ∙ ap (λ (l : List ℕ). o.fill.items ++ l) none ∙ append-nil o.fill.items;
      read = found.2;
    }

pub numbers_stopped : {R : Type 0} (count : ℕ) (fault : ReadFault) {o m : ReaderState} {dev : Ghosts R} {i j : R} →
    Reading (numbers_field count) (λ (l : Vec ℕ Global). l.items) o m dev i j (Err fault) → Reading (field (2 * count) means) (λ (l : List ℕ). l) o m dev i j (Err fault)
numbers_stopped count fault h = mapped_fault (field (2 * count) means) (λ (bytes : List ℕ). map number_of (items 2 count bytes)) (λ (l : Vec ℕ Global). l.items) (λ (l : List ℕ). l) fault h
