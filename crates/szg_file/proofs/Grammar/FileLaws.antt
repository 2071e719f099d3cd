-- A text that is read is the file of its meaning: section by section.
use Rattle.std.proofs.Common.{◌≡◌, ℕ, zero, suc, ◌+◌, ◌-◌, ◌*◌, ◌^◌, ◌/◌, ◌%◌, ◌<◌, ◌≤◌, Bool, true, false, List, [], ◌∷◌, ◌++◌, length, take, drop, refl, sym, ap, subst, ◌∙◌, append_assoc, append-nil, arith, inl, inr, lit<, Option, Some, None}
use Rattle.std.specs.Prelude.{bytes_eq, flat_map, IsTrue, replicate}
use Rattle.std.specs.List.{AllByRecursion}
use Rattle.std.proofs.Math.Seq.{take-length}
use Rattle.std.proofs.lemmas.Bool.{cases_lt}
use Rattle.std.proofs.lemmas.Slice.Eq.{bytes_eq-Decides}
use Rattle.std.proofs.Math.Nat.{pow-succ'}
use Rattle.std.proofs.lemmas.List.{length-append, length-take, length-drop, length-replicate, take-append-drop}
use Rattle.szg_file.specs.declared.fault.Reason.{Reason}
use Rattle.szg_file.specs.declared.fault.Reason.TheVariants as reason
use Rattle.szg_values.specs.declared.Kind.{Kind}
use Rattle.szg_file.specs.Format.{Format, means, field, fill, placed, Verdict, good, refused, truncated, verdict, ◌>>=◌, ◌>>◌}
use Rattle.szg_values.specs.Material.{Sides, has_pawns, man_codes}
use Rattle.szg_count.specs.Groups.{order_fault}
use Rattle.szg_count.specs.declared.OrderFault.{OrderFault}
use Rattle.szg_count.specs.declared.OrderFault.TheVariants.{Pieces, PawnsFirst, OrderPlace}
use Rattle.szg_file.specs.Contents.{Part, number_of, bytes_of, gap, items, has_bit, side_numbers, order_bytes, order_of}
use Rattle.szg_file.specs.File.{demand, none_fails, each, filled_to, number_field, rows_field, magic_of, magic_field, agrees, split_agrees, byte4_field, order_check, part_checks, part_of_bytes, part_field}
use Rattle.szg_file.specs.FileOf.{Section, written, padding, spare, fill_of, bytes_with, joined, queried, part_sections}
use Rattle.szg_file.specs.Accepted.{AreNumbers, AreBytes, SideBySide, IsPart}
use Rattle.szg_file.proofs.Grammar.FormatLaws.{verdict-then, take_front, drop_front, good-split, continued, after_fill-good, field-whole, field-short, fill-whole, fill-short}

no_items : (xs : List ℕ) → length xs ≡ 0 → xs ≡ []
no_items [] e = refl
no_items (x ∷ xs) e = absurd (omega (arith, e))

abbrev pub no_section : List Section
no_section = []

-- ---- the parts of an accepted text

-- A whole text of two formats in sequence consists of a whole text of each.
pub record Parts {A B : Type 0} (f : Format A) (g : A → Format B) (place : ℕ) (bytes : List ℕ) (b : B) (filled rest : List ℕ) : Type 0 where
  pub value : A
  pub first : List ℕ
  pub others : List ℕ
  pub first_fill : List ℕ
  pub other_fill : List ℕ
  pub bytes_are : bytes ≡ first ++ others
  pub fill_is : filled ≡ first_fill ++ other_fill
  pub is_first : verdict f place first ≡ good value first_fill []
  pub is_other : verdict (g value) (place + length first) others ≡ good b other_fill rest

parts_cases : {A B : Type 0} (f : Format A) (g : A → Format B) (place : ℕ) (bytes : List ℕ) (b : B) (filled rest : List ℕ) (v : Verdict A) →
    verdict f place bytes ≡ v → continued g (place + length bytes) v ≡ good b filled rest → Parts f g place bytes b filled rest
parts_cases f g place bytes b filled rest (good a filled' rest') e h =
    let s = good-split f place bytes a filled' rest' e in
    let following : (place + length bytes) - length rest' ≡ place + length s.0 = omega (arith, ap length s.1, length-append s.0 rest') in
    let q = after_fill-good filled' (verdict (g a) ((place + length bytes) - length rest') rest') b filled rest h in
    record {
      value = a;
      first = s.0;
      others = rest';
      first_fill = filled';
      other_fill = q.0;
      bytes_are = s.1;
      fill_is = q.2;
      is_first = s.2;
      is_other = subst (λ (n : ℕ). verdict (g a) n rest' ≡ good b q.0 rest) following q.1;
    }
parts_cases f g place bytes b filled rest (refused at reason rest') e h = absurd cc
parts_cases f g place bytes b filled rest (truncated count) e h = absurd cc

pub parts : {A B : Type 0} (f : Format A) (g : A → Format B) (place : ℕ) (bytes : List ℕ) (b : B) (filled rest : List ℕ) →
    verdict (f >>= g) place bytes ≡ good b filled rest → Parts f g place bytes b filled rest
parts f g place bytes b filled rest e =
    parts_cases f g place bytes b filled rest (verdict f place bytes) refl (sym (verdict-then f g place bytes) ∙ e)

-- ---- the sections that spell a text

-- From offset `place` on, the bytes are the sections with these padding bytes, whatever precedes and follows them.
pub record Spells (place : ℕ) (bytes : List ℕ) (sections : List Section) (filled : List ℕ) : Type 0 where
  pub spelled : (text : List ℕ) (more : List Section) (later : List ℕ) → length text ≡ place →
      joined text (sections ++ more) (filled ++ later) ≡ joined (text ++ bytes) more later
  pub counted : (text : List ℕ) (more : List Section) → length text ≡ place →
      (text' : List ℕ) × (length text' ≡ place + length bytes) × (queried text (sections ++ more) ≡ length filled + queried text' more)

pub Spells-none : (place : ℕ) → Spells place [] [] []
Spells-none place = record {
  spelled = λ text more later e. ap (λ (t : List ℕ). joined t more later) (sym (append-nil text));
  counted = λ text more e. (text, omega (arith, e), omega arith);
}

pub Spells-then : (place : ℕ) (x y : List ℕ) (s t : List Section) (fx fy : List ℕ) →
    Spells place x s fx → Spells (place + length x) y t fy → Spells place (x ++ y) (s ++ t) (fx ++ fy)
Spells-then place x y s t fx fy p q = record {
  spelled = λ text more later e.
      ap (λ (z : List Section). joined text z ((fx ++ fy) ++ later)) (append_assoc s t more)
      ∙ ap (λ (z : List ℕ). joined text (s ++ (t ++ more)) z) (append_assoc fx fy later)
      ∙ p.spelled text (t ++ more) (fy ++ later) e
      ∙ q.spelled (text ++ x) more later (length-append text x ∙ ap (λ (n : ℕ). n + length x) e)
      ∙ ap (λ (z : List ℕ). joined z more later) (append_assoc text x y);
  counted = λ text more e.
      let a = p.counted text (t ++ more) e in
      let b = q.counted a.0 more a.1 in (
        b.0,
        omega (arith, b.1, length-append x y),
        ap (λ (z : List Section). queried text z) (append_assoc s t more) ∙ omega (arith, a.2, b.2, length-append fx fy),
      );
}

pub Spells-written : (place : ℕ) (bytes : List ℕ) → Spells place bytes (written bytes ∷ []) []
Spells-written place bytes = record {
  spelled = λ text more later e. refl;
  counted = λ text more e. (text ++ bytes, omega (arith, length-append text bytes, e), omega arith);
}

-- ---- bytes and numbers

pub AreNumbers-split : (size : ℕ) (x y : List ℕ) → AreNumbers size (x ++ y) → AreNumbers size x × AreNumbers size y
AreNumbers-split size [] y h = (tt, h)
AreNumbers-split size (b ∷ x) y h = let r = AreNumbers-split size x y h.1 in ((h.0, r.0), r.1)

pub AreNumbers-join : (size : ℕ) (x y : List ℕ) → AreNumbers size x → AreNumbers size y → AreNumbers size (x ++ y)
AreNumbers-join size [] y p q = q
AreNumbers-join size (b ∷ x) y p q = (p.0, AreNumbers-join size x y p.1 q)

-- Writing a number that was read returns the same bytes.
pub bytes_of-number_of : (bytes : List ℕ) → AreNumbers 1 bytes → bytes_of (length bytes) (number_of bytes) ≡ bytes
bytes_of-number_of [] h = refl
bytes_of-number_of (byte ∷ bytes) h =
    let small : byte < 256 = h.0 in
    let low : (byte + 256 * number_of bytes) % 256 ≡ byte = omega (arith, small) in
    let high : (byte + 256 * number_of bytes) / 256 ≡ number_of bytes = omega (arith, small) in
    ap (λ (n : ℕ). n ∷ bytes_of (length bytes) ((byte + 256 * number_of bytes) / 256)) low
    ∙ ap (λ (n : ℕ). byte ∷ bytes_of (length bytes) n) high
    ∙ ap (λ (z : List ℕ). byte ∷ z) (bytes_of-number_of bytes h.1)

-- Reading a number that was written returns it.
pub number_of-bytes_of : (size number : ℕ) → number < 256 ^ size → number_of (bytes_of size number) ≡ number
number_of-bytes_of zero number h = let small : number < 1 = h in omega arith
number_of-bytes_of (suc size) number h =
    let power : 256 ^ suc size ≡ 256 * 256 ^ size = pow-succ' 256 size in
    let high : number / 256 < 256 ^ size = omega (arith, h, power) in
    ap (λ (n : ℕ). number % 256 + 256 * n) (number_of-bytes_of size (number / 256) high) ∙ omega arith

-- ---- formats whose texts are their sections

-- The sections of a value spell each text that means it, and the value satisfies `P`.
pub record Sound {A : Type 0} (f : Format A) (sections : A → List Section) (P : A → Type 0) : Type 0 where
  pub sound : (place : ℕ) (bytes : List ℕ) (a : A) (filled : List ℕ) → AreNumbers 1 bytes → verdict f place bytes ≡ good a filled [] →
      Spells place bytes (sections a) filled × AreNumbers 1 filled × P a

abbrev pub Any : {A : Type 0} → A → Type 0
Any a = Unit {0}

take_all_of : (size : ℕ) (xs : List ℕ) → length xs ≡ size → take size xs ≡ xs
take_all_of size xs e = subst (λ (n : ℕ). take n xs ≡ xs) e (take-length xs)

drop_all_of : (size : ℕ) (xs : List ℕ) → length (drop size xs) ≡ 0 → size ≤ length xs → length xs ≡ size
drop_all_of size xs e le = omega (arith, length-drop size xs, e)

-- the accepted text of one field
pub field_text : {A : Type 0} (size : ℕ) (next : List ℕ → A) (place : ℕ) (bytes : List ℕ) (a : A) (filled : List ℕ) →
    verdict (field size (λ b. means (next b))) place bytes ≡ good a filled [] → (length bytes ≡ size) × (next bytes ≡ a) × (filled ≡ [])
field_text size next place bytes a filled e =
    elim (cases_lt (length bytes) size) [
      | inl short ↦ let no : truncated (place + length bytes) ≡ good a filled [] = sym (field-short size (λ b. means (next b)) place bytes short) ∙ e in absurd cc
      | inr whole ↦
          let h : good (next (take size bytes)) [] (drop size bytes) ≡ good a filled [] = sym (field-whole size (λ b. means (next b)) place bytes whole) ∙ e in
          let value : next (take size bytes) ≡ a = cc in
          let none : drop size bytes ≡ [] = cc in
          let fills : filled ≡ [] = cc in
          let long : length bytes ≡ size = drop_all_of size bytes (ap length none) whole in
          (long, ap next (sym (take_all_of size bytes long)) ∙ value, fills)
    ]

-- one field, whose bytes are restored from its value
pub sound_field : {A : Type 0} (size : ℕ) (next : List ℕ → A) (back : A → List ℕ) (P : A → Type 0) →
    ((bytes : List ℕ) → length bytes ≡ size → AreNumbers 1 bytes → (back (next bytes) ≡ bytes) × P (next bytes)) →
    Sound (field size (λ b. means (next b))) (λ a. written (back a) ∷ []) P
sound_field size next back P agree = record {
  sound = λ place bytes a filled small e.
      let h = field_text size next place bytes a filled e in
      let k = agree bytes h.0 small in
      let same : back a ≡ bytes = ap back (sym h.1) ∙ k.0 in (
        subst (λ (z : List ℕ). Spells place bytes (written (back a) ∷ []) z) (sym h.2)
            (subst (λ (z : List ℕ). Spells place bytes (written z ∷ []) []) (sym same) (Spells-written place bytes)),
        subst (λ (z : List ℕ). AreNumbers 1 z) (sym h.2) tt,
        subst P h.1 k.1,
      );
}

-- a format followed by one that depends on its value
pub sound_then : {A B : Type 0} (f : Format A) (g : A → Format B) (s : A → List Section) (t : A → B → List Section) (u : B → List Section)
    (P : A → Type 0) (Q : A → B → Type 0) (R : B → Type 0) →
    Sound f s P → ((a : A) → P a → Sound (g a) (t a) (Q a)) → ((a : A) (b : B) → P a → Q a b → (s a ++ t a b ≡ u b) × R b) → Sound (f >>= g) u R
sound_then f g s t u P Q R first second joint = record {
  sound = λ place bytes b filled small e.
      let p = parts f g place bytes b filled [] e in
      let halves = AreNumbers-split 1 p.first p.others (subst (λ (z : List ℕ). AreNumbers 1 z) p.bytes_are small) in
      let x = first.sound place p.first p.value p.first_fill halves.0 p.is_first in
      let y = (second p.value x.2).sound (place + length p.first) p.others b p.other_fill halves.1 p.is_other in
      let j = joint p.value b x.2 y.2 in (
        subst (λ (z : List ℕ). Spells place bytes (u b) z) (sym p.fill_is)
            (subst (λ (z : List ℕ). Spells place z (u b) (p.first_fill ++ p.other_fill)) (sym p.bytes_are)
            (subst (λ (z : List Section). Spells place (p.first ++ p.others) z (p.first_fill ++ p.other_fill)) j.0
            (Spells-then place p.first p.others (s p.value) (t p.value b) p.first_fill p.other_fill x.0 y.0))),
        subst (λ (z : List ℕ). AreNumbers 1 z) (sym p.fill_is) (AreNumbers-join 1 p.first_fill p.other_fill x.1 y.1),
        j.1,
      );
}

-- a value that needs no bytes
pub sound_means : {A : Type 0} (a : A) (P : A → Type 0) → P a → Sound (means a) (λ _. []) P
sound_means a P h = record {
  sound = λ place bytes a' filled small e.
      let none : bytes ≡ [] = cc in
      let fills : filled ≡ [] = cc in
      let same : a ≡ a' = cc in (
        subst (λ (z : List ℕ). Spells place z [] filled) (sym none) (subst (λ (z : List ℕ). Spells place [] [] z) (sym fills) (Spells-none place)),
        subst (λ (z : List ℕ). AreNumbers 1 z) (sym fills) tt,
        subst P same h,
      );
}

-- a check that passes
pub sound_demand : (test : Bool) (at : ℕ) (reason : Reason) → Sound (demand test at reason) (λ _. []) (λ _. IsTrue test)
sound_demand true at reason = sound_means tt (λ _. IsTrue true) refl
sound_demand false at reason = record { sound = λ place bytes a filled small e. absurd cc }

pub sound_none_fails : (item : Option ℕ) (at : ℕ → ℕ) (why : Reason) → Sound (none_fails item at why) (λ _. []) (λ _. item ≡ None)
sound_none_fails None at why = sound_means tt (λ _. None ≡ None) refl
sound_none_fails (Some item) at why = record { sound = λ place bytes a filled small e. absurd cc }

pub sound_each_none : {A B : Type 0} (format : A → Format B) (sections : B → List Section) (P : A → B → Type 0) → Sound (each format []) (flat_map sections) (SideBySide P [])
sound_each_none format sections P = record {
  sound = λ place bytes ys filled small e.
      let same : [] ≡ ys = cc in
      let h = (sound_means [] (λ _. Unit {0}) tt).sound place bytes [] filled small (e ∙ ap (λ (z : List _). good z filled []) (sym same)) in
      (subst (λ (z : List _). Spells place bytes (flat_map sections z) filled) same h.0, h.1, subst (λ (z : List _). SideBySide P [] z) same tt);
}

-- the formats of the items, in order
pub sound_each : {A B : Type 0} (format : A → Format B) (sections : B → List Section) (P : A → B → Type 0) →
    ((a : A) → Sound (format a) sections (P a)) → (xs : List A) → Sound (each format xs) (flat_map sections) (SideBySide P xs)
sound_each format sections P one [] = sound_each_none format sections P
sound_each format sections P one (x ∷ xs) =
    sound_then (format x) (λ y. each format xs >>= λ ys. means (y ∷ ys)) sections (λ y zs. flat_map sections (drop 1 zs)) (flat_map sections)
    (P x) (λ y zs. (ys : List _) × (zs ≡ y ∷ ys) × SideBySide P xs ys) (SideBySide P (x ∷ xs))
    (one x)
    (λ y py. sound_then (each format xs) (λ ys. means (y ∷ ys)) (flat_map sections) (λ ys zs. []) (λ zs. flat_map sections (drop 1 zs))
    (SideBySide P xs) (λ ys zs. zs ≡ y ∷ ys) (λ zs. (ys : List _) × (zs ≡ y ∷ ys) × SideBySide P xs ys)
    (sound_each format sections P one xs)
    (λ ys pys. sound_means (y ∷ ys) (λ zs. zs ≡ y ∷ ys) refl)
    (λ ys zs pys same. (append-nil (flat_map sections ys) ∙ ap (λ (z : List _). flat_map sections (drop 1 z)) (sym same), (ys, same, pys))))
    (λ y zs py q. (
      ap (λ (z : List _). sections y ++ flat_map sections (drop 1 z)) q.1 ∙ ap (λ (z : List _). flat_map sections z) (sym q.1),
      subst (λ (z : List _). SideBySide P (x ∷ xs) z) (sym q.1) (py, q.2),
    ))

-- ---- parts of formats

pub number_of-small : (bytes : List ℕ) → AreNumbers 1 bytes → number_of bytes < 256 ^ length bytes
number_of-small [] h = lit< tt
number_of-small (byte ∷ bytes) h =
    let power : 256 ^ suc (length bytes) ≡ 256 * 256 ^ length bytes = pow-succ' 256 (length bytes) in
    let rest : number_of bytes < 256 ^ length bytes = number_of-small bytes h.1 in
    let small : byte < 256 = h.0 in
    omega (arith, power, rest, small)

pub sound_number : (size : ℕ) → Sound (number_field size) (λ n. written (bytes_of size n) ∷ []) (λ n. n < 256 ^ size)
sound_number size = sound_field size number_of (bytes_of size) (λ n. n < 256 ^ size)
    (λ bytes long small. (
      ap (λ (k : ℕ). bytes_of k (number_of bytes)) (sym long) ∙ bytes_of-number_of bytes small,
      subst (λ (k : ℕ). number_of bytes < 256 ^ k) long (number_of-small bytes small),
    ))

items_join : (size count : ℕ) (bytes : List ℕ) → length bytes ≡ size * count → AreNumbers 1 bytes →
    (flat_map (λ (row : List ℕ). row) (items size count bytes) ≡ bytes) × (length (items size count bytes) ≡ count) × AllByRecursion (AreBytes size) (items size count bytes)
items_join size zero bytes long small =
    let none : length bytes ≡ 0 = omega (arith, long) in
    (sym (no_items bytes none), refl, tt)
items_join size (suc count) bytes long small =
    let many : size * suc count ≡ size + size * count = omega arith in
    let halves = AreNumbers-split 1 (take size bytes) (drop size bytes) (subst (λ (z : List ℕ). AreNumbers 1 z) (sym (take-append-drop size bytes)) small) in
    let h = items_join size count (drop size bytes) (omega (arith, length-drop size bytes, long, many)) halves.1 in (
      ap (λ (z : List ℕ). take size bytes ++ z) h.0 ∙ take-append-drop size bytes,
      omega (arith, h.1),
      ((omega (arith, length-take size bytes, long, many), halves.0), h.2),
    )

pub sound_rows : (size count : ℕ) → Sound (rows_field size count) (λ rows. written (flat_map (λ row. row) rows) ∷ []) (λ rows. (length rows ≡ count) × AllByRecursion (AreBytes size) rows)
sound_rows size count = sound_field (size * count) (items size count) (flat_map (λ row. row)) (λ rows. (length rows ≡ count) × AllByRecursion (AreBytes size) rows)
    (λ bytes long small. let h = items_join size count bytes long small in (h.0, (h.1, h.2)))

pub sound_bytes : (size : ℕ) → Sound (field size means) (λ bytes. written bytes ∷ []) (AreBytes size)
sound_bytes size = sound_field size (λ bytes. bytes) (λ bytes. bytes) (AreBytes size) (λ bytes long small. (refl, (long, small)))

pub sound_placed : {A : Type 0} (next : ℕ → Format A) (s : A → List Section) (P : A → Type 0) → ((place : ℕ) → Sound (next place) s P) → Sound (placed next) s P
sound_placed next s P h = record { sound = λ place bytes a filled small e. (h place).sound place bytes a filled small e }

-- the same format, with equal sections and weaker conditions
pub sound_as : {A : Type 0} (f : Format A) (s t : A → List Section) (P Q : A → Type 0) → Sound f s P → ((a : A) → P a → (s a ≡ t a) × Q a) → Sound f t Q
sound_as f s t P Q h agree = record {
  sound = λ place bytes a filled small e.
      let x = h.sound place bytes a filled small e in
      let k = agree a x.2 in
      (subst (λ (z : List Section). Spells place bytes z filled) k.0 x.0, x.1, k.1);
}

-- a check followed by a format
pub sound_after : {B : Type 0} (check : Format (Unit {0})) (g : Format B) (t : B → List Section) (P : Type 0) (Q : B → Type 0) →
    Sound check (λ _. []) (λ _. P) → Sound g t Q → Sound (check >> g) t (λ b. P × Q b)
sound_after check g t P Q first second =
    sound_then check (λ _. g) (λ _. []) (λ _. t) t (λ _. P) (λ _. Q) (λ b. P × Q b) first (λ _ _. second) (λ _ b p q. (refl, (p, q)))

-- a format followed by a function of its value, which needs no bytes
pub sound_value : {A B : Type 0} (f : Format A) (view : A → B) (s : A → List Section) (t : B → List Section) (P : A → Type 0) (Q : B → Type 0) →
    Sound f s P → ((a : A) → P a → (s a ≡ t (view a)) × Q (view a)) → Sound (f >>= λ a. means (view a)) t Q
sound_value f view s t P Q h agree =
    sound_then f (λ a. means (view a)) s (λ _ _. []) t P (λ a b. b ≡ view a) Q h (λ a p. sound_means (view a) (λ b. b ≡ view a) refl)
    (λ a b p same. let k = agree a p in (append-nil (s a) ∙ k.0 ∙ ap t (sym same), subst Q (sym same) k.1))

-- ---- magic and byte 4

pub sound_magic : (kind : Kind) → Sound (magic_field kind) (λ _. written (magic_of kind) ∷ []) Any
sound_magic kind = sound_then (field 4 means) (λ bytes. demand (bytes_eq bytes (magic_of kind)) 0 reason.Magic) (λ bytes. written bytes ∷ []) (λ _ _. []) (λ _. written (magic_of kind) ∷ [])
    (AreBytes 4) (λ bytes _. IsTrue (bytes_eq bytes (magic_of kind))) Any
    (sound_bytes 4) (λ bytes _. sound_demand (bytes_eq bytes (magic_of kind)) 0 reason.Magic)
    (λ bytes b p same. (ap (λ (z : List ℕ). written z ∷ []) ((bytes_eq-Decides bytes (magic_of kind)).0 same), tt))

pub one_byte : (byte : ℕ) → byte < 256 ^ 1 → bytes_of 1 byte ≡ byte ∷ []
one_byte byte small = let low : byte % 256 ≡ byte = omega (arith, small) in ap (λ (n : ℕ). n ∷ []) low

-- the conditions on byte 4
pub record IsByte4 (material : Sides) (kind : Kind) (byte : ℕ) : Type 0 where
  pub small : byte < 256
  pub split : IsTrue (split_agrees material kind byte)
  pub pawns : IsTrue (agrees (has_bit 1 byte) (has_pawns material))

pub sound_byte4 : (material : Sides) (kind : Kind) → Sound (byte4_field material kind) (λ byte. written (byte ∷ []) ∷ []) (IsByte4 material kind)
sound_byte4 material kind =
    sound_then (number_field 1) (λ byte. demand (split_agrees material kind byte) 4 reason.SplitBit >> (demand (agrees (has_bit 1 byte) (has_pawns material)) 4 reason.PawnBit >> means byte))
    (λ byte. written (bytes_of 1 byte) ∷ []) (λ _ _. []) (λ byte. written (byte ∷ []) ∷ [])
    (λ byte. byte < 256 ^ 1) (λ byte b. IsTrue (split_agrees material kind byte) × (IsTrue (agrees (has_bit 1 byte) (has_pawns material)) × (b ≡ byte))) (IsByte4 material kind)
    (sound_number 1)
    (λ byte _. sound_after (demand (split_agrees material kind byte) 4 reason.SplitBit) (demand (agrees (has_bit 1 byte) (has_pawns material)) 4 reason.PawnBit >> means byte) (λ _. [])
    (IsTrue (split_agrees material kind byte)) (λ b. IsTrue (agrees (has_bit 1 byte) (has_pawns material)) × (b ≡ byte))
    (sound_demand (split_agrees material kind byte) 4 reason.SplitBit)
    (sound_after (demand (agrees (has_bit 1 byte) (has_pawns material)) 4 reason.PawnBit) (means byte) (λ _. []) (IsTrue (agrees (has_bit 1 byte) (has_pawns material))) (λ b. b ≡ byte)
    (sound_demand (agrees (has_bit 1 byte) (has_pawns material)) 4 reason.PawnBit) (sound_means byte (λ b. b ≡ byte) refl)))
    (λ byte b small q. (
      ap (λ (z : List ℕ). written z ∷ []) (one_byte byte small) ∙ ap (λ (n : ℕ). written (n ∷ []) ∷ []) (sym q.1.1),
      subst (IsByte4 material kind) (sym q.1.1) (record { small = small; split = q.0; pawns = q.1.0 }),
    ))

-- ---- the parts

sound_order_check : (place orders : ℕ) (fault : Option OrderFault) → Sound (order_check place orders fault) (λ _. []) (λ _. fault ≡ None)
sound_order_check place orders None = sound_means tt (λ _. None ≡ None) refl
sound_order_check place orders (Some Pieces) = record { sound = λ at bytes a filled small e. absurd cc }
sound_order_check place orders (Some PawnsFirst) = record { sound = λ at bytes a filled small e. absurd cc }
sound_order_check place orders (Some OrderPlace) = record { sound = λ at bytes a filled small e. absurd cc }

pub no_sections : {A : Type 0} (xs : List A) → flat_map (λ (x : A). no_section) xs ≡ []
no_sections [] = refl
no_sections (x ∷ xs) = no_sections xs

pub all_beside : {A B : Type 0} (P : A → Type 0) (xs : List A) (ys : List B) → SideBySide (λ x y. P x) xs ys → AllByRecursion P xs
all_beside P [] [] h = tt
all_beside P [] (y ∷ ys) h = absurd h
all_beside P (x ∷ xs) [] h = absurd h
all_beside P (x ∷ xs) (y ∷ ys) h = (h.0, all_beside P xs ys h.1)

sound_part_checks : (material : Sides) (kind : Kind) (place : ℕ) (part : Part) →
    Sound (part_checks material kind place part) (λ _. []) (λ _. AllByRecursion (λ side. order_fault material (order_of side part) ≡ None) (side_numbers material kind))
sound_part_checks material kind place part =
    sound_value (each (λ side. order_check place (order_bytes material) (order_fault material (order_of side part))) (side_numbers material kind)) (λ _. tt)
    (flat_map (λ _. no_section)) (λ _. [])
    (SideBySide (λ side _. order_fault material (order_of side part) ≡ None) (side_numbers material kind))
    (λ _. AllByRecursion (λ side. order_fault material (order_of side part) ≡ None) (side_numbers material kind))
    (sound_each (λ side. order_check place (order_bytes material) (order_fault material (order_of side part))) (λ _. no_section)
    (λ side _. order_fault material (order_of side part) ≡ None)
    (λ side. sound_order_check place (order_bytes material) (order_fault material (order_of side part))) (side_numbers material kind))
    (λ ys p. (no_sections ys, all_beside (λ side. order_fault material (order_of side part) ≡ None) (side_numbers material kind) ys p))

-- the bytes of two fields, joined or apart
Spells-apart : (place : ℕ) (x y : List ℕ) → Spells place (x ++ y) (written x ∷ written y ∷ []) []
Spells-apart place x y = Spells-then place x y (written x ∷ []) (written y ∷ []) [] [] (Spells-written place x) (Spells-written (place + length x) y)

-- one field of the format that is two fields of the table
pub sound_halves : (size cut : ℕ) → Sound (field size means) (λ bytes. written (take cut bytes) ∷ written (drop cut bytes) ∷ []) (AreBytes size)
sound_halves size cut = record {
  sound = λ place bytes a filled small e.
      let h = field_text size (λ b. b) place bytes a filled e in
      let whole : take cut bytes ++ drop cut bytes ≡ bytes = take-append-drop cut bytes in
      let apart = subst (λ (z : List ℕ). Spells place z (written (take cut bytes) ∷ written (drop cut bytes) ∷ []) []) whole (Spells-apart place (take cut bytes) (drop cut bytes)) in
      let valued = subst (λ (z : List ℕ). Spells place bytes (written (take cut z) ∷ written (drop cut z) ∷ []) []) h.1 apart in (
        subst (λ (z : List ℕ). Spells place bytes (written (take cut a) ∷ written (drop cut a) ∷ []) z) (sym h.2) valued,
        subst (λ (z : List ℕ). AreNumbers 1 z) (sym h.2) tt,
        subst (AreBytes size) h.1 (h.0, small),
      );
}

part_condition : (material : Sides) (kind : Kind) (bytes : List ℕ) → AreBytes (order_bytes material + length (man_codes material)) bytes →
    AllByRecursion (λ side. order_fault material (order_of side (part_of_bytes material bytes)) ≡ None) (side_numbers material kind) →
    IsPart material kind (part_of_bytes material bytes)
part_condition material kind bytes whole sides =
    let k : ℕ = order_bytes material in
    let halves = AreNumbers-split 1 (take k bytes) (drop k bytes) (subst (λ (z : List ℕ). AreNumbers 1 z) (sym (take-append-drop k bytes)) whole.1) in
    let long : length bytes ≡ k + length (man_codes material) = whole.0 in
    record {
      order = (omega (arith, long, length-take k bytes), halves.0);
      men = (omega (arith, long, length-drop k bytes), halves.1);
      sides = sides;
    }

pub sound_part : (material : Sides) (kind : Kind) → Sound (part_field material kind) part_sections (IsPart material kind)
sound_part material kind =
    sound_placed (λ place. field (order_bytes material + length (man_codes material)) means >>= λ bytes. part_checks material kind place (part_of_bytes material bytes) >> means (part_of_bytes material bytes))
    part_sections (IsPart material kind)
    (λ place. sound_then (field (order_bytes material + length (man_codes material)) means)
    (λ bytes. part_checks material kind place (part_of_bytes material bytes) >> means (part_of_bytes material bytes))
    (λ bytes. written (take (order_bytes material) bytes) ∷ written (drop (order_bytes material) bytes) ∷ []) (λ _ _. []) part_sections
    (AreBytes (order_bytes material + length (man_codes material)))
    (λ bytes part. AllByRecursion (λ side. order_fault material (order_of side (part_of_bytes material bytes)) ≡ None) (side_numbers material kind) × (part ≡ part_of_bytes material bytes))
    (IsPart material kind)
    (sound_halves (order_bytes material + length (man_codes material)) (order_bytes material))
    (λ bytes whole. sound_after (part_checks material kind place (part_of_bytes material bytes)) (means (part_of_bytes material bytes)) (λ _. [])
    (AllByRecursion (λ side. order_fault material (order_of side (part_of_bytes material bytes)) ≡ None) (side_numbers material kind))
    (λ part. part ≡ part_of_bytes material bytes)
    (sound_part_checks material kind place (part_of_bytes material bytes))
    (sound_means (part_of_bytes material bytes) (λ part. part ≡ part_of_bytes material bytes) refl))
    (λ bytes part whole q. (
      ap part_sections (sym q.1),
      subst (IsPart material kind) (sym q.1) (part_condition material kind bytes whole q.0),
    )))

pub sound_parts : (material : Sides) (kind : Kind) (numbers : List ℕ) → Sound (each (λ _. part_field material kind) numbers) (flat_map part_sections) (SideBySide (λ (_ : ℕ). IsPart material kind) numbers)
sound_parts material kind numbers = sound_each (λ _. part_field material kind) part_sections (λ _. IsPart material kind) (λ _. sound_part material kind) numbers

-- ---- padding

fill_text : {A : Type 0} (size place : ℕ) (x a : A) (bytes filled : List ℕ) → verdict (fill size (means x)) place bytes ≡ good a filled [] →
    (length bytes ≡ size) × (x ≡ a) × (filled ≡ bytes)
fill_text size place x a bytes filled e =
    elim (cases_lt (length bytes) size) [
      | inl short ↦ let no : truncated (place + length bytes) ≡ good a filled [] = sym (fill-short size (means x) place bytes short) ∙ e in absurd cc
      | inr whole ↦
          let h : good x (take size bytes ++ []) (drop size bytes) ≡ good a filled [] = sym (fill-whole size (means x) place bytes whole) ∙ e in
          let value : x ≡ a = cc in
          let none : drop size bytes ≡ [] = cc in
          let fills : take size bytes ++ [] ≡ filled = cc in
          let long : length bytes ≡ size = drop_all_of size bytes (ap length none) whole in
          (long, value, sym fills ∙ append-nil (take size bytes) ∙ take_all_of size bytes long)
    ]

-- padding bytes spell a section that needs exactly that number of them
pub Spells-fill : (place : ℕ) (bytes : List ℕ) (section : Section) → fill_of section place ≡ length bytes → ((b : List ℕ) → bytes_with section b ≡ b) → Spells place bytes (section ∷ []) bytes
Spells-fill place bytes section size carried = record {
  spelled = λ text more later e.
      let k : fill_of section (length text) ≡ length bytes = ap (fill_of section) e ∙ size in
      ap (λ (n : ℕ). joined (text ++ bytes_with section (take n (bytes ++ later))) more (drop n (bytes ++ later))) k
      ∙ ap (λ (z : List ℕ). joined (text ++ bytes_with section z) more (drop (length bytes) (bytes ++ later))) (take_front (length bytes) bytes later refl)
      ∙ ap (λ (z : List ℕ). joined (text ++ z) more (drop (length bytes) (bytes ++ later))) (carried bytes)
      ∙ ap (λ (z : List ℕ). joined (text ++ bytes) more z) (drop_front (length bytes) bytes later refl);
  counted = λ text more e.
      let k : fill_of section (length text) ≡ length bytes = ap (fill_of section) e ∙ size in (
        text ++ bytes_with section (replicate (fill_of section (length text)) 0),
        length-append text (bytes_with section (replicate (fill_of section (length text)) 0))
            ∙ ap (λ (z : List ℕ). length text + length z) (carried (replicate (fill_of section (length text)) 0))
            ∙ omega (arith, e, k, length-replicate {A = ℕ} (fill_of section (length text)) 0),
        ap (λ (n : ℕ). n + queried (text ++ bytes_with section (replicate (fill_of section (length text)) 0)) more) k,
      );
}

pub sound_fill : {A : Type 0} (size : ℕ) (x : A) → Sound (fill size (means x)) (λ _. spare size ∷ []) (λ a. x ≡ a)
sound_fill size x = record {
  sound = λ place bytes a filled small e.
      let h = fill_text size place x a bytes filled e in (
        subst (λ (z : List ℕ). Spells place bytes (spare size ∷ []) z) (sym h.2) (Spells-fill place bytes (spare size) (sym h.0) (λ b. refl)),
        subst (λ (z : List ℕ). AreNumbers 1 z) (sym h.2) small,
        h.1,
      );
}

pub sound_filled_to : (unit : ℕ) → Sound (filled_to unit) (λ _. padding unit ∷ []) Any
sound_filled_to unit = record {
  sound = λ place bytes a filled small e.
      let h = fill_text (gap unit place) place tt a bytes filled e in (
        subst (λ (z : List ℕ). Spells place bytes (padding unit ∷ []) z) (sym h.2) (Spells-fill place bytes (padding unit) (sym h.0) (λ b. refl)),
        subst (λ (z : List ℕ). AreNumbers 1 z) (sym h.2) small,
        tt,
      );
}

-- if a text is spelled by all sections of a table, it is the table's file, and has exactly the padding bytes needed
pub file_from_sections : (bytes filled : List ℕ) (all : List Section) → Spells 0 bytes all filled → (joined [] all filled ≡ bytes) × (queried [] all ≡ length filled)
file_from_sections bytes filled all h =
    let none = h.counted [] [] refl in (
      ap (λ (z : List Section). joined [] z filled) (sym (append-nil all)) ∙ ap (λ (z : List ℕ). joined [] (all ++ []) z) (sym (append-nil filled)) ∙ h.spelled [] [] [] refl,
      ap (λ (z : List Section). queried [] z) (sym (append-nil all)) ∙ omega (arith, none.2),
    )

-- formats of items whose sections are all given by one function
pub sound_each_in : {A B : Type 0} (format : A → Format B) (sections : B → List Section) (Q : A → Type 0) (P : A → B → Type 0) →
    ((a : A) → Q a → Sound (format a) sections (P a)) → (xs : List A) → AllByRecursion Q xs → Sound (each format xs) (flat_map sections) (SideBySide P xs)
sound_each_in format sections Q P one [] all = sound_each_none format sections P
sound_each_in format sections Q P one (x ∷ xs) all =
    sound_then (format x) (λ y. each format xs >>= λ ys. means (y ∷ ys)) sections (λ y zs. flat_map sections (drop 1 zs)) (flat_map sections)
    (P x) (λ y zs. (ys : List _) × (zs ≡ y ∷ ys) × SideBySide P xs ys) (SideBySide P (x ∷ xs))
    (one x all.0)
    (λ y py. sound_then (each format xs) (λ ys. means (y ∷ ys)) (flat_map sections) (λ ys zs. []) (λ zs. flat_map sections (drop 1 zs))
    (SideBySide P xs) (λ ys zs. zs ≡ y ∷ ys) (λ zs. (ys : List _) × (zs ≡ y ∷ ys) × SideBySide P xs ys)
    (sound_each_in format sections Q P one xs all.1)
    (λ ys pys. sound_means (y ∷ ys) (λ zs. zs ≡ y ∷ ys) refl)
    (λ ys zs pys same. (append-nil (flat_map sections ys) ∙ ap (λ (z : List _). flat_map sections (drop 1 z)) (sym same), (ys, same, pys))))
    (λ y zs py q. (
      ap (λ (z : List _). sections y ++ flat_map sections (drop 1 z)) q.1 ∙ ap (λ (z : List _). flat_map sections z) (sym q.1),
      subst (λ (z : List _). SideBySide P (x ∷ xs) z) (sym q.1) (py, q.2),
    ))
