-- The format accepts the file of an accepted table: section by section.
use Rattle.std.proofs.Common.{◌≡◌, ℕ, ◌+◌, ◌^◌, ◌<◌, ◌≤◌, Bool, List, [], ◌∷◌, ◌++◌, length, drop, refl, sym, ap, subst, ◌∙◌, append_assoc, append-nil, arith, Option, None}
use Rattle.std.specs.Prelude.{flat_map, IsTrue, bytes_eq}
use Rattle.std.specs.List.{AllByRecursion}
use Rattle.std.proofs.lemmas.Slice.Eq.{bytes_eq-Decides}
use Rattle.std.proofs.lemmas.List.{length-append, nil_from_length}
use Rattle.szg_file.specs.declared.fault.Reason.{Reason}
use Rattle.szg_file.specs.declared.fault.Reason.TheVariants as reason
use Rattle.szg_values.specs.declared.Kind.{Kind}
use Rattle.szg_values.specs.declared.Kind.TheVariants.{Wdl, Dtz}
use Rattle.szg_file.specs.Format.{Format, means, field, placed, good, verdict, ◌>>=◌, ◌>>◌}
use Rattle.szg_values.specs.Material.{Sides, has_pawns, man_codes}
use Rattle.szg_count.specs.Groups.{order_fault}
use Rattle.szg_count.specs.declared.OrderFault.{OrderFault}
use Rattle.szg_file.specs.Contents.{Contents, Part, bytes_of, has_bit, side_numbers, order_bytes, order_of}
use Rattle.szg_file.specs.File.{file, demand, each, number_field, magic_of, magic_field, agrees, split_agrees, byte4_field, order_check, part_checks, part_of_bytes, part_field, byte_where}
use Rattle.szg_file.specs.FileOf.{sections, file_of, fill_asked, Section, written, queried, joined, part_sections}
use Rattle.szg_file.specs.Accepted.{IsAccepted, AreNumbers, AreBytes, SideBySide, IsPart}
use Rattle.szg_file.proofs.Grammar.FormatLaws.{take_front, drop_front, good-more}
use Rattle.szg_file.specs.Laws.{FileIsGood}
use Rattle.szg_file.proofs.Grammar.FileLaws.{Spells, Spells-then, AreNumbers-join, one_byte, file_from_sections}
use Rattle.szg_file.proofs.Grammar.CompleteLaws.{Text, Complete, requested_front, after_good, complete_field, complete_number, complete_bytes, complete_means, complete_demand}

-- For some value that satisfies `V`, these sections spell an accepted text at any offset.
pub record At {A : Type 0} (f : Format A) (z : List Section) (V : A → Type 0) : Type 0 where
  pub at : (place : ℕ) (supply text : List ℕ) → length text ≡ place → queried text z ≤ length supply → (a : A) × V a × Text f z place a supply

abbrev pub Is : {A : Type 0} → A → A → Type 0
Is a b = b ≡ a

pub at_of : {A : Type 0} (f : Format A) (s : A → List Section) (P : A → Type 0) (a : A) → Complete f s P → P a → At f (s a) (Is a)
at_of f s P a h p = record { at = λ place supply text e enough. (a, refl, h.complete place a supply text p e enough) }

pub at_then : {A B : Type 0} (f : Format A) (g : A → Format B) (x y : List Section) (V : A → Type 0) (W : B → Type 0) →
    At f x V → ((a : A) → V a → At (g a) y W) → At (f >>= g) (x ++ y) W
at_then f g x y V W first second = record {
  at = λ place supply text e enough.
      let p = first.at place supply text e (omega (arith, enough, requested_front text x y)) in
      let c = p.2.spells.counted text y e in
      let total : length supply ≡ length p.2.filled + length p.2.later = ap length p.2.supply_is ∙ length-append p.2.filled p.2.later in
      let q = (second p.0 p.1).at (place + length p.2.bytes) p.2.later c.0 c.1 (omega (arith, c.2, enough, total)) in (
        q.0,
        q.1,
        record {
          bytes = p.2.bytes ++ q.2.bytes;
          filled = p.2.filled ++ q.2.filled;
          later = q.2.later;
          supply_is = p.2.supply_is ∙ ap (λ (w : List ℕ). p.2.filled ++ w) q.2.supply_is ∙ sym (append_assoc p.2.filled q.2.filled q.2.later);
          spells = Spells-then place p.2.bytes q.2.bytes x y p.2.filled q.2.filled p.2.spells q.2.spells;
          is_good = after_good f g place p.2.bytes q.2.bytes p.0 q.0 p.2.filled q.2.filled p.2.is_good q.2.is_good;
        },
      );
}

pub at_next : {A B : Type 0} (f : Format A) (g : A → Format B) (x y : List Section) (a : A) (W : B → Type 0) → At f x (Is a) → At (g a) y W → At (f >>= g) (x ++ y) W
at_next f g x y a W first second = at_then f g x y (Is a) W first (λ b same. subst (λ (c : _). At (g c) y W) (sym same) second)

pub at_means : {A : Type 0} (a : A) → At (means a) [] (Is a)
at_means a = at_of (means a) (λ _. []) (λ b. b ≡ a) a (complete_means a) refl

pub at_demand : (test : Bool) (at : ℕ) (why : Reason) → IsTrue test → At (demand test at why) [] (Is tt)
at_demand test at why h = at_of (demand test at why) (λ _. []) (λ _. IsTrue test) tt (complete_demand test at why) h

pub at_placed : {A : Type 0} (next : ℕ → Format A) (z : List Section) (V : A → Type 0) → ((place : ℕ) → At (next place) z V) → At (placed next) z V
at_placed next z V h = record {
  at = λ place supply text e enough.
      let p = (h place).at place supply text e enough in
      (p.0, p.1, record { bytes = p.2.bytes; filled = p.2.filled; later = p.2.later; supply_is = p.2.supply_is; spells = p.2.spells; is_good = p.2.is_good });
}

-- ---- magic and byte 4

magic_length : (kind : Kind) → length (magic_of kind) ≡ 4
magic_length Wdl = refl
magic_length Dtz = refl

pub at_magic : (kind : Kind) → At (magic_field kind) (written (magic_of kind) ∷ []) (Is tt)
at_magic kind = at_next (field 4 means) (λ bytes. demand (bytes_eq bytes (magic_of kind)) 0 reason.Magic) (written (magic_of kind) ∷ []) [] (magic_of kind) (Is tt)
    (at_of (field 4 means) (λ bytes. written bytes ∷ []) (λ bytes. bytes ≡ magic_of kind) (magic_of kind)
    (complete_field 4 (λ bytes. bytes) (λ bytes. bytes) (λ bytes. bytes ≡ magic_of kind) (λ bytes same. (ap length same ∙ magic_length kind, refl))) refl)
    (at_demand (bytes_eq (magic_of kind) (magic_of kind)) 0 reason.Magic ((bytes_eq-Decides (magic_of kind) (magic_of kind)).1 refl))

pub at_byte : (byte : ℕ) → byte < 256 → At (number_field 1) (written (byte ∷ []) ∷ []) (Is byte)
at_byte byte small = subst (λ (z : List ℕ). At (number_field 1) (written z ∷ []) (Is byte)) (one_byte byte small)
    (at_of (number_field 1) (λ n. written (bytes_of 1 n) ∷ []) (λ n. n < 256 ^ 1) byte (complete_number 1) small)

pub at_byte4 : (material : Sides) (kind : Kind) (byte : ℕ) → byte < 256 → IsTrue (split_agrees material kind byte) → IsTrue (agrees (has_bit 1 byte) (has_pawns material)) →
    At (byte4_field material kind) (written (byte ∷ []) ∷ []) (Is byte)
at_byte4 material kind byte small split pawns =
    at_next (number_field 1) (λ x. demand (split_agrees material kind x) 4 reason.SplitBit >> (demand (agrees (has_bit 1 x) (has_pawns material)) 4 reason.PawnBit >> means x)) (written (byte ∷ []) ∷ []) [] byte (Is byte) (at_byte byte small)
    (at_next (demand (split_agrees material kind byte) 4 reason.SplitBit) (λ _. demand (agrees (has_bit 1 byte) (has_pawns material)) 4 reason.PawnBit >> means byte) [] [] tt (Is byte) (at_demand (split_agrees material kind byte) 4 reason.SplitBit split)
    (at_next (demand (agrees (has_bit 1 byte) (has_pawns material)) 4 reason.PawnBit) (λ _. means byte) [] [] tt (Is byte) (at_demand (agrees (has_bit 1 byte) (has_pawns material)) 4 reason.PawnBit pawns)
    (at_means byte)))

pub at_byte_where : (test : ℕ → Bool) (why : Reason) (byte : ℕ) → byte < 256 → IsTrue (test byte) → At (byte_where test why) (written (byte ∷ []) ∷ []) (Is byte)
at_byte_where test why byte small h =
    at_placed (λ place. number_field 1 >>= λ byte. demand (test byte) place why >> means byte) (written (byte ∷ []) ∷ []) (Is byte)
    (λ place. at_next (number_field 1) (λ byte. demand (test byte) place why >> means byte) (written (byte ∷ []) ∷ []) [] byte (Is byte) (at_byte byte small)
    (at_next (demand (test byte) place why) (λ _. means byte) [] [] tt (Is byte) (at_demand (test byte) place why h) (at_means byte)))

-- each item has its text
pub at_each : {A B : Type 0} (format : A → Format B) (s : B → List Section) (P : A → B → Type 0) → ((a : A) (b : B) → P a b → At (format a) (s b) (Is b)) →
    (xs : List A) (ys : List B) → SideBySide P xs ys → At (each format xs) (flat_map s ys) (Is ys)
at_each format s P one [] [] h = at_means []
at_each format s P one [] (y ∷ ys) h = absurd h
at_each format s P one (x ∷ xs) [] h = absurd h
at_each format s P one (x ∷ xs) (y ∷ ys) h =
    subst (λ (z : List Section). At (each format (x ∷ xs)) (s y ++ z) (Is (y ∷ ys))) (append-nil (flat_map s ys))
    (at_next (format x) (λ b. each format xs >>= λ bs. means (b ∷ bs)) (s y) (flat_map s ys ++ []) y (Is (y ∷ ys)) (one x y h.0)
    (at_next (each format xs) (λ bs. means (y ∷ bs)) (flat_map s ys) [] ys (Is (y ∷ ys)) (at_each format s P one xs ys h.1) (at_means (y ∷ ys))))

at_checks : (material : Sides) (kind : Kind) (place : ℕ) (part : Part) (sides : List ℕ) → AllByRecursion (λ side. order_fault material (order_of side part) ≡ None) sides →
    (ones : List (Unit {0})) × At (each (λ side. order_check place (order_bytes material) (order_fault material (order_of side part))) sides) [] (Is ones)
at_checks material kind place part [] h = ([], at_means [])
at_checks material kind place part (side ∷ sides) h =
    let rest = at_checks material kind place part sides h.1 in
    let format : ℕ → Format (Unit {0}) = λ side. order_check place (order_bytes material) (order_fault material (order_of side part)) in
    let one : At (format side) [] (Is tt) = subst (λ (fault : Option OrderFault). At (order_check place (order_bytes material) fault) [] (Is tt)) (sym h.0) (at_means tt) in (
      tt ∷ rest.0,
      at_next (format side) (λ b. each format sides >>= λ bs. means (b ∷ bs)) [] [] tt (Is (tt ∷ rest.0)) one
          (at_next (each format sides) (λ bs. means (tt ∷ bs)) [] [] rest.0 (Is (tt ∷ rest.0)) rest.1 (at_means (tt ∷ rest.0))),
    )

-- ---- from the sections of the whole file to the law

-- The sections of each accepted table spell an accepted text of it.
abbrev pub SectionsAreGood : Type 0
SectionsAreGood = (t : Contents) (filled : List ℕ) → IsAccepted t filled → At (file t.material t.kind) (sections t) (Is t)

pub file_is_good : SectionsAreGood → FileIsGood
unfolding file_of fill_asked
file_is_good law t filled rest h =
    let long : length filled ≡ queried [] (sections t) = h.fill_fits.0 in
    let p = (law t filled h).at 0 filled [] refl (omega (arith, long)) in
    let x = p.2 in
    let f = file_from_sections x.bytes x.filled (sections t) x.spells in
    let total : length filled ≡ length x.filled + length x.later = ap length x.supply_is ∙ length-append x.filled x.later in
    let none : x.later ≡ [] = nil_from_length x.later (omega (arith, total, long, f.1)) in
    let same : filled ≡ x.filled = x.supply_is ∙ ap (λ (z : List ℕ). x.filled ++ z) none ∙ append-nil x.filled in
    let bytes_are : joined [] (sections t) filled ≡ x.bytes = ap (λ (z : List ℕ). joined [] (sections t) z) same ∙ f.0 in
    ap (λ (z : List ℕ). verdict (file t.material t.kind) 0 (z ++ rest)) bytes_are
    ∙ good-more (file t.material t.kind) 0 x.bytes rest p.0 x.filled [] x.is_good
    ∙ ap (λ (c : Contents). good c x.filled rest) p.1
    ∙ ap (λ (z : List ℕ). good t z rest) (sym same)

-- ---- the parts

abbrev part_with : List ℕ → List ℕ → Part
part_with order men = record { order = order; men = men }

-- other sections with the same text that need no fewer padding bytes
pub at_respelled : {A : Type 0} (f : Format A) (z z' : List Section) (V : A → Type 0) → ((text : List ℕ) → queried text z ≤ queried text z') →
    ((place : ℕ) (bytes filled : List ℕ) → Spells place bytes z filled → Spells place bytes z' filled) → At f z V → At f z' V
at_respelled f z z' V less same h = record {
  at = λ place supply text e enough.
      let p = h.at place supply text e (omega (arith, less text, enough)) in (
        p.0,
        p.1,
        record {
          bytes = p.2.bytes;
          filled = p.2.filled;
          later = p.2.later;
          supply_is = p.2.supply_is;
          is_good = p.2.is_good;
          spells = same place p.2.bytes p.2.filled p.2.spells;
        },
      );
}

-- the text of one section is that of its two halves
at_apart : {A : Type 0} (f : Format A) (x y : List ℕ) (a : A) → At f (written (x ++ y) ∷ []) (Is a) → At f (written x ∷ written y ∷ []) (Is a)
at_apart f x y a =
    at_respelled f (written (x ++ y) ∷ []) (written x ∷ written y ∷ []) (Is a) (λ text. omega arith)
    (λ place bytes filled s. record {
      spelled = λ front more later d. ap (λ (z : List ℕ). joined z more (filled ++ later)) (append_assoc front x y) ∙ s.spelled front more later d;
      counted = λ front more d.
          let c = s.counted front more d in
          let same : queried ((front ++ x) ++ y) more ≡ queried (front ++ (x ++ y)) more = ap (λ (z : List ℕ). queried z more) (append_assoc front x y) in
          (c.0, c.1, omega (arith, c.2, same));
    })

pub at_part : (material : Sides) (kind : Kind) (part : Part) → IsPart material kind part → At (part_field material kind) (part_sections part) (Is part)
at_part material kind part h =
    let bytes : List ℕ = part.order ++ part.men in
    let next : ℕ → List ℕ → Format Part = λ place bytes. part_checks material kind place (part_of_bytes material bytes) >> means (part_of_bytes material bytes) in
    let same : part_of_bytes material bytes ≡ part =
    ap (λ (z : List ℕ). part_with z (drop (order_bytes material) bytes)) (take_front (order_bytes material) part.order part.men h.order.0)
    ∙ ap (λ (z : List ℕ). part_with part.order z) (drop_front (order_bytes material) part.order part.men h.order.0) in
    let long : length bytes ≡ order_bytes material + length (man_codes material) = length-append part.order part.men ∙ omega (arith, h.order.0, h.men.0) in
    let small : AreNumbers 1 bytes = AreNumbers-join 1 part.order part.men h.order.1 h.men.1 in
    at_apart (part_field material kind) part.order part.men part
    (at_placed (λ place. field (order_bytes material + length (man_codes material)) means >>= next place) (written bytes ∷ []) (Is part)
    (λ place.
    let checks = at_checks material kind place part (side_numbers material kind) h.sides in
    let passed : At (part_checks material kind place part) [] (Is tt) =
    at_next (each (λ side. order_check place (order_bytes material) (order_fault material (order_of side part))) (side_numbers material kind)) (λ _. means tt) [] [] checks.0 (Is tt) checks.1 (at_means tt) in
    at_next (field (order_bytes material + length (man_codes material)) means) (next place) (written bytes ∷ []) [] bytes (Is part)
    (at_of (field (order_bytes material + length (man_codes material)) means) (λ b. written b ∷ []) (AreBytes (order_bytes material + length (man_codes material))) bytes (complete_bytes (order_bytes material + length (man_codes material))) (long, small))
    (subst (λ (q : Part). At (part_checks material kind place q >> means q) [] (Is part)) (sym same)
    (at_next (part_checks material kind place part) (λ _. means part) [] [] tt (Is part) passed (at_means part)))))

pub at_parts : (material : Sides) (kind : Kind) (numbers : List ℕ) (parts : List Part) → SideBySide (λ (_ : ℕ). IsPart material kind) numbers parts → At (each (λ _. part_field material kind) numbers) (flat_map part_sections parts) (Is parts)
at_parts material kind numbers parts h = at_each (λ _. part_field material kind) part_sections (λ _. IsPart material kind) (λ _. at_part material kind) numbers parts h
