-- The format without the checks of blocks agrees with the format of the file, except for refusals of a block's
-- words.
use Rattle.std.proofs.Common.{◌≡◌, ℕ, zero, suc, ◌+◌, ◌-◌, ◌*◌, ◌^◌, Bool, true, false, List, [], ◌∷◌, ◌++◌, length, take, drop, refl, sym, ap, subst, arith, inl, inr}
use Rattle.std.proofs.lemmas.Bool.{cases_lt}
use Rattle.std.proofs.Common.{Option}
use Rattle.szg_values.specs.declared.Kind.{Kind}
use Rattle.szg_values.specs.Material.{Sides}
use Rattle.szg_block.specs.Layout.{Layout}
use Rattle.szg_block.specs.FirstFault.{spells_needed}
use Rattle.szg_file.specs.declared.fault.Reason.TheVariants as reason
use Rattle.szg_file.specs.Contents.{Contents, Part, Subtable, constant, pairs, Map, layout_of, gap, Slot, slots, part_numbers}
use Rattle.szg_file.specs.File.{Begun, begun, file, each, demand, magic_field, byte4_field, part_field, filled_to, head_field, maps_field, sparse_field, lengths_field, block_field, blocks_from, blocks_of, blocks_field}
use Rattle.szg_file.specs.Format.{Format, means, field, ◌>>=◌, Verdict, good, refused, truncated, after_fill, verdict}
use Rattle.szg_file.specs.Unread.{unread_of, unread_field, unread_file, NotRefused, AgreesButForWords, FrontAgrees}
use Rattle.szg_file.proofs.Grammar.FormatLaws.{verdict-then, continued, field-whole, field-short, fill-whole, fill-short}
use Rattle.szg_file.proofs.Readers.Taken.{two_fields-one}

-- ---- verdicts that agree

abbrev pub Agrees : {A : Type 0} → Format A → Format A → Type 0
Agrees f g = (place : ℕ) (bytes : List ℕ) → AgreesButForWords (verdict f place bytes) (verdict g place bytes)

abbrev pub Passes : {A : Type 0} → Format A → Type 0
Passes f = (place : ℕ) (bytes : List ℕ) → NotRefused (verdict f place bytes)

agrees_same : {A : Type 0} (v : Verdict A) → AgreesButForWords v v
agrees_same (good a filled rest) = refl
agrees_same (refused place why rest) = inl refl
agrees_same (truncated count) = refl

passes_filled : {A : Type 0} (filled : List ℕ) (v : Verdict A) → NotRefused v → NotRefused (after_fill filled v)
passes_filled filled (good a more rest) h = tt
passes_filled filled (refused place why rest) h = absurd h
passes_filled filled (truncated count) h = tt

agrees_filled : {A : Type 0} (filled : List ℕ) (v w : Verdict A) → AgreesButForWords v w → AgreesButForWords (after_fill filled v) (after_fill filled w)
agrees_filled filled (good a more rest) w h = ap (after_fill filled) h
agrees_filled filled (refused place why rest) w h = elim h [
  | inl same ↦ inl (ap (after_fill filled) same)
  | inr word ↦ inr (word.0, passes_filled filled w word.1)
]
agrees_filled filled (truncated count) w h = ap (after_fill filled) h

passes_on : {A B : Type 0} (g : A → Format B) (count : ℕ) (v : Verdict A) → NotRefused v → ((a : A) → Passes (g a)) → NotRefused (continued g count v)
passes_on g count (good a filled rest) h k = passes_filled filled (verdict (g a) (count - length rest) rest) (k a (count - length rest) rest)
passes_on g count (refused place why rest) h k = absurd h
passes_on g count (truncated at) h k = tt

agrees_on : {A B : Type 0} (g k : A → Format B) (count : ℕ) (v w : Verdict A) → AgreesButForWords v w → ((a : A) → Agrees (g a) (k a)) → ((a : A) → Passes (k a)) →
    AgreesButForWords (continued g count v) (continued k count w)
agrees_on g k count (good a filled rest) w h each_agrees each_passes =
    subst (λ (u : Verdict _). AgreesButForWords (continued g count (good a filled rest)) (continued k count u)) (sym h)
    (agrees_filled filled (verdict (g a) (count - length rest) rest) (verdict (k a) (count - length rest) rest) (each_agrees a (count - length rest) rest))
agrees_on g k count (refused place why rest) w h each_agrees each_passes = elim h [
  | inl same ↦ inl (ap (continued k count) same)
  | inr word ↦ inr (word.0, passes_on k count w word.1 each_passes)
]
agrees_on g k count (truncated at) w h each_agrees each_passes = ap (continued k count) h

-- ---- formats that agree

pub agrees_is : {A : Type 0} (f : Format A) → Agrees f f
agrees_is f place bytes = agrees_same (verdict f place bytes)

pub passes_means : {A : Type 0} (a : A) → Passes (means a)
passes_means a place bytes = tt

pub passes_field : {A : Type 0} (size : ℕ) (next : List ℕ → Format A) → ((bytes : List ℕ) → Passes (next bytes)) → Passes (field size next)
passes_field size next h place bytes = elim (cases_lt (length bytes) size) [
  | inl short ↦ subst (λ (v : Verdict _). NotRefused v) (sym (field-short size next place bytes short)) tt
  | inr whole ↦ subst (λ (v : Verdict _). NotRefused v) (sym (field-whole size next place bytes whole)) (h (take size bytes) (place + size) (drop size bytes))
]

pub passes_then : {A B : Type 0} (f : Format A) (g : A → Format B) → Passes f → ((a : A) → Passes (g a)) → Passes (f >>= g)
passes_then f g h k place bytes =
    subst (λ (v : Verdict _). NotRefused v) (sym (verdict-then f g place bytes)) (passes_on g (place + length bytes) (verdict f place bytes) (h place bytes) k)

-- two formats in sequence, where the second ones refuse nothing
pub agrees_then : {A B : Type 0} (f f' : Format A) (g g' : A → Format B) → Agrees f f' → ((a : A) → Agrees (g a) (g' a)) → ((a : A) → Passes (g' a)) → Agrees (f >>= g) (f' >>= g')
agrees_then f f' g g' first next passes place bytes =
    subst (λ (v : Verdict _). AgreesButForWords (verdict (f >>= g) place bytes) v) (sym (verdict-then f' g' place bytes))
    (subst (λ (v : Verdict _). AgreesButForWords v (continued g' (place + length bytes) (verdict f' place bytes))) (sym (verdict-then f g place bytes))
    (agrees_on g g' (place + length bytes) (verdict f place bytes) (verdict f' place bytes) (first place bytes) next passes))

-- the same first format
same_on : {A B : Type 0} (g k : A → Format B) (count : ℕ) (v : Verdict A) → ((a : A) → Agrees (g a) (k a)) → AgreesButForWords (continued g count v) (continued k count v)
same_on g k count (good a filled rest) h = agrees_filled filled (verdict (g a) (count - length rest) rest) (verdict (k a) (count - length rest) rest) (h a (count - length rest) rest)
same_on g k count (refused place why rest) h = inl refl
same_on g k count (truncated at) h = refl

pub agrees_after : {A B : Type 0} (f : Format A) (g g' : A → Format B) → ((a : A) → Agrees (g a) (g' a)) → Agrees (f >>= g) (f >>= g')
agrees_after f g g' next place bytes =
    subst (λ (v : Verdict _). AgreesButForWords (verdict (f >>= g) place bytes) v) (sym (verdict-then f g' place bytes))
    (subst (λ (v : Verdict _). AgreesButForWords v (continued g' (place + length bytes) (verdict f place bytes))) (sym (verdict-then f g place bytes))
    (same_on g g' (place + length bytes) (verdict f place bytes) next))

-- ---- blocks

passes_filled_to : (unit : ℕ) → Passes (filled_to unit)
passes_filled_to unit place bytes = elim (cases_lt (length bytes) (gap unit place)) [
  | inl short ↦ subst (λ (v : Verdict (Unit {0})). NotRefused v) (sym (fill-short (gap unit place) (means tt) place bytes short)) tt
  | inr whole ↦ subst (λ (v : Verdict (Unit {0})). NotRefused v) (sym (fill-whole (gap unit place) (means tt) place bytes whole)) tt
]

-- a block with and without its check
demanded : (b : Bool) (at place : ℕ) (x rest : List ℕ) → AgreesButForWords (verdict (demand b at reason.Word >>= λ _. means x) place rest) (good x [] rest)
demanded true at place x rest = refl
demanded false at place x rest = inr (refl, tt)

agrees_block : (layout : Layout) (size n : ℕ) → Agrees (block_field layout size n) (field (2 ^ layout.block_bits) means)
agrees_block layout size n place bytes =
    let w : ℕ = 2 ^ layout.block_bits in
    let next : List ℕ → Format (List ℕ) = λ x. demand (spells_needed layout size n x) place reason.Word >>= λ _. means x in
    elim (cases_lt (length bytes) w) [
      | inl short ↦
          subst (λ (v : Verdict (List ℕ)). AgreesButForWords (verdict (field w next) place bytes) v) (sym (field-short w means place bytes short))
          (subst (λ (v : Verdict (List ℕ)). AgreesButForWords v (truncated (place + length bytes))) (sym (field-short w next place bytes short)) refl)
      | inr whole ↦
          subst (λ (v : Verdict (List ℕ)). AgreesButForWords (verdict (field w next) place bytes) v) (sym (field-whole w means place bytes whole))
          (subst (λ (v : Verdict (List ℕ)). AgreesButForWords v (good (take w bytes) [] (drop w bytes))) (sym (field-whole w next place bytes whole))
          (demanded (spells_needed layout size n (take w bytes)) place (place + w) (take w bytes) (drop w bytes)))
    ]

agrees_blocks : (layout : Layout) (size n count : ℕ) → Agrees (blocks_from layout size n count) (field (count * 2 ^ layout.block_bits) means)
agrees_blocks layout size n zero place bytes =
    let none : 0 ≡ 0 * 2 ^ layout.block_bits = omega arith in
    subst (λ (k : ℕ). AgreesButForWords (good [] [] bytes) (verdict (field k means) place bytes)) none (field-whole 0 means place bytes (omega arith))
agrees_blocks layout size n (suc count) place bytes =
    let w : ℕ = 2 ^ layout.block_bits in
    let m : ℕ = count * w in
    let more : w + m ≡ suc count * w = omega arith in
    let parted : AgreesButForWords (verdict (blocks_from layout size n (suc count)) place bytes) (verdict (field w (λ x. field m (λ more. means (x ++ more)))) place bytes) =
    agrees_then (block_field layout size n) (field w means) (λ x. blocks_from layout size (n + 1) count >>= λ more. means (x ++ more)) (λ x. field m means >>= λ more. means (x ++ more))
    (agrees_block layout size n)
    (λ x. agrees_then (blocks_from layout size (n + 1) count) (field m means) (λ more. means (x ++ more)) (λ more. means (x ++ more)) (agrees_blocks layout size (n + 1) count)
    (λ more. agrees_is (means (x ++ more))) (λ more. passes_means (x ++ more)))
    (λ x. passes_field m (λ more. means (x ++ more)) (λ more. passes_means (x ++ more))) place bytes in
    subst (λ (k : ℕ). AgreesButForWords (verdict (blocks_from layout size n (suc count)) place bytes) (verdict (field k means) place bytes)) more
    (subst (λ (v : Verdict (List ℕ)). AgreesButForWords (verdict (blocks_from layout size n (suc count)) place bytes) v) (two_fields-one w m place bytes) parted)

agrees_sub : (slot : Slot) (subtable : Subtable) → Agrees (blocks_of slot subtable) (unread_of subtable)
agrees_sub slot (constant flags byte) = agrees_is (means (constant flags byte))
agrees_sub slot (pairs head sparse lengths packed) =
    agrees_after (filled_to 64) (λ _. blocks_from (layout_of head sparse lengths) slot.size 0 head.blocks >>= λ packed. means (pairs head sparse lengths packed))
    (λ _. field (head.blocks * 2 ^ head.block_bits) means >>= λ packed. means (pairs head sparse lengths packed))
    (λ _. agrees_then (blocks_from (layout_of head sparse lengths) slot.size 0 head.blocks) (field (head.blocks * 2 ^ head.block_bits) means)
    (λ packed. means (pairs head sparse lengths packed)) (λ packed. means (pairs head sparse lengths packed)) (agrees_blocks (layout_of head sparse lengths) slot.size 0 head.blocks)
    (λ packed. agrees_is (means (pairs head sparse lengths packed))) (λ packed. passes_means (pairs head sparse lengths packed)))

passes_sub : (subtable : Subtable) → Passes (unread_of subtable)
passes_sub (constant flags byte) = passes_means (constant flags byte)
passes_sub (pairs head sparse lengths packed) =
    passes_then (filled_to 64) (λ _. field (head.blocks * 2 ^ head.block_bits) means >>= λ packed. means (pairs head sparse lengths packed)) (passes_filled_to 64)
    (λ _. passes_field (head.blocks * 2 ^ head.block_bits) (λ packed. means (pairs head sparse lengths packed)) (λ packed. passes_means (pairs head sparse lengths packed)))

passes_subs : (list : List Begun) → Passes (each unread_field list)
passes_subs [] = passes_means {A = List Subtable} []
passes_subs (begun ∷ list) =
    passes_then (unread_field begun) (λ s. each unread_field list >>= λ rest. means (s ∷ rest)) (passes_sub begun.subtable)
    (λ s. passes_then (each unread_field list) (λ rest. means (s ∷ rest)) (passes_subs list) (λ rest. passes_means (s ∷ rest)))

agrees_subs : (list : List Begun) → Agrees (each blocks_field list) (each unread_field list)
agrees_subs [] = agrees_is (means [])
agrees_subs (begun ∷ list) =
    agrees_then (blocks_field begun) (unread_field begun) (λ s. each blocks_field list >>= λ rest. means (s ∷ rest)) (λ s. each unread_field list >>= λ rest. means (s ∷ rest))
    (agrees_sub begun.slot begun.subtable)
    (λ s. agrees_then (each blocks_field list) (each unread_field list) (λ rest. means (s ∷ rest)) (λ rest. means (s ∷ rest)) (agrees_subs list)
    (λ rest. agrees_is (means (s ∷ rest))) (λ rest. passes_means (s ∷ rest)))
    (λ s. passes_then (each unread_field list) (λ rest. means (s ∷ rest)) (passes_subs list) (λ rest. passes_means (s ∷ rest)))

-- ---- the file

module _ (material : Sides) (kind : Kind) (byte : ℕ) (parts : List Part) (found : List (Option Map)) where
  abbrev pub made : List Subtable → List ℕ → Contents
  made subtables last = record { material = material; kind = kind; byte4 = byte; parts = parts; subtables = subtables; maps = found; last = last }

  -- what follows the blocks
  abbrev pub ended : List Subtable → Format Contents
  ended subtables = filled_to 64 >>= λ _. field 16 means >>= λ last. means (made subtables last)

  passes_ended : (subtables : List Subtable) → Passes (ended subtables)
  passes_ended subtables =
      passes_then (filled_to 64) (λ _. field 16 means >>= λ last. means (made subtables last)) (passes_filled_to 64)
      (λ _. passes_field 16 (λ last. means (made subtables last)) (λ last. passes_means (made subtables last)))

  agrees_measured : (measured : List Begun) → Agrees (each blocks_field measured >>= ended) (each unread_field measured >>= ended)
  agrees_measured measured =
      agrees_then (each blocks_field measured) (each unread_field measured) ended ended (agrees_subs measured) (λ subtables. agrees_is (ended subtables)) passes_ended

-- the same as a record, so that the formats are inferred from its type
pub record AgreesWith {A : Type 0} (f g : Format A) : Type 0 where
  pub agrees : Agrees f g

after_same : {A B : Type 0} (f : Format A) (g g' : A → Format B) → ((a : A) → AgreesWith (g a) (g' a)) → AgreesWith (f >>= g) (f >>= g')
after_same f g g' next = record { agrees = agrees_after f g g' (λ a. (next a).agrees) }

files_agree : (material : Sides) (kind : Kind) → AgreesWith (file material kind) (unread_file material kind)
files_agree material kind =
    after_same (magic_field kind) _ _ (λ _.
    after_same (byte4_field material kind) _ _ (λ byte.
    after_same (each (λ _. part_field material kind) (part_numbers material)) _ _ (λ parts.
    after_same (filled_to 2) _ _ (λ _.
    after_same (each head_field (slots material kind parts)) _ _ (λ heads.
    after_same (maps_field kind heads) _ _ (λ found.
    after_same (each sparse_field (begun (slots material kind parts) heads)) _ _ (λ indexed.
    after_same (each lengths_field indexed) (λ measured. each blocks_field measured >>= ended material kind byte parts found) (λ measured. each unread_field measured >>= ended material kind byte parts found) (λ measured.
    record { agrees = agrees_measured material kind byte parts found measured }))))))))

pub front_agrees : FrontAgrees
front_agrees material kind bytes = (files_agree material kind).agrees 0 bytes
