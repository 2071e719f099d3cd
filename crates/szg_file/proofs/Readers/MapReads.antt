-- Readers of maps: lists of bytes, four lists in sequence, and the flags that determine a part's map.
use Rattle.std.proofs.Common.{◌≡◌, ℕ, zero, suc, ◌+◌, ◌*◌, Bool, true, false, cond, List, [], ◌∷◌, length, map, take, drop, refl, sym, ap, ◌∙◌, arith, inl, inr, Option, Some, None}
use Rattle.std.specs.Prelude.{Result}
use Rattle.std.proofs.lemmas.Bool.{cases_lt}
use Rattle.std.proofs.lemmas.List.{length-take}
use Rattle.szg_file.specs.declared.reading.state.ReaderState.{ReaderState}
use Rattle.szg_file.specs.declared.fault.ReadFault.{ReadFault}
use Rattle.szg_file.specs.Format.{Format, means, field, good, verdict, ◌>>=◌}
use Rattle.szg_file.specs.Contents.{Map, narrow, wide, Subtable, number_of, items, has_bit}
use Rattle.szg_file.specs.File.{rows_field, filled_to, each, list_field, map_lists, map_field, flags_of}
use Rattle.szg_file.specs.Reading.{Reading}
use Rattle.szg_file.proofs.Grammar.FormatLaws.{field-short, field-whole}
use Rattle.szg_file.proofs.Grammar.EachLaws.{then-then}
use Rattle.szg_io.specs.declared.device.Input.{Ghosts}
use Rattle.szg_file.proofs.Readers.Taken.{reads_like}

-- ---- lists of bytes

-- each byte is a one-byte number
ones : (count : ℕ) (bytes : List ℕ) → length bytes ≡ count → map number_of (items 1 count bytes) ≡ bytes
ones zero [] e = refl
ones zero (x ∷ xs) e = absurd (omega (arith, e))
ones (suc count) [] e = absurd (omega (arith, e))
ones (suc count) (x ∷ xs) e =
    let one : x + 256 * 0 ≡ x = omega arith in
    ap (λ (y : ℕ). y ∷ map number_of (items 1 count xs)) one ∙ ap (λ (ys : List ℕ). x ∷ ys) (ones count xs (omega (arith, e)))

-- the items of a list after its length
abbrev pub list_following : ℕ → ℕ → Format (List ℕ)
list_following size count = rows_field size count >>= λ list. means (map number_of list)

bytes_verdict : (count place : ℕ) (bytes : List ℕ) → verdict (field count means) place bytes ≡ verdict (list_following 1 count) place bytes
bytes_verdict count place bytes =
    let one : 1 * count ≡ count = omega arith in
    elim (cases_lt (length bytes) count) [
      | inl short ↦
          field-short count means place bytes short
          ∙ sym (field-short (1 * count) (λ b. means (map number_of (items 1 count b))) place bytes (omega (arith, short)))
      | inr whole ↦
          let sized : length (take count bytes) ≡ count = omega (arith, length-take count bytes, whole) in
          field-whole count means place bytes whole
          ∙ ap (λ (z : List ℕ). good z [] (drop count bytes)) (sym (ones count (take count bytes) sized))
          ∙ ap (λ (n : ℕ). good (map number_of (items 1 count (take n bytes))) [] (drop n bytes)) (sym one)
          ∙ sym (field-whole (1 * count) (λ b. means (map number_of (items 1 count b))) place bytes (omega (arith, whole)))
    ]

pub reads_bytes : {X R : Type 0} (count : ℕ) (view : X → List ℕ) {o n : ReaderState}
    {dev : Ghosts R} {i j : R} (r : Result X ReadFault) →
    Reading (field count means) view o n dev i j r →
    Reading (list_following 1 count) view o n dev i j r
reads_bytes count view {o = o} r h = reads_like (field count means) (list_following 1 count) view r (λ bytes. bytes_verdict count o.place bytes) h

-- ---- four lists

each_then : {A B C : Type 0} (f : A → Format B) (x : A) (xs : List A) (k : List B → Format C) → each f (x ∷ xs) >>= k ≡ f x >>= (λ y. each f xs >>= λ ys. k (y ∷ ys))
each_then {B = B} {C = C} f x xs k =
    then-then (f x) (λ y. each f xs >>= λ ys. means (y ∷ ys)) k
    ∙ ap (λ (h : B → Format C). f x >>= h) (λ i y. then-then (each f xs) (λ ys. means (y ∷ ys)) k i)

module _ {B : Type 0} (f : Format B) where
  abbrev pub after_three : B → B → B → Format (List B)
  after_three w x y = f >>= λ z. means (w ∷ x ∷ y ∷ z ∷ [])

  abbrev pub after_two : B → B → Format (List B)
  after_two w x = f >>= after_three w x

  abbrev pub after_one : B → Format (List B)
  after_one w = f >>= after_two w

  -- the format of four equal items, step by step
  pub four_steps : each (λ (_ : ℕ). f) (1 ∷ 2 ∷ 3 ∷ 4 ∷ []) ≡ f >>= after_one
  four_steps =
      ap (λ (k : B → Format (List B)). f >>= k)
      (λ i w. (each_then (λ (_ : ℕ). f) 2 (3 ∷ 4 ∷ []) (λ ys. means (w ∷ ys))
      ∙ ap (λ (k : B → Format (List B)). f >>= k)
      (λ i x. (each_then (λ (_ : ℕ). f) 3 (4 ∷ []) (λ ys. means (w ∷ x ∷ ys))
      ∙ ap (λ (k : B → Format (List B)). f >>= k)
      (λ i y. each_then (λ (_ : ℕ). f) 4 [] (λ ys. means (w ∷ x ∷ y ∷ ys)) i)) i)) i)

-- ---- flags

abbrev wide_lists : Format Map
wide_lists = each list_field (2 ∷ 2 ∷ 2 ∷ 2 ∷ []) >>= λ lists. means (wide lists)

abbrev byte_lists : Format Map
byte_lists = each list_field (1 ∷ 1 ∷ 1 ∷ 1 ∷ []) >>= λ lists. means (narrow lists)

wide_after : (flags : ℕ) → has_bit 4 flags ≡ true → map_lists flags ≡ filled_to 2 >>= (λ _. wide_lists)
wide_after flags e = ap (λ (b : Bool). cond b (filled_to 2 >>= (λ _. wide_lists)) byte_lists) e

byte_after : (flags : ℕ) → has_bit 4 flags ≡ false → map_lists flags ≡ byte_lists
byte_after flags e = ap (λ (b : Bool). cond b (filled_to 2 >>= (λ _. wide_lists)) byte_lists) e

abbrev some_map : ℕ → Format (Option Map)
some_map flags = map_lists flags >>= λ lists. means (Some lists)

map_is : (subtable : Subtable) (flags : ℕ) → flags ≡ flags_of subtable → has_bit 1 flags ≡ true → map_field subtable ≡ some_map flags
map_is subtable flags same e =
    ap (λ (n : ℕ). cond (has_bit 1 n) (some_map n) (means None)) (sym same)
    ∙ ap (λ (b : Bool). cond b (some_map flags) (means None)) e

pub no_map_is : (subtable : Subtable) (flags : ℕ) → flags ≡ flags_of subtable → has_bit 1 flags ≡ false → map_field subtable ≡ means None
no_map_is subtable flags same e =
    ap (λ (n : ℕ). cond (has_bit 1 n) (some_map n) (means None)) (sym same)
    ∙ ap (λ (b : Bool). cond b (some_map flags) (means None)) e

-- the rest of a wide map, and a map of bytes
abbrev pub wide_rest : Format (Option Map)
wide_rest = each list_field (2 ∷ 2 ∷ 2 ∷ 2 ∷ []) >>= λ lists. means (Some (wide lists))

pub wide_is : (subtable : Subtable) (flags : ℕ) → flags ≡ flags_of subtable → has_bit 1 flags ≡ true → has_bit 4 flags ≡ true → map_field subtable ≡ filled_to 2 >>= (λ _. wide_rest)
wide_is subtable flags same one four =
    map_is subtable flags same one
    ∙ ap (λ (t : Format Map). t >>= λ lists. means (Some lists)) (wide_after flags four)
    ∙ then-then (filled_to 2) (λ _. wide_lists) (λ lists. means (Some lists))
    ∙ ap (λ (k : Unit {0} → Format (Option Map)). filled_to 2 >>= k) (λ i _. then-then (each list_field (2 ∷ 2 ∷ 2 ∷ 2 ∷ [])) (λ lists. means (wide lists)) (λ lists. means (Some lists)) i)

pub bytes_is : (subtable : Subtable) (flags : ℕ) → flags ≡ flags_of subtable → has_bit 1 flags ≡ true → has_bit 4 flags ≡ false →
    map_field subtable ≡ each list_field (1 ∷ 1 ∷ 1 ∷ 1 ∷ []) >>= (λ lists. means (Some (narrow lists)))
bytes_is subtable flags same one four =
    map_is subtable flags same one
    ∙ ap (λ (t : Format Map). t >>= λ lists. means (Some lists)) (byte_after flags four)
    ∙ then-then (each list_field (1 ∷ 1 ∷ 1 ∷ 1 ∷ [])) (λ lists. means (narrow lists)) (λ lists. means (Some lists))
