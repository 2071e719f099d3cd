-- The least number of bytes of each text of a dump's grammar: one byte for each line.
use Rattle.std.proofs.Common.{◌≡◌, ℕ, zero, suc, ◌+◌, ◌-◌, ◌*◌, ◌<◌, ◌≤◌, List, [], ◌∷◌, ◌++◌, length, drop, length-drop, ap, subst, arith, Option}
use Rattle.std.specs.Prelude.{codes, get_or}
use Rattle.szg_values.specs.Material.{Sides}
use Rattle.szg_values.specs.declared.Kind.{Kind}
use Rattle.szg_file.specs.Contents.{Part, Map, has_bit}
use Rattle.szg_build.specs.Dump.{Dump, SubDump, subtable_ids_of, dump_of_subs}
use Rattle.szg_build.specs.Fronts.{lines_after, sub_line}
use Rattle.szg_build.specs.Text.{Form}
use Rattle.szg_build.specs.Lines.{Lines, means, ◌>>=◌, ◌>>◌}
use Rattle.szg_build.specs.Grammar.{Word, fixed, value, number_line, greatest_count, map_list, map_of, repeated, run_values, values_lines, part_line, order_check, length_check, flags_line, subtable_format, subtables_format}
use Rattle.szg_build.specs.Plan.{sizes_if_valid}
use Rattle.szg_io.specs.declared.device.Input.{Ghosts}
use Rattle.szg_build.specs.declared.reading.incoming.Incoming.{Incoming}
use Rattle.szg_build.specs.Lacks.{LacksLines}
use Rattle.szg_build.specs.Wholes.{dump_after_parts}
use Rattle.szg_build.proofs.Readers.LackLaws.{Uses, Asks, uses_none, uses_line, uses_then, asks_means, asks_line, asks_then, asks_fewer, asks_mapped, lacks_item}
use Rattle.szg_build.proofs.Readers.GoingLaws.{GoesOn}
use Rattle.szg_build.proofs.Readers.WholeLaws.{subs_left, left_of, next_place}

-- ---- lists

pub asks_number : (pattern : List Word) (limit : ℕ) → Asks 1 (number_line pattern limit)
asks_number pattern limit = asks_line (lines_after (number_line pattern limit))

pub asks_repeated : {A : Type 0} (count : ℕ) (f : Lines A) → Asks 1 f → Asks count (repeated count f)
asks_repeated zero f h = asks_means []
asks_repeated (suc count) f h =
    asks_fewer (repeated (suc count) f) (1 + count) (suc count) (omega arith)
    (asks_then f (λ x. repeated count f >>= λ xs. means (x ∷ xs)) 1 count h (λ x. asks_mapped (λ xs. x ∷ xs) (repeated count f) count (asks_repeated count f h)))

pub asks_map_list : (greatest j : ℕ) → Asks 1 (map_list greatest j)
asks_map_list greatest j = asks_line (lines_after (map_list greatest j))

pub asks_part : (number : ℕ) → Asks 1 (part_line number)
asks_part number = asks_line (lines_after (part_line number))

pub asks_runs : (most left : ℕ) → Asks 0 (run_values most left)
asks_runs zero left = asks_means []
asks_runs (suc most) zero = asks_means []
asks_runs (suc most) (suc left) = asks_fewer (run_values (suc most) (suc left)) 1 0 (omega arith) (asks_line (lines_after (run_values (suc most) (suc left))))

-- ---- a subtable

-- what is left of a subtable's text from the line `values` on, after these flags and this map
abbrev pub counted_format : Form → Option (List ℕ) → ℕ → ℕ → Option Map → Lines SubDump
counted_format form sizes s flags lists = do
  count ← number_line (fixed (codes "values") ∷ value ∷ []) greatest_count
  length_check form sizes s count
  values ← values_lines form count
  means (record { flags = flags; lists = lists; values = values })

-- what is left of a subtable's text after the line that names it
abbrev pub fields_format : Form → Kind → Option (List ℕ) → ℕ → Lines SubDump
fields_format form kind sizes s = do
  flags ← flags_line kind
  lists ← map_of (has_bit 1 flags) (has_bit 4 flags)
  counted_format form sizes s flags lists

pub asks_counted : (form : Form) (sizes : Option (List ℕ)) (s flags : ℕ) (lists : Option Map) → Asks 1 (counted_format form sizes s flags lists)
asks_counted form sizes s flags lists = asks_line (lines_after (counted_format form sizes s flags lists))

uses_fields : (form : Form) (kind : Kind) (sizes : Option (List ℕ)) (s : ℕ) → Uses 1 (fields_format form kind sizes s)
uses_fields form kind sizes s =
    uses_then (flags_line kind) (λ flags. map_of (has_bit 1 flags) (has_bit 4 flags) >>= λ lists. counted_format form sizes s flags lists) 0 1 (uses_none (flags_line kind))
    (λ flags. uses_then (map_of (has_bit 1 flags) (has_bit 4 flags)) (λ lists. counted_format form sizes s flags lists) 0 1 (uses_none (map_of (has_bit 1 flags) (has_bit 4 flags)))
    (λ lists. (asks_counted form sizes s flags lists).uses))

uses_sub : (form : Form) (kind : Kind) (sizes : Option (List ℕ)) (s : ℕ) (place : ℕ × ℕ) → Uses 2 (subtable_format form kind sizes s place)
uses_sub form kind sizes s place =
    uses_then (sub_line place) (λ _. order_check form sizes >>= λ _. fields_format form kind sizes s) 1 1 (uses_line (lines_after (sub_line place)))
    (λ _. uses_then (order_check form sizes) (λ _. fields_format form kind sizes s) 0 1 (uses_none (order_check form sizes)) (λ _. uses_fields form kind sizes s))

pub asks_sub : (form : Form) (kind : Kind) (sizes : Option (List ℕ)) (s : ℕ) (place : ℕ × ℕ) → Asks 2 (subtable_format form kind sizes s place)
asks_sub form kind sizes s place = record { is_valid = (asks_line (lines_after (subtable_format form kind sizes s place))).is_valid; uses = uses_sub form kind sizes s place }

pub asks_subs : (form : Form) (kind : Kind) (sizes : Option (List ℕ)) (s : ℕ) (places : List (ℕ × ℕ)) → Asks (2 * length places) (subtables_format form kind sizes s places)
asks_subs form kind sizes s [] = asks_means []
asks_subs form kind sizes s (place ∷ places) =
    asks_fewer (subtables_format form kind sizes s (place ∷ places)) (2 + 2 * length places) (2 * length (place ∷ places)) (omega arith)
    (asks_then (subtable_format form kind sizes s place) (λ sub. subtables_format form kind sizes (suc s) places >>= λ subs. means (sub ∷ subs)) 2 (2 * length places) (asks_sub form kind sizes s place)
    (λ sub. asks_mapped (λ subs. sub ∷ subs) (subtables_format form kind sizes (suc s) places) (2 * length places) (asks_subs form kind sizes (suc s) places)))

pub requests_after_parts : (form : Form) (material : Sides) (kind : Kind) (last : List ℕ) (parts : List Part) → Asks (2 * length (subtable_ids_of material kind)) (dump_after_parts form material kind last parts)
requests_after_parts form material kind last parts =
    asks_mapped (λ subs. dump_of_subs material kind parts last subs) (subtables_format form kind (sizes_if_valid material kind parts) 0 (subtable_ids_of material kind)) (2 * length (subtable_ids_of material kind))
    (asks_subs form kind (sizes_if_valid material kind parts) 0 (subtable_ids_of material kind))

-- the text that is left has at least two bytes for each subtable from s on
pub asks_subs_left : (form : Form) (material : Sides) (kind : Kind) (last : List ℕ) (parts : List Part) (read : List SubDump) (s left : ℕ) → left ≤ 2 * (length (subtable_ids_of material kind) - s) → Asks left (subs_left form material kind last parts read s)
asks_subs_left form material kind last parts read s left few =
    let places = subtable_ids_of material kind in
    asks_fewer (subs_left form material kind last parts read s) (2 * length (drop s places)) left (omega (arith, few, length-drop s places))
    (asks_mapped (λ rest. dump_of_subs material kind parts last (read ++ rest)) (subtables_format form kind (sizes_if_valid material kind parts) s (drop s places)) (2 * length (drop s places)) (asks_subs form kind (sizes_if_valid material kind parts) s (drop s places)))

-- memory is refused in subtable s
pub lacks_subs : {R : Type 0} {f : Lines Dump} (form : Form) (material : Sides) (kind : Kind) (last : List ℕ) (parts : List Part) (read : List SubDump) (s : ℕ) (due : List (ℕ × ℕ)) (sizes : Option (List ℕ)) (wide following : ℕ)
    {o m : Incoming} {dev : Ghosts R} {i j k : R} → s < length due → due ≡ subtable_ids_of material kind → sizes ≡ sizes_if_valid material kind parts → wide ≤ following + 2 * (length due - suc s) →
    GoesOn f (subs_left form material kind last parts read s) o m dev i j → LacksLines (subtable_format form kind sizes s (get_or due s (0, 0))) wide m dev j k → LacksLines f following o dev i k
lacks_subs {f = f} form material kind last parts read s due sizes wide following {o = o} {m = m} {dev = dev} {i = i} {j = j} {k = k} few same e le a lacks =
    let places = subtable_ids_of material kind in
    let place = get_or due s (0, 0) in
    let stated = sizes_if_valid material kind parts in
    lacks_item (subtable_format form kind stated s place) (λ x. subtables_format form kind stated (suc s) (drop (suc s) places) >>= λ xs. means (x ∷ xs)) (λ rest. dump_of_subs material kind parts last (read ++ rest))
    wide following (2 * length (drop (suc s) places)) (omega (arith, le, ap length same, length-drop (suc s) places))
    (λ x. asks_mapped (λ xs. x ∷ xs) (subtables_format form kind stated (suc s) (drop (suc s) places)) (2 * length (drop (suc s) places)) (asks_subs form kind stated (suc s) (drop (suc s) places)))
    (subst (λ (z : List (ℕ × ℕ)). GoesOn f (left_of form material kind last parts read s z) o m dev i j) (next_place due places s few same) a)
    (subst (λ (z : Option (List ℕ)). LacksLines (subtable_format form kind z s place) wide m dev j k) e lacks)
