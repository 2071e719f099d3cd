-- The lists of a table that was read are at most as long as the growth that was counted, which is within the bound
-- of the reader state.
use Rattle.std.proofs.Common.{◌≡◌, ℕ, ◌+◌, ◌*◌, ◌≤◌, List, [], length, map, option_map, ap, arith, Ok, Err, Vec, Global}
use Rattle.std.specs.Prelude.{IfOk, Result}
use Rattle.std.proofs.lemmas.List.{length-map}
use Rattle.szg_block.specs.declared.Sub.{Sub}
use Rattle.szg_values.specs.declared.Kind.{Kind}
use Rattle.szg_values.specs.Material.{Sides}
use Rattle.szg_file.specs.declared.begun.Measured.{Measured}
use Rattle.szg_file.specs.declared.fault.ReadFault.{ReadFault}
use Rattle.szg_file.specs.declared.reading.state.ReaderState.{ReaderState}
use Rattle.szg_file.specs.declared.reading.FrontRead.{FrontRead}
use Rattle.szg_file.specs.FrontRead.{front_read}
use Rattle.szg_file.specs.Grown.{HasCounted, begun_lengths, subs_lengths, parts_lengths, maps_lengths}
use Rattle.szg_file.specs.Held.{Shown, file_bytes, part_of, subtable_of, map_of}
use Rattle.szg_file.specs.Grown.{part_length}
use Rattle.szg_file.specs.Unread.{unread_table}
use Rattle.szg_file.specs.WholeRead.{sub_lengths, map_lengths, list_lengths}
use Rattle.szg_file.proofs.Readers.Grown.{sum_shown}

-- the total length of all lists of a file that was read
abbrev pub whole_lengths : FrontRead → List Sub → ℕ
whole_lengths f subs =
    length f.parts.bytes.items + parts_lengths f.parts.bytes.items + 2 * length subs + subs_lengths subs
    + length f.maps.items + maps_lengths f.maps.items

-- the table of a front, subtables and last bytes, with the padding bytes of the reader state
abbrev pub shown_by : Sides → Kind → FrontRead → List Sub → List ℕ → ReaderState → Shown
shown_by m k f subs end state = record { contents = unread_table m k (front_read f) (map subtable_of subs) end; filled = state.fill.items }

pub lists_were_counted : (m : Sides) (k : Kind) (f : FrontRead) (subs : List Sub) (end : List ℕ) (first last : ReaderState) (bytes : List ℕ) →
    first.place ≡ 0 → first.growth ≡ 0 → first.fill.items ≡ [] →
    last.place ≡ first.place + length bytes → bytes ≡ file_bytes (shown_by m k f subs end last) → HasCounted first last 0 (whole_lengths f subs) →
    list_lengths (shown_by m k f subs end last) ≤ 4 * length (file_bytes (shown_by m k f subs end last)) + 65536
lists_were_counted m k f subs end first last bytes place growth fill far whole counted =
    let parts = sum_shown part_length part_of f.parts.bytes.items in
    let shown = sum_shown sub_lengths subtable_of subs in
    let maps = sum_shown map_lengths (option_map map_of) f.maps.items in
    let part_count = length-map f.parts.bytes.items part_of in
    let sub_count = length-map subs subtable_of in
    let map_count = length-map f.maps.items (option_map map_of) in
    let none : length first.fill.items ≡ 0 = ap length fill in
    let long : length bytes ≡ length (file_bytes (shown_by m k f subs end last)) = ap length whole in
    let bound = last.bound in
    omega (arith, counted, parts, shown, maps, part_count, sub_count, map_count, place, growth, none, far, long, bound)

-- lists of subtables that were read one after another
pub lists_counted : (result : Result (Vec Measured Global) ReadFault) (o m n : ReaderState) (before between count : ℕ) → HasCounted o m before (count + between) →
    IfOk result (λ list. HasCounted m n between (length list.items + begun_lengths list.items)) → IfOk result (λ list. length list.items ≡ count) → IfOk result (λ list. HasCounted o n before (2 * length list.items + begun_lengths list.items))
lists_counted (Ok list) o m n before between count first second many = omega (arith, first, second, many)
lists_counted (Err fault) o m n before between count first second many = tt
