-- The text of a dump is read back as that dump, in both forms.
use Rattle.std.proofs.Common.{◌≡◌, ℕ, zero, suc, ◌+◌, ◌-◌, ◌*◌, ◌^◌, ◌<◌, ◌≤◌, List, [], ◌∷◌, ◌++◌, length, map, replicate, get_or, refl, sym, ap, subst, ◌∙◌, arith, inl, inr, Option, Some, None}
use Rattle.std.specs.Prelude.{◌==◌, Bool, true, false, if◌then◌else◌, codes, slice_index, option_map, Ok}
use Rattle.std.specs.List.{flat_map, AllByRecursion}
use Rattle.std.specs.Fmt.{decimal, digits}
use Rattle.std.proofs.lemmas.Bool.{eq-eqb, le-leb, leb-true, and_parts}
use Rattle.std.proofs.lemmas.List.{length-map, length-append}
use Rattle.hex.specs.Hex.{encode_lower}
use Rattle.szg_values.specs.Men.{letter_of}
use Rattle.szg_values.specs.Material.{Sides, name_of, parsed, IsMaterial, is_symmetric}
use Rattle.szg_values.proofs.Names.{accepted}
use Rattle.szg_values.specs.declared.Kind.{Kind}
use Rattle.szg_values.specs.declared.Kind.TheVariants.{Wdl, Dtz}
use Rattle.szg_file.specs.Contents.{Part, Map, narrow, wide, has_bit, side_numbers}
use Rattle.szg_file.specs.Accepted.{SideBySide, AreNumbers}
use Rattle.szg_build.specs.declared.dump.DumpFault.TheVariants.{Version, Field, Number, Hex, Name, Run}
use Rattle.szg_build.specs.Dump.{Dump, SubDump, parts_of, subtable_ids_of, subs_of, dump_of_subs}
use Rattle.szg_build.specs.Text.{Form, single, runs, form_number, with_value, runs_of, part_word, kind_word, part_lines, map_list_lines, map_lines, flags_lines, value_lines, values_lines as values_text, sub_lines, flat_map_beside, dump_lines, dump_text, lines_text}
use Rattle.szg_build.specs.Lines.{Lines, means, line_ends, verdict, good, ended, ◌>>=◌, ◌>>◌}
use Rattle.szg_build.specs.Grammar.{Word, fixed, value, values_in, or_fault, line_of, number_in, bytes_in, number_at, bytes_at, number_line, repeated, each, greatest_count, greatest_item, form_in, version_line, material_in, name_line, kind_in, kind_line, bytes_of_length, end_line, part_line, map_list, list_numbers, map_of, flags_line, positive, fitting_run, run_line, run_values, values_lines, order_check, length_check, subtable_format, subtables_format, dump_with}
use Rattle.szg_build.specs.Laws.{AreUpTo, AreMapLists, IsMapReadBack, AreFlagsReadBack, IsSized, IsSubtableReadBack, AreSubtablesReadBack, IsPartReadBack, IsReadBack, TextIsRead, CutTextIsEnded, OneTextOneDump}
use Rattle.szg_build.proofs.Texts.LinesLaws.{bool_cases, continued, verdict-then, cut_anywhere, ended_line}
use Rattle.szg_build.proofs.Texts.Spelled.{IsLine, IsReadAs, lines_following, read_nothing, read_line, read_then, read_some}
use Rattle.szg_build.proofs.Texts.Words.{bytes_eq-same, clean_decimal, short_decimal, clean_word, clean_name, clean_part_word, number_in-decimal, bytes_in-encode, clean_encode, length-encode, a_line}
use Rattle.szg_build.proofs.Texts.Runs.{run_list, run_total, with_value-same, with_value-other, values-runs_of, run_total-runs_of}

-- ---- the words of a line

fixed_word : (text : List ℕ) (pattern : List Word) (words values : List (List ℕ)) → values_in pattern words ≡ Some values → values_in (fixed text ∷ pattern) (text ∷ words) ≡ Some values
fixed_word text pattern words values e = rw (bytes_eq-same text) e

value_word : (word : List ℕ) (pattern : List Word) (words values : List (List ℕ)) → values_in pattern words ≡ Some values → values_in (value ∷ pattern) (word ∷ words) ≡ Some (word ∷ values)
value_word word pattern words values e = ap (option_map (λ z. word ∷ z)) e

read_line_of : (pattern : List Word) (word : List ℕ) (words values : List (List ℕ)) → values_in pattern (word ∷ words) ≡ Some values → IsLine word words →
    IsReadAs (line_of pattern) ((word ∷ words) ∷ []) values
read_line_of pattern word words values e fits =
    read_line (λ z. or_fault Field (values_in pattern z)) word words [] values fits (read_some Field (values_in pattern (word ∷ words)) values e)

-- a text with a function applied to its meaning
read_last : {A B : Type 0} (f : Lines A) (h : A → B) (lines : List (List (List ℕ))) (a : A) → IsReadAs f lines a → IsReadAs (f >>= λ x. means (h x)) lines (h a)
read_last f h lines a first = record {
  stated = λ count rest. verdict-then f (λ x. means (h x)) count (lines_text lines ++ rest) ∙ ap (continued (λ x. means (h x))) (first.stated count rest);
}

read_number_line : (pattern : List Word) (word : List ℕ) (words : List (List ℕ)) (limit n : ℕ) → values_in pattern (word ∷ words) ≡ Some (decimal n ∷ []) → IsLine word words →
    n ≤ limit → n < 2 ^ 64 → IsReadAs (number_line pattern limit) ((word ∷ words) ∷ []) n
read_number_line pattern word words limit n e fits le small =
    read_then (line_of pattern) (λ values. number_at values 0 limit) ((word ∷ words) ∷ []) [] (decimal n ∷ []) n
    (read_line_of pattern word words (decimal n ∷ []) e fits)
    (read_some Number (number_in limit (decimal n)) n (number_in-decimal limit n le small))

-- a line that is one number
read_item : (limit n : ℕ) → n ≤ limit → limit < 2 ^ 64 → IsReadAs (number_line (value ∷ []) limit) ((decimal n ∷ []) ∷ []) n
read_item limit n le small =
    let below : n < 2 ^ 64 = omega (arith, le, small) in
    let short : length (decimal n) ≤ 20 = short_decimal n below in
    read_number_line (value ∷ []) (decimal n) [] limit n refl (a_line (decimal n) [] (clean_decimal n below) tt (omega (arith, short))) le below

read_items : (limit : ℕ) (values : List ℕ) → limit < 2 ^ 64 → AreUpTo limit values →
    IsReadAs (repeated (length values) (number_line (value ∷ []) limit)) (map (λ v. decimal v ∷ []) values) values
read_items limit [] small h = read_nothing []
read_items limit (v ∷ values) small h =
    read_then (number_line (value ∷ []) limit) (λ x. repeated (length values) (number_line (value ∷ []) limit) >>= λ xs. means (x ∷ xs))
    ((decimal v ∷ []) ∷ []) (map (λ w. decimal w ∷ []) values) v (v ∷ values)
    (read_item limit v h.0 small)
    (read_last (repeated (length values) (number_line (value ∷ []) limit)) (λ xs. v ∷ xs) (map (λ w. decimal w ∷ []) values) values (read_items limit values small h.1))

-- ---- items of two lists side by side

read_beside : {A B : Type 0} (f : A → Lines B) (lines : A → B → List (List (List ℕ))) (P : A → B → Type 0) → ((x : A) (y : B) → P x y → IsReadAs (f x) (lines x y) y) →
    (xs : List A) (ys : List B) → SideBySide P xs ys → IsReadAs (each f xs) (flat_map_beside lines xs ys) ys
read_beside f lines P one [] [] h = read_nothing []
read_beside f lines P one [] (y ∷ ys) h = absurd h
read_beside f lines P one (x ∷ xs) [] h = absurd h
read_beside f lines P one (x ∷ xs) (y ∷ ys) h =
    read_then (f x) (λ z. each f xs >>= λ zs. means (z ∷ zs)) (lines x y) (flat_map_beside lines xs ys) y (y ∷ ys)
    (one x y h.0)
    (read_last (each f xs) (λ zs. y ∷ zs) (flat_map_beside lines xs ys) ys (read_beside f lines P one xs ys h.1))

-- ---- maps

count_limit : (n : ℕ) → n ≤ greatest_count → n < 2 ^ 64
count_limit n le = omega (arith, le)

-- list j of a map (the numbers of the four lists are small)
read_map_list : (greatest : ℕ) → greatest < 2 ^ 64 → (j : ℕ) → j < 4 → (list : List ℕ) → length list ≤ greatest_count → AreUpTo greatest list →
    IsReadAs (map_list greatest j) (map_list_lines j list) list
read_map_list greatest small j four list le h =
    let below : length list < 2 ^ 64 = count_limit (length list) le in
    let j_below : j < 2 ^ 64 = omega (arith, four) in
    let short : length (decimal (length list)) ≤ 20 = short_decimal (length list) below in
    let short_j : length (decimal j) ≤ 20 = short_decimal j j_below in
    read_then (number_line (fixed (codes "map") ∷ fixed (decimal j) ∷ value ∷ []) greatest_count) (λ count. repeated count (number_line (value ∷ []) greatest))
    ((codes "map" ∷ decimal j ∷ decimal (length list) ∷ []) ∷ []) (map (λ v. decimal v ∷ []) list) (length list) list
    (read_number_line (fixed (codes "map") ∷ fixed (decimal j) ∷ value ∷ []) (codes "map") (decimal j ∷ decimal (length list) ∷ []) greatest_count (length list)
    (fixed_word (codes "map") (fixed (decimal j) ∷ value ∷ []) (decimal j ∷ decimal (length list) ∷ []) (decimal (length list) ∷ [])
    (fixed_word (decimal j) (value ∷ []) (decimal (length list) ∷ []) (decimal (length list) ∷ []) refl))
    (a_line (codes "map") (decimal j ∷ decimal (length list) ∷ []) (clean_word (codes "map") refl) (clean_decimal j j_below, (clean_decimal (length list) below, tt)) (omega (arith, short, short_j)))
    le below)
    (read_items greatest list small h)

numbered : (greatest : ℕ) (lists : List (List ℕ)) → AreMapLists greatest lists → SideBySide (λ j list. (j < 4) × (length list ≤ greatest_count) × AreUpTo greatest list) list_numbers lists
numbered greatest [] h = absurd h
numbered greatest (a ∷ []) h = absurd h.1
numbered greatest (a ∷ b ∷ []) h = absurd h.1.1
numbered greatest (a ∷ b ∷ c ∷ []) h = absurd h.1.1.1
numbered greatest (a ∷ b ∷ c ∷ d ∷ []) h =
    ((omega arith, h.0.0, h.0.1), ((omega arith, h.1.0.0, h.1.0.1), ((omega arith, h.1.1.0.0, h.1.1.0.1), ((omega arith, h.1.1.1.0.0, h.1.1.1.0.1), tt))))
numbered greatest (a ∷ b ∷ c ∷ d ∷ e ∷ more) h = absurd h.1.1.1.1

read_map_lists : (greatest : ℕ) (lists : List (List ℕ)) → greatest < 2 ^ 64 → AreMapLists greatest lists → IsReadAs (each (map_list greatest) list_numbers) (flat_map_beside map_list_lines list_numbers lists) lists
read_map_lists greatest lists small h =
    read_beside (map_list greatest) map_list_lines (λ j list. (j < 4) × (length list ≤ greatest_count) × AreUpTo greatest list)
    (λ j list p. read_map_list greatest small j p.0 list p.1 p.2) list_numbers lists (numbered greatest lists h)

read_map : (flags : ℕ) (lists : Option Map) → IsMapReadBack flags lists → IsReadAs (map_of (has_bit 1 flags) (has_bit 4 flags)) (map_lines lists) lists
read_map flags None h = rw (h, map_of) (read_nothing None)
read_map flags (Some (narrow lists)) h =
    rw (h.0, h.1, map_of) (read_last (each (map_list 255) list_numbers) (λ z. Some (narrow z)) (flat_map_beside map_list_lines list_numbers lists) lists (read_map_lists 255 lists (omega arith) h.2))
read_map flags (Some (wide lists)) h =
    rw (h.0, h.1, map_of) (read_last (each (map_list greatest_item) list_numbers) (λ z. Some (wide z)) (flat_map_beside map_list_lines list_numbers lists) lists (read_map_lists greatest_item lists (omega arith) h.2))

-- ---- runs

positive-decimal : (n : ℕ) → 0 < n → n ≤ greatest_count → positive (number_in greatest_count (decimal n)) ≡ Some n
positive-decimal zero some le = absurd (omega (arith, some))
positive-decimal (suc n) some le = ap positive (number_in-decimal greatest_count (suc n) le (count_limit (suc n) le))

fitting : (left n v : ℕ) → n ≤ left → fitting_run left (n, v) ≡ Some (n, v)
fitting left n v le = rw (le-leb n left le) refl

read_run : (left n v : ℕ) → 0 < n → n ≤ left → n ≤ greatest_count → v ≤ greatest_item → IsReadAs (run_line left) ((decimal n ∷ decimal v ∷ []) ∷ []) (n, v)
read_run left n v some le count small =
    let below : n < 2 ^ 64 = count_limit n count in
    let below_v : v < 2 ^ 64 = omega (arith, small) in
    let short : length (decimal n) ≤ 20 = short_decimal n below in
    let short_v : length (decimal v) ≤ 20 = short_decimal v below_v in
    read_then (line_of (value ∷ value ∷ []))
    (λ values. or_fault Number (positive (number_in greatest_count (get_or values 0 []))) >>= λ c. number_at values 1 greatest_item >>= λ w. or_fault Run (fitting_run left (c, w)))
    ((decimal n ∷ decimal v ∷ []) ∷ []) [] (decimal n ∷ decimal v ∷ []) (n, v)
    (read_line_of (value ∷ value ∷ []) (decimal n) (decimal v ∷ []) (decimal n ∷ decimal v ∷ []) refl
    (a_line (decimal n) (decimal v ∷ []) (clean_decimal n below) (clean_decimal v below_v, tt) (omega (arith, short, short_v))))
    (read_then (or_fault Number (positive (number_in greatest_count (decimal n)))) (λ c. or_fault Number (number_in greatest_item (decimal v)) >>= λ w. or_fault Run (fitting_run left (c, w)))
    [] [] n (n, v)
    (read_some Number (positive (number_in greatest_count (decimal n))) n (positive-decimal n some count))
    (read_then (or_fault Number (number_in greatest_item (decimal v))) (λ w. or_fault Run (fitting_run left (n, w))) [] [] v (n, v)
    (read_some Number (number_in greatest_item (decimal v)) v (number_in-decimal greatest_item v small below_v))
    (read_some Run (fitting_run left (n, v)) (n, v) (fitting left n v le))))

-- runs of values that are small enough
abbrev pub AreRuns : List (ℕ × ℕ) → Type 0
AreRuns found = AllByRecursion (λ run. (0 < run.0) × (run.1 ≤ greatest_item)) found

none_left : (most : ℕ) → run_values most 0 ≡ means []
none_left zero = refl
none_left (suc most) = refl

-- Runs with `left` values in all are read as their values; they need not be maximal.
pub read_runs : (most left : ℕ) (found : List (ℕ × ℕ)) → AreRuns found → run_total found ≡ left → left ≤ most → left ≤ greatest_count →
    IsReadAs (run_values most left) (map (λ run. decimal run.0 ∷ decimal run.1 ∷ []) found) (flat_map run_list found)
read_runs most zero [] h e le count = subst (λ f. IsReadAs f [] []) (sym (none_left most)) (read_nothing [])
read_runs most (suc left) [] h e le count = absurd (omega (arith, e))
read_runs most zero (run ∷ found) h e le count = let some : 0 < run.0 = h.0.0 in absurd (omega (arith, e, some))
read_runs zero (suc left) (run ∷ found) h e le count = absurd (omega (arith, le))
read_runs (suc most) (suc left) (run ∷ found) h e le count =
    let some : 0 < run.0 = h.0.0 in
    read_then (run_line (suc left)) (λ r. run_values most (suc left - r.0) >>= λ values. means (replicate r.0 r.1 ++ values))
    ((decimal run.0 ∷ decimal run.1 ∷ []) ∷ []) (map (λ r. decimal r.0 ∷ decimal r.1 ∷ []) found) run (flat_map run_list (run ∷ found))
    (read_run (suc left) run.0 run.1 some (omega (arith, e)) (omega (arith, e, count)) h.0.1)
    (read_last (run_values most (suc left - run.0)) (λ values. replicate run.0 run.1 ++ values) (map (λ r. decimal r.0 ∷ decimal r.1 ∷ []) found) (flat_map run_list found)
    (read_runs most (suc left - run.0) found h.1 (omega (arith, e)) (omega (arith, e, le, some)) (omega (arith, e, count))))

small_with_value : (v : ℕ) (found : List (ℕ × ℕ)) → v ≤ greatest_item → AreRuns found → AreRuns (with_value v found)
small_with_value v [] le h = ((omega arith, le), tt)
small_with_value v ((count, w) ∷ others) le h =
    elim (bool_cases (v == w)) [
      | inl e ↦ subst (λ z. AreRuns z) (sym (with_value-same v count w others e)) ((omega arith, h.0.1), h.1)
      | inr e ↦ subst (λ z. AreRuns z) (sym (with_value-other v count w others e)) ((omega arith, le), h)
    ]

small_runs : (values : List ℕ) → AreUpTo greatest_item values → AreRuns (runs_of values)
small_runs [] h = tt
small_runs (v ∷ values) h = small_with_value v (runs_of values) h.0 (small_runs values h.1)

read_values : (form : Form) (values : List ℕ) → length values ≤ greatest_count → AreUpTo greatest_item values → IsReadAs (values_lines form (length values)) (value_lines form values) values
read_values single values le h = read_items greatest_item values (omega arith) h
read_values runs values le h =
    subst (λ z. IsReadAs (run_values (length values) (length values)) (map (λ run. decimal run.0 ∷ decimal run.1 ∷ []) (runs_of values)) z) (values-runs_of values)
    (read_runs (length values) (length values) (runs_of values) (small_runs values h) (run_total-runs_of values) (omega arith) le)

-- ---- a subtable

order_passes : (form : Form) (sizes : Option (List ℕ)) (s count : ℕ) → IsSized form sizes s count → order_check form sizes ≡ means tt
order_passes single sizes s count h = refl
order_passes runs None s count h = absurd h
order_passes runs (Some sizes) s count h = refl

length_passes : (form : Form) (sizes : Option (List ℕ)) (s count : ℕ) → IsSized form sizes s count → length_check form sizes s count ≡ means tt
length_passes single sizes s count h = refl
length_passes runs None s count h = absurd h
length_passes runs (Some sizes) s count h = rw (eq-eqb (slice_index sizes s) count h) refl

passed : (f : Lines (Unit {0})) → f ≡ means tt → IsReadAs f [] tt
passed f e = subst (λ z. IsReadAs z [] tt) (sym e) (read_nothing tt)

-- the rest of a subtable's text after flags and map
abbrev pub sub_rest : Form → Option (List ℕ) → ℕ → ℕ → Option Map → Lines SubDump
sub_rest form sizes s flags lists =
    number_line (fixed (codes "values") ∷ value ∷ []) greatest_count >>= λ count.
    length_check form sizes s count >> (values_lines form count >>= λ values. means (record { flags = flags; lists = lists; values = values }))

read_sub_rest : (form : Form) (sizes : Option (List ℕ)) (s flags : ℕ) (lists : Option Map) (values : List ℕ) → length values ≤ greatest_count → AreUpTo greatest_item values →
    IsSized form sizes s (length values) → IsReadAs (sub_rest form sizes s flags lists) (values_text form values) (record { flags = flags; lists = lists; values = values })
read_sub_rest form sizes s flags lists values le h sized =
    let below : length values < 2 ^ 64 = count_limit (length values) le in
    let short : length (decimal (length values)) ≤ 20 = short_decimal (length values) below in
    read_then (number_line (fixed (codes "values") ∷ value ∷ []) greatest_count)
    (λ count. length_check form sizes s count >> (values_lines form count >>= λ found. means (record { flags = flags; lists = lists; values = found })))
    ((codes "values" ∷ decimal (length values) ∷ []) ∷ []) (value_lines form values) (length values) (record { flags = flags; lists = lists; values = values })
    (read_number_line (fixed (codes "values") ∷ value ∷ []) (codes "values") (decimal (length values) ∷ []) greatest_count (length values)
    (fixed_word (codes "values") (value ∷ []) (decimal (length values) ∷ []) (decimal (length values) ∷ []) refl)
    (a_line (codes "values") (decimal (length values) ∷ []) (clean_word (codes "values") refl) (clean_decimal (length values) below, tt) (omega (arith, short)))
    le below)
    (read_then (length_check form sizes s (length values)) (λ z. values_lines form (length values) >>= λ found. means (record { flags = flags; lists = lists; values = found }))
    [] (value_lines form values) tt (record { flags = flags; lists = lists; values = values })
    (passed (length_check form sizes s (length values)) (length_passes form sizes s (length values) sized))
    (read_last (values_lines form (length values)) (λ found. record { flags = flags; lists = lists; values = found }) (value_lines form values) values (read_values form values le h)))

-- the rest of a subtable's text after the line of part and side
abbrev pub sub_after : Form → Kind → Option (List ℕ) → ℕ → Lines SubDump
sub_after form kind sizes s =
    order_check form sizes >> (flags_line kind >>= λ flags. map_of (has_bit 1 flags) (has_bit 4 flags) >>= λ lists. sub_rest form sizes s flags lists)

both : (a a' : ℕ) (b b' : Option Map) → a ≡ a' → b ≡ b' → ◌≡◌ {A = ℕ × Option Map} (a, b) (a', b')
both a a' b b' e f = ap (λ (z : ℕ). (z, b)) e ∙ ap (λ (z : Option Map). (a', z)) f

read_flags_and_rest : (form : Form) (kind : Kind) (sizes : Option (List ℕ)) (s : ℕ) (sub : SubDump) → AreFlagsReadBack kind sub → length sub.values ≤ greatest_count → AreUpTo greatest_item sub.values →
    IsSized form sizes s (length sub.values) →
    IsReadAs (flags_line kind >>= λ flags. map_of (has_bit 1 flags) (has_bit 4 flags) >>= λ lists. sub_rest form sizes s flags lists) (flags_lines kind sub ++ values_text form sub.values) sub
read_flags_and_rest form Wdl sizes s sub stated le h sized =
    let same : record { flags = 0; lists = None; values = sub.values } ≡ sub = ap (λ (z : ℕ × Option Map). record { flags = z.0; lists = z.1; values = sub.values }) (both 0 sub.flags None sub.lists (sym stated.0) (sym stated.1)) in
    subst (λ z. IsReadAs (sub_rest form sizes s 0 None) (values_text form sub.values) z) same (read_sub_rest form sizes s 0 None sub.values le h sized)
read_flags_and_rest form Dtz sizes s sub stated le h sized =
    let small : sub.flags ≤ 31 = stated.0 in
    let below : sub.flags < 2 ^ 64 = omega (arith, small) in
    let short : length (decimal sub.flags) ≤ 20 = short_decimal sub.flags below in
    read_then (number_line (fixed (codes "flags") ∷ value ∷ []) 31) (λ flags. map_of (has_bit 1 flags) (has_bit 4 flags) >>= λ lists. sub_rest form sizes s flags lists)
    ((codes "flags" ∷ decimal sub.flags ∷ []) ∷ []) (map_lines sub.lists ++ values_text form sub.values) sub.flags sub
    (read_number_line (fixed (codes "flags") ∷ value ∷ []) (codes "flags") (decimal sub.flags ∷ []) 31 sub.flags
    (fixed_word (codes "flags") (value ∷ []) (decimal sub.flags ∷ []) (decimal sub.flags ∷ []) refl)
    (a_line (codes "flags") (decimal sub.flags ∷ []) (clean_word (codes "flags") refl) (clean_decimal sub.flags below, tt) (omega (arith, short)))
    small below)
    (read_then (map_of (has_bit 1 sub.flags) (has_bit 4 sub.flags)) (λ lists. sub_rest form sizes s sub.flags lists) (map_lines sub.lists) (values_text form sub.values) sub.lists sub
    (read_map sub.flags sub.lists stated.1)
    (read_sub_rest form sizes s sub.flags sub.lists sub.values le h sized))

read_sub : (form : Form) (kind : Kind) (sizes : Option (List ℕ)) (s : ℕ) (place : ℕ × ℕ) (sub : SubDump) → place.1 < 2 → IsSubtableReadBack form kind sizes s sub →
    IsReadAs (subtable_format form kind sizes s place) (sub_lines form kind place sub) sub
read_sub form kind sizes s place sub side stated =
    let below : place.1 < 2 ^ 64 = omega (arith, side) in
    let short : length (decimal place.1) ≤ 20 = short_decimal place.1 below in
    read_then (line_of (fixed (codes "sub") ∷ fixed (part_word place.0) ∷ fixed (decimal place.1) ∷ [])) (λ z. sub_after form kind sizes s)
    ((codes "sub" ∷ part_word place.0 ∷ decimal place.1 ∷ []) ∷ []) (flags_lines kind sub ++ values_text form sub.values) [] sub
    (read_line_of (fixed (codes "sub") ∷ fixed (part_word place.0) ∷ fixed (decimal place.1) ∷ []) (codes "sub") (part_word place.0 ∷ decimal place.1 ∷ []) []
    (fixed_word (codes "sub") (fixed (part_word place.0) ∷ fixed (decimal place.1) ∷ []) (part_word place.0 ∷ decimal place.1 ∷ []) []
    (fixed_word (part_word place.0) (fixed (decimal place.1) ∷ []) (decimal place.1 ∷ []) [] (fixed_word (decimal place.1) [] [] [] refl)))
    (a_line (codes "sub") (part_word place.0 ∷ decimal place.1 ∷ []) (clean_word (codes "sub") refl) (clean_part_word place.0, (clean_decimal place.1 below, tt)) (omega (arith, short))))
    (read_then (order_check form sizes) (λ z. flags_line kind >>= λ flags. map_of (has_bit 1 flags) (has_bit 4 flags) >>= λ lists. sub_rest form sizes s flags lists)
    [] (flags_lines kind sub ++ values_text form sub.values) tt sub
    (passed (order_check form sizes) (order_passes form sizes s (length sub.values) stated.sized))
    (read_flags_and_rest form kind sizes s sub stated.flags stated.count stated.values stated.sized))

-- sides are numbered 0 and 1
AreSides : List (ℕ × ℕ) → Type 0
AreSides = AllByRecursion (λ place. place.1 < 2)

AreSides-append : (xs ys : List (ℕ × ℕ)) → AreSides xs → AreSides ys → AreSides (xs ++ ys)
unfolding AreSides
AreSides-append [] ys p q = q
AreSides-append (x ∷ xs) ys p q = (p.0, AreSides-append xs ys p.1 q)

sides_of_symmetry : (part : ℕ) (symmetric : Bool) → AreSides (map (λ side. (part, side)) (if symmetric then 0 ∷ [] else 0 ∷ 1 ∷ []))
unfolding AreSides
sides_of_symmetry part true = (omega arith, tt)
sides_of_symmetry part false = (omega arith, (omega arith, tt))

sides_of_part : (material : Sides) (kind : Kind) (part : ℕ) → AreSides (map (λ side. (part, side)) (side_numbers material kind))
sides_of_part material Wdl part = sides_of_symmetry part (is_symmetric material)
sides_of_part material Dtz part = sides_of_symmetry part true

sides_of_parts : (material : Sides) (kind : Kind) (numbers : List ℕ) → AreSides (flat_map (λ part. map (λ side. (part, side)) (side_numbers material kind)) numbers)
unfolding AreSides
sides_of_parts material kind [] = tt
sides_of_parts material kind (part ∷ numbers) =
    AreSides-append (map (λ side. (part, side)) (side_numbers material kind)) (flat_map (λ part. map (λ side. (part, side)) (side_numbers material kind)) numbers)
    (sides_of_part material kind part) (sides_of_parts material kind numbers)

read_subs : (form : Form) (kind : Kind) (sizes : Option (List ℕ)) (s : ℕ) (places : List (ℕ × ℕ)) (subs : List SubDump) → AreSides places → AreSubtablesReadBack form kind sizes s places subs →
    IsReadAs (subtables_format form kind sizes s places) (flat_map_beside (sub_lines form kind) places subs) subs
unfolding AreSides
read_subs form kind sizes s [] [] sides stated = read_nothing []
read_subs form kind sizes s [] (sub ∷ subs) sides stated = absurd stated
read_subs form kind sizes s (place ∷ places) [] sides stated = absurd stated
read_subs form kind sizes s (place ∷ places) (sub ∷ subs) sides stated =
    read_then (subtable_format form kind sizes s place) (λ x. subtables_format form kind sizes (suc s) places >>= λ xs. means (x ∷ xs))
    (sub_lines form kind place sub) (flat_map_beside (sub_lines form kind) places subs) sub (sub ∷ subs)
    (read_sub form kind sizes s place sub sides.0 stated.0)
    (read_last (subtables_format form kind sizes (suc s) places) (λ xs. sub ∷ xs) (flat_map_beside (sub_lines form kind) places subs) subs (read_subs form kind sizes (suc s) places subs sides.1 stated.1))

-- ---- the front

read_version : (form : Form) → IsReadAs version_line ((codes "szg-dump" ∷ decimal (form_number form) ∷ []) ∷ []) form
unfolding digits
read_version single =
    read_then (line_of (fixed (codes "szg-dump") ∷ value ∷ [])) (λ values. or_fault Version (form_in (get_or values 0 [])))
    ((codes "szg-dump" ∷ codes "1" ∷ []) ∷ []) [] (codes "1" ∷ []) single
    (read_line_of (fixed (codes "szg-dump") ∷ value ∷ []) (codes "szg-dump") (codes "1" ∷ []) (codes "1" ∷ []) refl
    (a_line (codes "szg-dump") (codes "1" ∷ []) (clean_word (codes "szg-dump") refl) (clean_word (codes "1") refl, tt) (omega arith)))
    (read_nothing single)
read_version runs =
    read_then (line_of (fixed (codes "szg-dump") ∷ value ∷ [])) (λ values. or_fault Version (form_in (get_or values 0 [])))
    ((codes "szg-dump" ∷ codes "2" ∷ []) ∷ []) [] (codes "2" ∷ []) runs
    (read_line_of (fixed (codes "szg-dump") ∷ value ∷ []) (codes "szg-dump") (codes "2" ∷ []) (codes "2" ∷ []) refl
    (a_line (codes "szg-dump") (codes "2" ∷ []) (clean_word (codes "szg-dump") refl) (clean_word (codes "2") refl, tt) (omega arith)))
    (read_nothing runs)

-- the men of both sides are six at most, so a name has at most seven letters
short_name : (material : Sides) → IsMaterial material → length (name_of material) ≤ 7
short_name material h =
    let few : length material.first + length material.second ≤ 6 = leb-true _ 6 (and_parts _ _ ((and_parts _ _ h).1)).1 in
    let a : length (map letter_of material.first ++ 118 ∷ map letter_of material.second) ≡ length (map letter_of material.first) + length (118 ∷ map letter_of material.second) = length-append (map letter_of material.first) (118 ∷ map letter_of material.second) in
    let b : length (map letter_of material.first) ≡ length material.first = simp length-map in
    let c : length (map letter_of material.second) ≡ length material.second = simp length-map in
    omega (arith, a, b, c, few)

read_name : (material : Sides) → IsMaterial material → IsReadAs name_line ((codes "name" ∷ name_of material ∷ []) ∷ []) material
read_name material h =
    let e : parsed (name_of material) ≡ Ok material = accepted (name_of material) material (refl, h) in
    let short : length (name_of material) ≤ 7 = short_name material h in
    read_then (line_of (fixed (codes "name") ∷ value ∷ [])) (λ values. or_fault Name (material_in (parsed (get_or values 0 []))))
    ((codes "name" ∷ name_of material ∷ []) ∷ []) [] (name_of material ∷ []) material
    (read_line_of (fixed (codes "name") ∷ value ∷ []) (codes "name") (name_of material ∷ []) (name_of material ∷ [])
    (fixed_word (codes "name") (value ∷ []) (name_of material ∷ []) (name_of material ∷ []) refl)
    (a_line (codes "name") (name_of material ∷ []) (clean_word (codes "name") refl) (clean_name material, tt) (omega (arith, short))))
    (read_some Name (material_in (parsed (name_of material))) material (ap material_in e))

read_kind : (kind : Kind) → IsReadAs kind_line ((codes "kind" ∷ kind_word kind ∷ []) ∷ []) kind
read_kind Wdl =
    read_then (line_of (fixed (codes "kind") ∷ value ∷ [])) (λ values. or_fault Field (kind_in (get_or values 0 []))) ((codes "kind" ∷ codes "wdl" ∷ []) ∷ []) [] (codes "wdl" ∷ []) Wdl
    (read_line_of (fixed (codes "kind") ∷ value ∷ []) (codes "kind") (codes "wdl" ∷ []) (codes "wdl" ∷ []) refl
    (a_line (codes "kind") (codes "wdl" ∷ []) (clean_word (codes "kind") refl) (clean_word (codes "wdl") refl, tt) (omega arith)))
    (read_nothing Wdl)
read_kind Dtz =
    read_then (line_of (fixed (codes "kind") ∷ value ∷ [])) (λ values. or_fault Field (kind_in (get_or values 0 []))) ((codes "kind" ∷ codes "dtz" ∷ []) ∷ []) [] (codes "dtz" ∷ []) Dtz
    (read_line_of (fixed (codes "kind") ∷ value ∷ []) (codes "kind") (codes "dtz" ∷ []) (codes "dtz" ∷ []) refl
    (a_line (codes "kind") (codes "dtz" ∷ []) (clean_word (codes "kind") refl) (clean_word (codes "dtz") refl, tt) (omega arith)))
    (read_nothing Dtz)

sixteen : (bytes : List ℕ) → length bytes ≡ 16 → bytes_of_length 16 bytes ≡ Some bytes
sixteen bytes e = rw (eq-eqb (length bytes) 16 e) refl

read_end : (last : List ℕ) → AreNumbers 1 last → length last ≡ 16 → IsReadAs end_line ((codes "end" ∷ encode_lower last ∷ []) ∷ []) last
read_end last h e =
    let long : length (encode_lower last) ≡ 2 * length last = length-encode last in
    read_then (line_of (fixed (codes "end") ∷ value ∷ [])) (λ values. bytes_at values 0 >>= λ bytes. or_fault Hex (bytes_of_length 16 bytes))
    ((codes "end" ∷ encode_lower last ∷ []) ∷ []) [] (encode_lower last ∷ []) last
    (read_line_of (fixed (codes "end") ∷ value ∷ []) (codes "end") (encode_lower last ∷ []) (encode_lower last ∷ [])
    (fixed_word (codes "end") (value ∷ []) (encode_lower last ∷ []) (encode_lower last ∷ []) refl)
    (a_line (codes "end") (encode_lower last ∷ []) (clean_word (codes "end") refl) (clean_encode last h, tt) (omega (arith, long, e))))
    (read_then (or_fault Hex (bytes_in (encode_lower last))) (λ bytes. or_fault Hex (bytes_of_length 16 bytes)) [] [] last last
    (read_some Hex (bytes_in (encode_lower last)) last (bytes_in-encode last h))
    (read_some Hex (bytes_of_length 16 last) last (sixteen last e)))

read_part : (number : ℕ) (part : Part) → IsPartReadBack number part → IsReadAs (part_line number) (part_lines number part) part
read_part number part stated =
    let long : length (encode_lower part.order) ≡ 2 * length part.order = length-encode part.order in
    let long_men : length (encode_lower part.men) ≡ 2 * length part.men = length-encode part.men in
    let short : length part.order + length part.men ≤ 31 = stated.short in
    let words : List (List ℕ) = part_word number ∷ codes "order" ∷ encode_lower part.order ∷ codes "men" ∷ encode_lower part.men ∷ [] in
    let values : List (List ℕ) = encode_lower part.order ∷ encode_lower part.men ∷ [] in
    read_then (line_of (fixed (codes "part") ∷ fixed (part_word number) ∷ fixed (codes "order") ∷ value ∷ fixed (codes "men") ∷ value ∷ []))
    (λ found. bytes_at found 0 >>= λ order. bytes_at found 1 >>= λ men. means (record { order = order; men = men }))
    ((codes "part" ∷ words) ∷ []) [] values part
    (read_line_of (fixed (codes "part") ∷ fixed (part_word number) ∷ fixed (codes "order") ∷ value ∷ fixed (codes "men") ∷ value ∷ []) (codes "part") words values
    (fixed_word (codes "part") (fixed (part_word number) ∷ fixed (codes "order") ∷ value ∷ fixed (codes "men") ∷ value ∷ []) words values
    (fixed_word (part_word number) (fixed (codes "order") ∷ value ∷ fixed (codes "men") ∷ value ∷ []) (codes "order" ∷ encode_lower part.order ∷ codes "men" ∷ encode_lower part.men ∷ []) values refl))
    (a_line (codes "part") words (clean_word (codes "part") refl)
    (clean_part_word number, (clean_word (codes "order") refl, (clean_encode part.order stated.order, (clean_word (codes "men") refl, (clean_encode part.men stated.men, tt)))))
    (omega (arith, long, long_men, short))))
    (read_then (or_fault Hex (bytes_in (encode_lower part.order))) (λ order. or_fault Hex (bytes_in (encode_lower part.men)) >>= λ men. means (record { order = order; men = men })) [] [] part.order part
    (read_some Hex (bytes_in (encode_lower part.order)) part.order (bytes_in-encode part.order stated.order))
    (read_last (or_fault Hex (bytes_in (encode_lower part.men))) (λ men. record { order = part.order; men = men }) [] part.men
    (read_some Hex (bytes_in (encode_lower part.men)) part.men (bytes_in-encode part.men stated.men))))

-- ---- the whole

abbrev pub subs_in : Dump → List SubDump
subs_in dump = subs_of dump.kind dump.flags dump.maps dump.lists

read_dump_lines : (sizes : Sides → Kind → List Part → Option (List ℕ)) (form : Form) (dump : Dump) → IsReadBack form sizes dump →
    IsReadAs (dump_with sizes) (dump_lines form dump) (dump_of_subs dump.material dump.kind dump.parts dump.last (subs_in dump))
unfolding dump_lines
read_dump_lines sizes form dump stated =
    let part_text : List (List (List ℕ)) = flat_map_beside part_lines (parts_of dump.material) dump.parts in
    let sub_texts : List (List (List ℕ)) = flat_map_beside (sub_lines form dump.kind) (subtable_ids_of dump.material dump.kind) (subs_in dump) in
    let whole : Dump = dump_of_subs dump.material dump.kind dump.parts dump.last (subs_in dump) in
    read_then version_line
    (λ f. name_line >>= λ m. kind_line >>= λ k. end_line >>= λ l. each part_line (parts_of m) >>= λ ps. subtables_format f k (sizes m k ps) 0 (subtable_ids_of m k) >>= λ ss. means (dump_of_subs m k ps l ss))
    ((codes "szg-dump" ∷ decimal (form_number form) ∷ []) ∷ [])
    ((codes "name" ∷ name_of dump.material ∷ []) ∷ (codes "kind" ∷ kind_word dump.kind ∷ []) ∷ (codes "end" ∷ encode_lower dump.last ∷ []) ∷ (part_text ++ sub_texts))
    form whole
    (read_version form)
    (read_then name_line
    (λ m. kind_line >>= λ k. end_line >>= λ l. each part_line (parts_of m) >>= λ ps. subtables_format form k (sizes m k ps) 0 (subtable_ids_of m k) >>= λ ss. means (dump_of_subs m k ps l ss))
    ((codes "name" ∷ name_of dump.material ∷ []) ∷ []) ((codes "kind" ∷ kind_word dump.kind ∷ []) ∷ (codes "end" ∷ encode_lower dump.last ∷ []) ∷ (part_text ++ sub_texts)) dump.material whole
    (read_name dump.material stated.material)
    (read_then kind_line
    (λ k. end_line >>= λ l. each part_line (parts_of dump.material) >>= λ ps. subtables_format form k (sizes dump.material k ps) 0 (subtable_ids_of dump.material k) >>= λ ss. means (dump_of_subs dump.material k ps l ss))
    ((codes "kind" ∷ kind_word dump.kind ∷ []) ∷ []) ((codes "end" ∷ encode_lower dump.last ∷ []) ∷ (part_text ++ sub_texts)) dump.kind whole
    (read_kind dump.kind)
    (read_then end_line
    (λ l. each part_line (parts_of dump.material) >>= λ ps. subtables_format form dump.kind (sizes dump.material dump.kind ps) 0 (subtable_ids_of dump.material dump.kind) >>= λ ss. means (dump_of_subs dump.material dump.kind ps l ss))
    ((codes "end" ∷ encode_lower dump.last ∷ []) ∷ []) (part_text ++ sub_texts) dump.last whole
    (read_end dump.last stated.last_bytes stated.last_count)
    (read_then (each part_line (parts_of dump.material))
    (λ ps. subtables_format form dump.kind (sizes dump.material dump.kind ps) 0 (subtable_ids_of dump.material dump.kind) >>= λ ss. means (dump_of_subs dump.material dump.kind ps dump.last ss))
    part_text sub_texts dump.parts whole
    (read_beside part_line part_lines IsPartReadBack read_part (parts_of dump.material) dump.parts stated.parts)
    (read_last (subtables_format form dump.kind (sizes dump.material dump.kind dump.parts) 0 (subtable_ids_of dump.material dump.kind))
    (λ ss. dump_of_subs dump.material dump.kind dump.parts dump.last ss) sub_texts (subs_in dump)
    (read_subs form dump.kind (sizes dump.material dump.kind dump.parts) 0 (subtable_ids_of dump.material dump.kind) (subs_in dump) (sides_of_parts dump.material dump.kind (parts_of dump.material)) stated.subs))))))

lines_following-length : (lines : List (List (List ℕ))) (count : ℕ) → lines_following lines count ≡ count + length lines
lines_following-length [] count = omega arith
lines_following-length (words ∷ lines) count = let inner : lines_following lines (suc count) ≡ suc count + length lines = lines_following-length lines (suc count) in omega (arith, inner)

-- The text of a dump is read back as that dump, whatever follows it.
pub text_is_read : TextIsRead
unfolding dump_text
text_is_read sizes form dump rest stated =
    let e : lines_following (dump_lines form dump) 0 ≡ length (dump_lines form dump) = let f : lines_following (dump_lines form dump) 0 ≡ 0 + length (dump_lines form dump) = lines_following-length (dump_lines form dump) 0 in omega (arith, f) in
    (read_dump_lines sizes form dump stated).stated 0 rest
    ∙ ap (λ (z : ℕ). good (dump_of_subs dump.material dump.kind dump.parts dump.last (subs_in dump)) z rest) e
    ∙ ap (λ (z : Dump). good z (length (dump_lines form dump)) rest) stated.counts

nothing_after : (text : List ℕ) → text ++ [] ≡ text
nothing_after [] = refl
nothing_after (x ∷ text) = ap (λ (z : List ℕ). x ∷ z) (nothing_after text)

-- The text of a dump that is cut anywhere is refused as `Ended`, at the line after the last whole line.
pub cut_text_is_ended : CutTextIsEnded
cut_text_is_ended sizes form dump front byte back stated e =
    let cut = cut_anywhere (dump_with sizes) 0 front byte back dump (length (dump_lines form dump))
    (ap (λ (z : List ℕ). verdict (dump_with sizes) 0 z) (sym e ∙ sym (nothing_after (dump_text form dump))) ∙ text_is_read sizes form dump [] stated) in
    let at : cut.0 ≡ 1 + line_ends front = let line : cut.0 ≡ suc (0 + line_ends front) = ended_line (dump_with sizes) 0 front cut.0 cut.1 in omega (arith, line) in
    cut.1 ∙ ap ended at

-- Two dumps with the same text are equal.
pub one_text_one_dump : OneTextOneDump
one_text_one_dump sizes form form' dump dump' stated stated' e =
    let both_read : good dump (length (dump_lines form dump)) [] ≡ good dump' (length (dump_lines form' dump')) [] =
    sym (text_is_read sizes form dump [] stated) ∙ ap (λ (z : List ℕ). verdict (dump_with sizes) 0 (z ++ [])) e ∙ text_is_read sizes form' dump' [] stated' in
    cc
