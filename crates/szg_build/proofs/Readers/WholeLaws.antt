-- Reading the subtables of a dump, one after another.
use Rattle.std.proofs.Common.{◌≡◌, ℕ, suc, ◌<◌, ◌≤◌, List, [], ◌∷◌, ◌++◌, length, map, get_or, drop, drop-cons, drop_of_length-le, refl, sym, ap, subst, ◌∙◌, append_assoc, append-nil, option_map, Option, Some, None, Ok, Err}
use Rattle.std.specs.Prelude.{Result, IfNone, IfSome, IsOk, OnOk}
use Rattle.std.specs.List.{AllByRecursion}
use Rattle.std.proofs.lemmas.List.{map-append}
use Rattle.szg_values.specs.Material.{Sides}
use Rattle.szg_values.specs.declared.Kind.{Kind}
use Rattle.szg_values.specs.declared.Kind.TheVariants.{Wdl, Dtz}
use Rattle.szg_file.specs.Contents.{Part, Map, slots, part_numbers}
use Rattle.szg_file.specs.Held.{map_of}
use Rattle.szg_file.specs.Accepted.{SideBySide, IsPart}
use Rattle.szg_io.specs.declared.device.Input.{Ghosts}
use Rattle.szg_build.specs.declared.reading.incoming.Incoming.{Incoming}
use Rattle.szg_build.specs.declared.dump.DumpReadFault.{DumpReadFault}
use Rattle.szg_build.specs.declared.reading.gathering.Subs.{Subs}
use Rattle.szg_build.specs.declared.reading.subreading.SubText.{SubText}
use Rattle.szg_build.specs.Dump.{Dump, SubDump, parts_of, subtable_ids_of, flags_in, maps_in, dump_of_subs}
use Rattle.szg_build.specs.Plan.{sizes_if_valid}
use Rattle.szg_build.specs.Tabling.{IsOfBytes}
use Rattle.szg_build.specs.Text.{Form}
use Rattle.szg_build.specs.Lines.{Lines, means, ◌>>=◌}
use Rattle.szg_build.specs.Grammar.{dump_format, each, version_line, name_line, kind_line, end_line, part_line, subtable_format, subtables_format}
use Rattle.szg_build.specs.Reading.{ReadsLines}
use Rattle.szg_build.specs.Packed.{lists_in, packed_values, values_held}
use Rattle.szg_build.specs.Wholes.{AreSubs, dump_after_parts, only_in_dtz, subtable_shown}
use Rattle.szg_build.proofs.Readers.GoingLaws.{GoesOn, mapped, goes_here, goes_then, goes_as, goes_step, goes_stopped, goes_ends}
use Rattle.szg_build.proofs.Readers.ReadingLaws.{reads_nothing}
use Rattle.szg_build.proofs.Builders.TableLaws.{sizes_of_parts, no_sizes}

-- ---- the sizes

pub sizes_there : {X : Type 0} (material : Sides) (kind : Kind) (parts : List Part) (view : X → List ℕ) (o : Option X) → AllByRecursion IsOfBytes parts →
    IfNone o (¬ SideBySide (λ _. IsPart material kind) (part_numbers material) parts) → IfSome o (λ _. SideBySide (λ _. IsPart material kind) (part_numbers material) parts) →
    IfSome o (λ x. view x ≡ map (λ slot. slot.size) (slots material kind parts)) → option_map view o ≡ sizes_if_valid material kind parts
sizes_there material kind parts view None bytes none some same = sym (no_sizes material kind parts bytes none)
sizes_there material kind parts view (Some x) bytes none some same = ap Some same ∙ sym (sizes_of_parts material kind parts some)

-- ---- subtables that were read

flags_more : (kind : Kind) (read : List SubDump) (sub : SubText) → flags_in kind read ++ only_in_dtz kind sub.flags ≡ flags_in kind (read ++ subtable_shown sub ∷ [])
flags_more Wdl read sub = refl
flags_more Dtz read sub = sym (map-append (λ s. s.flags) read (subtable_shown sub ∷ []))

maps_more : (kind : Kind) (read : List SubDump) (sub : SubText) → maps_in kind read ++ map (option_map map_of) (only_in_dtz kind sub.map) ≡ maps_in kind (read ++ subtable_shown sub ∷ [])
maps_more Wdl read sub = refl
maps_more Dtz read sub = sym (map-append (λ s. s.lists) read (subtable_shown sub ∷ []))

pub are_more : (kind : Kind) (subs new : Subs) (read : List SubDump) (sub : SubText) → new.flags.items ≡ subs.flags.items ++ only_in_dtz kind sub.flags →
    new.maps.items ≡ subs.maps.items ++ only_in_dtz kind sub.map → lists_in kind new ≡ lists_in kind subs ++ values_held sub.values ∷ [] → AreSubs kind subs read → AreSubs kind new (read ++ subtable_shown sub ∷ [])
are_more kind subs new read sub e e' e'' h = (
  e ∙ ap (λ (z : List ℕ). z ++ only_in_dtz kind sub.flags) h.0 ∙ flags_more kind read sub,
  ap (map (option_map map_of)) e' ∙ map-append (option_map map_of) subs.maps.items (only_in_dtz kind sub.map)
      ∙ ap (λ (z : List (Option Map)). z ++ map (option_map map_of) (only_in_dtz kind sub.map)) h.1 ∙ maps_more kind read sub,
  e'' ∙ ap (λ (z : List (List ℕ)). z ++ values_held sub.values ∷ []) h.2 ∙ sym (map-append (λ s. s.values) read (subtable_shown sub ∷ [])),
)

no_lists : (kind : Kind) (subs : Subs) → subs.packed.items ≡ [] → subs.rest.items ≡ [] → lists_in kind subs ≡ []
no_lists kind subs p r =
    ap (λ z. map (packed_values kind) z ++ map (λ list. list.items) subs.rest.items) p ∙ ap (map (λ list. list.items)) r

pub none_read : (kind : Kind) (subs : Subs) → subs.flags.items ≡ [] → subs.maps.items ≡ [] → subs.packed.items ≡ [] → subs.rest.items ≡ [] → AreSubs kind subs []
none_read Wdl subs e e' p r = (e, ap (map (option_map map_of)) e', no_lists Wdl subs p r)
none_read Dtz subs e e' p r = (e, ap (map (option_map map_of)) e', no_lists Dtz subs p r)

abbrev a_dump : Sides → Kind → List Part → List ℕ → List ℕ → List (Option Map) → List (List ℕ) → Dump
a_dump material kind parts last flags maps lists = record { material = material; kind = kind; parts = parts; flags = flags; maps = maps; last = last; lists = lists }

pub same_dump : (material : Sides) (kind : Kind) (parts : List Part) (last : List ℕ) (subs : Subs) (read : List SubDump) → AreSubs kind subs read →
    a_dump material kind parts last subs.flags.items (map (option_map map_of) subs.maps.items) (lists_in kind subs) ≡ dump_of_subs material kind parts last read
same_dump material kind parts last subs read h =
    ap (λ (z : List ℕ). a_dump material kind parts last z (map (option_map map_of) subs.maps.items) (lists_in kind subs)) h.0
    ∙ ap (λ (z : List (Option Map)). a_dump material kind parts last (flags_in kind read) z (lists_in kind subs)) h.1
    ∙ ap (λ (z : List (List ℕ)). a_dump material kind parts last (flags_in kind read) (maps_in kind read) z) h.2

-- ---- one after another

-- what is left to read from subtable s on, after these subtables
abbrev pub subs_left : Form → Sides → Kind → List ℕ → List Part → List SubDump → ℕ → Lines Dump
subs_left form material kind last parts read s =
    mapped (λ rest. dump_of_subs material kind parts last (read ++ rest)) (subtables_format form kind (sizes_if_valid material kind parts) s (drop s (subtable_ids_of material kind)))

pub subs_begun : {R : Type 0} (form : Form) (material : Sides) (kind : Kind) (last : List ℕ) (parts : List Part) {o : Incoming} {dev : Ghosts R} {i : R} →
    GoesOn (dump_after_parts form material kind last parts) (subs_left form material kind last parts [] 0) o o dev i i
subs_begun form material kind last parts = goes_here (λ count bytes. refl)

abbrev pub left_of : Form → Sides → Kind → List ℕ → List Part → List SubDump → ℕ → List (ℕ × ℕ) → Lines Dump
left_of form material kind last parts read s places =
    mapped (λ rest. dump_of_subs material kind parts last (read ++ rest)) (subtables_format form kind (sizes_if_valid material kind parts) s places)

pub next_place : (due places : List (ℕ × ℕ)) (s : ℕ) → s < length due → due ≡ places → drop s places ≡ get_or due s (0, 0) ∷ drop (suc s) places
next_place due places s few same = subst (λ (z : List (ℕ × ℕ)). drop s z ≡ get_or due s (0, 0) ∷ drop (suc s) z) same (drop-cons due s (0, 0) few)

pub subs_more : {X R : Type 0} {f : Lines Dump} (form : Form) (material : Sides) (kind : Kind) (last : List ℕ) (parts : List Part) (read : List SubDump) (s next : ℕ) (due : List (ℕ × ℕ)) (sizes : Option (List ℕ)) (view : X → SubDump) (v : X)
    {o m n : Incoming} {dev : Ghosts R} {i j k : R} → next ≡ suc s → s < length due → due ≡ subtable_ids_of material kind → sizes ≡ sizes_if_valid material kind parts →
    GoesOn f (subs_left form material kind last parts read s) o m dev i j → ReadsLines (subtable_format form kind sizes s (get_or due s (0, 0))) view m n dev j k (Ok v) →
    GoesOn f (subs_left form material kind last parts (read ++ view v ∷ []) next) o n dev i k
subs_more {f = f} form material kind last parts read s next due sizes view v {o = o} {m = m} {n = n} {dev = dev} {i = i} {j = j} {k = k} after few same e a sub =
    let places = subtable_ids_of material kind in
    let place = get_or due s (0, 0) in
    let stated = sizes_if_valid material kind parts in
    subst (λ (z : ℕ). GoesOn f (subs_left form material kind last parts (read ++ view v ∷ []) z) o n dev i k) (sym after)
    (goes_as f (λ rest. dump_of_subs material kind parts last (read ++ view v ∷ rest)) (λ rest. dump_of_subs material kind parts last ((read ++ view v ∷ []) ++ rest)) (subtables_format form kind stated (suc s) (drop (suc s) places))
    (λ (rest : List SubDump). ap (dump_of_subs material kind parts last) (sym (append_assoc read (view v ∷ []) rest)))
    (goes_then (subst (λ (z : List (ℕ × ℕ)). GoesOn f (left_of form material kind last parts read s z) o m dev i j) (next_place due places s few same) a)
    (goes_step (subtable_format form kind stated s place) (λ _. subtables_format form kind stated (suc s) (drop (suc s) places)) (λ x xs. x ∷ xs) (λ rest. dump_of_subs material kind parts last (read ++ rest)) view v
    (subst (λ (z : Option (List ℕ)). ReadsLines (subtable_format form kind z s place) view m n dev j k (Ok v)) e sub))))

pub subs_stopped : {X Y R : Type 0} {f : Lines Dump} (form : Form) (material : Sides) (kind : Kind) (last : List ℕ) (parts : List Part) (read : List SubDump) (s : ℕ) (due : List (ℕ × ℕ)) (sizes : Option (List ℕ)) (view : X → SubDump) (view' : Y → Dump) (fault : DumpReadFault)
    {o m n n' : Incoming} {dev : Ghosts R} {i j k : R} → s < length due → due ≡ subtable_ids_of material kind → sizes ≡ sizes_if_valid material kind parts →
    GoesOn f (subs_left form material kind last parts read s) o m dev i j → ReadsLines (subtable_format form kind sizes s (get_or due s (0, 0))) view m n dev j k (Err fault) → ReadsLines f view' o n' dev i k (Err fault)
subs_stopped {f = f} form material kind last parts read s due sizes view view' fault {o = o} {m = m} {n = n} {dev = dev} {i = i} {j = j} {k = k} few same e a sub =
    let places = subtable_ids_of material kind in
    let place = get_or due s (0, 0) in
    let stated = sizes_if_valid material kind parts in
    goes_stopped (subtable_format form kind stated s place) (λ x. subtables_format form kind stated (suc s) (drop (suc s) places) >>= λ xs. means (x ∷ xs)) (λ rest. dump_of_subs material kind parts last (read ++ rest)) view view' fault
    (subst (λ (z : List (ℕ × ℕ)). GoesOn f (left_of form material kind last parts read s z) o m dev i j) (next_place due places s few same) a)
    (subst (λ (z : Option (List ℕ)). ReadsLines (subtable_format form kind z s place) view m n dev j k (Err fault)) e sub)

pub subs_ended : {Y R : Type 0} {f : Lines Dump} (form : Form) (material : Sides) (kind : Kind) (last : List ℕ) (parts : List Part) (read : List SubDump) (s : ℕ) (view : Y → Dump) (v : Y) {o m : Incoming} {dev : Ghosts R} {i j : R} →
    length (subtable_ids_of material kind) ≤ s → view v ≡ dump_of_subs material kind parts last read → GoesOn f (subs_left form material kind last parts read s) o m dev i j → ReadsLines f view o m dev i j (Ok v)
subs_ended form material kind last parts read s view v all same a =
    goes_ends view a (reads_nothing (subs_left form material kind last parts read s) view v
    (ap (left_of form material kind last parts read s) (drop_of_length-le (subtable_ids_of material kind) all)
    ∙ ap (λ (z : List SubDump). means (dump_of_subs material kind parts last z)) (append-nil read) ∙ ap means (sym same)))

-- ---- the whole

-- what is left of a dump after the kind
abbrev pub dump_after_kind : Form → Sides → Kind → Lines Dump
dump_after_kind form material kind = do
  last ← end_line
  parts ← each part_line (parts_of material)
  dump_after_parts form material kind last parts

abbrev pub after_form : Form → Lines Dump
after_form form = name_line >>= λ material. kind_line >>= λ kind. dump_after_kind form material kind

pub whole_text : dump_format ≡ (version_line >>= after_form)
unfolding dump_format
whole_text = refl

pub where_parsed : {A : Type 0} (o : Option A) (P : A → Type 0) → ((a : A) → o ≡ Some a → P a) → IfSome o P
where_parsed None P h = tt
where_parsed (Some a) P h = h a refl

pub ok_then : {X E P : Type 0} (r : Result X E) → OnOk r P → IsOk r → P
ok_then (Ok x) h e = h
ok_then (Err fault) h e = absurd cc
