-- A subtable's text after its first lines, as it is read.
use Rattle.std.proofs.Common.{◌≡◌, ℕ, ◌+◌, arith, true, false, List, [], ◌∷◌, ap, Option, Ok, Err}
use Rattle.std.specs.Prelude.{Result, codes}
use Rattle.szg_values.specs.declared.Kind.{Kind}
use Rattle.szg_values.specs.declared.Kind.TheVariants.{Dtz}
use Rattle.szg_file.specs.Contents.{Map, has_bit}
use Rattle.szg_io.specs.declared.device.Input.{Ghosts}
use Rattle.szg_build.specs.declared.reading.incoming.Incoming.{Incoming}
use Rattle.szg_build.specs.declared.BuildFault.{BuildFault}
use Rattle.szg_build.specs.declared.dump.DumpReadFault.{DumpReadFault}
use Rattle.szg_build.specs.declared.dump.DumpReadFault.TheVariants.{Build}
use Rattle.szg_build.specs.Dump.{SubDump}
use Rattle.szg_build.specs.Fronts.{sub_line}
use Rattle.szg_build.specs.Text.{Form}
use Rattle.szg_build.specs.Lines.{Lines, means, ◌>>=◌}
use Rattle.szg_build.specs.Grammar.{fixed, value, number_line, greatest_count, demand, order_check, length_check, values_lines, flags_line, map_of, subtable_format}
use Rattle.szg_build.specs.Reading.{ReadsLines}
use Rattle.szg_build.specs.Lacks.{LacksLines}
use Rattle.szg_build.proofs.Readers.ReadingLaws.{reads_as, reads_then, reads_stopped, reads_nothing, reads_unbuilt}
use Rattle.szg_build.proofs.Readers.LackLaws.{lacks_first, lacks_then, lacks_as, asks_means}
use Rattle.szg_build.proofs.Readers.LeastLaws.{counted_format, fields_format, asks_counted}

pub flags_read : {R : Type 0} (kind : Kind) {o n : Incoming} {dev : Ghosts R} {i k : R} {r : Result ℕ DumpReadFault} → kind ≡ Dtz →
    ReadsLines (number_line (fixed (codes "flags") ∷ value ∷ []) 31) (λ (flags : ℕ). flags) o n dev i k r → ReadsLines (flags_line kind) (λ (flags : ℕ). flags) o n dev i k r
flags_read kind e read = reads_as (ap flags_line e) read

-- ---- the values

abbrev count_line : Lines ℕ
count_line = number_line (fixed (codes "values") ∷ value ∷ []) greatest_count

abbrev valued : Form → ℕ → Option Map → ℕ → Lines SubDump
valued form flags lists count = values_lines form count >>= λ values. means (record { flags = flags; lists = lists; values = values })

abbrev following_count : Form → Option (List ℕ) → ℕ → ℕ → Option Map → ℕ → Lines SubDump
following_count form sizes s flags lists count = length_check form sizes s count >>= λ _. valued form flags lists count

pub count_stopped : {Y R : Type 0} (form : Form) (sizes : Option (List ℕ)) (s flags : ℕ) (lists : Option Map) (view : Y → SubDump) (fault : DumpReadFault) {o n n' : Incoming} {dev : Ghosts R} {i k : R} →
    ReadsLines count_line (λ (n : ℕ). n) o n dev i k (Err fault) → ReadsLines (counted_format form sizes s flags lists) view o n' dev i k (Err fault)
count_stopped form sizes s flags lists view fault read = reads_stopped count_line (following_count form sizes s flags lists) (λ (n : ℕ). n) view fault read

pub count_refused : {Y R : Type 0} (form : Form) (sizes : Option (List ℕ)) (s flags : ℕ) (lists : Option Map) (view : Y → SubDump) (count : ℕ) (fault : BuildFault) {o n : Incoming} {dev : Ghosts R} {i k : R} →
    length_check form sizes s count ≡ demand false fault → ReadsLines count_line (λ (n : ℕ). n) o n dev i k (Ok count) → ReadsLines (counted_format form sizes s flags lists) view o n dev i k (Err (Build fault))
count_refused form sizes s flags lists view count fault e read =
    reads_then count_line (following_count form sizes s flags lists) (λ (n : ℕ). n) view count read
    (reads_unbuilt (following_count form sizes s flags lists count) view fault (ap (λ (z : Lines (Unit {0})). z >>= λ _. valued form flags lists count) e))

pub values_after : {Y R : Type 0} (form : Form) (sizes : Option (List ℕ)) (s flags : ℕ) (lists : Option Map) (view : Y → SubDump) (count : ℕ) (fault : BuildFault) {o m n : Incoming} {dev : Ghosts R} {i j k : R} {r : Result Y DumpReadFault} →
    length_check form sizes s count ≡ demand true fault → ReadsLines count_line (λ (n : ℕ). n) o m dev i j (Ok count) → ReadsLines (valued form flags lists count) view m n dev j k r →
    ReadsLines (counted_format form sizes s flags lists) view o n dev i k r
values_after form sizes s flags lists view count fault e read rest =
    reads_then count_line (following_count form sizes s flags lists) (λ (n : ℕ). n) view count read
    (reads_as (ap (λ (z : Lines (Unit {0})). z >>= λ _. valued form flags lists count) e) rest)

pub values_stopped : {X Y R : Type 0} (form : Form) (flags : ℕ) (lists : Option Map) (view : X → List ℕ) (view' : Y → SubDump) (count : ℕ) (fault : DumpReadFault) {o n n' : Incoming} {dev : Ghosts R} {i k : R} →
    ReadsLines (values_lines form count) view o n dev i k (Err fault) → ReadsLines (valued form flags lists count) view' o n' dev i k (Err fault)
values_stopped form flags lists view view' count fault read =
    reads_stopped (values_lines form count) (λ values. means (record { flags = flags; lists = lists; values = values })) view view' fault read

abbrev a_sub : ℕ → Option Map → List ℕ → SubDump
a_sub flags lists values = record { flags = flags; lists = lists; values = values }

pub values_read : {X Y R : Type 0} (form : Form) (flags : ℕ) (lists : Option Map) (view : X → List ℕ) (view' : Y → SubDump) (count : ℕ) (x : X) (y : Y) {o n : Incoming} {dev : Ghosts R} {i k : R} →
    a_sub flags lists (view x) ≡ view' y → ReadsLines (values_lines form count) view o n dev i k (Ok x) → ReadsLines (valued form flags lists count) view' o n dev i k (Ok y)
values_read form flags lists view view' count x y same read =
    reads_then (values_lines form count) (λ values. means (a_sub flags lists values)) view view' x read (reads_nothing (means (a_sub flags lists (view x))) view' y (ap means same))

-- ---- flags and map

abbrev following_flags : Form → Option (List ℕ) → ℕ → ℕ → Lines SubDump
following_flags form sizes s flags = map_of (has_bit 1 flags) (has_bit 4 flags) >>= λ lists. counted_format form sizes s flags lists

pub flags_stopped : {Y R : Type 0} (form : Form) (kind : Kind) (sizes : Option (List ℕ)) (s : ℕ) (view : Y → SubDump) (fault : DumpReadFault) {o n n' : Incoming} {dev : Ghosts R} {i k : R} →
    ReadsLines (flags_line kind) (λ (n : ℕ). n) o n dev i k (Err fault) → ReadsLines (fields_format form kind sizes s) view o n' dev i k (Err fault)
flags_stopped form kind sizes s view fault read = reads_stopped (flags_line kind) (following_flags form sizes s) (λ (n : ℕ). n) view fault read

pub map_stopped : {X Y R : Type 0} (form : Form) (kind : Kind) (sizes : Option (List ℕ)) (s flags : ℕ) (view : X → Option Map) (view' : Y → SubDump) (fault : DumpReadFault) {o m n n' : Incoming} {dev : Ghosts R} {i j k : R} →
    ReadsLines (flags_line kind) (λ (n : ℕ). n) o m dev i j (Ok flags) → ReadsLines (map_of (has_bit 1 flags) (has_bit 4 flags)) view m n dev j k (Err fault) → ReadsLines (fields_format form kind sizes s) view' o n' dev i k (Err fault)
map_stopped form kind sizes s flags view view' fault read second =
    reads_then (flags_line kind) (following_flags form sizes s) (λ (n : ℕ). n) view' flags read
    (reads_stopped (map_of (has_bit 1 flags) (has_bit 4 flags)) (λ lists. counted_format form sizes s flags lists) view view' fault second)

pub fields_read : {X Y R : Type 0} (form : Form) (kind : Kind) (sizes : Option (List ℕ)) (s flags : ℕ) (view : X → Option Map) (x : X) (view' : Y → SubDump) {o m l n : Incoming} {dev : Ghosts R} {i j h k : R} {r : Result Y DumpReadFault} →
    ReadsLines (flags_line kind) (λ (n : ℕ). n) o m dev i j (Ok flags) → ReadsLines (map_of (has_bit 1 flags) (has_bit 4 flags)) view m l dev j h (Ok x) →
    ReadsLines (counted_format form sizes s flags (view x)) view' l n dev h k r → ReadsLines (fields_format form kind sizes s) view' o n dev i k r
fields_read form kind sizes s flags view x view' read second third =
    reads_then (flags_line kind) (following_flags form sizes s) (λ (n : ℕ). n) view' flags read
    (reads_then (map_of (has_bit 1 flags) (has_bit 4 flags)) (λ lists. counted_format form sizes s flags lists) view view' x second third)

-- ---- the line that names it

abbrev after_place : Form → Kind → Option (List ℕ) → ℕ → Lines SubDump
after_place form kind sizes s = order_check form sizes >>= λ _. fields_format form kind sizes s

pub place_stopped : {X Y R : Type 0} (form : Form) (kind : Kind) (sizes : Option (List ℕ)) (s : ℕ) (place : ℕ × ℕ) (view : X → List (List ℕ)) (view' : Y → SubDump) (fault : DumpReadFault) {o n n' : Incoming} {dev : Ghosts R} {i k : R} →
    ReadsLines (sub_line place) view o n dev i k (Err fault) → ReadsLines (subtable_format form kind sizes s place) view' o n' dev i k (Err fault)
place_stopped form kind sizes s place view view' fault read = reads_stopped (sub_line place) (λ _. after_place form kind sizes s) view view' fault read

pub order_refused : {X Y R : Type 0} (form : Form) (kind : Kind) (sizes : Option (List ℕ)) (s : ℕ) (place : ℕ × ℕ) (view : X → List (List ℕ)) (x : X) (view' : Y → SubDump) (fault : BuildFault) {o n : Incoming} {dev : Ghosts R} {i k : R} →
    order_check form sizes ≡ demand false fault → ReadsLines (sub_line place) view o n dev i k (Ok x) → ReadsLines (subtable_format form kind sizes s place) view' o n dev i k (Err (Build fault))
order_refused form kind sizes s place view x view' fault e read =
    reads_then (sub_line place) (λ _. after_place form kind sizes s) view view' x read
    (reads_unbuilt (after_place form kind sizes s) view' fault (ap (λ (z : Lines (Unit {0})). z >>= λ _. fields_format form kind sizes s) e))

pub sub_read : {X Y R : Type 0} (form : Form) (kind : Kind) (sizes : Option (List ℕ)) (s : ℕ) (place : ℕ × ℕ) (view : X → List (List ℕ)) (x : X) (view' : Y → SubDump) (fault : BuildFault) {o m n : Incoming} {dev : Ghosts R} {i j k : R} {r : Result Y DumpReadFault} →
    order_check form sizes ≡ demand true fault → ReadsLines (sub_line place) view o m dev i j (Ok x) → ReadsLines (fields_format form kind sizes s) view' m n dev j k r → ReadsLines (subtable_format form kind sizes s place) view' o n dev i k r
sub_read form kind sizes s place view x view' fault e read rest =
    reads_then (sub_line place) (λ _. after_place form kind sizes s) view view' x read
    (reads_as (ap (λ (z : Lines (Unit {0})). z >>= λ _. fields_format form kind sizes s) e) rest)

-- ---- memory for a longer list is refused

pub values_lack : {R : Type 0} (form : Form) (sizes : Option (List ℕ)) (s flags : ℕ) (lists : Option Map) (count : ℕ) (fault : BuildFault) (following : ℕ) {o m : Incoming} {dev : Ghosts R} {i j k : R} →
    length_check form sizes s count ≡ demand true fault → ReadsLines count_line (λ (n : ℕ). n) o m dev i j (Ok count) → LacksLines (values_lines form count) following m dev j k → LacksLines (counted_format form sizes s flags lists) following o dev i k
values_lack form sizes s flags lists count fault following e read lacks =
    lacks_then count_line (following_count form sizes s flags lists) following (λ (n : ℕ). n) count read
    (lacks_as (ap (λ (z : Lines (Unit {0})). z >>= λ _. valued form flags lists count) e)
    (lacks_first (values_lines form count) (λ values. means (a_sub flags lists values)) following following 0 (omega arith) (λ values. asks_means (a_sub flags lists values)) lacks))

pub map_lacks : {R : Type 0} (form : Form) (kind : Kind) (sizes : Option (List ℕ)) (s flags following : ℕ) {o m : Incoming} {dev : Ghosts R} {i j k : R} →
    ReadsLines (flags_line kind) (λ (n : ℕ). n) o m dev i j (Ok flags) → LacksLines (map_of (has_bit 1 flags) (has_bit 4 flags)) (following + 1) m dev j k → LacksLines (fields_format form kind sizes s) following o dev i k
map_lacks form kind sizes s flags following read lacks =
    lacks_then (flags_line kind) (following_flags form sizes s) following (λ (n : ℕ). n) flags read
    (lacks_first (map_of (has_bit 1 flags) (has_bit 4 flags)) (λ lists. counted_format form sizes s flags lists) (following + 1) following 1 (omega arith) (λ lists. asks_counted form sizes s flags lists) lacks)

pub counted_lacks : {X R : Type 0} (form : Form) (kind : Kind) (sizes : Option (List ℕ)) (s flags : ℕ) (view : X → Option Map) (x : X) (following : ℕ) {o m l : Incoming} {dev : Ghosts R} {i j h k : R} →
    ReadsLines (flags_line kind) (λ (n : ℕ). n) o m dev i j (Ok flags) → ReadsLines (map_of (has_bit 1 flags) (has_bit 4 flags)) view m l dev j h (Ok x) →
    LacksLines (counted_format form sizes s flags (view x)) following l dev h k → LacksLines (fields_format form kind sizes s) following o dev i k
counted_lacks form kind sizes s flags view x following read second lacks =
    lacks_then (flags_line kind) (following_flags form sizes s) following (λ (n : ℕ). n) flags read
    (lacks_then (map_of (has_bit 1 flags) (has_bit 4 flags)) (λ lists. counted_format form sizes s flags lists) following view x second lacks)

pub fields_lack : {X R : Type 0} (form : Form) (kind : Kind) (sizes : Option (List ℕ)) (s : ℕ) (place : ℕ × ℕ) (view : X → List (List ℕ)) (x : X) (fault : BuildFault) (following : ℕ) {o m : Incoming} {dev : Ghosts R} {i j k : R} →
    order_check form sizes ≡ demand true fault → ReadsLines (sub_line place) view o m dev i j (Ok x) → LacksLines (fields_format form kind sizes s) following m dev j k → LacksLines (subtable_format form kind sizes s place) following o dev i k
fields_lack form kind sizes s place view x fault following e read lacks =
    lacks_then (sub_line place) (λ _. after_place form kind sizes s) following view x read
    (lacks_as (ap (λ (z : Lines (Unit {0})). z >>= λ _. fields_format form kind sizes s) e) lacks)
