-- Reading the map that flags require.
use Rattle.std.proofs.Common.{◌≡◌, ℕ, Bool, true, false, List, refl, sym, ap, arith, Option, Some, None, Ok, Err}
use Rattle.szg_file.specs.Contents.{Map, narrow, wide}
use Rattle.szg_io.specs.declared.device.Input.{Ghosts}
use Rattle.szg_build.specs.declared.reading.incoming.Incoming.{Incoming}
use Rattle.szg_build.specs.declared.dump.DumpReadFault.{DumpReadFault}
use Rattle.szg_build.specs.Lines.{means, ◌>>=◌}
use Rattle.szg_build.specs.Grammar.{each, list_numbers, map_list, map_of, greatest_item}
use Rattle.szg_build.specs.Reading.{ReadsLines}
use Rattle.szg_build.specs.Lacks.{LacksLines}
use Rattle.szg_build.proofs.Readers.ReadingLaws.{reads_as, reads_then, reads_stopped, reads_nothing}
use Rattle.szg_build.proofs.Readers.LackLaws.{lacks_first, lacks_as, asks_means}

no_map : (b c : Bool) → b ≡ false → map_of b c ≡ means None
no_map b c e = rw e refl

wide_map : (b c : Bool) → b ≡ true → c ≡ true → map_of b c ≡ (each (map_list greatest_item) list_numbers >>= λ lists. means (Some (wide lists)))
wide_map b c e e' = rw (e, e') refl

narrow_map : (b c : Bool) → b ≡ true → c ≡ false → map_of b c ≡ (each (map_list 255) list_numbers >>= λ lists. means (Some (narrow lists)))
narrow_map b c e e' = rw (e, e') refl

pub map_absent : {X R : Type 0} (b c : Bool) (view : X → Option Map) (x : X) {o : Incoming} {dev : Ghosts R} {i : R} → b ≡ false → view x ≡ None → ReadsLines (map_of b c) view o o dev i i (Ok x)
map_absent b c view x e none = reads_as (no_map b c e) (reads_nothing (means None) view x (ap means (sym none)))

pub wide_read : {X Y R : Type 0} (b c : Bool) (view : X → List (List ℕ)) (view' : Y → Option Map) (x : X) (y : Y) {o n : Incoming} {dev : Ghosts R} {i k : R} → b ≡ true → c ≡ true → Some (wide (view x)) ≡ view' y →
    ReadsLines (each (map_list greatest_item) list_numbers) view o n dev i k (Ok x) → ReadsLines (map_of b c) view' o n dev i k (Ok y)
wide_read b c view view' x y e e' same read =
    reads_as (wide_map b c e e') (reads_then (each (map_list greatest_item) list_numbers) (λ lists. means (Some (wide lists))) view view' x read (reads_nothing (means (Some (wide (view x)))) view' y (ap means same)))

pub narrow_read : {X Y R : Type 0} (b c : Bool) (view : X → List (List ℕ)) (view' : Y → Option Map) (x : X) (y : Y) {o n : Incoming} {dev : Ghosts R} {i k : R} → b ≡ true → c ≡ false → Some (narrow (view x)) ≡ view' y →
    ReadsLines (each (map_list 255) list_numbers) view o n dev i k (Ok x) → ReadsLines (map_of b c) view' o n dev i k (Ok y)
narrow_read b c view view' x y e e' same read =
    reads_as (narrow_map b c e e') (reads_then (each (map_list 255) list_numbers) (λ lists. means (Some (narrow lists))) view view' x read (reads_nothing (means (Some (narrow (view x)))) view' y (ap means same)))

pub wide_stopped : {X Y R : Type 0} (b c : Bool) (view : X → List (List ℕ)) (view' : Y → Option Map) (fault : DumpReadFault) {o n n' : Incoming} {dev : Ghosts R} {i k : R} → b ≡ true → c ≡ true →
    ReadsLines (each (map_list greatest_item) list_numbers) view o n dev i k (Err fault) → ReadsLines (map_of b c) view' o n' dev i k (Err fault)
wide_stopped b c view view' fault e e' read = reads_as (wide_map b c e e') (reads_stopped (each (map_list greatest_item) list_numbers) (λ lists. means (Some (wide lists))) view view' fault read)

pub narrow_stopped : {X Y R : Type 0} (b c : Bool) (view : X → List (List ℕ)) (view' : Y → Option Map) (fault : DumpReadFault) {o n n' : Incoming} {dev : Ghosts R} {i k : R} → b ≡ true → c ≡ false →
    ReadsLines (each (map_list 255) list_numbers) view o n dev i k (Err fault) → ReadsLines (map_of b c) view' o n' dev i k (Err fault)
narrow_stopped b c view view' fault e e' read = reads_as (narrow_map b c e e') (reads_stopped (each (map_list 255) list_numbers) (λ lists. means (Some (narrow lists))) view view' fault read)

pub wide_lacks : {R : Type 0} (b c : Bool) (following : ℕ) {o : Incoming} {dev : Ghosts R} {i k : R} → b ≡ true → c ≡ true → LacksLines (each (map_list greatest_item) list_numbers) following o dev i k → LacksLines (map_of b c) following o dev i k
wide_lacks b c following e e' lacks =
    lacks_as (wide_map b c e e') (lacks_first (each (map_list greatest_item) list_numbers) (λ lists. means (Some (wide lists))) following following 0 (omega arith) (λ lists. asks_means (Some (wide lists))) lacks)

pub narrow_lacks : {R : Type 0} (b c : Bool) (following : ℕ) {o : Incoming} {dev : Ghosts R} {i k : R} → b ≡ true → c ≡ false → LacksLines (each (map_list 255) list_numbers) following o dev i k → LacksLines (map_of b c) following o dev i k
narrow_lacks b c following e e' lacks =
    lacks_as (narrow_map b c e e') (lacks_first (each (map_list 255) list_numbers) (λ lists. means (Some (narrow lists))) following following 0 (omega arith) (λ lists. asks_means (Some (narrow lists))) lacks)
