-- The lines of a dump that is written while the values of its subtables arrive.
use Rattle.std.specs.Prelude.{◌≡◌, ℕ, ◌%◌, ◌≤◌, List, [], ◌∷◌, ◌++◌, length, min, map, take, drop, replicate, Option, None, codes}
use Rattle.std.specs.Fmt.{decimal}
use Rattle.szg_io.specs.Moved.{Gives}
use Rattle.szg_io.specs.declared.device.Output as output
use Rattle.szg_values.specs.declared.Kind.{Kind}
use Rattle.szg_values.specs.declared.Kind.TheVariants.{Wdl, Dtz}
use Rattle.szg_file.specs.Contents.{Map, Slot}
use Rattle.szg_file.specs.Index.{Index, slots_in}
use Rattle.szg_build.specs.Dump.{SubDump, subtable_ids_of}
use Rattle.szg_build.specs.Shown.{form_of}
use Rattle.szg_build.specs.Text.{Form, lines_text, flags_lines, part_word, value_lines}
use Rattle.szg_build.specs.declared.writing.dump_sink.DumpSink.{DumpSink}

-- what a dump says of a subtable before its values: its flags, its map and its number of values. In WDL the flags are 0
-- and there is no map.
pub record SubHead : Type 0 where
  pub flags : ℕ
  pub lists : Option Map
  pub size : ℕ

-- no subtable
abbrev pub no_head : SubHead
no_head = record { flags = 0; lists = None; size = 0 }

-- a subtable with none of its values
abbrev pub sub_of : SubHead → SubDump
sub_of head = record { flags = head.flags; lists = head.lists; values = [] }

abbrev pub mapped_heads : List Slot → List ℕ → List (Option Map) → List SubHead
mapped_heads (slot ∷ slots) (flags ∷ more) (lists ∷ maps) = record { flags = flags % 32; lists = lists; size = slot.size } ∷ mapped_heads slots more maps
mapped_heads _ _ _ = []

abbrev pub heads_with : Kind → List Slot → List ℕ → List (Option Map) → List SubHead
heads_with Wdl slots flags maps = map (λ slot. record { flags = 0; lists = None; size = slot.size }) slots
heads_with Dtz slots flags maps = mapped_heads slots flags maps

-- the subtables of a table, without their values, from its index
abbrev pub heads_of : Index → List SubHead
heads_of x = heads_with x.kind (slots_in x) x.flags x.maps

-- the number of subtables
abbrev pub head_count : Index → ℕ
head_count x = min (length (subtable_ids_of x.material x.kind)) (length (heads_of x))

-- the lines before a subtable's values
abbrev pub head_lines : Kind → ℕ × ℕ → SubHead → List (List (List ℕ))
head_lines kind place head =
    (codes "sub" ∷ part_word place.0 ∷ decimal place.1 ∷ [])
    ∷ (flags_lines kind (sub_of head) ++ (codes "values" ∷ decimal head.size ∷ []) ∷ [])

-- the text of subtables whose values are these, one after another
unfoldable pub subtables_text : Form → Kind → List (ℕ × ℕ) → List SubHead → List ℕ → List ℕ
subtables_text form kind (place ∷ places) (head ∷ heads) values =
    lines_text (head_lines kind place head)
    ++ (lines_text (value_lines form (take head.size values)) ++ subtables_text form kind places heads (drop head.size values))
subtables_text form kind _ _ values = []

-- the text that is still to be written: of a run of `count` equal values, of `left` more values of the same subtable,
-- and of the subtables after it
unfoldable pub rest_text : Form → Kind → List (ℕ × ℕ) → List SubHead → ℕ → ℕ → ℕ → List ℕ → List ℕ
rest_text form kind places heads count value left values =
    lines_text (value_lines form (replicate count value ++ take left values)) ++ subtables_text form kind places heads (drop left values)

-- the text that a sink has still to write, if these values are all that are to come
abbrev pub text_left : DumpSink → List ℕ → List ℕ
text_left s values =
    rest_text (form_of s.form) s.index.now.kind (drop s.next (subtable_ids_of s.index.now.material s.index.now.kind)) (drop s.next (heads_of s.index.now)) s.count s.value s.left values

-- A sink took these values, and no write failed. For any values that follow, the whole text stays the same: the bytes
-- buffered before and the text left to write then are the bytes written, the bytes buffered now and the text left to
-- write now.
pub record Goes {W : Type 0} (writing : output.Ghosts W) (values : List ℕ) (s : DumpSink) (out : W) (s' : DumpSink) (out' : W) : Type 0 where
  pub bytes : List ℕ
  pub given : Gives writing out out' bytes 0
  pub quiet : writing.failures out' ≡ writing.failures out
  pub whole : (rest : List ℕ) → s.text.held.items ++ text_left s (values ++ rest) ≡ bytes ++ (s'.text.held.items ++ text_left s' rest)

-- the lines before the values of each subtable are written, and the last subtable needs no more values
abbrev pub IsDone : DumpSink → Type 0
IsDone s = (s.left ≡ 0) × (head_count s.index.now ≤ s.next)
