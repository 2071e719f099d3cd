-- The text that is left of a dump, as its values come.
use Rattle.std.proofs.Common.{◌≡◌, ℕ, zero, suc, ◌+◌, ◌%◌, ◌<◌, ◌≤◌, Bool, true, false, List, [], ◌∷◌, ◌++◌, length, map, take, drop, replicate, get_or, min, flat_map, refl, sym, ap, ◌∙◌, append_assoc, append-nil, arith, inl, inr, Option, None}
use Rattle.std.specs.Prelude.{◌⊎◌, ◌==◌, codes, slice_index}
use Rattle.std.specs.Fmt.{decimal}
use Rattle.std.proofs.lemmas.Bool.{eq-eqb}
use Rattle.std.proofs.lemmas.List.{length-map, length-drop, map-append, get_or-drop, drop-drop, take-append-drop, replicate-append-replicate}
use Rattle.std.proofs.lemmas.List.Folds.{flat_map-map}
use Rattle.std.proofs.Math.Seq.{drop-cons, take-append_seam, drop-append_seam}
use Rattle.szg_values.specs.declared.Kind.{Kind}
use Rattle.szg_values.specs.declared.Kind.TheVariants.{Wdl, Dtz}
use Rattle.szg_file.specs.Accepted.{AreMaps, IsAccepted, IsMapOf, IsSubtable, SideBySide}
use Rattle.szg_file.specs.Contents.{Contents, Map, Slot, slots, Subtable}
use Rattle.szg_file.specs.File.{flags_of}
use Rattle.szg_file.specs.Streaming.{wanted_of, wanted_values}
use Rattle.szg_file.specs.Values.{slotted, values_of, values_in}
use Rattle.szg_file.specs.Index.{index_of}
use Rattle.szg_file.proofs.Tables.TableFinds.{side_lengths}
use Rattle.szg_build.specs.Built.{plan_flags, value_lists}
use Rattle.szg_build.specs.Dump.{SubDump, subtable_ids_of, subs_of, mapped_subs}
use Rattle.szg_build.specs.Text.{Form, single, runs, with_value, runs_of, line_text, lines_text, flat_map_beside, part_word, flags_lines, sub_lines, value_lines}
use Rattle.szg_build.specs.Streaming.{SubHead, no_head, sub_of, mapped_heads, heads_of, heads_with, head_lines, subtables_text, rest_text}
use Rattle.szg_build.proofs.Texts.OwnDumps.{values_count}
use Rattle.szg_build.proofs.Builders.TableLaws.{flags_shown}
use Rattle.szg_build.proofs.Texts.Runs.{with_value-same, with_value-other}
use Rattle.szg_build.proofs.Writers.WritingLaws.{first_run, other_value, lines-append, run_line, value_line}

-- ---- equal values

-- equal values are one run
pub runs_equal : (count v : ℕ) → runs_of (replicate (suc count) v) ≡ (suc count, v) ∷ []
runs_equal zero v = refl
runs_equal (suc count) v = ap (λ (z : List (ℕ × ℕ)). with_value v z) (runs_equal count v) ∙ with_value-same v (suc count) v [] (eq-eqb v v refl)

-- a run before another value
runs_apart : (count w v : ℕ) (zs : List ℕ) → (w == v) ≡ false → runs_of (replicate (suc count) w ++ (v ∷ zs)) ≡ (suc count, w) ∷ runs_of (v ∷ zs)
runs_apart zero w v zs apart =
    let found = first_run v (runs_of zs) in
    ap (λ (z : List (ℕ × ℕ)). with_value w z) found.2 ∙ with_value-other w found.0 v found.1 apart ∙ ap (λ (z : List (ℕ × ℕ)). (1, w) ∷ z) (sym found.2)
runs_apart (suc count) w v zs apart =
    ap (λ (z : List (ℕ × ℕ)). with_value w z) (runs_apart count w v zs apart) ∙ with_value-same w (suc count) w (runs_of (v ∷ zs)) (eq-eqb w w refl)

runs_split : (count w v : ℕ) (zs : List ℕ) → (w ≡ v → ⊥) → runs_of (replicate (suc count) w ++ (v ∷ zs)) ≡ runs_of (replicate (suc count) w) ++ runs_of (v ∷ zs)
runs_split count w v zs h =
    let apart : (w == v) ≡ false = other_value w v (λ e. h (sym e)) in
    runs_apart count w v zs apart ∙ ap (λ (z : List (ℕ × ℕ)). z ++ runs_of (v ∷ zs)) (sym (runs_equal count w))

-- a run and other values after it have their own lines
pub lines_split : (form : Form) (count w n v : ℕ) (zs : List ℕ) → (count ≡ 0) ⊎ (w ≡ v → ⊥) → 0 < n →
    value_lines form (replicate count w ++ (replicate n v ++ zs)) ≡ value_lines form (replicate count w) ++ value_lines form (replicate n v ++ zs)
lines_split single count w n v zs h some = map-append (λ v. decimal v ∷ []) (replicate count w) (replicate n v ++ zs)
lines_split runs zero w n v zs h some = refl
lines_split runs (suc count) w zero v zs h some = absurd (omega (arith, some))
lines_split runs (suc count) w (suc n) v zs (inl e) some = absurd (omega (arith, e))
lines_split runs (suc count) w (suc n) v zs (inr h) some =
    ap (map (λ (run : ℕ × ℕ). decimal run.0 ∷ decimal run.1 ∷ [])) (runs_split count w v (replicate n v ++ zs) h)
    ∙ map-append (λ (run : ℕ × ℕ). decimal run.0 ∷ decimal run.1 ∷ []) (runs_of (replicate (suc count) w)) (runs_of (v ∷ (replicate n v ++ zs)))

-- ---- values among those that are to come

taken : (n m v : ℕ) (rest : List ℕ) → take (n + m) (replicate n v ++ rest) ≡ replicate n v ++ take m rest
taken zero m v rest = let e : 0 + m ≡ m = omega arith in ap (λ (k : ℕ). take k rest) e
taken (suc n) m v rest =
    let e : suc n + m ≡ suc (n + m) = omega arith in
    ap (λ (k : ℕ). take k (v ∷ (replicate n v ++ rest))) e ∙ ap (λ (z : List ℕ). v ∷ z) (taken n m v rest)

dropped : (n m v : ℕ) (rest : List ℕ) → drop (n + m) (replicate n v ++ rest) ≡ drop m rest
dropped zero m v rest = let e : 0 + m ≡ m = omega arith in ap (λ (k : ℕ). drop k rest) e
dropped (suc n) m v rest =
    let e : suc n + m ≡ suc (n + m) = omega arith in
    ap (λ (k : ℕ). drop k (v ∷ (replicate n v ++ rest))) e ∙ dropped n m v rest

module _ (form : Form) (kind : Kind) (places : List (ℕ × ℕ)) (heads : List SubHead) where
  -- values that lengthen the run
  pub run_grows : (count v n left more : ℕ) (rest : List ℕ) → n + more ≡ left →
      rest_text form kind places heads count v left (replicate n v ++ rest) ≡ rest_text form kind places heads (count + n) v more rest
  unfolding rest_text
  run_grows count v n left more rest e =
      let values : replicate count v ++ take left (replicate n v ++ rest) ≡ replicate (count + n) v ++ take more rest =
      ap (λ (k : ℕ). replicate count v ++ take k (replicate n v ++ rest)) (sym e)
      ∙ ap (λ (z : List ℕ). replicate count v ++ z) (taken n more v rest)
      ∙ sym (append_assoc (replicate count v) (replicate n v) (take more rest))
      ∙ ap (λ (z : List ℕ). z ++ take more rest) (replicate-append-replicate count n v) in
      let following : drop left (replicate n v ++ rest) ≡ drop more rest = ap (λ (k : ℕ). drop k (replicate n v ++ rest)) (sym e) ∙ dropped n more v rest in
      ap (λ (z : List ℕ). lines_text (value_lines form z) ++ subtables_text form kind places heads (drop left (replicate n v ++ rest))) values
      ∙ ap (λ (z : List ℕ). lines_text (value_lines form (replicate (count + n) v ++ take more rest)) ++ subtables_text form kind places heads z) following

  -- values that begin another run
  pub run_ends : (count w n v left more : ℕ) (rest : List ℕ) → n + more ≡ left → (count ≡ 0) ⊎ (w ≡ v → ⊥) → 0 < n →
      rest_text form kind places heads count w left (replicate n v ++ rest) ≡ lines_text (value_lines form (replicate count w)) ++ rest_text form kind places heads n v more rest
  unfolding rest_text
  run_ends count w n v left more rest e apart some =
      let values : replicate count w ++ take left (replicate n v ++ rest) ≡ replicate count w ++ (replicate n v ++ take more rest) =
      ap (λ (k : ℕ). replicate count w ++ take k (replicate n v ++ rest)) (sym e) ∙ ap (λ (z : List ℕ). replicate count w ++ z) (taken n more v rest) in
      let following : drop left (replicate n v ++ rest) ≡ drop more rest = ap (λ (k : ℕ). drop k (replicate n v ++ rest)) (sym e) ∙ dropped n more v rest in
      let lines : lines_text (value_lines form (replicate count w ++ (replicate n v ++ take more rest))) ≡ lines_text (value_lines form (replicate count w)) ++ lines_text (value_lines form (replicate n v ++ take more rest)) =
      ap lines_text (lines_split form count w n v (take more rest) apart some) ∙ lines-append (value_lines form (replicate count w)) (value_lines form (replicate n v ++ take more rest)) in
      ap (λ (z : List ℕ). lines_text (value_lines form z) ++ subtables_text form kind places heads (drop left (replicate n v ++ rest))) values
      ∙ ap (λ (z : List ℕ). lines_text (value_lines form (replicate count w ++ (replicate n v ++ take more rest))) ++ subtables_text form kind places heads z) following
      ∙ ap (λ (z : List ℕ). z ++ subtables_text form kind places heads (drop more rest)) lines
      ∙ append_assoc (lines_text (value_lines form (replicate count w))) (lines_text (value_lines form (replicate n v ++ take more rest))) (subtables_text form kind places heads (drop more rest))

  -- a run whose subtable is whole
  run_whole : (count v : ℕ) (values : List ℕ) →
      rest_text form kind places heads count v 0 values ≡ lines_text (value_lines form (replicate count v)) ++ subtables_text form kind places heads values
  unfolding rest_text
  run_whole count v values = ap (λ (z : List ℕ). lines_text (value_lines form z) ++ subtables_text form kind places heads values) (append-nil (replicate count v))

  -- where no values are to come, it doesn't matter how many the subtable needs
  pub none_left : (count v left : ℕ) → rest_text form kind places heads count v left [] ≡ rest_text form kind places heads count v 0 []
  unfolding rest_text
  none_left count v zero = refl
  none_left count v (suc left) = refl

  -- nothing is begun
  pub none_begun : (v : ℕ) (values : List ℕ) → rest_text form kind places heads 0 v 0 values ≡ subtables_text form kind places heads values
  none_begun v values = run_whole 0 v values ∙ nothing (subtables_text form kind places heads values) form where
    nothing : (text : List ℕ) (form : Form) → lines_text (value_lines form []) ++ text ≡ text
    nothing text single = refl
    nothing text runs = refl

-- the next subtable begins
pub sub_begins : (form : Form) (kind : Kind) (place : ℕ × ℕ) (places : List (ℕ × ℕ)) (head : SubHead) (heads : List SubHead) (v : ℕ) (values : List ℕ) →
    subtables_text form kind (place ∷ places) (head ∷ heads) values ≡ lines_text (head_lines kind place head) ++ rest_text form kind places heads 0 v head.size values
unfolding rest_text subtables_text
sub_begins form kind place places head heads v values = refl

-- a run ends, and the next subtable begins
pub run_then_sub : (form : Form) (kind : Kind) (places : List (ℕ × ℕ)) (heads : List SubHead) (next count v left : ℕ) (rest : List ℕ) → left ≡ 0 → next < length places → next < length heads →
    rest_text form kind (drop next places) (drop next heads) count v left rest
    ≡ (lines_text (value_lines form (replicate count v)) ++ lines_text (head_lines kind (get_or places next (0, 0)) (get_or heads next no_head)))
    ++ rest_text form kind (drop (next + 1) places) (drop (next + 1) heads) 0 v (get_or heads next no_head).size rest
run_then_sub form kind places heads next count v left rest whole h k =
    let one : suc next ≡ next + 1 = omega arith in
    let lines = lines_text (value_lines form (replicate count v)) in
    let place = get_or places next (0, 0) in
    let head = get_or heads next no_head in
    ap (λ (n : ℕ). rest_text form kind (drop next places) (drop next heads) count v n rest) whole
    ∙ run_whole form kind (drop next places) (drop next heads) count v rest
    ∙ ap (λ (z : List (ℕ × ℕ)). lines ++ subtables_text form kind z (drop next heads) rest) (drop-cons places next (0, 0) h)
    ∙ ap (λ (z : List SubHead). lines ++ subtables_text form kind (place ∷ drop (suc next) places) z rest) (drop-cons heads next no_head k)
    ∙ ap (λ (z : List ℕ). lines ++ z) (sub_begins form kind place (drop (suc next) places) head (drop (suc next) heads) v rest)
    ∙ ap (λ (n : ℕ). lines ++ (lines_text (head_lines kind place head) ++ rest_text form kind (drop n places) (drop n heads) 0 v head.size rest)) one
    ∙ sym (append_assoc lines (lines_text (head_lines kind place head)) (rest_text form kind (drop (next + 1) places) (drop (next + 1) heads) 0 v head.size rest))

subs_none : (form : Form) (kind : Kind) (places : List (ℕ × ℕ)) (heads : List SubHead) (values : List ℕ) → min (length places) (length heads) ≡ 0 → subtables_text form kind places heads values ≡ []
unfolding subtables_text
subs_none form kind [] heads values h = refl
subs_none form kind (place ∷ places) [] values h = refl
subs_none form kind (place ∷ places) (head ∷ heads) values h = absurd (omega (arith, h))

-- no subtable is left
subs_done : (form : Form) (kind : Kind) (places : List (ℕ × ℕ)) (heads : List SubHead) (next : ℕ) (values : List ℕ) → min (length places) (length heads) ≤ next →
    subtables_text form kind (drop next places) (drop next heads) values ≡ []
subs_done form kind places heads next values h =
    let few : min (length (drop next places)) (length (drop next heads)) ≡ 0 = omega (arith, h, length-drop next places, length-drop next heads) in
    subs_none form kind (drop next places) (drop next heads) values few

-- a run whose subtable is whole, where no subtable is left
pub run_done : (form : Form) (kind : Kind) (places : List (ℕ × ℕ)) (heads : List SubHead) (next count v left : ℕ) (values : List ℕ) → left ≡ 0 → min (length places) (length heads) ≤ next →
    rest_text form kind (drop next places) (drop next heads) count v left values ≡ lines_text (value_lines form (replicate count v))
run_done form kind places heads next count v left values whole h =
    let lines = lines_text (value_lines form (replicate count v)) in
    ap (λ (n : ℕ). rest_text form kind (drop next places) (drop next heads) count v n values) whole
    ∙ run_whole form kind (drop next places) (drop next heads) count v values
    ∙ ap (λ (z : List ℕ). lines ++ z) (subs_done form kind places heads next values h)
    ∙ append-nil lines

-- ---- the heads, by their numbers

-- how many heads there are
pub heads_count : (kind : Kind) (slots : List Slot) (flags : List ℕ) (maps : List (Option Map)) →
    length (heads_with kind slots flags maps) ≡ (elim kind [ Wdl ↦ length slots | Dtz ↦ min (min (length slots) (length flags)) (length maps) ])
heads_count Wdl slots flags maps = length-map slots _
heads_count Dtz [] flags maps = omega arith
heads_count Dtz (s ∷ slots) [] maps = omega arith
heads_count Dtz (s ∷ slots) (f ∷ flags) [] = omega arith
heads_count Dtz (s ∷ slots) (f ∷ flags) (m ∷ maps) =
    let inner : length (mapped_heads slots flags maps) ≡ min (min (length slots) (length flags)) (length maps) = heads_count Dtz slots flags maps in omega (arith, inner)

mapped_at : (slots : List Slot) (flags : List ℕ) (maps : List (Option Map)) (n : ℕ) (slot : Slot) → n < length (mapped_heads slots flags maps) →
    (n < length slots) × (n < length flags) × (n < length maps)
    × (get_or (mapped_heads slots flags maps) n no_head ≡ record { flags = get_or flags n 0 % 32; lists = get_or maps n None; size = (get_or slots n slot).size })
mapped_at [] flags maps n slot h = absurd (omega (arith, h))
mapped_at (s ∷ slots) [] maps n slot h = absurd (omega (arith, h))
mapped_at (s ∷ slots) (f ∷ flags) [] n slot h = absurd (omega (arith, h))
mapped_at (s ∷ slots) (f ∷ flags) (m ∷ maps) zero slot h = (omega arith, omega arith, omega arith, refl)
mapped_at (s ∷ slots) (f ∷ flags) (m ∷ maps) (suc n) slot h =
    let below : n < length (mapped_heads slots flags maps) = omega (arith, h) in
    let inner = mapped_at slots flags maps n slot below in
    (omega (arith, inner.0), omega (arith, inner.1), omega (arith, inner.2), inner.3)

plain_at : (slots : List Slot) (n : ℕ) (slot : Slot) → n < length slots →
    get_or (heads_with Wdl slots [] []) n no_head ≡ record { flags = 0; lists = None; size = (get_or slots n slot).size }
plain_at [] n slot h = absurd (omega (arith, h))
plain_at (s ∷ slots) zero slot h = refl
plain_at (s ∷ slots) (suc n) slot h = plain_at slots n slot (omega (arith, h))

pub size_at : (kind : Kind) (slots : List Slot) (flags : List ℕ) (maps : List (Option Map)) (n : ℕ) (slot : Slot) → n < length (heads_with kind slots flags maps) →
    (n < length slots) × ((get_or (heads_with kind slots flags maps) n no_head).size ≡ (get_or slots n slot).size)
size_at Wdl slots flags maps n slot h =
    let below : n < length slots = let counted : length (heads_with Wdl slots flags maps) ≡ length slots = heads_count Wdl slots flags maps in omega (arith, h, counted) in
    (below, ap (λ (head : SubHead). head.size) (plain_at slots n slot below))
size_at Dtz slots flags maps n slot h =
    let inner = mapped_at slots flags maps n slot h in
    (inner.0, ap (λ (head : SubHead). head.size) inner.3)

pub flags_at : (kind : Kind) (slots : List Slot) (flags : List ℕ) (maps : List (Option Map)) (n : ℕ) → kind ≡ Dtz → n < length (heads_with kind slots flags maps) →
    (n < length flags) × (n < length maps) × (flags_lines kind (sub_of (get_or (heads_with kind slots flags maps) n no_head)) ≡ flags_lines Dtz (record { flags = get_or flags n 0 % 32; lists = get_or maps n None; values = [] }))
flags_at Wdl slots flags maps n e h = absurd (cc e)
flags_at Dtz slots flags maps n e h =
    let inner = mapped_at slots flags maps n (record { part = 0; side = 0; size = 0 }) h in
    (inner.1, inner.2, ap (λ (head : SubHead). flags_lines Dtz (sub_of head)) inner.3)

pub no_flags : (kind : Kind) (sub : SubDump) → kind ≡ Wdl → flags_lines kind sub ≡ []
no_flags kind sub e = ap (λ (k : Kind). flags_lines k sub) e

-- ---- the subtables of a table

abbrev pub all_wanted : ℕ → ℕ → Bool
all_wanted part side = true

-- the lines of a subtable are those before its values, and those of its values
sub_apart : (form : Form) (kind : Kind) (place : ℕ × ℕ) (sub : SubDump) → lines_text (sub_lines form kind place sub) ≡
    lines_text (head_lines kind place (record { flags = sub.flags; lists = sub.lists; size = length sub.values })) ++ lines_text (value_lines form sub.values)
sub_apart form kind place sub =
    let first = codes "sub" ∷ part_word place.0 ∷ decimal place.1 ∷ [] in
    let flags = flags_lines kind sub in
    let count = (codes "values" ∷ decimal (length sub.values) ∷ []) ∷ [] in
    ap (λ (z : List (List (List ℕ))). lines_text (first ∷ z)) (sym (append_assoc flags count (value_lines form sub.values)))
    ∙ ap (λ (z : List (List (List ℕ))). lines_text ((first ∷ (z ++ count)) ++ value_lines form sub.values)) (same_flags kind)
    ∙ lines-append (first ∷ (flags_lines kind (sub_of (record { flags = sub.flags; lists = sub.lists; size = length sub.values })) ++ count)) (value_lines form sub.values) where
      same_flags : (kind : Kind) → flags_lines kind sub ≡ flags_lines kind (sub_of (record { flags = sub.flags; lists = sub.lists; size = length sub.values }))
      same_flags Wdl = refl
      same_flags Dtz = refl

module _ (form : Form) (kind : Kind) (place : ℕ × ℕ) (places : List (ℕ × ℕ)) (sub : SubDump) (subs : List SubDump) (heads : List SubHead) (size : ℕ) (more : List ℕ) where
  -- one subtable before others
  subtable_format : length sub.values ≡ size → lines_text (flat_map_beside (sub_lines form kind) places subs) ≡ subtables_text form kind places heads more →
      lines_text (sub_lines form kind place sub ++ flat_map_beside (sub_lines form kind) places subs)
      ≡ subtables_text form kind (place ∷ places) (record { flags = sub.flags; lists = sub.lists; size = size } ∷ heads) (sub.values ++ more)
  unfolding subtables_text
  subtable_format sized rest =
      let before = lines_text (head_lines kind place (record { flags = sub.flags; lists = sub.lists; size = size })) in
      let here : take size (sub.values ++ more) ≡ sub.values = ap (λ (n : ℕ). take n (sub.values ++ more)) (sym sized) ∙ take-append_seam sub.values more in
      let following : drop size (sub.values ++ more) ≡ more = ap (λ (n : ℕ). drop n (sub.values ++ more)) (sym sized) ∙ drop-append_seam sub.values more in
      lines-append (sub_lines form kind place sub) (flat_map_beside (sub_lines form kind) places subs)
      ∙ ap (λ (z : List ℕ). z ++ lines_text (flat_map_beside (sub_lines form kind) places subs)) (sub_apart form kind place sub)
      ∙ ap (λ (n : ℕ). (lines_text (head_lines kind place (record { flags = sub.flags; lists = sub.lists; size = n })) ++ lines_text (value_lines form sub.values)) ++ lines_text (flat_map_beside (sub_lines form kind) places subs)) sized
      ∙ ap (λ (z : List ℕ). (before ++ lines_text (value_lines form sub.values)) ++ z) rest
      ∙ append_assoc before (lines_text (value_lines form sub.values)) (subtables_text form kind places heads more)
      ∙ ap (λ (z : List ℕ). before ++ (lines_text (value_lines form z) ++ subtables_text form kind places heads more)) (sym here)
      ∙ ap (λ (z : List ℕ). before ++ (lines_text (value_lines form (take size (sub.values ++ more))) ++ subtables_text form kind places heads z)) (sym following)

wdl_text : (form : Form) (places : List (ℕ × ℕ)) (slots : List Slot) (subtables : List Subtable) → SideBySide IsSubtable slots subtables →
    lines_text (flat_map_beside (sub_lines form Wdl) places (subs_of Wdl [] [] (map (values_of Wdl) (slotted slots subtables))))
    ≡ subtables_text form Wdl places (heads_with Wdl slots [] []) (wanted_values all_wanted Wdl (slotted slots subtables))
unfolding subtables_text
wdl_text form [] slots subtables h = refl
wdl_text form (p ∷ places) [] [] h = refl
wdl_text form (p ∷ places) [] (y ∷ subtables) h = absurd h
wdl_text form (p ∷ places) (s ∷ slots) [] h = absurd h
wdl_text form (p ∷ places) (s ∷ slots) (y ∷ subtables) h =
    subtable_format form Wdl p places (record { flags = 0; lists = None; values = values_in Wdl s.size y }) _ (heads_with Wdl slots [] []) s.size (wanted_values all_wanted Wdl (slotted slots subtables))
    (values_count Wdl s y h.0) (wdl_text form places slots subtables h.1)

dtz_text : (form : Form) (places : List (ℕ × ℕ)) (slots : List Slot) (subtables : List Subtable) (maps : List (Option Map)) → SideBySide IsSubtable slots subtables → length maps ≡ length subtables →
    lines_text (flat_map_beside (sub_lines form Dtz) places (mapped_subs (map (λ subtable. flags_of subtable % 32) subtables) maps (map (values_of Dtz) (slotted slots subtables))))
    ≡ subtables_text form Dtz places (mapped_heads slots (map flags_of subtables) maps) (wanted_values all_wanted Dtz (slotted slots subtables))
unfolding subtables_text
dtz_text form [] slots subtables maps h many = refl
dtz_text form (p ∷ places) [] [] maps h many = refl
dtz_text form (p ∷ places) [] (y ∷ subtables) maps h many = absurd h
dtz_text form (p ∷ places) (s ∷ slots) [] maps h many = absurd h
dtz_text form (p ∷ places) (s ∷ slots) (y ∷ subtables) [] h many = absurd (omega (arith, many))
dtz_text form (p ∷ places) (s ∷ slots) (y ∷ subtables) (m ∷ maps) h many =
    subtable_format form Dtz p places (record { flags = flags_of y % 32; lists = m; values = values_in Dtz s.size y }) _ (mapped_heads slots (map flags_of subtables) maps) s.size (wanted_values all_wanted Dtz (slotted slots subtables))
    (values_count Dtz s y h.0) (dtz_text form places slots subtables maps h.1 (omega (arith, many)))

kind_text : (form : Form) (kind : Kind) (places : List (ℕ × ℕ)) (slots : List Slot) (subtables : List Subtable) (maps : List (Option Map)) → SideBySide IsSubtable slots subtables → AreMaps kind subtables maps →
    lines_text (flat_map_beside (sub_lines form kind) places (subs_of kind (flags_shown kind subtables) maps (map (values_of kind) (slotted slots subtables))))
    ≡ subtables_text form kind places (heads_with kind slots (map flags_of subtables) maps) (wanted_values all_wanted kind (slotted slots subtables))
kind_text form Wdl places slots subtables maps h mapped = wdl_text form places slots subtables h
kind_text form Dtz places slots subtables maps h mapped = dtz_text form places slots subtables maps h (sym (side_lengths IsMapOf subtables maps mapped))

-- the text of a table's subtables is what is left to write before its first value
pub table_text : (form : Form) (t : Contents) (filled : List ℕ) → IsAccepted t filled →
    lines_text (flat_map_beside (sub_lines form t.kind) (subtable_ids_of t.material t.kind) (subs_of t.kind (plan_flags t) t.maps (value_lists t)))
    ≡ subtables_text form t.kind (subtable_ids_of t.material t.kind) (heads_of (index_of t)) (wanted_of all_wanted t)
table_text form t filled h = kind_text form t.kind (subtable_ids_of t.material t.kind) (slots t.material t.kind t.parts) t.subtables t.maps h.subtables h.maps

-- ---- runs, as they are written

pub run_text : (count v : ℕ) → 0 < count → lines_text (value_lines runs (replicate count v)) ≡ run_line (count, v)
run_text zero v some = absurd (omega (arith, some))
run_text (suc count) v some =
    ap (λ (z : List (ℕ × ℕ)). lines_text (map (λ (run : ℕ × ℕ). decimal run.0 ∷ decimal run.1 ∷ []) z)) (runs_equal count v) ∙ append-nil (run_line (suc count, v))

pub same_text : (count v : ℕ) → lines_text (value_lines single (replicate count v)) ≡ flat_map value_line (replicate count v)
same_text count v = flat_map-map line_text (λ (v : ℕ). decimal v ∷ []) (replicate count v)

pub same_next : (count v : ℕ) → replicate (count + 1) v ≡ replicate count v ++ v ∷ []
same_next count v = sym (replicate-append-replicate count 1 v)

pub no_values : (form : Form) → lines_text (value_lines form []) ≡ []
no_values single = refl
no_values runs = refl

-- the first run of a list, and the others
run_apart : (form : Form) (chunk : List ℕ) (n x : ℕ) → 0 < n → runs_of chunk ≡ (n, x) ∷ runs_of (drop n chunk) → take n chunk ≡ replicate n x →
    lines_text (value_lines form chunk) ≡ lines_text (value_lines form (replicate n x)) ++ lines_text (value_lines form (drop n chunk))
run_apart runs chunk n x some first same =
    ap (λ (z : List (ℕ × ℕ)). lines_text (map (λ (run : ℕ × ℕ). decimal run.0 ∷ decimal run.1 ∷ []) z)) first
    ∙ ap (λ (z : List ℕ). z ++ lines_text (value_lines runs (drop n chunk))) (sym (run_text n x some))
run_apart single chunk n x some first same =
    ap (λ (z : List ℕ). lines_text (value_lines single z)) (sym (take-append-drop n chunk) ∙ ap (λ (z : List ℕ). z ++ drop n chunk) same)
    ∙ ap lines_text (map-append (λ (v : ℕ). decimal v ∷ []) (replicate n x) (drop n chunk))
    ∙ lines-append (value_lines single (replicate n x)) (value_lines single (drop n chunk))

-- the first run of the remaining values, after those that were written
pub run_left : (form : Form) (values chunk text : List ℕ) (from n : ℕ) → chunk ≡ drop from values → 0 < n → runs_of chunk ≡ (n, slice_index chunk 0) ∷ runs_of (drop n chunk) → take n chunk ≡ replicate n (slice_index chunk 0) →
    text ++ lines_text (value_lines form (drop from values)) ≡ lines_text (value_lines form values) →
    (text ++ lines_text (value_lines form (replicate n (get_or values from 0)))) ++ lines_text (value_lines form (drop (from + n) values)) ≡ lines_text (value_lines form values)
run_left form values chunk text from n is some first same whole =
    let same_place : from + 0 ≡ from = omega arith in
    let value : slice_index chunk 0 ≡ get_or values from 0 = ap (λ (z : List ℕ). get_or z 0 0) is ∙ get_or-drop from values 0 0 ∙ ap (λ (m : ℕ). get_or values m 0) same_place in
    let dropped : drop n chunk ≡ drop (from + n) values = ap (λ (z : List ℕ). drop n z) is ∙ drop-drop n from values in
    let here : List ℕ = lines_text (value_lines form (replicate n (get_or values from 0))) in
    append_assoc text here (lines_text (value_lines form (drop (from + n) values)))
    ∙ ap (λ (z : List ℕ). text ++ z) (
    ap (λ (z : List ℕ). here ++ lines_text (value_lines form z)) (sym dropped)
    ∙ ap (λ (x : ℕ). lines_text (value_lines form (replicate n x)) ++ lines_text (value_lines form (drop n chunk))) (sym value)
    ∙ sym (run_apart form chunk n (slice_index chunk 0) some first same)
    ∙ ap (λ (z : List ℕ). lines_text (value_lines form z)) is
    ) ∙ whole

-- ---- the values of a chunk

take_on : (from n : ℕ) (xs : List ℕ) → take (from + n) xs ≡ take from xs ++ take n (drop from xs)
take_on zero n xs = let e : 0 + n ≡ n = omega arith in ap (λ (k : ℕ). take k xs) e
take_on (suc from) zero [] = let e : suc from + 0 ≡ suc from = omega arith in ap (λ (k : ℕ). take {A = ℕ} k []) e
take_on (suc from) (suc n) [] = let e : suc from + suc n ≡ suc (from + suc n) = omega arith in ap (λ (k : ℕ). take {A = ℕ} k []) e
take_on (suc from) n (x ∷ xs) =
    let e : suc from + n ≡ suc (from + n) = omega arith in
    ap (λ (k : ℕ). take k (x ∷ xs)) e ∙ ap (λ (z : List ℕ). x ∷ z) (take_on from n xs)

-- the equal values at the beginning of what is left of a chunk
pub run_on : (values chunk : List ℕ) (from n : ℕ) → chunk ≡ drop from values → take n chunk ≡ replicate n (slice_index chunk 0) →
    take from values ++ replicate n (get_or values from 0) ≡ take (from + n) values
run_on values chunk from n p same =
    let none : from + 0 ≡ from = omega arith in
    let first : slice_index chunk 0 ≡ get_or values from 0 = ap (λ (z : List ℕ). get_or z 0 0) p ∙ get_or-drop from values 0 0 ∙ ap (λ (m : ℕ). get_or values m 0) none in
    ap (λ (v : ℕ). take from values ++ replicate n v) (sym first)
    ∙ ap (λ (z : List ℕ). take from values ++ z) (sym same)
    ∙ ap (λ (z : List ℕ). take from values ++ take n z) p
    ∙ sym (take_on from n values)
