use Rattle.std.proofs.Common.{true, false, ◌≡◌, ◌+◌, ◌≤◌, ◌∙◌, ℕ, List, length, map, refl, sym, ap, subst, arith}
use Rattle.szg_file.specs.Contents.{gap}
use Rattle.szg_file.specs.File.{flags_of}
use Rattle.szg_file.specs.FrontRead.{front_read}
use Rattle.szg_file.specs.Held.{subtable_of}
use Rattle.szg_file.specs.Index.{Index, IsIndex, index_with}
use Rattle.szg_file.specs.Unread.{BeginsWithFront}
use Rattle.szg_file.specs.declared.reading.dropping.PlacedSub.{PlacedSub}
use Rattle.szg_file.proofs.Openings.FrontTables.{front_index, front_kept, front_short}
use Rattle.szg_file.proofs.Openings.KeptFronts.{keeps_needed}
use Rattle.szg_file.proofs.opened.front_table.front_table.Goals as goal

pub returns-then-size-ending-clause-refused : goal.returns-then-size-ending-clause-refused
returns-then-size-ending-clause-refused c = λ all content long h.
    front_short c.args.material c.args.kind h.whole c.args.place content h.begins all (front_read c.args.read) h.kept c.args.size long (λ whole.
    let moved : c.in_ok-placed.placed.end + gap 64 c.in_ok-placed.placed.end + 16 ≤ c.args.size = subst (λ (k : ℕ). k + gap 64 k + 16 ≤ c.args.size) (sym c.in_ok-placed.ensures.end) (omega (arith, whole, long)) in
    absurd (omega (arith, moved)))

pub index_of_placed-index-requires-clause-is_valid : goal.index_of_placed-index-requires-clause-is_valid
index_of_placed-index-requires-clause-is_valid c =
    let known = c.requires.known in
    subst (λ (l : List PlacedSub). IsIndex (index_with c.args.material c.args.kind (front_read c.args.read).parts (map (λ held. flags_of (subtable_of held.sub)) l) (front_read c.args.read).maps)) (sym c.deref.ensures.value)
    (front_index c.args.material c.args.kind known.3.whole c.args.place known.1 known.3.begins known.0 (front_read c.args.read) known.3.kept c.in_ok-placed.placed.subs.items (c.in_ok-placed.ensures.subs known.1))

pub invariant_of-result : goal.invariant_of-result
invariant_of-result c =
    let content : List ℕ = c.requires.known.1 in
    let long : length content ≡ c.args.size = c.requires.known.2 in
    let h = c.requires.known.3 in
    let end = c.in_ok-placed.ensures.end in
    let at = ap (λ (k : ℕ). c.in_ok-placed.placed.end + k) c.padding_to_64.ensures.gap ∙ ap (λ (k : ℕ). k + gap 64 k) end in (
      content,
      (front_kept c.args.material c.args.kind h.whole c.args.place content h.begins c.requires.known.0 (front_read c.args.read) h.kept _ refl at (omega (arith, long)) (c.index_of_placed-index.ensures ∙ ap (λ (l : List PlacedSub). index_with c.args.material c.args.kind (front_read c.args.read).parts (map (λ held. flags_of (subtable_of held.sub)) l) (front_read c.args.read).maps) c.deref.ensures.value) long (omega (arith, c.ranges.size.fits)) (c.in_ok-placed.ensures.subs content)
          (c.in_ok-placed.ensures.fits content (omega (arith, long)))).0,
    )

pub returns-clause-table : goal.returns-clause-table
returns-clause-table c = λ all content long h.
    let end = c.in_ok-placed.ensures.end in
    let at = ap (λ (k : ℕ). c.in_ok-placed.placed.end + k) c.padding_to_64.ensures.gap ∙ ap (λ (k : ℕ). k + gap 64 k) end in
    (front_kept c.args.material c.args.kind h.whole c.args.place content h.begins all (front_read c.args.read) h.kept _ refl at (omega (arith, long)) (c.index_of_placed-index.ensures ∙ ap (λ (l : List PlacedSub). index_with c.args.material c.args.kind (front_read c.args.read).parts (map (λ held. flags_of (subtable_of held.sub)) l) (front_read c.args.read).maps) c.deref.ensures.value) long (omega (arith, c.ranges.size.fits)) (c.in_ok-placed.ensures.subs content)
    (c.in_ok-placed.ensures.fits content (omega (arith, long)))).0

pub returns-clause-whole : goal.returns-clause-whole
returns-clause-whole c = λ content long h.
    let end = c.in_ok-placed.ensures.end in
    let at = ap (λ (k : ℕ). c.in_ok-placed.placed.end + k) c.padding_to_64.ensures.gap ∙ ap (λ (k : ℕ). k + gap 64 k) end in
    let seen = front_kept c.args.material c.args.kind (front_read c.args.read) c.args.place content h true (front_read c.args.read) refl _ refl at (omega (arith, long)) (c.index_of_placed-index.ensures ∙ ap (λ (l : List PlacedSub). index_with c.args.material c.args.kind (front_read c.args.read).parts (map (λ held. flags_of (subtable_of held.sub)) l) (front_read c.args.read).maps) c.deref.ensures.value) long (omega (arith, c.ranges.size.fits)) (c.in_ok-placed.ensures.subs content)
    (c.in_ok-placed.ensures.fits content (omega (arith, long))) in
    record {
      front = seen.0;
      whole = seen.1;
      read = front_read c.args.read;
      begins = subst (λ (x : Index). BeginsWithFront x.material x.kind (front_read c.args.read) c.args.place content) (sym (c.index_of_placed-index.ensures ∙ ap (λ (l : List PlacedSub). index_with c.args.material c.args.kind (front_read c.args.read).parts (map (λ held. flags_of (subtable_of held.sub)) l) (front_read c.args.read).maps) c.deref.ensures.value)) h;
      subs_are = c.in_ok-placed.ensures.subs content;
    }

pub returns-clause-lengths : goal.returns-clause-lengths
returns-clause-lengths c = λ content long h.
    let end = c.in_ok-placed.ensures.end in
    let at = ap (λ (k : ℕ). c.in_ok-placed.placed.end + k) c.padding_to_64.ensures.gap ∙ ap (λ (k : ℕ). k + gap 64 k) end in
    let seen = front_kept c.args.material c.args.kind h.whole c.args.place content h.begins false (front_read c.args.read) h.kept _ refl at (omega (arith, long)) (c.index_of_placed-index.ensures ∙ ap (λ (l : List PlacedSub). index_with c.args.material c.args.kind (front_read c.args.read).parts (map (λ held. flags_of (subtable_of held.sub)) l) (front_read c.args.read).maps) c.deref.ensures.value) long (omega (arith, c.ranges.size.fits)) (c.in_ok-placed.ensures.subs content)
    (c.in_ok-placed.ensures.fits content (omega (arith, long))) in
    keeps_needed _ content seen.0 seen.1
