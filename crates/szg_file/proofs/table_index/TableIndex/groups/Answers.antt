use Rattle.std.proofs.Common.{◌≡◌, ℕ, ◌+◌, ◌*◌, [], ◌∷◌, Bool, true, false, cond, not, refl, ◌∙◌, get_or, map, option_map, sym, ap, subst, arith, Some, length}
use Rattle.std.proofs.lemmas.Option.{slice_get-get_or}
use Rattle.szg_count.specs.declared.side_groups.SideGroups.{SideGroups}
use Rattle.std.specs.Prelude.{List, Option, IsSomeAnd}
use Rattle.szg_count.specs.Grouped.{AreGroupsOf}
use Rattle.szg_file.specs.Held.{part_of, map_of}
use Rattle.szg_values.specs.Material.{is_symmetric}
use Rattle.szg_file.specs.Contents.{side_numbers}
use Rattle.szg_file.specs.Index.{Index, nibbles_in_part}
use Rattle.szg_file.proofs.Tables.IndexGroups.{groups_found}
use Rattle.szg_file.proofs.table_index.TableIndex.groups.Goals.{in-Wdl, in-Dtz, then-two_sides, else-two_sides}
use Rattle.szg_file.proofs.table_index.TableIndex.groups.Goals as goal

one_or_two : (b : Bool) → cond {A = List ℕ} b (0 ∷ []) (0 ∷ 1 ∷ []) ≡ cond {A = List ℕ} (not b) (0 ∷ 1 ∷ []) (0 ∷ [])
one_or_two true = refl
one_or_two false = refl

pub bounds-deref-number : goal.bounds-deref-number
bounds-deref-number c =
    let x = c.self.inside in
    let sides : side_numbers c.args.self.now.material c.args.self.now.kind ≡ cond c.match-self.two_sides (0 ∷ 1 ∷ []) (0 ∷ []) =
    subst (λ (i : Index). side_numbers i.material i.kind ≡ cond c.match-self.two_sides (0 ∷ 1 ∷ []) (0 ∷ [])) c.self.view_is
    (elim c.match-self.branch [
      | in-Wdl w ↦
          let test : w.symmetric.result ≡ is_symmetric x.info = w.symmetric.ensures in
          rw (w.in-Wdl.is, w.two_sides-is, test) (one_or_two (is_symmetric x.info))
      | in-Dtz w ↦ rw (w.in-Dtz.is, w.two_sides-is) refl
    ]) in
    let counted : c.if-two_sides.number ≡ cond c.match-self.two_sides (2 * c.args.part + c.args.side) c.args.part = elim c.if-two_sides.branch [
      | then-two_sides w ↦ rw w.if-two_sides.true (omega (arith, w.number-is, c.from-part.ensures, c.from-side.ensures))
      | else-two_sides w ↦ rw w.if-two_sides.false (omega (arith, w.number-is, c.from-part.ensures))
    ] in
    let found = groups_found c.args.self.now x.info x.kind (map part_of x.parts.bytes.items) x.flags.items (map (option_map map_of) x.maps.items) x.parts.slots.items x.groups.items c.args.part c.args.side
    c.if-two_sides.number c.match-self.two_sides c.self.view_is c.self.invariant.1 c.self.invariant.2 sides counted c.requires.part c.requires.side in
    let long = ap (λ (l : List (Option SideGroups)). length l) c.deref.ensures.0 in let below = found.0 in omega (arith, long, below)

pub unreachable-requires : goal.unreachable-requires
unreachable-requires c =
    let x = c.self.inside in
    let sides : side_numbers c.args.self.now.material c.args.self.now.kind ≡ cond c.match-self.two_sides (0 ∷ 1 ∷ []) (0 ∷ []) =
    subst (λ (i : Index). side_numbers i.material i.kind ≡ cond c.match-self.two_sides (0 ∷ 1 ∷ []) (0 ∷ [])) c.self.view_is
    (elim c.match-self.branch [
      | in-Wdl w ↦
          let test : w.symmetric.result ≡ is_symmetric x.info = w.symmetric.ensures in
          rw (w.in-Wdl.is, w.two_sides-is, test) (one_or_two (is_symmetric x.info))
      | in-Dtz w ↦ rw (w.in-Dtz.is, w.two_sides-is) refl
    ]) in
    let counted : c.if-two_sides.number ≡ cond c.match-self.two_sides (2 * c.args.part + c.args.side) c.args.part = elim c.if-two_sides.branch [
      | then-two_sides w ↦ rw w.if-two_sides.true (omega (arith, w.number-is, c.from-part.ensures, c.from-side.ensures))
      | else-two_sides w ↦ rw w.if-two_sides.false (omega (arith, w.number-is, c.from-part.ensures))
    ] in
    let found = groups_found c.args.self.now x.info x.kind (map part_of x.parts.bytes.items) x.flags.items (map (option_map map_of) x.maps.items) x.parts.slots.items x.groups.items c.args.part c.args.side
    c.if-two_sides.number c.match-self.two_sides c.self.view_is c.self.invariant.1 c.self.invariant.2 sides counted c.requires.part c.requires.side in
    let there = slice_get-get_or x.groups.items c.if-two_sides.number c.index-deref-number.result found.0 in
    let is = c.index-deref-number.is ∙ ap (λ (l : List (Option SideGroups)). get_or l c.if-two_sides.number c.index-deref-number.result) c.deref.ensures.0 in
    subst (λ (o : Option SideGroups). IsSomeAnd o (AreGroupsOf c.args.self.now.material c.args.part (nibbles_in_part c.args.self.now.parts c.args.part c.args.side))) c.in_default.is
    (found.1 c.index-deref-number.result (there ∙ ap Some (sym is)))

pub returns : goal.returns
returns c =
    let x = c.self.inside in
    let sides : side_numbers c.args.self.now.material c.args.self.now.kind ≡ cond c.match-self.two_sides (0 ∷ 1 ∷ []) (0 ∷ []) =
    subst (λ (i : Index). side_numbers i.material i.kind ≡ cond c.match-self.two_sides (0 ∷ 1 ∷ []) (0 ∷ [])) c.self.view_is
    (elim c.match-self.branch [
      | in-Wdl w ↦
          let test : w.symmetric.result ≡ is_symmetric x.info = w.symmetric.ensures in
          rw (w.in-Wdl.is, w.two_sides-is, test) (one_or_two (is_symmetric x.info))
      | in-Dtz w ↦ rw (w.in-Dtz.is, w.two_sides-is) refl
    ]) in
    let counted : c.if-two_sides.number ≡ cond c.match-self.two_sides (2 * c.args.part + c.args.side) c.args.part = elim c.if-two_sides.branch [
      | then-two_sides w ↦ rw w.if-two_sides.true (omega (arith, w.number-is, c.from-part.ensures, c.from-side.ensures))
      | else-two_sides w ↦ rw w.if-two_sides.false (omega (arith, w.number-is, c.from-part.ensures))
    ] in
    let found = groups_found c.args.self.now x.info x.kind (map part_of x.parts.bytes.items) x.flags.items (map (option_map map_of) x.maps.items) x.parts.slots.items x.groups.items c.args.part c.args.side
    c.if-two_sides.number c.match-self.two_sides c.self.view_is c.self.invariant.1 c.self.invariant.2 sides counted c.requires.part c.requires.side in
    let there = slice_get-get_or x.groups.items c.if-two_sides.number c.index-deref-number.result found.0 in
    let is = c.index-deref-number.is ∙ ap (λ (l : List (Option SideGroups)). get_or l c.if-two_sides.number c.index-deref-number.result) c.deref.ensures.0 in
    subst (λ (o : Option SideGroups). IsSomeAnd o (AreGroupsOf c.args.self.now.material c.args.part (nibbles_in_part c.args.self.now.parts c.args.part c.args.side))) c.in-Some.is
    (found.1 c.index-deref-number.result (there ∙ ap Some (sym is)))
