use Rattle.std.proofs.Common.{◌≡◌, [], ◌∷◌, map, true, false, refl, sym, ap, ◌∙◌, Some, None, option_map}
use Rattle.std.proofs.lemmas.Result.{err_from_is_err_and}
use Rattle.szg_file.specs.Format.{means}
use Rattle.szg_file.specs.Contents.{has_bit, wide, narrow}
use Rattle.szg_file.specs.File.{Begun, each, filled_to, list_field, flags_of}
use Rattle.szg_file.specs.Held.{map_of}
use Rattle.szg_file.proofs.Readers.ReadingLaws.{reads_then, reads_stopped, reads_nothing}
use Rattle.szg_file.proofs.Readers.MapReads.{no_map_is, wide_rest, wide_is, bytes_is}
use Rattle.szg_file.proofs.reading.maps.read_map.Goals as goal

pub returns-then-not-has_bit-clause-lists : goal.returns-then-not-has_bit-clause-lists
returns-then-not-has_bit-clause-lists g c =
    let flags = c.flags_of-flags.result in
    let same : flags ≡ flags_of c.args.begun.now.subtable = c.flags_of-flags.ensures ∙ ap (λ (b : Begun). flags_of b.subtable) c.begun.view_is in
    let clear : has_bit 1 flags ≡ false = sym c.has_bit.ensures ∙ c.if-not-has_bit.true in
    rw (no_map_is c.args.begun.now.subtable flags same clear)
    (reads_nothing (means None) (option_map map_of) None refl)

pub returns-in_err-take_fill-clause-lists : goal.returns-in_err-take_fill-clause-lists
returns-in_err-take_fill-clause-lists g c =
    let flags = c.flags_of-flags.result in
    let same : flags ≡ flags_of c.args.begun.now.subtable = c.flags_of-flags.ensures ∙ ap (λ (b : Begun). flags_of b.subtable) c.begun.view_is in
    let set : has_bit 1 flags ≡ true = sym c.has_bit.ensures ∙ c.if-not-has_bit.false in
    let large : has_bit 4 flags ≡ true = sym c.has_bit-2.ensures ∙ c.if-has_bit.true in
    let p = err_from_is_err_and c.from_residual.result c.from_residual.ensures.1 in
    rw (p.1, p.2, wide_is c.args.begun.now.subtable flags same set large)
    (reads_stopped (filled_to 2) (λ _. wide_rest) (λ _. tt) (option_map map_of) c.in_err-take_fill.field-0.0 c.in_err-take_fill.ensures.fill)

pub returns-in_err-lists-clause-lists : goal.returns-in_err-lists-clause-lists
returns-in_err-lists-clause-lists g c =
    let flags = c.flags_of-flags.result in
    let same : flags ≡ flags_of c.args.begun.now.subtable = c.flags_of-flags.ensures ∙ ap (λ (b : Begun). flags_of b.subtable) c.begun.view_is in
    let set : has_bit 1 flags ≡ true = sym c.has_bit.ensures ∙ c.if-not-has_bit.false in
    let large : has_bit 4 flags ≡ true = sym c.has_bit-2.ensures ∙ c.if-has_bit.true in
    let p = err_from_is_err_and c.from_residual-in_err-lists.result c.from_residual-in_err-lists.ensures.1 in
    rw (p.1, p.2, wide_is c.args.begun.now.subtable flags same set large)
    (reads_then (filled_to 2) (λ _. wide_rest) (λ _. tt) (option_map map_of) tt c.in_ok-take_fill.ensures.fill
    (reads_stopped (each list_field (2 ∷ 2 ∷ 2 ∷ 2 ∷ [])) (λ lists. means (Some (wide lists))) (λ lists. map (λ list. list.items) lists) (option_map map_of) c.in_err-lists.field-0.0
    (c.in_err-lists.ensures.lists (list_field 2) (λ alloc input left state rest result said. said.1.0))))

pub returns-then-has_bit-clause-lists : goal.returns-then-has_bit-clause-lists
returns-then-has_bit-clause-lists g c =
    let flags = c.flags_of-flags.result in
    let same : flags ≡ flags_of c.args.begun.now.subtable = c.flags_of-flags.ensures ∙ ap (λ (b : Begun). flags_of b.subtable) c.begun.view_is in
    let set : has_bit 1 flags ≡ true = sym c.has_bit.ensures ∙ c.if-not-has_bit.false in
    let large : has_bit 4 flags ≡ true = sym c.has_bit-2.ensures ∙ c.if-has_bit.true in
    rw (wide_is c.args.begun.now.subtable flags same set large)
    (reads_then (filled_to 2) (λ _. wide_rest) (λ _. tt) (option_map map_of) tt c.in_ok-take_fill.ensures.fill
    (reads_then (each list_field (2 ∷ 2 ∷ 2 ∷ 2 ∷ [])) (λ lists. means (Some (wide lists))) (λ lists. map (λ list. list.items) lists) (option_map map_of) c.in_ok-lists.lists
    (c.in_ok-lists.ensures.lists (list_field 2) (λ alloc input left state rest result said. said.1.0))
    (reads_nothing (means (Some (wide (map (λ list. list.items) c.in_ok-lists.lists)))) (option_map map_of) _ refl)))

pub returns-in_err-lists-2-clause-lists : goal.returns-in_err-lists-2-clause-lists
returns-in_err-lists-2-clause-lists g c =
    let flags = c.flags_of-flags.result in
    let same : flags ≡ flags_of c.args.begun.now.subtable = c.flags_of-flags.ensures ∙ ap (λ (b : Begun). flags_of b.subtable) c.begun.view_is in
    let set : has_bit 1 flags ≡ true = sym c.has_bit.ensures ∙ c.if-not-has_bit.false in
    let small : has_bit 4 flags ≡ false = sym c.has_bit-2.ensures ∙ c.if-has_bit.false in
    let p = err_from_is_err_and c.from_residual-in_err-lists-2.result c.from_residual-in_err-lists-2.ensures.1 in
    rw (p.1, p.2, bytes_is c.args.begun.now.subtable flags same set small)
    (reads_stopped (each list_field (1 ∷ 1 ∷ 1 ∷ 1 ∷ [])) (λ lists. means (Some (narrow lists))) (λ lists. map (λ list. list.items) lists) (option_map map_of) c.in_err-lists-2.field-0.0
    (c.in_err-lists-2.ensures.lists (list_field 1) (λ alloc input left state rest result said. said.1.0)))

pub returns-clause-lists : goal.returns-clause-lists
returns-clause-lists g c =
    let flags = c.flags_of-flags.result in
    let same : flags ≡ flags_of c.args.begun.now.subtable = c.flags_of-flags.ensures ∙ ap (λ (b : Begun). flags_of b.subtable) c.begun.view_is in
    let set : has_bit 1 flags ≡ true = sym c.has_bit.ensures ∙ c.if-not-has_bit.false in
    let small : has_bit 4 flags ≡ false = sym c.has_bit-2.ensures ∙ c.if-has_bit.false in
    rw (bytes_is c.args.begun.now.subtable flags same set small)
    (reads_then (each list_field (1 ∷ 1 ∷ 1 ∷ 1 ∷ [])) (λ lists. means (Some (narrow lists))) (λ lists. map (λ list. list.items) lists) (option_map map_of) c.in_ok-lists-2.lists
    (c.in_ok-lists-2.ensures.lists (list_field 1) (λ alloc input left state rest result said. said.1.0))
    (reads_nothing (means (Some (narrow (map (λ list. list.items) c.in_ok-lists-2.lists)))) (option_map map_of) _ refl))
