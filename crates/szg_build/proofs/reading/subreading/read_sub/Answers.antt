use Rattle.std.proofs.Common.{[], ◌∷◌, refl, option_map, rules}
use Rattle.std.specs.Prelude.{codes}
use Rattle.std.proofs.lemmas.Result.{err_from_is_err_and}
use Rattle.szg_file.specs.Held.{map_of}
use Rattle.szg_build.specs.declared.BuildFault.TheVariants.{Length, Order}
use Rattle.szg_build.specs.Fronts.{lines_after, sub_line}
use Rattle.szg_build.specs.Grammar.{fixed, value}
use Rattle.szg_build.specs.Packed.{values_held}
use Rattle.szg_build.specs.Shown.{form_of}
use Rattle.szg_build.specs.Wholes.{subtable_shown}
use Rattle.szg_build.proofs.Readers.LineParses.{known_reads}
use Rattle.szg_build.proofs.Readers.SayingLaws.{values_front}
use Rattle.szg_build.proofs.Readers.RestLaws.{place_stopped, order_refused, sub_read, fields_lack, flags_stopped, map_stopped, fields_read, map_lacks, counted_lacks, count_stopped, count_refused, values_after, values_stopped, values_read, values_lack}
use Rattle.szg_build.proofs.Readers.ReadingLaws.{passed_on, same_error}
use Rattle.szg_build.proofs.reading.subreading.read_sub.Goals as goal

pub returns-in_err-read_parsed-clause-lines : goal.returns-in_err-read_parsed-clause-lines
returns-in_err-read_parsed-clause-lines g c =
    let p = err_from_is_err_and c.from_residual.result c.from_residual.ensures.1 in
    rw (p.1, p.2) (place_stopped (form_of c.args.form) c.args.kind (option_map (λ list. list.items) c.args.sizes.now) c.args.s c.args.place (λ _. []) subtable_shown c.in_err-read_parsed.field-0.0
    (known_reads (lines_after (sub_line c.args.place)) (λ _. []) (λ text stated gave. search rules) c.in_err-read_parsed.ensures.lines))

pub returns-then-not-may_follow-clause-lines : goal.returns-then-not-may_follow-clause-lines
returns-then-not-may_follow-clause-lines g c =
    order_refused (form_of c.args.form) c.args.kind (option_map (λ list. list.items) c.args.sizes.now) c.args.s c.args.place (λ _. []) c.in_ok-read_parsed.field-0 subtable_shown Order c.if-not-may_follow.ensures
    (known_reads (lines_after (sub_line c.args.place)) (λ _. []) (λ text stated gave. search rules) c.in_ok-read_parsed.ensures.lines)

pub returns-in_err-flags-clause-lines : goal.returns-in_err-flags-clause-lines
returns-in_err-flags-clause-lines g c =
    let p = err_from_is_err_and c.from_residual-in_err-flags.result c.from_residual-in_err-flags.ensures.1 in
    rw (p.1, p.2) (sub_read (form_of c.args.form) c.args.kind (option_map (λ list. list.items) c.args.sizes.now) c.args.s c.args.place (λ _. []) c.in_ok-read_parsed.field-0 subtable_shown Order c.if-not-may_follow.ensures
    (known_reads (lines_after (sub_line c.args.place)) (λ _. []) (λ text stated gave. search rules) c.in_ok-read_parsed.ensures.lines)
    (flags_stopped (form_of c.args.form) c.args.kind (option_map (λ list. list.items) c.args.sizes.now) c.args.s subtable_shown c.in_err-flags.field-0.0 c.in_err-flags.ensures.lines))

pub returns-in_err-map-clause-lines : goal.returns-in_err-map-clause-lines
returns-in_err-map-clause-lines g c =
    let p = err_from_is_err_and c.from_residual-in_err-map.result c.from_residual-in_err-map.ensures.1 in
    rw (p.1, p.2) (sub_read (form_of c.args.form) c.args.kind (option_map (λ list. list.items) c.args.sizes.now) c.args.s c.args.place (λ _. []) c.in_ok-read_parsed.field-0 subtable_shown Order c.if-not-may_follow.ensures
    (known_reads (lines_after (sub_line c.args.place)) (λ _. []) (λ text stated gave. search rules) c.in_ok-read_parsed.ensures.lines)
    (map_stopped (form_of c.args.form) c.args.kind (option_map (λ list. list.items) c.args.sizes.now) c.args.s c.in_ok-flags.flags (option_map map_of) subtable_shown c.in_err-map.field-0.0 c.in_ok-flags.ensures.lines c.in_err-map.ensures.lines))

pub returns-in_err-count-clause-lines : goal.returns-in_err-count-clause-lines
returns-in_err-count-clause-lines g c =
    let p = err_from_is_err_and c.from_residual-in_err-count.result c.from_residual-in_err-count.ensures.1 in
    rw (p.1, p.2) (sub_read (form_of c.args.form) c.args.kind (option_map (λ list. list.items) c.args.sizes.now) c.args.s c.args.place (λ _. []) c.in_ok-read_parsed.field-0 subtable_shown Order c.if-not-may_follow.ensures
    (known_reads (lines_after (sub_line c.args.place)) (λ _. []) (λ text stated gave. search rules) c.in_ok-read_parsed.ensures.lines)
    (fields_read (form_of c.args.form) c.args.kind (option_map (λ list. list.items) c.args.sizes.now) c.args.s c.in_ok-flags.flags (option_map map_of) c.in_ok-map.map subtable_shown c.in_ok-flags.ensures.lines c.in_ok-map.ensures.lines
    (count_stopped (form_of c.args.form) (option_map (λ list. list.items) c.args.sizes.now) c.args.s c.in_ok-flags.flags (option_map map_of c.in_ok-map.map) subtable_shown c.in_err-count.field-0.0 (c.in_err-count.ensures.lines (fixed (codes "values") ∷ value ∷ []) values_front))))

pub returns-then-not-may_have-clause-lines : goal.returns-then-not-may_have-clause-lines
returns-then-not-may_have-clause-lines g c =
    sub_read (form_of c.args.form) c.args.kind (option_map (λ list. list.items) c.args.sizes.now) c.args.s c.args.place (λ _. []) c.in_ok-read_parsed.field-0 subtable_shown Order c.if-not-may_follow.ensures
    (known_reads (lines_after (sub_line c.args.place)) (λ _. []) (λ text stated gave. search rules) c.in_ok-read_parsed.ensures.lines)
    (fields_read (form_of c.args.form) c.args.kind (option_map (λ list. list.items) c.args.sizes.now) c.args.s c.in_ok-flags.flags (option_map map_of) c.in_ok-map.map subtable_shown c.in_ok-flags.ensures.lines c.in_ok-map.ensures.lines
    (count_refused (form_of c.args.form) (option_map (λ list. list.items) c.args.sizes.now) c.args.s c.in_ok-flags.flags (option_map map_of c.in_ok-map.map) subtable_shown c.in_ok-count.count (Length c.args.s) c.if-not-may_have.ensures (c.in_ok-count.ensures.lines (fixed (codes "values") ∷ value ∷ []) values_front)))

pub returns-in_err-values-clause-lines : goal.returns-in_err-values-clause-lines
returns-in_err-values-clause-lines g c =
    let p = err_from_is_err_and c.from_residual-in_err-values.result c.from_residual-in_err-values.ensures.1 in
    rw (p.1, p.2) (sub_read (form_of c.args.form) c.args.kind (option_map (λ list. list.items) c.args.sizes.now) c.args.s c.args.place (λ _. []) c.in_ok-read_parsed.field-0 subtable_shown Order c.if-not-may_follow.ensures
    (known_reads (lines_after (sub_line c.args.place)) (λ _. []) (λ text stated gave. search rules) c.in_ok-read_parsed.ensures.lines)
    (fields_read (form_of c.args.form) c.args.kind (option_map (λ list. list.items) c.args.sizes.now) c.args.s c.in_ok-flags.flags (option_map map_of) c.in_ok-map.map subtable_shown c.in_ok-flags.ensures.lines c.in_ok-map.ensures.lines
    (values_after (form_of c.args.form) (option_map (λ list. list.items) c.args.sizes.now) c.args.s c.in_ok-flags.flags (option_map map_of c.in_ok-map.map) subtable_shown c.in_ok-count.count (Length c.args.s) c.if-not-may_have.ensures (c.in_ok-count.ensures.lines (fixed (codes "values") ∷ value ∷ []) values_front)
    (values_stopped (form_of c.args.form) c.in_ok-flags.flags (option_map map_of c.in_ok-map.map) values_held subtable_shown c.in_ok-count.count c.in_err-values.field-0.0 c.in_err-values.ensures.lines))))

pub returns-clause-lines : goal.returns-clause-lines
returns-clause-lines g c =
    sub_read (form_of c.args.form) c.args.kind (option_map (λ list. list.items) c.args.sizes.now) c.args.s c.args.place (λ _. []) c.in_ok-read_parsed.field-0 subtable_shown Order c.if-not-may_follow.ensures
    (known_reads (lines_after (sub_line c.args.place)) (λ _. []) (λ text stated gave. search rules) c.in_ok-read_parsed.ensures.lines)
    (fields_read (form_of c.args.form) c.args.kind (option_map (λ list. list.items) c.args.sizes.now) c.args.s c.in_ok-flags.flags (option_map map_of) c.in_ok-map.map subtable_shown c.in_ok-flags.ensures.lines c.in_ok-map.ensures.lines
    (values_after (form_of c.args.form) (option_map (λ list. list.items) c.args.sizes.now) c.args.s c.in_ok-flags.flags (option_map map_of c.in_ok-map.map) subtable_shown c.in_ok-count.count (Length c.args.s) c.if-not-may_have.ensures (c.in_ok-count.ensures.lines (fixed (codes "values") ∷ value ∷ []) values_front)
    (values_read (form_of c.args.form) c.in_ok-flags.flags (option_map map_of c.in_ok-map.map) values_held subtable_shown c.in_ok-count.count c.in_ok-values.values _ refl c.in_ok-values.ensures.lines)))

pub returns-in_err-read_parsed-clause-memory : goal.returns-in_err-read_parsed-clause-memory
returns-in_err-read_parsed-clause-memory g c =
    passed_on c.from_residual.ensures.1 c.in_err-read_parsed.ensures.memory

pub returns-in_err-flags-clause-memory : goal.returns-in_err-flags-clause-memory
returns-in_err-flags-clause-memory g c =
    passed_on c.from_residual-in_err-flags.ensures.1 c.in_err-flags.ensures.memory

pub returns-in_err-map-clause-memory : goal.returns-in_err-map-clause-memory
returns-in_err-map-clause-memory g c =
    let p = err_from_is_err_and c.from_residual-in_err-map.result c.from_residual-in_err-map.ensures.1 in
    rw (p.1, p.2) (λ e. fields_lack (form_of c.args.form) c.args.kind (option_map (λ list. list.items) c.args.sizes.now) c.args.s c.args.place (λ _. []) c.in_ok-read_parsed.field-0 Order c.args.following c.if-not-may_follow.ensures
    (known_reads (lines_after (sub_line c.args.place)) (λ _. []) (λ text stated gave. search rules) c.in_ok-read_parsed.ensures.lines)
    (map_lacks (form_of c.args.form) c.args.kind (option_map (λ list. list.items) c.args.sizes.now) c.args.s c.in_ok-flags.flags c.args.following c.in_ok-flags.ensures.lines (c.in_err-map.ensures.memory (same_error e))))

pub returns-in_err-count-clause-memory : goal.returns-in_err-count-clause-memory
returns-in_err-count-clause-memory g c =
    passed_on c.from_residual-in_err-count.ensures.1 c.in_err-count.ensures.memory

pub returns-in_err-values-clause-memory : goal.returns-in_err-values-clause-memory
returns-in_err-values-clause-memory g c =
    let p = err_from_is_err_and c.from_residual-in_err-values.result c.from_residual-in_err-values.ensures.1 in
    rw (p.1, p.2) (λ e. fields_lack (form_of c.args.form) c.args.kind (option_map (λ list. list.items) c.args.sizes.now) c.args.s c.args.place (λ _. []) c.in_ok-read_parsed.field-0 Order c.args.following c.if-not-may_follow.ensures
    (known_reads (lines_after (sub_line c.args.place)) (λ _. []) (λ text stated gave. search rules) c.in_ok-read_parsed.ensures.lines)
    (counted_lacks (form_of c.args.form) c.args.kind (option_map (λ list. list.items) c.args.sizes.now) c.args.s c.in_ok-flags.flags (option_map map_of) c.in_ok-map.map c.args.following c.in_ok-flags.ensures.lines c.in_ok-map.ensures.lines
    (values_lack (form_of c.args.form) (option_map (λ list. list.items) c.args.sizes.now) c.args.s c.in_ok-flags.flags (option_map map_of c.in_ok-map.map) c.in_ok-count.count (Length c.args.s) c.args.following c.if-not-may_have.ensures (c.in_ok-count.ensures.lines (fixed (codes "values") ∷ value ∷ []) values_front) (c.in_err-values.ensures.memory (same_error e)))))
