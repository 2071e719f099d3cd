use Rattle.std.proofs.Common.{◌≡◌, List, [], ◌∷◌, refl, ◌∙◌}
use Rattle.std.proofs.lemmas.Result.{err_from_is_err_and}
use Rattle.szg_file.specs.FileOf.{Section, written}
use Rattle.szg_file.proofs.Writers.WritingLaws.{writes_then, writes_stopped, writes_from, writes_held, writes_chunk, writes_chunk_stopped}
use Rattle.szg_file.proofs.writing.outgoing.put.Goals as goal

pub returns-in_err-flush : goal.returns-in_err-flush
returns-in_err-flush g c =
    let p = err_from_is_err_and c.from_residual.result c.from_residual.ensures.1 in
    let s : List Section = written c.args.chunk.now ∷ [] in
    rw (p.1, p.2)
    (writes_from s c.args.outgoing.now c.hold.new.outgoing c.if-hold.ensures.out (c.if-hold.ensures.kept refl) c.if-hold.ensures.fill
    (writes_stopped [] s c.in_err-flush.field-0.0 c.in_err-flush.ensures.none))

pub returns-in_err-outgoing : goal.returns-in_err-outgoing
returns-in_err-outgoing g c =
    let f = c.in_err-outgoing.ensures.fault in
    let p = err_from_is_err_and c.from_residual-in_err-outgoing.result c.from_residual-in_err-outgoing.ensures.1 in
    let s : List Section = written c.args.chunk.now ∷ [] in
    let h = c.if-not-hold.ensures in
    let before : c.hold-2.new.outgoing.held.items ≡ [] = h.kept refl ∙ c.in_ok-flush.ensures.held in
    rw (p.1, p.2)
    (writes_from s c.args.outgoing.now c.hold.new.outgoing c.if-hold.ensures.out (c.if-hold.ensures.kept refl) c.if-hold.ensures.fill
    (writes_then [] s c.in_ok-flush.field-0 c.in_ok-flush.ensures.none
    (writes_from s c.flush.new.outgoing c.hold-2.new.outgoing h.out (h.kept refl) h.fill
    (writes_chunk_stopped c.args.chunk.now c.hold-2.new.outgoing _ f.0 c.in_err-outgoing.field-0.0 before f.1 f.2 f.3 c.in_err-outgoing.ensures.failed))))

pub returns-in_ok-outgoing : goal.returns-in_ok-outgoing
returns-in_ok-outgoing g c =
    let s : List Section = written c.args.chunk.now ∷ [] in
    let h = c.if-not-hold.ensures in
    let before : c.hold-2.new.outgoing.held.items ≡ [] = h.kept refl ∙ c.in_ok-flush.ensures.held in
    writes_from s c.args.outgoing.now c.hold.new.outgoing c.if-hold.ensures.out (c.if-hold.ensures.kept refl) c.if-hold.ensures.fill
    (writes_then [] s c.in_ok-flush.field-0 c.in_ok-flush.ensures.none
    (writes_from s c.flush.new.outgoing c.hold-2.new.outgoing h.out (h.kept refl) h.fill
    (writes_chunk tt c.args.chunk.now c.hold-2.new.outgoing _ before before c.in_ok-outgoing.ensures.ok refl c.in_ok-outgoing.ensures.given c.in_ok-outgoing.ensures.quiet)))

pub returns-else-not-hold : goal.returns-else-not-hold
returns-else-not-hold g c =
    let s : List Section = written c.args.chunk.now ∷ [] in
    let h = c.if-not-hold.ensures in
    writes_from s c.args.outgoing.now c.hold.new.outgoing c.if-hold.ensures.out (c.if-hold.ensures.kept refl) c.if-hold.ensures.fill
    (writes_then [] s c.in_ok-flush.field-0 c.in_ok-flush.ensures.none
    (writes_held tt c.args.chunk.now c.flush.new.outgoing c.hold-2.new.outgoing h.out (h.held refl) h.fill))
