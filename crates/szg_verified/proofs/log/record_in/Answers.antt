use Rattle.std.proofs.Common.{sym, Some, ◌++◌, ◌∙◌, ap, List, ℕ, arith, ◌≡◌, refl, Bool, true, false}
use Rattle.std.specs.Prelude.{codes, not, bytes_eq}
use Rattle.std.proofs.lemmas.Slice.Eq.{bytes_eq-Decides}
use Rattle.std.proofs.lemmas.Str.Pattern.{split_text_parts, strip_prefix_char}
use Rattle.szg_verified.proofs.Logs.{record_of}
use Rattle.szg_verified.proofs.log.record_in.Goals as goal

not-false : (b : Bool) → false ≡ not b → true ≡ b
not-false true e = refl
not-false false e = absurd (cc e)

pub returns-clause-record : goal.returns-clause-record
returns-clause-record c =
    let name = c.in_ok-strip_prefix.ensures.cases in
    let space = strip_prefix_char 32 c.in_ok-strip_prefix.field-0.now (Some c.in_ok-said.said) c.in_ok-said.ensures.cases (omega arith) in
    let extent = split_text_parts (codes "verified positions ") c.in_ok-said.said.now (Some (c.in_ok-extent.extent, c.in_ok-extent.said)) c.in_ok-extent.ensures.cases in
    let positions = split_text_parts (codes " sha256 ") c.in_ok-extent.said.now (Some (c.in_ok-positions.positions, c.in_ok-positions.found)) c.in_ok-positions.ensures.cases in
    let same = (bytes_eq-Decides c.in_ok-positions.found.now c.args.digest.now).0 (sym (not-false (bytes_eq c.in_ok-positions.found.now c.args.digest.now) c.if-ne.ensures)) in
    record_of c.args.name.now c.args.digest.now c.args.line.now c.in_ok-strip_prefix.field-0.now c.in_ok-said.said.now c.in_ok-extent.said.now c.in_ok-extent.extent.now c.in_ok-positions.positions.now c.in_ok-positions.found.now
    c.in_ok-extent_of.field-0.before c.in_ok-extent_of.field-0.shards
    (name.1.1 ∙ ap (λ (x : List ℕ). c.args.name.now ++ x) (sym name.2)) space extent positions same c.in_ok-extent_of.ensures.extent
