use Rattle.std.proofs.Common.{List, ℕ, ◌++◌, map, ap, ◌∙◌}
use Rattle.szg_values.specs.declared.Kind.{Kind}
use Rattle.szg_values.specs.Material.{Sides}
use Rattle.szg_file.specs.Contents.{Part, part_numbers}
use Rattle.szg_file.specs.Held.{part_of}
use Rattle.szg_build.specs.Shown.{form_of}
use Rattle.szg_build.specs.Text.{flat_map_beside, front_lines, lines_text, part_lines}
use Rattle.szg_build.proofs.Writers.WritingLaws.{writes_then}
use Rattle.szg_build.proofs.writing.streaming.begin_dump.Goals as goal

abbrev front : ℕ → Sides → Kind → List ℕ → List ℕ
front form m k last = lines_text (front_lines (form_of form) m k last)

abbrev parts : Sides → List Part → List ℕ
parts m bytes = lines_text (flat_map_beside part_lines (part_numbers m) bytes)

pub returns-clause-given : goal.returns-clause-given
returns-clause-given g c =
    let x = c.args.index.now in
    let form = c.args.form in
    let last = c.args.last.now in
    let m = c.material-material.result.now in
    let h = writes_then (front form m c.kind.result last) (parts m (map part_of c.parts.result.now)) tt c.in_ok-put_front.ensures c.in_ok-put_parts.ensures in (
      h.bytes,
      h.given,
      h.answer.0.whole
          ∙ ap (λ (z : List ℕ). z ++ (front form m c.kind.result last ++ parts m (map part_of c.parts.result.now))) c.new-text.ensures.held
          ∙ ap (λ (y : Sides). front form y c.kind.result last ++ parts y (map part_of c.parts.result.now)) c.material-material.ensures
          ∙ ap (λ (y : Kind). front form x.material y last ++ parts x.material (map part_of c.parts.result.now)) c.kind.ensures
          ∙ ap (λ (y : List Part). front form x.material x.kind last ++ parts x.material y) c.parts.ensures.bytes,
    )
