use Rattle.std.proofs.Common.{◌≡◌, refl}
use Rattle.std.specs.Prelude.{string_bytes}
use Rattle.szg_answers.proofs.FrontFacts.{described}
use Rattle.szg_answers.proofs.fronts.show_lines.Goals as goal

pub returns-clause-stated : goal.returns-clause-stated
returns-clause-stated g c = λ part side.
    let opened = c.args.opened.now in
    let lines = c.in_ok-text.ensures in
    described g.S.File.Input c.args.file opened.front opened.read opened.front.length part side _ c.in-Ok.last.items (string_bytes c.in_ok-text.text) lines.0 refl c.ending-offset.ensures.ending refl c.ending-offset.ensures.inside c.in-Ok.ensures.block lines.1
