use Rattle.std.proofs.Common.{◌∙◌, ap, option_map}
use Rattle.szg_file.specs.Contents.{Slot, Subtable}
use Rattle.szg_file.specs.Opened.{Opened, opened_at}
use Rattle.szg_file.proofs.Openings.OutlinedLaws.{size_opened}
use Rattle.szg_file.proofs.opened.Opened.size.Goals as goal

pub returns : goal.returns
returns g c =
    c.size.ensures ∙ size_opened c.self.inside.index (g.S.Source.content c.self.inside.blocks.source) c.args.part c.args.side c.self.invariant.1
    ∙ ap (λ (o : Opened). option_map (λ (found : Slot × Subtable). found.0.size) (opened_at o c.args.part c.args.side)) c.self.view_is
