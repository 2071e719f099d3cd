use Rattle.std.proofs.Common.{◌++◌, ◌∙◌, ap, List}
use Rattle.std.specs.Prelude.{Contains}
use Rattle.std.proofs.lemmas.List.Elements.{All-same}
use Rattle.szg_chess.specs.declared.Move.{Move}
use Rattle.szg_chess.specs.Moves.{legal_moves, legal_captures}
use Rattle.szg_chess.proofs.Position.captures_into.Goals as goal

pub returns-clause-legal : goal.returns-clause-legal
returns-clause-legal c =
    let p = c.args.self.now in
    let is = c.push_captures.ensures ∙ ap (λ (ms : List Move). ms ++ legal_captures p) c.requires in
    All-same (Contains (legal_moves p)) c.push_captures.new.moves.items (legal_captures p) is c.captures_fit.ensures.legal
