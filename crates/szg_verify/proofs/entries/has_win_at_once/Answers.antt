use Rattle.std.specs.Prelude.{Result, IfOk, Ok, Err, ◌≡◌, Bool, false, List, All, Contains, filter}
use Rattle.std.specs.List.{list_any}
use Rattle.std.proofs.Common.{◌∙◌, ap, sym, subst}
use Rattle.std.proofs.lemmas.List.Elements.{All-contains_itself}
use Rattle.szg_game.specs.declared.Class.{Class}
use Rattle.szg_chess.specs.declared.Move.{Move}
use Rattle.szg_chess.specs.Position.{Position}
use Rattle.szg_chess.specs.Moves.{is_capture, legal_moves}
use Rattle.szg_probe.specs.Probing.{StoredClasses}
use Rattle.szg_verify.specs.Entries.{wins_at_once}
use Rattle.szg_verify.specs.Memory.{holds_pawn}
use Rattle.szg_verify.proofs.Zeroing.{won_by_captures}
use Rattle.szg_verify.proofs.entries.has_win_at_once.Goals as goal

pub some_wins-requires : goal.some_wins-requires
some_wins-requires g c =
    let ms = c.as_slice.result.now in
    record { legal = subst (λ (all : List Move). All (Contains all) ms) (c.as_slice.ensures.value ∙ c.legal_moves.ensures) (All-contains_itself ms) }

pub some_wins-requires-else-holds_pawn : goal.some_wins-requires-else-holds_pawn
some_wins-requires-else-holds_pawn g c = record { legal = subst (All (Contains (legal_moves c.args.position.now))) (sym c.as_slice-else-holds_pawn.ensures.value) c.captures-2.ensures.legal }

among : {E : Type 0} (r : Result Bool E) (classes : StoredClasses) (k : Class) (p : Position) (captures : List Move) → holds_pawn p.placed_men ≡ false → captures ≡ filter (is_capture p) (legal_moves p) →
    IfOk r (λ b. b ≡ list_any (wins_at_once classes k p) captures) → IfOk r (λ b. b ≡ list_any (wins_at_once classes k p) (legal_moves p))
among (Ok b) classes k p captures none same h = h ∙ won_by_captures classes k p captures none same
among (Err e) classes k p captures none same h = h

pub returns-else-holds_pawn-clause-test : goal.returns-else-holds_pawn-clause-test
returns-else-holds_pawn-clause-test g c =
    among c.some_wins-else-holds_pawn.result (g.T.Tables.stored c.args.classes.now) c.args.class c.args.position.now c.as_slice-else-holds_pawn.result.now
    (ap holds_pawn (sym c.men.ensures.men) ∙ sym c.holds_pawn.ensures ∙ c.if-holds_pawn.false)
    (c.as_slice-else-holds_pawn.ensures.value ∙ c.captures-2.ensures.all) c.some_wins-else-holds_pawn.ensures.test
