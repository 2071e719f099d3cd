use Rattle.std.proofs.Common.{List, ℕ, Bor, sym, subst, arith}
use Rattle.std.proofs.lemmas.List.{take_all}
use Rattle.szg_verified.specs.Runs.{AreNamed}
use Rattle.szg_verified.proofs.Naming.{done, one_more_named}
use Rattle.szg_verified.proofs.run.materials_of.Goals as goal

pub names-preserved : goal.names-preserved
names-preserved c =
    let ok = c.if-is_err.ensures.value in
    one_more_named c.args.names.now c.names.materials.items c.add_once.new.materials.items c.names.name-index c.in-Ok.material _ c.names-test.true (sym c.in-Ok.ensures.parsed)
    (done c.add_once.result (sym ok) c.add_once.ensures.added) (done c.add_once.result (sym ok) c.add_once.ensures.kept) c.names.invariant

pub returns : goal.returns
returns c = subst (λ (ns : List (Bor (List ℕ))). AreNamed ns c.names.materials.items) (take_all c.names.name-index c.args.names.now (omega arith)) c.names.invariant
