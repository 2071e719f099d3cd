use Rattle.std.proofs.Common.{ℤ, Some, rules, SFits, subst, sym, w64}
use Rattle.std.proofs.lemmas.Int.{to_z-of_z}
use Rattle.szg_results.specs.Folders.{words_of}
use Rattle.szg_results.specs.Objects.{IsDtz}
use Rattle.szg_results.proofs.After.{dtz_is}
use Rattle.szg_results.proofs.folders.Folders.dtz.Goals as goal

pub returns-in-Ok-clause-dtz : goal.returns-in-Ok-clause-dtz
returns-in-Ok-clause-dtz g c =
    let files = g.S.FileSystem.content c.args.system.now in
    let tables = c.args.self.now.tables.items in
    let fits : SFits w64 c.signed.result = search rules in
    subst (λ (n : ℤ). IsDtz files (words_of c.args.self.now) tables c.args.position.now (Some n)) (sym (to_z-of_z w64 c.signed.result fits))
    (dtz_is files (words_of c.args.self.now) tables c.args.position.now c.in-Ok.distance.class c.in-Ok.distance.plies c.signed.result c.in-Ok.ensures.distance c.signed.ensures)
