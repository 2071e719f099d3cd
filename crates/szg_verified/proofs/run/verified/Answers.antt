use Rattle.std.proofs.Common.{◌∙◌}
use Rattle.szg_verified.proofs.Naming.{more_named}
use Rattle.szg_verified.proofs.run.verified.Goals as goal

pub returns : goal.returns
returns g c =
    let found = c.in_ok-found.ensures in
    record {
      whole = c.requires;
      named = more_named c.args.asked.names.now c.in_ok-materials.materials.items c.in_ok-found.found.materials.items found.asked c.in_ok-materials.ensures;
      true_tables = found.true_tables;
      logged = λ none. found.logged (c.text_in-log.ensures ∙ c.in_ok-log.ensures ∙ none);
      all = found.all;
      caused = found.caused;
    }
