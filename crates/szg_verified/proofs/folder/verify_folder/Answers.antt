use Rattle.szg_verified.proofs.Causes.{caused_by_same, true_by_same}
use Rattle.szg_verified.proofs.folder.verify_folder.Goals as goal

pub returns-in-Ok-clause-true_tables : goal.returns-in-Ok-clause-true_tables
returns-in-Ok-clause-true_tables g c = λ t. true_by_same _ _ _ _ c.in-Ok.found.logged.items c.deref-2.ensures.value c.deref-3.ensures.value (c.in-Ok.ensures.true_tables t)

pub returns-in-Ok-clause-caused : goal.returns-in-Ok-clause-caused
returns-in-Ok-clause-caused g c = caused_by_same _ _ _ _ _ c.deref-2.ensures.value c.deref-3.ensures.value c.in-Ok.ensures.caused
