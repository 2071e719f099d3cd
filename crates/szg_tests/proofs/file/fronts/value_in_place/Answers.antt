use Rattle.szg_tests.proofs.file.fronts.value_in_place.Goals as goal

-- no block is noted
pub get-value-requires-clause-passed : goal.get-value-requires-clause-passed
get-value-requires-clause-passed g c = c.new-passed.ensures c.args.table.now.index c.args.table.now.content
