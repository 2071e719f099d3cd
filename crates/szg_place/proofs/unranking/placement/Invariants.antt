use Rattle.szg_count.specs.Views.{nibbles_in}
use Rattle.szg_place.proofs.Placements.Stating.{sets_stated}
use Rattle.szg_place.proofs.unranking.placement.Given as goal

-- the order's nibbles, and the squares of the index
abbrev pub ghost-squares_at : goal.ghost-squares_at
ghost-squares_at a = (nibbles_in a.grouped.now.order, sets_stated a.material.now a.part (nibbles_in a.grouped.now.order) a.index)
