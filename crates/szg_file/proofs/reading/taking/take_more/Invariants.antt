use Rattle.std.proofs.Common.{◌≡◌, ◌+◌, ◌≤◌, ◌-◌, length, take, drop, Ok}
use Rattle.szg_file.specs.Format.{field, means}
use Rattle.szg_file.specs.Reading.{Reading}
use Rattle.szg_file.specs.Grown.{HasCounted}
use Rattle.szg_file.proofs.reading.taking.take_more.Given as goal

-- the first bytes of the field were read, and are at the end of the list
abbrev pub invariant-chunks : goal.invariant-chunks
invariant-chunks g l =
    (l.left ≤ l.count)
    × Reading (field (l.count - l.left) means) (λ (_ : Unit {0}). drop (length l.initial.list.items) l.list.items) l.initial.state l.state
    g.R.Input l.initial.input l.input (Ok tt)
    × (take (length l.initial.list.items) l.list.items ≡ l.initial.list.items)
    × (length l.list.items ≡ length l.initial.list.items + (l.count - l.left))
    × (l.state.place ≡ l.initial.state.place + (l.count - l.left))
    × (l.state.growth ≡ l.initial.state.growth + (l.count - l.left))
    × HasCounted l.initial.state l.state (length l.initial.list.items) (length l.list.items)

abbrev pub decreases-chunks : goal.decreases-chunks
decreases-chunks g l = l.left
