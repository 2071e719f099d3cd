use Rattle.std.proofs.Common.{◌≡◌, ◌+◌, ◌*◌, ◌≤◌, ◌^◌, ℕ, length}
use Rattle.szg_file.specs.Format.{Format}
use Rattle.szg_file.specs.Loading.{TakesAs}
use Rattle.szg_file.proofs.Readers.SubtableLoops.{Loading}
use Rattle.szg_file.proofs.reading.index.take_each.Given as goal

-- the items passed on so far are converted
abbrev pub invariant-items : goal.invariant-items
invariant-items g l = record {
  count : length l.taken.items ≡ length l.yielded;
  place : l.state.place ≤ l.fn.state.place + length l.yielded * 2 ^ 36;
  growth : l.state.growth + 2 * l.fn.state.place ≤ l.fn.state.growth + 2 * l.state.place + length l.yielded;
  loaded : (field : _ → Format _) (before : _ → ℕ) (after : _ → ℕ) → TakesAs g.F.Fn g.R.Input l.take field before after →
      Loading field l.fn.list.items l.yielded before after (λ taken. taken.items) l.taken l.fn.state l.state g.R.Input l.fn.input l.input;
}
