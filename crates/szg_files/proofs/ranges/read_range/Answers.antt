use Rattle.std.proofs.Common.{rules}
use Rattle.szg_files.proofs.RangeLaws.{range_known}
use Rattle.szg_files.proofs.ranges.read_range.Goals as goal

pub returns-in-Ok-clause-range : goal.returns-in-Ok-clause-range
returns-in-Ok-clause-range g c =
    let took = c.in-Ok.ensures.ok (search rules) in
    record {
      known = range_known _ _ _ c.args.skipped _ c.in_ok-rest.ensures.coming took.bytes_gone;
      rest = c.in_ok-rest.rest;
      unread = c.in_ok-rest.ensures.unread;
      coming = c.in_ok-rest.ensures.coming;
      ended = c.take_whole.new.input;
      taken = took;
    }
