use Rattle.std.proofs.Common.{ℕ, ◌<◌, List, [], ◌∷◌, ◌++◌, length, refl, rules, arith}
use Rattle.szg_io.specs.Moved.{Gives}
use Rattle.szg_io.proofs.DeviceLaws.{Gives-on, Gives-none}
use Rattle.szg_archive.proofs.Reporting.{reports_next, manifest_next, counts_more, counts_once}
use Rattle.szg_archive.proofs.many.check_entries.Goals as goal

pub entries-init : goal.entries-init
entries-init g c = record {
  quiet = refl;
  found = [];
  text = [];
  reports = (refl, refl);
  given = Gives-none _ _ 0;
  counts = record { good = search rules; refused = search rules; unread = search rules; kept = search rules; skipped = search rules };
  all = omega arith;
  lists = search rules;
}

pub entries-preserved : goal.entries-preserved
entries-preserved g c =
    let h = c.entries.invariant in
    let at = c.in_ok-reported.reported.found in
    let line : List ℕ = c.in_ok-reported.reported.line.items in
    let below : c.entries.entry-index < length c.args.entries.now = omega arith in
    let gave : Gives g.W.Output c.entries.writer c.give_whole.new.output line 0 = search rules in
    record {
      quiet = search rules;
      found = h.found ++ at ∷ [];
      text = h.text ++ line;
      reports = reports_next g.S.FileSystem.content g.S.FileSystem.failures g.S.File.Input c.args.options c.args.entries.now c.entries.entry-index c.entry-item.result h.found at c.args.system.now c.entries.system h.text
          c.report_entry.new.system line below c.entry-item.is h.reports c.in_ok-reported.ensures.verdict c.in_ok-reported.ensures.line;
      given = Gives-on h.text line 0 h.given gave;
      counts = counts_more _ h.found at c.entries.tally c.with-tally.result h.counts c.with-tally.ensures.good c.with-tally.ensures.refused c.with-tally.ensures.unread c.with-tally.ensures.kept c.with-tally.ensures.skipped;
      all = let once = counts_once c.args.options.allow_trailing at.verdict in omega (arith, once, h.all, c.with-tally.ensures.good, c.with-tally.ensures.refused, c.with-tally.ensures.unread, c.with-tally.ensures.kept, c.with-tally.ensures.skipped);
      lists = manifest_next g.S.FileSystem.content g.S.FileSystem.failures g.S.File.Input c.args.options c.args.entries.now c.entries.entry-index c.entry-item.result h.found at c.args.system.now c.entries.system h.text
          c.args.options.allow_trailing _ _ _ below c.entry-item.is h.reports h.lists (search rules) c.in_ok-reported.ensures.listed;
    }

pub with-tally-requires : goal.with-tally-requires
with-tally-requires g c =
    let all = c.entries.invariant.all in
    let below : c.entries.entry-index < length c.args.entries.now = omega arith in
    record { good = omega (arith, all); refused = omega (arith, all); unread = omega (arith, all); kept = omega (arith, all); skipped = omega (arith, all) }
