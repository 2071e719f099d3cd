use Rattle.std.proofs.Common.{rules}
use Rattle.szg_block.specs.Subtable.{layout_of}
use Rattle.szg_file.proofs.Readers.KeptIndexes.{kept_passes, kept_short, kept_entry_fails, entry_below}
use Rattle.szg_file.proofs.reading.index.index_refusal.Goals as goal

pub overflow_mul-result : goal.overflow_mul-result
overflow_mul-result c =
    let fault = rw c.in-Err-SparseEntry.field-0-is at c.in-Err-SparseEntry.ensures.fault in
    let within = c.in-Err-SparseEntry.ensures.entry c.in-Err-SparseEntry.entry (let e = c.in-Err-SparseEntry.field-0-is in cc) in
    let below = entry_below c.args.size c.in-Err-SparseEntry.entry _ (layout_of c.args.sub.now) c.requires.indexed.0.1 c.requires.indexed.1 within fault.1 in
    search (rules, below)

pub overflow_add-result : goal.overflow_add-result
overflow_add-result c =
    let fault = rw c.in-Err-SparseEntry.field-0-is at c.in-Err-SparseEntry.ensures.fault in
    let within = c.in-Err-SparseEntry.ensures.entry c.in-Err-SparseEntry.entry (let e = c.in-Err-SparseEntry.field-0-is in cc) in
    let below = entry_below c.args.size c.in-Err-SparseEntry.entry _ (layout_of c.args.sub.now) c.requires.indexed.0.1 c.requires.indexed.1 within fault.1 in
    search (rules, below)

pub returns-in-Ok-clause-checks : goal.returns-in-Ok-clause-checks
returns-in-Ok-clause-checks c = kept_passes c.args.place c.args.index c.args.size c.args.before_last (layout_of c.args.sub.now) c.in-Ok.ensures.ok

pub returns-in-Err-ShortTotal-clause-checks : goal.returns-in-Err-ShortTotal-clause-checks
returns-in-Err-ShortTotal-clause-checks c =
    let fault = rw c.in-Err-ShortTotal.field-0-is at c.in-Err-ShortTotal.ensures.fault in
    kept_short c.args.place c.args.index c.args.size c.args.before_last (layout_of c.args.sub.now) fault.1

pub returns-in-Err-SparseEntry-clause-checks : goal.returns-in-Err-SparseEntry-clause-checks
returns-in-Err-SparseEntry-clause-checks c =
    let fault = rw c.in-Err-SparseEntry.field-0-is at c.in-Err-SparseEntry.ensures.fault in
    kept_entry_fails c.args.place c.args.index c.args.size c.args.before_last c.in-Err-SparseEntry.entry (layout_of c.args.sub.now) fault.1
