use Rattle.std.proofs.Common.{◌≡◌, Some, rules, sym, ap, subst, ◌∙◌, inl, inr}
use Rattle.szg_file.proofs.Readers.StreamedRead.{file_taken}
use Rattle.szg_answers.specs.Refusals.{IsRefused, part_refusal}
use Rattle.szg_words.specs.declared.request.Action.{Action}
use Rattle.szg_answers.specs.declared.refusal.Refusal.{Refusal}
use Rattle.szg_answers.specs.declared.refusal.Refusal.TheVariants as why
use Rattle.szg_answers.proofs.Requests.{listed_is_placed}
use Rattle.szg_answers.proofs.StreamedFiles.{is_table_of, size_read}
use Rattle.szg_answers.proofs.streaming.read_listed.Goals as goal

-- the words were a whole request before anything was read
pub returns-in-Err-Refused-clause-refused : goal.returns-in-Err-Refused-clause-refused
returns-in-Err-Refused-clause-refused g c = λ refusal is.
    let read = c.in-Err-Refused.ensures.scanned in
    inl (inr (record {
      placed = listed_is_placed c.args.request.now.action c.requires.listed;
      material = c.in-Ok.material;
      named = search rules;
      place = c.in-Err-Refused.place;
      reason = c.in-Err-Refused.reason;
      stated = search rules;
      bytes = read.bytes;
      taken = read.taken;
      refused = rw (c.in-Err-Refused.field-0-is) at read.took;
    }))

-- the table has no such part and side
pub returns-in-None-clause-refused : goal.returns-in-None-clause-refused
returns-in-None-clause-refused g c = λ refusal is.
    let request = c.args.request.now in
    let read = c.in-Ok-scan.ensures.scanned in
    let t = read.table in
    let queried = is_table_of request c.in-Ok.material t c.in-Ok.ensures.named.0 c.in-Ok.ensures.named.1 read.read.table in
    let sized = size_read c.in-Ok-scan.scanned.index t c.size.result request.part request.side read.index_is queried.accepted c.size.ensures in
    let same : why.Part ≡ refusal = cc in
    inr (record {
      placed = listed_is_placed request.action c.requires.listed;
      table = t;
      queried = queried;
      taken = file_taken g.F.Input c.in-Ok.material request.kind c.args.file.now c.scan.new.input t read.read;
      refused = subst (λ (a : Action). IsRefused a request.part request.side t.contents refusal) (sym c.in-Values.is) (ap part_refusal (sym sized) ∙ ap part_refusal c.in-None.is ∙ ap (λ (r : Refusal). Some r) same);
    })

pub returns-clause-table : goal.returns-clause-table
returns-clause-table g c =
    let read = c.in-Ok-scan.ensures.scanned in
    (read.table, is_table_of c.args.request.now c.in-Ok.material read.table c.in-Ok.ensures.named.0 c.in-Ok.ensures.named.1 read.read.table, read.index_is, file_taken g.F.Input c.in-Ok.material c.args.request.now.kind c.args.file.now c.scan.new.input read.table read.read)
