use Rattle.szg_build.specs.Text.{dump_text}
use Rattle.szg_build.specs.Shown.{form_of, dump_seen}
use Rattle.szg_build.proofs.Writers.WritingLaws.{whole_answer, cut_answer, failed_answer, quiet_answer}
use Rattle.szg_build.proofs.writing.write_dump.Goals as goal

pub returns-clause-ok : goal.returns-clause-ok
returns-clause-ok g c = whole_answer (dump_text (form_of c.args.form) (dump_seen c.args.dump.now)) c.put_dump.result c.new-text.ensures.held c.put_dump.ensures.held c.put_dump.ensures.text

pub returns-clause-err : goal.returns-clause-err
returns-clause-err g c = cut_answer (dump_text (form_of c.args.form) (dump_seen c.args.dump.now)) c.put_dump.result c.new-text.ensures.held c.new-text.ensures.out c.put_dump.ensures.text

pub returns-clause-failed : goal.returns-clause-failed
returns-clause-failed g c = failed_answer (dump_text (form_of c.args.form) (dump_seen c.args.dump.now)) c.put_dump.result c.put_dump.ensures.text

pub returns-clause-quiet : goal.returns-clause-quiet
returns-clause-quiet g c = quiet_answer (dump_text (form_of c.args.form) (dump_seen c.args.dump.now)) c.put_dump.result c.put_dump.ensures.text
