use Rattle.std.proofs.Common.{◌≡◌, ◌∙◌, ℕ, List, ap, arith, refl, subst, sym}
use Rattle.std.specs.List.{after_first, before_first}
use Rattle.std.proofs.lemmas.List.{length-set}
use Rattle.szg_mapped.specs.InPlace.{InPlace}
use Rattle.szg_c.specs.FenLines.{IsProbed, is_line_feed, line_at, text_from}
use Rattle.szg_c.proofs.LinesProbed.{none_probed, one_more, text_from-more, text_from-none}
use Rattle.szg_c.proofs.fen_lines.classes_in.Goals.{then-first-eq-DONE, else-first-eq-DONE}
use Rattle.szg_c.proofs.fen_lines.classes_in.Goals as goal

pub loop-i-init : goal.loop-i-init
loop-i-init c = record {
  kept = refl;
  rest = sym (text_from-none c.args.fens.now);
  many = refl;
  probed = none_probed c.args.set.now c.args.fens.now c.args.classes.now;
}

pub loop-i-preserved : goal.loop-i-preserved
loop-i-preserved c =
    let before = c.loop-i.invariant in let i = c.loop-i.i in let step = c.class_of_line-status in
    let line : c.first_line.result.0.now ≡ line_at c.args.fens.now i = c.first_line.ensures.line ∙ ap (before_first is_line_feed) before.rest in
    let after : c.first_line.result.1.now ≡ after_first is_line_feed (text_from c.args.fens.now i) = c.first_line.ensures.after ∙ ap (after_first is_line_feed) before.rest in
    let probed : IsProbed c.args.set.now (line_at c.args.fens.now i) step.result step.new.class =
    subst (λ (files : List InPlace). IsProbed files (line_at c.args.fens.now i) step.result step.new.class) before.kept
    (subst (λ (text : List ℕ). IsProbed c.loop-i.set text step.result step.new.class) line step.ensures.probed) in
    let long = length-set c.loop-i.classes i step.new.class in let many = before.many in let test = c.loop-i-test.true in
    record {
      kept = step.ensures.kept ∙ before.kept;
      rest = after ∙ sym (text_from-more c.args.fens.now i);
      many = long ∙ many;
      probed = one_more c.args.set.now c.args.fens.now c.loop-i.classes i step.new.class c.loop-i.first step.result c.if-first-eq-DONE.first before.probed
          (omega (arith, test, many)) probed
          (λ e. elim c.if-first-eq-DONE.branch [ then-first-eq-DONE w ↦ w.first-is | else-first-eq-DONE w ↦ absurd (w.if-first-eq-DONE.false e) ])
          (λ n. elim c.if-first-eq-DONE.branch [ then-first-eq-DONE w ↦ absurd (n w.if-first-eq-DONE.true) | else-first-eq-DONE w ↦ w.first-is ]);
    }
