use Rattle.std.proofs.Common.{◌≡◌, ◌≢◌, get_or, length, drop, arith, sym, ap, ◌∙◌}
use Rattle.std.proofs.lemmas.Slice.Zip.{zip_turn, zip_end}
use Rattle.std.proofs.lemmas.List.{length_push}
use Rattle.szg_values.proofs.Letters.{code_at, not_later, not_later_here, not_later_next, not_later_ends}
use Rattle.szg_values.proofs.parsing.is_not_later.Goals as goal

pub returns-then-a-b : goal.returns-then-a-b
returns-then-a-b c = λ a b e f.
    let turn = zip_turn c.args.first.now c.args.second.now c.loop-a.yielded _ c.loop-a.a-iterator c.next.new.self c.next.result (cc) (cc) c.loop-a.yielded_by (c.in-Some.a, c.in-Some.b) c.in-Some.is c.next.ensures.steps in
    let n = length c.loop-a.yielded in
    let p : c.code_of_letter-a.result ≡ code_at (get_or c.args.first.now n 0) = c.code_of_letter-a.ensures ∙ ap code_at (turn.2 0) in
    let q : c.code_of_letter-b.result ≡ code_at (get_or c.args.second.now n 0) = c.code_of_letter-b.ensures ∙ ap code_at (turn.3 0) in
    let unequal : code_at (get_or c.args.first.now n 0) ≢ code_at (get_or c.args.second.now n 0) = λ h. c.if-a-b.true (p ∙ h ∙ sym q) in
    rw (p, q) (sym (not_later_here c.args.first.now c.args.second.now n turn.0 turn.1 unequal) ∙ sym c.loop-a.invariant ∙ rw (e, f) (not_later a b))

pub loop-a-preserved : goal.loop-a-preserved
loop-a-preserved c =
    let turn = zip_turn c.args.first.now c.args.second.now c.loop-a.yielded _ c.loop-a.a-iterator c.next.new.self c.next.result (cc) (cc) c.loop-a.yielded_by (c.in-Some.a, c.in-Some.b) c.in-Some.is c.next.ensures.steps in
    let n = length c.loop-a.yielded in
    let p : c.code_of_letter-a.result ≡ code_at (get_or c.args.first.now n 0) = c.code_of_letter-a.ensures ∙ ap code_at (turn.2 0) in
    let q : c.code_of_letter-b.result ≡ code_at (get_or c.args.second.now n 0) = c.code_of_letter-b.ensures ∙ ap code_at (turn.3 0) in
    let equal : code_at (get_or c.args.first.now n 0) ≡ code_at (get_or c.args.second.now n 0) = sym p ∙ c.if-a-b.false ∙ q in
    rw (length_push c.loop-a.yielded (c.in-Some.a, c.in-Some.b)) (c.loop-a.invariant ∙ not_later_next c.args.first.now c.args.second.now n turn.0 turn.1 equal)

pub returns : goal.returns
returns c = λ a b e f.
    let end = zip_end c.args.first.now c.args.second.now c.loop-a.yielded _ c.loop-a.a-iterator c.next.new.self c.next.result (cc) (cc) c.loop-a.yielded_by c.in-None.is c.next.ensures.steps in
    let n = length c.loop-a.yielded in
    sym (not_later_ends c.args.first.now (drop n c.args.second.now) n (omega arith)) ∙ sym c.loop-a.invariant ∙ rw (e, f) (not_later a b)
