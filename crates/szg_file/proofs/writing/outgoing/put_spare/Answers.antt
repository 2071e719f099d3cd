use Rattle.std.proofs.Common.{◌≡◌, List, ℕ, [], ◌∷◌, min, length, take, drop, refl, ap, subst, ◌∙◌}
use Rattle.std.proofs.lemmas.List.{take_min, drop_min}
use Rattle.std.proofs.Math.Nat.{min_comm}
use Rattle.szg_file.specs.FileOf.{written}
use Rattle.szg_file.specs.Writing.{Writing}
use Rattle.szg_file.proofs.Writers.WritingLaws.{writes_spare}
use Rattle.szg_file.proofs.writing.outgoing.put_spare.Goals as goal

pub returns : goal.returns
returns g c =
    let fill : List ℕ = c.args.outgoing.now.fill.now in
    let clipped : c.min-count.result ≡ min c.args.count (length fill) = c.min-count.ensures ∙ min_comm (length fill) c.args.count in
    let front : c.split_at.result.0.now ≡ take c.args.count fill =
    c.split_at.ensures.front ∙ ap (λ (n : ℕ). take n fill) clipped ∙ take_min c.args.count fill in
    let back : c.split_at.result.1.now ≡ drop c.args.count fill =
    c.split_at.ensures.back ∙ ap (λ (n : ℕ). drop n fill) clipped ∙ drop_min c.args.count fill in
    writes_spare c.args.count c.args.outgoing.now (record { out = c.args.outgoing.now.out; held = c.args.outgoing.now.held; fill = c.split_at.result.1 })
    c.put.result refl refl back
    (subst (λ (z : List ℕ). Writing (written z ∷ []) (record { out = c.args.outgoing.now.out; held = c.args.outgoing.now.held; fill = c.split_at.result.1 }) c.put.new.outgoing
    g.W.Output c.args.output.now c.put.new.output c.put.result) front c.put.ensures)
