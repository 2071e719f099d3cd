use Rattle.std.proofs.Common.{◌≡◌, ℕ, List, sym, ap, cond}
use Rattle.szg_values.specs.Material.{count_of, man_codes, lead_pawns}
use Rattle.szg_count.proofs.Pawns.{first_leads-same, first_leads-other}
use Rattle.szg_count.proofs.cut.pawn_codes.Goals as goal

pub returns-then-count_of-from-clause-lead : goal.returns-then-count_of-from-clause-lead
returns-then-count_of-from-clause-lead c h =
    let f = ap (λ (l : List ℕ). count_of 1 l) c.requires in
    let e : count_of 1 (man_codes c.args.material.now) ≡ lead_pawns c.args.material.now = cc in
    sym (ap (λ b. cond b 1 9) (first_leads-same c.args.material.now h e))

pub returns-then-count_of-from-clause-other : goal.returns-then-count_of-from-clause-other
returns-then-count_of-from-clause-other c h =
    let f = ap (λ (l : List ℕ). count_of 1 l) c.requires in
    let e : count_of 1 (man_codes c.args.material.now) ≡ lead_pawns c.args.material.now = cc in
    sym (ap (λ b. cond b 9 1) (first_leads-same c.args.material.now h e))

pub returns-else-count_of-from-clause-lead : goal.returns-else-count_of-from-clause-lead
returns-else-count_of-from-clause-lead c h =
    let f = ap (λ (l : List ℕ). count_of 1 l) c.requires in
    sym (ap (λ b. cond b 1 9) (first_leads-other c.args.material.now (λ e. c.if-count_of-from.false (cc))))

pub returns-else-count_of-from-clause-other : goal.returns-else-count_of-from-clause-other
returns-else-count_of-from-clause-other c h =
    let f = ap (λ (l : List ℕ). count_of 1 l) c.requires in
    sym (ap (λ b. cond b 9 1) (first_leads-other c.args.material.now (λ e. c.if-count_of-from.false (cc))))
