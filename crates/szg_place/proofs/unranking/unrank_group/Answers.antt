use Rattle.std.proofs.Common.{◌≡◌, ℕ, List, length, sym, ap, ◌∙◌, Bool, true, arith}
use Rattle.std.specs.Prelude.{Some, slice_get, nat_lt, ◌&&◌, ◌==◌}
use Rattle.szg_values.specs.Material.{Sides, has_pawns, other_pawns}
use Rattle.szg_count.specs.Groups.{has_other_pawns}
use Rattle.szg_count.specs.Leads.{lead_pawn_sets}
use Rattle.szg_count.proofs.Pawns.{some_lead, has_other_pawns-counted}
use Rattle.szg_place.proofs.Ranks.Leading.{part_four, leads_pawns, leads_three, leads_two, lists_lead, lists_free, inside_free}
use Rattle.szg_place.proofs.Ranks.KingRanks.{pairs_many}
use Rattle.szg_place.proofs.Ranks.TripleRanks.{triples_many}
use Rattle.szg_place.proofs.unranking.unrank_group.Goals as goal

-- whether the group has the other pawns
is_pawns : (sides : Sides) (group : ℕ) {others : ℕ} → others ≡ other_pawns sides → (nat_lt 0 others && group == 1) ≡ (has_other_pawns sides && group == 1)
is_pawns sides group e = ap (λ (b : Bool). b && group == 1) (ap (λ (n : ℕ). nat_lt 0 n) e ∙ has_other_pawns-counted sides)

pub unrank_free_squares-requires-clause-inside : goal.unrank_free_squares-requires-clause-inside
unrank_free_squares-requires-clause-inside g c = inside_free c.requires.0 (λ e. omega (arith, e, c.if-group-gt0.true)) (is_pawns c.args.material.now c.args.group c.other_pawns.ensures)

pub unrank_free_squares-requires-clause-below : goal.unrank_free_squares-requires-clause-below
unrank_free_squares-requires-clause-below g c = let m = ap length (lists_free c.args.size c.requires.0 (λ e. omega (arith, e, c.if-group-gt0.true)) (is_pawns c.args.material.now c.args.group c.other_pawns.ensures)) in let h = c.requires.1.1 in omega (arith, m, h)

pub returns-then-group-gt0 : goal.returns-then-group-gt0
returns-then-group-gt0 g c = ap (λ (l : List (List ℕ)). slice_get l c.args.number) (lists_free c.args.size c.requires.0 (λ e. omega (arith, e, c.if-group-gt0.true)) (is_pawns c.args.material.now c.args.group c.other_pawns.ensures)) ∙ c.unrank_free_squares.ensures

pub unrank_lead_pawns-requires : goal.unrank_lead_pawns-requires
unrank_lead_pawns-requires g c =
    let sides = c.args.material.now in
    let e : has_pawns sides ≡ true = sym c.has_pawns.ensures ∙ c.if-has_pawns.true in
    let s = some_lead sides c.material.ensures.named e in
    let k = c.lead_pawns.ensures in
    let a = s.0 in let b = s.1 in
    record {
      some = omega (arith, a, k);
      few = omega (arith, b, k);
      file = part_four sides c.args.part e c.requires.0.has_part;
      below = let m = ap length (leads_pawns sides c.args.part e ∙ ap (λ n. lead_pawn_sets n c.args.part) (sym k)) in let h = c.requires.1.1 in let q = ap length (lists_lead c.args.size c.requires.0 (omega (arith, c.if-group-gt0.false))) in omega (arith, m, h, q);
    }

pub unrank_triple-requires : goal.unrank_triple-requires
unrank_triple-requires g c =
    let m = ap length (leads_three c.args.material.now c.args.part (sym c.has_pawns.ensures ∙ c.if-has_pawns.false) (sym c.single_lead.ensures ∙ c.if-single_lead.true)) in
    let h = c.requires.1.1 in let q = ap length (lists_lead c.args.size c.requires.0 (omega (arith, c.if-group-gt0.false))) in let b = triples_many in omega (arith, m, h, b, q)

pub unrank_kings-requires : goal.unrank_kings-requires
unrank_kings-requires g c =
    let m = ap length (leads_two c.args.material.now c.args.part (sym c.has_pawns.ensures ∙ c.if-has_pawns.false) (sym c.single_lead.ensures ∙ c.if-single_lead.false)) in
    let h = c.requires.1.1 in let q = ap length (lists_lead c.args.size c.requires.0 (omega (arith, c.if-group-gt0.false))) in let b = pairs_many in omega (arith, m, h, b, q)

pub returns-then-has_pawns : goal.returns-then-has_pawns
returns-then-has_pawns g c =
    ap (λ (s : List (List ℕ)). slice_get s c.args.number)
    (lists_lead c.args.size c.requires.0 (omega (arith, c.if-group-gt0.false)) ∙ leads_pawns c.args.material.now c.args.part (sym c.has_pawns.ensures ∙ c.if-has_pawns.true) ∙ ap (λ n. lead_pawn_sets n c.args.part) (sym c.lead_pawns.ensures))
    ∙ c.unrank_lead_pawns.ensures

pub returns-then-single_lead : goal.returns-then-single_lead
returns-then-single_lead g c =
    ap (λ (s : List (List ℕ)). slice_get s c.args.number)
    (lists_lead c.args.size c.requires.0 (omega (arith, c.if-group-gt0.false)) ∙ leads_three c.args.material.now c.args.part (sym c.has_pawns.ensures ∙ c.if-has_pawns.false) (sym c.single_lead.ensures ∙ c.if-single_lead.true))
    ∙ c.unrank_triple.ensures ∙ ap (λ (l : List ℕ). Some l) (sym c.copied.ensures)

pub returns-else-single_lead : goal.returns-else-single_lead
returns-else-single_lead g c =
    ap (λ (s : List (List ℕ)). slice_get s c.args.number)
    (lists_lead c.args.size c.requires.0 (omega (arith, c.if-group-gt0.false)) ∙ leads_two c.args.material.now c.args.part (sym c.has_pawns.ensures ∙ c.if-has_pawns.false) (sym c.single_lead.ensures ∙ c.if-single_lead.false))
    ∙ c.unrank_kings.ensures ∙ ap (λ (l : List ℕ). Some l) (sym c.copied-else-single_lead.ensures)
