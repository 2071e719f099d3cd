use Rattle.std.proofs.Common.{◌≡◌, ℕ, List, sym, ap, ◌∙◌, subst, true, arith}
use Rattle.std.specs.Prelude.{Some, slice_get}
use Rattle.szg_values.specs.Material.{has_pawns}
use Rattle.szg_count.specs.Laws.{IsIn}
use Rattle.szg_count.specs.Leads.{lead_pawn_sets, triples, king_pairs}
use Rattle.szg_place.proofs.Ranks.Leading.{lead_stated, leads_pawns, leads_three, leads_two, in_three, in_two, three_items, two_items}
use Rattle.szg_place.proofs.spots.rank_lead_group.Goals as goal

pub rank_lead_pawns-requires : goal.rank_lead_pawns-requires
rank_lead_pawns-requires c =
    let l = lead_stated c.args.material.now c.args.part c.args.squares.now c.material.ensures.named (sym c.has_pawns.ensures ∙ c.if-has_pawns.true) c.requires.part c.requires.listed in
    record { some = l.some; few = l.few; file = l.file; listed = l.listed }

pub bounds-squares-0 : goal.bounds-squares-0
bounds-squares-0 c =
    let k = in_three c.args.material.now c.args.part c.args.squares.now (sym c.has_pawns.ensures ∙ c.if-has_pawns.false) (sym c.single_lead.ensures ∙ c.if-single_lead.true) c.requires.listed in
    let size = k.0 in omega (arith, size)

pub bounds-squares-1 : goal.bounds-squares-1
bounds-squares-1 c =
    let k = in_three c.args.material.now c.args.part c.args.squares.now (sym c.has_pawns.ensures ∙ c.if-has_pawns.false) (sym c.single_lead.ensures ∙ c.if-single_lead.true) c.requires.listed in
    let size = k.0 in omega (arith, size)

pub bounds-squares-2 : goal.bounds-squares-2
bounds-squares-2 c =
    let k = in_three c.args.material.now c.args.part c.args.squares.now (sym c.has_pawns.ensures ∙ c.if-has_pawns.false) (sym c.single_lead.ensures ∙ c.if-single_lead.true) c.requires.listed in
    let size = k.0 in omega (arith, size)

pub rank_triple-requires : goal.rank_triple-requires
rank_triple-requires c =
    let k = in_three c.args.material.now c.args.part c.args.squares.now (sym c.has_pawns.ensures ∙ c.if-has_pawns.false) (sym c.single_lead.ensures ∙ c.if-single_lead.true) c.requires.listed in
    subst (λ (l : List ℕ). IsIn l triples) (three_items c.args.squares.now k.0) k.1

pub bounds-squares-0-else-single_lead : goal.bounds-squares-0-else-single_lead
bounds-squares-0-else-single_lead c =
    let k = in_two c.args.material.now c.args.part c.args.squares.now (sym c.has_pawns.ensures ∙ c.if-has_pawns.false) (sym c.single_lead.ensures ∙ c.if-single_lead.false) c.requires.listed in
    let size = k.0 in omega (arith, size)

pub bounds-squares-1-else-single_lead : goal.bounds-squares-1-else-single_lead
bounds-squares-1-else-single_lead c =
    let k = in_two c.args.material.now c.args.part c.args.squares.now (sym c.has_pawns.ensures ∙ c.if-has_pawns.false) (sym c.single_lead.ensures ∙ c.if-single_lead.false) c.requires.listed in
    let size = k.0 in omega (arith, size)

pub rank_kings-requires : goal.rank_kings-requires
rank_kings-requires c =
    let k = in_two c.args.material.now c.args.part c.args.squares.now (sym c.has_pawns.ensures ∙ c.if-has_pawns.false) (sym c.single_lead.ensures ∙ c.if-single_lead.false) c.requires.listed in
    subst (λ (l : List ℕ). IsIn l king_pairs) (two_items c.args.squares.now k.0) k.1

pub returns-then-has_pawns : goal.returns-then-has_pawns
returns-then-has_pawns c =
    let e : has_pawns c.args.material.now ≡ true = sym c.has_pawns.ensures ∙ c.if-has_pawns.true in
    let l = lead_stated c.args.material.now c.args.part c.args.squares.now c.material.ensures.named e c.requires.part c.requires.listed in
    ap (λ (s : List (List ℕ)). slice_get s c.rank_lead_pawns.result) (leads_pawns c.args.material.now c.args.part e ∙ ap (λ k. lead_pawn_sets k c.args.part) (sym l.size))
    ∙ c.rank_lead_pawns.ensures

pub returns-then-single_lead : goal.returns-then-single_lead
returns-then-single_lead c =
    let none = sym c.has_pawns.ensures ∙ c.if-has_pawns.false in let single = sym c.single_lead.ensures ∙ c.if-single_lead.true in
    let k = in_three c.args.material.now c.args.part c.args.squares.now none single c.requires.listed in
    ap (λ (s : List (List ℕ)). slice_get s c.rank_triple.result) (leads_three c.args.material.now c.args.part none single)
    ∙ c.rank_triple.ensures.number ∙ ap (λ (l : List ℕ). Some l) (sym (three_items c.args.squares.now k.0))

pub returns-else-single_lead : goal.returns-else-single_lead
returns-else-single_lead c =
    let none = sym c.has_pawns.ensures ∙ c.if-has_pawns.false in let single = sym c.single_lead.ensures ∙ c.if-single_lead.false in
    let k = in_two c.args.material.now c.args.part c.args.squares.now none single c.requires.listed in
    ap (λ (s : List (List ℕ)). slice_get s c.rank_kings.result) (leads_two c.args.material.now c.args.part none single)
    ∙ c.rank_kings.ensures.number ∙ ap (λ (l : List ℕ). Some l) (sym (two_items c.args.squares.now k.0))
