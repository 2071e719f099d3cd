use Rattle.std.proofs.Common.{◌≡◌, Bool, true, false, ◌&&◌, refl, sym, ap, ◌∙◌}
use Rattle.std.specs.Prelude.{Ok, filter_map}
use Rattle.szg_values.specs.Men.{man_of}
use Rattle.szg_values.specs.Material.{sides_of, parsed, is_count}
use Rattle.szg_values.proofs.Names.{named}
use Rattle.szg_values.proofs.Letters.{letters_before, letters_after, count_letters, parsed_letter, parsed_king, parsed_order, parsed_sides, parsed_men, parsed_ok}
use Rattle.szg_values.proofs.Material.parse.Goals as goal
use Rattle.szg_values.proofs.Material.parse.Goals.{then-not-has_king_first-via-then-not-has_king_first, then-not-has_king_first-via-else-not-has_king_first+then-not-has_king_first-2, then-not-is_in_order-via-then-not-is_in_order, then-not-is_in_order-via-else-not-is_in_order+then-not-is_in_order-2}

pub returns-in_default-clause-parsed : goal.returns-in_default-clause-parsed
returns-in_default-clause-parsed c = sym (parsed_letter c.args.text.now (sym c.in_default.ensures.spelled))

not_so : (a b : Bool) → a ≡ false → (a && b) ≡ false
not_so a b e = ap (λ (x : Bool). x && b) e

both_so : (a b : Bool) {d : Bool} → a ≡ true → b ≡ d → (a && b) ≡ d
both_so a b e h = ap (λ (x : Bool). x && b) e ∙ h

pub returns-then-not-has_king_first-clause-parsed : goal.returns-then-not-has_king_first-clause-parsed
returns-then-not-has_king_first-clause-parsed c =
    let text = c.args.text.now in
    let s = sides_of text in
    let a = sym c.in-Some.ensures.spelled in
    let f = c.in-Some.ensures.first ∙ letters_before text a in
    let g = c.in-Some.ensures.second ∙ letters_after text a in
    elim c.then-not-has_king_first.branch [
      | then-not-has_king_first-via-then-not-has_king_first w ↦ sym (parsed_king text a (not_so _ _ (sym (c.has_king_first.ensures s.first f) ∙ w.if-not-has_king_first.true)))
      | then-not-has_king_first-via-else-not-has_king_first+then-not-has_king_first-2 w ↦
          sym (parsed_king text a (both_so _ _ (sym (c.has_king_first.ensures s.first f) ∙ w.if-not-has_king_first.false) (sym (w.has_king_first-else-not-has_king_first.ensures s.second g) ∙ w.if-not-has_king_first-2.true)))
    ]

pub returns-then-not-is_in_order-clause-parsed : goal.returns-then-not-is_in_order-clause-parsed
returns-then-not-is_in_order-clause-parsed c =
    let text = c.args.text.now in
    let s = sides_of text in
    let a = sym c.in-Some.ensures.spelled in
    let f = c.in-Some.ensures.first ∙ letters_before text a in
    let g = c.in-Some.ensures.second ∙ letters_after text a in
    let kings = both_so _ _ (sym (c.has_king_first.ensures s.first f) ∙ c.if-not-has_king_first.false) (sym (c.has_king_first-else-not-has_king_first.ensures s.second g) ∙ c.if-not-has_king_first-2.false) in
    elim c.then-not-is_in_order.branch [
      | then-not-is_in_order-via-then-not-is_in_order w ↦ sym (parsed_order text a kings (not_so _ _ (sym (c.is_in_order.ensures s.first f) ∙ w.if-not-is_in_order.true)))
      | then-not-is_in_order-via-else-not-is_in_order+then-not-is_in_order-2 w ↦
          sym (parsed_order text a kings (both_so _ _ (sym (c.is_in_order.ensures s.first f) ∙ w.if-not-is_in_order.false) (sym (w.is_in_order-else-not-is_in_order.ensures s.second g) ∙ w.if-not-is_in_order-2.true)))
    ]

pub returns-then-not-may_be_first-clause-parsed : goal.returns-then-not-may_be_first-clause-parsed
returns-then-not-may_be_first-clause-parsed c =
    let text = c.args.text.now in
    let s = sides_of text in
    let a = sym c.in-Some.ensures.spelled in
    let f = c.in-Some.ensures.first ∙ letters_before text a in
    let g = c.in-Some.ensures.second ∙ letters_after text a in
    sym (parsed_sides text a
    (both_so _ _ (sym (c.has_king_first.ensures s.first f) ∙ c.if-not-has_king_first.false) (sym (c.has_king_first-else-not-has_king_first.ensures s.second g) ∙ c.if-not-has_king_first-2.false))
    (both_so _ _ (sym (c.is_in_order.ensures s.first f) ∙ c.if-not-is_in_order.false) (sym (c.is_in_order-else-not-is_in_order.ensures s.second g) ∙ c.if-not-is_in_order-2.false))
    (sym (c.may_be_first.ensures s.first s.second f g) ∙ c.if-not-may_be_first.true))

pub returns-then-not-is_count-clause-parsed : goal.returns-then-not-is_count-clause-parsed
returns-then-not-is_count-clause-parsed c =
    let text = c.args.text.now in
    let s = sides_of text in
    let a = sym c.in-Some.ensures.spelled in
    let f = c.in-Some.ensures.first ∙ letters_before text a in
    let g = c.in-Some.ensures.second ∙ letters_after text a in
    sym (parsed_men text a
    (both_so _ _ (sym (c.has_king_first.ensures s.first f) ∙ c.if-not-has_king_first.false) (sym (c.has_king_first-else-not-has_king_first.ensures s.second g) ∙ c.if-not-has_king_first-2.false))
    (both_so _ _ (sym (c.is_in_order.ensures s.first f) ∙ c.if-not-is_in_order.false) (sym (c.is_in_order-else-not-is_in_order.ensures s.second g) ∙ c.if-not-is_in_order-2.false))
    (sym (c.may_be_first.ensures s.first s.second f g) ∙ c.if-not-may_be_first.false)
    (ap is_count (sym (count_letters c.in-Some.first.now c.in-Some.second.now s.first s.second f g)) ∙ sym c.is_count.ensures ∙ c.if-not-is_count.true))

read : (c : goal.After-men_of-2) → parsed c.args.text.now ≡ Ok (record { first = c.men_of.result.items; second = c.men_of-2.result.items })
read c =
    let text = c.args.text.now in
    let s = sides_of text in
    let a = sym c.in-Some.ensures.spelled in
    let f = c.in-Some.ensures.first ∙ letters_before text a in
    let g = c.in-Some.ensures.second ∙ letters_after text a in
    let ok = parsed_ok text a
    (both_so _ _ (sym (c.has_king_first.ensures s.first f) ∙ c.if-not-has_king_first.false) (sym (c.has_king_first-else-not-has_king_first.ensures s.second g) ∙ c.if-not-has_king_first-2.false))
    (both_so _ _ (sym (c.is_in_order.ensures s.first f) ∙ c.if-not-is_in_order.false) (sym (c.is_in_order-else-not-is_in_order.ensures s.second g) ∙ c.if-not-is_in_order-2.false))
    (sym (c.may_be_first.ensures s.first s.second f g) ∙ c.if-not-may_be_first.false)
    (ap is_count (sym (count_letters c.in-Some.first.now c.in-Some.second.now s.first s.second f g)) ∙ sym c.is_count.ensures ∙ c.if-not-is_count.false) in
    let p : c.men_of.result.items ≡ s.first = c.men_of.ensures ∙ ap (filter_map man_of) c.in-Some.ensures.first in
    let q : c.men_of-2.result.items ≡ s.second = c.men_of-2.ensures ∙ ap (filter_map man_of) c.in-Some.ensures.second in
    rw (p, q, ok) refl

pub invariant_of-result : goal.invariant_of-result
invariant_of-result c = (named c.args.text.now (record { first = c.men_of.result.items; second = c.men_of-2.result.items }) (read c)).1

pub returns-clause-parsed : goal.returns-clause-parsed
returns-clause-parsed c = sym (read c)

pub returns-clause-named : goal.returns-clause-named
returns-clause-named c =
    let n = named c.args.text.now (record { first = c.men_of.result.items; second = c.men_of-2.result.items }) (read c) in (n.1, n.0)
