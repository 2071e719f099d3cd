use Rattle.std.proofs.Common.{◌<◌, List, [], ◌∷◌, ℕ, length, sym, ap, ◌∙◌, subst, arith}
use Rattle.szg_values.specs.Material.{Sides, IsMaterial, is_symmetric, has_pawns, has_single_lead, lead_pawns, other_pawns, lead_pawn_code, man_codes}
use Rattle.szg_count.specs.Laws.{IsIn}
use Rattle.szg_count.proofs.Pawns.{peopled}
use Rattle.szg_count.specs.Facts.{key_of, with_exchanged_halves}
use Rattle.szg_count.proofs.ManCodes.{codes_small}
use Rattle.szg_count.proofs.material_info.MaterialInfo.of.Goals as goal

pub codes_key-key-requires-clause-few : goal.codes_key-key-requires-clause-few
codes_key-key-requires-clause-few c =
    let few = (peopled c.args.material.now c.men-codes.ensures.material).few in let k = ap length (c.as_slice.ensures.value ∙ c.men-codes.ensures.codes) in omega (arith, few, k)

pub codes_key-key-requires-clause-small : goal.codes_key-key-requires-clause-small
codes_key-key-requires-clause-small c = λ code i. codes_small c.args.material.now code (subst (λ (l : List ℕ). IsIn code l) (c.as_slice.ensures.value ∙ c.men-codes.ensures.codes) i)

pub invariant_of-result : goal.invariant_of-result
invariant_of-result c =
    let named = c.codes_key-key.ensures.key ∙ ap key_of (c.as_slice.ensures.value ∙ c.men-codes.ensures.codes) ∙ ap (λ (s : Sides). key_of (man_codes s)) (sym c.copy.ensures) in record {
      material = subst (λ (s : Sides). IsMaterial s) (sym c.copy.ensures) c.men-codes.ensures.material;
      symmetric_is = c.symmetric.ensures ∙ ap is_symmetric (sym c.copy.ensures);
      pawns_is = c.has_pawns.ensures ∙ ap has_pawns (sym c.copy.ensures);
      single_is = c.single_lead.ensures ∙ ap has_single_lead (sym c.copy.ensures);
      lead_is = c.lead_pawns.ensures ∙ ap lead_pawns (sym c.copy.ensures);
      other_is = c.other_pawns.ensures ∙ ap other_pawns (sym c.copy.ensures);
      code_is = c.lead_pawn_code.ensures ∙ ap lead_pawn_code (sym c.copy.ensures);
      keys_are = ap (λ (n : ℕ). n ∷ with_exchanged_halves n ∷ []) named;
      small = subst (λ (n : ℕ). n < 281474976710656) named c.codes_key-key.ensures.small;
    }
