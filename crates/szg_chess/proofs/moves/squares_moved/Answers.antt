use Rattle.std.proofs.Common.{◌≡◌, ℕ, ◌*◌, ◌%◌, ◌^◌, ◌<◌, ◌∙◌, sym, ap, refl, Bool, true, false, inl, inr, w64}
use Rattle.std.specs.Prelude.{not, ◌&&◌, ◌||◌, ◌==◌}
use Rattle.std.specs.Int.{bit_not}
use Rattle.std.specs.Int.Bits.{bit_and, bit_or}
use Rattle.std.proofs.lemmas.Bool.{cases_Bool, and_parts, not-true, eqb-true}
use Rattle.szg_chess.specs.Squares.{is_in, is_in_moved}
use Rattle.szg_chess.proofs.Sets.{cleared, added, turned}
use Rattle.szg_chess.proofs.moves.squares_moved.Goals as goal

abbrev without : ℕ → ℕ → ℕ
without squares k = bit_and squares (bit_not w64 (1 * 2 ^ k % 2 ^ 64))

or_turned : (a b : Bool) → (a || b) ≡ (b || a)
or_turned true true = refl
or_turned true false = refl
or_turned false true = refl
or_turned false false = refl

gone : (occupied captured from to q : ℕ) → captured < 64 → from < 64 → to < 64 → q < 64 → is_in (without occupied captured) from ≡ true →
    is_in (bit_or (without (without occupied captured) from) (1 * 2 ^ to % 2 ^ 64)) q ≡ is_in_moved (is_in occupied) captured from to q
gone occupied captured from to q hc hf ht hq there =
    let parts = and_parts (is_in occupied from) (not (from == captured)) (sym (cleared occupied captured from hc hf) ∙ there) in
    let apart : (captured == from) ≡ false = turned captured from ∙ not-true (from == captured) parts.1 in
    let whole : is_in (without (without occupied captured) from) q ≡ (is_in occupied q && not (q == captured) && not (q == from)) = cleared (without occupied captured) from q hf hq ∙ ap (λ (b : Bool). b && not (q == from)) (cleared occupied captured q hc hq) in
    let ready : is_in_moved (is_in occupied) captured from to q ≡ (q == to || (is_in occupied q && not (q == captured) && not (q == from))) = rw (parts.0, apart) refl in
    added (without (without occupied captured) from) to q ht ∙ ap (λ (b : Bool). b || q == to) whole ∙ or_turned (is_in occupied q && not (q == captured) && not (q == from)) (q == to) ∙ sym ready

and_yes : (b : Bool) → b ≡ (b && true)
and_yes true = refl
and_yes false = refl

and_no : (b : Bool) → false ≡ (b && false)
and_no true = refl
and_no false = refl

kept : (occupied captured from to q : ℕ) → captured < 64 → from < 64 → q < 64 → is_in (without occupied captured) from ≡ false →
    is_in (without occupied captured) q ≡ is_in_moved (is_in occupied) captured from to q
kept occupied captured from to q hc hf hq none =
    let gone_ : (is_in occupied from && not (from == captured)) ≡ false = sym (cleared occupied captured from hc hf) ∙ none in
    let turn : (is_in occupied from && not (captured == from)) ≡ false = ap (λ (b : Bool). is_in occupied from && not b) (turned captured from) ∙ gone_ in
    let rest : is_in_moved (is_in occupied) captured from to q ≡ (is_in occupied q && not (q == captured) && not (q == from)) = ap (λ (b : Bool). (b && q == to) || (is_in occupied q && not (q == captured) && not (q == from))) turn in
    elim (cases_Bool (q == from)) [
      | inl t ↦
          let here = eqb-true q from t in
          ap (is_in (without occupied captured)) here ∙ none ∙ and_no (is_in occupied q && not (q == captured)) ∙ ap (λ (b : Bool). is_in occupied q && not (q == captured) && not b) (sym t) ∙ sym rest
      | inr f ↦ cleared occupied captured q hc hq ∙ and_yes (is_in occupied q && not (q == captured)) ∙ ap (λ (b : Bool). is_in occupied q && not (q == captured) && not b) (sym f) ∙ sym rest
    ]

pub returns-then-is_in : goal.returns-then-is_in
returns-then-is_in c = λ q h. gone c.args.occupied c.args.captured c.args.from c.args.to q c.requires.captured c.requires.from c.requires.to h (sym c.is_in.ensures ∙ c.if-is_in.true)

pub returns-else-is_in : goal.returns-else-is_in
returns-else-is_in c = λ q h. kept c.args.occupied c.args.captured c.args.from c.args.to q c.requires.captured c.requires.from h (sym c.is_in.ensures ∙ c.if-is_in.false)
