use Rattle.std.proofs.Common.{◌≡◌, ◌-◌, ◌/◌, ◌^◌, ◌<◌, ap, ◌∙◌, subst, arith}
use Rattle.std.proofs.lemmas.Bool.{ltb-true}
use Rattle.szg_code.specs.Acceptance.{IsCode}
use Rattle.szg_code.specs.Canonical.{CanonicalCode, symbol_at}
use Rattle.szg_code.proofs.AllSymbols.{all_symbols, number_at_most, reached_last}
use Rattle.szg_code.proofs.canonical.Code.has_all_symbols.Goals as goal

pub symbol_number-number-requires-clause-reaches : goal.symbol_number-number-requires-clause-reaches
symbol_number-number-requires-clause-reaches c =
    let code : CanonicalCode = c.args.self.now in
    let accepted : IsCode code = subst IsCode c.self.view_is c.self.invariant.0 in
    let least : c.from.result ≡ code.min_length = c.from.ensures ∙ ap (λ (k : CanonicalCode). k.min_length) c.self.view_is in
    rw least (reached_last code accepted)

pub returns : goal.returns
returns c all =
    let code : CanonicalCode = c.args.self.now in
    let accepted : IsCode code = subst IsCode c.self.view_is c.self.invariant.0 in
    let least : c.from.result ≡ code.min_length = c.from.ensures ∙ ap (λ (k : CanonicalCode). k.min_length) c.self.view_is in
    let symbols : c.from-2.result ≡ code.symbols = c.from-2.ensures ∙ ap (λ (k : CanonicalCode). k.symbols) c.self.view_is in
    let number : c.symbol_number-number.result ≡ symbol_at code code.min_length ((2 ^ 64 - 1) / 2 ^ (64 - code.min_length)) = rw least at c.symbol_number-number.ensures in
    let less : c.symbol_number-number.result < c.from-2.result = ltb-true c.symbol_number-number.result c.from-2.result all in
    all_symbols code accepted ((2 ^ 64 - 1) / 2 ^ (64 - code.min_length)) (number_at_most code accepted) (omega (arith, symbols, number, less))
