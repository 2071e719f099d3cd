use Rattle.std.proofs.Common.{not, ◌-◌, ◌/◌, ◌^◌, ◌<◌, ap, sym, ◌∙◌, arith}
use Rattle.szg_code.specs.Canonical.{symbol_at}
use Rattle.std.proofs.lemmas.Bool.{ltb-true, ne_eqb}
use Rattle.szg_code.proofs.AllSymbols.{number_below_top}
use Rattle.szg_code.proofs.canonical.Code.first_symbol.Goals.{then-this-ne0, else-this-ne0}
use Rattle.szg_code.proofs.canonical.Code.first_symbol.Given.{Over}
use Rattle.szg_code.proofs.canonical.Code.first_symbol.Goals as goal

there : (g : Over) (c : goal.Then-symbol-from g) → c.symbol_number-symbol.result < c.args.self.now.symbols
there g c =
    elim c.if-this-ne0.branch [
      | then-this-ne0 w ↦
          let below = number_below_top c.args.self.now c.symbols-symbols.ensures.accepted c.args.length c.args.window (omega arith) c.requires.long c.requires.short c.requires.before in
          let all : symbol_at c.args.self.now c.args.length (c.args.window / 2 ^ (64 - c.args.length)) < c.args.self.now.symbols = c.requires.all (ap (λ b. not b) (ne_eqb g.row.ALL 0 w.if-this-ne0.true)) c.args.length _ c.requires.long c.requires.short below in
          omega (arith, all, c.symbol_number-symbol.ensures)
      | else-this-ne0 w ↦
          let less = ltb-true _ _ (sym w.value-is ∙ c.if-symbol-from.true) in
          omega (arith, less, w.from.ensures, c.symbols-symbols.ensures.number)
    ]

pub returns-then-symbol-from-clause-found : goal.returns-then-symbol-from-clause-found
returns-then-symbol-from-clause-found g c = (c.symbol_number-symbol.ensures, there g c)

pub returns-then-symbol-from-clause-fits : goal.returns-then-symbol-from-clause-fits
returns-then-symbol-from-clause-fits g c = omega (arith, there g c, c.symbols-symbols.ensures.number)
