use Rattle.std.proofs.Common.{◌-◌, refl, subst, arith}
use Rattle.szg_code.specs.Window.{IsWordReader}
use Rattle.szg_code.proofs.WindowWords.{moved, none_past, taken_within}
use Rattle.szg_code.proofs.reader.next_byte.Goals as goal

pub first_symbol-requires : goal.first_symbol-requires
first_symbol-requires c =
    let byte = c.requires c.words.inside.window.bits c.if-window-above.false (omega arith) in
    let order = c.symbols.ensures.accepted.lengths.in_order in
    record {
      all = λ _. byte.2;
      long = omega (arith, byte.0);
      short = omega (arith, byte.0, order);
      reaches = byte.1;
      before = λ k long less. absurd (omega (arith, byte.0, long, less));
    }

pub invariant_of-words : goal.invariant_of-words
invariant_of-words c =
    let whole = subst (λ h. IsWordReader c.words.inside.bytes.now c.words.inside.offset c.words.inside.window.bits h) (omega (arith, c.if-window-lt-BYTE.false)) c.words.invariant in
    moved c.words.inside.bytes.now c.words.inside.offset c.words.inside.window.bits 8 (c.words.inside.window.held - 8) 8 (omega arith) whole

pub returns-clause-found : goal.returns-clause-found
returns-clause-found c inside =
    let byte = c.requires c.words.inside.window.bits c.if-window-above.false (omega arith) in
    let accepted = c.symbols.ensures.accepted in
    let order = accepted.lengths.in_order in
    let symbol = c.in_ok-symbol.ensures.found in
    taken_within c.args.code.now accepted c.words.inside.bytes.now c.words.inside.offset c.words.inside.window.bits c.words.inside.window.held c.words.invariant
    c.args.words.now c.words.view_is 8 (omega (arith, c.if-window-lt-BYTE.false)) (omega (arith, byte.0)) (omega (arith, byte.0, order)) byte.1 (λ k long less. absurd (omega (arith, byte.0, long, less)))
    _ c.in_ok-symbol.symbol inside symbol.0 symbol.1 refl refl

pub returns-clause-past : goal.returns-clause-past
returns-clause-past c past =
    let byte = c.requires c.words.inside.window.bits c.if-window-above.false (omega arith) in
    let accepted = c.symbols.ensures.accepted in
    let order = accepted.lengths.in_order in
    none_past c.args.code.now accepted c.words.inside.bytes.now c.words.inside.offset c.words.inside.window.bits c.words.inside.window.held c.words.invariant
    c.args.words.now c.words.view_is 8 (omega (arith, c.if-window-lt-BYTE.false)) (omega (arith, byte.0)) (omega (arith, byte.0, order)) byte.1 (λ k long less. absurd (omega (arith, byte.0, long, less)))
    past
