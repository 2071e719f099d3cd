use Rattle.std.proofs.Common.{◌≡◌, ◌+◌, ◌≤◌, List, Bool, length, drop, refl, ap, arith}
use Rattle.szg_code.specs.Bits.{bits}
use Rattle.szg_code.specs.Cursor.{EndlessCursor}
use Rattle.szg_code.proofs.ByteBits.{length-left}
use Rattle.szg_code.proofs.FirstWords.{no_word_of_nothing}
use Rattle.szg_code.proofs.WindowWords.{moved, none_past, none_without, taken_within}
use Rattle.szg_code.proofs.reader.next_endless.Goals as goal

-- no bits are left to be read
pub returns-in_err-window-clause-none : goal.returns-in_err-window-clause-none
returns-in_err-window-clause-none g c =
    let none = c.in_err-window.ensures.none in
    let left : drop c.words.inside.offset (bits c.words.inside.bytes.now) ≡ c.args.words.now.cursor.left = ap (λ (k : EndlessCursor). k.cursor.left) c.words.view_is in
    let n : length (drop c.words.inside.offset (bits c.words.inside.bytes.now)) ≡ length c.args.words.now.cursor.left = ap (λ (u : List Bool). length u) left in
    rw c.from_residual.ensures (no_word_of_nothing c.args.code.now c.longest.ensures.accepted c.args.words.now.cursor.left (omega (arith, none, n, length-left c.words.inside.offset c.words.inside.bytes.now)))

pub returns-in_err-symbol-clause-none : goal.returns-in_err-symbol-clause-none
returns-in_err-symbol-clause-none g c =
    let j = c.reached_length-length.ensures in
    rw c.from_residual-in_err-symbol.ensures (none_without c.args.code.now j.accepted c.words.inside.bytes.now c.words.inside.offset c.in_ok-window.window.bits (c.longest.result + c.in_ok-window.window.held) c.in_ok-window.ensures.valid
    c.args.words.now c.words.view_is c.reached_length-length.result (omega (arith, j.short, c.longest.ensures.length)) j.long j.short j.reaches j.before c.in_err-symbol.ensures.none)

pub invariant_of-words : goal.invariant_of-words
invariant_of-words g c =
    let short : c.reached_length-length.result ≤ c.longest.result = omega (arith, c.reached_length-length.ensures.short, c.longest.ensures.length) in
    moved c.words.inside.bytes.now c.words.inside.offset c.in_ok-window.window.bits c.longest.result c.in_ok-window.window.held c.reached_length-length.result short c.in_ok-window.ensures.valid

pub returns-clause-found : goal.returns-clause-found
returns-clause-found g c inside =
    let j = c.reached_length-length.ensures in
    let symbol = c.in_ok-symbol.ensures.found in
    taken_within c.args.code.now j.accepted c.words.inside.bytes.now c.words.inside.offset c.in_ok-window.window.bits (c.longest.result + c.in_ok-window.window.held) c.in_ok-window.ensures.valid
    c.args.words.now c.words.view_is c.reached_length-length.result (omega (arith, j.short, c.longest.ensures.length)) j.long j.short j.reaches j.before
    _ c.in_ok-symbol.symbol inside symbol.0 symbol.1 refl refl

pub returns-clause-past : goal.returns-clause-past
returns-clause-past g c past =
    let j = c.reached_length-length.ensures in
    none_past c.args.code.now j.accepted c.words.inside.bytes.now c.words.inside.offset c.in_ok-window.window.bits (c.longest.result + c.in_ok-window.window.held) c.in_ok-window.ensures.valid
    c.args.words.now c.words.view_is c.reached_length-length.result (omega (arith, j.short, c.longest.ensures.length)) j.long j.short j.reaches j.before
    past
