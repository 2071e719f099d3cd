use Rattle.std.proofs.Common.{ℕ, Bool, ◌≡◌, ◌+◌, ◌-◌, ◌*◌, ◌%◌, ◌^◌, ◌≤◌, List, ◌++◌, length, take, drop, refl, sym, subst, ap, ◌∙◌, arith}
use Rattle.std.proofs.Math.Seq.{take-add}
use Rattle.std.proofs.lemmas.List.{drop-drop}
use Rattle.szg_code.specs.Bits.{bits}
use Rattle.szg_code.specs.Cursor.{EndlessCursor}
use Rattle.szg_code.specs.Window.{HoldsBits, IsWordReader}
use Rattle.szg_code.proofs.ByteBits.{length-left}
use Rattle.szg_code.proofs.TwoWords.{one_at_most, takes_two}
use Rattle.szg_code.proofs.WindowWords.{moved}
use Rattle.szg_code.proofs.reader.next_two.Goals as goal

pub invariant_of-words : goal.invariant_of-words
invariant_of-words c =
    let whole : IsWordReader c.words.inside.bytes.now c.words.inside.offset c.words.inside.window.bits (8 + (c.words.inside.window.held - 8)) = subst (λ h. IsWordReader c.words.inside.bytes.now c.words.inside.offset c.words.inside.window.bits h) (omega (arith, c.if-window-lt-BYTE.false)) c.words.invariant in
    let two = c.two_words_in-two.ensures.words (omega (arith, c.if-two-eq0.false)) in
    subst (λ (k : ℕ). IsWordReader c.words.inside.bytes.now (c.words.inside.offset + k) (c.words.inside.window.bits * 2 ^ c.two_words_in-two.result.bits % 2 ^ 64) (c.words.inside.window.held - 8)) (sym c.from.ensures)
    (moved c.words.inside.bytes.now c.words.inside.offset c.words.inside.window.bits 8 (c.words.inside.window.held - 8) c.two_words_in-two.result.bits two.inside whole)

pub returns-clause-found : goal.returns-clause-found
returns-clause-found c inside =
    let bytes : List ℕ = c.words.inside.bytes.now in
    let offset : ℕ = c.words.inside.offset in
    let old : EndlessCursor = c.args.words.now in
    let h : HoldsBits bytes offset c.words.inside.window.bits c.words.inside.window.held = c.words.invariant.holds in
    let room : 8 + h.spare ≤ 64 = let r = h.room in omega (arith, r, c.if-window-lt-BYTE.false) in
    let both : c.from.result ≡ c.two_words_in-two.result.bits = c.from.ensures in
    let past : offset - 8 * length bytes ≡ old.past = ap (λ (k : EndlessCursor). k.past) c.words.view_is in
    let left_is : drop offset (bits bytes) ≡ old.cursor.left = ap (λ (k : EndlessCursor). k.cursor.left) c.words.view_is in
    let n : length (drop offset (bits bytes)) ≡ length old.cursor.left = ap (λ (u : List Bool). length u) left_is in
    let taken = take-add offset c.from.result (bits bytes) ∙ ap (λ (k : EndlessCursor). k.cursor.taken ++ take c.from.result k.cursor.left) c.words.view_is ∙ ap (λ (m : ℕ). old.cursor.taken ++ take m old.cursor.left) both in
    let left = sym (drop-drop c.from.result offset (bits bytes)) ∙ ap (λ (k : EndlessCursor). drop c.from.result k.cursor.left) c.words.view_is ∙ ap (λ (m : ℕ). drop m old.cursor.left) both in
    let two = takes_two c.args.code.now bytes offset c.words.inside.window.bits h.spare h.is_window room (omega arith) c.two_words_in-two.result old.cursor _
    (c.two_words_in-two.ensures.words (omega (arith, c.if-two-eq0.false))) left_is (omega (arith, both, n, inside, length-left offset bytes)) taken left in
    (omega (arith, inside, past), (two.0, two.1, (_, two.2, refl)))

pub returns-clause-past : goal.returns-clause-past
returns-clause-past c past =
    let bytes : List ℕ = c.words.inside.bytes.now in
    let offset : ℕ = c.words.inside.offset in
    let h : HoldsBits bytes offset c.words.inside.window.bits c.words.inside.window.held = c.words.invariant.holds in
    let room : 8 + h.spare ≤ 64 = let r = h.room in omega (arith, r, c.if-window-lt-BYTE.false) in
    let both : c.from.result ≡ c.two_words_in-two.result.bits = c.from.ensures in
    let left_is : drop offset (bits bytes) ≡ c.args.words.now.cursor.left = ap (λ (k : EndlessCursor). k.cursor.left) c.words.view_is in
    let n : length (drop offset (bits bytes)) ≡ length c.args.words.now.cursor.left = ap (λ (u : List Bool). length u) left_is in
    one_at_most c.args.code.now bytes offset c.words.inside.window.bits h.spare h.is_window room (omega arith) c.two_words_in-two.ensures.accepted c.two_words_in-two.result c.args.words.now.cursor.left
    (c.two_words_in-two.ensures.words (omega (arith, c.if-two-eq0.false))) left_is (omega (arith, both, n, past, c.if-two-eq0.false, length-left offset bytes))
