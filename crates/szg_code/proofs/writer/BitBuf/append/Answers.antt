use Rattle.std.proofs.Common.{ℕ, Bool, ◌≡◌, ◌+◌, ◌-◌, ◌*◌, ◌/◌, ◌%◌, ◌^◌, ◌<◌, ◌≤◌, List, ◌++◌, length, get_or, take, sym, ap, ◌∙◌, subst, arith, rules}
use Rattle.std.specs.Prelude.{bit_or, Result, Ok, Err, OnErr, vec_capacity}
use Rattle.std.proofs.lemmas.List.{length-take}
use Rattle.szg_code.specs.Bits.{bits, bits_of_number}
use Rattle.szg_code.specs.Buffer.{Buffer, HoldsBits}
use Rattle.szg_code.proofs.Buffers.{HoldsBits-word, joined-or}
use Rattle.szg_code.proofs.ByteBits.{length-taken}
use Rattle.szg_code.proofs.writer.BitBuf.append.Goals as goal

pub overflow_add-self : goal.overflow_add-self
overflow_add-self c =
    let bytes : List ℕ = c.self.inside.bytes.items in
    let whole : length bytes ≡ (c.self.inside.count + 7) / 8 = c.self.invariant.whole in
    let n : length (take c.self.inside.count (bits bytes)) ≡ c.self.inside.count = length-taken c.self.inside.count bytes (omega arith) in
    let capacity : length (take c.self.inside.count (bits bytes)) < 2 ^ 62 = subst (λ (u : List Bool). length u < 2 ^ 62) (sym (ap (λ (b : Buffer). b.written) c.self.view_is)) c.requires.few in
    omega arith

on_err_all : {T E P : Type 0} (r : Result T E) → P → OnErr r P
on_err_all (Ok x) h = tt
on_err_all (Err x) h = h

-- what the new bytes hold
abbrev After : goal.After-self-1 → Type 0
After c = (take (c.self.inside.count + c.from-length.result) (bits c.put_bytes.new.bytes.items) ≡ take c.self.inside.count (bits c.self.inside.bytes.items) ++ bits_of_number c.from-length.result c.from.result)
    × HoldsBits c.put_bytes.new.bytes.items (c.self.inside.count + c.from-length.result)

after : (c : goal.After-self-1) → After c
after c =
    let bytes : List ℕ = c.self.inside.bytes.items in
    let count : ℕ = c.self.inside.count in
    let v : ℕ = c.from.result in
    let l : ℕ = c.from-length.result in
    let b : ℕ = c.from-partial.result in
    let joined : ℕ = bit_or (b * 72057594037927936 % 18446744073709551616) (v * 2 ^ (64 - count % 8 - l) % 18446744073709551616) in
    let read : c.unwrap_or.result ≡ get_or bytes (count / 8) 0 = search rules in
    let at : b ≡ get_or bytes (count / 8) 0 = c.from-partial.ensures ∙ read in
    let short : l ≤ 32 = omega (arith, c.from-length.ensures, c.requires.short) in
    let small : v < 2 ^ l = rw (c.from.ensures, c.from-length.ensures) c.requires.spelled in
    let byte : b < 256 = omega (arith, c.from-partial.ensures, c.unwrap_or.type_inv) in
    let is = joined-or bytes count l v b c.self.invariant at byte short small in
    let made = c.in_ok-put_bytes.ensures.ok ∙ ap (λ (xs : List ℕ). take (count / 8) bytes ++ take ((count % 8 + l + 7) / 8) xs) c.to_be_bytes.ensures in
    HoldsBits-word bytes c.put_bytes.new.bytes.items count l v b joined c.self.invariant at short small is made

pub invariant_of-self-2 : goal.invariant_of-self-2
invariant_of-self-2 c = (after c).1

pub returns-clause-ok : goal.returns-clause-ok
returns-clause-ok c =
    (after c).0 ∙ ap (λ (u : List Bool). u ++ bits_of_number c.from-length.result c.from.result) (ap (λ (b : Buffer). b.written) c.self.view_is)
    ∙ ap (λ (n : ℕ). c.args.self.now.written ++ bits_of_number n c.from.result) c.from-length.ensures ∙ ap (λ (n : ℕ). c.args.self.now.written ++ bits_of_number c.args.word.length n) c.from.ensures

pub returns-in_err-put_bytes-clause-full : goal.returns-in_err-put_bytes-clause-full
returns-in_err-put_bytes-clause-full c =
    let bytes : List ℕ = c.self.inside.bytes.items in
    let count : ℕ = c.self.inside.count in
    let whole : length bytes ≡ (count + 7) / 8 = c.self.invariant.whole in
    let n : length (take count (bits bytes)) ≡ count = length-taken count bytes (omega arith) in
    let view : length c.args.self.now.written ≡ count = ap (λ (b : Buffer). length b.written) (sym c.self.view_is) ∙ n in
    let l : c.from-length.result ≡ c.args.word.length = c.from-length.ensures in
    let capacity : c.args.self.now.capacity ≡ vec_capacity c.self.inside.bytes = ap (λ (b : Buffer). b.capacity) (sym c.self.view_is) in
    let full : vec_capacity c.self.inside.bytes < count / 8 + length (take ((count % 8 + c.from-length.result + 7) / 8) c.to_be_bytes.result) = c.in_err-put_bytes.ensures.full in
    let bound = length-take ((count % 8 + c.from-length.result + 7) / 8) c.to_be_bytes.result in
    on_err_all c.from_residual.result (omega arith)
