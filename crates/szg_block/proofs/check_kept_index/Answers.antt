use Rattle.std.proofs.Common.{ℕ, ◌≡◌, ◌*◌, ◌^◌, ◌<◌, ◌≤◌, min, false, true, List, length, refl, ap, sym, ◌∙◌, arith, get_or}
use Rattle.std.specs.Vec.{vec_len}
use Rattle.std.proofs.Math.Nat.{mul-le-mul_right}
use Rattle.std.proofs.Math.Pow.{pow_mono}
use Rattle.szg_block.specs.Block.{start}
use Rattle.szg_block.specs.Sound.{entry_count}
use Rattle.szg_block.specs.declared.Entry.{Entry}
use Rattle.szg_block.proofs.KeptChecks.{all_in_whole, bad_in_whole, bad_there, few_entries, last_in_whole, short_in_whole, start-all, total_in_whole}
use Rattle.szg_block.proofs.Parts.{entry_count-spans, length-entries}
use Rattle.szg_block.proofs.check_kept_index.Goals as goal

pub returns-then-total-size-clause-fault : goal.returns-then-total-size-clause-fault
returns-then-total-size-clause-fault c =
    let indexed = rw c.in-Pairs.is at c.requires.indexed in
    let count : length c.in-Pairs.sparse.items ≡ entry_count c.in-Pairs.span_bits c.args.size = sym (length-entries c.in-Pairs.sparse.items) ∙ indexed.1 in
    let m : c.min-count.result ≡ min (length c.in-Pairs.lengths.items) c.in-Pairs.blocks = omega (arith, c.min-count.ensures, c.len.ensures, c.deref.ensures.len, ap (λ (l : List ℕ). length l) c.deref.ensures.value) in
    let t : c.total.result ≡ start c.in-Pairs.lengths.items c.in-Pairs.blocks = start-all c.total.result c.deref.result.now c.in-Pairs.lengths.items c.min-count.result c.in-Pairs.blocks c.total.ensures.sum c.deref.ensures.value m in
    rw c.in-Pairs.is (tt, λ keep whole packed kept. short_in_whole c.in-Pairs.block_bits c.in-Pairs.span_bits c.in-Pairs.extra c.in-Pairs.blocks c.in-Pairs.code c.in-Pairs.dict c.in-Pairs.sparse.items c.in-Pairs.lengths.items c.args.size c.args.before_last count keep whole kept (omega (arith, t, c.if-total-size.true)))

pub first_bad_entry-requires-clause-small : goal.first_bad_entry-requires-clause-small
first_bad_entry-requires-clause-small c =
    let indexed = rw c.in-Pairs.is at c.requires.indexed in
    let count : length c.in-Pairs.sparse.items ≡ entry_count c.in-Pairs.span_bits c.args.size = sym (length-entries c.in-Pairs.sparse.items) ∙ indexed.1 in
    let n : length c.deref-2.result.now ≡ entry_count c.in-Pairs.span_bits c.args.size = ap (λ (l : List Entry). length l) c.deref-2.ensures.value ∙ count in
    let p : 2 ^ c.in-Pairs.span_bits ≤ 2 ^ 31 = pow_mono indexed.0.1.2 in
    let k : length c.deref-2.result.now * 2 ^ c.in-Pairs.span_bits ≡ entry_count c.in-Pairs.span_bits c.args.size * 2 ^ c.in-Pairs.span_bits = ap (λ (u : ℕ). u * 2 ^ c.in-Pairs.span_bits) n in
    omega (arith, k, p, entry_count-spans c.in-Pairs.span_bits c.args.size, c.requires.size)

pub returns-in_default-first_bad_entry-clause-ok : goal.returns-in_default-first_bad_entry-clause-ok
returns-in_default-first_bad_entry-clause-ok c =
    let indexed = rw c.in-Pairs.is at c.requires.indexed in
    let count : length c.in-Pairs.sparse.items ≡ entry_count c.in-Pairs.span_bits c.args.size = sym (length-entries c.in-Pairs.sparse.items) ∙ indexed.1 in
    let m : c.min-count.result ≡ min (length c.in-Pairs.lengths.items) c.in-Pairs.blocks = omega (arith, c.min-count.ensures, c.len.ensures, c.deref.ensures.len, ap (λ (l : List ℕ). length l) c.deref.ensures.value) in
    let t : c.total.result ≡ start c.in-Pairs.lengths.items c.in-Pairs.blocks = start-all c.total.result c.deref.result.now c.in-Pairs.lengths.items c.min-count.result c.in-Pairs.blocks c.total.ensures.sum c.deref.ensures.value m in
    let all = rw (c.deref-2.ensures.value, c.deref-3.ensures.value) at c.in_default-first_bad_entry.ensures.all in
    rw c.in-Pairs.is (λ keep whole kept. (total_in_whole c.in-Pairs.block_bits c.in-Pairs.span_bits c.in-Pairs.extra c.in-Pairs.blocks c.in-Pairs.code c.in-Pairs.dict c.in-Pairs.sparse.items c.in-Pairs.lengths.items c.args.size c.args.before_last count keep whole kept (omega (arith, t, c.if-total-size.false)), all_in_whole c.in-Pairs.block_bits c.in-Pairs.span_bits c.in-Pairs.extra c.in-Pairs.blocks c.in-Pairs.code c.in-Pairs.dict c.in-Pairs.sparse.items c.in-Pairs.lengths.items c.args.size c.args.before_last count keep whole kept all))

pub overflow_add-k : goal.overflow_add-k
overflow_add-k c =
    let indexed = rw c.in-Pairs.is at c.requires.indexed in
    let count : length c.in-Pairs.sparse.items ≡ entry_count c.in-Pairs.span_bits c.args.size = sym (length-entries c.in-Pairs.sparse.items) ∙ indexed.1 in
    let first = rw (c.deref-2.ensures.value, c.deref-3.ensures.value) at c.in-Some.ensures.first in
    let there : c.in-Some.k < length c.in-Pairs.sparse.items = bad_there c.in-Pairs.lengths.items c.in-Pairs.span_bits c.in-Pairs.sparse.items c.in-Some.k first.here in
    omega (arith, there, count, few_entries c.in-Pairs.span_bits c.args.size, c.requires.size)

pub returns-then-k-len-clause-entry : goal.returns-then-k-len-clause-entry
returns-then-k-len-clause-entry c = λ k e.
    let first = rw (c.deref-2.ensures.value, c.deref-3.ensures.value) at c.in-Some.ensures.first in
    let there : c.in-Some.k < length c.in-Pairs.sparse.items = bad_there c.in-Pairs.lengths.items c.in-Pairs.span_bits c.in-Pairs.sparse.items c.in-Some.k first.here in
    let same : c.in-Some.k ≡ k = cc in
    rw c.in-Pairs.is (omega (arith, same, there, length-entries c.in-Pairs.sparse.items))

pub returns-then-k-len-clause-fault : goal.returns-then-k-len-clause-fault
returns-then-k-len-clause-fault c =
    let indexed = rw c.in-Pairs.is at c.requires.indexed in
    let count : length c.in-Pairs.sparse.items ≡ entry_count c.in-Pairs.span_bits c.args.size = sym (length-entries c.in-Pairs.sparse.items) ∙ indexed.1 in
    let m : c.min-count.result ≡ min (length c.in-Pairs.lengths.items) c.in-Pairs.blocks = omega (arith, c.min-count.ensures, c.len.ensures, c.deref.ensures.len, ap (λ (l : List ℕ). length l) c.deref.ensures.value) in
    let t : c.total.result ≡ start c.in-Pairs.lengths.items c.in-Pairs.blocks = start-all c.total.result c.deref.result.now c.in-Pairs.lengths.items c.min-count.result c.in-Pairs.blocks c.total.ensures.sum c.deref.ensures.value m in
    let first = rw (c.deref-2.ensures.value, c.deref-3.ensures.value) at c.in-Some.ensures.first in
    let all : length c.in-Pairs.sparse.items ≡ vec_len c.in-Pairs.sparse = sym (ap (λ (l : List Entry). length l) c.deref-2.ensures.value) ∙ c.deref-2.ensures.len in
    let d : Entry = record { block = 0; offset = 0 } in
    rw c.in-Pairs.is (
      tt,
      λ keep whole packed kept. (
        total_in_whole c.in-Pairs.block_bits c.in-Pairs.span_bits c.in-Pairs.extra c.in-Pairs.blocks c.in-Pairs.code c.in-Pairs.dict c.in-Pairs.sparse.items c.in-Pairs.lengths.items c.args.size c.args.before_last count keep whole kept (omega (arith, t, c.if-total-size.false)),
        bad_in_whole c.in-Pairs.block_bits c.in-Pairs.span_bits c.in-Pairs.extra c.in-Pairs.blocks c.in-Pairs.code c.in-Pairs.dict c.in-Pairs.sparse.items c.in-Pairs.lengths.items c.args.size c.args.before_last count keep whole kept c.in-Some.k d first (λ last past within leads. omega (arith, last, all, c.if-k-len.true, c.len-2.ensures)),
      ),
    )

pub index-entry-requires : goal.index-entry-requires
index-entry-requires c =
    let first = rw (c.deref-2.ensures.value, c.deref-3.ensures.value) at c.in-Some.ensures.first in
    let there : c.in-Some.k < length c.in-Pairs.sparse.items = bad_there c.in-Pairs.lengths.items c.in-Pairs.span_bits c.in-Pairs.sparse.items c.in-Some.k first.here in
    let all : length c.in-Pairs.sparse.items ≡ vec_len c.in-Pairs.sparse = sym (ap (λ (l : List Entry). length l) c.deref-2.ensures.value) ∙ c.deref-2.ensures.len in
    omega (arith, there, all)

pub middle_of_span-middle-requires-clause-small : goal.middle_of_span-middle-requires-clause-small
middle_of_span-middle-requires-clause-small c =
    let indexed = rw c.in-Pairs.is at c.requires.indexed in
    let count : length c.in-Pairs.sparse.items ≡ entry_count c.in-Pairs.span_bits c.args.size = sym (length-entries c.in-Pairs.sparse.items) ∙ indexed.1 in
    let first = rw (c.deref-2.ensures.value, c.deref-3.ensures.value) at c.in-Some.ensures.first in
    let there : c.in-Some.k < length c.in-Pairs.sparse.items = bad_there c.in-Pairs.lengths.items c.in-Pairs.span_bits c.in-Pairs.sparse.items c.in-Some.k first.here in
    let p : 2 ^ c.in-Pairs.span_bits ≤ 2 ^ 31 = pow_mono indexed.0.1.2 in
    let k : c.in-Some.k * 2 ^ c.in-Pairs.span_bits ≤ entry_count c.in-Pairs.span_bits c.args.size * 2 ^ c.in-Pairs.span_bits = mul-le-mul_right (2 ^ c.in-Pairs.span_bits) (omega (arith, there, count)) in
    omega (arith, k, p, entry_count-spans c.in-Pairs.span_bits c.args.size, c.requires.size)

pub returns-then-leads_past-clause-ok : goal.returns-then-leads_past-clause-ok
returns-then-leads_past-clause-ok c =
    let indexed = rw c.in-Pairs.is at c.requires.indexed in
    let count : length c.in-Pairs.sparse.items ≡ entry_count c.in-Pairs.span_bits c.args.size = sym (length-entries c.in-Pairs.sparse.items) ∙ indexed.1 in
    let m : c.min-count.result ≡ min (length c.in-Pairs.lengths.items) c.in-Pairs.blocks = omega (arith, c.min-count.ensures, c.len.ensures, c.deref.ensures.len, ap (λ (l : List ℕ). length l) c.deref.ensures.value) in
    let t : c.total.result ≡ start c.in-Pairs.lengths.items c.in-Pairs.blocks = start-all c.total.result c.deref.result.now c.in-Pairs.lengths.items c.min-count.result c.in-Pairs.blocks c.total.ensures.sum c.deref.ensures.value m in
    let first = rw (c.deref-2.ensures.value, c.deref-3.ensures.value) at c.in-Some.ensures.first in
    let all : length c.in-Pairs.sparse.items ≡ vec_len c.in-Pairs.sparse = sym (ap (λ (l : List Entry). length l) c.deref-2.ensures.value) ∙ c.deref-2.ensures.len in
    let entry : Entry = c.index-entry.result.now in
    let b : entry.block ≡ (get_or c.in-Pairs.sparse.items c.in-Some.k entry).block = ap (λ (e : Entry). e.block) c.index-entry.ensures in
    let o : entry.offset ≡ (get_or c.in-Pairs.sparse.items c.in-Some.k entry).offset = ap (λ (e : Entry). e.offset) c.index-entry.ensures in
    let kept_count : length c.in-Pairs.lengths.items ≡ vec_len c.in-Pairs.lengths = sym (ap (λ (l : List ℕ). length l) c.deref-3.ensures.value) ∙ c.deref-3.ensures.len in
    let leads = c.if-leads_past.ensures.0 refl in
    rw c.in-Pairs.is (λ keep whole kept. (
      total_in_whole c.in-Pairs.block_bits c.in-Pairs.span_bits c.in-Pairs.extra c.in-Pairs.blocks c.in-Pairs.code c.in-Pairs.dict c.in-Pairs.sparse.items c.in-Pairs.lengths.items c.args.size c.args.before_last count keep whole kept (omega (arith, t, c.if-total-size.false)),
      last_in_whole c.in-Pairs.block_bits c.in-Pairs.span_bits c.in-Pairs.extra c.in-Pairs.blocks c.in-Pairs.code c.in-Pairs.dict c.in-Pairs.sparse.items c.in-Pairs.lengths.items c.args.size c.args.before_last count keep whole kept c.in-Some.k entry first (omega (arith, all, c.if-k-len.false, c.len-2.ensures)) (omega (arith, b, leads.1, c.from.ensures)) (omega (arith, o, leads.2, c.middle_of_span-middle.ensures)),
    ))

pub returns-clause-entry : goal.returns-clause-entry
returns-clause-entry c = λ k e.
    let first = rw (c.deref-2.ensures.value, c.deref-3.ensures.value) at c.in-Some.ensures.first in
    let there : c.in-Some.k < length c.in-Pairs.sparse.items = bad_there c.in-Pairs.lengths.items c.in-Pairs.span_bits c.in-Pairs.sparse.items c.in-Some.k first.here in
    let same : c.in-Some.k ≡ k = cc in
    rw c.in-Pairs.is (omega (arith, same, there, length-entries c.in-Pairs.sparse.items))

pub returns-clause-fault : goal.returns-clause-fault
returns-clause-fault c =
    let indexed = rw c.in-Pairs.is at c.requires.indexed in
    let count : length c.in-Pairs.sparse.items ≡ entry_count c.in-Pairs.span_bits c.args.size = sym (length-entries c.in-Pairs.sparse.items) ∙ indexed.1 in
    let m : c.min-count.result ≡ min (length c.in-Pairs.lengths.items) c.in-Pairs.blocks = omega (arith, c.min-count.ensures, c.len.ensures, c.deref.ensures.len, ap (λ (l : List ℕ). length l) c.deref.ensures.value) in
    let t : c.total.result ≡ start c.in-Pairs.lengths.items c.in-Pairs.blocks = start-all c.total.result c.deref.result.now c.in-Pairs.lengths.items c.min-count.result c.in-Pairs.blocks c.total.ensures.sum c.deref.ensures.value m in
    let first = rw (c.deref-2.ensures.value, c.deref-3.ensures.value) at c.in-Some.ensures.first in
    let entry : Entry = c.index-entry.result.now in
    let b : entry.block ≡ (get_or c.in-Pairs.sparse.items c.in-Some.k entry).block = ap (λ (e : Entry). e.block) c.index-entry.ensures in
    let o : entry.offset ≡ (get_or c.in-Pairs.sparse.items c.in-Some.k entry).offset = ap (λ (e : Entry). e.offset) c.index-entry.ensures in
    let kept_count : length c.in-Pairs.lengths.items ≡ vec_len c.in-Pairs.lengths = sym (ap (λ (l : List ℕ). length l) c.deref-3.ensures.value) ∙ c.deref-3.ensures.len in
    rw c.in-Pairs.is (
      tt,
      λ keep whole packed kept. (
        total_in_whole c.in-Pairs.block_bits c.in-Pairs.span_bits c.in-Pairs.extra c.in-Pairs.blocks c.in-Pairs.code c.in-Pairs.dict c.in-Pairs.sparse.items c.in-Pairs.lengths.items c.args.size c.args.before_last count keep whole kept (omega (arith, t, c.if-total-size.false)),
        bad_in_whole c.in-Pairs.block_bits c.in-Pairs.span_bits c.in-Pairs.extra c.in-Pairs.blocks c.in-Pairs.code c.in-Pairs.dict c.in-Pairs.sparse.items c.in-Pairs.lengths.items c.args.size c.args.before_last count keep whole kept c.in-Some.k entry first (λ last past within leads.
            let no : false ≡ true = c.if-leads_past.ensures.1 (omega (arith, b, past, kept_count, c.len-3.ensures), omega (arith, b, within, c.from.ensures), omega (arith, o, leads, c.middle_of_span-middle.ensures)) in
            absurd cc),
      ),
    )
