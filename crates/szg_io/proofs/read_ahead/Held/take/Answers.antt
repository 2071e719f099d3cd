use Rattle.std.proofs.Common.{◌≡◌, ℕ, ◌+◌, ◌-◌, ◌<◌, ◌≤◌, List, [], ◌++◌, length, take, drop, Option, None, Some, sym, ap, subst, ◌∙◌, arith, rules, refl, min, drop-drop, length-take, length-drop, length-append}
use Rattle.std.proofs.Math.Seq.{take-append_seam, take-add}
use Rattle.std.proofs.lemmas.List.{take-append-drop, take-take, drop-take, drop_all, take-append-le}
use Rattle.std.proofs.KnownBytes.{prepend_known-nil, prepend_known-read}
use Rattle.std.proofs.lemmas.Result.{err_from_is_err_and}
use Rattle.std.specs.Io.KnownBytes.{ReadConsumes, Consumes, Keeps, IsAtEnd, prepend_known}
use Rattle.szg_io.proofs.read_ahead.Held.take.Goals.{then-self+else-most-chunk+in_ok-n-2, else-self}
use Rattle.szg_io.proofs.read_ahead.Held.take.Goals as goal

none_held : (from to : ℕ) (bytes : List ℕ) → from ≡ to → take (to - from) (drop from bytes) ≡ []
none_held from to bytes same = ap (λ n. take n (drop from bytes)) {y = 0} (omega (arith, same))

-- a list that was lent and overwritten in full is what was written
written_whole : (len : ℕ) (new old lent : List ℕ) → len ≡ length old → lent ≡ old → length new ≡ length lent → take len (new ++ drop (length new) old) ≡ new
written_whole len new old lent long same kept =
    let all : len ≡ length new = long ∙ ap (λ (l : List ℕ). length l) (sym same) ∙ sym kept in
    ap (λ k. take k (new ++ drop (length new) old)) all ∙ take-append_seam new (drop (length new) old)

-- a call that moved nothing leaves an empty buffer empty
kept_none : (a b : Option (List ℕ)) (held new : List ℕ) → held ≡ [] → new ≡ [] → Keeps a b → Keeps (prepend_known held a) (prepend_known new b)
kept_none None b held new h n k = tt
kept_none (Some xs) None held new h n k = absurd k
kept_none (Some xs) (Some ys) held new h n k = ap (λ (l : List ℕ). l ++ ys) n ∙ k ∙ sym (ap (λ (l : List ℕ). l ++ xs) h)

-- the bytes that were read are held
kept_read : (a b : Option (List ℕ)) (held new : List ℕ) → held ≡ [] → Consumes a b new → Keeps (prepend_known held a) (prepend_known new b)
kept_read None b held new h k = tt
kept_read (Some xs) None held new h k = absurd k
kept_read (Some xs) (Some ys) held new h k = sym k ∙ sym (ap (λ (l : List ℕ). l ++ xs) h)

same_kept : (a : Option (List ℕ)) → Keeps a a
same_kept None = tt
same_kept (Some xs) = refl

-- `n` held bytes are copied to the front of a list
split_held : (from to n : ℕ) (buffer copied rest : List ℕ) → n ≤ to - from → copied ≡ take (from + n - from) (drop from buffer) → length copied ≡ n
    → take (to - from) (drop from buffer) ≡ take n (copied ++ rest) ++ take (to - (from + n)) (drop (from + n) buffer)
split_held from to n buffer copied rest few is long =
    let parts : to - from ≡ n + (to - (from + n)) = omega arith in
    let front : take n (copied ++ rest) ≡ copied = ap (λ (k : ℕ). take k (copied ++ rest)) (sym long) ∙ take-append_seam copied rest in
    let whole : from + n - from ≡ n = omega arith in
    ap (λ (k : ℕ). take k (drop from buffer)) parts ∙ take-add n (to - (from + n)) (drop from buffer)
    ∙ ap (λ (l : List ℕ). l ++ take (to - (from + n)) (drop n (drop from buffer))) (sym (front ∙ is ∙ ap (λ (k : ℕ). take k (drop from buffer)) whole))
    ∙ ap (λ (l : List ℕ). take n (copied ++ rest) ++ take (to - (from + n)) l) (drop-drop n from buffer)

pub returns-in_err-n-2-clause-bytes : goal.returns-in_err-n-2-clause-bytes
returns-in_err-n-2-clause-bytes g c =
    let p = err_from_is_err_and c.from_residual-in_err-n-2.result c.from_residual-in_err-n-2.ensures.1 in
    let same : c.self.inside.from ≡ c.self.inside.to = c.if-self.true in
    let old : c.args.self.now ≡ [] = sym c.self.view_is ∙ none_held c.self.inside.from c.self.inside.to c.self.inside.buffer.items same in
    rw p.1 (kept_none _ _ _ _ old (none_held _ _ _ same) c.in_err-n-2.ensures.bytes)

pub returns-clause-bytes : goal.returns-clause-bytes
returns-clause-bytes g c =
    let S = c.if-self.self-inside in
    let n : ℕ = c.min-n.result in
    let held : List ℕ = take (S.to - S.from) (drop S.from S.buffer.items) in
    let least : n ≡ min (length c.args.chunk.now) (S.to - S.from) = c.min-n.ensures in
    let whole : Keeps (prepend_known c.args.self.now (g.D.Input.coming c.args.device.now)) (prepend_known held (g.D.Input.coming c.if-self.device)) =
    elim c.if-self.branch [
      | then-self+else-most-chunk+in_ok-n-2 w ↦
          let old : c.args.self.now ≡ [] = sym c.self.view_is ∙ none_held c.self.inside.from c.self.inside.to c.self.inside.buffer.items w.if-self.true in
          let back = written_whole c.self.inside.buffer.len w.take_most.new.buffer c.self.inside.buffer.items w.deref_mut.result.now c.self.inside.buffer.ok.0 w.deref_mut.ensures.value w.take_most.auto.buffer in
          let new : held ≡ take w.in_ok-n-2.n w.take_most.new.buffer = rw (w.self-inside-is, back) (ap (λ (k : ℕ). take k w.take_most.new.buffer) {x = w.in_ok-n-2.n - 0} {y = w.in_ok-n-2.n} (omega arith)) in
          rw (w.device-is, new) (kept_read _ _ _ _ old w.in_ok-n-2.ensures.bytes.0)
      | else-self w ↦ rw (w.device-is, w.self-inside-is, ← c.self.view_is) (same_kept _)
    ] in
    let last : n ≡ 0 → 0 < length c.args.chunk.now → (take (S.to - (S.from + n)) (drop (S.from + n) S.buffer.items) ≡ []) × IsAtEnd (g.D.Input.coming c.if-self.device) =
    elim c.if-self.branch [
      | then-self+else-most-chunk+in_ok-n-2 w ↦ λ none some.
          let from : S.from ≡ 0 = rw w.self-inside-is refl in
          let to : S.to ≡ w.in_ok-n-2.n = rw w.self-inside-is refl in
          let more : length c.args.chunk.now < w.min-most.result = omega (arith, w.if-most-chunk.false) in (
            none_held (S.from + n) S.to S.buffer.items (omega (arith, none, some, least, from, to)),
            rw w.device-is (w.in_ok-n-2.ensures.bytes.1 (omega (arith, none, some, least, from, to)) (omega (arith, more, w.take_most.auto.buffer, w.min-most.ensures, w.len.ensures, w.deref_mut.ensures.len))),
          )
      | else-self w ↦ λ none some.
          let from : S.from ≡ c.self.inside.from = rw w.self-inside-is refl in
          let to : S.to ≡ c.self.inside.to = rw w.self-inside-is refl in
          absurd (w.if-self.false (omega (arith, none, some, least, from, to, c.self.invariant.0)))
    ] in
    let value : c.deref.result.now ≡ S.buffer.items = c.deref.ensures.value in
    let after : c.copy_from_slice.new.self ≡ take (S.from + n - S.from) (drop S.from S.buffer.items) = c.copy_from_slice.ensures.after ∙ ap (λ (l : List ℕ). take (S.from + n - S.from) (drop S.from l)) value in
    let long : length c.copy_from_slice.new.self ≡ n = c.copy_from_slice.ensures.len ∙ omega (arith, least, length-take n c.args.chunk.now) in
    let same_length : length (c.copy_from_slice.new.self ++ drop n c.args.chunk.now) ≡ length c.args.chunk.now = omega (arith, long, least, length-append c.copy_from_slice.new.self (drop n c.args.chunk.now), length-drop n c.args.chunk.now) in
    let split = split_held S.from S.to n S.buffer.items c.copy_from_slice.new.self (drop n c.args.chunk.now) (omega (arith, least)) after long in
    let read = prepend_known-read _ _ held _ (take n (c.copy_from_slice.new.self ++ drop n c.args.chunk.now)) ((n ≡ 0) × (0 < length c.args.chunk.now)) whole split (λ e. last e.0 e.1) in
    (read.0, λ none some. read.1 (none, omega (arith, some, same_length)))
