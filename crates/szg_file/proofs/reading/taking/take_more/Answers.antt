use Rattle.std.proofs.Common.{replicate, ◌≡◌, ◌+◌, ◌-◌, ◌≤◌, ◌++◌, [], List, length, take, drop, ℕ, arith, refl, sym, rules, ap, ◌∙◌, Ok, Err}
use Rattle.std.proofs.lemmas.Result.{err_from_is_err_and}
use Rattle.std.proofs.Math.Seq.{take-length, drop-length}
use Rattle.szg_file.specs.Format.{field, means}
use Rattle.szg_file.specs.declared.fault.ReadFault.TheVariants.{Memory}
use Rattle.szg_file.proofs.Readers.PlacedSubs.{lacks_first}
use Rattle.szg_file.proofs.Readers.Taken.{reads_as, reads_from, reads_no_bytes, head_kept, tail_long, tail_written, field_more, field_stopped, grown_twice, reads_equal}
use Rattle.szg_file.proofs.reading.taking.take_more.Goals as goal

pub chunks-init : goal.chunks-init
chunks-init g c = (
  omega arith,
  reads_no_bytes (c.args.count - c.args.count) _ tt (omega arith) (drop-length c.args.list.now.items),
  take-length c.args.list.now.items,
  omega arith,
  omega arith,
  omega arith,
  omega arith,
)

pub returns-in_err-grow-clause-field : goal.returns-in_err-grow-clause-field
returns-in_err-grow-clause-field g c =
    let first = c.chunks.invariant in
    let size = c.min-size.result in
    let sum : (c.args.count - c.chunks.left) + (size + (c.chunks.left - size)) ≡ c.args.count = search (rules, first.0) in
    let p = err_from_is_err_and c.from_residual.result c.from_residual.ensures.1 in
    let memory : c.in_err-grow.field-0.0 ≡ Memory = let e = c.in_err-grow.ensures.memory in cc in
    rw (p.1, p.2, memory) (reads_equal _ (field c.args.count means) _ (Err Memory) (ap (λ (n : ℕ). field n means) sum)
    (field_stopped (c.args.count - c.chunks.left) size (c.chunks.left - size) _ (λ (_ : Unit {0}). []) _ tt Memory first.1 (lacks_first (field size means) (λ (_ : Unit {0}). []))))

pub returns-in_err-resize-clause-field : goal.returns-in_err-resize-clause-field
returns-in_err-resize-clause-field g c =
    let first = c.chunks.invariant in
    let size = c.min-size.result in
    let sum : (c.args.count - c.chunks.left) + (size + (c.chunks.left - size)) ≡ c.args.count = search (rules, first.0) in
    let p = err_from_is_err_and c.from_residual-in_err-resize.result c.from_residual-in_err-resize.ensures.1 in
    rw (p.1, p.2) (reads_equal _ (field c.args.count means) _ (Err Memory) (ap (λ (n : ℕ). field n means) sum)
    (field_stopped (c.args.count - c.chunks.left) size (c.chunks.left - size) _ (λ (_ : Unit {0}). []) _ tt Memory first.1 (lacks_first (field size means) (λ (_ : Unit {0}). []))))

pub returns-in_err-take_field-clause-field : goal.returns-in_err-take_field-clause-field
returns-in_err-take_field-clause-field g c =
    let first = c.chunks.invariant in
    let size = c.min-size.result in
    let chunk = c.take_field.new.chunk in
    let sized : length chunk ≡ size = search rules in
    let sum : (c.args.count - c.chunks.left) + (size + (c.chunks.left - size)) ≡ c.args.count = search (rules, first.0) in
    let p = err_from_is_err_and c.from_residual-in_err-take_field.result c.from_residual-in_err-take_field.ensures.1 in
    let fault = c.in_err-take_field.field-0.0 in
    let one = reads_equal (field (length chunk) means) (field size means) (λ (_ : Unit {0}). chunk) (Err fault) (ap (λ (n : ℕ). field n means) sized)
    (reads_from (field (length chunk) means) (λ (_ : Unit {0}). chunk) (Err fault) (sym c.in_ok-grow.ensures.place) (sym c.in_ok-grow.ensures.fill) c.in_err-take_field.ensures.field) in
    rw (p.1, p.2) (reads_equal _ (field c.args.count means) _ (Err fault) (ap (λ (n : ℕ). field n means) sum)
    (field_stopped (c.args.count - c.chunks.left) size (c.chunks.left - size) _ (λ (_ : Unit {0}). chunk) _ tt fault first.1 one))

pub chunks-preserved : goal.chunks-preserved
chunks-preserved g c =
    let first = c.chunks.invariant in
    let size = c.min-size.result in
    let list : List ℕ = c.chunks.list.items in
    let before = c.deref_mut.result.now in
    let chunk = c.take_field.new.chunk in
    let at = c.len-at.result in
    let most : size ≤ c.chunks.left = search rules in
    let lasts : length before ≡ at + size = search rules in
    let sized : length chunk ≡ size = search rules in
    let old : length list ≡ at = search rules in
    let new : c.resize.new.self.len ≡ at + size = search rules in
    let rest : List ℕ = drop (length (take at before ++ (chunk ++ drop (length before - at) (drop at before)))) c.resize.new.self.items in
    let after : List ℕ = take c.resize.new.self.len ((take at before ++ (chunk ++ drop (length before - at) (drop at before))) ++ rest) in
    let seen : drop (length list) after ≡ chunk =
    ap (λ (n : ℕ). drop n after) old
    ∙ ap (λ (n : ℕ). drop at (take n ((take at before ++ (chunk ++ drop (length before - at) (drop at before))) ++ rest))) new
    ∙ tail_written before chunk rest at size lasts sized in
    let more : List ℕ = replicate ((at + size) - c.grow.new.list.len) 0 in
    let is : before ≡ take (at + size) list ++ more = c.deref_mut.ensures.value ∙ c.in_ok-resize.ensures.items ∙ ap (λ (z : List ℕ). take (at + size) z ++ more) c.in_ok-grow.ensures.items in
    let kept : take (length list) after ≡ list =
    ap (λ (n : ℕ). take (length list) (take n ((take at before ++ (chunk ++ drop (length before - at) (drop at before))) ++ rest))) new ∙ head_kept list before chunk rest more at size old lasts is in
    let longer : length after ≡ length list + size =
    ap (λ (n : ℕ). length (take n ((take at before ++ (chunk ++ drop (length before - at) (drop at before))) ++ rest))) new ∙ tail_long before chunk rest at size lasts sized ∙ omega (arith, old) in
    let one = reads_as (field (length chunk) means) (field size means) (λ (_ : Unit {0}). chunk) (λ (_ : Unit {0}). drop (length list) after) {n' = c.take_field.new.state} tt tt (ap (λ (n : ℕ). field n means) sized)
    seen refl refl
    (reads_from (field (length chunk) means) (λ (_ : Unit {0}). chunk) (Ok tt) (sym c.in_ok-grow.ensures.place) (sym c.in_ok-grow.ensures.fill) c.in_ok-take_field.ensures.field) in
    let grown = grown_twice c.args.list.now.items list after first.2 kept in
    let joined = field_more (c.args.count - c.chunks.left) size _ _ (λ (_ : Unit {0}). drop (length c.args.list.now.items) after) tt tt tt grown.1 first.1 one in
    let sum : (c.args.count - c.chunks.left) + size ≡ c.args.count - (c.chunks.left - size) = omega (arith, first.0, most) in (
      omega (arith, first.0),
      reads_as _ (field (c.args.count - (c.chunks.left - size)) means) _ _ tt tt (ap (λ (n : ℕ). field n means) sum) refl refl refl joined,
      grown.0,
      omega (arith, longer, first.3, sum),
      omega (arith, sized, c.in_ok-take_field.ensures.place, c.in_ok-grow.ensures.place, first.4, sum),
      omega (arith, c.in_ok-take_field.ensures.growth, c.in_ok-grow.ensures.growth, first.5, sum),
      omega (arith, longer, c.in_ok-take_field.ensures.grown, c.in_ok-take_field.ensures.growth, c.in_ok-grow.ensures.growth, ap length c.in_ok-grow.ensures.fill, first.6),
    )
