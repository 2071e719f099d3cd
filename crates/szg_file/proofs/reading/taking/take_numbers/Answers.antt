use Rattle.std.proofs.Common.{replicate, ◌≡◌, ◌+◌, ◌-◌, ◌*◌, ◌≤◌, ◌++◌, length, map, take, drop, List, ℕ, arith, rules, sym, ap, subst, ◌∙◌, Vec, Global}
use Rattle.std.proofs.lemmas.List.{take-append-drop}
use Rattle.std.proofs.lemmas.Result.{err_from_is_err_and}
use Rattle.byteorder.specs.Endian.{little_number, IsRead}
use Rattle.szg_file.specs.Contents.{number_of, items}
use Rattle.szg_file.specs.Format.{field, means}
use Rattle.szg_file.specs.declared.fault.ReadFault.TheVariants.{Memory}
use Rattle.szg_file.proofs.Readers.ItemsRead.{numbers_read}
use Rattle.szg_file.proofs.Readers.LoopReads.{reads_lacking}
use Rattle.szg_file.proofs.Readers.RowsRead.{rows_on, rows_stopped}
use Rattle.szg_file.proofs.Readers.Taken.{head_kept, tail_long, tail_written}
use Rattle.szg_file.proofs.reading.taking.take_numbers.Goals as goal

pub returns-in_err-grow-clause-rows : goal.returns-in_err-grow-clause-rows
returns-in_err-grow-clause-rows g c =
    let first = c.chunks.invariant in
    let size = c.min-size.result in
    let p = err_from_is_err_and c.from_residual-in_err-grow.result c.from_residual-in_err-grow.ensures.1 in
    let memory : c.in_err-grow.field-0.0 ≡ Memory = let e = c.in_err-grow.ensures.memory in cc in
    let most : size ≤ c.chunks.left = search rules in
    rw (p.1, p.2, memory) (rows_stopped number_of 2 (c.args.count - c.chunks.left) size (2 * (c.chunks.left - size)) c.args.count c.chunks.list.items (λ (list : Vec ℕ Global). list.items) (λ (list : Vec ℕ Global). list.items) Memory
    (omega (arith, first.0, most)) first.1 (reads_lacking (field (2 * size) means) (λ list. list.items) (λ (list : Vec ℕ Global). list.items) c.in_ok-rows.rows c.in_ok-rows.ensures.field))

pub returns-in_err-resize-clause-rows : goal.returns-in_err-resize-clause-rows
returns-in_err-resize-clause-rows g c =
    let first = c.chunks.invariant in
    let size = c.min-size.result in
    let p = err_from_is_err_and c.from_residual-in_err-resize.result c.from_residual-in_err-resize.ensures.1 in
    let most : size ≤ c.chunks.left = search rules in
    rw (p.1, p.2) (rows_stopped number_of 2 (c.args.count - c.chunks.left) size (2 * (c.chunks.left - size)) c.args.count c.chunks.list.items (λ (list : Vec ℕ Global). list.items) (λ (list : Vec ℕ Global). list.items) Memory
    (omega (arith, first.0, most)) first.1 (reads_lacking (field (2 * size) means) (λ list. list.items) (λ (list : Vec ℕ Global). list.items) c.in_ok-rows.rows c.in_ok-rows.ensures.field))

pub chunks-preserved : goal.chunks-preserved
chunks-preserved g c =
    let first = c.chunks.invariant in
    let size = c.min-size.result in
    let bytes = c.in_ok-rows.rows in
    let list : List ℕ = c.chunks.list.items in
    let before = c.deref_mut.result.now in
    let chunk = c.read_u16_into.new.dst in
    let at = c.len-at.result in
    let most : size ≤ c.chunks.left = search rules in
    let next : c.args.count - (c.chunks.left - size) ≡ (c.args.count - c.chunks.left) + size = omega (arith, first.0, most) in
    let sum : 2 * (c.args.count - c.chunks.left) + 2 * size ≡ 2 * (c.args.count - (c.chunks.left - size)) = omega (arith, next) in
    let lasts : length before ≡ at + size = search rules in
    let sized : length chunk ≡ size = search rules in
    let old : length list ≡ at = search rules in
    let new : c.resize.new.self.len ≡ at + size = search rules in
    let rest : List ℕ = drop (length (take at before ++ (chunk ++ drop (length before - at) (drop at before)))) c.resize.new.self.items in
    let after : List ℕ = take c.resize.new.self.len ((take at before ++ (chunk ++ drop (length before - at) (drop at before))) ++ rest) in
    let more : List ℕ = replicate ((at + size) - c.grow.new.list.len) 0 in
    let is : before ≡ take (at + size) list ++ more = c.deref_mut.ensures.value ∙ c.in_ok-resize.ensures.items ∙ ap (λ (z : List ℕ). take (at + size) z ++ more) c.in_ok-grow.ensures.items in
    let kept : take (length list) after ≡ list =
    ap (λ (n : ℕ). take (length list) (take n ((take at before ++ (chunk ++ drop (length before - at) (drop at before))) ++ rest))) new ∙ head_kept list before chunk rest more at size old lasts is in
    let longer : length after ≡ length list + size =
    ap (λ (n : ℕ). length (take n ((take at before ++ (chunk ++ drop (length before - at) (drop at before))) ++ rest))) new ∙ tail_long before chunk rest at size lasts sized ∙ omega (arith, old) in
    let even : length bytes.items ≡ 2 * length chunk = omega (arith, sized, c.in_ok-rows.ensures.count) in
    let numbers : drop (length list) after ≡ map number_of (items 2 size bytes.items) =
    ap (λ (n : ℕ). drop n after) old
    ∙ ap (λ (n : ℕ). drop at (take n ((take at before ++ (chunk ++ drop (length before - at) (drop at before))) ++ rest))) new
    ∙ tail_written before chunk rest at size lasts sized
    ∙ numbers_read chunk bytes.items (subst (λ (z : List ℕ). IsRead little_number 2 z chunk) c.as_slice.ensures.value c.read_u16_into.ensures) even
    ∙ ap (λ (n : ℕ). map number_of (items 2 n bytes.items)) sized in
    let grown = sym (take-append-drop (length list) after)
    ∙ ap (λ (z : List ℕ). z ++ drop (length list) after) kept
    ∙ ap (λ (z : List ℕ). list ++ z) numbers in (
      omega (arith, first.0),
      rows_on number_of 2 (c.args.count - c.chunks.left) size (c.args.count - (c.chunks.left - size)) list after (λ list. list.items) bytes
          next sum first.1 c.in_ok-rows.ensures.field c.in_ok-rows.ensures.count grown c.in_ok-grow.ensures.place c.in_ok-grow.ensures.fill,
      omega (arith, longer, first.2, next),
      omega (arith, c.in_ok-grow.ensures.place, c.in_ok-rows.ensures.place, first.3, sum),
      omega (arith, c.in_ok-grow.ensures.growth, c.in_ok-rows.ensures.growth, first.4, next),
    )
