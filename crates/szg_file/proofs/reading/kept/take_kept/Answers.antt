use Rattle.std.proofs.Common.{◌≡◌, ◌+◌, ◌-◌, ◌*◌, ◌≤◌, ◌++◌, [], length, map, List, ℕ, arith, rules, refl, ap, subst, ◌∙◌, Vec, Global}
use Rattle.std.proofs.lemmas.Result.{err_from_is_err_and}
use Rattle.szg_file.specs.Contents.{number_of, items}
use Rattle.szg_file.specs.Format.{field, means}
use Rattle.szg_file.specs.Kept.{IsKept}
use Rattle.szg_file.specs.declared.fault.ReadFault.TheVariants.{Memory}
use Rattle.szg_file.proofs.Readers.KeptRows.{kept_begins, kept_within}
use Rattle.szg_file.proofs.Readers.LoopReads.{reads_lacking}
use Rattle.szg_file.proofs.Readers.RowsRead.{RowsRead, numbers_stopped, numbers_taken, rows_none, rows_on, rows_done, rows_stopped}
use Rattle.szg_file.proofs.reading.kept.take_kept.Goals as goal

pub chunks-init : goal.chunks-init
chunks-init g c = record {
  left = omega arith;
  list = [];
  kept = kept_begins c.args.limit c.args.last _ c.new.ensures.items refl refl refl;
  rows = rows_none number_of 2 (c.args.count - c.args.count) [] (omega arith) refl;
  seen = omega arith;
  place = omega arith;
  growth = omega arith;
  fill = omega arith;
}

pub returns-in_err-numbers-clause-lengths : goal.returns-in_err-numbers-clause-lengths
returns-in_err-numbers-clause-lengths g c =
    let h = c.chunks.invariant in
    let p = err_from_is_err_and c.from_residual.result c.from_residual.ensures.1 in
    let chunk = c.min-chunk.result in
    let most : chunk ≤ c.chunks.left = search rules in
    let stopped = numbers_stopped chunk c.in_err-numbers.field-0.0 c.in_err-numbers.ensures.rows in
    rw (p.1, p.2) (rows_stopped number_of 2 (c.args.count - c.chunks.left) chunk (2 * (c.chunks.left - chunk)) c.args.count h.list (λ (l : List ℕ). l) (λ (l : List ℕ). l) c.in_err-numbers.field-0.0
    (omega (arith, h.left, most)) h.rows stopped)

pub returns-in_err-add-clause-lengths : goal.returns-in_err-add-clause-lengths
returns-in_err-add-clause-lengths g c =
    let h = c.chunks.invariant in
    let p = err_from_is_err_and c.from_residual-in_err-add.result c.from_residual-in_err-add.ensures.1 in
    let memory : c.in_err-add.field-0.0 ≡ Memory = let e = c.in_err-add.ensures.memory in cc in
    let chunk = c.min-chunk.result in
    let most : chunk ≤ c.chunks.left = search rules in
    let read = numbers_taken chunk c.in_ok-numbers.numbers c.in_ok-numbers.ensures.place c.in_ok-numbers.ensures.rows in
    rw (p.1, p.2, memory) (rows_stopped number_of 2 (c.args.count - c.chunks.left) chunk (2 * (c.chunks.left - chunk)) c.args.count h.list (λ (l : List ℕ). l) (λ (l : List ℕ). l) Memory
    (omega (arith, h.left, most)) h.rows (reads_lacking (field (2 * chunk) means) (λ (_ : Vec ℕ Global). read.bytes) (λ (l : List ℕ). l) c.in_ok-numbers.numbers read.read))

pub chunks-preserved : goal.chunks-preserved
chunks-preserved g c =
    let h = c.chunks.invariant in
    let chunk = c.min-chunk.result in
    let most : chunk ≤ c.chunks.left = search rules in
    let next : c.args.count - (c.chunks.left - chunk) ≡ (c.args.count - c.chunks.left) + chunk = omega (arith, h.left, most) in
    let sum : 2 * (c.args.count - c.chunks.left) + 2 * chunk ≡ 2 * (c.args.count - (c.chunks.left - chunk)) = omega (arith, next) in
    let read = numbers_taken chunk c.in_ok-numbers.numbers c.in_ok-numbers.ensures.place c.in_ok-numbers.ensures.rows in
    let more : List ℕ = map number_of (items 2 chunk read.bytes) in
    let numbers : c.as_slice.result.now ≡ more = c.as_slice.ensures.value ∙ read.numbers in
    let long : length c.as_slice.result.now ≡ chunk = ap (λ (l : List ℕ). length l) c.as_slice.ensures.value ∙ c.in_ok-numbers.ensures.count in
    let kept = c.in_ok-add.ensures.kept h.list h.kept in
    record {
      left = omega (arith, h.left);
      list = h.list ++ more;
      kept = subst (λ (z : List ℕ). IsKept c.args.limit c.args.last (h.list ++ z) c.add.new.self) numbers kept;
      rows = rows_on number_of 2 (c.args.count - c.chunks.left) chunk (c.args.count - (c.chunks.left - chunk)) h.list (h.list ++ more) (λ (_ : Vec ℕ Global). read.bytes) c.in_ok-numbers.numbers
          next sum h.rows read.read read.long refl c.in_ok-add.ensures.place c.in_ok-add.ensures.fill;
      seen = omega (arith, c.in_ok-add.ensures.seen, h.seen, long, next);
      place = omega (arith, c.in_ok-add.ensures.place, c.in_ok-numbers.ensures.place, h.place, sum);
      growth = omega (arith, c.in_ok-add.ensures.growth, long, c.in_ok-numbers.ensures.growth, h.growth, next);
      fill = omega (arith, ap (λ (l : List ℕ). length l) c.in_ok-add.ensures.fill, ap (λ (l : List ℕ). length l) read.fill, h.fill);
    }

pub returns-clause-lengths : goal.returns-clause-lengths
returns-clause-lengths g c =
    let h = c.chunks.invariant in
    let all : c.args.count - c.chunks.left ≡ c.args.count = omega arith in
    (h.list, h.kept, rows_done number_of 2 c.args.count h.list (λ _. h.list) c.chunks.kept refl (subst (λ (n : ℕ). RowsRead number_of 2 n h.list c.args.state.now c.chunks.state g.R.Input c.args.input.now c.chunks.input) all h.rows))

pub returns-clause-grown : goal.returns-clause-grown
returns-clause-grown g c =
    let h = c.chunks.invariant in
    omega (arith, kept_within c.args.limit c.args.last h.list c.chunks.kept h.kept, h.seen, h.growth, h.fill)
