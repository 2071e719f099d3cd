use Rattle.std.proofs.Common.{ℕ, ◌≡◌, ◌+◌, ◌-◌, ◌++◌, min, List, length, take, ap, sym, ◌∙◌, subst, arith}
use Rattle.szg_pairs.specs.Expansion.{expansion_of}
use Rattle.szg_block.proofs.Written.{more_written, room_is}
use Rattle.szg_block.proofs.words.write_word.Goals.{then-count-gt0, else-count-gt0}
use Rattle.szg_block.proofs.words.write_word.Goals as goal

pub returns-clause-written : goal.returns-clause-written
returns-clause-written c =
    let at : ℕ = c.args.at in
    let k : ℕ = c.min-count.result in
    let values : List ℕ = c.args.values.now in
    let xs : List ℕ = expansion_of c.args.dict.now c.args.symbol in
    let are : k ≡ min (length xs) (length values - at) = omega (arith, c.len.ensures.number, c.min-count.ensures) in
    elim c.if-count-gt0.branch [
      | then-count-gt0 w ↦ λ rest.
          let room = room_is at k values (omega (arith, are, c.requires.within)) in
          let first = w.write_symbol.ensures ∙ ap (λ m. take m xs) room in
          subst (λ (v : List ℕ). take (at + k) v ++ take (length v - (at + k)) rest ≡ take at values ++ take (length values - at) (xs ++ rest)) (sym w.values-is)
          (more_written at k values xs w.write_symbol.new.values rest c.requires.within are first)
      | else-count-gt0 w ↦ λ rest.
          let none : length values - at ≡ 0 = omega (arith, are, c.len.ensures.number, c.len.ensures.at_least, w.if-count-gt0) in
          let same : at + k ≡ at = omega (arith, are, none) in
          subst (λ (v : List ℕ). take (at + k) v ++ take (length v - (at + k)) rest ≡ take at values ++ take (length values - at) (xs ++ rest)) (sym w.values-is)
          (ap (λ m. take m values ++ take (length values - m) rest) same ∙ ap (λ m. take at values ++ take m rest) none ∙ sym (ap (λ m. take at values ++ take m (xs ++ rest)) none))
    ]
