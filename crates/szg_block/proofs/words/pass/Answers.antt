use Rattle.std.proofs.Common.{ℕ, ◌≡◌, ◌+◌, List, [], ◌∷◌, length, ◌∙◌, arith, length-append}
use Rattle.szg_pairs.specs.Expansion.{expansion_of}
use Rattle.szg_block.specs.Spelled.{values_of}
use Rattle.szg_block.proofs.Ahead.{few_of_one, few_values, passed}
use Rattle.szg_block.proofs.Spelling.{values_spelled-taken, values_spelled-taken_words}
use Rattle.szg_block.proofs.words.pass.Goals as goal

pub returns-then-this-ne0 : goal.returns-then-this-ne0
returns-then-this-ne0 g c =
    let code = c.args.code.now in
    let entries : List (List ℕ) = c.args.dict.now in
    let two : List ℕ = c.in_ok-first.first ∷ c.in_ok-first.second ∷ [] in
    let there = c.in_ok-first.ensures.there in
    let first : c.from.result ≡ length (expansion_of entries c.in_ok-first.first) = c.from.ensures ∙ c.lengths-lengths.ensures.each c.in_ok-first.first (omega (arith, there.0, c.requires.symbols)) in
    let second : c.from-then-this-ne0.result ≡ length (expansion_of entries c.in_ok-first.second) = c.from-then-this-ne0.ensures ∙ c.lengths-lengths.ensures.each c.in_ok-first.second (omega (arith, there.1, c.requires.symbols)) in
    let sum = length-append (expansion_of entries c.in_ok-first.first) (values_of entries (c.in_ok-first.second ∷ [])) in
    let last = length-append (expansion_of entries c.in_ok-first.second) [] in
    λ all i ahead is over.
    passed code entries all i c.args.words.now ahead is c.next_two.new.words (values_of entries two) (c.from.result + c.from-then-this-ne0.result) (omega (arith, first, second, sum, last)) over
    (λ inside. let t = c.in_ok-first.ensures.found inside in (t.0, values_spelled-taken_words code c.requires.accepted entries c.args.words.now.cursor c.next_two.new.words.cursor two t.1))
    (λ past. few_of_one code entries all i c.args.words.now ahead is c.in_ok-first.first (c.in_ok-first.ensures.past past) (omega (arith, first, over)))

pub returns : goal.returns
returns g c =
    let code = c.args.code.now in
    let entries : List (List ℕ) = c.args.dict.now in
    let one = c.in_ok-symbol.ensures in
    let count : c.from-2.result ≡ length (expansion_of entries c.in_ok-symbol.symbol) = c.from-2.ensures ∙ c.lengths-lengths.ensures.each c.in_ok-symbol.symbol (omega (arith, one.there, c.requires.symbols)) in
    λ all i ahead is over.
    passed code entries all i c.args.words.now ahead is c.next_byte.new.words (expansion_of entries c.in_ok-symbol.symbol) c.from-2.result count over
    (λ inside. let t = one.found inside in (t.0, values_spelled-taken code c.requires.accepted entries c.args.words.now.cursor c.next_byte.new.words.cursor c.in_ok-symbol.symbol t.1))
    (λ past. few_values code entries all i c.args.words.now ahead is (one.past past))
