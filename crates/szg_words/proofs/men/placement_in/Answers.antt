use Rattle.std.proofs.Common.{◌≡◌, ◌∙◌, true, refl, sym}
use Rattle.std.specs.List.{list_all}
use Rattle.szg_words.specs.Men.{is_man_word, parsed_placement, placed_man_of}
use Rattle.szg_values.proofs.TooMany.{too_many_mapped}
use Rattle.szg_words.proofs.men.placement_in.Goals as goal

pub returns-then-words-gt-MAX_MEN : goal.returns-then-words-gt-MAX_MEN
unfolding parsed_placement
returns-then-words-gt-MAX_MEN c =
    let many = too_many_mapped (λ word. placed_man_of word.now) c.args.words.now c.if-words-gt-MAX_MEN.true in
    let stated : list_all (λ word. is_man_word word.now) c.args.words.now ≡ true = sym c.are_man_words.ensures ∙ c.if-not-are_man_words.false in
    rw (stated, many) refl
