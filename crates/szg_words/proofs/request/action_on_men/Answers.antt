use Rattle.std.proofs.Common.{refl}
use Rattle.szg_words.proofs.Words.{texts_or}
use Rattle.szg_words.proofs.request.action_on_men.Goals as goal

-- the men are the words that were found
pub returns : goal.returns
returns c = (c.unwrap_or-men.result.now, rw (c.unwrap_or-men.ensures) (texts_or c.get_strs.result _ _ c.get_strs.ensures refl), (cc))
