-- What an action is, by another fact of it.
use Rattle.std.proofs.Common.{◌≡◌, None, refl}
use Rattle.szg_answers.specs.Requests.{IsListed, unplaced_refusal}
use Rattle.szg_words.specs.declared.request.Action.{Action}
use Rattle.szg_words.specs.declared.request.Action.TheVariants.{Check, Copy, Dump, Get, GetCounted, Index, Placement, Probe, Show, Unplaced, Values}

-- what lists values is a whole request
pub listed_is_placed : (action : Action) → IsListed action → unplaced_refusal action ≡ None
listed_is_placed (Unplaced fault) is = absurd is
listed_is_placed Check is = refl
listed_is_placed Show is = refl
listed_is_placed (Get index) is = refl
listed_is_placed (GetCounted index) is = refl
listed_is_placed Values is = refl
listed_is_placed Copy is = refl
listed_is_placed (Dump form) is = refl
listed_is_placed (Index board) is = refl
listed_is_placed (Probe board class) is = refl
listed_is_placed (Placement index) is = refl
