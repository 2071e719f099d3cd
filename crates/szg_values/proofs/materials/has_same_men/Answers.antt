use Rattle.std.proofs.Common.{◌≡◌, Decides, rules}
use denote.Enum.Bare.{same_true, true_same}
use Rattle.std.proofs.lemmas.Slice.Eq.{slice_eq-Decides}
use Rattle.std.proofs.lemmas.Bool.Decides.{same_from_decides}
use Rattle.szg_values.specs.Material.{is_same_men}
use Rattle.szg_values.specs.contracts.Man.{the_type}
use Rattle.szg_values.proofs.SameMen.{same_men-Decides}
use Rattle.szg_values.proofs.materials.has_same_men.Goals as goal

pub returns : goal.returns
returns c =
    let a = c.args.first.now in let b = c.args.second.now in
    let equal : Decides c.eq.result (a ≡ b) = slice_eq-Decides (λ x y. (same_true the_type (search rules) x y, true_same the_type x y)) a b c.eq.result c.eq.ensures in
    same_from_decides c.eq.result (is_same_men a b) equal (same_men-Decides a b c.requires.first c.requires.second)
