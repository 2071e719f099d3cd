-- The words for faults of names: the names of their variants.
use Rattle.std.specs.Prelude.{ℕ, List, codes}
use Rattle.szg_values.specs.declared.NameFault.{NameFault}
use Rattle.szg_values.specs.declared.NameFault.TheVariants as names

abbrev pub name_word : NameFault → List ℕ
name_word names.Letter = codes "Letter"
name_word names.King = codes "King"
name_word names.Order = codes "Order"
name_word names.Sides = codes "Sides"
name_word names.Men = codes "Men"
