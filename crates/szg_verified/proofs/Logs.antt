-- The lines of a log.
use Rattle.std.proofs.Common.{◌≡◌, ◌∙◌, ℕ, List, ◌++◌, refl}
use Rattle.std.specs.Prelude.{codes}
use Rattle.szg_verified.specs.Logs.{IsExtent, IsRecord}

pub record_of : (name digest line rest said after extent positions found : List ℕ) (before shards : ℕ) → line ≡ name ++ rest → rest ≡ codes " " ++ said → said ≡ extent ++ (codes "verified positions " ++ after) → after ≡ positions ++ (codes " sha256 " ++ found) →
    found ≡ digest → IsExtent extent before shards → IsRecord name digest before shards line
record_of name digest line rest said after extent positions found before shards a b c d e says = record {
  extent = extent;
  positions = positions;
  is = a ∙ rw (b, c, d, e) refl;
  says = says;
}
