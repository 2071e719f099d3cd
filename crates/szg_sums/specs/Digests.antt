-- The digest of a message.
use Rattle.std.specs.Prelude.{ℕ, Bool, List}
use Rattle.std.specs.Str.{bytes_eq}
use Rattle.md5.specs.Md5.{md5}
use Rattle.sha1.specs.Sha1.{sha1}
use Rattle.sha2.specs.Sha256.{sha256}
use Rattle.sha2.specs.Sha512.{sha512}
use Rattle.szg_sums.specs.declared.sum.Sum.{Sum}
use Rattle.szg_sums.specs.declared.sum.Sum.TheVariants as sums

-- whether a message has this digest
abbrev pub has_sum : Sum → List ℕ → Bool
has_sum (sums.Md5 bytes) message = bytes_eq (md5 message) bytes
has_sum (sums.Sha1 bytes) message = bytes_eq (sha1 message) bytes
has_sum (sums.Sha256 bytes) message = bytes_eq (sha256 message) bytes
has_sum (sums.Sha512 bytes) message = bytes_eq (sha512 message) bytes
