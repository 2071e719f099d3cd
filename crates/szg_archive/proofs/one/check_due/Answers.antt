use Rattle.std.proofs.Common.{◌≡◌, rules}
use Rattle.szg_sums.specs.declared.sum.Sum.TheVariants as sums
use Rattle.szg_archive.specs.declared.due.Due.TheVariants as dues
use Rattle.szg_archive.proofs.Hashing.{summed}
use Rattle.szg_archive.proofs.one.check_due.Goals as goal

pub returns-in-Sum-Md5 : goal.returns-in-Sum-Md5
returns-in-Sum-Md5 g c =
    let is : c.args.due ≡ dues.Sum (sums.Md5 c.in-Sum-Md5.due) = search rules in
    summed g.F.Input c.args.due (sums.Md5 c.in-Sum-Md5.due) c.args.material.now c.args.kind c.args.file c.check_hashed.result is c.check_hashed.ensures

pub returns-in-Sum-Sha1 : goal.returns-in-Sum-Sha1
returns-in-Sum-Sha1 g c =
    let is : c.args.due ≡ dues.Sum (sums.Sha1 c.in-Sum-Sha1.due) = search rules in
    summed g.F.Input c.args.due (sums.Sha1 c.in-Sum-Sha1.due) c.args.material.now c.args.kind c.args.file c.check_hashed-in-Sum-Sha1.result is c.check_hashed-in-Sum-Sha1.ensures

pub returns-in-Sum-Sha256 : goal.returns-in-Sum-Sha256
returns-in-Sum-Sha256 g c =
    let is : c.args.due ≡ dues.Sum (sums.Sha256 c.in-Sum-Sha256.due) = search rules in
    summed g.F.Input c.args.due (sums.Sha256 c.in-Sum-Sha256.due) c.args.material.now c.args.kind c.args.file c.check_hashed-in-Sum-Sha256.result is c.check_hashed-in-Sum-Sha256.ensures

pub returns-in-Sum-Sha512 : goal.returns-in-Sum-Sha512
returns-in-Sum-Sha512 g c =
    let is : c.args.due ≡ dues.Sum (sums.Sha512 c.in-Sum-Sha512.due) = search rules in
    summed g.F.Input c.args.due (sums.Sha512 c.in-Sum-Sha512.due) c.args.material.now c.args.kind c.args.file c.check_hashed-in-Sum-Sha512.result is c.check_hashed-in-Sum-Sha512.ensures
