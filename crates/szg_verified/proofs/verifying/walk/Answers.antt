use Rattle.szg_verified.proofs.verifying.walk.Goals as goal

pub returns-clause-cause : goal.returns-clause-cause
returns-clause-cause g c = λ unverified. c.lack_of.ensures unverified c.args.material.now c.args.from c.args.to
