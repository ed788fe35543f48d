use Rattle.ngc_job_words.proofs.Prefixes.{found, missing}
use Rattle.ngc_job_words.proofs.word.after.Goals as goal

pub returns-in-Some : goal.returns-in-Some
returns-in-Some c = found c.args.prefix.now c.args.word.now c.in-Some.rest.now c.in-Some.ensures.cases

pub returns-in-None : goal.returns-in-None
returns-in-None c = missing c.args.prefix.now c.args.word.now c.in-None.ensures.cases
