use Rattle.ngc_checker.proofs.AnswerLaw.{law}
use Rattle.ngc_checker.proofs.laws.verdict_is_answer.Goals as goal

pub returns : goal.returns
returns c = law
