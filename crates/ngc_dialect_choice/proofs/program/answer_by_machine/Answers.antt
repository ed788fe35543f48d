use Rattle.std.proofs.Common.{refl}
use Rattle.ngc_dialect_choice.proofs.ChoiceLaws.{by_key, by_option, stopped}
use Rattle.ngc_dialect_choice.proofs.program.answer_by_machine.Goals as goal

pub returns-in_default-clause-answers : goal.returns-in_default-clause-answers
returns-in_default-clause-answers g c =
    by_option _ _ _ _ _ _ _ c.in_default.ensures c.other_name-name.ensures refl c.answer_in.ensures.answers c.answer_in.ensures.quiet

pub returns-in_default-clause-status : goal.returns-in_default-clause-status
returns-in_default-clause-status g c = c.answer_in.ensures.status

pub returns-in_default-clause-done : goal.returns-in_default-clause-done
returns-in_default-clause-done g c = c.answer_in.ensures.done

pub returns-in-Ok-clause-answers : goal.returns-in-Ok-clause-answers
returns-in-Ok-clause-answers g c =
    by_key _ _ _ _ _ _ _ _ _ _ _ _ _ c.in-Some.ensures c.in-Ok.ensures.key c.in-Ok.ensures.keeps c.in-Ok.ensures.counts refl
    c.answer_in-in-Ok.ensures.answers c.answer_in-in-Ok.ensures.quiet

pub returns-in-Ok-clause-status : goal.returns-in-Ok-clause-status
returns-in-Ok-clause-status g c = c.answer_in-in-Ok.ensures.status

pub returns-in-Ok-clause-done : goal.returns-in-Ok-clause-done
returns-in-Ok-clause-done g c = c.answer_in-in-Ok.ensures.done

pub returns-in-Err-clause-answers : goal.returns-in-Err-clause-answers
returns-in-Err-clause-answers g c = stopped _ _ _ _ _ _ _ c.in-Some.ensures c.in-Err.ensures.unread refl refl c.report.ensures refl
