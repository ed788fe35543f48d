use Rattle.std.proofs.Common.{sym, ◌∙◌}
use Rattle.ngc_run_log.proofs.RestLaws.{ends_at_rest, ends_cut, ends_unwritten}
use Rattle.ngc_run_log.proofs.live_rest.feed_to_rest.Goals as goal

pub returns-then-is_write_fault-clause-lives : goal.returns-then-is_write_fault-clause-lives
returns-then-is_write_fault-clause-lives g c = λ form first h.
    ends_unwritten form _ _ _ first _ _ (sym c.is_write_fault.ensures ∙ c.if-is_write_fault.true) (c.feed_from-ended.ensures.lives form first h)

pub returns-in-Ok-clause-lives : goal.returns-in-Ok-clause-lives
returns-in-Ok-clause-lives g c = λ form first h.
    ends_at_rest form _ _ _ _ first _ _ _ (sym c.is_write_fault.ensures ∙ c.if-is_write_fault.false) (c.feed_from-ended.ensures.lives form first h)
    (λ lines has. c.in-Ok.ensures.rests form lines first has)

pub returns-in-Err-clause-lives : goal.returns-in-Err-clause-lives
returns-in-Err-clause-lives g c = λ form first h.
    ends_cut form _ _ _ _ first _ _ _ c.in-Err.fault (sym c.is_write_fault.ensures ∙ c.if-is_write_fault.false) (c.feed_from-ended.ensures.lives form first h)
    (λ lines has. c.in-Err.ensures.cut form lines first has)
