use Rattle.std.proofs.Common.{[]}
use Rattle.ngc_job_words.proofs.Steps.{one_more, all_seen}
use Rattle.ngc_job_words.proofs.call.see_all.Goals as goal

pub loop-word-preserved : goal.loop-word-preserved
loop-word-preserved c =
    one_more c.args.command.now (λ w. w.now) c.args.rest.now c.loop-word.word-index
    (record { ref_ptr = (0, 0); now = [] }) _ _ c.loop-word-test.true c.loop-word.invariant c.in_ok-see.ensures

pub returns : goal.returns
returns c =
    all_seen c.args.command.now (λ w. w.now) c.args.rest.now c.loop-word.word-index _
    c.loop-word.auto.word-index-end c.loop-word-test.false c.loop-word.invariant
