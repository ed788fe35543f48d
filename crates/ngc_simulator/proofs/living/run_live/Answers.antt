use Rattle.std.proofs.Common.{◌≡◌, ◌∙◌, Err, IfErr}
use Rattle.ngc_text.specs.Failures.{Rises}
use Rattle.ngc_text.specs.declared.input_fault.InputFault.TheVariants as inputs
use Rattle.ngc_inputs.specs.Faults.{FailsByOutput, OfLiving, of_live, of_run}
use Rattle.ngc_simulator.specs.DialectRuns.{LivesJob}
use Rattle.ngc_simulator.specs.Lives.{Lives}
use Rattle.ngc_inputs.specs.declared.fault.AnswerFault.TheVariants as answers
use Rattle.ngc_report.proofs.Converted.{turned}
use Rattle.ngc_simulator.proofs.DialectRunLaws.{job_lived, live_job_failed, live_job_refused, live_job_unmade}
use Rattle.ngc_simulator.proofs.LiveLaws.{device_failed, live_failed, live_refused, live_unmade, lived, of_living, output_failed}
use Rattle.ngc_simulator.proofs.living.run_live.Goals as goal

pub returns-in_err-accepted-clause-lives : goal.returns-in_err-accepted-clause-lives
returns-in_err-accepted-clause-lives g c setup bytes text is =
    turned _ (answers.Check c.in_err-accepted.field-0.0)
    (λ r. Lives c.args.request setup bytes text c.args.block_delete (g.S.Source.remaining c.args.source.now) (g.S.Source.remaining c.args.source.now)
    (g.W.Sink.written c.args.output.now) (g.W.Sink.written c.args.output.now) r) c.from_residual.ensures.1
    (live_refused c.args.request setup bytes text c.args.block_delete (g.S.Source.remaining c.args.source.now) (g.S.Source.remaining c.args.source.now)
    (g.W.Sink.written c.args.output.now) c.args.verdict c.in_err-accepted.field-0.0 is c.in_err-accepted.was)

pub returns-in_err-live-clause-lives : goal.returns-in_err-live-clause-lives
returns-in_err-live-clause-lives g c setup bytes text is =
    turned _ (of_run c.in_err-live.field-0.0)
    (λ r. Lives c.args.request setup bytes text c.args.block_delete (g.S.Source.remaining c.args.source.now) (g.S.Source.remaining c.args.source.now)
    (g.W.Sink.written c.args.output.now) (g.W.Sink.written c.args.output.now) r) c.from_residual-in_err-live.ensures.1
    (live_unmade c.args.request setup bytes text c.args.block_delete (g.S.Source.remaining c.args.source.now) (g.S.Source.remaining c.args.source.now)
    (g.W.Sink.written c.args.output.now) c.args.verdict c.in_ok-accepted.accepted c.in_err-live.field-0.0
    is c.in_ok-accepted.was c.in_err-live.ensures.memory)

pub returns-in_err-feed_all-clause-lives : goal.returns-in_err-feed_all-clause-lives
returns-in_err-feed_all-clause-lives g c setup bytes text is =
    let fault = c.in_err-feed_all.field-0.0 in
    turned _ (of_live fault)
    (λ r. Lives c.args.request setup bytes text c.args.block_delete (g.S.Source.remaining c.args.source.now) (g.S.Source.remaining c.feed_all.new.source)
    (g.W.Sink.written c.args.output.now) (g.W.Sink.written c.feed_all.new.output) r) c.from_residual-in_err-feed_all.ensures.1
    (live_failed c.args.request setup bytes text c.args.block_delete _ _ _ _ fault
    (lived c.args.request setup bytes text c.args.block_delete _ _ _ _ c.args.verdict c.in_ok-accepted.accepted _ (Err fault) is c.in_ok-accepted.was
    (c.in_err-feed_all.ensures.job ∙ c.in_ok-live.ensures.job) (c.in_err-feed_all.ensures.feeds_ring ∙ c.in_ok-live.ensures.feeds) (c.in_err-feed_all.ensures.lives c.args.request.form _ (c.in_ok-live.ensures.live _))))

pub returns-clause-lives : goal.returns-clause-lives
returns-clause-lives g c setup bytes text is = (
  lived c.args.request setup bytes text c.args.block_delete _ _ _ _ c.args.verdict c.in_ok-accepted.accepted _ _ is c.in_ok-accepted.was
      (c.in_ok-feed_all.ensures.job ∙ c.in_ok-live.ensures.job) (c.in_ok-feed_all.ensures.feeds_ring ∙ c.in_ok-live.ensures.feeds) (c.in_ok-feed_all.ensures.lives c.args.request.form _ (c.in_ok-live.ensures.live _)),
  c.in_ok-feed_all.ensures.end,
)

pub returns-in_err-feed_all-clause-source : goal.returns-in_err-feed_all-clause-source
returns-in_err-feed_all-clause-source g c =
    let fault = c.in_err-feed_all.field-0.0 in
    turned _ (of_live fault)
    (λ r. r ≡ Err (answers.Input inputs.Device) → Rises (g.S.Source.failures c.args.source.now) (g.S.Source.failures c.feed_all.new.source))
    c.from_residual-in_err-feed_all.ensures.1
    (λ is. device_failed fault (g.S.Source.failures c.args.source.now) (g.S.Source.failures c.feed_all.new.source) c.in_err-feed_all.ensures.source (cc is))

pub returns-in_err-feed_all-clause-sink : goal.returns-in_err-feed_all-clause-sink
returns-in_err-feed_all-clause-sink g c =
    let fault = c.in_err-feed_all.field-0.0 in
    turned _ (of_live fault)
    (λ r. FailsByOutput r (g.W.Sink.failures c.args.output.now) (g.W.Sink.failures c.feed_all.new.output)) c.from_residual-in_err-feed_all.ensures.1
    (output_failed fault (g.W.Sink.failures c.args.output.now) (g.W.Sink.failures c.feed_all.new.output) c.in_err-feed_all.ensures.failures)

pub returns-in_err-feed_all-clause-faults : goal.returns-in_err-feed_all-clause-faults
returns-in_err-feed_all-clause-faults g c =
    let fault = c.in_err-feed_all.field-0.0 in
    turned _ (of_live fault) (λ r. IfErr r OfLiving) c.from_residual-in_err-feed_all.ensures.1 (of_living fault)

pub returns-in_err-accepted-clause-job : goal.returns-in_err-accepted-clause-job
returns-in_err-accepted-clause-job g c j text is =
    turned _ (answers.Check c.in_err-accepted.field-0.0)
    (λ r. LivesJob c.args.request j text c.args.block_delete (g.S.Source.remaining c.args.source.now) (g.S.Source.remaining c.args.source.now)
    (g.W.Sink.written c.args.output.now) (g.W.Sink.written c.args.output.now) r) c.from_residual.ensures.1
    (live_job_refused c.args.request j text c.args.block_delete (g.S.Source.remaining c.args.source.now) (g.S.Source.remaining c.args.source.now)
    (g.W.Sink.written c.args.output.now) c.args.verdict c.in_err-accepted.field-0.0 is c.in_err-accepted.was)

pub returns-in_err-live-clause-job : goal.returns-in_err-live-clause-job
returns-in_err-live-clause-job g c j text is =
    turned _ (of_run c.in_err-live.field-0.0)
    (λ r. LivesJob c.args.request j text c.args.block_delete (g.S.Source.remaining c.args.source.now) (g.S.Source.remaining c.args.source.now)
    (g.W.Sink.written c.args.output.now) (g.W.Sink.written c.args.output.now) r) c.from_residual-in_err-live.ensures.1
    (live_job_unmade c.args.request j text c.args.block_delete (g.S.Source.remaining c.args.source.now) (g.S.Source.remaining c.args.source.now)
    (g.W.Sink.written c.args.output.now) c.args.verdict c.in_ok-accepted.accepted c.in_err-live.field-0.0
    is c.in_ok-accepted.was c.in_err-live.ensures.memory)

pub returns-in_err-feed_all-clause-job : goal.returns-in_err-feed_all-clause-job
returns-in_err-feed_all-clause-job g c j text is =
    let fault = c.in_err-feed_all.field-0.0 in
    turned _ (of_live fault)
    (λ r. LivesJob c.args.request j text c.args.block_delete (g.S.Source.remaining c.args.source.now) (g.S.Source.remaining c.feed_all.new.source)
    (g.W.Sink.written c.args.output.now) (g.W.Sink.written c.feed_all.new.output) r) c.from_residual-in_err-feed_all.ensures.1
    (live_job_failed c.args.request j text c.args.block_delete _ _ _ _ fault
    (job_lived c.args.request j text c.args.block_delete _ _ _ _ c.args.verdict c.in_ok-accepted.accepted _ (Err fault) is c.in_ok-accepted.was
    (c.in_err-feed_all.ensures.job ∙ c.in_ok-live.ensures.job) (c.in_err-feed_all.ensures.feeds_ring ∙ c.in_ok-live.ensures.feeds)
    (c.in_err-feed_all.ensures.lives c.args.request.form _ (c.in_ok-live.ensures.live _))))

pub returns-clause-job : goal.returns-clause-job
returns-clause-job g c j text is = (
  job_lived c.args.request j text c.args.block_delete _ _ _ _ c.args.verdict c.in_ok-accepted.accepted _ _ is c.in_ok-accepted.was
      (c.in_ok-feed_all.ensures.job ∙ c.in_ok-live.ensures.job) (c.in_ok-feed_all.ensures.feeds_ring ∙ c.in_ok-live.ensures.feeds)
      (c.in_ok-feed_all.ensures.lives c.args.request.form _ (c.in_ok-live.ensures.live _)),
  c.in_ok-feed_all.ensures.end,
)
