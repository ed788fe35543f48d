use Rattle.std.proofs.Common.{◌+◌, ◌^◌, ◌++◌, ◌∷◌, [], ap, arith, refl, replicate, subst, sym, ◌∙◌}
use Rattle.ngc_run_log.specs.Feeding.{Processes}
use Rattle.ngc_run_log.specs.Living.{HasRun, IsCutRun, LiveData}
use Rattle.ngc_run_through.specs.declared.report.Report.{Report}
use Rattle.ngc_run_through.specs.Tracing.{opening_text}
use Rattle.ngc_run_through.proofs.UntouchedEvents.{at_most_more}
use Rattle.ngc_run_log.proofs.LiveLaws.{cut_behind, cut_within, fed_processes, has_run, none_counted_yet, one_cut_short, one_fed}
use Rattle.ngc_run_log.proofs.live.LiveRun.send.Goals as goal

pub returns-in-Err-clause-cut : goal.returns-in-Err-clause-cut
returns-in-Err-clause-cut g c = λ form lines first h.
    let P : LiveData → Type 0 = λ d. HasRun form d lines first (g.W.Sink.written c.args.sink.now) in
    let Q : LiveData → Type 0 = λ d. IsCutRun form d.feeds d.job (lines ++ c.args.line.now ∷ []) first (g.W.Sink.written c.send_line.new.sink) in
    subst Q c.self.view_is
    (cut_within form _ lines (c.args.line.now ∷ []) first _ _ _ c.new-recorder.result (subst P (sym c.self.view_is) h)
    (record { motors = c.new-recorder.ensures.motors ∙ c.motors.ensures; place = ap (λ (r : Report). r.position) c.new-recorder.ensures.report ∙ c.position.ensures })
    c.as_slice.ensures.value
    (c.new-recorder.ensures.trace ∙ c.going_on-trace.ensures) (c.new-recorder.ensures.chunk ∙ ap opening_text c.going_on-trace.ensures)
    (one_cut_short _ _ _ _ _ _ c.args.line.now c.in-Err.ensures.cut))

pub returns-clause-runs : goal.returns-clause-runs
returns-clause-runs g c = λ form lines first h.
    let P : LiveData → Type 0 = λ d. HasRun form d lines first (g.W.Sink.written c.args.sink.now) in
    has_run form _ _ lines (c.args.line.now ∷ []) first _ _ _ _ c.new-recorder.result c.send_line.new.recorder (subst P (sym c.self.view_is) h)
    (record { motors = c.new-recorder.ensures.motors ∙ c.motors.ensures; place = ap (λ (r : Report). r.position) c.new-recorder.ensures.report ∙ c.position.ensures })
    c.as_slice.ensures.value
    (c.new-recorder.ensures.trace ∙ c.going_on-trace.ensures) (c.new-recorder.ensures.chunk ∙ ap opening_text c.going_on-trace.ensures)
    (one_fed _ _ _ _ _ _ _ _ c.args.line.now c.in-Ok.ensures.fed) c.in-Ok-finish.ensures.ok c.in-Ok.ensures.job refl refl c.paused-self-inside.ensures

pub returns-clause-processes : goal.returns-clause-processes
returns-clause-processes g c =
    subst (λ (d : LiveData). Processes d.feeds d.job d.state c.send_line.new.controller.state (replicate c.args.line.now.times c.args.line.now.event)) c.self.view_is
    (fed_processes _ _ _ _ _ _ _ _ _ c.in-Ok.ensures.fed)

pub returns-in-Err-finish-clause-cut : goal.returns-in-Err-finish-clause-cut
returns-in-Err-finish-clause-cut g c = λ form lines first h.
    let P : LiveData → Type 0 = λ d. HasRun form d lines first (g.W.Sink.written c.args.sink.now) in
    let Q : LiveData → Type 0 = λ d. IsCutRun form d.feeds d.job (lines ++ c.args.line.now ∷ []) first (g.W.Sink.written c.finish.new.sink) in
    subst Q c.self.view_is
    (cut_behind form _ _ lines (c.args.line.now ∷ []) first _ _ _ _ c.new-recorder.result c.send_line.new.recorder (subst P (sym c.self.view_is) h)
    (record { motors = c.new-recorder.ensures.motors ∙ c.motors.ensures; place = ap (λ (r : Report). r.position) c.new-recorder.ensures.report ∙ c.position.ensures })
    c.as_slice.ensures.value
    (c.new-recorder.ensures.trace ∙ c.going_on-trace.ensures) (c.new-recorder.ensures.chunk ∙ ap opening_text c.going_on-trace.ensures)
    (one_fed _ _ _ _ _ _ _ _ c.args.line.now c.in-Ok.ensures.fed) c.in-Err-finish.ensures.fault)

pub finish-requires : goal.finish-requires
finish-requires g c =
    at_most_more (0 + 2 ^ 43) (2 ^ 126) _
    (c.in-Ok.ensures.few 0 (none_counted_yet _ _ _ _ c.new-recorder.ensures.report (c.new-recorder.ensures.trace ∙ c.going_on-trace.ensures))) (omega arith)
