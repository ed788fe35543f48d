use Rattle.std.proofs.Common.{subst, sym}
use Rattle.ngc_events.specs.Arriving.{Arriving, HaveArrived, TakesOne}
use Rattle.ngc_run_log.specs.Living.{HasRun, LiveData}
use Rattle.ngc_run_log.proofs.LineLaws.{line_broken}
use Rattle.ngc_run_log.proofs.LiveLaws.{arrives}
use Rattle.ngc_run_log.proofs.live.LiveRun.feed.Goals as goal

pub returns-in-Ok-clause-feeds : goal.returns-in-Ok-clause-feeds
returns-in-Ok-clause-feeds g c = λ form text lines first arrived h.
    let P : LiveData → Type 0 = λ d. HasRun form d lines first (g.W.Sink.written c.args.sink.now) in
    let came = subst (λ (d : LiveData). HaveArrived text lines d.arriving) (sym c.self.view_is) arrived in
    let takes = rw c.in-Ok-Some.field-0-is at c.in-Ok-Some.ensures.takes in (
      c.in-Ok-Some.line,
      subst (λ (a : Arriving). TakesOne text c.args.piece.now lines c.in-Ok-Some.line c.in-Ok-Some.rest.now a) (sym c.in-Ok.ensures.arriving) (takes text lines came),
      c.in-Ok.ensures.runs form lines first (arrives form _ _ lines first _ (subst P (sym c.self.view_is) h)),
    )

pub returns-in-Err-send-clause-feeds : goal.returns-in-Err-send-clause-feeds
returns-in-Err-send-clause-feeds g c = λ form text lines first arrived h.
    let P : LiveData → Type 0 = λ d. HasRun form d lines first (g.W.Sink.written c.args.sink.now) in
    let came = subst (λ (d : LiveData). HaveArrived text lines d.arriving) (sym c.self.view_is) arrived in
    let takes = rw c.in-Ok-Some.field-0-is at c.in-Ok-Some.ensures.takes in
    line_broken form _ _ _ _ text c.args.piece.now lines c.in-Ok-Some.line _ _ first _ (takes text lines came) c.in-Err-send.ensures.feeds_ring c.in-Err-send.ensures.job
    (c.in-Err-send.ensures.cut form lines first (arrives form _ _ lines first _ (subst P (sym c.self.view_is) h)))

pub returns-in-Ok-None-clause-feeds : goal.returns-in-Ok-None-clause-feeds
returns-in-Ok-None-clause-feeds g c = λ form text lines first arrived h.
    let P : LiveData → Type 0 = λ d. HasRun form d lines first (g.W.Sink.written c.args.sink.now) in
    let came = subst (λ (d : LiveData). HaveArrived text lines d.arriving) (sym c.self.view_is) arrived in
    let takes = rw c.in-Ok-None.field-0-is at c.in-Ok-None.ensures.takes in
    (takes text lines came, arrives form _ _ lines first _ (subst P (sym c.self.view_is) h))

pub returns-in-Err-clause-feeds : goal.returns-in-Err-clause-feeds
returns-in-Err-clause-feeds g c = λ form text lines first arrived h.
    let P : LiveData → Type 0 = λ d. HasRun form d lines first (g.W.Sink.written c.args.sink.now) in
    let came = subst (λ (d : LiveData). HaveArrived text lines d.arriving) (sym c.self.view_is) arrived in
    (c.in-Err.ensures.takes text lines came, arrives form _ _ lines first _ (subst P (sym c.self.view_is) h))
