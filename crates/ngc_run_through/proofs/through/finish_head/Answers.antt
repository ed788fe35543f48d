use Rattle.std.proofs.Common.{◌≤◌, ◌≡◌, ◌^◌, Some, length, false, sym, subst}
use Rattle.ngc_events.specs.declared.event.Event.TheVariants.{Tick}
use Rattle.ngc_controller.specs.Controller.{ControllerData}
use Rattle.ngc_run_through.specs.declared.recorder.Recorder.{Recorder}
use Rattle.ngc_run_through.specs.Policy.{next_event}
use Rattle.ngc_run_through.specs.Recording.{HasFew}
use Rattle.ngc_run_through.specs.Stretches.{IsUntouched}
use Rattle.ngc_run_through.proofs.PassedMotions.{all_passed, none_passed}
use Rattle.ngc_run_through.proofs.through.finish_head.Goals as goal

pub returns-then-pass_motion-clause-goes : goal.returns-then-pass_motion-clause-goes
returns-then-pass_motion-clause-goes g c =
    let p = c.pass_motion in
    let e = all_passed p.result c.args.controller.now p.new.controller c.args.recorder.now p.new.recorder (g.W.Sink.written c.args.sink.now) c.if-pass_motion.true
    (p.ensures (g.W.Sink.written c.args.sink.now)) in
    e.0

pub returns-then-pass_motion-clause-runs : goal.returns-then-pass_motion-clause-runs
returns-then-pass_motion-clause-runs g c =
    let p = c.pass_motion in
    let e = all_passed p.result c.args.controller.now p.new.controller c.args.recorder.now p.new.recorder (g.W.Sink.written c.args.sink.now) c.if-pass_motion.true
    (p.ensures (g.W.Sink.written c.args.sink.now)) in
    e.1

pub play_head-requires-clause-untouched : goal.play_head-requires-clause-untouched
play_head-requires-clause-untouched g c =
    let p = c.pass_motion in
    let e = none_passed p.result c.args.controller.now p.new.controller c.args.recorder.now p.new.recorder (g.W.Sink.written c.args.sink.now) c.if-pass_motion.false
    (p.ensures (g.W.Sink.written c.args.sink.now)) in
    subst (λ (x : ControllerData). IsUntouched x.job x.state) (sym e.0) c.requires.untouched

pub play_head-requires-clause-runs : goal.play_head-requires-clause-runs
play_head-requires-clause-runs g c =
    let p = c.pass_motion in
    let e = none_passed p.result c.args.controller.now p.new.controller c.args.recorder.now p.new.recorder (g.W.Sink.written c.args.sink.now) c.if-pass_motion.false
    (p.ensures (g.W.Sink.written c.args.sink.now)) in
    subst (λ (x : ControllerData). x.state.stopped ≡ false) (sym e.0) c.requires.runs

pub play_head-requires-clause-some : goal.play_head-requires-clause-some
play_head-requires-clause-some g c =
    let p = c.pass_motion in
    let e = none_passed p.result c.args.controller.now p.new.controller c.args.recorder.now p.new.recorder (g.W.Sink.written c.args.sink.now) c.if-pass_motion.false
    (p.ensures (g.W.Sink.written c.args.sink.now)) in
    subst (λ (x : ControllerData). 1 ≤ length x.state.ring) (sym e.0) c.requires.some

pub play_head-requires-clause-next : goal.play_head-requires-clause-next
play_head-requires-clause-next g c =
    let p = c.pass_motion in
    let e = none_passed p.result c.args.controller.now p.new.controller c.args.recorder.now p.new.recorder (g.W.Sink.written c.args.sink.now) c.if-pass_motion.false
    (p.ensures (g.W.Sink.written c.args.sink.now)) in
    subst (λ (x : ControllerData). next_event x.job x.state ≡ Some Tick) (sym e.0) c.requires.next

pub play_head-requires-clause-few : goal.play_head-requires-clause-few
play_head-requires-clause-few g c =
    let p = c.pass_motion in
    let e = none_passed p.result c.args.controller.now p.new.controller c.args.recorder.now p.new.recorder (g.W.Sink.written c.args.sink.now) c.if-pass_motion.false
    (p.ensures (g.W.Sink.written c.args.sink.now)) in
    subst (λ (x : Recorder). HasFew (2 ^ 125) x) (sym e.1) c.requires.few

pub returns-clause-goes : goal.returns-clause-goes
returns-clause-goes g c =
    let p = c.pass_motion in
    let e = none_passed p.result c.args.controller.now p.new.controller c.args.recorder.now p.new.recorder (g.W.Sink.written c.args.sink.now) c.if-pass_motion.false
    (p.ensures (g.W.Sink.written c.args.sink.now)) in
    rw (← e.0, ← e.1) c.play_head.ensures.goes

pub returns-clause-fault : goal.returns-clause-fault
returns-clause-fault g c =
    let p = c.pass_motion in
    let e = none_passed p.result c.args.controller.now p.new.controller c.args.recorder.now p.new.recorder (g.W.Sink.written c.args.sink.now) c.if-pass_motion.false
    (p.ensures (g.W.Sink.written c.args.sink.now)) in
    rw (← e.0, ← e.1) c.play_head.ensures.fault
