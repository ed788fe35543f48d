use Rattle.std.proofs.Common.{◌+◌, Ok, arith, drop, subst, sym}
use Rattle.ngc_machine_files.specs.Machine.{file_of}
use Rattle.ngc_commands.specs.Movement.{actions_of}
use Rattle.ngc_certificate.specs.Making.{made_by, IsAllowedFrom}
use Rattle.ngc_certificate.proofs.MakingLaws.{next_action, none_left, nothing_behind, stopped, refusal_seen}
use Rattle.ngc_certificate.proofs.PlanLaws.{way_here}
use Rattle.ngc_certificate.proofs.maker.fill.Goals as goal

pub take-requires-clause-is : goal.take-requires-clause-is
take-requires-clause-is g c =
    way_here c.args.commands.now c.loop-index.index c.index-commands-index.result c.loop-index-test.true c.index-commands-index.is

pub returns-in-Err-clause-made : goal.returns-in-Err-clause-made
returns-in-Err-clause-made g c =
    let commands = c.args.commands.now in
    let step = c.args.machine.now.step in
    let i = c.loop-index.index in
    refusal_seen (λ m. m) (λ m. g.M.MotionStore.entries m step commands) c.in-Err.refusal _
    (stopped (file_of c.args.machine.now) c.args.most i commands c.index-commands-index.result.action (actions_of (drop i commands))
    (actions_of (drop (i + 1) commands)) (made_by (λ m. g.M.MotionStore.entries m step commands) c.loop-index.progress)
    (made_by (λ m. g.M.MotionStore.entries m step commands) c.take.new.self) c.in-Err.refusal
    c.loop-index.invariant.leads (next_action i commands c.index-commands-index.result c.loop-index-test.true c.index-commands-index.is)
    c.in-Err.ensures.leads)

pub loop-index-preserved : goal.loop-index-preserved
loop-index-preserved g c =
    let commands = c.args.commands.now in
    let step = c.args.machine.now.step in
    let i = c.loop-index.index in
    let split = next_action i commands c.index-commands-index.result c.loop-index-test.true c.index-commands-index.is in
    record {
      leads = λ says given. c.loop-index.invariant.leads says
          (subst (λ actions. IsAllowedFrom (file_of c.args.machine.now) c.args.most i
          (made_by (λ m. g.M.MotionStore.entries m step commands) c.loop-index.progress) actions says) (sym split)
          (c.in-Ok.ensures.leads.0 (actions_of (drop (i + 1) commands)) says given));
      count = omega (arith, c.loop-index.invariant.count, c.in-Ok.ensures.leads.1);
      are = c.in-Ok.ensures.are;
    }

pub returns-clause-made : goal.returns-clause-made
returns-clause-made g c =
    let commands = c.args.commands.now in
    let step = c.args.machine.now.step in
    let i = c.loop-index.index in
    let motions = g.M.MotionStore.entries c.loop-index.progress.motions step commands in
    let end = none_left i commands (omega (arith, c.loop-index-test.false)) in
    c.loop-index.invariant.leads (Ok motions)
    (subst (λ actions. IsAllowedFrom (file_of c.args.machine.now) c.args.most i
    (made_by (λ m. g.M.MotionStore.entries m step commands) c.loop-index.progress) actions (Ok motions)) (sym end)
    (nothing_behind motions))
