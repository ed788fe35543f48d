use Rattle.std.proofs.Common.{◌≡◌, sym}
use Rattle.std.specs.Prelude.{true}
use Rattle.ngc_machine_files.specs.Machine.{file_of}
use Rattle.ngc_job.specs.Job.{commands_in}
use Rattle.ngc_checker.proofs.JudgeLaws.{off_begun, on_begun, both_begun, begun_judged, judged_on}
use Rattle.ngc_checker.proofs.judge.Judge.motion.Goals.{in-Both, in-Off, in-On}
use Rattle.ngc_checker.proofs.judge.Judge.motion.Goals as goal

pub invariant_of-self : goal.invariant_of-self
invariant_of-self g c =
    let j = c.self.inside in
    let file = file_of c.machine-machine.result.now in
    let own = c.machine-machine.ensures.value in
    let off_commands = j.job.off in
    let on_commands = commands_in true j.job in
    let n = c.args.begun.now.pieces_left in
    let judge = judged_on j.job.machine file off_commands on_commands j.off_walk j.on_walk j.left (sym own) c.self.invariant in
    let zero : j.left ≡ 0 = cc in
    let off = c.commands-off.ensures in
    let on = c.commands-on.ensures in
    elim c.match-begun.branch [
      | in-Both w ↦
          let e = w.motion.ensures in
          let f = w.motion-in-Both.ensures in
          rw w.self-inside-is (judged_on file j.job.machine off_commands on_commands w.motion.new.self w.motion-in-Both.new.self n own
          (begun_judged file off_commands on_commands j.off_walk w.motion.new.self j.on_walk w.motion-in-Both.new.self _ n j.left judge zero
          (both_begun file off_commands on_commands _ _ j.off_walk w.motion.new.self j.on_walk w.motion-in-Both.new.self _ _ n c.requires.some off on
          (e.index, e.following, e.left) (f.index, f.following, f.left))))
      | in-Off w ↦
          let e = w.motion-in-Off.ensures in
          rw w.self-inside-is (judged_on file j.job.machine off_commands on_commands w.motion-in-Off.new.self j.on_walk n own
          (begun_judged file off_commands on_commands j.off_walk w.motion-in-Off.new.self j.on_walk j.on_walk _ n j.left judge zero
          (off_begun file off_commands on_commands _ j.off_walk w.motion-in-Off.new.self j.on_walk _ n j.left judge.on_walking zero c.requires.some off
          (e.index, e.following, e.left))))
      | in-On w ↦
          let e = w.motion-in-On.ensures in
          rw w.self-inside-is (judged_on file j.job.machine off_commands on_commands j.off_walk w.motion-in-On.new.self n own
          (begun_judged file off_commands on_commands j.off_walk j.off_walk j.on_walk w.motion-in-On.new.self _ n j.left judge zero
          (on_begun file off_commands on_commands _ j.off_walk j.on_walk w.motion-in-On.new.self _ n j.left judge.off_walking zero c.requires.some on
          (e.index, e.following, e.left))))
    ]
