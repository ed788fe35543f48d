use Rattle.std.proofs.Common.{◌≡◌, ◌-◌, sym}
use Rattle.std.specs.Prelude.{true}
use Rattle.ngc_machine_files.specs.Machine.{file_of}
use Rattle.ngc_job.specs.Job.{commands_in}
use Rattle.ngc_checker.proofs.JudgeLaws.{judged_on, piece_judged, stepped}
use Rattle.ngc_checker.proofs.judge.Judge.piece.Goals as goal

pub invariant_of-self : goal.invariant_of-self
invariant_of-self g c =
    let j = c.self.inside in
    let file = file_of c.machine-machine.result.now in
    let own = c.machine-machine.ensures.value in
    let on_commands = commands_in true j.job in
    let n = c.args.begun.now.pieces_left in
    let judge = judged_on j.job.machine file j.job.off on_commands j.off_walk j.on_walk j.left (sym own) c.self.invariant in
    let same : j.left ≡ n = cc in
    let off = c.piece.ensures in
    let on = c.piece-2.ensures in
    judged_on file j.job.machine j.job.off on_commands c.piece.new.self c.piece-2.new.self (n - 1) own
    (piece_judged file j.job.off on_commands j.off_walk c.piece.new.self j.on_walk c.piece-2.new.self c.args.piece.now n j.left judge same c.requires.some
    (stepped file j.job.off j.off_walk c.piece.new.self n j.left judge.off_walking off.index off.following off.last c.requires.some)
    (stepped file on_commands j.on_walk c.piece-2.new.self n j.left judge.on_walking on.index on.following on.last c.requires.some)
    off.left on.left)
