use Rattle.std.proofs.Common.{◌≡◌, ◌∙◌, ℕ, ◌+◌, List, length, Option, Some, None, ap, arith, refl}
use Rattle.std.specs.List.{find}
use Rattle.ngc_commands.specs.Reached.{after}
use Rattle.ngc_commands.specs.declared.command.Command.{Command}
use Rattle.ngc_frames.specs.declared.in_force.FrameInForce.{FrameInForce}
use Rattle.ngc_machine_files.specs.Machine.{file_of}
use Rattle.ngc_length_warnings.specs.Cuts.{bare_cuts, counted_cut, first_cut, is_counted}
use Rattle.ngc_length_warnings.proofs.CutSteps.{one_further, decided}
use Rattle.ngc_length_warnings.proofs.cuts.first_cut.Goals as goal

pub returns-in-Some-counted_cut : goal.returns-in-Some-counted_cut
returns-in-Some-counted_cut g c =
    let m = file_of c.args.machine.now in
    let start = c.args.frames.now.start in
    let changes = c.args.frames.now.changes.items in
    let all = first_cut c.args.boxes m start changes c.args.commands.now in
    let next = after c.loop-command.reached c.in-Some.command.now.action in
    let rest = find (is_counted c.args.boxes m) (bare_cuts start changes (c.loop-command.index + 1) next c.in-Some.later.now) in
    let step = one_further c.args.boxes m start changes c.loop-command.index c.loop-command.reached next c.loop-command.left.now c.in-Some.later.now c.in-Some.command.now
    c.in_force-frame.result.frame c.cut_in-cut.result all c.in-Some.ensures.cases.0 (ap (λ (f : FrameInForce). f.frame) c.in_force-frame.ensures.frame) c.cut_in-cut.ensures refl c.loop-command.invariant.same in
    decided (counted_cut c.args.boxes m c.cut_in-cut.result) c.counted_cut.result rest all (Some c.in-Some-counted_cut.cut) c.counted_cut.ensures c.in-Some-counted_cut.is step

pub loop-command-preserved : goal.loop-command-preserved
loop-command-preserved g c =
    let m = file_of c.args.machine.now in
    let start = c.args.frames.now.start in
    let changes = c.args.frames.now.changes.items in
    let all = first_cut c.args.boxes m start changes c.args.commands.now in
    let rest = find (is_counted c.args.boxes m) (bare_cuts start changes (c.loop-command.index + 1) c.after-reached.result c.in-Some.later.now) in
    let step = one_further c.args.boxes m start changes c.loop-command.index c.loop-command.reached c.after-reached.result c.loop-command.left.now c.in-Some.later.now c.in-Some.command.now
    c.in_force-frame.result.frame c.cut_in-cut.result all c.in-Some.ensures.cases.0 (ap (λ (f : FrameInForce). f.frame) c.in_force-frame.ensures.frame) c.cut_in-cut.ensures c.after-reached.ensures c.loop-command.invariant.same in
    let size : length c.loop-command.left.now ≡ length c.in-Some.later.now + 1 = ap (λ (l : List Command). length l) c.in-Some.ensures.cases.0 ∙ omega arith in
    record {
      walks = c.in_force-frame.ensures.walks;
      same = decided (counted_cut c.args.boxes m c.cut_in-cut.result) c.counted_cut.result rest all None c.counted_cut.ensures c.in_default-counted_cut.is step;
      place = omega (arith, size, c.loop-command.invariant.place);
    }
