use Rattle.std.proofs.Common.{◌≡◌, true, rules}
use Rattle.ngc_machine_files.specs.MachineText.{good_axis_ends, good_ends}
use Rattle.ngc_machine_files.proofs.machine_ranges.are_axis_ends_good.Goals.{then-are_ends_good, else-are_ends_good}
use Rattle.ngc_machine_files.proofs.machine_ranges.are_axis_ends_good.Goals as goal

pub returns-then-are_ends_good-2 : goal.returns-then-are_ends_good-2
unfolding good_axis_ends
returns-then-are_ends_good-2 c =
    let m = c.args.motors.now in
    let p = c.args.points.now in
    elim c.if-are_ends_good.branch [
      | then-are_ends_good w ↦ (
          let x : good_ends c.args.step m.x p.low.x p.high.x ≡ true = search rules in
          let y : good_ends c.args.step m.y p.low.y p.high.y ≡ true = search rules in
          let z : c.are_ends_good-then-are_ends_good-2.result ≡ good_ends c.args.step m.z p.low.z p.high.z = search rules in
          rw (x, y) z)
      | else-are_ends_good w ↦ cc
    ]
