use Rattle.std.proofs.Common.{◌≡◌, true, false, rules}
use Rattle.ngc_machine_files.specs.MachineText.{good_axis_ends, good_limits, good_margin, good_travel}
use Rattle.ngc_machine_files.proofs.machine_ranges.is_travel_good.Goals.{then-are_limits_good, else-are_limits_good}
use Rattle.ngc_machine_files.proofs.machine_ranges.is_travel_good.Goals as goal

pub returns-then-is_margin_good : goal.returns-then-is_margin_good
unfolding good_travel
returns-then-is_margin_good c =
    let m = c.args.contents.now in
    elim c.if-are_limits_good.branch [
      | then-are_limits_good w ↦ (
          let limits : good_limits m.numbers.step m.points ≡ true = search rules in
          let margin : good_margin m.numbers.optional.travel_margin ≡ true = search rules in
          let ends : c.are_axis_ends_good.result ≡ good_axis_ends m.numbers.step m.motor_steps m.points = search rules in
          rw (limits, margin) ends)
      | else-are_limits_good w ↦ cc
    ]

pub returns-else-is_margin_good : goal.returns-else-is_margin_good
unfolding good_travel
returns-else-is_margin_good c =
    let m = c.args.contents.now in
    elim c.if-are_limits_good.branch [
      | then-are_limits_good w ↦ (
          let limits : good_limits m.numbers.step m.points ≡ true = search rules in
          let margin : good_margin m.numbers.optional.travel_margin ≡ false = search rules in
          rw (limits, margin) c.if-is_margin_good.false)
      | else-are_limits_good w ↦ (
          let limits : good_limits m.numbers.step m.points ≡ false = search rules in
          rw limits c.if-is_margin_good.false)
    ]
