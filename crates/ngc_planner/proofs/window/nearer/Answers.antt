use Rattle.std.proofs.Common.{◌≤◌, ◌+◌, ◌-◌, ◌*◌, arith, refl}
use Rattle.ngc_fixed_length.specs.Limits.{MILLION}
use Rattle.ngc_planner.specs.Joints.{heading_rate}
use Rattle.ngc_planner.proofs.WindowLaws.{is_over, stepped}
use Rattle.ngc_planner.proofs.window.nearer.Goals as goal

pub overflow_sub-slope : goal.overflow_sub-slope
overflow_sub-slope c =
    let o = is_over c.args.jump c.args.turn c.args.difference c.args.way c.args.rate c.requires.over in
    omega (arith, o.steep, c.from-jumped.ensures)

pub nonzero_div-beyond : goal.nonzero_div-beyond
nonzero_div-beyond c =
    let o = is_over c.args.jump c.args.turn c.args.difference c.args.way c.args.rate c.requires.over in
    omega (arith, o.steep, c.from-jumped.ensures)

step : (c : goal.After-max) → heading_rate c.args.jump c.args.turn c.args.difference c.args.way + c.max.result ≤ c.args.rate
step c =
    stepped c.args.jump c.args.turn c.args.difference c.args.way c.args.rate
    (c.args.rate * c.args.rate * c.args.difference - MILLION * c.args.jump * c.args.rate - c.args.turn * c.args.way) c.max.result
    c.requires.difference c.requires.over refl (rw (← c.from-jumped.ensures, ← c.from.ensures, ← c.from-2.ensures) c.max.ensures)

pub overflow_sub-result : goal.overflow_sub-result
overflow_sub-result c = let s = step c in omega (arith, s)

pub returns-clause-above : goal.returns-clause-above
returns-clause-above c = let s = step c in omega (arith, s)
