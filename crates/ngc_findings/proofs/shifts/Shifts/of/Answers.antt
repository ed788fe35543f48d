use Rattle.std.proofs.Common.{rules}
use Rattle.ngc_findings.proofs.shifts.Shifts.of.Goals as goal

pub returns : goal.returns
returns c =
    rw (
      c.unless.ensures,
      c.unless-2.ensures,
      c.unless-3.ensures,
      c.axis_shift.ensures,
      c.axis_shift-2.ensures,
      c.axis_shift-3.ensures,
      c.is_apart_along-x.ensures,
      c.is_apart_along-y.ensures,
      c.is_apart_along-z.ensures,
    ) (search rules)
