use Rattle.std.proofs.Common.{rules}
use Rattle.ngc_report.proofs.report.alongs.Goals as goal

pub returns : goal.returns
returns g c = rw (c.along.ensures, c.along-2.ensures, c.along-3.ensures, c.about-room.ensures) (search rules)
