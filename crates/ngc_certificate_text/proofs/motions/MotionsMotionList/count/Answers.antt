use Rattle.std.proofs.Common.{subst}
use Rattle.ngc_certificate_text.specs.Certificate.{AreEntries}
use Rattle.ngc_certificate_text.proofs.motions.MotionsMotionList.count.Goals as goal

pub returns-clause-are : goal.returns-clause-are
returns-clause-are g c = subst AreEntries c.self.view_is c.self.invariant.entries
