use Rattle.std.proofs.Common.{ℕ, ◌<◌}
use Rattle.ngc_certificate_text.specs.Certificate.{entry_at}
use Rattle.ngc_certificate.specs.Common.{AreAlike}
use Rattle.ngc_certificate.proofs.joiner.common_motions.Given as goal

abbrev pub invariant-loop-i : goal.invariant-loop-i
invariant-loop-i g l = (k : ℕ) → k < l.i →
    AreAlike l.off l.on (entry_at (g.M.MotionList.entries l.off_motions) k) (entry_at (g.M.MotionList.entries l.on_motions) k)
