use Rattle.std.proofs.Common.{◌≡◌, ℕ, ◌<◌}
use Rattle.ngc_certificate_text.specs.Certificate.{piece_at}
use Rattle.ngc_certificate.proofs.joiner.same_cuts.Given as goal

abbrev pub invariant-loop-k : goal.invariant-loop-k
invariant-loop-k g l = (j : ℕ) → j < l.k → piece_at (g.M.MotionList.entries l.off) l.i j ≡ piece_at (g.M.MotionList.entries l.on) l.i j
