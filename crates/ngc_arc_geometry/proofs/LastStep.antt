-- If no step refuses, the result is the last step's.
use Rattle.std.proofs.Common.{◌≡◌, ℕ, ◌<◌, ◌≤◌, ◌==◌, nat_lt, Bool, false, Result, arith}
use Rattle.std.proofs.lemmas.Bool.Decides.{nat_tests}
use Rattle.ngc_arc_geometry.specs.declared.fault.ArcFault.{ArcFault}
use Rattle.ngc_arc_geometry.specs.Faults.{◌>>◌, refuse_if}

pub four_pass : {A : Type 0} (b1 b2 b3 b4 : Bool) (e1 e2 e3 e4 : ArcFault) (r : Result A ArcFault) → b1 ≡ false → b2 ≡ false → b3 ≡ false → b4 ≡ false →
    (refuse_if b1 e1 >> refuse_if b2 e2 >> refuse_if b3 e3 >> refuse_if b4 e4 >> r) ≡ r
four_pass b1 b2 b3 b4 e1 e2 e3 e4 r p1 p2 p3 p4 = rw (p1, p2, p3, p4)

-- tests that fail
pub not_zero : (n : ℕ) → 0 < n → (n == 0) ≡ false
not_zero n some = grind (arith, nat_tests)

pub not_over : (limit n : ℕ) → n ≤ limit → nat_lt limit n ≡ false
not_over limit n small = grind (arith, nat_tests)
