-- Points with equal coordinates are equal.
use Rattle.std.proofs.Common.{◌≡◌, ℤ}
use Rattle.ngc_fixed_length.specs.declared.points.Point2.{Point2}

pub same_point : (a b c d : ℤ) → a ≡ c → b ≡ d → (let p : Point2 = record { u = a; v = b } in p) ≡ (let q : Point2 = record { u = c; v = d } in q)
same_point a b c d e f = rw (e, f)
