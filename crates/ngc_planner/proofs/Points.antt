-- Points with equal coordinates are equal.
use Rattle.std.proofs.Common.{◌≡◌, ℤ}
use Rattle.ngc_fixed_length.specs.declared.points.Point3.{Point3}

pub same_point : (a b c d e f : ℤ) → a ≡ d → b ≡ e → c ≡ f → (let p : Point3 = record { x = a; y = b; z = c } in p)
    ≡ (let q : Point3 = record { x = d; y = e; z = f } in q)
same_point a b c d e f p q r = rw (p, q, r)
