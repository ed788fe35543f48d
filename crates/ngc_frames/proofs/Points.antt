-- Converting between the program's coordinates and the machine's.
use Rattle.std.proofs.Common.{◌≡◌, ℤ, ap, ap₂, arith, ◌∙◌}
use Rattle.std.specs.Prelude.{◌+ℤ◌, ◌-ℤ◌}
use Rattle.std.proofs.lemmas.Int.{ints}
use Rattle.ngc_fixed_length.specs.declared.points.Point3.{Point3}
use Rattle.ngc_offsets.specs.Frames.{shift_of}
use Rattle.ngc_frames.specs.Laws.{NamesItsPoints}

back : (a b : ℤ) → (a +ℤ b) -ℤ b ≡ a
back a b = omega (arith, ints)

pub names : NamesItsPoints
names f p =
    let s : Point3 = shift_of f in
    ap (λ (x : ℤ). record { x = x; y = (p.y +ℤ s.y) -ℤ s.y; z = (p.z +ℤ s.z) -ℤ s.z }) (back p.x s.x)
    ∙ ap₂ (λ (y z : ℤ). record { x = p.x; y = y; z = z }) (back p.y s.y) (back p.z s.z)
