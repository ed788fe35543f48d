-- Worked heights, by evaluating the definitions. Lengths are in nanometres.
use Rattle.std.proofs.Common.{◌≡◌, ℕ, ℤ, pos, negsuc, List, [], ◌∷◌, Option, Some, None, refl}
use Rattle.ngc_arc_geometry.specs.Shape.{ArcShape}
use Rattle.ngc_commands.specs.declared.movement.Way.TheVariants.{Line}
use Rattle.ngc_fixed_length.specs.Roots.{whole_root_above}
use Rattle.ngc_fixed_length.specs.declared.modes.Plane.{Plane}
use Rattle.ngc_fixed_length.specs.declared.modes.Plane.TheVariants.{XY, ZX}
use Rattle.ngc_fixed_length.specs.declared.modes.System.{System}
use Rattle.ngc_fixed_length.specs.declared.modes.System.TheVariants.{First, Second}
use Rattle.ngc_fixed_length.specs.declared.modes.Turn.TheVariants.{Counterclockwise}
use Rattle.ngc_fixed_length.specs.declared.points.Point3.{Point3}
use Rattle.ngc_lowest_tips.specs.Heights.{lowest_of, lowest_of_arc}
use Rattle.ngc_lowest_tips.specs.Tips.{with_new}
use Rattle.ngc_lowest_tips.specs.declared.tip.LowestTip.{LowestTip}

abbrev point : ℤ → ℤ → ℤ → Point3
point x y z = record { x = x; y = y; z = z }

-- straight motions from Z 5 mm to Z -3 mm, and back: the start doesn't count
plunge : lowest_of (Line (point (pos 0) (pos 0) (pos 5000000)) (point (pos 0) (pos 0) (negsuc 2999999))) ≡ negsuc 2999999
plunge = refl

retract : lowest_of (Line (point (pos 0) (pos 0) (negsuc 2999999)) (point (pos 0) (pos 0) (pos 5000000))) ≡ pos 5000000
retract = refl

-- half circles of radius 10 mm, from X 10 mm to X -10 mm at Z 0, counterclockwise about zero: in the
-- ZX plane through Z -10 mm, and in the XY plane at Z 0
abbrev half_circle : Plane → ArcShape
half_circle plane = record {
  plane = plane;
  turn = Counterclockwise;
  start = point (pos 10000000) (pos 0) (pos 0);
  end = point (negsuc 9999999) (pos 0) (pos 0);
  centre = record { u = pos 0; v = pos 0 };
}

groove : lowest_of_arc (half_circle ZX) ≡ negsuc 9999999
unfolding whole_root_above
groove = refl

flat : lowest_of_arc (half_circle XY) ≡ pos 0
unfolding whole_root_above
flat = refl

abbrev tip : System → Option ℕ → ℤ → ℕ → LowestTip
tip system tool height line = record { system = system; tool = tool; by = None; height = height; line = line }

-- of equal heights the first one's line stays
equal : with_new (tip First (Some 2) (pos 5) 3 ∷ []) (tip First (Some 2) (pos 5) 7) ≡ tip First (Some 2) (pos 5) 3 ∷ []
equal = refl

deeper : with_new (tip First (Some 2) (pos 5) 3 ∷ []) (tip First (Some 2) (pos 4) 7) ≡ tip First (Some 2) (pos 4) 7 ∷ []
deeper = refl

-- another tool, and another system
tools : with_new (tip First None (pos 5) 3 ∷ []) (tip First (Some 2) (pos 6) 7) ≡ tip First None (pos 5) 3 ∷ tip First (Some 2) (pos 6) 7 ∷ []
tools = refl

systems : with_new (tip First None (pos 5) 3 ∷ []) (tip Second None (pos 6) 7) ≡ tip First None (pos 5) 3 ∷ tip Second None (pos 6) 7 ∷ []
systems = refl
