-- The value that the pieces of a motion share. Our own.
use Rattle.std.specs.Prelude.{ℤ, Bool, true, false}
use Rattle.ngc_commands.specs.declared.movement.Way.{Way}
use Rattle.ngc_commands.specs.declared.movement.Way.TheVariants as ways
use Rattle.ngc_certificate.specs.declared.shared.Shared.{Shared}
use Rattle.ngc_certificate.specs.declared.shared.Shared.TheVariants.{Whole, Cut}
use Rattle.ngc_certificate.specs.Inside.{whole_box}

-- the box of the whole, or the arc that is cut into several pieces
abbrev pub shared_of : ℤ → Way → Bool → Shared
shared_of step (ways.Arc a) true = Cut (record { arc = a; step = step })
shared_of step (ways.Arc a) false = Whole (whole_box step (ways.Arc a))
shared_of step (ways.Line b e) several = Whole (whole_box step (ways.Line b e))
