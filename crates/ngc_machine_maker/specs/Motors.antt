-- The motors of the axes, whose steps may differ. Our own.
use Rattle.std.specs.Prelude.{◌==◌, ◌&&◌, not, nat_le, max, Bool, Result, Ok, Err, if◌then◌else◌}
use Rattle.ngc_machine_maker.specs.declared.figures.PerAxis.{PerAxis}
use Rattle.ngc_machine_maker.specs.declared.figures.StepsPerMillimetre.{StepsPerMillimetre}
use Rattle.ngc_machine_maker.specs.declared.refusal.FigureRefusal.{FigureRefusal}
use Rattle.ngc_machine_maker.specs.declared.refusal.FigureRefusal.TheVariants as refusals

-- the steps of the finest motor, whose step is the shortest
abbrev pub finest : PerAxis StepsPerMillimetre → StepsPerMillimetre
finest m = record { millionths = max (max m.x.millionths m.y.millionths) m.z.millionths }

abbrev pub are_equal : PerAxis StepsPerMillimetre → Bool
are_equal m = m.x.millionths == m.y.millionths && m.y.millionths == m.z.millionths

-- a motor's step is from 500 to 50,000 nm, so 20 to 2,000 of them make a millimetre
abbrev pub is_motor : StepsPerMillimetre → Bool
is_motor s = nat_le 20000000 s.millionths && nat_le s.millionths 2000000000

abbrev pub are_motors : PerAxis StepsPerMillimetre → Bool
are_motors m = is_motor m.x && (is_motor m.y && is_motor m.z)

-- the motors that a machine file can have; the rates of version 2 are in one step for all axes
abbrev pub checked_motors : Bool → PerAxis StepsPerMillimetre →
    Result (PerAxis StepsPerMillimetre) FigureRefusal
checked_motors rates m =
    if rates && not (are_equal m) then Err (refusals.UnequalSteps m) else (
    if are_motors m then Ok m else Err refusals.Step)
