-- No number of a machine file exceeds what was requested, either with the file's step or with the
-- motor's.
use Rattle.std.specs.Prelude.{◌≡◌, ◌≤◌, ◌*◌, ℤ, ◌-ℤ◌, unsigned_abs}
use Rattle.ngc_machine_maker.specs.declared.figures.Figures.{Figures}
use Rattle.ngc_machine_maker.specs.declared.figures.Length.{Length}
use Rattle.ngc_machine_maker.specs.declared.figures.Ratio.{Ratio}
use Rattle.ngc_machine_maker.specs.declared.numbers.MachineNumbers.{MachineNumbers}
use Rattle.ngc_machine_maker.specs.declared.rates.Rates.{Rates}
use Rattle.ngc_machine_maker.specs.declared.scale.Scale.{Scale}
use Rattle.ngc_machine_maker.specs.Safe.{AreSafe}

-- the motor's step, and that of the file
abbrev pub scale_in : MachineNumbers → Figures → Scale
scale_in n f = record { steps = f.scale.steps; per = f.scale.per; step = n.step }

-- a scale has the ratio of a motor
pub record IsScaleOf (ratio : Ratio) (scale : Scale) : Type 0 where
  pub steps : scale.steps ≡ ratio.steps
  pub per : scale.per ≡ ratio.per

abbrev pub rates_in : MachineNumbers → Rates
rates_in n =
    record {
      ticks = n.ticks_per_second;
      axis_rate = n.axis_rate;
      max_rate = n.max_rate;
      change = n.change;
      changes = n.changes;
      corner = n.corner;
      turn = n.turn;
      turns = n.turns;
      jump = n.jump;
    }

-- a travel is no longer than a length, in nanometres of the file, and also after it is scaled by
-- the ratio of the motor's step to the file's
pub record IsTravelWithin (scale : Scale) (low high : ℤ) (length : Length) : Type 0 where
  pub by_file : unsigned_abs (high -ℤ low) ≤ length.nanometres
  pub by_motor :
      unsigned_abs (high -ℤ low) * scale.per ≤ length.nanometres * (scale.steps * scale.step)

pub record IsWithinRequest (n : MachineNumbers) (f : Figures) : Type 0 where
  pub rates : AreSafe (scale_in n f) (rates_in n) f
  pub x : IsTravelWithin (scale_in n f) n.low.x n.high.x f.travel.x
  pub y : IsTravelWithin (scale_in n f) n.low.y n.high.y f.travel.y
  pub z : IsTravelWithin (scale_in n f) n.low.z n.high.z f.travel.z
