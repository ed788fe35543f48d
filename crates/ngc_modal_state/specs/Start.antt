-- The modes at the start: G80 G17 G21 G90 G94 G98 G64. Our own: the manual leaves most of them to
-- the machine.
use Rattle.ngc_fixed_length.specs.declared.units.Units.TheVariants.{Millimetres}
use Rattle.ngc_fixed_length.specs.declared.modes.Plane.TheVariants.{XY}
use Rattle.ngc_fixed_length.specs.declared.modes.Distance.TheVariants.{Absolute}
use Rattle.ngc_fixed_length.specs.declared.modes.FeedMode.TheVariants.{PerMinute}
use Rattle.ngc_fixed_length.specs.declared.modes.RetractMode.TheVariants.{Series}
use Rattle.ngc_modal_state.specs.declared.code.MotionMode.TheVariants.{Cancel}
use Rattle.ngc_modal_state.specs.declared.code.PathControl.TheVariants.{Continuous}
use Rattle.ngc_modal_state.specs.declared.modes.Modes.{Modes}

abbrev pub start_modes : Modes
start_modes = record {
  motion = Cancel;
  plane = XY;
  units = Millimetres;
  distance = Absolute;
  feed_mode = PerMinute;
  return_mode = Series;
  path = Continuous;
}
