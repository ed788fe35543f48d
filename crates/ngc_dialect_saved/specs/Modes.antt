-- The modes that M70 and M73 save, each as the code that sets it (LinuxCNC's documentation, "M70"). Of a
-- tool length and of an offset it is saved only whether they are in force. The motion mode isn't saved.
use Rattle.std.specs.Prelude.{ℤ, pos, ◌&&◌, Bool, Option, Some, None, if◌then◌else◌}
use Rattle.ngc_fixed_length.specs.Signed.{is_zero}
use Rattle.ngc_fixed_length.specs.declared.modes.Distance.{Distance}
use Rattle.ngc_fixed_length.specs.declared.modes.Distance.TheVariants.{Absolute, Incremental}
use Rattle.ngc_fixed_length.specs.declared.modes.FeedMode.{FeedMode}
use Rattle.ngc_fixed_length.specs.declared.modes.FeedMode.TheVariants.{PerMinute, InverseTime}
use Rattle.ngc_fixed_length.specs.declared.modes.Plane.{Plane}
use Rattle.ngc_fixed_length.specs.declared.modes.Plane.TheVariants.{XY, ZX, YZ}
use Rattle.ngc_fixed_length.specs.declared.modes.RetractMode.{RetractMode}
use Rattle.ngc_fixed_length.specs.declared.modes.RetractMode.TheVariants.{Series, Retract}
use Rattle.ngc_fixed_length.specs.declared.modes.System.{System}
use Rattle.ngc_fixed_length.specs.declared.modes.System.TheVariants as systems
use Rattle.ngc_fixed_length.specs.declared.modes.Turn.{Turn}
use Rattle.ngc_fixed_length.specs.declared.modes.Turn.TheVariants.{Clockwise, Counterclockwise}
use Rattle.ngc_fixed_length.specs.declared.units.Units.{Units}
use Rattle.ngc_fixed_length.specs.declared.units.Units.TheVariants.{Millimetres, Inches}
use Rattle.ngc_modal_state.specs.declared.code.PathControl.{PathControl}
use Rattle.ngc_modal_state.specs.declared.code.PathControl.TheVariants.{ExactPath, ExactStop, Continuous}
use Rattle.ngc_dialect_rules.specs.declared.code.Code.{Code}
use Rattle.ngc_dialect_rules.specs.declared.code.Code.TheVariants.{G, M}
use Rattle.ngc_dialect_rules.specs.declared.front.Known.{Known}
use Rattle.ngc_dialect_saved.specs.declared.modes.SavedModes.{SavedModes}
use Rattle.ngc_dialect_saved.specs.declared.switches.Switches.{Switches}

abbrev pub units_code : Units → Code
units_code Inches = G 200
units_code Millimetres = G 210

abbrev pub plane_code : Plane → Code
plane_code XY = G 170
plane_code ZX = G 180
plane_code YZ = G 190

abbrev pub distance_code : Distance → Code
distance_code Absolute = G 900
distance_code Incremental = G 910

abbrev pub feed_mode_code : FeedMode → Code
feed_mode_code InverseTime = G 930
feed_mode_code PerMinute = G 940

abbrev pub system_code : System → Code
system_code systems.First = G 540
system_code systems.Second = G 550
system_code systems.Third = G 560
system_code systems.Fourth = G 570
system_code systems.Fifth = G 580
system_code systems.Sixth = G 590
system_code systems.Seventh = G 591
system_code systems.Eighth = G 592
system_code systems.Ninth = G 593

abbrev pub is_no_length : ℤ → Bool
is_no_length l = is_zero l

-- a tool length of our own language, or that of G43.1
abbrev pub length_code : ℤ → ℤ → Code
length_code own given = if is_no_length own && is_no_length given then G 490 else G 430

abbrev pub retract_code : RetractMode → Code
retract_code Series = G 980
retract_code Retract = G 990

abbrev pub centres_code : Bool → Code
centres_code are_absolute = if are_absolute then G 901 else G 911

abbrev pub path_code : PathControl → Code
path_code ExactPath = G 610
path_code ExactStop = G 611
path_code Continuous = G 640

abbrev pub offset_code : Bool → Code
offset_code is_on = if is_on then G 923 else G 922

abbrev pub spindle_code : Option Turn → Code
spindle_code (Some Clockwise) = M 3
spindle_code (Some Counterclockwise) = M 4
spindle_code None = M 5

abbrev pub overrides_code : Bool → Code
overrides_code are_on = if are_on then M 48 else M 49

-- F as it was written; without a feed it is 0
abbrev pub feed_or_zero : Option ℤ → ℤ
feed_or_zero None = pos 0
feed_or_zero (Some feed) = feed

abbrev pub modes_now : Known → Switches → SavedModes
modes_now k s = record {
  units = units_code k.modes.units;
  plane = plane_code k.modes.plane;
  distance = distance_code k.modes.distance;
  feed_mode = feed_mode_code k.modes.feed_mode;
  system = system_code k.frames.active;
  length = length_code k.frames.length k.front.length;
  retract = retract_code k.front.retract;
  centres = centres_code k.front.absolute_centres;
  path = path_code k.modes.path;
  offset = offset_code s.offset;
  spindle = spindle_code k.front.spindle;
  overrides = overrides_code s.overrides;
  mist = s.mist;
  flood = s.flood;
  feed = feed_or_zero k.front.feed;
  speed = s.speed;
}
