-- The kinds of values that only a tool table has: cutters, and limits of which reports warn. Our own.
use Rattle.std.specs.Prelude.{ℕ, unsigned_abs, List, Option, option_and_then, Result, Ok}
use Rattle.toml.specs.Data.{Data, as_str}
use Rattle.ngc_file_figures.specs.Cutters.{named_cutter}
use Rattle.ngc_file_figures.specs.declared.cutter.Cutter.{Cutter}
use Rattle.ngc_file_figures.specs.declared.limits.Limits.{Limits}
use Rattle.ngc_quantities.specs.Ranges.{speed_limits_of, turning_limits_of}
use Rattle.ngc_quantities.specs.declared.fault.Fault.{Fault}
use Rattle.ngc_quantities.specs.declared.range.Range.{Range}
use Rattle.ngc_machine_figures.specs.declared.key.Key.{Key}
use Rattle.ngc_machine_figures.specs.declared.limits.FeedLimits.{FeedLimits}
use Rattle.ngc_machine_figures.specs.declared.limits.TurningLimits.{TurningLimits}
use Rattle.ngc_machine_figures.specs.declared.refusal.FileRefusal.{FileRefusal}
use Rattle.ngc_machine_figures.specs.declared.refusal.Form.TheVariants as forms
use Rattle.ngc_machine_figures.specs.declared.refusal.Wrong.TheVariants as wrongs
use Rattle.ngc_machine_figures.specs.declared.tool_key.ToolWrong.TheVariants as tools
use Rattle.ngc_machine_figures.specs.Reading.{◌>>=◌, found, text_value}

-- a range of speeds isn't below zero
abbrev pub limits : Range → Limits
limits r = record { least = unsigned_abs r.low; greatest = unsigned_abs r.high }

unfoldable pub feeds_in : List ℕ → Result FeedLimits Fault
feeds_in text = speed_limits_of text >>= λ r. Ok (record { limits = limits r })

unfoldable pub turning_in : List ℕ → Result TurningLimits Fault
turning_in text = turning_limits_of text >>= λ r. Ok (record { limits = limits r })

unfoldable pub feeds_value : Key → Data → Result FeedLimits FileRefusal
feeds_value key value = text_value feeds_in forms.Feeds key value

unfoldable pub turning_value : Key → Data → Result TurningLimits FileRefusal
turning_value key value = text_value turning_in forms.Turning key value

abbrev pub cutter_in : Data → Option Cutter
cutter_in value = option_and_then named_cutter (as_str value)

unfoldable pub cutter_value : Key → Data → Result Cutter FileRefusal
cutter_value key value = found key (wrongs.Tool tools.NoCutter) (cutter_in value)
