-- Why a plain line that a line became is refused, in words. Our own.
use Rattle.std.specs.Prelude.{ℕ, List, codes}
use Rattle.ngc_arc_geometry.specs.declared.fault.ArcFault.{ArcFault}
use Rattle.ngc_arc_geometry.specs.declared.fault.ArcFault.TheVariants as arcs
use Rattle.ngc_canned_cycles.specs.declared.fault.CycleFault.{CycleFault}
use Rattle.ngc_canned_cycles.specs.declared.fault.CycleFault.TheVariants as cycles
use Rattle.ngc_canonical.specs.declared.fault.Fault.{Fault as PlainFault}
use Rattle.ngc_canonical.specs.declared.fault.Fault.TheVariants as plain
use Rattle.ngc_fixed_length.specs.declared.fault.NumberFault.{NumberFault}
use Rattle.ngc_fixed_length.specs.declared.fault.NumberFault.TheVariants as numbers
use Rattle.ngc_modal_state.specs.declared.fault.ModalFault.{ModalFault}
use Rattle.ngc_modal_state.specs.declared.fault.ModalFault.TheVariants as modal
use Rattle.ngc_offsets.specs.declared.fault.FrameFault.{FrameFault}
use Rattle.ngc_offsets.specs.declared.fault.FrameFault.TheVariants as frames
use Rattle.ngc_parameters.specs.declared.fault.EvalFault.{EvalFault}
use Rattle.ngc_parameters.specs.declared.fault.EvalFault.TheVariants as evals

abbrev pub number_words : NumberFault → List ℕ
number_words numbers.TooLarge = codes "the number is too large"
number_words numbers.DivisionByZero = codes "division by zero"

-- a value
abbrev pub eval_words : EvalFault → List ℕ
eval_words (evals.Number fault) = number_words fault
eval_words evals.IndexNotWhole = codes "parameter index is not a whole number"
eval_words evals.IndexOutOfRange = codes "parameter index is not from 1 to 5160"
eval_words evals.TooDeep = codes "brackets and # nested more than 16 deep"
eval_words evals.Memory = codes "out of memory"

-- words and modal codes
abbrev pub modal_words : ModalFault → List ℕ
modal_words modal.GroupTwice = codes "two codes of one modal group"
modal_words modal.TooManyMWords = codes "more than four M words"
modal_words modal.LetterRepeated = codes "a letter that may stand once is repeated"
modal_words (modal.UnknownCode letter millionths) = codes "the code is unknown"
modal_words modal.LeftOut = codes "the code or letter is left out of our language"
modal_words modal.ClaimedTwice = codes "two codes on the line use the same word"
modal_words (modal.WithoutUse letter) = codes "no code on the line uses a word"
modal_words (modal.WordMissing word) = codes "a word that a code on the line needs is missing"
modal_words modal.OutOfRange = codes "a word's value is out of its range"
modal_words modal.WithoutStraightMotion = codes "G53 stands without G0 or G1 in force"

-- a place, an origin or an offset
abbrev pub frame_words : FrameFault → List ℕ
frame_words (frames.BeyondRange axis quantity at) =
    codes "the coordinate or offset is beyond its range"
frame_words frames.NoSuchTool = codes "the tool table has no such tool"

-- a canned cycle
abbrev pub cycle_words : CycleFault → List ℕ
cycle_words cycles.RetractBelowBottom = codes "R is below the bottom of the hole"
cycle_words cycles.BadRepeats = codes "L is not a whole number from 1 to 9999"
cycle_words cycles.BadPeck = codes "Q is not above 0, or takes more than 10000 pecks"
cycle_words cycles.NegativeDwell = codes "P is below 0"
cycle_words cycles.SpindleNotTurning = codes "the spindle does not turn"
cycle_words cycles.InverseTime = codes "a canned cycle in inverse time feed mode"
cycle_words cycles.Memory = codes "out of memory"

-- an arc
abbrev pub plain_arc_words : ArcFault → List ℕ
plain_arc_words arcs.NoAxisWord = codes "an arc needs an axis word of its plane"
plain_arc_words arcs.NoOffset = codes "an arc needs an offset of its plane or a radius"
plain_arc_words (arcs.RadiiDiffer at_start at_end) = codes "the radii at start and end differ"
plain_arc_words arcs.RadiusTooSmall = codes "the radius is too small for the way from start to end"
plain_arc_words arcs.EndIsStart = codes "in radius format the end must differ from the start"
plain_arc_words arcs.RadiusOutOfRange = codes "the radius is out of range"

-- a plain line
abbrev pub plain_words : PlainFault → List ℕ
plain_words (plain.Value fault) = eval_words fault
plain_words (plain.Modal fault) = modal_words fault
plain_words (plain.Length fault) = number_words fault
plain_words (plain.Frame fault) = frame_words fault
plain_words (plain.CycleBeyondRange reach) = codes "a coordinate of the canned cycle is beyond its range"
plain_words (plain.NoSuchTool tool) = codes "the tool table has no tool "
plain_words (plain.Cycle fault) = cycle_words fault
plain_words (plain.Arc fault) = plain_arc_words fault
plain_words plain.FeedZero = codes "the feed is zero"
plain_words plain.NoEnd = codes "the program has no end"
plain_words plain.TooManyCommands = codes "the program has too many commands"
