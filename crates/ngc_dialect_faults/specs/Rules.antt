-- Why the rules of a dialect refuse a line, in words. Our own.
use Rattle.std.specs.Prelude.{ℕ, List, [], codes}
use Rattle.ngc_compensation.specs.declared.refusal.Refusal.{Refusal as CompensationRefusal}
use Rattle.ngc_compensation.specs.declared.refusal.Refusal.TheVariants as compensation
use Rattle.ngc_dialect_arcs.specs.declared.refusal.ArcRefusal.{ArcRefusal}
use Rattle.ngc_dialect_arcs.specs.declared.refusal.ArcRefusal.TheVariants as arcs
use Rattle.ngc_dialect_repeats.specs.declared.refusal.PolarRefusal.{PolarRefusal}
use Rattle.ngc_dialect_repeats.specs.declared.refusal.PolarRefusal.TheVariants as polar
use Rattle.ngc_dialect_rules.specs.declared.fault.Cause.{Cause as RuleCause}
use Rattle.ngc_dialect_rules.specs.declared.fault.Cause.TheVariants as rules
use Rattle.ngc_dialect_rules.specs.declared.fault.LeftOut.{LeftOut}
use Rattle.ngc_dialect_rules.specs.declared.fault.LeftOut.TheVariants as left_out

-- what no dialect has here
abbrev pub left_out_words : LeftOut → List ℕ
left_out_words left_out.Tapping = codes "tapping"
left_out_words left_out.BackBoring = codes "boring on the way out of a hole"
left_out_words left_out.Threads = codes "threads"
left_out_words left_out.Probing = codes "probing"
left_out_words left_out.Splines = codes "splines"
left_out_words left_out.Rotation = codes "rotation or scaling of the coordinates"
left_out_words left_out.Polar = codes "polar coordinates"
left_out_words left_out.MoreSystems = codes "more coordinate systems than nine"
left_out_words left_out.FeedPerTurn = codes "feed per turn or constant surface speed"
left_out_words left_out.Diameters = codes "diameters of a lathe"
left_out_words left_out.SecondOffset = codes "a second tool offset"
left_out_words left_out.Compensation = codes "cutter compensation"
left_out_words left_out.SpindleAngle = codes "an angle of the spindle"
left_out_words left_out.Outputs = codes "outputs and inputs"
left_out_words left_out.ToolInSpindle = codes "the number of the tool in the spindle"
left_out_words left_out.ModeSaving = codes "saved modes beside other words or in this dialect"
left_out_words left_out.Calls = codes "subprograms"
left_out_words left_out.ChipBreaking = codes "G73 by a distance back that a setting of the control decides"
left_out_words left_out.ToolTable = codes "the tool table"
left_out_words left_out.MoreAxes = codes "rotary and secondary axes, except at 0"

-- an arc is refused
abbrev pub arc_words : ArcRefusal → List ℕ
arc_words arcs.NoCentre = codes "an arc without its centre"
arc_words arcs.OneOffset = codes "an absolute centre needs both offsets of the plane"
arc_words arcs.RadiusBesideOffsets = codes "R beside I, J or K"
arc_words arcs.EndIsStart = codes "an arc with R that ends where it begins"
arc_words arcs.ThirdOffset = codes "an offset along the third axis"
arc_words arcs.NoTurn = codes "fewer than one turn"
arc_words arcs.SeveralTurns = codes "an arc of more than one turn: not supported"
arc_words arcs.RadiusTooSmall = codes "R is too small to reach from start to end"
arc_words arcs.RadiusOutOfRange = codes "a radius of 0 or over 2 metres"
arc_words arcs.RadiiDiffer = codes "the radii differ by more than can be evened out"
arc_words arcs.TooFar = codes "a length over 100 metres"

-- cutter compensation is refused
abbrev pub compensation_words : CompensationRefusal → List ℕ
compensation_words compensation.EntryTooShort = codes "the entry move is not longer than the tool's radius"
compensation_words compensation.NoEntryArc = codes "no arc enters in the direction of the programmed one"
compensation_words compensation.ArcTooSmall = codes "the arc is not larger than the tool"
compensation_words compensation.NoIntersection = codes "the tool's paths do not meet in an inside corner"
compensation_words compensation.Backwards = codes "the tool does not fit: a move would run backwards"
compensation_words compensation.TooFar = codes "a place over 4 metres, or a radius of 0 or over 0.1 metres"
compensation_words compensation.PlaneYz = codes "no cutter compensation in G19"
compensation_words compensation.AlreadyOn = codes "cutter compensation is on already"

-- polar words are refused, or an arc of several turns
abbrev pub polar_words : PolarRefusal → List ℕ
polar_words polar.Twice = codes "@ or ^ is on the line twice"
polar_words polar.AxisBeside = codes "X or Y beside @ or ^"
polar_words polar.CodeBeside = codes "@ and ^ beside a code that they can't be used with"
polar_words polar.OtherPlane = codes "@ and ^ need the plane XY"
polar_words polar.AtOrigin = codes "@ and ^ at the origin, which has no angle"
polar_words polar.BelowZero = codes "@ leads to a distance below 0"
polar_words polar.TooFar = codes "@ and ^ lead over 100 metres away"
polar_words (polar.Arc refusal) = arc_words refusal

-- a line is refused
abbrev pub rule_words : RuleCause → List ℕ
rule_words rules.UnknownCode = codes "the dialect has no such code"
rule_words (rules.LeftOut left) = left_out_words left
rule_words rules.LetterTwice = codes "a letter is on the line twice"
rule_words rules.GroupTwice = codes "two codes of one modal group"
rule_words rules.TooManyMCodes = codes "more than four M codes"
rule_words rules.TooManyCodes = codes "more than 24 codes"
rule_words rules.AxesTwice = codes "two codes of the line use axis words"
rule_words rules.NoMotionCode = codes "axis words without a motion code"
rule_words rules.AxesBesideEnd = codes "axis words beside G80"
rule_words rules.MotionBesideLength = codes "a motion beside G43.1"
rule_words rules.LengthOnOtherAxis = codes "G43.1 with X or Y"
rule_words rules.NotStraight = codes "G53 without G0 or G1"
rule_words rules.MachinePlaceInG91 = codes "G53 in G91"
rule_words rules.NoUse = codes "nothing uses the word"
rule_words rules.Negative = codes "a value below 0"
rule_words rules.NotWhole = codes "not a whole number"
rule_words rules.WordMissing = codes "a word is missing that the code needs"
rule_words rules.LengthTooLarge = codes "a length over 100 metres"
rule_words rules.FeedZero = codes "a motion at feed 0"
rule_words rules.NoSuchSystem = codes "G10 with a number that isn't a coordinate system"
rule_words rules.LengthBeside = codes "G43 beside G10 L20, G28, G30, G52 or an arc"
rule_words (rules.Arc refusal) = arc_words refusal
rule_words rules.RetractBelowDepth = codes "R is below the depth"
rule_words rules.HoleCount = codes "the number of holes isn't from 1 to 9,999"
rule_words rules.PeckNotAboveZero = codes "a peck that isn't above 0"
rule_words rules.NegativeDwell = codes "a dwell below 0"
rule_words rules.SpindleOff = codes "the spindle does not turn"
rule_words rules.CycleInInverseTime = codes "a canned cycle in G93"
rule_words rules.CycleTooFar = codes "a height or a hole over 100 metres away"
rule_words rules.WhileCompensating = codes "not while cutter compensation is on"
rule_words rules.WhileLeaving = codes "not between G40 and the straight move after it"
rule_words rules.CompensationInInverseTime = codes "cutter compensation in G93"
rule_words rules.NoSuchTool = codes "the tool isn't in the tool table"
rule_words rules.TooManyKept = codes "over 1,000 lines between two moves beside a path"
rule_words (rules.Compensation refusal) = compensation_words refusal

abbrev pub rule_end : RuleCause → List ℕ
rule_end (rules.LeftOut left) = codes ": not supported"
rule_end _ = []
