-- Feeds and spindle speeds outside the limits of a tool, in motions that cut. Our own.
use Rattle.std.specs.Prelude.{ℕ, ◌+◌, nat_lt, int_lt, List, [], ◌∷◌, ◌++◌, length, Option, Some, None}
use Rattle.std.specs.Prelude.{Bool, not, ◌&&◌, if◌then◌else◌}
use Rattle.std.specs.Ordering.{int_eq}
use Rattle.ngc_file_figures.specs.Limits.{hold}
use Rattle.ngc_file_figures.specs.declared.limits.Limits.{Limits}
use Rattle.ngc_file_figures.specs.declared.limits.ToolLimits.{ToolLimits}
use Rattle.ngc_fixed_length.specs.declared.points.Point3.{Point3}
use Rattle.ngc_commands.specs.declared.command.Action.{Action}
use Rattle.ngc_commands.specs.declared.command.Action.TheVariants.{Move}
use Rattle.ngc_commands.specs.declared.command.Command.{Command}
use Rattle.ngc_commands.specs.declared.command.SpindleState.{SpindleState}
use Rattle.ngc_commands.specs.declared.command.SpindleState.TheVariants.{Off, Turning}
use Rattle.ngc_commands.specs.declared.movement.Feed.{Feed}
use Rattle.ngc_commands.specs.declared.movement.Feed.TheVariants.{PerMinute, Inverse}
use Rattle.ngc_commands.specs.declared.movement.Pace.{Pace}
use Rattle.ngc_commands.specs.declared.movement.Pace.TheVariants as paces
use Rattle.ngc_commands.specs.declared.movement.Way.{Way}
use Rattle.ngc_commands.specs.declared.movement.Way.TheVariants.{Line, Arc}
use Rattle.ngc_limit_warnings.specs.Uses.{beginning, next}
use Rattle.ngc_limit_warnings.specs.declared.breach.Breach.{Breach}
use Rattle.ngc_limit_warnings.specs.declared.breach.Breaches.{Breaches}
use Rattle.ngc_limit_warnings.specs.declared.breach.Course.{Course}
use Rattle.ngc_limit_warnings.specs.declared.breach.Course.TheVariants.{Aside, Down, Up}
use Rattle.ngc_limit_warnings.specs.declared.breach.Found.{Found}
use Rattle.ngc_limit_warnings.specs.declared.breach.Kind.{Kind}
use Rattle.ngc_limit_warnings.specs.declared.breach.Kind.TheVariants as kinds
use Rattle.ngc_limit_warnings.specs.declared.in_use.InUse.{InUse}

-- ---- where a path goes

abbrev pub is_upright : Point3 → Point3 → Bool
is_upright start end = int_eq start.x end.x && int_eq start.y end.y

abbrev pub upright_course : Point3 → Point3 → Course
upright_course start end = if int_lt end.z start.z then Down else Up

-- an arc goes aside, also as a helix
abbrev pub course_of : Way → Course
course_of (Line start end) = if is_upright start end then upright_course start end else Aside
course_of (Arc arc) = Aside

-- ---- the limits of a motion: a feed straight up doesn't cut

-- a feed straight down has limits of its own, if the tool has such
abbrev pub feed_limits_by : Course → Option Limits → Option Limits → Option Limits
feed_limits_by Aside feed plunge = feed
feed_limits_by Down feed None = feed
feed_limits_by Down feed (Some plunge) = None
feed_limits_by Up feed plunge = None

abbrev pub feed_limits : Course → ToolLimits → Option Limits
feed_limits course l = feed_limits_by course l.feed l.plunge

abbrev pub plunge_limits : Course → ToolLimits → Option Limits
plunge_limits Down l = l.plunge
plunge_limits _ l = None

abbrev pub speed_limits : Course → ToolLimits → Option Limits
speed_limits Up l = None
speed_limits _ l = l.speed

abbrev pub limits_for : Kind → Course → ToolLimits → Option Limits
limits_for kinds.Feed course l = feed_limits course l
limits_for kinds.Plunge course l = plunge_limits course l
limits_for kinds.Speed course l = speed_limits course l

-- ---- the number that must be within them

-- a feed in inverse time is none
abbrev pub feed_number : Feed → Option ℕ
feed_number (PerMinute n) = Some n
feed_number (Inverse n) = None

-- a spindle that is off, or turns at speed 0, has none
abbrev pub turning_number : SpindleState → Option ℕ
turning_number Off = None
turning_number (Turning turn n) = if nat_lt 0 n then Some n else None

abbrev pub number_for : Kind → Feed → SpindleState → Option ℕ
number_for kinds.Feed feed spindle = feed_number feed
number_for kinds.Plunge feed spindle = feed_number feed
number_for kinds.Speed feed spindle = turning_number spindle

-- ---- a breach

abbrev pub breach : ℕ → Option Limits → Option ℕ → Option Breach
breach tool (Some l) (Some n) =
    if not (hold l n) then Some (record { tool = tool; number = n; limits = l }) else None
breach tool _ _ = None

-- of the tool with these limits
abbrev pub breach_by : Kind → ToolLimits → SpindleState → Way → Feed → Option Breach
breach_by kind l spindle way feed =
    breach l.number (limits_for kind (course_of way) l) (number_for kind feed spindle)

abbrev pub breach_of : Kind → Option ToolLimits → SpindleState → Way → Pace → Option Breach
breach_of kind (Some l) spindle way (paces.Feed feed) = breach_by kind l spindle way feed
breach_of kind _ spindle way _ = None

abbrev pub breach_with : Kind → InUse → Way → Pace → Option Breach
breach_with kind u way pace = breach_of kind u.limits u.spindle way pace

abbrev pub breach_in : Kind → InUse → Action → Option Breach
breach_in kind u (Move m) = breach_with kind u m.way m.pace
breach_in kind u _ = None

-- ---- over a program

abbrev pub found_in : ℕ → Option Breach → List Found
found_in line None = []
found_in line (Some b) = record { line = line; breach = b } ∷ []

-- those of a kind in these commands, in order
abbrev pub all_found : Kind → List ToolLimits → InUse → List Command → List Found
all_found kind table u [] = []
all_found kind table u (c ∷ cs) =
    found_in c.line (breach_in kind u c.action) ++ all_found kind table (next table u c.action) cs

-- the first and the number of all, or none
abbrev pub breaches_among : List Found → Option Breaches
breaches_among [] = None
breaches_among (f ∷ fs) = Some (record { first = f; count = length (f ∷ fs) })

abbrev pub breaches_of : Kind → List ToolLimits → List Command → Option Breaches
breaches_of kind table commands = breaches_among (all_found kind table beginning commands)

-- ---- the count of breaches

-- the count with one more command
abbrev pub counted : Option Breaches → ℕ → Option Breach → Option Breaches
counted found line None = found
counted None line (Some b) =
    Some (record { first = record { line = line; breach = b }; count = 1 })
counted (Some s) line (Some b) = Some (record s { count = s.count + 1 })

-- the count with later ones
abbrev pub with_later : Option Breaches → List Found → Option Breaches
with_later None fs = breaches_among fs
with_later (Some s) fs = Some (record s { count = s.count + length fs })

abbrev pub count_of : Option Breaches → ℕ
count_of None = 0
count_of (Some s) = s.count
