-- How breaches of limits are written, in words and as facts of a JSON document. Our own.
use Rattle.std.specs.Prelude.{ℕ, ◌==◌, List, [], ◌++◌, codes, decimal, Option, Some, None, if◌then◌else◌}
use Rattle.ngc_text.specs.Millimetres.{size_text}
use Rattle.ngc_file_figures.specs.declared.limits.Limits.{Limits}
use Rattle.ngc_file_figures.specs.declared.limits.ToolLimits.{ToolLimits}
use Rattle.ngc_commands.specs.declared.command.Command.{Command}
use Rattle.ngc_report.specs.declared.form.Form.{Form}
use Rattle.ngc_report.specs.declared.form.Form.TheVariants.{Words, Json}
use Rattle.ngc_limit_warnings.specs.Breaches.{breaches_of}
use Rattle.ngc_limit_warnings.specs.declared.breach.Breaches.{Breaches}
use Rattle.ngc_limit_warnings.specs.declared.breach.Kind.{Kind}
use Rattle.ngc_limit_warnings.specs.declared.breach.Kind.TheVariants as kinds

-- what is outside limits
abbrev pub kind_text : Kind → List ℕ
kind_text kinds.Feed = codes "feeds outside the tool's limits"
kind_text kinds.Plunge = codes "feeds straight down above the tool's limit"
kind_text kinds.Speed = codes "feeds with the spindle outside the tool's limits"

abbrev pub unit_text : Kind → List ℕ
unit_text kinds.Feed = codes " mm/min"
unit_text kinds.Plunge = codes " mm/min"
unit_text kinds.Speed = codes " rpm"

-- numbers in millionths of a unit, without it
abbrev pub limits_text : Limits → List ℕ
limits_text l =
    if l.least == 0 then codes "at most " ++ size_text l.greatest
    else size_text l.least ++ codes " to " ++ size_text l.greatest

abbrev pub breaches_words : Kind → Breaches → List ℕ
breaches_words kind s =
    codes "warning: " ++ kind_text kind ++ codes ": " ++ decimal s.count
    ++ codes ", the first in line " ++ decimal s.first.line ++ codes ": "
    ++ (size_text s.first.breach.number ++ unit_text kind ++ codes " with tool "
    ++ decimal s.first.breach.tool ++ codes ", which has ")
    ++ limits_text s.first.breach.limits ++ (unit_text kind ++ codes ".\n")

-- the numbers in millionths of a unit
abbrev pub breaches_fact : Kind → Breaches → List ℕ
breaches_fact kind s =
    codes ",\n{\"fact\":\"warning\",\"text\":\"" ++ kind_text kind ++ codes "\",\"count\":"
    ++ decimal s.count ++ codes ",\"line\":" ++ decimal s.first.line
    ++ (codes ",\"tool\":" ++ decimal s.first.breach.tool
    ++ codes ",\"number\":" ++ decimal s.first.breach.number)
    ++ (codes ",\"least\":" ++ decimal s.first.breach.limits.least
    ++ codes ",\"greatest\":" ++ decimal s.first.breach.limits.greatest ++ codes "}")

abbrev pub spelled : Form → Kind → Option Breaches → List ℕ
spelled form kind None = []
spelled Words kind (Some s) = breaches_words kind s
spelled Json kind (Some s) = breaches_fact kind s

-- the line of a kind, or nothing if the program has no such motion
abbrev pub kind_line : Form → Kind → List ToolLimits → List Command → List ℕ
kind_line form kind table commands = spelled form kind (breaches_of kind table commands)

-- the lines of a program's commands with tools that have these limits
abbrev pub limit_warnings : Form → List ToolLimits → List Command → List ℕ
limit_warnings form table commands =
    kind_line form kinds.Feed table commands
    ++ kind_line form kinds.Plunge table commands
    ++ kind_line form kinds.Speed table commands
