-- The future results of a reader of pieces, from its state.
use Rattle.std.specs.Prelude.{ℕ, List, Bool, true, false, Option, Some, None, Ok, Err}
use Rattle.ngc_line_reader.specs.declared.program.fault.ReadFault.{ReadFault}
use Rattle.ngc_line_reader.specs.declared.program.loader.Loader.{Loader}
use Rattle.ngc_line_reader.specs.declared.program.reader.State.{State}
use Rattle.ngc_line_reader.specs.declared.program.reader.State.TheVariants.{Going, Ended, Refused}
use Rattle.ngc_line_reader.specs.Program.{split_lines}
use Rattle.ngc_line_reader.specs.ProgramText.{Outcome}
use Rattle.ngc_line_reader.specs.Pieces.{firm_lines}
use Rattle.ngc_line_reader.specs.Load.{ended, resumed, standing}

-- the result of the text if these bytes follow and no more
abbrev pub outcome_by : {A : Type 0} → State → Loader A → List ℕ → Outcome
outcome_by Going l rest = resumed split_lines l rest
outcome_by Ended l rest = Ok (ended l.found)
outcome_by (Refused fault) l rest = Err fault

-- the fault that is certain once these bytes follow
abbrev pub fault_by : {A : Type 0} → State → Loader A → List ℕ → Option ReadFault
fault_by Going l rest = standing (resumed firm_lines l rest)
fault_by Ended l rest = None
fault_by (Refused fault) l rest = Some fault

-- the fault that was returned
abbrev pub refusal_by : State → Option ReadFault
refusal_by Going = None
refusal_by Ended = None
refusal_by (Refused fault) = Some fault

abbrev pub has_ended_by : State → Bool
has_ended_by Going = false
has_ended_by Ended = true
has_ended_by (Refused fault) = false
