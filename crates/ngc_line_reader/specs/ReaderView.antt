-- The future results of a reader of pieces, as functions of the bytes that follow.
use Rattle.std.specs.Prelude.{◌≡◌, ℕ, List, Bool, Option, Some, None, Result, Ok, Err}
use Rattle.ngc_line_reader.specs.declared.program.fault.ReadFault.{ReadFault}
use Rattle.ngc_line_reader.specs.declared.program.fault.ReadFault.TheVariants as faults
use Rattle.ngc_line_reader.specs.declared.program.reader.ProgramReader.{ProgramReader}
use Rattle.ngc_line_reader.specs.ProgramText.{Outcome, program_of}
use Rattle.ngc_line_reader.specs.Load.{room_of}
use Rattle.ngc_line_reader.specs.Reader.{outcome_by, fault_by, refusal_by, has_ended_by}

-- the result of the text if these bytes follow those read so far, and no more
abbrev pub outcome_in : {A : Type 0} → ProgramReader A → List ℕ → Outcome
outcome_in r rest = outcome_by r.state r.loader rest

-- the fault that is certain once these bytes follow, whatever comes after them
abbrev pub fault_in : {A : Type 0} → ProgramReader A → List ℕ → Option ReadFault
fault_in r rest = fault_by r.state r.loader rest

-- the fault that was returned already
abbrev pub refusal_in : {A : Type 0} → ProgramReader A → Option ReadFault
refusal_in r = refusal_by r.state

-- the text has ended, so that the following bytes are ignored
abbrev pub has_ended_in : {A : Type 0} → ProgramReader A → Bool
has_ended_in r = has_ended_by r.state

-- the greatest number of further bytes of the text
abbrev pub room_in : {A : Type 0} → ProgramReader A → ℕ
room_in r = room_of r.loader

-- The result for a piece is the fault that is certain then, or none if there is none, unless memory
-- runs out.
abbrev pub AnswerIs : Result Unit ReadFault → Option ReadFault → Type 0
AnswerIs (Ok done) why = why ≡ None
AnswerIs (Err (faults.Line n f)) why = why ≡ Some (faults.Line n f)
AnswerIs (Err faults.NoEnd) why = why ≡ Some faults.NoEnd
AnswerIs (Err faults.TooManyLines) why = why ≡ Some faults.TooManyLines
AnswerIs (Err faults.Memory) why = Unit {0}
AnswerIs (Err faults.Device) why = why ≡ Some faults.Device

-- the result of a source's bytes depends only on the bytes not yet read
abbrev pub Follows : {A : Type 0} → Option (List ℕ) → Option (List ℕ) → ProgramReader A → Type 0
Follows None left r = Unit {0}
Follows (Some all) None r = ⊥
Follows (Some all) (Some left) r = program_of all ≡ outcome_in r left
