-- The result of listing a program.
use Rattle.std.specs.Prelude.{◌≡◌, ℕ, List, Option, Result, Ok, Err, Bool}
use Rattle.std.specs.Io.KnownBytes.{Appends, Keeps}
use Rattle.ngc_text.specs.Written.{AppendsPrefix}
use Rattle.ngc_line_reader.specs.Grammar.{Reading}
use Rattle.ngc_line_reader.specs.ProgramText.{ProgramText, program_of, AreReadings}
use Rattle.ngc_line_reader.specs.ProgramView.{FaultIs}
use Rattle.ngc_commands.specs.declared.command.Command.{Command}
use Rattle.ngc_canonical.specs.declared.fault.ProgramFault.{ProgramFault}
use Rattle.ngc_canonical.specs.State.{Setup}
use Rattle.ngc_canonical.specs.Meaning.{meaning, parsed_program, Fails}
use Rattle.ngc_inputs.specs.declared.fault.AnswerFault.{AnswerFault}
use Rattle.ngc_inputs.specs.declared.fault.AnswerFault.TheVariants as answers
use Rattle.ngc_listing.specs.Listing.{listing}

-- a file's text has lines with readings, whose meaning on a machine with its tools, at a setting of
-- block delete, this is
pub record IsMeaning (setup : Setup) (bytes : List ℕ) (block_delete : Bool)
    (says : Result (List Command) ProgramFault) : Type 0 where
  pub text : ProgramText
  pub is_text : program_of bytes ≡ Ok text
  pub readings : List Reading
  pub are_readings : AreReadings text.lines readings
  pub means : meaning (parsed_program text readings) setup block_delete ≡ says

-- the listing of what a file means
pub record IsListing (setup : Setup) (bytes : List ℕ) (block_delete : Bool) (text : List ℕ) :
    Type 0 where
  pub commands : List Command
  pub meaning : IsMeaning setup bytes block_delete (Ok commands)
  pub lists : text ≡ listing setup.machine.step commands

-- a file's first fault in its meaning
pub record IsRefused (setup : Setup) (bytes : List ℕ) (block_delete : Bool) (fault : ProgramFault) :
    Type 0 where
  pub says : Result (List Command) ProgramFault
  pub meaning : IsMeaning setup bytes block_delete says
  pub fails : Fails fault says

-- Of a file, from what its sink had taken to what it has taken now: the listing of its meaning was
-- written, or a prefix of it if the sink failed; a refused program, and a file that isn't read,
-- leave the output unchanged.
abbrev pub Lists : Setup → List ℕ → Bool → Option (List ℕ) → Option (List ℕ) →
    Result (Unit {0}) AnswerFault → Type 0
Lists setup bytes block_delete old new (Ok u) =
    (text : List ℕ) × IsListing setup bytes block_delete text × Appends old new text
Lists setup bytes block_delete old new (Err (answers.Read fault)) =
    FaultIs fault (program_of bytes) × Keeps old new
Lists setup bytes block_delete old new (Err (answers.Program fault)) =
    IsRefused setup bytes block_delete fault × Keeps old new
Lists setup bytes block_delete old new (Err (answers.Write fault)) =
    (text : List ℕ) × IsListing setup bytes block_delete text × AppendsPrefix old new text
Lists setup bytes block_delete old new (Err _) = ⊥
