-- The result of listing a file, from the results of its parts.
use Rattle.std.proofs.Common.{◌≡◌, ℕ, List, Option, Some, None, Bool, Result, Ok, Err, IfSome, refl, subst}
use Rattle.ngc_text.specs.Written.{AppendsPrefix}
use Rattle.ngc_text.specs.declared.writing.WriteFault.{WriteFault}
use Rattle.ngc_line_reader.specs.Grammar.{Reading}
use Rattle.ngc_line_reader.specs.ProgramText.{ProgramText, program_of, AreReadings, HaveReadings}
use Rattle.ngc_commands.specs.declared.command.Command.{Command}
use Rattle.ngc_canonical.specs.declared.fault.ProgramFault.{ProgramFault}
use Rattle.ngc_canonical.specs.State.{Setup}
use Rattle.ngc_canonical.specs.Meaning.{meaning, parsed_program}
use Rattle.ngc_inputs.specs.declared.fault.AnswerFault.TheVariants as answers
use Rattle.ngc_listing.specs.Listing.{listing}
use Rattle.ngc_simulator.specs.Lists.{IsListing, Lists}

-- each list of readings of the lines has this meaning
abbrev pub Means : ProgramText → Setup → Bool → Result (List Command) ProgramFault → Type 0
Means text setup block_delete says = (rs : List Reading) → AreReadings text.lines rs → meaning (parsed_program text rs) setup block_delete ≡ says

is_listing : (setup : Setup) (bytes : List ℕ) (block_delete : Bool) (text : ProgramText) (commands : List Command) → program_of bytes ≡ Ok text →
    HaveReadings text.lines
    → Means text setup block_delete (Ok commands) → IsListing setup bytes block_delete (listing setup.machine.step commands)
is_listing setup bytes block_delete text commands is_text have means = record {
  commands = commands;
  meaning = record {
    text = text;
    is_text = is_text;
    readings = have.readings;
    are_readings = have.are;
    means = means have.readings have.are;
  };
  lists = refl;
}

pub write_stopped : (setup : Setup) (source : Option (List ℕ)) (block_delete : Bool) (old new : Option (List ℕ)) (text : ProgramText)
    (commands listed : List Command) (fault : WriteFault)
    → listed ≡ commands → IfSome source (λ bytes. program_of bytes ≡ Ok text) → HaveReadings text.lines → Means text setup block_delete (Ok commands)
    → AppendsPrefix old new (listing setup.machine.step listed) → IfSome source (λ bytes. Lists setup bytes block_delete old new (Err (answers.Write fault)))
write_stopped setup None block_delete old new text commands listed fault same is_text have means wrote = tt
write_stopped setup (Some bytes) block_delete old new text commands listed fault same is_text have means wrote =
    let P : List Command → Type 0 = λ l. AppendsPrefix old new (listing setup.machine.step l) in
    (listing setup.machine.step commands, is_listing setup bytes block_delete text commands is_text have means, subst P same wrote)
