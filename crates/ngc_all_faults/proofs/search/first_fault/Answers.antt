use Rattle.std.proofs.Common.{Some, ap, subst}
use Rattle.ngc_canonical.specs.Interpreter.{setup_of}
use Rattle.ngc_canonical.specs.Meaning.{Fails, meaning, parsed_program}
use Rattle.ngc_canonical.specs.declared.fault.ProgramFault.{ProgramFault}
use Rattle.ngc_line_reader.specs.ProgramView.{text_in}
use Rattle.ngc_all_faults.proofs.Texts.{is_text}
use Rattle.ngc_all_faults.proofs.search.first_fault.Goals as goal

pub returns-in-Ok-interpret : goal.returns-in-Ok-interpret
returns-in-Ok-interpret g c =
    let have = c.in-Ok.ensures.readings in (
      c.in-Ok-interpret._commands.items,
      record {
        text = text_in c.in-Ok.program;
        is_text = is_text _ c.args.text.now (text_in c.in-Ok.program) (ap (λ s. Some s.now) c.new-source.ensures.inner) c.in-Ok.ensures.text;
        readings = have.readings;
        are_readings = have.are;
        means = c.in-Ok-interpret.ensures.commands have.readings have.are;
      },
    )

pub returns-in-Err-At : goal.returns-in-Err-At
returns-in-Err-At g c =
    let have = c.in-Ok.ensures.readings in record {
      text = text_in c.in-Ok.program;
      is_text = is_text _ c.args.text.now (text_in c.in-Ok.program) (ap (λ s. Some s.now) c.new-source.ensures.inner) c.in-Ok.ensures.text;
      readings = have.readings;
      are_readings = have.are;
      means =
          subst (λ (e : ProgramFault). Fails e (meaning (parsed_program (text_in c.in-Ok.program) have.readings)
          (setup_of c.args.machine.now c.args.tools.now) c.args.block_delete)) c.in-Err-At.field-0-is
          (c.in-Err-At.ensures.commands have.readings have.are);
    }
