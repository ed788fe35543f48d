use Rattle.std.proofs.Common.{ap₂, refl, sym, List, ◌∙◌}
use Rattle.ngc_all_faults.specs.declared.text_fault.TextFault.{TextFault}
use Rattle.ngc_program_report.specs.FaultTexts.{faults_text}
use Rattle.ngc_program_report.proofs.WrittenLaws.{begins_as}
use Rattle.ngc_simulator.specs.AllFaults.{first_among}
use Rattle.ngc_simulator.proofs.faults_files.print_failure.Goals as goal

pub returns-clause-told : goal.returns-clause-told
returns-clause-told g c =
    let first = c.in-Some.first.1 in
    let off = c.in-Ok.off.items in
    let on = c.in-Ok-faults_of.on.items in record {
      setting = c.in-Some.first.0;
      first = first;
      text = faults_text c.args.form c.args.text.now first off on;
      is_report = record {
        off = off;
        off_are = c.in-Ok.ensures;
        on = on;
        on_are = c.in-Ok-faults_of.ensures;
        is_first = ap₂ first_among (sym c.as_slice.ensures.value) (sym c.as_slice-2.ensures.value) ∙ sym c.first_among.ensures ∙ c.in-Some.is;
        tells = refl;
      };
      wrote =
          begins_as _ _ _ _
          (ap₂ (λ (a b : List TextFault). faults_text c.args.form c.args.text.now first a b) c.as_slice-3.ensures.value c.as_slice-4.ensures.value)
          c.in-Err.ensures.fault;
    }
