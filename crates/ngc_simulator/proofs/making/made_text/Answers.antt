use Rattle.std.proofs.Common.{◌≡◌, ◌++◌, ◌∙◌, [], List, ℕ, Option, IsOk, Ok, ap, rules, subst, sym}
use Rattle.ngc_file_figures.specs.declared.figures.MachineFigures.{MachineFigures}
use Rattle.ngc_written_machines.specs.Written.{any_figures}
use Rattle.ngc_simulator.specs.Making.{keys_text}
use Rattle.ngc_machine_files.specs.Machine.{file_of}
use Rattle.ngc_written_machines.specs.Reading.{any_machine}
use Rattle.ngc_setup_sheet.specs.Sheets.{warning_remarks}
use Rattle.ngc_simulator.proofs.making.made_text.Goals as goal

pub returns : goal.returns
returns c =
    let machine = file_of c.in_ok-machine.machine.machine in
    let said = c.as_slice.ensures.value ∙ c.in_ok-keys.ensures.text in
    let whole = subst (λ (t : List ℕ). any_machine t ≡ Ok (file_of c.in_ok-_read._read.machine)) c.as_slice-2.ensures.value c.in_ok-_read.ensures.machine in
    let figures = c.in_ok-machine.ensures.figures ∙ ap any_figures said in
    record {
      made = record {
        machine = machine;
        says = subst (λ (t : List ℕ). any_machine t ≡ Ok machine) said c.in_ok-machine.ensures.machine;
        is_text = subst (λ (t : List ℕ). c.in_ok-text.text.items ≡ t ++ warning_remarks machine
            (record { machine = any_figures (keys_text c.args.rates c.args.numbers.now c.args.figures.now); tools = [] }) []) c.in_ok-keys.ensures.text
            (subst (λ (f : Option MachineFigures). c.in_ok-text.text.items ≡ c.in_ok-keys.keys.items ++ warning_remarks machine (record { machine = f; tools = [] }) [])
            figures c.in_ok-text.ensures.text);
        is_file = subst IsOk (sym whole) (search rules);
      };
    }
