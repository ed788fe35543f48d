-- What is said of the remaining fixtures, after what is said of one.
use Rattle.std.proofs.Common.{◌≡◌, ℕ, ◌+◌, ◌<◌, List, ◌++◌, length, get_or, drop, ap, sym, ◌∙◌}
use Rattle.std.proofs.lemmas.List.{drop_more}
use Rattle.ngc_machine_files.specs.Machine.{MachineFile}
use Rattle.ngc_machine_files.specs.declared.machine.Fixture.{Fixture}
use Rattle.ngc_machine_files.specs.declared.machine.StockBox.{StockBox}
use Rattle.ngc_report.specs.declared.form.Form.{Form}
use Rattle.ngc_stock_report.specs.Overlaps.{fixture_text, fixtures_text}

pub next_fixture : (form : Form) (m : MachineFile) (b : StockBox) (fs : List Fixture) (i : ℕ) (f : Fixture) → i < length fs → f ≡ get_or fs i f
    → fixtures_text form m b i (drop i fs) ≡ fixture_text form m b i f ++ fixtures_text form m b (i + 1) (drop (i + 1) fs)
next_fixture form m b fs i f inside found =
    ap (fixtures_text form m b i) (drop_more fs i f inside)
    ∙ ap (λ (x : Fixture). fixture_text form m b i x ++ fixtures_text form m b (i + 1) (drop (i + 1) fs)) (sym found)
