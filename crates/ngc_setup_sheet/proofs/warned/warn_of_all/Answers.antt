use Rattle.std.proofs.Common.{ap}
use Rattle.ngc_machine_files.specs.Machine.{file_of}
use Rattle.ngc_sentences.proofs.Said.{then, says_as}
use Rattle.ngc_setup_sheet.specs.Reaches.{reach_of}
use Rattle.ngc_setup_sheet.specs.Sheets.{machine_lines, fixtures_from, table_lines}
use Rattle.ngc_setup_sheet.specs.Spelling.{lines_text}
use Rattle.ngc_setup_sheet.specs.Writes.{chosen}
use Rattle.ngc_setup_sheet.proofs.WarningsAlone.{three_chosen}
use Rattle.ngc_setup_sheet.proofs.warned.warn_of_all.Goals as goal

pub returns : goal.returns
returns g c =
    let m = file_of c.args.machine.now in
    let ts = c.args.tools.now in
    let reach = c.of-reach.ensures.value in
    says_as (then (then (rw (c.as_slice.ensures.value, c.machine_lines-lines.ensures, reach) at c.say_warning_lines.ensures)
    (says_as c.warn_of_fixtures.ensures (ap (λ r. lines_text (chosen c.args.style (fixtures_from m c.args.figures.now.machine r 0 m.fixtures))) reach))) c.warn_of_table.ensures)
    (three_chosen c.args.style (machine_lines m c.args.figures.now.machine (reach_of ts)) (fixtures_from m c.args.figures.now.machine (reach_of ts) 0 m.fixtures) (table_lines c.args.figures.now.tools.now ts))
