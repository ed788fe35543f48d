use Rattle.std.proofs.Common.{flat_map, sym}
use Rattle.ngc_sentences.proofs.Said.{then, says_as}
use Rattle.ngc_setup_sheet.specs.Sheets.{tool_lines, warned}
use Rattle.ngc_setup_sheet.specs.declared.line.Warning.TheVariants as warnings
use Rattle.ngc_setup_sheet.proofs.WarningsAlone.{both_chosen}
use Rattle.ngc_setup_sheet.proofs.warned.warn_of_table.Goals as goal

pub returns : goal.returns
returns g c =
    let unset = c.are_unset-unset.result in
    rw (← c.are_unset-unset.ensures)
    (says_as (then c.warn_of_tools.ensures (rw (c.as_slice.ensures.value, c.lines_after_tools-lines.ensures) at c.say_warning_lines.ensures))
    (sym (both_chosen c.args.style (flat_map (tool_lines unset c.args.table.now) c.args.tools.now) (warned unset warnings.Unset))))
