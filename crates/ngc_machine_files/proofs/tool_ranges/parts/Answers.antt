use Rattle.std.proofs.Common.{◌∙◌}
use Rattle.ngc_machine_files.specs.ToolText.{part_of}
use Rattle.ngc_machine_files.proofs.PartLists.{mapped-rest}
use Rattle.ngc_machine_files.proofs.tool_ranges.parts.Goals as goal

pub returns : goal.returns
returns c =
    let made = rw (c.one-parts.ensures, c.part.ensures) at c.loop-entry.invariant in
    made ∙ mapped-rest part_of c.args.entries.now _ c.loop-entry.entry-index c.requires.least c.loop-entry-test.false
