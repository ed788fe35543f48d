use Rattle.std.proofs.Common.{length, arith, ap}
use Rattle.ngc_machine_files.proofs.Ranges.{tools_in_range, entry_at}
use Rattle.ngc_machine_files.proofs.tool_contents.ToolContents.tools.Goals as goal

pub invariant_of-result : goal.invariant_of-result
invariant_of-result c =
    let same = ap length c.deref-entry-items.ensures.value in
    record { in_range = tools_in_range c.args.self.now.tools.items c.loop-entry.entry-index _ (omega arith) c.loop-entry.invariant c.requires }

pub tool-requires : goal.tool-requires
tool-requires c =
    entry_at c.args.self.now.tools.items _ c.loop-entry.entry-index _ c.deref-entry-items.ensures.value c.loop-entry-test.true c.entry-item.is c.requires
