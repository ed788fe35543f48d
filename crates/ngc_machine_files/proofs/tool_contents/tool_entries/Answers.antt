use Rattle.std.proofs.Common.{◌≡◌, to_z, of_z, w64, map}
use Rattle.std.proofs.lemmas.Int.{to_z-of_z}
use Rattle.std.proofs.lemmas.List.{map-append}
use Rattle.ngc_machine_files.specs.ToolText.{numbers_of, tool_numbers}
use Rattle.ngc_machine_files.proofs.Trees.{entries-more, entries-none, entries-all}
use Rattle.ngc_machine_files.proofs.tool_contents.tool_entries.Goals as goal

pub loop-value-preserved : goal.loop-value-preserved
loop-value-preserved c =
    let read = rw c.in-Some.is at c.in_ok-entry.ensures in
    let more = entries-more (tool_numbers (to_z w64 (of_z w64 c.args.version))) c.args.values.now
    (map numbers_of c.loop-value.entries.items) c.loop-value.value-index c.value-item.result
    (numbers_of c.in-Some.entry) c.loop-value-test.true c.value-item.is read c.loop-value.invariant in
    rw (c.in_ok-push-in-Some.ensures.items, map-append) more

pub returns-in-None : goal.returns-in-None
returns-in-None c =
    let same : to_z w64 (of_z w64 c.args.version) ≡ c.args.version = to_z-of_z w64 c.args.version c.ranges.version in
    let read = rw c.in-None.is at c.in_ok-entry.ensures in
    rw same at (entries-none (tool_numbers (to_z w64 (of_z w64 c.args.version))) c.args.values.now
    (map numbers_of c.loop-value.entries.items) c.loop-value.value-index c.value-item.result c.loop-value-test.true c.value-item.is read
    c.loop-value.invariant)

pub returns : goal.returns
returns c =
    let same : to_z w64 (of_z w64 c.args.version) ≡ c.args.version = to_z-of_z w64 c.args.version c.ranges.version in
    rw same at (entries-all (tool_numbers (to_z w64 (of_z w64 c.args.version))) c.args.values.now
    (map numbers_of c.loop-value.entries.items) c.loop-value.value-index c.loop-value-test.false c.loop-value.invariant)
