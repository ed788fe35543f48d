use Rattle.std.proofs.Common.{◌≡◌, to_z, of_z, w64}
use Rattle.std.proofs.lemmas.Int.{to_z-of_z}
use Rattle.ngc_machine_files.proofs.Trees.{entries-more, entries-none, entries-all}
use Rattle.ngc_machine_files.proofs.tree.entries.Goals as goal

pub loop-value-preserved : goal.loop-value-preserved
loop-value-preserved g c =
    let read = rw c.in-Some.is at c.read.ensures in
    let more = entries-more (g.E.Entry.reading (to_z w64 (of_z w64 c.args.version))) c.args.values.now c.loop-value.entries.items c.loop-value.value-index c.value-item.result c.in-Some.entry
    c.loop-value-test.true c.value-item.is read c.loop-value.invariant in
    rw c.in_ok-push-in-Some.ensures.items more

pub returns-in-None : goal.returns-in-None
returns-in-None g c =
    let same : to_z w64 (of_z w64 c.args.version) ≡ c.args.version = to_z-of_z w64 c.args.version c.ranges.version in
    let read = rw c.in-None.is at c.read.ensures in
    rw same at (entries-none (g.E.Entry.reading (to_z w64 (of_z w64 c.args.version))) c.args.values.now c.loop-value.entries.items c.loop-value.value-index
    c.value-item.result c.loop-value-test.true c.value-item.is read c.loop-value.invariant)

pub returns : goal.returns
returns g c =
    let same : to_z w64 (of_z w64 c.args.version) ≡ c.args.version = to_z-of_z w64 c.args.version c.ranges.version in
    rw same at (entries-all (g.E.Entry.reading (to_z w64 (of_z w64 c.args.version))) c.args.values.now c.loop-value.entries.items c.loop-value.value-index
    c.loop-value-test.false c.loop-value.invariant)
