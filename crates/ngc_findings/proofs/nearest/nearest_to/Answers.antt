use Rattle.std.proofs.Common.{◌≡◌, ◌∙◌, arith, to_z, of_z}
use Rattle.std.specs.Int.{w128}
use Rattle.std.proofs.lemmas.Int.{ints}
use Rattle.ngc_collision.specs.Inside.{solid_of}
use Rattle.ngc_findings.proofs.Folds.{next_fixture}
use Rattle.ngc_findings.proofs.nearest.nearest_to.Goals as goal

pub loop-i-preserved : goal.loop-i-preserved
loop-i-preserved g c =
    let d : to_z w128 (of_z w128 c.gap.result) ≡ c.gap.result = omega (arith, ints) in
    let inside = rw c.deref-fixture-items.ensures.value at c.loop-i-test.true in
    rw (c.nearer-nearest.ensures, d, c.gap.ensures.value)
    (next_fixture c.loop-i.nearest c.args.machine.now.fixtures.items (solid_of c.args.solid.now) c.loop-i.i c.fixture-item.result inside
    (rw c.deref-fixture-items.ensures.value at c.fixture-item.is) ∙ c.loop-i.invariant)
