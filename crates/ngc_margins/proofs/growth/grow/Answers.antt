use Rattle.std.proofs.Common.{◌∙◌, ap, arith, set}
use Rattle.std.proofs.lemmas.List.{length-set}
use Rattle.std.proofs.lemmas.List.Edits.{map_over_more}
use Rattle.ngc_machine_files.specs.Ranges.{IsFixture}
use Rattle.ngc_machine_files.specs.declared.machine.Fixture.{Fixture}
use Rattle.ngc_margins.specs.Margins as spec
use Rattle.ngc_margins.proofs.GrownFixtures.{after_index}
use Rattle.ngc_margins.proofs.growth.grow.Goals as goal

pub loop-i-preserved : goal.loop-i-preserved
loop-i-preserved g c =
    let own = c.args.fixtures.now.items in
    let so_far = c.loop-i.fixtures.items in
    let here = c.index.result.now in
    record {
      made = ap (λ (f : Fixture). set so_far c.loop-i.i f) c.grown.ensures
          ∙ map_over_more (spec.grown c.args.margin) own so_far c.loop-i.i here (omega (arith, c.loop-i-test.true, c.len-i-end.ensures)) c.loop-i.invariant.made
          c.index.ensures;
      as_long = length-set so_far c.loop-i.i c.grown.result ∙ c.loop-i.invariant.as_long;
      left = after_index IsFixture so_far c.loop-i.i here c.grown.result (omega (arith, c.loop-i-test.true, c.len-i-end.ensures, c.loop-i.invariant.as_long))
          c.loop-i.invariant.left;
    }
