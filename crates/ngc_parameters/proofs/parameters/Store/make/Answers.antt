use Rattle.std.proofs.Common.{◌∙◌}
use Rattle.ngc_parameters.specs.Stored.{parameters_of}
use Rattle.ngc_parameters.proofs.StoredSteps.{change_made}
use Rattle.ngc_parameters.proofs.parameters.Store.make.Goals as goal

pub loop-change-preserved : goal.loop-change-preserved
loop-change-preserved g c = record {
  values = λ k. change_made c.as_slice-change-items.result.now c.loop-change.change-index c.change-item.result (parameters_of c.loop-change.self)
      (parameters_of c.change.new.self) k c.loop-change-test.true c.change-item.is (c.change.ensures k) ∙ c.loop-change.invariant.values k;
}
