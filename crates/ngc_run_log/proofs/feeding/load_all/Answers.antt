use Rattle.std.proofs.Common.{◌≡◌, length, ◌^◌, ◌+◌, ap, arith, refl, rules}
use Rattle.ngc_controller.specs.Controller.{ControllerData}
use Rattle.ngc_run_log.proofs.FeedingLaws.{few_loaded, full_now, load_cut, load_more, loaded_still, none_loaded_yet, ring_full_now, ring_longer}
use Rattle.ngc_run_log.proofs.feeding.load_all.Goals as goal

pub loop-load-init : goal.loop-load-init
loop-load-init g c = record { job = refl; loaded = none_loaded_yet _ _ _ _; ring = omega arith; failures = refl }

pub add-requires : goal.add-requires
add-requires g c = few_loaded _ _ _ _ _ _ _ _ (2 ^ 112) (2 ^ 126) c.loop-load.invariant.loaded c.requires (omega arith)

pub returns-in-Err-clause-loads : goal.returns-in-Err-clause-loads
returns-in-Err-clause-loads g c = (
  _,
  loaded_still _ _ _ _ _ _ _ _ _ (ap (λ (d : ControllerData). d.state) c.in-Err.ensures.refused) c.loop-load.invariant.loaded,
)

pub returns-in-Err-clause-full : goal.returns-in-Err-clause-full
returns-in-Err-clause-full g c =
    full_now _ _ _ _ _ c.loop-load.invariant.job (ap (λ (d : ControllerData). d.state) c.in-Err.ensures.refused) c.in-Err.ensures.step

pub returns-in-Err-add-clause-cut : goal.returns-in-Err-add-clause-cut
returns-in-Err-add-clause-cut g c =
    load_cut _ _ _ _ _ _ _ _ _ _ _ _ c.loop-load.invariant.job c.loop-load.invariant.loaded c.in-Ok.ensures.step c.in-Ok.ensures.goes_on
    (rw c.in-Ok.is at c.in-Err-add.ensures.fault)

pub loop-load-preserved : goal.loop-load-preserved
loop-load-preserved g c =
    let longer : length c.event-outcome.new.self.state.ring ≡ length c.loop-load.controller.state.ring + 1 = ring_longer c.loop-load.controller.job c.loop-load.controller.state c.event-outcome.new.self.state c.in-Ok.field-0 c.in-Ok.ensures.step in
    record {
      job = search rules;
      loaded =
          load_more _ _ _ _ _ _ _ _ _ _ _ _ _ c.loop-load.invariant.job c.loop-load.invariant.loaded c.in-Ok.ensures.step c.in-Ok.ensures.goes_on
          (rw c.in-Ok.is at c.in-Ok-add.ensures.records) (omega (arith, c.loop-load-test.true, c.ring-load-end.ensures.greatest));
      ring = omega (arith, c.loop-load.invariant.ring, longer);
      failures = search rules;
    }

pub returns-clause-loads : goal.returns-clause-loads
returns-clause-loads g c = (_, c.loop-load.invariant.loaded)

pub returns-clause-full : goal.returns-clause-full
returns-clause-full g c =
    ring_full_now c.args.controller.now.job c.args.controller.now.job c.loop-load.controller.state c.ring-load-end.result c.loop-load._load refl
    c.ring-load-end.ensures.value c.loop-load-test.false c.loop-load.invariant.ring
