use Rattle.std.proofs.Common.{ap}
use Rattle.ngc_machine_files.specs.Machine.{file_of}
use Rattle.ngc_simulator.specs.Placing.{placement_text}
use Rattle.ngc_simulator.proofs.placing.place_job.Goals as goal

pub returns-in-Err-write_placement-clause-places : goal.returns-in-Err-write_placement-clause-places
returns-in-Err-write_placement-clause-places g c = λ does is.
    let request = c.args.request in
    let placement = c.in-Ok-find_placement.placement in (
      placement_text request.form (file_of c.machine.result.now) request.system placement,
      record {
        here = c.in-Ok.here;
        is_here = c.in-Ok.ensures;
        placement = placement;
        is_placement = c.in-Ok-find_placement.ensures does is;
        tells = ap (λ m. placement_text request.form m request.system placement) c.machine.ensures.value;
      },
      c.in-Err-write_placement.ensures.fault,
    )
