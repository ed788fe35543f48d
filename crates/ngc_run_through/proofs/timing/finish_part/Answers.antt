use Rattle.std.proofs.Common.{◌-◌, ◌*◌, ◌^◌, ap, length, min, arith}
use Rattle.ngc_machine_model.specs.State.{Job}
use Rattle.ngc_run_through.proofs.OwnRunParts.{told_behind}
use Rattle.ngc_run_through.proofs.UntouchedEvents.{few_behind, goes_both}
use Rattle.ngc_run_through.proofs.timing.finish_part.Goals as goal

pub keep_full-requires-clause-full : goal.keep_full-requires-clause-full
keep_full-requires-clause-full g c = λ more. c.requires.full (omega (arith, more, c.min-loads.ensures))

pub finish-requires-clause-all_loaded : goal.finish-requires-clause-all_loaded
finish-requires-clause-all_loaded g c =
    let first = c.in-Ok.ensures.goes in
    let lengths = ap (λ (j : Job). length j.commands) first.job in
    λ some. omega (arith, some, first.ring, first.done, c.requires.left, c.min-loads.ensures, lengths)

pub finish-requires-clause-few : goal.finish-requires-clause-few
finish-requires-clause-few g c =
    few_behind _ _ _ (2 ^ 123) (2 ^ 124) _ _ _ _ _ _ c.in-Ok.ensures.goes c.requires.few (omega (arith, c.requires.few_commands, c.min-loads.ensures))

pub returns-clause-goes : goal.returns-clause-goes
returns-clause-goes g c =
    let loads = c.min-loads.result in
    let least = c.min-loads.ensures in
    let count = c.args.count in
    let first = c.in-Ok.ensures.goes in
    let last = c.in-Ok-finish.ensures.goes in
    record {
      goes = goes_both (loads * 2 ^ 103) ((count - loads) * 2 ^ 103) (count * 2 ^ 103) loads 0 (min count c.args.unloaded) loads
          (count - loads) count _ _ _ _ _ _ _ _ _ first last.goes
          (omega (arith, least)) (omega (arith, least)) (omega (arith, least));
      told = λ some. told_behind _ _ _ first.outcomes last.goes.outcomes first.job (last.told (omega (arith, least, some)));
    }
