use Rattle.std.proofs.Common.{◌+◌, ◌-◌, ◌*◌, ◌^◌, ap, length, arith}
use Rattle.std.proofs.lemmas.Result.{on_ok_weaker, on_err_weaker}
use Rattle.ngc_machine_model.specs.State.{Job}
use Rattle.ngc_run_through.proofs.UntouchedEvents.{goes_both, breaks_later, few_behind, at_most_more, finished_behind}
use Rattle.ngc_run_through.proofs.through.go_on.Goals as goal

pub fill_ring-requires-clause-few : goal.fill_ring-requires-clause-few
fill_ring-requires-clause-few g c = at_most_more 0 (2 ^ 120) _ c.requires.few (omega arith)

pub keep_full-requires-clause-full : goal.keep_full-requires-clause-full
keep_full-requires-clause-full g c = λ more. omega (arith, more, c.in-Ok.ensures.goes.ring, c.requires.none_loaded, c.min-first.ensures, c.ring.ensures, ap (λ (j : Job). j.machine.ring) c.in-Ok.ensures.goes.job)

pub keep_full-requires-clause-few : goal.keep_full-requires-clause-few
keep_full-requires-clause-few g c =
    few_behind _ _ _ 0 (2 ^ 124) _ _ _ _ _ _ c.in-Ok.ensures.goes c.requires.few (omega (arith, c.requires.few_commands, c.min-first.ensures))

pub returns-in-Err-keep_full-clause-fault : goal.returns-in-Err-keep_full-clause-fault
returns-in-Err-keep_full-clause-fault g c = breaks_later _ _ _ _ _ _ _ _ _ _ c.in-Ok.ensures.goes c.in-Err-keep_full.ensures.fault

pub finish-requires-clause-all_loaded : goal.finish-requires-clause-all_loaded
finish-requires-clause-all_loaded g c =
    let first = c.in-Ok.ensures.goes in
    let more = c.in-Ok-keep_full.ensures.goes in
    λ some. omega (
      arith,
      first.ring,
      first.done,
      more.ring,
      more.done,
      c.requires.count,
      c.requires.none_loaded,
      c.requires.none_done,
      c.min-first.ensures,
      ap (λ (j : Job). length j.commands) first.job,
      ap (λ (j : Job). length j.commands) more.job,
    )

pub finish-requires-clause-few : goal.finish-requires-clause-few
finish-requires-clause-few g c =
    let before = few_behind _ _ _ 0 (2 ^ 121) _ _ _ _ _ _ c.in-Ok.ensures.goes c.requires.few (omega (arith, c.requires.few_commands, c.min-first.ensures)) in
    few_behind _ _ _ (2 ^ 121) (2 ^ 124) _ _ _ _ _ _ c.in-Ok-keep_full.ensures.goes before (omega (arith, c.requires.few_commands))

pub returns-clause-goes : goal.returns-clause-goes
returns-clause-goes g c =
    let first = c.min-first.result in
    let count = c.args.count in
    let least = c.min-first.ensures in
    let loaded = goes_both first ((count - first) * 2 ^ 103) (first + (count - first) * 2 ^ 103) first (count - first) count 0 (count - first)
    (count - first) _ _ _ _ _ _ _ _ _ c.in-Ok.ensures.goes c.in-Ok-keep_full.ensures.goes (omega arith) (omega (arith, least)) (omega arith) in
    on_ok_weaker c.finish.result
    (λ last. finished_behind _ (first * 2 ^ 103) (2 ^ 125) count 0 count (count - first) first count _ _ _ _ _ _ _ _ _ loaded last
    (omega (arith, least, c.requires.few_commands)) (omega arith) (omega (arith, least)) (λ some. omega (arith, least, some))) c.finish.ensures.goes

pub returns-clause-fault : goal.returns-clause-fault
returns-clause-fault g c =
    on_err_weaker c.finish.result
    (λ last. breaks_later _ _ _ _ _ _ _ _ _ _ c.in-Ok.ensures.goes (breaks_later _ _ _ _ _ _ _ _ _ _ c.in-Ok-keep_full.ensures.goes last))
    c.finish.ensures.fault
