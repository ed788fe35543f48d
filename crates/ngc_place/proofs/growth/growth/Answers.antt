use Rattle.std.proofs.Common.{ℕ, ◌+◌, arith, ◌∙◌, drop, true, false}
use Rattle.std.specs.Prelude.{Bool}
use Rattle.ngc_machine_files.specs.Machine.{file_of}
use Rattle.ngc_place.specs.Inside.{steps_left}
use Rattle.ngc_place.specs.Growth.{holds_after, all_after}
use Rattle.ngc_place.proofs.GrowthTests.{holds_sooner, fewer_same, fewer_full, all_first, all_passed, all_unmet, growth_is}
use Rattle.ngc_place.proofs.growth.growth.Goals as goal

pub returns-in-None : goal.returns-in-None
returns-in-None g c =
    let machine = file_of c.args.machine.now in
    all_unmet machine c.args.cuts c.args.growing.now c.args.programs.now
    (c.loop-program.invariant.same 0 (omega arith)
    ∙ all_first machine c.args.cuts c.args.growing.now c.args.programs.now c.loop-program.program-index 0 c.program-item.result false c.loop-program-test.true
    c.program-item.is c.in-None.ensures)

pub loop-program-preserved : goal.loop-program-preserved
loop-program-preserved g c =
    let machine = file_of c.args.machine.now in
    let i = c.loop-program.program-index in
    let p = c.program-item.result in
    let whole : ℕ → Bool = λ n. all_after machine c.args.cuts c.args.growing.now c.args.programs.now n in
    let rest : ℕ → Bool = λ n. all_after machine c.args.cuts c.args.growing.now (drop i c.args.programs.now) n in
    let next : ℕ → Bool = λ n. all_after machine c.args.cuts c.args.growing.now (drop (i + 1) c.args.programs.now) n in
    let part : ℕ → Bool = λ n. holds_after machine c.args.cuts c.args.growing.now p n in
    let inv = c.loop-program.invariant in
    let last = c.in-Some.ensures in
    record {
      within = omega (arith, inv.within, last.within);
      same = fewer_same whole rest next part c.loop-program.steps c.in-Some.fewer
          (λ n m h. holds_sooner machine c.args.cuts c.args.growing.now p n m c.args.machine.now.step_in_range c.requires (omega (arith, c.ranges.cuts.fits)) h)
          inv.same
          (λ n h. all_first machine c.args.cuts c.args.growing.now c.args.programs.now i n p true c.loop-program-test.true c.program-item.is h) last;
      full = fewer_full whole rest part (steps_left c.args.growing.now.side c.args.growing.now.interval) c.loop-program.steps c.in-Some.fewer inv.same
          (λ n h. all_first machine c.args.cuts c.args.growing.now c.args.programs.now i n p false c.loop-program-test.true c.program-item.is h) inv.full last;
    }

pub returns : goal.returns
returns g c =
    let machine = file_of c.args.machine.now in
    let inv = c.loop-program.invariant in
    growth_is machine c.args.cuts c.args.growing.now c.args.programs.now c.loop-program.steps c.args.growing.now.limit (record {
      within = inv.within;
      passes = inv.same c.loop-program.steps (omega arith)
          ∙ all_passed machine c.args.cuts c.args.growing.now c.args.programs.now c.loop-program.program-index c.loop-program.steps
          (omega (arith, c.loop-program-test.false));
      full = inv.full;
    })
