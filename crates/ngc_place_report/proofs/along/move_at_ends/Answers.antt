use Rattle.std.proofs.Common.{◌≡◌, ◌≤◌, ◌∙◌, arith, ap, ℤ, unsigned_abs, to_z, of_z, w32}
use Rattle.std.proofs.lemmas.Int.{ints}
use Rattle.ngc_place.specs.Shifts.{along}
use Rattle.ngc_place_report.proofs.FoundLaws.{at_both, not_at_low}
use Rattle.ngc_place_report.proofs.along.move_at_ends.Goals as goal

kept : (v : ℤ) → unsigned_abs v ≤ 4000000 → to_z w32 (of_z w32 v) ≡ v
kept v bound = omega (arith, ints, bound)

pub returns-then-not-at_low : goal.returns-then-not-at_low
returns-then-not-at_low g c = λ does are.
    not_at_low does c.args.job.now c.args.system c.args.axis c.args.programs.off c.args.programs.on
    c.args.interval c.shift-low.result (c.shift-low.ensures.value ∙ ap (along c.args.axis) (kept c.args.interval.from c.requires.from))
    (c.in_ok-at_low.ensures.no does are c.if-not-at_low.true)

pub returns : goal.returns
returns g c = λ does are.
    at_both does c.args.job.now c.args.system c.args.axis c.args.programs.off c.args.programs.on
    c.args.interval c.shift-low.result (c.shift-low.ensures.value ∙ ap (along c.args.axis) (kept c.args.interval.from c.requires.from))
    c.shift-high.result c.move_at-2.result (c.shift-high.ensures.value ∙ ap (along c.args.axis) (kept c.args.interval.to c.requires.to))
    (c.in_ok-at_low.ensures.yes does are c.if-not-at_low.false) (c.move_at-2.ensures.yes does are) (c.move_at-2.ensures.no does are)
