use Rattle.std.proofs.Common.{◌-◌, ◌≤◌, ap, arith, drop, length, subst, sym, ◌∙◌}
use Rattle.ngc_run_log.proofs.LiveSources.{kept}
use Rattle.ngc_run_log.proofs.live_source.LiveInput.keep.Goals as goal

pub returns : goal.returns
returns c =
    let i = c.self.inside in
    kept i.bytes i.start i.end c.args.count c.self.invariant.0 (omega (arith, c.self.invariant.1, c.self.ranges)) (subst (λ w. c.args.count ≤ length w) (sym c.self.view_is) c.requires)
    ∙ ap (λ w. drop (length w - c.args.count) w) c.self.view_is
