use Rattle.std.proofs.Common.{◌∙◌, ap, map, sym}
use Rattle.std.specs.List.{list_all}
use Rattle.ngc_margins.proofs.KeptRanges.{kept_fixtures, kept_travel}
use Rattle.ngc_margins.specs.Margins.{fits, grown}
use Rattle.ngc_margins.proofs.demands.Demands.meet.Goals as goal

pub invariant_of-machine-clause-travel_in_range : goal.invariant_of-machine-clause-travel_in_range
invariant_of-machine-clause-travel_in_range g c =
    let m = c.args.machine in
    let margins = c.margins-margins.result in
    kept_travel m.step margins.travel m.low m.high m.start c.raised-low.result c.lowered-high.result m.travel_in_range c.margins-margins.ensures.range.travel.least
    c.raised-low.ensures c.lowered-high.ensures (sym c.is_between.ensures ∙ c.if-not-is_between.false)

pub invariant_of-machine-clause-fixtures_in_range : goal.invariant_of-machine-clause-fixtures_in_range
invariant_of-machine-clause-fixtures_in_range g c =
    let own = c.args.machine.fixtures.items in
    let margin = c.margins-margins.result.fixtures in
    kept_fixtures margin own c.grow.new.fixtures.items c.args.machine.fixtures_in_range c.margins-margins.ensures.range.fixtures.least c.grow.ensures
    (sym (c.all_fit.ensures ∙ ap (λ fs. list_all fits (map (grown margin) fs)) c.as_slice.ensures.value) ∙ c.if-not-all_fit.false)
