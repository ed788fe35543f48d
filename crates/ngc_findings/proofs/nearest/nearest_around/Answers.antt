use Rattle.std.proofs.Common.{◌≡◌, ◌∙◌, sym, ap, List, flat_map}
use Rattle.std.specs.Prelude.{fold, map}
use Rattle.ngc_collision.specs.Body as bodies
use Rattle.ngc_collision.specs.Inside.{solid_of}
use Rattle.ngc_collision.specs.declared.solid.Solid.{Solid}
use Rattle.ngc_findings.specs.Nearing.{nearer, distances}
use Rattle.ngc_findings.proofs.Folds.{none_left, flat_mapped}
use Rattle.ngc_findings.proofs.nearest.nearest_around.Goals as goal

pub returns : goal.returns
returns g c =
    let fs = c.args.machine.now.fixtures.items in
    let items : List Solid = c.as_slice-solid-items.result.now in
    let swept : map solid_of items ≡ bodies.bodies c.args.tool (bodies.span c.args.machine.now.step c.args.bounds.now) =
    ap (map solid_of) c.as_slice-solid-items.ensures.value ∙ sym c.swept-parts.ensures in
    sym (none_left (λ (s : Solid). distances 0 fs (solid_of s)) c.loop-solid.nearest items c.loop-solid.solid-index c.loop-solid-test.false)
    ∙ c.loop-solid.invariant ∙ ap (fold nearer c.args.best) (sym (flat_mapped (distances 0 fs) solid_of items) ∙ ap (flat_map (distances 0 fs)) swept)
