use Rattle.std.proofs.Common.{◌∙◌, subst, sym}
use Rattle.ngc_machine_files.specs.Ranges.{IsSized}
use Rattle.ngc_added_boxes.proofs.OrderedCorners.{below_from, greatest_sized, least_sized}
use Rattle.ngc_added_boxes.proofs.reading.box_of.Goals as goal

pub returns-clause-range : goal.returns-clause-range
returns-clause-range c =
    let limit = c.args.limit in
    let range = c.in-Some.ensures.range in
    record {
      system = c.requires;
      low_sized = subst (IsSized limit) (sym c.least-low.ensures) (least_sized limit c.in-Some.p c.in-Some.q range.0 range.1);
      high_sized = subst (IsSized limit) (sym c.greatest-high.ensures) (greatest_sized limit c.in-Some.p c.in-Some.q range.0 range.1);
      ordered = below_from c.least-low.result c.greatest-high.result (sym c.has_volume.ensures ∙ c.if-not-has_volume.false);
    }
