-- The fixtures so far fit, so that the answer is that for the others.
use Rattle.std.proofs.Common.{◌≡◌, map, drop}
use Rattle.std.specs.List.{list_all}
use Rattle.ngc_added_boxes.specs.Placing as spec
use Rattle.ngc_added_boxes.proofs.placing.each_fits.Given as goal

abbrev pub invariant-loop-one : goal.invariant-loop-one
invariant-loop-one l =
    list_all spec.fits (map (spec.in_machine l.origins) l.added) ≡ list_all spec.fits (map (spec.in_machine l.origins) (drop l.one-index l.added))
