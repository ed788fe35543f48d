use Rattle.std.proofs.Common.{◌≡◌, drop}
use Rattle.ngc_picture_shapes.specs.Sheets.{holding_all}
use Rattle.ngc_picture_shapes.proofs.sheet.holding_all.Given as goal

abbrev pub invariant-loop-spot : goal.invariant-loop-spot
invariant-loop-spot l = holding_all l.all (drop l.spot-index l.spots) ≡ holding_all l.initial.all l.spots
