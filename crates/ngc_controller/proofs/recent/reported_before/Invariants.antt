use Rattle.std.proofs.Common.{◌≡◌, ◌-◌, length, take}
use Rattle.ngc_controller.specs.Controller.{from_the_last}
use Rattle.ngc_controller.specs.Recent.{replies}
use Rattle.ngc_controller.proofs.recent.reported_before.Given as goal

abbrev pub invariant-loop-place : goal.invariant-loop-place
invariant-loop-place g l = from_the_last l.index (replies l.told.items) ≡ from_the_last l.left (replies (take (length l.told.items - l.place) l.told.items))
