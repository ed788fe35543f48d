use Rattle.std.proofs.Common.{◌≡◌, ◌≤◌, length}
use Rattle.ngc_saved_text.specs.Saved.{IsMoved}
use Rattle.ngc_saved_text.proofs.returns.move_to_front.Given as goal

abbrev pub invariant-loop-place : goal.invariant-loop-place
invariant-loop-place l =
    (l.count ≤ l.place) × (length l.bytes ≡ length l.initial.bytes) × (l.place-end ≡ length l.bytes) × (l.place ≤ l.place-end)
    × IsMoved l.initial.bytes l.bytes l.count l.place
