-- The fixtures are those of the texts so far.
use Rattle.std.proofs.Common.{◌≡◌, map, take, Ok}
use Rattle.ngc_added_boxes.specs.Texts.{parsed_fixtures}
use Rattle.ngc_added_boxes.proofs.reading.read_fixtures.Given as goal

abbrev pub invariant-loop-text : goal.invariant-loop-text
invariant-loop-text l = parsed_fixtures (map (λ t. t.now) (take l.text-index l.list)) ≡ Ok l.boxes
