-- The origins are those of the texts so far.
use Rattle.std.proofs.Common.{◌≡◌, map, take, Ok}
use Rattle.ngc_origins.specs.Texts.{parsed_origins}
use Rattle.ngc_origins.proofs.reading.read_origins.Given as goal

abbrev pub invariant-loop-text : goal.invariant-loop-text
invariant-loop-text l = parsed_origins (map (λ t. t.now) (take l.text-index l.list)) ≡ Ok l.origins
