use Rattle.std.proofs.Common.{◌≡◌, drop, map}
use Rattle.std.specs.List.{list_all}
use Rattle.ngc_collision.specs.Body.{are_apart}
use Rattle.ngc_collision.specs.Inside.{solid_of}
use Rattle.ngc_collision.proofs.solid.are_apart.Given as goal

abbrev pub invariant-loop-solid : goal.invariant-loop-solid
invariant-loop-solid l =
    list_all (are_apart l.fixture) (map solid_of l.solids) ≡ list_all (are_apart l.fixture) (map solid_of (drop l.solid-index l.solids))
