use Rattle.std.proofs.Common.{◌≡◌, drop, flat_map}
use Rattle.std.specs.Prelude.{fold}
use Rattle.ngc_collision.specs.Inside.{solid_of}
use Rattle.ngc_machine_files.specs.Machine.{file_of}
use Rattle.ngc_findings.specs.Nearing.{nearer, distances}
use Rattle.ngc_findings.proofs.nearest.nearest_around.Given as goal

abbrev pub invariant-loop-solid : goal.invariant-loop-solid
invariant-loop-solid g l =
    fold nearer l.nearest (flat_map (λ s. distances 0 (file_of l.machine).fixtures (solid_of s)) (drop l.solid-index l.solid-items))
    ≡ fold nearer l.initial.nearest (flat_map (λ s. distances 0 (file_of l.machine).fixtures (solid_of s)) l.solid-items)
