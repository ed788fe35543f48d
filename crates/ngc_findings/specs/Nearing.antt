-- The distances between the bodies of tools and fixtures. Our own.
use Rattle.std.specs.Prelude.{ℕ, ◌+◌, nat_lt, int_lt, List, [], ◌∷◌, fold, flat_map, Option, Some}
use Rattle.std.specs.Prelude.{None, Bool, ◌&&◌, ◌||◌, if◌then◌else◌, option_map, slice_get}
use Rattle.std.specs.Ordering.{int_eq}
use Rattle.ngc_fixed_length.specs.declared.points.GridBox.{GridBox}
use Rattle.ngc_machine_files.specs.Machine.{MachineFile}
use Rattle.ngc_machine_files.specs.Names.{name_from}
use Rattle.ngc_machine_files.specs.declared.machine.Fixture.{Fixture}
use Rattle.ngc_machine_files.specs.declared.tools.Tool.{Tool}
use Rattle.ngc_certificate_text.specs.Certificate.{Entry}
use Rattle.ngc_certificate_text.specs.declared.piece.Piece.{Piece}
use Rattle.ngc_collision.specs.Body.{Solid, bodies, span}
use Rattle.ngc_findings.specs.Gaps.{gap}
use Rattle.ngc_findings.specs.declared.nearest.Nearest.{Nearest}

-- of two at the same distance, the one with the lower number is nearer
abbrev pub is_nearer : Nearest → Nearest → Bool
is_nearer m n =
    int_lt m.distance n.distance || (int_eq m.distance n.distance && nat_lt m.fixture n.fixture)

abbrev pub nearer : Option Nearest → Nearest → Option Nearest
nearer None n = Some n
nearer (Some m) n = if is_nearer n m then Some n else Some m

-- the distances of a box from fixtures, numbered from i
abbrev pub distances : ℕ → List Fixture → Solid → List Nearest
distances i [] b = []
distances i (f ∷ fs) b = record { fixture = i; distance = gap f b } ∷ distances (i + 1) fs b

-- the distances of the parts of a tool, over a box of positions, over pieces, and over motions
abbrev pub around : MachineFile → Option Tool → GridBox → List Nearest
around machine tool b = flat_map (distances 0 machine.fixtures) (bodies tool (span machine.step b))

abbrev pub over_pieces : MachineFile → Option Tool → List Piece → List Nearest
over_pieces machine tool pieces = flat_map (λ p. around machine tool p.bounds) pieces

abbrev pub over_motion : MachineFile → Option Tool → Entry → List Nearest
over_motion machine tool e = over_pieces machine tool e.pieces

-- the nearest of all
abbrev pub nearest : MachineFile → Option Tool → List Entry → Option Nearest
nearest machine tool motions = fold nearer None (flat_map (over_motion machine tool) motions)

-- the name of a fixture by its number, empty if it has none
abbrev pub fixture_name : MachineFile → ℕ → List ℕ
fixture_name machine i = name_from (option_map (λ f. f.name) (slice_get machine.fixtures i))

abbrev pub nearest_name : MachineFile → Option Nearest → List ℕ
nearest_name machine None = []
nearest_name machine (Some n) = fixture_name machine n.fixture
