-- Fixtures that overlap the block of material. Our own.
use Rattle.std.specs.Prelude.{ℕ, ◌+◌, ℤ, ◌+ℤ◌, ◌-ℤ◌, int_lt, List, [], ◌∷◌, ◌++◌, codes, decimal, Option, Some, None, Bool, not, ◌&&◌, if◌then◌else◌}
use Rattle.ngc_fixed_length.specs.declared.points.Point3.{Point3}
use Rattle.ngc_machine_files.specs.Machine.{MachineFile}
use Rattle.ngc_machine_files.specs.declared.machine.Fixture.{Fixture}
use Rattle.ngc_machine_files.specs.declared.machine.StockBox.{StockBox}
use Rattle.ngc_report.specs.Words.{bracketed}
use Rattle.ngc_report.specs.declared.form.Form.{Form}
use Rattle.ngc_report.specs.declared.form.Form.TheVariants.{Words, Json}
use Rattle.ngc_stock_report.specs.Placed.{origin_at}

-- along an axis, a fixture from `low` to `high`, with a margin at both ends, and a block from `from` to `to`, counted
-- from an origin, have more than an end in common; without the margin
abbrev pub is_across : ℤ → ℤ → ℤ → ℤ → ℤ → ℤ → Bool
is_across margin low high origin from to =
    int_lt (low +ℤ margin) (origin +ℤ to) && int_lt (origin +ℤ from) (high -ℤ margin)

-- so do they along each axis
abbrev pub is_inside : ℤ → Point3 → StockBox → Fixture → Bool
is_inside margin o b f =
    is_across margin f.low.x f.high.x o.x b.low.x b.high.x
    && is_across margin f.low.y f.high.y o.y b.low.y b.high.y
    && is_across margin f.low.z f.high.z o.z b.low.z b.high.z

-- the fixture, without the margin, reaches above the block's top, as a clamp does that holds the block
abbrev pub is_above : ℤ → Point3 → StockBox → Fixture → Bool
is_above margin o b f = int_lt (o.z +ℤ b.high.z) (f.high.z -ℤ margin)

-- The fixture, without the margin by which it is larger on every side, and the block overlap. Boxes that only touch
-- don't, and a clamp may be drawn down to the table, through the block's edge
unfoldable pub is_overlapping : ℤ → Point3 → StockBox → Fixture → Bool
is_overlapping margin o b f = is_inside margin o b f && not (is_above margin o b f)

-- ---- what is said

unfoldable pub number_words : ℕ → List ℕ
number_words i = codes "warning: fixture " ++ decimal i

unfoldable pub overlap_words : ℕ → Fixture → List ℕ
overlap_words i f = number_words i ++ (bracketed f.name ++ codes " and the block of material overlap.\n")

unfoldable pub overlap_fact : ℕ → List ℕ
overlap_fact i =
    codes ",\n{\"fact\":\"warning\",\"text\":\"a fixture and the block of material overlap\",\"fixture\":" ++ decimal i ++ codes "}"

abbrev pub overlap_line : Form → ℕ → Fixture → List ℕ
overlap_line Words i f = overlap_words i f
overlap_line Json i f = overlap_fact i

-- of a machine whose fixtures are larger by its margin: of the fixture with this number
abbrev pub fixture_text : Form → MachineFile → StockBox → ℕ → Fixture → List ℕ
fixture_text form m b i f =
    if is_overlapping m.margins.fixtures (origin_at m b.system) b f then overlap_line form i f else []

-- of fixtures with the numbers from i up
abbrev pub fixtures_text : Form → MachineFile → StockBox → ℕ → List Fixture → List ℕ
fixtures_text form m b i [] = []
fixtures_text form m b i (f ∷ fs) = fixture_text form m b i f ++ fixtures_text form m b (i + 1) fs

-- without a block nothing
abbrev pub overlaps_text : Form → MachineFile → Option StockBox → List ℕ
overlaps_text form m None = []
overlaps_text form m (Some b) = fixtures_text form m b 0 m.fixtures
