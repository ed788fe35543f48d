-- Range tests, and the facts that they prove.
use Rattle.std.proofs.Common.{◌≡◌, ◌≤◌, ◌∙◌, ℕ, List, [], ◌∷◌, map, length, take, get_or, ◌<◌, arith, refl, ap, sym}
use Rattle.std.proofs.Math.Path.{subst}
use Rattle.std.specs.List.{All}
use Rattle.std.proofs.lemmas.Int.{ints}
use Rattle.std.proofs.lemmas.List.{length-map, take_all, get_or-map}
use Rattle.std.proofs.lemmas.List.Elements.{All-map, All-weaker, All-same, All-get_or}
use Rattle.ngc_fixed_length.specs.declared.points.Point3.{Point3}
use Rattle.ngc_machine_files.specs.Ranges.{PLACE_LIMIT, IsSized, AreFixtures, AreTools, IsFixture, IsPart, AreParts, IsTool}
use Rattle.ngc_machine_files.specs.MachineText.{place_of, fixture_of}
use Rattle.ngc_machine_files.specs.ToolText.{ToolNumbers, IsPartEntry, ArePartEntries, AreEntries, IsEntry, numbers_of, part_of, tool_of, tool_number}
use Rattle.ngc_machine_files.specs.declared.machine.Fixture.{Fixture}
use Rattle.ngc_machine_files.specs.declared.tools.Tool.{Tool}
use Rattle.ngc_machine_files.specs.declared.machine_contents.Coordinates.{Coordinates}
use Rattle.ngc_machine_files.specs.declared.machine_contents.Corners.{Corners}
use Rattle.ngc_machine_files.specs.declared.tool_contents.PartEntry.{PartEntry}
use Rattle.ngc_machine_files.specs.declared.tool_contents.ToolEntry.{ToolEntry}

pub origins_in_range : (points : List Coordinates) (places : List Point3) → places ≡ map place_of points → All (λ p. IsSized PLACE_LIMIT (place_of p)) points →
    All (IsSized PLACE_LIMIT) places
origins_in_range points places same h = All-same (IsSized PLACE_LIMIT) places _ same (All-map (IsSized PLACE_LIMIT) place_of points h)

pub fixtures_in_range : (corners : List Corners) (fixtures : List Fixture) → fixtures ≡ map fixture_of corners → length corners ≤ 256 →
    All (λ f. IsFixture (fixture_of f)) corners → AreFixtures fixtures
fixtures_in_range corners fixtures same n h = record {
  count = rw (same, length-map corners fixture_of) n;
  each = All-same IsFixture fixtures _ same (All-map IsFixture fixture_of corners h);
}

part_in_range : (p : PartEntry) → IsPartEntry p → IsPart (part_of p)
part_in_range p h = record { length = h.length; radius = h.radius }

parts_in_range : (parts : List PartEntry) → ArePartEntries parts → AreParts (map part_of parts)
parts_in_range parts h = record {
  least = rw (length-map parts part_of) h.least;
  greatest = rw (length-map parts part_of) h.greatest;
  each = All-map IsPart part_of parts (All-weaker IsPartEntry (λ p. IsPart (part_of p)) part_in_range parts h.each);
}

tool_in_range : (t : ToolNumbers) → IsEntry t → IsTool (tool_of t)
tool_in_range t h = record {
  number_least = omega (arith, ints);
  number_greatest = omega (arith, ints);
  offset_sized = h.offset;
  bottom = h.bottom;
  parts = parts_in_range t.parts h.parts;
}

tool_numbers_of : (ts : List ToolNumbers) → map (λ t. t.number) (map tool_of ts) ≡ map tool_number ts
tool_numbers_of [] = refl
tool_numbers_of (t ∷ ts) = ap (λ ns. tool_number t ∷ ns) (tool_numbers_of ts)

pub tools_in_range : (entries : List ToolEntry) (n : ℕ) (tools : List Tool) → length entries ≤ n → tools ≡ map tool_of (map numbers_of (take n entries)) →
    AreEntries (map numbers_of entries) → AreTools tools
tools_in_range entries n tools all same h =
    let numbers : List ToolNumbers = map numbers_of entries in
    let whole : tools ≡ map tool_of numbers = same ∙ ap (λ es. map tool_of (map numbers_of es)) (take_all n entries all) in
    record {
      count = rw (whole, length-map numbers tool_of) h.count;
      each = All-same IsTool tools _ whole (All-map IsTool tool_of numbers (All-weaker IsEntry (λ t. IsTool (tool_of t)) tool_in_range numbers h.each));
      different = rw (whole, tool_numbers_of numbers) h.different;
    }

pub entry_at : (entries items : List ToolEntry) (i : ℕ) (t : ToolEntry) → items ≡ entries → i < length items → t ≡ get_or items i t →
    AreEntries (map numbers_of entries) → IsEntry (numbers_of t)
entry_at entries items i t same in_list at h =
    let each : All IsEntry (map numbers_of items) = rw same h.each in
    let found : IsEntry (get_or (map numbers_of items) i (numbers_of t)) =
    All-get_or IsEntry (map numbers_of items) i (numbers_of t) (rw (length-map items numbers_of) in_list) each in
    subst (λ t. IsEntry (numbers_of t)) (sym at) (subst IsEntry (get_or-map numbers_of items i t (numbers_of t) in_list) found)
