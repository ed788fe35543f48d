-- A machine as the checker sees it: each fixture is larger by the margin on all six sides, and the
-- travel limits are nearer by the travel margin. Our own.
use Rattle.std.specs.Prelude.{ℤ, ◌+ℤ◌, ◌-ℤ◌, nat_le, unsigned_abs, map, Bool, ◌&&◌, Result}
use Rattle.std.specs.Prelude.{Ok}
use Rattle.std.specs.List.{list_all}
use Rattle.ngc_fixed_length.specs.declared.points.Point3.{Point3}
use Rattle.ngc_collision.specs.Body.{is_below}
use Rattle.ngc_machine_files.specs.Machine.{MachineFile}
use Rattle.ngc_machine_files.specs.Ranges.{CORNER_LIMIT}
use Rattle.ngc_machine_files.specs.Refusals.{◌>>◌, refuse_unless}
use Rattle.ngc_machine_files.specs.declared.fault.FileFault.{FileFault}
use Rattle.ngc_machine_files.specs.declared.fault.FileFault.TheVariants.{Travel, Fixtures}
use Rattle.ngc_machine_files.specs.declared.machine.Fixture.{Fixture}
use Rattle.ngc_margins.specs.Demands.{Demand, set_in}

-- a point that is moved by a length along all three axes, down or up
abbrev pub lowered : ℤ → Point3 → Point3
lowered m p = record { x = p.x -ℤ m; y = p.y -ℤ m; z = p.z -ℤ m }

abbrev pub raised : ℤ → Point3 → Point3
raised m p = record { x = p.x +ℤ m; y = p.y +ℤ m; z = p.z +ℤ m }

abbrev pub grown : ℤ → Fixture → Fixture
grown m f = record f { low = lowered m f.low; high = raised m f.high }

-- the machine with its own margins kept
abbrev pub with_margins : MachineFile → MachineFile
with_margins m = record m {
  low = raised m.margins.travel m.low;
  high = lowered m.margins.travel m.high;
  fixtures = map (grown m.margins.fixtures) m.fixtures;
}

abbrev pub starts_inside : MachineFile → Bool
starts_inside m = is_below m.low m.start && is_below m.start m.high

abbrev pub is_sized : Point3 → Bool
is_sized p =
    nat_le (unsigned_abs p.x) CORNER_LIMIT && (nat_le (unsigned_abs p.y) CORNER_LIMIT
    && nat_le (unsigned_abs p.z) CORNER_LIMIT)

abbrev pub fits : Fixture → Bool
fits f = is_sized f.low && is_sized f.high

-- the machine, unless its start is outside the limits or a corner too far away
abbrev pub in_range : MachineFile → Result MachineFile FileFault
in_range m =
    refuse_unless (starts_inside m) Travel >> (refuse_unless (list_all fits m.fixtures) Fixtures
    >> Ok m)

-- the machine of a call: with its options, and its margins kept
abbrev pub demanded : Demand → MachineFile → Result MachineFile FileFault
demanded d m = in_range (with_margins (set_in d m))
