-- The reach of the tools of a table. Our own.
use Rattle.std.specs.Prelude.{◌≤◌, ℤ, pos, ◌+ℤ◌, ◌-ℤ◌, int_lt, int_le, unsigned_abs, List, []}
use Rattle.std.specs.Prelude.{◌∷◌, Bool, ◌||◌}
use Rattle.std.specs.Int.{int_min, int_max}
use Rattle.ngc_fixed_length.specs.declared.points.Point3.{Point3}
use Rattle.ngc_machine_files.specs.Machine.{MachineFile}
use Rattle.ngc_machine_files.specs.declared.machine.Fixture.{Fixture}
use Rattle.ngc_machine_files.specs.declared.parts.Part.{Part}
use Rattle.ngc_machine_files.specs.declared.tools.Tool.{Tool}
use Rattle.ngc_setup_sheet.specs.declared.reach.Reach.{Reach}

-- the height at which a stack of parts ends that begins at the height `foot`
abbrev pub top_of : ℤ → List Part → ℤ
top_of foot [] = foot
top_of foot (part ∷ parts) = top_of (foot +ℤ part.length) parts

abbrev pub widest : ℤ → List Part → ℤ
widest radius [] = radius
widest radius (part ∷ parts) = widest (int_max radius part.radius) parts

-- the spindle nose itself
abbrev pub nothing : Reach
nothing = record { radius = pos 0; bottom = pos 0; top = pos 0 }

abbrev pub with_tool : Reach → Tool → Reach
with_tool r t = record {
  radius = widest r.radius t.parts;
  bottom = int_min r.bottom t.bottom;
  top = int_max r.top (top_of t.bottom t.parts);
}

abbrev pub with_tools : Reach → List Tool → Reach
with_tools r [] = r
with_tools r (t ∷ ts) = with_tools (with_tool r t) ts

-- the greatest of all tools on each side
abbrev pub reach_of : List Tool → Reach
reach_of tools = with_tools nothing tools

-- the range from one coordinate to another lies beyond the other range; they may touch
abbrev pub is_beyond : ℤ → ℤ → ℤ → ℤ → Bool
is_beyond low high other_low other_high = int_le high other_low || int_le other_high low

-- on some axis a fixture lies beyond the travel, widened by the tools' reach
abbrev pub is_out_of_reach : MachineFile → Reach → Fixture → Bool
is_out_of_reach m r f =
    is_beyond (m.low.x -ℤ r.radius) (m.high.x +ℤ r.radius) f.low.x f.high.x ||
    (is_beyond (m.low.y -ℤ r.radius) (m.high.y +ℤ r.radius) f.low.y f.high.y ||
    is_beyond (m.low.z +ℤ r.bottom) (m.high.z +ℤ r.top) f.low.z f.high.z)

-- a coordinate is below the one or above the other
abbrev pub is_outside : ℤ → ℤ → ℤ → Bool
is_outside low high z = int_lt z low || int_lt high z

-- no tool's tip reaches a point: it lies outside the travel, which tools lengthen downwards
abbrev pub is_outside_travel : MachineFile → Reach → Point3 → Bool
is_outside_travel m r p =
    is_outside m.low.x m.high.x p.x
    || (is_outside m.low.y m.high.y p.y || is_outside (m.low.z +ℤ r.bottom) m.high.z p.z)

-- the bounds of a reach: at most 10^12 nm in each direction
pub record IsReach (r : Reach) : Type 0 where
  pub radius : unsigned_abs r.radius ≤ 1000000000000
  pub bottom : unsigned_abs r.bottom ≤ 1000000000000
  pub top : unsigned_abs r.top ≤ 1000000000000
