-- The motions that were passed before a joint, and how they are stored. Our own.
use Rattle.std.specs.Prelude.{◌≡◌, ℕ, ◌+◌, ◌-◌, ◌*◌, ◌≤◌, ◌≤ℤ◌, ◌==◌, Option, Some, None}
use Rattle.std.specs.Prelude.{List, [], ◌∷◌, length, take, drop, min, map, if◌then◌else◌}
use Rattle.std.specs.List.{AllByRecursion}
use Rattle.ngc_fixed_length.specs.declared.points.Point3.{Point3}
use Rattle.ngc_machine_files.specs.Machine.{MachineFile}
use Rattle.ngc_commands.specs.declared.command.Command.{Command}
use Rattle.ngc_planner.specs.declared.trail.Block.{Block}
use Rattle.ngc_planner.specs.declared.trail.Look.{Look}
use Rattle.ngc_planner.specs.declared.trail.Mark.{Mark}
use Rattle.ngc_planner.specs.Headings.{IsHeading}
use Rattle.ngc_planner.specs.Joints.{rate_from_all, joint_before}
use Rattle.ngc_planner.specs.Window.{Passed, window_length, passing_heading, way_on, earlier}

-- a motion that was passed: its heading at its end, and the distance that it counts, in millionths of
-- a path step
pub record Passage : Type 0 where
  pub heading : Point3
  pub length : ℕ

abbrev pub passage_with : Option Point3 → ℕ → List Passage → List Passage
passage_with (Some d) length before = record { heading = d; length = length } ∷ before
passage_with None length before = []

-- the motions that were passed on commands, nearest first. They end before a command without a
-- heading to pass
abbrev pub passages : MachineFile → List Command → List Passage
passages machine [] = []
passages machine (c ∷ cs) =
    passage_with (passing_heading machine c.action) (way_on machine c.action) (passages machine cs)

-- their headings and the distances since; the nearest one ended this distance ago
abbrev pub measured : ℕ → List Passage → List Passed
measured way [] = []
measured way (p ∷ ps) = record { heading = p.heading; way = way } ∷ measured (way + p.length) ps

-- the motions passed before a joint, and the greatest number of them
pub record TrailData : Type 0 where
  pub passed : List Passage
  pub most : ℕ

-- on a machine without a jump no joint needs them
abbrev pub trail_on : MachineFile → List Command → List Passage
trail_on machine cs = if machine.jump == 0 then [] else passages machine cs

abbrev pub trail_before : MachineFile → List Command → ℕ → TrailData
trail_before machine commands k = record {
  passed = trail_on machine (earlier machine commands k);
  most = window_length machine - 1;
}

-- the joints of a program before command k: the bound of the last one, and what the next one needs
pub record JointsData : Type 0 where
  pub entry : ℕ
  pub trail : TrailData

abbrev pub joints_before : MachineFile → List Command → ℕ → JointsData
joints_before machine commands k = record {
  entry = joint_before machine commands k;
  trail = trail_before machine commands k;
}

-- ---- how they are stored

-- the most that a motion counts, in millionths of a path step
abbrev pub LONGEST : ℕ
LONGEST = 400000000000000

-- the greatest number of motions in a block
abbrev pub BLOCK : ℕ
BLOCK = 32

-- each coordinate of a heading is between those of two others
pub record LiesBetween (least greatest d : Point3) : Type 0 where
  pub x : (least.x ≤ℤ d.x) × (d.x ≤ℤ greatest.x)
  pub y : (least.y ≤ℤ d.y) × (d.y ≤ℤ greatest.y)
  pub z : (least.z ≤ℤ d.z) × (d.z ≤ℤ greatest.z)

-- the distance along motions
abbrev pub length_along : List Passage → ℕ
length_along [] = 0
length_along (p ∷ ps) = p.length + length_along ps

pub record IsBlock (b : Block) : Type 0 where
  pub some : 1 ≤ b.count
  pub few : b.count ≤ BLOCK
  pub least : IsHeading b.least
  pub greatest : IsHeading b.greatest
  pub bound : b.length ≤ b.count * LONGEST

-- A block describes the first of some motions, `count` of them: it has the extremes of their
-- headings, and their length, which doesn't matter if there are fewer motions.
pub record Describes (b : Block) (ps : List Passage) : Type 0 where
  pub each : AllByRecursion (λ p. LiesBetween b.least b.greatest p.heading) (take b.count ps)
  pub whole : b.count ≤ length ps → b.length ≡ length_along (take b.count ps)

abbrev pub passage_of : Mark → Passage
passage_of m = record { heading = m.heading; length = m.length }

-- a stored motion, with a block of it and the motions before it
pub record IsMark (m : Mark) (before : List Mark) : Type 0 where
  pub heading : IsHeading m.heading
  pub length : m.length ≤ LONGEST
  pub block : IsBlock m.block
  pub describes : Describes m.block (map passage_of (m ∷ before))

abbrev pub IsTrail : List Mark → Type 0
IsTrail [] = Unit {0}
IsTrail (m ∷ ms) = IsMark m ms × IsTrail ms

-- ---- how a joint looks back

-- from one look to a later one the headings in between are accounted for: the rate that the rest
-- allows is the same
abbrev pub IsSameRate : MachineFile → Point3 → Look → Look → List Passage → Type 0
IsSameRate machine e old new ps =
    min old.rate (rate_from_all machine e (measured old.way ps))
    ≡ min new.rate (rate_from_all machine e (measured new.way (drop (new.passed - old.passed) ps)))
