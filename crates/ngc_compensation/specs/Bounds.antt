-- Bounds that keep the arithmetic of compensation within 128 bits.
use Rattle.std.specs.Prelude.{ℕ, ◌<◌, ◌≤◌, unsigned_abs, IfSome}
use Rattle.ngc_fixed_length.specs.declared.points.Point2.{Point2}
use Rattle.ngc_compensation.specs.declared.join.Joined.{Joined}
use Rattle.ngc_compensation.specs.declared.normal.Normals.{Normals}
use Rattle.ngc_compensation.specs.declared.moves.Compensation.{Compensation}
use Rattle.ngc_compensation.specs.declared.moves.Held.{Held}
use Rattle.ngc_compensation.specs.declared.moves.Motion.{Motion}
use Rattle.ngc_compensation.specs.declared.moves.Motion.TheVariants.{Traverse, Feed, Arc}
use Rattle.ngc_compensation.specs.declared.moves.Move.{Move}
use Rattle.ngc_compensation.specs.Sides.{norm, apart}
use Rattle.ngc_compensation.specs.Offsets.{PLACE_LIMIT, TOOL_LIMIT}
use Rattle.ngc_compensation.specs.Limits.{IsWithin}

-- the centre of an arc is at most n from the origin on each axis
abbrev pub IsNearMotion : ℕ → Motion → Type 0
IsNearMotion n Traverse = Unit {0}
IsNearMotion n Feed = Unit {0}
IsNearMotion n (Arc turn centre) = IsWithin n centre

-- a direction: a vector that isn't 0
pub record IsDirection (d : Point2) : Type 0 where
  pub within : IsWithin 10000000000 d
  pub some : 0 < norm d

pub record IsNearHeld (h : Held) : Type 0 where
  pub start : IsWithin TOOL_LIMIT h.start
  pub end : IsWithin TOOL_LIMIT h.end
  pub centre : IsNearMotion TOOL_LIMIT h.motion
  pub normal : IsDirection h.normal

pub record IsNear (k : Compensation) : Type 0 where
  pub radius : unsigned_abs k.radius ≤ 100000000
  pub place : IsWithin PLACE_LIMIT k.place

pub record IsNearMove (m : Move) : Type 0 where
  pub end : IsWithin PLACE_LIMIT m.end
  pub centre : IsNearMotion PLACE_LIMIT m.motion

pub record AreDirections (n : Normals) : Type 0 where
  pub first : IsDirection n.first
  pub last : IsDirection n.last

-- a straight move goes somewhere else
abbrev pub GoesOn : Point2 → Point2 → Motion → Type 0
GoesOn start end Traverse = 0 < apart start end
GoesOn start end Feed = 0 < apart start end
GoesOn start end (Arc turn centre) = Unit {0}

pub record IsNearJoined (j : Joined) : Type 0 where
  pub start : IsWithin TOOL_LIMIT j.start
  pub moved : IfSome j.moved (IsWithin TOOL_LIMIT)

pub record AllNear (k : Compensation) : Type 0 where
  pub self : IsNear k
  pub held : IfSome k.held IsNearHeld
