-- The kinds of notes in their order, so that two can be compared. Our own.
use Rattle.std.specs.Prelude.{ℕ}
use Rattle.ngc_dialect_notes.specs.declared.kind.Kind.{Kind}
use Rattle.ngc_dialect_notes.specs.declared.kind.Kind.TheVariants as kinds

unfoldable pub number_of : Kind → ℕ
number_of kinds.Switch = 0
number_of kinds.LookAhead = 1
number_of kinds.IdleCode = 2
number_of kinds.PathTolerance = 3
number_of kinds.LoneMachinePlace = 4
number_of kinds.LoneCycle = 5
number_of kinds.OldUnits = 6
number_of kinds.ToolCentre = 7
number_of kinds.LengthWithoutH = 8
number_of kinds.ToolChange = 9
number_of kinds.MachinePlaceInG91 = 10
number_of kinds.HomeAxes = 11
number_of kinds.MotionApart = 12
number_of kinds.OriginAdded = 13
number_of kinds.SystemInForce = 14
number_of kinds.LocalOffset = 15
number_of kinds.FeedUnits = 16
number_of kinds.KeptFeed = 17
number_of kinds.Milliseconds = 18
number_of kinds.BesideDwell = 19
number_of kinds.IdleD = 20
number_of kinds.IdleE = 21
number_of kinds.IdleH = 22
number_of kinds.IdleI = 23
number_of kinds.IdleJ = 24
number_of kinds.IdleK = 25
number_of kinds.IdleL = 26
number_of kinds.IdleP = 27
number_of kinds.IdleQ = 28
number_of kinds.IdleR = 29
number_of kinds.IdleZero = 30
number_of kinds.IdleAxis = 31
number_of kinds.ThirdOffset = 32
number_of kinds.NoPoint = 33
number_of kinds.FirstTraverse = 34
number_of kinds.FullCircle = 35
number_of kinds.CentreMode = 36
number_of kinds.CycleInGrbl = 37
number_of kinds.StartRetract = 38
number_of kinds.NoDwell = 39
number_of kinds.PeckClearance = 40
number_of kinds.ChipBreaking = 41
number_of kinds.KeptWords = 42
number_of kinds.HoleCount = 43
number_of kinds.Homing = 44
number_of kinds.DeleteLevel = 45
number_of kinds.FirstTool = 46
number_of kinds.ProgramEnd = 47
number_of kinds.PolarWords = 48
number_of kinds.SeveralTurns = 49
number_of kinds.CutterRadius = 50
number_of kinds.MovedCentre = 51
