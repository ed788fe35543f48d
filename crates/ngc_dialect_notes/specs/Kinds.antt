-- What execution keeps of a construct, by its kind of note. Our own.
use Rattle.ngc_dialect_notes.specs.declared.kind.Class.{Class}
use Rattle.ngc_dialect_notes.specs.declared.kind.Class.TheVariants.{Exact, Told, Chosen, Bound}
use Rattle.ngc_dialect_notes.specs.declared.kind.Kind.{Kind}
use Rattle.ngc_dialect_notes.specs.declared.kind.Kind.TheVariants as kinds

unfoldable pub class_of : Kind → Class
class_of kinds.Switch = Told
class_of kinds.LookAhead = Told
class_of kinds.IdleCode = Exact
class_of kinds.PathTolerance = Exact
class_of kinds.LoneMachinePlace = Exact
class_of kinds.LoneCycle = Told
class_of kinds.OldUnits = Exact
class_of kinds.ToolCentre = Exact
class_of kinds.LengthWithoutH = Exact
class_of kinds.ToolChange = Chosen
class_of kinds.MachinePlaceInG91 = Chosen
class_of kinds.HomeAxes = Exact
class_of kinds.MotionApart = Exact
class_of kinds.OriginAdded = Chosen
class_of kinds.SystemInForce = Chosen
class_of kinds.LocalOffset = Chosen
class_of kinds.FeedUnits = Exact
class_of kinds.KeptFeed = Chosen
class_of kinds.Milliseconds = Exact
class_of kinds.BesideDwell = Told
class_of kinds.IdleD = Told
class_of kinds.IdleE = Told
class_of kinds.IdleH = Told
class_of kinds.IdleI = Told
class_of kinds.IdleJ = Told
class_of kinds.IdleK = Told
class_of kinds.IdleL = Told
class_of kinds.IdleP = Told
class_of kinds.IdleQ = Told
class_of kinds.IdleR = Told
class_of kinds.IdleZero = Exact
class_of kinds.IdleAxis = Exact
class_of kinds.ThirdOffset = Told
class_of kinds.NoPoint = Chosen
class_of kinds.FirstTraverse = Exact
class_of kinds.FullCircle = Exact
class_of kinds.CentreMode = Chosen
class_of kinds.CycleInGrbl = Chosen
class_of kinds.StartRetract = Chosen
class_of kinds.NoDwell = Told
class_of kinds.PeckClearance = Chosen
class_of kinds.ChipBreaking = Chosen
class_of kinds.KeptWords = Chosen
class_of kinds.HoleCount = Exact
class_of kinds.Homing = Told
class_of kinds.DeleteLevel = Told
class_of kinds.FirstTool = Told
class_of kinds.ProgramEnd = Told
class_of kinds.PolarWords = Bound
class_of kinds.SeveralTurns = Bound
class_of kinds.CutterRadius = Bound
class_of kinds.MovedCentre = Bound
