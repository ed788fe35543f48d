-- The uses of tools in a program. Our own.
use Rattle.std.specs.Prelude.{◌≡◌, ℕ, nat_lt, List, [], ◌∷◌, ◌++◌, count_by, sum_by, take_while, Option}
use Rattle.std.specs.Prelude.{Some, None, Bool, true, false, not, ◌||◌, if◌then◌else◌}
use Rattle.ngc_machine_files.specs.declared.tools.Tool.{Tool}
use Rattle.ngc_commands.specs.declared.command.Action.{Action}
use Rattle.ngc_commands.specs.declared.command.Action.TheVariants.{Move, Mount, Dwell, Stop}
use Rattle.ngc_commands.specs.declared.command.Action.TheVariants.{OptionalStop}
use Rattle.ngc_commands.specs.declared.command.Command.{Command}
use Rattle.ngc_commands.specs.declared.movement.Pace.{Pace}
use Rattle.ngc_commands.specs.declared.movement.Pace.TheVariants.{Rapid, Feed}
use Rattle.ngc_commands.specs.declared.movement.Way.{Way}
use Rattle.ngc_commands.specs.declared.movement.Way.TheVariants.{Line, Arc}
use Rattle.ngc_commands.specs.Reached.{mounts}
use Rattle.ngc_findings.specs.Ways.{length_of}
use Rattle.ngc_findings.specs.declared.uses.ToolUse.{ToolUse}
use Rattle.ngc_findings.specs.declared.uses.ToolUses.{ToolUses}

-- ---- kinds of actions

abbrev pub rapid_line : Way → Pace → Bool
rapid_line (Line start end) Rapid = true
rapid_line _ _ = false

abbrev pub feed_line : Way → Pace → Bool
feed_line (Line start end) (Feed feed) = true
feed_line _ _ = false

abbrev pub round_way : Way → Bool
round_way (Arc arc) = true
round_way _ = false

abbrev pub traverses : Action → Bool
traverses (Move m) = rapid_line m.way m.pace
traverses _ = false

abbrev pub feeds : Action → Bool
feeds (Move m) = feed_line m.way m.pace
feeds _ = false

abbrev pub rounds : Action → Bool
rounds (Move m) = round_way m.way
rounds _ = false

abbrev pub dwells : Action → Bool
dwells (Dwell time) = true
dwells _ = false

abbrev pub stops : Action → Bool
stops Stop = true
stops OptionalStop = true
stops _ = false

-- ---- and of commands

abbrev pub is_change : Command → Bool
is_change c = mounts c.action

abbrev pub is_traverse : Command → Bool
is_traverse c = traverses c.action

abbrev pub is_feed : Command → Bool
is_feed c = feeds c.action

abbrev pub is_arc : Command → Bool
is_arc c = rounds c.action

abbrev pub is_dwell : Command → Bool
is_dwell c = dwells c.action

abbrev pub is_stop : Command → Bool
is_stop c = stops c.action

-- ---- the distance along lines, in nanometres

abbrev pub traversed : Command → ℕ
traversed c = if is_traverse c then length_of c else 0

abbrev pub fed : Command → ℕ
fed c = if is_feed c then length_of c else 0

-- ---- uses

-- the commands before the next change
abbrev pub stretch : List Command → List Command
stretch commands = take_while (λ c. not (is_change c)) commands

-- the use of a tool that is mounted before these commands
abbrev pub use_of : Option Tool → List Command → ToolUse
use_of tool commands = record {
  tool = tool;
  traverses = count_by is_traverse (stretch commands);
  traverse_way = sum_by traversed (stretch commands);
  feeds = count_by is_feed (stretch commands);
  feed_way = sum_by fed (stretch commands);
  arcs = count_by is_arc (stretch commands);
  dwells = count_by is_dwell (stretch commands);
  stops = count_by is_stop (stretch commands);
}

abbrev pub moves : ToolUse → Bool
moves u = nat_lt 0 u.traverses || (nat_lt 0 u.feeds || nat_lt 0 u.arcs)

-- each change begins a use
abbrev pub begun : Action → List Command → List ToolUse
begun (Mount tool) later = use_of tool later ∷ []
begun _ later = []

abbrev pub changes : List Command → List ToolUse
changes [] = []
changes (c ∷ cs) = begun c.action cs ++ changes cs

-- the use without a tool comes first, if it moves something
abbrev pub first_use : ToolUse → Option ToolUse
first_use u = if moves u then Some u else None

abbrev pub with_first : Option ToolUse → List ToolUse → List ToolUse
with_first None uses = uses
with_first (Some u) uses = u ∷ uses

abbrev pub tool_uses : List Command → List ToolUse
tool_uses commands = with_first (first_use (use_of None commands)) (changes commands)

-- the remaining uses
abbrev pub uses_left : ToolUses → List ToolUse
uses_left uses =
    with_first (if uses.first then Some (use_of None uses.later.now) else None)
    (changes uses.later.now)

-- the tool of the next use
pub record IsNextTool (old : ToolUses) (tool : Option Tool) (new : ToolUses) : Type 0 where
  pub commands : List Command
  pub next : uses_left old ≡ use_of tool commands ∷ uses_left new
