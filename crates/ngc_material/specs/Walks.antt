-- Following a program's commands through the material. `table` says what shapes the cutters of the tools
-- have. Our own.
use Rattle.std.specs.Prelude.{◌≡◌, ℕ, ◌+◌, ◌⊎◌, List, [], ◌∷◌, ◌++◌, Option, Some, None, if◌then◌else◌, ◌==◌}
use Rattle.ngc_file_figures.specs.declared.limits.ToolLimits.{ToolLimits}
use Rattle.ngc_machine_files.specs.declared.tools.Tool.{Tool}
use Rattle.ngc_commands.specs.declared.command.Action.{Action}
use Rattle.ngc_commands.specs.declared.command.Action.TheVariants.{Move}
use Rattle.ngc_commands.specs.declared.command.Command.{Command}
use Rattle.ngc_commands.specs.declared.movement.Feed.TheVariants.{PerMinute}
use Rattle.ngc_commands.specs.declared.movement.Way.{Way}
use Rattle.ngc_commands.specs.declared.movement.Way.TheVariants.{Line, Arc}
use Rattle.ngc_commands.specs.declared.movement.Pace.{Pace}
use Rattle.ngc_commands.specs.declared.movement.Pace.TheVariants.{Rapid, Feed}
use Rattle.ngc_commands.specs.declared.reached.Reached.{Reached}
use Rattle.ngc_commands.specs.Reached.{after}
use Rattle.ngc_stock.specs.declared.cylinder.Cylinder.{Cylinder}
use Rattle.ngc_stock.specs.declared.stock.Stock.{Stock}
use Rattle.ngc_stock.specs.Changes.{tool_number}
use Rattle.ngc_stock.specs.Discs.{discs_in}
use Rattle.ngc_stock.specs.Feeds.{IsFeedClear}
use Rattle.ngc_stock.specs.Walk.{IsStep, AreDiscsCut}
use Rattle.ngc_material.specs.Touches.{IsArcTouch, IsFirstTouch, IsUpperTouch}
use Rattle.ngc_material.specs.declared.touch.Touch.{Touch}
use Rattle.ngc_material.specs.declared.walk.Found.{Found}

-- a straight traverse with which this part may touch material; it then counts as a feed
abbrev pub IsTouchedOn : Stock → List Cylinder → Tool → Way → Pace → List ℕ → List ℕ → ℕ → Touch → Type 0
IsTouchedOn s ds t (Line a b) Rapid old new part touch = IsFirstTouch s ds t a b old part touch × AreDiscsCut s ds a b old new
IsTouchedOn s ds t (Line a b) (Feed f) old new part touch = ⊥
IsTouchedOn s ds t (Arc arc) pace old new part touch = ⊥

abbrev pub IsTouched : Stock → List Cylinder → Option Tool → Action → List ℕ → List ℕ → ℕ → Touch → Type 0
IsTouched s ds None action old new part touch = ⊥
IsTouched s ds (Some t) (Move m) old new part touch = IsTouchedOn s ds t m.way m.pace old new part touch
IsTouched s ds (Some t) _ old new part touch = ⊥

-- a feed, straight or along an arc, with which this part, above the cutter, may touch material of these heights,
-- which the feed leaves
abbrev pub IsRubbedOn : Stock → Tool → Way → Pace → List ℕ → ℕ → Touch → Type 0
IsRubbedOn s t (Line a b) (Feed f) heights part touch = IsUpperTouch s t a b heights part touch
IsRubbedOn s t (Line a b) Rapid heights part touch = ⊥
IsRubbedOn s t (Arc arc) (Feed f) heights part touch = IsArcTouch s t arc heights part touch
IsRubbedOn s t (Arc arc) Rapid heights part touch = ⊥

abbrev pub IsRubbed : Stock → Option Tool → Action → List ℕ → ℕ → Touch → Type 0
IsRubbed s None action heights part touch = ⊥
IsRubbed s (Some t) (Move m) heights part touch = IsRubbedOn s t m.way m.pace heights part touch
IsRubbed s (Some t) _ heights part touch = ⊥

-- a traverse, which is the command with this index, may touch material
pub record IsFound (s : Stock) (ds : List Cylinder) (mounted : Option Tool) (index : ℕ) (c : Command) (old new : List ℕ) (f : Found) : Type 0 where
  pub command : f.command ≡ index
  pub line : f.line ≡ c.line
  pub tool : f.tool ≡ tool_number mounted
  pub touch : IsTouched s ds mounted c.action old new f.part f.touch

-- a feed, which is the command with this index, may touch material
pub record IsFoundFeed (s : Stock) (mounted : Option Tool) (index : ℕ) (c : Command) (heights : List ℕ) (f : Found) : Type 0 where
  pub command : f.command ≡ index
  pub line : f.line ≡ c.line
  pub tool : f.tool ≡ tool_number mounted
  pub touch : IsRubbed s mounted c.action heights f.part f.touch

-- a command is silent, or it is added to the traverses that are found
abbrev pub IsFollowed : Stock → List Cylinder → Option Tool → ℕ → Command → List ℕ → List ℕ → List Found → List Found → Type 0
IsFollowed s ds tool index c old new before later =
    (IsStep s ds tool c.action old new × (later ≡ before))
    ⊎ ((f : Found) × (later ≡ before ++ f ∷ []) × IsFound s ds tool index c old new f)

-- a command that leaves these heights isn't a feed that may touch them, or it is added to those
abbrev pub IsTested : Stock → Option Tool → ℕ → Command → List ℕ → List Found → List Found → Type 0
IsTested s tool index c heights before later =
    (IsFeedClear s tool c.action heights × (later ≡ before))
    ⊎ ((f : Found) × (later ≡ before ++ f ∷ []) × IsFoundFeed s tool index c heights f)

-- it isn't one, or it is the next one that is reported
abbrev pub IsNextFeed : Stock → Option Tool → ℕ → Command → List ℕ → List Found → List Found → Type 0
IsNextFeed s tool index c heights feeds others =
    (IsFeedClear s tool c.action heights × (feeds ≡ others))
    ⊎ ((f : Found) × (feeds ≡ f ∷ others) × IsFoundFeed s tool index c heights f)

-- what a walk reports, traverses and feeds: each command is silent, or it is the next one that is reported
abbrev pub AreFound : Stock → List ToolLimits → Reached → List ℕ → ℕ → List Command → List Found → List Found → Type 0
AreFound s table r heights index [] found feeds = (found ≡ []) × (feeds ≡ [])
AreFound s table r heights index (c ∷ cs) found feeds =
    (next : List ℕ) × (others : List Found) × IsNextFeed s r.tool index c next feeds others ×
    ((IsStep s (discs_in table r.tool) r.tool c.action heights next × AreFound s table (after r c.action) next (index + 1) cs found others)
    ⊎ ((f : Found) × (rest : List Found) × (found ≡ f ∷ rest) × IsFound s (discs_in table r.tool) r.tool index c heights next f ×
    AreFound s table (after r c.action) next (index + 1) cs rest others))

-- ---- the program in which each traverse that is reported is a feed

abbrev pub as_feed : Action → Action
as_feed (Move m) = Move (record m { pace = Feed (PerMinute 0) })
as_feed action = action

abbrev pub with_feeds : ℕ → List Command → List Found → List Command
with_feeds index [] found = []
with_feeds index (c ∷ cs) [] = c ∷ with_feeds (index + 1) cs []
with_feeds index (c ∷ cs) (f ∷ fs) =
    if f.command == index then record c { action = as_feed c.action } ∷ with_feeds (index + 1) cs fs
    else c ∷ with_feeds (index + 1) cs (f ∷ fs)
