-- The law of silence, by induction over the commands before a traverse.
use Rattle.std.proofs.Common.{◌≡◌, ℕ, ◌+◌, ◌*◌, ◌<◌, ◌≤◌, pos, ◌+ℤ◌, ◌<ℤ◌, inl, inr, sym, subst, arith, List, [], ◌∷◌, ◌++◌, ◌/◌, min, Bool, true, false, cond, Option, Some, None}
use Rattle.std.proofs.lemmas.List.{get_or-replicate, length-replicate}
use Rattle.ngc_fixed_length.specs.declared.points.Point3.{Point3}
use Rattle.ngc_file_figures.specs.declared.limits.ToolLimits.{ToolLimits}
use Rattle.ngc_machine_files.specs.declared.tools.Tool.{Tool}
use Rattle.ngc_commands.specs.declared.command.Action.{Action}
use Rattle.ngc_commands.specs.declared.command.Action.TheVariants.{Move, Mount, Dwell, Spindle, Coolant, Override, Stop, OptionalStop, End}
use Rattle.ngc_commands.specs.declared.command.Command.{Command}
use Rattle.ngc_commands.specs.declared.movement.Way.{Way}
use Rattle.ngc_commands.specs.declared.movement.Way.TheVariants.{Line, Arc}
use Rattle.ngc_commands.specs.declared.movement.Pace.{Pace}
use Rattle.ngc_commands.specs.declared.movement.Pace.TheVariants.{Rapid, Feed}
use Rattle.ngc_commands.specs.declared.reached.Reached.{Reached}
use Rattle.ngc_commands.specs.Reached.{after, after_all}
use Rattle.ngc_cells.specs.Grids.{IsGrid}
use Rattle.ngc_stock.specs.declared.cylinder.Cylinder.{Cylinder}
use Rattle.ngc_stock.specs.declared.stock.Stock.{Stock}
use Rattle.ngc_stock.specs.Stocks.{IsInStock, lowest_part, from_part, is_slope, height_of}
use Rattle.ngc_stock.specs.Discs.{discs_in}
use Rattle.ngc_stock.specs.Walk.{IsClear, AreDiscsClear, AreClear, IsMotion, IsStep, IsSilent, MeetsNone, DiscsMeetNone, MeetNone, IsCutOn, IsCutIn, IsCutInAny, IsLeft, IsSafeOn, IsSafe, uncut}
use Rattle.ngc_stock.proofs.Bounds.{AreBounds, fewer, discs_keep, clear_line, clear_end}
use Rattle.ngc_stock.proofs.Arcs.{arcs_keep}
use Rattle.ngc_stock.specs.Silence.{Silence}

-- ---- a step keeps the bounds

same_heights : (s : Stock) (old new : List ℕ) (Left Less : Point3 → Type 0) → ((q : Point3) → Less q → Left q) → new ≡ old → AreBounds s old Left → AreBounds s new Less
same_heights s old new Left Less f e b = subst (λ (l : List ℕ). AreBounds s l Less) (sym e) (fewer s old Left Less f b)

motion_keeps : (s : Stock) (ds : List Cylinder) (t : Tool) (way : Way) (pace : Pace) (grid : IsGrid s.grid) (old new : List ℕ) (Left : Point3 → Type 0) →
    ((q : Point3) → Left q → IsInStock s q) → IsMotion s ds t way pace old new → AreBounds s old Left → AreBounds s new (λ q. Left q × ¬ (IsCutOn ds way pace q))
motion_keeps s ds t (Line a b) Rapid grid old new Left stock m bounds = same_heights s old new Left (λ q. Left q × ¬ (IsCutOn ds (Line a b) Rapid q)) (λ q h. h.0) m.1 bounds
motion_keeps s ds t (Line a b) (Feed f) grid old new Left stock m bounds =
    discs_keep s ds a b grid (λ q. Left q × ¬ (IsCutOn ds (Line a b) (Feed f) q)) (λ q h. stock q h.0) (λ q h. h.1) old new m
    (fewer s old Left (λ q. Left q × ¬ (IsCutOn ds (Line a b) (Feed f) q)) (λ q h. h.0) bounds)
motion_keeps s ds t (Arc arc) Rapid grid old new Left stock m bounds = same_heights s old new Left (λ q. Left q × ¬ (IsCutOn ds (Arc arc) Rapid q)) (λ q h. h.0) m bounds
motion_keeps s ds t (Arc arc) (Feed f) grid old new Left stock m bounds =
    arcs_keep s ds arc grid (λ q. Left q × ¬ (IsCutOn ds (Arc arc) (Feed f) q)) (λ q h. stock q h.0) (λ q h. h.1) old new m
    (fewer s old Left (λ q. Left q × ¬ (IsCutOn ds (Arc arc) (Feed f) q)) (λ q h. h.0) bounds)

pub step_keeps : (s : Stock) (ds : List Cylinder) (tool : Option Tool) (action : Action) (grid : IsGrid s.grid) (old new : List ℕ) (Left : Point3 → Type 0) →
    ((q : Point3) → Left q → IsInStock s q) → IsStep s ds tool action old new → AreBounds s old Left → AreBounds s new (λ q. Left q × ¬ (IsCutIn ds tool action q))
step_keeps s ds None action grid old new Left stock m bounds = same_heights s old new Left (λ q. Left q × ¬ (IsCutIn ds None action q)) (λ q h. h.0) m bounds
step_keeps s ds (Some t) (Move m) grid old new Left stock h bounds = motion_keeps s ds t m.way m.pace grid old new Left stock h bounds
step_keeps s ds (Some t) (Mount x) grid old new Left stock m bounds = same_heights s old new Left (λ q. Left q × ¬ (IsCutIn ds (Some t) (Mount x) q)) (λ q h. h.0) m bounds
step_keeps s ds (Some t) (Dwell x) grid old new Left stock m bounds = same_heights s old new Left (λ q. Left q × ¬ (IsCutIn ds (Some t) (Dwell x) q)) (λ q h. h.0) m bounds
step_keeps s ds (Some t) (Spindle x) grid old new Left stock m bounds = same_heights s old new Left (λ q. Left q × ¬ (IsCutIn ds (Some t) (Spindle x) q)) (λ q h. h.0) m bounds
step_keeps s ds (Some t) (Coolant x) grid old new Left stock m bounds = same_heights s old new Left (λ q. Left q × ¬ (IsCutIn ds (Some t) (Coolant x) q)) (λ q h. h.0) m bounds
step_keeps s ds (Some t) (Override x) grid old new Left stock m bounds = same_heights s old new Left (λ q. Left q × ¬ (IsCutIn ds (Some t) (Override x) q)) (λ q h. h.0) m bounds
step_keeps s ds (Some t) Stop grid old new Left stock m bounds = same_heights s old new Left (λ q. Left q × ¬ (IsCutIn ds (Some t) Stop q)) (λ q h. h.0) m bounds
step_keeps s ds (Some t) OptionalStop grid old new Left stock m bounds = same_heights s old new Left (λ q. Left q × ¬ (IsCutIn ds (Some t) OptionalStop q)) (λ q h. h.0) m bounds
step_keeps s ds (Some t) End grid old new Left stock m bounds = same_heights s old new Left (λ q. Left q × ¬ (IsCutIn ds (Some t) End q)) (λ q h. h.0) m bounds

-- ---- a traverse that isn't reported

some_pieces : (v : Bool) (h : ℕ) → 0 < cond v (min 1000 (h / 50000 + 1)) 1
some_pieces true h = omega arith
some_pieces false h = omega arith

one_safe : (s : Stock) (t : Cylinder) (a b : Point3) (grid : IsGrid s.grid) (heights : List ℕ) (Left : Point3 → Type 0) →
    ((q : Point3) → Left q → IsInStock s q) → IsClear s t a b heights → AreBounds s heights Left → MeetsNone s Left t a b
one_safe s t a b grid heights Left stock clear bounds = record {
  line = λ n k some small q left. clear_line s t a b grid heights Left stock bounds clear (some_pieces (is_slope a b) (height_of a b)) n k some small q left;
  end = λ q left. clear_end s t a b grid heights Left stock bounds clear q left;
}

-- each disc
discs_safe : (s : Stock) (ds : List Cylinder) (a b : Point3) (grid : IsGrid s.grid) (heights : List ℕ) (Left : Point3 → Type 0) →
    ((q : Point3) → Left q → IsInStock s q) → AreDiscsClear s ds a b heights → AreBounds s heights Left → DiscsMeetNone s Left ds a b
discs_safe s [] a b grid heights Left stock clear bounds = tt
discs_safe s (d ∷ ds) a b grid heights Left stock clear bounds =
    (one_safe s d a b grid heights Left stock clear.0 bounds, discs_safe s ds a b grid heights Left stock clear.1 bounds)

-- each part above the cutter
pub parts_safe : (s : Stock) (t : Tool) (a b : Point3) (grid : IsGrid s.grid) (heights : List ℕ) (Left : Point3 → Type 0) →
    ((q : Point3) → Left q → IsInStock s q) → AreClear s t a b heights → AreBounds s heights Left → MeetNone s Left t a b
parts_safe s t a b grid heights Left stock clear bounds =
    λ p above less. one_safe s (lowest_part (from_part t p)) a b grid heights Left stock (clear p above less) bounds

way_safe : (s : Stock) (ds : List Cylinder) (t : Tool) (way : Way) (pace : Pace) (grid : IsGrid s.grid) (old new : List ℕ) (Left : Point3 → Type 0) →
    ((q : Point3) → Left q → IsInStock s q) → IsMotion s ds t way pace old new → AreBounds s old Left → IsSafeOn s Left ds t way pace
way_safe s ds t (Line a b) Rapid grid old new Left stock m bounds = (discs_safe s ds a b grid old Left stock m.0.0 bounds, parts_safe s t a b grid old Left stock m.0.1 bounds)
way_safe s ds t (Line a b) (Feed f) grid old new Left stock m bounds = tt
way_safe s ds t (Arc arc) pace grid old new Left stock m bounds = tt

step_safe : (s : Stock) (ds : List Cylinder) (tool : Option Tool) (action : Action) (grid : IsGrid s.grid) (old new : List ℕ) (Left : Point3 → Type 0) →
    ((q : Point3) → Left q → IsInStock s q) → IsStep s ds tool action old new → AreBounds s old Left → IsSafe s Left ds tool action
step_safe s ds None action grid old new Left stock m bounds = tt
step_safe s ds (Some t) (Move m) grid old new Left stock h bounds = way_safe s ds t m.way m.pace grid old new Left stock h bounds
step_safe s ds (Some t) (Mount x) grid old new Left stock m bounds = tt
step_safe s ds (Some t) (Dwell x) grid old new Left stock m bounds = tt
step_safe s ds (Some t) (Spindle x) grid old new Left stock m bounds = tt
step_safe s ds (Some t) (Coolant x) grid old new Left stock m bounds = tt
step_safe s ds (Some t) (Override x) grid old new Left stock m bounds = tt
step_safe s ds (Some t) Stop grid old new Left stock m bounds = tt
step_safe s ds (Some t) OptionalStop grid old new Left stock m bounds = tt
step_safe s ds (Some t) End grid old new Left stock m bounds = tt

less_met : (s : Stock) (t : Cylinder) (a b : Point3) (Left Less : Point3 → Type 0) → ((q : Point3) → Less q → Left q) → MeetsNone s Left t a b → MeetsNone s Less t a b
less_met s t a b Left Less f h = record { line = λ n k some small q left. h.line n k some small q (f q left); end = λ q left. h.end q (f q left) }

discs_fewer : (s : Stock) (ds : List Cylinder) (a b : Point3) (Left Less : Point3 → Type 0) → ((q : Point3) → Less q → Left q) →
    DiscsMeetNone s Left ds a b → DiscsMeetNone s Less ds a b
discs_fewer s [] a b Left Less f h = tt
discs_fewer s (d ∷ ds) a b Left Less f h = (less_met s d a b Left Less f h.0, discs_fewer s ds a b Left Less f h.1)

way_fewer : (s : Stock) (ds : List Cylinder) (t : Tool) (way : Way) (pace : Pace) (Left Less : Point3 → Type 0) → ((q : Point3) → Less q → Left q) → IsSafeOn s Left ds t way pace → IsSafeOn s Less ds t way pace
way_fewer s ds t (Line a b) Rapid Left Less f h =
    (discs_fewer s ds a b Left Less f h.0, λ p above less. less_met s (lowest_part (from_part t p)) a b Left Less f (h.1 p above less))
way_fewer s ds t (Line a b) (Feed x) Left Less f h = tt
way_fewer s ds t (Arc arc) pace Left Less f h = tt

safe_fewer : (s : Stock) (ds : List Cylinder) (tool : Option Tool) (action : Action) (Left Less : Point3 → Type 0) → ((q : Point3) → Less q → Left q) → IsSafe s Left ds tool action → IsSafe s Less ds tool action
safe_fewer s ds None action Left Less f h = tt
safe_fewer s ds (Some t) (Move m) Left Less f h = way_fewer s ds t m.way m.pace Left Less f h
safe_fewer s ds (Some t) (Mount x) Left Less f h = tt
safe_fewer s ds (Some t) (Dwell x) Left Less f h = tt
safe_fewer s ds (Some t) (Spindle x) Left Less f h = tt
safe_fewer s ds (Some t) (Coolant x) Left Less f h = tt
safe_fewer s ds (Some t) (Override x) Left Less f h = tt
safe_fewer s ds (Some t) Stop Left Less f h = tt
safe_fewer s ds (Some t) OptionalStop Left Less f h = tt
safe_fewer s ds (Some t) End Left Less f h = tt

-- ---- all commands before it

all_before : (s : Stock) (table : List ToolLimits) (grid : IsGrid s.grid) (before later : List Command) (c : Command) (r : Reached) (heights : List ℕ) (Left : Point3 → Type 0) →
    ((q : Point3) → Left q → IsInStock s q) → AreBounds s heights Left → IsSilent s table r heights (before ++ c ∷ later) →
    IsSafe s (λ q. Left q × ¬ (IsCutInAny table r before q)) (discs_in table (after_all r before).tool) (after_all r before).tool c.action
all_before s table grid [] later c r heights Left stock bounds silent =
    step_safe s (discs_in table r.tool) r.tool c.action grid heights silent.0 (λ q. Left q × ¬ (IsCutInAny table r [] q)) (λ q h. stock q h.0) silent.1
    (fewer s heights Left (λ q. Left q × ¬ (IsCutInAny table r [] q)) (λ q h. h.0) bounds)
all_before s table grid (b ∷ before) later c r heights Left stock bounds silent =
    let Next : Point3 → Type 0 = λ q. Left q × ¬ (IsCutIn (discs_in table r.tool) r.tool b.action q) in
    let kept = step_keeps s (discs_in table r.tool) r.tool b.action grid heights silent.0 Left stock silent.1 bounds in
    let rest = all_before s table grid before later c (after r b.action) silent.0 Next (λ q h. stock q h.0) kept silent.2 in
    safe_fewer s (discs_in table (after_all r (b ∷ before)).tool) (after_all r (b ∷ before)).tool c.action
    (λ q. Next q × ¬ (IsCutInAny table (after r b.action) before q)) (λ q. Left q × ¬ (IsCutInAny table r (b ∷ before) q))
    (λ q h. ((h.0, λ i. h.1 (inl i)), λ i. h.1 (inr i))) rest

pub at_first : (s : Stock) → AreBounds s (uncut s) (IsInStock s)
at_first s = record {
  count = length-replicate (s.grid.columns * s.grid.rows) s.height;
  each = λ k small q h i.
      let less : k < s.grid.columns * s.grid.rows = subst (λ (n : ℕ). k < n) (length-replicate (s.grid.columns * s.grid.rows) s.height) small in
      let e = get_or-replicate (s.grid.columns * s.grid.rows) k s.height 0 less in
      subst (λ (z : ℕ). q.z <ℤ (s.bottom +ℤ pos z)) (sym e) h.top;
}

pub silence : Silence
silence s table r before later c grid silent =
    safe_fewer s (discs_in table (after_all r before).tool) (after_all r before).tool c.action
    (λ q. IsInStock s q × ¬ (IsCutInAny table r before q)) (IsLeft s table r before) (λ q h. (h.stock, h.uncut))
    (all_before s table grid before later c r (uncut s) (IsInStock s) (λ q h. h) (at_first s) silent)
