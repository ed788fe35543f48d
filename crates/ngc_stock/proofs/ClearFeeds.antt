-- The law of feeds whose upper parts are clear.
use Rattle.std.proofs.Common.{◌≡◌, ℕ, ◌≤◌, ◌⊎◌, min, ℤ, pos, negsuc, ◌+ℤ◌, ◌-ℤ◌, ◌≤ℤ◌, ◌<ℤ◌, inl, inr, sym, subst, arith, List, [], ◌∷◌, ◌++◌, Option, Some, None}
use Rattle.std.proofs.lemmas.Int.{ints}
use Rattle.ngc_fixed_length.specs.declared.points.Point2.{Point2}
use Rattle.ngc_fixed_length.specs.declared.points.Point3.{Point3}
use Rattle.ngc_file_figures.specs.declared.limits.ToolLimits.{ToolLimits}
use Rattle.ngc_machine_files.specs.declared.tools.Tool.{Tool}
use Rattle.ngc_commands.specs.declared.command.Action.{Action}
use Rattle.ngc_commands.specs.declared.command.Action.TheVariants.{Move, Mount, Dwell, Spindle, Coolant, Override, Stop, OptionalStop, End}
use Rattle.ngc_commands.specs.declared.command.Command.{Command}
use Rattle.ngc_commands.specs.declared.movement.Way.{Way}
use Rattle.ngc_commands.specs.declared.movement.Way.TheVariants.{Line, Arc}
use Rattle.ngc_commands.specs.declared.movement.Pace.{Pace}
use Rattle.ngc_commands.specs.declared.movement.Pace.TheVariants.{Rapid, Feed}
use Rattle.ngc_commands.specs.declared.reached.Reached.{Reached}
use Rattle.ngc_commands.specs.Reached.{after, after_all}
use Rattle.ngc_arc_geometry.specs.Shape.{ArcShape}
use Rattle.ngc_cells.specs.Grids.{IsGrid}
use Rattle.ngc_stock.specs.declared.stock.Stock.{Stock}
use Rattle.ngc_stock.specs.Arcs.{low_at, AreChords, AreAlong}
use Rattle.ngc_stock.specs.Stocks.{IsInStock, sigma, lowest_part, from_part, natural_of}
use Rattle.ngc_stock.specs.Discs.{discs_in}
use Rattle.ngc_stock.specs.Walk.{AreClear, IsCutIn, IsCutInAny, IsLeft, MeetNone, uncut}
use Rattle.ngc_stock.specs.Feeds.{raised_foot, AreAbove, AreUnder, IsFeedClearOn, IsFeedClear, AreAfter, IsSafeFeedOn, IsSafeFeed, ClearFeed}
use Rattle.ngc_stock.proofs.Bounds.{AreBounds, fewer}
use Rattle.ngc_stock.proofs.Silences.{step_keeps, parts_safe, at_first}

-- the heights after some commands bound what they have left
pub after_bounds : (s : Stock) (table : List ToolLimits) (grid : IsGrid s.grid) (commands : List Command) (r : Reached) (old new : List ℕ) (Left : Point3 → Type 0) →
    ((q : Point3) → Left q → IsInStock s q) → AreBounds s old Left → AreAfter s table r old commands new → AreBounds s new (λ q. Left q × ¬ (IsCutInAny table r commands q))
after_bounds s table grid [] r old new Left stock bounds e =
    subst (λ (l : List ℕ). AreBounds s l (λ q. Left q × ¬ (IsCutInAny table r [] q))) (sym e) (fewer s old Left (λ q. Left q × ¬ (IsCutInAny table r [] q)) (λ q h. h.0) bounds)
after_bounds s table grid (c ∷ cs) r old new Left stock bounds walk =
    let Next : Point3 → Type 0 = λ q. Left q × ¬ (IsCutIn (discs_in table r.tool) r.tool c.action q) in
    let kept = step_keeps s (discs_in table r.tool) r.tool c.action grid old walk.0 Left stock walk.1 bounds in
    let rest = after_bounds s table grid cs (after r c.action) walk.0 new Next (λ q h. stock q h.0) kept walk.2 in
    fewer s new (λ q. Next q × ¬ (IsCutInAny table (after r c.action) cs q)) (λ q. Left q × ¬ (IsCutInAny table r (c ∷ cs) q))
    (λ q h. ((h.0, λ i. h.1 (inl i)), λ i. h.1 (inr i))) rest

-- what holds along chords, if another property follows
chords_then : (a : ArcShape) (room : ℕ) (P Q : Point3 → Point3 → Type 0) → ((p q : Point3) → P p q → Q p q) → (d : Point2) (ms : List Point2) (e : Point2) →
    AreChords a room P d ms e → AreChords a room Q d ms e
chords_then a room P Q f d [] e h = h
chords_then a room P Q f d (m ∷ ms) e h = (h.0, h.1, f (low_at a d) (low_at a m) h.2, chords_then a room P Q f m ms e h.3)

along_then : (a : ArcShape) (room : ℕ) (P Q : Point3 → Point3 → Type 0) → ((p q : Point3) → P p q → Q p q) → AreAlong a room P → AreAlong a room Q
along_then a room P Q f h = record {
  halfway = h.halfway;
  before = h.before;
  after = h.after;
  round = h.round;
  first = chords_then a room P Q f _ h.before h.halfway h.first;
  last = chords_then a room P Q f h.halfway h.after _ h.last;
}

above_bottom : (height : ℕ) (d : ℤ) → height ≤ min height (natural_of d) → (pos height ≤ℤ d) ⊎ (height ≡ 0)
above_bottom height (pos n) h = inl (omega (arith, ints, h))
above_bottom height (negsuc n) h = inr (omega (arith, h))

-- a point of the stock is lower than a height that is at least as high as the stock's top
under : (height : ℕ) (bottom z q : ℤ) → height ≤ min height (natural_of (z -ℤ bottom)) → bottom ≤ℤ q → q <ℤ (bottom +ℤ pos height) → q <ℤ z
under height bottom z q h low top =
    elim (above_bottom height (z -ℤ bottom) h) [
      | inl e ↦ omega (arith, ints, e, top)
      | inr e ↦ absurd (omega (arith, ints, e, low, top))
    ]

above_under : (s : Stock) (t : Tool) (a : ArcShape) (Left : Point3 → Type 0) → ((q : Point3) → Left q → IsInStock s q) → AreAbove s t a → AreUnder s Left t a
above_under s t a Left stock h p some less q left =
    under s.height s.bottom (raised_foot s (lowest_part (from_part t p)) a) q.z (h p some less) (stock q left).bottom (stock q left).top

way_safe : (s : Stock) (t : Tool) (way : Way) (pace : Pace) (grid : IsGrid s.grid) (heights : List ℕ) (Left : Point3 → Type 0) →
    ((q : Point3) → Left q → IsInStock s q) → IsFeedClearOn s t way pace heights → AreBounds s heights Left → IsSafeFeedOn s Left t way pace
way_safe s t (Line a b) Rapid grid heights Left stock clear bounds = tt
way_safe s t (Line a b) (Feed f) grid heights Left stock clear bounds = parts_safe s t a b grid heights Left stock clear bounds
way_safe s t (Arc arc) Rapid grid heights Left stock clear bounds = tt
way_safe s t (Arc arc) (Feed f) grid heights Left stock clear bounds =
    λ plane. elim (clear plane) [
      | inl h ↦ inl (along_then arc (sigma s.grid) (λ a b. AreClear s t a b heights) (λ a b. MeetNone s Left t a b)
          (λ a b i. parts_safe s t a b grid heights Left stock i bounds) h)
      | inr h ↦ inr (above_under s t arc Left stock h)
    ]

feed_safe : (s : Stock) (tool : Option Tool) (action : Action) (grid : IsGrid s.grid) (heights : List ℕ) (Left : Point3 → Type 0) →
    ((q : Point3) → Left q → IsInStock s q) → IsFeedClear s tool action heights → AreBounds s heights Left → IsSafeFeed s Left tool action
feed_safe s None action grid heights Left stock clear bounds = tt
feed_safe s (Some t) (Move m) grid heights Left stock clear bounds = way_safe s t m.way m.pace grid heights Left stock clear bounds
feed_safe s (Some t) (Mount x) grid heights Left stock clear bounds = tt
feed_safe s (Some t) (Dwell x) grid heights Left stock clear bounds = tt
feed_safe s (Some t) (Spindle x) grid heights Left stock clear bounds = tt
feed_safe s (Some t) (Coolant x) grid heights Left stock clear bounds = tt
feed_safe s (Some t) (Override x) grid heights Left stock clear bounds = tt
feed_safe s (Some t) Stop grid heights Left stock clear bounds = tt
feed_safe s (Some t) OptionalStop grid heights Left stock clear bounds = tt
feed_safe s (Some t) End grid heights Left stock clear bounds = tt

pub clear_feed : ClearFeed
clear_feed s table r before c heights grid walk clear =
    let bounds = after_bounds s table grid (before ++ c ∷ []) r (uncut s) heights (IsInStock s) (λ q h. h) (at_first s) walk in
    feed_safe s (after_all r before).tool c.action grid heights (IsLeft s table r (before ++ c ∷ [])) (λ q h. h.stock) clear
    (fewer s heights (λ q. IsInStock s q × ¬ (IsCutInAny table r (before ++ c ∷ []) q)) (IsLeft s table r (before ++ c ∷ [])) (λ q h. (h.stock, h.uncut)) bounds)
