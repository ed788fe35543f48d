-- Straight motions (NISTIR 6556, 3.5.1 G0, 3.5.2 G1), and their feeds (2.1.2.5, 3.5.19 G93 and
-- G94).
use Rattle.std.specs.Prelude.{ℕ, ◌==◌, ℤ, unsigned_abs, Option, Some, None, Result, Ok, Err, Bool}
use Rattle.std.specs.Prelude.{if◌then◌else◌}
use Rattle.ngc_fixed_length.specs.declared.modes.FeedMode.{FeedMode}
use Rattle.ngc_fixed_length.specs.declared.modes.FeedMode.TheVariants.{PerMinute, InverseTime}
use Rattle.ngc_modal_state.specs.declared.block.AxisWords.{AxisWords}
use Rattle.ngc_canonical.specs.declared.fault.Fault.{Fault}
use Rattle.ngc_canonical.specs.declared.fault.Fault.TheVariants.{FeedZero}
use Rattle.ngc_commands.specs.declared.movement.Feed.{Feed}
use Rattle.ngc_commands.specs.declared.movement.Feed.TheVariants as feeds
use Rattle.ngc_commands.specs.declared.movement.Pace.TheVariants as paces
use Rattle.ngc_commands.specs.declared.movement.Way.TheVariants.{Line}
use Rattle.ngc_canonical.specs.Steps.{◌>>=◌}
use Rattle.ngc_canonical.specs.State.{State, go, traverse_to}
use Rattle.ngc_canonical.specs.Places.{end_of}

abbrev pub traverse : Bool → AxisWords → State → Result State Fault
traverse is_machine_place words s = do
  end ← end_of is_machine_place s words
  traverse_to end s

-- a feed that isn't zero
abbrev pub nonzero : (ℕ → Feed) → ℕ → Result Feed Fault
nonzero feed n = if n == 0 then Err FeedZero else Ok (feed n)

-- in inverse time it is the line's F
abbrev pub inverse_feed : Option ℤ → Result Feed Fault
inverse_feed None = Err FeedZero
inverse_feed (Some v) = nonzero feeds.Inverse (unsigned_abs v)

abbrev pub feed_in : FeedMode → ℕ → Option ℤ → Result Feed Fault
feed_in PerMinute feed f = nonzero feeds.PerMinute feed
feed_in InverseTime feed f = inverse_feed f

abbrev pub straight : Bool → AxisWords → Option ℤ → State → Result State Fault
straight is_machine_place words f s = do
  feed ← feed_in s.modes.feed_mode s.feed f
  end ← end_of is_machine_place s words
  go (Line s.place end) (paces.Feed feed) s
