use Rattle.std.proofs.Common.{◌≡◌, ◌*◌, ℕ, max, arith}
use Rattle.ngc_machine_files.specs.Machine.{MachineFile}
use Rattle.ngc_commands.specs.declared.movement.Feed.{Feed}
use Rattle.ngc_commands.specs.declared.movement.Feed.TheVariants.{PerMinute, Inverse}
use Rattle.ngc_commands.specs.declared.movement.Pace.TheVariants as paces
use Rattle.ngc_commands.specs.declared.movement.Way.{Way}
use Rattle.ngc_commands.specs.declared.movement.Way.TheVariants.{Line, Arc}
use Rattle.ngc_fixed_length.specs.Limits.{MILLION}
use Rattle.ngc_planner.specs.Caps.{KeepsLineFeed, KeepsMotionFeed, length_between, line_cap, feed_cap}
use Rattle.ngc_planner.proofs.CapLaws.{below_quotient}
use Rattle.ngc_planner.proofs.caps.cap_of.Goals as goal

keeps_line : (hz n length : ℕ) (f : Feed) (cap : ℕ) → cap ≡ max (line_cap hz n length f) 1 → KeepsLineFeed hz n length f cap
keeps_line hz n length (PerMinute f) cap h =
    λ some v low. let below = below_quotient (n * f * MILLION) (length * 60 * hz) v some (omega arith) in omega (arith, below)
keeps_line hz n length (Inverse f) cap h = tt

keeps_feed : (m : MachineFile) (w : Way) (n : ℕ) (f : Feed) (cap : ℕ) → cap ≡ max (feed_cap w n f m) 1 → KeepsMotionFeed m w (paces.Feed f) n cap
keeps_feed m (Line b e) n f cap h = keeps_line m.ticks_per_second n (length_between b e) f cap h
keeps_feed m (Arc a) n f cap h = tt

pub returns-in-Feed-clause-slow : goal.returns-in-Feed-clause-slow
returns-in-Feed-clause-slow g c =
    let value = rw c.feed_cap.ensures.value at c.max.ensures in
    rw (c.in-Move.is, c.in-Feed.is) (keeps_feed _ _ _ _ _ value)
