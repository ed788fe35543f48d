-- Joints over a window, by evaluating the definitions.
use Rattle.std.proofs.Common.{◌≡◌, ℕ, zero, suc, ◌+◌, pos, negsuc, Bool, true, false, Some, List, [], ◌∷◌, refl}
use Rattle.ngc_fixed_length.specs.Roots.{whole_root}
use Rattle.ngc_fixed_length.specs.declared.modes.Turn.TheVariants.{Counterclockwise}
use Rattle.ngc_fixed_length.specs.declared.points.Point3.{Point3}
use Rattle.ngc_machine_files.specs.Machine.{MachineFile}
use Rattle.ngc_commands.specs.declared.command.Action.TheVariants.{Move, Dwell}
use Rattle.ngc_commands.specs.declared.command.Command.{Command}
use Rattle.ngc_commands.specs.declared.movement.Pace.TheVariants as paces
use Rattle.ngc_commands.specs.declared.movement.Way.{Way}
use Rattle.ngc_commands.specs.declared.movement.Way.TheVariants as ways
use Rattle.ngc_planner.specs.Joints.{joint_at}
use Rattle.ngc_planner.proofs.Examples.{at, jumping, from_left, bow}

-- the built-in machine, with a corner of 5,000 and a jump of 20,000
abbrev turning : ℕ → MachineFile
turning turn = record (jumping 20000) { turn = turn }

abbrev command : Way → Bool → Command
command way stop = record { line = 1; action = Move (record { way = way; pace = paces.Rapid; stop = stop }) }

abbrev straight : Point3 → Point3 → Command
straight start end = command (ways.Line start end) false

abbrev stopping : Point3 → Point3 → Command
stopping start end = command (ways.Line start end) true

-- along x, and then along y, back, or straight on
window_right : joint_at (turning 100000000) (straight (at (pos 0) (pos 0) (pos 0)) (at (pos 1000000) (pos 0) (pos 0))
    ∷ straight (at (pos 1000000) (pos 0) (pos 0)) (at (pos 1000000) (pos 1000000) (pos 0)) ∷ []) 0 ≡ 20000
unfolding whole_root
window_right = refl

window_reversed : joint_at (turning 100000000) (straight (at (pos 0) (pos 0) (pos 0)) (at (pos 1000000) (pos 0) (pos 0))
    ∷ straight (at (pos 1000000) (pos 0) (pos 0)) (at (pos 0) (pos 0) (pos 0)) ∷ []) 0 ≡ 10000
unfolding whole_root
window_reversed = refl

window_onward : joint_at (turning 100000000) (straight (at (pos 0) (pos 0) (pos 0)) (at (pos 1000000) (pos 0) (pos 0))
    ∷ straight (at (pos 1000000) (pos 0) (pos 0)) (at (pos 3000000) (pos 0) (pos 0)) ∷ []) 0 ≡ 1000000
unfolding whole_root
window_onward = refl

-- the last command has no joint after it, and an action that is no motion has none
window_last : joint_at (turning 100000000) (straight (at (pos 0) (pos 0) (pos 0)) (at (pos 1000000) (pos 0) (pos 0)) ∷ []) 0 ≡ 1000000
unfolding whole_root
window_last = refl

window_dwell : joint_at (turning 100000000) (straight (at (pos 0) (pos 0) (pos 0)) (at (pos 1000000) (pos 0) (pos 0))
    ∷ record { line = 2; action = Dwell 1000000 } ∷ straight (at (pos 1000000) (pos 0) (pos 0)) (at (pos 1000000) (pos 1000000) (pos 0)) ∷ []) 0 ≡ 1000000
unfolding whole_root
window_dwell = refl

-- eight chords of ten steps each, each of which turns by a tenth. From the first to the last
-- heading there are eight tenths over seventy steps, and 106872^2 * 800000 ≤ 10^6 * (20000 * 106872
-- + 10^8 * 70)
abbrev chords : Command → List Command
chords fifth =
    straight (at (pos 0) (pos 0) (pos 0)) (at (pos 100000) (pos 0) (pos 0))
    ∷ straight (at (pos 100000) (pos 0) (pos 0)) (at (pos 200000) (pos 10000) (pos 0))
    ∷ straight (at (pos 200000) (pos 10000) (pos 0)) (at (pos 300000) (pos 30000) (pos 0))
    ∷ straight (at (pos 300000) (pos 30000) (pos 0)) (at (pos 400000) (pos 60000) (pos 0))
    ∷ fifth
    ∷ straight (at (pos 500000) (pos 100000) (pos 0)) (at (pos 600000) (pos 150000) (pos 0))
    ∷ straight (at (pos 600000) (pos 150000) (pos 0)) (at (pos 700000) (pos 210000) (pos 0))
    ∷ straight (at (pos 700000) (pos 210000) (pos 0)) (at (pos 800000) (pos 280000) (pos 0))
    ∷ straight (at (pos 800000) (pos 280000) (pos 0)) (at (pos 900000) (pos 360000) (pos 0))
    ∷ []

window_chords : joint_at (turning 100000000) (chords (straight (at (pos 400000) (pos 60000) (pos 0)) (at (pos 500000) (pos 100000) (pos 0)))) 7 ≡ 106872
unfolding whole_root
window_chords = refl

-- only the first two, where the jump counts, and the first three, with two tenths over ten steps
window_first : joint_at (turning 100000000) (chords (straight (at (pos 400000) (pos 60000) (pos 0)) (at (pos 500000) (pos 100000) (pos 0)))) 0 ≡ 200000
unfolding whole_root
window_first = refl

window_second : joint_at (turning 100000000) (chords (straight (at (pos 400000) (pos 60000) (pos 0)) (at (pos 500000) (pos 100000) (pos 0)))) 1 ≡ 136602
unfolding whole_root
window_second = refl

-- a stop at the end of the fifth ends the window: three tenths over twenty steps remain
window_stop : joint_at (turning 100000000) (chords (stopping (at (pos 400000) (pos 60000) (pos 0)) (at (pos 500000) (pos 100000) (pos 0)))) 7 ≡ 121525
unfolding whole_root
window_stop = refl

-- a dwell in its place does so too, and a motion without path steps
window_pause : joint_at (turning 100000000) (chords (record { line = 1; action = Dwell 1000000 })) 7 ≡ 121525
unfolding whole_root
window_pause = refl

window_still : joint_at (turning 100000000) (chords (straight (at (pos 500000) (pos 99000) (pos 0)) (at (pos 500000) (pos 100000) (pos 0)))) 7 ≡ 121525
unfolding whole_root
window_still = refl

-- ten steps after a right angle the path continues straight: a million millionths over ten steps
window_corner : joint_at (turning 1000000000) (straight (at (pos 0) (pos 0) (pos 0)) (at (pos 1000000) (pos 0) (pos 0))
    ∷ straight (at (pos 1000000) (pos 0) (pos 0)) (at (pos 1000000) (pos 100000) (pos 0))
    ∷ straight (at (pos 1000000) (pos 100000) (pos 0)) (at (pos 1000000) (pos 2000000) (pos 0)) ∷ []) 1 ≡ 110498
unfolding whole_root
window_corner = refl

-- ---- each axis has a turn of its own. The values were computed by an independent program

abbrev turning_by : ℕ → ℕ → ℕ → MachineFile
turning_by x y z = record (turning 1000000000) {
  own = Some (record {
    changes = record { x = 1000; y = 1000; z = 1000 };
    turns = record { x = x; y = y; z = z };
  });
}

-- the heading of the chords changes on y alone, and only the turn of y matters
window_weak_others : joint_at (turning_by 1000000 100000000 1000000) (chords (straight (at (pos 400000) (pos 60000) (pos 0)) (at (pos 500000) (pos 100000) (pos 0)))) 7 ≡ 106872
unfolding whole_root
window_weak_others = refl

-- 56160^2 * 800000 ≤ 10^6 * (20000 * 56160 + 2 * 10^7 * 70)
window_weak_y : joint_at (turning_by 100000000 20000000 100000000) (chords (straight (at (pos 400000) (pos 60000) (pos 0)) (at (pos 500000) (pos 100000) (pos 0)))) 7 ≡ 56160
unfolding whole_root
window_weak_y = refl

-- after a right angle from x to y both of them count, and z does not
abbrev right_angle : List Command
right_angle =
    straight (at (pos 0) (pos 0) (pos 0)) (at (pos 1000000) (pos 0) (pos 0))
    ∷ straight (at (pos 1000000) (pos 0) (pos 0)) (at (pos 1000000) (pos 100000) (pos 0))
    ∷ straight (at (pos 1000000) (pos 100000) (pos 0)) (at (pos 1000000) (pos 2000000) (pos 0)) ∷ []

window_weak_z : joint_at (turning_by 1000000000 1000000000 1000000) right_angle 1 ≡ 110498
unfolding whole_root
window_weak_z = refl

window_weak_x : joint_at (turning_by 100000000 1000000000 1000000000) right_angle 1 ≡ 43166
unfolding whole_root
window_weak_x = refl

-- an axis has no greater turn than the machine
window_of_the_machine : joint_at (record (turning_by 1000000000 1000000000 1000000000) { turn = 100000000 }) right_angle 1 ≡ 43166
unfolding whole_root
window_of_the_machine = refl

-- ---- arcs

-- A quarter of a circle of 500 steps from x to y, and ten steps on: a million millionths over 510
-- steps, and 236053^2 * 10^6 ≤ 10^6 * 20000 * 236053 + 10^8 * 510 * 10^6. The arc turns by a
-- million, which is one radius; its chord is 500 steps too.
window_arc : joint_at (turning 100000000) (command from_left false ∷ command (ways.Arc (bow Counterclockwise (pos 5000000))) false
    ∷ straight (at (pos 5000000) (pos 5000000) (pos 0)) (at (pos 5000000) (pos 5100000) (pos 0))
    ∷ straight (at (pos 5000000) (pos 5100000) (pos 0)) (at (pos 5000000) (pos 9000000) (pos 0)) ∷ []) 2 ≡ 236053
unfolding whole_root
window_arc = refl

-- at the end of the arc itself there are 500 steps
window_quarter : joint_at (turning 100000000) (command from_left false ∷ command (ways.Arc (bow Counterclockwise (pos 5000000))) false
    ∷ straight (at (pos 5000000) (pos 5000000) (pos 0)) (at (pos 5000000) (pos 5100000) (pos 0)) ∷ []) 1 ≡ 233830
unfolding whole_root
window_quarter = refl

-- a line along y, a whole circle from x to x, and a line along x: the circle counts two radii
window_circle : joint_at (turning 100000000) (straight (at (pos 0) (negsuc 999999) (pos 0)) (at (pos 0) (pos 0) (pos 0))
    ∷ command (ways.Arc (record (bow Counterclockwise (pos 5000000)) { end = at (pos 0) (pos 0) (pos 0) })) false
    ∷ straight (at (pos 0) (pos 0) (pos 0)) (at (pos 1000000) (pos 0) (pos 0)) ∷ []) 1 ≡ 326385
unfolding whole_root
window_circle = refl

-- a line along x, and then steps along y: the window of 32 motions still includes the line, and the
-- next one does not
abbrev upward : ℕ → ℕ → List Command
upward zero y = []
upward (suc n) y = straight (at (pos 1000000) (pos y) (pos 0)) (at (pos 1000000) (pos (y + 10000)) (pos 0)) ∷ upward n (y + 10000)

window_long : joint_at (turning 100000000) (straight (at (pos 0) (pos 0) (pos 0)) (at (pos 1000000) (pos 0) (pos 0)) ∷ upward 34 0) 31 ≡ 66568
unfolding whole_root
window_long = refl

window_past : joint_at (turning 100000000) (straight (at (pos 0) (pos 0) (pos 0)) (at (pos 1000000) (pos 0) (pos 0)) ∷ upward 34 0) 32 ≡ 1000000
unfolding whole_root
window_past = refl

-- with a ring of 33 it does, after 32 steps
window_of_ring : joint_at (record (turning 100000000) { ring = 33 }) (straight (at (pos 0) (pos 0) (pos 0)) (at (pos 1000000) (pos 0) (pos 0)) ∷ upward 34 0) 32 ≡ 67445
unfolding whole_root
window_of_ring = refl
