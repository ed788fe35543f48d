-- The greatest number of steps by which an interval can grow, found action by action.
use Rattle.std.proofs.Common.{◌≡◌, ℕ, zero, suc, ◌+◌, ◌<◌, ◌≤◌, ℤ, ◌≤ℤ◌, refl, ap, sym, subst, ◌∙◌, arith, List, [], ◌∷◌, Some, None, true, false, length, drop, get_or}
use Rattle.std.specs.Prelude.{Bool, IsTrue, Option, nat_lt, ◌&&◌}
use Rattle.std.specs.List.{slice_get}
use Rattle.std.specs.Option.{is_some}
use Rattle.std.proofs.lemmas.Bool.Decides.{nat_tests}
use Rattle.std.proofs.lemmas.Int.{ints}
use Rattle.ngc_fixed_length.specs.Length.{IsStep}
use Rattle.ngc_fixed_length.specs.Grid.{grid}
use Rattle.ngc_fixed_length.specs.declared.points.GridBox.{GridBox}
use Rattle.ngc_fixed_length.specs.declared.points.StepPos.{StepPos}
use Rattle.ngc_machine_files.specs.Machine.{MachineFile}
use Rattle.ngc_commands.specs.declared.command.Action.{Action}
use Rattle.ngc_commands.specs.declared.command.Command.{Command}
use Rattle.ngc_commands.specs.declared.reached.Reached.{Reached}
use Rattle.ngc_commands.specs.Movement.{actions_of}
use Rattle.ngc_commands.specs.Reached.{after, at_start}
use Rattle.ngc_certificate.specs.PieceFault.{place_fault}
use Rattle.ngc_certificate.proofs.TrueTests.{both, and}
use Rattle.ngc_place.specs.Shifts.{shifts_along, end_moves}
use Rattle.ngc_place.specs.Holds.{action_clear}
use Rattle.ngc_place.specs.Longest.{shifts_of, grown, hold_over, IsInLimit, IsGrowth}
use Rattle.ngc_place.specs.Inside.{steps_left}
use Rattle.ngc_place.specs.Growth.{shifts_after, clear_after, holds_after, all_after, IsLast, IsTurn}
use Rattle.ngc_place.specs.declared.axis.Axis.{Axis}
use Rattle.ngc_place.specs.declared.axis.Axis.TheVariants.{X, Y, Z}
use Rattle.ngc_place.specs.declared.fits.Moving.{Moving}
use Rattle.ngc_place.specs.declared.growing.Growing.{Growing}
use Rattle.ngc_place.specs.declared.programs.Program.{Program}
use Rattle.ngc_place.specs.declared.interval.Interval.{Interval}
use Rattle.ngc_place.specs.declared.interval.Side.{Side}
use Rattle.ngc_place.specs.declared.interval.Side.TheVariants.{Above, Below}
use Rattle.ngc_place.proofs.PathBoxes.{IsUnder}
use Rattle.ngc_place.proofs.HoldsLaws.{action_within, within_from}
use Rattle.ngc_place.proofs.Tests.{rest_holds, start_clear, start_met, command_passes, command_fails, mark_missing, none_left_holds}
use Rattle.ngc_place.proofs.GrowingIntervals.{next_program, no_program, not_grown, few_steps, steps_fit}

-- ---- what a call shows

pub clear_is : (machine : MachineFile) (most : ℕ) (g : Growing) (r : Reached) (moving : Moving) (action : Action) (n : ℕ) (shifts : GridBox) (clear : Bool) →
    shifts ≡ shifts_after g n → clear ≡ action_clear machine most shifts r moving.start moving.end action → clear ≡ clear_after machine most g r moving action n
unfolding clear_after
clear_is machine most g r moving action n shifts clear is test = test ∙ ap (λ s. action_clear machine most s r moving.start moving.end action) is

-- ---- a longer interval

abbrev IsInside : GridBox → GridBox → Type 0
IsInside outer inner = IsUnder outer.low inner.low × IsUnder inner.high outer.high

inside : (axis : Axis) (a b c d : ℤ) → a ≤ℤ c → d ≤ℤ b → IsInside (shifts_along axis a b) (shifts_along axis c d)
inside X a b c d h i =
    (record { x = h; y = omega (arith, ints); z = omega (arith, ints) }, record { x = i; y = omega (arith, ints); z = omega (arith, ints) })
inside Y a b c d h i =
    (record { x = omega (arith, ints); y = h; z = omega (arith, ints) }, record { x = omega (arith, ints); y = i; z = omega (arith, ints) })
inside Z a b c d h i =
    (record { x = omega (arith, ints); y = omega (arith, ints); z = h }, record { x = omega (arith, ints); y = omega (arith, ints); z = i })

grown_inside : (axis : Axis) (side : Side) (i : Interval) (n m : ℕ) → n ≤ m → IsInside (shifts_of axis (grown side m i)) (shifts_of axis (grown side n i))
grown_inside axis Above i n m h = inside axis _ _ _ _ (omega (arith, ints)) (omega (arith, ints, h))
grown_inside axis Below i n m h = inside axis _ _ _ _ (omega (arith, ints, h)) (omega (arith, ints))

-- an action that is clear is clear over a shorter interval
pub clear_sooner : (machine : MachineFile) (most : ℕ) (g : Growing) (r : Reached) (moving : Moving) (action : Action) (n m : ℕ) → IsStep machine.step →
    1 ≤ most → most ≤ 65535 → n ≤ m → IsTrue (clear_after machine most g r moving action m) → IsTrue (clear_after machine most g r moving action n)
unfolding clear_after
clear_sooner machine most g r moving action n m step least greatest h clear =
    let w = grown_inside g.axis g.side g.interval n m h in
    action_within machine most (shifts_after g m) (shifts_after g n) r moving.start moving.end action step least greatest w.0 w.1 clear

-- so is a program
pub holds_sooner : (machine : MachineFile) (most : ℕ) (g : Growing) (p : Program) (n m : ℕ) → IsStep machine.step → 1 ≤ most → most ≤ 65535 → n ≤ m →
    IsTrue (holds_after machine most g p m) → IsTrue (holds_after machine most g p n)
unfolding holds_after
holds_sooner machine most g p n m step least greatest h held =
    let w = grown_inside g.axis g.side g.interval n m h in
    let e = both _ _ held in
    and _ _ e.0
    (within_from machine most (shifts_after g m) (shifts_after g n) (at_start machine) false p.moving.now (actions_of p.commands.now) step least greatest w.0 w.1 e.1)

-- ---- the last number that passes

-- a bound that passes
pub last_of_bound : (test : ℕ → Bool) (bound : ℕ) → IsTrue (test bound) → IsLast test bound bound
last_of_bound test bound h = record { within = omega arith; passes = h; full = λ fewer. absurd (omega (arith, fewer)) }

-- a number next to one that doesn't pass
pub last_of_turn : (test : ℕ → Bool) (bound over n : ℕ) → over ≤ bound → IsTurn test over n → IsLast test bound n
last_of_turn test bound over n most turn = record { within = omega (arith, most, turn.below); passes = turn.passes; full = λ _. turn.fails }

-- a number that doesn't pass isn't 0, which does
pub passed_above : (test : ℕ → Bool) (n : ℕ) → IsTrue (test 0) → test n ≡ false → 1 ≤ n
passed_above test zero h fails = absurd (cc (h, fails))
passed_above test (suc n) h fails = omega arith

pub turn_next : (test : ℕ → Bool) (bound over n : ℕ) → over ≤ bound → n < over → over ≤ n + 1 → IsTrue (test n) → test over ≡ false → IsTurn test bound n
turn_next test bound over n most less next h fails =
    record { below = omega (arith, most, less); passes = h; fails = subst (λ k. test k ≡ false) (same over n less next) fails }
  where
    same : (over n : ℕ) → n < over → over ≤ n + 1 → over ≡ n + 1
    same over n h i = omega (arith, h, i)

-- ---- the commands of a program

-- the rest of a program holds when the interval is n steps longer
abbrev pub rest_after : MachineFile → ℕ → Growing → Program → Reached → Bool → ℕ → ℕ → Bool
rest_after machine most g p r moves i n = rest_holds machine most (shifts_after g n) r moves p.moving.now p.commands.now i

pub program_starts : (machine : MachineFile) (most : ℕ) (g : Growing) (p : Program) (n : ℕ) (r : Reached) (at : StepPos) (fault : Option ℕ) (some : Bool) →
    at ≡ grid machine.step machine.start → fault ≡ place_fault machine None at → some ≡ is_some fault → some ≡ false → r ≡ at_start machine →
    holds_after machine most g p n ≡ rest_after machine most g p r false 0 n
unfolding holds_after
program_starts machine most g p n r at fault some is found test clear start =
    start_clear machine most (shifts_after g n) p.moving.now p.commands.now at fault some is found test clear
    ∙ ap (λ r. rest_after machine most g p r false 0 n) (sym start)

pub program_met : (machine : MachineFile) (most : ℕ) (g : Growing) (p : Program) (n : ℕ) (at : StepPos) (fault : Option ℕ) (some : Bool) →
    at ≡ grid machine.step machine.start → fault ≡ place_fault machine None at → some ≡ is_some fault → some ≡ true → holds_after machine most g p n ≡ false
unfolding holds_after
program_met machine most g p n at fault some is found test met =
    start_met machine most (shifts_after g n) p.moving.now p.commands.now at fault some is found test met

module _ (machine : MachineFile) (most : ℕ) (g : Growing) (p : Program) (r : Reached) (moves end : Bool) (i : ℕ) (command : Command) (moving : Moving)
    (first : actions_of (drop i p.commands.now) ≡ command.action ∷ actions_of (drop (i + 1) p.commands.now)) (mark : slice_get p.moving.now i ≡ Some end)
    (ends : moving ≡ (let m : Moving = record { start = moves; end = end } in m)) where
  tested : (n : ℕ) (b : Bool) → clear_after machine most g r moving command.action n ≡ b →
      b ≡ action_clear machine most (shifts_after g n) r moves end command.action
  unfolding clear_after
  tested n b h = sym h ∙ ap (λ (m : Moving). action_clear machine most (shifts_after g n) r m.start m.end command.action) ends

  pub command_clear : (n : ℕ) → clear_after machine most g r moving command.action n ≡ true →
      rest_after machine most g p r moves i n ≡ rest_after machine most g p (after r command.action) (end_moves moves end command.action) (i + 1) n
  command_clear n h =
      command_passes machine most (shifts_after g n) r moves end p.moving.now p.commands.now i command true first mark (tested n true h) refl

  pub command_met : (n : ℕ) → clear_after machine most g r moving command.action n ≡ false → rest_after machine most g p r moves i n ≡ false
  command_met n h = command_fails machine most (shifts_after g n) r moves end p.moving.now p.commands.now i command false first mark (tested n false h) refl

pub command_unmarked : (machine : MachineFile) (most : ℕ) (g : Growing) (p : Program) (r : Reached) (moves : Bool) (i n : ℕ) (command : Command) →
    actions_of (drop i p.commands.now) ≡ command.action ∷ actions_of (drop (i + 1) p.commands.now) → slice_get p.moving.now i ≡ None →
    rest_after machine most g p r moves i n ≡ false
command_unmarked machine most g p r moves i n command first mark =
    mark_missing machine most (shifts_after g n) r moves p.moving.now p.commands.now i command first mark

pub program_ends : (machine : MachineFile) (most : ℕ) (g : Growing) (p : Program) (r : Reached) (moves : Bool) (i n : ℕ) →
    actions_of (drop i p.commands.now) ≡ [] → rest_after machine most g p r moves i n ≡ true
program_ends machine most g p r moves i n e = none_left_holds machine most (shifts_after g n) r moves p.moving.now p.commands.now i e

-- what is so far, and the rest, after fewer steps: whole is tested by the rest
pub fewer_same : (whole rest next part : ℕ → Bool) (bound steps : ℕ) → ((n m : ℕ) → n ≤ m → IsTrue (part m) → IsTrue (part n)) →
    ((n : ℕ) → n ≤ bound → whole n ≡ rest n) → ((n : ℕ) → part n ≡ true → rest n ≡ next n) → IsLast part bound steps → (n : ℕ) → n ≤ steps → whole n ≡ next n
fewer_same whole rest next part bound steps sooner same passes last n h =
    same n (omega (arith, h, last.within)) ∙ passes n (sooner n steps h last.passes)

pub fewer_full : (whole rest part : ℕ → Bool) (most bound steps : ℕ) → ((n : ℕ) → n ≤ bound → whole n ≡ rest n) → ((n : ℕ) → part n ≡ false → rest n ≡ false) →
    (bound < most → whole (bound + 1) ≡ false) → IsLast part bound steps → steps < most → whole (steps + 1) ≡ false
fewer_full whole rest part most bound steps same fails full last h = by_order (nat_lt steps bound) refl
  where
    less_of : (n m : ℕ) → nat_lt n m ≡ true → n < m
    less_of n m e = grind (arith, nat_tests)

    equal_of : (n m : ℕ) → nat_lt n m ≡ false → n ≤ m → m ≡ n
    equal_of n m e h = grind (arith, nat_tests)

    by_order : (b : Bool) → nat_lt steps bound ≡ b → whole (steps + 1) ≡ false
    by_order true e = let less : steps < bound = less_of steps bound e in same (steps + 1) (omega (arith, less)) ∙ fails (steps + 1) (last.full less)
    by_order false e =
        let equal : bound ≡ steps = equal_of steps bound e last.within in
        subst (λ k. whole (k + 1) ≡ false) equal (full (omega (arith, equal, h)))

-- ---- all programs

pub all_first : (machine : MachineFile) (most : ℕ) (g : Growing) (programs : List Program) (i n : ℕ) (p : Program) (b : Bool) → i < length programs →
    p ≡ get_or programs i p → holds_after machine most g p n ≡ b →
    all_after machine most g (drop i programs) n ≡ (b && all_after machine most g (drop (i + 1) programs) n)
unfolding holds_after all_after
all_first machine most g programs i n p b h is test = next_program machine most (shifts_after g n) programs i p b b h is (sym test) refl

pub all_passed : (machine : MachineFile) (most : ℕ) (g : Growing) (programs : List Program) (i n : ℕ) → length programs ≤ i →
    all_after machine most g (drop i programs) n ≡ true
unfolding all_after
all_passed machine most g programs i n h = no_program machine most (shifts_after g n) programs i h

-- the interval itself
pub all_unmet : (machine : MachineFile) (most : ℕ) (g : Growing) (programs : List Program) → all_after machine most g programs 0 ≡ false →
    hold_over machine most g.axis programs g.interval ≡ false
unfolding all_after
all_unmet machine most g programs h = ap (hold_over machine most g.axis programs) (sym (not_grown g.side g.interval)) ∙ h

pub growth_is : (machine : MachineFile) (most : ℕ) (g : Growing) (programs : List Program) (n : ℕ) → IsInLimit g.interval →
    IsLast (all_after machine most g programs) (steps_left g.side g.interval) n → IsGrowth machine most g.axis programs g.side g.interval n
unfolding all_after
growth_is machine most g programs n limit last = record {
  within = steps_fit g.side n g.interval limit last.within;
  hold = last.passes;
  full = λ h. last.full (omega (arith, few_steps g.side (n + 1) g.interval limit h));
}
