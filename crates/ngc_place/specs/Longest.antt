-- Intervals of shifts along an axis at which programs fit, as long as possible. Our own.
use Rattle.std.specs.Prelude.{◌≡◌, ℕ, zero, suc, ◌+◌, ◌≤◌, ℤ, pos, negsuc, ◌+ℤ◌, ◌-ℤ◌, unsigned_abs, List}
use Rattle.std.specs.Prelude.{Option, None, MatchOption, IsSomeAnd}
use Rattle.std.specs.Prelude.{[], ◌∷◌, Result, Ok, Bool, false, IsTrue}
use Rattle.std.specs.List.{find, list_all}
use Rattle.ngc_fixed_length.specs.Boxes.{IsIn}
use Rattle.ngc_fixed_length.specs.Length.{IsStep}
use Rattle.ngc_fixed_length.specs.declared.points.GridBox.{GridBox}
use Rattle.ngc_fixed_length.specs.declared.points.StepPos.{StepPos}
use Rattle.ngc_machine_files.specs.Machine.{MachineFile}
use Rattle.ngc_commands.specs.declared.command.Command.{Command}
use Rattle.ngc_certificate_text.specs.Certificate.{CertificateData}
use Rattle.ngc_certificate.specs.declared.fault.MakeFault.{MakeFault}
use Rattle.ngc_certificate.specs.Made.{IsMade}
use Rattle.ngc_place.specs.Shifts.{SHIFT_LIMIT, shifts_along, AreShifted}
use Rattle.ngc_place.specs.Holds.{holds}
use Rattle.ngc_place.specs.declared.axis.Axis.{Axis}
use Rattle.ngc_place.specs.declared.programs.Program.{Program}
use Rattle.ngc_place.specs.declared.interval.Interval.{Interval}
use Rattle.ngc_place.specs.declared.interval.Side.{Side}
use Rattle.ngc_place.specs.declared.interval.Side.TheVariants.{Above, Below}

-- each of the programs holds over a box of shifts
abbrev pub one_holds : MachineFile → ℕ → GridBox → Program → Bool
one_holds machine most shifts p = holds machine most shifts p.moving.now p.commands.now

abbrev pub all_hold : MachineFile → ℕ → GridBox → List Program → Bool
all_hold machine most shifts programs = list_all (one_holds machine most shifts) programs

-- over an interval of shifts along an axis
abbrev pub shifts_of : Axis → Interval → GridBox
shifts_of axis i = shifts_along axis i.from i.to

abbrev pub hold_over : MachineFile → ℕ → Axis → List Program → Interval → Bool
hold_over machine most axis programs i = all_hold machine most (shifts_of axis i) programs

pub record IsInLimit (i : Interval) : Type 0 where
  pub from : unsigned_abs i.from ≤ SHIFT_LIMIT
  pub to : unsigned_abs i.to ≤ SHIFT_LIMIT

-- the interval of one shift
abbrev pub at : ℤ → Interval
at shift = record { from = shift; to = shift }

abbrev pub opposite : Side → Side
opposite Above = Below
opposite Below = Above

-- an interval that is this number of steps longer on one side
abbrev pub grown : Side → ℕ → Interval → Interval
grown Above n i = record { from = i.from; to = i.to +ℤ pos n }
grown Below n i = record { from = i.from -ℤ pos n; to = i.to }

-- the greatest number of steps by which an interval can grow on one side
pub record IsGrowth (machine : MachineFile) (most : ℕ) (axis : Axis) (programs : List Program)
    (side : Side) (i : Interval) (n : ℕ) : Type 0 where
  pub within : IsInLimit (grown side n i)
  pub hold : IsTrue (hold_over machine most axis programs (grown side n i))
  pub full : IsInLimit (grown side (n + 1) i) →
      hold_over machine most axis programs (grown side (n + 1) i) ≡ false

-- The interval around a shift that grows on one side as far as the programs hold, and then on the
-- opposite side.
pub record IsGrown (machine : MachineFile) (most : ℕ) (axis : Axis) (programs : List Program)
    (first : Side) (around : ℤ) (i : Interval) : Type 0 where
  pub near : IsTrue (hold_over machine most axis programs (at around))
  pub one : ℕ
  pub two : ℕ
  pub grows_first : IsGrowth machine most axis programs first (at around) one
  pub grows_then : IsGrowth machine most axis programs (opposite first)
      (grown first one (at around)) two
  pub is : i ≡ grown (opposite first) two (grown first one (at around))

-- no longer interval holds
abbrev pub IsLongest : MachineFile → ℕ → Axis → List Program → Interval → Type 0
IsLongest machine most axis programs i =
    (side : Side) → IsInLimit (grown side 1 i) →
    hold_over machine most axis programs (grown side 1 i) ≡ false

-- an interval over which the programs hold, and no longer one
pub record IsFound (machine : MachineFile) (most : ℕ) (axis : Axis) (programs : List Program)
    (i : Interval) : Type 0 where
  pub within : IsInLimit i
  pub hold : IsTrue (hold_over machine most axis programs i)
  pub longest : IsLongest machine most axis programs i

-- the shifts that are tried, in order: 0, and then the distances 1, 2, 4 and so on from it, each
-- above and below
unfoldable pub tried : List ℤ
tried =
    pos 0 ∷ pos 1 ∷ negsuc 0 ∷ pos 2 ∷ negsuc 1 ∷ pos 4 ∷ negsuc 3 ∷ pos 8 ∷ negsuc 7 ∷ pos 16
    ∷ negsuc 15 ∷ pos 32 ∷ negsuc 31 ∷ pos 64 ∷ negsuc 63 ∷ pos 128 ∷ negsuc 127 ∷ pos 256
    ∷ negsuc 255 ∷ pos 512 ∷ negsuc 511 ∷ pos 1024 ∷ negsuc 1023 ∷ pos 2048 ∷ negsuc 2047
    ∷ pos 4096 ∷ negsuc 4095 ∷ pos 8192 ∷ negsuc 8191 ∷ pos 16384 ∷ negsuc 16383 ∷ pos 32768
    ∷ negsuc 32767 ∷ pos 65536 ∷ negsuc 65535 ∷ pos 131072 ∷ negsuc 131071 ∷ pos 262144
    ∷ negsuc 262143 ∷ pos 524288 ∷ negsuc 524287 ∷ pos 1048576 ∷ negsuc 1048575 ∷ pos 2097152
    ∷ negsuc 2097151 ∷ []

-- the programs fit at one shift
abbrev pub fit_at : MachineFile → ℕ → Axis → List Program → ℤ → Bool
fit_at machine most axis programs n = hold_over machine most axis programs (at n)

-- the interval around a shift grows towards 0 first, and that around 0 above it
abbrev pub first_side : ℤ → Side
first_side (pos zero) = Above
first_side (pos (suc n)) = Below
first_side (negsuc n) = Above

-- the interval around the first shift that is tried and at which the programs fit, or none
abbrev pub IsNearest : MachineFile → ℕ → Axis → List Program → Option Interval → Type 0
IsNearest machine most axis programs found =
    MatchOption (find (fit_at machine most axis programs) tried) (found ≡ None)
    (λ n. IsSomeAnd found (λ i. IsGrown machine most axis programs (first_side n) n i))

-- ---- the laws

-- if the programs of both settings of block delete hold, a certificate exists at each shift
abbrev pub BothAreCertified : Type 0
BothAreCertified = (machine : MachineFile) (most : ℕ) (shifts : GridBox) (n : StepPos)
    (off on : Program) (others_off others_on : List Command)
    (says : Result CertificateData MakeFault) → IsStep machine.step → 1 ≤ most → most ≤ 65535 →
    IsIn shifts n → IsTrue (all_hold machine most shifts (off ∷ on ∷ [])) →
    AreShifted machine.step n off.moving.now off.commands.now others_off →
    AreShifted machine.step n on.moving.now on.commands.now others_on →
    IsMade machine most others_off others_on says → (c : CertificateData) × (says ≡ Ok c)

-- an interval that has grown on both sides is the longest around its shift
abbrev pub GrownIsFound : Type 0
GrownIsFound = (machine : MachineFile) (most : ℕ) (axis : Axis) (programs : List Program)
    (first : Side) (around : ℤ) (i : Interval) → IsStep machine.step → 1 ≤ most → most ≤ 65535 →
    IsGrown machine most axis programs first around i → IsFound machine most axis programs i
