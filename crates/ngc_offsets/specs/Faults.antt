-- The faults of changes and places, and their numbers. Our own.
use Rattle.std.specs.Prelude.{ℕ, ◌≡◌, ℤ, Result, Ok, Err, if◌then◌else◌}
use Rattle.ngc_fixed_length.specs.Signed.{is_within}
use Rattle.ngc_offsets.specs.declared.fault.Axis.{Axis}
use Rattle.ngc_offsets.specs.declared.fault.FrameFault.{FrameFault}
use Rattle.ngc_offsets.specs.declared.fault.FrameFault.TheVariants.{BeyondRange, NoSuchTool}
use Rattle.ngc_offsets.specs.declared.fault.Quantity.{Quantity}
use Rattle.ngc_offsets.specs.declared.fault.Quantity.TheVariants.{Coordinate, Offset}
use Rattle.ngc_offsets.specs.declared.fault.CoordinateRange.{CoordinateRange}
use Rattle.ngc_offsets.specs.Ranges.{limit_of}

infixl 10 ◌>>=◌
abbrev pub ◌>>=◌ : {A B : Type 0} → Result A FrameFault → (A → Result B FrameFault) →
    Result B FrameFault
(Ok x) >>= f = f x
(Err e) >>= f = Err e

-- a length that is in the range of its quantity
abbrev pub limited : Axis → Quantity → ℤ → Result ℤ FrameFault
limited axis quantity l =
    if is_within (limit_of quantity) l then Ok l else Err (BeyondRange axis quantity l)

abbrev pub coordinate : CoordinateRange → Axis → ℤ → Result ℤ FrameFault
coordinate reach axis c = limited axis (Coordinate reach) c

abbrev pub offset : Axis → ℤ → Result ℤ FrameFault
offset axis o = limited axis Offset o

abbrev pub number_of : FrameFault → ℕ
number_of (BeyondRange axis quantity at) = 221
number_of NoSuchTool = 222

-- a change is either made as the definition says, or refused, and then nothing changes
abbrev pub Becomes : {A : Type 0} → Result (Unit {0}) FrameFault → A → A →
    Result A FrameFault → Type 0
Becomes (Ok u) old new says = says ≡ Ok new
Becomes (Err e) old new says = (says ≡ Err e) × (new ≡ old)
