-- Writing of shapes to a sink. Our own.
use Rattle.std.specs.Prelude.{ℕ, ℤ, List, Option, Result}
use Rattle.ngc_text.specs.declared.writing.WriteFault.{WriteFault}
use Rattle.ngc_certificate_text.specs.Collects.{Collects}
use Rattle.ngc_picture_shapes.specs.Spelling.{shapes_text}
use Rattle.ngc_picture_shapes.specs.declared.shape.Shape.{Shape}

-- the text of shapes follows what was collected; where a write fails, a prefix of both is
-- written
abbrev pub Draws : ℤ → Option (List ℕ) → Option (List ℕ) → List ℕ → List ℕ →
    Result (Unit {0}) WriteFault → List Shape → Type 0
Draws unit old new before after result drawn =
    Collects old new before after result (shapes_text unit drawn)
