-- Lines of one straight motion, which most lines are: no other letters than F, G, X, Y and Z, and no
-- other code than G0 or G1. Our own.
use Rattle.std.specs.Prelude.{ℕ, ℤ, ◌≡◌, ◌⊎◌, ◌==◌, ◌||◌, Bool, List, [], ◌∷◌, Option, Some, None, if◌then◌else◌}
use Rattle.std.specs.List.{list_all}
use Rattle.ngc_dialect_parameters.specs.declared.statement.Word.{Word}
use Rattle.ngc_dialect_rules.specs.declared.code.Code.{Code}
use Rattle.ngc_dialect_rules.specs.declared.code.Code.TheVariants.{G}
use Rattle.ngc_dialect_rules.specs.declared.front.Front.{Front}
use Rattle.ngc_dialect_rules.specs.declared.front.Known.{Known}
use Rattle.ngc_dialect_rules.specs.declared.plan.InForce.{InForce}
use Rattle.ngc_dialect_rules.specs.declared.plan.LineResult.{LineResult}
use Rattle.ngc_dialect_rules.specs.declared.straight_line.StraightLine.{StraightLine}
use Rattle.ngc_fixed_length.specs.declared.points.Point3.{Point3}
use Rattle.ngc_offsets.specs.declared.frames.Frames.{Frames}
use Rattle.ngc_dialect_rules.specs.Tables.{or_else}
use Rattle.ngc_dialect_rules.specs.Bytes as bytes

abbrev pub is_motion_letter : ℕ → Bool
is_motion_letter letter =
    (letter == bytes.F) || ((letter == bytes.G) || ((letter == bytes.X) || ((letter == bytes.Y) || (letter == bytes.Z))))

abbrev pub are_motion_words : List Word → Bool
are_motion_words words = list_all (λ w. is_motion_letter w.letter) words

-- the code moves straight, and is the line's only one; or the line has none, and it is in force
abbrev pub IsOnlyCode : Known → List Code → Code → Type 0
IsOnlyCode k line c =
    ((c ≡ G 0) ⊎ (c ≡ G 10)) × ((line ≡ c ∷ []) ⊎ ((line ≡ []) × (k.front.motion ≡ Some c)))

-- what the dialect knows after the line: a code on it ends the series of cycles
abbrev pub straight_front : StraightLine → Front → Front
straight_front made front = record front {
  motion = Some made.code;
  feed = made.feed;
  series = if made.keeps_series then front.series else None;
}

-- what the line does besides its plain line
abbrev pub straight_result : StraightLine → Front → LineResult
straight_result made front = record {
  front = straight_front made front;
  cycle = None;
  compensation = None;
}

-- what is in force for the motion of a line with this F
abbrev pub force_with : Option ℤ → Known → InForce
force_with f k = record {
  units = k.modes.units;
  distance = k.modes.distance;
  feed_mode = k.modes.feed_mode;
  feed = or_else f k.front.feed;
  length = k.front.length;
}

-- what is known, with other origins and the axes at another place
abbrev pub elsewhere : Frames → Point3 → Known → Known
elsewhere frames place k = record k { frames = frames; place = place }
