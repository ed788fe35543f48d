-- A machine with other origins. Our own.
use Rattle.std.specs.Prelude.{◌≡◌, List, [], ◌∷◌, length, IfSome, unwrap_or}
use Rattle.std.specs.List.{All}
use Rattle.ngc_fixed_length.specs.declared.points.Point3.{Point3}
use Rattle.ngc_machine_files.specs.Machine.{MachineFile}
use Rattle.ngc_machine_files.specs.Ranges.{IsSized, NEAR_LIMIT}
use Rattle.ngc_origins.specs.Texts.{OriginList}

-- an origin for each of the nine systems, or none, at most a metre from zero
pub record AreOrigins (origins : OriginList) : Type 0 where
  pub nine : length origins ≡ 9
  pub sized : All (λ o. IfSome o (IsSized NEAR_LIMIT)) origins

-- each origin that is replaced, and the others as they are
abbrev pub replaced : OriginList → List Point3 → List Point3
replaced [] own = own
replaced (o ∷ origins) [] = []
replaced (o ∷ origins) (place ∷ own) = unwrap_or o place ∷ replaced origins own

-- the contents of a machine file, with these origins in place of its own
abbrev pub placed : OriginList → MachineFile → MachineFile
placed origins m = record m { origins = replaced origins m.origins }
