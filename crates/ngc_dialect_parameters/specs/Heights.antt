-- How many values a part takes from the stack, and how many it puts there.
use Rattle.std.specs.Prelude.{ℕ, ◌+◌, ◌-◌, nat_le, List, [], ◌∷◌, Option, Some, None, if◌then◌else◌}
use Rattle.ngc_dialect_reader.specs.declared.part.Part.{Part}
use Rattle.ngc_dialect_reader.specs.declared.part.PartKind.{PartKind}
use Rattle.ngc_dialect_reader.specs.declared.part.PartKind.TheVariants as kinds

abbrev pub taken : PartKind → ℕ
taken (kinds.Delete level) = 0
taken kinds.LineNumber = 1
taken kinds.Percent = 0
taken kinds.Home = 0
taken (kinds.Number l) = 0
taken kinds.Parameter = 1
taken (kinds.Named name) = 0
taken (kinds.Exists name) = 0
taken kinds.Negate = 1
taken (kinds.Apply f) = 1
taken kinds.ArcTangent = 2
taken (kinds.Operate o) = 2
taken (kinds.Word letter) = 1
taken kinds.Set = 2
taken (kinds.SetNamed name) = 1
taken kinds.Label = 1
taken (kinds.LabelNamed name) = 0
taken (kinds.Flow keyword count) = 0
taken kinds.When = 1
taken kinds.GoTo = 1
taken kinds.Loop = 2
taken kinds.EndLoop = 1

abbrev pub put : PartKind → ℕ
put (kinds.Delete level) = 0
put kinds.LineNumber = 0
put kinds.Percent = 0
put kinds.Home = 0
put (kinds.Number l) = 1
put kinds.Parameter = 1
put (kinds.Named name) = 1
put (kinds.Exists name) = 1
put kinds.Negate = 1
put (kinds.Apply f) = 1
put kinds.ArcTangent = 1
put (kinds.Operate o) = 1
put (kinds.Word letter) = 0
put kinds.Set = 0
put (kinds.SetNamed name) = 0
put kinds.Label = 0
put (kinds.LabelNamed name) = 0
put (kinds.Flow keyword count) = 0
put kinds.When = 0
put kinds.GoTo = 0
put kinds.Loop = 0
put kinds.EndLoop = 0

-- the number of values after a part, by the number before it
abbrev pub height_after : PartKind → ℕ → ℕ
height_after kind h = h - taken kind + put kind

-- the number of values after parts; None if one of them doesn't find its values
abbrev pub height : List Part → ℕ → Option ℕ
height [] h = Some h
height (p ∷ parts) h =
    if nat_le (taken p.kind) h then height parts (height_after p.kind h) else None
