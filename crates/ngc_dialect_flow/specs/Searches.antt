-- For which lines the flow searches (LinuxCNC, "O codes"; Fanuc, "Custom macro").
use Rattle.std.specs.Prelude.{ℕ, List, ◌∷◌, Option, Some, None}
use Rattle.std.specs.Int.{w128, to_be_bytes}
use Rattle.ngc_dialect_reader.specs.declared.part.Keyword.TheVariants as words
use Rattle.ngc_dialect_reader.specs.Line.{name_of}
use Rattle.ngc_dialect_flow.specs.declared.mark.LineKind.{LineKind}
use Rattle.ngc_dialect_flow.specs.declared.mark.LineKind.TheVariants as kinds
use Rattle.ngc_dialect_flow.specs.declared.mark.Label.{Label}
use Rattle.ngc_dialect_flow.specs.declared.mark.Label.TheVariants as labels
use Rattle.ngc_dialect_flow.specs.declared.search.Search.{Search}
use Rattle.ngc_dialect_flow.specs.declared.search.Search.TheVariants as searches

abbrev pub code : Search → ℕ
code searches.Sub = 0
code searches.Program = 1
code searches.LineNumber = 2
code searches.EndSub = 3
code searches.Branch = 4
code searches.EndIf = 5
code searches.EndWhile = 6
code searches.LoopEnd = 7
code searches.EndRepeat = 8
code searches.EndLoop = 9

-- which search finds a line of this kind
abbrev pub found_by : LineKind → Option Search
found_by kinds.Program = Some searches.Program
found_by kinds.EndLoop = Some searches.EndLoop
found_by (kinds.Word words.Sub) = Some searches.Sub
found_by (kinds.Word words.EndSub) = Some searches.EndSub
found_by (kinds.Word words.If) = Some searches.Branch
found_by (kinds.Word words.ElseIf) = Some searches.Branch
found_by (kinds.Word words.Else) = Some searches.Branch
found_by (kinds.Word words.EndIf) = Some searches.Branch
found_by (kinds.Word words.While) = Some searches.LoopEnd
found_by (kinds.Word words.EndWhile) = Some searches.LoopEnd
found_by (kinds.Word words.EndRepeat) = Some searches.EndRepeat
found_by _ = None

-- and a second one
abbrev pub also_found_by : LineKind → Option Search
also_found_by (kinds.Word words.If) = Some searches.EndIf
also_found_by (kinds.Word words.EndIf) = Some searches.EndIf
also_found_by (kinds.Word words.EndWhile) = Some searches.EndWhile
also_found_by _ = None

-- what ends the block that a line begins, or that it is in
abbrev pub end_of : LineKind → Option Search
end_of kinds.Loop = Some searches.EndLoop
end_of (kinds.Word words.Sub) = Some searches.EndSub
end_of (kinds.Word words.If) = Some searches.EndIf
end_of (kinds.Word words.ElseIf) = Some searches.EndIf
end_of (kinds.Word words.Else) = Some searches.EndIf
end_of (kinds.Word words.While) = Some searches.EndWhile
end_of (kinds.Word words.Do) = Some searches.LoopEnd
end_of (kinds.Word words.Break) = Some searches.LoopEnd
end_of (kinds.Word words.Continue) = Some searches.LoopEnd
end_of (kinds.Word words.Repeat) = Some searches.EndRepeat
end_of _ = None

-- where the flow goes if a condition doesn't hold: ELSEIF, ELSE or ENDIF; another IF is a label twice
abbrev pub branch_of : LineKind → Option Search
branch_of (kinds.Word words.If) = Some searches.Branch
branch_of (kinds.Word words.ElseIf) = Some searches.Branch
branch_of _ = None

-- Labels are equal if these bytes are. A name is in the line's text.
abbrev pub label_bytes : List ℕ → Label → List ℕ
label_bytes text (labels.Number n) = 0 ∷ to_be_bytes w128 n
label_bytes text (labels.Name name) = 1 ∷ name_of text name

-- a search and a label
abbrev pub key_of : List ℕ → Search → Label → List ℕ
key_of text search label = code search ∷ label_bytes text label
