-- The text about a fault.
use Rattle.std.specs.Prelude.{◌≡◌, ◌==◌, ℕ, List, [], ◌∷◌, ◌++◌, Option, Some, Result, Ok, Err, map}
use Rattle.std.specs.Prelude.{codes, decimal, if◌then◌else◌}
use Rattle.std.specs.Borrow.{Bor}
use Rattle.std.specs.Io.KnownBytes.{Appends}
use Rattle.ngc_text.specs.Failures.{Rises}
use Rattle.ngc_text.specs.Written.{AppendsPrefix}
use Rattle.ngc_fault_texts.specs.Numbers.{fault_numbers}
use Rattle.ngc_fault_texts.specs.declared.explaining.ExplainFault.{ExplainFault}
use Rattle.ngc_fault_texts.specs.declared.explaining.ExplainFault.TheVariants.{Unknown, Write}
use Rattle.ngc_fault_texts.specs.declared.parts.Part.{Part}
use Rattle.ngc_fault_texts.specs.declared.parts.Row.{Row}

-- the numbers in parts of a page, in their order
abbrev pub numbers_of : List Part → List ℕ
numbers_of [] = []
numbers_of (part ∷ parts) = map (λ (row : Row). row.number) part.rows.now ++ numbers_of parts

-- texts in order
abbrev pub joined : List (List ℕ) → List ℕ
joined [] = []
joined (text ∷ texts) = text ++ joined texts

abbrev pub all_of : List (Bor (List ℕ)) → List ℕ
all_of [] = []
all_of (text ∷ texts) = text.now ++ all_of texts

-- a line with the part's column, where it has one
abbrev pub column_line : Option (Bor (List ℕ)) → Option (Bor (List ℕ)) → List ℕ
column_line (Some column) (Some place) =
    joined (column.now ∷ codes ": " ∷ place.now ∷ codes "\n" ∷ [])
column_line column place = []

-- the part of a row before the fix, in the part of the page that contains the row
abbrev pub explanation_prefix : Part → Row → List ℕ
explanation_prefix part row =
    joined (codes "Fault " ∷ decimal row.number ∷ codes " (" ∷ part.title.now ∷ codes ")\n\n"
    ∷ row.rule.now ∷ codes "\n\nExample: " ∷ row.example.now ∷ codes "\nMessage: " ∷ row.answer.now
    ∷ codes "\n" ∷ [])

-- the part of a row after the column line: how to fix it
abbrev pub fix_of : Row → List ℕ
fix_of row = joined (codes "\n" ∷ row.mend.now ∷ codes "\n\n" ∷ [])

-- a row
abbrev pub row_text : Part → Row → List ℕ
row_text part row = explanation_prefix part row ++ (column_line part.column row.place ++ fix_of row)

-- the rows of a part that have the number
abbrev pub told_in : ℕ → Part → List Row → List ℕ
told_in number part [] = []
told_in number part (row ∷ rows) =
    (if row.number == number then row_text part row else []) ++ told_in number part rows

-- the rows of all parts that have the number
abbrev pub told : ℕ → List Part → List ℕ
told number [] = []
told number (part ∷ parts) = told_in number part part.rows.now ++ told number parts

-- the text is that of a page with all faults about the number
abbrev pub IsExplanation : ℕ → List ℕ → Type 0
IsExplanation number text =
    (parts : List Part) × (numbers_of parts ≡ fault_numbers) × (text ≡ told number parts)

-- this holds of an explanation of the number
abbrev pub Explains : (List ℕ → Type 0) → ℕ → Type 0
Explains Holds number = (text : List ℕ) × IsExplanation number text × Holds text

-- The text about a number: its rows, or a prefix of them if the sink failed. An unknown number
-- leaves the output unchanged.
abbrev pub ExplainsOrFails : ℕ → Option (List ℕ) → Option (List ℕ) → Result (Unit {0}) ExplainFault → Type 0
ExplainsOrFails number old new (Ok u) = Explains (Appends old new) number
ExplainsOrFails number old new (Err Unknown) = new ≡ old
ExplainsOrFails number old new (Err (Write fault)) = Explains (AppendsPrefix old new) number

-- the table of numbers
abbrev pub explain_fault_number : ExplainFault → ℕ
explain_fault_number Unknown = 721
explain_fault_number (Write fault) = 902

-- the sink's count of failures increased if a write failed, and is unchanged otherwise
abbrev pub FailsByWriting : Result (Unit {0}) ExplainFault → ℕ → ℕ → Type 0
FailsByWriting (Ok u) old new = new ≡ old
FailsByWriting (Err Unknown) old new = new ≡ old
FailsByWriting (Err (Write fault)) old new = Rises old new
