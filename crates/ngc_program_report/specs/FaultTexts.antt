-- The report of all faults of a program. Our own.
use Rattle.std.specs.Prelude.{ℕ, ◌==◌, List, [], ◌∷◌, ◌++◌, codes, decimal, Option, Some, None, Bool}
use Rattle.std.specs.Prelude.{true, false, ◌&&◌, if◌then◌else◌}
use Rattle.std.specs.List.{list_any}
use Rattle.ngc_line_reader.specs.Program.{lines_of}
use Rattle.ngc_line_reader.specs.declared.program.fault.ReadFault.{ReadFault}
use Rattle.ngc_line_reader.specs.declared.program.fault.ReadFault.TheVariants as reads
use Rattle.ngc_all_faults.specs.Faults.{line_of, number_of}
use Rattle.ngc_all_faults.specs.declared.text_fault.TextFault.{TextFault}
use Rattle.ngc_all_faults.specs.declared.text_fault.TextFault.TheVariants.{Unread, Refused}
use Rattle.ngc_report.specs.Forms.{opening}
use Rattle.ngc_report.specs.Marks.{named_quote}
use Rattle.ngc_report.specs.Quotes.{bytes_with, marked}
use Rattle.ngc_report.specs.declared.form.Form.{Form}
use Rattle.ngc_report.specs.declared.form.Form.TheVariants.{Words, Json}
use Rattle.ngc_program_report.specs.Texts.{ending, refused_line}

-- ---- one fault

abbrev pub read_quote : Form → List ℕ → ReadFault → List ℕ
read_quote form bytes (reads.Line n e) = marked form n e.column (bytes_with n (lines_of bytes))
read_quote form bytes _ = []

-- the line of a fault, with a mark below its column or word
abbrev pub fault_quote : Form → List ℕ → TextFault → List ℕ
fault_quote form bytes (Unread e) = read_quote form bytes e
fault_quote form bytes (Refused n e) = named_quote form n e (bytes_with n (lines_of bytes))

abbrev pub earlier_words : Bool → List ℕ
earlier_words true = codes ", after earlier faults"
earlier_words false = []

abbrev pub delete_words : Bool → List ℕ
delete_words true = codes ", with block delete on"
delete_words false = []

-- The fault's number. The flags say whether others come before it, and whether it occurs only with
-- block delete on.
abbrev pub fault_words : ℕ → Bool → Bool → List ℕ
fault_words number earlier only_on =
    codes "Fault " ++ decimal number ++ earlier_words earlier ++ delete_words only_on ++ codes ".\n"

unfoldable pub line_value : Option ℕ → List ℕ
line_value None = codes "null"
line_value (Some n) = decimal n

abbrev pub truth : Bool → List ℕ
truth true = codes "true"
truth false = codes "false"

abbrev pub fault_fact : Option ℕ → ℕ → Bool → Bool → List ℕ
fault_fact line number earlier only_on =
    codes ",\n{\"fact\":\"fault_in\",\"line\":" ++ line_value line ++ codes ",\"number\":"
    ++ decimal number ++ codes ",\"after_earlier_faults\":" ++ truth earlier
    ++ codes ",\"only_with_block_delete\":" ++ truth only_on ++ codes "}"

abbrev pub fault_line : Form → TextFault → Bool → Bool → List ℕ
fault_line Words f earlier only_on = fault_words (number_of f) earlier only_on
fault_line Json f earlier only_on = fault_fact (line_of f) (number_of f) earlier only_on

-- ---- all faults

abbrev pub same_line : Option ℕ → Option ℕ → Bool
same_line None None = true
same_line (Some m) (Some n) = m == n
same_line _ _ = false

-- two faults in the same line, with the same number
abbrev pub is_same : TextFault → TextFault → Bool
is_same f g = same_line (line_of f) (line_of g) && number_of f == number_of g

-- the text of a fault that isn't in a list
abbrev pub fault_text : Form → List ℕ → Bool → List TextFault → TextFault → Bool → List ℕ
fault_text form bytes only_on others f earlier =
    if list_any (is_same f) others then []
    else fault_quote form bytes f ++ fault_line form f earlier only_on

-- the text of those that aren't in a list, in order; each but the first comes after earlier ones
abbrev pub list_text : Form → List ℕ → Bool → List TextFault → Bool → List TextFault → List ℕ
list_text form bytes only_on others earlier [] = []
list_text form bytes only_on others earlier (f ∷ fs) =
    fault_text form bytes only_on others f earlier
    ++ list_text form bytes only_on others true fs

abbrev pub unread_line : Form → List ℕ
unread_line Words = codes "The program can't be read.\n"
unread_line Json = codes ",\n{\"fact\":\"unreadable\"}"

abbrev pub faulty_line : Form → TextFault → List ℕ
faulty_line form (Unread e) = unread_line form
faulty_line form (Refused n e) = refused_line form

-- The report: the faults with block delete off, then those that occur only with block delete on. It
-- ends with the number of the first fault.
abbrev pub faults_text : Form → List ℕ → TextFault → List TextFault → List TextFault → List ℕ
faults_text form bytes first off on =
    opening form ++ (faulty_line form first
    ++ (list_text form bytes false [] false off
    ++ (list_text form bytes true off false on ++ ending form (number_of first))))
