-- The mistakes over lines, one line further.
use Rattle.std.proofs.Common.{◌≡◌, ℕ, zero, suc, ◌+◌, List, [], ◌∷◌, ◌++◌, ◌≤◌, drop, Option, Some, None, Bool, ap, ◌∙◌, refl, arith}
use Rattle.std.specs.List.{slice_get}
use Rattle.std.specs.Option.{option_map}
use Rattle.ngc_machine_files.specs.declared.tools.Tool.{Tool}
use Rattle.ngc_line_reader.specs.Program.{Line}
use Rattle.ngc_line_reader.specs.ReadLine.{line_read}
use Rattle.ngc_commands.specs.declared.command.Command.{Command}
use Rattle.ngc_machine_files.specs.Machine.{MachineFile}
use Rattle.ngc_report.specs.declared.form.Form.{Form}
use Rattle.ngc_word_warnings.specs.Slips.{Step, all_found, found_in, step_read, counted, count_of, with_later, slip_of_kind, slips_of_kind, step_of_kind, slips_of}
use Rattle.ngc_word_warnings.specs.Spelling.{spelled, word_warnings}
use Rattle.ngc_word_warnings.specs.declared.between.Step.{Step as LineStep}
use Rattle.ngc_word_warnings.specs.declared.slip.AllSlips.{AllSlips}
use Rattle.ngc_word_warnings.specs.declared.slip.Kind.TheVariants as kinds
use Rattle.ngc_word_warnings.specs.declared.between.Between.{Between}
use Rattle.ngc_word_warnings.specs.declared.slip.Found.{Found}
use Rattle.ngc_word_warnings.specs.declared.slip.Kind.{Kind}
use Rattle.ngc_word_warnings.specs.declared.slip.Slip.{Slip}
use Rattle.ngc_word_warnings.specs.declared.slip.Slips.{Slips}

-- the facts about the line at index `i`
pub record At (lines : List Line) (i number : ℕ) (bytes : List ℕ) : Type 0 where
  pub line : Line
  pub is : slice_get lines i ≡ Some line
  pub number_is : line.number ≡ number
  pub bytes_are : line.bytes ≡ bytes

pub at : (lines : List Line) (i number : ℕ) (bytes : List ℕ) → option_map (λ l. l.number) (slice_get lines i) ≡ Some number →
    option_map (λ l. l.bytes) (slice_get lines i) ≡ Some bytes → At lines i number bytes
at lines i number bytes told said = by (slice_get lines i) refl told said where
  by : (found : Option Line) → slice_get lines i ≡ found → option_map (λ l. l.number) found ≡ Some number → option_map (λ l. l.bytes) found ≡ Some bytes →
      At lines i number bytes
  by None is told said = cc
  by (Some l) is told said = record { line = l; is = is; number_is = cc told; bytes_are = cc said }

-- the line is the first of the remaining ones
from_here : (lines : List Line) (i : ℕ) (l : Line) → slice_get lines i ≡ Some l → drop i lines ≡ l ∷ drop (suc i) lines
from_here [] i l is = cc is
from_here (x ∷ xs) zero l is = let same : x ≡ l = cc is in ap (λ (y : Line). y ∷ xs) same
from_here (x ∷ xs) (suc i) l is = from_here xs i l is

next_here : (lines : List Line) (i : ℕ) (l : Line) → slice_get lines i ≡ Some l → drop i lines ≡ l ∷ drop (i + 1) lines
next_here lines i l is =
    let one : suc i ≡ i + 1 = omega arith in
    from_here lines i l is ∙ ap (λ (n : ℕ). l ∷ drop n lines) one

-- one is counted, and then the later ones
one_more : (found : Option Slips) (number : ℕ) (slip : Option Slip) (fs : List Found) →
    with_later (counted found number slip) fs ≡ with_later found (found_in number slip ++ fs)
one_more None number None fs = refl
one_more (Some s) number None fs = refl
one_more None number (Some slip) fs =
    ap (λ (n : ℕ). Some (record { first = record { line = number; slip = slip }; count = n })) (omega arith)
one_more (Some s) number (Some slip) fs = ap (λ (n : ℕ). Some (record s { count = n })) (omega arith)

pub none_later : (found : Option Slips) → with_later found [] ≡ found
none_later None = refl
none_later (Some s) = ap (λ (n : ℕ). Some (record s { count = n })) (omega arith)

pub further : (kind : Kind) (tools : List Tool) (deletes : Bool) (commands : List Command) (lines : List Line) (i number : ℕ) (bytes : List ℕ) (b : Between) (found : Option Slips)
    → At lines i number bytes →
    with_later (counted found number (step_read kind tools deletes commands b number (line_read bytes)).slip)
    (all_found kind tools deletes commands (step_read kind tools deletes commands b number (line_read bytes)).between (drop (i + 1) lines))
    ≡ with_later found (all_found kind tools deletes commands b (drop i lines))
further kind tools deletes commands lines i number bytes b found here =
    one_more found number (step_read kind tools deletes commands b number (line_read bytes)).slip
    (all_found kind tools deletes commands (step_read kind tools deletes commands b number (line_read bytes)).between (drop (i + 1) lines))
    ∙ rw (next_here lines i here.line here.is, here.number_is, here.bytes_are) refl

-- a count grows by 1 at most
pub one_counted : (found : Option Slips) (number : ℕ) (slip : Option Slip) → count_of (counted found number slip) ≤ count_of found + 1
one_counted None number None = omega arith
one_counted (Some s) number None = omega arith
one_counted None number (Some slip) = omega arith
one_counted (Some s) number (Some slip) = omega arith

-- one line further, where the mistakes of all kinds are found together
pub one_further : (kind : Kind) (tools : List Tool) (deletes : Bool) (commands : List Command) (lines : List Line) (i number : ℕ) (bytes : List ℕ) (b : Between)
    (found new : Option Slips) (step : LineStep) → At lines i number bytes → step_of_kind kind step ≡ step_read kind tools deletes commands b number (line_read bytes) →
    new ≡ counted found number (slip_of_kind kind step.slips) →
    with_later new (all_found kind tools deletes commands step.between (drop (i + 1) lines)) ≡ with_later found (all_found kind tools deletes commands b (drop i lines))
one_further kind tools deletes commands lines i number bytes b found new step here is new_is =
    let slip_is = ap (λ (s : Step). s.slip) is in
    let between_is = ap (λ (s : Step). s.between) is in
    rw (new_is, slip_is, between_is) (further kind tools deletes commands lines i number bytes b found here)

-- the lines of all kinds, if the mistakes of each are right
pub all_lines : (form : Form) (tools : List Tool) (deletes : Bool) (machine : MachineFile) (commands : List Command) (lines : List Line) (found : AllSlips) →
    ((kind : Kind) → slips_of_kind kind found ≡ slips_of kind tools deletes machine commands lines) →
    (spelled form found.unmounted ++ spelled form found.other_offset ++ spelled form found.no_offset ++ spelled form found.stale_offset ++ spelled form found.part_home)
    ≡ word_warnings form deletes machine tools commands lines
all_lines form tools deletes machine commands lines found each =
    let u : found.unmounted ≡ slips_of kinds.Unmounted tools deletes machine commands lines = each kinds.Unmounted in
    let o : found.other_offset ≡ slips_of kinds.OtherOffset tools deletes machine commands lines = each kinds.OtherOffset in
    let n : found.no_offset ≡ slips_of kinds.NoOffset tools deletes machine commands lines = each kinds.NoOffset in
    let s : found.stale_offset ≡ slips_of kinds.StaleOffset tools deletes machine commands lines = each kinds.StaleOffset in
    let p : found.part_home ≡ slips_of kinds.PartHome tools deletes machine commands lines = each kinds.PartHome in
    rw (u, o, n, s, p) refl
