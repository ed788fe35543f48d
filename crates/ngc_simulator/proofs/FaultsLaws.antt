-- The result of writing all faults of a program.
use Rattle.std.proofs.Common.{◌≡◌, ℕ, List, Option, None, true, Result, Ok, Err, refl, ap, subst, sym, ◌∙◌}
use Rattle.std.specs.Prelude.{IfErr}
use Rattle.ngc_certificate_text.specs.declared.piece.Setting.{Setting}
use Rattle.ngc_line_reader.specs.declared.program.fault.ReadFault.TheVariants.{Line, NoEnd, TooManyLines, Memory, Device}
use Rattle.ngc_all_faults.specs.declared.text_fault.TextFault.{TextFault}
use Rattle.ngc_all_faults.specs.declared.text_fault.TextFault.TheVariants.{Unread, Refused}
use Rattle.ngc_simulator.specs.AllFaults.{answer_of, is_of_text}
use Rattle.ngc_inputs.specs.Setups.{FileBytes}
use Rattle.ngc_inputs.specs.Unread.{FailsByInput, Input, unread_by}
use Rattle.ngc_inputs.specs.declared.fault.AnswerFault.{AnswerFault}
use Rattle.ngc_inputs.proofs.UnreadLaws.{ReportsIfUnread}

read_none : (s : Setting) (first : TextFault) → is_of_text first ≡ true → unread_by (answer_of s first) ≡ None
read_none s (Unread (Line n e)) is = refl
read_none s (Unread NoEnd) is = refl
read_none s (Unread TooManyLines) is = refl
read_none s (Unread Memory) is = refl
read_none s (Unread Device) is = cc is
read_none s (Refused n e) is = refl

-- a fault of a text doesn't say that a file isn't read
pub answered_read : (s : Setting) (first : TextFault) (answer : AnswerFault) → answer ≡ answer_of s first → is_of_text first ≡ true → unread_by answer ≡ None
answered_read s first answer is read = ap unread_by is ∙ read_none s first read

-- and where no file is named as one that isn't read, the count of failures is what it was
pub all_read : (fails : Option (List ℕ) → Type 0) (bytes : FileBytes) (files : List Input) (old new : ℕ) (r : Result (Unit {0}) AnswerFault) →
    IfErr r (λ fault. unread_by fault ≡ None) → new ≡ old → FailsByInput {T = Unit {0}} fails bytes files old new r
all_read fails bytes files old new (Ok u) read same = same
all_read fails bytes files old new (Err fault) read same = subst (λ why. ReportsIfUnread fails bytes files old new why) (sym read) same
