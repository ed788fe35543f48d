-- What is said of a job file that is no document, or is one.
use Rattle.std.proofs.Common.{◌≡◌, List, [], Some, None, Result, Err, ap, sym, arith}
use Rattle.toml.specs.Data.{Data}
use Rattle.ngc_machine_files.specs.Tree.{tree_of}
use Rattle.ngc_refused_files.specs.Stops.{Stop, StopsWhere}
use Rattle.ngc_job_words.specs.Commands.{Text}
use Rattle.ngc_job_calls.specs.Said.{FaultIs, FaultSays, ResultIs, no_document, words_by, words_in}
use Rattle.ngc_job_calls.specs.declared.fault.CallFault.{CallFault}
use Rattle.ngc_job_calls.specs.declared.fault.CallFault.TheVariants as faults

abbrev nowhere : Stop
nowhere = record { at = 0; why = [] }

pub read : {X : Type 0} (texts : X → List Text) (name bytes : Text) (words : List Text) (tree : Data) (result : Result X CallFault) → tree_of bytes ≡ Some tree
    → ResultIs texts result (words_in name bytes tree words) → StopsWhere bytes (λ stop. ResultIs texts result (words_by name bytes words stop))
read texts name bytes words tree result is says =
    record { stop = nowhere; inside = omega arith; holds = rw is says }

pub without_memory : (name bytes : Text) (words : List Text) → StopsWhere bytes (λ stop. FaultSays faults.Memory (words_by name bytes words stop))
without_memory name bytes words = record { stop = nowhere; inside = omega arith; holds = tt }

pub said_nothing : (name bytes : Text) → StopsWhere bytes (λ stop. FaultIs faults.Memory (no_document name bytes stop))
said_nothing name bytes = record { stop = nowhere; inside = omega arith; holds = tt }

says_so : (fault : CallFault) (text : Text) → FaultIs fault text → FaultSays fault (Err text)
says_so (faults.Refused said) text is = ap (λ t. Err t) (sym is)
says_so faults.Memory text is = tt
says_so faults.Unread text is = absurd is
says_so (faults.Usage said) text is = absurd is

pub unread : (name bytes : Text) (words : List Text) (fault : CallFault) → tree_of bytes ≡ None → StopsWhere bytes (λ stop. FaultIs fault (no_document name bytes stop))
    → StopsWhere bytes (λ stop. FaultSays fault (words_by name bytes words stop))
unread name bytes words fault is says =
    record { stop = says.stop; inside = says.inside; holds = rw is (says_so fault (no_document name bytes says.stop) says.holds) }
