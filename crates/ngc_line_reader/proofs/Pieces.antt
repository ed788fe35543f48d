-- The effect of a piece on a reader.
use Rattle.std.proofs.Common.{◌≡◌, ℕ, ap, subst, true, Some, None, List, [], ◌++◌, Result, Ok, Err, refl, sym, ◌∙◌}
use Rattle.std.proofs.lemmas.List.{append-nil}
use Rattle.ngc_line_reader.specs.declared.program.fault.ReadFault.{ReadFault}
use Rattle.ngc_line_reader.specs.declared.program.fault.ReadFault.TheVariants as faults
use Rattle.ngc_line_reader.specs.declared.program.phase.Phase.{Phase}
use Rattle.ngc_line_reader.specs.declared.program.phase.Phase.TheVariants.{Start, Marked, Unmarked}
use Rattle.ngc_line_reader.specs.declared.program.loader.Loader.{Loader}
use Rattle.ngc_line_reader.specs.declared.program.loader.Step.{Step}
use Rattle.ngc_line_reader.specs.declared.program.loader.Step.TheVariants.{More, End}
use Rattle.ngc_line_reader.specs.declared.program.reader.State.{State}
use Rattle.ngc_line_reader.specs.declared.program.reader.State.TheVariants.{Going, Ended, Refused}
use Rattle.ngc_line_reader.specs.Program.{Line, split_lines}
use Rattle.ngc_line_reader.specs.ProgramText.{Outcome}
use Rattle.ngc_line_reader.specs.ProgramView.{lines_in, FaultIs}
use Rattle.ngc_line_reader.specs.Pieces.{firm_lines}
use Rattle.ngc_line_reader.specs.Load.{at_end, walked, ended, resumed, standing, IsLineFault, PartsLines, IsLoading, StepResultIs}
use Rattle.ngc_line_reader.specs.Reader.{outcome_by, fault_by, has_ended_by}
use Rattle.ngc_line_reader.specs.ReaderView.{AnswerIs}
use Rattle.ngc_line_reader.proofs.LineWalk.{walk_end}
use Rattle.ngc_line_reader.proofs.Feeds.{split_parts, firm_parts, firm_begun}

-- a fault is its own
pub fault_self : (fault : ReadFault) → FaultIs fault (Err fault)
fault_self (faults.Line n f) = refl
fault_self faults.NoEnd = refl
fault_self faults.TooManyLines = refl
fault_self faults.Memory = tt
fault_self faults.Device = tt

pub answer_self : (fault : ReadFault) → AnswerIs (Err fault) (Some fault)
answer_self (faults.Line n f) = refl
answer_self faults.NoEnd = refl
answer_self faults.TooManyLines = refl
answer_self faults.Memory = tt
answer_self faults.Device = refl

-- a fault of lines is certain
stands_as : (fault : ReadFault) (o : Outcome) → IsLineFault fault → FaultIs fault o → AnswerIs (Err fault) (standing o)
stands_as (faults.Line n f) o h is = ap standing is
stands_as faults.NoEnd o h is = absurd (h.0 refl)
stands_as faults.TooManyLines o h is = ap standing is
stands_as faults.Memory o h is = tt
stands_as faults.Device o h is = absurd (h.1 refl)

none_at_end : (phase : Phase) (found : List Line) → standing (at_end phase found) ≡ None
none_at_end Start found = refl
none_at_end Marked found = refl
none_at_end Unmarked found = refl

module _ {A : Type 0} where
  -- while a line has begun and is not too long, no fault is certain
  nothing_stands : (l : Loader A) → IsLoading l → standing (resumed firm_lines l []) ≡ None
  nothing_stands l loading =
      let none : firm_lines (l.cut.items ++ []) ≡ [] = ap firm_lines (append-nil l.cut.items) ∙ firm_begun l.cut.items loading.feedless loading.short in
      ap (λ (ls : List (List ℕ)). standing (walked l.found ls)) none ∙ ap standing (walk_end l.found.phase _ (lines_in l.found.lines))
      ∙ none_at_end l.found.phase (lines_in l.found.lines)

  -- a piece leads from a loader to another
  abbrev pub Leads : Loader A → Loader A → List ℕ → Result Step ReadFault → Type 0
  Leads old new piece result =
      (lines : List ℕ → List (List ℕ)) → PartsLines lines → (rest : List ℕ) →
      StepResultIs result (resumed lines old (piece ++ rest)) (resumed lines new rest) (ended new.found)

  at_step : (old new : Loader A) (piece : List ℕ) (result other : Result Step ReadFault) → Leads old new piece result → result ≡ other →
      Leads old new piece other
  at_step old new piece result other leads e = λ lines parts rest.
      subst (λ (r : Result Step ReadFault). StepResultIs r (resumed lines old (piece ++ rest)) (resumed lines new rest) (ended new.found)) e
      (leads lines parts rest)

  -- the piece's bytes, and no more
  alone : (l : Loader A) (piece : List ℕ) → resumed firm_lines l (piece ++ []) ≡ resumed firm_lines l piece
  alone l piece = ap (λ (bytes : List ℕ). resumed firm_lines l bytes) (append-nil piece)

  -- if the text continues
  module _ (state : State) (old new : Loader A) (piece : List ℕ) (result : Result Step ReadFault) (x : Step) (going : state ≡ Going)
      (leads : Leads old new piece result) (is : result ≡ Ok x) (more : x ≡ More) where
    pub more_answer : IsLoading new → fault_by state old piece ≡ None
    more_answer loading =
        let step = at_step old new piece result (Ok More) leads (is ∙ ap Ok more) firm_lines firm_parts [] in
        ap (λ (s : State). fault_by s old piece) going ∙ ap standing (sym (alone old piece) ∙ step) ∙ nothing_stands new loading

    pub more_firm : (rest : List ℕ) → fault_by state old (piece ++ rest) ≡ fault_by state new rest
    more_firm rest =
        let step = at_step old new piece result (Ok More) leads (is ∙ ap Ok more) firm_lines firm_parts rest in
        ap (λ (s : State). fault_by s old (piece ++ rest)) going ∙ ap standing step ∙ ap (λ (s : State). fault_by s new rest) (sym going)

    pub more_text : (rest : List ℕ) → outcome_by state old (piece ++ rest) ≡ outcome_by state new rest
    more_text rest =
        let step = at_step old new piece result (Ok More) leads (is ∙ ap Ok more) split_lines split_parts rest in
        ap (λ (s : State). outcome_by s old (piece ++ rest)) going ∙ step ∙ ap (λ (s : State). outcome_by s new rest) (sym going)

  -- if it ends
  module _ (state : State) (old new : Loader A) (piece : List ℕ) (result : Result Step ReadFault) (x : Step) (going : state ≡ Going)
      (leads : Leads old new piece result) (is : result ≡ Ok x) (end : x ≡ End) where
    pub end_firm : (rest : List ℕ) → fault_by state old (piece ++ rest) ≡ None
    end_firm rest =
        let step = at_step old new piece result (Ok End) leads (is ∙ ap Ok end) firm_lines firm_parts rest in
        ap (λ (s : State). fault_by s old (piece ++ rest)) going ∙ ap standing step

    pub end_answer : fault_by state old piece ≡ None
    end_answer = ap (λ (bytes : List ℕ). fault_by state old bytes) (sym (append-nil piece)) ∙ end_firm []

    pub end_text : (rest : List ℕ) → outcome_by state old (piece ++ rest) ≡ Ok (ended new.found)
    end_text rest =
        let step = at_step old new piece result (Ok End) leads (is ∙ ap Ok end) split_lines split_parts rest in
        ap (λ (s : State). outcome_by s old (piece ++ rest)) going ∙ step

  -- if it is refused
  module _ (state : State) (old new : Loader A) (piece : List ℕ) (result : Result Step ReadFault) (fault : ReadFault) (going : state ≡ Going)
      (leads : Leads old new piece result) (is : result ≡ Err fault) where
    pub fault_answer : IsLineFault fault → AnswerIs (Err fault) (fault_by state old piece)
    fault_answer lines =
        let step = at_step old new piece result (Err fault) leads is firm_lines firm_parts [] in
        let here : AnswerIs (Err fault) (standing (resumed firm_lines old piece)) =
        subst (λ (o : Outcome). AnswerIs (Err fault) (standing o)) (alone old piece) (stands_as fault _ lines step) in
        subst (λ (s : State). AnswerIs (Err fault) (fault_by s old piece)) (sym going) here

    pub fault_text : (rest : List ℕ) → FaultIs fault (outcome_by state old (piece ++ rest))
    fault_text rest =
        let step = at_step old new piece result (Err fault) leads is split_lines split_parts rest in
        subst (λ (s : State). FaultIs fault (outcome_by s old (piece ++ rest))) (sym going) step

  -- after the end of the text, the following bytes change nothing
  pub ended_for_all : (state : State) (l : Loader A) (a b : List ℕ) → has_ended_by state ≡ true → outcome_by state l a ≡ outcome_by state l b
  ended_for_all Going l a b e = absurd (cc e)
  ended_for_all Ended l a b e = refl
  ended_for_all (Refused fault) l a b e = refl
