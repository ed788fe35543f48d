-- Lines of a program whose flow has begun: which one is next is decided by the line that was executed.
-- Our own.
use Rattle.std.specs.Prelude.{ℕ, zero, suc, ◌+◌, ◌==◌, nat_lt, ◌&&◌, ◌||◌, not, ℤ, List, [], ◌++◌, filter, slice_get, Bool, true, false}
use Rattle.std.specs.Prelude.{Option, Some, None, Result, Ok, Err, if◌then◌else◌}
use Rattle.std.specs.List.{list_any}
use Rattle.ngc_frames.specs.declared.change.FrameChange.{FrameChange}
use Rattle.ngc_canonical.specs.State.{Setup}
use Rattle.ngc_dialect_reader.specs.declared.part.Part.{Part}
use Rattle.ngc_dialect_reader.specs.Line.{line_of}
use Rattle.ngc_dialect_reader.specs.Text.{text}
use Rattle.ngc_dialect_parameters.specs.declared.statement.Statement.{Statement}
use Rattle.ngc_dialect_parameters.specs.declared.statement.Statement.TheVariants as statements
use Rattle.ngc_dialect_parameters.specs.declared.statement.Word.{Word}
use Rattle.ngc_dialect_execution.specs.declared.doing.Depths.{Depths}
use Rattle.ngc_dialect_parameters.specs.Stored.{Stored}
use Rattle.ngc_dialect_parameters.specs.Storing.{called}
use Rattle.ngc_dialect_flow.specs.declared.effect.Effect.{Effect}
use Rattle.ngc_dialect_flow.specs.declared.effect.Effect.TheVariants as effects
use Rattle.ngc_dialect_flow.specs.declared.fault.Cause.TheVariants.{TooManyLines}
use Rattle.ngc_dialect_flow.specs.Next.{needs_values, next, skipped}
use Rattle.ngc_dialect_flow.specs.Places.{Plan, plan_in}
use Rattle.ngc_dialect_flow.specs.Returning.{returned}
use Rattle.ngc_dialect_flow.specs.State.{Flow, begun, depth}
use Rattle.ngc_dialect_flow.specs.Words.{Values}
use Rattle.ngc_dialect_execution.specs.declared.fault.Cause.{Cause}
use Rattle.ngc_dialect_execution.specs.declared.fault.Cause.TheVariants as causes
use Rattle.ngc_dialect_execution.specs.declared.fault.DialectFault.{DialectFault}
use Rattle.ngc_dialect_execution.specs.declared.fault.DialectFault.TheVariants as faults
use Rattle.ngc_dialect_execution.specs.Faults.{◌>>=◌, caused, stored_cause}
use Rattle.ngc_dialect_execution.specs.Ending.{Outcome, at, changed_by, finished, with_changes}
use Rattle.ngc_dialect_execution.specs.Taken.{Between, Progress, Said, call_begun, call_ended, done_at, is_deleted, is_m, said_at, words_of}
use Rattle.ngc_dialect_execution.specs.Text.{ProgramLines, number_of}

-- what is known between two lines, and where the flow is
pub record FlowProgress : Type 0 where
  pub progress : Progress
  pub flow : Flow

-- ---- a line

-- M98 and M99 are the flow's, and so are P and L of M98
abbrev pub is_flow_word : Bool → Word → Bool
is_flow_word calls w =
    is_m 98 w || is_m 99 w || (calls && ((w.letter == 80) || (w.letter == 76)))

abbrev pub others_in : Bool → List Word → List Word
others_in calls words = filter (λ w. not (is_flow_word calls w)) words

-- the words of a line that the flow leaves
abbrev pub other_words : List Word → List Word
other_words words = others_in (list_any (is_m 98) words) words

abbrev pub nothing : Said
nothing = record { statements = []; arguments = [] }

-- what a line says; of an ELSEIF that ends a branch the condition isn't computed
abbrev pub said_if : Bool → Stored → List ℕ → List Part → Result Said Cause
said_if needed k text parts = if needed then said_at k text parts else Ok nothing

abbrev pub values_from : List ℕ → Said → Values
values_from text said = record { text = text; statements = said.statements; arguments = said.arguments }

abbrev pub with_values : Progress → Result Stored Cause → Result Progress Cause
with_values p r = r >>= λ k. Ok (record { values = k; between = p.between })

-- what a step does to the parameters: a call begins with the line's arguments, or ends
abbrev pub effect_taken : Effect → List (Option ℤ) → Progress → Result Progress Cause
effect_taken effects.Stay arguments p = Ok p
effect_taken effects.Enter arguments p =
    with_values p (caused stored_cause (called arguments p.values))
effect_taken (effects.Return value) arguments p =
    with_values p (caused stored_cause (returned value p.values))
effect_taken effects.End arguments p = Ok p

-- what it does to the saved modes: a call begins, or ends at a line with this number
abbrev pub with_line : Progress → Result Between Cause → Result Progress Cause
with_line p r = r >>= λ b. Ok (record p { between = b })

abbrev pub level_begun : Progress → Result Progress Cause
level_begun p = with_line p (call_begun p.between)

abbrev pub level_ended : Setup → ℕ → Progress → Result Progress Cause
level_ended setup line p = with_line p (call_ended setup line p.between)

abbrev pub level_repeated : Setup → ℕ → Progress → Result Progress Cause
level_repeated setup line p = level_ended setup line p >>= λ q. level_begun q

-- Calls are levels, also those of M98, which have no parameters of their own. M99 that leaves as many
-- calls open executes its program again.
abbrev pub level_taken : Setup → ℕ → Depths → Progress → Result Progress Cause
level_taken setup line d p =
    if nat_lt d.before d.after then level_begun p else (
    if nat_lt d.after d.before then level_ended setup line p else (
    if d.returns && nat_lt 0 d.after then level_repeated setup line p else Ok p))

abbrev pub is_m99 : Statement → Bool
is_m99 (statements.Word w) = is_m 99 w
is_m99 _ = false

abbrev pub has_m99 : List Statement → Bool
has_m99 said = list_any is_m99 said

abbrev pub depths : Flow → Flow → List Statement → Depths
depths s t said = record { before = depth s; after = depth t; returns = has_m99 said }

-- both, with the effect
abbrev pub effect_done :
    Setup → ℕ → Depths → Effect → List (Option ℤ) → Progress → Result (Effect × Progress) Cause
effect_done setup line d effect arguments p = do
  q ← effect_taken effect arguments p
  r ← level_taken setup line d q
  Ok (effect, r)

-- where the flow is after a line that said this and took effect
unfoldable pub stepped :
    Setup → ℕ → Plan → List ℕ → Said → Flow → Progress → Result (Effect × FlowProgress) Cause
stepped setup line plan text said s p = do
  step ← caused causes.Flow (next plan (values_from text said) s)
  done ← effect_done setup line (depths s step.0 said.statements) step.1 said.arguments p
  Ok (done.0, record { progress = done.1; flow = step.0 })

-- the same, unless the line has ended the program
abbrev pub turned :
    Setup → ℕ → Plan → List ℕ → Said → Flow → Progress → Result (Effect × FlowProgress) Cause
turned setup line plan text said s p =
    if p.between.state.ended then Ok (effects.End, record { progress = p; flow = s })
    else stepped setup line plan text said s p

-- a line that says this takes effect, and then the flow goes on
unfoldable pub others_taken :
    Setup → Plan → ℕ → List ℕ → Said → FlowProgress → Result (Effect × FlowProgress) Cause
others_taken setup plan line text said r = do
  p ← done_at setup line text said.statements (other_words (words_of said.statements)) r.progress
  turned setup line plan text said r.flow p

-- a line with this text and these parts
unfoldable pub flow_statements_taken :
    Setup → Plan → ℕ → List ℕ → List Part → FlowProgress → Result (Effect × FlowProgress) Cause
flow_statements_taken setup plan line text parts r = do
  said ← said_if (needs_values plan r.flow) r.progress.values text parts
  others_taken setup plan line text said r

abbrev pub passed_over : FlowProgress → Result (Effect × FlowProgress) Cause
passed_over r =
    caused causes.Flow (skipped r.flow) >>= λ s.
    Ok (effects.Stay, record { progress = r.progress; flow = s })

-- a line by its parts, unless block delete takes it out
abbrev pub flow_parts_taken : Setup → Bool → Plan → ℕ → List ℕ → List Part → FlowProgress →
    Result (Effect × FlowProgress) Cause
flow_parts_taken setup block_delete plan line bytes parts r =
    if block_delete && is_deleted parts then passed_over r
    else flow_statements_taken setup plan line (text bytes) parts r

-- a line, without its line feed
unfoldable pub flow_line_taken :
    Setup → Bool → Plan → ℕ → List ℕ → FlowProgress → Result (Effect × FlowProgress) Cause
flow_line_taken setup block_delete plan line bytes r = do
  parts ← caused causes.Reading (line_of r.progress.between.dialect bytes)
  flow_parts_taken setup block_delete plan line bytes parts r

-- ---- a program

-- the program ends after its last line; else a line is executed
abbrev pub line_or_end : Option (List ℕ) → Outcome → (List ℕ → Outcome) → Outcome
line_or_end None over line = over
line_or_end (Some bytes) over line = line bytes

abbrev pub ends : Effect → Bool
ends effects.End = true
ends _ = false

-- after a line that did this the program ends, with the number of that line, or goes on
abbrev pub on_from : Setup → ℕ → Effect × FlowProgress → List FrameChange →
    (FlowProgress → List FrameChange → Outcome) → Outcome
on_from setup line x changes rest =
    if ends x.0 then with_changes changes (finished setup line x.1.progress) else rest x.1 changes

-- the same, with the changes before the line and the change that it makes
abbrev pub then_on : Setup → ℕ → Progress → List FrameChange →
    Result (Effect × FlowProgress) DialectFault →
    (FlowProgress → List FrameChange → Outcome) → Outcome
then_on setup line p changes (Ok x) rest =
    on_from setup line x (changes ++ changed_by line p x.1.progress) rest
then_on setup line p changes (Err e) rest = Err e

-- the number of the line that is next
abbrev pub number_at : FlowProgress → ℕ
number_at r = number_of (r.flow.line + 1)

-- A program from the line on that is next, where `fuel` lines may still be executed, and these are the
-- changes of the frame so far.
unfoldable pub flow_taken : Setup → Bool → Plan → ProgramLines → ℕ → FlowProgress →
    List FrameChange → Outcome
flow_taken setup block_delete plan program zero r changes =
    line_or_end (slice_get program.lines r.flow.line)
    (with_changes changes (finished setup program.last r.progress))
    (λ bytes. Err (faults.At (number_at r) (causes.Flow TooManyLines)))
flow_taken setup block_delete plan program (suc fuel) r changes =
    line_or_end (slice_get program.lines r.flow.line)
    (with_changes changes (finished setup program.last r.progress))
    (λ bytes. then_on setup (number_at r) r.progress changes
    (at (number_at r) (flow_line_taken setup block_delete plan (number_at r) bytes r))
    (λ q now. flow_taken setup block_delete plan program fuel q now))

-- the flow begins at line n of a program, counted from 0
abbrev pub flow_from : Setup → Bool → ProgramLines → ℕ → Progress → List FrameChange → Outcome
flow_from setup block_delete program n p changes =
    flow_taken setup block_delete (plan_in program.dialect program.lines) program (begun n).fuel
    (record { progress = p; flow = begun n }) changes
