-- One step of the flow: the line's words are executed, and then it says which line is next.
use Rattle.std.specs.Prelude.{ℕ, ◌||◌, ℤ, List, [], ◌∷◌, slice_get, Bool, true, false}
use Rattle.std.specs.Prelude.{Option, Some, None, Result, Ok, Err, if◌then◌else◌}
use Rattle.ngc_line_reader.specs.Scan.{◌>>=◌}
use Rattle.ngc_dialect_reader.specs.declared.part.Keyword.{Keyword}
use Rattle.ngc_dialect_reader.specs.declared.part.Keyword.TheVariants as words
use Rattle.ngc_dialect_flow.specs.declared.effect.Effect.{Effect}
use Rattle.ngc_dialect_flow.specs.declared.effect.Effect.TheVariants as effects
use Rattle.ngc_dialect_flow.specs.declared.fault.Cause.{Cause}
use Rattle.ngc_dialect_flow.specs.declared.fault.Cause.TheVariants as causes
use Rattle.ngc_dialect_flow.specs.declared.mark.LineKind.{LineKind}
use Rattle.ngc_dialect_flow.specs.declared.mark.LineKind.TheVariants as kinds
use Rattle.ngc_dialect_flow.specs.declared.table.Row.{Row}
use Rattle.ngc_dialect_flow.specs.Places.{Plan}
use Rattle.ngc_dialect_flow.specs.State.{Flow, seek, burn}
use Rattle.ngc_dialect_flow.specs.Loops.{on, past, found, while_at, do_at, end_while_at, repeat_at, end_repeat_at, break_at, continue_at}
use Rattle.ngc_dialect_flow.specs.Loops.{begin_while}
use Rattle.ngc_dialect_flow.specs.Words.{Values, argument, or_zero, holds, has_m, jump_in, loop_holds}
use Rattle.ngc_dialect_flow.specs.Calls.{call_at, return_at, m98_at, m99_at, jump_to}

-- the flow goes to the branch or the end of an IF
abbrev pub seek_found : Option ℕ → Flow → Result Flow Cause
seek_found branch s = found branch >>= λ b. Ok (seek b s)

abbrev pub test_at : Option ℕ → Bool → Flow → Result Flow Cause
test_at branch holds s = if holds then Ok (on s) else seek_found branch s

-- If the flow seeks the branch of an IF, another IF with its label is refused.
abbrev pub if_at : Row → Bool → Flow → Result Flow Cause
if_at row holds s = if s.seeking then Err causes.LabelTwice else test_at row.branch holds s

-- ELSEIF and ELSE go to ENDIF after a branch that was executed
abbrev pub else_if_at : Row → Bool → Flow → Result Flow Cause
else_if_at row holds s = if s.seeking then test_at row.branch holds s else seek_found row.end s

abbrev pub else_at : Row → Flow → Result Flow Cause
else_at row s = if s.seeking then Ok (on s) else seek_found row.end s

-- an O word that calls nothing
abbrev pub turn : Keyword → Row → Values → Flow → Result Flow Cause
turn words.Sub row v s = past row.end s
turn words.If row v s = if_at row (holds v) s
turn words.ElseIf row v s = else_if_at row (holds v) s
turn words.Else row v s = else_at row s
turn words.While row v s = while_at row.end (holds v) s
turn words.EndWhile row v s = end_while_at s
turn words.Do row v s = do_at row.end s
turn words.Repeat row v s = repeat_at row.end (or_zero (argument v)) s
turn words.EndRepeat row v s = end_repeat_at s
turn words.Break row v s = break_at row.end s
turn words.Continue row v s = continue_at row.end s
turn _ row v s = Ok (on s)

-- the step leaves the parameters as they are
abbrev pub plainly : Result Flow Cause → Result (Flow × Effect) Cause
plainly r = r >>= λ s. Ok (s, effects.Stay)

abbrev pub o_word : Keyword → Plan → Row → Values → Flow → Result (Flow × Effect) Cause
o_word words.Call plan row v s = call_at plan v s
o_word words.EndSub plan row v s = return_at v s
o_word words.Return plan row v s = return_at v s
o_word k plan row v s = plainly (turn k row v s)

abbrev pub jump_with : Option ℤ → Plan → Values → Flow → Result Flow Cause
jump_with None plan v s = Ok (on s)
jump_with (Some z) plan v s = jump_to plan v.text z s

abbrev pub jump_at : Plan → Values → Flow → Result Flow Cause
jump_at plan v s = jump_with (jump_in v.statements) plan v s

-- a line of words, or Fanuc's GOTO; M2 and M30 end the program
abbrev pub plain : Plan → Values → Flow → Result (Flow × Effect) Cause
plain plan v s =
    if has_m 98 v then m98_at plan v s else (
    if has_m 99 v then m99_at plan v s else (
    if has_m 2 v || has_m 30 v then Ok (s, effects.End) else plainly (jump_at plan v s)))

-- Labels, percent signs and lines without parts do nothing: the text decides which percent sign ends
-- the program.
abbrev pub by_kind : LineKind → Plan → Row → Values → Flow → Result (Flow × Effect) Cause
by_kind kinds.Blank plan row v s = Ok (on s, effects.Stay)
by_kind kinds.Plain plan row v s = plain plan v s
by_kind kinds.Percent plan row v s = Ok (on s, effects.Stay)
by_kind kinds.Program plan row v s = Ok (on s, effects.Stay)
by_kind (kinds.Word k) plan row v s = o_word k plan row v s
by_kind kinds.Loop plan row v s = plainly (begin_while row.end (loop_holds v.statements) s)
by_kind kinds.EndLoop plan row v s = plainly (end_while_at s)

-- the program ends after its last line
abbrev pub at_row : Option Row → Plan → Values → Flow → Result (Flow × Effect) Cause
at_row None plan v s = Ok (s, effects.End)
at_row (Some row) plan v s = by_kind row.kind plan row v s

-- the flow after a line with these values, and what the parameters become
abbrev pub next : Plan → Values → Flow → Result (Flow × Effect) Cause
next plan v s = burn s >>= λ t. at_row (slice_get plan.rows t.line) plan v t

-- the flow after a line that a block delete switch skips
abbrev pub skipped : Flow → Result Flow Cause
skipped s = burn s >>= λ t. Ok (on t)

abbrev pub needs_values_of : LineKind → Bool → Bool
needs_values_of (kinds.Word words.ElseIf) seeking = seeking
needs_values_of _ seeking = true

abbrev pub needs_values_at : Option Row → Bool → Bool
needs_values_at None seeking = false
needs_values_at (Some row) seeking = needs_values_of row.kind seeking

-- whether the values of the line are needed: not those of an ELSEIF that ends a branch
abbrev pub needs_values : Plan → Flow → Bool
needs_values plan s = needs_values_at (slice_get plan.rows s.line) s.seeking

-- the flow after several lines with these values
abbrev pub run : Plan → List Values → Flow → Result Flow Cause
run plan [] s = Ok s
run plan (v ∷ vs) s = next plan v s >>= λ x. run plan vs x.0
