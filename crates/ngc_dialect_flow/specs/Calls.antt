-- Calls of subprograms (LinuxCNC, "O codes", "Subroutines" and "Fanuc-Style Programs"; Fanuc,
-- "Subprogram"; Mach3, "M98" and "M99").
use Rattle.std.specs.Prelude.{ℕ, ◌+◌, ◌-◌, ◌/◌, ◌%◌, ◌==◌, ◌&&◌, nat_le, nat_lt, ℤ, List, [], ◌∷◌, ◌++◌}
use Rattle.std.specs.Prelude.{Option, Some, None, Result, Ok, Err, if◌then◌else◌}
use Rattle.ngc_line_reader.specs.Scan.{◌>>=◌}
use Rattle.ngc_dialect_names.specs.declared.dialect.Dialect.{Dialect}
use Rattle.ngc_dialect_reader.specs.Table.{switches_of}
use Rattle.ngc_dialect_flow.specs.declared.effect.Effect.{Effect}
use Rattle.ngc_dialect_flow.specs.declared.effect.Effect.TheVariants as effects
use Rattle.ngc_dialect_flow.specs.declared.fault.Cause.{Cause}
use Rattle.ngc_dialect_flow.specs.declared.fault.Cause.TheVariants as causes
use Rattle.ngc_dialect_flow.specs.declared.mark.Label.{Label}
use Rattle.ngc_dialect_flow.specs.declared.mark.Label.TheVariants as labels
use Rattle.ngc_dialect_flow.specs.declared.search.Search.{Search}
use Rattle.ngc_dialect_flow.specs.declared.search.Search.TheVariants as searches
use Rattle.ngc_dialect_flow.specs.declared.table.Place.{Place}
use Rattle.ngc_dialect_flow.specs.declared.state.Call.{Call}
use Rattle.ngc_dialect_flow.specs.declared.state.CallKind.{CallKind}
use Rattle.ngc_dialect_flow.specs.declared.state.CallKind.TheVariants as calls
use Rattle.ngc_dialect_flow.specs.Marks.{whole_of, number_label}
use Rattle.ngc_dialect_flow.specs.Places.{Plan, key_with}
use Rattle.ngc_dialect_flow.specs.State.{Flow, depth, after, go, with_calls}
use Rattle.ngc_dialect_flow.specs.Loops.{last_of, without_last, on}
use Rattle.ngc_dialect_flow.specs.Words.{Values, argument, label_in, word_in, only_word, needed}

-- the one line with a label
abbrev pub only : Option Place → Result ℕ Cause
only None = Err causes.LabelMissing
only (Some p) = if p.again then Err causes.LabelTwice else Ok p.line

abbrev pub only_with : Plan → Option (List ℕ) → Result ℕ Cause
only_with plan None = Err causes.LabelMissing
only_with plan (Some key) = only (plan.place key)

-- the one line that a search finds under a label
abbrev pub line_with : Plan → List ℕ → Search → Option Label → Result ℕ Cause
line_with plan text search label = only_with plan (key_with text (Some search) label)

-- A call begins, and goes to line n. The line after the call is kept, and how often the subprogram is
-- executed again. 10 calls may be open.
abbrev pub enter : CallKind → ℕ → ℕ → Flow → Result Flow Cause
enter kind n left s =
    if nat_le 10 (depth s) then Err causes.TooDeep
    else Ok (go n (with_calls (s.calls ++ (record { kind = kind; back = after s.line; entry = n; left = left } ∷ [])) s))

-- the last call ends, and goes to the line after it
abbrev pub leave : Call → Flow → Flow
leave c s = go c.back (with_calls (without_last s.calls) s)

abbrev pub last_call : Flow → Option Call
last_call s = last_of s.calls

-- CALL
abbrev pub call_at : Plan → Values → Flow → Result (Flow × Effect) Cause
call_at plan v s =
    line_with plan v.text searches.Sub (label_in v.statements) >>= λ n.
    enter calls.Sub (after n) 0 s >>= λ t. Ok (t, effects.Enter)

-- ENDSUB and RETURN
abbrev pub return_of : CallKind → Call → Values → Flow → Result (Flow × Effect) Cause
return_of calls.Sub c v s = Ok (leave c s, effects.Return (argument v))
return_of _ c v s = Err causes.NotCalled

abbrev pub return_with : Option Call → Values → Flow → Result (Flow × Effect) Cause
return_with None v s = Err causes.NotCalled
return_with (Some c) v s = return_of c.kind c v s

abbrev pub return_at : Values → Flow → Result (Flow × Effect) Cause
return_at v s = return_with (last_call s) v s

-- How often M98 calls: the L word, or once. In Fanuc's dialect the digits of P before its last four
-- say so too.
abbrev pub times : Dialect → ℕ → Option ℤ → Result (ℕ × ℕ) Cause
times d p (Some l) = needed (Some l) >>= λ count. Ok (p, count)
times d p None = if (switches_of d).macros && nat_lt 9999 p then Ok (p % 10000, p / 10000) else Ok (p, 1)

abbrev pub call_times : Plan → Values → Flow → ℕ × ℕ → Result (Flow × Effect) Cause
call_times plan v s x =
    line_with plan v.text searches.Program (Some (labels.Number x.0)) >>= λ n.
    if x.1 == 0 then Ok (on s, effects.Stay)
    else (enter calls.Program (after n) (x.1 - 1) s >>= λ t. Ok (t, effects.Stay))

-- M98
abbrev pub m98_at : Plan → Values → Flow → Result (Flow × Effect) Cause
m98_at plan v s =
    only_word 80 v.statements >>= λ program.
    only_word 76 v.statements >>= λ count.
    needed program >>= λ p. times plan.dialect p count >>= λ x. call_times plan v s x

-- the line with a number of its own
abbrev pub jump_to : Plan → List ℕ → ℤ → Flow → Result Flow Cause
jump_to plan text z s = line_with plan text searches.LineNumber (number_label (whole_of z)) >>= λ n. Ok (go n s)

-- M99 returns, or goes on at the line with the number P in Fanuc's dialect
abbrev pub leave_to : Plan → List ℕ → Option ℤ → Call → Flow → Result Flow Cause
leave_to plan text None c s = Ok (leave c s)
leave_to plan text (Some p) c s =
    if (switches_of plan.dialect).macros then jump_to plan text p (leave c s) else Ok (leave c s)

-- the subprogram of the last call is executed again
abbrev pub again : Call → Flow → Flow
again c s =
    go c.entry (with_calls (without_last s.calls ++ (record { kind = c.kind; back = c.back; entry = c.entry; left = c.left - 1 } ∷ [])) s)

abbrev pub m99_from : Plan → Values → Call → Flow → Result Flow Cause
m99_from plan v c s = if c.left == 0 then leave_to plan v.text (word_in 80 v.statements) c s else Ok (again c s)

abbrev pub m99_of : CallKind → Plan → Values → Call → Flow → Result (Flow × Effect) Cause
m99_of calls.Sub plan v c s = Err causes.NotCalled
m99_of calls.Program plan v c s = m99_from plan v c s >>= λ t. Ok (t, effects.Stay)

-- in the main program M99 ends the program
abbrev pub m99_with : Option Call → Plan → Values → Flow → Result (Flow × Effect) Cause
m99_with None plan v s = Ok (s, effects.End)
m99_with (Some c) plan v s = m99_of c.kind plan v c s

abbrev pub m99_at : Plan → Values → Flow → Result (Flow × Effect) Cause
m99_at plan v s = m99_with (last_call s) plan v s
