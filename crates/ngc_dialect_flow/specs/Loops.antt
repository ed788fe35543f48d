-- Loops (LinuxCNC, "O codes", "Looping"; Fanuc, "Custom macro", "Repetition").
use Rattle.std.specs.Prelude.{ℕ, ◌+◌, ◌-◌, ◌/◌, ◌==◌, ◌&&◌, nat_le, ℤ, pos, int_lt, unsigned_abs, List, [], ◌∷◌, ◌++◌}
use Rattle.std.specs.Prelude.{length, take, slice_get, Bool, Option, Some, None, option_and_then, is_some}
use Rattle.std.specs.Prelude.{Result, Ok, Err, if◌then◌else◌}
use Rattle.std.specs.List.{list_any}
use Rattle.ngc_line_reader.specs.Scan.{◌>>=◌}
use Rattle.ngc_dialect_numbers.specs.Numbers.{ONE, rounded}
use Rattle.ngc_dialect_flow.specs.declared.fault.Cause.{Cause}
use Rattle.ngc_dialect_flow.specs.declared.fault.Cause.TheVariants as causes
use Rattle.ngc_dialect_flow.specs.declared.state.Loop.{Loop}
use Rattle.ngc_dialect_flow.specs.declared.state.LoopKind.{LoopKind}
use Rattle.ngc_dialect_flow.specs.declared.state.LoopKind.TheVariants as loops
use Rattle.ngc_dialect_flow.specs.State.{Flow, depth, after, go, with_loops}

abbrev pub last_of : {X : Type 0} → List X → Option X
last_of xs = slice_get xs (length xs - 1)

abbrev pub without_last : {X : Type 0} → List X → List X
without_last xs = take (length xs - 1) xs

-- the line after this one is next
abbrev pub on : Flow → Flow
on s = go (after s.line) s

-- the line at which a block ends
abbrev pub found : Option ℕ → Result ℕ Cause
found None = Err causes.EndMissing
found (Some n) = Ok n

-- the line after a block's end is next
abbrev pub past : Option ℕ → Flow → Result Flow Cause
past end s = found end >>= λ e. Ok (go (after e) s)

abbrev pub if_ends_at : ℕ → ℕ → Loop → Option Loop
if_ends_at depth n l = if (l.depth == depth) && (l.last == n) then Some l else None

-- the innermost loop, if it ends at this line
abbrev pub ending : Flow → Option Loop
ending s = option_and_then (if_ends_at (depth s) s.line) (last_of s.loops)

-- whether a loop of this call is open that ends at line e
abbrev pub is_open : ℕ → Flow → Bool
is_open e s = list_any (λ l. is_some (if_ends_at (depth s) e l)) s.loops

-- A loop begins whose last line is e. 32 loops may be open, and no two that end at the same line.
abbrev pub opened : LoopKind → ℕ → Flow → Result Flow Cause
opened kind e s =
    if is_open e s then Err causes.LabelTwice else (
    if nat_le 32 (length s.loops) then Err causes.TooManyLoops
    else Ok (on (with_loops (s.loops ++ (record { kind = kind; depth = depth s; first = after s.line; last = e } ∷ [])) s)))

abbrev pub begin_while : Option ℕ → Bool → Flow → Result Flow Cause
begin_while end holds s = found end >>= λ e. if holds then opened loops.While e s else Ok (go (after e) s)

-- WHILE begins a loop, or ends one that DO has begun
abbrev pub while_of : LoopKind → Loop → Option ℕ → Bool → Flow → Result Flow Cause
while_of loops.Do l end holds s = Ok (if holds then go l.first s else on s)
while_of _ l end holds s = begin_while end holds s

abbrev pub while_with : Option Loop → Option ℕ → Bool → Flow → Result Flow Cause
while_with None end holds s = begin_while end holds s
while_with (Some l) end holds s = while_of l.kind l end holds s

abbrev pub while_at : Option ℕ → Bool → Flow → Result Flow Cause
while_at end holds s = while_with (ending s) end holds s

abbrev pub do_at : Option ℕ → Flow → Result Flow Cause
do_at end s = found end >>= λ e. opened loops.Do e s

-- ENDWHILE goes back to its WHILE
abbrev pub back_of : LoopKind → Loop → Flow → Result Flow Cause
back_of loops.While l s = Ok (go (l.first - 1) s)
back_of _ l s = Err causes.NotOpen

abbrev pub back_with : Option Loop → Flow → Result Flow Cause
back_with None s = Err causes.NotOpen
back_with (Some l) s = back_of l.kind l s

abbrev pub end_while_at : Flow → Result Flow Cause
end_while_at s = back_with (ending s) s

-- how often REPEAT executes its lines: the nearest whole number
abbrev pub rounds : ℤ → ℕ
rounds z = if int_lt z (pos 0) then 0 else unsigned_abs (rounded z) / ONE

abbrev pub repeat_at : Option ℕ → ℤ → Flow → Result Flow Cause
repeat_at end count s =
    found end >>= λ e. if rounds count == 0 then Ok (go (after e) s) else opened (loops.Repeat (rounds count - 1)) e s

abbrev pub with_rounds : ℕ → Loop → Loop
with_rounds left l = record { kind = loops.Repeat left; depth = l.depth; first = l.first; last = l.last }

-- the next round of the innermost loop
abbrev pub round : Loop → ℕ → Flow → Flow
round l left s = go l.first (with_loops (without_last s.loops ++ (with_rounds left l ∷ [])) s)

-- ENDREPEAT goes back to the first line of its loop while rounds are left
abbrev pub again_of : LoopKind → Loop → Flow → Result Flow Cause
again_of (loops.Repeat left) l s =
    if left == 0 then Ok (on s) else Ok (round l (left - 1) s)
again_of _ l s = Err causes.NotOpen

abbrev pub again_with : Option Loop → Flow → Result Flow Cause
again_with None s = Err causes.NotOpen
again_with (Some l) s = again_of l.kind l s

abbrev pub end_repeat_at : Flow → Result Flow Cause
end_repeat_at s = again_with (ending s) s

-- BREAK goes past the end of its loop, CONTINUE to its end
abbrev pub break_at : Option ℕ → Flow → Result Flow Cause
break_at end s = found end >>= λ e. if is_open e s then Ok (go (after e) s) else Err causes.NotOpen

abbrev pub continue_at : Option ℕ → Flow → Result Flow Cause
continue_at end s = found end >>= λ e. if is_open e s then Ok (go e s) else Err causes.NotOpen
