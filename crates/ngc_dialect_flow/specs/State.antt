-- Where the flow of a program is.
use Rattle.std.specs.Prelude.{ℕ, ◌==◌, ◌+◌, ◌-◌, ◌&&◌, ◌||◌, nat_lt, nat_le, List, [], Bool, true, false, length, filter, if◌then◌else◌}
use Rattle.std.specs.Prelude.{Result, Ok, Err}
use Rattle.ngc_dialect_flow.specs.declared.fault.Cause.{Cause}
use Rattle.ngc_dialect_flow.specs.declared.fault.Cause.TheVariants as causes
use Rattle.ngc_dialect_flow.specs.declared.state.State.{State}
use Rattle.ngc_dialect_flow.specs.declared.state.Loop.{Loop}
use Rattle.ngc_dialect_flow.specs.declared.state.Call.{Call}

-- `seeking`: the flow came from an IF or ELSEIF whose condition doesn't hold. The innermost loop and
-- call are the last ones. `fuel`: how many lines may still be executed.
pub record Flow : Type 0 where
  pub line : ℕ
  pub seeking : Bool
  pub loops : List Loop
  pub calls : List Call
  pub fuel : ℕ

abbrev pub flow_of : State → Flow
flow_of s = record { line = s.line; seeking = s.seeking; loops = s.loops.items; calls = s.calls.items; fuel = s.fuel }

abbrev pub depth : Flow → ℕ
depth s = length s.calls

-- the line after line n; lines count in 64 bits
abbrev pub after : ℕ → ℕ
after n = if nat_lt n 18446744073709551615 then n + 1 else n

-- whether a loop stays open when line n is next: it is a caller's, or line n is in it
abbrev pub stays : ℕ → ℕ → Loop → Bool
stays depth n l = nat_lt l.depth depth || ((l.depth == depth) && (nat_le l.first n && nat_le n l.last))

-- The flow goes to line n. It leaves the loops that line n isn't in.
abbrev pub go : ℕ → Flow → Flow
go n s = record { line = n; seeking = false; loops = filter (stays (depth s) n) s.loops; calls = s.calls; fuel = s.fuel }

-- The flow goes to line n, since a condition doesn't hold.
abbrev pub seek : ℕ → Flow → Flow
seek n s = record { line = n; seeking = true; loops = filter (stays (depth s) n) s.loops; calls = s.calls; fuel = s.fuel }

abbrev pub burnt : Flow → Flow
burnt s = record { line = s.line; seeking = s.seeking; loops = s.loops; calls = s.calls; fuel = s.fuel - 1 }

-- one more line is executed
abbrev pub burn : Flow → Result Flow Cause
burn s = if s.fuel == 0 then Err causes.TooManyLines else Ok (burnt s)

abbrev pub with_loops : List Loop → Flow → Flow
with_loops loops s = record { line = s.line; seeking = s.seeking; loops = loops; calls = s.calls; fuel = s.fuel }

abbrev pub with_calls : List Call → Flow → Flow
with_calls calls s = record { line = s.line; seeking = s.seeking; loops = s.loops; calls = calls; fuel = s.fuel }

-- before line n; 2,000,000 lines are executed at most from there on
abbrev pub begun : ℕ → Flow
begun n = record { line = n; seeking = false; loops = []; calls = []; fuel = 2000000 }
