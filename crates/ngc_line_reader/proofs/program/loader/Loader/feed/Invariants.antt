-- The rest of the bytes has the same result as the whole.
use Rattle.std.proofs.Common.{◌≡◌, ◌+◌, ◌≤◌, ◌++◌, ℕ, List, length}
use Rattle.ngc_line_reader.specs.Load.{resumed, PartsLines, IsLoading, room_of}
use Rattle.ngc_line_reader.proofs.program.loader.Loader.feed.Given as goal

abbrev pub invariant-loop-piece : goal.invariant-loop-piece
invariant-loop-piece g l = record {
  text : (lines : List ℕ → List (List ℕ)) → PartsLines lines → (rest : List ℕ) →
      resumed lines l.initial.self (l.chunk ++ rest) ≡ resumed lines l.self (l.rest ++ rest);
  loading : IsLoading l.self;
  room : room_of l.self + length l.chunk ≤ room_of l.initial.self + length l.rest;
}

abbrev pub decreases-loop-piece : goal.decreases-loop-piece
decreases-loop-piece g l = length l.rest
