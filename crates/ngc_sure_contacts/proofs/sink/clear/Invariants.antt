use Rattle.std.proofs.Common.{◌≡◌, ℕ, ◌<◌, length}
use Rattle.std.specs.Prelude.{slice_index}
use Rattle.ngc_sure_contacts.proofs.sink.clear.Given as goal

-- the cells so far are 0
abbrev pub invariant-loop-k : goal.invariant-loop-k
invariant-loop-k l = record {
  count : length l.heights ≡ length l.fn.heights;
  zero : (j : ℕ) → j < l.k → slice_index l.heights j ≡ 0;
}
