-- The letters before `shared` are the same.
use Rattle.std.proofs.Common.{◌≡◌, ◌+◌, ◌-◌, ◌≤◌, length, drop}
use Rattle.std.specs.List.{common_prefix_len}
use Rattle.ngc_quantities.specs.Near.{is_same_letter, shared_length}
use Rattle.ngc_quantities.proofs.near.shared_length.Given as goal

abbrev pub invariant-loop-shared : goal.invariant-loop-shared
invariant-loop-shared l = record {
  value : shared_length l.word l.name ≡ l.shared + common_prefix_len is_same_letter (drop l.shared l.word) (drop l.shared l.name);
  word : l.shared ≤ length l.word;
  name : l.shared ≤ length l.name;
}

abbrev pub decreases-loop-shared : goal.decreases-loop-shared
decreases-loop-shared l = length l.word - l.shared
