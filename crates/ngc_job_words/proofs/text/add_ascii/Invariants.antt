use Rattle.std.proofs.Common.{◌≡◌, ◌++◌, drop, string_bytes}
use Rattle.ngc_job_words.proofs.text.add_ascii.Given as goal

abbrev pub invariant-loop-byte : goal.invariant-loop-byte
invariant-loop-byte l =
    string_bytes l.initial.text ++ l.bytes ≡ string_bytes l.text ++ drop l.byte-index l.bytes
