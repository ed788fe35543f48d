use Rattle.std.proofs.Common.{◌≡◌, ◌++◌, drop, take, map, string_bytes}
use Rattle.ngc_job_calls.proofs.call.JobCall.all_words.Given as goal

abbrev pub invariant-loop-word : goal.invariant-loop-word
invariant-loop-word l =
    map (λ w. w.now) l.words.items ≡ map (λ w. w.now) (take l.word-index l.self.words.items)

abbrev pub invariant-loop-word-2 : goal.invariant-loop-word-2
invariant-loop-word-2 l =
    map (λ w. w.now) l.words.items
    ≡ map (λ w. w.now) l.self.words.items ++ map string_bytes (take l.word-index l.self.added.items)
