use Rattle.std.proofs.Common.{◌≡◌, ◌+◌, ◌++◌, drop, map, string_bytes}
use Rattle.ngc_job_words.specs.Added.{origins_from}
use Rattle.ngc_job_words.proofs.added.add_each_origin.Given as goal

abbrev pub invariant-loop-i : goal.invariant-loop-i
invariant-loop-i l =
    map string_bytes l.initial.added.items ++ origins_from (map (λ v. v.now) l.values) 1 l.origins
    ≡ map string_bytes l.added.items ++ origins_from (map (λ v. v.now) l.values) (l.i + 1) (drop l.i l.origins)
