use Rattle.std.proofs.Common.{◌≡◌, ◌*◌, ◌≤◌, take}
use Rattle.std.specs.List.{sum_by}
use Rattle.ngc_line_reader.specs.Words.{pairs_of}
use Rattle.ngc_plain_text.specs.Limits.{AreValues}
use Rattle.ngc_plain_text.proofs.Lengths.{spaced}
use Rattle.ngc_plain_text.proofs.length.is_short.Given as goal

abbrev pub invariant-loop-word : goal.invariant-loop-word
invariant-loop-word l = (l.length ≡ sum_by spaced (take l.word-index l.words)) × (l.length ≤ 50 * l.word-index) × AreValues (pairs_of (take l.word-index l.words))
