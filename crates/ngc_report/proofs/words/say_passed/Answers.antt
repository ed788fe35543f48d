use Rattle.std.proofs.Common.{◌≡◌, ◌++◌, ℕ, List, codes, decimal}
use Rattle.std.proofs.lemmas.List.{append_assoc}
use Rattle.ngc_sentences.specs.Parts.{part_text}
use Rattle.ngc_sentences.proofs.Said.{says_as, then}
use Rattle.ngc_report.specs.Words.{bracketed}
use Rattle.ngc_report.proofs.words.say_passed.Goals as goal

-- thirteen texts after another
regrouped : (a b c d e f g h i j k l m n : List ℕ) → a ++ (b ++ c ++ d ++ e ++ f ++ g ++ h ++ i ++ j ++ k ++ l ++ m ++ n) ≡ a ++ b ++ c ++ d ++ e ++ f ++ g ++ h ++ i ++ j ++ k ++ l ++ m ++ n
regrouped a b c d e f g h i j k l m n = simp append_assoc

pub returns : goal.returns
returns g c =
    rw (← c.from.ensures, ← c.shift.ensures, ← c.shift-2.ensures, ← c.shift-3.ensures, ← c.shift-4.ensures, ← c.shift-5.ensures, ← c.shift-6.ensures)
    (says_as (then (then c.say.ensures c.say_bracketed.ensures) c.say-2.ensures)
    (regrouped (codes "It is clear of fixture " ++ decimal c.from.result ++ bracketed c.args.passed.now.name) (codes " if it moves by ") (part_text c.shift.result) (codes " mm in X+, ") (part_text c.shift-2.result) (codes " mm in X-, ") (part_text c.shift-3.result)
    (codes " mm in Y+, ") (part_text c.shift-4.result) (codes " mm in Y-, ") (part_text c.shift-5.result) (codes " mm in Z+ or ") (part_text c.shift-6.result) (codes " mm in Z-.\n")))
