-- The text of kept lines, and whether they are short.
use Rattle.std.proofs.Common.{◌≡◌, ℕ, List, [], ◌∷◌, ◌++◌, flat_map, refl, sym, ◌∙◌, ap, subst}
use Rattle.std.proofs.lemmas.List.{append_assoc}
use Rattle.ngc_dialect_execution.specs.declared.run.KeptLine.{KeptLine}
use Rattle.ngc_line_reader.specs.Words.{pairs_of}
use Rattle.ngc_plain_laws.specs.Laws.{HasCommands, text_of}
use Rattle.ngc_plain_laws.proofs.TextMeanings.{texts_have_commands}
use Rattle.ngc_plain_text.specs.Text.{line_text}
use Rattle.ngc_plain_program.specs.Programs.{PrintedProgramsAreSame, kept_text, lines_of}

pub all_text : {A : Type 0} (lines : List (KeptLine A)) → flat_map kept_text lines ≡ text_of (lines_of lines)
all_text [] = refl
all_text (l ∷ ls) =
    append_assoc (line_text (pairs_of l.words.items)) (10 ∷ []) (flat_map kept_text ls)
    ∙ ap (λ (t : List ℕ). line_text (pairs_of l.words.items) ++ (10 ∷ t)) (all_text ls)

pub printed_same : PrintedProgramsAreSame
printed_same setup block_delete lines commands printable lead =
    subst (HasCommands setup block_delete lines) (sym lead.are)
    (texts_have_commands setup block_delete lines lead.state printable lead.leads lead.ended)
