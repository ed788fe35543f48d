-- The commands concerned, counted one by one.
use Rattle.std.proofs.Common.{◌≡◌, ℕ, ◌+◌, ◌<◌, List, [], ◌∷◌, length, get_or, drop, Option, Some, None, ap, sym, ◌∙◌, refl, arith}
use Rattle.std.specs.Prelude.{fold}
use Rattle.std.proofs.lemmas.List.{drop_more}
use Rattle.std.proofs.lemmas.List.Sums.{fold-append}
use Rattle.ngc_commands.specs.declared.command.Command.{Command}
use Rattle.ngc_machine_files.specs.Machine.{MachineFile}
use Rattle.ngc_findings.specs.ToolStates.{next}
use Rattle.ngc_findings.specs.Warnings.{line_of, lines_of, warning, last_of, counted}
use Rattle.ngc_findings.specs.declared.tool_state.ToolState.{ToolState}
use Rattle.ngc_findings.specs.declared.warnings.Concern.{Concern}
use Rattle.ngc_findings.specs.declared.warnings.Warning.{Warning}

-- one command further
pub next_command : (machine : MachineFile) (concern : Concern) (found : Option Warning) (s : ToolState) (cs : List Command) (i : ℕ) (c : Command) →
    i < length cs → c ≡ get_or cs i c
    → fold (counted concern) (fold (counted concern) found (line_of machine concern s c)) (lines_of machine concern (next s c.action) (drop (i + 1) cs))
    ≡ fold (counted concern) found (lines_of machine concern s (drop i cs))
next_command machine concern found s cs i c inside is =
    let further : drop i cs ≡ c ∷ drop (i + 1) cs = drop_more cs i c inside ∙ ap (λ (x : Command). x ∷ drop (i + 1) cs) (sym is) in
    sym (fold-append (counted concern) found (line_of machine concern s c) (lines_of machine concern (next s c.action) (drop (i + 1) cs)))
    ∙ ap (λ (l : List Command). fold (counted concern) found (lines_of machine concern s l)) (sym further)

counted_on : (concern : Concern) (w : Warning) (ls : List ℕ) → fold (counted concern) (Some w) ls
    ≡ Some (record w { count = w.count + length ls; last = last_of w.last ls })
counted_on concern w [] = ap (λ (n : ℕ). Some (record w { count = n })) (omega arith)
counted_on concern w (l ∷ ls) =
    counted_on concern (record w { count = w.count + 1; last = l }) ls
    ∙ ap (λ (n : ℕ). Some (record w { count = n; last = last_of l ls })) (omega arith)

-- the count is that of the warning
pub all_counted : (concern : Concern) (ls : List ℕ) → fold (counted concern) None ls ≡ warning concern ls
all_counted concern [] = refl
all_counted concern (l ∷ ls) =
    counted_on concern (record { concern = concern; count = 1; line = l; last = l }) ls
    ∙ ap (λ (n : ℕ). Some (record { concern = concern; count = n; line = l; last = last_of l ls })) (omega arith)
