-- Lines of which only the warnings are written, in a style.
use Rattle.std.proofs.Common.{◌≡◌, ℕ, ◌+◌, ◌<◌, Bool, List, [], ◌∷◌, ◌++◌, length, get_or, drop, flat_map, Option, true, false, cond, ap, sym, ◌∙◌, refl}
use Rattle.std.specs.Prelude.{map, filter}
use Rattle.std.proofs.lemmas.List.{append_assoc, append-nil, map-append}
use Rattle.std.proofs.lemmas.List.Concat.{flat_map-append}
use Rattle.std.proofs.lemmas.List.Elements.{filter-append}
use Rattle.ngc_machine_files.specs.Machine.{MachineFile}
use Rattle.ngc_machine_files.specs.declared.machine.Fixture.{Fixture}
use Rattle.ngc_machine_files.specs.declared.tools.Tool.{Tool}
use Rattle.ngc_file_figures.specs.declared.figures.MachineFigures.{MachineFigures}
use Rattle.ngc_file_figures.specs.declared.limits.ToolLimits.{ToolLimits}
use Rattle.ngc_setup_sheet.specs.Sheets.{fixture_lines, fixtures_from, tool_lines, is_warning, as_fact, as_remark}
use Rattle.ngc_setup_sheet.specs.Spelling.{line_text, lines_text}
use Rattle.ngc_setup_sheet.specs.Writes.{styled, chosen}
use Rattle.ngc_setup_sheet.specs.declared.line.Line.{Line}
use Rattle.ngc_setup_sheet.specs.declared.writer.Style.{Style}
use Rattle.ngc_setup_sheet.specs.declared.writer.Style.TheVariants as styles
use Rattle.ngc_setup_sheet.specs.declared.reach.Reach.{Reach}
use Rattle.ngc_setup_sheet.proofs.RemainingText.{next_fixture, next_tool}

-- ---- line by line

pub chosen-append : (s : Style) (a b : List Line) → chosen s (a ++ b) ≡ chosen s a ++ chosen s b
chosen-append styles.Lines a b = filter-append is_warning a b
chosen-append styles.Facts a b = ap (map as_fact) (filter-append is_warning a b) ∙ map-append as_fact (filter is_warning a) (filter is_warning b)
chosen-append styles.Remarks a b = ap (map as_remark) (filter-append is_warning a b) ∙ map-append as_remark (filter is_warning a) (filter is_warning b)

-- ---- two lists of lines

pub both_chosen : (s : Style) (a b : List Line) → lines_text (chosen s (a ++ b)) ≡ lines_text (chosen s a) ++ lines_text (chosen s b)
both_chosen s a b = ap lines_text (chosen-append s a b) ∙ flat_map-append line_text (chosen s a) (chosen s b)

pub three_chosen : (s : Style) (a b c : List Line) →
    (lines_text (chosen s a) ++ lines_text (chosen s b)) ++ lines_text (chosen s c) ≡ lines_text (chosen s (a ++ (b ++ c)))
three_chosen s a b c =
    append_assoc (lines_text (chosen s a)) (lines_text (chosen s b)) (lines_text (chosen s c))
    ∙ ap (λ t. lines_text (chosen s a) ++ t) (sym (both_chosen s b c)) ∙ sym (both_chosen s a (b ++ c))

pub told : (s : Style) (l : Line) → is_warning l ≡ true → line_text (styled s l) ≡ lines_text (chosen s (l ∷ []))
told styles.Lines l h = sym (ap (λ b. lines_text (cond b (l ∷ []) [])) h ∙ append-nil (line_text l))
told styles.Facts l h = sym (ap (λ b. lines_text (map as_fact (cond b (l ∷ []) []))) h ∙ append-nil (line_text (as_fact l)))
told styles.Remarks l h = sym (ap (λ b. lines_text (map as_remark (cond b (l ∷ []) []))) h ∙ append-nil (line_text (as_remark l)))

pub untold : (s : Style) (l : Line) → is_warning l ≡ false → [] ≡ chosen s (l ∷ [])
untold styles.Lines l h = sym (ap (λ b. cond b (l ∷ []) []) h)
untold styles.Facts l h = sym (ap (λ b. map as_fact (cond b (l ∷ []) [])) h)
untold styles.Remarks l h = sym (ap (λ b. map as_remark (cond b (l ∷ []) [])) h)

abbrev pub told_of : Style → Line → List ℕ
told_of s l = lines_text (chosen s (l ∷ []))

chosen_none : (s : Style) → [] ≡ lines_text (chosen s [])
chosen_none styles.Lines = refl
chosen_none styles.Facts = refl
chosen_none styles.Remarks = refl

pub told_of_all : (s : Style) (ls : List Line) → flat_map (told_of s) ls ≡ lines_text (chosen s ls)
told_of_all s [] = chosen_none s
told_of_all s (l ∷ ls) =
    ap (λ t. told_of s l ++ t) (told_of_all s ls)
    ∙ sym (flat_map-append line_text (chosen s (l ∷ [])) (chosen s ls))
    ∙ ap lines_text (sym (chosen-append s (l ∷ []) ls))

-- ---- the remaining text, one step further

pub next_fixture_warned : (s : Style) (m : MachineFile) (w : Option MachineFigures) (r : Reach) (fs : List Fixture) (i : ℕ) (f : Fixture) → i < length fs → f ≡ get_or fs i f
    → lines_text (chosen s (fixtures_from m w r i (drop i fs)))
    ≡ lines_text (chosen s (fixture_lines m w r i f)) ++ lines_text (chosen s (fixtures_from m w r (i + 1) (drop (i + 1) fs)))
next_fixture_warned s m w r fs i f inside found =
    ap (λ l. lines_text (chosen s l)) (next_fixture m w r fs i f inside found)
    ∙ both_chosen s (fixture_lines m w r i f) (fixtures_from m w r (i + 1) (drop (i + 1) fs))

pub next_tool_warned : (s : Style) (b : Bool) (table : List ToolLimits) (tools : List Tool) (i : ℕ) (t : Tool) → i < length tools → t ≡ get_or tools i t
    → lines_text (chosen s (flat_map (tool_lines b table) (drop i tools)))
    ≡ lines_text (chosen s (tool_lines b table t)) ++ lines_text (chosen s (flat_map (tool_lines b table) (drop (i + 1) tools)))
next_tool_warned s b table tools i t inside found =
    ap (λ l. lines_text (chosen s l)) (next_tool b table tools i t inside found)
    ∙ both_chosen s (tool_lines b table t) (flat_map (tool_lines b table) (drop (i + 1) tools))
