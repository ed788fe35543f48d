-- The remaining text, one step further.
use Rattle.std.proofs.Common.{◌≡◌, ℕ, ◌+◌, ◌<◌, Bool, List, Option, ◌++◌, length, get_or, drop, ap, sym, flat_map, ◌∙◌}
use Rattle.std.proofs.lemmas.List.{append_assoc, drop_more}
use Rattle.std.proofs.lemmas.List.Concat.{flat_map-append}
use Rattle.ngc_machine_files.specs.Machine.{MachineFile}
use Rattle.ngc_machine_files.specs.declared.machine.Fixture.{Fixture}
use Rattle.ngc_machine_files.specs.declared.tools.Tool.{Tool}
use Rattle.ngc_file_figures.specs.declared.figures.MachineFigures.{MachineFigures}
use Rattle.ngc_file_figures.specs.declared.limits.ToolLimits.{ToolLimits}
use Rattle.ngc_setup_sheet.specs.Sheets.{fixture_lines, fixtures_from, tool_lines}
use Rattle.ngc_setup_sheet.specs.declared.reach.Reach.{Reach}
use Rattle.ngc_setup_sheet.specs.Spelling.{line_text, lines_text}
use Rattle.ngc_setup_sheet.specs.declared.line.Line.{Line}

pub next_fixture : (m : MachineFile) (w : Option MachineFigures) (r : Reach) (fs : List Fixture) (i : ℕ) (f : Fixture) → i < length fs → f ≡ get_or fs i f
    → fixtures_from m w r i (drop i fs) ≡ fixture_lines m w r i f ++ fixtures_from m w r (i + 1) (drop (i + 1) fs)
next_fixture m w r fs i f inside found =
    ap (fixtures_from m w r i) (drop_more fs i f inside) ∙ ap (λ (x : Fixture). fixture_lines m w r i x ++ fixtures_from m w r (i + 1) (drop (i + 1) fs)) (sym found)

pub next_tool : (b : Bool) (table : List ToolLimits) (tools : List Tool) (i : ℕ) (t : Tool) → i < length tools → t ≡ get_or tools i t
    → flat_map (tool_lines b table) (drop i tools) ≡ tool_lines b table t ++ flat_map (tool_lines b table) (drop (i + 1) tools)
next_tool b table tools i t inside found =
    ap (flat_map (tool_lines b table)) (drop_more tools i t inside) ∙ ap (λ (x : Tool). tool_lines b table x ++ flat_map (tool_lines b table) (drop (i + 1) tools)) (sym found)

-- ---- and as text

pub both : (a b : List Line) → lines_text (a ++ b) ≡ lines_text a ++ lines_text b
both a b = flat_map-append line_text a b

pub next_fixture_text : (m : MachineFile) (w : Option MachineFigures) (r : Reach) (fs : List Fixture) (i : ℕ) (f : Fixture) → i < length fs → f ≡ get_or fs i f
    → lines_text (fixtures_from m w r i (drop i fs)) ≡ lines_text (fixture_lines m w r i f) ++ lines_text (fixtures_from m w r (i + 1) (drop (i + 1) fs))
next_fixture_text m w r fs i f inside found = ap lines_text (next_fixture m w r fs i f inside found)
    ∙ both (fixture_lines m w r i f) (fixtures_from m w r (i + 1) (drop (i + 1) fs))

pub next_tool_text : (b : Bool) (table : List ToolLimits) (tools : List Tool) (i : ℕ) (t : Tool) → i < length tools → t ≡ get_or tools i t
    → lines_text (flat_map (tool_lines b table) (drop i tools)) ≡ lines_text (tool_lines b table t) ++ lines_text (flat_map (tool_lines b table) (drop (i + 1) tools))
next_tool_text b table tools i t inside found = ap lines_text (next_tool b table tools i t inside found) ∙ both (tool_lines b table t) (flat_map (tool_lines b table) (drop (i + 1) tools))

-- ---- three lists of lines

pub three : (a b c : List Line) → (lines_text a ++ lines_text b) ++ lines_text c ≡ lines_text (a ++ (b ++ c))
three a b c =
    append_assoc (lines_text a) (lines_text b) (lines_text c) ∙ ap (λ t. lines_text a ++ t) (sym (both b c)) ∙ sym (both a (b ++ c))
