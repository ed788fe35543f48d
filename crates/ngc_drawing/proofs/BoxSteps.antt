-- The boxes that are still to be drawn, one step further.
use Rattle.std.proofs.Common.{◌≡◌, ℕ, ◌+◌, ◌<◌, ℤ, List, [], ◌∷◌, ◌++◌, length, get_or, drop, Option, ap, sym, ◌∙◌}
use Rattle.std.proofs.lemmas.List.{drop_more}
use Rattle.ngc_machine_files.specs.declared.machine.Fixture.{Fixture}
use Rattle.ngc_machine_files.specs.declared.tools.Tool.{Tool}
use Rattle.ngc_commands.specs.declared.command.Command.{Command}
use Rattle.ngc_drawing.specs.Holes.{drilled, ended, holes_from}
use Rattle.ngc_drawing.specs.Labels.{fixture_characters, lines_at, settled, with_fixtures}
use Rattle.ngc_drawing.specs.Pictures.{fixture, fixtures_from, tool_row, tool_rows}
use Rattle.ngc_picture_shapes.specs.Strokes.{strokes_of, strokes_from, after}
use Rattle.ngc_picture_shapes.specs.Views.{spot}
use Rattle.ngc_drawing.specs.declared.holes.Drilling.{Drilling}
use Rattle.ngc_drawing.specs.declared.label.Kind.TheVariants as kinds
use Rattle.ngc_drawing.specs.declared.label.Placed.{Placed}
use Rattle.ngc_picture_shapes.specs.declared.pen.Pen.{Pen}
use Rattle.ngc_picture_shapes.specs.declared.view.View.{View}

pub next_fixture : (view : View) (m : ℤ) (ls : List Placed) (fs : List Fixture) (i : ℕ) (f : Fixture) → i < length fs → f ≡ get_or fs i f
    → fixtures_from view m ls i (drop i fs) ≡ fixture view m (lines_at ls i) i f ++ fixtures_from view m ls (i + 1) (drop (i + 1) fs)
next_fixture view m ls fs i f inside found =
    ap (fixtures_from view m ls i) (drop_more fs i f inside)
    ∙ ap (λ (x : Fixture). fixture view m (lines_at ls i) i x ++ fixtures_from view m ls (i + 1) (drop (i + 1) fs)) (sym found)

pub next_settled : (unit : ℤ) (view : View) (placed : List Placed) (fs : List Fixture) (i : ℕ) (f : Fixture) → i < length fs → f ≡ get_or fs i f
    → with_fixtures unit view i placed (drop i fs)
    ≡ with_fixtures unit view (i + 1)
    (placed ++ settled unit placed kinds.Fixture (spot view f.low) (fixture_characters i f.name) ∷ []) (drop (i + 1) fs)
next_settled unit view placed fs i f inside found =
    ap (with_fixtures unit view i placed) (drop_more fs i f inside)
    ∙ ap (λ (x : Fixture). with_fixtures unit view (i + 1)
    (placed ++ settled unit placed kinds.Fixture (spot view x.low) (fixture_characters i x.name) ∷ []) (drop (i + 1) fs)) (sym found)

pub next_tool : (tools : List (Option Tool)) (i : ℕ) (t : Option Tool) → i < length tools → t ≡ get_or tools i t
    → tool_rows i (drop i tools) ≡ tool_row i t ++ tool_rows (i + 1) (drop (i + 1) tools)
next_tool tools i t inside found =
    ap (tool_rows i) (drop_more tools i t inside) ∙ ap (λ (x : Option Tool). tool_row i x ++ tool_rows (i + 1) (drop (i + 1) tools)) (sym found)

pub next_command : (tools : List (Option Tool)) (pen : Pen) (cs : List Command) (i : ℕ) (c : Command) → i < length cs → c ≡ get_or cs i c
    → strokes_from tools pen (drop i cs) ≡ strokes_of pen c.action ++ strokes_from tools (after tools pen c.action) (drop (i + 1) cs)
next_command tools pen cs i c inside found =
    ap (strokes_from tools pen) (drop_more cs i c inside)
    ∙ ap (λ (x : Command). strokes_of pen x.action ++ strokes_from tools (after tools pen x.action) (drop (i + 1) cs)) (sym found)

pub next_drilled : (d : Drilling) (cs : List Command) (i : ℕ) (c : Command) → i < length cs → c ≡ get_or cs i c
    → holes_from d (drop i cs) ≡ ended d c.action ++ holes_from (drilled d c.action) (drop (i + 1) cs)
next_drilled d cs i c inside found =
    ap (holes_from d) (drop_more cs i c inside) ∙ ap (λ (x : Command). ended d x.action ++ holes_from (drilled d x.action) (drop (i + 1) cs)) (sym found)
