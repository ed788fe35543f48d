-- The boxes of a certificate, one step further.
use Rattle.std.proofs.Common.{◌≡◌, ℕ, ℤ, pos, ◌+◌, ◌<◌, ◌≤◌, List, [], ◌∷◌, ◌++◌, length, get_or, drop, take, map, Option, Some, Result, Ok, Err, IfOk, ap}
use Rattle.std.proofs.Common.{refl, sym, ◌∙◌}
use Rattle.std.proofs.lemmas.List.{append_assoc, drop_more, take_all}
use Rattle.std.specs.declared.alloc.AllocError.{AllocError}
use Rattle.ngc_machine_files.specs.declared.tools.Tool.{Tool}
use Rattle.ngc_commands.specs.declared.command.Action.{Action}
use Rattle.ngc_commands.specs.declared.command.Action.TheVariants.{Move}
use Rattle.ngc_commands.specs.declared.movement.Motion.{Motion}
use Rattle.ngc_certificate_text.specs.Certificate.{Entry}
use Rattle.ngc_certificate_text.specs.declared.piece.Piece.{Piece}
use Rattle.ngc_collision.specs.Body.{Solid, bodies, span}
use Rattle.ngc_collision.specs.Inside.{solid_of}
use Rattle.ngc_collision.specs.declared.solid.Solid as solid
use Rattle.ngc_drawing.specs.Bodies as drawn
use Rattle.ngc_drawing.specs.Pictures.{tool_box}
use Rattle.ngc_drawing.specs.Bodies.{filled, tool_at, sweep_of, finished, held_with, joined, swept, swept_from}
use Rattle.ngc_drawing.specs.Sweeping.{sweeps_ahead}
use Rattle.ngc_picture_shapes.specs.declared.shape.Shape.{Shape}
use Rattle.ngc_drawing.specs.declared.sweep.Sweep.{Sweep}
use Rattle.ngc_drawing.specs.declared.sweep.Sweeping.{Sweeping}
use Rattle.ngc_picture_shapes.specs.declared.view.View.{View}

-- one piece more
pub next_piece : (view : View) (most rank : ℕ) (held : Option Sweep) (old new : List Sweep) (ps : List Piece) (i : ℕ) (p : Piece) (rest : List Sweep)
    → i < length ps → p ≡ get_or ps i p → new ≡ old ++ finished view most held (sweep_of rank p)
    → old ++ joined view most held (map (sweep_of rank) (drop i ps) ++ rest)
    ≡ new ++ joined view most (Some (held_with view most held (sweep_of rank p))) (map (sweep_of rank) (drop (i + 1) ps) ++ rest)
next_piece view most rank held old new ps i p rest inside found grows =
    let next = sweep_of rank p in
    let after : List Sweep = joined view most (Some (held_with view most held next)) (map (sweep_of rank) (drop (i + 1) ps) ++ rest) in
    ap (λ (l : List Piece). old ++ joined view most held (map (sweep_of rank) l ++ rest)) (drop_more ps i p inside)
    ∙ ap (λ (x : Piece). old ++ joined view most held (map (sweep_of rank) (x ∷ drop (i + 1) ps) ++ rest)) (sym found)
    ∙ sym (append_assoc old (finished view most held next) after)
    ∙ ap (λ (l : List Sweep). l ++ after) (sym grows)

-- a motion is an action
pub moved : (view : View) (most : ℕ) (used : List (Option Tool)) (s : Sweeping) (old new : List Sweep) (a : Action) (m : Motion) (es : List Entry)
    (r : Result Sweeping AllocError) → a ≡ Move m
    → IfOk r (λ t. (tools : List (Option Tool)) (n : Motion) (rest : List Action) →
    old ++ sweeps_ahead view most tools s (Move n ∷ rest) es ≡ new ++ sweeps_ahead view most tools t rest es)
    → IfOk r (λ t. (rest : List Action) → old ++ sweeps_ahead view most used s (a ∷ rest) es ≡ new ++ sweeps_ahead view most used t rest es)
moved view most used s old new a m es (Ok t) is goes = λ rest. ap (λ (x : Action). old ++ sweeps_ahead view most used s (x ∷ rest) es) is ∙ goes used m rest
moved view most used s old new a m es (Err e) is goes = tt

-- one more is drawn
pub next_sweep : (view : View) (step : ℤ) (used : List (Option Tool)) (run : Option ℕ) (ss : List Sweep) (i : ℕ) (s : Sweep) → i < length ss → s ≡ get_or ss i s
    → swept_from view step used run (drop i ss) ≡ swept view step used run s ++ swept_from view step used (Some s.rank) (drop (i + 1) ss)
next_sweep view step used run ss i s inside found =
    ap (swept_from view step used run) (drop_more ss i s inside)
    ∙ ap (λ (x : Sweep). swept view step used run x ++ swept_from view step used (Some x.rank) (drop (i + 1) ss)) (sym found)

map_twice : {A B C : Type 0} (f : B → C) (h : A → B) (xs : List A) → map (λ (x : A). f (h x)) xs ≡ map f (map h xs)
map_twice f h [] = refl
map_twice f h (x ∷ xs) = ap (λ l. f (h x) ∷ l) (map_twice f h xs)

-- where a part of a tool is seen
abbrev pub body : View → Solid → Shape
body view b = drawn.body view b.low b.high

-- all parts of the tool are drawn
pub all_filled : (view : View) (step : ℤ) (used : List (Option Tool)) (s : Sweep) (tool : Option Tool) (solids given : List solid.Solid)
    (before now : List Shape) (i : ℕ)
    → now ≡ before ++ map (λ (b : solid.Solid). body view (solid_of b)) (take i given) → length given ≤ i → given ≡ solids → tool ≡ tool_at used s.rank
    → bodies tool (span step s.bounds) ≡ map solid_of solids → now ≡ before ++ filled view step used s
all_filled view step used s tool solids given before now i is all same at filling =
    is
    ∙ ap (λ (l : List solid.Solid). before ++ map (λ (b : solid.Solid). body view (solid_of b)) l) (take_all i given all ∙ same)
    ∙ ap (λ (l : List Shape). before ++ l) (map_twice (body view) solid_of solids)
    ∙ ap (λ (l : List Solid). before ++ map (body view) l) (sym filling)
    ∙ ap (λ (t : Option Tool). before ++ map (body view) (bodies t (span step s.bounds))) at

-- and those that it fills at a place
abbrev pub outlined : View → Solid → Shape
outlined view b = tool_box view b.low b.high

pub all_outlined : (view : View) (filling : List Solid) (solids given : List solid.Solid) (before now : List Shape) (i : ℕ)
    → now ≡ before ++ map (λ (b : solid.Solid). outlined view (solid_of b)) (take i given) → length given ≤ i → given ≡ solids
    → filling ≡ map solid_of solids → now ≡ before ++ map (outlined view) filling
all_outlined view filling solids given before now i is all same fills =
    is
    ∙ ap (λ (l : List solid.Solid). before ++ map (λ (b : solid.Solid). outlined view (solid_of b)) l) (take_all i given all ∙ same)
    ∙ ap (λ (l : List Shape). before ++ l) (map_twice (outlined view) solid_of solids)
    ∙ ap (λ (l : List Solid). before ++ map (outlined view) l) (sym fills)

-- what is at no place of a list
abbrev pub no_sweep : Sweep
no_sweep =
    record { rank = 0; count = 0; bounds = record { low = record { x = pos 0; y = pos 0; z = pos 0 }; high = record { x = pos 0; y = pos 0; z = pos 0 } } }
