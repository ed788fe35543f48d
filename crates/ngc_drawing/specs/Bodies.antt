-- The rectangles that the bodies of tools fill over the boxes of a certificate. Our own.
use Rattle.std.specs.Prelude.{ℕ, ◌+◌, ◌/◌, ◌==◌, nat_lt, ℤ, List, [], ◌∷◌, ◌++◌, length, map}
use Rattle.std.specs.Prelude.{sum_by, slice_index_or, Option, Some, None, Bool, ◌&&◌, ◌||◌}
use Rattle.std.specs.Prelude.{if◌then◌else◌}
use Rattle.std.specs.Ordering.{int_eq}
use Rattle.ngc_fixed_length.specs.Boxes.{lesser_corner, greater_corner}
use Rattle.ngc_fixed_length.specs.declared.points.GridBox.{GridBox}
use Rattle.ngc_fixed_length.specs.declared.points.Point3.{Point3}
use Rattle.ngc_machine_files.specs.declared.tools.Tool.{Tool}
use Rattle.ngc_commands.specs.Movement.{actions_of}
use Rattle.ngc_commands.specs.declared.command.Action.{Action}
use Rattle.ngc_commands.specs.declared.command.Action.TheVariants.{Move, Mount}
use Rattle.ngc_commands.specs.declared.command.Command.{Command}
use Rattle.ngc_certificate_text.specs.Certificate.{Entry}
use Rattle.ngc_certificate_text.specs.declared.piece.Piece.{Piece}
use Rattle.ngc_collision.specs.Body.{bodies, span}
use Rattle.ngc_picture_shapes.specs.Tools.{rank_of, number_of}
use Rattle.ngc_picture_shapes.specs.Views.{rectangle, block}
use Rattle.ngc_picture_shapes.specs.declared.shape.Shape.{Shape}
use Rattle.ngc_picture_shapes.specs.declared.shape.Shape.TheVariants as shapes
use Rattle.ngc_drawing.specs.declared.sweep.Sweep.{Sweep}
use Rattle.ngc_picture_shapes.specs.declared.view.View.{View}
use Rattle.ngc_picture_shapes.specs.declared.view.View.TheVariants.{Top, Front, Side, Iso}

-- ---- boxes, and which of them are drawn as one

-- a piece's box by itself
abbrev pub sweep_of : ℕ → Piece → Sweep
sweep_of rank piece = record { rank = rank; count = 1; bounds = piece.bounds }

-- the boxes of the motions, each with the rank of the tool that is mounted then; as far as commands
-- and certificate both go
abbrev pub boxes_from : List (Option Tool) → ℕ → List Action → List Entry → List Sweep
boxes_from used rank [] entries = []
boxes_from used rank (Mount tool ∷ actions) entries =
    boxes_from used (rank_of used (number_of tool)) actions entries
boxes_from used rank (Move m ∷ actions) [] = boxes_from used rank actions []
boxes_from used rank (Move m ∷ actions) (entry ∷ entries) =
    map (sweep_of rank) entry.pieces ++ boxes_from used rank actions entries
boxes_from used rank (_ ∷ actions) entries = boxes_from used rank actions entries

-- boxes that look the same in a view
abbrev pub is_same_x : GridBox → GridBox → Bool
is_same_x a b = int_eq a.low.x b.low.x && int_eq a.high.x b.high.x

abbrev pub is_same_y : GridBox → GridBox → Bool
is_same_y a b = int_eq a.low.y b.low.y && int_eq a.high.y b.high.y

abbrev pub is_same_z : GridBox → GridBox → Bool
is_same_z a b = int_eq a.low.z b.low.z && int_eq a.high.z b.high.z

abbrev pub are_seen_alike : View → GridBox → GridBox → Bool
are_seen_alike Top a b = is_same_x a b && is_same_y a b
are_seen_alike Front a b = is_same_x a b && is_same_z a b
are_seen_alike Side a b = is_same_y a b && is_same_z a b
are_seen_alike Iso a b = is_same_x a b && (is_same_y a b && is_same_z a b)

-- a box is drawn with the boxes before it that have its tool, if they are fewer than `most`, or if
-- they are seen at its place
abbrev pub takes : View → ℕ → Sweep → Sweep → Bool
takes view most s next =
    s.rank == next.rank && (nat_lt s.count most || are_seen_alike view s.bounds next.bounds)

-- the smallest box that holds both
abbrev pub joint : GridBox → GridBox → GridBox
joint a b = record { low = lesser_corner a.low b.low; high = greater_corner a.high b.high }

abbrev pub joined_with : ℕ → Sweep → Sweep → Sweep
joined_with most s next = record {
  rank = s.rank;
  count = if nat_lt s.count most then s.count + 1 else s.count;
  bounds = joint s.bounds next.bounds;
}

-- the boxes that are finished before the next box, and those with which it is drawn
abbrev pub finished : View → ℕ → Option Sweep → Sweep → List Sweep
finished view most None next = []
finished view most (Some s) next = if takes view most s next then [] else s ∷ []

abbrev pub held_with : View → ℕ → Option Sweep → Sweep → Sweep
held_with view most None next = next
held_with view most (Some s) next = if takes view most s next then joined_with most s next else next

abbrev pub held_last : Option Sweep → List Sweep
held_last None = []
held_last (Some s) = s ∷ []

-- the boxes that follow, starting with those that are held
abbrev pub joined : View → ℕ → Option Sweep → List Sweep → List Sweep
joined view most held [] = held_last held
joined view most held (next ∷ boxes) =
    finished view most held next ++ joined view most (Some (held_with view most held next)) boxes

-- how many boxes are drawn as one: one up to 19,999 boxes, two up to 39,999, and so on
abbrev pub box_count : List Entry → ℕ
box_count entries = sum_by (λ (e : Entry). length e.pieces) entries

abbrev pub together : List Entry → ℕ
together entries = box_count entries / 20000 + 1

-- all that is drawn of a certificate's motions, without a tool at first
abbrev pub sweeps : View → List (Option Tool) → List Command → List Entry → List Sweep
sweeps view used commands entries = joined view (together entries) None
    (boxes_from used (rank_of used 0) (actions_of commands) entries)

-- ---- how they are drawn

-- the tool of a rank
abbrev pub tool_at : List (Option Tool) → ℕ → Option Tool
tool_at used rank = slice_index_or used rank None

-- a box that a part of a tool fills
abbrev pub body : View → Point3 → Point3 → Shape
body Iso low high = shapes.Silhouette (block low high)
body view low high = shapes.Body (rectangle view low high)

-- those that the parts of the tool fill, and without a tool the box itself
abbrev pub filled : View → ℤ → List (Option Tool) → Sweep → List Shape
filled view step used s = map (λ b. body view b.low b.high)
    (bodies (tool_at used s.rank) (span step s.bounds))

-- a path for as long as a tool is mounted
abbrev pub bodies_lead : Option ℕ → ℕ → List Shape
bodies_lead None rank = shapes.Bodies ∷ shapes.BodiesOf rank ∷ []
bodies_lead (Some other) rank =
    if other == rank then [] else shapes.PathEnd ∷ shapes.BodiesOf rank ∷ []

abbrev pub bodies_end : Option ℕ → List Shape
bodies_end None = []
bodies_end (Some rank) = shapes.PathEnd ∷ shapes.BodiesEnd ∷ []

abbrev pub swept : View → ℤ → List (Option Tool) → Option ℕ → Sweep → List Shape
swept view step used run s = bodies_lead run s.rank ++ filled view step used s

abbrev pub swept_from : View → ℤ → List (Option Tool) → Option ℕ → List Sweep → List Shape
swept_from view step used run [] = bodies_end run
swept_from view step used run (s ∷ ss) =
    swept view step used run s ++ swept_from view step used (Some s.rank) ss
