-- A line where compensation is on, begins or ends (LinuxCNC's documentation, "Cutter Radius
-- Compensation"): the end of a move waits for the next move, and what the program says in between waits
-- with it.
use Rattle.std.specs.Prelude.{ℕ, Bool, true, false, not, ◌&&◌, List, [], Option, Some, None, Result, Ok}
use Rattle.std.specs.Prelude.{Err, is_none, is_some, if◌then◌else◌}
use Rattle.ngc_fixed_length.specs.Places.{at_height}
use Rattle.ngc_fixed_length.specs.declared.modes.Distance.{Distance}
use Rattle.ngc_fixed_length.specs.declared.points.Point3.{Point3}
use Rattle.ngc_machine_files.specs.declared.tools.Tool.{Tool}
use Rattle.ngc_compensation.specs.declared.moves.Move.{Move}
use Rattle.ngc_compensation.specs.declared.moves.Outcome.{Outcome}
use Rattle.ngc_dialect_parameters.specs.declared.statement.Word.{Word}
use Rattle.ngc_dialect_rules.specs.declared.code.Code.{Code}
use Rattle.ngc_dialect_rules.specs.declared.fault.Fault.{Fault}
use Rattle.ngc_dialect_rules.specs.declared.front.Known.{Known}
use Rattle.ngc_dialect_rules.specs.declared.plain.Plain.{Plain}
use Rattle.ngc_dialect_rules.specs.declared.plan.Action.{Action}
use Rattle.ngc_dialect_rules.specs.declared.plan.InForce.{InForce}
use Rattle.ngc_dialect_rules.specs.Faults.{◌>>=◌}
use Rattle.ngc_dialect_rules.specs.Plain.{with_action}
use Rattle.ngc_dialect_rules.specs.Tables.{is_among}
use Rattle.ngc_dialect_path.specs.declared.line.PathLine.{PathLine}
use Rattle.ngc_dialect_path.specs.declared.line.Start.{Start}
use Rattle.ngc_dialect_path.specs.declared.path.Beside.{Beside}
use Rattle.ngc_dialect_path.specs.declared.path.Path.{Path}
use Rattle.ngc_dialect_path.specs.declared.path.Path.TheVariants.{On, Left}
use Rattle.ngc_dialect_path.specs.declared.step.Course.{Course}
use Rattle.ngc_dialect_path.specs.declared.step.PathLines.{PathLines}
use Rattle.ngc_dialect_path.specs.declared.step.PathStep.{PathStep}
use Rattle.ngc_dialect_path.specs.declared.tables.TheConstants as tables
use Rattle.ngc_dialect_path.specs.Beginning.{begun, radius_of}
use Rattle.ngc_dialect_path.specs.Lines.{path_line}
use Rattle.ngc_dialect_path.specs.Paths.{in_distance, is_holding, known_at, left_at, programmed}
use Rattle.ngc_dialect_path.specs.Targets.{last_move, next_moves, straight_end}
use Rattle.ngc_dialect_path.specs.Writing.{with_code_line, with_lift, with_move, with_straight}

-- the plain lines of a line: those of the held move, and the line's own
pub record Written : Type 0 where
  pub made : List Plain
  pub own : List Plain

abbrev pub written_in : PathLines → Written
written_in lines = record { made = lines.made.items; own = lines.own.items }

abbrev pub on_with : Outcome → Distance → ℕ → Option Path
on_with o distance line = Some (On (record { moves = o.next; distance = distance; line = line }))

-- ---- G40: the held move ends at its own end

unfoldable pub left : Known → Beside → Move → Written → Result (Course × Written) Fault
left k p m w = do
  made ← with_move k m w.made
  Ok (
    record {
      path = Some (Left (left_at k.modes.plane p));
      releases = true;
      place = at_height k.modes.plane m.end p.moves.height;
    },
    record { made = made; own = w.own },
  )

abbrev pub left_after : Known → Course → Beside → Written → Option Move → Result (Course × Written) Fault
left_after k c p w None = Ok (record c { path = None }, w)
left_after k c p w (Some m) = left k p m w

abbrev pub ended_by : Known → Course → Written → Option Path → Result (Course × Written) Fault
ended_by k c w None = Ok (c, w)
ended_by k c w (Some (Left place)) = Ok (c, w)
ended_by k c w (Some (On p)) = last_move p >>= λ m. left_after k c p w m

unfoldable pub ended : Known → Course → Written → Result (Course × Written) Fault
ended k c w = ended_by k c w c.path

abbrev pub ended_if : Known → Bool → Course → Written → Result (Course × Written) Fault
ended_if k ends c w = if ends then ended k c w else Ok (c, w)

-- ---- G41, G42

abbrev pub started : Known → List Tool → PathLine → Course → Option Start → Result Course Fault
started k tools l c None = Ok c
started k tools l c (Some s) = do
  radius ← radius_of tools s
  path ← begun (programmed k c.path) c.path l s radius
  Ok (record c { path = path })

-- ---- the motion

-- after G40 a straight motion leads the tool back to programmed places
unfoldable pub led_back : Known → InForce → Action → Course → List Plain → Result (Course × List Plain) Fault
led_back k force a c ps = do
  s ← straight_end (programmed k c.path) force a
  qs ← with_straight (known_at k c.place force.distance) s ps
  Ok (record { path = None; releases = c.releases; place = s.end }, qs)

-- where the tool is after the corner's move, if there is one
abbrev pub corner_place : Known → Move → Point3
corner_place k m = at_height k.modes.plane m.end m.height

unfoldable pub rounded : Known → Option Move → List Plain → Result (Point3 × List Plain) Fault
rounded k None ps = Ok (k.place, ps)
rounded k (Some m) ps = with_move k m ps >>= λ qs. Ok (corner_place k m, qs)

-- the held move is made, then what waited for it, and then the corner's move
unfoldable pub settled :
    Known → Distance → Beside → Outcome → Move → Written → Result (Point3 × Written) Fault
settled k distance p o m w = do
  made ← with_move k m w.made
  corner ← rounded (known_at k (at_height k.modes.plane m.end p.moves.height) distance) o.corner w.own
  Ok (corner.0, record { made = made; own = corner.1 })

abbrev pub after_settled : Outcome → Distance → ℕ → Point3 × Written → Course × Written
after_settled o distance number done =
    (record { path = on_with o distance number; releases = true; place = done.0 }, done.1)

-- the first move beside the path, or one along the third axis alone: nothing becomes certain
abbrev pub nothing_made :
    Known → ℕ → PathLine → Action → Beside → Outcome → Written → Course × Written
nothing_made k number l a p o w =
    if is_none p.moves.held
    then (record { path = on_with o l.force.distance number; releases = false; place = k.place }, w)
    else (
      record { path = on_with o l.force.distance p.line; releases = false; place = k.place },
      record { made = w.made; own = with_lift k a w.own },
    )

abbrev pub followed_by :
    Known → ℕ → PathLine → Action → Beside → Outcome → Written → Option Move →
    Result (Course × Written) Fault
followed_by k number l a p o w None = Ok (nothing_made k number l a p o w)
followed_by k number l a p o w (Some m) =
    settled k l.force.distance p o m w >>= λ done.
    Ok (after_settled o l.force.distance number done)

unfoldable pub followed :
    Known → ℕ → PathLine → Action → Beside → Outcome → Written → Result (Course × Written) Fault
followed k number l a p o w = followed_by k number l a p o w o.made

abbrev pub gone_beside :
    Known → ℕ → PathLine → Action → Beside → Written → Result (Course × Written) Fault
gone_beside k number l a p w =
    next_moves (programmed k (Some (On p))) p l.force a >>= λ o. followed k number l a p o w

unfoldable pub gone_back : Known → InForce → Action → Course → Written → Result (Course × Written) Fault
gone_back k force a c w =
    led_back k force a c w.own >>= λ back. Ok (back.0, record { made = w.made; own = back.1 })

abbrev pub moved_by :
    Known → ℕ → PathLine → Action → Course → Written → Option Path → Result (Course × Written) Fault
moved_by k number l a c w None =
    Ok (c, record { made = w.made; own = with_action l.force.units a w.own })
moved_by k number l a c w (Some (Left place)) = gone_back k l.force a c w
moved_by k number l a c w (Some (On p)) = gone_beside k number l a p w

unfoldable pub moved : Known → ℕ → PathLine → Action → Course → Written → Result (Course × Written) Fault
moved k number l a c w = moved_by k number l a c w c.path

abbrev pub moved_if :
    Known → ℕ → PathLine → Course → Written → Option Action → Result (Course × Written) Fault
moved_if k number l c w None = Ok (c, w)
moved_if k number l c w (Some a) = moved k number l a c w

-- ---- the end of the program, and other stops

-- the held move is made before the program ends; `waits` says whether it is one of a line before
unfoldable pub last_made : Known → Distance → Bool → Course → Move → Written → Result (Course × Written) Fault
last_made k distance true c m w = do
  made ← with_move k m w.made
  Ok (record { path = None; releases = true; place = c.place }, record { made = made; own = w.own })
last_made k distance false c m w = do
  own ← with_move (known_at k c.place distance) m w.own
  Ok (record { path = None; releases = c.releases; place = c.place }, record { made = w.made; own = own })

abbrev pub over_after :
    Known → Distance → Bool → Course → Written → Option Move → Result (Course × Written) Fault
over_after k distance waits c w None = Ok (c, w)
over_after k distance waits c w (Some m) = last_made k distance waits c m w

abbrev pub over_by :
    Known → Distance → Bool → Course → Written → Option Path → Result (Course × Written) Fault
over_by k distance waits c w None = Ok (c, w)
over_by k distance waits c w (Some (Left place)) = Ok (c, w)
over_by k distance waits c w (Some (On p)) = last_move p >>= λ m. over_after k distance waits c w m

unfoldable pub over : Known → Distance → Bool → Course → Written → Result (Course × Written) Fault
over k distance waits c w = over_by k distance waits c w c.path

abbrev pub over_if :
    Known → PathLine → Bool → Course → Written → Option Code → Result (Course × Written) Fault
over_if k l waits c w None = Ok (c, w)
over_if k l waits c w (Some code) =
    if is_among tables.PROGRAM_ENDS code then over k l.force.distance waits c w else Ok (c, w)

-- a stop waits for the line's own move
abbrev pub stop_waits : Bool → Option Path → Bool
stop_waits waits path = not waits && is_holding path

abbrev pub waiting : Bool → Option Path → Option Code → Option Code
waiting waits path None = None
waiting waits path (Some code) = if stop_waits waits path then Some code else None

abbrev pub stopped : Bool → Option Path → Written → Option Code → Written
stopped waits path w None = w
stopped waits path w (Some code) =
    if stop_waits waits path then w
    else record { made = w.made; own = with_code_line code w.own }

-- ---- the line

abbrev pub course_from : Option Path → Point3 → Course
course_from path place = record { path = path; releases = false; place = place }

-- a line up to its stop
unfoldable pub course_of :
    Known → List Tool → ℕ → Option Path → PathLine → Written → Result (Course × Written) Fault
course_of k tools number path l w = do
  e ← ended_if k l.ends (course_from (in_distance path l.force.distance) k.place) w
  c ← started k tools l e.0 l.start
  moved_if k number l c e.1 l.motion

-- whether a line's plain lines wait for the held move
abbrev pub waits_for : Option Path → Course → Bool
waits_for path c = is_holding path && not c.releases

abbrev pub step_after : Option Path → PathLine → Course → PathStep
step_after path l c = record {
  front = l.front;
  path = c.path;
  releases = c.releases;
  waits = waits_for path c;
  stop = waiting (waits_for path c) c.path l.stop;
}

unfoldable pub step_of :
    Known → List Tool → ℕ → Option Path → PathLine → Written → Result (PathStep × Written) Fault
step_of k tools number path l w = do
  went ← course_of k tools number path l w
  e ← over_if k l (waits_for path went.0) went.0 went.1 l.stop
  Ok (step_after path l e.0, stopped (waits_for path e.0) e.0.path e.1 l.stop)

unfoldable pub path_step :
    Known → List Tool → ℕ → Option Path → List Word → Result (PathStep × Written) Fault
path_step k tools number path words = do
  l ← path_line (programmed k path) path words
  step_of k tools number path l.0 (record { made = []; own = l.1 })

-- after the program's last line
unfoldable pub path_end : Known → Option Path → Result (Bool × List Plain) Fault
path_end k path = do
  e ← ended k (course_from path k.place) (record { made = []; own = [] })
  Ok (e.0.releases, e.1.made)
