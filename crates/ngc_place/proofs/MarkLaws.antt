-- The marks of a program's commands, in order.
use Rattle.std.proofs.Common.{◌≡◌, ℕ, suc, ◌+◌, ◌<◌, ◌≤◌, refl, ap, ap₂, sym, ◌∙◌, List, [], ◌∷◌, ◌++◌, length, true, false, arith, drop, subst}
use Rattle.std.proofs.Common.{append_assoc, append-nil, get_or, length-append}
use Rattle.std.specs.Prelude.{Bool, ℤ, pos, ◌+ℤ◌}
use Rattle.std.proofs.lemmas.List.{drop_all, drop_more}
use Rattle.std.proofs.lemmas.Int.{ints}
use Rattle.ngc_fixed_length.specs.Places.{plus, shifted as moved, in_plane, zero_point}
use Rattle.ngc_fixed_length.specs.declared.modes.Plane.{Plane}
use Rattle.ngc_fixed_length.specs.declared.modes.Plane.TheVariants.{XY, ZX, YZ}
use Rattle.ngc_fixed_length.specs.declared.points.Point2.{Point2}
use Rattle.ngc_fixed_length.specs.declared.points.Point3.{Point3}
use Rattle.ngc_fixed_length.specs.declared.points.StepPos.{StepPos}
use Rattle.ngc_arc_geometry.specs.Shape.{ArcShape}
use Rattle.ngc_collision.specs.Body.{nanometres_of}
use Rattle.ngc_commands.specs.declared.command.Action.{Action}
use Rattle.ngc_commands.specs.declared.command.Action.TheVariants as actions
use Rattle.ngc_commands.specs.declared.command.Command.{Command}
use Rattle.ngc_commands.specs.declared.movement.Motion.{Motion}
use Rattle.ngc_commands.specs.declared.movement.Way.{Way}
use Rattle.ngc_commands.specs.declared.movement.Way.TheVariants.{Line, Arc}
use Rattle.ngc_commands.specs.Movement.{actions_of}
use Rattle.ngc_place.specs.Shifts.{shifted, arc_shifted, way_shifted, end_moves, action_shifted, actions_shifted, AreShifted}
use Rattle.ngc_place.specs.Marks.{AreMarks}

-- ---- a shift by nothing

adds_nothing : (a d : ℤ) → a ≡ a +ℤ d → d ≡ pos 0
adds_nothing a d h = omega (arith, ints, h)

nothing_added : (a d : ℤ) → d ≡ pos 0 → a +ℤ d ≡ a
nothing_added a d h = omega (arith, ints, h)

same_point : (p q : Point3) → p.x ≡ q.x → p.y ≡ q.y → p.z ≡ q.z → p ≡ q
same_point p q x y z = rw (x, y, z) refl

stays : (p d : Point3) → p ≡ plus p d → d ≡ zero_point
stays p d h = same_point d zero_point
    (adds_nothing p.x d.x (ap (λ (q : Point3). q.x) h))
    (adds_nothing p.y d.y (ap (λ (q : Point3). q.y) h))
    (adds_nothing p.z d.z (ap (λ (q : Point3). q.z) h))

plus_zero : (p d : Point3) → d ≡ zero_point → plus p d ≡ p
plus_zero p d h = same_point (plus p d) p
    (nothing_added p.x d.x (ap (λ (q : Point3). q.x) h))
    (nothing_added p.y d.y (ap (λ (q : Point3). q.y) h))
    (nothing_added p.z d.z (ap (λ (q : Point3). q.z) h))

same_centre : (p q : Point2) → p.u ≡ q.u → p.v ≡ q.v → p ≡ q
same_centre p q u v = rw (u, v) refl

centre_stays : (plane : Plane) (c : Point2) (d : Point3) → d ≡ zero_point → moved c (in_plane plane d) ≡ c
centre_stays XY c d h = same_centre (moved c (in_plane XY d)) c
    (nothing_added c.u d.x (ap (λ (q : Point3). q.x) h)) (nothing_added c.v d.y (ap (λ (q : Point3). q.y) h))
centre_stays ZX c d h = same_centre (moved c (in_plane ZX d)) c
    (nothing_added c.u d.z (ap (λ (q : Point3). q.z) h)) (nothing_added c.v d.x (ap (λ (q : Point3). q.x) h))
centre_stays YZ c d h = same_centre (moved c (in_plane YZ d)) c
    (nothing_added c.u d.y (ap (λ (q : Point3). q.y) h)) (nothing_added c.v d.z (ap (λ (q : Point3). q.z) h))

point_stays : (step : ℤ) (n : StepPos) (moves : Bool) (p : Point3) → nanometres_of step n ≡ zero_point → shifted step n moves p ≡ p
point_stays step n true p h = plus_zero p (nanometres_of step n) h
point_stays step n false p h = refl

abbrev arc_of : Plane → ArcShape → Point3 → Point3 → Point2 → ArcShape
arc_of plane a start end centre = record { plane = plane; turn = a.turn; start = start; end = end; centre = centre }

arc_is : (a : ArcShape) (start end : Point3) (centre : Point2) → start ≡ a.start → end ≡ a.end → centre ≡ a.centre → arc_of a.plane a start end centre ≡ a
arc_is a start end centre s e c = rw (s, e, c) refl

arc_stays : (step : ℤ) (n : StepPos) (moves : Bool) (a : ArcShape) → nanometres_of step n ≡ zero_point → arc_shifted step n moves a ≡ a
arc_stays step n true a h =
    arc_is a _ _ _ (plus_zero a.start (nanometres_of step n) h) (plus_zero a.end (nanometres_of step n) h)
    (centre_stays a.plane a.centre (nanometres_of step n) h)
arc_stays step n false a h = refl

way_stays : (step : ℤ) (n : StepPos) (start end : Bool) (w : Way) → nanometres_of step n ≡ zero_point → way_shifted step n start end w ≡ w
way_stays step n start end (Line p q) h = ap₂ (λ a b. Line a b) (point_stays step n start p h) (point_stays step n end q h)
way_stays step n start end (Arc a) h = ap (λ b. Arc b) (arc_stays step n end a h)

motion_stays : (m : Motion) (w : Way) → w ≡ m.way → actions.Move (record { way = w; pace = m.pace; stop = m.stop }) ≡ actions.Move m
motion_stays m w h = rw h refl

action_stays : (step : ℤ) (n : StepPos) (start end : Bool) (a : Action) → nanometres_of step n ≡ zero_point → action_shifted step n start end a ≡ a
action_stays step n start end (actions.Move m) h = motion_stays m _ (way_stays step n start end m.way h)
action_stays step n start end (actions.Mount t) h = refl
action_stays step n start end (actions.Dwell t) h = refl
action_stays step n start end (actions.Spindle s) h = refl
action_stays step n start end (actions.Coolant s) h = refl
action_stays step n start end (actions.Override s) h = refl
action_stays step n start end actions.Stop h = refl
action_stays step n start end actions.OptionalStop h = refl
action_stays step n start end actions.End h = refl

all_stay : (step : ℤ) (n : StepPos) (start : Bool) (marks : List Bool) (later : List Action) → nanometres_of step n ≡ zero_point →
    actions_shifted step n start marks later ≡ later
all_stay step n start marks [] h = refl
all_stay step n start [] (a ∷ later) h = refl
all_stay step n start (end ∷ marks) (a ∷ later) h =
    ap₂ (λ x xs. x ∷ xs) (action_stays step n start end a h) (all_stay step n (end_moves start end a) marks later h)

-- ---- two marks under which an action is the same

way_in : Action → Way → Way
way_in (actions.Move m) w = m.way
way_in _ w = w

line_end : Way → Point3 → Point3
line_end (Line p q) r = q
line_end (Arc a) r = r

arc_start : Way → Point3 → Point3
arc_start (Line p q) r = r
arc_start (Arc a) r = a.start

way_decides : (step : ℤ) (n : StepPos) (start : Bool) (w : Way) → way_shifted step n start false w ≡ way_shifted step n start true w →
    nanometres_of step n ≡ zero_point
unfolding line_end arc_start
way_decides step n start (Line p q) h = stays q (nanometres_of step n) (ap (λ w. line_end w q) h)
way_decides step n start (Arc a) h = stays a.start (nanometres_of step n) (ap (λ w. arc_start w a.start) h)

move_decides : (step : ℤ) (n : StepPos) (start : Bool) (m : Motion) →
    action_shifted step n start false (actions.Move m) ≡ action_shifted step n start true (actions.Move m) → nanometres_of step n ≡ zero_point
unfolding way_in
move_decides step n start m h = way_decides step n start m.way (ap (λ a. way_in a m.way) h)

-- the marks after it have the same effect
same_rest : (step : ℤ) (n : StepPos) (start x y : Bool) (a : Action) (marks : List Bool) (later : List Action) →
    action_shifted step n start x a ≡ action_shifted step n start y a →
    actions_shifted step n (end_moves start x a) marks later ≡ actions_shifted step n (end_moves start y a) marks later
same_rest step n start false false a marks later h = refl
same_rest step n start true true a marks later h = refl
same_rest step n start false true (actions.Move m) marks later h =
    let z = move_decides step n start m h in
    all_stay step n false marks later z ∙ sym (all_stay step n true marks later z)
same_rest step n start true false (actions.Move m) marks later h =
    let z = move_decides step n start m (sym h) in
    all_stay step n true marks later z ∙ sym (all_stay step n false marks later z)
same_rest step n start false true (actions.Mount t) marks later h = refl
same_rest step n start false true (actions.Dwell t) marks later h = refl
same_rest step n start false true (actions.Spindle s) marks later h = refl
same_rest step n start false true (actions.Coolant s) marks later h = refl
same_rest step n start false true (actions.Override s) marks later h = refl
same_rest step n start false true actions.Stop marks later h = refl
same_rest step n start false true actions.OptionalStop marks later h = refl
same_rest step n start false true actions.End marks later h = refl
same_rest step n start true false (actions.Mount t) marks later h = refl
same_rest step n start true false (actions.Dwell t) marks later h = refl
same_rest step n start true false (actions.Spindle s) marks later h = refl
same_rest step n start true false (actions.Coolant s) marks later h = refl
same_rest step n start true false (actions.Override s) marks later h = refl
same_rest step n start true false actions.Stop marks later h = refl
same_rest step n start true false actions.OptionalStop marks later h = refl
same_rest step n start true false actions.End marks later h = refl

-- ---- the commands in order

pub next_action : (i : ℕ) (commands : List Command) (c : Command) → i < length commands → c ≡ get_or commands i c →
    actions_of (drop i commands) ≡ c.action ∷ actions_of (drop (i + 1) commands)
next_action i commands c within is =
    ap actions_of (drop_more commands i c within) ∙ ap (λ (x : Command). x.action ∷ actions_of (drop (i + 1) commands)) (sym is)

-- from command i on, the others are these with the origin shifted
abbrev pub RestShifted : ℤ → StepPos → Bool → List Bool → List Command → List Command → ℕ → Type 0
RestShifted step n start marks commands others i =
    actions_of (drop i others) ≡ actions_shifted step n start marks (actions_of (drop i commands))

-- the marks of the commands before command i, whatever the marks after them are
pub record AreFirst (step : ℤ) (n : StepPos) (start : Bool) (marks : List Bool) (commands others : List Command) (i : ℕ) : Type 0 where
  pub count : length marks ≡ i
  pub enough : (rest : List Bool) → RestShifted step n start rest commands others i → AreShifted step n (marks ++ rest) commands others
  pub only : (all : List Bool) → AreMarks step n commands others all → RestShifted step n start (drop i all) commands others i

pub no_marks : (step : ℤ) (n : StepPos) (commands others : List Command) → AreFirst step n false [] commands others 0
no_marks step n commands others = record {
  count = refl;
  enough = λ rest h. h;
  only = λ all h. h.shifted;
}

one_more_mark : (marks rest : List Bool) (mark : Bool) → (marks ++ mark ∷ []) ++ rest ≡ marks ++ (mark ∷ rest)
one_more_mark marks rest mark = append_assoc marks (mark ∷ []) rest

head_is : (a b : Action) (later bs : List Action) → a ∷ later ≡ b ∷ bs → a ≡ b
head_is a b later bs h = ap (λ (xs : List Action). get_or xs 0 a) h

tail_is : (a b : Action) (later bs : List Action) → a ∷ later ≡ b ∷ bs → later ≡ bs
tail_is a b later bs h = ap (λ (xs : List Action). drop 1 xs) h

-- the next action is the next one under the next mark
first_under : (step : ℤ) (n : StepPos) (start : Bool) (all : List Bool) (commands others : List Command) (i : ℕ) (a o : Action) →
    actions_of (drop i commands) ≡ a ∷ actions_of (drop (i + 1) commands) → actions_of (drop i others) ≡ o ∷ actions_of (drop (i + 1) others) →
    i < length all → RestShifted step n start (drop i all) commands others i →
    o ∷ actions_of (drop (i + 1) others)
    ≡ action_shifted step n start (get_or all i false) a
    ∷ actions_shifted step n (end_moves start (get_or all i false) a) (drop (i + 1) all) (actions_of (drop (i + 1) commands))
first_under step n start all commands others i a o first second within h =
    sym second ∙ h ∙ ap₂ (actions_shifted step n start) (drop_more all i false within) first

pub mark_added : (step : ℤ) (n : StepPos) (start next end : Bool) (marks new : List Bool) (commands others : List Command) (i : ℕ) (a o : Action) →
    AreFirst step n start marks commands others i → new ≡ marks ++ end ∷ [] → i < length commands →
    actions_of (drop i commands) ≡ a ∷ actions_of (drop (i + 1) commands) → actions_of (drop i others) ≡ o ∷ actions_of (drop (i + 1) others) →
    action_shifted step n start end a ≡ o → next ≡ end_moves start end a → AreFirst step n next new commands others (i + 1)
mark_added step n start next end marks new commands others i a o inv added within first second fits moves = record {
  count = ap length added ∙ counted marks end i inv.count;
  enough = λ rest h.
      subst (λ ms. AreShifted step n ms commands others) (sym (ap (λ ms. ms ++ rest) added ∙ one_more_mark marks rest end))
      (inv.enough (end ∷ rest)
      (second ∙ ap₂ (λ x xs. x ∷ xs) (sym fits) (h ∙ ap (λ s. actions_shifted step n s rest (actions_of (drop (i + 1) commands))) moves)
      ∙ ap (actions_shifted step n start (end ∷ rest)) (sym first)));
  only = λ all h.
      let under = first_under step n start all commands others i a o first second (rw h.each within) (inv.only all h) in
      tail_is _ _ _ _ under
      ∙ same_rest step n start (get_or all i false) end a (drop (i + 1) all) (actions_of (drop (i + 1) commands)) (sym (head_is _ _ _ _ under) ∙ sym fits)
      ∙ ap (λ s. actions_shifted step n s (drop (i + 1) all) (actions_of (drop (i + 1) commands))) (sym moves);
}
  where
    counted : (ms : List Bool) (m : Bool) (k : ℕ) → length ms ≡ k → length (ms ++ m ∷ []) ≡ k + 1
    counted ms m k h = rw (length-append ms (m ∷ [])) (omega (arith, h))

pub none_fits : (step : ℤ) (n : StepPos) (start : Bool) (marks all : List Bool) (commands others : List Command) (i : ℕ) (a o : Action) →
    AreFirst step n start marks commands others i → i < length commands →
    actions_of (drop i commands) ≡ a ∷ actions_of (drop (i + 1) commands) → actions_of (drop i others) ≡ o ∷ actions_of (drop (i + 1) others) →
    ((end : Bool) → action_shifted step n start end a ≡ o → ⊥) → AreMarks step n commands others all → ⊥
none_fits step n start marks all commands others i a o inv within first second none h =
    none (get_or all i false) (sym (head_is _ _ _ _ (first_under step n start all commands others i a o first second (rw h.each within) (inv.only all h))))

pub all_marked : (step : ℤ) (n : StepPos) (start : Bool) (marks : List Bool) (commands others : List Command) (i : ℕ) →
    AreFirst step n start marks commands others i → i ≡ length commands → length commands ≡ length others → AreMarks step n commands others marks
all_marked step n start marks commands others i inv at same = record {
  each = inv.count ∙ at;
  shifted = subst (λ ms. AreShifted step n ms commands others) (append-nil marks)
      (inv.enough [] (ap actions_of (drop_all i others (omega (arith, at, same)))
      ∙ ap (actions_shifted step n start []) (sym (ap actions_of (drop_all i commands (omega (arith, at)))))));
}

-- ---- commands under given marks

-- whether the others are shifted depends on the commands from i on alone
pub record IsLeft (step : ℤ) (n : StepPos) (start : Bool) (marks : List Bool) (commands others : List Command) (i : ℕ) : Type 0 where
  pub enough : RestShifted step n start (drop i marks) commands others i → AreShifted step n marks commands others
  pub only : AreShifted step n marks commands others → RestShifted step n start (drop i marks) commands others i

pub all_left : (step : ℤ) (n : StepPos) (marks : List Bool) (commands others : List Command) → IsLeft step n false marks commands others 0
all_left step n marks commands others = record { enough = λ h. h; only = λ h. h }

pub one_passed : (step : ℤ) (n : StepPos) (start next end : Bool) (marks : List Bool) (commands others : List Command) (i : ℕ) (a o : Action) →
    IsLeft step n start marks commands others i → drop i marks ≡ end ∷ drop (i + 1) marks →
    actions_of (drop i commands) ≡ a ∷ actions_of (drop (i + 1) commands) → actions_of (drop i others) ≡ o ∷ actions_of (drop (i + 1) others) →
    action_shifted step n start end a ≡ o → next ≡ end_moves start end a → IsLeft step n next marks commands others (i + 1)
one_passed step n start next end marks commands others i a o inv mark first second fits moves = record {
  enough = λ h. inv.enough
      (second ∙ ap₂ (λ x xs. x ∷ xs) (sym fits) (h ∙ ap (λ s. actions_shifted step n s (drop (i + 1) marks) (actions_of (drop (i + 1) commands))) moves)
      ∙ ap₂ (actions_shifted step n start) (sym mark) (sym first));
  only = λ h.
      tail_is _ _ _ _ (sym second ∙ inv.only h ∙ ap₂ (actions_shifted step n start) mark first)
      ∙ ap (λ s. actions_shifted step n s (drop (i + 1) marks) (actions_of (drop (i + 1) commands))) (sym moves);
}

pub one_differs : (step : ℤ) (n : StepPos) (start end : Bool) (marks : List Bool) (commands others : List Command) (i : ℕ) (a o : Action) →
    IsLeft step n start marks commands others i → drop i marks ≡ end ∷ drop (i + 1) marks →
    actions_of (drop i commands) ≡ a ∷ actions_of (drop (i + 1) commands) → actions_of (drop i others) ≡ o ∷ actions_of (drop (i + 1) others) →
    (action_shifted step n start end a ≡ o → ⊥) → AreMarks step n commands others marks → ⊥
one_differs step n start end marks commands others i a o inv mark first second differs h =
    differs (sym (head_is _ _ _ _ (sym second ∙ inv.only h.shifted ∙ ap₂ (actions_shifted step n start) mark first)))

pub none_left_over : (step : ℤ) (n : StepPos) (start : Bool) (marks : List Bool) (commands others : List Command) (i : ℕ) →
    IsLeft step n start marks commands others i → length commands ≤ i → length commands ≡ length others → length commands ≡ length marks →
    AreMarks step n commands others marks
none_left_over step n start marks commands others i inv at same each = record {
  each = sym each;
  shifted = inv.enough (ap actions_of (drop_all i others (omega (arith, at, same)))
      ∙ sym (ap₂ (actions_shifted step n start) (drop_all i marks (omega (arith, at, each))) (ap actions_of (drop_all i commands at))));
}

-- ---- lists of other lengths

same_count : (step : ℤ) (n : StepPos) (start : Bool) (marks : List Bool) (later : List Action) → length (actions_shifted step n start marks later) ≡ length later
same_count step n start marks [] = refl
same_count step n start [] (a ∷ later) = refl
same_count step n start (m ∷ marks) (a ∷ later) = ap suc (same_count step n (end_moves start m a) marks later)

actions_count : (commands : List Command) → length (actions_of commands) ≡ length commands
actions_count [] = refl
actions_count (c ∷ cs) = ap suc (actions_count cs)

pub other_count : (step : ℤ) (n : StepPos) (marks : List Bool) (commands others : List Command) → AreMarks step n commands others marks →
    length commands ≡ length others
other_count step n marks commands others h =
    sym (sym (actions_count others) ∙ ap length h.shifted ∙ same_count step n false marks (actions_of commands) ∙ actions_count commands)
