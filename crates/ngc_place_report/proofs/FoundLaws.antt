-- What is known of the shifts along an axis, from the commands that are executed with the origin shifted.
use Rattle.std.proofs.Common.{◌≡◌, ℕ, sym, subst, inl, inr, refl, pos, List, Bool, true, false, Option, Some, None, Result, Ok, Err, IfOk}
use Rattle.std.specs.declared.alloc.AllocError.{AllocError}
use Rattle.ngc_fixed_length.specs.declared.modes.System.{System}
use Rattle.ngc_fixed_length.specs.declared.points.StepPos.{StepPos}
use Rattle.ngc_commands.specs.declared.command.Command.{Command}
use Rattle.ngc_job.specs.Job.{JobData}
use Rattle.ngc_place.specs.Marks.{AreMarks}
use Rattle.ngc_place.specs.Shifts.{along}
use Rattle.ngc_place.specs.declared.axis.Axis.{Axis}
use Rattle.ngc_place.specs.declared.interval.Interval.{Interval}
use Rattle.ngc_place.specs.declared.programs.Program.{Program as Marked}
use Rattle.ngc_shifted_program.specs.Executions.{Executed, Execution}
use Rattle.ngc_shifted_program.specs.Shifted.{AreBothMarks, AreMoved, MoveAt, executed_at}
use Rattle.ngc_place_report.specs.Findings.{AreMarked, IsAlongAxis, IsFinding, MoveAtEnds, unmarked}
use Rattle.ngc_place_report.specs.Staying.{staying_of}
use Rattle.ngc_place_report.specs.declared.placement.AlongAxis.{AlongAxis}

-- ---- marks of the commands of a job, and the commands that are executed there

marks_there : (j : JobData) (n : StepPos) (o : Option Executed) (others : Executed) (off on : Marked) → Some others ≡ o → AreMarked j off on →
    AreMoved j.machine.step n off on o → AreBothMarks j n others off.moving.now on.moving.now
marks_there j n o others off on is marked moved =
    let both = subst (AreMoved j.machine.step n off on) (sym is) moved in (
      subst (λ (cs : List Command). AreMarks j.machine.step n cs others.off off.moving.now) marked.at_off both.0,
      subst (λ (cs : List Command). AreMarks j.machine.step n cs others.on on.moving.now) marked.at_on both.1,
    )

moved_there : (j : JobData) (n : StepPos) (o : Option Executed) (others : Executed) (off on : Marked) → Some others ≡ o → AreMarked j off on →
    AreBothMarks j n others off.moving.now on.moving.now → AreMoved j.machine.step n off on o
moved_there j n o others off on is marked marks =
    subst (AreMoved j.machine.step n off on) is (
      subst (λ (cs : List Command). AreMarks j.machine.step n cs others.off off.moving.now) (sym marked.at_off) marks.0,
      subst (λ (cs : List Command). AreMarks j.machine.step n cs others.on on.moving.now) (sym marked.at_on) marks.1,
    )

none_there : (j : JobData) (n : StepPos) (o : Option Executed) (off on : Marked) → None ≡ o → AreMoved j.machine.step n off on o → ⊥
none_there j n o off on is moved = subst (AreMoved j.machine.step n off on) (sym is) moved

-- ---- one step further along an axis

module _ (does : Execution) (j : JobData) (system : System) (axis : Axis) (most : ℕ) (n : StepPos) (is_step : n ≡ along axis (pos 1)) where
  -- the program is refused there
  pub refused_along : (a : AlongAxis) → a ≡ unmarked → None ≡ executed_at does j system n → IsAlongAxis does j system axis most a
  refused_along a is none = inr (record {
    known = is;
    moves = λ off on marked moves.
        none_there j n (executed_at does j system n) off on none (subst (MoveAt does j system off on) (sym is_step) moves);
  })

  -- no marks explain the commands there
  pub unexplained_along : (a : AlongAxis) (others : Executed) → a ≡ unmarked → Some others ≡ executed_at does j system n →
      ((off on : List Bool) → AreBothMarks j n others off on → ⊥) → IsAlongAxis does j system axis most a
  unexplained_along a others is executed none = inr (record {
    known = is;
    moves = λ off on marked moves. none off.moving.now on.moving.now
        (marks_there j n (executed_at does j system n) others off on executed marked (subst (MoveAt does j system off on) (sym is_step) moves));
  })

  -- these marks do
  pub marked_along : (a : AlongAxis) (others : Executed) (off on : Marked) (off_marks on_marks : List Bool) → AreMarked j off on →
      Some others ≡ executed_at does j system n → off.moving.now ≡ off_marks → on.moving.now ≡ on_marks → AreBothMarks j n others off_marks on_marks →
      IsFinding does j system axis most off on a.finding → a.staying ≡ staying_of off → IsAlongAxis does j system axis most a
  marked_along a others off on off_marks on_marks marked executed off_are on_are marks finding staying =
      let given = subst (λ (l : List Bool). AreBothMarks j n others off.moving.now l) (sym on_are)
      (subst (λ (l : List Bool). AreBothMarks j n others l on_marks) (sym off_are) marks) in
      inl (record {
        off = off;
        on = on;
        marked = marked;
        move = subst (MoveAt does j system off on) is_step (moved_there j n (executed_at does j system n) others off on executed marked given);
        finding = finding;
        staying = staying;
      })

-- ---- at both ends of an interval

module _ (does : Execution) (j : JobData) (system : System) (axis : Axis) (off on : Marked) (i : Interval) (low : StepPos) (is_low : low ≡ along axis i.from) where
  pub not_at_low : (MoveAt does j system off on low → ⊥) → MoveAtEnds does j system axis off on i false
  not_at_low fails = λ at_low at_high. fails (subst (MoveAt does j system off on) (sym is_low) at_low)

  pub at_both : (high : StepPos) (r : Result Bool AllocError) → high ≡ along axis i.to → MoveAt does j system off on low →
      IfOk r (λ b. b ≡ true → MoveAt does j system off on high) → IfOk r (λ b. b ≡ false → MoveAt does j system off on high → ⊥) →
      IfOk r (λ b. MoveAtEnds does j system axis off on i b)
  at_both high (Ok true) is_high at_low moves fails =
      (subst (MoveAt does j system off on) is_low at_low, subst (MoveAt does j system off on) is_high (moves refl))
  at_both high (Ok false) is_high at_low moves fails = λ from to. fails refl (subst (MoveAt does j system off on) (sym is_high) to)
  at_both high (Err e) is_high at_low moves fails = tt
