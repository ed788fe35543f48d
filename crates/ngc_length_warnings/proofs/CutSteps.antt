-- The first cut among commands, one command further.
use Rattle.std.proofs.Common.{◌≡◌, ◌∙◌, sym, subst, ℕ, ◌+◌, List, ◌∷◌, ◌++◌, Option, Some, None, Bool, true, false, cond, refl}
use Rattle.std.specs.List.{find}
use Rattle.std.specs.Option.{option_or}
use Rattle.ngc_machine_files.specs.Machine.{MachineFile}
use Rattle.ngc_commands.specs.Reached.{after}
use Rattle.ngc_commands.specs.declared.command.Command.{Command}
use Rattle.ngc_commands.specs.declared.reached.Reached.{Reached}
use Rattle.ngc_frames.specs.InForce.{frame_at}
use Rattle.ngc_frames.specs.declared.change.FrameChange.{FrameChange}
use Rattle.ngc_frames.specs.declared.frame.Frame.{Frame}
use Rattle.ngc_length_warnings.specs.Cuts.{bare_cuts, counted_cut, cut_in, is_counted, listed}
use Rattle.ngc_length_warnings.specs.declared.cut.BareCut.{BareCut}
use Rattle.ngc_length_warnings.specs.declared.cut.Boxes.{Boxes}

by_test : (b : Bool) (cut : BareCut) (later : Option BareCut) → cond b (Some cut) later ≡ option_or (cond b (Some cut) None) later
by_test true cut later = refl
by_test false cut later = refl

-- that of a command, or else the first of the later ones
pub one_more_cut : (boxes : Boxes) (m : MachineFile) (o : Option BareCut) (cuts : List BareCut) →
    find (is_counted boxes m) (listed o ++ cuts) ≡ option_or (counted_cut boxes m o) (find (is_counted boxes m) cuts)
one_more_cut boxes m None cuts = refl
one_more_cut boxes m (Some cut) cuts = by_test (is_counted boxes m cut) cut (find (is_counted boxes m) cuts)

-- that of all commands, where the command c is the next one and the others come later
pub one_further : (boxes : Boxes) (m : MachineFile) (start : Frame) (changes : List FrameChange) (k : ℕ) (r next : Reached) (left later : List Command) (c : Command) (frame : Frame) (cut all : Option BareCut) →
    left ≡ c ∷ later → frame ≡ frame_at start changes k → cut ≡ cut_in frame r.tool c → next ≡ after r c.action →
    find (is_counted boxes m) (bare_cuts start changes k r left) ≡ all →
    option_or (counted_cut boxes m cut) (find (is_counted boxes m) (bare_cuts start changes (k + 1) next later)) ≡ all
one_further boxes m start changes k r next left later c frame cut all e f o n same =
    let here = subst (λ (l : List Command). find (is_counted boxes m) (bare_cuts start changes k r l) ≡ all) e same in
    let full = sym (one_more_cut boxes m (cut_in (frame_at start changes k) r.tool c) (bare_cuts start changes (k + 1) (after r c.action) later)) ∙ here in
    let framed = subst (λ (x : Frame). option_or (counted_cut boxes m (cut_in x r.tool c)) (find (is_counted boxes m) (bare_cuts start changes (k + 1) (after r c.action) later)) ≡ all) (sym f) full in
    let kept = subst (λ (x : Option BareCut). option_or (counted_cut boxes m x) (find (is_counted boxes m) (bare_cuts start changes (k + 1) (after r c.action) later)) ≡ all) (sym o) framed in
    subst (λ (x : Reached). option_or (counted_cut boxes m cut) (find (is_counted boxes m) (bare_cuts start changes (k + 1) x later)) ≡ all) (sym n) kept

-- what is found of the next command decides
pub decided : (counted found rest all : Option BareCut) (x : Option BareCut) → found ≡ counted → found ≡ x → option_or counted rest ≡ all → option_or x rest ≡ all
decided counted found rest all x e is h =
    subst (λ (o : Option BareCut). option_or o rest ≡ all) is (subst (λ (o : Option BareCut). option_or o rest ≡ all) (sym e) h)
