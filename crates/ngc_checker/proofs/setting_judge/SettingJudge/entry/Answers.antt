use Rattle.std.proofs.Common.{◌≡◌, ◌-◌, ◌≤◌, ℕ, List, length, ap, arith, refl, subst, ◌∙◌}
use Rattle.std.proofs.Math.ListN.{drop_of_length-le}
use Rattle.ngc_machine_files.specs.Machine.{file_of}
use Rattle.ngc_certificate_text.specs.declared.piece.Piece.{Piece}
use Rattle.ngc_certificate_text.specs.Certificate.{entry_at}
use Rattle.ngc_checker.specs.Following.{IsFollowing}
use Rattle.ngc_checker.specs.Walking.{fault_left}
use Rattle.ngc_checker.proofs.WalkLaws.{same_entry}
use Rattle.ngc_checker.proofs.setting_judge.SettingJudge.entry.Goals as goal

pub loop-done-init : goal.loop-done-init
loop-done-init g c =
    let pieces = (entry_at (g.M.MotionList.entries c.args.motions.now) c.args.i).pieces in
    let all : c.piece_count-count.result ≡ length pieces - 0 = omega (arith, c.piece_count-count.ensures.value) in
    record {
      within = c.motion.ensures.index;
      following = subst (λ (n : ℕ). IsFollowing (file_of c.args.machine.now) c.motion.new.self.following n) all c.motion.ensures.following;
      none = λ e. absurd (omega (arith, e, c.piece_count-count.ensures.value, c.piece_count-count.ensures.some));
      left = λ entries. refl;
    }

pub returns-clause-left : goal.returns-clause-left
returns-clause-left g c = λ entries.
    let entry = entry_at (g.M.MotionList.entries c.args.motions.now) c.args.i in
    let past : length entry.pieces ≤ c.loop-done.done = omega (arith, c.loop-done-test.false, c.piece_count-count.ensures.value) in
    let same : length entry.pieces ≡ c.piece_count-count.result = omega (arith, c.piece_count-count.ensures.value) in
    same_entry (file_of c.args.machine.now) c.args.setting c.args.commands.now c.args.self.now entry c.command_index.result entries c.command_index.ensures
    ∙ c.motion.ensures.left entry.pieces entries same ∙ c.loop-done.invariant.left entries
    ∙ ap (λ (ps : List Piece). fault_left (file_of c.args.machine.now) c.args.setting c.args.commands.now c.loop-done.self ps entries)
    (drop_of_length-le entry.pieces past)
