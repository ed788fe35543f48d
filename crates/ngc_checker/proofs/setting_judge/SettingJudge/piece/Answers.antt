use Rattle.std.proofs.Common.{◌-◌, ap, sym, ◌∙◌, Option, Some}
use Rattle.std.specs.Option.{option_map}
use Rattle.ngc_machine_files.specs.Machine.{file_of}
use Rattle.ngc_certificate.specs.declared.fault.PieceRefusal.{PieceRefusal}
use Rattle.ngc_certificate.specs.PieceFault.{◌or◌}
use Rattle.ngc_checker.specs.declared.command_walk.CommandWalk.{CommandWalk}
use Rattle.ngc_checker.specs.declared.fault.CheckFault.{CheckFault}
use Rattle.ngc_checker.specs.declared.fault.CheckFault.TheVariants as faults
use Rattle.ngc_checker.specs.declared.setting_judge.SettingJudge.{SettingJudge}
use Rattle.ngc_checker.specs.FirstRefusal.{at_command}
use Rattle.ngc_checker.specs.Walking.{fault_left}
use Rattle.ngc_checker.proofs.WalkLaws.{followed, not_last, idle, same_or}
use Rattle.ngc_checker.proofs.setting_judge.SettingJudge.piece.Goals.{in-Some+in-Some-next, in-Some+in_default-next, in_default}
use Rattle.ngc_checker.proofs.setting_judge.SettingJudge.piece.Goals as goal

pub returns-else-last-clause-left : goal.returns-else-last-clause-left
returns-else-last-clause-left g c commands pieces entries count =
    let file = file_of c.args.machine.now in
    let s = c.args.setting in
    let old = c.args.self.now in
    let last = not_last c.args.left pieces c.if-last.false count in
    elim c.match-self.branch [
      | in-Some+in-Some-next w ↦
          followed file s commands old w.in-Some.judge w.next.new.self w.next.result c.args.piece.now pieces entries w.in-Some.is
          (w.next.ensures.first pieces last)
          ∙ ap (λ (r : Option PieceRefusal). fault_left file s commands
          (record {
            walk = record old.walk { refusal = old.walk.refusal or option_map (at_command s (old.walk.index - 1)) r };
            differs = old.differs;
            following = Some w.next.new.self;
          }) pieces entries) w.in-Some-next.is
          ∙ ap (λ k. fault_left file s commands
          (record {
            walk = record old.walk {
              refusal = old.walk.refusal or Some
                  (faults.Piece s k w.in-Some-next.refusal.piece w.in-Some-next.refusal.fault);
            };
            differs = old.differs;
            following = Some w.next.new.self;
          }) pieces entries) (sym c.saturating_sub-command.ensures)
          ∙ ap (λ (x : CommandWalk). fault_left file s commands (record { walk = x; differs = old.differs; following = Some w.next.new.self }) pieces entries)
          (sym w.refuse.ensures)
          ∙ ap (λ (x : SettingJudge). fault_left file s commands x pieces entries) (sym w.self-is)
      | in-Some+in_default-next w ↦
          followed file s commands old w.in-Some.judge w.next.new.self w.next.result c.args.piece.now pieces entries w.in-Some.is
          (w.next.ensures.first pieces last)
          ∙ ap (λ (r : Option PieceRefusal). fault_left file s commands
          (record {
            walk = record old.walk { refusal = old.walk.refusal or option_map (at_command s (old.walk.index - 1)) r };
            differs = old.differs;
            following = Some w.next.new.self;
          }) pieces entries) w.in_default-next.is
          ∙ ap (λ (r : Option CheckFault). fault_left file s commands
          (record { walk = record old.walk { refusal = r }; differs = old.differs; following = Some w.next.new.self }) pieces entries)
          (same_or old.walk.refusal)
          ∙ ap (λ (x : SettingJudge). fault_left file s commands x pieces entries) (sym w.self-is)
      | in_default w ↦ idle file s commands old c.args.piece.now pieces entries w.in_default.is
          ∙ ap (λ (x : SettingJudge). fault_left file s commands x pieces entries) (sym w.self-is)
    ]
