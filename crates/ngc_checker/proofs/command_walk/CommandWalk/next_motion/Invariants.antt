-- The walk from here on is the walk from where it began.
use Rattle.std.proofs.Common.{◌≡◌, ◌+◌, List, drop}
use Rattle.ngc_machine_files.specs.Machine.{file_of}
use Rattle.ngc_commands.specs.Movement.{actions_of, motion_indices}
use Rattle.ngc_certificate_text.specs.Certificate.{Entry}
use Rattle.ngc_checker.specs.Walking.{walk_from}
use Rattle.ngc_checker.proofs.command_walk.CommandWalk.next_motion.Given as goal

abbrev pub invariant-loop-command : goal.invariant-loop-command
invariant-loop-command g l = record {
  index : l.self.index ≡ l.initial.self.index + l.command-index;
  indices : motion_indices l.initial.self.index (actions_of l.ahead) ≡ motion_indices l.self.index (actions_of (drop l.command-index l.ahead));
  walk : (entries : List Entry) → walk_from (file_of l.machine) l.setting l.initial.self.index l.initial.self (actions_of l.ahead) entries
      ≡ walk_from (file_of l.machine) l.setting l.self.index l.self (actions_of (drop l.command-index l.ahead)) entries;
}
