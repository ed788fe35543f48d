use Rattle.ngc_canonical.specs.Interpreter.{setup_of}
use Rattle.ngc_commands.specs.Movement.{actions_of, ways_of, AreJoined}
use Rattle.ngc_commands.specs.Sequence.{COMMAND_LIMIT, HaveEvenRadii, EndIsLast, HasEnd}
use Rattle.ngc_frames.specs.declared.change.FrameChange.{FrameChange}
use Rattle.ngc_machine_files.specs.Machine.{file_of}
use Rattle.std.proofs.Common.{◌≡◌, ◌≤◌, length, List, refl, subst, sym, IfOk}
use Rattle.ngc_dialect_execution.specs.Faults.{ProgramSays}
use Rattle.ngc_dialect_execution.specs.Program.{changes_of, lines_of, notes_of, changes_in, notes_in, plain_in}
use Rattle.ngc_dialect_execution.specs.Views.{traced}
use Rattle.ngc_dialect_execution.proofs.Erasure.{same_changes, same_commands}
use Rattle.ngc_dialect_execution.proofs.Reaching.{are_executed, are_traced, commands_said, kept_lead, lawfully, part_said}
use Rattle.ngc_dialect_execution.proofs.program.trace_dialect.Goals as goal

pub returns-clause-commands : goal.returns-clause-commands
returns-clause-commands g c =
    subst (ProgramSays (λ t. t.framed.commands.items) c.execute_text.result)
    (sym (same_commands c.args.wanted c.args.dialect (setup_of c.args.machine.now c.args.tools.now) c.args.block_delete c.args.text.now))
    (commands_said traced c.execute_text.result _ c.execute_text.ensures.says)

pub returns-clause-changes : goal.returns-clause-changes
unfolding changes_in
returns-clause-changes g c =
    subst (λ (cs : List FrameChange). IfOk c.execute_text.result (λ t. t.framed.frames.changes.items ≡ cs))
    (sym (same_changes c.args.wanted c.args.dialect (setup_of c.args.machine.now c.args.tools.now) c.args.block_delete c.args.text.now))
    (part_said traced (λ f. f.changes) changes_of c.execute_text.result _ (λ f. refl) c.execute_text.ensures.says)

pub returns-clause-notes : goal.returns-clause-notes
unfolding notes_in
returns-clause-notes g c = part_said traced (λ f. f.notes) notes_of c.execute_text.result _ (λ f. refl) c.execute_text.ensures.says

pub returns-clause-lines : goal.returns-clause-lines
unfolding plain_in
returns-clause-lines g c = part_said traced (λ f. f.lines) lines_of c.execute_text.result _ (λ f. refl) c.execute_text.ensures.says

pub returns-clause-lead : goal.returns-clause-lead
returns-clause-lead g c =
    kept_lead traced c.execute_text.result c.args.wanted.lines (setup_of c.args.machine.now c.args.tools.now)
    (are_traced traced c.execute_text.result c.args.wanted c.args.dialect (setup_of c.args.machine.now c.args.tools.now) c.args.block_delete c.args.text.now
    c.execute_text.ensures.says)

pub returns-clause-executed : goal.returns-clause-executed
returns-clause-executed g c =
    are_executed traced c.execute_text.result c.args.wanted.lines (setup_of c.args.machine.now c.args.tools.now)
    (are_traced traced c.execute_text.result c.args.wanted c.args.dialect (setup_of c.args.machine.now c.args.tools.now) c.args.block_delete c.args.text.now
    c.execute_text.ensures.says)

pub returns-clause-joined : goal.returns-clause-joined
returns-clause-joined g c =
    lawfully (λ t. t.framed.commands.items) (λ cs. AreJoined (file_of c.args.machine.now).start (ways_of (actions_of cs))) (setup_of c.args.machine.now c.args.tools.now)
    c.execute_text.result (λ s e law. law.joined) (returns-clause-executed g c)

pub returns-clause-radii : goal.returns-clause-radii
returns-clause-radii g c =
    lawfully (λ t. t.framed.commands.items) (λ cs. HaveEvenRadii (ways_of (actions_of cs))) (setup_of c.args.machine.now c.args.tools.now)
    c.execute_text.result (λ s e law. law.radii) (returns-clause-executed g c)

pub returns-clause-count : goal.returns-clause-count
returns-clause-count g c =
    lawfully (λ t. t.framed.commands.items) (λ cs. length cs ≤ COMMAND_LIMIT) (setup_of c.args.machine.now c.args.tools.now)
    c.execute_text.result (λ s e law. law.count) (returns-clause-executed g c)

pub returns-clause-ended : goal.returns-clause-ended
returns-clause-ended g c =
    lawfully (λ t. t.framed.commands.items) EndIsLast (setup_of c.args.machine.now c.args.tools.now)
    c.execute_text.result (λ s e law. law.ended) (returns-clause-executed g c)

pub returns-clause-has_end : goal.returns-clause-has_end
returns-clause-has_end g c =
    lawfully (λ t. t.framed.commands.items) HasEnd (setup_of c.args.machine.now c.args.tools.now)
    c.execute_text.result (λ s e law. law.has_end e) (returns-clause-executed g c)
