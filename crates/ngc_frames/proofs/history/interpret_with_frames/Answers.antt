use Rattle.std.proofs.Common.{◌≡◌, ◌≤◌, ap, sym, subst, ◌∙◌, Ok, Result, List, length, arith}
use Rattle.ngc_line_reader.specs.ProgramView.{text_in}
use Rattle.ngc_machine_files.specs.Machine.{file_of}
use Rattle.ngc_commands.specs.declared.command.Command.{Command}
use Rattle.ngc_canonical.specs.declared.fault.ProgramFault.{ProgramFault}
use Rattle.ngc_canonical.specs.Meaning.{meaning, parsed_program, past_text, commands_of, Fails}
use Rattle.ngc_canonical.specs.Interpreter.{setup_of, state_of}
use Rattle.ngc_canonical.proofs.EndingLines.{line_ended, line_has_end, line_on, finished_ended, finished_has_end}
use Rattle.ngc_canonical.proofs.JoinedLines.{went_on, handed_out, finished_joined, finished_radii, finished_few}
use Rattle.ngc_canonical.proofs.BlockDelete.{seen_line, next_seen}
use Rattle.ngc_canonical.proofs.Lines.{number_is, taken_as, left_refused, left_ended, refused_fails}
use Rattle.ngc_canonical.proofs.Lines as lines_of
use Rattle.ngc_frames.proofs.LineSteps.{goes_on, left_none, none_left, stops}
use Rattle.ngc_frames.proofs.history.interpret_with_frames.Goals as goal

pub returns-in-Err-clause-commands : goal.returns-in-Err-clause-commands
returns-in-Err-clause-commands g c = λ rs are.
    let lines = (text_in c.args.program.now).lines in
    let here = seen_line (text_in c.args.program.now).lines c.loop-index.index (omega (arith, c.loop-index-test.true, c.len-index-end.ensures.value)) in
    let next = next_seen lines rs c.loop-index.index here are in
    refused_fails c.in-Err.fault _ _ _
    (λ e refused. c.loop-index.invariant.leads rs are ∙ left_refused
    (setup_of c.args.machine.now c.args.tools.now) _ c.args.block_delete lines rs c.loop-index.index _ _ _ e c.loop-index.invariant.running next refused)
    (taken_as (setup_of c.args.machine.now c.args.tools.now) c.args.block_delete here.line _ _ _ next.reading (c.in-Err.ensures here.line here.at) next.reads)

pub returns-then-is_ended-clause-commands : goal.returns-then-is_ended-clause-commands
returns-then-is_ended-clause-commands g c = λ rs are.
    let lines = (text_in c.args.program.now).lines in
    let here = seen_line (text_in c.args.program.now).lines c.loop-index.index (omega (arith, c.loop-index-test.true, c.len-index-end.ensures.value)) in
    let next = next_seen lines rs c.loop-index.index here are in
    ap commands_of
    (c.loop-index.invariant.leads rs are
    ∙ left_ended (setup_of c.args.machine.now c.args.tools.now) _ c.args.block_delete lines rs c.loop-index.index _ _ _ _ c.loop-index.invariant.running next
    (taken_as (setup_of c.args.machine.now c.args.tools.now) c.args.block_delete here.line _ _ _ next.reading (c.in-Ok-take_line.ensures here.line here.at) next.reads)
    (sym c.is_ended.ensures ∙ c.if-is_ended.true))
    ∙ ap (λ (l : List Command). Ok l) (sym c.into_commands.ensures)

pub returns-then-is_ended-clause-changes : goal.returns-then-is_ended-clause-changes
returns-then-is_ended-clause-changes g c = λ rs are.
    let lines = (text_in c.args.program.now).lines in
    let here = seen_line (text_in c.args.program.now).lines c.loop-index.index (omega (arith, c.loop-index-test.true, c.len-index-end.ensures.value)) in
    let next = next_seen lines rs c.loop-index.index here are in
    stops (setup_of c.args.machine.now c.args.tools.now) c.args.block_delete lines rs c.loop-index.index here.line.number here.line.bytes (state_of c.loop-index.interpreter)
    (state_of c.take_line.new.self) c.frame_of-before.result c.frame_of-after.result c.number.result c.command_count-count.result c.loop-index.changes.items c.add_change.new.changes.items
    c.loop-index.invariant.running next
    (taken_as (setup_of c.args.machine.now c.args.tools.now) c.args.block_delete here.line _ (state_of c.loop-index.interpreter) (state_of c.take_line.new.self) next.reading
    (c.in-Ok-take_line.ensures here.line here.at) next.reads)
    (sym c.is_ended.ensures ∙ c.if-is_ended.true) c.frame_of-before.ensures c.frame_of-after.ensures
    (number_is lines c.loop-index.index c.number.result here.line here.at c.number.ensures)
    c.command_count-count.ensures c.in-Ok-add_change.ensures
    ∙ c.loop-index.invariant.changed rs are

pub loop-index-preserved : goal.loop-index-preserved
loop-index-preserved g c = record {
  running = sym c.is_ended.ensures ∙ c.if-is_ended.false;
  no_end =
      let here = seen_line (text_in c.args.program.now).lines c.loop-index.index (omega (arith, c.loop-index-test.true, c.len-index-end.ensures.value)) in
      let taken = c.in-Ok-take_line.ensures here.line here.at in
      line_on (setup_of c.args.machine.now c.args.tools.now) c.args.block_delete here.line.number taken.reading (state_of c.loop-index.interpreter)
      (state_of c.take_line.new.self) c.loop-index.invariant.running c.loop-index.invariant.no_end taken.becomes (sym c.is_ended.ensures ∙ c.if-is_ended.false);
  holds =
      let here = seen_line (text_in c.args.program.now).lines c.loop-index.index (omega (arith, c.loop-index-test.true, c.len-index-end.ensures.value)) in
      let taken = c.in-Ok-take_line.ensures here.line here.at in
      went_on (file_of c.args.machine.now).start (setup_of c.args.machine.now c.args.tools.now) c.args.block_delete here.line.number taken.reading
      (state_of c.loop-index.interpreter) (state_of c.take_line.new.self) c.loop-index.invariant.holds taken.becomes;
  leads = λ rs are.
      let lines = (text_in c.args.program.now).lines in
      let here = seen_line (text_in c.args.program.now).lines c.loop-index.index (omega (arith, c.loop-index-test.true, c.len-index-end.ensures.value)) in
      let next = next_seen lines rs c.loop-index.index here are in
      c.loop-index.invariant.leads rs are
      ∙ lines_of.left_on (setup_of c.args.machine.now c.args.tools.now) _ c.args.block_delete lines rs c.loop-index.index _ _ _ _ c.loop-index.invariant.running next
      (taken_as (setup_of c.args.machine.now c.args.tools.now) c.args.block_delete here.line _ _ _ next.reading (c.in-Ok-take_line.ensures here.line here.at) next.reads) (sym c.is_ended.ensures ∙ c.if-is_ended.false);
  changed = λ rs are.
      let lines = (text_in c.args.program.now).lines in
      let here = seen_line (text_in c.args.program.now).lines c.loop-index.index (omega (arith, c.loop-index-test.true, c.len-index-end.ensures.value)) in
      let next = next_seen lines rs c.loop-index.index here are in
      goes_on (setup_of c.args.machine.now c.args.tools.now) c.args.block_delete lines rs c.loop-index.index here.line.number here.line.bytes (state_of c.loop-index.interpreter)
      (state_of c.take_line.new.self) c.frame_of-before.result c.frame_of-after.result c.number.result c.command_count-count.result c.loop-index.changes.items c.add_change.new.changes.items
      c.loop-index.invariant.running next
      (taken_as (setup_of c.args.machine.now c.args.tools.now) c.args.block_delete here.line _ (state_of c.loop-index.interpreter) (state_of c.take_line.new.self) next.reading
      (c.in-Ok-take_line.ensures here.line here.at) next.reads)
      (sym c.is_ended.ensures ∙ c.if-is_ended.false) c.frame_of-before.ensures c.frame_of-after.ensures
      (number_is lines c.loop-index.index c.number.result here.line here.at c.number.ensures)
      c.command_count-count.ensures c.in-Ok-add_change.ensures
      ∙ c.loop-index.invariant.changed rs are;
}

pub returns-in-Ok-finish-clause-commands : goal.returns-in-Ok-finish-clause-commands
returns-in-Ok-finish-clause-commands g c = λ rs are.
    let lines = (text_in c.args.program.now).lines in
    let past : length lines ≤ c.loop-index.index = omega (arith, c.loop-index-test.false, c.len-index-end.ensures.value) in
    let same : meaning (parsed_program (text_in c.args.program.now) rs) (setup_of c.args.machine.now c.args.tools.now) c.args.block_delete
    ≡ commands_of (past_text (text_in c.args.program.now) (state_of c.loop-index.interpreter)) =
    ap commands_of
    (c.loop-index.invariant.leads rs are
    ∙ lines_of.left_none (setup_of c.args.machine.now c.args.tools.now) _ c.args.block_delete lines rs c.loop-index.index _ past) in
    same ∙ c.in-Ok-finish.ensures

pub returns-in-Err-finish-clause-commands : goal.returns-in-Err-finish-clause-commands
returns-in-Err-finish-clause-commands g c = λ rs are.
    let lines = (text_in c.args.program.now).lines in
    let past : length lines ≤ c.loop-index.index = omega (arith, c.loop-index-test.false, c.len-index-end.ensures.value) in
    let same : meaning (parsed_program (text_in c.args.program.now) rs) (setup_of c.args.machine.now c.args.tools.now) c.args.block_delete
    ≡ commands_of (past_text (text_in c.args.program.now) (state_of c.loop-index.interpreter)) =
    ap commands_of
    (c.loop-index.invariant.leads rs are
    ∙ lines_of.left_none (setup_of c.args.machine.now c.args.tools.now) _ c.args.block_delete lines rs c.loop-index.index _ past) in
    let P : Result (List Command) ProgramFault → Type 0 = λ says. Fails c.in-Err-finish.fault says in
    subst P (sym same) c.in-Err-finish.ensures

pub returns-in-Ok-finish-clause-changes : goal.returns-in-Ok-finish-clause-changes
returns-in-Ok-finish-clause-changes g c = λ rs are.
    let lines = (text_in c.args.program.now).lines in
    let past : length lines ≤ c.loop-index.index = omega (arith, c.loop-index-test.false, c.len-index-end.ensures.value) in
    none_left _ c.loop-index.changes.items _ (left_none (setup_of c.args.machine.now c.args.tools.now) c.args.block_delete lines rs c.loop-index.index (state_of c.loop-index.interpreter) past)
    (c.loop-index.invariant.changed rs are)

pub returns-then-is_ended-clause-joined : goal.returns-then-is_ended-clause-joined
returns-then-is_ended-clause-joined g c =
    let here = seen_line (text_in c.args.program.now).lines c.loop-index.index (omega (arith, c.loop-index-test.true, c.len-index-end.ensures.value)) in
    let taken = c.in-Ok-take_line.ensures here.line here.at in
    let holds = went_on (file_of c.args.machine.now).start (setup_of c.args.machine.now c.args.tools.now) c.args.block_delete here.line.number taken.reading
    (state_of c.loop-index.interpreter) (state_of c.take_line.new.self) c.loop-index.invariant.holds taken.becomes in
    (handed_out (file_of c.args.machine.now).start (state_of c.take_line.new.self) _ holds c.into_commands.ensures).trail.leads.joined

pub returns-then-is_ended-clause-radii : goal.returns-then-is_ended-clause-radii
returns-then-is_ended-clause-radii g c =
    let here = seen_line (text_in c.args.program.now).lines c.loop-index.index (omega (arith, c.loop-index-test.true, c.len-index-end.ensures.value)) in
    let taken = c.in-Ok-take_line.ensures here.line here.at in
    let holds = went_on (file_of c.args.machine.now).start (setup_of c.args.machine.now c.args.tools.now) c.args.block_delete here.line.number taken.reading
    (state_of c.loop-index.interpreter) (state_of c.take_line.new.self) c.loop-index.invariant.holds taken.becomes in
    (handed_out (file_of c.args.machine.now).start (state_of c.take_line.new.self) _ holds c.into_commands.ensures).trail.leads.radii

pub returns-then-is_ended-clause-count : goal.returns-then-is_ended-clause-count
returns-then-is_ended-clause-count g c =
    let here = seen_line (text_in c.args.program.now).lines c.loop-index.index (omega (arith, c.loop-index-test.true, c.len-index-end.ensures.value)) in
    let taken = c.in-Ok-take_line.ensures here.line here.at in
    let holds = went_on (file_of c.args.machine.now).start (setup_of c.args.machine.now c.args.tools.now) c.args.block_delete here.line.number taken.reading
    (state_of c.loop-index.interpreter) (state_of c.take_line.new.self) c.loop-index.invariant.holds taken.becomes in
    (handed_out (file_of c.args.machine.now).start (state_of c.take_line.new.self) _ holds c.into_commands.ensures).trail.few

pub returns-then-is_ended-clause-ended : goal.returns-then-is_ended-clause-ended
returns-then-is_ended-clause-ended g c =
    let here = seen_line (text_in c.args.program.now).lines c.loop-index.index (omega (arith, c.loop-index-test.true, c.len-index-end.ensures.value)) in
    let taken = c.in-Ok-take_line.ensures here.line here.at in
    line_ended (setup_of c.args.machine.now c.args.tools.now) c.args.block_delete here.line.number taken.reading (state_of c.loop-index.interpreter)
    (state_of c.take_line.new.self) _ c.loop-index.invariant.running c.loop-index.invariant.no_end taken.becomes c.into_commands.ensures

pub returns-then-is_ended-clause-has_end : goal.returns-then-is_ended-clause-has_end
returns-then-is_ended-clause-has_end g c =
    let here = seen_line (text_in c.args.program.now).lines c.loop-index.index (omega (arith, c.loop-index-test.true, c.len-index-end.ensures.value)) in
    let taken = c.in-Ok-take_line.ensures here.line here.at in
    line_has_end (setup_of c.args.machine.now c.args.tools.now) c.args.block_delete here.line.number taken.reading (state_of c.loop-index.interpreter)
    (state_of c.take_line.new.self) _ c.loop-index.invariant.running c.loop-index.invariant.no_end taken.becomes (sym c.is_ended.ensures ∙ c.if-is_ended.true) c.into_commands.ensures

pub returns-in-Ok-finish-clause-joined : goal.returns-in-Ok-finish-clause-joined
returns-in-Ok-finish-clause-joined g c =
    finished_joined (file_of c.args.machine.now).start _ _ (state_of c.loop-index.interpreter) (λ v. v.items) (Ok c.in-Ok-finish.commands) c.loop-index.invariant.holds c.in-Ok-finish.ensures

pub returns-in-Ok-finish-clause-radii : goal.returns-in-Ok-finish-clause-radii
returns-in-Ok-finish-clause-radii g c =
    finished_radii (file_of c.args.machine.now).start _ _ (state_of c.loop-index.interpreter) (λ v. v.items) (Ok c.in-Ok-finish.commands) c.loop-index.invariant.holds c.in-Ok-finish.ensures

pub returns-in-Ok-finish-clause-count : goal.returns-in-Ok-finish-clause-count
returns-in-Ok-finish-clause-count g c =
    finished_few (file_of c.args.machine.now).start _ _ (state_of c.loop-index.interpreter) (λ v. v.items) (Ok c.in-Ok-finish.commands) c.loop-index.invariant.holds c.in-Ok-finish.ensures

pub returns-in-Ok-finish-clause-ended : goal.returns-in-Ok-finish-clause-ended
returns-in-Ok-finish-clause-ended g c =
    finished_ended _ _ (state_of c.loop-index.interpreter) (λ v. v.items) (Ok c.in-Ok-finish.commands) c.loop-index.invariant.no_end c.in-Ok-finish.ensures

pub returns-in-Ok-finish-clause-has_end : goal.returns-in-Ok-finish-clause-has_end
returns-in-Ok-finish-clause-has_end g c =
    finished_has_end _ _ (state_of c.loop-index.interpreter) (λ v. v.items) (Ok c.in-Ok-finish.commands) c.loop-index.invariant.no_end c.in-Ok-finish.ensures
