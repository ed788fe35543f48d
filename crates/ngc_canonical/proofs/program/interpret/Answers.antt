use Rattle.std.proofs.Common.{◌≡◌, ◌≤◌, ap, sym, subst, ◌∙◌, Ok, Result, List, length, arith}
use Rattle.ngc_line_reader.specs.ProgramView.{text_in}
use Rattle.ngc_machine_files.specs.Machine.{file_of}
use Rattle.ngc_commands.specs.declared.command.Command.{Command}
use Rattle.ngc_canonical.specs.declared.fault.ProgramFault.{ProgramFault}
use Rattle.ngc_canonical.specs.Meaning.{meaning, parsed_program, past_text, commands_of, MeaningIs}
use Rattle.ngc_canonical.specs.Interpreter.{setup_of, state_of}
use Rattle.ngc_canonical.proofs.EndingLines.{line_ended, line_has_end, line_on, finished_ended, finished_has_end}
use Rattle.ngc_canonical.proofs.JoinedLines.{went_on, handed_out, finished_joined, finished_radii, finished_few}
use Rattle.ngc_canonical.proofs.BlockDelete.{seen_line, next_seen}
use Rattle.ngc_canonical.proofs.Lines.{taken_as, left_refused, left_ended, left_on, left_none, refused_fails}
use Rattle.ngc_canonical.proofs.program.interpret.Goals as goal

pub returns-in-Err-clause-commands : goal.returns-in-Err-clause-commands
returns-in-Err-clause-commands g c = λ rs are.
    let lines = (text_in c.args.program.now).lines in
    let here = seen_line lines c.loop-index.index (omega (arith, c.loop-index-test.true, c.len-index-end.ensures.value)) in
    let next = next_seen lines rs c.loop-index.index here are in
    refused_fails c.in-Err.fault _ _ _
    (λ e refused. c.loop-index.invariant.leads rs are ∙ left_refused
    (setup_of c.args.machine.now c.args.tools.now) _ c.args.block_delete lines rs c.loop-index.index _ _ _ e c.loop-index.invariant.running next refused)
    (taken_as (setup_of c.args.machine.now c.args.tools.now) c.args.block_delete here.line _ _ _ next.reading (c.in-Err.ensures here.line here.at) next.reads)

pub returns-then-interpreter-clause-commands : goal.returns-then-interpreter-clause-commands
returns-then-interpreter-clause-commands g c = λ rs are.
    let lines = (text_in c.args.program.now).lines in
    let here = seen_line lines c.loop-index.index (omega (arith, c.loop-index-test.true, c.len-index-end.ensures.value)) in
    let next = next_seen lines rs c.loop-index.index here are in
    ap commands_of
    (c.loop-index.invariant.leads rs are
    ∙ left_ended (setup_of c.args.machine.now c.args.tools.now) _ c.args.block_delete lines rs c.loop-index.index _ _ _ _ c.loop-index.invariant.running next
    (taken_as (setup_of c.args.machine.now c.args.tools.now) c.args.block_delete here.line _ _ _ next.reading (c.in-Ok-take_line.ensures here.line here.at) next.reads) c.if-interpreter.true)
    ∙ ap (λ (l : List Command). Ok l) (sym c.into_commands.ensures)

pub loop-index-preserved : goal.loop-index-preserved
loop-index-preserved g c = record {
  running = c.if-interpreter.false;
  no_end =
      let here = seen_line (text_in c.args.program.now).lines c.loop-index.index (omega (arith, c.loop-index-test.true, c.len-index-end.ensures.value)) in
      let taken = c.in-Ok-take_line.ensures here.line here.at in
      line_on (setup_of c.args.machine.now c.args.tools.now) c.args.block_delete here.line.number taken.reading (state_of c.loop-index.interpreter)
      (state_of c.take_line.new.self)
      c.loop-index.invariant.running c.loop-index.invariant.no_end taken.becomes
      c.if-interpreter.false;
  holds =
      let here = seen_line (text_in c.args.program.now).lines c.loop-index.index (omega (arith, c.loop-index-test.true, c.len-index-end.ensures.value)) in
      let taken = c.in-Ok-take_line.ensures here.line here.at in
      went_on (file_of c.args.machine.now).start (setup_of c.args.machine.now c.args.tools.now) c.args.block_delete here.line.number taken.reading
      (state_of c.loop-index.interpreter) (state_of c.take_line.new.self)
      c.loop-index.invariant.holds taken.becomes;
  leads = λ rs are.
      let lines = (text_in c.args.program.now).lines in
      let here = seen_line lines c.loop-index.index (omega (arith, c.loop-index-test.true, c.len-index-end.ensures.value)) in
      let next = next_seen lines rs c.loop-index.index here are in
      c.loop-index.invariant.leads rs are
      ∙ left_on (setup_of c.args.machine.now c.args.tools.now) _ c.args.block_delete lines rs c.loop-index.index _ _ _ _ c.loop-index.invariant.running next
      (taken_as (setup_of c.args.machine.now c.args.tools.now) c.args.block_delete here.line _ _ _ next.reading (c.in-Ok-take_line.ensures here.line here.at) next.reads) c.if-interpreter.false;
}

pub returns-clause-commands : goal.returns-clause-commands
returns-clause-commands g c = λ rs are.
    let lines = (text_in c.args.program.now).lines in
    let past : length lines ≤ c.loop-index.index = omega (arith, c.loop-index-test.false, c.len-index-end.ensures.value) in
    let same : meaning (parsed_program (text_in c.args.program.now) rs) (setup_of c.args.machine.now c.args.tools.now) c.args.block_delete
    ≡ commands_of (past_text (text_in c.args.program.now) (state_of c.loop-index.interpreter)) =
    ap commands_of
    (c.loop-index.invariant.leads rs are
    ∙ left_none (setup_of c.args.machine.now c.args.tools.now) _ c.args.block_delete lines rs c.loop-index.index _ past) in
    let P : Result (List Command) ProgramFault → Type 0 = λ says. MeaningIs (λ v. v.items) c.finish.result says in
    subst P (sym same) c.finish.ensures

pub returns-then-interpreter-clause-joined : goal.returns-then-interpreter-clause-joined
returns-then-interpreter-clause-joined g c =
    let here = seen_line (text_in c.args.program.now).lines c.loop-index.index (omega (arith, c.loop-index-test.true, c.len-index-end.ensures.value)) in
    let taken = c.in-Ok-take_line.ensures here.line here.at in
    let holds = went_on (file_of c.args.machine.now).start (setup_of c.args.machine.now c.args.tools.now) c.args.block_delete here.line.number taken.reading
    (state_of c.loop-index.interpreter) (state_of c.take_line.new.self)
    c.loop-index.invariant.holds taken.becomes in
    (handed_out (file_of c.args.machine.now).start (state_of c.take_line.new.self) _ holds c.into_commands.ensures).trail.leads.joined

pub returns-then-interpreter-clause-radii : goal.returns-then-interpreter-clause-radii
returns-then-interpreter-clause-radii g c =
    let here = seen_line (text_in c.args.program.now).lines c.loop-index.index (omega (arith, c.loop-index-test.true, c.len-index-end.ensures.value)) in
    let taken = c.in-Ok-take_line.ensures here.line here.at in
    let holds = went_on (file_of c.args.machine.now).start (setup_of c.args.machine.now c.args.tools.now) c.args.block_delete here.line.number taken.reading
    (state_of c.loop-index.interpreter) (state_of c.take_line.new.self)
    c.loop-index.invariant.holds taken.becomes in
    (handed_out (file_of c.args.machine.now).start (state_of c.take_line.new.self) _ holds c.into_commands.ensures).trail.leads.radii

pub returns-then-interpreter-clause-count : goal.returns-then-interpreter-clause-count
returns-then-interpreter-clause-count g c =
    let here = seen_line (text_in c.args.program.now).lines c.loop-index.index (omega (arith, c.loop-index-test.true, c.len-index-end.ensures.value)) in
    let taken = c.in-Ok-take_line.ensures here.line here.at in
    let holds = went_on (file_of c.args.machine.now).start (setup_of c.args.machine.now c.args.tools.now) c.args.block_delete here.line.number taken.reading
    (state_of c.loop-index.interpreter) (state_of c.take_line.new.self)
    c.loop-index.invariant.holds taken.becomes in
    (handed_out (file_of c.args.machine.now).start (state_of c.take_line.new.self) _ holds c.into_commands.ensures).trail.few

pub returns-clause-joined : goal.returns-clause-joined
returns-clause-joined g c =
    finished_joined (file_of c.args.machine.now).start _ _ (state_of c.loop-index.interpreter)
    (λ v. v.items) c.finish.result c.loop-index.invariant.holds c.finish.ensures

pub returns-clause-radii : goal.returns-clause-radii
returns-clause-radii g c =
    finished_radii (file_of c.args.machine.now).start _ _ (state_of c.loop-index.interpreter)
    (λ v. v.items) c.finish.result c.loop-index.invariant.holds c.finish.ensures

pub returns-clause-count : goal.returns-clause-count
returns-clause-count g c =
    finished_few (file_of c.args.machine.now).start _ _ (state_of c.loop-index.interpreter)
    (λ v. v.items) c.finish.result c.loop-index.invariant.holds c.finish.ensures

pub returns-then-interpreter-clause-ended : goal.returns-then-interpreter-clause-ended
returns-then-interpreter-clause-ended g c =
    let here = seen_line (text_in c.args.program.now).lines c.loop-index.index (omega (arith, c.loop-index-test.true, c.len-index-end.ensures.value)) in
    let taken = c.in-Ok-take_line.ensures here.line here.at in
    line_ended (setup_of c.args.machine.now c.args.tools.now) c.args.block_delete here.line.number taken.reading (state_of c.loop-index.interpreter)
    (state_of c.take_line.new.self) _
    c.loop-index.invariant.running c.loop-index.invariant.no_end taken.becomes
    c.into_commands.ensures

pub returns-clause-ended : goal.returns-clause-ended
returns-clause-ended g c =
    finished_ended _ _ (state_of c.loop-index.interpreter)
    (λ v. v.items) c.finish.result c.loop-index.invariant.no_end c.finish.ensures

pub returns-then-interpreter-clause-has_end : goal.returns-then-interpreter-clause-has_end
returns-then-interpreter-clause-has_end g c =
    let here = seen_line (text_in c.args.program.now).lines c.loop-index.index (omega (arith, c.loop-index-test.true, c.len-index-end.ensures.value)) in
    let taken = c.in-Ok-take_line.ensures here.line here.at in
    line_has_end (setup_of c.args.machine.now c.args.tools.now) c.args.block_delete here.line.number taken.reading (state_of c.loop-index.interpreter)
    (state_of c.take_line.new.self) _
    c.loop-index.invariant.running c.loop-index.invariant.no_end taken.becomes
    c.if-interpreter.true c.into_commands.ensures

pub returns-clause-has_end : goal.returns-clause-has_end
returns-clause-has_end g c =
    finished_has_end _ _ (state_of c.loop-index.interpreter)
    (λ v. v.items) c.finish.result c.loop-index.invariant.no_end c.finish.ensures
