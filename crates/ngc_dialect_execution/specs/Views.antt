-- What the interpreters know.
use Rattle.std.specs.Prelude.{List, Option, Vec, map, option_map}
use Rattle.ngc_canonical.specs.Interpreter.{state_of}
use Rattle.ngc_dialect_parameters.specs.Stored.{stored_in}
use Rattle.ngc_dialect_parameters.specs.declared.values.LineValues.{LineValues}
use Rattle.ngc_line_reader.specs.Words.{pairs_of}
use Rattle.ngc_dialect_execution.specs.declared.run.KeptLine.{KeptLine}
use Rattle.ngc_dialect_execution.specs.declared.run.PlainRun.{PlainRun}
use Rattle.ngc_dialect_execution.specs.Executed.{PlainLine, Run}
use Rattle.ngc_dialect_execution.specs.declared.words.WordInterpreter.{WordInterpreter}
use Rattle.ngc_dialect_execution.specs.declared.doing.Execution.{Execution}
use Rattle.ngc_dialect_execution.specs.declared.lines.DialectInterpreter.{DialectInterpreter}
use Rattle.ngc_dialect_execution.specs.declared.framing.Executed.{Executed}
use Rattle.ngc_dialect_execution.specs.declared.program.Traced.{Traced}
use Rattle.ngc_dialect_saved.specs.Stack.{stack_of}
use Rattle.ngc_dialect_execution.specs.Ending.{Framed}
use Rattle.ngc_dialect_execution.specs.Taken.{Between, Progress, Said}

-- what a line's values say
abbrev pub said_in : LineValues → Said
said_in v = record { statements = v.statements.items; arguments = v.arguments.items }

abbrev pub kept_line : {A : Type 0} → KeptLine A → PlainLine
kept_line l = record { line = l.line; words = pairs_of l.words.items }

abbrev pub kept_in : {A : Type 0} → Option (Vec (KeptLine A) A) → Option (List PlainLine)
kept_in kept = option_map (λ v. map kept_line v.items) kept

abbrev pub run_in : {A : Type 0} → PlainRun A → Run
run_in r = record { state = state_of r.interpreter; kept = kept_in r.kept }

abbrev pub between_of : {A : Type 0} → WordInterpreter A → Between
between_of i = record {
  dialect = i.before.dialect;
  front = i.before.front;
  state = state_of i.run.interpreter;
  path = i.path;
  waiting = i.waiting.items;
  notes = i.notes;
  kept = kept_in i.run.kept;
  polar = i.polar;
  saved = stack_of i.saved;
  switches = i.switches;
}

abbrev pub progress_of : {A : Type 0} → Execution A → Progress
progress_of e = record { values = stored_in e.parameters; between = between_of e.words }

-- what was executed, and what was collected
abbrev pub framed_in : {A : Type 0} → Executed A → Framed
framed_in e = record {
  commands = e.commands.items;
  changes = e.changes.items;
  notes = e.notes;
  lines = kept_in e.lines;
}

abbrev pub progress_in : {A : Type 0} → DialectInterpreter A → Progress
progress_in i = progress_of i.execution

abbrev pub traced : {A : Type 0} → Traced A → Framed
traced t = record {
  commands = t.framed.commands.items;
  changes = t.framed.frames.changes.items;
  notes = t.notes;
  lines = kept_in t.lines;
}
