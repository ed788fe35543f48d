-- The notes so far, with those of the remaining statements, are those of all.
use Rattle.std.proofs.Common.{◌≡◌, drop}
use Rattle.ngc_dialect_notes.specs.Noted.{statements_noted}
use Rattle.ngc_dialect_notes.proofs.notes.Notes.add_statements.Given as goal

abbrev pub invariant-loop-statement : goal.invariant-loop-statement
invariant-loop-statement l =
    statements_noted l.line (drop l.statement-index l.statements) l.self ≡ statements_noted l.line l.statements l.initial.self
