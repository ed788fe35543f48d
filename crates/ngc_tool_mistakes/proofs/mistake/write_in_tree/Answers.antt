use Rattle.std.proofs.Common.{sym, ◌∙◌}
use Rattle.ngc_written_tools.proofs.Blank.{unwritten}
use Rattle.ngc_tool_mistakes.proofs.mistake.write_in_tree.Goals as goal

pub returns-then-is_written-clause-blank : goal.returns-then-is_written-clause-blank
returns-then-is_written-clause-blank g c = λ blank. unwritten _ _ c.requires (sym c.is_written.ensures ∙ c.if-is_written.true) blank
