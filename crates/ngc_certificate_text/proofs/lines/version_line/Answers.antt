use Rattle.ngc_certificate_text.proofs.EntryWords.{version_one, version_two, version_none}
use Rattle.ngc_certificate_text.proofs.lines.version_line.Goals as goal

pub returns-then-is_text : goal.returns-then-is_text
returns-then-is_text c = version_one c.args.line.now c.is_text.result c.is_text.ensures c.if-is_text.true

pub returns-then-is_text-2 : goal.returns-then-is_text-2
returns-then-is_text-2 c =
    version_two c.args.line.now c.is_text.result c.is_text-else-is_text.result c.is_text.ensures c.if-is_text.false c.is_text-else-is_text.ensures
    c.if-is_text-2.true

pub returns-else-is_text-2 : goal.returns-else-is_text-2
returns-else-is_text-2 c =
    version_none c.args.line.now c.is_text.result c.is_text-else-is_text.result c.is_text.ensures c.if-is_text.false c.is_text-else-is_text.ensures
    c.if-is_text-2.false
