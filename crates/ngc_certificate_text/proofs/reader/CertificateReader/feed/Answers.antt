use Rattle.ngc_certificate_text.specs.Resumed.{resumed}
use Rattle.ngc_certificate_text.proofs.Pieces.{lines_quiet, more_answer, more_firm, more_text, fault_answer, fault_text}
use Rattle.ngc_certificate_text.proofs.reader.CertificateReader.feed.Goals as goal

pub returns-in-Ok-clause-answer : goal.returns-in-Ok-clause-answer
returns-in-Ok-clause-answer g c =
    more_answer c.args.self.now.refusal (resumed c.args.self.now.text)
    (resumed c.feed.new.self) c.args.piece.now c.feed.result c.in-None.is c.feed.ensures.step c.in-Ok.is
    (lines_quiet c.feed.new.self.lines _ c.in-Ok.ensures.reading.reading)

pub returns-in-Ok-clause-firm : goal.returns-in-Ok-clause-firm
returns-in-Ok-clause-firm g c = more_firm c.args.self.now.refusal (resumed c.args.self.now.text)
    (resumed c.feed.new.self) c.args.piece.now c.feed.result c.in-None.is c.feed.ensures.step c.in-Ok.is

pub returns-in-Ok-clause-text : goal.returns-in-Ok-clause-text
returns-in-Ok-clause-text g c = more_text c.args.self.now.refusal (resumed c.args.self.now.text)
    (resumed c.feed.new.self) c.args.piece.now c.feed.result c.in-None.is c.feed.ensures.step c.in-Ok.is

pub returns-in-Err-clause-answer : goal.returns-in-Err-clause-answer
returns-in-Err-clause-answer g c =
    fault_answer c.args.self.now.refusal (resumed c.args.self.now.text)
    (resumed c.feed.new.self) c.args.piece.now c.feed.result c.in-None.is c.feed.ensures.step c.in-Err.fault c.in-Err.is c.feed.ensures.device

pub returns-in-Err-clause-text : goal.returns-in-Err-clause-text
returns-in-Err-clause-text g c = fault_text c.args.self.now.refusal (resumed c.args.self.now.text)
    (resumed c.feed.new.self) c.args.piece.now c.feed.result c.in-None.is c.feed.ensures.step c.in-Err.fault c.in-Err.is
