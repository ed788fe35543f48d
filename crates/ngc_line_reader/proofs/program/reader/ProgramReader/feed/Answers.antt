use Rattle.std.proofs.Common.{rules}
use Rattle.ngc_line_reader.proofs.Pieces.{more_answer, more_firm, more_text, end_answer, end_firm, end_text, fault_answer, fault_text}
use Rattle.ngc_line_reader.proofs.program.reader.ProgramReader.feed.Goals as goal

pub returns-in-Ok-More-clause-answer : goal.returns-in-Ok-More-clause-answer
returns-in-Ok-More-clause-answer g c =
    more_answer c.args.self.now.state c.args.self.now.loader c.feed.new.self c.args.piece.now c.feed.result c.in-Ok-More.field-0 c.in-Going.is
    c.feed.ensures.step c.in-Ok-More.is c.in-Ok-More.field-0-is c.in-Ok-More.ensures.loading

pub returns-in-Ok-More-clause-firm : goal.returns-in-Ok-More-clause-firm
returns-in-Ok-More-clause-firm g c =
    more_firm c.args.self.now.state c.args.self.now.loader c.feed.new.self c.args.piece.now c.feed.result c.in-Ok-More.field-0 c.in-Going.is c.feed.ensures.step
    c.in-Ok-More.is c.in-Ok-More.field-0-is

pub returns-in-Ok-More-clause-text : goal.returns-in-Ok-More-clause-text
returns-in-Ok-More-clause-text g c =
    more_text c.args.self.now.state c.args.self.now.loader c.feed.new.self c.args.piece.now c.feed.result c.in-Ok-More.field-0 c.in-Going.is c.feed.ensures.step
    c.in-Ok-More.is c.in-Ok-More.field-0-is

pub returns-in-Ok-End-clause-answer : goal.returns-in-Ok-End-clause-answer
returns-in-Ok-End-clause-answer g c =
    end_answer c.args.self.now.state c.args.self.now.loader c.feed.new.self c.args.piece.now c.feed.result c.in-Ok-End.field-0 c.in-Going.is c.feed.ensures.step
    c.in-Ok-End.is c.in-Ok-End.field-0-is

pub returns-in-Ok-End-clause-firm : goal.returns-in-Ok-End-clause-firm
returns-in-Ok-End-clause-firm g c =
    end_firm c.args.self.now.state c.args.self.now.loader c.feed.new.self c.args.piece.now c.feed.result c.in-Ok-End.field-0 c.in-Going.is c.feed.ensures.step
    c.in-Ok-End.is c.in-Ok-End.field-0-is

pub returns-in-Ok-End-clause-text : goal.returns-in-Ok-End-clause-text
returns-in-Ok-End-clause-text g c =
    end_text c.args.self.now.state c.args.self.now.loader c.feed.new.self c.args.piece.now c.feed.result c.in-Ok-End.field-0 c.in-Going.is c.feed.ensures.step
    c.in-Ok-End.is c.in-Ok-End.field-0-is

pub returns-in-Err-clause-answer : goal.returns-in-Err-clause-answer
returns-in-Err-clause-answer g c =
    fault_answer c.args.self.now.state c.args.self.now.loader c.feed.new.self c.args.piece.now c.feed.result c.in-Err.fault c.in-Going.is c.feed.ensures.step
    c.in-Err.is c.in-Err.ensures.quiet

pub returns-in-Err-clause-text : goal.returns-in-Err-clause-text
returns-in-Err-clause-text g c =
    fault_text c.args.self.now.state c.args.self.now.loader c.feed.new.self c.args.piece.now c.feed.result c.in-Err.fault c.in-Going.is
    c.feed.ensures.step c.in-Err.is

pub returns-in-Err-clause-refusal : goal.returns-in-Err-clause-refusal
returns-in-Err-clause-refusal g c = search rules
