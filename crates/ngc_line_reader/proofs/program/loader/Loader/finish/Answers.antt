use Rattle.ngc_line_reader.specs.ProgramView.{text_in}
use Rattle.ngc_line_reader.proofs.TakenPieces.{some_items, last_more, last_end, last_fault}
use Rattle.ngc_line_reader.proofs.program.loader.Loader.finish.Goals as goal

pub returns-in-Ok-More-clause-text : goal.returns-in-Ok-More-clause-text
returns-in-Ok-More-clause-text g c =
    let some = some_items c.is_empty.result c.args.self.cut.items c.is_empty.ensures c.if-is_empty.false in
    last_more c.args.self c.end_cut.new.self c.end_cut.result c.finish-in-Ok-More.result c.in-Ok-More.field-0 c.requires.feedless some c.end_cut.ensures.step
    c.in-Ok-More.is c.in-Ok-More.field-0-is c.finish-in-Ok-More.ensures.text

pub returns-in-Ok-End-clause-text : goal.returns-in-Ok-End-clause-text
returns-in-Ok-End-clause-text g c =
    let some = some_items c.is_empty.result c.args.self.cut.items c.is_empty.ensures c.if-is_empty.false in
    last_end c.args.self c.end_cut.new.self c.end_cut.result (text_in c.into_program.result) c.in-Ok-End.field-0 c.requires.feedless some c.end_cut.ensures.step
    c.in-Ok-End.is c.in-Ok-End.field-0-is c.into_program.ensures.text

pub returns-in-Err-clause-text : goal.returns-in-Err-clause-text
returns-in-Err-clause-text g c =
    let some = some_items c.is_empty.result c.args.self.cut.items c.is_empty.ensures c.if-is_empty.false in
    last_fault c.args.self c.end_cut.new.self c.end_cut.result c.in-Err.fault c.requires.feedless some c.end_cut.ensures.step c.in-Err.is
