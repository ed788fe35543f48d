use Rattle.std.proofs.Common.{subst, Result}
use Rattle.ngc_line_reader.specs.ProgramView.{text_in}
use Rattle.ngc_line_reader.specs.Words.{pairs_of}
use Rattle.ngc_canonical.specs.declared.fault.Fault.{Fault}
use Rattle.ngc_canonical.specs.Interpreter.{setup_of, state_of, Becomes}
use Rattle.ngc_canonical.specs.State.{State}
use Rattle.ngc_canonical.proofs.Lines.{bytes_are, seen, words_do}
use Rattle.ngc_canonical.proofs.state.Interpreter.execute_line.Goals as goal

pub returns-in-Some : goal.returns-in-Some
returns-in-Some g c = λ line at.
    let h = c.in-Some.ensures line.bytes (bytes_are (text_in c.args.program.now).lines c.args.index line at) in
    let same = words_do (setup_of c.args.machine.now c.args.tools.now) h.reading.items (pairs_of c.in-Some.words.now) (state_of c.args.self.now) h.limit h.says in
    record {
      reading = h.reading;
      reads = h.reads;
      becomes = subst (λ (x : Result State Fault). Becomes c.execute_words.result (state_of c.execute_words.new.self) x) same c.execute_words.ensures;
    }

pub returns-in-None : goal.returns-in-None
returns-in-None g c = λ line at.
    let h = seen line.bytes (c.load.ensures line.bytes (bytes_are (text_in c.args.program.now).lines c.args.index line at)) c.view.ensures.deleted c.view.ensures.parts in
    record {
      reading = h.reading;
      reads = h.reads;
      becomes = c.execute.ensures line.bytes h.reading h.shows.says h.limit;
    }
