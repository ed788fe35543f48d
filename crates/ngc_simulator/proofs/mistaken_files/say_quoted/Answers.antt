use Rattle.std.proofs.Common.{get_or, sym}
use Rattle.std.proofs.lemmas.Grind.{get_or_default_zero}
use Rattle.ngc_sentences.proofs.Said.{all_said, no_text, one_more}
use Rattle.ngc_simulator.specs.Mistaken.{quoted_byte}
use Rattle.ngc_simulator.proofs.mistaken_files.say_quoted.Goals as goal

pub loop-byte-init : goal.loop-byte-init
loop-byte-init g c = no_text _ _ _

pub loop-byte-preserved : goal.loop-byte-preserved
loop-byte-preserved g c =
    let text = c.args.text.now in
    let i = c.loop-byte.byte-index in
    one_more quoted_byte text i (get_or text i 0) c.loop-byte-test.true (sym (get_or_default_zero text i _ c.loop-byte-test.true)) c.loop-byte.invariant
    c.say_byte.ensures

pub returns : goal.returns
returns g c = all_said quoted_byte c.args.text.now c.loop-byte.byte-index c.loop-byte-test.false c.loop-byte.invariant
