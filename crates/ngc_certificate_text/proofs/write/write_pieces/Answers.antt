use Rattle.std.proofs.Common.{rules, ◌<◌, length}
use Rattle.ngc_certificate_text.specs.Certificate.{entry_at}
use Rattle.ngc_certificate_text.specs.Spelling.{piece_line}
use Rattle.ngc_certificate_text.proofs.CollectedTexts.{one_more, stopped_at}
use Rattle.ngc_certificate_text.proofs.WrittenCertificate.{piece_found}
use Rattle.ngc_certificate_text.proofs.write.write_pieces.Goals as goal

pub returns-in-Err-clause-text : goal.returns-in-Err-clause-text
returns-in-Err-clause-text g c =
    let entries = g.M.MotionList.entries c.args.motions.now in
    let pieces = (entry_at entries c.args.i).pieces in
    let inside : c.loop-k.k < length pieces = rw (← c.piece_count-k-end.ensures.value) c.loop-k-test.true in
    stopped_at piece_line pieces c.loop-k.k _ _ _ _ _ _ inside (piece_found entries c.args.i c.loop-k.k _ inside c.piece.ensures) c.loop-k.invariant.front
    c.in-Err.ensures.text

pub loop-k-preserved : goal.loop-k-preserved
loop-k-preserved g c =
    let entries = g.M.MotionList.entries c.args.motions.now in
    let pieces = (entry_at entries c.args.i).pieces in
    let inside : c.loop-k.k < length pieces = rw (← c.piece_count-k-end.ensures.value) c.loop-k-test.true in
    record {
      front = one_more piece_line pieces c.loop-k.k _ _ _ _ _ _ _ inside (piece_found entries c.args.i c.loop-k.k _ inside c.piece.ensures)
          c.loop-k.invariant.front c.in-Ok.ensures.text;
      failures = search rules;
    }
