use Rattle.ngc_sentences.proofs.Said.{whole}
use Rattle.ngc_refused_files.proofs.Stopped.{stops_ok, stops_fault}
use Rattle.ngc_refused_files.proofs.stop.write_stop.Goals as goal

pub returns-clause-ok : goal.returns-clause-ok
returns-clause-ok g c =
    let written = whole c.new-page.ensures c.say_stop.ensures c.finish.ensures in
    stops_ok c.args.name.now c.args.bytes.now c.as_bytes.result.now c.place_in-at.result _ c.place_in-at.ensures c.place_after.ensures _ _ _ written.ok

pub returns-clause-fault : goal.returns-clause-fault
returns-clause-fault g c =
    let written = whole c.new-page.ensures c.say_stop.ensures c.finish.ensures in
    stops_fault c.args.name.now c.args.bytes.now c.as_bytes.result.now c.place_in-at.result _ c.place_in-at.ensures c.place_after.ensures _ _ _ written.fault
