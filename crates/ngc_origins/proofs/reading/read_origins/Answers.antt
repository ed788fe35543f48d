use Rattle.ngc_origins.proofs.ReadOrigins.{first_mistake}
use Rattle.ngc_origins.proofs.reading.read_origins.Goals as goal

pub returns-in-Err : goal.returns-in-Err
returns-in-Err c =
    first_mistake c.args.list.now c.loop-text.text-index _ c.loop-text.origins c.as_bytes.result.now c.in-Err.mistake c.loop-text-test.true c.loop-text.invariant
    c.as_bytes.ensures.value c.in-Err.ensures
