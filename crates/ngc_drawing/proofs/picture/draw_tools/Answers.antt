use Rattle.std.proofs.Common.{◌+◌, drop, rules}
use Rattle.ngc_drawing.specs.Pictures.{tool_row, tool_rows}
use Rattle.ngc_picture_shapes.proofs.ShapeProgress.{went, stopped}
use Rattle.ngc_drawing.proofs.BoxSteps.{next_tool}
use Rattle.ngc_drawing.proofs.picture.draw_tools.Goals as goal

pub returns-in-Err-clause-drawn : goal.returns-in-Err-clause-drawn
returns-in-Err-clause-drawn g c =
    let ts = c.args.tools.now in
    let step = next_tool ts c.loop-rank.rank c.index-tools-rank.result c.loop-rank-test.true c.index-tools-rank.is in
    stopped c.args.unit.now.micrometres (g.W.Sink.written c.args.sink.now) (g.W.Sink.written c.loop-rank.sink)
    (g.W.Sink.written c.draw_tool.new.sink) c.args.chunk.now c.loop-rank.chunk
    (tool_row c.loop-rank.rank c.index-tools-rank.result) (tool_rows (c.loop-rank.rank + 1) (drop (c.loop-rank.rank + 1) ts))
    (tool_rows c.loop-rank.rank (drop c.loop-rank.rank ts)) (tool_rows 0 ts)
    step c.loop-rank.invariant.ahead c.in-Err.ensures.drawn

pub loop-rank-preserved : goal.loop-rank-preserved
loop-rank-preserved g c =
    let ts = c.args.tools.now in
    let step = next_tool ts c.loop-rank.rank c.index-tools-rank.result c.loop-rank-test.true c.index-tools-rank.is in
    record {
      ahead =
          went c.args.unit.now.micrometres (g.W.Sink.written c.args.sink.now) (g.W.Sink.written c.loop-rank.sink)
          (g.W.Sink.written c.draw_tool.new.sink) c.args.chunk.now c.loop-rank.chunk c.draw_tool.new.chunk
          (tool_row c.loop-rank.rank c.index-tools-rank.result) (tool_rows (c.loop-rank.rank + 1) (drop (c.loop-rank.rank + 1) ts))
          (tool_rows c.loop-rank.rank (drop c.loop-rank.rank ts)) (tool_rows 0 ts)
          step c.loop-rank.invariant.ahead c.in-Ok.ensures.drawn;
      failures = search rules;
    }
