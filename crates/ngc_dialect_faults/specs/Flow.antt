-- Why a subprogram, a loop or a jump isn't executed, in words. Our own.
use Rattle.std.specs.Prelude.{ℕ, List, codes}
use Rattle.ngc_dialect_flow.specs.declared.fault.Cause.{Cause}
use Rattle.ngc_dialect_flow.specs.declared.fault.Cause.TheVariants as flows

abbrev pub flow_words : Cause → List ℕ
flow_words flows.LabelMissing = codes "no subprogram or line has this label"
flow_words flows.LabelTwice = codes "the label is there twice"
flow_words flows.EndMissing = codes "the end of the block is missing"
flow_words flows.NotOpen = codes "no loop is open that this belongs to"
flow_words flows.NotCalled = codes "no call is open that this belongs to"
flow_words flows.TooDeep = codes "subprograms nested over 10 deep"
flow_words flows.TooManyLoops = codes "loops nested over 32 deep"
flow_words flows.TooManyLines = codes "over 2,000,000 lines were executed"
flow_words flows.WordMissing = codes "P is missing"
flow_words flows.NotWhole = codes "P or L isn't a whole number from 0 up"
flow_words flows.WordTwice = codes "P or L is there twice"
