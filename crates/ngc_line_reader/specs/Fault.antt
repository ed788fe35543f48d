-- The numbers of the faults of a line (our own).
use Rattle.std.specs.Prelude.{ℕ}
use Rattle.ngc_line_reader.specs.declared.fault.FaultKind.{FaultKind}
use Rattle.ngc_line_reader.specs.declared.fault.FaultKind.TheVariants.{TooLarge, LineTooLong}
use Rattle.ngc_line_reader.specs.declared.fault.FaultKind.TheVariants.{UnknownCharacter, BadNumber}
use Rattle.ngc_line_reader.specs.declared.fault.FaultKind.TheVariants.{BadWord, BadLineNumber}
use Rattle.ngc_line_reader.specs.declared.fault.FaultKind.TheVariants.{CommentNotClosed}
use Rattle.ngc_line_reader.specs.declared.fault.FaultKind.TheVariants.{CommentNested, Bracket}
use Rattle.ngc_line_reader.specs.declared.fault.FaultKind.TheVariants.{TooManyWords}

abbrev pub number_of : FaultKind → ℕ
number_of TooLarge = 101
number_of LineTooLong = 111
number_of UnknownCharacter = 112
number_of BadNumber = 113
number_of BadWord = 114
number_of BadLineNumber = 115
number_of CommentNotClosed = 116
number_of CommentNested = 117
number_of Bracket = 118
number_of TooManyWords = 119
