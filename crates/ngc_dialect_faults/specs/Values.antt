-- Why a line can't be read or has no value, in words. Our own.
use Rattle.std.specs.Prelude.{ℕ, List, codes}
use Rattle.ngc_dialect_numbers.specs.declared.fault.NoValue.{NoValue}
use Rattle.ngc_dialect_numbers.specs.declared.fault.NoValue.TheVariants as values
use Rattle.ngc_dialect_parameters.specs.declared.fault.Cause.{Cause as ValueCause}
use Rattle.ngc_dialect_parameters.specs.declared.fault.Cause.TheVariants as parameters
use Rattle.ngc_dialect_reader.specs.declared.fault.Cause.{Cause as ReadingCause}
use Rattle.ngc_dialect_reader.specs.declared.fault.Cause.TheVariants as readings

-- the line can't be read
abbrev pub reading_words : ReadingCause → List ℕ
reading_words readings.LineTooLong = codes "line longer than 256 characters"
reading_words readings.ControlCharacter = codes "control character"
reading_words readings.CommentNotClosed = codes "comment not closed"
reading_words readings.CommentInComment = codes "comment inside a comment"
reading_words readings.UnexpectedCharacter = codes "character that belongs nowhere here"
reading_words readings.NumberWithoutDigits = codes "number without digits"
reading_words readings.SecondPoint = codes "second point in a number"
reading_words readings.NumberTooLarge = codes "number too large"
reading_words readings.WordWithoutValue = codes "word without a value"
reading_words readings.ValueMissing = codes "value missing"
reading_words readings.UnknownFunction = codes "unknown function"
reading_words readings.BracketNotClosed = codes "bracket not closed"
reading_words readings.BracketMissing = codes "opening bracket missing"
reading_words readings.NameNotClosed = codes "name not closed or empty"
reading_words readings.NameMissing = codes "name missing"
reading_words readings.EqualsMissing = codes "equals sign missing"
reading_words readings.SlashMissing = codes "slash missing between the arguments of ATAN"
reading_words readings.TooDeep = codes "nested over 32 deep"
reading_words readings.TooManyParts = codes "over 128 parts"
reading_words readings.NotInDialect = codes "this dialect has no such construct"
reading_words readings.UnknownKeyword = codes "unknown word after a label"
reading_words readings.WrongArguments = codes "wrong number of arguments"
reading_words readings.TextAfterEnd = codes "nothing may follow here"
reading_words readings.JumpMissing = codes "GOTO, THEN or DO missing"

-- an operation has no value
abbrev pub no_value_words : NoValue → List ℕ
no_value_words values.OutOfRange = codes "a value is over 1,000,000,000"
no_value_words values.DivisionByZero = codes "division by zero"
no_value_words values.NegativeRoot = codes "square root of a negative number"
no_value_words values.BeyondOne = codes "arc sine or arc cosine beyond 1"
no_value_words values.NotAboveZero = codes "logarithm of a number that is not above 0"
no_value_words values.NegativeBase = codes "a negative number to a power that is not whole"
no_value_words values.ZeroBase = codes "0 to a power below 0"
no_value_words values.RightAngle = codes "tangent of a right angle"

-- a part of the line has no value
abbrev pub value_words : ValueCause → List ℕ
value_words parameters.IndexNotWhole = codes "parameter number is not whole"
value_words parameters.IndexOutOfRange = codes "no parameter has this number"
value_words parameters.Unset = codes "parameter is not set, or only the control knows it"
value_words parameters.ReadOnly = codes "only the control sets this parameter"
value_words (parameters.Value value) = no_value_words value
