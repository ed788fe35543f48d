-- Programs for other controls, adapted.
mod AdaptLaws
-- Programs for other controls, executed.
mod DialectLaws
-- A refused file is refused with changes too, and the report of it is the same.
mod PlacedRefusals
-- The result of listing a file, from the results of its parts.
pub mod ListLaws
-- The text that the second sink takes.
pub mod ReportSink
-- The result of a run on the files that it names, from the results of its parts.
pub mod FileLaws
-- The result of making a machine file, from the results of its parts.
pub mod MakingLaws
-- The result of running a program over events, or to its end, from the results of its parts.
pub mod RunLaws
-- The result of a run whose events arrive from a source, from the results of its parts.
pub mod LiveLaws
-- The result of certifying a program, from what is written of its plans.
pub mod CertifyLaws
-- The result of drawing a program, from the results of its parts.
pub mod DrawLaws
-- The result of reporting whether a program fits, from the results of its parts.
pub mod ReportLaws
-- The result of finding at which shifts of an origin a program fits, from the results of its parts.
pub mod PlaceLaws
-- The result of reporting a program that can't be read, on the files that the command line names.
pub mod UnreadableLaws
-- The result of writing all faults of a program.
pub mod FaultsLaws
-- The result of running a program for another control, from the results of its parts.
pub mod DialectRunLaws
-- The report of a program for another control, from the results of its parts.
pub mod DialectReportLaws
-- The picture of a program for another control, from the results of its parts.
pub mod DialectPictureLaws
-- The result of mapping what a program leaves, from the results of its parts.
pub mod MapLaws
