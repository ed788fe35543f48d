-- Lines and their styles. Our own.
use Rattle.std.specs.Prelude.{List, map, filter}
use Rattle.ngc_setup_sheet.specs.Sheets.{is_warning, as_fact, as_remark}
use Rattle.ngc_setup_sheet.specs.declared.line.Line.{Line}
use Rattle.ngc_setup_sheet.specs.declared.writer.Style.{Style}
use Rattle.ngc_setup_sheet.specs.declared.writer.Style.TheVariants as styles

-- a line in a style
abbrev pub styled : Style → Line → Line
styled styles.Lines l = l
styled styles.Facts l = as_fact l
styled styles.Remarks l = as_remark l

-- the warnings among these lines, in a style
abbrev pub chosen : Style → List Line → List Line
chosen styles.Lines told = filter is_warning told
chosen styles.Facts told = map as_fact (filter is_warning told)
chosen styles.Remarks told = map as_remark (filter is_warning told)
