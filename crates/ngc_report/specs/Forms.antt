-- The forms of a report: in words, or as a JSON document. Our own.
use Rattle.std.specs.Prelude.{ℕ, List, [], ◌++◌, codes, flat_map}
use Rattle.ngc_report.specs.Facts.{line_fact}
use Rattle.ngc_report.specs.Words.{line_text}
use Rattle.ngc_report.specs.declared.form.Form.{Form}
use Rattle.ngc_report.specs.declared.form.Form.TheVariants.{Words, Json}
use Rattle.ngc_findings.specs.declared.line.Line.{Line}

unfoldable pub spelled : Form → Line → List ℕ
spelled Words l = line_text l
spelled Json l = line_fact l

-- lines in order
abbrev pub report_text : Form → List Line → List ℕ
report_text form report = flat_map (spelled form) report

-- The text before the whole. A JSON document is an array whose first fact has the version of this
-- format.
abbrev pub opening : Form → List ℕ
opening Words = []
opening Json = codes "[{\"fact\":\"report\",\"version\":1}"

-- the text after the whole
abbrev pub closing : Form → List ℕ
closing Words = []
closing Json = codes "\n]\n"

abbrev pub framed : Form → List ℕ → List ℕ
framed form text = opening form ++ (text ++ closing form)
