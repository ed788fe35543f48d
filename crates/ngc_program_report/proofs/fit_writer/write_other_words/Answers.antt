use Rattle.std.proofs.Common.{ap}
use Rattle.ngc_dialect_note_texts.specs.Texts.{notes_text}
use Rattle.ngc_program_report.proofs.WritingLaws.{stops, then, writes_text}
use Rattle.ngc_program_report.proofs.WrittenLaws.{appends_as, begins_as}
use Rattle.ngc_program_report.proofs.fit_writer.write_other_words.Goals as goal

pub returns-in_err-write_all : goal.returns-in_err-write_all
returns-in_err-write_all g c =
    stops _ _ c.from_residual.ensures.0 (begins_as _ _ _ _ c.idle_text.ensures c.in_err-write_all.ensures.fault) c.in_err-write_all.ensures.counts

pub returns-in_err-write_length_warnings : goal.returns-in_err-write_length_warnings
returns-in_err-write_length_warnings g c =
    then _ _ (appends_as _ _ _ _ c.idle_text.ensures c.in_ok-write_all.ensures.ok) c.in_ok-write_all.ensures.counts
    (stops _ _ c.from_residual-in_err-write_length_warnings.ensures.0 c.in_err-write_length_warnings.ensures.fault c.in_err-write_length_warnings.ensures.counts)

pub returns : goal.returns
returns g c =
    then _ _ (appends_as _ _ _ _ c.idle_text.ensures c.in_ok-write_all.ensures.ok) c.in_ok-write_all.ensures.counts
    (then _ _ c.in_ok-write_length_warnings.ensures.ok c.in_ok-write_length_warnings.ensures.counts
    (writes_text _ _ (ap (notes_text c.args.subject.now.form) c.notes_at.ensures) c.write_notes.ensures.ok c.write_notes.ensures.fault c.write_notes.ensures.counts))
