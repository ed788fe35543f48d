-- What is printed of a refused job file. Our own.
use Rattle.std.specs.Prelude.{ℕ, List, ◌++◌, codes}
use Rattle.ngc_machine_figures.specs.declared.refusal.FileRefusal.{FileRefusal}
use Rattle.ngc_refused_files.specs.Refusals.{refusal_text}
use Rattle.ngc_refused_files.specs.Stops.{Stop, stop_text}

abbrev pub refused_text : List ℕ → List ℕ → FileRefusal → List ℕ
refused_text name bytes refusal = refusal_text name bytes refusal ++ codes "ngc: fault 269 job\n"

-- of a text that is no document it is where its reader stopped
abbrev pub no_document_text : List ℕ → List ℕ → Stop → List ℕ
no_document_text name bytes stop = stop_text name bytes stop ++ codes "ngc: fault 269 job\n"
