-- The result of finding at which shifts of an origin a program fits, from the results of its parts.
use Rattle.std.proofs.Common.{◌≡◌, ℕ, List, Option, Some, Result, Ok, Err, IfSome, refl, subst, sym, ◌∙◌}
use Rattle.std.specs.Prelude.{IfErr, option_map}
use Rattle.ngc_fixed_length.specs.declared.modes.System.{System}
use Rattle.ngc_line_reader.specs.declared.program.fault.ReadFault.{ReadFault}
use Rattle.ngc_line_reader.specs.ProgramText.{ProgramText, program_of, HaveReadings}
use Rattle.ngc_canonical.specs.Interpreter.{setup_of}
use Rattle.ngc_canonical.specs.Meaning.{parsed_program}
use Rattle.ngc_canonical.specs.State.{Setup}
use Rattle.ngc_job.specs.Job.{JobData}
use Rattle.ngc_canonical.specs.declared.fault.ProgramFault.{ProgramFault}
use Rattle.ngc_canonical.specs.declared.fault.ProgramFault.TheVariants as programs
use Rattle.ngc_certificate.specs.declared.fault.MakeFault.TheVariants.{Memory}
use Rattle.ngc_certificate_text.specs.declared.piece.Setting.{Setting}
use Rattle.ngc_command_line.specs.declared.options.PlaceOptions.{PlaceOptions}
use Rattle.ngc_shifted_program.specs.Executions.{Execution, IsOwnExecution, execution_of}
use Rattle.ngc_inputs.specs.Faults.{OfCertifying}
use Rattle.ngc_inputs.specs.Jobs.{refused_at}
use Rattle.ngc_inputs.specs.Setups.{FileBytes, KeepsFiles}
use Rattle.ngc_inputs.specs.Shops.{PlacedResultIs}
use Rattle.ngc_inputs.specs.declared.fault.AnswerFault.{AnswerFault}
use Rattle.ngc_inputs.specs.declared.fault.AnswerFault.TheVariants as answers
use Rattle.ngc_inputs.specs.declared.setup.Shop.{Shop}
use Rattle.ngc_inputs.proofs.JobLaws.{HasNoJob, IsJobFor, keeps_same, refused_program}
use Rattle.ngc_inputs.proofs.SetupLaws.{of_file, on_placed}
use Rattle.ngc_simulator.specs.Answers.{PlaceWrittenOn, place_request}
use Rattle.ngc_simulator.specs.Placing.{IsPlaceText, IsPlacedText, OfPlacing, PlaceWritten, PlacesJob}
use Rattle.ngc_simulator.specs.declared.place_request.PlaceRequest.{PlaceRequest}

-- a program that was read and has this job, and what is written of it
module _ (setup : Setup) (bytes : List ℕ) (request : PlaceRequest) (text : ProgramText) (j : JobData) (is_text : program_of bytes ≡ Ok text)
    (have : HaveReadings text.lines) (is_job : IsJobFor text setup j) where
  place_text : (written : List ℕ) → IsPlacedText (execution_of (parsed_program text have.readings)) j request written
      → IsPlaceText setup bytes request written
  place_text written places = record {
    program = parsed_program text have.readings;
    is_program = record { text = text; is_text = is_text; readings = have.readings; are_readings = have.are; is_parsed = refl };
    job = j;
    is_job = is_job have.readings have.are;
    places = places;
  }

  placed_so : (old new : Option (List ℕ)) (result : Result (Unit {0}) AnswerFault)
      → PlacesJob (execution_of (parsed_program text have.readings)) j request old new result → PlaceWritten setup bytes request old new result
  placed_so old new (Ok u) places = (places.0, place_text places.0 places.1, places.2)
  placed_so old new (Err (answers.Make Memory)) places = places
  placed_so old new (Err (answers.Write fault)) places = (places.0, place_text places.0 places.1, places.2)
  placed_so old new (Err _) places = absurd places

  pub placed : (old new : Option (List ℕ)) (result : Result (Unit {0}) AnswerFault)
      → ((does : Execution) → IsOwnExecution text does → PlacesJob does j request old new result) → PlaceWritten setup bytes request old new result
  placed old new result places =
      placed_so old new result
      (places (execution_of (parsed_program text have.readings)) (record { readings = have.readings; are = have.are; is = refl }))

-- ---- the faults

pub certifying : (result : Result (Unit {0}) AnswerFault) → IfErr result OfPlacing → IfErr result OfCertifying
certifying (Ok u) of = tt
certifying (Err (answers.Make Memory)) of = tt
certifying (Err (answers.Write fault)) of = tt
certifying (Err _) of = absurd of

pub not_read : (A : Type 0) (result : Result (Unit {0}) AnswerFault) (e : ReadFault) → IfErr result OfPlacing → result ≡ Err (answers.Read e) → A
not_read A result e of is = absurd (subst (λ (r : Result (Unit {0}) AnswerFault). IfErr r OfPlacing) is of)

-- finding where a job fits never lacks memory in any other place
pub placing_not_memory : (does : Execution) (j : JobData) (request : PlaceRequest) (old new : Option (List ℕ)) (fault : AnswerFault)
    → PlacesJob does j request old new (Err fault) → fault ≡ answers.Memory → ⊥
placing_not_memory does j request old new fault places is = subst (λ (e : AnswerFault). PlacesJob does j request old new (Err e)) is places

-- a program that has no job
no_job : (setup : Setup) (bytes : List ℕ) (request : PlaceRequest) (text : ProgramText) (s : Setting) (fault : ProgramFault) (known : Option (List ℕ))
    → program_of bytes ≡ Ok text → HaveReadings text.lines → HasNoJob text setup s fault → PlaceWritten setup bytes request known known (Err (refused_at s fault))
no_job setup bytes request text s programs.Memory known is_text have refused = keeps_same known
no_job setup bytes request text s (programs.At line e) known is_text have refused =
    (refused_program setup bytes text s line e is_text have refused, keeps_same known)

pub not_placed : (setup : Setup) (bytes : List ℕ) (request : PlaceRequest) (text : ProgramText) (s : Setting) (fault : ProgramFault) (told : AnswerFault)
    (known : Option (List ℕ)) → told ≡ refused_at s fault → program_of bytes ≡ Ok text → HaveReadings text.lines → HasNoJob text setup s fault
    → PlaceWritten setup bytes request known known (Err told)
not_placed setup bytes request text s fault told known is is_text have refused =
    subst (λ (f : AnswerFault). PlaceWritten setup bytes request known known (Err f)) (sym is) (no_job setup bytes request text s fault known is_text have refused)

-- ---- on the files that the command line names

-- the request is that of the options
pub requested_placing : (options : PlaceOptions) (system : System) (shop : Shop) (request : PlaceRequest) (source old new : Option (List ℕ))
    (outcome : Result (Unit {0}) AnswerFault)
    → request ≡ place_request options system → IfSome source (λ text. PlaceWritten (setup_of shop.machine shop.tools) text request old new outcome)
    → IfSome source (λ text. PlaceWritten (setup_of shop.machine shop.tools) text (place_request options system) old new outcome)
requested_placing options system shop request source old new outcome is written =
    subst (λ (r : PlaceRequest). IfSome source (λ text. PlaceWritten (setup_of shop.machine shop.tools) text r old new outcome)) is written

pub placed_files : (bytes after : FileBytes) (options : PlaceOptions) (system : System) (shop : Shop) (source : Option (List ℕ)) (old new : Option (List ℕ))
    (outcome : Result (Unit {0}) AnswerFault)
    → PlacedResultIs bytes (Some options.machine.now) (Some options.tools.now) options.changes (Ok shop) → KeepsFiles bytes after
    → source ≡ after (option_map (λ n. n.now) options.program)
    → IfSome source (λ text. PlaceWritten (setup_of shop.machine shop.tools) text (place_request options system) old new outcome)
    → PlaceWrittenOn bytes options system old new outcome
placed_files bytes after options system shop source old new outcome said keeps is written =
    on_placed bytes (Some options.machine.now) (Some options.tools.now) options.changes (setup_of shop.machine shop.tools)
    (λ setup. IfSome (bytes (option_map (λ n. n.now) options.program)) (λ text. PlaceWritten setup text (place_request options system) old new outcome))
    said.0 said.1 (of_file _ source (λ text. PlaceWritten (setup_of shop.machine shop.tools) text (place_request options system) old new outcome)
    (is ∙ keeps (option_map (λ n. n.now) options.program)) written)
