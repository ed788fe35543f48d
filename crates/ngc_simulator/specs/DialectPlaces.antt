-- The result of finding at which shifts of an origin a program for another control fits. Our own.
use Rattle.std.specs.Prelude.{ℕ, List, Option, Result}
use Rattle.ngc_canonical.specs.State.{Setup}
use Rattle.ngc_dialect_names.specs.declared.dialect.Dialect.{Dialect}
use Rattle.ngc_inputs.specs.declared.fault.AnswerFault.{AnswerFault}
use Rattle.ngc_shifted_program.specs.Executions.{dialect_execution}
use Rattle.ngc_simulator.specs.Dialects.{OnDialectJob}
use Rattle.ngc_simulator.specs.Placing.{PlacesJob}
use Rattle.ngc_simulator.specs.declared.done.Done.{Done}
use Rattle.ngc_simulator.specs.declared.place_request.PlaceRequest.{PlaceRequest}

abbrev pub PlacesDialect : Dialect → Setup → List ℕ → PlaceRequest → Option (List ℕ) →
    Option (List ℕ) → Result Done AnswerFault → Type 0
PlacesDialect d setup source request old new outcome =
    OnDialectJob d setup source old new
    (λ j. PlacesJob (dialect_execution d source) j request old new) outcome
