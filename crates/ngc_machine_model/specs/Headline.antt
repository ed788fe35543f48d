-- The headline: what the checker accepts runs safely. Our own.
use Rattle.std.specs.Prelude.{◌≡◌, ℕ, ◌≤◌, List, None, Ok, Bool}
use Rattle.ngc_machine_files.specs.Machine.{MachineFile}
use Rattle.ngc_machine_files.specs.MachineRanges.{IsMachine}
use Rattle.ngc_commands.specs.declared.command.Command.{Command}
use Rattle.ngc_canonical.specs.Meaning.{Program, meaning}
use Rattle.ngc_canonical.specs.State.{Setup}
use Rattle.ngc_certificate_text.specs.Certificate.{CertificateData}
use Rattle.ngc_checker.specs.Accepted.{AcceptedData, IsAccepted, commands_at}
use Rattle.ngc_checker.specs.FirstRefusal.{first_refusal}
use Rattle.ngc_events.specs.declared.event.Event.{Event}
use Rattle.ngc_machine_model.specs.State.{Job, Queued, State, opening, path_steps}
use Rattle.ngc_machine_model.specs.Step.{Outcome}
use Rattle.ngc_machine_model.specs.Run.{Run}
use Rattle.ngc_machine_model.specs.Safety.{IsSafeRun, KeepRates}
use Rattle.ngc_machine_model.specs.Progress.{KeepGoing, BecomesHead, KeepsPath, free_ticks, least_rate}
use Rattle.ngc_machine_model.specs.Progress.{most_ticks, IsDoneInTime}

abbrev pub job_of : MachineFile → List Command → Job
job_of machine commands = record { machine = machine; commands = commands }

-- every run of a job is safe
abbrev pub RunsSafely : Job → Type 0
RunsSafely job = (events : List Event) (outcomes : List Outcome) (states : List State) →
    Run job (opening job.machine) events outcomes states → IsSafeRun job events outcomes states

-- If the checker refuses nothing, then at either setting of block delete, for every list of events,
-- every run of the machine is safe.
abbrev pub Headline : Type 0
Headline = (program : Program) (setup : Setup) (c : CertificateData) → IsMachine setup.machine →
    first_refusal program setup c ≡ None →
    (block_delete : Bool) (commands : List Command) →
    meaning program setup block_delete ≡ Ok commands →
    RunsSafely (job_of setup.machine commands)

-- the same for an accepted program
abbrev pub AcceptedRunsSafely : Type 0
AcceptedRunsSafely = (a : AcceptedData) → IsAccepted a → (block_delete : Bool) →
    RunsSafely (job_of a.machine (commands_at block_delete a))

-- On every machine within its ranges every tick of every run keeps the rules of rates, for any
-- commands.
abbrev pub KeepRatesAlways : Type 0
KeepRatesAlways = (job : Job) → IsMachine job.machine →
    (events : List Event) (outcomes : List Outcome) (states : List State) →
    Run job (opening job.machine) events outcomes states →
    KeepRates job (opening job.machine) events states

-- In every run a loaded command that reaches the head keeps its path.
abbrev pub KeepPaths : Type 0
KeepPaths = (job : Job) (events : List Event) (outcomes : List Outcome) (states : List State) →
    Run job (opening job.machine) events outcomes states →
    (k : ℕ) (l : Queued) → BecomesHead k l states → KeepsPath job k l states

-- On every machine within its ranges, in every run that keeps going, a motion with path steps and a
-- least rate is done within a bounded number of free ticks.
abbrev pub EndsInTime : Type 0
EndsInTime = (job : Job) → IsMachine job.machine →
    (events : List Event) (outcomes : List Outcome) (states : List State) →
    Run job (opening job.machine) events outcomes states →
    KeepGoing job (opening job.machine) events states →
    (k : ℕ) (l : Queued) → BecomesHead k l states → 1 ≤ path_steps l → 1 ≤ least_rate job l →
    free_ticks k (opening job.machine) events states ≤ most_ticks job l

-- every run of a job that keeps going is done in time
abbrev pub RunsInTime : Job → Type 0
RunsInTime job = (events : List Event) (outcomes : List Outcome) (states : List State) →
    Run job (opening job.machine) events outcomes states →
    KeepGoing job (opening job.machine) events states →
    IsDoneInTime job events states

-- On every machine within its ranges each motion has a least rate, for any commands.
abbrev pub MachinesRunInTime : Type 0
MachinesRunInTime = (job : Job) → IsMachine job.machine → RunsInTime job
