-- The texts of a job, from those of the accepted program.
use Rattle.std.proofs.Common.{◌≡◌, ℕ, List, Option, Some, None, Bool, false, ap, ap₂, refl, subst, sym, ◌∙◌}
use Rattle.std.specs.Prelude.{is_some, true}
use Rattle.ngc_origins.specs.Texts.{OriginList}
use Rattle.ngc_frames.specs.declared.history.FrameHistory.{FrameHistory}
use Rattle.ngc_commands.specs.declared.command.Command.{Command}
use Rattle.ngc_certificate.specs.declared.plan.Plan.{Plan}
use Rattle.ngc_certificate.specs.Planned.{planned}
use Rattle.ngc_certificate.specs.Uncleared.{AreUncleared}
use Rattle.ngc_certificate_text.specs.declared.piece.Setting.{Setting}
use Rattle.ngc_certificate_text.specs.declared.piece.Setting.TheVariants.{Off, On}
use Rattle.ngc_machine_files.specs.Machine.{MachineFile}
use Rattle.ngc_machine_files.specs.declared.tools.Tool.{Tool}
use Rattle.ngc_certificate_text.specs.Certificate.{CertificateData, Entry}
use Rattle.ngc_checker.specs.Accepted.{AcceptedData, commands_at}
use Rattle.ngc_checker.specs.Held.{accepted_of}
use Rattle.ngc_job.specs.Job.{JobData, commands_in, on_or}
use Rattle.ngc_report.specs.declared.form.Form.{Form}
use Rattle.ngc_program_report.specs.Coordinates.{History}
use Rattle.ngc_program_report.specs.Framed.{FramedData, framed_in, frames_at, frames_in, frames_or, history_in, setup_in}
use Rattle.ngc_program_report.specs.JobReports.{IsFitText, IsRefusalsText, IsStartClear, OffBegins, OnBegins, first_text}
use Rattle.ngc_program_report.specs.Reported.{ReportedLines}
use Rattle.ngc_program_report.specs.Texts.{AreFindings, Findings, accepted_text, fits_text, is_on, refusal_text, refusals_text}
use Rattle.ngc_file_figures.specs.declared.limits.ToolLimits.{ToolLimits}
use Rattle.ngc_stock_report.specs.Walked.{IsWalked, WalkData}
use Rattle.ngc_program_report.specs.declared.framed.FramedJob.{FramedJob}

-- the report of the accepted program is the report of the job
pub accepted_as : (j : JobData) (c : CertificateData) (form : Form) (origins : OriginList) (apart : Bool)
    (off_found on_found : Findings) (off_h on_h : History) (lines : ReportedLines) → apart ≡ is_some j.on
    → accepted_text form origins apart (accepted_of j) c off_found on_found off_h on_h lines
    ≡ fits_text form origins (is_some j.on) (setup_in j) j.off (commands_in true j) c off_found on_found off_h on_h lines
accepted_as j c form origins apart off_found on_found off_h on_h lines is =
    ap (λ (d : Bool). fits_text form origins d (setup_in j) j.off (commands_in true j) c off_found on_found off_h on_h lines) is

-- if no line begins with `/`, both settings have the same commands
pub alike : (off : List Command) (on : Option (List Command)) → is_some on ≡ false → on_or off on ≡ off
alike off None is = refl
alike off (Some on) is = absurd (cc is)

-- what a walk finds in the commands of an equal program
pub walked_as : (cells : ℕ) (table : List ToolLimits) (a other : AcceptedData) (found : Option WalkData) (b : Bool) → a ≡ other → IsWalked cells table a.machine (commands_at b a) found
    → IsWalked cells table other.machine (commands_at b other) found
walked_as cells table a other found b is walked = subst (λ (x : AcceptedData). IsWalked cells table x.machine (commands_at b x) found) is walked

-- what is found of the job is what is found of the accepted program
pub found_off : (cells : ℕ) (table : List ToolLimits) (a : AcceptedData) (j : JobData) (found : Findings) → a ≡ accepted_of j → AreFindings cells table a.machine (commands_at false a) found
    → AreFindings cells table j.machine j.off found
found_off cells table a j found is lasts = subst (λ (x : AcceptedData). AreFindings cells table x.machine (commands_at false x) found) is lasts

pub found_on : (cells : ℕ) (table : List ToolLimits) (a : AcceptedData) (j : JobData) (found : Findings) → a ≡ accepted_of j → AreFindings cells table a.machine (commands_at true a) found
    → AreFindings cells table j.machine (commands_in true j) found
found_on cells table a j found is lasts = subst (λ (x : AcceptedData). AreFindings cells table x.machine (commands_at true x) found) is lasts

pub found_alike : (cells : ℕ) (table : List ToolLimits) (j : JobData) (found : Findings) → is_some j.on ≡ false → AreFindings cells table j.machine j.off found
    → AreFindings cells table j.machine (commands_in true j) found
found_alike cells table j found none lasts = subst (λ (cs : List Command). AreFindings cells table j.machine cs found) (sym (alike j.off j.on none)) lasts

pub fit_text : (f : FramedData) (c : CertificateData) (form : Form) (origins : OriginList) (cells : ℕ) (apart : Bool) (a : AcceptedData)
    (off_found on_found : Findings) (off_h on_h : History) (lines : ReportedLines) → apart ≡ is_some f.job.on
    → a ≡ accepted_of f.job → AreFindings cells lines.figures.tools f.job.machine f.job.off off_found → AreFindings cells lines.figures.tools f.job.machine (commands_in true f.job) on_found
    → off_h ≡ f.off → on_h ≡ f.on
    → IsFitText f c form origins cells lines (accepted_text form origins apart a c off_found on_found off_h on_h lines)
fit_text f c form origins cells apart a off_found on_found off_h on_h lines is_apart is off_lasts on_lasts off_is on_is = record {
  off_found = off_found;
  off_are = off_lasts;
  on_found = on_found;
  on_are = on_lasts;
  tells = ap (λ (x : AcceptedData). accepted_text form origins apart x c off_found on_found off_h on_h lines) is
      ∙ accepted_as f.job c form origins apart off_found on_found off_h on_h lines is_apart
      ∙ ap₂ (λ (x y : History). fits_text form origins (is_some f.job.on) (setup_in f.job) f.job.off (commands_in true f.job) c off_found on_found x y lines) off_is on_is;
}

-- the same for the motions of one setting, where both settings have the same commands: the frames at `On` aren't reported
pub fit_once : {A : Type 0} (f : FramedJob A) (c : CertificateData) (form : Form) (origins : OriginList) (cells : ℕ) (a : AcceptedData) (entries : List Entry)
    (found : Findings) (lines : ReportedLines)
    → is_some f.job.on ≡ false → a ≡ accepted_of f.job → entries ≡ c.off → AreFindings cells lines.figures.tools f.job.machine f.job.off found
    → IsFitText (framed_in f) c form origins cells lines
    (accepted_text form origins false a (record { off = entries; on = entries }) found found (history_in f.off) (history_in f.off) lines)
fit_once f c form origins cells a entries found lines none is are lasts =
    let h : History = history_in f.off in
    subst (IsFitText (framed_in f) c form origins cells lines)
    (sym (ap (λ (l : List Entry). accepted_text form origins false a (record { off = l; on = l }) found found h h lines) are))
    (fit_text (framed_in f) c form origins cells false a found found h (history_in (frames_at On f)) lines (sym none) is lasts (found_alike cells lines.figures.tools f.job found none lasts)
    refl refl)

-- and for those of each setting
pub fit_both : {A : Type 0} (f : FramedJob A) (on_frames : FrameHistory A) (c : CertificateData) (form : Form) (origins : OriginList) (cells : ℕ) (a : AcceptedData)
    (off on : List Entry) (off_found on_found : Findings) (lines : ReportedLines)
    → true ≡ is_some f.job.on → a ≡ accepted_of f.job → off ≡ c.off → on ≡ c.on → AreFindings cells lines.figures.tools f.job.machine f.job.off off_found
    → AreFindings cells lines.figures.tools f.job.machine (commands_in true f.job) on_found → on_frames ≡ frames_or f.off f.on
    → IsFitText (framed_in f) c form origins cells lines
    (accepted_text form origins true a (record { off = off; on = on }) off_found on_found (history_in f.off) (history_in on_frames) lines)
fit_both f on_frames c form origins cells a off on off_found on_found lines some is off_are on_are off_lasts on_lasts same =
    let off_h : History = history_in f.off in
    let on_h : History = history_in on_frames in
    subst (IsFitText (framed_in f) c form origins cells lines)
    (sym (ap₂ (λ (x y : List Entry). accepted_text form origins true a (record { off = x; on = y }) off_found on_found off_h on_h lines) off_are on_are))
    (fit_text (framed_in f) c form origins cells true a off_found on_found off_h on_h lines some is off_lasts on_lasts refl (ap history_in same))

-- the motions of a plan for the accepted program are those for the job
pub planned_as : {A : Type 0} (j : JobData) (a : AcceptedData) (b : Bool) (plan : Plan A) → a ≡ accepted_of j →
    planned a.machine.step (commands_at b a) plan ≡ planned j.machine.step (commands_at b (accepted_of j)) plan
planned_as j a b plan is = ap (λ (x : AcceptedData). planned x.machine.step (commands_at b x) plan) is

-- ---- obstacles

pub first_as : (j : JobData) (form : Form) (origins : OriginList) (s : Setting) (k : ℕ) (lines : ReportedLines) (h : History) (named : Bool) (m : MachineFile)
    (ts : List Tool) (b : Bool) (cs : List Command) → named ≡ is_some j.on → m ≡ j.machine → ts ≡ j.tools → b ≡ is_on s → cs ≡ commands_in b j
    → refusal_text form origins named s (record { machine = m; tools = ts }) cs k lines h ≡ first_text j form origins s k lines h
first_as j form origins s k lines h named m ts b cs is_named is_machine are_tools is_set are =
    ap (λ (d : Bool). refusal_text form origins d s (record { machine = m; tools = ts }) cs k lines h) is_named
    ∙ ap₂ (λ (x : MachineFile) (us : List Tool). refusal_text form origins (is_some j.on) s (record { machine = x; tools = us }) cs k lines h) is_machine are_tools
    ∙ ap (λ (l : List Command). refusal_text form origins (is_some j.on) s (setup_in j) l k lines h) (are ∙ ap (λ (x : Bool). commands_in x j) is_set)

-- the frames at a setting
pub frames_as : {A : Type 0} (f : FramedJob A) (s : Setting) (frames : FrameHistory A) → frames ≡ frames_at s f → history_in frames ≡ frames_in s (framed_in f)
frames_as f Off frames same = ap history_in same
frames_as f On frames same = ap history_in same

pub all_text : (f : FramedData) (cuts : ℕ) (s : Setting) (k : ℕ) (form : Form) (origins : OriginList) (lines : ReportedLines) (named : Bool) (m : MachineFile) (ts : List Tool)
    (off on : List Command) (off_h on_h : History) (off_ks on_ks : List ℕ)
    → named ≡ is_some f.job.on → m ≡ f.job.machine → ts ≡ f.job.tools → off ≡ f.job.off → on ≡ commands_in true f.job
    → AreUncleared f.job.machine cuts f.job.off off_ks → (IsStartClear f.job.machine → OffBegins (is_some f.job.on) s k off_ks)
    → AreUncleared f.job.machine cuts (commands_in true f.job) on_ks → (IsStartClear f.job.machine → OnBegins s k on_ks)
    → off_h ≡ f.off → on_h ≡ f.on
    → IsRefusalsText f cuts s k form origins lines (refusals_text form origins named (record { machine = m; tools = ts }) off on off_h on_h off_ks on_ks lines)
all_text f cuts s k form origins lines named m ts off on off_h on_h off_ks on_ks is_named is_machine are_tools is_off is_on off_are off_begins on_are on_begins
    off_is on_is = record {
      off_ks = off_ks;
      off_uncleared = off_are;
      off_begins = off_begins;
      on_ks = on_ks;
      on_uncleared = on_are;
      on_begins = on_begins;
      tells = ap (λ (d : Bool). refusals_text form origins d (record { machine = m; tools = ts }) off on off_h on_h off_ks on_ks lines) is_named
          ∙ ap₂ (λ (x : MachineFile) (us : List Tool). refusals_text form origins (is_some f.job.on) (record { machine = x; tools = us }) off on off_h on_h off_ks on_ks
          lines) is_machine are_tools
          ∙ ap (λ (cs : List Command). refusals_text form origins (is_some f.job.on) (setup_in f.job) cs on off_h on_h off_ks on_ks lines) is_off
          ∙ ap (λ (cs : List Command). refusals_text form origins (is_some f.job.on) (setup_in f.job) f.job.off cs off_h on_h off_ks on_ks lines) is_on
          ∙ ap₂ (λ (x y : History). refusals_text form origins (is_some f.job.on) (setup_in f.job) f.job.off (commands_in true f.job) x y off_ks on_ks lines)
          off_is on_is;
    }

-- if both settings have the same commands, the commands that aren't cleared are reported once
pub are_alike : (j : JobData) (cuts : ℕ) (ks : List ℕ) → is_some j.on ≡ false → AreUncleared j.machine cuts j.off ks
    → AreUncleared j.machine cuts (commands_in true j) ks
are_alike j cuts ks none are = subst (λ (cs : List Command). AreUncleared j.machine cuts cs ks) (sym (alike j.off j.on none)) are

pub once_begins : (apart : Bool) (s : Setting) (k : ℕ) (ks : List ℕ) → apart ≡ false → OffBegins apart s k ks → OnBegins s k ks
once_begins true s k ks once begins = absurd (cc once)
once_begins false Off k ks once begins = tt
once_begins false On k ks once begins = begins
