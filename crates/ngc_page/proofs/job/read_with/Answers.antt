use Rattle.std.proofs.Common.{◌≡◌, Err, Ok, Result, Some, map, refl, rules, subst}
use Rattle.ngc_job_calls.specs.Calls.{IsCall}
use Rattle.ngc_job_calls.specs.declared.call.JobCall.{JobCall}
use Rattle.ngc_job_calls.specs.declared.fault.CallFault.{CallFault}
use Rattle.ngc_page.proofs.JobReading.{call_in_memory}
use Rattle.ngc_page.specs.Files.{job_bytes_of}
use Rattle.ngc_page.specs.JobCalls.{none_missed}
use Rattle.ngc_page.specs.declared.files.PassedSource.{PassedSource}
use Rattle.ngc_page.proofs.job.read_with.Goals as goal

pub returns-in-Ok : goal.returns-in-Ok
returns-in-Ok c =
    let is : c.with_job.result ≡ Ok c.in-Ok.call = search rules in
    record {
      result = Ok c.in-Ok.call;
      call =
          subst (λ (r : Result JobCall CallFault). IsCall (λ _. ⊥) (job_bytes_of c.args.job) none_missed (map (λ w. w.now) c.args.words.now) r) is
          (call_in_memory (λ (s : PassedSource). Some s.rest.now) (λ _. 0) (λ _. refl) (job_bytes_of c.args.job) (map (λ w. w.now) c.args.words.now)
          c.with_job.result c.with_job.ensures.call);
      tells = c.hand_words.ensures;
    }

pub returns-in-Err : goal.returns-in-Err
returns-in-Err c =
    let is : c.with_job.result ≡ Err c.in-Err.fault = search rules in
    record {
      result = Err c.in-Err.fault;
      call =
          subst (λ (r : Result JobCall CallFault). IsCall (λ _. ⊥) (job_bytes_of c.args.job) none_missed (map (λ w. w.now) c.args.words.now) r) is
          (call_in_memory (λ (s : PassedSource). Some s.rest.now) (λ _. 0) (λ _. refl) (job_bytes_of c.args.job) (map (λ w. w.now) c.args.words.now)
          c.with_job.result c.with_job.ensures.call);
      tells = c.hand_fault.ensures;
    }
