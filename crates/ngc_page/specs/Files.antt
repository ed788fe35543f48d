-- The files of a call.
use Rattle.ngc_inputs.specs.Setups.{FileBytes}
use Rattle.ngc_page.specs.Passed.{job_passed, passed}
use Rattle.ngc_page.specs.declared.files.PassedFiles.{PassedFiles}
use Rattle.ngc_page.specs.declared.files.PassedJob.{PassedJob}

abbrev pub bytes_of : PassedFiles → FileBytes
bytes_of f = passed f.program.now f.machine.now f.tools.now f.certificate.now

abbrev pub job_bytes_of : PassedJob → FileBytes
job_bytes_of f = job_passed f.name.now f.job.now
