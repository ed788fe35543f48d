use Rattle.ngc_dialect_job.proofs.Headline.{dialect_headline}
use Rattle.ngc_dialect_job.proofs.laws.dialect_headline.Goals as goal

pub returns : goal.returns
returns c = dialect_headline
