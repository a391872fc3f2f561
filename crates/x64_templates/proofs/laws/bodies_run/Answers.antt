use Rattle.x64_templates.proofs.Computes.{compute_run}
use Rattle.x64_templates.proofs.Stretches.{body_runs}
use Rattle.x64_templates.proofs.Retries.{body_faults, body_retries}
use Rattle.x64_templates.proofs.laws.bodies_run.Goals as goal

pub returns : goal.returns
returns c = record {
  operations = compute_run;
  bodies = body_runs;
  faults = body_faults;
  retries = body_retries;
}
