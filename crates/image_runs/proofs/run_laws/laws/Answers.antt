use Rattle.image_runs.proofs.AgreementFacts.{agreeing_are_known}
use Rattle.image_runs.proofs.AgreementSimulation.{agreement_simulates}
use Rattle.image_runs.proofs.WholeRuns.{images_show_all, images_show_no_more}
use Rattle.image_runs.proofs.run_laws.laws.Goals as goal

pub returns : goal.returns
returns c = record {
  known = agreeing_are_known;
  simulate = agreement_simulates;
  all = images_show_all;
  no_more = images_show_no_more;
}
