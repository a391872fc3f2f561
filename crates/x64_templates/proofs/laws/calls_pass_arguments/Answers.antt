use Rattle.x64_templates.proofs.Calls.{call_begins}
use Rattle.x64_templates.proofs.Entering.{parameters_run}
use Rattle.x64_templates.proofs.PrologueRuns.{prologue_run}
use Rattle.x64_templates.proofs.EpilogueRuns.{epilogue_leaves}
use Rattle.x64_templates.proofs.Returns.{return_run}
use Rattle.x64_templates.proofs.laws.calls_pass_arguments.Goals as goal

pub returns : goal.returns
returns c = record {
  calls = call_begins;
  entries = prologue_run;
  arguments = parameters_run;
  epilogues = epilogue_leaves;
  returns = return_run;
}
