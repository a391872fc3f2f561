use Rattle.match_turns.proofs.Operations.OperationMeaning as meant
use Rattle.match_turns.proofs.Operations.OperationOperands as fetching
use Rattle.match_turns.proofs.Operations.OperationSteps as steps
use Rattle.match_turns.proofs.fault_laws.laws.Goals as goal

pub returns : goal.returns
returns c = record {
  undefined = meant.undefined;
  fetched = fetching.operands_are_fetched;
  retries = steps.retries;
  continuations = steps.continuations;
  operations = steps.operations;
}
