-- What is known where a body calls a function.
use Rattle.std.proofs.Common.{◌≡◌, ◌≢◌, ℕ, ◌+◌, ◌<◌, ◌≤◌, false, Some, length, ap}
use Rattle.std.specs.Prelude.{slice_get}
use Rattle.match_turns.specs.Words.{State, LinearFunction, weight, depth_weight, weight_of, Configuration, HaveRoom, Setting, RepresentsAt}
use Rattle.linear_code.specs.declared.instruction.Instruction.TheVariants as instructions
use Rattle.match_turns.proofs.Lemmas.{IsCounted}

-- the instruction of a call begins: linear code, the machine beside it, and the callee
pub record AtCall (setting : Setting) : Type 0 where
  pub roomy : HaveRoom setting.program
  pub state : State
  pub configuration : Configuration
  pub represents : RepresentsAt setting state configuration
  pub counted : IsCounted setting configuration
  -- the callee's number, the temporary of its first argument, and how many it is given
  pub number : ℕ
  pub first : ℕ
  pub count : ℕ
  pub at : slice_get represents.body.slots.code.code configuration.frame.next
      ≡ Some (instructions.Call number first count)
  -- the language's limit, and the space that the caller's frame has for arguments
  pub few : count ≤ 8
  pub few_passed : count ≤ 4 + represents.body.slots.code.passed
  -- the caller is no leaf function
  pub framed : setting.plan.leaf configuration.frame.body ≡ false
  pub function : LinearFunction
  pub found : slice_get setting.program.functions number ≡ Some function
  pub parameters : function.parameters ≡ count
  pub fits : count ≤ function.body.locals
  pub some : 0 < length function.body.code
  -- the depth that is left takes what it counts
  pub shallow : length configuration.store.activations + configuration.frame.held
      + depth_weight function ≤ 1000
  -- the arguments are the last temporaries
  pub held : length configuration.frame.temporaries ≡ first + count
  -- no funclet begins where the callee does
  pub apart : (k : ℕ) → k < length setting.program.funclets
      → setting.sites.function number ≢ setting.plan.funclet k

-- what the callee weighs, as its layout has it
pub callee_weight : {setting : Setting} (at_call : AtCall setting)
    → weight_of (slice_get setting.program.functions at_call.number) ≡ weight at_call.function
callee_weight at_call = ap weight_of at_call.found
