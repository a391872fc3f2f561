-- The program of a text begins at most four steps for each node without a turn: three of its own,
-- and one for each of its functions' locals; and 17 for the part of the data stack of one of them.
use Rattle.std.proofs.Common.{◌≡◌, ℕ, ◌+◌, ◌*◌, ◌/◌, ◌≤◌, List, [], ◌∷◌, length, refl, arith}
use Rattle.std.specs.Prelude.{Option, Some, None}
use Rattle.std.specs.List.{AllByRecursion}
use Rattle.text_bounds.specs.Words.{Expression, Function, ExternalDeclaration, nodes_of, resolve, Weights, optional, NodesAdd, StatementsAdd, FunctionsAdd, weight_of}
use Rattle.c_operations.specs.declared.operation.Size.{Size}
use Rattle.c_checked.specs.Program.{DataFrame, declared_among, frame_surplus}
use Rattle.c_syntax.specs.Limits.{Within}
use Rattle.text_bounds.proofs.StatementWeights.{weight_is_bounded}
use Rattle.text_bounds.proofs.DataWeights.{HasLightData, resolved_data}
use Rattle.lowering_follows.specs.Weights.{expression_weight, node_weight, arguments_weight, optional_weight, all_declared_weight, statement_weight, statements_weight}

-- of all functions together, what their parts of the data stack count for each of their locals
-- alone
abbrev own_weight : List Function → ℕ
own_weight [] = 0
own_weight (f ∷ fs) =
    frame_surplus f + length f.locals / 256 + statements_weight f.body + own_weight fs

-- the rest counts for one at a time
at_most : (fs : List Function) → AllByRecursion HasLightData fs → weight_of fs ≤ own_weight fs + 17
at_most [] h = omega arith
at_most (f ∷ fs) h = let r = at_most fs h.1 in let d = h.0 in omega arith

-- each expression begins a step of its own, with its conversion
abbrev weights : Weights
weights = record {
  conversion = λ c. 1;
  expression = expression_weight;
  node = node_weight;
  arguments = arguments_weight;
  declared = all_declared_weight;
  statement = statement_weight;
  statements = statements_weight;
  functions = own_weight;
  each = 3;
  converted = 1;
  retyped = 1;
}

-- the same weight, in either spelling
optional_is : (e : Option Expression) → optional_weight e ≡ optional weights e
optional_is None = refl
optional_is (Some e) = refl

nodes_add : NodesAdd weights
nodes_add = record {
  value = λ n c. omega arith;
  any_conversion = λ c. omega arith;
  no_conversion = omega arith;
  of_types = λ from to. omega arith;
  constant = λ z n. omega arith;
  of_local = λ x. omega arith;
  of_stacked = λ access base offset. omega arith;
  array = λ base offset. omega arith;
  of_global = λ access a. omega arith;
  indirection = λ access e. omega arith;
  element = λ access e i. omega arith;
  address = λ p. omega arith;
  assignment = λ p e. omega arith;
  compound_assignment = λ p before o e after small small'. omega arith;
  increment = λ m p o n after small. omega arith;
  unary = λ o e. omega arith;
  binary = λ o e f. omega arith;
  difference = λ n e f. omega arith;
  negation = λ e. omega arith;
  conjunction = λ e f. omega arith;
  disjunction = λ m n. omega arith;
  conditional = λ c e f. omega arith;
  comma = λ e f. omega arith;
  call = λ f es. omega arith;
  built_in_call = λ k es. omega arith;
  exception_code = omega arith;
  information = λ f. omega arith;
  abnormal_termination = omega arith;
  no_argument = refl;
  argument = λ e es. refl;
}

statements_add : StatementsAdd weights
statements_add = record {
  declaration = λ d. let e = optional_is d.value in omega arith;
  block = λ ss. omega arith;
  evaluation = λ e. let f = optional_is e in omega arith;
  if_alone = λ c s. omega arith;
  if_else = λ c s t. omega arith;
  for_loop = λ ds first c next s. let e = optional_is first in let f = optional_is c in
      let g = optional_is next in omega arith;
  do_loop = λ s c. omega arith;
  returning = λ e. let f = optional_is e in omega arith;
  breaking = omega arith;
  continuing = omega arith;
  leaving = omega arith;
  accepting = λ body block. omega arith;
  filtering = λ body k e block. omega arith;
  finishing = λ body k last. omega arith;
  no_statement = refl;
  sequence = λ s ss. refl;
  no_declared = refl;
  several_declared = λ d ds. refl;
}

few_declared : (locals : List Size) (o : Option DataFrame) → declared_among locals o ≤ length locals
few_declared locals None = omega arith
few_declared locals (Some d) = omega arith

functions_add : FunctionsAdd weights
functions_add = record {
  no_function = refl;
  several_functions = λ f fs. (let few = few_declared f.locals f.data_frame in omega arith);
}

pub resolved_weight : (text : List ℕ) (xs : List ExternalDeclaration) → Within text xs
    → weight_of (resolve text xs).program.functions ≤ 4 * nodes_of xs + 17
resolved_weight text xs within =
    let own = weight_is_bounded weights nodes_add statements_add functions_add text xs in
    let most = at_most (resolve text xs).program.functions (resolved_data text xs within) in
    omega arith
