-- The code of a text takes at most 237 bytes for each of its nodes.
use Rattle.std.proofs.Common.{ℕ, ◌+◌, ◌≤◌, List, length, refl, arith}
use Rattle.std.specs.Prelude.{Bool, true, false, if◌then◌else◌, Option, Some, None}
use Rattle.text_bounds.specs.Words.{Expression, Lvalue, Conversion, Kept, CType, conversion, Weights, optional, NodesAdd, StatementsAdd, FunctionsAdd, conversion_room, expression_room, read_room, write_room, locate_room, node_room, arguments_room, discarded_room, condition_room, initialiser_room, put_initialiser_room, stacked_room, declared_at_room, returned_room, all_declared_room, statement_room, statements_room, functions_room, Extend, Scale, same_type, to_width, width_of, sort_of, CodeIsBounded}
use Rattle.seh_num.specs.declared.width.Width.{Width}
use Rattle.seh_num.specs.declared.width.Width.TheVariants.{W8}
use Rattle.c_operations.specs.declared.operation.Signedness.{Signedness}
use Rattle.c_operations.specs.declared.operation.Size.{Size}
use Rattle.c_checked.specs.declared.statement.StackedVariable.{StackedVariable}
use Rattle.c_checked.specs.Program.{DataFrame, declared_among}
use Rattle.c_checked.specs.Expression as nodes
use Rattle.text_bounds.proofs.StatementWeights.{weight_is_bounded}

abbrev rooms : Weights
rooms = record {
  conversion = conversion_room;
  expression = expression_room;
  node = node_room;
  arguments = arguments_room;
  declared = all_declared_room;
  statement = statement_room;
  statements = statements_room;
  functions = functions_room;
  each = 236;
  converted = 73;
  retyped = 35;
}

-- ---- conversions

conversion_most : (c : Conversion) → conversion_room c ≤ 73
conversion_most Kept = omega arith
conversion_most (Extend s from size) = omega arith
conversion_most (Scale s from by) = omega arith

to_width_small : (from : Width) (s : Signedness) (to : Width) (t : Signedness)
    → conversion_room (to_width from s to t) ≤ 35
to_width_small W8 s W8 t = omega arith
to_width_small from s W8 t = omega arith
to_width_small from s to t = omega arith

kept_if : (b : Bool) (c : Conversion) → conversion_room c ≤ 35
    → conversion_room (if b then Kept else c) ≤ 35
kept_if true c h = omega arith
kept_if false c h = h

conversion_small : (from to : CType) → conversion_room (conversion from to) ≤ 35
conversion_small from to = kept_if (same_type from to)
    (to_width (width_of from) (sort_of from) (width_of to) (sort_of to))
    (to_width_small (width_of from) (sort_of from) (width_of to) (sort_of to))

-- ---- places

write_small : (p : Lvalue) → write_room p ≤ 43
write_small (nodes.Local x) = omega arith
write_small p = omega arith

address_small : (p : Lvalue) → node_room (nodes.AddressOf p) ≤ locate_room p + read_room p
address_small (nodes.Local x) = omega arith
address_small p = omega arith

-- ---- values, with what comes after them

value_discarded : (o : Option nodes.Expression) → discarded_room o ≤ optional rooms o + 1
value_discarded None = omega arith
value_discarded (Some e) = omega arith

value_condition : (o : Option nodes.Expression) → condition_room o ≤ optional rooms o + 18
value_condition None = omega arith
value_condition (Some e) = omega arith

value_initialiser : (o : Option nodes.Expression) → initialiser_room o ≤ optional rooms o + 44
value_initialiser None = omega arith
value_initialiser (Some e) = omega arith

value_put : (o : Option nodes.Expression) → put_initialiser_room o ≤ optional rooms o + 51
value_put None = omega arith
value_put (Some e) = omega arith

-- a declared variable
declared_small : (v : Option StackedVariable) (o : Option nodes.Expression)
    → declared_at_room v o ≤ 236 + optional rooms o
declared_small None o = let h = value_initialiser o in omega arith
declared_small (Some v) o = by v.elements
  where
    by : (elements : Option ℕ) → stacked_room elements o ≤ 236 + optional rooms o
    by None = let h = value_put o in omega arith
    by (Some n) = omega arith

value_returned : (o : Option nodes.Expression) → returned_room o ≤ optional rooms o + 35
value_returned None = omega arith
value_returned (Some e) = omega arith

-- ---- nodes and statements

nodes_add : NodesAdd rooms
nodes_add = record {
  value = λ n c. refl;
  any_conversion = conversion_most;
  no_conversion = omega arith;
  of_types = conversion_small;
  constant = λ z n. omega arith;
  of_local = λ x. omega arith;
  of_stacked = λ access base offset. omega arith;
  array = λ base offset. omega arith;
  of_global = λ access a. omega arith;
  indirection = λ access e. omega arith;
  element = λ access e i. omega arith;
  address = λ p. let a = address_small p in omega arith;
  assignment = λ p e. let w = write_small p in omega arith;
  compound_assignment = λ p before o e after small small'. let w = write_small p in omega arith;
  increment = λ m p o n after small. let w = write_small p in omega arith;
  unary = λ o e. omega arith;
  binary = λ o e f. omega arith;
  difference = λ n e f. omega arith;
  negation = λ e. omega arith;
  conjunction = λ e f. omega arith;
  disjunction = λ m n. omega arith;
  conditional = λ c e f. omega arith;
  comma = λ e f. omega arith;
  call = λ f es. omega arith;
  built_in_call = λ k es. omega arith;
  exception_code = omega arith;
  information = λ f. omega arith;
  abnormal_termination = omega arith;
  no_argument = refl;
  argument = λ e es. refl;
}

statements_add : StatementsAdd rooms
statements_add = record {
  declaration = λ d. declared_small d.stacked d.value;
  block = λ ss. omega arith;
  evaluation = λ e. let v = value_discarded e in omega arith;
  if_alone = λ c s. omega arith;
  if_else = λ c s t. omega arith;
  for_loop = λ ds first c next s. let u = value_discarded first in let v = value_condition c in
      let w = value_discarded next in omega arith;
  do_loop = λ s c. omega arith;
  returning = λ e. let v = value_returned e in omega arith;
  breaking = omega arith;
  continuing = omega arith;
  leaving = omega arith;
  accepting = λ body block. omega arith;
  filtering = λ body k e block. omega arith;
  finishing = λ body k last. omega arith;
  no_statement = refl;
  sequence = λ s ss. refl;
  no_declared = refl;
  several_declared = λ d ds. refl;
}

-- ---- functions

few_declared : (locals : List Size) (o : Option DataFrame)
    → declared_among locals o ≤ length locals
few_declared locals None = omega arith
few_declared locals (Some d) = omega arith

functions_add : FunctionsAdd rooms
functions_add = record {
  no_function = refl;
  several_functions = λ f fs. (let few = few_declared f.locals f.data_frame in omega arith);
}

pub code_is_bounded : CodeIsBounded
code_is_bounded = weight_is_bounded rooms nodes_add statements_add functions_add
