-- What a function weighs once its variables stand where they do: at most as much for each node as
-- before.
use Rattle.std.proofs.Common.{◌≡◌, ℕ, ◌+◌, ◌≤◌, Option, Some, None, refl, arith}
use Rattle.c_operations.specs.declared.operation.Size.TheVariants as sizes
use Rattle.c_checked.specs.Expression as nodes
use Rattle.c_checked.specs.Expression.{Expression, Lvalue}
use Rattle.c_resolved.specs.declared.variable.Place.{Place}
use Rattle.text_bounds.specs.Words.{Layout, place_of, variable_at, array_at, address_of, place_expression, place_node, place_lvalue, place_arguments, place_optional, place_declared, place_all_declared, place_statement, place_statements, Weights, optional, NodesAdd, StatementsAdd}

module _ (w : Weights) (l : Layout) where
  -- a part weighs what it does after its variables are placed
  abbrev pub placed : Weights
  placed = record {
    conversion = w.conversion;
    expression = λ e. w.expression (place_expression l e);
    node = λ n. w.node (place_node l n);
    arguments = λ es. w.arguments (place_arguments l es);
    declared = λ ds. w.declared (place_all_declared l ds);
    statement = λ s. w.statement (place_statement l s);
    statements = λ ss. w.statements (place_statements l ss);
    functions = w.functions;
    each = w.each;
    converted = w.converted;
    retyped = w.retyped;
  }

  -- ---- nodes

  module _ (adds : NodesAdd w) where
    variable_light : (x : ℕ) (p : Option Place)
        → w.node (nodes.Read (variable_at l.base x p)) + w.converted ≤ w.each
    variable_light x None = adds.of_local x
    variable_light x (Some p) = adds.of_stacked p.access l.base p.offset

    array_light : (p : Option Place) → w.node (array_at l.base p) + w.converted ≤ w.each
    array_light None = adds.constant sizes.Long 0
    array_light (Some p) = adds.array l.base p.offset

    -- what has no address is a constant
    variable_address : (x : ℕ) (p : Option Place)
        → w.node (address_of (variable_at l.base x p))
        ≤ w.each + w.node (nodes.Read (variable_at l.base x p))
    variable_address x None = let c = adds.constant sizes.Long 0 in omega arith
    variable_address x (Some p) = adds.address (nodes.Stacked p.access l.base p.offset)

    address_placed : (p : Lvalue) → w.node (place_node l (nodes.AddressOf p))
        ≤ w.each + w.node (place_node l (nodes.Read p))
    address_placed (nodes.Local x) = variable_address x (place_of l x)
    address_placed (nodes.Stacked access x offset) = variable_address x (place_of l x)
    address_placed (nodes.Global access a) = adds.address (nodes.Global access a)
    address_placed (nodes.Indirection access e) =
        adds.address (nodes.Indirection access (place_expression l e))
    address_placed (nodes.Element access e i) =
        adds.address (nodes.Element access (place_expression l e) (place_expression l i))

    pub nodes_placed : NodesAdd placed
    nodes_placed = record {
      value = λ n c. adds.value (place_node l n) c;
      any_conversion = adds.any_conversion;
      no_conversion = adds.no_conversion;
      of_types = adds.of_types;
      constant = adds.constant;
      of_local = λ x. variable_light x (place_of l x);
      of_stacked = λ access base offset. variable_light base (place_of l base);
      array = λ base offset. array_light (place_of l base);
      of_global = adds.of_global;
      indirection = λ access e. adds.indirection access (place_expression l e);
      element = λ access e i. adds.element access (place_expression l e) (place_expression l i);
      address = address_placed;
      assignment = λ p e. adds.assignment (place_lvalue l p) (place_expression l e);
      compound_assignment = λ p before o e after small small'.
          adds.compound_assignment (place_lvalue l p) before o (place_expression l e) after small
          small';
      increment = λ m p o n after small. adds.increment m (place_lvalue l p) o n after small;
      unary = λ o e. adds.unary o (place_expression l e);
      binary = λ o e f. adds.binary o (place_expression l e) (place_expression l f);
      difference = λ n e f. adds.difference n (place_expression l e) (place_expression l f);
      negation = λ e. adds.negation (place_expression l e);
      conjunction = λ e f. adds.conjunction (place_expression l e) (place_expression l f);
      disjunction = λ m n. adds.disjunction (place_node l m) (place_node l n);
      conditional = λ c e f.
          adds.conditional (place_expression l c) (place_expression l e) (place_expression l f);
      comma = λ e f. adds.comma (place_expression l e) (place_expression l f);
      call = λ f es. adds.call f (place_arguments l es);
      built_in_call = λ k es. adds.built_in_call k (place_arguments l es);
      exception_code = adds.exception_code;
      information = adds.information;
      abnormal_termination = adds.abnormal_termination;
      no_argument = adds.no_argument;
      argument = λ e es. adds.argument (place_expression l e) (place_arguments l es);
    }

  -- ---- statements

  optional_placed : (e : Option Expression)
      → optional w (place_optional l e) ≡ optional placed e
  optional_placed None = refl
  optional_placed (Some e) = refl

  pub statements_placed : StatementsAdd w → StatementsAdd placed
  statements_placed adds = record {
    declaration = λ d. (let h = adds.declaration (place_declared l d) in
        let e = optional_placed d.value in omega arith);
    block = λ ss. adds.block (place_statements l ss);
    evaluation = λ e. (let h = adds.evaluation (place_optional l e) in
        let o = optional_placed e in omega arith);
    if_alone = λ c s. adds.if_alone (place_expression l c) (place_statement l s);
    if_else = λ c s t. adds.if_else (place_expression l c) (place_statement l s)
        (place_statement l t);
    for_loop = λ ds first c next s. (let h = adds.for_loop (place_all_declared l ds)
        (place_optional l first) (place_optional l c) (place_optional l next)
        (place_statement l s) in
        let o = optional_placed first in
        let p = optional_placed c in
        let q = optional_placed next in
        omega arith);
    do_loop = λ s c. adds.do_loop (place_statement l s) (place_expression l c);
    returning = λ e. (let h = adds.returning (place_optional l e) in
        let o = optional_placed e in omega arith);
    breaking = adds.breaking;
    continuing = adds.continuing;
    leaving = adds.leaving;
    accepting = λ body block. adds.accepting (place_statements l body) (place_statements l block);
    filtering = λ body k e block.
        adds.filtering (place_statements l body) k (place_expression l e)
        (place_statements l block);
    finishing = λ body k last. adds.finishing (place_statements l body) k
        (place_statements l last);
    no_statement = adds.no_statement;
    sequence = λ s ss. adds.sequence (place_statement l s) (place_statements l ss);
    no_declared = adds.no_declared;
    several_declared = λ d ds. adds.several_declared (place_declared l d)
        (place_all_declared l ds);
  }
