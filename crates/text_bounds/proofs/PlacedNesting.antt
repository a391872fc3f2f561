-- A function is nested no deeper once its variables stand where they do, but for a note where an
-- array is declared.
use Rattle.std.proofs.Common.{ℕ, ◌+◌, ◌≤◌, arith}
use Rattle.std.specs.Prelude.{List, [], ◌∷◌, Option, Some, None}
use Rattle.c_checked.specs.Expression as nodes
use Rattle.c_checked.specs.Expression.{Expression, On, Node, Lvalue, Arguments, Done, Next}
use Rattle.c_checked.specs.Statement as checked
use Rattle.c_checked.specs.Statement.{Declared, Filter, Statement, Statements}
use Rattle.c_resolved.specs.declared.variable.Place.{Place}
use Rattle.text_bounds.specs.Words.{Layout, place_of, variable_at, array_at, address_of, stacked_at, place_expression, place_node, place_lvalue, place_arguments, place_optional, place_all_declared, place_filter, place_statement, place_statements, expression_nesting, node_nesting, lvalue_nesting, arguments_nesting, expression_reads, node_reads, lvalue_reads, arguments_read, most_of_optional, most_of_declared, most_of_filter, most_of_statement, most_of, elements_notes, stacked_notes, declared_notes, statement_notes, statements_notes}

module _ (l : Layout) where
  -- ---- expressions

  abbrev IsNoDeeper : Expression → Type 0
  IsNoDeeper e = (expression_nesting (place_expression l e) ≤ expression_nesting e)
      × (expression_reads (place_expression l e) ≤ expression_reads e)

  abbrev IsNodeNoDeeper : Node → Type 0
  IsNodeNoDeeper n = (node_nesting (place_node l n) ≤ node_nesting n)
      × (node_reads (place_node l n) ≤ node_reads n)

  abbrev IsPlaceNoDeeper : Lvalue → Type 0
  IsPlaceNoDeeper p = (lvalue_nesting (place_lvalue l p) ≤ lvalue_nesting p)
      × (lvalue_reads (place_lvalue l p) ≤ lvalue_reads p)

  abbrev AreNoDeeper : Arguments → Type 0
  AreNoDeeper es = (arguments_nesting (place_arguments l es) ≤ arguments_nesting es)
      × (arguments_read (place_arguments l es) ≤ arguments_read es)

  variable_flat : (x : ℕ) (p : Option Place) → (lvalue_nesting (variable_at l.base x p) ≤ 0)
      × (lvalue_reads (variable_at l.base x p) ≤ 0)
  variable_flat x None = (omega arith, omega arith)
  variable_flat x (Some p) = (omega arith, omega arith)

  array_flat : (p : Option Place) → (node_nesting (array_at l.base p) ≤ 0)
      × (node_reads (array_at l.base p) ≤ 0)
  array_flat None = (omega arith, omega arith)
  array_flat (Some p) = (omega arith, omega arith)

  address_flat : (p : Lvalue) → (node_nesting (address_of p) ≤ 1 + lvalue_nesting p)
      × (node_reads (address_of p) ≤ lvalue_reads p)
  address_flat (nodes.Local x) = (omega arith, omega arith)
  address_flat (nodes.Global access a) = (omega arith, omega arith)
  address_flat (nodes.Stacked access base offset) = (omega arith, omega arith)
  address_flat (nodes.Indirection access e) = (omega arith, omega arith)
  address_flat (nodes.Element access e i) = (omega arith, omega arith)

  mutual
    expression_no_deeper : (e : Expression) → IsNoDeeper e
    expression_no_deeper (On n c) = node_no_deeper n

    node_no_deeper : (n : Node) → IsNodeNoDeeper n
    node_no_deeper (nodes.Constant z n) = (omega arith, omega arith)
    node_no_deeper (nodes.StackedArray x offset) = array_flat (place_of l x)
    node_no_deeper (nodes.Read p) = place_no_deeper p
    node_no_deeper (nodes.AddressOf p) =
        let a = address_flat (place_lvalue l p) in
        let h = place_no_deeper p in
        let a' = a.0 in let b' = a.1 in let c' = h.0 in let d' = h.1 in
        (omega arith, omega arith)
    node_no_deeper (nodes.Assign p e) =
        let h = place_no_deeper p in let i = expression_no_deeper e in
        let a' = h.0 in let b' = h.1 in let c' = i.0 in let d' = i.1 in
        (omega arith, omega arith)
    node_no_deeper (nodes.CompoundAssign p before o e after) =
        let h = place_no_deeper p in let i = expression_no_deeper e in
        let a' = h.0 in let b' = h.1 in let c' = i.0 in let d' = i.1 in
        (omega arith, omega arith)
    node_no_deeper (nodes.Increment m p before o n after) =
        let h = place_no_deeper p in
        let a' = h.0 in let b' = h.1 in
        (omega arith, omega arith)
    node_no_deeper (nodes.Unary o e) =
        let i = expression_no_deeper e in
        let c' = i.0 in let d' = i.1 in
        (omega arith, omega arith)
    node_no_deeper (nodes.Binary o e f) =
        let h = expression_no_deeper e in let i = expression_no_deeper f in
        let a' = h.0 in let b' = h.1 in let c' = i.0 in let d' = i.1 in
        (omega arith, omega arith)
    node_no_deeper (nodes.PointerDifference n e f) =
        let h = expression_no_deeper e in let i = expression_no_deeper f in
        let a' = h.0 in let b' = h.1 in let c' = i.0 in let d' = i.1 in
        (omega arith, omega arith)
    node_no_deeper (nodes.Not e) =
        let i = expression_no_deeper e in
        let c' = i.0 in let d' = i.1 in
        (omega arith, omega arith)
    node_no_deeper (nodes.And e f) =
        let h = expression_no_deeper e in let i = expression_no_deeper f in
        let a' = h.0 in let b' = h.1 in let c' = i.0 in let d' = i.1 in
        (omega arith, omega arith)
    node_no_deeper (nodes.Or e f) =
        let h = expression_no_deeper e in let i = expression_no_deeper f in
        let a' = h.0 in let b' = h.1 in let c' = i.0 in let d' = i.1 in
        (omega arith, omega arith)
    node_no_deeper (nodes.Conditional c e f) =
        let g = expression_no_deeper c in
        let h = expression_no_deeper e in let i = expression_no_deeper f in
        let e' = g.0 in let f' = g.1 in
        let a' = h.0 in let b' = h.1 in let c' = i.0 in let d' = i.1 in
        (omega arith, omega arith)
    node_no_deeper (nodes.Comma e f) =
        let h = expression_no_deeper e in let i = expression_no_deeper f in
        let a' = h.0 in let b' = h.1 in let c' = i.0 in let d' = i.1 in
        (omega arith, omega arith)
    node_no_deeper (nodes.Call f es) = arguments_no_deeper es
    node_no_deeper (nodes.CallBuiltIn k es) = arguments_no_deeper es
    node_no_deeper nodes.ExceptionCode = (omega arith, omega arith)
    node_no_deeper (nodes.Information f) = (omega arith, omega arith)
    node_no_deeper nodes.AbnormalTermination = (omega arith, omega arith)

    place_no_deeper : (p : Lvalue) → IsPlaceNoDeeper p
    place_no_deeper (nodes.Local x) = variable_flat x (place_of l x)
    place_no_deeper (nodes.Global access a) = (omega arith, omega arith)
    place_no_deeper (nodes.Stacked access x offset) = variable_flat x (place_of l x)
    place_no_deeper (nodes.Indirection access e) =
        let i = expression_no_deeper e in
        let c' = i.0 in let d' = i.1 in
        (omega arith, omega arith)
    place_no_deeper (nodes.Element access e i) =
        let h = expression_no_deeper e in let k = expression_no_deeper i in
        let a' = h.0 in let b' = h.1 in let c' = k.0 in let d' = k.1 in
        (omega arith, omega arith)

    arguments_no_deeper : (es : Arguments) → AreNoDeeper es
    arguments_no_deeper Done = (omega arith, omega arith)
    arguments_no_deeper (Next e es) =
        let h = expression_no_deeper e in let i = arguments_no_deeper es in
        let a' = h.0 in let b' = h.1 in let c' = i.0 in let d' = i.1 in
        (omega arith, omega arith)

  -- ---- statements

  module _ (f : Expression → ℕ) (no_more : (e : Expression) → f (place_expression l e) ≤ f e) where
    optional_most : (o : Option Expression)
        → most_of_optional f (place_optional l o) ≤ most_of_optional f o
    optional_most None = omega arith
    optional_most (Some e) = no_more e

    declared_most : (ds : List Declared)
        → most_of_declared f (place_all_declared l ds) ≤ most_of_declared f ds
    declared_most [] = omega arith
    declared_most (d ∷ ds) = let h = optional_most d.value in let i = declared_most ds
        in omega arith

    filter_most : (x : Filter) → most_of_filter f (place_filter l x) ≤ most_of_filter f x
    filter_most checked.Always = omega arith
    filter_most (checked.Funclet k e) = no_more e

    mutual
      statement_most : (s : Statement)
          → most_of_statement f (place_statement l s) ≤ most_of_statement f s
      statement_most (checked.Declare d) = optional_most d.value
      statement_most (checked.Block ss) = statements_most ss
      statement_most (checked.Evaluate e) = optional_most e
      statement_most (checked.If c s) =
          let h = no_more c in let i = statement_most s in omega arith
      statement_most (checked.IfElse c s t) =
          let h = no_more c in let i = statement_most s in let j = statement_most t in omega arith
      statement_most (checked.For ds first c next s) =
          let h = declared_most ds in
          let i = optional_most first in
          let j = optional_most c in
          let k = optional_most next in
          let m = statement_most s in
          omega arith
      statement_most (checked.DoWhile s c) =
          let h = no_more c in let i = statement_most s in omega arith
      statement_most (checked.Return e) = optional_most e
      statement_most checked.Break = omega arith
      statement_most checked.Continue = omega arith
      statement_most checked.Leave = omega arith
      statement_most (checked.TryExcept body filter block) =
          let h = statements_most body in
          let i = filter_most filter in
          let j = statements_most block in
          omega arith
      statement_most (checked.TryFinally body k last) =
          let h = statements_most body in let i = statements_most last in omega arith

      statements_most : (ss : Statements) → most_of f (place_statements l ss) ≤ most_of f ss
      statements_most checked.Empty = omega arith
      statements_most (checked.Then s ss) =
          let h = statement_most s in let i = statements_most ss in omega arith

  pub nesting_placed : (ss : Statements)
      → most_of expression_nesting (place_statements l ss) ≤ most_of expression_nesting ss
  nesting_placed = statements_most expression_nesting (λ e. (expression_no_deeper e).0)

  pub reads_placed : (ss : Statements)
      → most_of expression_reads (place_statements l ss) ≤ most_of expression_reads ss
  reads_placed = statements_most expression_reads (λ e. (expression_no_deeper e).1)

  -- ---- notes

  elements_noted : (o : Option ℕ) → elements_notes o ≤ 1
  elements_noted None = omega arith
  elements_noted (Some n) = omega arith

  stacked_noted : (p : Option Place) → stacked_notes (stacked_at l.base p) ≤ 1
  stacked_noted None = omega arith
  stacked_noted (Some p) = elements_noted p.elements

  declared_noted : (ds : List Declared) → declared_notes (place_all_declared l ds) ≤ 1
  declared_noted [] = omega arith
  declared_noted (d ∷ ds) =
      let h = stacked_noted (place_of l d.local) in let i = declared_noted ds in omega arith

  mutual
    statement_placed : (s : Statement)
        → statement_notes (place_statement l s) ≤ 1 + statement_notes s
    statement_placed (checked.Declare d) =
        let h = stacked_noted (place_of l d.local) in omega arith
    statement_placed (checked.Block ss) = notes_placed ss
    statement_placed (checked.Evaluate e) = omega arith
    statement_placed (checked.If c s) = statement_placed s
    statement_placed (checked.IfElse c s t) =
        let i = statement_placed s in let j = statement_placed t in omega arith
    statement_placed (checked.For ds first c next s) =
        let h = declared_noted ds in let i = statement_placed s in omega arith
    statement_placed (checked.DoWhile s c) = statement_placed s
    statement_placed (checked.Return e) = omega arith
    statement_placed checked.Break = omega arith
    statement_placed checked.Continue = omega arith
    statement_placed checked.Leave = omega arith
    statement_placed (checked.TryExcept body filter block) =
        let h = notes_placed body in let i = notes_placed block in omega arith
    statement_placed (checked.TryFinally body k last) =
        let h = notes_placed body in let i = notes_placed last in omega arith

    pub notes_placed : (ss : Statements) → statements_notes (place_statements l ss)
        ≤ 1 + statements_notes ss
    notes_placed checked.Empty = omega arith
    notes_placed (checked.Then s ss) =
        let h = statement_placed s in let i = notes_placed ss in omega arith
