-- A function has no more locals than its body has nodes.
use Rattle.std.proofs.Common.{◌≡◌, ◌+◌, ◌≤◌, List, [], ◌∷◌, ◌++◌, length, drop, arith, length-append}
use Rattle.std.proofs.lemmas.List.{length-drop}
use Rattle.std.specs.Prelude.{Bool, true, false, if◌then◌else◌}
use Rattle.c_operations.specs.declared.operation.Size.TheVariants as sizes
use Rattle.c_syntax.specs.declared.declaration.Parameter.{Parameter}
use Rattle.c_syntax.specs.Limits.{locals, locals_of_all, locals_of_for_initialiser}
use Rattle.c_syntax.specs.Statement as statements
use Rattle.c_syntax.specs.Statement.{Local}
use Rattle.c_resolved.proofs.Numbers.{statements_counted}
use Rattle.text_bounds.specs.Words.{Statement, Statements, ForInitialiser, Declaring, Evaluating, Scope, Environment, Numbering, resolve_statements, nodes_of_locals, nodes_of_for_initialiser, nodes_of_statement, nodes_of_statements, Layout, base_local}

locals_within : (ls : List Local) → length ls ≤ nodes_of_locals ls
locals_within [] = omega arith
locals_within (l ∷ ls) = let r = locals_within ls in omega arith

begin_within : (f : ForInitialiser) → locals_of_for_initialiser f ≤ nodes_of_for_initialiser f
begin_within (Declaring base ls) = locals_within ls
begin_within (Evaluating e) = omega arith

mutual
  statement_within : (s : Statement) → locals s ≤ nodes_of_statement s
  statement_within (statements.Declare base ls) = let a = locals_within ls in omega arith
  statement_within (statements.Block ss) = let a = statements_within ss in omega arith
  statement_within (statements.Evaluate e) = omega arith
  statement_within (statements.If at c s) = let a = statement_within s in omega arith
  statement_within (statements.IfElse at c s t) =
      let a = statement_within s in let b = statement_within t in omega arith
  statement_within (statements.While at c s) = let a = statement_within s in omega arith
  statement_within (statements.DoWhile s at c) = let a = statement_within s in omega arith
  statement_within (statements.For at f c n s) =
      let a = begin_within f in let b = statement_within s in omega arith
  statement_within (statements.Return at e) = omega arith
  statement_within (statements.Break at) = omega arith
  statement_within (statements.Continue at) = omega arith
  statement_within (statements.Leave at) = omega arith
  statement_within (statements.TryExcept body at f handler) =
      let a = statements_within body in let b = statements_within handler in omega arith
  statement_within (statements.TryFinally body at last) =
      let a = statements_within body in let b = statements_within last in omega arith

  pub statements_within : (ss : Statements) → locals_of_all ss ≤ nodes_of_statements ss
  statements_within statements.Empty = omega arith
  statements_within (statements.Then s ss) =
      let a = statement_within s in let b = statements_within ss in omega arith

one_base : (b : Bool) → length (if b then sizes.Long ∷ [] else []) ≤ 1
one_base true = omega arith
one_base false = omega arith

-- its locals are those that are numbered after its parameters, and that of the base
pub few_locals : (ps : List Parameter) (body : Statements) (a : Environment) (block : Scope)
    (n : Numbering) (l : Layout) → length n.sizes ≡ length ps
    → length (drop (length ps) (resolve_statements body a block n).counts.sizes ++ base_local l)
    ≤ 1 + nodes_of_statements body
few_locals ps body a block n l same =
    let one = one_base l.needed in
    let counted = (statements_counted body a block n).sizes in
    let within = statements_within body in
    omega (
      arith,
      length-append (drop (length ps) (resolve_statements body a block n).counts.sizes)
          (base_local l),
      length-drop (length ps) (resolve_statements body a block n).counts.sizes,
    )
