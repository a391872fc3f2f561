-- What is read takes tokens, since each tree has a node.
use Rattle.std.proofs.Common.{◌≤◌, ◌<◌, ℕ, List, length, arith}
use Rattle.c_syntax.specs.Words.{Token, Expression, Constant, SpellsExpression, nodes, nodes_of_statement, Global, ExternalDeclaration, IsConstant, IsGlobal, IsExternalDeclaration, Statement, Declare, IsBlockItem}
use Rattle.c_syntax.specs.declared.declaration.Constant.{Constant as Constant'}
use Rattle.c_syntax.proofs.Nodes as counted
use Rattle.c_syntax.proofs.NodesOfPrograms as counted_programs

some_nodes : (e : Expression) → 1 ≤ nodes e
some_nodes (Constant at literal) = omega arith
some_nodes e = omega arith

pub expression : (text : List ℕ) (e : Expression) (ts rest : List Token)
    → SpellsExpression text e ts rest → length rest < length ts
expression text e ts rest h =
    let a = some_nodes e in let b = (counted.expression text e).takes ts rest h in omega arith

some_nodes_of_statement : (s : Statement) → 1 ≤ nodes_of_statement s
some_nodes_of_statement (Declare b ls) = omega arith
some_nodes_of_statement s = omega arith

pub item : (text : List ℕ) (s : Statement) (ts rest : List Token) → IsBlockItem text s ts rest
    → length rest < length ts
item text s ts rest h =
    let a = some_nodes_of_statement s in let b = (counted.item text s).takes ts rest h in
    omega arith

pub constant : (c : Constant') (ts rest : List Token) → IsConstant c ts rest
    → length rest < length ts
constant c ts rest h = let a = (counted.constant c).takes ts rest h in omega arith

pub global : (g : Global) (ts rest : List Token) → IsGlobal g ts rest → length rest < length ts
global g ts rest h = let a = (counted_programs.global g).takes ts rest h in omega arith

pub external_declaration : (text : List ℕ) (x : ExternalDeclaration) (ts rest : List Token)
    → IsExternalDeclaration text x ts rest → length rest < length ts
external_declaration text x ts rest h =
    let a = (counted_programs.external_declaration text x).takes ts rest h in omega arith
