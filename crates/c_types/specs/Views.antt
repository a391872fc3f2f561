-- Expressions with their types, wherever they lie in memory.
use Rattle.std.specs.Prelude.{◌≡◌, Option, option_map}
use Rattle.c_checked.specs.declared.expression.Lvalue.{Lvalue as Lvalue'}
use Rattle.c_checked.specs.declared.expression.Lvalue.TheFolds.{fold-Lvalue}
use Rattle.c_checked.specs.Expression.{Expression, Node, Lvalue, lvalue_layer, node_layer, expression_layer, node}
use Rattle.c_resolved.specs.Operators.{TypedNode}
use Rattle.c_types.specs.declared.typed.TypedNode.{TypedNode as TypedNode'}

abbrev pub lvalue : Lvalue' → Lvalue
lvalue = fold-Lvalue Lvalue Node Expression lvalue_layer node_layer expression_layer

abbrev pub typed_node : TypedNode' → TypedNode
typed_node t = record { type = t.of; node = node t.node; zero = t.zero }

-- code found what a definition finds: a type and a node, or none of both
abbrev pub FindsTyped : Option TypedNode' → Option TypedNode → Type 0
FindsTyped code found = option_map typed_node code ≡ found
