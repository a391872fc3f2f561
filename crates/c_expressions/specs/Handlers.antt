-- Names of vectored handlers, as arguments of calls.
use Rattle.std.specs.Global.{Vec}
use Rattle.std.specs.Prelude.{◌≡◌, ℕ, List, map, Option, Some, None, option_map}
use Rattle.c_checked.specs.declared.expression.Expr.{Expr as Checked}
use Rattle.c_checked.specs.Expression as nodes
use Rattle.c_expressions.specs.Calls.{passed_of, resolved_all}
use Rattle.c_expressions.specs.Kept.{least_of, kept, AddsFaults}
use Rattle.c_expressions.specs.Resolved.{resolved}
use Rattle.c_expressions.specs.Views.{names_of, wanted}
use Rattle.c_expressions.specs.declared.context.Context.{Context}
use Rattle.c_expressions.specs.declared.handlers.NamingCall.{NamingCall}
use Rattle.c_expressions.specs.declared.least.LeastFault.{LeastFault}
use Rattle.c_expressions.specs.declared.wanted.Wanted.{Wanted}
use Rattle.c_operations.specs.declared.built_in.BuiltIn.{BuiltIn}
use Rattle.c_resolved.specs.Expressions.{FaultAt, NamedHandler, ResolvedExpression, handler_named, no_handler, name_of, resolve_handler, call_with_handler}
use Rattle.c_resolved.specs.Operators.{TypedNode, typed, int}
use Rattle.c_syntax.specs.declared.expression.Expr.{Expr}
use Rattle.c_syntax.specs.declared.expression.Identifier.{Identifier}
use Rattle.c_syntax.specs.Expression.{expression, start}
use Rattle.c_types.specs.declared.typed.TypedNode.{TypedNode as TypedNode'}
use Rattle.c_types.specs.Views.{typed_node}

-- a name that an argument at this place is
abbrev pub handler_at : Context → ℕ → Identifier → NamedHandler
handler_at context at n = handler_named at n.start ((names_of context).entity n)

-- an argument of the text
abbrev pub named_by : Context → Expr → NamedHandler
named_by context e =
    resolve_handler (names_of context) (start (expression e)) (name_of (expression e))
    (resolved context e)

-- of an argument that is no name, after its own faults
abbrev pub AddsMissing : LeastFault → LeastFault → ℕ → Option TypedNode' → Type 0
AddsMissing before after at found =
    (first : Option FaultAt) (fs : List FaultAt) → least_of before ≡ kept first fs
    → least_of after ≡ kept first (no_handler at (record {
      found = option_map typed_node found;
      faults = fs;
    })).faults

-- ---- calls

-- a function, and the arguments before its name
abbrev pub naming_with : Option (Vec Checked) → Option ℕ → Option (ℕ × nodes.Arguments)
naming_with (Some v) (Some f) = Some (f, passed_of v.items)
naming_with passed handler = None

abbrev pub naming_of : Option NamingCall → Option (ℕ × nodes.Arguments)
naming_of o = option_map (λ (n : NamingCall). (n.function, passed_of n.arguments.items)) o

-- of this built-in function
abbrev pub naming_call : (ℕ → BuiltIn) → Option NamingCall → Option TypedNode
naming_call of naming =
    option_map (λ n. typed int (nodes.CallBuiltIn (of n.0) n.1)) (naming_of naming)

abbrev pub called_naming : Context → ℕ → List Wanted → List Expr → (ℕ → BuiltIn)
    → ResolvedExpression
called_naming context at wants given of =
    call_with_handler at (map wanted wants) of (resolved_all (names_of context) given)

-- whichever built-in function is called
abbrev pub FindsNaming : Option NamingCall → ((ℕ → BuiltIn) → ResolvedExpression) → Type 0
FindsNaming naming rule = (of : ℕ → BuiltIn) → naming_call of naming ≡ (rule of).found

abbrev pub AddsNaming : LeastFault → LeastFault → ((ℕ → BuiltIn) → ResolvedExpression) → Type 0
AddsNaming before after rule = (of : ℕ → BuiltIn) → AddsFaults before after (rule of).faults
