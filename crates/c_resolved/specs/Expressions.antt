-- Expressions: the type and the node of each, or the rules that it breaks (C11, 6.5; Microsoft C
-- reference, "try-except statement"). An expression that holds a fault has no type, and no rule on
-- types fails for it.
use Rattle.std.specs.Prelude.{ℕ, Bool, true, false, ◌&&◌, ◌+◌, nat_eq, nat_le, if◌then◌else◌, List, [], ◌∷◌, ◌++◌, length, map, Option, Some, None, ◌-◌}
use Rattle.seh_num.specs.declared.width.Width.TheVariants.{W32}
use Rattle.seh_num.specs.Widths.{low, wrapped}
use Rattle.seh_num.specs.declared.size.TheConstants.{EXCEPTION_MAXIMUM_PARAMETERS}
use Rattle.c_lex.specs.declared.token.IntegerType.{IntegerType}
use Rattle.c_lex.specs.declared.token.IntegerType.TheVariants as integers
use Rattle.c_operations.specs.declared.field.Field.TheVariants as fields
use Rattle.c_operations.specs.declared.built_in.BuiltIn.{BuiltIn}
use Rattle.c_operations.specs.declared.built_in.BuiltIn.TheVariants.{Put, Protect, RaiseException, Walk, AddVectored, RemoveVectored}
use Rattle.c_operations.specs.Numbers.{width}
use Rattle.c_checked.specs.declared.expression.Fixity.TheVariants.{Postfix, Prefix}
use Rattle.c_checked.specs.Expression as nodes
use Rattle.c_checked.specs.Expression.{Arguments, Done, Next}
use Rattle.c_syntax.specs.declared.expression.Base.{Base}
use Rattle.c_syntax.specs.declared.expression.Base.TheVariants.{Void, Int, Unsigned, LongLong, UnsignedLongLong}
use Rattle.c_syntax.specs.declared.expression.CType.{CType}
use Rattle.c_syntax.specs.declared.expression.Field.{Field}
use Rattle.c_syntax.specs.declared.expression.Field.TheVariants as record_fields
use Rattle.c_syntax.specs.declared.expression.Literal.{Literal}
use Rattle.c_syntax.specs.declared.expression.Literal.TheVariants as literals
use Rattle.c_syntax.specs.declared.expression.Identifier.{Identifier}
use Rattle.c_syntax.specs.declared.operator.Arithmetic.{Arithmetic}
use Rattle.c_syntax.specs.declared.operator.UnaryOperator.{UnaryOperator}
use Rattle.c_syntax.specs.declared.operator.UnaryOperator.TheVariants as unary
use Rattle.c_syntax.specs.Expression as trees
use Rattle.c_syntax.specs.Expression.{Expression, start}
use Rattle.c_resolved.specs.declared.fault.Fault.{Fault}
use Rattle.c_resolved.specs.declared.fault.Fault.TheVariants.{UnknownName, NotLvalue, TypeClash, ArgCount, CodeOutsideFilter, InfoOutsideFilter, AbnormalOutsideFinally}
use Rattle.c_resolved.specs.Types.{plain, pointer_to, access_of, size_of, same_type}
use Rattle.c_resolved.specs.Operators.{TypedNode, typed, int, void_pointer, can_become, as_type, binary_of, unary_of, cast_of, element_of, assigned, compound_assigned, incremented, conditional_of, comma_of}

-- ---- names

-- what a name means
pub data Entity : Type 0 where
  LocalVariable : ℕ → CType → Entity
  -- its number, and the type of its elements
  LocalArray : ℕ → CType → Entity
  GlobalVariable : ℕ → CType → Entity
  -- its address, and the type of its elements
  GlobalArray : ℕ → CType → Entity
  -- its number, its result, its parameters
  UserFunction : ℕ → CType → List CType → Entity
  BuiltInFunction : BuiltIn → Entity
  CodeFunction : Entity
  AbnormalFunction : Entity
  -- AddVectoredExceptionHandler and RemoveVectoredExceptionHandler
  AddingFunction : Entity
  RemovingFunction : Entity
  -- as a number of 32 bits
  BuiltInConstant : ℕ → Entity

-- what the names mean where an expression is, and whether it is where an exception's code
-- and fields, and AbnormalTermination, mean something
pub record Names : Type 0 where
  pub entity : Identifier → Option Entity
  pub code : Bool
  pub information : Bool
  pub abnormal : Bool

-- ---- faults

pub record FaultAt : Type 0 where
  pub at : ℕ
  pub fault : Fault

abbrev pub fault_at : ℕ → Fault → List FaultAt
fault_at at f = record { at = at; fault = f } ∷ []

pub record ResolvedExpression : Type 0 where
  pub found : Option TypedNode
  pub faults : List FaultAt

abbrev pub good : TypedNode → ResolvedExpression
good t = record { found = Some t; faults = [] }

abbrev pub bad : List FaultAt → ResolvedExpression
bad fs = record { found = None; faults = fs }

-- a rule, which breaks where it gives nothing
abbrev pub ruled : ℕ → Fault → List FaultAt → Option TypedNode → ResolvedExpression
ruled at f fs None = bad (fs ++ fault_at at f)
ruled at f fs (Some t) = record { found = Some t; faults = fs }

abbrev pub rule_1 : ℕ → (TypedNode → Option TypedNode) → List FaultAt → Option TypedNode
    → ResolvedExpression
rule_1 at rule fs None = bad fs
rule_1 at rule fs (Some a) = ruled at TypeClash fs (rule a)

abbrev pub rule_2 : ℕ → (TypedNode → TypedNode → Option TypedNode) → List FaultAt → Option TypedNode
    → Option TypedNode → ResolvedExpression
rule_2 at rule fs None b = bad fs
rule_2 at rule fs (Some a) b = rule_1 at (rule a) fs b

abbrev pub rule_3 : ℕ → (TypedNode → TypedNode → TypedNode → Option TypedNode) → List FaultAt
    → Option TypedNode → Option TypedNode → Option TypedNode → ResolvedExpression
rule_3 at rule fs None b c = bad fs
rule_3 at rule fs (Some a) b c = rule_2 at (rule a) fs b c

-- a rule that is before the rules on types
abbrev pub given_that : Bool → ℕ → Fault → List FaultAt → ResolvedExpression → ResolvedExpression
given_that true at f fs j = j
given_that false at f fs j = bad (fs ++ fault_at at f)

-- ---- literals and names

abbrev pub integer_base : IntegerType → Base
integer_base integers.Int = Int
integer_base integers.Unsigned = Unsigned
integer_base integers.LongLong = LongLong
integer_base integers.UnsignedLongLong = UnsignedLongLong

-- a number as one of a type: the low bits of its size, which a literal of the type never exceeds
abbrev pub constant : CType → ℕ → TypedNode
constant t n = typed t (nodes.Constant (size_of t) (low (width (size_of t)) n))

-- an integer literal of value 0 is one in any base and with any suffix; a character is none
abbrev pub literal : Literal → TypedNode
literal (literals.Integer n of) =
    record (constant (plain (integer_base of)) n) { zero = nat_eq n 0 }
literal (literals.CharacterConstant c) = constant int (wrapped W32 c)

abbrev pub variable : CType → nodes.Lvalue → TypedNode
variable t p = typed t (nodes.Read p)

abbrev pub name : ℕ → Option Entity → ResolvedExpression
name at (Some (LocalVariable x t)) = good (variable t (nodes.Local x))
-- an array is named by its number until it is known where it stands
name at (Some (LocalArray x t)) = good (typed (pointer_to t) (nodes.StackedArray x 0))
name at (Some (GlobalVariable a t)) = good (variable t (nodes.Global (access_of t) a))
name at (Some (GlobalArray a t)) = good (constant (pointer_to t) a)
name at (Some (BuiltInConstant n)) = good (constant int n)
name at other = bad (fault_at at UnknownName)

-- ---- places

abbrev pub is_variable : Option Entity → Bool
is_variable None = true
is_variable (Some (LocalVariable x t)) = true
is_variable (Some (GlobalVariable a t)) = true
is_variable other = false

abbrev pub is_indirection : UnaryOperator → Bool
is_indirection unary.Indirection = true
is_indirection other = false

-- variables, `*e` and `a[i]`, parentheses aside; an unknown name breaks no further rule
abbrev pub is_lvalue : Names → Expression → Bool
is_lvalue s (trees.Variable n) = is_variable (s.entity n)
is_lvalue s (trees.Parentheses at e) = is_lvalue s e
is_lvalue s (trees.Index a at i) = true
is_lvalue s (trees.Unary at o e) = is_indirection o
is_lvalue s other = false

-- of the operators with one operand `&` alone takes a place
abbrev pub operand_is_lvalue : UnaryOperator → Names → Expression → Bool
operand_is_lvalue unary.AddressOf s e = is_lvalue s e
operand_is_lvalue other s e = true

-- ---- what a filter reads

abbrev pub unsigned : CType
unsigned = plain Unsigned

abbrev pub field : Field → ResolvedExpression
field record_fields.Code = good (typed unsigned (nodes.Information fields.ExceptionCode))
field record_fields.Flags = good (typed unsigned (nodes.Information fields.ExceptionFlags))
field record_fields.Count = good (typed unsigned (nodes.Information fields.NumberParameters))
field (record_fields.Information k at) =
    given_that (nat_le k (EXCEPTION_MAXIMUM_PARAMETERS - 1)) at TypeClash []
    (good (typed (plain UnsignedLongLong) (nodes.Information (fields.ExceptionInformation k))))

-- ---- calls

-- what an argument has to be
pub data Wanted : Type 0 where
  OfType : CType → Wanted
  ZeroLiteral : Wanted

abbrev pub built_in_wants : BuiltIn → List Wanted
built_in_wants Put = OfType (plain LongLong) ∷ []
built_in_wants Protect = OfType void_pointer ∷ OfType int ∷ []
built_in_wants RaiseException = OfType unsigned ∷ OfType unsigned ∷ ZeroLiteral ∷ ZeroLiteral ∷ []
built_in_wants Walk = []
built_in_wants (AddVectored f) = OfType unsigned ∷ []
built_in_wants (RemoveVectored f) = []

abbrev pub built_in_result : BuiltIn → CType
built_in_result Put = plain Void
built_in_result Protect = int
built_in_result RaiseException = plain Void
built_in_result Walk = plain Void
built_in_result (AddVectored f) = int
built_in_result (RemoveVectored f) = int

abbrev pub fits : Wanted → TypedNode → Bool
fits (OfType t) a = can_become t a
fits ZeroLiteral a = a.zero

abbrev pub passed : Wanted → TypedNode → nodes.Expression
passed (OfType t) a = as_type t a
passed ZeroLiteral a = as_type int a

-- a function that an argument names as a vectored handler, by its number
pub record NamedHandler : Type 0 where
  pub found : Option ℕ
  pub faults : List FaultAt

-- an argument, with the place of its first token; as a value, and as the name of a vectored handler
pub record Argument : Type 0 where
  pub at : ℕ
  pub resolved : ResolvedExpression
  pub handler : NamedHandler

pub record Passed : Type 0 where
  pub found : Option Arguments
  pub faults : List FaultAt

abbrev pub before : List FaultAt → nodes.Expression → Passed → Passed
before fs e rest =
    record {
      found = elim rest.found [ Some es ↦ Some (Next e es) | None ↦ None ];
      faults = fs ++ rest.faults;
    }

abbrev pub spoiled : List FaultAt → Passed → Passed
spoiled fs rest = record { found = None; faults = fs ++ rest.faults }

abbrev pub pass : Wanted → ℕ → List FaultAt → Option TypedNode → Passed → Passed
pass w at fs None rest = spoiled fs rest
pass w at fs (Some a) rest =
    if fits w a then before fs (passed w a) rest else spoiled (fs ++ fault_at at TypeClash) rest

abbrev pub pass_all : List Wanted → List Argument → Passed
pass_all (w ∷ ws) (a ∷ more) = pass w a.at a.resolved.faults a.resolved.found (pass_all ws more)
pass_all ws more = record { found = Some Done; faults = [] }

abbrev pub faults_of : List Argument → List FaultAt
faults_of [] = []
faults_of (a ∷ more) = a.resolved.faults ++ faults_of more

abbrev pub called : CType → (Arguments → nodes.Node) → Passed → ResolvedExpression
called t make p =
    record {
      found = elim p.found [ Some es ↦ Some (typed t (make es)) | None ↦ None ];
      faults = p.faults;
    }

abbrev pub call_with : ℕ → List Wanted → CType → (Arguments → nodes.Node) → List Argument
    → ResolvedExpression
call_with at ws t make args =
    given_that (nat_eq (length ws) (length args)) at ArgCount (faults_of args)
    (called t make (pass_all ws args))

-- ---- names of vectored handlers

-- `int (unsigned code, unsigned flags)`
abbrev pub is_handler_type : CType → List CType → Bool
is_handler_type t (a ∷ b ∷ []) = same_type t int && same_type a unsigned && same_type b unsigned
is_handler_type t ps = false

abbrev pub handler_if : (at f : ℕ) → Bool → NamedHandler
handler_if at f true = record { found = Some f; faults = [] }
handler_if at f false = record { found = None; faults = fault_at at TypeClash }

-- by what the name of the argument means: at the name where it is no function, at the argument
-- where the function is of another type
abbrev pub handler_named : (at name_at : ℕ) → Option Entity → NamedHandler
handler_named at name_at (Some (UserFunction f t ps)) = handler_if at f (is_handler_type t ps)
handler_named at name_at (Some (BuiltInFunction k)) = handler_if at 0 false
handler_named at name_at (Some CodeFunction) = handler_if at 0 false
handler_named at name_at (Some AbnormalFunction) = handler_if at 0 false
handler_named at name_at (Some AddingFunction) = handler_if at 0 false
handler_named at name_at (Some RemovingFunction) = handler_if at 0 false
handler_named at name_at other = record { found = None; faults = fault_at name_at UnknownName }

-- an argument that is no name breaks that rule where it holds no other fault
abbrev pub no_handler : ℕ → ResolvedExpression → NamedHandler
no_handler at r =
    record {
      found = None;
      faults = elim r.found [ Some t ↦ r.faults ++ fault_at at TypeClash | None ↦ r.faults ];
    }

-- the name that an argument is, parentheses aside
abbrev pub name_of : Expression → Option Identifier
name_of (trees.Variable n) = Some n
name_of (trees.Parentheses at e) = name_of e
name_of other = None

abbrev pub resolve_handler : Names → ℕ → Option Identifier → ResolvedExpression → NamedHandler
resolve_handler s at (Some n) r = handler_named at n.start (s.entity n)
resolve_handler s at None r = no_handler at r

-- the handler that comes after the arguments that are passed
abbrev pub handler_after : List Wanted → List Argument → NamedHandler
handler_after ws [] = record { found = None; faults = [] }
handler_after [] (a ∷ more) = a.handler
handler_after (w ∷ ws) (a ∷ more) = handler_after ws more

abbrev pub call_naming : (ℕ → Arguments → nodes.Node) → Passed → NamedHandler → ResolvedExpression
call_naming make p h =
    record {
      found = elim p.found [
        | Some es ↦ elim h.found [ Some f ↦ Some (typed int (make f es)) | None ↦ None ]
        | None ↦ None
      ];
      faults = p.faults ++ h.faults;
    }

-- a call whose last argument names a vectored handler
abbrev pub call_with_handler : ℕ → List Wanted → (ℕ → BuiltIn) → List Argument → ResolvedExpression
call_with_handler at ws of args =
    given_that (nat_eq (length ws + 1) (length args)) at ArgCount (faults_of args)
    (call_naming (λ f. nodes.CallBuiltIn (of f)) (pass_all ws args) (handler_after ws args))

-- a call that is right in itself, but has a meaning in some places alone
abbrev pub only_where : Bool → ℕ → Fault → ResolvedExpression → ResolvedExpression
only_where allowed at fault r = given_that allowed at fault r.faults r

abbrev pub call : Names → ℕ → Option Entity → List Argument → ResolvedExpression
call s at (Some (UserFunction f t ps)) args = call_with at (map OfType ps) t (nodes.Call f) args
call s at (Some (BuiltInFunction k)) args =
    call_with at (built_in_wants k) (built_in_result k) (nodes.CallBuiltIn k) args
call s at (Some CodeFunction) args =
    only_where s.code at CodeOutsideFilter
    (call_with at [] unsigned (λ es. nodes.ExceptionCode) args)
call s at (Some AbnormalFunction) args =
    only_where s.abnormal at AbnormalOutsideFinally
    (call_with at [] int (λ es. nodes.AbnormalTermination) args)
call s at (Some AddingFunction) args =
    call_with_handler at (OfType unsigned ∷ []) (λ f. AddVectored f) args
call s at (Some RemovingFunction) args =
    call_with_handler at [] (λ f. RemoveVectored f) args
call s at other args = bad (fault_at at UnknownName ++ faults_of args)

-- ---- expressions

abbrev pub changed : Option Arithmetic → ℕ → ℕ → ResolvedExpression → ResolvedExpression
    → ResolvedExpression
changed None at value_at a b = rule_2 value_at assigned (a.faults ++ b.faults) a.found b.found
changed (Some o) at value_at a b =
    rule_2 at (compound_assigned o) (a.faults ++ b.faults) a.found b.found

abbrev mutual
  pub resolve_expression : Names → Expression → ResolvedExpression
  resolve_expression s (trees.Constant at l) = good (literal l)
  resolve_expression s (trees.Variable n) = name n.start (s.entity n)
  resolve_expression s (trees.Information at f) =
      given_that s.information at InfoOutsideFilter [] (field f)
  resolve_expression s (trees.Call n es) = call s n.start (s.entity n) (resolve_arguments s es)
  resolve_expression s (trees.Parentheses at e) = resolve_expression s e
  resolve_expression s (trees.Index a at i) =
      rule_2 at element_of ((resolve_expression s a).faults ++ (resolve_expression s i).faults)
      (resolve_expression s a).found (resolve_expression s i).found
  resolve_expression s (trees.Postfix e o at) =
      given_that (is_lvalue s e) (start e) NotLvalue (resolve_expression s e).faults
      (rule_1 at (incremented Postfix o) (resolve_expression s e).faults
      (resolve_expression s e).found)
  resolve_expression s (trees.Prefix at o e) =
      given_that (is_lvalue s e) (start e) NotLvalue (resolve_expression s e).faults
      (rule_1 at (incremented Prefix o) (resolve_expression s e).faults
      (resolve_expression s e).found)
  resolve_expression s (trees.Unary at o e) =
      given_that (operand_is_lvalue o s e) (start e) NotLvalue (resolve_expression s e).faults
      (rule_1 at (unary_of o) (resolve_expression s e).faults (resolve_expression s e).found)
  resolve_expression s (trees.Cast at t e) =
      rule_1 at (cast_of t) (resolve_expression s e).faults (resolve_expression s e).found
  resolve_expression s (trees.Binary a at o b) =
      rule_2 at (binary_of o) ((resolve_expression s a).faults ++ (resolve_expression s b).faults)
      (resolve_expression s a).found (resolve_expression s b).found
  resolve_expression s (trees.Conditional c at a b) =
      rule_3 at conditional_of ((resolve_expression s c).faults ++ (resolve_expression s a).faults
      ++ (resolve_expression s b).faults) (resolve_expression s c).found
      (resolve_expression s a).found (resolve_expression s b).found
  resolve_expression s (trees.Assign a at o b) =
      given_that (is_lvalue s a) (start a) NotLvalue
      ((resolve_expression s a).faults ++ (resolve_expression s b).faults)
      (changed o at (start b) (resolve_expression s a) (resolve_expression s b))
  resolve_expression s (trees.Comma a at b) =
      rule_2 at comma_of ((resolve_expression s a).faults ++ (resolve_expression s b).faults)
      (resolve_expression s a).found (resolve_expression s b).found

  pub resolve_arguments : Names → trees.Arguments → List Argument
  resolve_arguments s trees.Done = []
  resolve_arguments s (trees.Next e es) =
      record {
        at = start e;
        resolved = resolve_expression s e;
        handler = resolve_handler s (start e) (name_of e) (resolve_expression s e);
      } ∷ resolve_arguments s es
