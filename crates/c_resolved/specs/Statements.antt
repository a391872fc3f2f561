-- Statements: what each is resolved to, and the rules that it breaks (C11, 6.8; Microsoft C
-- reference, "try-except statement", "try-finally statement"). Where there is a fault, what it is
-- resolved to means nothing.
use Rattle.std.specs.Prelude.{ℕ, ◌+◌, Bool, true, false, not, nat_eq, nat_lt, if◌then◌else◌, List, [], ◌∷◌, ◌++◌, length, Option, Some, None}
use Rattle.c_operations.specs.declared.operation.Size.{Size}
use Rattle.c_operations.specs.declared.operation.Size.TheVariants as sizes
use Rattle.c_checked.specs.declared.expression.Conversion.TheVariants.{Kept}
use Rattle.c_checked.specs.Expression as nodes
use Rattle.c_checked.specs.Statement as checked
use Rattle.c_checked.specs.Statement.{Declared, Filter, Always, Funclet}
use Rattle.c_syntax.specs.declared.declaration.Length.{Length}
use Rattle.c_syntax.specs.declared.expression.Base.{Base}
use Rattle.c_syntax.specs.declared.expression.CType.{CType}
use Rattle.c_syntax.specs.declared.expression.Literal.{Literal}
use Rattle.c_syntax.specs.declared.expression.Literal.TheVariants as literals
use Rattle.c_syntax.specs.declared.expression.Identifier.{Identifier}
use Rattle.c_syntax.specs.Expression as trees
use Rattle.c_syntax.specs.Expression.{Expression, start}
use Rattle.c_syntax.specs.Statement as statements
use Rattle.c_syntax.specs.Statement.{Statement, Statements, Local, ForInitialiser, Declaring, Evaluating}
use Rattle.c_resolved.specs.declared.fault.Fault.{Fault}
use Rattle.c_resolved.specs.declared.fault.Fault.TheVariants.{Duplicate, TypeClash, LeaveOutsideTry, JumpOutOfFinally, JumpOutsideLoop, BadInitialiser}
use Rattle.c_resolved.specs.declared.variable.Variable.{Variable}
use Rattle.c_resolved.specs.Types.{is_void, is_integer, is_scalar, size_of}
use Rattle.c_resolved.specs.Operators.{int, as_is, as_type, can_become}
use Rattle.c_resolved.specs.Expressions.{Entity, LocalVariable, LocalArray, BuiltInConstant, Names, FaultAt, fault_at, ResolvedExpression, resolve_expression}
use Rattle.c_resolved.specs.Scopes.{Scope, spelled, meaning_in, built_ins}

-- ---- where a statement is

-- what a jump finds: nothing, something beyond a `__finally` block around it, or something that it
-- can reach
pub data Reach : Type 0 where
  Nowhere : Reach
  Beyond : Reach
  Near : Reach

abbrev pub past_finally : Reach → Reach
past_finally Near = Beyond
past_finally r = r

-- the text; the names of the blocks around this one and of the file; the function's result; loops
-- and `__try` bodies around; whether a `return`, GetExceptionCode and AbnormalTermination may be
-- here
pub record Environment : Type 0 where
  pub text : List ℕ
  pub outer : Scope
  pub returns : CType
  pub loop : Reach
  pub body : Reach
  pub function : Reach
  pub code : Bool
  pub abnormal : Bool

-- the sizes of the function's variables so far, parameters first, and the variables; the number of
-- the next filter or `__finally` block
pub record Numbering : Type 0 where
  pub sizes : List Size
  pub variables : List Variable
  pub number : ℕ

-- what a statement is resolved to, the numbering after it, the names of its block after it, and its
-- faults
pub record ResolvedStatements : Type 0 where
  pub done : List checked.Statement
  pub counts : Numbering
  pub block : Scope
  pub faults : List FaultAt

abbrev pub entity_at : Environment → Scope → Identifier → Option Entity
entity_at a block n = meaning_in (built_ins ++ block ++ a.outer) (spelled a.text n)

abbrev pub names_at : Environment → Scope → Names
names_at a block =
    record { entity = entity_at a block; code = a.code; information = false; abnormal = a.abnormal }

abbrev pub filter_names : Environment → Scope → Names
filter_names a block =
    record { entity = entity_at a block; code = true; information = true; abnormal = a.abnormal }

abbrev pub inside : Environment → Scope → Environment
inside a block = record a { outer = block ++ a.outer }

-- ---- values

pub record Value : Type 0 where
  pub value : nodes.Expression
  pub faults : List FaultAt

abbrev pub nothing : nodes.Expression
nothing = nodes.On (nodes.Constant sizes.Int 0) Kept

abbrev pub unless_holds : Bool → ℕ → Fault → List FaultAt
unless_holds true at f = []
unless_holds false at f = fault_at at f

abbrev pub any : ResolvedExpression → Value
any j =
    elim j.found [
      | Some t ↦ record { value = as_is t; faults = j.faults }
      | None ↦ record
          { value = nothing; faults = j.faults }
    ]

-- an integer or a pointer, else a fault at the keyword
abbrev pub condition : ℕ → ResolvedExpression → Value
condition at j =
    elim j.found [
      | Some t ↦ record {
        value = as_is t;
        faults = j.faults
            ++ unless_holds (is_scalar t.type) at TypeClash;
      }
      | None ↦ record { value = nothing; faults = j.faults }
    ]

-- converted to a type, else a fault at its first token
abbrev pub to_type : CType → ℕ → ResolvedExpression → Value
to_type type at j =
    elim j.found [
      | Some t ↦ record {
        value = as_type type t;
        faults = j.faults
            ++ unless_holds (can_become type t) at TypeClash;
      }
      | None ↦ record { value = nothing; faults = j.faults }
    ]

-- an integer, converted to int
abbrev pub to_answer : ℕ → ResolvedExpression → Value
to_answer at j =
    elim j.found [
      | Some t ↦ record {
        value = as_type int t;
        faults = j.faults
            ++ unless_holds (is_integer t.type) at TypeClash;
      }
      | None ↦ record { value = nothing; faults = j.faults }
    ]

pub record Optional : Type 0 where
  pub value : Option nodes.Expression
  pub faults : List FaultAt

abbrev pub optional : (Expression → Value) → Option Expression → Optional
optional f None = record { value = None; faults = [] }
optional f (Some e) = record { value = Some (f e).value; faults = (f e).faults }

-- ---- declarations

abbrev pub is_some : Option Entity → Bool
is_some None = false
is_some (Some e) = true

-- a name that the block has already, or that is built in
abbrev pub is_taken : Scope → List ℕ → Bool
is_taken block name = is_some (meaning_in (built_ins ++ block) name)

abbrev pub with_name : Scope → List ℕ → Entity → Scope
with_name block name e = if is_taken block name then block else (name, e) ∷ block

-- an array has at least one element
abbrev pub length_faults : Option Length → List FaultAt
length_faults None = []
length_faults (Some l) = unless_holds (nat_lt 0 l.value) l.at TypeClash

abbrev pub local_entity : ℕ → CType → Option Length → Entity
local_entity number t None = LocalVariable number t
local_entity number t (Some l) = LocalArray number t

abbrev pub elements_of : Option Length → Option ℕ
elements_of None = None
elements_of (Some l) = Some l.value

abbrev pub variable_of : CType → Option ℕ → Variable
variable_of t elements = record { of = t; elements = elements }

-- an array has no initialiser
abbrev pub without_initialiser : Names → Option Expression → Optional
without_initialiser s None = record { value = None; faults = [] }
without_initialiser s (Some e) =
    record {
      value = None;
      faults = (resolve_expression s e).faults ++ fault_at (start e) BadInitialiser;
    }

abbrev pub local_value : Names → CType → Option Length → Option Expression → Optional
local_value s t None e = optional (λ x. to_type t (start x) (resolve_expression s x)) e
local_value s t (Some l) e = without_initialiser s e

-- a local: its name is visible in its own initialiser
abbrev pub declare : Environment → Base → Local → Scope → Numbering → ResolvedStatements
declare a base l block n =
    let type : CType = record { base = base; pointers = l.pointers } in
    let name = spelled a.text l.name in
    let number = length n.sizes in
    let after = with_name block name (local_entity number type l.length) in
    let value = local_value (names_at a after) type l.length l.initialiser in
    record {
      done = checked.Declare (record { local = number; stacked = None; value = value.value }) ∷ [];
      counts = record {
        sizes = n.sizes ++ size_of type ∷ [];
        variables = n.variables ++ variable_of type (elements_of l.length) ∷ [];
        number = n.number;
      };
      block = after;
      faults =
          unless_holds (not (is_taken block name)) l.name.start Duplicate
          ++ unless_holds (is_scalar type) l.name.start TypeClash ++ length_faults l.length
          ++ value.faults;
    }

abbrev pub follow : ResolvedStatements → ResolvedStatements → ResolvedStatements
follow m next =
    record {
      done = m.done ++ next.done;
      counts = next.counts;
      block = next.block;
      faults = m.faults ++ next.faults;
    }

abbrev pub none : Scope → Numbering → ResolvedStatements
none block n = record { done = []; counts = n; block = block; faults = [] }

abbrev pub declare_all : Environment → Base → List Local → Scope → Numbering → ResolvedStatements
declare_all a base [] block n = none block n
declare_all a base (l ∷ ls) block n =
    let m = declare a base l block n in follow m (declare_all a base ls m.block m.counts)

-- ---- statements

abbrev pub simple : checked.Statement → List FaultAt → Scope → Numbering → ResolvedStatements
simple s faults block n = record { done = s ∷ []; counts = n; block = block; faults = faults }

-- a statement that encloses resolved ones, in a block of its own
abbrev pub enclosed : Scope → ResolvedStatements → checked.Statement → List FaultAt
    → ResolvedStatements
enclosed block m s faults =
    record { done = s ∷ []; counts = m.counts; block = block; faults = faults ++ m.faults }

abbrev pub only : List checked.Statement → checked.Statement
only [] = checked.Evaluate None
only (s ∷ ss) = s

abbrev pub jump : Reach → Fault → ℕ → List FaultAt
jump Nowhere f at = fault_at at f
jump Beyond f at = fault_at at JumpOutOfFinally
jump Near f at = []

abbrev pub returned : Environment → Scope → ℕ → Option Expression → Optional
returned a block at None =
    record { value = None; faults = unless_holds (is_void a.returns) at TypeClash }
returned a block at (Some e) =
    let j = resolve_expression (names_at a block) e in
    if is_void a.returns then record { value = None; faults = j.faults ++ fault_at at TypeClash }
    else record {
      value = Some (to_type a.returns (start e) j).value;
      faults = (to_type a.returns (start e) j).faults;
    }

-- a literal 1 or the name of the accepting constant, parentheses aside
abbrev pub is_accepting : Option Entity → Bool
is_accepting (Some (BuiltInConstant n)) = nat_eq n 1
is_accepting other = false

abbrev pub is_one : Literal → Bool
is_one (literals.Integer n of) = nat_eq n 1
is_one (literals.CharacterConstant c) = false

abbrev pub always : Environment → Scope → Expression → Bool
always a block (trees.Constant at l) = is_one l
always a block (trees.Variable n) = is_accepting (entity_at a block n)
always a block (trees.Parentheses at e) = always a block e
always a block other = false

pub record ResolvedFilter : Type 0 where
  pub filter : Filter
  pub number : ℕ
  pub faults : List FaultAt

abbrev pub resolve_filter : Environment → Scope → Expression → ℕ → ResolvedFilter
resolve_filter a block e number =
    if always a block e then record { filter = Always; number = number; faults = [] }
    else (
    let v = to_answer (start e) (resolve_expression (filter_names a block) e) in
    record { filter = Funclet number v.value; number = number + 1; faults = v.faults })

abbrev pub with_number : Numbering → ℕ → Numbering
with_number n number = record n { number = number }

pub record ResolvedForInitialiser : Type 0 where
  pub declared : List Declared
  pub first : Optional
  pub resolved : ResolvedStatements

abbrev pub names_only : List checked.Statement → List Declared
names_only [] = []
names_only (checked.Declare d ∷ ss) = d ∷ names_only ss
names_only (s ∷ ss) = names_only ss

-- what a `for` does first, in a block of its own
abbrev pub resolve_for_initialiser : Environment → ForInitialiser → Numbering
    → ResolvedForInitialiser
resolve_for_initialiser a (Declaring base ls) n =
    let m = declare_all a base ls [] n in record {
      declared = names_only m.done;
      first = record { value = None; faults = [] };
      resolved = m;
    }
resolve_for_initialiser a (Evaluating e) n =
    record {
      declared = [];
      first = optional (λ e. any (resolve_expression (names_at a []) e)) e;
      resolved = none [] n;
    }

-- A statement that is a part of another is a block of its own, whose names end with it (C11, 6.8.4
-- p3 and 6.8.5 p5).
abbrev mutual
  pub resolve_statement : Statement → Environment → Scope → Numbering → ResolvedStatements
  resolve_statement (statements.Declare base ls) a block n = declare_all a base ls block n
  resolve_statement (statements.Block ss) a block n =
      let m = resolve_statements ss (inside a block) [] n
      in enclosed block m (checked.Block (checked.statements m.done)) []
  resolve_statement (statements.Evaluate e) a block n =
      let v = optional (λ e. any (resolve_expression (names_at a block) e)) e
      in simple (checked.Evaluate v.value) v.faults block n
  resolve_statement (statements.If at c s) a block n =
      let v = condition at (resolve_expression (names_at a block) c) in
      let m = resolve_statement s (inside a block) [] n in
      enclosed block m (checked.If v.value (only m.done)) v.faults
  resolve_statement (statements.IfElse at c s t) a block n =
      let v = condition at (resolve_expression (names_at a block) c) in
      let m = resolve_statement s (inside a block) [] n in
      let k = resolve_statement t (inside a block) [] m.counts in
      enclosed block (follow m k) (checked.IfElse v.value (only m.done) (only k.done)) v.faults
  resolve_statement (statements.While at c s) a block n =
      let v = condition at (resolve_expression (names_at a block) c) in
      let m = resolve_statement s (record (inside a block) { loop = Near }) [] n in
      enclosed block m (checked.For [] None (Some v.value) None (only m.done)) v.faults
  resolve_statement (statements.DoWhile s at c) a block n =
      let m = resolve_statement s (record (inside a block) { loop = Near }) [] n in
      let v = condition at (resolve_expression (names_at a block) c) in
      enclosed block m (checked.DoWhile (only m.done) v.value) v.faults
  resolve_statement (statements.For at f c next s) a block n =
      let b = resolve_for_initialiser (inside a block) f n in
      let here = inside a block in
      let v =
      optional (λ e. condition at (resolve_expression (names_at here b.resolved.block) e)) c in
      let w = optional (λ e. any (resolve_expression (names_at here b.resolved.block) e)) next in
      let m =
      resolve_statement s (record (inside here b.resolved.block) { loop = Near }) []
      b.resolved.counts in
      enclosed block m (checked.For b.declared b.first.value v.value w.value (only m.done))
      (b.resolved.faults ++ b.first.faults ++ v.faults ++ w.faults)
  resolve_statement (statements.Return at e) a block n =
      let v = returned a block at e in
      simple (checked.Return v.value) (jump a.function JumpOutOfFinally at ++ v.faults) block n
  resolve_statement (statements.Break at) a block n =
      simple checked.Break (jump a.loop JumpOutsideLoop at) block n
  resolve_statement (statements.Continue at) a block n =
      simple checked.Continue (jump a.loop JumpOutsideLoop at) block n
  resolve_statement (statements.Leave at) a block n =
      simple checked.Leave (jump a.body LeaveOutsideTry at) block n
  resolve_statement (statements.TryExcept body at f handler) a block n =
      let here = inside a block in
      let m = resolve_statements body (record here { body = Near }) [] n in
      let q = resolve_filter a block f m.counts.number in
      let k =
      resolve_statements handler (record here { code = true }) []
      (with_number m.counts q.number) in
      enclosed block (follow m k) (checked.TryExcept (checked.statements m.done) q.filter
      (checked.statements k.done)) q.faults
  resolve_statement (statements.TryFinally body at finally_block) a block n =
      let here = inside a block in
      let m = resolve_statements body (record here { body = Near }) [] n in
      let number = m.counts.number in
      let k =
      resolve_statements finally_block (record here {
        loop = past_finally a.loop;
        body = past_finally a.body;
        function = Beyond;
        abnormal = true;
      }) []
      (with_number m.counts (number + 1)) in
      enclosed block (follow m k) (checked.TryFinally (checked.statements m.done) number
      (checked.statements k.done)) []

  pub resolve_statements : Statements → Environment → Scope → Numbering → ResolvedStatements
  resolve_statements statements.Empty a block n = none block n
  resolve_statements (statements.Then s ss) a block n =
      let m = resolve_statement s a block n in follow m (resolve_statements ss a m.block m.counts)
