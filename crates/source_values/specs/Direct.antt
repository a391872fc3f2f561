-- The value of an expression where finding it changes nothing and raises nothing: it is found at
-- once, and nothing has to wait for it.
--
-- `node_value`, `address`: of an expression that changes nothing, calls nothing and raises nothing
-- its value, or the address of a place, with the steps that are left of so many. There is none
-- where one of these isn't so, or no step is left.
--
-- The main definitions: `Surroundings`, `Change`, `change`, `written`.
use Rattle.std.specs.Prelude.{ℕ, ◌-◌, Bool, true, false, not, nat_eq, List, slice_index, Option, Some}
use Rattle.std.specs.Prelude.{None, option_map}
use Rattle.flat_memory.specs.Memory.{Memory}
use Rattle.c_operations.specs.declared.operation.Operation.{Operation}
use Rattle.c_operations.specs.declared.operation.Operation.TheVariants.{Load, Store}
use Rattle.c_operations.specs.declared.operation.Pure.TheVariants.{Add}
use Rattle.c_operations.specs.declared.operation.Size.TheVariants.{Long}
use Rattle.c_operations.specs.Numbers.{result_of}
use Rattle.c_operations.specs.Performed.{OperationResult, Gives, performed}
use Rattle.c_checked.specs.declared.expression.Access.{Access}
use Rattle.c_checked.specs.Expression as nodes
use Rattle.c_checked.specs.Expression.{Expression, On, Node, Lvalue, Local, Global, Stacked}
use Rattle.c_checked.specs.Expression.{Indirection, Element}
use Rattle.source_meaning.specs.State.{Exception, State, set_local, set_memory}
use Rattle.source_meaning.specs.Expressions.{of_test, converted, value_of, apart, field_of}
use Rattle.source_meaning.specs.Expressions.{incremented_value}
use Rattle.source_machine.specs.Frames.{Place}
use Rattle.source_operations.specs.Outcomes.{computed}

-- what an expression is evaluated in: the locals of its activation, memory, the addresses of which
-- the language says nothing, and what its filter, block or `__finally` block asks
pub record Surroundings : Type 0 where
  pub locals : List ℕ
  pub memory : Memory
  pub reserved : ℕ → Bool
  pub exception : Exception
  pub abnormal : Bool

-- a task counts one of the steps that are left
abbrev pub counted : {A : Type 0} → Bool → ℕ → (ℕ → Option A) → Option A
counted true left go = None
counted false left go = go (left - 1)

-- continues with a value and the steps that are left after it
abbrev pub then_with : {A : Type 0} → Option (ℕ × ℕ) → (ℕ → ℕ → Option A) → Option A
then_with None go = None
then_with (Some x) go = go x.0 x.1

-- a value, with the steps that are left
abbrev pub with_left : Option ℕ → ℕ → Option (ℕ × ℕ)
with_left None left = None
with_left (Some v) left = Some (v, left)

-- 1 where a value isn't 0, and else 0
abbrev pub tested : Option (ℕ × ℕ) → Option (ℕ × ℕ)
tested v = then_with v (λ y left. Some (of_test (not (nat_eq y 0)), left))

abbrev pub either : Bool → Option (ℕ × ℕ) → Option (ℕ × ℕ) → Option (ℕ × ℕ)
either true one other = one
either false one other = other

-- where a variable on the data stack stands, by the local that keeps its base
abbrev pub stacked_address : Surroundings → (base offset : ℕ) → ℕ
stacked_address k base offset = result_of (Add Long) (slice_index k.locals base) offset

-- ---- what is at a place that was located

abbrev pub loaded : Surroundings → Access → ℕ → Option ℕ
loaded k access a =
    option_map (value_of access) (computed k.reserved (Load access.width) a 0 k.memory)

abbrev pub read : Surroundings → Lvalue → ℕ → Option ℕ
read k (Local x) a = Some (slice_index k.locals x)
read k (Global access _) a = loaded k access a
read k (Stacked access _ _) a = loaded k access a
read k (Indirection access _) a = loaded k access a
read k (Element access _ _) a = loaded k access a

-- ---- expressions, with so many steps left

abbrev mutual
  pub value : Surroundings → Expression → ℕ → Option (ℕ × ℕ)
  value k (On n c) left =
      counted (nat_eq left 0) left
      (λ left. then_with (node_value k n left) (λ v left. Some (converted c v, left)))

  pub address : Surroundings → Lvalue → ℕ → Option (ℕ × ℕ)
  address k (Local x) left = Some (0, left)
  address k (Global access a) left = Some (a, left)
  address k (Stacked access base offset) left = Some (stacked_address k base offset, left)
  address k (Indirection access e) left = value k e left
  address k (Element access e i) left =
      then_with (value k e left) (λ a left.
      then_with (value k i left) (λ n left. Some (result_of (Add Long) a n, left)))

  pub node_value : Surroundings → Node → ℕ → Option (ℕ × ℕ)
  node_value k (nodes.Constant z v) left = Some (v, left)
  node_value k (nodes.StackedArray base offset) left =
      Some (stacked_address k base offset, left)
  node_value k (nodes.Read l) left =
      then_with (address k l left) (λ a left. with_left (read k l a) left)
  node_value k (nodes.AddressOf l) left =
      counted (nat_eq left 0) left (λ left. address k l left)
  node_value k (nodes.Unary o e) left =
      then_with (value k e left) (λ v left. Some (result_of o v 0, left))
  node_value k (nodes.Binary o e f) left =
      then_with (value k e left) (λ x left. then_with (value k f left)
      (λ y left. with_left (computed k.reserved o x y k.memory) left))
  node_value k (nodes.PointerDifference size e f) left =
      then_with (value k e left) (λ x left. then_with (value k f left)
      (λ y left. Some (apart size x y, left)))
  node_value k (nodes.Not e) left =
      then_with (value k e left) (λ v left. Some (of_test (nat_eq v 0), left))
  node_value k (nodes.And e f) left =
      then_with (value k e left) (λ x left. either (nat_eq x 0) (Some (0, left))
      (tested (value k f left)))
  node_value k (nodes.Or e f) left =
      then_with (value k e left)
      (λ x left. either (nat_eq x 0) (tested (value k f left)) (Some (1, left)))
  node_value k (nodes.Conditional c e f) left =
      then_with (value k c left)
      (λ x left. either (nat_eq x 0) (value k f left) (value k e left))
  node_value k (nodes.Comma e f) left =
      then_with (value k e left) (λ x left. value k f left)
  node_value k nodes.ExceptionCode left = Some (k.exception.code, left)
  node_value k (nodes.Information f) left = Some (field_of f k.exception, left)
  node_value k nodes.AbnormalTermination left = Some (of_test k.abnormal, left)
  node_value k n left = None

-- ---- expressions that change one place, after all that they evaluate

-- what is left to do: the place with its address, what is written there, the expression's value
-- then, without its conversion, and the steps that are left
pub record Change : Type 0 where
  pub target : Lvalue
  pub address : ℕ
  pub written : ℕ
  pub value : ℕ
  pub left : ℕ

-- a place's address and what is there, with the steps that are left
abbrev pub with_old : ℕ → Option ℕ → ℕ → Option ((ℕ × ℕ) × ℕ)
with_old a None left = None
with_old a (Some x) left = Some ((a, x), left)

abbrev pub fetched : Surroundings → Lvalue → ℕ → Option ((ℕ × ℕ) × ℕ)
fetched k l left =
    counted (nat_eq left 0) left
    (λ left. then_with (address k l left) (λ a left. with_old a (read k l a) left))

abbrev pub then_fetched : {A : Type 0} → Option ((ℕ × ℕ) × ℕ) → (ℕ → ℕ → ℕ → Option A) → Option A
then_fetched None go = None
then_fetched (Some x) go = go x.0.0 x.0.1 x.1

-- an operation on a number and a value
abbrev pub operated : Surroundings → Operation → Option (ℕ × ℕ) → ℕ → Option (ℕ × ℕ)
operated k o y x =
    then_with y (λ y left. with_left (computed k.reserved o x y k.memory) left)

abbrev pub change : Surroundings → Node → ℕ → Option Change
change k (nodes.Assign l e) left =
    counted (nat_eq left 0) left (λ left. then_with (address k l left)
    (λ a left. then_with (value k e left) (λ v left. Some (record {
      target = l;
      address = a;
      written = v;
      value = v;
      left = left;
    }))))
change k (nodes.CompoundAssign l before o e after) left =
    then_fetched (fetched k l left)
    (λ a x left. then_with (operated k o (value k e left) (converted before x))
    (λ z left. Some (record {
      target = l;
      address = a;
      written = converted after z;
      value = converted after z;
      left = left;
    })))
change k (nodes.Increment m l before o n after) left =
    then_fetched (fetched k l left)
    (λ a x left. then_with (with_left (computed k.reserved o (converted before x) n k.memory) left)
    (λ z left. Some (record {
      target = l;
      address = a;
      written = converted after z;
      value = incremented_value m x (converted after z);
      left = left;
    })))
change k n left = None

-- what a place is written to in a state
abbrev pub stored : State → OperationResult → Option State
stored st (Gives v memory) = Some (set_memory st memory)
stored st other = None

-- the state after that; none where the access faults
abbrev pub written : (ℕ → Bool) → State → Place → Lvalue → ℕ → ℕ → Option State
written reserved st p (Local x) a v = Some (set_local st p.activation x v)
written reserved st p (Global access _) a v =
    stored st (performed reserved (Store access.width) a v st.memory)
written reserved st p (Stacked access _ _) a v =
    stored st (performed reserved (Store access.width) a v st.memory)
written reserved st p (Indirection access _) a v =
    stored st (performed reserved (Store access.width) a v st.memory)
written reserved st p (Element access _ _) a v =
    stored st (performed reserved (Store access.width) a v st.memory)
