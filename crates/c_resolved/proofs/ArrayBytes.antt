-- How many bytes the variables of a function take at most: those of its arrays, which the text
-- limits, and so many for each variable.
use Rattle.std.proofs.Common.{◌≡◌, ◌≤◌, ℕ, ◌+◌, ◌*◌, refl, ap, sym, arith, subst}
use Rattle.std.proofs.lemmas.Bool.{lt-ltb}
use Rattle.std.specs.Prelude.{zero, suc, true, List, [], ◌∷◌, ◌++◌, map, length, Option, Some, None}
use Rattle.c_resolved.specs.Words.{is_scalar, size_of_base, size, aligned, Base, Void, Char, UnsignedChar, Short, UnsignedShort, Int, Unsigned, LongLong, UnsignedLongLong, CType, Length, Parameter, Local, ForInitialiser, Declaring, Evaluating, Statement, Statements, Scope, Near, Beyond, past_finally, with_number, Environment, Numbering, inside, declare, declare_all, resolve_filter, resolve_for_initialiser, resolve_statement, resolve_statements, variable_of, elements_of, Variable, stored_bytes, element_count, end_of, locals_of_for_initialiser, parameter_variable}
use Rattle.c_syntax.specs.Limits as limits
use Rattle.c_syntax.specs.Statement as statements
use Rattle.c_resolved.proofs.Globals.{stored}
use Rattle.c_resolved.proofs.TypeFacts.{pointer_scalar}

-- ---- sizes and alignment

pointers_scalar : (b : Base) (p : ℕ) → is_scalar (record { base = b; pointers = suc p }) ≡ true
pointers_scalar b p = pointer_scalar (record { base = b; pointers = suc p })
    (lt-ltb 0 (suc p) (omega arith))

-- what a variable takes, also one of type void
pub stored_is : (b : Base) (p : ℕ) → stored_bytes (record { base = b; pointers = p }) ≡ size b p
stored_is Void zero = refl
stored_is Void (suc p) = stored Void (suc p) (pointers_scalar Void p)
stored_is Char zero = refl
stored_is Char (suc p) = stored Char (suc p) (pointers_scalar Char p)
stored_is UnsignedChar zero = refl
stored_is UnsignedChar (suc p) = stored UnsignedChar (suc p) (pointers_scalar UnsignedChar p)
stored_is Short zero = refl
stored_is Short (suc p) = stored Short (suc p) (pointers_scalar Short p)
stored_is UnsignedShort zero = refl
stored_is UnsignedShort (suc p) = stored UnsignedShort (suc p) (pointers_scalar UnsignedShort p)
stored_is Int zero = refl
stored_is Int (suc p) = stored Int (suc p) (pointers_scalar Int p)
stored_is Unsigned zero = refl
stored_is Unsigned (suc p) = stored Unsigned (suc p) (pointers_scalar Unsigned p)
stored_is LongLong zero = refl
stored_is LongLong (suc p) = stored LongLong (suc p) (pointers_scalar LongLong p)
stored_is UnsignedLongLong zero = refl
stored_is UnsignedLongLong (suc p) =
    stored UnsignedLongLong (suc p) (pointers_scalar UnsignedLongLong p)

-- a place that is aligned is at most seven bytes on
abbrev IsNear : ℕ → ℕ → Type 0
IsNear at n = (at ≤ aligned at n) × (aligned at n ≤ at + 7) × (n ≤ 8)

near_base : (b : Base) (at : ℕ) → IsNear at (size_of_base b)
near_base Void at = (omega arith, omega arith, omega arith)
near_base Char at = (omega arith, omega arith, omega arith)
near_base UnsignedChar at = (omega arith, omega arith, omega arith)
near_base Short at = (omega arith, omega arith, omega arith)
near_base UnsignedShort at = (omega arith, omega arith, omega arith)
near_base Int at = (omega arith, omega arith, omega arith)
near_base Unsigned at = (omega arith, omega arith, omega arith)
near_base LongLong at = (omega arith, omega arith, omega arith)
near_base UnsignedLongLong at = (omega arith, omega arith, omega arith)

near : (b : Base) (p at : ℕ) → IsNear at (size b p)
near b zero at = near_base b at
near b (suc p) at = (omega arith, omega arith, omega arith)

-- ---- room for variables

abbrev pub variable_room : Variable → ℕ
variable_room v = 8 + stored_bytes v.of * element_count v.elements

abbrev pub room : List Variable → ℕ
room [] = 0
room (v ∷ vs) = variable_room v + room vs

pub placed_near : (v : Variable) (at : ℕ) → IsNear at (stored_bytes v.of)
placed_near v at = subst (IsNear at) (sym (stored_is v.of.base v.of.pointers))
    (near v.of.base v.of.pointers at)

pub ends_near : (v : Variable) (at : ℕ) → end_of v at ≤ at + variable_room v
ends_near v at = let h = placed_near v at in omega (arith, h.1)

room_append : (vs ws : List Variable) → room (vs ++ ws) ≡ room vs + room ws
room_append [] ws = omega arith
room_append (v ∷ vs) ws = let h = room_append vs ws in omega (arith, h)

-- between two states so many locals are declared, and arrays that end there
abbrev Holds : Numbering → Numbering → ℕ → (ℕ → ℕ) → Type 0
Holds n p l end = (from : ℕ) → room p.variables + from ≤ room n.variables + 16 * l + end from

none_holds : (n : Numbering) → Holds n n 0 (λ at. at)
none_holds n from = omega arith

-- ---- declarations

local_room : (b : Base) (p : ℕ) (l : Option Length) (from : ℕ)
    → variable_room (variable_of (record { base = b; pointers = p }) (elements_of l)) + from
    ≤ 16 + limits.end_of_local b p l from
local_room b p None from =
    let h = near b p 0 in let e = stored_is b p in
    let few : stored_bytes (record { base = b; pointers = p }) ≤ 8 = omega (arith, h.2, e) in
    omega (arith, few)
local_room b p (Some l) from =
    let h = near b p from in
    let e : stored_bytes (record { base = b; pointers = p }) * l.value ≡ size b p * l.value =
    ap (λ k. k * l.value) (stored_is b p) in
    omega (arith, h.0, e)

declare_holds : (a : Environment) (base : Base) (l : Local) (block : Scope) (n : Numbering)
    → Holds n (declare a base l block n).counts 1 (limits.end_of_local base l.pointers l.length)
declare_holds a base l block n from =
    let type : CType = record { base = base; pointers = l.pointers } in
    let v = variable_of type (elements_of l.length) in
    let e = room_append n.variables (v ∷ []) in
    let h = local_room base l.pointers l.length from in
    omega (arith, e, h)

declare_all_holds : (a : Environment) (base : Base) (ls : List Local) (block : Scope)
    (n : Numbering)
    → Holds n (declare_all a base ls block n).counts (length ls) (limits.end_of_locals base ls)
declare_all_holds a base [] block n from = none_holds n from
declare_all_holds a base (l ∷ ls) block n from =
    let m = declare a base l block n in
    let h = declare_holds a base l block n from in
    let k = declare_all_holds a base ls m.block m.counts
    (limits.end_of_local base l.pointers l.length from) in
    omega (arith, h, k)

first_holds : (a : Environment) (f : ForInitialiser) (n : Numbering)
    → Holds n (resolve_for_initialiser a f n).resolved.counts (locals_of_for_initialiser f)
    (limits.end_of_for_initialiser f)
first_holds a (Declaring base ls) n = declare_all_holds a base ls [] n
first_holds a (Evaluating e) n = none_holds n

-- ---- statements

mutual
  statement_holds : (s : Statement) (a : Environment) (block : Scope) (n : Numbering)
      → Holds n (resolve_statement s a block n).counts (limits.locals s) (limits.end_of_arrays s)
  statement_holds (statements.Declare base ls) a block n from =
      declare_all_holds a base ls block n from
  statement_holds (statements.Block ss) a block n from = statements_hold ss (inside a block) [] n
      from
  statement_holds (statements.Evaluate e) a block n from = none_holds n from
  statement_holds (statements.If at c s) a block n from = statement_holds s (inside a block) [] n
      from
  statement_holds (statements.IfElse at c s t) a block n from =
      let m = resolve_statement s (inside a block) [] n in
      let h = statement_holds s (inside a block) [] n from in
      let k = statement_holds t (inside a block) [] m.counts (limits.end_of_arrays s from) in
      omega (arith, h, k)
  statement_holds (statements.While at c s) a block n from =
      statement_holds s (record (inside a block) { loop = Near }) [] n from
  statement_holds (statements.DoWhile s at c) a block n from =
      statement_holds s (record (inside a block) { loop = Near }) [] n from
  statement_holds (statements.For at f c next s) a block n from =
      let b = resolve_for_initialiser (inside a block) f n in
      let here = record (inside (inside a block) b.resolved.block) { loop = Near } in
      let h = first_holds (inside a block) f n from in
      let k = statement_holds s here [] b.resolved.counts (limits.end_of_for_initialiser f from) in
      omega (arith, h, k)
  statement_holds (statements.Return at e) a block n from = none_holds n from
  statement_holds (statements.Break at) a block n from = none_holds n from
  statement_holds (statements.Continue at) a block n from = none_holds n from
  statement_holds (statements.Leave at) a block n from = none_holds n from
  statement_holds (statements.TryExcept body at f handler) a block n from =
      let here = inside a block in
      let m = resolve_statements body (record here { body = Near }) [] n in
      let after = with_number m.counts (resolve_filter a block f m.counts.number).number in
      let h = statements_hold body (record here { body = Near }) [] n from in
      let k = statements_hold handler (record here { code = true }) [] after
      (limits.end_of_all_arrays body from) in
      omega (arith, h, k)
  statement_holds (statements.TryFinally body at last) a block n from =
      let here = inside a block in
      let m = resolve_statements body (record here { body = Near }) [] n in
      let after = with_number m.counts (m.counts.number + 1) in
      let there = record here {
        loop = past_finally a.loop;
        body = past_finally a.body;
        function = Beyond;
        abnormal = true;
      } in
      let h = statements_hold body (record here { body = Near }) [] n from in
      let k = statements_hold last there [] after (limits.end_of_all_arrays body from) in
      omega (arith, h, k)

  pub statements_hold : (ss : Statements) (a : Environment) (block : Scope) (n : Numbering)
      → Holds n (resolve_statements ss a block n).counts (limits.locals_of_all ss)
      (limits.end_of_all_arrays ss)
  statements_hold statements.Empty a block n from = none_holds n from
  statements_hold (statements.Then s ss) a block n from =
      let m = resolve_statement s a block n in
      let h = statement_holds s a block n from in
      let k = statements_hold ss a m.block m.counts (limits.end_of_arrays s from) in
      omega (arith, h, k)

-- ---- parameters

pub parameters_room : (ps : List Parameter)
    → room (map parameter_variable ps) ≤ 16 * length ps
parameters_room [] = omega arith
parameters_room (p ∷ ps) =
    let h = placed_near (parameter_variable p) 0 in
    let k = parameters_room ps in
    omega (arith, h.2, k)
