-- The code of an expression takes no more than its room.
use Rattle.std.proofs.Common.{◌≡◌, ℕ, ◌+◌, ◌≤◌, List, [], ◌∷◌, ◌++◌, Option, Some, None, sym, arith, zero-add}
use Rattle.text_bounds.specs.Words.{Conversion, Expression, Node, Lvalue, Temporary, Instruction, expression_size, constant, copy, expression_code, instruction_room, code_room, conversion_room, read_room, write_room, expression_room, locate_room, arguments_room, node_room, On, Global, Stacked, Indirection, Element, Arguments, Done, Next, Jump, JumpIfZero, Call, CallBuiltIn, address_count, read_size, locate_size, conversion_size, combine, argument_count, chosen_of, conversion_code, unary_code, choice_code, code_code, abnormal_code, read_code, write_code, address_code, locate_code, arguments_code, node_code, address_room}
use Rattle.c_operations.specs.declared.operation.Operation.TheVariants.{Pure, Divide}
use Rattle.c_operations.specs.declared.operation.Signedness.TheVariants.{Signed}
use Rattle.c_operations.specs.declared.operation.Size.TheVariants.{Long}
use Rattle.c_operations.specs.declared.operation.Pure.{Pure as Pure'}
use Rattle.c_operations.specs.declared.operation.Pure.TheVariants as pures
use Rattle.c_checked.specs.declared.expression.Conversion.TheVariants as conversions
use Rattle.c_checked.specs.Expression as nodes
use Rattle.lowering_expressions.specs.declared.scope.ExceptionSource.{ExceptionSource}
use Rattle.lowering_expressions.specs.declared.scope.ExceptionSource.TheVariants.{NoException, OfFilter, KeptIn}
use Rattle.lowering_expressions.specs.declared.scope.Names.{Names}
use Rattle.x64_emit.proofs.Nearby.{operation_room_small}

pub room_append : (is js : List Instruction) → code_room (is ++ js) ≡ code_room is + code_room js
room_append [] js = sym (zero-add (code_room js))
room_append (i ∷ is) js = let r = room_append is js in omega arith

-- ---- pieces

converted : (c : Conversion) (d : ℕ) → code_room (conversion_code c d) ≤ conversion_room c
converted conversions.Kept d = omega arith
converted (conversions.Extend s from size) d = omega arith
converted (conversions.Scale s from by) d = omega arith

read : (p : Lvalue) (address to : ℕ) → code_room (read_code p address to) ≤ read_room p
read (nodes.Local x) address to = omega arith
read p address to = omega arith

written : (p : Lvalue) (address from to : ℕ) → instruction_room (write_code p address from to)
    ≤ write_room p
written (nodes.Local x) address from to = omega arith
written p address from to = omega arith

addressed : (p : Lvalue) (d : ℕ) (located : List Instruction) (n : ℕ) → code_room located ≤ n
    → code_room (address_code p d located) ≤ address_room p n
addressed (nodes.Local x) d located n h = omega arith
addressed (Global access a) d located n h = h
addressed (Stacked access base offset) d located n h = h
addressed (Indirection access e) d located n h = h
addressed (Element access e i) d located n h = h

unary : (o : Pure') (d : ℕ) → code_room (unary_code o d) ≤ 73
unary pures.First d = omega arith
unary (pures.MultiplyBy n) d = omega arith
unary o d = omega arith

coded : (e : ExceptionSource) (d : ℕ) → instruction_room (code_code e d) ≤ 51
coded NoException d = omega arith
coded OfFilter d = omega arith
coded (KeptIn x) d = omega arith

abnormal : (o : Option ℕ) (d : ℕ) → instruction_room (abnormal_code o d) ≤ 51
abnormal None d = omega arith
abnormal (Some x) d = omega arith

-- two operands, and what comes after them
two : (xs ys more : List Instruction) (k m n : ℕ) → code_room xs ≤ k → code_room ys ≤ m
    → code_room more ≤ n → code_room (xs ++ (ys ++ more)) ≤ k + (m + n)
two xs ys more k m n a b c = omega (arith, room_append xs (ys ++ more), room_append ys more)

-- ---- expressions

mutual
  pub expression_bound : (names : Names) (e : Expression) (d at : ℕ)
      → code_room (expression_code names e d at) ≤ expression_room e
  expression_bound names (On n c) d at =
      let a = node_bound names n d at in
      let b = converted c d in
      omega (arith, room_append (node_code names n d at) (conversion_code c d))

  locate_bound : (names : Names) (p : Lvalue) (d at : ℕ)
      → code_room (locate_code names p d at) ≤ locate_room p
  locate_bound names (nodes.Local x) d at = omega arith
  locate_bound names (Global access a) d at = omega arith
  locate_bound names (Stacked access base offset) d at = omega arith
  locate_bound names (Indirection access e) d at = expression_bound names e d at
  locate_bound names (Element access e i) d at =
      two (expression_code names e d at) (expression_code names i (d + 1) (at + expression_size e))
      (combine d (Pure (pures.Add Long)) ∷ []) (expression_room e) (expression_room i) 35
      (expression_bound names e d at) (expression_bound names i (d + 1) (at + expression_size e))
      (omega arith)

  arguments_bound : (names : Names) (es : Arguments) (d at : ℕ)
      → code_room (arguments_code names es d at) ≤ arguments_room es
  arguments_bound names Done d at = omega arith
  arguments_bound names (Next e es) d at =
      let a = expression_bound names e d at in
      let b = arguments_bound names es (d + 1) (at + expression_size e) in
      omega (
        arith,
        room_append (expression_code names e d at)
            (arguments_code names es (d + 1) (at + expression_size e)),
      )

  node_bound : (names : Names) (n : Node) (d at : ℕ)
      → code_room (node_code names n d at) ≤ node_room n
  node_bound names (nodes.Constant z n) d at = omega arith
  node_bound names (nodes.StackedArray base offset) d at = omega arith
  node_bound names (nodes.Read p) d at =
      let a = locate_bound names p d at in
      let b = read p d d in
      omega (arith, room_append (locate_code names p d at) (read_code p d d))
  node_bound names (nodes.AddressOf p) d at = addressed p d (locate_code names p d at)
      (locate_room p) (locate_bound names p d at)
  node_bound names (nodes.Assign p e) d at =
      let value = expression_code names e (d + address_count p) (at + locate_size p) in
      let last = write_code p d (d + address_count p) d ∷ [] in
      let a = locate_bound names p d at in
      let b = expression_bound names e (d + address_count p) (at + locate_size p) in
      let w = written p d (d + address_count p) d in
      omega (arith, room_append (locate_code names p d at) (value ++ last), room_append value last)
  node_bound names (nodes.CompoundAssign p before o e after) d at =
      let old = d + address_count p in
      let from = at + (locate_size p + (read_size p + conversion_size before)) in
      let last = write_code p d old d ∷ [] in
      let done = combine old o ∷ (conversion_code after old ++ last) in
      let value = expression_code names e (old + 1) from in
      let a = locate_bound names p d at in
      let r = read p d old in
      let b = converted before old in
      let v = expression_bound names e (old + 1) from in
      let f = converted after old in
      let w = written p d old d in
      let s = operation_room_small o in
      omega (
        arith,
        room_append (locate_code names p d at)
            (read_code p d old ++ (conversion_code before old ++ (value ++ done))),
        room_append (read_code p d old) (conversion_code before old ++ (value ++ done)),
        room_append (conversion_code before old) (value ++ done),
        room_append value done,
        room_append (conversion_code after old) last,
      )
  node_bound names (nodes.Increment m p before o n after) d at =
      let old = d + address_count p in
      let last = write_code p d (old + 1) (old + 1)
      ∷ copy (Temporary d) (Temporary (chosen_of m old)) ∷ [] in
      let done = constant (old + 2) n ∷ combine (old + 1) o
      ∷ (conversion_code after (old + 1) ++ last) in
      let new = copy (Temporary (old + 1)) (Temporary old)
      ∷ (conversion_code before (old + 1) ++ done) in
      let a = locate_bound names p d at in
      let r = read p d old in
      let b = converted before (old + 1) in
      let f = converted after (old + 1) in
      let w = written p d (old + 1) (old + 1) in
      let s = operation_room_small o in
      omega (
        arith,
        room_append (locate_code names p d at) (read_code p d old ++ new),
        room_append (read_code p d old) new,
        room_append (conversion_code before (old + 1)) done,
        room_append (conversion_code after (old + 1)) last,
      )
  node_bound names (nodes.Unary o e) d at =
      let a = expression_bound names e d at in
      let b = unary o d in
      omega (arith, room_append (expression_code names e d at) (unary_code o d))
  node_bound names (nodes.Binary o e f) d at =
      two (expression_code names e d at) (expression_code names f (d + 1) (at + expression_size e))
      (combine d o ∷ []) (expression_room e) (expression_room f) 53
      (expression_bound names e d at) (expression_bound names f (d + 1) (at + expression_size e))
      (let s = operation_room_small o in omega arith)
  node_bound names (nodes.PointerDifference n e f) d at =
      two (expression_code names e d at) (expression_code names f (d + 1) (at + expression_size e))
      (combine d (Pure (pures.Subtract Long)) ∷ constant (d + 1) n
      ∷ combine d (Divide Signed Long) ∷ []) (expression_room e) (expression_room f) 105
      (expression_bound names e d at) (expression_bound names f (d + 1)
      (at + expression_size e)) (omega arith)
  node_bound names (nodes.Not e) d at =
      let a = expression_bound names e d at in
      omega (
        arith,
        room_append (expression_code names e d at)
            (choice_code d (at + expression_size e) 1 0),
      )
  node_bound names (nodes.And e f) d at =
      let second = at + expression_size e + 1 in
      let last = choice_code d (second + expression_size f) 0 1 in
      let a = expression_bound names e d at in
      let b = expression_bound names f d second in
      omega (
        arith,
        room_append (expression_code names e d at)
            (JumpIfZero (Temporary d) (second + expression_size f + 3)
            ∷ (expression_code names f d second ++ last)),
        room_append (expression_code names f d second) last,
      )
  node_bound names (nodes.Or e f) d at =
      let second = at + expression_size e + 3 in
      let last = choice_code d (second + expression_size f) 0 1 in
      let a = expression_bound names e d at in
      let b = expression_bound names f d second in
      omega (
        arith,
        room_append (expression_code names e d at)
            (JumpIfZero (Temporary d) second ∷ constant d 1 ∷ Jump (second + expression_size f + 4)
            ∷ (expression_code names f d second ++ last)),
        room_append (expression_code names f d second) last,
      )
  node_bound names (nodes.Conditional c e f) d at =
      let yes = at + expression_size c + 1 in
      let no = yes + expression_size e + 1 in
      let last = Jump (no + expression_size f) ∷ expression_code names f d no in
      let a = expression_bound names c d at in
      let b = expression_bound names e d yes in
      let g = expression_bound names f d no in
      omega (
        arith,
        room_append (expression_code names c d at)
            (JumpIfZero (Temporary d) no ∷ (expression_code names e d yes ++ last)),
        room_append (expression_code names e d yes) last,
      )
  node_bound names (nodes.Comma e f) d at =
      two (expression_code names e d at) (expression_code names f (d + 1) (at + expression_size e))
      (copy (Temporary d) (Temporary (d + 1)) ∷ []) (expression_room e) (expression_room f) 35
      (expression_bound names e d at) (expression_bound names f (d + 1) (at + expression_size e))
      (omega arith)
  node_bound names (nodes.Call f es) d at =
      let a = arguments_bound names es d at in
      omega (arith, room_append (arguments_code names es d at) (Call f d (argument_count es) ∷ []))
  node_bound names (nodes.CallBuiltIn k es) d at =
      let a = arguments_bound names es d at in
      omega (arith, room_append (arguments_code names es d at) (CallBuiltIn k d ∷ []))
  node_bound names nodes.ExceptionCode d at = let a = coded names.exception d in omega arith
  node_bound names (nodes.Information f) d at = omega arith
  node_bound names nodes.AbnormalTermination d at = let a = abnormal names.abnormal d in omega arith
