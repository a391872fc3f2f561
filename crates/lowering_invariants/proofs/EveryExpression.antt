-- What holds of each instruction of which the code of an expression is made holds of all of it.
use Rattle.std.proofs.Common.{◌≡◌, ℕ, ◌+◌, List, [], ◌∷◌, ◌++◌}
use Rattle.std.specs.List.{AllByRecursion}
use Rattle.std.specs.Prelude.{Bool, true, Option, Some, None}
use Rattle.lowering_invariants.specs.Words.{Width, BuiltIn, Field, Operation, Pure, Signed, Long, Access, Conversion, Kept, Extend, Scale, Expression, On, Node, Lvalue, Global, Stacked, Indirection, Element, Arguments, Done, Program, Slot, Local, Temporary, Instruction, Names, address_count, locate_size, read_size, conversion_size, expression_size, constant, copy, change, combine, conversion_code, unary_code, choice_code, code_code, abnormal_code, load_code, read_code, write_code, address_code, chosen_of, expression_code, locate_code, arguments_code, node_code, store_code, IsCalled, BuiltInFits, ExpressionFits, LvalueFits, ArgumentsFit, NodeFits}
use Rattle.c_operations.specs.declared.operation.Operation.TheVariants as operations
use Rattle.c_operations.specs.declared.operation.Pure.TheVariants as pures
use Rattle.c_checked.specs.Expression as nodes
use Rattle.c_checked.specs.Expression.{Next}
use Rattle.linear_code.specs.declared.instruction.Instruction.TheVariants as instructions
use Rattle.lowering_invariants.proofs.Lemmas.{all_append}

-- it holds of operations on temporaries and locals, of memory, and of jumps
pub record HoldsOfOperations (P : Instruction → Type 0) : Type 0 where
  pub of_constant : (d n : ℕ) → P (constant d n)
  pub of_copy : (to from : Slot) → P (copy to from)
  pub of_change : (d : ℕ) (o : Pure) → P (change d (operations.Pure o))
  pub of_combine : (d : ℕ) (o : Operation) → P (combine d o)
  pub of_load : (w : Width) (address to : ℕ) → P
      (instructions.Compute (Temporary to) (operations.Load w) (Temporary address)
      (Temporary address))
  pub of_place : (d base : ℕ) → P (instructions.Compute (Temporary d)
      (operations.Pure (pures.Add Long)) (Local base) (Temporary d))
  pub of_store : (access : Access) (address from to : ℕ) → P (store_code access address from to)
  pub of_jump : (label : ℕ) → P (instructions.Jump label)
  pub of_test : (d label : ℕ) → P (instructions.JumpIfZero (Temporary d) label)

-- it holds of calls of what there is, and of what reads the exception
pub record HoldsOfCalls (program : Program) (info : Bool) (names : Names)
    (P : Instruction → Type 0) : Type 0 where
  pub of_call : (f d count : ℕ) → IsCalled program f count → P (instructions.Call f d count)
  pub of_built_in : (k : BuiltIn) (d : ℕ) → BuiltInFits program k
      → P (instructions.CallBuiltIn k d)
  pub of_code : (d : ℕ) → P (code_code names.exception d)
  pub of_information : (field : Field) (d : ℕ) → info ≡ true
      → P (instructions.Information (Temporary d) field)

module _ (P : Instruction → Type 0) (holds : HoldsOfOperations P) where
  abbrev Every : List Instruction → Type 0
  Every code = AllByRecursion P code

  append : (xs ys : List Instruction) → Every xs → Every ys → Every (xs ++ ys)
  append xs ys h k = all_append P xs ys h k

  pub conversion_every : (c : Conversion) (d : ℕ) → Every (conversion_code c d)
  conversion_every Kept d = tt
  conversion_every (Extend s from size) d = (holds.of_change d (pures.Extend s from size), tt)
  conversion_every (Scale s from by) d = (
    holds.of_change d (pures.Extend s from Long),
    (holds.of_change d (pures.MultiplyBy by), tt),
  )

  pub unary_every : (o : Pure) (d : ℕ) → Every (unary_code o d)
  unary_every pures.First d = tt
  unary_every o d = (holds.of_constant (d + 1) 0, (holds.of_combine d (operations.Pure o), tt))

  pub choice_every : (d at instead other : ℕ) → Every (choice_code d at instead other)
  choice_every d at instead other = (
    holds.of_test d (at + 3),
    (holds.of_constant d other, (holds.of_jump (at + 4), (holds.of_constant d instead, tt))),
  )

  load_every : (access : Access) (address to : ℕ) → Every (load_code access address to)
  load_every access address to = (holds.of_load access.width address to, (holds.of_change to _, tt))

  pub read_every : (p : Lvalue) (address to : ℕ) → Every (read_code p address to)
  read_every (nodes.Local x) address to = (holds.of_copy (Temporary to) (Local x), tt)
  read_every (Global access a) address to = load_every access address to
  read_every (Stacked access base offset) address to = load_every access address to
  read_every (Indirection access e) address to = load_every access address to
  read_every (Element access e i) address to = load_every access address to

  pub write_every : (p : Lvalue) (address from to : ℕ) → P (write_code p address from to)
  write_every (nodes.Local x) address from to = holds.of_copy (Local x) (Temporary from)
  write_every (Global access a) address from to = holds.of_store access address from to
  write_every (Stacked access base offset) address from to = holds.of_store access address from to
  write_every (Indirection access e) address from to = holds.of_store access address from to
  write_every (Element access e i) address from to = holds.of_store access address from to

  pub address_every : (p : Lvalue) (d : ℕ) (located : List Instruction) → Every located
      → Every (address_code p d located)
  address_every (nodes.Local x) d located h = (holds.of_constant d 0, tt)
  address_every (Global access a) d located h = h
  address_every (Stacked access base offset) d located h = h
  address_every (Indirection access e) d located h = h
  address_every (Element access e i) d located h = h

  pub flag_every : (s : Option ℕ) (d : ℕ) → P (abnormal_code s d)
  flag_every None d = holds.of_constant d 0
  flag_every (Some x) d = holds.of_copy (Temporary d) (Local x)

  module _ (program : Program) (own : ℕ) (info : Bool) (names : Names)
      (calls : HoldsOfCalls program info names P) where
    -- the operands of an operator, the second in the next temporary, and what comes after them
    operands : (e f : Expression) (d at : ℕ) (rest : List Instruction)
        → Every (expression_code names e d at) → Every
        (expression_code names f (d + 1) (at + expression_size e)) → Every rest
        → Every (expression_code names e d at
        ++ (expression_code names f (d + 1) (at + expression_size e) ++ rest))
    operands e f d at rest p q h =
        let code = expression_code names f (d + 1) (at + expression_size e) in
        append (expression_code names e d at) (code ++ rest) p (append code rest q h)

    mutual
      pub expression_every : (e : Expression) (d at : ℕ) → ExpressionFits program own info e
          → Every (expression_code names e d at)
      expression_every (On node c) d at f = append (node_code names node d at) (conversion_code c d)
          (node_every node d at f) (conversion_every c d)

      locate_every : (p : Lvalue) (d at : ℕ) → LvalueFits program own info p
          → Every (locate_code names p d at)
      locate_every (nodes.Local x) d at f = tt
      locate_every (Global access a) d at f = (holds.of_constant d a, tt)
      locate_every (Stacked access base offset) d at f =
          (holds.of_constant d offset, (holds.of_place d base, tt))
      locate_every (Indirection access e) d at f = expression_every e d at f
      locate_every (Element access e i) d at f = operands e i d at (_ ∷ [])
          (expression_every e d at f.0) (expression_every i (d + 1) (at + expression_size e) f.1)
          (holds.of_combine d (operations.Pure (pures.Add Long)), tt)

      arguments_every : (es : Arguments) (d at : ℕ) → ArgumentsFit program own info es
          → Every (arguments_code names es d at)
      arguments_every Done d at f = tt
      arguments_every (Next e es) d at f =
          append (expression_code names e d at)
          (arguments_code names es (d + 1) (at + expression_size e)) (expression_every e d at f.0)
          (arguments_every es (d + 1) (at + expression_size e) f.1)

      node_every : (node : Node) (d at : ℕ) → NodeFits program own info node
          → Every (node_code names node d at)
      node_every (nodes.Constant z v) d at f = (holds.of_constant d v, tt)
      node_every (nodes.StackedArray base offset) d at f =
          (holds.of_constant d offset, (holds.of_place d base, tt))
      node_every (nodes.Read p) d at f = append (locate_code names p d at) (read_code p d d)
          (locate_every p d at f) (read_every p d d)
      node_every (nodes.AddressOf p) d at f = address_every p d (locate_code names p d at)
          (locate_every p d at f.0)
      node_every (nodes.Assign p e) d at f =
          let from = d + address_count p in
          let code = expression_code names e from (at + locate_size p) in
          append (locate_code names p d at) (code ++ _ ∷ []) (locate_every p d at f.0)
          (append code (_ ∷ []) (expression_every e from (at + locate_size p) f.1)
          (write_every p d from d, tt))
      node_every (nodes.CompoundAssign p before o e after) d at f =
          let old = d + address_count p in
          let place = at + (locate_size p + (read_size p + conversion_size before)) in
          let code = expression_code names e (old + 1) place in
          let last = conversion_code after old ++ write_code p d old d ∷ [] in
          append (locate_code names p d at) _ (locate_every p d at f.0)
          (append (read_code p d old) _ (read_every p d old)
          (append (conversion_code before old) _ (conversion_every before old)
          (append code (combine old o ∷ last) (expression_every e (old + 1) place f.1) (
            holds.of_combine old o,
            append (conversion_code after old) (_ ∷ [])
                (conversion_every after old) (write_every p d old d, tt),
          ))))
      node_every (nodes.Increment m p before o v after) d at f =
          let old = d + address_count p in
          let last = write_code p d (old + 1) (old + 1)
          ∷ copy (Temporary d) (Temporary (chosen_of m old)) ∷ [] in
          append (locate_code names p d at) _ (locate_every p d at f.0)
          (append (read_code p d old) _ (read_every p d old) (
            holds.of_copy (Temporary (old + 1)) (Temporary old),
            append (conversion_code before (old + 1)) _ (conversion_every before (old + 1)) (
              holds.of_constant (old + 2) v,
              (
                holds.of_combine (old + 1) o,
                append (conversion_code after (old + 1)) last
                    (conversion_every after (old + 1)) (
                      write_every p d (old + 1) (old + 1),
                      (holds.of_copy (Temporary d) (Temporary (chosen_of m old)), tt),
                    ),
              ),
            ),
          ))
      node_every (nodes.Unary o e) d at f = append (expression_code names e d at) (unary_code o d)
          (expression_every e d at f.0) (unary_every o d)
      node_every (nodes.Binary o e g) d at f = operands e g d at (combine d o ∷ [])
          (expression_every e d at f.0) (expression_every g (d + 1) (at + expression_size e) f.1)
          (holds.of_combine d o, tt)
      node_every (nodes.PointerDifference v e g) d at f =
          operands e g d at (combine d (operations.Pure (pures.Subtract Long)) ∷ constant (d + 1) v
          ∷ combine d (operations.Divide Signed Long) ∷ [])
          (expression_every e d at f.0) (expression_every g (d + 1) (at + expression_size e) f.1) (
            holds.of_combine d (operations.Pure (pures.Subtract Long)),
            (holds.of_constant (d + 1) v, (holds.of_combine d (operations.Divide Signed Long), tt)),
          )
      node_every (nodes.Not e) d at f = append (expression_code names e d at)
          (choice_code d (at + expression_size e) 1 0) (expression_every e d at f)
          (choice_every d (at + expression_size e) 1 0)
      node_every (nodes.And e g) d at f =
          let second = at + expression_size e + 1 in
          let code = expression_code names g d second in
          append (expression_code names e d at)
          (_ ∷ (code ++ choice_code d (second + expression_size g) 0 1))
          (expression_every e d at f.0) (
            holds.of_test d (second + expression_size g + 3),
            append code (choice_code d (second + expression_size g) 0 1)
                (expression_every g d second f.1) (choice_every d (second + expression_size g) 0 1),
          )
      node_every (nodes.Or e g) d at f =
          let second = at + expression_size e + 3 in
          let code = expression_code names g d second in
          append (expression_code names e d at)
          (_ ∷ constant d 1 ∷ _ ∷ (code ++ choice_code d (second + expression_size g) 0 1))
          (expression_every e d at f.0) (
            holds.of_test d second,
            (
              holds.of_constant d 1,
              (
                holds.of_jump (second + expression_size g + 4),
                append code (choice_code d (second + expression_size g) 0 1)
                    (expression_every g d second f.1) (choice_every d (second + expression_size g) 0
                    1),
              ),
            ),
          )
      node_every (nodes.Conditional t e g) d at f =
          let yes = at + expression_size t + 1 in
          let no = yes + expression_size e + 1 in
          append (expression_code names t d at)
          (_ ∷ (expression_code names e d yes ++ _ ∷ expression_code names g d no))
          (expression_every t d at f.0) (
            holds.of_test d no,
            append (expression_code names e d yes)
                (_ ∷ expression_code names g d no) (expression_every e d yes f.1)
                (holds.of_jump (no + expression_size g), expression_every g d no f.2),
          )
      node_every (nodes.Comma e g) d at f = operands e g d at
          (copy (Temporary d) (Temporary (d + 1)) ∷ []) (expression_every e d at f.0)
          (expression_every g (d + 1) (at + expression_size e) f.1)
          (holds.of_copy (Temporary d) (Temporary (d + 1)), tt)
      node_every (nodes.Call g es) d at f = append (arguments_code names es d at) (_ ∷ [])
          (arguments_every es d at f.0) (calls.of_call g d _ f.1, tt)
      node_every (nodes.CallBuiltIn k es) d at f = append (arguments_code names es d at) (_ ∷ [])
          (arguments_every es d at f.0) (calls.of_built_in k d f.2, tt)
      node_every nodes.ExceptionCode d at f = (calls.of_code d, tt)
      node_every (nodes.Information field) d at f = (calls.of_information field d f, tt)
      node_every nodes.AbnormalTermination d at f = (flag_every names.abnormal d, tt)
