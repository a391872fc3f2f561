-- The code of an expression reads locals alone that are seen, and jumps within itself.
use Rattle.std.proofs.Common.{◌≡◌, ℕ, ◌+◌, ◌<◌, ◌≤◌, List, [], ◌∷◌, ◌++◌, arith}
use Rattle.std.specs.Prelude.{true, Option, Some, None}
use Rattle.lowering_locals.specs.Words.{Operation, DataPart, Expression, On, Node, Lvalue, Global, Stacked, Indirection, Element, Arguments, Done, Temporary, Instruction, is_constant, ExceptionSource, NoException, OfFilter, KeptIn, Names, expression_size, address_count, locate_size, read_size, conversion_size, arguments_size, node_size, expression_code, conversion_code, unary_code, choice_code, code_code, abnormal_code, read_code, write_code, stacked_code, locate_code, arguments_code, node_code, SeenNames, IsPart, expression_within, node_within, lvalue_within, arguments_within, OperandsIn}
use Rattle.c_operations.specs.declared.operation.Operation.TheVariants as operations
use Rattle.c_operations.specs.declared.operation.Pure.{Pure}
use Rattle.c_operations.specs.declared.operation.Pure.TheVariants as pures
use Rattle.c_checked.specs.declared.expression.Conversion.{Conversion}
use Rattle.c_checked.specs.declared.expression.Conversion.TheVariants.{Kept, Extend, Scale}
use Rattle.c_checked.specs.Expression as nodes
use Rattle.c_checked.specs.Expression.{Next}
use Rattle.lowering_locals.proofs.Lemmas.{both_left, both_right, all_append}
use Rattle.lowering_locals.proofs.StraightCode.{Fine, AllFine, temporaries_in}

-- where the code of an exception and the flag of a block are kept
abbrev pub CodeIn : SeenNames → ExceptionSource → Type 0
CodeIn seen NoException = Unit {0}
CodeIn seen OfFilter = Unit {0}
CodeIn seen (KeptIn x) = seen x ≡ true

abbrev pub FlagIn : SeenNames → Option ℕ → Type 0
FlagIn seen None = Unit {0}
FlagIn seen (Some x) = seen x ≡ true

-- and the base of a function's part of the data stack
abbrev pub BaseIn : SeenNames → Option DataPart → Type 0
BaseIn seen None = Unit {0}
BaseIn seen (Some part) = seen part.base ≡ true

-- what is recorded around an expression: the locals that are seen and what its names are kept in,
-- all
-- of them locals of the body
pub record IsAround (locals : ℕ) (names : Names) (before seen : SeenNames) : Type 0 where
  pub part : IsPart before seen
  pub below : (x : ℕ) → seen x ≡ true → x < locals
  pub code : CodeIn seen names.exception
  pub flag : FlagIn seen names.abnormal
  pub base : BaseIn seen names.part

module _ (locals : ℕ) (names : Names) (before seen : SeenNames)
    (around : IsAround locals names before seen) (lo hi : ℕ) where
  abbrev All : List Instruction → Type 0
  All code = AllFine locals lo hi seen code

  abbrev One : Instruction → Type 0
  One i = Fine locals lo hi seen i

  append : (xs ys : List Instruction) → All xs → All ys → All (xs ++ ys)
  append xs ys h k = all_append One xs ys h k

  conversion_fine : (c : Conversion) (d : ℕ) → All (conversion_code c d)
  conversion_fine Kept d = tt
  conversion_fine (Extend s from size) d = (((tt, tt), tt), tt)
  conversion_fine (Scale s from by) d = (((tt, tt), tt), (((tt, tt), tt), tt))

  -- an operation on temporaries alone
  combined : (o : Operation) (d : ℕ) → OperandsIn (is_constant o) seen (Temporary d)
      (Temporary (d + 1)) × Unit {0}
  combined o d = (temporaries_in (is_constant o) seen d (d + 1), tt)

  unary_fine : (o : Pure) (d : ℕ) → All (unary_code o d)
  unary_fine pures.First d = tt
  unary_fine o d = ((tt, tt), (combined (operations.Pure o) d, tt))

  choice_fine : (d at instead other : ℕ) → lo ≤ at → at + 4 ≤ hi
      → All (choice_code d at instead other)
  choice_fine d at instead other a b = (
    (tt, (omega arith, omega arith)),
    ((tt, tt), ((omega arith, omega arith), ((tt, tt), tt))),
  )

  read_fine : (p : Lvalue) (address to : ℕ) → lvalue_within before p ≡ true
      → All (read_code p address to)
  read_fine (nodes.Local x) address to w = (((around.part x w, around.part x w), tt), tt)
  read_fine (Global access a) address to w = (((tt, tt), tt), (((tt, tt), tt), tt))
  read_fine (Stacked access base offset) address to w = (((tt, tt), tt), (((tt, tt), tt), tt))
  read_fine (Indirection access e) address to w = (((tt, tt), tt), (((tt, tt), tt), tt))
  read_fine (Element access e i) address to w = (((tt, tt), tt), (((tt, tt), tt), tt))

  write_fine : (p : Lvalue) (address from to : ℕ) → lvalue_within before p ≡ true
      → One (write_code p address from to)
  write_fine (nodes.Local x) address from to w = ((tt, tt), around.below x (around.part x w))
  write_fine (Global access a) address from to w = ((tt, tt), tt)
  write_fine (Stacked access base offset) address from to w = ((tt, tt), tt)
  write_fine (Indirection access e) address from to w = ((tt, tt), tt)
  write_fine (Element access e i) address from to w = ((tt, tt), tt)

  code_fine : (s : ExceptionSource) (d : ℕ) → CodeIn seen s → One (code_code s d)
  code_fine NoException d h = (tt, tt)
  code_fine OfFilter d h = tt
  code_fine (KeptIn x) d h = ((h, h), tt)

  flag_fine : (s : Option ℕ) (d : ℕ) → FlagIn seen s → One (abnormal_code s d)
  flag_fine None d h = (tt, tt)
  flag_fine (Some x) d h = ((h, h), tt)

  -- where a variable on the data stack stands
  stacked_fine : (base offset d : ℕ) → before base ≡ true → All (stacked_code base offset d)
  stacked_fine base offset d w = ((tt, tt), (((around.part base w, tt), tt), tt))

  operands_fine : (e f : Expression) (d at : ℕ) (rest : List Instruction)
      → All (expression_code names e d at) → All
      (expression_code names f (d + 1) (at + expression_size e)) → All rest
      → All (expression_code names e d at ++ (expression_code names f (d + 1)
      (at + expression_size e) ++ rest))
  operands_fine e f d at rest p q h =
      let code = expression_code names f (d + 1) (at + expression_size e) in
      append (expression_code names e d at) (code ++ rest) p (append code rest q h)

  mutual
    pub expression_fine : (e : Expression) (d at : ℕ) → expression_within before e ≡ true → lo ≤ at
        → at + expression_size e ≤ hi → All (expression_code names e d at)
    expression_fine (On node c) d at w a b = append (node_code names node d at)
        (conversion_code c d) (node_fine node d at w a (omega arith)) (conversion_fine c d)

    locate_fine : (p : Lvalue) (d at : ℕ) → lvalue_within before p ≡ true → lo ≤ at
        → at + locate_size p ≤ hi → All (locate_code names p d at)
    locate_fine (nodes.Local x) d at w a b = tt
    locate_fine (Global access v) d at w a b = ((tt, tt), tt)
    locate_fine (Stacked access base offset) d at w a b = stacked_fine base offset d w
    locate_fine (Indirection access e) d at w a b = expression_fine e d at w a b
    locate_fine (Element access e i) d at w a b =
        operands_fine e i d at (_ ∷ []) (expression_fine e d at (both_left _ _ w) a (omega arith))
        (expression_fine i (d + 1) (at + expression_size e) (both_right _ _ w) (omega arith)
        (omega arith)) (((tt, tt), tt), tt)

    arguments_fine : (es : Arguments) (d at : ℕ) → arguments_within before es ≡ true → lo ≤ at
        → at + arguments_size es ≤ hi → All (arguments_code names es d at)
    arguments_fine Done d at w a b = tt
    arguments_fine (Next e es) d at w a b =
        append (expression_code names e d at)
        (arguments_code names es (d + 1) (at + expression_size e))
        (expression_fine e d at (both_left _ _ w) a (omega arith))
        (arguments_fine es (d + 1) (at + expression_size e) (both_right _ _ w) (omega arith)
        (omega arith))

    node_fine : (node : Node) (d at : ℕ) → node_within before node ≡ true → lo ≤ at
        → at + node_size node ≤ hi → All (node_code names node d at)
    node_fine (nodes.Constant z v) d at w a b = ((tt, tt), tt)
    node_fine (nodes.StackedArray base offset) d at w a b = stacked_fine base offset d w
    node_fine (nodes.Read p) d at w a b = append (locate_code names p d at) (read_code p d d)
        (locate_fine p d at w a (omega arith)) (read_fine p d d w)
    node_fine (nodes.AddressOf (nodes.Local x)) d at w a b = ((tt, tt), tt)
    node_fine (nodes.AddressOf (Global access v)) d at w a b = locate_fine (Global access v) d at w
        a b
    node_fine (nodes.AddressOf (Stacked access base offset)) d at w a b = stacked_fine base offset d
        w
    node_fine (nodes.AddressOf (Indirection access e)) d at w a b = locate_fine
        (Indirection access e) d at w a b
    node_fine (nodes.AddressOf (Element access e i)) d at w a b = locate_fine (Element access e i) d
        at w a b
    node_fine (nodes.Assign p e) d at w a b =
        let from = d + address_count p in
        let code = expression_code names e from (at + locate_size p) in
        append (locate_code names p d at) (code ++ _ ∷ [])
        (locate_fine p d at (both_left _ _ w) a (omega arith))
        (append code (_ ∷ []) (expression_fine e from (at + locate_size p) (both_right _ _ w)
        (omega arith) (omega arith)) (write_fine p d from d (both_left _ _ w), tt))
    node_fine (nodes.CompoundAssign p before' o e after) d at w a b =
        let old = d + address_count p in
        let place = at + (locate_size p + (read_size p + conversion_size before')) in
        let code = expression_code names e (old + 1) place in
        append (locate_code names p d at) _ (locate_fine p d at (both_left _ _ w) a (omega arith))
        (append (read_code p d old) _ (read_fine p d old (both_left _ _ w))
        (append (conversion_code before' old) _ (conversion_fine before' old)
        (append code _ (expression_fine e (old + 1) place (both_right _ _ w) (omega arith)
        (omega arith)) (
          combined o old,
          append (conversion_code after old) (_ ∷ []) (conversion_fine after old)
              (write_fine p d old d (both_left _ _ w), tt),
        ))))
    node_fine (nodes.Increment m p before' o v after) d at w a b =
        let old = d + address_count p in
        append (locate_code names p d at) _ (locate_fine p d at w a (omega arith))
        (append (read_code p d old) _ (read_fine p d old w) (
          ((tt, tt), tt),
          append (conversion_code before' (old + 1)) _ (conversion_fine before' (old + 1)) (
            (tt, tt),
            (
              combined o (old + 1),
              append (conversion_code after (old + 1)) _ (conversion_fine after (old + 1))
                  (write_fine p d (old + 1) (old + 1) w, (((tt, tt), tt), tt)),
            ),
          ),
        ))
    node_fine (nodes.Unary o e) d at w a b = append (expression_code names e d at) (unary_code o d)
        (expression_fine e d at w a (omega arith)) (unary_fine o d)
    node_fine (nodes.Binary o e g) d at w a b =
        operands_fine e g d at (_ ∷ []) (expression_fine e d at (both_left _ _ w) a (omega arith))
        (expression_fine g (d + 1) (at + expression_size e) (both_right _ _ w) (omega arith)
        (omega arith)) (combined o d, tt)
    node_fine (nodes.PointerDifference v e g) d at w a b =
        operands_fine e g d at (_ ∷ _ ∷ _ ∷ [])
        (expression_fine e d at (both_left _ _ w) a (omega arith))
        (expression_fine g (d + 1) (at + expression_size e) (both_right _ _ w) (omega arith)
        (omega arith))
        (((tt, tt), tt), ((tt, tt), (((tt, tt), tt), tt)))
    node_fine (nodes.Not e) d at w a b =
        append (expression_code names e d at) (choice_code d (at + expression_size e) 1 0)
        (expression_fine e d at w a (omega arith))
        (choice_fine d (at + expression_size e) 1 0 (omega arith) (omega arith))
    node_fine (nodes.And e g) d at w a b =
        let second = at + expression_size e + 1 in
        let code = expression_code names g d second in
        append (expression_code names e d at)
        (_ ∷ (code ++ choice_code d (second + expression_size g) 0 1))
        (expression_fine e d at (both_left _ _ w) a (omega arith)) (
          (tt, (omega arith, omega arith)),
          append code (choice_code d (second + expression_size g) 0 1)
              (expression_fine g d second (both_right _ _ w) (omega arith) (omega arith))
              (choice_fine d (second + expression_size g) 0 1 (omega arith) (omega arith)),
        )
    node_fine (nodes.Or e g) d at w a b =
        let second = at + expression_size e + 3 in
        let code = expression_code names g d second in
        append (expression_code names e d at)
        (_ ∷ _ ∷ _ ∷ (code ++ choice_code d (second + expression_size g) 0 1))
        (expression_fine e d at (both_left _ _ w) a (omega arith)) (
          (tt, (omega arith, omega arith)),
          (
            (tt, tt),
            (
              (omega arith, omega arith),
              append code (choice_code d (second + expression_size g) 0 1)
                  (expression_fine g d second (both_right _ _ w) (omega arith) (omega arith))
                  (choice_fine d (second + expression_size g) 0 1 (omega arith) (omega arith)),
            ),
          ),
        )
    node_fine (nodes.Conditional t e g) d at w a b =
        let yes = at + expression_size t + 1 in
        let no = yes + expression_size e + 1 in
        append (expression_code names t d at)
        (_ ∷ (expression_code names e d yes ++ _ ∷ expression_code names g d no))
        (expression_fine t d at (both_left _ _ (both_left _ _ w)) a (omega arith)) (
          (tt, (omega arith, omega arith)),
          append (expression_code names e d yes) (_ ∷ expression_code names g d no)
              (expression_fine e d yes (both_right _ _ (both_left _ _ w)) (omega arith)
              (omega arith)) (
                (omega arith, omega arith),
                expression_fine g d no (both_right _ _ w) (omega arith)
                    (omega arith),
              ),
        )
    node_fine (nodes.Comma e g) d at w a b =
        operands_fine e g d at (_ ∷ []) (expression_fine e d at (both_left _ _ w) a (omega arith))
        (expression_fine g (d + 1) (at + expression_size e) (both_right _ _ w) (omega arith)
        (omega arith)) (((tt, tt), tt), tt)
    node_fine (nodes.Call f es) d at w a b = append (arguments_code names es d at) (_ ∷ [])
        (arguments_fine es d at w a (omega arith)) (tt, tt)
    node_fine (nodes.CallBuiltIn k es) d at w a b = append (arguments_code names es d at) (_ ∷ [])
        (arguments_fine es d at w a (omega arith)) (tt, tt)
    node_fine nodes.ExceptionCode d at w a b = (code_fine names.exception d around.code, tt)
    node_fine (nodes.Information field) d at w a b = (tt, tt)
    node_fine nodes.AbnormalTermination d at w a b = (flag_fine names.abnormal d around.flag, tt)
