-- The code of an expression runs no `__finally` block, begins no `__except` block and doesn't end
-- its body.
use Rattle.std.proofs.Common.{◌≡◌, ℕ, ◌+◌, List, [], ◌∷◌, ◌++◌, refl}
use Rattle.std.specs.List.{AllByRecursion}
use Rattle.std.specs.Prelude.{true, false, Option}
use Rattle.c_operations.specs.declared.operation.Operation.TheVariants as operations
use Rattle.lowering_invariants.specs.Words.{Pure, Signed, Long, Conversion, Expression, On, Node, Lvalue, Global, Stacked, Indirection, Element, Arguments, Done, Temporary, Instruction, ExceptionSource, NoException, OfFilter, KeptIn, Names, address_count, locate_size, read_size, conversion_size, expression_size, constant, copy, combine, conversion_code, unary_code, choice_code, code_code, abnormal_code, read_code, write_code, address_code, chosen_of, expression_code, locate_code, arguments_code, node_code, runs_blocks}
use Rattle.c_operations.specs.declared.operation.Pure.TheVariants as pures
use Rattle.c_checked.specs.Expression as nodes
use Rattle.c_checked.specs.Expression.{Next}
use Rattle.linear_code.specs.declared.instruction.Instruction.TheVariants as instructions
use Rattle.lowering_invariants.specs.ColdParts.{may_be_cold}
use Rattle.lowering_invariants.proofs.Lemmas.{all_append}
use Rattle.lowering_invariants.proofs.Stacks.StackTargets.{all_map}
use Rattle.lowering_invariants.proofs.EveryExpression.{HoldsOfOperations, conversion_every, unary_every, choice_every, read_every, write_every, address_every, flag_every}

abbrev pub MayBeCold : Instruction → Type 0
MayBeCold i = may_be_cold i ≡ true

abbrev pub AllMayBeCold : List Instruction → Type 0
AllMayBeCold code = AllByRecursion MayBeCold code

append : (xs ys : List Instruction) → AllMayBeCold xs → AllMayBeCold ys → AllMayBeCold (xs ++ ys)
append xs ys h k = all_append MayBeCold xs ys h k

operations_may_be_cold : HoldsOfOperations MayBeCold
operations_may_be_cold = record {
  of_constant = λ d n. refl;
  of_copy = λ to from. refl;
  of_change = λ d o. refl;
  of_combine = λ d o. refl;
  of_load = λ w address to. refl;
  of_place = λ d base. refl;
  of_store = λ access address from to. refl;
  of_jump = λ label. refl;
  of_test = λ d label. refl;
}

conversion_may_be_cold : (c : Conversion) (d : ℕ) → AllMayBeCold (conversion_code c d)
conversion_may_be_cold = conversion_every MayBeCold operations_may_be_cold

unary_may_be_cold : (o : Pure) (d : ℕ) → AllMayBeCold (unary_code o d)
unary_may_be_cold = unary_every MayBeCold operations_may_be_cold

choice_may_be_cold : (d at instead other : ℕ) → AllMayBeCold (choice_code d at instead other)
choice_may_be_cold = choice_every MayBeCold operations_may_be_cold

read_may_be_cold : (p : Lvalue) (address to : ℕ) → AllMayBeCold (read_code p address to)
read_may_be_cold = read_every MayBeCold operations_may_be_cold

write_may_be_cold : (p : Lvalue) (address from to : ℕ) → MayBeCold (write_code p address from to)
write_may_be_cold = write_every MayBeCold operations_may_be_cold

address_may_be_cold : (p : Lvalue) (d : ℕ) (located : List Instruction) → AllMayBeCold located
    → AllMayBeCold (address_code p d located)
address_may_be_cold = address_every MayBeCold operations_may_be_cold

flag_may_be_cold : (s : Option ℕ) (d : ℕ) → MayBeCold (abnormal_code s d)
flag_may_be_cold = flag_every MayBeCold operations_may_be_cold

code_may_be_cold : (s : ExceptionSource) (d : ℕ) → MayBeCold (code_code s d)
code_may_be_cold NoException d = refl
code_may_be_cold OfFilter d = refl
code_may_be_cold (KeptIn x) d = refl

module _ (names : Names) where
  -- the operands of an operator, the second in the next temporary, and what comes after them
  operands : (e f : Expression) (d at : ℕ) (rest : List Instruction)
      → AllMayBeCold (expression_code names e d at)
      → AllMayBeCold (expression_code names f (d + 1) (at + expression_size e)) → AllMayBeCold rest
      → AllMayBeCold (expression_code names e d at
      ++ (expression_code names f (d + 1) (at + expression_size e) ++ rest))
  operands e f d at rest p q h =
      let code = expression_code names f (d + 1) (at + expression_size e) in
      append (expression_code names e d at) (code ++ rest) p (append code rest q h)

  mutual
    pub expression_may_be_cold : (e : Expression) (d at : ℕ) → AllMayBeCold
        (expression_code names e d at)
    expression_may_be_cold (On node c) d at =
        append (node_code names node d at) (conversion_code c d)
        (node_may_be_cold node d at) (conversion_may_be_cold c d)

    locate_may_be_cold : (p : Lvalue) (d at : ℕ) → AllMayBeCold (locate_code names p d at)
    locate_may_be_cold (nodes.Local x) d at = tt
    locate_may_be_cold (Global access a) d at = (refl, tt)
    locate_may_be_cold (Stacked access base offset) d at = (refl, (refl, tt))
    locate_may_be_cold (Indirection access e) d at = expression_may_be_cold e d at
    locate_may_be_cold (Element access e i) d at = operands e i d at (_ ∷ [])
        (expression_may_be_cold e d at)
        (expression_may_be_cold i (d + 1) (at + expression_size e)) (refl, tt)

    arguments_may_be_cold : (es : Arguments) (d at : ℕ)
        → AllMayBeCold (arguments_code names es d at)
    arguments_may_be_cold Done d at = tt
    arguments_may_be_cold (Next e es) d at =
        append (expression_code names e d at)
        (arguments_code names es (d + 1) (at + expression_size e)) (expression_may_be_cold e d at)
        (arguments_may_be_cold es (d + 1) (at + expression_size e))

    node_may_be_cold : (node : Node) (d at : ℕ) → AllMayBeCold (node_code names node d at)
    node_may_be_cold (nodes.Constant z v) d at = (refl, tt)
    node_may_be_cold (nodes.StackedArray base offset) d at = (refl, (refl, tt))
    node_may_be_cold (nodes.Read p) d at = append (locate_code names p d at) (read_code p d d)
        (locate_may_be_cold p d at) (read_may_be_cold p d d)
    node_may_be_cold (nodes.AddressOf p) d at = address_may_be_cold p d (locate_code names p d at)
        (locate_may_be_cold p d at)
    node_may_be_cold (nodes.Assign p e) d at =
        let from = d + address_count p in
        let code = expression_code names e from (at + locate_size p) in
        append (locate_code names p d at) (code ++ _ ∷ []) (locate_may_be_cold p d at)
        (append code (_ ∷ []) (expression_may_be_cold e from (at + locate_size p))
        (write_may_be_cold p d from d, tt))
    node_may_be_cold (nodes.CompoundAssign p before o e after) d at =
        let old = d + address_count p in
        let place = at + (locate_size p + (read_size p + conversion_size before)) in
        let code = expression_code names e (old + 1) place in
        let last = conversion_code after old ++ write_code p d old d ∷ [] in
        append (locate_code names p d at) _ (locate_may_be_cold p d at)
        (append (read_code p d old) _ (read_may_be_cold p d old)
        (append (conversion_code before old) _ (conversion_may_be_cold before old)
        (append code (combine old o ∷ last) (expression_may_be_cold e (old + 1) place) (
          refl,
          append (conversion_code after old) (_ ∷ []) (conversion_may_be_cold after old)
              (write_may_be_cold p d old d, tt),
        ))))
    node_may_be_cold (nodes.Increment m p before o v after) d at =
        let old = d + address_count p in
        let last = write_code p d (old + 1) (old + 1)
        ∷ copy (Temporary d) (Temporary (chosen_of m old)) ∷ [] in
        append (locate_code names p d at) _ (locate_may_be_cold p d at)
        (append (read_code p d old) _ (read_may_be_cold p d old) (
          refl,
          append (conversion_code before (old + 1)) _ (conversion_may_be_cold before (old + 1)) (
            refl,
            (
              refl,
              append (conversion_code after (old + 1)) last (conversion_may_be_cold after (old + 1))
                  (write_may_be_cold p d (old + 1) (old + 1), (refl, tt)),
            ),
          ),
        ))
    node_may_be_cold (nodes.Unary o e) d at = append (expression_code names e d at) (unary_code o d)
        (expression_may_be_cold e d at) (unary_may_be_cold o d)
    node_may_be_cold (nodes.Binary o e g) d at = operands e g d at (combine d o ∷ [])
        (expression_may_be_cold e d at) (expression_may_be_cold g (d + 1) (at + expression_size e))
        (refl, tt)
    node_may_be_cold (nodes.PointerDifference v e g) d at =
        operands e g d at (combine d (operations.Pure (pures.Subtract Long)) ∷ constant (d + 1) v
        ∷ combine d (operations.Divide Signed Long) ∷ [])
        (expression_may_be_cold e d at) (expression_may_be_cold g (d + 1) (at + expression_size e))
        (refl, (refl, (refl, tt)))
    node_may_be_cold (nodes.Not e) d at = append (expression_code names e d at)
        (choice_code d (at + expression_size e) 1 0) (expression_may_be_cold e d at)
        (choice_may_be_cold d (at + expression_size e) 1 0)
    node_may_be_cold (nodes.And e g) d at =
        let second = at + expression_size e + 1 in
        let code = expression_code names g d second in
        let both = code ++ choice_code d (second + expression_size g) 0 1 in
        append (expression_code names e d at) (_ ∷ both) (expression_may_be_cold e d at) (
          refl,
          append code (choice_code d (second + expression_size g) 0 1)
              (expression_may_be_cold g d second)
              (choice_may_be_cold d (second + expression_size g) 0 1),
        )
    node_may_be_cold (nodes.Or e g) d at =
        let second = at + expression_size e + 3 in
        let code = expression_code names g d second in
        append (expression_code names e d at)
        (_ ∷ constant d 1 ∷ _ ∷ (code ++ choice_code d (second + expression_size g) 0 1))
        (expression_may_be_cold e d at) (
          refl,
          (
            refl,
            (
              refl,
              append code (choice_code d (second + expression_size g) 0 1)
                  (expression_may_be_cold g d second)
                  (choice_may_be_cold d (second + expression_size g) 0 1),
            ),
          ),
        )
    node_may_be_cold (nodes.Conditional t e g) d at =
        let yes = at + expression_size t + 1 in
        let no = yes + expression_size e + 1 in
        append (expression_code names t d at)
        (_ ∷ (expression_code names e d yes ++ _ ∷ expression_code names g d no))
        (expression_may_be_cold t d at) (
          refl,
          append (expression_code names e d yes) (_ ∷ expression_code names g d no)
              (expression_may_be_cold e d yes) (refl, expression_may_be_cold g d no),
        )
    node_may_be_cold (nodes.Comma e g) d at = operands e g d at
        (copy (Temporary d) (Temporary (d + 1)) ∷ []) (expression_may_be_cold e d at)
        (expression_may_be_cold g (d + 1) (at + expression_size e)) (refl, tt)
    node_may_be_cold (nodes.Call g es) d at = append (arguments_code names es d at) (_ ∷ [])
        (arguments_may_be_cold es d at) (refl, tt)
    node_may_be_cold (nodes.CallBuiltIn k es) d at = append (arguments_code names es d at) (_ ∷ [])
        (arguments_may_be_cold es d at) (refl, tt)
    node_may_be_cold nodes.ExceptionCode d at = (code_may_be_cold names.exception d, tt)
    node_may_be_cold (nodes.Information field) d at = (refl, tt)
    node_may_be_cold nodes.AbnormalTermination d at = (flag_may_be_cold names.abnormal d, tt)

-- ---- so it runs no `__finally` block

abbrev pub RunsNoBlock : Instruction → Type 0
RunsNoBlock i = runs_blocks i ≡ false

abbrev pub RunNoBlocks : List Instruction → Type 0
RunNoBlocks code = AllByRecursion RunsNoBlock code

runs_no_block : (i : Instruction) → MayBeCold i → RunsNoBlock i
runs_no_block (instructions.CallFinally k) h = absurd (cc)
runs_no_block (instructions.LocalUnwind label) h = absurd (cc)
runs_no_block i h = refl

pub expression_no_blocks : (names : Names) (e : Expression) (d at : ℕ)
    → RunNoBlocks (expression_code names e d at)
expression_no_blocks names e d at =
    all_map MayBeCold RunsNoBlock (expression_code names e d at) runs_no_block
    (expression_may_be_cold names e d at)
