-- What is between and after the operands of a node.
use Rattle.std.specs.Prelude.{ℕ, ◌+◌, List, [], ◌∷◌, ◌++◌}
use Rattle.c_operations.specs.declared.operation.Operation.{Operation}
use Rattle.c_operations.specs.declared.operation.Operation.TheVariants.{Pure, Divide}
use Rattle.c_operations.specs.declared.operation.Pure.TheVariants.{Subtract}
use Rattle.c_operations.specs.declared.operation.Signedness.TheVariants.{Signed}
use Rattle.c_operations.specs.declared.operation.Size.TheVariants.{Long}
use Rattle.c_checked.specs.declared.expression.Conversion.{Conversion}
use Rattle.c_checked.specs.declared.expression.Fixity.{Fixity}
use Rattle.c_checked.specs.Expression.{Lvalue, Expression}
use Rattle.linear_code.specs.declared.slot.Slot.TheVariants.{Temporary}
use Rattle.linear_code.specs.declared.instruction.Instruction.{Instruction}
use Rattle.lowering_sizes.specs.Sizes.{address_count, expression_size}
use Rattle.lowering_expressions.specs.declared.scope.Names.{Names}
use Rattle.lowering_expressions.specs.Expressions.{constant, copy, combine, conversion_code, read_code, write_code, chosen_of}
use Rattle.lowering_expressions.specs.Expressions.{expression_code, choice_code}

-- an operand, as 0 or 1
abbrev pub truth : Names → Expression → ℕ → ℕ → List Instruction
truth names e d at = expression_code names e d at ++ choice_code d (at + expression_size e) 0 1

abbrev pub assigned : Lvalue → ℕ → List Instruction
assigned p d = write_code p d (d + address_count p) d ∷ []

abbrev pub compound_begun : Lvalue → Conversion → ℕ → List Instruction
compound_begun p before d =
    read_code p d (d + address_count p) ++ conversion_code before (d + address_count p)

abbrev pub compound_ended : Lvalue → Operation → Conversion → ℕ → List Instruction
compound_ended p o after d =
    combine (d + address_count p) o ∷ (conversion_code after (d + address_count p)
    ++ write_code p d (d + address_count p) d ∷ [])

abbrev pub difference_ended : ℕ → ℕ → List Instruction
difference_ended n d =
    combine d (Pure (Subtract Long)) ∷ constant (d + 1) n ∷ combine d (Divide Signed Long) ∷ []

abbrev pub increment_ended : Lvalue → Fixity → ℕ → ℕ → List Instruction
increment_ended p m old d =
    write_code p d (old + 1) (old + 1) ∷ copy (Temporary d) (Temporary (chosen_of m old)) ∷ []

abbrev pub next_value : Conversion → Operation → ℕ → Conversion → ℕ → List Instruction
next_value before o n after old =
    copy (Temporary (old + 1)) (Temporary old)
    ∷ (conversion_code before (old + 1)
    ++ (constant (old + 2) n ∷ combine (old + 1) o ∷ conversion_code after (old + 1)))

-- `++` and `--` at a place that was located: the old value stays in one temporary, and the new one
-- is made in the next
abbrev pub incremented : Lvalue → Fixity → Conversion → Operation → ℕ → Conversion → ℕ
    → List Instruction
incremented p m before o n after d =
    read_code p d (d + address_count p)
    ++ (next_value before o n after (d + address_count p)
    ++ increment_ended p m (d + address_count p) d)
