-- The code of expressions. The value comes to the temporary of a number, and no temporary before it
-- is changed.
--
-- `expression_code`, `statement_code`, `statement_regions`, `statement_funclets`: the instructions,
-- regions and funclets of a part that is placed at an instruction, by recursion on the tree.
-- `lowered program` is the linear code of the whole.
--
-- The main definition: `stacked_code`.
use Rattle.std.specs.Prelude.{ℕ, suc, ◌+◌, List, [], ◌∷◌, ◌++◌, Option, None, Some}
use Rattle.seh_num.specs.declared.width.Width.{Width}
use Rattle.seh_num.specs.declared.width.Width.TheVariants.{W8, W16, W32, W64}
use Rattle.c_operations.specs.declared.field.Field.TheVariants as fields
use Rattle.c_operations.specs.declared.operation.Operation.{Operation}
use Rattle.c_operations.specs.declared.operation.Operation.TheVariants.{Pure, Divide, Load, Store}
use Rattle.c_operations.specs.declared.operation.Pure.{Pure as Pure'}
use Rattle.c_operations.specs.declared.operation.Pure.TheVariants.{Constant, First, Extend, Add, Subtract, MultiplyBy}
use Rattle.c_operations.specs.declared.operation.Signedness.TheVariants.{Signed}
use Rattle.c_operations.specs.declared.operation.Size.{Size}
use Rattle.c_operations.specs.declared.operation.Size.TheVariants.{Int, Long}
use Rattle.c_checked.specs.declared.expression.Access.{Access}
use Rattle.c_checked.specs.declared.expression.Conversion.{Conversion}
use Rattle.c_checked.specs.declared.expression.Conversion.TheVariants as conversions
use Rattle.c_checked.specs.declared.expression.Fixity.{Fixity}
use Rattle.c_checked.specs.declared.expression.Fixity.TheVariants.{Postfix, Prefix}
use Rattle.c_checked.specs.Expression as nodes
use Rattle.c_checked.specs.Expression.{Expression, On, Node, Lvalue, Global, Stacked, Indirection, Element, Arguments, Done, Next}
use Rattle.linear_code.specs.declared.slot.Slot.{Slot}
use Rattle.linear_code.specs.declared.slot.Slot.TheVariants.{Local, Temporary}
use Rattle.linear_code.specs.declared.instruction.Instruction.{Instruction}
use Rattle.linear_code.specs.declared.instruction.Instruction.TheVariants.{Compute, Information, Jump, JumpIfZero, Call, CallBuiltIn}
use Rattle.lowering_expressions.specs.declared.scope.ExceptionSource.{ExceptionSource}
use Rattle.lowering_expressions.specs.declared.scope.Names.{Names}
use Rattle.lowering_expressions.specs.declared.scope.ExceptionSource.TheVariants.{NoException, OfFilter, KeptIn}
use Rattle.lowering_sizes.specs.Sizes.{address_count, read_size, expression_size, locate_size, conversion_size}

-- ---- single instructions

abbrev pub constant : ℕ → ℕ → Instruction
constant d n = Compute (Temporary d) (Pure (Constant n)) (Temporary d) (Temporary d)

abbrev pub copy : Slot → Slot → Instruction
copy to from = Compute to (Pure First) from from

-- an operation on one temporary, and on it and the next one
abbrev pub change : ℕ → Operation → Instruction
change d o = Compute (Temporary d) o (Temporary d) (Temporary d)

abbrev pub combine : ℕ → Operation → Instruction
combine d o = Compute (Temporary d) o (Temporary d) (Temporary (d + 1))

-- ---- values

abbrev pub conversion_code : Conversion → ℕ → List Instruction
conversion_code conversions.Kept d = []
conversion_code (conversions.Extend s from size) d = change d (Pure (Extend s from size)) ∷ []
conversion_code (conversions.Scale s from by) d =
    change d (Pure (Extend s from Long)) ∷ change d (Pure (MultiplyBy by)) ∷ []

-- the size of the numbers that represent values of a type of this width
abbrev pub size_of : Width → Size
size_of W8 = Int
size_of W16 = Int
size_of W32 = Int
size_of W64 = Long

abbrev pub unary_code : Pure' → ℕ → List Instruction
unary_code First d = []
unary_code o d = constant (d + 1) 0 ∷ combine d (Pure o) ∷ []

-- at a place: one number where the temporary is 0, and another where it isn't
abbrev pub choice_code : ℕ → ℕ → ℕ → ℕ → List Instruction
choice_code d at if_zero otherwise =
    JumpIfZero (Temporary d) (at + 3) ∷ constant d otherwise ∷ Jump (at + 4) ∷ constant d if_zero
    ∷ []

-- ---- names

abbrev pub code_code : ExceptionSource → ℕ → Instruction
code_code NoException d = constant d 0
code_code OfFilter d = Information (Temporary d) fields.ExceptionCode
code_code (KeptIn x) d = copy (Temporary d) (Local x)

abbrev pub abnormal_code : Option ℕ → ℕ → Instruction
abnormal_code None d = constant d 0
abnormal_code (Some x) d = copy (Temporary d) (Local x)

-- ---- places; one that was located has its address in a temporary

abbrev pub load_code : Access → ℕ → ℕ → List Instruction
load_code access address to =
    Compute (Temporary to) (Load access.width) (Temporary address) (Temporary address)
    ∷ change to (Pure (Extend access.signedness access.width (size_of access.width)))
    ∷ []

-- what is at the place, to a temporary
abbrev pub read_code : Lvalue → ℕ → ℕ → List Instruction
read_code (nodes.Local x) address to = copy (Temporary to) (Local x) ∷ []
read_code (Global access a) address to = load_code access address to
read_code (Stacked access base offset) address to = load_code access address to
read_code (Indirection access e) address to = load_code access address to
read_code (Element access e i) address to = load_code access address to

abbrev pub store_code : Access → ℕ → ℕ → ℕ → Instruction
store_code access address from to =
    Compute (Temporary to) (Store access.width) (Temporary address) (Temporary from)

-- a temporary to the place; the value of the assignment comes to another, or of a local stays where
-- it is
abbrev pub write_code : Lvalue → ℕ → ℕ → ℕ → Instruction
write_code (nodes.Local x) address from to = copy (Local x) (Temporary from)
write_code (Global access a) address from to = store_code access address from to
write_code (Stacked access base offset) address from to = store_code access address from to
write_code (Indirection access e) address from to = store_code access address from to
write_code (Element access e i) address from to = store_code access address from to

-- where a variable on the data stack stands
abbrev pub stacked_code : (base offset : ℕ) → ℕ → List Instruction
stacked_code base offset d =
    constant d offset ∷ Compute (Temporary d) (Pure (Add Long)) (Local base) (Temporary d) ∷ []

abbrev pub address_code : Lvalue → ℕ → List Instruction → List Instruction
address_code (nodes.Local x) d located = constant d 0 ∷ []
address_code (Global access a) d located = located
address_code (Stacked access base offset) d located = located
address_code (Indirection access e) d located = located
address_code (Element access e i) d located = located

abbrev pub argument_count : Arguments → ℕ
argument_count Done = 0
argument_count (Next e es) = suc (argument_count es)

-- of the old value at d and the new one after it, that of the expression
abbrev pub chosen_of : Fixity → ℕ → ℕ
chosen_of Postfix d = d
chosen_of Prefix d = d + 1

-- ---- expressions, with the value to the temporary d, placed at an instruction

abbrev mutual
  pub expression_code : Names → Expression → ℕ → ℕ → List Instruction
  expression_code names (On n c) d at = node_code names n d at ++ conversion_code c d

  pub locate_code : Names → Lvalue → ℕ → ℕ → List Instruction
  locate_code names (nodes.Local x) d at = []
  locate_code names (Global access a) d at = constant d a ∷ []
  locate_code names (Stacked access base offset) d at = stacked_code base offset d
  locate_code names (Indirection access e) d at = expression_code names e d at
  locate_code names (Element access e i) d at =
      expression_code names e d at ++ (expression_code names i (d + 1) (at + expression_size e)
      ++ combine d (Pure (Add Long)) ∷ [])

  pub arguments_code : Names → Arguments → ℕ → ℕ → List Instruction
  arguments_code names Done d at = []
  arguments_code names (Next e es) d at =
      expression_code names e d at ++ arguments_code names es (d + 1) (at + expression_size e)

  pub node_code : Names → Node → ℕ → ℕ → List Instruction
  node_code names (nodes.Constant z n) d at = constant d n ∷ []
  node_code names (nodes.StackedArray base offset) d at = stacked_code base offset d
  node_code names (nodes.Read p) d at = locate_code names p d at ++ read_code p d d
  node_code names (nodes.AddressOf p) d at = address_code p d (locate_code names p d at)
  node_code names (nodes.Assign p e) d at =
      locate_code names p d at
      ++ (expression_code names e (d + address_count p) (at + locate_size p)
      ++ write_code p d (d + address_count p) d ∷ [])
  node_code names (nodes.CompoundAssign p before o e after) d at =
      let old = d + address_count p in
      locate_code names p d at
      ++ (read_code p d old
      ++ (conversion_code before old
      ++ (expression_code names e (old + 1)
      (at + (locate_size p + (read_size p + conversion_size before)))
      ++ (combine old o
      ∷ (conversion_code after old
      ++ write_code p d old d ∷ [])))))
  node_code names (nodes.Increment m p before o n after) d at =
      let old = d + address_count p in
      locate_code names p d at
      ++ (read_code p d old
      ++ (copy (Temporary (old + 1)) (Temporary old)
      ∷ (conversion_code before (old + 1)
      ++ (constant (old + 2) n
      ∷ combine (old + 1) o
      ∷ (conversion_code after (old + 1)
      ++ write_code p d (old + 1) (old + 1)
      ∷ copy (Temporary d) (Temporary (chosen_of m old))
      ∷ [])))))
  node_code names (nodes.Unary o e) d at = expression_code names e d at ++ unary_code o d
  node_code names (nodes.Binary o e f) d at =
      expression_code names e d at ++ (expression_code names f (d + 1) (at + expression_size e)
      ++ combine d o ∷ [])
  node_code names (nodes.PointerDifference n e f) d at =
      expression_code names e d at
      ++ (expression_code names f (d + 1) (at + expression_size e)
      ++ combine d (Pure (Subtract Long)) ∷ constant (d + 1) n ∷ combine d (Divide Signed Long)
      ∷ [])
  node_code names (nodes.Not e) d at =
      expression_code names e d at ++ choice_code d (at + expression_size e) 1 0
  node_code names (nodes.And e f) d at =
      let second = at + expression_size e + 1 in
      let otherwise = second + expression_size f + 3 in
      expression_code names e d at
      ++ (JumpIfZero (Temporary d) otherwise
      ∷ (expression_code names f d second ++ choice_code d (second + expression_size f) 0 1))
  node_code names (nodes.Or e f) d at =
      let second = at + expression_size e + 3 in
      expression_code names e d at
      ++ (JumpIfZero (Temporary d) second
      ∷ constant d 1
      ∷ Jump (second + expression_size f + 4)
      ∷ (expression_code names f d second ++ choice_code d (second + expression_size f) 0 1))
  node_code names (nodes.Conditional c e f) d at =
      let yes = at + expression_size c + 1 in
      let no = yes + expression_size e + 1 in
      expression_code names c d at
      ++ (JumpIfZero (Temporary d) no
      ∷ (expression_code names e d yes
      ++ (Jump (no + expression_size f)
      ∷ expression_code names f d no)))
  node_code names (nodes.Comma e f) d at =
      expression_code names e d at
      ++ (expression_code names f (d + 1) (at + expression_size e)
      ++ copy (Temporary d) (Temporary (d + 1)) ∷ [])
  node_code names (nodes.Call f es) d at =
      arguments_code names es d at ++ Call f d (argument_count es) ∷ []
  node_code names (nodes.CallBuiltIn k es) d at =
      arguments_code names es d at ++ CallBuiltIn k d ∷ []
  node_code names nodes.ExceptionCode d at = code_code names.exception d ∷ []
  node_code names (nodes.Information f) d at = Information (Temporary d) f ∷ []
  node_code names nodes.AbnormalTermination d at = abnormal_code names.abnormal d ∷ []
