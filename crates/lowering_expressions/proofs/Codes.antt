-- How long code is, and code after code.
use Rattle.std.proofs.Common.{◌≡◌, ℕ, ◌+◌, List, [], ◌∷◌, ◌++◌, length, refl, ap, ◌∙◌, arith, append_assoc, length-append}
use Rattle.c_operations.specs.declared.operation.Operation.TheVariants.{Pure, Divide}
use Rattle.c_operations.specs.declared.operation.Pure.{Pure as Pure'}
use Rattle.c_operations.specs.declared.operation.Pure.TheVariants.{First, Add, Subtract}
use Rattle.c_operations.specs.declared.operation.Signedness.TheVariants.{Signed}
use Rattle.c_operations.specs.declared.operation.Size.TheVariants.{Long}
use Rattle.c_checked.specs.declared.expression.Conversion.{Conversion}
use Rattle.c_checked.specs.declared.expression.Conversion.TheVariants.{Kept, Extend, Scale}
use Rattle.c_checked.specs.Expression as nodes
use Rattle.c_checked.specs.Expression.{Expression, On, Node, Lvalue, Local, Global, Stacked, Indirection, Element, Arguments, Done, Next}
use Rattle.linear_code.specs.declared.slot.Slot.TheVariants.{Temporary}
use Rattle.linear_code.specs.declared.instruction.Instruction.{Instruction}
use Rattle.linear_code.specs.declared.instruction.Instruction.TheVariants.{Jump, JumpIfZero, Call, CallBuiltIn}
use Rattle.lowering_expressions.specs.declared.scope.Names.{Names}
use Rattle.lowering_sizes.specs.Sizes.{address_count, conversion_size, unary_size, read_size, address_size, expression_size, locate_size, arguments_size, node_size}
use Rattle.lowering_expressions.specs.Pieces.{compound_begun}
use Rattle.lowering_expressions.specs.Expressions.{constant, copy, combine, choice_code, argument_count, chosen_of, conversion_code, unary_code, read_code, address_code, write_code, expression_code, locate_code, arguments_code, node_code}

-- ---- code after code

pub joined : (old mid new a b : List Instruction) → mid ≡ old ++ a → new ≡ mid ++ b
    → new ≡ old ++ (a ++ b)
joined old mid new a b e f = f ∙ ap (λ (t : List Instruction). t ++ b) e ∙ append_assoc old a b

pub longer : (old mid a : List Instruction) (n : ℕ) → length a ≡ n → mid ≡ old ++ a
    → length mid ≡ length old + n
longer old mid a n l e = ap (λ (t : List Instruction). length t) e ∙ length-append old a
    ∙ ap (λ k. length old + k) l

-- ---- lengths

pub conversion_length : (c : Conversion) (d : ℕ) → length (conversion_code c d) ≡ conversion_size c
conversion_length Kept d = refl
conversion_length (Extend s from size) d = refl
conversion_length (Scale s from by) d = refl

pub unary_length : (o : Pure') (d : ℕ) → length (unary_code o d) ≡ unary_size o
unary_length First d = refl
unary_length o d = refl

pub read_length : (p : Lvalue) (a to : ℕ) → length (read_code p a to) ≡ read_size p
read_length (Local x) a to = refl
read_length p a to = refl

pub address_length : (p : Lvalue) (d : ℕ) (located : List Instruction) (n : ℕ) → length located ≡ n
    → length (address_code p d located) ≡ address_size p n
address_length (Local x) d located n e = refl
address_length (Global access a) d located n e = e
address_length (Stacked access base offset) d located n e = e
address_length (Indirection access f) d located n e = e
address_length (Element access f i) d located n e = e

pub more : (i : Instruction) (is : List Instruction) (n : ℕ) → length is ≡ n
    → length (i ∷ is) ≡ 1 + n
more i is n e = omega arith

more_by_two : (i j : Instruction) (is : List Instruction) (n : ℕ) → length is ≡ n
    → length (i ∷ j ∷ is) ≡ 2 + n
more_by_two i j is n e = omega arith

more_by_three : (i j k : Instruction) (is : List Instruction) (n : ℕ) → length is ≡ n
    → length (i ∷ j ∷ k ∷ is) ≡ 3 + n
more_by_three i j k is n e = omega arith

-- two parts, the lengths of which are known
pub two : (a b : List Instruction) (m n : ℕ) → length a ≡ m → length b ≡ n → length (a ++ b) ≡ m + n
two a b m n e f = length-append a b ∙ ap (λ k. k + length b) e ∙ ap (λ k. m + k) f

pub begun_length : (p : Lvalue) (before : Conversion) (d : ℕ)
    → length (compound_begun p before d) ≡ read_size p + conversion_size before
begun_length p before d = two (read_code p d (d + address_count p))
    (conversion_code before (d + address_count p)) (read_size p) (conversion_size before)
    (read_length p d (d + address_count p)) (conversion_length before (d + address_count p))

mutual
  pub expression_length : (names : Names) (e : Expression) (d at : ℕ)
      → length (expression_code names e d at) ≡ expression_size e
  expression_length names (On n c) d at = two (node_code names n d at) (conversion_code c d)
      (node_size n) (conversion_size c) (node_length names n d at) (conversion_length c d)

  pub locate_length : (names : Names) (p : Lvalue) (d at : ℕ)
      → length (locate_code names p d at) ≡ locate_size p
  locate_length names (Local x) d at = refl
  locate_length names (Global access a) d at = refl
  locate_length names (Stacked access base offset) d at = refl
  locate_length names (Indirection access e) d at = expression_length names e d at
  locate_length names (Element access e i) d at =
      two (expression_code names e d at) (expression_code names i (d + 1) (at + expression_size e)
      ++ combine d (Pure (Add Long)) ∷ []) (expression_size e) (expression_size i + 1)
      (expression_length names e d at)
      (two (expression_code names i (d + 1) (at + expression_size e))
      (combine d (Pure (Add Long)) ∷ []) (expression_size i) 1
      (expression_length names i (d + 1) (at + expression_size e)) refl)

  pub arguments_length : (names : Names) (es : Arguments) (d at : ℕ)
      → length (arguments_code names es d at) ≡ arguments_size es
  arguments_length names Done d at = refl
  arguments_length names (Next e es) d at =
      two (expression_code names e d at) (arguments_code names es (d + 1) (at + expression_size e))
      (expression_size e) (arguments_size es) (expression_length names e d at)
      (arguments_length names es (d + 1) (at + expression_size e))

  pub node_length : (names : Names) (n : Node) (d at : ℕ)
      → length (node_code names n d at) ≡ node_size n
  node_length names (nodes.Constant z n) d at = refl
  node_length names (nodes.StackedArray base offset) d at = refl
  node_length names (nodes.Read p) d at = two (locate_code names p d at) (read_code p d d)
      (locate_size p) (read_size p) (locate_length names p d at) (read_length p d d)
  node_length names (nodes.AddressOf p) d at = address_length p d (locate_code names p d at)
      (locate_size p) (locate_length names p d at)
  node_length names (nodes.Assign p e) d at =
      let from = d + address_count p in
      let place = at + locate_size p in
      two (locate_code names p d at) (expression_code names e from place ++ write_code p d from d
      ∷ []) (locate_size p) (expression_size e + 1) (locate_length names p d at)
      (two (expression_code names e from place) (write_code p d from d ∷ []) (expression_size e) 1
      (expression_length names e from place) refl)
  node_length names (nodes.CompoundAssign p before o e after) d at =
      let old = d + address_count p in
      let place = at + (locate_size p + (read_size p + conversion_size before)) in
      let last = conversion_code after old ++ write_code p d old d ∷ [] in
      let made = two (conversion_code after old) (write_code p d old d ∷ []) (conversion_size after)
      1 (conversion_length after old) refl in
      let valued = two (expression_code names e (old + 1) place) (combine old o ∷ last)
      (expression_size e) (1 + (conversion_size after + 1))
      (expression_length names e (old + 1) place)
      (more (combine old o) last (conversion_size after + 1) made) in
      let begun = two (conversion_code before old)
      (expression_code names e (old + 1) place ++ combine old o ∷ last) (conversion_size before)
      (expression_size e + (1 + (conversion_size after + 1))) (conversion_length before old)
      valued in
      two (locate_code names p d at) (read_code p d old
      ++ (conversion_code before old ++ (expression_code names e (old + 1) place ++ combine old o
      ∷ last))) (locate_size p) (read_size p
      + (conversion_size before + (expression_size e + (1 + (conversion_size after + 1)))))
      (locate_length names p d at)
      (two (read_code p d old) (conversion_code before old
      ++ (expression_code names e (old + 1) place ++ combine old o ∷ last)) (read_size p)
      (conversion_size before + (expression_size e + (1 + (conversion_size after + 1))))
      (read_length p d old) begun)
  node_length names (nodes.Increment m p before o n after) d at =
      let old = d + address_count p in
      let last = write_code p d (old + 1) (old + 1)
      ∷ copy (Temporary d) (Temporary (chosen_of m old)) ∷ [] in
      let made = two (conversion_code after (old + 1)) last (conversion_size after) 2
      (conversion_length after (old + 1)) refl in
      let from = constant (old + 2) n ∷ combine (old + 1) o
      ∷ (conversion_code after (old + 1) ++ last) in
      let begun = two (conversion_code before (old + 1)) from (conversion_size before)
      (2 + (conversion_size after + 2)) (conversion_length before (old + 1))
      (more_by_two (constant (old + 2) n) (combine (old + 1) o)
      (conversion_code after (old + 1) ++ last) (conversion_size after + 2) made) in
      let copied = more (copy (Temporary (old + 1)) (Temporary old))
      (conversion_code before (old + 1) ++ from)
      (conversion_size before + (2 + (conversion_size after + 2))) begun in
      two (locate_code names p d at) (read_code p d old
      ++ copy (Temporary (old + 1)) (Temporary old) ∷ (conversion_code before (old + 1) ++ from))
      (locate_size p) (read_size p + (1 +
      (conversion_size before + (2 + (conversion_size after + 2)))))
      (locate_length names p d at)
      (two (read_code p d old) (copy (Temporary (old + 1)) (Temporary old)
      ∷ (conversion_code before (old + 1) ++ from)) (read_size p)
      (1 + (conversion_size before + (2 + (conversion_size after + 2)))) (read_length p d old)
      copied)
  node_length names (nodes.Unary o e) d at = two (expression_code names e d at) (unary_code o d)
      (expression_size e) (unary_size o) (expression_length names e d at) (unary_length o d)
  node_length names (nodes.Binary o e f) d at =
      two (expression_code names e d at) (expression_code names f (d + 1) (at + expression_size e)
      ++ combine d o ∷ []) (expression_size e) (expression_size f + 1)
      (expression_length names e d at)
      (two (expression_code names f (d + 1) (at + expression_size e)) (combine d o ∷ [])
      (expression_size f) 1 (expression_length names f (d + 1) (at + expression_size e)) refl)
  node_length names (nodes.PointerDifference n e f) d at =
      let last = combine d (Pure (Subtract Long)) ∷ constant (d + 1) n
      ∷ combine d (Divide Signed Long) ∷ [] in
      two (expression_code names e d at) (expression_code names f (d + 1) (at + expression_size e)
      ++ last) (expression_size e) (expression_size f + 3) (expression_length names e d at)
      (two (expression_code names f (d + 1) (at + expression_size e)) last (expression_size f) 3
      (expression_length names f (d + 1) (at + expression_size e)) refl)
  node_length names (nodes.Not e) d at = two (expression_code names e d at)
      (choice_code d (at + expression_size e) 1 0) (expression_size e) 4
      (expression_length names e d at) refl
  node_length names (nodes.And e f) d at =
      let second = at + expression_size e + 1 in
      let rest = expression_code names f d second
      ++ choice_code d (second + expression_size f) 0 1 in
      two (expression_code names e d at) (JumpIfZero (Temporary d) (second + expression_size f + 3)
      ∷ rest) (expression_size e) (1 + (expression_size f + 4)) (expression_length names e d at)
      (more (JumpIfZero (Temporary d) (second + expression_size f + 3)) rest (expression_size f + 4)
      (two (expression_code names f d second) (choice_code d (second + expression_size f) 0 1)
      (expression_size f) 4 (expression_length names f d second) refl))
  node_length names (nodes.Or e f) d at =
      let second = at + expression_size e + 3 in
      let rest = expression_code names f d second
      ++ choice_code d (second + expression_size f) 0 1 in
      two (expression_code names e d at) (JumpIfZero (Temporary d) second ∷ constant d 1
      ∷ Jump (second + expression_size f + 4) ∷ rest) (expression_size e)
      (3 + (expression_size f + 4)) (expression_length names e d at)
      (more_by_three (JumpIfZero (Temporary d) second) (constant d 1)
      (Jump (second + expression_size f + 4)) rest (expression_size f + 4)
      (two (expression_code names f d second) (choice_code d (second + expression_size f) 0 1)
      (expression_size f) 4 (expression_length names f d second) refl))
  node_length names (nodes.Conditional c e f) d at =
      let yes' = at + expression_size c + 1 in
      let no' = yes' + expression_size e + 1 in
      let rest = expression_code names e d yes' ++ Jump (no' + expression_size f)
      ∷ expression_code names f d no' in
      two (expression_code names c d at) (JumpIfZero (Temporary d) no' ∷ rest) (expression_size c)
      (1 + (expression_size e + (1 + expression_size f))) (expression_length names c d at)
      (more (JumpIfZero (Temporary d) no') rest (expression_size e + (1 + expression_size f))
      (two (expression_code names e d yes')
      (Jump (no' + expression_size f) ∷ expression_code names f d no') (expression_size e)
      (1 + expression_size f) (expression_length names e d yes')
      (more (Jump (no' + expression_size f)) (expression_code names f d no') (expression_size f)
      (expression_length names f d no'))))
  node_length names (nodes.Comma e f) d at =
      two (expression_code names e d at) (expression_code names f (d + 1) (at + expression_size e)
      ++ copy (Temporary d) (Temporary (d + 1)) ∷ []) (expression_size e) (expression_size f + 1)
      (expression_length names e d at)
      (two (expression_code names f (d + 1) (at + expression_size e))
      (copy (Temporary d) (Temporary (d + 1)) ∷ []) (expression_size f) 1
      (expression_length names f (d + 1) (at + expression_size e)) refl)
  node_length names (nodes.Call f es) d at = two (arguments_code names es d at)
      (Call f d (argument_count es) ∷ []) (arguments_size es) 1 (arguments_length names es d at)
      refl
  node_length names (nodes.CallBuiltIn k es) d at = two (arguments_code names es d at)
      (CallBuiltIn k d ∷ []) (arguments_size es) 1 (arguments_length names es d at) refl
  node_length names nodes.ExceptionCode d at = refl
  node_length names (nodes.Information f) d at = refl
  node_length names nodes.AbnormalTermination d at = refl
