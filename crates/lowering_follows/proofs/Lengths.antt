-- How many instructions code has.
use Rattle.std.proofs.Common.{◌≡◌, ℕ, suc, ◌+◌, List, [], ◌∷◌, ◌++◌, length, refl, ap, ◌∙◌, arith, length-append}
use Rattle.lowering_follows.specs.Words.{Conversion, Kept, Extend, Scale, Expression, On, Node, Lvalue, Global, Stacked, Indirection, Element, Arguments, Done, Instruction, Names, conversion_size, unary_size, address_count, read_size, expression_size, locate_size, arguments_size, node_size, address_size, conversion_code, unary_code, read_code, expression_code, locate_code, arguments_code, node_code, address_code, Local, Next}
use Rattle.c_operations.specs.declared.operation.Pure.{Pure as Pure'}
use Rattle.c_operations.specs.declared.operation.Pure.TheVariants as pures
use Rattle.c_checked.specs.Expression as nodes

pub conversion_length : (c : Conversion) (d : ℕ) → length (conversion_code c d) ≡ conversion_size c
conversion_length Kept d = refl
conversion_length (Extend s from size) d = refl
conversion_length (Scale s from by) d = refl

unary_length : (o : Pure') (d : ℕ) → length (unary_code o d) ≡ unary_size o
unary_length pures.First d = refl
unary_length o d = refl

pub read_length : (p : Lvalue) (a to : ℕ) → length (read_code p a to) ≡ read_size p
read_length (Local x) a to = refl
read_length p a to = refl

address_length : (p : Lvalue) (d n : ℕ) (code : List Instruction) → length code ≡ n
    → length (address_code p d code) ≡ address_size p n
address_length (Local x) d n code e = refl
address_length (Global access a) d n code e = e
address_length (Stacked access base offset) d n code e = e
address_length (Indirection access f) d n code e = e
address_length (Element access f i) d n code e = e

appended : (xs ys : List Instruction) (m n : ℕ) → length xs ≡ m → length ys ≡ n
    → length (xs ++ ys) ≡ m + n
appended xs ys m n p q = length-append xs ys ∙ ap (λ k. k + length ys) p ∙ ap (λ k. m + k) q

one_more : (xs : List Instruction) (n : ℕ) → length xs ≡ n → suc (length xs) ≡ 1 + n
one_more xs n e = omega arith

two_more : (xs : List Instruction) (n : ℕ) → length xs ≡ n → suc (suc (length xs)) ≡ 2 + n
two_more xs n e = omega arith

three_more : (xs : List Instruction) (n : ℕ) → length xs ≡ n → suc (suc (suc (length xs))) ≡ 3 + n
three_more xs n e = omega arith

mutual
  pub expression_length : (names : Names) (e : Expression) (d at : ℕ)
      → length (expression_code names e d at) ≡ expression_size e
  expression_length names (On n c) d at = appended (node_code names n d at) (conversion_code c d)
      (node_size n) (conversion_size c) (node_length names n d at) (conversion_length c d)

  pub locate_length : (names : Names) (p : Lvalue) (d at : ℕ)
      → length (locate_code names p d at) ≡ locate_size p
  locate_length names (Local x) d at = refl
  locate_length names (Global access a) d at = refl
  locate_length names (Stacked access base offset) d at = refl
  locate_length names (Indirection access e) d at = expression_length names e d at
  locate_length names (Element access e i) d at =
      let x = expression_code names e d at in
      let y = expression_code names i (d + 1) (at + expression_size e) in
      appended x (y ++ _ ∷ []) (expression_size e) (expression_size i + 1)
      (expression_length names e d at) (appended y (_ ∷ []) (expression_size i) 1
      (expression_length names i (d + 1) (at + expression_size e)) refl)

  pub arguments_length : (names : Names) (es : Arguments) (d at : ℕ)
      → length (arguments_code names es d at) ≡ arguments_size es
  arguments_length names Done d at = refl
  arguments_length names (Next e es) d at =
      appended (expression_code names e d at)
      (arguments_code names es (d + 1) (at + expression_size e)) (expression_size e)
      (arguments_size es) (expression_length names e d at)
      (arguments_length names es (d + 1) (at + expression_size e))

  pub node_length : (names : Names) (n : Node) (d at : ℕ)
      → length (node_code names n d at) ≡ node_size n
  node_length names (nodes.Constant z n) d at = refl
  node_length names (nodes.StackedArray base offset) d at = refl
  node_length names (nodes.Read p) d at = appended (locate_code names p d at) (read_code p d d)
      (locate_size p) (read_size p) (locate_length names p d at) (read_length p d d)
  node_length names (nodes.AddressOf p) d at = address_length p d (locate_size p)
      (locate_code names p d at) (locate_length names p d at)
  node_length names (nodes.Assign p e) d at =
      appended (locate_code names p d at) _ (locate_size p) (expression_size e + 1)
      (locate_length names p d at)
      (appended (expression_code names e (d + address_count p) (at + locate_size p)) (_ ∷ [])
      (expression_size e) 1 (expression_length names e (d + address_count p) (at + locate_size p))
      refl)
  node_length names (nodes.CompoundAssign p before o e after) d at =
      let old = d + address_count p in
      let place = at + (locate_size p + (read_size p + conversion_size before)) in
      appended (locate_code names p d at) _ (locate_size p) _ (locate_length names p d at)
      (appended (read_code p d old) _ (read_size p) _ (read_length p d old)
      (appended (conversion_code before old) _ (conversion_size before) _
      (conversion_length before old)
      (appended (expression_code names e (old + 1) place)
      (_ ∷ (conversion_code after old ++ _ ∷ [])) (expression_size e)
      (1 + (conversion_size after + 1)) (expression_length names e (old + 1) place)
      (one_more (conversion_code after old ++ _ ∷ []) (conversion_size after + 1)
      (appended (conversion_code after old) (_ ∷ []) (conversion_size after) 1
      (conversion_length after old) refl)))))
  node_length names (nodes.Increment m p before o n after) d at =
      let old = d + address_count p in
      let end = conversion_code after (old + 1) in
      let x = appended end (_ ∷ _ ∷ []) (conversion_size after) 2
      (conversion_length after (old + 1)) refl in
      let y = appended (conversion_code before (old + 1)) (_ ∷ _ ∷ (end ++ _ ∷ _ ∷ []))
      (conversion_size before) (2 + (conversion_size after + 2))
      (conversion_length before (old + 1)) (two_more (end ++ _ ∷ _ ∷ [])
      (conversion_size after + 2) x) in
      appended (locate_code names p d at) _ (locate_size p) _ (locate_length names p d at)
      (appended (read_code p d old) _ (read_size p) _ (read_length p d old)
      (one_more (conversion_code before (old + 1) ++ (_ ∷ _ ∷ (end ++ _ ∷ _ ∷ [])))
      (conversion_size before + (2 + (conversion_size after + 2))) y ∙ omega arith))
  node_length names (nodes.Unary o e) d at = appended (expression_code names e d at)
      (unary_code o d) (expression_size e) (unary_size o) (expression_length names e d at)
      (unary_length o d)
  node_length names (nodes.Binary o e f) d at =
      appended (expression_code names e d at) _ (expression_size e) (expression_size f + 1)
      (expression_length names e d at)
      (appended (expression_code names f (d + 1) (at + expression_size e)) (_ ∷ [])
      (expression_size f) 1 (expression_length names f (d + 1) (at + expression_size e)) refl)
  node_length names (nodes.PointerDifference n e f) d at =
      appended (expression_code names e d at) _ (expression_size e) (expression_size f + 3)
      (expression_length names e d at)
      (appended (expression_code names f (d + 1) (at + expression_size e)) (_ ∷ _ ∷ _ ∷ [])
      (expression_size f) 3 (expression_length names f (d + 1) (at + expression_size e)) refl)
  node_length names (nodes.Not e) d at = appended (expression_code names e d at)
      (_ ∷ _ ∷ _ ∷ _ ∷ []) (expression_size e) 4 (expression_length names e d at) refl
  node_length names (nodes.And e f) d at =
      let second = at + expression_size e + 1 in
      let y = appended (expression_code names f d second) (_ ∷ _ ∷ _ ∷ _ ∷ []) (expression_size f) 4
      (expression_length names f d second) refl in
      appended (expression_code names e d at) _ (expression_size e) (1 + (expression_size f + 4))
      (expression_length names e d at) (one_more
      (expression_code names f d second ++ (_ ∷ _ ∷ _ ∷ _ ∷ [])) (expression_size f + 4) y)
  node_length names (nodes.Or e f) d at =
      let second = at + expression_size e + 3 in
      let y = appended (expression_code names f d second) (_ ∷ _ ∷ _ ∷ _ ∷ []) (expression_size f) 4
      (expression_length names f d second) refl in
      appended (expression_code names e d at) _ (expression_size e) (3 + (expression_size f + 4))
      (expression_length names e d at) (three_more
      (expression_code names f d second ++ (_ ∷ _ ∷ _ ∷ _ ∷ [])) (expression_size f + 4) y)
  node_length names (nodes.Conditional c e f) d at =
      let yes = at + expression_size c + 1 in
      let no = yes + expression_size e + 1 in
      let z = one_more (expression_code names f d no) (expression_size f)
      (expression_length names f d no) in
      let y = appended (expression_code names e d yes) (_ ∷ expression_code names f d no)
      (expression_size e) (1 + expression_size f) (expression_length names e d yes) z in
      appended (expression_code names c d at) _ (expression_size c)
      (1 + (expression_size e + (1 + expression_size f))) (expression_length names c d at)
      (one_more (expression_code names e d yes ++ (_ ∷ expression_code names f d no))
      (expression_size e + (1 + expression_size f)) y)
  node_length names (nodes.Comma e f) d at =
      appended (expression_code names e d at) _ (expression_size e) (expression_size f + 1)
      (expression_length names e d at)
      (appended (expression_code names f (d + 1) (at + expression_size e)) (_ ∷ [])
      (expression_size f) 1 (expression_length names f (d + 1) (at + expression_size e)) refl)
  node_length names (nodes.Call f es) d at = appended (arguments_code names es d at) (_ ∷ [])
      (arguments_size es) 1 (arguments_length names es d at) refl
  node_length names (nodes.CallBuiltIn k es) d at = appended (arguments_code names es d at) (_ ∷ [])
      (arguments_size es) 1 (arguments_length names es d at) refl
  node_length names nodes.ExceptionCode d at = refl
  node_length names (nodes.Information f) d at = refl
  node_length names nodes.AbnormalTermination d at = refl
