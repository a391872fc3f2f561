-- The code of an expression calls `walk` exactly where the expression names it.
use Rattle.std.proofs.Common.{◌≡◌, ℕ, ◌+◌, false, List, [], ◌∷◌, Option, Some, None, refl}
use Rattle.host_layout.specs.declared.imported.ImportedService.TheVariants as imports
use Rattle.c_operations.specs.declared.built_in.BuiltIn.{BuiltIn}
use Rattle.c_operations.specs.declared.built_in.BuiltIn.TheVariants.{Put, Protect, RaiseException, Walk, AddVectored, RemoveVectored}
use Rattle.c_operations.specs.declared.operation.Pure.{Pure}
use Rattle.c_operations.specs.declared.operation.Pure.TheVariants.{First}
use Rattle.c_checked.specs.declared.expression.Conversion.{Conversion}
use Rattle.c_checked.specs.declared.expression.Conversion.TheVariants.{Kept, Extend, Scale}
use Rattle.c_checked.specs.Expression as nodes
use Rattle.c_checked.specs.Expression.{Expression, On, Node, Lvalue, Global, Stacked, Indirection, Element, Arguments, Done, Next}
use Rattle.linear_code.specs.declared.slot.Slot.TheVariants.{Temporary}
use Rattle.linear_code.specs.declared.instruction.Instruction.{Instruction}
use Rattle.linear_code.specs.declared.instruction.Instruction.TheVariants as instructions
use Rattle.lowering_sizes.specs.Sizes.{address_count, read_size, expression_size, locate_size, conversion_size}
use Rattle.lowering_expressions.specs.declared.scope.ExceptionSource.{ExceptionSource}
use Rattle.lowering_expressions.specs.declared.scope.ExceptionSource.TheVariants.{NoException, OfFilter, KeptIn}
use Rattle.lowering_expressions.specs.declared.scope.Names.{Names}
use Rattle.lowering_expressions.specs.Expressions.{copy, chosen_of, conversion_code, unary_code, code_code, abnormal_code, read_code, write_code, address_code, expression_code, locate_code, arguments_code, node_code}
use Rattle.image_link.specs.Services.{is_call}
use Rattle.named_walks.specs.Walks.{is_walk, expression_walks, place_walks, arguments_walk, node_walks}
use Rattle.named_walks.proofs.Lists.{walk_in, both, before, after, next}

-- ---- code that calls nothing

conversion_plain : (c : Conversion) (d : ℕ) → walk_in (conversion_code c d) ≡ false
conversion_plain Kept d = refl
conversion_plain (Extend s from size) d = refl
conversion_plain (Scale s from by) d = refl

unary_plain : (o : Pure) (d : ℕ) → walk_in (unary_code o d) ≡ false
unary_plain First d = refl
unary_plain o d = refl

read_plain : (p : Lvalue) (address to : ℕ) → walk_in (read_code p address to) ≡ false
read_plain (nodes.Local x) address to = refl
read_plain p address to = refl

write_plain : (p : Lvalue) (address from to : ℕ)
    → is_call imports.Walk (write_code p address from to) ≡ false
write_plain (nodes.Local x) address from to = refl
write_plain p address from to = refl

-- one that ends its code
write_ends : (p : Lvalue) (address from to : ℕ)
    → walk_in (write_code p address from to ∷ []) ≡ false
write_ends p address from to =
    let last = write_code p address from to in
    next last [] (write_plain p address from to) refl

code_plain : (s : ExceptionSource) (d : ℕ) → is_call imports.Walk (code_code s d) ≡ false
code_plain NoException d = refl
code_plain OfFilter d = refl
code_plain (KeptIn x) d = refl

flag_plain : (s : Option ℕ) (d : ℕ) → is_call imports.Walk (abnormal_code s d) ≡ false
flag_plain None d = refl
flag_plain (Some x) d = refl

-- ---- the call of a built-in function

called : (k : BuiltIn) (d : ℕ) → walk_in (instructions.CallBuiltIn k d ∷ []) ≡ is_walk k
called Put d = refl
called Protect d = refl
called RaiseException d = refl
called Walk d = refl
called (AddVectored f) d = refl
called (RemoveVectored f) d = refl

-- ---- expressions

module _ (names : Names) where
  located : (p : Lvalue) (d : ℕ) (code : List Instruction) → walk_in code ≡ place_walks p
      → walk_in (address_code p d code) ≡ place_walks p
  located (nodes.Local x) d code h = refl
  located (Global access a) d code h = h
  located (Stacked access base offset) d code h = h
  located (Indirection access e) d code h = h
  located (Element access e i) d code h = h

  mutual
    pub expression_in : (e : Expression) (d at : ℕ)
        → walk_in (expression_code names e d at) ≡ expression_walks e
    expression_in (On n c) d at =
        before (node_code names n d at) _ (node_in n d at) (conversion_plain c d)

    place_in : (p : Lvalue) (d at : ℕ) → walk_in (locate_code names p d at) ≡ place_walks p
    place_in (nodes.Local x) d at = refl
    place_in (Global access a) d at = refl
    place_in (Stacked access base offset) d at = refl
    place_in (Indirection access e) d at = expression_in e d at
    place_in (Element access e i) d at =
        let to = at + expression_size e in
        both (expression_code names e d at) _ (expression_in e d at)
        (before (expression_code names i (d + 1) to) _ (expression_in i (d + 1) to) refl)

    arguments_in : (es : Arguments) (d at : ℕ)
        → walk_in (arguments_code names es d at) ≡ arguments_walk es
    arguments_in Done d at = refl
    arguments_in (Next e es) d at =
        both (expression_code names e d at) _ (expression_in e d at)
        (arguments_in es (d + 1) (at + expression_size e))

    node_in : (n : Node) (d at : ℕ) → walk_in (node_code names n d at) ≡ node_walks n
    node_in (nodes.Constant z n) d at = refl
    node_in (nodes.StackedArray base offset) d at = refl
    node_in (nodes.Read p) d at =
        before (locate_code names p d at) _ (place_in p d at) (read_plain p d d)
    node_in (nodes.AddressOf p) d at = located p d (locate_code names p d at) (place_in p d at)
    node_in (nodes.Assign p e) d at =
        let from = d + address_count p in
        let to = at + locate_size p in
        both (locate_code names p d at) _ (place_in p d at)
        (before (expression_code names e from to) _ (expression_in e from to)
        (write_ends p d from d))
    node_in (nodes.CompoundAssign p before' o e after') d at =
        let old = d + address_count p in
        let to = at + (locate_size p + (read_size p + conversion_size before')) in
        both (locate_code names p d at) _ (place_in p d at)
        (after (read_code p d old) _ (read_plain p d old)
        (after (conversion_code before' old) _ (conversion_plain before' old)
        (before (expression_code names e (old + 1) to) _ (expression_in e (old + 1) to)
        (after (conversion_code after' old) _ (conversion_plain after' old)
        (write_ends p d old d)))))
    node_in (nodes.Increment m p before' o n after') d at =
        let old = d + address_count p in
        let place = write_code p d (old + 1) (old + 1) in
        let last = copy (Temporary d) (Temporary (chosen_of m old)) ∷ [] in
        before (locate_code names p d at) _ (place_in p d at)
        (after (read_code p d old) _ (read_plain p d old)
        (after (conversion_code before' (old + 1)) _ (conversion_plain before' (old + 1))
        (after (conversion_code after' (old + 1)) _ (conversion_plain after' (old + 1))
        (next place last (write_plain p d (old + 1) (old + 1)) refl))))
    node_in (nodes.Unary o e) d at =
        before (expression_code names e d at) _ (expression_in e d at) (unary_plain o d)
    node_in (nodes.Binary o e f) d at =
        let to = at + expression_size e in
        both (expression_code names e d at) _ (expression_in e d at)
        (before (expression_code names f (d + 1) to) _ (expression_in f (d + 1) to) refl)
    node_in (nodes.PointerDifference n e f) d at =
        let to = at + expression_size e in
        both (expression_code names e d at) _ (expression_in e d at)
        (before (expression_code names f (d + 1) to) _ (expression_in f (d + 1) to) refl)
    node_in (nodes.Not e) d at =
        before (expression_code names e d at) _ (expression_in e d at) refl
    node_in (nodes.And e f) d at =
        let second = at + expression_size e + 1 in
        both (expression_code names e d at) _ (expression_in e d at)
        (before (expression_code names f d second) _ (expression_in f d second) refl)
    node_in (nodes.Or e f) d at =
        let second = at + expression_size e + 3 in
        both (expression_code names e d at) _ (expression_in e d at)
        (before (expression_code names f d second) _ (expression_in f d second) refl)
    node_in (nodes.Conditional c e f) d at =
        let yes = at + expression_size c + 1 in
        let no = yes + expression_size e + 1 in
        both (expression_code names c d at) _ (expression_in c d at)
        (both (expression_code names e d yes) _ (expression_in e d yes)
        (expression_in f d no))
    node_in (nodes.Comma e f) d at =
        let to = at + expression_size e in
        both (expression_code names e d at) _ (expression_in e d at)
        (before (expression_code names f (d + 1) to) _ (expression_in f (d + 1) to) refl)
    node_in (nodes.Call f es) d at =
        before (arguments_code names es d at) _ (arguments_in es d at) refl
    node_in (nodes.CallBuiltIn k es) d at =
        both (arguments_code names es d at) _ (arguments_in es d at) (called k d)
    node_in nodes.ExceptionCode d at =
        let source = names.exception in
        next (code_code source d) [] (code_plain source d) refl
    node_in (nodes.Information f) d at = refl
    node_in nodes.AbnormalTermination d at =
        let flag = names.abnormal in
        next (abnormal_code flag d) [] (flag_plain flag d) refl
