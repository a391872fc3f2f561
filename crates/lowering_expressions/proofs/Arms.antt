-- The code of each kind of node, made piece by piece.
use Rattle.std.proofs.Common.{◌≡◌, ℕ, zero, suc, ◌+◌, ◌<◌, List, [], ◌∷◌, ◌++◌, length, map, take, get_or, refl, sym, ap, subst, ◌∙◌, arith, append_assoc, length-append}
use Rattle.std.proofs.lemmas.List.{append-nil}
use Rattle.c_operations.specs.declared.built_in.BuiltIn.{BuiltIn}
use Rattle.c_operations.specs.declared.operation.Operation.{Operation}
use Rattle.c_operations.specs.declared.operation.Operation.TheVariants.{Pure}
use Rattle.c_operations.specs.declared.operation.Pure.{Pure as Pure'}
use Rattle.c_operations.specs.declared.operation.Pure.TheVariants.{Add}
use Rattle.c_operations.specs.declared.operation.Size.TheVariants.{Long}
use Rattle.c_checked.specs.declared.expression.Access.{Access}
use Rattle.c_checked.specs.declared.expression.Conversion.{Conversion}
use Rattle.c_checked.specs.declared.expression.Fixity.{Fixity}
use Rattle.c_checked.specs.declared.expression.Expr.{Expr}
use Rattle.c_checked.specs.Expression as nodes
use Rattle.c_checked.specs.Expression.{Expression, Node, Lvalue, Element, Arguments, expression, arguments}
use Rattle.linear_code.specs.declared.slot.Slot.TheVariants.{Temporary}
use Rattle.linear_code.specs.declared.instruction.Instruction.{Instruction}
use Rattle.linear_code.specs.declared.instruction.Instruction.TheVariants.{Jump, JumpIfZero, Call, CallBuiltIn}
use Rattle.lowering_expressions.specs.declared.scope.Names.{Names}
use Rattle.lowering_sizes.specs.Sizes.{address_count, conversion_size, read_size, expression_size, locate_size}
use Rattle.lowering_expressions.specs.Expressions.{constant, copy, combine, conversion_code, unary_code, read_code, write_code, choice_code, argument_count, expression_code, locate_code, arguments_code, node_code}
use Rattle.lowering_expressions.specs.Pieces.{truth, assigned, compound_begun, compound_ended, difference_ended, incremented, increment_ended}
use Rattle.lowering_expressions.proofs.Codes.{joined, longer, begun_length, expression_length, locate_length}

-- ---- code whose length is known, and more that depends on its place

pub after : (a : List Instruction) (n : ℕ) (old mid new : List Instruction)
    (more : ℕ → List Instruction) → length a ≡ n → mid ≡ old ++ a → new ≡ mid ++ more (length mid)
    → new ≡ old ++ (a ++ more (length old + n))
after a n old mid new more l h k = joined old mid new a (more (length old + n)) h
    (k ∙ ap (λ x. mid ++ more x) (longer old mid a n l h))

pub after_one : (i : Instruction) (old mid new : List Instruction) (more : ℕ → List Instruction)
    → mid ≡ old ++ i ∷ [] → new ≡ mid ++ more (length mid)
    → new ≡ old ++ (i ∷ more (length old + 1))
after_one i old mid new more h k = after (i ∷ []) 1 old mid new more refl h k

pub after_expression : (names : Names) (e : Expression) (d : ℕ) (old mid new : List Instruction)
    (more : ℕ → List Instruction) → mid ≡ old ++ expression_code names e d (length old)
    → new ≡ mid ++ more (length mid) → new ≡ old
    ++ (expression_code names e d (length old) ++ more (length old + expression_size e))
after_expression names e d old mid new more h k = after (expression_code names e d (length old))
    (expression_size e) old mid new more (expression_length names e d (length old)) h k

after_locate : (names : Names) (p : Lvalue) (d : ℕ) (old mid new : List Instruction)
    (more : ℕ → List Instruction) → mid ≡ old ++ locate_code names p d (length old)
    → new ≡ mid ++ more (length mid) → new ≡ old
    ++ (locate_code names p d (length old) ++ more (length old + locate_size p))
after_locate names p d old mid new more h k = after (locate_code names p d (length old))
    (locate_size p) old mid new more (locate_length names p d (length old)) h k

-- what is placed at one place is placed at another that is the same
moved : (a b : ℕ) (old new : List Instruction) (more : ℕ → List Instruction) → a ≡ b
    → new ≡ old ++ more a → new ≡ old ++ more b
moved a b old new more e h = h ∙ ap (λ x. old ++ more x) e

-- ---- nodes

abbrev Made : Names → Node → ℕ → List Instruction → List Instruction → Type 0
Made names n d old new = new ≡ old ++ node_code names n d (length old)

of : (names : Names) (n m : Node) (d : ℕ) (old new : List Instruction) → n ≡ m
    → Made names m d old new → Made names n d old new
of names n m d old new e h = subst (λ x. Made names x d old new) (sym e) h

-- two operands, to a temporary and the next one, and what follows them
after_operands : (names : Names) (e f : Expression) (d : ℕ)
    (old one two three last : List Instruction)
    → one ≡ old ++ expression_code names e d (length old)
    → two ≡ one ++ expression_code names f (d + 1) (length one) → three ≡ two ++ last
    → three ≡ old ++ (expression_code names e d (length old)
    ++ (expression_code names f (d + 1) (length old + expression_size e) ++ last))
after_operands names e f d old one two three last a b c =
    after_expression names e d old one three (λ at. expression_code names f (d + 1) at ++ last) a
    (after_expression names f (d + 1) one two three (λ at. last) b c)

pub element_is : (names : Names) (access : Access) (e f : Expression) (p : Lvalue) (d : ℕ)
    (old one two three : List Instruction) → p ≡ Element access e f
    → one ≡ old ++ expression_code names e d (length old)
    → two ≡ one ++ expression_code names f (d + 1) (length one)
    → three ≡ two ++ combine d (Pure (Add Long)) ∷ []
    → three ≡ old ++ locate_code names p d (length old)
element_is names access e f p d old one two three is a b c =
    subst (λ q. three ≡ old ++ locate_code names q d (length old)) (sym is)
    (after_operands names e f d old one two three (combine d (Pure (Add Long)) ∷ []) a b c)

pub assign_is : (names : Names) (p : Lvalue) (e : Expression) (n : Node) (d from : ℕ)
    (old one two three : List Instruction) → n ≡ nodes.Assign p e → from ≡ d + address_count p
    → one ≡ old ++ locate_code names p d (length old)
    → two ≡ one ++ expression_code names e from (length one) → three ≡ two ++ assigned p d
    → Made names n d old three
assign_is names p e n d from old one two three is more a b c =
    of names n (nodes.Assign p e) d old three is
    (after_locate names p d old one three (λ at. expression_code names e (d + address_count p) at
    ++ write_code p d (d + address_count p) d ∷ []) a
    (after_expression names e (d + address_count p) one two three
    (λ at. write_code p d (d + address_count p) d ∷ [])
    (b ∙ ap (λ x. one ++ expression_code names e x (length one)) more) c))

pub compound_is : (names : Names) (p : Lvalue) (before : Conversion) (o : Operation)
    (e : Expression) (after' : Conversion) (n : Node) (d old' next : ℕ)
    (old l0 l1 l2 l3 : List Instruction) → n ≡ nodes.CompoundAssign p before o e after'
    → old' ≡ d + address_count p → next ≡ old' + 1 → l0 ≡ old ++ locate_code names p d (length old)
    → l1 ≡ l0 ++ compound_begun p before d → l2 ≡ l1 ++ expression_code names e next (length l1)
    → l3 ≡ l2 ++ compound_ended p o after' d → Made names n d old l3
compound_is names p before o e after' n d old' next old l0 l1 l2 l3 is at more h0 h1 h2 h3 =
    let x = d + address_count p in
    let begun = read_size p + conversion_size before in
    let z : next ≡ x + 1 = omega arith in
    let valued = λ (at : ℕ). expression_code names e (x + 1) at ++ compound_ended p o after' d in
    let h2' : l2 ≡ l1 ++ expression_code names e (x + 1) (length l1) = h2
    ∙ ap (λ k. l1 ++ expression_code names e k (length l1)) z in
    let g2 = after_expression names e (x + 1) l1 l2 l3 (λ at. compound_ended p o after' d) h2' h3 in
    let g1 = after (compound_begun p before d) begun l0 l1 l3 valued (begun_length p before d) h1
    g2 in
    let g0 = after_locate names p d old l0 l3
    (λ at. compound_begun p before d ++ valued (at + begun)) h0 g1 in
    let place : length old + locate_size p + begun
    ≡ length old + (locate_size p + begun) = omega arith in
    let front = locate_code names p d (length old) in
    let rest = valued (length old + (locate_size p + begun)) in
    of names n (nodes.CompoundAssign p before o e after') d old l3 is
    (moved (length old + locate_size p + begun) (length old + (locate_size p + begun)) old l3
    (λ at. front ++ (compound_begun p before d ++ valued at)) place g0
    ∙ ap (λ t. old ++ (front ++ t)) (append_assoc (read_code p d x) (conversion_code before x)
    rest))

pub increment_is : (names : Names) (m : Fixity) (p : Lvalue) (before : Conversion) (o : Operation)
    (k : ℕ) (after' : Conversion) (n : Node) (d : ℕ) (old one two : List Instruction)
    → n ≡ nodes.Increment m p before o k after' → one ≡ old ++ locate_code names p d (length old)
    → two ≡ one ++ incremented p m before o k after' d → Made names n d old two
increment_is names m p before o k after' n d old one two is a b =
    let x = d + address_count p in
    let front = locate_code names p d (length old) in
    let last = increment_ended p m x d in
    of names n (nodes.Increment m p before o k after') d old two is
    (joined old one two front (incremented p m before o k after' d) a b
    ∙ ap (λ t. old ++ (front ++ (read_code p d x ++ copy (Temporary (x + 1)) (Temporary x) ∷ t)))
    (append_assoc (conversion_code before (x + 1))
    (constant (x + 2) k ∷ combine (x + 1) o ∷ conversion_code after' (x + 1)) last))

pub unary_is : (names : Names) (o : Pure') (e : Expression) (n : Node) (d : ℕ)
    (old one two : List Instruction) → n ≡ nodes.Unary o e
    → one ≡ old ++ expression_code names e d (length old) → two ≡ one ++ unary_code o d
    → Made names n d old two
unary_is names o e n d old one two is a b = of names n (nodes.Unary o e) d old two is
    (joined old one two (expression_code names e d (length old)) (unary_code o d) a b)

pub binary_is : (names : Names) (o : Operation) (e f : Expression) (n : Node) (d : ℕ)
    (old one two three : List Instruction) → n ≡ nodes.Binary o e f
    → one ≡ old ++ expression_code names e d (length old)
    → two ≡ one ++ expression_code names f (d + 1) (length one) → three ≡ two ++ combine d o ∷ []
    → Made names n d old three
binary_is names o e f n d old one two three is a b c =
    of names n (nodes.Binary o e f) d old three is
    (after_operands names e f d old one two three (combine d o ∷ []) a b c)

pub difference_is : (names : Names) (k : ℕ) (e f : Expression) (n : Node) (d : ℕ)
    (old one two three : List Instruction) → n ≡ nodes.PointerDifference k e f
    → one ≡ old ++ expression_code names e d (length old)
    → two ≡ one ++ expression_code names f (d + 1) (length one)
    → three ≡ two ++ difference_ended k d → Made names n d old three
difference_is names k e f n d old one two three is a b c =
    of names n (nodes.PointerDifference k e f) d old three is
    (after_operands names e f d old one two three (difference_ended k d) a b c)

pub choice_is : (names : Names) (e : Expression) (d zero' other : ℕ)
    (old one two : List Instruction) → one ≡ old ++ expression_code names e d (length old)
    → two ≡ one ++ choice_code d (length one) zero' other → two ≡ old
    ++ (expression_code names e d (length old)
    ++ choice_code d (length old + expression_size e) zero' other)
choice_is names e d zero' other old one two a b = after_expression names e d old one two
    (λ at. choice_code d at zero' other) a b

pub and_is : (names : Names) (e f : Expression) (n : Node) (d : ℕ)
    (old one two three : List Instruction) → n ≡ nodes.And e f
    → one ≡ old ++ expression_code names e d (length old)
    → two ≡ one ++ JumpIfZero (Temporary d) (length one + (expression_size f + 4)) ∷ []
    → three ≡ two ++ truth names f d (length two) → Made names n d old three
and_is names e f n d old one two three is a b c =
    let s = expression_size f in
    let label = length one + (s + 4) in
    let rest = λ (at : ℕ). expression_code names f d at ++ choice_code d (at + s) 0 1 in
    let h = after_one (JumpIfZero (Temporary d) label) one two three rest b c in
    let z : label ≡ length one + 1 + s + 3 = omega arith in
    of names n (nodes.And e f) d old three is
    (after_expression names e d old one three
    (λ at. JumpIfZero (Temporary d) (at + 1 + s + 3) ∷ rest (at + 1)) a
    (h ∙ ap (λ k. one ++ JumpIfZero (Temporary d) k ∷ rest (length one + 1)) z))

pub or_is : (names : Names) (e f : Expression) (n : Node) (d : ℕ)
    (old one two three four five : List Instruction) → n ≡ nodes.Or e f
    → one ≡ old ++ expression_code names e d (length old)
    → two ≡ one ++ JumpIfZero (Temporary d) (length one + (0 + 3)) ∷ []
    → three ≡ two ++ constant d 1 ∷ [] → four
    ≡ three ++ Jump (length three + (expression_size f + 5)) ∷ []
    → five ≡ four ++ truth names f d (length four) → Made names n d old five
or_is names e f n d old one two three four five is a b c k l =
    let s = expression_size f in
    let label = length one + (0 + 3) in
    let end = length three + (s + 5) in
    let rest = λ (at : ℕ). expression_code names f d at ++ choice_code d (at + s) 0 1 in
    let h = after_one (JumpIfZero (Temporary d) label) one two five
    (λ at. constant d 1 ∷ Jump end ∷ rest (at + 1 + 1)) b
    (after_one (constant d 1) two three five (λ at. Jump end ∷ rest (at + 1)) c
    (after_one (Jump end) three four five rest k l)) in
    let t : length two ≡ length one + 1 = longer one two (JumpIfZero (Temporary d) label ∷ []) 1
    refl b in
    let u : length three ≡ length two + 1 = longer two three (constant d 1 ∷ []) 1 refl c in
    let y : label ≡ length one + 3 = omega arith in
    let z : end ≡ length one + 3 + s + 4 = omega arith in
    let w : length one + 1 + 1 + 1 ≡ length one + 3 = omega arith in
    of names n (nodes.Or e f) d old five is
    (after_expression names e d old one five (λ at. JumpIfZero (Temporary d) (at + 3) ∷ constant d 1
    ∷ Jump (at + 3 + s + 4) ∷ rest (at + 3)) a
    (h ∙ ap (λ k. one ++ JumpIfZero (Temporary d) label ∷ constant d 1 ∷ Jump end ∷ rest k) w
    ∙ ap (λ k. one ++ JumpIfZero (Temporary d) label ∷ constant d 1 ∷ Jump k
    ∷ rest (length one + 3)) z
    ∙ ap (λ k. one ++ JumpIfZero (Temporary d) k ∷ constant d 1 ∷ Jump (length one + 3 + s + 4)
    ∷ rest (length one + 3)) y))

pub conditional_is : (names : Names) (c e f : Expression) (n : Node) (d : ℕ)
    (old one two three four five : List Instruction) → n ≡ nodes.Conditional c e f
    → one ≡ old ++ expression_code names c d (length old)
    → two ≡ one ++ JumpIfZero (Temporary d) (length one + (expression_size e + 2)) ∷ []
    → three ≡ two ++ expression_code names e d (length two)
    → four ≡ three ++ Jump (length three + (expression_size f + 1)) ∷ []
    → five ≡ four ++ expression_code names f d (length four) → Made names n d old five
conditional_is names c e f n d old one two three four five is a b k l m =
    let x = expression_size e in
    let y = expression_size f in
    let label = length one + (x + 2) in
    let end = length three + (y + 1) in
    let g = after_one (Jump end) three four five (λ at. expression_code names f d at) l m in
    let h = after_expression names e d two three five
    (λ at. Jump end ∷ expression_code names f d (at + 1)) k g in
    let i = after_one (JumpIfZero (Temporary d) label) one two five
    (λ at. expression_code names e d at ++ Jump end ∷ expression_code names f d (at + x + 1)) b
    h in
    let t : length two ≡ length one + 1 = longer one two (JumpIfZero (Temporary d) label ∷ []) 1
    refl b in
    let u : length three ≡ length two + x = longer two three
    (expression_code names e d (length two)) x (expression_length names e d (length two)) k in
    let z : label ≡ length one + 1 + x + 1 = omega arith in
    let w : end ≡ length one + 1 + x + 1 + y = omega arith in
    of names n (nodes.Conditional c e f) d old five is
    (after_expression names c d old one five (λ at. JumpIfZero (Temporary d) (at + 1 + x + 1)
    ∷ (expression_code names e d (at + 1) ++ Jump (at + 1 + x + 1 + y)
    ∷ expression_code names f d (at + 1 + x + 1))) a
    (i ∙ ap (λ k. one ++ JumpIfZero (Temporary d) label
    ∷ (expression_code names e d (length one + 1) ++ Jump k
    ∷ expression_code names f d (length one + 1 + x + 1))) w
    ∙ ap (λ k. one ++ JumpIfZero (Temporary d) k
    ∷ (expression_code names e d (length one + 1) ++ Jump (length one + 1 + x + 1 + y)
    ∷ expression_code names f d (length one + 1 + x + 1))) z))

pub comma_is : (names : Names) (e f : Expression) (n : Node) (d : ℕ)
    (old one two three : List Instruction) → n ≡ nodes.Comma e f
    → one ≡ old ++ expression_code names e d (length old)
    → two ≡ one ++ expression_code names f (d + 1) (length one)
    → three ≡ two ++ copy (Temporary d) (Temporary (d + 1)) ∷ [] → Made names n d old three
comma_is names e f n d old one two three is a b c =
    of names n (nodes.Comma e f) d old three is
    (after_operands names e f d old one two three (copy (Temporary d) (Temporary (d + 1)) ∷ []) a
    b c)

-- ---- calls

count_is : (es : List Expression) → argument_count (arguments es) ≡ length es
count_is [] = refl
count_is (e ∷ es) = ap (λ k. suc k) (count_is es)

length_mapped : (items : List Expr) → length (map expression items) ≡ length items
length_mapped [] = refl
length_mapped (x ∷ xs) = ap (λ k. suc k) (length_mapped xs)

pub call_is : (names : Names) (f : ℕ) (items : List Expr) (n : Node) (d count : ℕ)
    (old one two : List Instruction) → n ≡ nodes.Call f (arguments (map expression items))
    → count ≡ length items → one ≡ old ++ arguments_code names (arguments (map expression items)) d
    (length old) → two ≡ one ++ Call f d count ∷ [] → Made names n d old two
call_is names f items n d count old one two is size a b =
    let e : count ≡ argument_count (arguments (map expression items)) = size
    ∙ sym (length_mapped items) ∙ sym (count_is (map expression items)) in
    of names n (nodes.Call f (arguments (map expression items))) d old two is
    (joined old one two (arguments_code names (arguments (map expression items)) d (length old))
    (Call f d (argument_count (arguments (map expression items))) ∷ []) a
    (b ∙ ap (λ k. one ++ Call f d k ∷ []) e))

pub call_built_in_is : (names : Names) (f : BuiltIn) (es : Arguments) (n : Node) (d : ℕ)
    (old one two : List Instruction) → n ≡ nodes.CallBuiltIn f es
    → one ≡ old ++ arguments_code names es d (length old) → two ≡ one ++ CallBuiltIn f d ∷ []
    → Made names n d old two
call_built_in_is names f es n d old one two is a b =
    of names n (nodes.CallBuiltIn f es) d old two is
    (joined old one two (arguments_code names es d (length old)) (CallBuiltIn f d ∷ []) a b)

-- ---- arguments, one after another

more_arguments : (names : Names) (items : List Expr) (i : ℕ) (x : Expr) (d at : ℕ)
    → i < length items → arguments_code names (arguments (map expression (take (suc i) items))) d at
    ≡ arguments_code names (arguments (map expression (take i items))) d at
    ++ expression_code names (expression (get_or items i x)) (d + i)
    (at + length (arguments_code names (arguments (map expression (take i items))) d at))
more_arguments names [] i x d at lt = absurd (omega arith)
more_arguments names (y ∷ ys) zero x d at lt =
    let e : at ≡ at + 0 = omega arith in
    let f : d ≡ d + 0 = omega arith in
    append-nil (expression_code names (expression y) d at)
    ∙ ap (λ k. expression_code names (expression y) d k) e
    ∙ ap (λ k. expression_code names (expression y) k (at + 0)) f
more_arguments names (y ∷ ys) (suc i) x d at lt =
    let s = expression_size (expression y) in
    let front = expression_code names (expression y) d at in
    let made = arguments_code names (arguments (map expression (take i ys))) (d + 1) (at + s) in
    let h = more_arguments names ys i x (d + 1) (at + s) (omega arith) in
    let e : d + 1 + i ≡ d + suc i = omega arith in
    let l : at + s + length made ≡ at + length (front ++ made) = omega
    (arith, length-append front made, expression_length names (expression y) d at) in
    ap (λ t. front ++ t) h ∙ sym (append_assoc front made
    (expression_code names (expression (get_or ys i x)) (d + 1 + i) (at + s + length made)))
    ∙ ap (λ k. (front ++ made) ++ expression_code names (expression (get_or ys i x)) k
    (at + s + length made)) e
    ∙ ap (λ k. (front ++ made) ++ expression_code names (expression (get_or ys i x)) (d + suc i) k)
    l

pub arguments_next : (names : Names) (items : List Expr) (i d next : ℕ) (x : Expr)
    (old mid new : List Instruction) → i < length items → x ≡ get_or items i x → next ≡ d + i
    → mid ≡ old ++ arguments_code names (arguments (map expression (take i items))) d (length old)
    → new ≡ mid ++ expression_code names (expression x) next (length mid)
    → new ≡ old ++ arguments_code names (arguments (map expression (take (i + 1) items))) d
    (length old)
arguments_next names items i d next x old mid new lt is at h k =
    let made = arguments_code names (arguments (map expression (take i items))) d (length old) in
    let l : length mid ≡ length old + length made = longer old mid made (length made) refl h in
    let one : suc i ≡ i + 1 = omega arith in
    let k' : new ≡ mid ++ expression_code names (expression (get_or items i x)) (d + i)
    (length old + length made) = k ∙ ap (λ y. mid
    ++ expression_code names (expression y) next (length mid)) is
    ∙ ap (λ y. mid ++ expression_code names (expression (get_or items i x)) y (length mid)) at
    ∙ ap (λ y. mid ++ expression_code names (expression (get_or items i x)) (d + i) y) l in
    joined old mid new made (expression_code names (expression (get_or items i x)) (d + i)
    (length old + length made)) h k'
    ∙ ap (λ t. old ++ t) (sym (more_arguments names items i x d (length old) lt))
    ∙ ap (λ j. old ++ arguments_code names (arguments (map expression (take j items))) d
    (length old)) one
