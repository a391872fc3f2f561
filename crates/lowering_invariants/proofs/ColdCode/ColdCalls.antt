-- The code of an expression or a statement that holds a call holds one.
use Rattle.std.proofs.Common.{◌≡◌, ◌⊎◌, inl, inr, ℕ, ◌+◌, Bool, true, false, List, [], ◌∷◌, ◌++◌, length, Option, Some, None, refl, arith}
use Rattle.std.specs.Prelude.{◌||◌}
use Rattle.c_checked.specs.Expression as nodes
use Rattle.c_checked.specs.Expression.{Next}
use Rattle.seh_ir.specs.ColdParts.{calls, place_calls, node_calls, optional_calls, declared_calls, statement_calls, statements_call}
use Rattle.c_checked.specs.declared.statement.StackedVariable.{StackedVariable}
use Rattle.seh_ir.specs.ColdParts.{elements_call, declared_at_calls}
use Rattle.lowering_invariants.specs.Words.{constant}
use Rattle.seh_ir.specs.Statements.{put_code, put_initialiser_code, stacked_declared_code, declared_at_code}
use Rattle.lowering_invariants.specs.Words.{Expression, On, Node, Lvalue, Global, Stacked, Indirection, Element, Declared, Statement, Declare, Block, Evaluate, If, IfElse, For, DoWhile, Return, Break, Continue, Leave, TryExcept, TryFinally, Statements, Empty, Then, Instruction, Names, LoweringContext, in_loop, address_count, locate_size, read_size, conversion_size, expression_size, discarded_size, condition_size, declared_size, all_declared_size, statement_size, expression_code, locate_code, node_code, read_code, conversion_code, address_code, arguments_code, discarded_code, condition_code, returned_code, initialiser_code, declared_code, all_declared_code, statement_code, statements_code}
use Rattle.lowering_invariants.specs.ColdParts.{HoldsCall}
use Rattle.lowering_invariants.specs.ReturnRegions.{is_call}
use Rattle.lowering_invariants.proofs.Lemmas.{IsSegmentAt}

no : {X : Type 0} → false ≡ true → X
no e = cc

one_of : {X : Type 0} (a b : Bool) → (a || b) ≡ true → (a ≡ true → X) → (b ≡ true → X) → X
one_of true b h f g = f refl
one_of false b h f g = g h

-- ---- a call in code

abbrev pub SomeCall : List Instruction → Type 0
SomeCall [] = ⊥
SomeCall (i ∷ is) = (is_call i ≡ true) ⊎ SomeCall is

first : (xs ys : List Instruction) → SomeCall xs → SomeCall (xs ++ ys)
first [] ys h = absurd h
first (x ∷ xs) ys (inl h) = inl h
first (x ∷ xs) ys (inr h) = inr (first xs ys h)

second : (xs ys : List Instruction) → SomeCall ys → SomeCall (xs ++ ys)
second [] ys h = h
second (x ∷ xs) ys h = inr (second xs ys h)

pub call_there : (code : List Instruction) (at : ℕ) (xs : List Instruction)
    → IsSegmentAt code at xs → SomeCall xs → HoldsCall code at (at + length xs)
call_there code at [] s h = absurd h
call_there code at (x ∷ xs) s (inl h) =
    record {
      label = at;
      begins = omega arith;
      ends = omega arith;
      instruction = x;
      there = s.0;
      call = h;
    }
call_there code at (x ∷ xs) s (inr h) =
    let c = call_there code (at + 1) xs s.1 h in
    let a = c.begins in
    let b = c.ends in
    record {
      label = c.label;
      begins = omega arith;
      ends = omega arith;
      instruction = c.instruction;
      there = c.there;
      call = c.call;
    }

-- ---- expressions

module _ (names : Names) where
  -- the operands of an operator, the second in the next temporary
  operands : (e f : Expression) (d at : ℕ) (rest : List Instruction)
      → (calls e ≡ true → SomeCall (expression_code names e d at))
      → (calls f ≡ true → SomeCall (expression_code names f (d + 1) (at + expression_size e)))
      → (calls e || calls f) ≡ true
      → SomeCall (expression_code names e d at
      ++ (expression_code names f (d + 1) (at + expression_size e) ++ rest))
  operands e f d at rest p q h =
      let code = expression_code names f (d + 1) (at + expression_size e) in
      one_of (calls e) (calls f) h (λ x. first (expression_code names e d at) (code ++ rest) (p x))
      (λ y. second (expression_code names e d at) (code ++ rest) (first code rest (q y)))

  address_called : (p : Lvalue) (d : ℕ) (located : List Instruction) → place_calls p ≡ true
      → SomeCall located → SomeCall (address_code p d located)
  address_called (nodes.Local x) d located h k = no h
  address_called (Global access a) d located h k = k
  address_called (Stacked access base offset) d located h k = k
  address_called (Indirection access e) d located h k = k
  address_called (Element access e i) d located h k = k

  mutual
    pub expression_called : (e : Expression) (d at : ℕ) → calls e ≡ true
        → SomeCall (expression_code names e d at)
    expression_called (On node c) d at h =
        first (node_code names node d at) (conversion_code c d) (node_called node d at h)

    locate_called : (p : Lvalue) (d at : ℕ) → place_calls p ≡ true
        → SomeCall (locate_code names p d at)
    locate_called (nodes.Local x) d at h = no h
    locate_called (Global access a) d at h = no h
    locate_called (Stacked access base offset) d at h = no h
    locate_called (Indirection access e) d at h = expression_called e d at h
    locate_called (Element access e i) d at h =
        operands e i d at (_ ∷ []) (λ x. expression_called e d at x)
        (λ y. expression_called i (d + 1) (at + expression_size e) y) h

    node_called : (node : Node) (d at : ℕ) → node_calls node ≡ true
        → SomeCall (node_code names node d at)
    node_called (nodes.Constant z n) d at h = no h
    node_called (nodes.StackedArray base offset) d at h = no h
    node_called (nodes.Read p) d at h =
        first (locate_code names p d at) (read_code p d d) (locate_called p d at h)
    node_called (nodes.AddressOf p) d at h =
        address_called p d (locate_code names p d at) h (locate_called p d at h)
    node_called (nodes.Assign p e) d at h =
        let from = d + address_count p in
        let code = expression_code names e from (at + locate_size p) in
        one_of (place_calls p) (calls e) h
        (λ x. first (locate_code names p d at) (code ++ _ ∷ []) (locate_called p d at x))
        (λ y. second (locate_code names p d at) (code ++ _ ∷ [])
        (first code (_ ∷ []) (expression_called e from (at + locate_size p) y)))
    node_called (nodes.CompoundAssign p before o e after) d at h =
        let old = d + address_count p in
        let place = at + (locate_size p + (read_size p + conversion_size before)) in
        one_of (place_calls p) (calls e) h
        (λ x. first (locate_code names p d at) _ (locate_called p d at x))
        (λ y. second (locate_code names p d at) _
        (second (read_code p d old) _
        (second (conversion_code before old) _
        (first (expression_code names e (old + 1) place) _
        (expression_called e (old + 1) place y)))))
    node_called (nodes.Increment m p before o n after) d at h =
        first (locate_code names p d at) _ (locate_called p d at h)
    node_called (nodes.Unary o e) d at h =
        first (expression_code names e d at) _ (expression_called e d at h)
    node_called (nodes.Binary o e f) d at h =
        operands e f d at _ (λ x. expression_called e d at x)
        (λ y. expression_called f (d + 1) (at + expression_size e) y) h
    node_called (nodes.PointerDifference n e f) d at h =
        operands e f d at _ (λ x. expression_called e d at x)
        (λ y. expression_called f (d + 1) (at + expression_size e) y) h
    node_called (nodes.Not e) d at h =
        first (expression_code names e d at) _ (expression_called e d at h)
    node_called (nodes.And e f) d at h =
        let next = at + expression_size e + 1 in
        one_of (calls e) (calls f) h
        (λ x. first (expression_code names e d at) _ (expression_called e d at x))
        (λ y. second (expression_code names e d at) _
        (inr (first (expression_code names f d next) _ (expression_called f d next y))))
    node_called (nodes.Or e f) d at h =
        let next = at + expression_size e + 3 in
        one_of (calls e) (calls f) h
        (λ x. first (expression_code names e d at) _ (expression_called e d at x))
        (λ y. second (expression_code names e d at) _
        (inr (inr (inr (first (expression_code names f d next) _
        (expression_called f d next y))))))
    node_called (nodes.Conditional c e f) d at h =
        let yes = at + expression_size c + 1 in
        let other = yes + expression_size e + 1 in
        one_of (calls c) (calls e || calls f) h
        (λ x. first (expression_code names c d at) _ (expression_called c d at x))
        (λ y. second (expression_code names c d at) _
        (inr (one_of (calls e) (calls f) y
        (λ z. first (expression_code names e d yes) _ (expression_called e d yes z))
        (λ z. second (expression_code names e d yes) _
        (inr (expression_called f d other z))))))
    node_called (nodes.Comma e f) d at h =
        operands e f d at _ (λ x. expression_called e d at x)
        (λ y. expression_called f (d + 1) (at + expression_size e) y) h
    node_called (nodes.Call f es) d at h = second (arguments_code names es d at) _ (inl refl)
    node_called (nodes.CallBuiltIn k es) d at h =
        second (arguments_code names es d at) _ (inl refl)
    node_called nodes.ExceptionCode d at h = no h
    node_called (nodes.Information f) d at h = no h
    node_called nodes.AbnormalTermination d at h = no h

  -- ---- expressions in statements

  used : (e : Expression) (at : ℕ) (rest : List Instruction) → calls e ≡ true
      → SomeCall (expression_code names e 0 at ++ rest)
  used e at rest h = first (expression_code names e 0 at) rest (expression_called e 0 at h)

  discarded_called : (e : Option Expression) (at : ℕ) → optional_calls e ≡ true
      → SomeCall (discarded_code names e at)
  discarded_called None at h = no h
  discarded_called (Some e) at h = used e at _ h

  condition_called : (e : Option Expression) (label at : ℕ) → optional_calls e ≡ true
      → SomeCall (condition_code names e label at)
  condition_called None label at h = no h
  condition_called (Some e) label at h = used e at _ h

  returned_called : (e : Option Expression) (at : ℕ) → optional_calls e ≡ true
      → SomeCall (returned_code names e at)
  returned_called None at h = no h
  returned_called (Some e) at h = expression_called e 0 at h

  initialiser_called : (x : ℕ) (e : Option Expression) (at : ℕ) → optional_calls e ≡ true
      → SomeCall (initialiser_code names x e at)
  initialiser_called x None at h = no h
  initialiser_called x (Some e) at h = used e at _ h

  put_called : (v : StackedVariable) (e : Option Expression) (at : ℕ) → optional_calls e ≡ true
      → SomeCall (put_initialiser_code names v e at)
  put_called v None at h = no h
  put_called v (Some e) at h = used e at _ h

  elements_called : (v : StackedVariable) (n : Option ℕ) (e : Option Expression) (at : ℕ)
      → elements_call n e ≡ true → SomeCall (stacked_declared_code names v n e at)
  elements_called v (Some n) e at h = no h
  elements_called v None e at h =
      second (constant 0 0 ∷ put_code v) (put_initialiser_code names v e (at + 3))
      (put_called v e (at + 3) h)

  pub declared_at_called : (v : Option StackedVariable) (x : ℕ) (e : Option Expression) (at : ℕ)
      → declared_at_calls v e ≡ true → SomeCall (declared_at_code names v x e at)
  declared_at_called None x e at h = inr (initialiser_called x e (at + 1) h)
  declared_at_called (Some v) x e at h = elements_called v v.elements e at h

  all_declared_called : (ds : List Declared) (at : ℕ) → declared_calls ds ≡ true
      → SomeCall (all_declared_code names ds at)
  all_declared_called [] at h = no h
  all_declared_called (d ∷ ds) at h =
      one_of (declared_at_calls d.stacked d.value) (declared_calls ds) h
      (λ x. first (declared_code names d at) _
      (declared_at_called d.stacked d.local d.value at x))
      (λ y. second (declared_code names d at) _
      (all_declared_called ds (at + declared_size d) y))

-- ---- statements

mutual
  pub statement_called : (s : Statement) (scope : LoweringContext) (at : ℕ)
      → statement_calls s ≡ true → SomeCall (statement_code scope s at)
  statement_called (Declare d) scope at h =
      declared_at_called scope.names d.stacked d.local d.value at h
  statement_called (Block ss) scope at h = statements_called ss scope at h
  statement_called (Evaluate e) scope at h = discarded_called scope.names e at h
  statement_called (If c s) scope at h =
      let then = at + expression_size c + 1 in
      one_of (calls c) (statement_calls s) h (λ x. used scope.names c at _ x)
      (λ y. second (expression_code scope.names c 0 at) _
      (inr (statement_called s scope then y)))
  statement_called (IfElse c s t) scope at h =
      let then = at + expression_size c + 1 in
      let otherwise = then + statement_size s + 1 in
      one_of (calls c) (statement_calls s || statement_calls t) h
      (λ x. used scope.names c at _ x)
      (λ y. second (expression_code scope.names c 0 at) _
      (inr (one_of (statement_calls s) (statement_calls t) y
      (λ z. first (statement_code scope s then) _ (statement_called s scope then z))
      (λ z. second (statement_code scope s then) _
      (inr (first (statement_code scope t otherwise) _
      (statement_called t scope otherwise z)))))))
  statement_called (For ds begins c next s) scope at h =
      let names = scope.names in
      let begin = at + all_declared_size ds in
      let iteration = begin + discarded_size begins in
      let body = iteration + condition_size c in
      let again = body + statement_size s in
      let end = again + 1 + discarded_size next + 1 in
      let inner = in_loop end again scope in
      one_of (declared_calls ds) _ h
      (λ x. first (all_declared_code names ds at) _ (all_declared_called names ds at x))
      (λ h1. second (all_declared_code names ds at) _
      (one_of (optional_calls begins) _ h1
      (λ x. first (discarded_code names begins begin) _ (discarded_called names begins begin x))
      (λ h2. second (discarded_code names begins begin) _
      (one_of (optional_calls c) _ h2
      (λ x. first (condition_code names c end iteration) _
      (condition_called names c end iteration x))
      (λ h3. second (condition_code names c end iteration) _
      (one_of (optional_calls next) (statement_calls s) h3
      (λ x. second (statement_code inner s body) _
      (inr (first (discarded_code names next (again + 1)) _
      (discarded_called names next (again + 1) x))))
      (λ x. first (statement_code inner s body) _ (statement_called s inner body x))))))))
  statement_called (DoWhile s c) scope at h =
      let again = at + statement_size s in
      let end = again + 1 + expression_size c + 2 in
      let inner = in_loop end again scope in
      one_of (statement_calls s) (calls c) h
      (λ x. first (statement_code inner s at) _ (statement_called s inner at x))
      (λ y. second (statement_code inner s at) _ (inr (used scope.names c (again + 1) _ y)))
  statement_called (Return e) scope at h =
      first (returned_code scope.names e at) _ (returned_called scope.names e at h)
  statement_called Break scope at h = no h
  statement_called Continue scope at h = no h
  statement_called Leave scope at h = no h
  statement_called (TryExcept body filter block) scope at h = no h
  statement_called (TryFinally body k last) scope at h = no h

  pub statements_called : (ss : Statements) (scope : LoweringContext) (at : ℕ)
      → statements_call ss ≡ true → SomeCall (statements_code scope ss at)
  statements_called Empty scope at h = no h
  statements_called (Then s ss) scope at h =
      let next = at + statement_size s in
      one_of (statement_calls s) (statements_call ss) h
      (λ x. first (statement_code scope s at) _ (statement_called s scope at x))
      (λ y. second (statement_code scope s at) _ (statements_called ss scope next y))
