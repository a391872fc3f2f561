-- How long the code of statements is, and the code of each kind of statement, made piece by piece.
use Rattle.std.proofs.Common.{◌≡◌, ℕ, zero, suc, ◌+◌, ◌<◌, List, [], ◌∷◌, ◌++◌, length, map, take, get_or, Option, None, Some, refl, sym, ap, subst, ◌∙◌, arith, append_assoc, length-append}
use Rattle.std.specs.Prelude.{◌-◌}
use Rattle.std.proofs.lemmas.List.{append-nil}
use Rattle.c_checked.specs.declared.statement.Declared.{Declared as Declared'}
use Rattle.seh_ir.specs.Words.{Stmt, Expression, Declared, Filter, Statement, Declare, Block, Evaluate, If, IfElse, For, DoWhile, Return, Break, Continue, Leave, TryExcept, TryFinally, Statements, Empty, Then, statement, statements, declared, Temporary, Instruction, Jump, JumpIfZero, CallFinally, Separator, Names, Way, Nowhere, Jumps, Unwinds, LoweringContext, in_loop, in_try, in_except, in_guarded, expression_size, discarded_size, condition_size, returned_size, declared_size, all_declared_size, statement_size, statements_size, expression_code, jump_code, return_code, discarded_code, returned_code, condition_code, declared_code, all_declared_code, landed, repeated, statement_code, statements_code, when_code}
use Rattle.seh_ir.proofs.DeclaredCodes.{declared_length}
use Rattle.lowering_expressions.proofs.Codes.{joined, longer, more, two, expression_length}
use Rattle.lowering_expressions.proofs.Arms.{after, after_one, after_expression}

-- ---- lengths

pub jump_length : (w : Way) → length (jump_code w) ≡ 2
jump_length Nowhere = refl
jump_length (Jumps l) = refl
jump_length (Unwinds l) = refl

pub return_length : (w : Way) → length (return_code w) ≡ 2
return_length w = jump_length w

pub discarded_length : (names : Names) (e : Option Expression) (at : ℕ)
    → length (discarded_code names e at) ≡ discarded_size e
discarded_length names None at = refl
discarded_length names (Some e) at = two (expression_code names e 0 at) (Separator ∷ [])
    (expression_size e) 1 (expression_length names e 0 at) refl

pub returned_length : (names : Names) (e : Option Expression) (at : ℕ)
    → length (returned_code names e at) ≡ returned_size e
returned_length names None at = refl
returned_length names (Some e) at = expression_length names e 0 at

pub condition_length : (names : Names) (e : Option Expression) (label at : ℕ)
    → length (condition_code names e label at) ≡ condition_size e
condition_length names None label at = refl
condition_length names (Some e) label at = two (expression_code names e 0 at)
    (JumpIfZero (Temporary 0) label ∷ []) (expression_size e) 1 (expression_length names e 0 at)
    refl

pub all_declared_length : (names : Names) (ds : List Declared) (at : ℕ)
    → length (all_declared_code names ds at) ≡ all_declared_size ds
all_declared_length names [] at = refl
all_declared_length names (d ∷ ds) at = two (declared_code names d at)
    (all_declared_code names ds (at + declared_size d)) (declared_size d) (all_declared_size ds)
    (declared_length names d at) (all_declared_length names ds (at + declared_size d))

mutual
  pub statement_length : (scope : LoweringContext) (s : Statement) (at : ℕ)
      → length (statement_code scope s at) ≡ statement_size s
  statement_length scope (Declare d) at = declared_length scope.names d at
  statement_length scope (Block ss) at = statements_length scope ss at
  statement_length scope (Evaluate e) at = discarded_length scope.names e at
  statement_length scope (If c s) at =
      let then = at + expression_size c + 1 in
      two (expression_code scope.names c 0 at)
      (JumpIfZero (Temporary 0) (then + statement_size s) ∷ statement_code scope s then)
      (expression_size c) (1 + statement_size s) (expression_length scope.names c 0 at)
      (more (JumpIfZero (Temporary 0) (then + statement_size s)) (statement_code scope s then)
      (statement_size s) (statement_length scope s then))
  statement_length scope (IfElse c s t) at =
      let then = at + expression_size c + 1 in
      let otherwise = then + statement_size s + 1 in
      let jump = Jump (otherwise + statement_size t + 1) in
      let no = statement_code scope t otherwise ++ jump ∷ [] in
      two (expression_code scope.names c 0 at)
      (JumpIfZero (Temporary 0) otherwise ∷ (statement_code scope s then ++ jump ∷ no))
      (expression_size c) (1 + (statement_size s + (1 + (statement_size t + 1))))
      (expression_length scope.names c 0 at)
      (more (JumpIfZero (Temporary 0) otherwise) (statement_code scope s then ++ jump ∷ no)
      (statement_size s + (1 + (statement_size t + 1)))
      (two (statement_code scope s then) (jump ∷ no) (statement_size s)
      (1 + (statement_size t + 1)) (statement_length scope s then)
      (more jump no (statement_size t + 1)
      (two (statement_code scope t otherwise) (jump ∷ []) (statement_size t) 1
      (statement_length scope t otherwise) refl))))
  statement_length scope (For ds first c next s) at =
      let begin = at + all_declared_size ds in
      let iteration = begin + discarded_size first in
      let body = iteration + condition_size c in
      let again = body + statement_size s in
      let end = again + 1 + discarded_size next + 1 in
      let inner = in_loop end again scope in
      let last = discarded_code scope.names next (again + 1) ++ Jump iteration ∷ Separator ∷ []
      in
      let turned = statement_code inner s body ++ Separator ∷ last in
      two (all_declared_code scope.names ds at)
      (discarded_code scope.names first begin
      ++ (condition_code scope.names c end iteration ++ turned)) (all_declared_size ds)
      (discarded_size first + (condition_size c
      + (statement_size s + (1 + (discarded_size next + 2)))))
      (all_declared_length scope.names ds at)
      (two (discarded_code scope.names first begin)
      (condition_code scope.names c end iteration ++ turned) (discarded_size first)
      (condition_size c + (statement_size s + (1 + (discarded_size next + 2))))
      (discarded_length scope.names first begin)
      (two (condition_code scope.names c end iteration) turned (condition_size c)
      (statement_size s + (1 + (discarded_size next + 2)))
      (condition_length scope.names c end iteration)
      (two (statement_code inner s body) (Separator ∷ last) (statement_size s)
      (1 + (discarded_size next + 2)) (statement_length inner s body)
      (more Separator last (discarded_size next + 2)
      (two (discarded_code scope.names next (again + 1)) (Jump iteration ∷ Separator ∷ [])
      (discarded_size next) 2 (discarded_length scope.names next (again + 1)) refl)))))
  statement_length scope (DoWhile s c) at =
      let again = at + statement_size s in
      let end = again + 1 + expression_size c + 2 in
      let inner = in_loop end again scope in
      let last = expression_code scope.names c 0 (again + 1) ++ repeated end at in
      two (statement_code inner s at) (Separator ∷ last) (statement_size s)
      (1 + (expression_size c + 3)) (statement_length inner s at)
      (more Separator last (expression_size c + 3)
      (two (expression_code scope.names c 0 (again + 1)) (repeated end at) (expression_size c) 3
      (expression_length scope.names c 0 (again + 1)) refl))
  statement_length scope (Return e) at = two (returned_code scope.names e at)
      (return_code scope.exit) (returned_size e) 2 (returned_length scope.names e at)
      (return_length scope.exit)
  statement_length scope Break at = jump_length scope.loop_end
  statement_length scope Continue at = jump_length scope.loop_next
  statement_length scope Leave at = refl
  statement_length scope (TryExcept body filter block) at =
      let target = at + statements_size body + 1 in
      let end = target + 2 + statements_size block in
      let landing = landed scope.names.part end scope.names.free in
      two (statements_code (in_try end scope) body at)
      (landing ++ statements_code (in_except scope) block (target + 2)) (statements_size body)
      (3 + statements_size block) (statements_length (in_try end scope) body at)
      (two landing (statements_code (in_except scope) block (target + 2)) 3 (statements_size block)
      refl (statements_length (in_except scope) block (target + 2)))
  statement_length scope (TryFinally body k last) at =
      let inner = in_guarded (at + statements_size body) scope in
      two (statements_code inner body at) (Separator ∷ CallFinally (k - 1) ∷ Separator ∷ [])
      (statements_size body) 3 (statements_length inner body at) refl

  pub statements_length : (scope : LoweringContext) (ss : Statements) (at : ℕ)
      → length (statements_code scope ss at) ≡ statements_size ss
  statements_length scope Empty at = refl
  statements_length scope (Then s ss) at = two (statement_code scope s at)
      (statements_code scope ss (at + statement_size s)) (statement_size s) (statements_size ss)
      (statement_length scope s at) (statements_length scope ss (at + statement_size s))

-- ---- code after code

after_statement : (scope : LoweringContext) (s : Statement) (old mid new : List Instruction)
    (more : ℕ → List Instruction) → mid ≡ old ++ statement_code scope s (length old)
    → new ≡ mid ++ more (length mid) → new ≡ old
    ++ (statement_code scope s (length old) ++ more (length old + statement_size s))
after_statement scope s old mid new more h k = after (statement_code scope s (length old))
    (statement_size s) old mid new more (statement_length scope s (length old)) h k

-- ---- statements

abbrev Run : LoweringContext → Statement → List Instruction → List Instruction → Type 0
Run scope s old new = new ≡ old ++ statement_code scope s (length old)

of : (scope : LoweringContext) (s t : Statement) (old new : List Instruction) → s ≡ t
    → Run scope t old new → Run scope s old new
of scope s t old new e h = subst (λ x. Run scope x old new) (sym e) h

pub when_is : (scope : LoweringContext) (c : Expression) (s : Statement) (size more' : ℕ)
    (old one two three : List Instruction) → size ≡ statement_size s
    → one ≡ old ++ expression_code scope.names c 0 (length old)
    → two ≡ one ++ JumpIfZero (Temporary 0) (length one + (size + more')) ∷ []
    → three ≡ two ++ statement_code scope s (length two)
    → three ≡ old ++ when_code scope c s more' (length old)
when_is scope c s size more' old one two three z a b k =
    let h = after_one (JumpIfZero (Temporary 0) (length one + (size + more'))) one two three
    (λ at. statement_code scope s at) b k in
    after_expression scope.names c 0 old one three
    (λ at. JumpIfZero (Temporary 0) (at + (statement_size s + more'))
    ∷ statement_code scope s (at + 1)) a
    (h ∙ ap (λ n. one ++ JumpIfZero (Temporary 0) (length one + (n + more'))
    ∷ statement_code scope s (length one + 1)) z)

pub if_is : (scope : LoweringContext) (c : Expression) (s : Statement) (x : Statement)
    (old new : List Instruction) → x ≡ If c s → new ≡ old ++ when_code scope c s 1 (length old)
    → Run scope x old new
if_is scope c s x old new is a =
    let then = length old + expression_size c in
    let e : then + (statement_size s + 1) ≡ then + 1 + statement_size s = omega arith in
    of scope x (If c s) old new is
    (a ∙ ap (λ k. old ++ (expression_code scope.names c 0 (length old) ++ JumpIfZero (Temporary 0) k
    ∷ statement_code scope s (then + 1))) e)

pub if_else_is : (scope : LoweringContext) (c : Expression) (s t : Statement) (x : Statement)
    (other : ℕ) (old l1 l2 l3 l4 : List Instruction) → x ≡ IfElse c s t
    → other ≡ statement_size t → l1 ≡ old ++ when_code scope c s 2 (length old)
    → l2 ≡ l1 ++ Jump (length l1 + (other + 2)) ∷ [] → l3 ≡ l2 ++ statement_code scope t (length l2)
    → l4 ≡ l3 ++ Jump (length l3 + (0 + 1)) ∷ [] → Run scope x old l4
if_else_is scope c s t x other old l1 l2 l3 l4 is z a b k q =
    let i = statement_size s in
    let j = statement_size t in
    let at = length old in
    let nc = expression_size c in
    let front = expression_code scope.names c 0 at in
    let body = statement_code scope s (at + nc + 1) in
    let over = JumpIfZero (Temporary 0) (at + nc + (i + 2)) in
    let long = nc + (1 + i) in
    -- the branch at a place, with the jump that ends it
    let no = λ (p end : ℕ). statement_code scope t p ++ Jump end ∷ [] in
    let g = after_one (Jump (length l1 + (other + 2))) l1 l2 l4 (λ p. no p (p + j + (0 + 1))) b
    (after_statement scope t l2 l3 l4 (λ p. Jump (p + (0 + 1)) ∷ []) k q) in
    let g' = g ∙ ap (λ n. l1 ++ Jump (length l1 + (n + 2))
    ∷ no (length l1 + 1) (length l1 + 1 + j + (0 + 1))) z in
    let h = after (when_code scope c s 2 at) long old l1 l4
    (λ p. Jump (p + (j + 2)) ∷ no (p + 1) (p + 1 + j + (0 + 1))) two_lengths a g' in
    let rest = Jump (at + long + (j + 2)) ∷ no (at + long + 1) (at + long + 1 + j + (0 + 1)) in
    let otherwise = at + nc + 1 + i + 1 in
    let end = otherwise + j + 1 in
    let e : at + nc + (i + 2) ≡ otherwise = omega arith in
    let f : at + long + 1 ≡ otherwise = omega arith in
    let m : at + long + (j + 2) ≡ end = omega arith in
    let n : at + long + 1 + j + (0 + 1) ≡ end = omega arith in
    of scope x (IfElse c s t) old l4 is
    (h ∙ ap (λ xs. old ++ xs) (append_assoc front (over ∷ body) rest)
    ∙ ap (λ p. old ++ (front ++ JumpIfZero (Temporary 0) p ∷ (body ++ rest))) e
    ∙ ap (λ p. old ++ (front ++ JumpIfZero (Temporary 0) otherwise
    ∷ (body ++ Jump p ∷ no (at + long + 1) (at + long + 1 + j + (0 + 1))))) m
    ∙ ap (λ p. old ++ (front ++ JumpIfZero (Temporary 0) otherwise
    ∷ (body ++ Jump end ∷ no (at + long + 1) p))) n
    ∙ ap (λ p. old ++ (front ++ JumpIfZero (Temporary 0) otherwise
    ∷ (body ++ Jump end ∷ no p end))) f)
  where
    two_lengths : length (when_code scope c s 2 (length old))
        ≡ expression_size c + (1 + statement_size s)
    two_lengths =
        two (expression_code scope.names c 0 (length old))
        (JumpIfZero (Temporary 0) (length old + expression_size c + (statement_size s + 2))
        ∷ statement_code scope s (length old + expression_size c + 1)) (expression_size c)
        (1 + statement_size s) (expression_length scope.names c 0 (length old))
        (more (JumpIfZero (Temporary 0) (length old + expression_size c + (statement_size s + 2)))
        (statement_code scope s (length old + expression_size c + 1)) (statement_size s)
        (statement_length scope s (length old + expression_size c + 1)))

pub for_is : (scope : LoweringContext) (ds : List Declared) (first c next : Option Expression)
    (s : Statement) (nc ns nn turn last again end : ℕ) (old l0 l1 l2 l3 l4 l5 l6 : List Instruction)
    → nc ≡ condition_size c → ns ≡ statement_size s → nn ≡ discarded_size next → turn ≡ nc + ns
    → last ≡ nn + 2 → again ≡ length l1 + turn → end ≡ again + last
    → l0 ≡ old ++ all_declared_code scope.names ds (length old)
    → l1 ≡ l0 ++ discarded_code scope.names first (length l0)
    → l2 ≡ l1 ++ condition_code scope.names c end (length l1)
    → l3 ≡ l2 ++ statement_code (in_loop end again scope) s (length l2) → l4 ≡ l3 ++ Separator ∷ []
    → l5 ≡ l4 ++ discarded_code scope.names next (length l4)
    → l6 ≡ l5 ++ Jump (length l1) ∷ Separator ∷ []
    → Run scope (For ds first c next s) old l6
for_is scope ds first c next s nc0 ns0 nn0 turn last again end old l0 l1 l2 l3 l4 l5 l6 zc zs zn t l
    a e h0 h1 h2 h3 h4 h5 h6 =
    let names = scope.names in
    let nd = all_declared_size ds in
    let nf = discarded_size first in
    let nc = condition_size c in
    let ns = statement_size s in
    let nn = discarded_size next in
    let iteration = length l1 in
    let n0 : length l0 ≡ length old + nd = longer old l0 (all_declared_code names ds (length old))
    nd (all_declared_length names ds (length old)) h0 in
    let n1 : length l1 ≡ length l0 + nf = longer l0 l1 (discarded_code names first (length l0)) nf
    (discarded_length names first (length l0)) h1 in
    let inner = in_loop end again scope in
    let g5 = after (discarded_code names next (length l4)) nn l4 l5 l6
    (λ at. Jump iteration ∷ Separator ∷ []) (discarded_length names next (length l4)) h5 h6 in
    let g4 = after_one Separator l3 l4 l6 (λ at. discarded_code names next at ++ Jump iteration
    ∷ Separator ∷ []) h4 g5 in
    let g3 = after_statement inner s l2 l3 l6
    (λ at. Separator ∷ (discarded_code names next (at + 1) ++ Jump iteration ∷ Separator ∷ []))
    h3 g4 in
    let g2 = after (condition_code names c end (length l1)) nc l1 l2 l6
    (λ at. statement_code inner s at ++ Separator
    ∷ (discarded_code names next (at + ns + 1) ++ Jump iteration ∷ Separator ∷ []))
    (condition_length names c end (length l1)) h2 g3 in
    let whole = λ (i b r z : ℕ). condition_code names c z i
    ++ (statement_code (in_loop z r scope) s b ++ Separator
    ∷ (discarded_code names next (r + 1) ++ Jump i ∷ Separator ∷ [])) in
    let p : length l1 + nc + ns ≡ again = omega arith in
    let g2' : l6 ≡ l1 ++ whole (length l1) (length l1 + nc) again end = g2
    ∙ ap (λ r. l1 ++ (condition_code names c end (length l1)
    ++ (statement_code inner s (length l1 + nc) ++ Separator
    ∷ (discarded_code names next (r + 1) ++ Jump iteration ∷ Separator ∷ [])))) p in
    let q : again ≡ length l1 + nc + ns = omega arith in
    let r : end ≡ length l1 + nc + ns + 1 + nn + 1 = omega arith in
    let g2'' : l6 ≡ l1 ++ whole (length l1) (length l1 + nc) (length l1 + nc + ns)
    (length l1 + nc + ns + 1 + nn + 1) = g2'
    ∙ ap (λ k. l1 ++ whole (length l1) (length l1 + nc) k end) q
    ∙ ap (λ k. l1 ++ whole (length l1) (length l1 + nc) (length l1 + nc + ns) k) r in
    let g1 = after (discarded_code names first (length l0)) nf l0 l1 l6
    (λ at. whole at (at + nc) (at + nc + ns) (at + nc + ns + 1 + nn + 1))
    (discarded_length names first (length l0)) h1 g2'' in
    after (all_declared_code names ds (length old)) nd old l0 l6
    (λ at. discarded_code names first at ++ whole (at + nf) (at + nf + nc) (at + nf + nc + ns)
    (at + nf + nc + ns + 1 + nn + 1)) (all_declared_length names ds (length old)) h0 g1

pub do_is : (scope : LoweringContext) (s : Statement) (c : Expression) (size nc0 last again end : ℕ)
    (old l1 l2 l3 l4 : List Instruction) → size ≡ statement_size s → nc0 ≡ expression_size c
    → last ≡ nc0 + 3 → again ≡ length old + size → end ≡ again + last
    → l1 ≡ old ++ statement_code (in_loop end again scope) s (length old)
    → l2 ≡ l1 ++ Separator ∷ [] → l3 ≡ l2 ++ expression_code scope.names c 0 (length l2)
    → l4 ≡ l3 ++ repeated end (length old) → Run scope (DoWhile s c) old l4
do_is scope s c size nc0 last again end old l1 l2 l3 l4 z y l a e h1 h2 h3 h4 =
    let names = scope.names in
    let ns = statement_size s in
    let nc = expression_size c in
    let at = length old in
    let g3 = after_expression names c 0 l2 l3 l4 (λ k. repeated end at) h3 h4 in
    let g2 = after_one Separator l1 l2 l4 (λ k. expression_code names c 0 k ++ repeated end at) h2
    g3 in
    let g1 = after_statement (in_loop end again scope) s old l1 l4
    (λ k. Separator ∷ (expression_code names c 0 (k + 1) ++ repeated end at)) h1 g2 in
    let p : again ≡ at + ns = omega arith in
    let q : end ≡ at + ns + 1 + nc + 2 = omega arith in
    let whole = λ (r t : ℕ). statement_code (in_loop t r scope) s at ++ Separator
    ∷ (expression_code names c 0 (at + ns + 1) ++ repeated t at) in
    g1 ∙ ap (λ k. old ++ whole k end) p ∙ ap (λ k. old ++ whole (at + ns) k) q

pub return_is : (scope : LoweringContext) (e : Option Expression) (old one two : List Instruction)
    → one ≡ old ++ returned_code scope.names e (length old) → two ≡ one ++ return_code scope.exit
    → Run scope (Return e) old two
return_is scope e old one two a b = joined old one two (returned_code scope.names e (length old))
    (return_code scope.exit) a b

-- the body of a `__try` with the beginning of its `__except` block
abbrev Tried : LoweringContext → Statements → ℕ → ℕ → List Instruction
Tried scope body block at =
    statements_code (in_try (at + (statements_size body + (block + 3))) scope) body at
    ++ landed scope.names.part (at + (statements_size body + (block + 3))) scope.names.free

pub tried_is : (scope : LoweringContext) (body : Statements) (size block rest both end : ℕ)
    (old l1 l2 : List Instruction) → size ≡ statements_size body → rest ≡ block + 3
    → both ≡ size + rest → end ≡ length old + both
    → l1 ≡ old ++ statements_code (in_try end scope) body (length old)
    → l2 ≡ l1 ++ landed scope.names.part end scope.names.free
    → l2 ≡ old ++ Tried scope body block (length old)
tried_is scope body size block rest both end old l1 l2 z w v e h1 h2 =
    let p : end ≡ length old + (statements_size body + (block + 3)) = omega arith in
    joined old l1 l2 (statements_code (in_try end scope) body (length old))
    (landed scope.names.part end scope.names.free) h1 h2
    ∙ ap (λ t. old ++ (statements_code (in_try t scope) body (length old)
    ++ landed scope.names.part t scope.names.free)) p

pub except_is : (scope inner : LoweringContext) (body : Statements) (filter : Filter)
    (block : Statements) (x : Statement) (size : ℕ) (old l1 l2 : List Instruction)
    → x ≡ TryExcept body filter block → size ≡ statements_size block → inner ≡ in_except scope
    → l1 ≡ old ++ Tried scope body size (length old)
    → l2 ≡ l1 ++ statements_code inner block (length l1) → Run scope x old l2
except_is scope inner body filter block x size old l1 l2 is z i h1 h2 =
    let nb = statements_size body in
    let nh = statements_size block in
    let at = length old in
    let end = at + (nb + (size + 3)) in
    let free = scope.names.free in
    let part = scope.names.part in
    let front = statements_code (in_try end scope) body at in
    let long = two front (landed part end free) nb 3 (statements_length (in_try end scope) body at)
    refl in
    let h2' = h2 ∙ ap (λ (k : LoweringContext). l1 ++ statements_code k block (length l1)) i in
    let g = after (Tried scope body size at) (nb + 3) old l1 l2
    (λ k. statements_code (in_except scope) block k) long h1 h2' in
    let p : end ≡ at + nb + 1 + 2 + nh = omega arith in
    let q : at + (nb + 3) ≡ at + nb + 1 + 2 = omega arith in
    let whole = λ (t k : ℕ). statements_code (in_try t scope) body at
    ++ (landed part t free ++ statements_code (in_except scope) block k) in
    of scope x (TryExcept body filter block) old l2 is
    (g ∙ ap (λ xs. old ++ xs) (append_assoc front (landed part end free)
    (statements_code (in_except scope) block (at + (nb + 3))))
    ∙ ap (λ t. old ++ whole t (at + (nb + 3))) p
    ∙ ap (λ k. old ++ whole (at + nb + 1 + 2 + nh) k) q)

pub finally_is : (scope : LoweringContext) (body : Statements) (k : ℕ) (last : Statements)
    (size end : ℕ) (old one two : List Instruction) → size ≡ statements_size body
    → end ≡ length old + size → one ≡ old ++ statements_code (in_guarded end scope) body
    (length old) → two ≡ one ++ Separator ∷ CallFinally (k - 1) ∷ Separator ∷ []
    → Run scope (TryFinally body k last) old two
finally_is scope body k last size end old one two z e a b =
    let p : end ≡ length old + statements_size body = omega arith in
    let tail = Separator ∷ CallFinally (k - 1) ∷ Separator ∷ [] in
    joined old one two (statements_code (in_guarded end scope) body (length old)) tail a b
    ∙ ap (λ t. old ++ (statements_code (in_guarded t scope) body (length old) ++ tail)) p

-- ---- lists, one element after another

more_statements : (scope : LoweringContext) (items : List Stmt) (i : ℕ) (x : Stmt) (at : ℕ)
    → i < length items → statements_code scope (statements (map statement (take (suc i) items))) at
    ≡ statements_code scope (statements (map statement (take i items))) at
    ++ statement_code scope (statement (get_or items i x))
    (at + length (statements_code scope (statements (map statement (take i items))) at))
more_statements scope [] i x at lt = absurd (omega arith)
more_statements scope (y ∷ ys) zero x at lt =
    let e : at ≡ at + 0 = omega arith in
    append-nil (statement_code scope (statement y) at)
    ∙ ap (λ k. statement_code scope (statement y) k) e
more_statements scope (y ∷ ys) (suc i) x at lt =
    let s = statement_size (statement y) in
    let front = statement_code scope (statement y) at in
    let made = statements_code scope (statements (map statement (take i ys))) (at + s) in
    let h = more_statements scope ys i x (at + s) (omega arith) in
    let l : at + s + length made ≡ at + length (front ++ made) = omega
    (arith, length-append front made, statement_length scope (statement y) at) in
    ap (λ t. front ++ t) h ∙ sym (append_assoc front made
    (statement_code scope (statement (get_or ys i x)) (at + s + length made)))
    ∙ ap (λ k. (front ++ made) ++ statement_code scope (statement (get_or ys i x)) k) l

pub statements_next : (scope : LoweringContext) (items : List Stmt) (i : ℕ) (x : Stmt)
    (old mid new : List Instruction) → i < length items → x ≡ get_or items i x
    → mid ≡ old ++ statements_code scope (statements (map statement (take i items))) (length old)
    → new ≡ mid ++ statement_code scope (statement x) (length mid)
    → new ≡ old ++ statements_code scope (statements (map statement (take (i + 1) items)))
    (length old)
statements_next scope items i x old mid new lt is h k =
    let made = statements_code scope (statements (map statement (take i items))) (length old) in
    let l : length mid ≡ length old + length made = longer old mid made (length made) refl h in
    let one : suc i ≡ i + 1 = omega arith in
    let k' : new ≡ mid ++ statement_code scope (statement (get_or items i x))
    (length old + length made) = k ∙ ap (λ y. mid
    ++ statement_code scope (statement y) (length mid)) is
    ∙ ap (λ y. mid ++ statement_code scope (statement (get_or items i x)) y) l in
    joined old mid new made (statement_code scope (statement (get_or items i x))
    (length old + length made)) h k'
    ∙ ap (λ t. old ++ t) (sym (more_statements scope items i x (length old) lt))
    ∙ ap (λ j. old ++ statements_code scope (statements (map statement (take j items)))
    (length old)) one

more_declared : (names : Names) (items : List Declared') (i : ℕ) (x : Declared') (at : ℕ)
    → i < length items → all_declared_code names (map declared (take (suc i) items)) at
    ≡ all_declared_code names (map declared (take i items)) at
    ++ declared_code names (declared (get_or items i x))
    (at + length (all_declared_code names (map declared (take i items)) at))
more_declared names [] i x at lt = absurd (omega arith)
more_declared names (y ∷ ys) zero x at lt =
    let e : at ≡ at + 0 = omega arith in
    append-nil (declared_code names (declared y) at)
    ∙ ap (λ k. declared_code names (declared y) k) e
more_declared names (y ∷ ys) (suc i) x at lt =
    let s = declared_size (declared y) in
    let front = declared_code names (declared y) at in
    let made = all_declared_code names (map declared (take i ys)) (at + s) in
    let h = more_declared names ys i x (at + s) (omega arith) in
    let l : at + s + length made ≡ at + length (front ++ made) = omega
    (arith, length-append front made, declared_length names (declared y) at) in
    ap (λ t. front ++ t) h ∙ sym (append_assoc front made
    (declared_code names (declared (get_or ys i x)) (at + s + length made)))
    ∙ ap (λ k. (front ++ made) ++ declared_code names (declared (get_or ys i x)) k) l

pub declared_next : (names : Names) (items : List Declared') (i : ℕ) (x : Declared')
    (old mid new : List Instruction) → i < length items → x ≡ get_or items i x
    → mid ≡ old ++ all_declared_code names (map declared (take i items)) (length old)
    → new ≡ mid ++ declared_code names (declared x) (length mid)
    → new ≡ old ++ all_declared_code names (map declared (take (i + 1) items)) (length old)
declared_next names items i x old mid new lt is h k =
    let made = all_declared_code names (map declared (take i items)) (length old) in
    let l : length mid ≡ length old + length made = longer old mid made (length made) refl h in
    let one : suc i ≡ i + 1 = omega arith in
    let k' : new ≡ mid ++ declared_code names (declared (get_or items i x))
    (length old + length made) = k ∙ ap (λ y. mid
    ++ declared_code names (declared y) (length mid)) is
    ∙ ap (λ y. mid ++ declared_code names (declared (get_or items i x)) y) l in
    joined old mid new made (declared_code names (declared (get_or items i x))
    (length old + length made)) h k'
    ∙ ap (λ t. old ++ t) (sym (more_declared names items i x (length old) lt))
    ∙ ap (λ j. old ++ all_declared_code names (map declared (take j items)) (length old)) one
