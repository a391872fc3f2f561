-- The code of sound statements, and their filters and `__finally` blocks, use a bounded number of
-- slots.
use Rattle.std.proofs.Common.{◌≡◌, ℕ, ◌+◌, ◌-◌, ◌*◌, ◌<◌, ◌≤◌, List, [], ◌∷◌, ◌++◌, length, sym, subst, arith}
use Rattle.std.specs.List.{AllByRecursion}
use Rattle.std.specs.Prelude.{Bool, true, false, slice_get, Option, Some, None}
use Rattle.c_checked.specs.declared.function.DataPart.{DataPart}
use Rattle.c_checked.specs.declared.statement.StackedVariable.{StackedVariable}
use Rattle.seh_ir.specs.Funclets.{finally_begin}
use Rattle.seh_ir.specs.Statements.{reset_code}
use Rattle.seh_ir.proofs.StatementParts.{StackedHas}
use Rattle.lowering_invariants.specs.Words.{Expression, Program, Function, count_up, Declared, Filter, Always, Funclet, Statement, Declare, Block, Evaluate, If, IfElse, For, DoWhile, Return, Break, Continue, Leave, TryExcept, TryFinally, Statements, Empty, Then, Local, Temporary, Instruction, LinearProgram, statements_notes, Owner, Names, LoweringContext, except_names, filter_names, finally_names, finally_scope, temporaries_in, passed_in, body_with, expression_code, statements_code, finally_funclet, expression_nesting, expression_reads, most_of_optional, most_of_declared, most_of_filter, most_of_statement, most_of, IsPlain, IsSmallBody, IsSmallFunclet, HasParent, ExpressionFits, filter_funclet}
use Rattle.linear_code.specs.declared.instruction.Instruction.TheVariants as instructions
use Rattle.lowering_invariants.proofs.Lemmas.{counted, both_right, OptionalHas, AllDeclaredHave, FilterHas, StatementHas, StatementsHave, HoldsOfInstructions, statements_all, HoldsOfFunclets}
use Rattle.lowering_invariants.proofs.PlainExpressions.{PartAmong, NamesAmong, Good, AllGood, append, kept_good, constant_good, expression_good}

-- ---- what all instructions of a body have, the body has

temporaries_most : (most n : ℕ) (code : List Instruction) → AllGood most n code
    → temporaries_in code ≤ most
temporaries_most most n [] h = omega arith
temporaries_most most n (i ∷ is) h = let r = temporaries_most most n is h.1 in let f = h.0.0 in
    omega arith

passed_most : (most n : ℕ) (code : List Instruction) → AllGood most n code → passed_in code ≤ 4
passed_most most n [] h = omega arith
passed_most most n (i ∷ is) h = let r = passed_most most n is h.1 in let f = h.0.1 in omega arith

plain_all : (most n : ℕ) (code : List Instruction) → AllGood most n code
    → AllByRecursion (IsPlain n) code
plain_all most n [] h = tt
plain_all most n (i ∷ is) h = (h.0.2, plain_all most n is h.1)

-- ---- the limits of nesting, expression by expression

module _ (f g : Expression → ℕ) (a b : ℕ) where
  abbrev pub Within : Expression → Type 0
  Within e = (f e ≤ a) × (g e ≤ b)

  optional_within : (e : Option Expression) → most_of_optional f e ≤ a → most_of_optional g e ≤ b
      → OptionalHas Within e
  optional_within None le r = tt
  optional_within (Some e) le r = (le, r)

  any_base : (v : Option StackedVariable) → StackedHas (λ x. Unit {0}) v
  any_base None = tt
  any_base (Some v) = tt

  all_declared_within : (ds : List Declared) → most_of_declared f ds ≤ a
      → most_of_declared g ds ≤ b → AllDeclaredHave Within (λ x. Unit {0}) ds
  all_declared_within [] le r = tt
  all_declared_within (d ∷ ds) le r = (
    (tt, optional_within d.value (omega arith) (omega arith), any_base d.stacked),
    all_declared_within ds (omega arith) (omega arith),
  )

  filter_within : (k : Filter) → most_of_filter f k ≤ a → most_of_filter g k ≤ b
      → FilterHas Within k
  filter_within Always le r = tt
  filter_within (Funclet k e) le r = (le, r)

  mutual
    statement_within : (s : Statement) → most_of_statement f s ≤ a → most_of_statement g s ≤ b
        → StatementHas Within Within (λ x. Unit {0}) s
    statement_within (Declare d) le r = (tt, optional_within d.value le r, any_base d.stacked)
    statement_within (Block ss) le r = statements_within ss le r
    statement_within (Evaluate e) le r = optional_within e le r
    statement_within (If c s) le r =
        ((omega arith, omega arith), statement_within s (omega arith) (omega arith))
    statement_within (IfElse c s t) le r = (
      (omega arith, omega arith),
      statement_within s (omega arith) (omega arith),
      statement_within t (omega arith) (omega arith),
    )
    statement_within (For ds first c next s) le r = (
      all_declared_within ds (omega arith) (omega arith),
      optional_within first (omega arith) (omega arith),
      optional_within c (omega arith) (omega arith),
      optional_within next (omega arith) (omega arith),
      statement_within s (omega arith) (omega arith),
    )
    statement_within (DoWhile s c) le r =
        (statement_within s (omega arith) (omega arith), (omega arith, omega arith))
    statement_within (Return e) le r = optional_within e le r
    statement_within Break le r = tt
    statement_within Continue le r = tt
    statement_within Leave le r = tt
    statement_within (TryExcept body filter block) le r = (
      statements_within body (omega arith) (omega arith),
      filter_within filter (omega arith) (omega arith),
      statements_within block (omega arith) (omega arith),
    )
    statement_within (TryFinally body k last) le r = (
      statements_within body (omega arith) (omega arith),
      statements_within last (omega arith) (omega arith),
    )

    pub statements_within : (ss : Statements) → most_of f ss ≤ a → most_of g ss ≤ b
        → StatementsHave Within Within (λ x. Unit {0}) ss
    statements_within Empty le r = tt
    statements_within (Then s ss) le r = (
      statement_within s (omega arith) (omega arith),
      statements_within ss (omega arith) (omega arith),
    )

-- ---- numbers of funclets

-- numbers that count up from 1 more than an index are of funclets before an end
pub numbers_within : (ks : List ℕ) (j n : ℕ) → count_up (j + 1) ks ≡ true → j + length ks ≤ n
    → AllByRecursion (λ k. k - 1 < n) ks
numbers_within [] j n c le = tt
numbers_within (k ∷ ks) j n c le = let e = counted (j + 1) k ks c in
    (omega arith, numbers_within ks (j + 1) n (both_right _ _ c) (omega arith))

-- ---- what is known of expressions and names

-- an expression that fits and is nested within the limits; the flag is that of a filter's
abbrev pub Value : Program → ℕ → ℕ → Bool → Expression → Type 0
Value program most own info e = ExpressionFits program own info e
    × (7 * expression_nesting e + 8 ≤ most) × (expression_reads e ≤ 15)

-- the codes and flags that are named are among the locals, and there is room for so many more
abbrev pub Named : ℕ → Names → ℕ → Type 0
Named n names m = NamesAmong n names × (names.free + m ≤ n)

except_named : (n : ℕ) (names : Names) (m k : ℕ) → 1 + k ≤ m → Named n names m
    → Named n (except_names names) k
except_named n names m k le h = let room = h.1 in
    let lt : names.free < n = omega arith in
    (record { source = lt; flag = h.0.flag; part = h.0.part }, omega arith)

finally_named : (n : ℕ) (names : Names) (m k : ℕ) → 1 + k ≤ m → Named n names m
    → Named n (finally_names names) k
finally_named n names m k le h = let room = h.1 in
    let lt : names.free < n = omega arith in
    (record { source = h.0.source; flag = lt; part = h.0.part }, omega arith)

-- ---- bodies

module _ (most n : ℕ) (few_temporaries : most ≤ 456) (few_locals : n ≤ 66000) where
  pub small_body : (code : List Instruction) (regions cold : _) → AllGood most n code
      → IsSmallBody (body_with n code regions cold)
  small_body code regions cold h =
      let t = temporaries_most most n code h in
      let p = passed_most most n code h in
      record {
        passed = p;
        temporaries = omega arith;
        locals = few_locals;
        code = plain_all most n code h;
      }

-- the funclets of a function are of its number, and their locals are its own
pub record Fitting (linear : LinearProgram) (n : ℕ) (owner : Owner) : Type 0 where
  pub function : owner.function < length linear.functions
  pub locals : owner.locals ≡ n
  pub parent : HasParent linear owner.parent

module _ (program : Program) (most n own : ℕ) (wide : own ≤ n) (least : 8 ≤ most)
    (few : (f : ℕ) (fn : Function) → slice_get program.functions f ≡ Some fn
    → length fn.parameters ≤ 8) where
  -- the value of an expression, within the limits
  value_good : (info : Bool) (names : Names) (e : Expression) (at : ℕ) → NamesAmong n names
      → Value program most own info e → AllGood most n (expression_code names e 0 at)
  value_good info names e at a h = let le = h.1 in
      expression_good most n program own info wide few names a e 0 at h.0 (omega arith) h.2

  -- ---- statements

  reset_good : (part : Option DataPart) → PartAmong n part → Good most n (reset_code part)
  reset_good None h = (omega arith, omega arith, tt)
  reset_good (Some p) h = (omega arith, omega arith, (h, h, h))

  begin_good : (part : Option DataPart) (x : ℕ) → PartAmong n part → x < n
      → AllGood most n (finally_begin part x)
  begin_good None x h lt = (
    (omega arith, omega arith, tt),
    ((omega arith, omega arith, tt), ((omega arith, omega arith, tt), tt)),
  )
  begin_good (Some p) x h lt = (
    (omega arith, omega arith, lt),
    ((omega arith, omega arith, (h, h, h)), ((omega arith, omega arith, tt), tt)),
  )

  instructions_good : HoldsOfInstructions (Good most n) (λ label. Unit {0}) (λ label. Unit {0})
      (Named n) (Value program most own false) (λ x. x < own)
  instructions_good = record {
    of_value = λ names m e at k h. value_good false names e at k.0 h;
    of_constant = constant_good most n 0 0 (omega arith);
    of_zeroed = λ x d. let lt : x < n = omega arith in (omega arith, omega arith, (lt, lt, lt));
    of_kept = λ x d. kept_good most n x 0 (omega arith) (omega arith);
    of_separator = (omega arith, omega arith, tt);
    of_jump = λ label l. (omega arith, omega arith, tt);
    of_test = λ label l. (omega arith, omega arith, tt);
    of_unwind = λ label l. (omega arith, omega arith, tt);
    of_exit_jump = λ label l. (omega arith, omega arith, tt);
    of_exit = λ label l. (omega arith, omega arith, tt);
    of_landing = λ names m le k. let room = k.1 in (omega arith, omega arith, omega arith);
    of_put = λ v d. let lt : v.base < n = omega arith in (omega arith, omega arith, (tt, lt, tt));
    of_counted = λ names m k le h. let room = h.1 in
        let lt : names.free < n = omega arith in (omega arith, omega arith, (lt, lt, lt));
    of_rest_test = λ names m label le h l. let room = h.1 in
        let lt : names.free < n = omega arith in (omega arith, omega arith, lt);
    of_cleared = λ names m v le h d. let room = h.1 in
        let lt : names.free < n = omega arith in
        let low : v.base < n = omega arith in (omega arith, omega arith, (lt, low, lt));
    of_reset = λ names m le h. reset_good names.part h.0.part;
    of_finally = λ k. (omega arith, omega arith, tt);
  }

  pub statements_good : (ss : Statements) (scope : LoweringContext) (at m : ℕ)
      → statements_notes ss ≤ m → Named n scope.names m
      → StatementsHave (Value program most own false) (Value program most own true) (λ x. x < own)
      ss
      → AllGood most n (statements_code scope ss at)
  statements_good ss scope at m le k h = statements_all (Good most n) (Named n)
      (Value program most own false) (Value program most own true)
      (λ x. x < own) (except_named n) instructions_good ss scope at m le k h

  -- ---- filters and `__finally` blocks

  module _ (linear : LinearProgram) (few_temporaries : most ≤ 456) (few_locals : n ≤ 66000) where
    owned_body : (owner : Owner) → Fitting linear n owner → (code : List Instruction) (regions : _)
        → AllGood most n code → IsSmallBody (body_with owner.locals code regions [])
    owned_body owner fitting code regions h =
        subst (λ m. IsSmallBody (body_with m code regions [])) (sym fitting.locals)
        (small_body most n few_temporaries few_locals code regions [] h)

    filter_small : (owner : Owner) (names : Names) (m : ℕ) (e : Expression) → Fitting linear n owner
        → Named n names m → Value program most own true e
        → IsSmallFunclet linear (filter_funclet owner (filter_names names) e)
    filter_small owner names m e fitting k h =
        let among : NamesAmong n (filter_names names) =
        record { source = tt; flag = k.0.flag; part = k.0.part } in
        let code = expression_code (filter_names names) e 0 0 in
        let ends = instructions.Return (Temporary 0) ∷ [] in
        record {
          kind = tt;
          function = fitting.function;
          parent = fitting.parent;
          body = owned_body owner fitting (code ++ ends) [] (append most n code ends
              (value_good true (filter_names names) e 0 among h)
              ((omega arith, omega arith, tt), tt));
        }

    block_small : (owner : Owner) (names : Names) (m : ℕ) (last : Statements)
        → Fitting linear n owner
        → 1 + statements_notes last ≤ m → Named n names m
        → StatementsHave (Value program most own false) (Value program most own true)
        (λ x. x < own) last
        → IsSmallFunclet linear (finally_funclet owner names last)
    block_small owner names m last fitting le k h =
        let room = k.1 in
        let lt : names.free < n = omega arith in
        let begins = finally_begin names.part names.free in
        let code = statements_code (finally_scope names) last 3 in
        let ends = instructions.Return (Local names.free) ∷ [] in
        record {
          kind = subst (λ m. names.free < m) (sym fitting.locals) lt;
          function = fitting.function;
          parent = fitting.parent;
          body = owned_body owner fitting (begins ++ (code ++ ends))
              (finally_funclet owner names last).body.regions
              (append most n begins (code ++ ends)
              (begin_good names.part names.free k.0.part lt)
              (append most n code ends (statements_good last (finally_scope names) 3
              (statements_notes last) (omega arith)
              (finally_named n names m (statements_notes last) le k) h)
              ((omega arith, omega arith, lt), tt)));
        }

    -- it holds of filters and blocks; the number of one that is a parent is there
    pub funclets_small : HoldsOfFunclets (IsSmallFunclet linear) (Fitting linear n)
        (λ k. k - 1 < length linear.funclets) (Named n) (Value program most own false)
        (Value program most own true) (λ x. x < own)
    funclets_small = record {
      in_except = except_named n;
      in_finally = finally_named n;
      in_block = λ owner k o t. record { function = o.function; locals = o.locals; parent = t };
      of_filter = filter_small;
      of_block = block_small;
    }
