-- What holds of each filter and each `__finally` block holds of all funclets of a statement.
use Rattle.std.proofs.Common.{ℕ, ◌+◌, ◌-◌, ◌≤◌, List, [], ◌∷◌, ◌++◌, arith}
use Rattle.std.specs.List.{AllByRecursion}
use Rattle.seh_ir.specs.Words.{Expression, Function, funclets_in, funclets, filter_funclet, Filter, Always, Funclet, Statement, Declare, Block, Evaluate, If, IfElse, For, DoWhile, Return, Break, Continue, Leave, TryExcept, TryFinally, Statements, Empty, Then, LinearFunclet, Names, except_names, filter_names, finally_names, statement_notes, statements_notes, Owner, filter_funclets, finally_funclet, in_funclet, statement_funclets, statements_funclets, all_locals, scope_of, lowered_funclets, all_funclets}
use Rattle.std.specs.Prelude.{None}
use Rattle.seh_ir.specs.Funclets as funclets_of
use Rattle.seh_ir.proofs.StatementParts.{FilterHas, StatementHas, StatementsHave, statements_have}
use Rattle.seh_ir.proofs.EveryStatement.{InExcept}
use Rattle.seh_ir.proofs.EveryInstruction.{all_append}

-- nothing is asked of numbers
pub any_numbers : (ks : List ℕ) → AllByRecursion (λ k. Unit {0}) ks
any_numbers [] = tt
any_numbers (k ∷ ks) = (tt, any_numbers ks)

pub all_front : (T : ℕ → Type 0) (xs ys : List ℕ) → AllByRecursion T (xs ++ ys)
    → AllByRecursion T xs
all_front T [] ys h = tt
all_front T (x ∷ xs) ys h = (h.0, all_front T xs ys h.1)

pub all_back : (T : ℕ → Type 0) (xs ys : List ℕ) → AllByRecursion T (xs ++ ys) → AllByRecursion T ys
all_back T [] ys h = h
all_back T (x ∷ xs) ys h = all_back T xs ys h.1

-- it holds of a filter, and of a `__finally` block of whose statements this is known; owners are
-- known by the numbers of blocks, and names by the notes that there is room for
pub record HoldsOfFunclets (G : LinearFunclet → Type 0) (O : Owner → Type 0) (T : ℕ → Type 0)
    (N : Names → ℕ → Type 0) (E F : Expression → Type 0) (D : ℕ → Type 0) : Type 0 where
  pub in_except : InExcept N
  pub in_finally : (names : Names) (m k : ℕ) → 1 + k ≤ m → N names m → N (finally_names names) k
  pub in_block : (owner : Owner) (k : ℕ) → O owner → T k → O (in_funclet (k - 1) owner)
  pub of_filter : (owner : Owner) (names : Names) (m : ℕ) (e : Expression) → O owner → N names m
      → F e → G (funclets_of.filter_funclet owner (filter_names names) e)
  pub of_block : (owner : Owner) (names : Names) (m : ℕ) (last : Statements) → O owner
      → 1 + statements_notes last ≤ m → N names m → StatementsHave E F D last
      → G (finally_funclet owner names last)

module _ (G : LinearFunclet → Type 0) (O : Owner → Type 0) (T : ℕ → Type 0)
    (N : Names → ℕ → Type 0) (E F : Expression → Type 0) (D : ℕ → Type 0)
    (holds : HoldsOfFunclets G O T N E F D) where
  abbrev All : List LinearFunclet → Type 0
  All fs = AllByRecursion G fs

  abbrev Numbered : List ℕ → Type 0
  Numbered ks = AllByRecursion T ks

  filters_every : (f : Filter) (owner : Owner) (names : Names) (m : ℕ) → O owner → N names m
      → FilterHas F f → All (filter_funclets owner (filter_names names) f)
  filters_every Always owner names m o n h = tt
  filters_every (Funclet k e) owner names m o n h = (holds.of_filter owner names m e o n h, tt)

  mutual
    -- it holds of the funclets of a statement
    pub funclets_every : (s : Statement) (owner : Owner) (names : Names) (m : ℕ)
        → statement_notes s ≤ m → O owner → N names m → StatementHas E F D s
        → Numbered (funclets_in s) → All (statement_funclets owner names s)
    funclets_every (Declare d) owner names m le o n h t = tt
    funclets_every (Block ss) owner names m le o n h t = all_funclets_every ss owner names m le o n
        h t
    funclets_every (Evaluate e) owner names m le o n h t = tt
    funclets_every (If c s) owner names m le o n h t = funclets_every s owner names m le o n h.1 t
    funclets_every (IfElse c s u) owner names m le o n h t =
        all_append G (statement_funclets owner names s) (statement_funclets owner names u)
        (funclets_every s owner names m (omega arith) o n h.1
        (all_front T (funclets_in s) (funclets_in u) t))
        (funclets_every u owner names m (omega arith) o n h.2
        (all_back T (funclets_in s) (funclets_in u) t))
    funclets_every (For ds first c next s) owner names m le o n h t = funclets_every s owner names
        m (omega arith) o n h.4 t
    funclets_every (DoWhile s c) owner names m le o n h t = funclets_every s owner names m le o n
        h.0 t
    funclets_every (Return e) owner names m le o n h t = tt
    funclets_every Break owner names m le o n h t = tt
    funclets_every Continue owner names m le o n h t = tt
    funclets_every Leave owner names m le o n h t = tt
    funclets_every (TryExcept body filter block) owner names m le o n h t =
        let front = all_front T (funclets body ++ filter_funclet filter) (funclets block) t in
        all_append G (statements_funclets owner names body)
        (filter_funclets owner (filter_names names) filter
        ++ statements_funclets owner (except_names names) block)
        (all_funclets_every body owner names m (omega arith) o n h.0
        (all_front T (funclets body) (filter_funclet filter) front))
        (all_append G (filter_funclets owner (filter_names names) filter)
        (statements_funclets owner (except_names names) block)
        (filters_every filter owner names m o n h.1)
        (all_funclets_every block owner (except_names names) (statements_notes block) (omega arith)
        o (holds.in_except names m (statements_notes block) (omega arith) n) h.2
        (all_back T (funclets body ++ filter_funclet filter) (funclets block) t)))
    funclets_every (TryFinally body k last) owner names m le o n h t =
        let inner = in_funclet (k - 1) owner in
        let back = all_back T (funclets body) (k ∷ funclets last) t in
        all_append G (statements_funclets owner names body)
        (finally_funclet owner names last ∷ statements_funclets inner (finally_names names) last)
        (all_funclets_every body owner names m (omega arith) o n h.0
        (all_front T (funclets body) (k ∷ funclets last) t)) (
          holds.of_block owner names m last o (omega arith) n h.1,
          all_funclets_every last inner (finally_names names) (statements_notes last) (omega arith)
              (holds.in_block owner k o back.0)
              (holds.in_finally names m (statements_notes last) (omega arith) n) h.1 back.1,
        )

    -- it holds of the funclets of statements
    pub all_funclets_every : (ss : Statements) (owner : Owner) (names : Names) (m : ℕ)
        → statements_notes ss ≤ m → O owner → N names m → StatementsHave E F D ss
        → Numbered (funclets ss) → All (statements_funclets owner names ss)
    all_funclets_every Empty owner names m le o n h t = tt
    all_funclets_every (Then s ss) owner names m le o n h t =
        all_append G (statement_funclets owner names s) (statements_funclets owner names ss)
        (funclets_every s owner names m (omega arith) o n h.0
        (all_front T (funclets_in s) (funclets ss) t))
        (all_funclets_every ss owner names m (omega arith) o n h.1
        (all_back T (funclets_in s) (funclets ss) t))

-- ---- where nothing is asked of owners, names and statements

module _ (G : LinearFunclet → Type 0)
    (of_filter : (owner : Owner) (names : Names) (e : Expression)
    → G (funclets_of.filter_funclet owner names e))
    (of_block : (owner : Owner) (names : Names) (last : Statements)
    → G (finally_funclet owner names last)) where
  any_funclets : HoldsOfFunclets G (λ owner. Unit {0}) (λ k. Unit {0}) (λ names m. Unit {0})
      (λ e. Unit {0}) (λ e. Unit {0}) (λ x. Unit {0})
  any_funclets = record {
    in_except = λ names m k le n. tt;
    in_finally = λ names m k le n. tt;
    in_block = λ owner k o t. tt;
    of_filter = λ owner names m e o n h. of_filter owner (filter_names names) e;
    of_block = λ owner names m last o le n h. of_block owner names last;
  }

  -- it holds of the funclets of a program
  pub funclets_any : (number : ℕ) (fs : List Function) → AllByRecursion G (all_funclets number fs)
  funclets_any number [] = tt
  funclets_any number (f ∷ fs) =
      all_append G (lowered_funclets number f) (all_funclets (number + 1) fs)
      (all_funclets_every G (λ owner. Unit {0}) (λ k. Unit {0}) (λ names m. Unit {0})
      (λ e. Unit {0})
      (λ e. Unit {0}) (λ x. Unit {0}) any_funclets f.body
      (record { function = number; locals = all_locals f; parent = None }) (scope_of f).names
      (statements_notes f.body) (omega arith) tt tt
      (statements_have (λ e. Unit {0}) (λ e. Unit {0}) (λ x. Unit {0}) (λ e. tt) (λ e. tt) (λ x. tt)
      f.body) (any_numbers (funclets f.body))) (funclets_any (number + 1) fs)

-- where nothing is asked of statements, it holds of the funclets of some
module _ (G : LinearFunclet → Type 0) (O : Owner → Type 0) (N : Names → ℕ → Type 0)
    (holds : HoldsOfFunclets G O (λ k. Unit {0}) N (λ e. Unit {0}) (λ e. Unit {0}) (λ x. Unit {0}))
  where
    pub funclets_known : (ss : Statements) (owner : Owner) (names : Names) (m : ℕ)
        → statements_notes ss ≤ m → O owner → N names m
        → AllByRecursion G (statements_funclets owner names ss)
    funclets_known ss owner names m le o n = all_funclets_every G O (λ k. Unit {0}) N
        (λ e. Unit {0})
        (λ e. Unit {0}) (λ x. Unit {0}) holds ss owner names m le o n
        (statements_have (λ e. Unit {0}) (λ e. Unit {0}) (λ x. Unit {0}) (λ e. tt) (λ e. tt)
        (λ x. tt) ss) (any_numbers (funclets ss))
