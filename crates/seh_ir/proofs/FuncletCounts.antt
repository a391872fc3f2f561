-- A statement has as many funclets as numbers of funclets.
use Rattle.std.proofs.Common.{◌≡◌, ℕ, suc, ◌+◌, ◌-◌, List, [], ◌∷◌, ◌++◌, length, refl, sym, ap, ◌∙◌, arith, length-append}
use Rattle.std.specs.Prelude.{None}
use Rattle.seh_ir.specs.Words.{Function, funclets_in, funclets, filter_funclet, Filter, Always, Funclet, Statement, Declare, Block, Evaluate, If, IfElse, For, DoWhile, Return, Break, Continue, Leave, TryExcept, TryFinally, Statements, Empty, Then, Owner, Names, except_names, filter_names, finally_names, filter_funclets, finally_funclet, in_funclet, statement_funclets, statements_funclets, all_locals, scope_of, lowered_funclets, all_funclets}
use Rattle.c_checked.specs.Sound as sound

pub filter_count : (owner : Owner) (names : Names) (f : Filter)
    → length (filter_funclets owner names f) ≡ length (filter_funclet f)
filter_count owner names Always = refl
filter_count owner names (Funclet k e) = refl

added : {X Y : Type 0} (xs ys : List X) (ks js : List Y) → length xs ≡ length ks
    → length ys ≡ length js → length (xs ++ ys) ≡ length (ks ++ js)
added xs ys ks js e f = length-append xs ys ∙ ap (λ n. n + length ys) e ∙ ap (λ n. length ks + n) f
    ∙ sym (length-append ks js)

mutual
  pub statement_count : (owner : Owner) (names : Names) (s : Statement)
      → length (statement_funclets owner names s) ≡ length (funclets_in s)
  statement_count owner names (Declare d) = refl
  statement_count owner names (Block ss) = statements_count owner names ss
  statement_count owner names (Evaluate e) = refl
  statement_count owner names (If c s) = statement_count owner names s
  statement_count owner names (IfElse c s t) =
      added (statement_funclets owner names s) (statement_funclets owner names t) (funclets_in s)
      (funclets_in t) (statement_count owner names s) (statement_count owner names t)
  statement_count owner names (For ds first c next s) = statement_count owner names s
  statement_count owner names (DoWhile s c) = statement_count owner names s
  statement_count owner names (Return e) = refl
  statement_count owner names Break = refl
  statement_count owner names Continue = refl
  statement_count owner names Leave = refl
  statement_count owner names (TryExcept body f block) =
      let inner = filter_funclets owner (filter_names names) f in
      let own = statements_funclets owner (except_names names) block in
      let rest = added inner own (filter_funclet f) (funclets block)
      (filter_count owner (filter_names names) f)
      (statements_count owner (except_names names) block) in
      let a = length-append (funclets body) (filter_funclet f) in
      let b = length-append (funclets body ++ filter_funclet f) (funclets block) in
      let c = length-append (filter_funclet f) (funclets block) in
      let d = length-append (statements_funclets owner names body) (inner ++ own) in
      let e = statements_count owner names body in
      omega arith
  statement_count owner names (TryFinally body k last) =
      let own = statements_funclets (in_funclet (k - 1) owner) (finally_names names) last in
      added (statements_funclets owner names body) (finally_funclet owner names last ∷ own)
      (funclets body) (k ∷ funclets last) (statements_count owner names body)
      (ap suc (statements_count (in_funclet (k - 1) owner) (finally_names names) last))

  pub statements_count : (owner : Owner) (names : Names) (ss : Statements)
      → length (statements_funclets owner names ss) ≡ length (funclets ss)
  statements_count owner names Empty = refl
  statements_count owner names (Then s ss) =
      added (statement_funclets owner names s) (statements_funclets owner names ss) (funclets_in s)
      (funclets ss) (statement_count owner names s) (statements_count owner names ss)

pub functions_count : (number : ℕ) (fs : List Function)
    → length (all_funclets number fs) ≡ length (sound.all_funclets fs)
functions_count number [] = refl
functions_count number (f ∷ fs) =
    added (lowered_funclets number f) (all_funclets (number + 1) fs) (funclets f.body)
    (sound.all_funclets fs)
    (statements_count (record { function = number; locals = all_locals f; parent = None })
    (scope_of f).names f.body) (functions_count (number + 1) fs)
