-- The beginning of each task keeps what the machine comes to.
use Rattle.std.proofs.Common.{◌≡◌, ℕ, zero, suc, ◌<◌, length, refl, sym, ap, subst, arith, Option}
use Rattle.std.proofs.Common.{Some, None}
use Rattle.std.specs.Prelude.{slice_get}
use Rattle.std.proofs.lemmas.Option.{slice_get_within}
use Rattle.source_machine.specs.Words.{Program, On, Filter, Always, Funclet, Statement, Unhandled, Exception, choose, deeper, with_value, and_then, Handler, Task, Does, statement, in_loop, finally_after, search_by, search, ask_at, ask_from, perform, Place, context_at, ends, statement_plan, Machine, follow, begun, asked_vectored, asked_by, asked, searched, is_deep, found, below}
use Rattle.c_checked.specs.Statement as statements
use Rattle.source_meaning.specs.Tasks as tasks
use Rattle.source_machine.specs.Frames as frames
use Rattle.source_machine.proofs.HandlersBelow.{length-below, all_below}
use Rattle.source_machine.proofs.FrameKeeping.{comes, from, over_keeps, deep_keeps, evaluated_keeps}

module _ (program : Program) (d : Does) where
  -- ---- handlers are asked

  asked_by_keeps : (m : Machine) (f : Filter) (h : Handler) (k : ℕ) (exc : Exception) (p : Place)
      → comes program d (asked_by m f h k exc p)
      ≡ from program d m (search_by d f h k exc (context_at m.handlers p) m.state
      (λ st. search d (below k m.handlers) exc (context_at m.handlers p) st))
  unfolding with_value
  asked_by_keeps m Always h k exc p = refl
  asked_by_keeps m (Funclet number e) h k exc p = refl

  asked_keeps : (m : Machine) (o : Option Handler) (k : ℕ) (exc : Exception) (p : Place)
      → slice_get m.handlers k ≡ o
      → comes program d (asked m o k exc p) ≡ from program d m
      (search d (found o (below k m.handlers)) exc (context_at m.handlers p) m.state)
  asked_keeps m None k exc p e = over_keeps program d m (Some (Unhandled (record { 0 = exc.code })))
  asked_keeps m (Some h) k exc p e =
      let within : k < length m.handlers = slice_get_within m.handlers k h e in
      let numbered : k ≡ length (below k m.handlers) =
      sym (length-below m.handlers k (omega arith)) in
      subst (λ n. comes program d (asked_by m h.filter h k exc p)
      ≡ from program d m (search_by d h.filter h n exc (context_at m.handlers p) m.state
      (λ st. search d (below k m.handlers) exc (context_at m.handlers p) st))) numbered
      (asked_by_keeps m h.filter h k exc p)

  pub searched_keeps : (m : Machine) (level : ℕ) (exc : Exception) (p : Place)
      → comes program d (searched m level exc p)
      ≡ from program d m (search d (below level m.handlers) exc (context_at m.handlers p) m.state)
  searched_keeps m zero exc p = over_keeps program d m (Some (Unhandled (record { 0 = exc.code })))
  searched_keeps m (suc k) exc p = asked_keeps m (slice_get m.handlers k) k exc p refl

  -- ---- vectored handlers are asked

  asked_at_keeps : (m : Machine) (f : Option ℕ) (place : ℕ) (exc : Exception) (p : Place)
      → comes program d (asked_vectored m f place exc p)
      ≡ from program d m (ask_at d f place exc (context_at m.handlers p) m.state)
  asked_at_keeps m None place exc p =
      ap (λ hs. from program d m (search d hs exc (context_at m.handlers p) m.state))
      (all_below m.handlers)
  asked_at_keeps m (Some f) place exc p = refl

  pub asked_vectored_keeps : (m : Machine) (place : ℕ) (exc : Exception) (p : Place)
      → comes program d (asked_vectored m (slice_get m.state.vectored place) place exc p)
      ≡ from program d m (ask_from d place exc (context_at m.handlers p) m.state)
  asked_vectored_keeps m place exc p =
      asked_at_keeps m (slice_get m.state.vectored place) place exc p

  -- ---- statements

  statement_keeps : (m : Machine) (s : Statement) (p : Place)
      → comes program d (follow m (statement_plan s p))
      ≡ from program d m (statement program d s (context_at m.handlers p) m.state)
  unfolding with_value and_then finally_after
  statement_keeps m (statements.Declare e) p = refl
  statement_keeps m (statements.Block ss) p = refl
  statement_keeps m (statements.Evaluate e) p =
      evaluated_keeps program d m frames.EndsEvaluation e p ends 0 refl
  statement_keeps m (statements.If c s) p = refl
  statement_keeps m (statements.Return e) p =
      evaluated_keeps program d m frames.Returns e p _ 0 refl
  statement_keeps m statements.Break p = refl
  statement_keeps m x p = refl

  -- ---- tasks

  pub begun_keeps : (m : Machine) (task : Task) (p : Place)
      → comes program d (begun m task p) ≡ from program d m
      (perform program d task (context_at m.handlers p) m.state)
  unfolding with_value and_then in_loop deeper choose
  begun_keeps m (tasks.Eval (On n c)) p = refl
  begun_keeps m (tasks.Locate l) p = refl
  begun_keeps m (tasks.Run s) p = statement_keeps m s p
  begun_keeps m (tasks.ForIteration c next s) p =
      evaluated_keeps program d m (frames.TestsFor (record { condition = c; next = next; body = s })
      p) c p _ 1 refl
  begun_keeps m (tasks.DoIteration s c) p = refl
  begun_keeps m (tasks.TryBody ss) p = refl
  begun_keeps m (tasks.Raise exc) p = refl
  begun_keeps m (tasks.AskVectored f place exc) p =
      deep_keeps program d (is_deep m.state 2) m _ _ refl
  begun_keeps m (tasks.RunFilter k e h exc) p = deep_keeps program d (is_deep m.state 2) m _ _ refl
  begun_keeps m (tasks.RunFinally k last flag) p =
      deep_keeps program d (is_deep m.state 2) m _ _ refl
  begun_keeps m (tasks.Retry o a b) p = refl
