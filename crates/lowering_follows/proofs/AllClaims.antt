-- All that is claimed, of any number of tasks inside one another.
use Rattle.std.proofs.Common.{◌≡◌, ◌≤◌, ℕ, zero, suc, ◌+◌, [], subst, arith}
use Rattle.std.specs.Prelude.{◌-◌, slice_get, Some}
use Rattle.seh_num.specs.declared.event.Event.TheVariants as events
use Rattle.lowering_follows.specs.Words.{Program, Function, LinearProgram, LinearFunction, deeper, begin_finally, begin_filter, ask_vectored, raise, exec, expression_weight, lvalue_weight, optional_weight, statement_weight, statements_weight, FunctionPlaced}
use Rattle.lowering_follows.proofs.Lemmas.{at, conf, stopped, shown_deep, prefix_less, from_none}
use Rattle.lowering_follows.proofs.TaskClaims.{CodePlace, Runs, shown_asked, shown_raise}
use Rattle.lowering_follows.proofs.NodeSettings.{NodeSetting, node_setting}
use Rattle.lowering_follows.proofs.TaskSteps.{eval_next, locate_next, raised_next, asked_next, retry_next, filter_next}
use Rattle.lowering_follows.proofs.BodyClaims.{BodyRuns}
use Rattle.lowering_follows.proofs.BodyNext.{body_next}
use Rattle.lowering_follows.proofs.Functions.{call_runs}

module _ (program : Program) (linear : LinearProgram) (rate body : ℕ)
    (same_globals : linear.globals ≡ program.globals) (roomy : 4 ≤ rate)
    (placed : (k : ℕ) (fn : Function) → slice_get program.functions k ≡ Some fn
    → (lf : LinearFunction) × (slice_get linear.functions k ≡ Some lf)
    × FunctionPlaced program linear rate body k fn lf) where
  functions_at : (k : ℕ) (fn : Function) → slice_get program.functions k ≡ Some fn
      → (lf : LinearFunction) × (slice_get linear.functions k ≡ Some lf)
  functions_at k fn h = let p = placed k fn h in (p.0, p.1)

  placed_at : (k : ℕ) (fn : Function) (lf : LinearFunction)
      → slice_get program.functions k ≡ Some fn → slice_get linear.functions k ≡ Some lf
      → FunctionPlaced program linear rate body k fn lf
  placed_at k fn lf h there = let p = placed k fn h in let other = p.1 in
      let same : p.0 ≡ lf = cc in subst (λ lf. FunctionPlaced program linear rate body k fn lf) same
      p.2

  pub record Both (n : ℕ) : Type 0 where
    pub tasks : Runs program linear rate body n
    pub bodies : BodyRuns program linear rate body n

  bodies_zero : BodyRuns program linear rate body zero
  bodies_zero = record {
    run = λ s scope z shapes context site base pc st store steps light has inner standing kept
        held. stopped linear rate (at (conf context site pc [] st store)) st 0 0
        (statement_weight s)
        (omega arith) (from_none linear zero (conf context site pc [] st store));
    for_run = λ c next s scope z shapes context site base pc st store steps light has inner standing
        kept held.
        stopped linear rate (at (conf context site pc [] st store)) st 0 0
        (1 + optional_weight c + statement_weight s + optional_weight next) (omega arith)
        (from_none linear zero (conf context site pc [] st store));
    do_run = λ s c scope z shapes context site base pc st store steps light has inner standing kept
        held.
        stopped linear rate (at (conf context site pc [] st store)) st 0 0
        (1 + statement_weight s + expression_weight c) (omega arith)
        (from_none linear zero (conf context site pc [] st store));
    try_run = λ ss scope z shapes context site base pc st store steps light has inner standing kept
        held. stopped linear rate (at (conf context site pc [] st store)) st 0 0
        (1 + statements_weight ss) (omega arith)
        (from_none linear zero (conf context site pc [] st store));
    finally_run = λ k last flag held below names z shapes context site base pc temps st store steps
        light has isf standing kept same_held.
        let begins = begin_finally (k - 1) names.free flag held below
        (conf context site pc temps st store) in
        stopped linear rate (λ next. deeper 2 held store st.events (next begins)) st 0 0
        (1 + statements_weight last) (omega arith)
        (shown_deep linear rate 2 held store st.events (exec linear zero begins)
        (prefix_less st.events _ (events.Finally (k - 1 + 1) flag) (from_none linear zero begins)));
  }

  tasks_zero : Runs program linear rate body zero
  tasks_zero = record {
    eval = λ e here pc temps st store steps light fits has kept held. stopped linear rate
        (at (conf here.context here.site pc temps st store)) st 0 0
        (expression_weight e) (omega arith) (from_none linear zero
        (conf here.context here.site pc temps st store));
    locate = λ p here pc temps st store steps light fits has kept held. stopped linear rate
        (at (conf here.context here.site pc temps st store)) st 0 0
        (1 + lvalue_weight p) (omega arith) (from_none linear zero
        (conf here.context here.site pc temps st store));
    raised = λ exc resumption here pc temps st store steps t kept held.
        stopped linear rate (λ next. raise linear next exc resumption
        (conf here.context here.site pc temps st store)) st 0 0 rate (omega arith)
        (shown_raise program linear rate body exc resumption
        (conf here.context here.site pc temps st store));
    asked = λ f place exc resumption here pc temps st store fits
        steps t kept held.
        stopped linear rate (λ next. ask_vectored linear next f place exc resumption
        (conf here.context here.site pc temps st store)) st 0 1 rate (omega arith)
        (shown_asked program linear rate body f place exc resumption
        (conf here.context here.site pc temps st store));
    retry = λ o x y to first second a b after here pc temps st
        store c steps has r alike kept held. stopped linear rate
        (at (conf here.context here.site pc temps st store)) st 0 0 1 (omega arith)
        (from_none linear zero (conf here.context here.site pc temps st store));
    filter = λ k j e h f rest exc resumption here pc temps st store
        steps t a fit kept held.
        let begins = begin_filter j f rest exc resumption
        (conf here.context here.site pc temps st store) in
        stopped linear rate (λ next. deeper 2 here.site.held store st.events (next begins)) st 0 1
        (2 + expression_weight e) (omega arith)
        (shown_deep linear rate 2 here.site.held store st.events (exec linear zero begins)
        (prefix_less st.events _ (events.Filter (j + 1)) (from_none linear zero begins)));
    call = λ k fn lf vs below held_below part here pc temps st
        store steps h there len to kept held. call_runs program linear rate body same_globals
        zero bodies_zero k fn lf vs below held_below part here.names here.info here.z here.shapes
        here.context here.site here.base pc
        temps st store (placed_at k fn lf h there) steps len to here.around kept held;
  }

  abbrev inside : (n : ℕ) → Runs program linear rate body n → CodePlace program linear rate body
      → NodeSetting
  inside n ih here = node_setting program linear rate body same_globals n ih here

  tasks_next : (n : ℕ) → Both n → BodyRuns program linear rate body (suc n)
      → Runs program linear rate body (suc n)
  tasks_next n b bodies = record {
    eval = λ e here pc temps st store steps light fits has kept held. eval_next
        (inside n b.tasks here) roomy
        functions_at e pc temps st store steps light fits has kept
        held;
    locate = λ p here pc temps st store steps light fits has kept held. locate_next
        (inside n b.tasks here) roomy
        functions_at p pc temps st store steps light fits has kept
        held;
    raised = λ exc resumption here pc temps st store steps t kept held. raised_next
        (inside n b.tasks here) roomy
        functions_at exc resumption pc temps st store steps t kept
        held;
    asked = λ f place exc resumption here pc temps st store fits
        steps t kept held. asked_next
        (inside n b.tasks here) roomy functions_at f place
        exc resumption
        pc temps st store fits steps t kept held;
    retry = λ o x y to first second a c after here pc temps st
        store plain steps has r alike kept held.
        retry_next (inside n b.tasks here) roomy
        functions_at o x y to first second a c after pc temps st
        store plain
        steps has r alike kept held;
    filter = λ k j e h f rest exc resumption here pc temps st store
        steps t a fit kept held.
        filter_next (inside n b.tasks here) roomy
        functions_at k j e h f rest exc resumption pc temps st store
        steps
        fit.light t a fit kept held;
    call = λ k fn lf vs below held_below part here pc temps st
        store steps h there len to kept held. call_runs program linear rate body same_globals
        (suc n) bodies k fn lf vs below held_below part here.names here.info here.z here.shapes
        here.context here.site here.base pc
        temps st store (placed_at k fn lf h there) steps len to here.around kept held;
  }

  pub both : (n : ℕ) → Both n
  both zero = record { tasks = tasks_zero; bodies = bodies_zero }
  both (suc n) = let b = both n in let bodies = body_next program linear rate body roomy n b.tasks
      b.bodies in record { tasks = tasks_next n b bodies; bodies = bodies }
