-- What is claimed of tasks holds one step deeper.
use Rattle.std.proofs.Common.{◌≡◌, ◌≤◌, ℕ, zero, suc, ◌+◌, List, [], ◌∷◌, length, arith}
use Rattle.std.specs.Prelude.{false, slice_get, Some}
use Rattle.seh_num.specs.declared.event.Event.TheVariants as events
use Rattle.lowering_follows.specs.Words.{Operation, Expression, On, Node, Lvalue, Function, Exception, State, Value, Gives, Handler, Eval, Locate, Raise, AskVectored, RunFilter, Retry, converted, operate, locate, perform, within, Temporary, LinearFunction, Resumption, Store, deeper, regions_at, begin_filter, ask_vectored, raise, is_constant, exec, conversion_size, expression_size, locate_size, node_size, conversion_code, expression_code, locate_code, node_code, ExpressionFits, LvalueFits, NodeFits, IsCalled, expression_weight, lvalue_weight, node_weight, HasAt}
use Rattle.c_checked.specs.Expression as nodes
use Rattle.source_meaning.specs.Expressions as model
use Rattle.linear_code.specs.declared.instruction.Instruction.TheVariants as instructions
use Rattle.linear_machine.specs.Frames as machine
use Rattle.lowering_follows.proofs.Lemmas.{at, conf, price, Claim, normal_ways, joins, more, then_value, counted_claim, shown_deep, prefix_less, from_none}
use Rattle.lowering_follows.proofs.NodeSettings.{NodeSetting}
use Rattle.lowering_follows.proofs.Stores.{everywhere}
use Rattle.lowering_follows.proofs.Places.{has_front, has_after}
use Rattle.lowering_follows.proofs.Lengths.{node_length}
use Rattle.lowering_follows.proofs.Environments.{FilterFits}
use Rattle.lowering_follows.proofs.TaskClaims.{pushed, with_address, Operands, SameOperation', resumes, answers_search, shown_raise, shown_asked}
use Rattle.lowering_follows.proofs.Raises.{filter_runs}
use Rattle.lowering_follows.proofs.VectoredHandlers.{raise_runs, vectored_runs}
use Rattle.lowering_follows.proofs.Operations.{locate_runs, operate_runs}
use Rattle.lowering_follows.proofs.NodeParts.{Kp, Wv, conversion_then, here_other}
use Rattle.lowering_follows.proofs.Nodes.{NodeRuns, RunsIn, spares, binary_runs, not_runs, comma_runs, unary_runs, and_runs, or_runs, conditional_runs}
use Rattle.lowering_follows.proofs.Leaves.{constant_node, array_node, code_node, flag_node, field_node}
use Rattle.lowering_follows.proofs.LvalueNodes.{read_node, address_node, assign_node}
use Rattle.lowering_follows.proofs.Changes.{compound_node, increment_node}
use Rattle.lowering_follows.proofs.Calls.{call_node, built_in_node}
use Rattle.lowering_follows.proofs.PointerDifferences.{difference_node}

module _ (setting : NodeSetting) (roomy : 4 ≤ setting.rate)
    (functions_at : (k : ℕ) (fn : Function) → slice_get setting.program.functions k ≡ Some fn
    → (lf : LinearFunction) × (slice_get setting.linear.functions k ≡ Some lf)) where
  open setting use {program, linear, rate, body, n, ih, code_place.{names, info, z, shapes, context, site, base}}

  spared : (nd : Node) (pc : ℕ) (temps : List ℕ) (st : State) (store : Store)
      → NodeRuns setting roomy nd pc temps st store
      → RunsIn setting roomy 14 nd pc temps st store
  spared nd pc temps st store h = spares setting roomy nd pc temps st store h

  node_runs : (nd : Node) (pc : ℕ) (temps : List ℕ) (st : State) (store : Store)
      → st.steps_left ≤ n → 1 + node_weight nd + body + 4 ≤ rate → NodeFits program z.own info
      nd
      → HasAt linear site.body site.regions pc (node_code names nd (length temps) pc)
      → Kp setting roomy st store → st.held ≡ site.held
      → RunsIn setting roomy 14 nd pc temps st store
  node_runs (nodes.Constant size v) pc temps st store steps light fits has kept held = spared
      (nodes.Constant size v) pc temps st store
      (constant_node setting roomy size v pc temps st store fits has kept held)
  node_runs (nodes.StackedArray b offset) pc temps st store steps light fits has kept held =
      spared (nodes.StackedArray b offset) pc temps st store
      (array_node setting roomy b offset pc temps st store fits has kept held)
  node_runs (nodes.Read p) pc temps st store steps light fits has kept held = spared
      (nodes.Read p) pc temps st store (read_node setting roomy p pc
      temps st store steps light fits has kept held)
  node_runs (nodes.AddressOf p) pc temps st store steps light fits has kept held = spared
      (nodes.AddressOf p) pc temps st store (address_node
      setting roomy p pc temps st store steps light fits has kept held)
  node_runs (nodes.Assign p e) pc temps st store steps light fits has kept held = spared
      (nodes.Assign p e) pc temps st store (assign_node
      setting roomy p e pc temps st store steps light fits has kept held)
  node_runs (nodes.CompoundAssign p before o e after) pc temps st store steps light fits has
      kept held = spared (nodes.CompoundAssign p before o e after) pc temps st store
      (compound_node setting roomy p before o e after pc temps st store steps light fits has
      kept held)
  node_runs (nodes.Increment m p before o amount after) pc temps st store steps light fits has
      kept held = spared (nodes.Increment m p before o amount after) pc temps st store
      (increment_node setting roomy m p before o amount after pc temps st store steps light
      fits has kept held)
  node_runs (nodes.Unary o e) pc temps st store steps light fits has kept held = spared
      (nodes.Unary o e) pc temps st store (unary_runs
      setting roomy o e pc temps st store steps light fits has kept held)
  node_runs (nodes.Binary o e f) pc temps st store steps light fits has kept held = spared
      (nodes.Binary o e f) pc temps st store (binary_runs
      setting roomy o e f pc temps st store steps light fits has kept held)
  node_runs (nodes.PointerDifference size e f) pc temps st store steps light fits has kept held =
      spared (nodes.PointerDifference size e f) pc temps st store
      (difference_node setting roomy size e f pc temps st store steps light fits has kept held)
  node_runs (nodes.Not e) pc temps st store steps light fits has kept held = spared
      (nodes.Not e) pc temps st store (not_runs setting roomy e pc
      temps st store steps light fits has kept held)
  node_runs (nodes.And e f) pc temps st store steps light fits has kept held = spared
      (nodes.And e f) pc temps st store (and_runs setting roomy e f pc
      temps st store steps light fits has kept held)
  node_runs (nodes.Or e f) pc temps st store steps light fits has kept held = spared
      (nodes.Or e f) pc temps st store (or_runs setting roomy e f pc
      temps st store steps light fits has kept held)
  node_runs (nodes.Conditional c e f) pc temps st store steps light fits has kept held = spared
      (nodes.Conditional c e f) pc temps st store
      (conditional_runs setting roomy c e f pc temps st store steps light fits has kept held)
  node_runs (nodes.Comma e f) pc temps st store steps light fits has kept held = spared
      (nodes.Comma e f) pc temps st store (comma_runs
      setting roomy e f pc temps st store steps light fits has kept held)
  node_runs (nodes.Call f es) pc temps st store steps light fits has kept held = call_node
      setting roomy functions_at f es pc temps st store steps light fits has kept held
  node_runs (nodes.CallBuiltIn b es) pc temps st store steps light fits has kept held = spared
      (nodes.CallBuiltIn b es) pc temps st store
      (built_in_node setting roomy functions_at b es pc temps st store steps light fits has kept
      held)
  node_runs nodes.ExceptionCode pc temps st store steps light fits has kept held = spared
      nodes.ExceptionCode pc temps st store (code_node
      setting roomy pc temps st store has kept held)
  node_runs (nodes.Information f) pc temps st store steps light fits has kept held = spared
      (nodes.Information f) pc temps st store (field_node
      setting roomy f pc temps st store fits has kept held)
  node_runs nodes.AbnormalTermination pc temps st store steps light fits has kept held = spared
      nodes.AbnormalTermination pc temps st store
      (flag_node setting roomy pc temps st store has kept held)

  -- an expression, after its step
  expression_runs : (e : Expression) (pc : ℕ) (temps : List ℕ) (st : State) (store : Store)
      → st.steps_left ≤ n → expression_weight e + body + 4 ≤ rate
      → ExpressionFits program z.own info e
      → HasAt linear site.body site.regions pc (expression_code names e (length temps) pc)
      → Kp setting roomy st store → st.held ≡ site.held
      → Claim linear rate (at (conf context site pc temps st store)) st
      (price 16 1 (expression_weight e) (expression_weight e))
      (Wv setting roomy (pushed context site (pc + expression_size e) temps))
      (model.expression program (within program n) e context st)
  expression_runs (On nd c) pc temps st store steps light fits has kept held =
      let d = length temps in
      let w = 1 + node_weight nd in
      let pc1 = pc + node_size nd in
      let end : pc1 + conversion_size c ≡ pc
      + (node_size nd + conversion_size c) = omega arith in
      let part = pushed context site (pc + (node_size nd + conversion_size c)) temps in
      let cn = node_code names nd d pc in
      then_value linear rate _ (pushed context site pc1 temps)
      (Wv setting roomy part) st (price 14 1 w w) (price 2 0 0 0) (price 16 1 w w)
      (model.node program (within program n) nd context st)
      (λ v st. Gives (Value (converted c v)) st)
      (joins (omega arith) (omega arith) (omega arith) (omega arith))
      (node_runs nd pc temps st store steps light fits
      (has_front linear site.body site.regions pc cn (conversion_code c d) has) kept held)
      (λ v mid after lower kept held.
      conversion_then setting roomy c v temps pc1 mid after 0 0 0 0 part
      (Gives (Value (converted c v)) mid)
      (has_after linear site.body site.regions pc (node_size nd) cn (conversion_code c d)
      (node_length names nd d pc) has)
      (here_other setting roomy (pc1 + conversion_size c) (pc + (node_size nd + conversion_size c))
      temps (converted c v) mid after 0 0 0 0 end (omega arith) kept held))

  pub eval_next : (e : Expression) (pc : ℕ) (temps : List ℕ) (st : State) (store : Store)
      → st.steps_left ≤ suc n → expression_weight e + body + 4 ≤ rate
      → ExpressionFits program z.own info e
      → HasAt linear site.body site.regions pc (expression_code names e (length temps) pc)
      → Kp setting roomy st store → st.held ≡ site.held
      → Claim linear rate (at (conf context site pc temps st store)) st
      (price 0 0 (expression_weight e) (expression_weight e))
      (Wv setting roomy (pushed context site (pc + expression_size e) temps))
      (within program (suc n) (Eval e) context st)
  eval_next e pc temps st store steps light fits has kept held =
      counted_claim linear rate (at (conf context site pc temps st store))
      (Wv setting roomy (pushed context site (pc + expression_size e) temps)) st 0
      (expression_weight e) (expression_weight e)
      (λ st. perform program (within program n) (Eval e) context st)
      (omega arith) (from_none linear zero (conf context site pc temps st store))
      (λ m less. expression_runs e pc temps (record st { steps_left = m }) store (omega arith)
      light fits has kept held)

  pub locate_next : (p : Lvalue) (pc : ℕ) (temps : List ℕ) (st : State) (store : Store)
      → st.steps_left ≤ suc n → 1 + lvalue_weight p + body + 4 ≤ rate
      → LvalueFits program z.own info p → HasAt linear site.body site.regions pc
      (locate_code names p (length temps) pc)
      → Kp setting roomy st store → st.held ≡ site.held
      → Claim linear rate (at (conf context site pc temps st store)) st
      (price 0 0 (1 + lvalue_weight p) (1 + lvalue_weight p))
      (Wv setting roomy (with_address context site (pc + locate_size p) p temps))
      (within program (suc n) (Locate p) context st)
  locate_next p pc temps st store steps light fits has kept held =
      let w = lvalue_weight p in
      counted_claim linear rate (at (conf context site pc temps st store))
      (Wv setting roomy (with_address context site (pc + locate_size p) p temps)) st 0 (1 + w)
      (1 + w) (λ st. perform program (within program n) (Locate p) context st)
      (omega arith) (from_none linear zero (conf context site pc temps st store))
      (λ m less.
      let low : State = record st { steps_left = m } in
      more linear rate _ low (price 2 0 w w) (price 16 1 (1 + w) (1 + w))
      (Wv setting roomy (with_address context site (pc + locate_size p) p temps))
      (locate (within program n) p context low) (omega arith, omega arith, omega arith)
      (locate_runs setting roomy p pc temps low store (omega arith)
      (omega arith) fits has kept held))

  pub raised_next : (exc : Exception) (resumption : Resumption) (pc : ℕ) (temps : List ℕ)
      (st : State) (store : Store) → st.steps_left ≤ suc n
      → regions_at linear site.body pc ≡ site.regions
      → Kp setting roomy st store → st.held ≡ site.held
      → Claim linear rate (λ next. raise linear next exc resumption
      (conf context site pc temps st store)) st (price 0 0 1 rate)
      (normal_ways (resumes program linear rate body resumption context site pc temps)
      (Kp setting roomy) context site) (within program (suc n) (Raise exc) context st)
  raised_next exc resumption pc temps st store steps t kept held =
      counted_claim linear rate (λ next. raise linear next exc resumption
      (conf context site pc temps st store))
      (normal_ways (resumes program linear rate body resumption context site pc temps)
      (Kp setting roomy) context site) st 0 1 rate
      (λ st. perform program (within program n) (Raise exc) context st)
      (omega arith) (shown_raise program linear rate body exc resumption
      (conf context site pc temps st store))
      (λ m less. raise_runs setting resumption pc temps exc (record st { steps_left = m }) store
      (omega arith) (omega arith) t kept held)

  pub asked_next : (f place : ℕ) (exc : Exception) (resumption : Resumption) (pc : ℕ)
      (temps : List ℕ) (st : State) (store : Store) → IsCalled program f 2
      → st.steps_left ≤ suc n → regions_at linear site.body pc ≡ site.regions
      → Kp setting roomy st store → st.held ≡ site.held
      → Claim linear rate (λ next. ask_vectored linear next f place exc resumption
      (conf context site pc temps st store)) st (price 0 1 1 rate)
      (normal_ways (resumes program linear rate body resumption context site pc temps)
      (Kp setting roomy) context site) (within program (suc n) (AskVectored f place exc) context st)
  asked_next f place exc resumption pc temps st store fits steps t kept held =
      let lf = functions_at f fits.function fits.there in
      counted_claim linear rate (λ next. ask_vectored linear next f place exc resumption
      (conf context site pc temps st store))
      (normal_ways (resumes program linear rate body resumption context site pc temps)
      (Kp setting roomy) context site) st 1 1 rate
      (λ st. perform program (within program n) (AskVectored f place exc) context st)
      (omega arith) (shown_asked program linear rate body f place exc resumption
      (conf context site pc temps st store))
      (λ m less. vectored_runs setting resumption pc temps f place fits.function lf.0 exc
      (record st { steps_left = m })
      store fits.there lf.1 fits.takes (omega arith) (omega arith) t kept held)

  pub retry_next : (o : Operation) (x y to first second a b : ℕ) (after : ℕ → List ℕ) (pc : ℕ)
      (temps : List ℕ) (st : State) (store : Store) → is_constant o ≡ false
      → st.steps_left ≤ suc n
      → HasAt linear site.body site.regions pc
      (instructions.Compute (Temporary to) o (Temporary first) (Temporary second) ∷ [])
      → Operands temps to first second a b after
      → SameOperation' program linear rate body o x y a b
      → Kp setting roomy st store → st.held ≡ site.held
      → Claim linear rate (at (conf context site pc temps st store)) st (price 0 0 0 1)
      (Wv setting roomy (λ v st store. at (conf context site (pc + 1) (after v) st store)))
      (within program (suc n) (Retry o x y) context st)
  retry_next o x y to left right a b after pc temps st store c steps has r alike kept held =
      let w = Wv setting roomy (λ v st store. at (conf context site (pc + 1) (after v) st store)) in
      counted_claim linear rate (at (conf context site pc temps st store)) w st 0 0 1
      (λ st. perform program (within program n) (Retry o x y) context st)
      (omega arith) (from_none linear zero (conf context site pc temps st store))
      (λ m less.
      let low : State = record st { steps_left = m } in
      more linear rate _ low (price 1 1 0 1) (price 16 1 0 1) w
      (operate program (within program n) o x y context low) (omega arith, omega arith, omega arith)
      (operate_runs setting roomy o x y to left right a b after pc temps low store 1 c (omega arith)
      (omega arith) has r alike kept held))

  pub filter_next : (k j : ℕ) (e : Expression) (h : Handler) (f : machine.Handler)
      (rest : List machine.Handler) (exc : Exception) (resumption : Resumption) (pc : ℕ)
      (temps : List ℕ) (st : State) (store : Store)
      → st.steps_left ≤ suc n → expression_weight e + body + 4 ≤ rate
      → regions_at linear site.body pc ≡ site.regions → h.activation ≡ f.activation
      → FilterFits program linear rate body everywhere shapes base h.activation h.abnormal k j e
      → Kp setting roomy st store → st.held ≡ site.held
      → Claim linear rate (λ next. deeper 2 site.held store st.events
      (next (begin_filter j f rest exc resumption (conf context site pc temps st store)))) st
      (price 0 1 0 (2 + expression_weight e))
      (Wv setting roomy (answers_search program linear rate body exc resumption f rest context site
      pc temps)) (within program (suc n) (RunFilter k e h exc) context st)
  filter_next k j e h f rest exc resumption pc temps st store steps light t a fit kept held =
      counted_claim linear rate (λ next. deeper 2 site.held store st.events
      (next (begin_filter j f rest exc resumption (conf context site pc temps st store))))
      (Wv setting roomy (answers_search program linear rate body exc resumption f rest context site
      pc temps)) st 1 0 (2 + expression_weight e)
      (λ st. perform program (within program n) (RunFilter k e h exc) context st) (omega arith)
      (shown_deep linear rate 2 site.held store st.events
      (exec linear zero (begin_filter j f rest exc resumption
      (conf context site pc temps st store))) (prefix_less st.events _ (events.Filter (j + 1))
      (from_none linear zero
      (begin_filter j f rest exc resumption (conf context site pc temps st store)))))
      (λ m less. filter_runs setting resumption pc temps k j e h f rest exc
      (record st { steps_left = m }) store (omega arith) light t a fit kept held)
