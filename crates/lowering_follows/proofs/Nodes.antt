-- The code of expressions does what they mean.
use Rattle.std.proofs.Common.{◌≡◌, ◌<◌, ◌≤◌, ℕ, ◌+◌, ◌^◌, List, [], ◌∷◌, ◌++◌, length, refl, ap, sym, subst, ◌∙◌, arith}
use Rattle.std.proofs.lemmas.List.{length_push}
use Rattle.std.specs.Prelude.{Bool, true, false, not, nat_eq, if◌then◌else◌}
use Rattle.lowering_follows.specs.Words.{Operation, Pure, result_of, Expression, Node, State, Value, Outcome, Gives, choose, with_value, Eval, of_test, operate, within, Temporary, Instruction, Jump, JumpIfZero, Store, with_temporary, is_constant, unary_size, expression_size, node_size, constant, combine, copy, unary_code, choice_code, expression_code, node_code, ExpressionFits, NodeFits, expression_weight, node_weight, HasAt}
use Rattle.c_operations.specs.declared.operation.Operation.TheVariants as operations
use Rattle.c_operations.specs.declared.operation.Pure.TheVariants as pures
use Rattle.c_checked.specs.Expression as nodes
use Rattle.source_meaning.specs.Expressions as model
use Rattle.lowering_follows.proofs.Lemmas.{Part, at, conf, price, value_ways, more, chosen}
use Rattle.lowering_follows.proofs.NodeSettings.{NodeSetting}
use Rattle.lowering_follows.proofs.Places.{has_at, has_front, has_after}
use Rattle.lowering_follows.proofs.Lengths.{expression_length}
use Rattle.lowering_follows.proofs.TaskClaims.{pushed, Operands}
use Rattle.lowering_follows.proofs.Turns.{next_get, combining, pure_turn, constant_turn, jump_turn, test_turn}
use Rattle.lowering_follows.proofs.Operations.{push_put, operate_runs}
use Rattle.lowering_follows.proofs.NodeParts.{value_self, Kp, From, sub_eval, turn, here_other, choice_then}

not_test : (b : Bool) → of_test (not b) ≡ (if b then 0 else 1)
not_test true = refl
not_test false = refl

module _ (setting : NodeSetting) (roomy : 4 ≤ setting.rate) where
  open setting use {program, linear, rate, body, n, code_place.{names, info, z, context, site}}

  abbrev pub F : (pc : ℕ) (temps : List ℕ) (st : State) (store : Store) (t x s o : ℕ)
      (part : ℕ → State → Store → Part) → Outcome → Type 0
  F = From setting roomy

  abbrev pub Kn : State → Store → Type 0
  Kn = Kp setting roomy

  abbrev pub Has : ℕ → List Instruction → Type 0
  Has pc is = HasAt linear site.body site.regions pc is

  -- a node, from its place to the place after it, in so many turns beside those of its steps
  abbrev pub RunsIn : ℕ → Node → ℕ → List ℕ → State → Store → Type 0
  RunsIn turns nd pc temps st store = F pc temps st store turns 1 (1 + node_weight nd)
      (1 + node_weight nd) (pushed context site (pc + node_size nd) temps)
      (model.node program (within program n) nd context st)

  abbrev pub NodeRuns : Node → ℕ → List ℕ → State → Store → Type 0
  NodeRuns nd pc temps st store = RunsIn 13 nd pc temps st store

  -- one turn to spare
  pub spares : (nd : Node) (pc : ℕ) (temps : List ℕ) (st : State) (store : Store)
      → NodeRuns nd pc temps st store → RunsIn 14 nd pc temps st store
  spares nd pc temps st store h =
      let w = 1 + node_weight nd in
      more linear rate _ st (price 13 1 w w) (price 14 1 w w)
      (value_ways (pushed context site (pc + node_size nd) temps) Kn context site)
      (model.node program (within program n) nd context st)
      (omega arith, omega arith, omega arith) h

  -- ---- one or two operands

  -- an operand, as one part of a node
  pub operand_runs : (e : Expression) (pc : ℕ) (temps : List ℕ) (st : State) (store : Store)
      (t x o : ℕ) (part : ℕ → State → Store → Part) (k : ℕ → State → Outcome) → st.steps_left ≤ n
      → o + 1 + body + 3 ≤ rate → x + expression_weight e ≤ o
      → ExpressionFits program z.own info e → Has pc (expression_code names e (length temps) pc)
      → Kn st store → st.held ≡ site.held
      → ((v : ℕ) (mid : State) (after : Store) → mid.steps_left ≤ n → Kn mid after
      → mid.held ≡ site.held → F (pc + expression_size e) (temps ++ v ∷ []) mid after t
      (x + expression_weight e) o o part (k v mid))
      → F pc temps st store t x o o part (with_value (within program n (Eval e) context st) k)
  operand_runs e pc temps st store t x o part k steps light le fits has kept held go =
      sub_eval setting roomy e pc temps st store t x o o part k steps
      (omega arith) le fits has kept held
      go

  -- two operands, with the code after them
  pub two_runs : (e f : Expression) (rest : List Instruction) (pc : ℕ) (temps : List ℕ)
      (st : State) (store : Store) (t o : ℕ) (part : ℕ → State → Store → Part)
      (k : ℕ → ℕ → State → Outcome) → st.steps_left ≤ n → o + 1 + body + 3 ≤ rate
      → 1 + expression_weight e + expression_weight f ≤ o
      → ExpressionFits program z.own info e → ExpressionFits program z.own info f
      → Has pc (expression_code names e (length temps) pc
      ++ (expression_code names f (length temps + 1) (pc + expression_size e) ++ rest))
      → Kn st store → st.held ≡ site.held
      → ((x y : ℕ) (mid : State) (after : Store) → mid.steps_left ≤ n → Kn mid after
      → mid.held ≡ site.held → Has (pc + expression_size e + expression_size f) rest
      → F (pc + expression_size e + expression_size f) ((temps ++ x ∷ []) ++ y ∷ []) mid after t
      (1 + expression_weight e + expression_weight f) o o part (k x y mid))
      → F pc temps st store t 1 o o part (with_value (within program n (Eval e) context st)
      (λ x st. with_value (within program n (Eval f) context st) (λ y st. k x y st)))
  two_runs e f rest pc temps st store t o part k steps light le fe ff has kept held go =
      let d = length temps in
      let pc1 = pc + expression_size e in
      let ce = expression_code names e d pc in
      let cf = expression_code names f (d + 1) pc1 in
      let back = has_after linear site.body site.regions pc (expression_size e) ce (cf ++ rest)
      (expression_length names e d pc) has in
      let last = has_after linear site.body site.regions pc1 (expression_size f) cf rest
      (expression_length names f (d + 1) pc1) back in
      operand_runs e pc temps st store t 1 o part
      (λ x st. with_value (within program n (Eval f) context st) (λ y st. k x y st)) steps light
      (omega arith) fe (has_front linear site.body site.regions pc ce (cf ++ rest) has) kept
      held
      (λ x mid after steps kept held.
      operand_runs f pc1 (temps ++ x ∷ []) mid after t (1 + expression_weight e) o part
      (λ y st. k x y st) steps light le ff
      (subst (λ j. Has pc1 (expression_code names f j pc1)) (sym (length_push temps x))
      (has_front linear site.body site.regions pc1 cf rest back)) kept held
      (λ y end last_store steps kept held. go x y end last_store steps kept held last))

  -- ---- nodes

  pub binary_runs : (o : Operation) (e f : Expression) (pc : ℕ) (temps : List ℕ) (st : State)
      (store : Store) → st.steps_left ≤ n → 1 + node_weight (nodes.Binary o e f) + body + 4 ≤ rate
      → NodeFits program z.own info (nodes.Binary o e f)
      → Has pc (node_code names (nodes.Binary o e f) (length temps) pc) → Kn st store
      → st.held ≡ site.held → NodeRuns (nodes.Binary o e f) pc temps st store
  binary_runs o e f pc temps st store steps light fits has kept held =
      let d = length temps in
      let w = 1 + (expression_weight e + expression_weight f) in
      let end : pc + expression_size e + expression_size f + 1
      ≡ pc + (expression_size e + (expression_size f + 1)) = omega arith in
      two_runs e f (combine d o ∷ []) pc temps st store 13 w
      (pushed context site (pc + (expression_size e + (expression_size f + 1))) temps)
      (λ x y st. operate program (within program n) o x y context st) steps (omega arith)
      (omega arith) fits.0 fits.1 has kept held
      (λ x y mid after steps kept held last.
      let pc2 = pc + expression_size e + expression_size f in
      let debt = 1 + expression_weight e + expression_weight f in
      subst (λ p. F pc2 ((temps ++ x ∷ []) ++ y ∷ []) mid after 13 debt w w
      (pushed context site p temps) (operate program (within program n) o x y context mid)) end
      (more linear rate _ mid (price 1 debt 0 debt) (price 13 debt w w)
      (value_ways (pushed context site (pc2 + 1) temps) Kn context site)
      (operate program (within program n) o x y context mid) (omega arith, omega arith, omega arith)
      (operate_runs setting roomy o x y d d (d + 1) x y (λ v. temps ++ v ∷ []) pc2
      ((temps ++ x ∷ []) ++ y ∷ []) mid after debt fits.2 steps (omega arith) last
      (combining temps x y) (λ m. refl) kept held)))

  pub not_runs : (e : Expression) (pc : ℕ) (temps : List ℕ) (st : State) (store : Store)
      → st.steps_left ≤ n → 1 + node_weight (nodes.Not e) + body + 4 ≤ rate
      → NodeFits program z.own info (nodes.Not e)
      → Has pc (node_code names (nodes.Not e) (length temps) pc) → Kn st store
      → st.held ≡ site.held → NodeRuns (nodes.Not e) pc temps st store
  not_runs e pc temps st store steps light fits has kept held =
      let d = length temps in
      let w = 1 + expression_weight e in
      let pc1 = pc + expression_size e in
      let code = choice_code d pc1 1 0 in
      let end : pc1 + 4 ≡ pc + (expression_size e + 4) = omega arith in
      let part = pushed context site (pc + (expression_size e + 4)) temps in
      operand_runs e pc temps st store 13 1 w part
      (λ v st. Gives (Value (of_test (nat_eq v 0))) st) steps (omega arith) (omega arith) fits
      (has_front linear site.body site.regions pc (expression_code names e d pc) code has) kept
      held
      (λ v mid after steps kept held.
      subst (λ p. F pc1 (temps ++ v ∷ []) mid after 13 w w w (pushed context site p temps)
      (Gives (Value (of_test (nat_eq v 0))) mid)) end
      (choice_then setting roomy v 1 0 (nat_eq v 0) temps pc1 mid after 10 w w w refl (omega arith)
      (omega arith) (has_after linear site.body site.regions pc (expression_size e)
      (expression_code names e d pc) code (expression_length names e d pc) has) (omega arith)
      kept held))

  -- an operand alone, and what a turn makes of its value
  pub last_runs : (f : Expression) (pc : ℕ) (temps : List ℕ) (st : State) (store : Store)
      (t x o : ℕ) (part : ℕ → State → Store → Part) → st.steps_left ≤ n → o + 1 + body + 3 ≤ rate
      → x + expression_weight f ≤ o
      → ExpressionFits program z.own info f → Has pc (expression_code names f (length temps) pc)
      → Kn st store → st.held ≡ site.held
      → ((v : ℕ) (mid : State) (after : Store) → mid.steps_left ≤ n → Kn mid after
      → mid.held ≡ site.held → F (pc + expression_size f) (temps ++ v ∷ []) mid after t
      (x + expression_weight f) o o part (Gives (Value v) mid))
      → F pc temps st store t x o o part (within program n (Eval f) context st)
  last_runs f pc temps st store t x o part steps light le fits has kept held go =
      subst (λ out. F pc temps st store t x o o part out) (value_self
      (within program n (Eval f) context st))
      (operand_runs f pc temps st store t x o part (λ v st. Gives (Value v) st) steps light le
      fits has kept held go)

  pub comma_runs : (e f : Expression) (pc : ℕ) (temps : List ℕ) (st : State) (store : Store)
      → st.steps_left ≤ n → 1 + node_weight (nodes.Comma e f) + body + 4 ≤ rate
      → NodeFits program z.own info (nodes.Comma e f)
      → Has pc (node_code names (nodes.Comma e f) (length temps) pc) → Kn st store
      → st.held ≡ site.held → NodeRuns (nodes.Comma e f) pc temps st store
  comma_runs e f pc temps st store steps light fits has kept held =
      let d = length temps in
      let w = 1 + (expression_weight e + expression_weight f) in
      let pc1 = pc + expression_size e in
      let pc2 = pc1 + expression_size f in
      let ce = expression_code names e d pc in
      let cf = expression_code names f (d + 1) pc1 in
      let tail = copy (Temporary d) (Temporary (d + 1)) ∷ [] in
      let back = has_after linear site.body site.regions pc (expression_size e) ce (cf ++ tail)
      (expression_length names e d pc) has in
      let last = has_after linear site.body site.regions pc1 (expression_size f) cf tail
      (expression_length names f (d + 1) pc1) back in
      let end : pc2 + 1 ≡ pc + (expression_size e + (expression_size f + 1)) = omega arith in
      operand_runs e pc temps st store 13 1 w
      (pushed context site (pc + (expression_size e + (expression_size f + 1))) temps)
      (λ x st. within program n (Eval f) context st) steps (omega arith) (omega arith) fits.0
      (has_front linear site.body site.regions pc ce (cf ++ tail) has) kept held
      (λ x mid after steps kept held.
      last_runs f pc1 (temps ++ x ∷ []) mid after 13 (1 + expression_weight e) w
      (pushed context site (pc + (expression_size e + (expression_size f + 1))) temps) steps
      (omega arith) (omega arith) fits.1
      (subst (λ j. Has pc1 (expression_code names f j pc1)) (sym (length_push temps x))
      (has_front linear site.body site.regions pc1 cf tail back)) kept held
      (λ y end_state end_store steps kept held.
      let from : Operands ((temps ++ x ∷ []) ++ y ∷ []) d (d + 1) (d + 1) y y
      (λ v. temps ++ v ∷ []) = record {
        reads_first = next_get temps x y;
        reads_second = next_get temps x y;
        writes = (combining temps x y).writes;
      } in
      turn setting roomy pc2 (pc2 + 1) ((temps ++ x ∷ []) ++ y ∷ [])
      (temps ++ y ∷ []) end_state end_store 12 (1 + expression_weight e + expression_weight f) w w
      (pushed context site (pc + (expression_size e + (expression_size f + 1))) temps)
      (Gives (Value y) end_state)
      (λ k. pure_turn linear rate context site pures.First d (d + 1) (d + 1) y y
      (λ v. temps ++ v ∷ []) pc2 ((temps ++ x ∷ []) ++ y ∷ []) end_state end_store k refl last
      from) (here_other setting roomy (pc2 + 1)
      (pc + (expression_size e + (expression_size f + 1))) temps y
      end_state end_store 12 (1 + expression_weight e + expression_weight f) w w end
      (omega arith) kept held)))

  -- an operator on one operand
  changed_runs : (o : Pure) (v pc d : ℕ) (temps : List ℕ) (st : State) (store : Store) (x w : ℕ)
      → d ≡ length temps → is_constant (operations.Pure o) ≡ false
      → Has pc (constant (d + 1) 0 ∷ combine d (operations.Pure o) ∷ []) → x ≤ w → Kn st store
      → st.held ≡ site.held
      → F pc (temps ++ v ∷ []) st store 13 x w w (pushed context site (pc + 2) temps)
      (Gives (Value (result_of o v 0)) st)
  changed_runs o v pc d temps st store x w e c has le kept held =
      let has' = subst (λ d. Has pc (constant (d + 1) 0 ∷ combine d (operations.Pure o) ∷ [])) e
      has in
      let l = length temps in
      let end : pc + 1 + 1 ≡ pc + 2 = omega arith in
      turn setting roomy pc (pc + 1) (temps ++ v ∷ [])
      ((temps ++ v ∷ []) ++ 0 ∷ []) st store 12 x w w
      (pushed context site (pc + 2) temps) (Gives (Value (result_of o v 0)) st)
      (λ k. constant_turn linear rate context site 0 (l + 1) ((temps ++ v ∷ []) ++ 0 ∷ []) pc
      (temps ++ v ∷ []) st store k (omega arith) (has'.0, has'.1, tt)
      (ap (λ i. with_temporary (temps ++ v ∷ []) i 0) (sym (length_push temps v))
      ∙ push_put (temps ++ v ∷ []) 0))
      (turn setting roomy (pc + 1) (pc + 1 + 1) ((temps ++ v ∷ []) ++ 0 ∷ [])
      (temps ++ result_of o v 0 ∷ [])
      st store 11 x w w (pushed context site (pc + 2) temps) (Gives (Value (result_of o v 0)) st)
      (λ k. pure_turn linear rate context site o l l (l + 1) v 0 (λ u. temps ++ u ∷ []) (pc + 1)
      ((temps ++ v ∷ []) ++ 0 ∷ []) st store k c has'.2 (combining temps v 0))
      (here_other setting roomy (pc + 1 + 1) (pc + 2) temps
      (result_of o v 0) st store 11 x w w end le kept held))

  unary_then : (o : Pure) (v pc d : ℕ) (temps : List ℕ) (st : State) (store : Store) (x w : ℕ)
      → d ≡ length temps → is_constant (operations.Pure o) ≡ false → Has pc (unary_code o d) → x ≤
      w
      → Kn st store → st.held ≡ site.held
      → F pc (temps ++ v ∷ []) st store 13 x w w (pushed context site (pc + unary_size o) temps)
      (Gives (Value (result_of o v 0)) st)
  unary_then pures.First v pc d temps st store x w e c has le kept held =
      here_other setting roomy pc (pc + 0) temps v st store 13 x w w (omega arith) le kept held
  unary_then o v pc d temps st store x w e c has le kept held = changed_runs o v pc d temps st
      store x w e c has le kept held

  pub unary_runs : (o : Pure) (e : Expression) (pc : ℕ) (temps : List ℕ) (st : State)
      (store : Store) → st.steps_left ≤ n → 1 + node_weight (nodes.Unary o e) + body + 4 ≤ rate
      → NodeFits program z.own info (nodes.Unary o e)
      → Has pc (node_code names (nodes.Unary o e) (length temps) pc) → Kn st store
      → st.held ≡ site.held → NodeRuns (nodes.Unary o e) pc temps st store
  unary_runs o e pc temps st store steps light fits has kept held =
      let d = length temps in
      let w = 1 + expression_weight e in
      let pc1 = pc + expression_size e in
      let code = unary_code o d in
      let end : pc1 + unary_size o ≡ pc + (expression_size e + unary_size o) = omega arith in
      operand_runs e pc temps st store 13 1 w
      (pushed context site (pc + (expression_size e + unary_size o)) temps)
      (λ v st. Gives (Value (result_of o v 0)) st) steps (omega arith) (omega arith) fits.0
      (has_front linear site.body site.regions pc (expression_code names e d pc) code has) kept
      held
      (λ v mid after steps kept held.
      subst (λ p. F pc1 (temps ++ v ∷ []) mid after 13 w w w (pushed context site p temps)
      (Gives (Value (result_of o v 0)) mid)) end
      (unary_then o v pc1 d temps mid after w w refl fits.1
      (has_after linear site.body site.regions pc (expression_size e)
      (expression_code names e d pc) code (expression_length names e d pc) has) (omega arith)
      kept held))

  -- ---- tests

  -- one of two parts, by the temporary on top
  test_runs : (x label pc : ℕ) (temps : List ℕ) (st : State) (store : Store) (t debt w : ℕ)
      (part : ℕ → State → Store → Part) (f g : State → Outcome)
      → Has pc (JumpIfZero (Temporary (length temps)) label ∷ [])
      → F label temps st store t debt w w part (f st)
      → F (pc + 1) temps st store t debt w w part (g st)
      → F pc (temps ++ x ∷ []) st store (1 + t) debt w w part (choose (nat_eq x 0) f g st)
  test_runs x label pc temps st store t debt w part f g has p q =
      chosen linear rate (nat_eq x 0) (conf context site pc (temps ++ x ∷ []) st store)
      (at (conf context site label temps st store))
      (at (conf context site (pc + 1) temps st store)) (price t debt w w)
      (price (1 + t) debt w w)
      (value_ways part Kn context site) f g st (omega arith, omega arith, omega arith) refl
      (λ k. test_turn linear rate context site label x pc temps st store k has) p q

  pub number_runs : (v pc pc' : ℕ) (temps : List ℕ) (st : State) (store : Store) (t x w : ℕ)
      → v < 2 ^ 64 → pc + 1 ≡ pc' → Has pc (constant (length temps) v ∷ []) → x ≤ w → Kn st store
      → st.held ≡ site.held
      → F pc temps st store (1 + t) x w w (pushed context site pc' temps) (Gives (Value v) st)
  number_runs v pc pc' temps st store t x w small end has le kept held =
      turn setting roomy pc (pc + 1) temps (temps ++ v ∷ []) st store t x w w
      (pushed context site pc' temps) (Gives (Value v) st)
      (λ k. constant_turn linear rate context site v (length temps) (temps ++ v ∷ []) pc temps st
      store k small has (push_put temps v))
      (here_other setting roomy (pc + 1) pc' temps v st store t x w w end le kept held)

  -- whether an operand isn't 0
  tested_runs : (f : Expression) (pc pc' : ℕ) (temps : List ℕ) (st : State) (store : Store)
      (debt w : ℕ) → st.steps_left ≤ n → w + 1 + body + 3 ≤ rate → debt + expression_weight f ≤ w
      → ExpressionFits program z.own info f
      → Has pc (expression_code names f (length temps) pc
      ++ choice_code (length temps) (pc + expression_size f) 0 1) → Kn st store
      → st.held ≡ site.held → pc + expression_size f + 4 ≡ pc'
      → F pc temps st store 4 debt w w (pushed context site pc' temps)
      (with_value (within program n (Eval f) context st)
      (λ y st. Gives (Value (of_test (not (nat_eq y 0)))) st))
  tested_runs f pc pc' temps st store debt w steps light le fits has kept held end =
      let d = length temps in
      let pc1 = pc + expression_size f in
      let code = choice_code d pc1 0 1 in
      operand_runs f pc temps st store 4 debt w (pushed context site pc' temps)
      (λ y st. Gives (Value (of_test (not (nat_eq y 0)))) st) steps light le fits
      (has_front linear site.body site.regions pc (expression_code names f d pc) code has) kept
      held
      (λ y mid after steps kept held.
      subst (λ v. F pc1 (temps ++ y ∷ []) mid after 4 (debt + expression_weight f) w w
      (pushed context site pc' temps) (Gives (Value v) mid)) (sym (not_test (nat_eq y 0)))
      (subst (λ p. F pc1 (temps ++ y ∷ []) mid after 4 (debt + expression_weight f) w w
      (pushed context site p temps) (Gives (Value (if nat_eq y 0 then 0 else 1)) mid)) end
      (choice_then setting roomy y 0 1 (nat_eq y 0) temps pc1 mid after 1
      (debt + expression_weight f) w w refl (omega arith) (omega arith)
      (has_after linear site.body site.regions pc (expression_size f)
      (expression_code names f d pc) code (expression_length names f d pc) has) (omega arith)
      kept held)))

  pub and_runs : (e f : Expression) (pc : ℕ) (temps : List ℕ) (st : State) (store : Store)
      → st.steps_left ≤ n → 1 + node_weight (nodes.And e f) + body + 4 ≤ rate
      → NodeFits program z.own info (nodes.And e f)
      → Has pc (node_code names (nodes.And e f) (length temps) pc) → Kn st store
      → st.held ≡ site.held → NodeRuns (nodes.And e f) pc temps st store
  and_runs e f pc temps st store steps light fits has kept held =
      let d = length temps in
      let w = 1 + (expression_weight e + expression_weight f) in
      let debt = 1 + expression_weight e in
      let pc1 = pc + expression_size e in
      let last = pc + (expression_size e + (1 + (expression_size f + 4))) in
      let part = pushed context site last temps in
      let instead = pc1 + 1 + expression_size f + 3 in
      let ce = expression_code names e d pc in
      let cf = expression_code names f d (pc1 + 1) in
      let choice = choice_code d (pc1 + 1 + expression_size f) 0 1 in
      let rest = JumpIfZero (Temporary d) instead ∷ (cf ++ choice) in
      let back = has_after linear site.body site.regions pc (expression_size e) ce rest
      (expression_length names e d pc) has in
      let at_choice = has_after linear site.body site.regions (pc1 + 1) (expression_size f) cf
      choice (expression_length names f d (pc1 + 1)) back.2 in
      let place : pc1 + 1 + expression_size f + 1 + 1 + 1 ≡ instead = omega arith in
      operand_runs e pc temps st store 13 1 w part
      (λ x st. choose (nat_eq x 0) (λ st. Gives (Value 0) st)
      (λ st. with_value (within program n (Eval f) context st)
      (λ y st. Gives (Value (of_test (not (nat_eq y 0)))) st)) st) steps (omega arith)
      (omega arith) fits.0
      (has_front linear site.body site.regions pc ce rest has) kept held
      (λ x mid after steps kept held.
      test_runs x instead pc1 temps mid after 12 debt w part (λ st. Gives (Value 0) st)
      (λ st. with_value (within program n (Eval f) context st)
      (λ y st. Gives (Value (of_test (not (nat_eq y 0)))) st)) (back.0, back.1, tt)
      (number_runs 0 instead last temps mid after 11 debt w (omega arith) (omega arith)
      (has_at linear site.body site.regions (pc1 + 1 + expression_size f + 1 + 1 + 1) instead
      (constant d 0 ∷ []) place at_choice.2.2.2) (omega arith) kept held)
      (more linear rate _ mid (price 4 debt w w) (price 12 debt w w)
      (value_ways part Kn context site) (with_value (within program n (Eval f) context mid)
      (λ y st. Gives (Value (of_test (not (nat_eq y 0)))) st))
      (omega arith, omega arith, omega arith)
      (tested_runs f (pc1 + 1) last temps mid after debt w steps (omega arith) (omega arith)
      fits.1 back.2 kept held (omega arith))))

  pub or_runs : (e f : Expression) (pc : ℕ) (temps : List ℕ) (st : State) (store : Store)
      → st.steps_left ≤ n → 1 + node_weight (nodes.Or e f) + body + 4 ≤ rate
      → NodeFits program z.own info (nodes.Or e f)
      → Has pc (node_code names (nodes.Or e f) (length temps) pc) → Kn st store
      → st.held ≡ site.held → NodeRuns (nodes.Or e f) pc temps st store
  or_runs e f pc temps st store steps light fits has kept held =
      let d = length temps in
      let w = 1 + (expression_weight e + expression_weight f) in
      let debt = 1 + expression_weight e in
      let pc1 = pc + expression_size e in
      let second = pc + expression_size e + 3 in
      let last = pc + (expression_size e + (3 + (expression_size f + 4))) in
      let part = pushed context site last temps in
      let ce = expression_code names e d pc in
      let cf = expression_code names f d second in
      let choice = choice_code d (second + expression_size f) 0 1 in
      let rest = JumpIfZero (Temporary d) second ∷ constant d 1
      ∷ Jump (second + expression_size f + 4) ∷ (cf ++ choice) in
      let back = has_after linear site.body site.regions pc (expression_size e) ce rest
      (expression_length names e d pc) has in
      let place : pc1 + 1 + 1 + 1 ≡ second = omega arith in
      let at_second = has_at linear site.body site.regions (pc1 + 1 + 1 + 1) second (cf ++ choice)
      place back.2.2.2 in
      let end : second + expression_size f + 4 ≡ last = omega arith in
      operand_runs e pc temps st store 13 1 w part
      (λ x st. choose (nat_eq x 0) (λ st. with_value (within program n (Eval f) context st)
      (λ y st. Gives (Value (of_test (not (nat_eq y 0)))) st)) (λ st. Gives (Value 1) st) st)
      steps (omega arith) (omega arith) fits.0
      (has_front linear site.body site.regions pc ce rest has) kept held
      (λ x mid after steps kept held.
      test_runs x second pc1 temps mid after 12 debt w part
      (λ st. with_value (within program n (Eval f) context st)
      (λ y st. Gives (Value (of_test (not (nat_eq y 0)))) st)) (λ st. Gives (Value 1) st)
      (back.0, back.1, tt) (more linear rate _ mid (price 4 debt w w) (price 12 debt w w)
      (value_ways part Kn context site) (with_value (within program n (Eval f) context mid)
      (λ y st. Gives (Value (of_test (not (nat_eq y 0)))) st))
      (omega arith, omega arith, omega arith)
      (tested_runs f second last temps mid after debt w steps (omega arith) (omega arith) fits.1
      at_second kept held end))
      (turn setting roomy (pc1 + 1) (pc1 + 1 + 1) temps (temps ++ 1 ∷ []) mid after 11 debt w w part
      (Gives (Value 1) mid)
      (λ k. constant_turn linear rate context site 1 d (temps ++ 1 ∷ []) (pc1 + 1) temps mid after
      k (omega arith) (back.2.0, back.2.1, tt) (push_put temps 1))
      (turn setting roomy (pc1 + 1 + 1) (second + expression_size f + 4) (temps ++ 1 ∷ [])
      (temps ++ 1 ∷ []) mid after 10 debt w w part (Gives (Value 1) mid)
      (λ k. jump_turn linear rate context site (second + expression_size f + 4) (pc1 + 1 + 1)
      (temps ++ 1 ∷ []) mid after k (back.2.2.0, back.2.2.1, tt)) (here_other setting roomy
      (second + expression_size f + 4) last temps 1 mid after 10 debt w w end
      (omega arith) kept held))))

  pub conditional_runs : (c e f : Expression) (pc : ℕ) (temps : List ℕ) (st : State)
      (store : Store) → st.steps_left ≤ n → 1 + node_weight (nodes.Conditional c e f) + body + 4
      ≤ rate → NodeFits program z.own info (nodes.Conditional c e f)
      → Has pc (node_code names (nodes.Conditional c e f) (length temps) pc) → Kn st store
      → st.held ≡ site.held → NodeRuns (nodes.Conditional c e f) pc temps st store
  conditional_runs c e f pc temps st store steps light fits has kept held =
      let d = length temps in
      let w = 1 + (expression_weight c + expression_weight e + expression_weight f) in
      let debt = 1 + expression_weight c in
      let pc1 = pc + expression_size c in
      let yes = pc1 + 1 in
      let no = yes + expression_size e + 1 in
      let last = pc + (expression_size c + (1 + (expression_size e + (1 + expression_size f)))) in
      let part = pushed context site last temps in
      let cc' = expression_code names c d pc in
      let ce = expression_code names e d yes in
      let cf = expression_code names f d no in
      let rest = JumpIfZero (Temporary d) no ∷ (ce ++ (Jump (no + expression_size f) ∷ cf)) in
      let back = has_after linear site.body site.regions pc (expression_size c) cc' rest
      (expression_length names c d pc) has in
      let at_jump = has_after linear site.body site.regions yes (expression_size e) ce
      (Jump (no + expression_size f) ∷ cf) (expression_length names e d yes) back.2 in
      let end : no + expression_size f ≡ last = omega arith in
      operand_runs c pc temps st store 13 1 w part
      (λ x st. choose (nat_eq x 0) (λ st. within program n (Eval f) context st)
      (λ st. within program n (Eval e) context st) st) steps (omega arith) (omega arith) fits.0
      (has_front linear site.body site.regions pc cc' rest has) kept held
      (λ x mid after steps kept held.
      test_runs x no pc1 temps mid after 12 debt w part
      (λ st. within program n (Eval f) context st) (λ st. within program n (Eval e) context st)
      (back.0, back.1, tt)
      (last_runs f no temps mid after 12 debt w part steps (omega arith) (omega arith) fits.2
      at_jump.2 kept held (λ v mid after steps kept held. here_other setting roomy
      (no + expression_size f) last temps v mid
      after 12 (debt + expression_weight f) w w end (omega arith) kept held))
      (last_runs e yes temps mid after 12 debt w part steps (omega arith) (omega arith) fits.1
      (has_front linear site.body site.regions yes ce (Jump (no + expression_size f) ∷ cf)
      back.2) kept held (λ v mid after steps kept held.
      turn setting roomy (yes + expression_size e) (no + expression_size f) (temps ++ v ∷ [])
      (temps ++ v ∷ []) mid after 11 (debt + expression_weight e) w w part (Gives (Value v) mid)
      (λ k. jump_turn linear rate context site (no + expression_size f) (yes + expression_size e)
      (temps ++ v ∷ []) mid after k (at_jump.0, at_jump.1, tt))
      (here_other setting roomy (no + expression_size f) last temps v mid after 11
      (debt + expression_weight e) w w end (omega arith) kept held))))
