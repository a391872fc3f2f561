-- Statements, after their step.
use Rattle.std.proofs.Common.{◌≡◌, ◌≤◌, ℕ, ◌+◌, List, [], ◌∷◌, length, refl, sym, subst, arith}
use Rattle.std.specs.Prelude.{◌-◌, max, nat_eq, Option, Some, None}
use Rattle.lowering_follows.specs.Words.{Expression, StackedVariable, Declared, Filter, Statement, Declare, Block, Evaluate, If, IfElse, For, DoWhile, Break, Continue, Leave, TryExcept, TryFinally, Statements, Exception, State, Normal, Returned, Outcome, Gives, choose, and_then, Context, Handler, Run, ForIteration, DoIteration, TryBody, RunFinally, all, optional, declare_at, landing, finally_after, declare_each, reset_pointer, statement, within, Temporary, Jump, JumpIfZero, Region, Store, set_local, LoweringContext, except_names, in_try, in_except, in_guarded, expression_size, discarded_size, declared_size, declared_at_size, all_declared_size, returned_size, statement_size, statements_size, statement_notes, statements_notes, stacked_notes, declared_notes, except_kind, region, expression_code, expression_weight, optional_weight, statement_weight, statements_weight, declared_weight, all_declared_weight, HasAt, reset_code, DeclaredPlaced, AllDeclaredPlaced, Placed, for_end, do_end, Return}
use Rattle.linear_code.specs.declared.program.RegionKind.TheVariants as regions
use Rattle.lowering_follows.proofs.Lemmas.{at, conf, Claim, Ways, Price, price, found, joins, more, then_normal, chosen}
use Rattle.lowering_follows.proofs.Stores.{Alike, below_slot}
use Rattle.lowering_follows.proofs.Places.{has_front, has_after}
use Rattle.lowering_follows.proofs.Lengths.{expression_length}
use Rattle.lowering_follows.proofs.Turns.{constant_turn, jump_turn, test_turn}
use Rattle.lowering_follows.proofs.Environments.{lists_same, same_length}
use Rattle.lowering_follows.proofs.BodyClaims.{Inner, inner_part, statement_ways, Stays, Surroundings, surroundings_less, statement_eval}
use Rattle.lowering_follows.proofs.BodySequences.{max_left, max_right, all_runs}
use Rattle.lowering_follows.proofs.StackPointers.{reset_store, reset_stays, reset_claim}
use Rattle.lowering_follows.proofs.BodyParts.{Ks, S, G, ends_at, continue_from, here, normal_then, discard_then, leaves_by, breaks_by, ends_try, loop_lands, declared_runs}
use Rattle.lowering_follows.proofs.StackedVariables.{stacked_declared}
use Rattle.lowering_follows.proofs.Tries.{inside_except, inside_finally, within_region, noted_stays, surroundings_except, noted_kept, stays_out, surroundings_try, surroundings_guarded, block_claim}
use Rattle.lowering_follows.proofs.TryEnds.{except_ends}
use Rattle.lowering_follows.proofs.FinallyEnds.{finally_ends}
use Rattle.lowering_follows.proofs.StatementSettings.{StatementSetting}

inner_except : (scope : LoweringContext) (rs : List Region) (lo hi : ℕ) → Inner scope rs lo hi
    → Inner (in_except scope) rs lo hi
inner_except scope rs lo hi f = record {
  around = f.around;
  exit = f.exit;
  loop_end = f.loop_end;
  loop_next = f.loop_next;
}

module _ (setting : StatementSetting) (roomy : 4 ≤ setting.rate) where
  open setting use {program, linear, rate, body, n, ih, bih, scope, z, shapes, context, site, base}

  abbrev W : ℕ → Ways
  W = S setting roomy

  abbrev K : State → Store → Type 0
  K = Ks setting roomy

  abbrev C : (pc : ℕ) (temps : List ℕ) (st : State) (store : Store) → Price → (done : ℕ) → Outcome
      → Type 0
  C = G setting roomy

  abbrev Sd : ℕ → Type 0
  Sd notes = Surroundings program linear rate body scope.names z shapes context site base notes

  abbrev In : ℕ → ℕ → Type 0
  In lo hi = Inner scope site.regions lo hi

  part_in : (lo hi lo' hi' : ℕ) → lo ≤ lo' → hi' ≤ hi → In lo hi → In lo' hi'
  part_in lo hi lo' hi' l h f = inner_part scope site.regions lo hi lo' hi' l h f

  fewer : (notes notes' : ℕ) → notes' ≤ notes → Sd notes → Sd notes'
  fewer notes notes' le s = surroundings_less program linear rate body scope.names z shapes
      context site base notes notes' le s

  declares_runs : (ds : List Declared) (pc : ℕ) (st : State) (store : Store) → st.steps_left ≤ n
      → all_declared_weight ds + body + 4 ≤ rate
      → AllDeclaredPlaced program linear rate body z.own site.body scope.names ds site.regions pc
      → In pc (pc + all_declared_size ds) → Sd (declared_notes ds) → K st store → st.held
      ≡ site.held
      → C pc [] st store (price 0 0 (all_declared_weight ds) (all_declared_weight ds))
      (pc + all_declared_size ds) (declare_each (within program n) ds context st)
  declares_runs [] pc st store steps light has inner standing kept held =
      here setting roomy pc (pc + 0) st store (price 0 0 0 0)
      (omega arith) (omega arith) kept held
  declares_runs (d ∷ ds) pc st store steps light has inner standing kept held =
      let a = declared_weight d in
      let b = all_declared_weight ds in
      let pc1 = pc + declared_size d in
      let done = pc1 + all_declared_size ds in
      let hi = pc + (declared_size d + all_declared_size ds) in
      let end : done ≡ hi = omega arith in
      ends_at setting roomy pc [] st
      store (price 0 0 (a + b) (a + b)) done hi
      (and_then (within program n (Run (Declare d)) context st)
      (λ st. declare_each (within program n) ds context st)) end
      (then_normal linear rate (at (conf context site pc [] st store))
      (λ st store. at (conf context site pc1 [] st store)) (W done) st (price 0 0 a a)
      (price 0 0 b b) (price 0 0 (a + b) (a + b)) (within program n (Run (Declare d)) context st)
      (λ st. declare_each (within program n) ds context st)
      (joins (omega arith) (omega arith) (omega arith) (omega arith)) (omega arith)
      (bih.run (Declare d) scope z shapes context site base pc st store steps (omega arith) has.0
      (part_in pc hi pc pc1 (omega arith) (omega arith) inner)
      (fewer (declared_notes (d ∷ ds)) (stacked_notes d.stacked)
      (max_left (stacked_notes d.stacked) (declared_notes ds)) standing) kept held)
      (λ mid after low kept held. declares_runs ds pc1 mid after (omega arith) (omega arith) has.1
      (part_in pc hi pc1 done (omega arith) (omega arith) inner)
      (fewer (declared_notes (d ∷ ds)) (declared_notes ds)
      (max_right (stacked_notes d.stacked) (declared_notes ds)) standing) kept held))

  -- a statement at an earlier place, whose end is another's
  sub_run : (s : Statement) (pc done : ℕ) (st : State) (store : Store) (r : Price)
      (notes lo hi : ℕ) → st.steps_left ≤ n → statement_weight s + body + 4 ≤ rate
      → statement_weight s ≤ r.slack → statement_weight s ≤ r.out → r.extra ≡ 0
      → Placed program linear rate body z.own site.body scope s site.regions pc
      → lo ≤ pc → pc + statement_size s ≤ hi → In lo hi → statement_notes s ≤ notes → Sd notes
      → K st store → st.held ≡ site.held → pc + statement_size s ≡ done
      → C pc [] st store r done (within program n (Run s) context st)
  sub_run s pc done st store r notes lo hi steps light slack out none has l h inner less standing
      kept held e =
      let w = statement_weight s in
      ends_at setting roomy pc [] st
      store r (pc + statement_size s) done (within program n (Run s) context st) e
      (more linear rate (at (conf context site pc [] st store)) st (price 0 0 w w) r
      (W (pc + statement_size s)) (within program n (Run s) context st)
      (omega arith, omega arith, omega arith)
      (bih.run s scope z shapes context site base pc st store steps light has
      (part_in lo hi pc (pc + statement_size s) l h inner)
      (fewer notes (statement_notes s) less standing) kept held))

  -- a branch, and the jump after it
  branch_runs : (s : Statement) (pc label done : ℕ) (st : State) (store : Store) (q notes lo : ℕ)
      → st.steps_left ≤ n → statement_weight s + body + 4 ≤ rate → statement_weight s ≤ q
      → Placed program linear rate body z.own site.body scope s site.regions pc
      → HasAt linear site.body site.regions (pc + statement_size s) (Jump label ∷ [])
      → lo ≤ pc → pc + statement_size s ≤ done → In lo done → statement_notes s ≤ notes
      → Sd notes → K st store → st.held ≡ site.held → label ≡ done
      → C pc [] st store (price 2 0 q q) done (within program n (Run s) context st)
  branch_runs s pc label done st store q notes lo steps light slack has jumps l h inner less
      standing kept held e =
      let w = statement_weight s in
      let jump = pc + statement_size s in
      normal_then program linear rate body (at (conf context site pc [] st store))
      (λ st store. at (conf context site jump [] st store)) (W done) st (price 0 0 w w)
      (price 1 0 0 0) (price 2 0 q q) (within program n (Run s) context st)
      (joins (omega arith) (omega arith) (omega arith) (omega arith)) (omega arith)
      (sub_run s pc jump st store (price 0 0 w w) notes lo done steps light (omega arith)
      (omega arith) refl has l h inner less standing kept held refl)
      (λ st store low kept held.
      continue_from setting roomy jump
      label [] [] st store store (price 0 0 0 0) (price 1 0 0 0) done (Gives Normal st)
      (omega arith, omega arith, omega arith)
      (λ k. jump_turn linear rate context site label jump [] st store k jumps)
      (here setting roomy label done st store (price 0 0 0 0) e (omega arith) kept held))

  return_runs : (e : Option Expression) (notes pc : ℕ) (st : State) (store : Store)
      → st.steps_left ≤ n → 1 + optional_weight e + body + 4 ≤ rate
      → Placed program linear rate body z.own site.body scope (Return e) site.regions pc
      → In pc (pc + (returned_size e + 2)) → Sd notes → K st store → st.held ≡ site.held
      → C pc [] st store (price 16 1 (1 + optional_weight e) (1 + optional_weight e))
      (pc + (returned_size e + 2)) (optional (within program n) 0 e context st
      (λ v st. Gives (Returned v) st))
  return_runs None notes pc st store steps light has inner standing kept held =
      continue_from setting roomy pc
      (pc + 1) [] (0 ∷ []) st store store (price 2 0 0 0) (price 16 1 1 1) (pc + (1 + 2))
      (Gives (Returned 0) st) (omega arith, omega arith, omega arith)
      (λ k. constant_turn linear rate context site 0 0 (0 ∷ []) pc [] st store k (omega arith)
      has.computes refl)
      (leaves_by setting roomy
      scope.exit (pc + 1) 0 st store (price 2 0 0 0) (omega arith) (omega arith) has.leads
      has.returns kept held)
  return_runs (Some e) notes pc st store steps light has inner standing kept held =
      let w = expression_weight e in
      let done = pc + (expression_size e + 2) in
      statement_eval program linear rate body n ih e scope.names z shapes context site base notes
      pc st store (price 2 0 0 0) (price 16 1 (1 + w) (1 + w)) (W done)
      (λ v st. Gives (Returned v) st) steps (omega arith)
      (joins (omega arith) (omega arith) (omega arith) (omega arith)) has.value has.computes
      standing kept held
      (λ v mid after steps kept held. leaves_by setting roomy scope.exit
      (pc + expression_size e) v mid after (price 2 0 0 0)
      (omega arith) (omega arith) has.leads has.returns kept held)

  except_runs : (ss : Statements) (filter : Filter) (block : Statements) (pc : ℕ) (st : State)
      (store : Store) → st.steps_left ≤ n → statement_weight (TryExcept ss filter block) + body +
      4
      ≤ rate → Placed program linear rate body z.own site.body scope (TryExcept ss filter block)
      site.regions pc
      → In pc (pc + statement_size (TryExcept ss filter block))
      → Sd (statement_notes (TryExcept ss filter block)) → K st store → st.held ≡ site.held
      → C pc [] st store (price 16 1 (statement_weight (TryExcept ss filter block))
      (statement_weight (TryExcept ss filter block)))
      (pc + statement_size (TryExcept ss filter block))
      (statement program (within program n) (TryExcept ss filter block) context st)
  except_runs ss filter block pc st store steps light has inner standing kept held =
      let x = 1 + statements_weight ss in
      let y = statements_weight block in
      let w = statement_weight (TryExcept ss filter block) in
      let pcj = pc + statements_size ss in
      let target = pcj + 1 in
      let done = target + 2 + statements_size block in
      let hi = pc + statement_size (TryExcept ss filter block) in
      let end : done ≡ hi = omega arith in
      let notes = statement_notes (TryExcept ss filter block) in
      let own : Handler = record {
        filter = filter;
        activation = context.activation;
        abnormal = context.abnormal;
      } in
      let within_it : Context = record context { handlers = own ∷ context.handlers } in
      let inside = within_region (region pc target (except_kind filter target)) site in
      let body_out = within program n (TryBody ss) within_it st in
      let go : Exception → State → Outcome = λ exc st. all (within program n) block
      (record context { exception = exc })
      (reset_pointer context.data_part context.activation st) in
      let here_surrounded = fewer notes (1 + statements_notes block)
      (max_right (statements_notes ss) (1 + statements_notes block)) standing in
      let o : ℕ → Outcome = λ h. landing (length context.handlers) h body_out go in
      subst (λ h. C pc [] st store (price 16 1 w w) hi (o h)) (sym held)
      (ends_at setting roomy pc [] st store (price 16 1 w w) done hi (o site.held) end
      (more linear rate (at (conf context site pc [] st store)) st (price 3 0 (x + y) (x + y))
      (price 16 1 w w) (W done) (o site.held) (omega arith, omega arith, omega arith)
      (except_ends program linear rate body filter pc target hi (omega arith) (omega arith)
      context site K done x y pc scope.names.free scope.names scope z shapes base notes
      (at (conf context site pc [] st store)) st pcj body_out go inner
      (same_length program linear rate body (below_slot context.activation scope.names.free)
      shapes base context.handlers (found linear rate context site) standing.env.handlers)
      has.end (has.landing.0, has.landing.1, tt) (λ exc mid after low kept held.
      let base' = set_local after context.activation scope.names.free exc.code in
      let names' = except_names scope.names in
      let context' : Context = record context { exception = exc } in
      let stays = noted_stays program linear rate body scope.names z shapes context site base
      (1 + statements_notes block) exc.code after here_surrounded kept.1 in
      let k = context.activation in
      let reset = reset_pointer context.data_part k mid in
      let store' = reset_store context.data_part k base' in
      let first_pc = target + 1 + 1 in
      let e_pc : target + 2 ≡ first_pc = omega arith in
      block_claim program linear rate body (at (conf context site (target + 1) [] mid base')) mid
      (price 1 0 y y) scope context context.handlers exc site
      (Stays program linear rate body names' shapes context' base') K done (go exc mid)
      (stays_out program linear rate body scope.names names' shapes context base base' refl stays)
      (reset_claim program linear rate body context' site context.data_part (target + 1) mid base'
      (subst (λ part. HasAt linear site.body site.regions (target + 1) (reset_code part ∷ []))
      standing.part has.landing.2)
      (price 0 0 y y) (price 1 0 y y) (statement_ways program linear rate body (in_except scope)
      context' site (Stays program linear rate body names' shapes context' base') done)
      (go exc mid) (omega arith, omega arith, omega arith)
      (subst (λ q. Claim linear rate (at (conf context' site q [] reset store')) reset
      (price 0 0 y y) (statement_ways program linear rate body (in_except scope) context' site
      (Stays program linear rate body names' shapes context' base') done) (go exc mid)) e_pc
      (all_runs program linear rate body n bih (in_except scope) z shapes context' site base'
      block (target + 2) reset store' (omega arith) (omega arith) has.block
      (inner_except scope site.regions (target + 2) done
      (part_in pc hi (target + 2) done (omega arith) (omega arith) inner))
      (surroundings_except program linear rate body scope.names z shapes context site base
      (statements_notes block) exc mid after here_surrounded kept)
      (reset_stays program linear rate body names' shapes context' base' z
      context.data_part mid base' standing.env.shape standing.base_fits
      (noted_kept program linear rate body scope.names names' z shapes context base exc.code mid
      after refl standing.env.shape standing.past kept)) held)))) (λ e store k f m fr fn v. (
        subst (λ fs. Alike shapes f.memory fs store) (sym fr)
            (subst (λ mm. Alike shapes mm e.frames store) (sym m) k.0),
        k.1,
        lists_same program linear rate body shapes e.functions f.functions e.vectored
            f.vectored store.vectored fn v k.2,
      )) (bih.try_run ss (in_try done scope) z shapes within_it inside base pc st store steps
      (omega arith) has.body (inside_except scope filter target done site.regions pc hi pcj
      (omega arith) (omega arith) inner)
      (surroundings_try program linear rate body filter scope.names z shapes context site base pc
      target (statements_notes ss) has.filter
      (fewer notes (statements_notes ss) (max_left (statements_notes ss)
      (1 + statements_notes block)) standing)) kept held))))

  guarded_runs : (ss : Statements) (k : ℕ) (last : Statements) (pc : ℕ) (st : State)
      (store : Store) → st.steps_left ≤ n → statement_weight (TryFinally ss k last) + body + 4
      ≤ rate → Placed program linear rate body z.own site.body scope (TryFinally ss k last)
      site.regions pc
      → In pc (pc + statement_size (TryFinally ss k last))
      → Sd (statement_notes (TryFinally ss k last)) → K st store → st.held ≡ site.held
      → C pc [] st store (price 16 1 (statement_weight (TryFinally ss k last))
      (statement_weight (TryFinally ss k last))) (pc + statement_size (TryFinally ss k last))
      (statement program (within program n) (TryFinally ss k last) context st)
  guarded_runs ss k last pc st store steps light has inner standing kept held =
      let x = 1 + statements_weight ss in
      let y = 1 + statements_weight last in
      let w = statement_weight (TryFinally ss k last) in
      let e0 = pc + statements_size ss in
      let done = e0 + 1 + 1 + 1 in
      let hi = pc + statement_size (TryFinally ss k last) in
      let end : done ≡ hi = omega arith in
      let notes = statement_notes (TryFinally ss k last) in
      let inside = within_region (region pc (e0 + 1) (regions.Finally (k - 1))) site in
      let body_out = within program n (TryBody ss) context st in
      let o = finally_after body_out (λ flag st. within program n (RunFinally k last flag) context
      st) in
      ends_at setting roomy pc [] st
      store (price 16 1 w w) done hi o end
      (more linear rate (at (conf context site pc [] st store)) st (price 3 0 (x + y) (x + y))
      (price 16 1 w w) (W done) o (omega arith, omega arith, omega arith)
      (finally_ends program linear rate body n bih k last pc e0 hi (omega arith) (omega arith)
      scope z shapes context site base has.block (fewer notes (1 + statements_notes last)
      (max_right (statements_notes ss) (1 + statements_notes last)) standing) (omega arith)
      pc x (at (conf context site pc [] st store)) st body_out steps inner has.end has.calls
      (bih.try_run ss (in_guarded e0 scope) z shapes context inside base pc st store steps
      (omega arith) has.body (inside_finally scope (k - 1) (e0 + 1) e0 site.regions pc hi e0
      (omega arith) (omega arith) inner)
      (surroundings_guarded program linear rate body scope.names z shapes context site base pc
      (e0 + 1) (k - 1) (statements_notes ss)
      (fewer notes (statements_notes ss) (max_left (statements_notes ss)
      (1 + statements_notes last)) standing)) kept held)))

  declares_at : (stacked : Option StackedVariable) (x : ℕ) (value : Option Expression) (pc : ℕ)
      (st : State) (store : Store) → st.steps_left ≤ n
      → 1 + optional_weight value + body + 4 ≤ rate
      → DeclaredPlaced program linear rate body z.own site.body scope.names
      (record { local = x; stacked = stacked; value = value }) site.regions pc
      → Sd (stacked_notes stacked) → K st store → st.held ≡ site.held
      → C pc [] st store (price 16 1 (1 + optional_weight value) (1 + optional_weight value))
      (pc + declared_at_size stacked value)
      (declare_at program (within program n) stacked x value context st)
  declares_at None x value pc st store steps light has standing kept held =
      declared_runs setting roomy x value 0 pc st store steps
      light has standing kept held
  declares_at (Some v) x value pc st store steps light has standing kept held =
      stacked_declared setting roomy v
      v.elements value pc st store steps light has.1 has.2.0 has.2.1 has.3 standing kept held

  pub statement_runs : (s : Statement) (pc : ℕ) (st : State) (store : Store) → st.steps_left ≤ n
      → statement_weight s + body + 4 ≤ rate → Placed program linear rate body z.own site.body
      scope
      s site.regions pc → In pc (pc + statement_size s) → Sd (statement_notes s) → K st store
      → st.held ≡ site.held
      → C pc [] st store (price 16 1 (statement_weight s) (statement_weight s))
      (pc + statement_size s) (statement program (within program n) s context st)
  statement_runs (Declare d) pc st store steps light has inner standing kept held =
      declares_at d.stacked d.local d.value pc st store steps light has standing kept held
  statement_runs (Block ss) pc st store steps light has inner standing kept held =
      let w = statements_weight ss in
      more linear rate (at (conf context site pc [] st store)) st (price 0 0 w w)
      (price 16 1 (1 + w) (1 + w)) (W (pc + statements_size ss))
      (all (within program n) ss context st) (omega arith, omega arith, omega arith)
      (all_runs program linear rate body n bih scope z shapes context site base ss pc st store
      steps (omega arith) has inner standing kept held)
  statement_runs (Evaluate e) pc st store steps light has inner standing kept held =
      let w = optional_weight e in
      let done = pc + discarded_size e in
      discard_then setting roomy e 0 0
      pc st store (price 0 0 0 0) (price 16 1 (1 + w) (1 + w)) done (λ v st. Gives Normal st)
      steps (omega arith) (joins (omega arith) (omega arith) (omega arith) (omega arith)) has.0
      has.1 standing kept held
      (λ v mid after steps kept held. here setting roomy done done mid after (price 0 0 0 0) refl
      (omega arith) kept held)
  statement_runs (If c s) pc st store steps light has inner standing kept held =
      let wc = expression_weight c in
      let ws = statement_weight s in
      let w = 1 + wc + ws in
      let pc1 = pc + expression_size c in
      let label = pc1 + 1 + statement_size s in
      let done = pc + (expression_size c + (1 + statement_size s)) in
      let end : label ≡ done = omega arith in
      let code = expression_code scope.names c 0 pc in
      let go : State → Outcome = λ st. within program n (Run s) context st in
      statement_eval program linear rate body n ih c scope.names z shapes context site base
      (statement_notes s) pc st store (price 2 0 ws ws) (price 16 1 w w) (W done)
      (λ v st. choose (nat_eq v 0) (λ st. Gives Normal st) go st) steps (omega arith)
      (joins (omega arith) (omega arith) (omega arith) (omega arith)) has.0
      (has_front linear site.body site.regions pc code (JumpIfZero (Temporary 0) label ∷ [])
      has.1) standing kept held
      (λ v mid after steps kept held.
      chosen linear rate (nat_eq v 0) (conf context site pc1 (v ∷ []) mid after)
      (at (conf context site label [] mid after))
      (at (conf context site (pc1 + 1) [] mid after)) (price 1 0 ws ws) (price 2 0 ws ws)
      (W done) (λ st. Gives Normal st) go mid (omega arith, omega arith, omega arith) refl
      (λ k. test_turn linear rate context site label v pc1 [] mid after k
      (has_after linear site.body site.regions pc (expression_size c) code
      (JumpIfZero (Temporary 0) label ∷ []) (expression_length scope.names c 0 pc) has.1))
      (here setting roomy label done mid after (price 1 0 ws ws) end (omega arith) kept held)
      (sub_run s (pc1 + 1) done mid after (price 1 0 ws ws) (statement_notes s) pc done steps
      (omega arith) (omega arith) (omega arith) refl has.2 (omega arith) (omega arith) inner
      (omega arith) standing kept held end))
  statement_runs (IfElse c s t) pc st store steps light has inner standing kept held =
      let wc = expression_weight c in
      let ws = statement_weight s in
      let wt = statement_weight t in
      let w = 1 + wc + ws + wt in
      let notes = max (statement_notes s) (statement_notes t) in
      let pc1 = pc + expression_size c in
      let then = pc1 + 1 in
      let otherwise = then + statement_size s + 1 in
      let label = otherwise + statement_size t + 1 in
      let done = pc + statement_size (IfElse c s t) in
      let end : label ≡ done = omega arith in
      let code = expression_code scope.names c 0 pc in
      let yes : State → Outcome = λ st. within program n (Run s) context st in
      let no : State → Outcome = λ st. within program n (Run t) context st in
      let q = ws + wt in
      statement_eval program linear rate body n ih c scope.names z shapes context site base notes
      pc st store (price 3 0 q q) (price 16 1 w w) (W done)
      (λ v st. choose (nat_eq v 0) no yes st) steps (omega arith)
      (joins (omega arith) (omega arith) (omega arith) (omega arith)) has.condition
      (has_front linear site.body site.regions pc code (JumpIfZero (Temporary 0) otherwise ∷ [])
      has.test) standing kept held
      (λ v mid after steps kept held.
      chosen linear rate (nat_eq v 0) (conf context site pc1 (v ∷ []) mid after)
      (at (conf context site otherwise [] mid after)) (at (conf context site then [] mid after))
      (price 2 0 q q) (price 3 0 q q) (W done) no yes mid
      (omega arith, omega arith, omega arith) refl
      (λ k. test_turn linear rate context site otherwise v pc1 [] mid after k
      (has_after linear site.body site.regions pc (expression_size c) code
      (JumpIfZero (Temporary 0) otherwise ∷ []) (expression_length scope.names c 0 pc)
      has.test))
      (branch_runs t otherwise label done mid after q notes pc steps (omega arith) (omega arith)
      has.no has.joins (omega arith) (omega arith) inner
      (max_right (statement_notes s) (statement_notes t)) standing kept held end)
      (branch_runs s then label done mid after q notes pc steps (omega arith) (omega arith)
      has.yes has.skip (omega arith) (omega arith) inner
      (max_left (statement_notes s) (statement_notes t)) standing kept held end))
  statement_runs (For ds first c next s) pc st store steps light has inner standing kept held =
      let wd = all_declared_weight ds in
      let wf = optional_weight first in
      let wi = 1 + optional_weight c + statement_weight s + optional_weight next in
      let w = 2 + wd + wf + optional_weight c + statement_weight s + optional_weight next in
      let begin = pc + all_declared_size ds in
      let iteration = begin + discarded_size first in
      let wl = wd + (wf + wi) in
      let last = for_end c next s iteration in
      let hi = pc + statement_size (For ds first c next s) in
      let end : last + 1 ≡ hi = omega arith in
      let f : ℕ → State → Outcome = λ v st. within program n (ForIteration c next s) context st in
      let g : State → Outcome = λ st. optional (within program n) 0 first context st f in
      let notes = statement_notes (For ds first c next s) in
      let body_standing = fewer notes (statement_notes s)
      (max_right (declared_notes ds) (statement_notes s)) standing in
      loop_lands setting roomy
      (at (conf context site pc [] st store)) last hi st wl w
      (and_then (declare_each (within program n) ds context st) g) (omega arith) end
      has.iterations.lands
      (then_normal linear rate (at (conf context site pc [] st store))
      (λ st store. at (conf context site begin [] st store)) (W last) st (price 0 0 wd wd)
      (price 1 0 (wf + wi) (wf + wi)) (price 1 0 wl wl)
      (declare_each (within program n) ds context st) g
      (joins (omega arith) (omega arith) (omega arith) (omega arith)) (omega arith)
      (declares_runs ds pc st store steps (omega arith) has.declared
      (part_in pc hi pc begin (omega arith) (omega arith) inner)
      (fewer notes (declared_notes ds) (max_left (declared_notes ds) (statement_notes s))
      standing) kept held) (λ mid after low kept held.
      discard_then setting roomy first
      0 (statement_notes s) begin mid after (price 0 0 wi wi) (price 1 0 (wf + wi) (wf + wi))
      last f (omega arith) (omega arith) (joins (omega arith) (omega arith) (omega arith)
      (omega arith)) has.first has.begins body_standing kept held
      (λ v mid after steps kept held. bih.for_run c next s scope z shapes context site base
      iteration mid after steps (omega arith) has.iterations
      (part_in pc hi iteration last (omega arith) (omega arith) inner) body_standing kept held)))
  statement_runs (DoWhile s c) pc st store steps light has inner standing kept held =
      let wi = 1 + statement_weight s + expression_weight c in
      let w = 2 + statement_weight s + expression_weight c in
      let last = do_end s c pc in
      let hi = pc + statement_size (DoWhile s c) in
      let end : last + 1 ≡ hi = omega arith in
      loop_lands setting roomy
      (at (conf context site pc [] st store)) last hi st wi w
      (within program n (DoIteration s c) context st) (omega arith) end has.lands
      (more linear rate (at (conf context site pc [] st store)) st (price 0 0 wi wi)
      (price 1 0 wi wi) (W last) (within program n (DoIteration s c) context st)
      (omega arith, omega arith, omega arith)
      (bih.do_run s c scope z shapes context site base pc st store steps (omega arith) has
      (part_in pc hi pc last (omega arith) (omega arith) inner) standing kept held))
  statement_runs (Return e) pc st store steps light has inner standing kept held = return_runs e 0
      pc st store steps light has inner standing kept held
  statement_runs Break pc st store steps light has inner standing kept held =
      breaks_by setting roomy scope.loop_end pc st store
      (price 16 1 1 1) (omega arith) (omega arith) has.0 has.1 kept held
  statement_runs Continue pc st store steps light has inner standing kept held =
      breaks_by setting roomy scope.loop_next pc st store
      (price 16 1 1 1) (omega arith) (omega arith) has.0 has.1 kept held
  statement_runs Leave pc st store steps light has inner standing kept held =
      ends_try setting roomy scope.leave pc st store
      (price 16 1 1 1) (omega arith) (omega arith) has.0 has.1 kept held
  statement_runs (TryExcept ss filter block) pc st store steps light has inner standing kept
      held =
      except_runs ss filter block pc st store steps light has inner standing kept held
  statement_runs (TryFinally ss k last) pc st store steps light has inner standing kept held =
      guarded_runs ss k last pc st store steps light has inner standing kept held
