-- Statements, and iterations of loops, after their step.
use Rattle.std.proofs.Common.{◌≡◌, inl, ◌≤◌, ℕ, ◌+◌, List, [], ◌∷◌, refl, sym, arith}
use Rattle.std.specs.Prelude.{nat_eq, Option, Some, None}
use Rattle.lowering_follows.specs.Words.{Expression, Statement, State, Normal, Outcome, Gives, choose, with_value, Eval, Run, ForIteration, DoIteration, optional, for_iteration, do_iteration, within, Temporary, JumpIfZero, Region, Store, LoweringContext, expression_size, discarded_size, condition_size, statement_size, statement_notes, expression_code, expression_weight, optional_weight, statement_weight, ForPlaced, DoPlaced, for_end, do_end}
use Rattle.source_meaning.specs.Statements.{in_loop}
use Rattle.lowering_follows.proofs.Lemmas.{at, conf, Ways, Price, price, joins, more, chosen, Around, around_part, holds_yes}
use Rattle.lowering_expressions.specs.Scope as scopes
use Rattle.lowering_follows.proofs.Places.{has_front, has_after}
use Rattle.lowering_follows.proofs.Lengths.{expression_length}
use Rattle.lowering_follows.proofs.Turns.{jump_turn, test_turn}
use Rattle.lowering_follows.proofs.BodyClaims.{Lands, Inner, jump_part, Surroundings, statement_eval}
use Rattle.lowering_follows.proofs.BodyParts.{Ks, S, G, starts_at, continue_from, separator_turn, here, discard_then, loop_ends}
use Rattle.lowering_follows.proofs.StatementSettings.{StatementSetting}

lands_around : (rs : List Region) (lo hi label : ℕ) → Around rs lo hi → lo ≤ label → label ≤ hi
    → Lands rs label
lands_around [] lo hi label a l h = tt
lands_around (r ∷ rs) lo hi label a l h = let x = a.0 in
    inl (holds_yes r label (omega arith) (omega arith))

-- the body of a loop
inside_loop : (scope : LoweringContext) (rs : List Region)
    (lo hi start again : ℕ) → lo ≤ start → start ≤ again → again ≤ hi
    → Inner scope rs lo hi → Inner (scopes.in_loop hi again scope) rs start again
inside_loop scope rs lo hi start again l m h f = record {
  around = around_part rs lo hi start again l h f.around;
  exit = jump_part rs hi again scope.exit h f.exit;
  loop_end = (h, lands_around rs lo hi hi f.around (omega arith) (omega arith));
  loop_next = (omega arith, lands_around rs lo hi again f.around (omega arith) h);
}

module _ (setting : StatementSetting) (roomy : 4 ≤ setting.rate) where
  open setting use {program, linear, rate, body, n, ih, bih, scope, z, shapes, context, site, base}

  abbrev W : ℕ → Ways
  W = S setting roomy

  abbrev K : State → Store → Type 0
  K = Ks setting roomy

  abbrev C : (pc : ℕ) (temps : List ℕ) (st : State) (store : Store) → Price → (done : ℕ) → Outcome
      → Type 0
  C = G setting roomy

  abbrev Sd : ℕ → Type 0
  Sd notes = Surroundings program linear rate body scope.names z shapes context site base notes

  abbrev In : ℕ → ℕ → Type 0
  In lo hi = Inner scope site.regions lo hi

  -- ---- loops

  for_tail : (c next : Option Expression) (s : Statement) (pc : ℕ) (st : State) (store : Store)
      → st.steps_left ≤ n → 1 + optional_weight c + statement_weight s + optional_weight next +
      body
      + 4 ≤ rate → ForPlaced program linear rate body z.own site.body scope c next s site.regions
      pc
      → In pc (for_end c next s pc) → Sd (statement_notes s) → K st store → st.held ≡ site.held
      → C (pc + condition_size c + statement_size s) [] st store
      (price 3 rate (1 + optional_weight c + statement_weight s + optional_weight next)
      (1 + optional_weight c + statement_weight s + optional_weight next)) (for_end c next s pc)
      (optional (within program n) 0 next context st
      (λ w st. within program n (ForIteration c next s) context st))
  for_tail c next s pc st store steps light has inner standing kept held =
      let wi = 1 + optional_weight c + statement_weight s + optional_weight next in
      let again = pc + condition_size c + statement_size s in
      let end = for_end c next s pc in
      let f : ℕ → State → Outcome = λ w st. within program n (ForIteration c next s) context st in
      continue_from setting roomy again
      (again + 1) [] [] st store store (price 2 0 wi wi) (price 3 rate wi wi) end
      (optional (within program n) 0 next context st f) (omega arith, omega arith, omega arith)
      (λ k. separator_turn setting roomy again [] st store k has.end)
      (discard_then setting roomy next
      0 (statement_notes s) (again + 1) st store (price 1 rate wi wi) (price 2 0 wi wi) end f
      steps (omega arith) (joins (omega arith) (omega arith) (omega arith) (omega arith))
      has.next has.steps standing kept held (λ v mid after steps kept held.
      continue_from setting roomy
      (again + 1 + discarded_size next) pc [] [] mid after after (price 0 0 wi wi)
      (price 1 rate wi wi) end (within program n (ForIteration c next s) context mid)
      (omega arith, omega arith, omega arith)
      (λ k. jump_turn linear rate context site pc (again + 1 + discarded_size next) [] mid after k
      has.repeats)
      (bih.for_run c next s scope z shapes context site base pc mid after steps light has inner
      standing kept held)))

  -- the body, and what comes after it
  for_body : (c next : Option Expression) (s : Statement) (pc : ℕ) (st : State) (store : Store)
      (e : ℕ) → e ≤ 1 → st.steps_left ≤ n → 1 + optional_weight c + statement_weight s
      + optional_weight next + body + 4 ≤ rate
      → ForPlaced program linear rate body z.own site.body scope c next s site.regions pc
      → In pc (for_end c next s pc) → Sd (statement_notes s) → K st store → st.held ≡ site.held
      → C (pc + condition_size c) [] st store
      (price 10 e (1 + optional_weight c + statement_weight s + optional_weight next)
      (1 + optional_weight c + statement_weight s + optional_weight next)) (for_end c next s pc)
      (in_loop (within program n (Run s) context st)
      (λ st. optional (within program n) 0 next context st
      (λ w st. within program n (ForIteration c next s) context st)))
  for_body c next s pc st store e small steps light has inner standing kept held =
      let ws = statement_weight s in
      let wi = 1 + optional_weight c + statement_weight s + optional_weight next in
      let start = pc + condition_size c in
      let again = start + statement_size s in
      let end = for_end c next s pc in
      loop_ends setting roomy
      (at (conf context site start [] st store)) end again st (price 0 0 ws ws)
      (price 3 rate wi wi) (price 10 e wi wi) (within program n (Run s) context st)
      (λ st. optional (within program n) 0 next context st
      (λ w st. within program n (ForIteration c next s) context st))
      (joins (omega arith) (omega arith) (omega arith) (omega arith)) (omega arith)
      (λ mid after low kept held. for_tail c next s pc mid after (omega arith) light has inner
      standing kept held)
      (bih.run s (scopes.in_loop end again scope) z shapes context site base start st store steps
      (omega arith) has.body (inside_loop scope site.regions pc end start again
      (omega arith) (omega arith) (omega arith) inner) standing kept held)

  pub for_runs : (c next : Option Expression) (s : Statement) (pc : ℕ) (st : State)
      (store : Store) → st.steps_left ≤ n → 1 + optional_weight c + statement_weight s
      + optional_weight next + body + 4 ≤ rate
      → ForPlaced program linear rate body z.own site.body scope c next s site.regions pc
      → In pc (for_end c next s pc) → Sd (statement_notes s) → K st store → st.held ≡ site.held
      → C pc [] st store (price 16 1 (1 + optional_weight c + statement_weight s
      + optional_weight next) (1 + optional_weight c + statement_weight s + optional_weight next))
      (for_end c next s pc) (for_iteration (within program n) c next s context st)
  unfolding choose
  for_runs None next s pc st store steps light has inner standing kept held =
      let wi = 1 + 0 + statement_weight s + optional_weight next in
      let end = for_end None next s pc in
      let o = in_loop (within program n (Run s) context st)
      (λ st. optional (within program n) 0 next context st
      (λ w st. within program n (ForIteration None next s) context st)) in
      more linear rate (at (conf context site pc [] st store)) st (price 10 1 wi wi)
      (price 16 1 wi wi) (W end) o (omega arith, omega arith, omega arith)
      (starts_at setting roomy (pc + 0) pc [] st store (price 10 1 wi wi) end o (omega arith)
      (for_body None next s pc st store 1 (omega arith) steps light has inner standing kept
      held))
  for_runs (Some c) next s pc st store steps light has inner standing kept held =
      let wc = expression_weight c in
      let wi = 1 + wc + statement_weight s + optional_weight next in
      let end = for_end (Some c) next s pc in
      let pc1 = pc + expression_size c in
      let start : pc1 + 1 ≡ pc + (expression_size c + 1) = omega arith in
      let code = expression_code scope.names c 0 pc in
      let go : State → Outcome = λ st. in_loop (within program n (Run s) context st)
      (λ st. optional (within program n) 0 next context st
      (λ w st. within program n (ForIteration (Some c) next s) context st)) in
      statement_eval program linear rate body n ih c scope.names z shapes context site base
      (statement_notes s) pc st store (price 15 rate wi wi) (price 16 1 wi wi) (W end)
      (λ v st. choose (nat_eq v 0) (λ st. Gives Normal st) go st) steps (omega arith)
      (joins (omega arith) (omega arith) (omega arith) (omega arith)) has.condition
      (has_front linear site.body site.regions pc code (JumpIfZero (Temporary 0) end ∷ [])
      has.tests) standing kept held
      (λ v mid after steps kept held.
      chosen linear rate (nat_eq v 0) (conf context site pc1 (v ∷ []) mid after)
      (at (conf context site end [] mid after)) (at (conf context site (pc1 + 1) [] mid after))
      (price 10 0 wi wi) (price 15 rate wi wi) (W end) (λ st. Gives Normal st) go mid
      (omega arith, omega arith, omega arith) refl
      (λ k. test_turn linear rate context site end v pc1 [] mid after k
      (has_after linear site.body site.regions pc (expression_size c) code
      (JumpIfZero (Temporary 0) end ∷ []) (expression_length scope.names c 0 pc) has.tests))
      (here setting roomy end end mid after (price 10 0 wi wi) refl (omega arith) kept held)
      (starts_at setting roomy
      (pc + (expression_size c + 1)) (pc1 + 1) [] mid after (price 10 0 wi wi) end (go mid)
      (sym start) (for_body (Some c) next s pc mid after 0 (omega arith) steps light has inner
      standing kept held)))

  do_tail : (s : Statement) (c : Expression) (pc : ℕ) (st : State) (store : Store)
      → st.steps_left ≤ n → 1 + statement_weight s + expression_weight c + body + 4 ≤ rate
      → DoPlaced program linear rate body z.own site.body scope s c site.regions pc
      → In pc (do_end s c pc) → Sd (statement_notes s) → K st store → st.held ≡ site.held
      → C (pc + statement_size s) [] st store
      (price 5 rate (1 + statement_weight s + expression_weight c)
      (1 + statement_weight s + expression_weight c)) (do_end s c pc)
      (with_value (within program n (Eval c) context st)
      (λ v st. choose (nat_eq v 0) (λ st. Gives Normal st)
      (λ st. within program n (DoIteration s c) context st) st))
  do_tail s c pc st store steps light has inner standing kept held =
      let wc = expression_weight c in
      let wi = 1 + statement_weight s + expression_weight c in
      let again = pc + statement_size s in
      let end = do_end s c pc in
      let pc1 = again + 1 + expression_size c in
      let code = expression_code scope.names c 0 (again + 1) in
      let go : State → Outcome = λ st. within program n (DoIteration s c) context st in
      let f : ℕ → State → Outcome = λ v st. choose (nat_eq v 0) (λ st. Gives Normal st) go st in
      continue_from setting roomy again
      (again + 1) [] [] st store store (price 4 0 wi wi) (price 5 rate wi wi) end
      (with_value (within program n (Eval c) context st) f)
      (omega arith, omega arith, omega arith)
      (λ k. separator_turn setting roomy again [] st store k has.end)
      (statement_eval program linear rate body n ih c scope.names z shapes context site base
      (statement_notes s) (again + 1) st store (price 4 rate wi wi) (price 4 0 wi wi) (W end) f
      steps (omega arith)
      (joins (omega arith) (omega arith) (omega arith) (omega arith)) has.condition
      (has_front linear site.body site.regions (again + 1) code
      (JumpIfZero (Temporary 0) end ∷ []) has.tests) standing kept held
      (λ v mid after steps kept held.
      chosen linear rate (nat_eq v 0) (conf context site pc1 (v ∷ []) mid after)
      (at (conf context site end [] mid after)) (at (conf context site (pc1 + 1) [] mid after))
      (price 2 0 wi wi) (price 4 rate wi wi) (W end) (λ st. Gives Normal st) go mid
      (omega arith, omega arith, omega arith) refl
      (λ k. test_turn linear rate context site end v pc1 [] mid after k
      (has_after linear site.body site.regions (again + 1) (expression_size c) code
      (JumpIfZero (Temporary 0) end ∷ []) (expression_length scope.names c 0 (again + 1))
      has.tests)) (here setting roomy end end mid
      after (price 2 0 wi wi) refl (omega arith) kept held) (continue_from setting roomy
      (pc1 + 1) pc [] [] mid after after (price 0 0 wi wi) (price 2 0 wi wi) end (go mid)
      (omega arith, omega arith, omega arith)
      (λ k. jump_turn linear rate context site pc (pc1 + 1) [] mid after k has.repeats)
      (bih.do_run s c scope z shapes context site base pc mid after steps light has inner standing
      kept held))))

  pub do_runs : (s : Statement) (c : Expression) (pc : ℕ) (st : State) (store : Store)
      → st.steps_left ≤ n → 1 + statement_weight s + expression_weight c + body + 4 ≤ rate
      → DoPlaced program linear rate body z.own site.body scope s c site.regions pc
      → In pc (do_end s c pc) → Sd (statement_notes s) → K st store → st.held ≡ site.held
      → C pc [] st store (price 16 1 (1 + statement_weight s + expression_weight c)
      (1 + statement_weight s + expression_weight c)) (do_end s c pc)
      (do_iteration (within program n) s c context st)
  do_runs s c pc st store steps light has inner standing kept held =
      let ws = statement_weight s in
      let wi = 1 + statement_weight s + expression_weight c in
      let again = pc + statement_size s in
      let end = do_end s c pc in
      loop_ends setting roomy
      (at (conf context site pc [] st store)) end again st (price 0 0 ws ws)
      (price 5 rate wi wi) (price 16 1 wi wi) (within program n (Run s) context st)
      (λ st. with_value (within program n (Eval c) context st)
      (λ v st. choose (nat_eq v 0) (λ st. Gives Normal st)
      (λ st. within program n (DoIteration s c) context st) st))
      (joins (omega arith) (omega arith) (omega arith) (omega arith)) (omega arith)
      (λ mid after low kept held. do_tail s c pc mid after (omega arith) light has inner standing
      kept held)
      (bih.run s (scopes.in_loop end again scope) z shapes context site base pc st store steps
      (omega arith) has.body (inside_loop scope site.regions pc end pc again
      (omega arith) (omega arith) (omega arith) inner) standing kept held)
