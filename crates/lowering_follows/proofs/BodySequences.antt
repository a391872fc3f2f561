-- Statements in order.
use Rattle.std.proofs.Common.{◌≡◌, ◌≤◌, ℕ, ◌+◌, List, [], refl, subst, arith}
use Rattle.std.specs.Prelude.{max}
use Rattle.lowering_follows.specs.Words.{Statements, Empty, Then, Program, State, Normal, Outcome, Gives, and_then, Context, Run, all, within, LinearProgram, Store, LoweringContext, statement_size, statements_size, statements_notes, statement_notes, statement_weight, statements_weight, AllPlaced}
use Rattle.lowering_follows.proofs.Lemmas.{at, Site, conf, Ways, Price, price, Claim, joins, then_normal, still, prefix_self}
use Rattle.lowering_follows.proofs.Stores.{Shape}
use Rattle.lowering_follows.proofs.BodyClaims.{Inner, inner_part, statement_ways, Stays, Surroundings, surroundings_less, BodyRuns}

pub max_left : (a b : ℕ) → a ≤ max a b
max_left a b = omega arith

pub max_right : (a b : ℕ) → b ≤ max a b
max_right a b = omega arith

module _ (program : Program) (linear : LinearProgram) (rate body : ℕ) (n : ℕ)
    (bih : BodyRuns program linear rate body n) where
  module _ (scope : LoweringContext) (z : Shape) (shapes : List Shape) (context : Context)
      (site : Site) (base : Store) where
    abbrev Ks : State → Store → Type 0
    Ks = Stays program linear rate body scope.names shapes context base

    abbrev S : ℕ → Ways
    S done = statement_ways program linear rate body scope context site Ks done

    abbrev G : (pc : ℕ) (temps : List ℕ) (st : State) (store : Store) → Price → (done : ℕ) → Outcome
        → Type 0
    G pc temps st store p done out = Claim linear rate (at (conf context site pc temps st store)) st
        p (S done) out

    -- statements in order
    pub all_runs : (ss : Statements) (pc : ℕ) (st : State) (store : Store) → st.steps_left ≤ n
        → statements_weight ss + body + 4 ≤ rate
        → AllPlaced program linear rate body z.own site.body scope ss site.regions pc
        → Inner scope site.regions pc (pc + statements_size ss)
        → Surroundings program linear rate body scope.names z shapes context site base
        (statements_notes ss) → Ks st store → st.held ≡ site.held
        → G pc [] st store (price 0 0 (statements_weight ss) (statements_weight ss))
        (pc + statements_size ss) (all (within program n) ss context st)
    all_runs Empty pc st store steps light has inner standing kept held = subst
        (λ d. G pc [] st store (price 0 0 0 0) d (Gives Normal st)) (omega arith)
        (record {
          store = store;
          fits = kept;
          same = held;
          reaches = still linear rate (at (conf context site pc [] st store))
              (at (conf context site pc [] st store)) st st 0 0 0 refl (omega arith)
              (prefix_self st.events) (λ k. refl);
        })
    all_runs (Then s ss) pc st store steps light has inner standing kept held =
        let a = statement_weight s in
        let b = statements_weight ss in
        let pc1 = pc + statement_size s in
        let end : pc1 + statements_size ss ≡ pc
        + (statement_size s + statements_size ss) = omega arith in
        let done = pc1 + statements_size ss in
        let hi = pc + (statement_size s + statements_size ss) in
        subst (λ d. G pc [] st store (price 0 0 (a + b) (a + b)) d
        (and_then (within program n (Run s) context st)
        (λ st. all (within program n) ss context st))) end
        (then_normal linear rate (at (conf context site pc [] st store))
        (λ st store. at (conf context site pc1 [] st store)) (S done) st (price 0 0 a a)
        (price 0 0 b b) (price 0 0 (a + b) (a + b)) (within program n (Run s) context st)
        (λ st. all (within program n) ss context st)
        (joins (omega arith) (omega arith) (omega arith) (omega arith)) (omega arith)
        (bih.run s scope z shapes context site base pc st store steps (omega arith) has.0
        (inner_part scope site.regions pc hi pc pc1 (omega arith) (omega arith)
        inner)
        (surroundings_less program linear rate body scope.names z shapes context site base
        (max (statement_notes s) (statements_notes ss)) (statement_notes s)
        (max_left (statement_notes s) (statements_notes ss)) standing) kept held)
        (λ mid after low kept held.
        all_runs ss pc1 mid after (omega arith) (omega arith) has.1
        (inner_part scope site.regions pc hi pc1 done (omega arith) (omega arith)
        inner)
        (surroundings_less program linear rate body scope.names z shapes context site base
        (max (statement_notes s) (statements_notes ss)) (statements_notes ss)
        (max_right (statement_notes s) (statements_notes ss)) standing) kept held))
