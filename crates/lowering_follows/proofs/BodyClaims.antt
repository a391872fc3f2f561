-- What is claimed of statements: where they lead, what is around them, and which stores there may
-- be.
use Rattle.std.proofs.Common.{◌≡◌, ◌⊎◌, inl, inr, ◌<◌, ◌≤◌, ℕ, ◌+◌, List, [], ◌∷◌, length, refl, ◌∙◌, arith}
use Rattle.std.proofs.lemmas.Bool.{or_left}
use Rattle.std.specs.Prelude.{◌-◌, Bool, true, false, Option, Some, None}
use Rattle.lowering_follows.specs.Words.{Expression, Statement, Statements, Program, State, Outcome, with_value, Context, DataPart, Eval, Run, ForIteration, DoIteration, TryBody, RunFinally, no_exception, within, Region, LinearProgram, FuncletBody, Item, Store, Configuration, Seen, pick, deeper, holds, leads_to, stops, begin_finally, unwind_body, arrive, leave_region, end_finally, Names, LoweringContext, OfFilter, Nowhere, Jumps, expression_size, statement_size, statements_size, statement_notes, statements_notes, expression_code, ExpressionFits, expression_weight, optional_weight, statement_weight, statements_weight, HasAt, Placed, AllPlaced, ForPlaced, DoPlaced, FinallyPlaced, for_end, do_end}
use Rattle.linear_machine.specs.Frames.{Next}
use Rattle.lowering_expressions.specs.declared.scope.Way.TheVariants.{Unwinds}
use Rattle.linear_machine.specs.Frames as machine
use Rattle.lowering_follows.proofs.Lemmas.{at, Site, conf, Way, Never, To, Out, Ways, Price, price, Join, Claim, value_ways, normal_ways, then_value, claim_kept, Around, around_part, IsExcept, except_left, lands}
use Rattle.linear_machine.proofs.Stretch.{Kept, unwound}
use Rattle.lowering_expressions.specs.declared.scope.Way as jumps
use Rattle.lowering_follows.proofs.Stores.{Shape, NotesKept, everywhere, below_slot, kept_itself, kept_through, kept_fewer}
use Rattle.lowering_follows.proofs.Environments.{KeptFrom, Env, env_later, env_among}
use Rattle.lowering_follows.proofs.TaskClaims.{pushed, Within, Runs}
use Rattle.lowering_follows.proofs.Raises.{IsFunclet}

-- ---- ways out

-- an unwinding that begins in these regions comes to this place of their body
abbrev pub Lands : List Region → ℕ → Type 0
Lands [] label = Unit {0}
Lands (r ∷ rs) label = (holds label r ≡ true) ⊎ (IsExcept r.kind r.end × Lands rs label)

-- the way leads after this place
abbrev pub JumpFits : List Region → ℕ → jumps.Way → Type 0
JumpFits rs hi Nowhere = Unit {0}
JumpFits rs hi (Jumps label) = (hi ≤ label) × Lands rs label
JumpFits rs hi (Unwinds label) = hi ≤ label

pub jump_part : (rs : List Region) (hi hi' : ℕ) (way : jumps.Way) → hi' ≤ hi → JumpFits rs hi way
    → JumpFits rs hi' way
jump_part rs hi hi' Nowhere le f = tt
jump_part rs hi hi' (Jumps label) le f = let a = f.0 in (omega arith, f.1)
jump_part rs hi hi' (Unwinds label) le f = omega arith

-- a part of a body is inside its regions, and its ways out lead outside
pub record Inner (scope : LoweringContext) (rs : List Region) (lo hi : ℕ) : Type 0 where
  pub around : Around rs lo hi
  pub exit : JumpFits rs hi scope.exit
  pub loop_end : JumpFits rs hi scope.loop_end
  pub loop_next : JumpFits rs hi scope.loop_next

pub inner_part : (scope : LoweringContext) (rs : List Region) (lo hi lo' hi' : ℕ) → lo ≤ lo'
    → hi' ≤ hi → Inner scope rs lo hi → Inner scope rs lo' hi'
inner_part scope rs lo hi lo' hi' l h f = record {
  around = around_part rs lo hi lo' hi' l h f.around;
  exit = jump_part rs hi hi' scope.exit h f.exit;
  loop_end = jump_part rs hi hi' scope.loop_end h f.loop_end;
  loop_next = jump_part rs hi hi' scope.loop_next h f.loop_next;
}

either_way : (b : Bool) (x y : Seen) → y ≡ x → pick b x y ≡ x
unfolding pick
either_way true x y e = refl
either_way false x y e = e

pub comes_there : (linear : LinearProgram) (next : Next) (target : machine.Target)
    (out : Store → Seen) (rs : List Region) (c : Configuration) → target.depth ≡ length c.below
    → Lands rs target.label
    → unwind_body linear next target out rs c ≡ arrive target target.code next c
comes_there linear next target out [] c d l = lands linear next target out [] c d tt
comes_there linear next target out (r ∷ rs) c d (inl h) = lands linear next target out (r ∷ rs) c d
    (or_left (holds target.label r) (leads_to r.kind target.label) h)
comes_there linear next target out (r ∷ rs) c d (inr p) =
    either_way (stops target r (length c.below)) (arrive target target.code next c)
    (leave_region linear next target r.kind rs (unwind_body linear next target out rs c) c)
    (except_left linear next target r.kind r.end rs (unwind_body linear next target out rs c) c p.0
    ∙ comes_there linear next target out rs c d p.1)

-- an unwinding within a body
abbrev pub own_target : Site → ℕ → machine.Target
own_target site label = record {
  depth = length site.below;
  label = label;
  code = None;
  held = site.held;
}

-- a `__finally` block as a body of its own
abbrev pub finally_site : ℕ → List Item → ℕ → Site
finally_site j below held = record {
  body = FuncletBody j;
  regions = [];
  below = below;
  exception = no_exception;
  held = held + 2;
}

module _ (program : Program) (linear : LinearProgram) (rate body : ℕ) where
  abbrev pub exit_way : Context → Site → jumps.Way → ℕ → Way
  exit_way context site Nowhere v = Never
  exit_way context site (Jumps label) v =
      To (λ st store. at (conf context site label (v ∷ []) st store))
  exit_way context site (Unwinds label) v = Out
      (λ st store pc. unwound linear rate context site (own_target site label) (v ∷ []) st store pc)

  abbrev pub jump_way : Context → Site → jumps.Way → Way
  jump_way context site Nowhere = Never
  jump_way context site (Jumps label) = To (λ st store. at (conf context site label [] st store))
  jump_way context site (Unwinds label) = Out
      (λ st store pc. unwound linear rate context site (own_target site label) [] st store pc)

  abbrev pub leave_way : Context → Site → Option ℕ → Way
  leave_way context site None = Never
  leave_way context site (Some label) = To (λ st store. at (conf context site label [] st store))

  abbrev pub statement_ways : LoweringContext → Context → Site → Kept → ℕ → Ways
  statement_ways scope context site kept done = record {
    context = context;
    site = site;
    held = site.held;
    kept = kept;
    value = λ x. Never;
    normal = To (λ st store. at (conf context site done [] st store));
    returned = exit_way context site scope.exit;
    broke = jump_way context site scope.loop_end;
    again = jump_way context site scope.loop_next;
    left = leave_way context site scope.leave;
  }

  -- the notes of blocks around stay
  abbrev pub Stays : Names → List Shape → Context → Store → Kept
  Stays names shapes context base = KeptFrom program linear rate body
      (below_slot context.activation names.free) shapes base

  -- the base of a part of the data stack is a local of the source
  abbrev pub BaseFits : ℕ → Option DataPart → Type 0
  BaseFits own None = Unit {0}
  BaseFits own (Some part) = part.base < own

  -- what is around statements, with room for so many codes and flags
  pub record Surroundings (names : Names) (z : Shape) (shapes : List Shape) (context : Context)
      (site : Site) (base : Store) (notes : ℕ) : Type 0 where
    pub env : Env program linear rate body (below_slot context.activation names.free) names false z
        shapes context site base
    pub past : z.own ≤ names.free
    pub room : names.free + notes ≤ z.all
    pub plain : names.exception ≡ OfFilter → ⊥
    pub part : names.part ≡ context.data_part
    pub base_fits : BaseFits z.own context.data_part
    pub globals : linear.globals ≡ program.globals

  pub surroundings_less : (names : Names) (z : Shape) (shapes : List Shape) (context : Context)
      (site : Site) (base : Store) (notes notes' : ℕ) → notes' ≤ notes
      → Surroundings names z shapes context site base notes
      → Surroundings names z shapes context site base notes'
  surroundings_less names z shapes context site base notes notes' le s = let r = s.room in
      record {
        env = s.env;
        past = s.past;
        room = omega arith;
        plain = s.plain;
        part = s.part;
        base_fits = s.base_fits;
        globals = s.globals;
      }

  -- what is claimed of each kind of task of statements, inside at most n others
  pub record BodyRuns (n : ℕ) : Type 0 where
    pub run : (s : Statement) (scope : LoweringContext) (z : Shape) (shapes : List Shape)
        (context : Context) (site : Site) (base : Store) (pc : ℕ) (st : State) (store : Store)
        → st.steps_left ≤ n → statement_weight s + body + 4 ≤ rate
        → Placed program linear rate body z.own site.body scope s site.regions pc
        → Inner scope site.regions pc (pc + statement_size s)
        → Surroundings scope.names z shapes context site base (statement_notes s)
        → Stays scope.names shapes context base st store → st.held ≡ site.held
        → Claim linear rate (at (conf context site pc [] st store)) st
        (price 0 0 (statement_weight s) (statement_weight s))
        (statement_ways scope context site (Stays scope.names shapes context base)
        (pc + statement_size s)) (within program n (Run s) context st)
    pub for_run : (c next : Option Expression) (s : Statement) (scope : LoweringContext) (z : Shape)
        (shapes : List Shape) (context : Context) (site : Site) (base : Store) (pc : ℕ) (st : State)
        (store : Store)
        → st.steps_left ≤ n → 1 + optional_weight c + statement_weight s + optional_weight next
        + body + 4 ≤ rate → ForPlaced program linear rate body z.own site.body scope c next s
        site.regions pc → Inner scope site.regions pc (for_end c next s pc)
        → Surroundings scope.names z shapes context site base (statement_notes s)
        → Stays scope.names shapes context base st store → st.held ≡ site.held
        → Claim linear rate (at (conf context site pc [] st store)) st
        (price 0 0 (1 + optional_weight c + statement_weight s + optional_weight next)
        (1 + optional_weight c + statement_weight s + optional_weight next))
        (statement_ways scope context site (Stays scope.names shapes context base)
        (for_end c next s pc)) (within program n (ForIteration c next s) context st)
    pub do_run : (s : Statement) (c : Expression) (scope : LoweringContext) (z : Shape)
        (shapes : List Shape) (context : Context) (site : Site) (base : Store) (pc : ℕ) (st : State)
        (store : Store)
        → st.steps_left ≤ n → 1 + statement_weight s + expression_weight c + body + 4 ≤ rate
        → DoPlaced program linear rate body z.own site.body scope s c site.regions pc
        → Inner scope site.regions pc (do_end s c pc)
        → Surroundings scope.names z shapes context site base (statement_notes s)
        → Stays scope.names shapes context base st store → st.held ≡ site.held
        → Claim linear rate (at (conf context site pc [] st store)) st
        (price 0 0 (1 + statement_weight s + expression_weight c)
        (1 + statement_weight s + expression_weight c))
        (statement_ways scope context site (Stays scope.names shapes context base) (do_end s c pc))
        (within program n (DoIteration s c) context st)
    pub try_run : (ss : Statements) (scope : LoweringContext) (z : Shape) (shapes : List Shape)
        (context : Context) (site : Site) (base : Store) (pc : ℕ) (st : State) (store : Store)
        → st.steps_left ≤ n → 1 + statements_weight ss + body + 4 ≤ rate
        → AllPlaced program linear rate body z.own site.body scope ss site.regions pc
        → Inner scope site.regions pc (pc + statements_size ss)
        → Surroundings scope.names z shapes context site base (statements_notes ss)
        → Stays scope.names shapes context base st store → st.held ≡ site.held
        → Claim linear rate (at (conf context site pc [] st store)) st
        (price 0 0 (1 + statements_weight ss) (1 + statements_weight ss))
        (statement_ways scope context site (Stays scope.names shapes context base)
        (pc + statements_size ss)) (within program n (TryBody ss) context st)
    pub finally_run : (k : ℕ) (last : Statements) (flag : Bool) (held : ℕ) (below : List Item)
        (names : Names) (z : Shape) (shapes : List Shape) (context : Context) (site : Site)
        (base : Store) (pc : ℕ) (temps : List ℕ) (st : State) (store : Store)
        → st.steps_left ≤ n → 1 + statements_weight last + body + 4 ≤ rate
        → FinallyPlaced program linear rate body z.own names k last
        → IsFunclet program linear rate body (k - 1) (finally_site (k - 1) below held) context site
        pc temps
        → Surroundings names z shapes context site base (1 + statements_notes last)
        → Stays names shapes context base st store → st.held ≡ held
        → Claim linear rate (λ next. deeper 2 held store st.events
        (next (begin_finally (k - 1) names.free flag held below
        (conf context site pc temps st store)))) st
        (price 0 0 (1 + statements_weight last) (1 + statements_weight last))
        (record (normal_ways (λ st store next. end_finally linear next below st.events store)
        (Stays names shapes context base) context site) { held = held })
        (within program n (RunFinally k last flag) context st)

  -- ---- expressions of statements

  -- what is around an expression, as it is now
  pub env_now : (names : Names) (z : Shape) (shapes : List Shape) (context : Context) (site : Site)
      (base now : Store) → NotesKept (below_slot context.activation names.free) shapes base now
      → Env program linear rate body (below_slot context.activation names.free) names false z shapes
      context site base → Env program linear rate body everywhere names false z shapes context
      site now
  env_now names z shapes context site base now k e =
      env_among program linear rate body (below_slot context.activation names.free) everywhere names
      false z shapes context site now (λ j x p. tt)
      (env_later program linear rate body (below_slot context.activation names.free) names false z
      shapes context site base now k e)

  pub stays_through : (names : Names) (shapes : List Shape) (context : Context) (base now : Store)
      → NotesKept (below_slot context.activation names.free) shapes base now
      → (st : State) (store : Store) → Within program linear rate body shapes now st store
      → Stays names shapes context base st store
  stays_through names shapes context base now k st store p = (
    p.0,
    kept_through (below_slot context.activation names.free) shapes base now store k
        (kept_fewer everywhere (below_slot context.activation names.free) shapes now store
        (λ j x o. tt) p.1),
    p.2,
  )

  -- an expression's value, and what a statement does with it
  pub statement_eval : (n : ℕ) (ih : Runs program linear rate body n) (e : Expression)
      (names : Names) (z : Shape) (shapes : List Shape) (context : Context) (site : Site)
      (base : Store) (notes pc : ℕ) (st : State) (store : Store) (q r : Price) (w : Ways)
      (f : ℕ → State → Outcome)
      → st.steps_left ≤ n → expression_weight e + body + 4 ≤ rate
      → Join (price 0 0 (expression_weight e) (expression_weight e)) q r
      → ExpressionFits program z.own false e → HasAt linear site.body site.regions pc
      (expression_code names e 0 pc)
      → Surroundings names z shapes context site base notes
      → Stays names shapes context base st store → st.held ≡ site.held
      → ((v : ℕ) (mid : State) (after : Store) → mid.steps_left ≤ n
      → Stays names shapes context base mid after → mid.held ≡ site.held
      → Claim linear rate (at (conf context site (pc + expression_size e) (v ∷ []) mid after)) mid q
      (record w {
        context = context;
        site = site;
        held = site.held;
        kept = Stays names shapes context base;
      }) (f v mid))
      → Claim linear rate (at (conf context site pc [] st store)) st r
      (record w {
        context = context;
        site = site;
        held = site.held;
        kept = Stays names shapes context base;
      })
      (with_value (within program n (Eval e) context st) f)
  statement_eval n ih e names z shapes context site base notes pc st store q r w f steps light j
      fits has standing kept held go =
      then_value linear rate (at (conf context site pc [] st store))
      (pushed context site (pc + expression_size e) [])
      (record w {
        context = context;
        site = site;
        held = site.held;
        kept = Stays names shapes context base;
      }) st
      (price 0 0 (expression_weight e) (expression_weight e)) q r
      (within program n (Eval e) context st) f j
      (claim_kept linear rate (at (conf context site pc [] st store)) st
      (price 0 0 (expression_weight e) (expression_weight e))
      (value_ways (pushed context site (pc + expression_size e) [])
      (Within program linear rate body shapes store) context site) (Stays names shapes context base)
      (within program n (Eval e) context st) (stays_through names shapes context base store kept.1)
      (ih.eval e (record {
        names = names;
        info = false;
        z = z;
        shapes = shapes;
        context = context;
        site = site;
        base = store;
        around = env_now names z shapes context site base store kept.1 standing.env;
      }) pc [] st store steps light fits has
      (kept.0, kept_itself everywhere shapes store, kept.2) held))
      (λ v mid after lower kept held. go v mid after (omega arith) kept held)
