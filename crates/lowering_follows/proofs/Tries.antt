-- `__try`: a target lands at its handler, and a `__finally` block runs for every result on its way
-- out.
use Rattle.std.proofs.Common.{◌≡◌, ◌⊎◌, inl, inr, ◌<◌, ◌≤◌, ℕ, ◌+◌, List, ◌∷◌, ◌++◌, length, refl, ap, sym, subst, ◌∙◌, arith}
use Rattle.std.specs.Prelude.{Bool, slice_get, Option, Some, None}
use Rattle.lowering_follows.specs.Words.{Filter, Always, Funclet, Program, Exception, State, Returned, Broke, Continued, LeftTry, Target, Outcome, Gives, Context, Handler, of_test, Region, LinearProgram, Store, set_local, Unwinds, Names, ExceptionSource, LoweringContext, NoException, OfFilter, KeptIn, Nowhere, Jumps, except_names, filter_names, finally_names, in_try, in_except, in_guarded, except_kind, region, FilterPlaced, handlers_of}
use Rattle.lowering_expressions.specs.declared.scope.Way.TheVariants.{Unwinds}
use Rattle.linear_code.specs.declared.program.RegionKind.{RegionKind}
use Rattle.linear_code.specs.declared.program.RegionKind.TheVariants as regions
use Rattle.linear_machine.specs.Frames as machine
use Rattle.lowering_follows.proofs.Lemmas.{Part, Site, Picked, Price, found, Arrives, Claim, claim_kept, BlockAt, IsExcept, around_part}
use Rattle.linear_machine.proofs.Stretch.{Kept}
use Rattle.lowering_expressions.specs.declared.scope.Way as jumps
use Rattle.lowering_expressions.specs.Scope as scopes
use Rattle.lowering_follows.proofs.Stores.{Shape, NotesKept, below_slot, kept_set, kept_through, kept_fewer, kept_itself, note_read, note_set_alike}
use Rattle.lowering_follows.proofs.Environments.{CodeBound, code_kept, code_among, flag_kept, flag_among, Match, match_kept, match_among, functions_at}
use Rattle.lowering_follows.proofs.BodyClaims.{JumpFits, Inner, exit_way, jump_way, leave_way, statement_ways, Stays, Surroundings}

-- inside one region more
abbrev pub within_region : Region → Site → Site
within_region r site = record site { regions = r ∷ site.regions }

pub is_except : (filter : Filter) (target : ℕ) → IsExcept (except_kind filter target) target
is_except Always target = refl
is_except (Funclet k e) target = refl

pub is_block : (filter : Filter) (target : ℕ) → BlockAt (except_kind filter target) target
is_block Always target = refl
is_block (Funclet k e) target = refl

-- ---- inside one region more, the ways lead out of it

jump_in : (r : Region) (rs : List Region) (hi hi' : ℕ) (way : jumps.Way) → hi' ≤ hi
    → IsExcept r.kind r.end → JumpFits rs hi way → JumpFits (r ∷ rs) hi' way
jump_in r rs hi hi' Nowhere le e f = tt
jump_in r rs hi hi' (Jumps label) le e f = let a = f.0 in (omega arith, inr (e, f.1))
jump_in r rs hi hi' (Unwinds label) le e f = omega arith

jump_over : (r : Region) (rs : List Region) (hi hi' : ℕ) (way : jumps.Way) → hi' ≤ hi
    → JumpFits rs hi way → JumpFits (r ∷ rs) hi' (scopes.unwound way)
jump_over r rs hi hi' Nowhere le f = tt
jump_over r rs hi hi' (Jumps label) le f = let a = f.0 in omega arith
jump_over r rs hi hi' (Unwinds label) le f = omega arith

-- the body of a `__try` from lo up to hi', whose region ends after that
pub inside_except : (scope : LoweringContext)
    (filter : Filter) (target done : ℕ) (rs : List Region) (lo hi hi' : ℕ) → hi' < target
    → target ≤ hi → Inner scope rs lo hi
    → Inner (in_try done scope) (region lo target (except_kind filter target) ∷ rs) lo hi'
inside_except scope filter target done rs lo hi hi' l h f =
    let r = region lo target (except_kind filter target) in
    let e = is_except filter target in
    record {
      around = (
        record { begin = omega arith; end = l; block = is_block filter target },
        around_part rs lo hi lo hi' (omega arith) (omega arith) f.around,
      );
      exit = jump_in r rs hi hi' scope.exit (omega arith) e f.exit;
      loop_end = jump_in r rs hi hi' scope.loop_end (omega arith) e f.loop_end;
      loop_next = jump_in r rs hi hi' scope.loop_next (omega arith) e f.loop_next;
    }

pub inside_finally : (scope : LoweringContext)
    (k end done : ℕ) (rs : List Region) (lo hi hi' : ℕ) → hi' < end → end ≤ hi
    → Inner scope rs lo hi
    → Inner (in_guarded done scope) (region lo end (regions.Finally k) ∷ rs) lo hi'
inside_finally scope k end done rs lo hi hi' l h f =
    let r = region lo end (regions.Finally k) in
    record {
      around = (
        record { begin = omega arith; end = l; block = tt },
        around_part rs lo hi lo hi' (omega arith) (omega arith) f.around,
      );
      exit = jump_over r rs hi hi' scope.exit (omega arith) f.exit;
      loop_end = jump_over r rs hi hi' scope.loop_end (omega arith) f.loop_end;
      loop_next = jump_over r rs hi hi' scope.loop_next (omega arith) f.loop_next;
    }

-- what is picked there is the region's own handler, or one outside
pub picked_of : (kind : RegionKind) (target activation depth : ℕ) (hs rest : List machine.Handler)
    (level : ℕ) (f : machine.Handler) → IsExcept kind target
    → Picked ((handlers_of kind activation depth ++ hs) ++ rest) level f
    → ((length (hs ++ rest) ≡ level) × (f.depth ≡ depth) × (f.target ≡ target))
    ⊎ Picked (hs ++ rest) level f
picked_of (regions.Finally k) target activation depth hs rest level f e p = absurd e
picked_of (regions.Filter k label) target activation depth hs rest level f e (inl p) = inl
    (p.0, ap (λ h. h.depth) (sym p.1), ap (λ h. h.target) (sym p.1) ∙ e)
picked_of (regions.Filter k label) target activation depth hs rest level f e (inr p) = inr p
picked_of (regions.Always label) target activation depth hs rest level f e (inl p) = inl
    (p.0, ap (λ h. h.depth) (sym p.1), ap (λ h. h.target) (sym p.1) ∙ e)
picked_of (regions.Always label) target activation depth hs rest level f e (inr p) = inr p

-- the code of an exception, for another body that works on the same activation
code_elsewhere : (z : Shape) (free : ℕ) (source : ExceptionSource) (context : Context)
    (abnormal : Bool) (asked asked' : Exception) (s : Store) → (source ≡ OfFilter → ⊥)
    → CodeBound (below_slot context.activation free) z source context asked s
    → CodeBound (below_slot context.activation free) z source
    (record context { abnormal = abnormal }) asked' s
code_elsewhere z free NoException context abnormal asked asked' s plain c = c
code_elsewhere z free OfFilter context abnormal asked asked' s plain c = absurd (plain refl)
code_elsewhere z free (KeptIn x) context abnormal asked asked' s plain c = c

-- the same activation with other handlers and another exception
abbrev pub elsewhere : Context → List Handler → Exception → Context
elsewhere context hs exc = record {
  handlers = hs;
  activation = context.activation;
  data_part = context.data_part;
  exception = exc;
  abnormal = context.abnormal;
}

-- other handlers change nothing of it
code_inside : (z : Shape) (free : ℕ) (source : ExceptionSource) (context : Context)
    (hs : List Handler) (asked : Exception) (s : Store)
    → CodeBound (below_slot context.activation free) z source context asked s
    → CodeBound (below_slot context.activation free) z source (record context { handlers = hs })
    asked s
code_inside z free NoException context hs asked s c = c
code_inside z free OfFilter context hs asked s c = c
code_inside z free (KeptIn x) context hs asked s c = c

module _ (program : Program) (linear : LinearProgram) (rate body : ℕ) where
  -- ---- what is around blocks

  one_more : (activation free k x : ℕ) → below_slot activation free k x
      → below_slot activation (free + 1) k x
  one_more activation free k x o e = let l = o e in omega arith

  -- a note is written at the first free slot
  pub noted_stays : (names : Names) (z : Shape) (shapes : List Shape) (context : Context)
      (site : Site) (base : Store) (notes v : ℕ) (store : Store)
      → Surroundings program linear rate body names z shapes context site base notes
      → NotesKept (below_slot context.activation names.free) shapes base store
      → NotesKept (below_slot context.activation names.free) shapes base
      (set_local store context.activation names.free v)
  noted_stays names z shapes context site base notes v store standing k =
      let ok = below_slot context.activation names.free in
      kept_through ok shapes base store (set_local store context.activation names.free v) k
      (kept_set ok shapes store context.activation names.free v
      (λ y h past o. let l = o refl in absurd (omega arith)))

  pub surroundings_except : (names : Names) (z : Shape) (shapes : List Shape) (context : Context)
      (site : Site) (base : Store) (m : ℕ) (exc : Exception) (mid : State) (store : Store)
      → Surroundings program linear rate body names z shapes context site base (1 + m)
      → Stays program linear rate body names shapes context base mid store
      → Surroundings program linear rate body (except_names names) z shapes
      (record context { exception = exc }) site
      (set_local store context.activation names.free exc.code) m
  surroundings_except names z shapes context site base m exc mid store standing kept =
      let a = context.activation in
      let ok = below_slot a names.free in
      let ok' = below_slot a (names.free + 1) in
      let base' = set_local store a names.free exc.code in
      let k = noted_stays names z shapes context site base (1 + m) exc.code store standing kept.1 in
      let env = standing.env in
      let room = standing.room in
      let grow : (j x : ℕ) → ok j x → ok' j x = one_more a names.free in
      record {
        env = record {
          shape = env.shape;
          code = (
            standing.past,
            λ e. omega arith,
            note_read z store a names.free exc.code shapes mid.memory mid.frames env.shape
                (omega arith) kept.0,
          );
          flag = flag_among ok ok' z names.abnormal a context.abnormal base' grow
              (flag_kept ok shapes z names.abnormal a context.abnormal base base' env.shape k
              env.flag);
          informed = λ e. absurd (cc);
          handlers = match_among program linear rate body ok ok' shapes base' context.handlers
              (found linear rate context site) grow
              (match_kept program linear rate body ok shapes base base' context.handlers
              (found linear rate context site) k env.handlers);
          functions = env.functions;
        };
        past = let p = standing.past in omega arith;
        room = omega arith;
        plain = λ e. absurd (cc);
        part = standing.part;
        base_fits = standing.base_fits;
        globals = standing.globals;
      }

  pub surroundings_finally : (names : Names) (z : Shape) (shapes : List Shape) (context : Context)
      (site fsite : Site) (base : Store) (m : ℕ) (flag : Bool) (mid : State) (store : Store)
      → Surroundings program linear rate body names z shapes context site base (1 + m)
      → Stays program linear rate body names shapes context base mid store
      → found linear rate context fsite ≡ found linear rate context site
      → functions_at fsite ≡ functions_at site
      → Surroundings program linear rate body (finally_names names) z shapes
      (record context { abnormal = flag }) fsite
      (set_local store context.activation names.free (of_test flag)) m
  surroundings_finally names z shapes context site fsite base m flag mid store standing kept same
      functions =
      let a = context.activation in
      let ok = below_slot a names.free in
      let ok' = below_slot a (names.free + 1) in
      let base' = set_local store a names.free (of_test flag) in
      let k = noted_stays names z shapes context site base (1 + m) (of_test flag) store standing
      kept.1 in
      let env = standing.env in
      let room = standing.room in
      let grow : (j x : ℕ) → ok j x → ok' j x = one_more a names.free in
      record {
        env = record {
          shape = env.shape;
          code = code_among ok ok' z names.exception (record context { abnormal = flag })
              fsite.exception base' grow
              (code_elsewhere z names.free names.exception context flag site.exception
              fsite.exception base' standing.plain
              (code_kept ok shapes z names.exception context site.exception base base' env.shape k
              env.code));
          flag = (
            standing.past,
            λ e. omega arith,
            note_read z store a names.free (of_test flag) shapes mid.memory mid.frames env.shape
                (omega arith) kept.0,
          );
          informed = λ e. absurd (cc);
          handlers = subst (λ fs. Match program linear rate body ok' shapes base' context.handlers
              fs) (sym same)
              (match_among program linear rate body ok ok' shapes base' context.handlers
              (found linear rate context site) grow
              (match_kept program linear rate body ok shapes base base' context.handlers
              (found linear rate context site) k env.handlers));
          functions = functions ∙ env.functions;
        };
        past = let p = standing.past in omega arith;
        room = omega arith;
        plain = standing.plain;
        part = standing.part;
        base_fits = standing.base_fits;
        globals = standing.globals;
      }

  pub noted_kept : (names names' : Names) (z : Shape) (shapes : List Shape) (context : Context)
      (base : Store) (v : ℕ) (mid : State) (store : Store) → names'.free ≡ names.free + 1
      → slice_get shapes context.activation ≡ Some z → z.own ≤ names.free
      → Stays program linear rate body names shapes context base mid store
      → Stays program linear rate body names' shapes context
      (set_local store context.activation names.free v) mid
      (set_local store context.activation names.free v)
  noted_kept names names' z shapes context base v mid store e shape past kept = (
    note_set_alike shapes mid.memory mid.frames store context.activation names.free v z shape
        past kept.0,
    kept_itself (below_slot context.activation names'.free) shapes
        (set_local store context.activation names.free v),
    kept.2,
  )

  -- a block's stores are stores of what is around it
  pub stays_out : (names names' : Names) (shapes : List Shape) (context : Context)
      (base base' : Store) → names'.free ≡ names.free + 1
      → NotesKept (below_slot context.activation names.free) shapes base base'
      → (st : State) (store : Store) → Stays program linear rate body names' shapes context base' st
      store → Stays program linear rate body names shapes context base st store
  stays_out names names' shapes context base base' e k st store p =
      let ok = below_slot context.activation names.free in
      let ok' = below_slot context.activation names'.free in (
        p.0,
        kept_through ok shapes base base' store k
            (kept_fewer ok' ok shapes base' store (λ j x o q. let l = o q in omega arith) p.1),
        p.2,
      )

  -- the body of a `__try` with an `__except`
  pub surroundings_try : (filter : Filter) (names : Names) (z : Shape) (shapes : List Shape)
      (context : Context) (site : Site) (base : Store) (lo target notes : ℕ)
      → FilterPlaced program linear rate body z.own names filter
      → Surroundings program linear rate body names z shapes context site base notes
      → Surroundings program linear rate body names z shapes
      (record context {
        handlers = record {
          filter = filter;
          activation = context.activation;
          abnormal = context.abnormal;
        } ∷ context.handlers;
      })
      (within_region (region lo target (except_kind filter target)) site) base notes
  surroundings_try Always names z shapes context site base lo target notes f s =
      let hs = record {
        filter = Always;
        activation = context.activation;
        abnormal = context.abnormal;
      } ∷ context.handlers in
      record {
        env = record {
          shape = s.env.shape;
          code = code_inside z names.free names.exception context hs site.exception base s.env.code;
          flag = s.env.flag;
          informed = λ e. absurd (cc);
          handlers = ((refl, tt), s.env.handlers);
          functions = s.env.functions;
        };
        past = s.past;
        room = s.room;
        plain = s.plain;
        part = s.part;
        base_fits = s.base_fits;
        globals = s.globals;
      }
  surroundings_try (Funclet k e) names z shapes context site base lo target notes f s =
      let hs = record {
        filter = Funclet k e;
        activation = context.activation;
        abnormal = context.abnormal;
      } ∷ context.handlers in
      record {
        env = record {
          shape = s.env.shape;
          code = code_inside z names.free names.exception context hs site.exception base s.env.code;
          flag = s.env.flag;
          informed = λ e. absurd (cc);
          handlers = (
            (
              refl,
              record {
                number = f.numbered;
                funclet = f.funclet.0;
                there = f.funclet.1;
                kind = f.funclet.2;
                names = filter_names names;
                source = refl;
                shape = z;
                has_shape = s.env.shape;
                flag = s.env.flag;
                code = f.code;
                fits = f.fits;
                light = f.light;
              },
            ),
            s.env.handlers,
          );
          functions = s.env.functions;
        };
        past = s.past;
        room = s.room;
        plain = s.plain;
        part = s.part;
        base_fits = s.base_fits;
        globals = s.globals;
      }

  -- the body of one with a `__finally`
  pub surroundings_guarded : (names : Names) (z : Shape) (shapes : List Shape) (context : Context)
      (site : Site) (base : Store) (lo end k notes : ℕ)
      → Surroundings program linear rate body names z shapes context site base notes
      → Surroundings program linear rate body names z shapes context
      (within_region (region lo end (regions.Finally k)) site) base notes
  surroundings_guarded names z shapes context site base lo end k notes s =
      record {
        env = record {
          shape = s.env.shape;
          code = s.env.code;
          flag = s.env.flag;
          informed = λ e. absurd (cc);
          handlers = s.env.handlers;
          functions = s.env.functions;
        };
        past = s.past;
        room = s.room;
        plain = s.plain;
        part = s.part;
        base_fits = s.base_fits;
        globals = s.globals;
      }

  -- ---- a block claims what is claimed of what is around it

  exit_same : (s : Part) (st end : State) (p : Price) (context : Context) (hs : List Handler)
      (exc : Exception) (site : Site) (kept : Kept) (way : jumps.Way) (v : ℕ)
      → Arrives linear rate s st p kept site.held end
      (exit_way program linear rate body (elsewhere context hs exc) site way v)
      → Arrives linear rate s st p kept site.held end
      (exit_way program linear rate body context site way v)
  exit_same s st end p context hs exc site kept Nowhere v a = a
  exit_same s st end p context hs exc site kept way v a = a

  jump_same : (s : Part) (st end : State) (p : Price) (context : Context) (hs : List Handler)
      (exc : Exception) (site : Site) (kept : Kept) (way : jumps.Way)
      → Arrives linear rate s st p kept site.held end
      (jump_way program linear rate body (elsewhere context hs exc) site way)
      → Arrives linear rate s st p kept site.held end
      (jump_way program linear rate body context site way)
  jump_same s st end p context hs exc site kept Nowhere a = a
  jump_same s st end p context hs exc site kept way a = a

  leave_same : (s : Part) (st end : State) (p : Price) (context : Context) (hs : List Handler)
      (exc : Exception) (site : Site) (kept : Kept) (way : Option ℕ)
      → Arrives linear rate s st p kept site.held end
      (leave_way program linear rate body (elsewhere context hs exc) site way)
      → Arrives linear rate s st p kept site.held end
      (leave_way program linear rate body context site way)
  leave_same s st end p context hs exc site kept None a = a
  leave_same s st end p context hs exc site kept way a = a

  same_stores : (s : Part) (st : State) (p : Price) (scope : LoweringContext) (context : Context)
      (hs : List Handler) (exc : Exception) (site : Site) (kept : Kept) (done : ℕ) (o : Outcome)
      → Claim linear rate s st p (statement_ways program linear rate body (in_except scope)
      (elsewhere context hs exc) site kept done) o
      → Claim linear rate s st p (statement_ways program linear rate body scope context site kept
      done) o
  same_stores s st p scope context hs exc site kept done (Gives (Returned v) end) a =
      exit_same s st end p context hs exc site kept scope.exit v a
  same_stores s st p scope context hs exc site kept done (Gives Broke end) a =
      jump_same s st end p context hs exc site kept scope.loop_end a
  same_stores s st p scope context hs exc site kept done (Gives Continued end) a =
      jump_same s st end p context hs exc site kept scope.loop_next a
  same_stores s st p scope context hs exc site kept done (Gives LeftTry end) a =
      leave_same s st end p context hs exc site kept scope.leave a
  same_stores s st p scope context hs exc site kept done (Gives (Target level e) end) a = record {
    handler = a.handler;
    picked = a.picked;
    temps = a.temps;
    pc = a.pc;
    store = a.store;
    fits = a.fits;
    reaches = a.reaches;
  }
  same_stores s st p scope context hs exc site kept done (Gives r end) a = a

  pub block_claim : (s : Part) (st : State) (p : Price) (scope : LoweringContext)
      (context : Context) (hs : List Handler) (exc : Exception) (site : Site) (kept kept' : Kept)
      (done : ℕ) (o : Outcome) → ((st : State) (store : Store) → kept st store → kept' st store)
      → Claim linear rate s st p (statement_ways program linear rate body (in_except scope)
      (elsewhere context hs exc) site kept done) o
      → Claim linear rate s st p (statement_ways program linear rate body scope context site kept'
      done) o
  block_claim s st p scope context hs exc site kept kept' done o h a =
      same_stores s st p scope context hs exc site kept' done o
      (claim_kept linear rate s st p (statement_ways program linear rate body (in_except scope)
      (elsewhere context hs exc) site kept done) kept' o h a)
