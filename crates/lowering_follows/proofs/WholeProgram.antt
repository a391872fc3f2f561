-- The whole program: its run follows the meaning, and shows nothing more.
use Rattle.std.proofs.Common.{◌≡◌, ◌⊎◌, inl, inr, ◌<◌, ◌≤◌, ℕ, zero, suc, ◌+◌, ◌-◌, ◌*◌, List, [], ◌∷◌, ◌++◌, length, refl, ap, sym, subst, ◌∙◌, arith, append-nil}
use native.Mathlib.Nat.{mul-add, mul_comm, mul-one}
use Rattle.std.proofs.lemmas.Bool.{cases_lt, lt-ltb, le-ltb, ne_eqb}
use Rattle.std.specs.Prelude.{false, nat_eq, if◌then◌else◌, replicate, slice_get, ℤ, Some, None}
use Rattle.seh_num.specs.declared.event.Event.{Event}
use Rattle.lowering_follows.specs.Words.{W32, W64, signed, wrapped, Size, Program, Function, part_of, close_part, open_frame, body_start, State, Value, Normal, Returned, Target, End, Outcome, Gives, choose, Context, no_exception, all, ended_call, enter, within, does, for_parameters, outside, ran, shows, meaning, Temporary, LinearProgram, LinearFunction, FunctionBody, Store, Configuration, Seen, Finished, with_some, Running, Stuck, begin_function, exec, main_arguments, start, seen, shown, statements_size, statements_notes, own_locals, asking, scope_of, statements_weight, HasAt, FunctionPlaced, first_memory, IsPrefixOf, surplus, hold_surplus, count_steps}
use Rattle.source_meaning.specs.declared.ended.Ended.{Ended}
use Rattle.source_meaning.specs.declared.ended.Ended.TheVariants.{Exit, Deep}
use Rattle.source_meaning.specs.State.{deeper, counting, with_activation}
use Rattle.source_meaning.specs.declared.depth.TheConstants.{DEEPEST, TOO_DEEP}
use Rattle.source_meaning.proofs.Counting as counts
use Rattle.source_meaning.specs.Meaning as source
use Rattle.source_meaning.proofs.RemainingSteps.{enters_within}
use Rattle.linear_code.specs.declared.instruction.Instruction.TheVariants as instructions
use Rattle.lowering_follows.proofs.Lemmas.{events_of, More, longer, prefix_same, prefix_then, Part, at, Site, conf, price, Claim, Stops, first, fetch, prefix_self, after, sooner, stopped, from_none, asking_within}
use Rattle.linear_machine.proofs.MoreTurns.{front}
use Rattle.linear_machine.proofs.Stretch.{Kept}
use Rattle.lowering_follows.specs.FollowLaws.{Follows, NoMore, LinkedFollows}
use Rattle.lowering_follows.proofs.Stores.{Shape, FrameAlike, Alike, below_slot, kept_itself, push_alike}
use Rattle.lowering_follows.proofs.BodyClaims.{statement_ways, Stays, Surroundings}
use Rattle.lowering_follows.proofs.BodySequences.{all_runs}
use Rattle.lowering_follows.proofs.Beginnings.{separators_then, separators_reach, passed_claim}
use Rattle.lowering_follows.proofs.StackPointers.{base_of}
use Rattle.lowering_follows.proofs.Openings.{opened_claim}
use Rattle.lowering_follows.proofs.Closings.{closed_stays, closes, ended_ways, last_of, last_has}
use Rattle.lowering_follows.proofs.Functions.{begins_alike}
use Rattle.lowering_follows.proofs.AllClaims.{both}
use Rattle.c_checked.specs.Program.{weight}

mul_le : (k a b : ℕ) → a ≤ b → k * a ≤ k * b
mul_le k a b le =
    let e : a + (b - a) ≡ b = omega arith in
    let f : k * b ≡ k * a + k * (b - a) = ap (λ n. k * n) (sym e) ∙ mul-add k a (b - a) in
    omega arith

-- so many steps were made that there were enough turns
enough : (k m cost credit n h : ℕ) → credit ≡ k * cost → (m + 1) * k ≤ n → n ≤ credit + h
    → h + 2 ≤ k → m < cost
enough k m cost credit n h paid e least light = go (cases_lt m cost)
  where
    go : (m < cost) ⊎ (cost ≤ m) → m < cost
    go (inl p) = p
    go (inr p) =
        let a : (m + 1) * k ≡ k * m + k = mul_comm (m + 1) k ∙ mul-add k m 1
        ∙ ap (λ x. k * m + x) (mul-one k) in
        let b = mul_le k cost m p in
        absurd (omega arith)

abbrev IsRunning : Seen → Type 0
IsRunning (Running es) = Unit {0}
IsRunning a = ⊥

abbrev IsFinished : Seen → Type 0
IsFinished (Finished e es) = Unit {0}
IsFinished a = ⊥

abbrev IsStuck : Seen → Type 0
IsStuck (Stuck es) = Unit {0}
IsStuck a = ⊥

-- a run that comes to an end
against : (x b : Seen) (e : Ended) (es : List Event) → More x b → b ≡ Finished e es
    → IsPrefixOf (shown x).events es × ((f : Ended) → (shown x).end ≡ Some f
    → shown (Finished e es) ≡ shown x) × ((fs : List Event) → x ≡ Stuck fs → ⊥)
against (Running fs) b e es m q = (
  subst (λ (x : Seen). IsPrefixOf fs (events_of x)) q m,
  (λ f h. absurd (cc)),
  (λ gs h. absurd (subst IsRunning h tt)),
)
against (Finished f fs) b e es m q =
    let same : Finished f fs ≡ Finished e es = sym m ∙ q in (
      prefix_same fs es (ap events_of same),
      (λ g h. ap shown (sym same)),
      (λ gs h. absurd (subst IsFinished h tt)),
    )
against (Stuck fs) b e es m q = absurd (subst IsStuck (sym m ∙ q) tt)

-- one that continues
against_running : (x b : Seen) (sh es : List Event) → More x b → b ≡ Running sh
    → IsPrefixOf sh es
    → IsPrefixOf (shown x).events es × ((f : Ended) → (shown x).end ≡ Some f
    → record { events = es; end = None } ≡ shown x) × ((fs : List Event) → x ≡ Stuck fs → ⊥)
against_running (Running fs) b sh es m q p = (
  prefix_then fs sh es (subst (λ (x : Seen). IsPrefixOf fs (events_of x)) q m) p,
  (λ f h. absurd (cc)),
  (λ gs h. absurd (subst IsRunning h tt)),
)
against_running (Finished f fs) b sh es m q p = absurd (subst IsFinished (sym m ∙ q) tt)
against_running (Stuck fs) b sh es m q p = absurd (subst IsStuck (sym m ∙ q) tt)

-- ---- the arguments of `main`

arguments_length : (ps : List Size) (a : ℕ) → length ps ≤ 1
    → length (for_parameters ps a) ≡ length ps
arguments_length [] a le = refl
arguments_length (p ∷ []) a le = refl
arguments_length (p ∷ q ∷ ps) a le = absurd (omega arith)

arguments_same : (ps : List Size) (a : ℕ) → (if nat_eq (length ps) 0 then [] else a ∷ [])
    ≡ for_parameters ps a
arguments_same [] a = refl
arguments_same (p ∷ ps) a = ap (λ b. if b then [] else a ∷ [])
    (ne_eqb (length (p ∷ ps)) 0 (λ e. omega arith))

module _ (program : Program) (linear : LinearProgram) (rate body : ℕ)
    (same_globals : linear.globals ≡ program.globals) (roomy : 4 ≤ rate)
    (placed : (k : ℕ) (fn : Function) → slice_get program.functions k ≡ Some fn
    → (lf : LinearFunction) × (slice_get linear.functions k ≡ Some lf)
    × FunctionPlaced program linear rate body k fn lf)
    (same_main : linear.main ≡ program.main) (fn : Function)
    (has : slice_get program.functions program.main ≡ Some fn) (few : length fn.parameters ≤ 1)
    (shallow : weight fn ≤ DEEPEST) (lf : LinearFunction)
    (there : slice_get linear.functions program.main ≡ Some lf)
    (f : FunctionPlaced program linear rate body program.main fn lf) where
  module _ (arg : ℤ) where
    abbrev vs : List ℕ
    vs = for_parameters fn.parameters (wrapped W64 arg)

    abbrev inner : Context
    inner = record {
      handlers = [];
      activation = 0;
      data_part = part_of fn.data_frame;
      exception = no_exception;
      abnormal = false;
    }

    abbrev csite : Site
    csite = record {
      body = FunctionBody program.main;
      regions = [];
      below = [];
      exception = no_exception;
      held = 0 + (lf.surplus + lf.data_surplus);
    }

    abbrev given : List ℕ
    given = vs ++ replicate (length fn.locals) 0

    abbrev locals : List ℕ
    locals = vs ++ replicate (lf.body.locals - lf.parameters) 0

    -- before anything, after the steps of the beginning, and where the body begins
    abbrev origin : ℕ → State
    origin n = source.start program n

    abbrev counted : ℕ → State
    counted n = count_steps (surplus fn) (origin n)

    abbrev begun : ℕ → State
    begun n = with_activation program.main given (hold_surplus (surplus fn) (counted n))

    abbrev runs : ℕ → ℕ → State → Outcome
    runs n k st =
        all (within program n) fn.body
        (record {
          handlers = [];
          activation = k;
          data_part = part_of fn.data_frame;
          exception = no_exception;
          abnormal = false;
        }) st

    abbrev activation : ℕ → State → Outcome
    activation n st =
        ended_call (length st.frames) (surplus fn)
        (close_part (part_of fn.data_frame) (length st.frames)
        (open_frame program fn.data_frame (length st.frames)
        (with_activation program.main given (hold_surplus (surplus fn) st))
        (runs n (length st.frames))))

    abbrev first_store : Store
    first_store = record { memory = first_memory linear.globals; activations = []; vectored = [] }

    abbrev store' : Store
    store' = record {
      memory = first_memory linear.globals;
      activations = locals ∷ [];
      vectored = [];
    }

    abbrev c0 : Configuration
    c0 = begin_function program.main lf vs 0 [] first_store []

    abbrev x : ℕ
    x = surplus fn + statements_weight fn.body

    abbrev Done : Part → State → Outcome → Type 0
    Done s from (Gives (Value v) st) = (j : ℕ) × (j ≤ 16 * from.steps_left + 6)
        × (s (exec linear j) ≡ Finished (Exit (signed W32 v)) st.events)
    Done s from (Gives (End (Some e)) st) = (j : ℕ) × (j ≤ 16 * from.steps_left + 6)
        × (s (exec linear j) ≡ Finished e st.events)
    Done s from (Gives (End None) st) = Stops linear rate s from st 5 0 x
    Done s from (Gives r st) = ⊥

    return_turn : (v done k : ℕ) (mid : State) (after : Store)
        → HasAt linear (FunctionBody program.main) [] done (instructions.Return (Temporary 0) ∷ [])
        → exec linear (suc k) (conf inner csite done (v ∷ []) mid after)
        ≡ Finished (Exit (signed W32 v)) mid.events
    unfolding with_some
    return_turn v done k mid after h = fetch linear rate (conf inner csite done (v ∷ []) mid after)
        (instructions.Return (Temporary 0)) k h.0

    main_ends : (s : Part) (from : State) (kept : Kept) (last : ℕ) (o : Outcome)
        → HasAt linear (FunctionBody program.main) [] last (instructions.Return (Temporary 0) ∷ [])
        → Claim linear rate s from (price 5 0 x x)
        (ended_ways program linear rate body inner csite kept last) o
        → Done s from (ended_call 0 (surplus fn) o)
    unfolding ended_call
    main_ends s from kept last (Gives Normal st) h p =
        let y = p.reaches.by (suc zero) in
        let most = p.reaches.most in
        (y.0, omega (arith, y.1), y.2 ∙ return_turn 0 last zero st p.store h)
    main_ends s from kept last (Gives (Returned v) st) h p =
        let y = p.reaches.by (suc zero) in
        let most = p.reaches.most in
        (y.0, omega (arith, y.1), y.2 ∙ return_turn v last zero st p.store h)
    main_ends s from kept last (Gives (Target level exc) st) h p = absurd p.picked
    main_ends s from kept last (Gives (End (Some e)) st) h p = let y = p.by in
        (y.0, omega (arith, y.1), y.2)
    main_ends s from kept last (Gives (End None) st) h p = p
    main_ends s from kept last (Gives r st) h p = absurd p

    main_runs : (n : ℕ) → surplus fn ≤ n → Done (at c0) (origin n) (activation n (counted n))
    main_runs n left =
        let s = surplus fn in
        let w = statements_weight fn.body in
        let scope = scope_of fn in
        let frame = fn.data_frame in
        let new : Shape = record {
          function = program.main;
          own = own_locals fn;
          all = lf.body.locals;
        } in
        let bodies = (both program linear rate body same_globals roomy placed n).bodies in
        let wide : own_locals fn ≤ lf.body.locals = omega (arith, f.locals) in
        let alike : FrameAlike new given locals = subst
        (λ p. FrameAlike new given (vs ++ replicate (lf.body.locals - p) 0)) (sym f.parameters)
        (begins_alike program.main (length fn.parameters) (length fn.locals) lf.body.locals vs
        (arguments_length fn.parameters (wrapped W64 arg) few) wide) in
        let nothing : Alike [] (first_memory program.globals) []
        first_store = record {
          same_memory = ap first_memory same_globals;
          count = refl;
          activations = refl;
          each = λ k z h. absurd (cc);
        } in
        let standing : Surroundings program linear rate body scope.names new (new ∷ [])
        inner csite store' (statements_notes fn.body) = record {
          env = record {
            shape = refl;
            code = refl;
            flag = refl;
            informed = λ e. absurd (cc);
            handlers = tt;
            functions = refl;
          };
          past = omega arith;
          room = omega (arith, f.locals);
          plain = λ e. absurd (cc);
          part = refl;
          base_fits = base_of program linear rate body (own_locals fn) (length fn.parameters) frame
              f.frame;
          globals = same_globals;
        } in
        let weighs : lf.surplus + lf.data_surplus ≡ s = omega (arith, f.weighs, f.data_weighs) in
        let begin = body_start fn in
        let done = begin + statements_size fn.body in
        let Km = Stays program linear rate body scope.names (new ∷ []) inner store' in
        let ways = statement_ways program linear rate body scope inner csite Km done in
        let opened = open_frame program frame 0 (begun n) (runs n 0) in
        let first_part = at (conf inner csite 1 [] (origin n) store') in
        let body_part = at (conf inner csite (1 + s) [] (begun n) store') in
        let quick = f.quick in
        let starts = separators_then linear rate (omega arith) inner csite store' s (asking fn) 1
        f.starts.2 in
        let takes = asking_within fn 1 (λ e. omega arith) few in
        let begins : Claim linear rate body_part (begun n) (price 2 0 w w) ways opened =
        passed_claim linear rate (omega arith) inner csite store' (1 + length fn.parameters) w ways
        (asking fn) 2 (1 + s) (begun n) opened (omega arith) starts.1
        (opened_claim program linear rate body same_globals scope.names new (new ∷ []) inner csite
        store' refl (omega arith) fn f.frame f.opens (begun n) store' w ways (runs n 0) (
          push_alike [] (first_memory program.globals) [] first_store new given locals alike
              nothing,
          kept_itself (below_slot 0 (own_locals fn)) (new ∷ []) store',
          record { functions_are = refl; same_handlers = refl; are_called = tt },
        ) (ap (λ held. 0 + held) (sym weighs))
        (λ mid after left kept held.
        all_runs program linear rate body n bodies scope new (new ∷ []) inner csite store' fn.body
        begin mid after (omega (arith, left)) quick f.placed
        (record { around = tt; exit = (omega arith, tt); loop_end = tt; loop_next = tt }) standing
        kept held)) in
        main_ends (at c0) (origin n) Km (last_of frame done)
        (close_part (part_of frame) 0 opened)
        (last_has program linear rate body csite.body frame done f.ends)
        (closes program linear rate body inner csite Km frame scope.names (at c0) (origin n) 3 x
        done opened
        (λ st store kept. closed_stays program linear rate body frame scope.names new
        (length fn.parameters) (new ∷ []) inner store' st store refl f.frame kept) f.ends
        (first linear rate c0 first_part (origin n) (origin n) (price 2 0 x x) (price 3 0 x x) ways
        opened (omega arith, omega arith, omega arith) refl refl (prefix_self (origin n).events)
        (λ j. fetch linear rate c0 instructions.Separator j f.starts.0)
        (after linear rate first_part body_part (origin n) (counted n) 0 0 0 (price 2 0 w w)
        (price 2 0 x x) ways opened (omega arith, omega arith, omega arith)
        (separators_reach linear rate (omega arith) inner csite store' s 1 (origin n) left
        starts.0)
        (sooner linear rate body_part (counted n) (begun n) (price 2 0 w w) ways opened refl
        (prefix_self (origin n).events) begins))))

    -- the steps of the beginning, as far as there are so many
    begins : (n : ℕ) → (n < surplus fn) ⊎ (surplus fn ≤ n)
        → Done (at c0) (origin n) (counting (surplus fn) (origin n) (activation n))
    begins n (inl few) = subst (λ o. Done (at c0) (origin n) o)
        (sym (counts.too_few (surplus fn) (origin n) (activation n) (lt-ltb n (surplus fn) few)))
        (stopped linear rate (at c0) (origin n) 5 0 x (omega arith) (from_none linear 0 c0))
    begins n (inr left) = subst (λ o. Done (at c0) (origin n) o)
        (sym (counts.enough (surplus fn) (origin n) (activation n) (le-ltb n (surplus fn) left)))
        (main_runs n left)

    enters : (n : ℕ)
        → enter program (within program n) program.main (Some fn) vs outside (origin n)
        ≡ counting (surplus fn) (origin n) (activation n)
    unfolding deeper choose
    enters n =
        let go : State → Outcome = λ st. counting (surplus fn) st (activation n) in
        ap (λ deep. choose deep (λ st. Gives (End (Some (Deep TOO_DEEP))) st) go (origin n))
        (le-ltb DEEPEST (0 + weight fn) (omega (arith, shallow)))

    ran_is : (n : ℕ) → ran program arg n ≡ counting (surplus fn) (origin n) (activation n)
    ran_is n =
        ap (λ main. enter program (does program) program.main main (source.main_arguments main arg)
        outside (origin n)) has
        ∙ enters_within program n program.main (Some fn) vs outside (origin n) (omega arith)
        ∙ enters n

    done : (n : ℕ) → Done (at c0) (origin n) (ran program arg n)
    done n = subst (λ o. Done (at c0) (origin n) o) (sym (ran_is n))
        (begins n (cases_lt n (surplus fn)))

    seen_is : (t : ℕ) → seen linear arg t ≡ exec linear t c0
    unfolding with_some
    seen_is t =
        let place : ℕ → List ℕ → Configuration = λ k given. begin_function k lf given 0 []
        first_store [] in
        let arguments : main_arguments lf.parameters arg
        ≡ vs = ap (λ p. main_arguments p arg) f.parameters
        ∙ arguments_same fn.parameters (wrapped W64 arg) in
        ap (λ o. with_some [] o (λ main. exec linear t (start linear arg main)))
        (ap (slice_get linear.functions) same_main ∙ there)
        ∙ ap (λ k. exec linear t (place k (main_arguments lf.parameters arg))) same_main
        ∙ ap (λ given. exec linear t (place program.main given)) arguments

    later : (j b : ℕ) → j ≤ b → More (exec linear j c0) (exec linear b c0)
    later j b le = let e : j + (b - j) ≡ b = omega arith in
        subst (λ k. More (exec linear j c0) (exec linear k c0)) e (longer linear j (b - j) c0)

    -- at least so much
    follows_by : (b : ℕ) (from : State) (o : Outcome) → 16 * from.steps_left + 6 ≤ b
        → Done (at c0) from o
        → IsPrefixOf (shows o).events (shown (exec linear b c0)).events
        × ((e : Ended) → (shows o).end ≡ Some e → shown (exec linear b c0) ≡ shows o)
    follows_by b from (Gives (Value v) st) le d =
        let e : exec linear b c0 ≡ Finished (Exit (signed W32 v)) st.events = subst
        (λ a. More a (exec linear b c0)) d.2 (later d.0 b (omega (arith, d.1))) in
        (([], append-nil st.events ∙ sym (ap (λ a. (shown a).events) e)), (λ c h. ap shown e))
    follows_by b from (Gives (End (Some v)) st) le d =
        let e : exec linear b c0 ≡ Finished v st.events = subst (λ a. More a (exec linear b c0)) d.2
        (later d.0 b (omega (arith, d.1))) in
        (([], append-nil st.events ∙ sym (ap (λ a. (shown a).events) e)), (λ c h. ap shown e))
    follows_by b from (Gives (End None) st) le d =
        let m = d.most in (
          prefix_then st.events (events_of (exec linear d.cost c0)) (events_of (exec linear b c0))
              d.shown (front (exec linear d.cost c0) (exec linear b c0)
              (later d.cost b (omega arith))),
          (λ c h. absurd (cc)),
        )
    follows_by b from (Gives r st) le d = absurd d

    abbrev NoMoreThan : ℕ → Outcome → Type 0
    NoMoreThan m o =
        IsPrefixOf (shown (exec linear m c0)).events (shows o).events
        × ((e : Ended) → (shown (exec linear m c0)).end ≡ Some e
        → shows o ≡ shown (exec linear m c0))
        × ((es : List Event) → exec linear m c0 ≡ Stuck es → ⊥)

    -- where the run is known to end, every place before it agrees
    ends_there : (m j : ℕ) (e : Ended) (es : List Event) → exec linear j c0 ≡ Finished e es
        → exec linear (j + m) c0 ≡ Finished e es
    ends_there m j e es h = subst (λ a. More a (exec linear (j + m) c0)) h
        (later j (j + m) (omega arith))

    no_more_by : (m n : ℕ) (o : Outcome) → (m + 1) * rate ≤ n → Done (at c0) (origin n) o
        → NoMoreThan m o
    no_more_by m n (Gives (Value v) st) le d = against (exec linear m c0) (exec linear (d.0 + m) c0)
        (Exit (signed W32 v)) st.events (later m (d.0 + m) (omega arith))
        (ends_there m d.0 (Exit (signed W32 v)) st.events d.2)
    no_more_by m n (Gives (End (Some v)) st) le d = against (exec linear m c0)
        (exec linear (d.0 + m) c0) v st.events (later m (d.0 + m) (omega arith))
        (ends_there m d.0 v st.events d.2)
    no_more_by m n (Gives (End None) st) le d =
        let paid = d.paid in let least = d.least in
        let light = f.light in let quick = f.quick in
        let longer_than = enough rate m d.cost d.credit n x paid le (omega arith) (omega arith) in
        let b = d.prior (d.cost - 1) (omega arith) in
        against_running (exec linear m c0) (exec linear (d.cost - 1) c0) b.0 st.events
        (later m (d.cost - 1) (omega arith)) b.1 b.2
    no_more_by m n (Gives r st) le d = absurd d

  pub follows : Follows program linear
  follows arg n turns le =
      subst (λ a. IsPrefixOf (meaning program arg n).events (shown a).events
      × ((e : Ended) → (meaning program arg n).end ≡ Some e → shown a ≡ meaning program arg n))
      (sym (seen_is arg turns))
      (follows_by arg turns (origin arg n) (ran program arg n) le (done arg n))

  pub no_more : NoMore program linear rate
  no_more arg m n le =
      subst (λ a. IsPrefixOf (shown a).events (meaning program arg n).events
      × ((e : Ended) → (shown a).end ≡ Some e → meaning program arg n ≡ shown a)
      × ((es : List Event) → a ≡ Stuck es → ⊥)) (sym (seen_is arg m))
      (no_more_by arg m n (ran program arg n) le (done arg n))

pub linked_follows : LinkedFollows
linked_follows program linear rate body l =
    let p = l.functions program.main l.begins l.is_main in (
      follows program linear rate body l.globals l.least l.functions l.main l.begins l.is_main l.few
          l.shallow p.0 p.1 p.2,
      no_more program linear rate body l.globals l.least l.functions l.main l.begins l.is_main l.few
          l.shallow p.0 p.1 p.2,
    )
