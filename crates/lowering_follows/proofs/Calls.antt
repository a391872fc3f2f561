-- Calls in expressions.
use Rattle.std.proofs.Common.{◌≡◌, ◌≤◌, ℕ, suc, ◌+◌, List, [], ◌∷◌, ◌++◌, length, refl, ap, sym, subst, ◌∙◌, arith, append_assoc, append-nil, length-append}
use Rattle.std.proofs.lemmas.Bool.{eq-eqb}
use Rattle.std.proofs.lemmas.List.{length_push, take_at, drop_at}
use Rattle.std.specs.Prelude.{not, take, nat_eq, get_or, slice_get, if◌then◌else◌, Some, None}
use Rattle.std.specs.Prelude.{is_some, reverse}
use Rattle.lowering_follows.specs.Words.{W64, W32, low, Arguments, Done, Function, State, Value, Outcome, Gives, Exception, set_memory, set_vectored, emit, and_then, Raise, of_test, enter, raised, each, call_built_in, within, Instruction, LinearFunction, Store, Seen, Waits, handlers_in, handlers, deeper, with_some, AfterCall, last_temporaries, exec, expression_size, arguments_size, expression_code, node_code, argument_count, arguments_code, NodeFits, ArgumentsFit, IsCalled, BuiltInFits, expression_weight, node_weight, arguments_weight, HasAt, signed, BuiltIn, Put, Protect, RaiseException, Walk, AddVectored, RemoveVectored, raise, count_of, begin_function, waiting, built_in, protected, rights_asked, Call, CallBuiltIn, Next}
use Rattle.linear_code.specs.Program.{depth_weight}
use Rattle.c_checked.specs.Expression as nodes
use Rattle.lowering_follows.proofs.Lemmas.{Part, conf, price, joins, frame_of, more, then_plain, fetch, first, stepped, prefix_self}
use Rattle.lowering_follows.proofs.NodeSettings.{NodeSetting}
use Rattle.lowering_follows.proofs.Places.{has_at, has_front, has_after}
use Rattle.lowering_follows.proofs.Lengths.{expression_length}
use Rattle.std.specs.List.{AllByRecursion}
use Rattle.vectored_list.specs.Lists.{is_listed, can_be_added, added, removed}
use Rattle.lowering_follows.proofs.Handlers.{each_added, each_left}
use Rattle.lowering_follows.proofs.TaskClaims.{pushed}
use Rattle.lowering_follows.proofs.Raises.{unwound_is}
use Rattle.lowering_follows.proofs.NodeParts.{Kp, Wv, From, from_at, here_value}
use Rattle.lowering_follows.proofs.Nodes.{RunsIn, NodeRuns, operand_runs}
use Rattle.seh_num.specs.declared.event.Event.TheVariants as events
use Rattle.lowering_follows.proofs.Stores.{memory_alike}
use Rattle.lowering_follows.proofs.Environments.{functions_at as functions_here}
use Rattle.source_meaning.specs.State.{emit_all, walk_events}

-- the last temporaries are the arguments
last_are : (ts vs : List ℕ) (count : ℕ) → length vs ≡ count
    → last_temporaries (ts ++ vs) (length ts) count ≡ Some vs
last_are ts vs count e =
    let len : length (ts ++ vs) ≡ length ts + count = length-append ts vs
    ∙ ap (λ k. length ts + k) e in
    ap (λ xs. if nat_eq (length (ts ++ vs)) (length ts + count) then Some xs else None)
    (drop_at ts vs (length ts) refl)
    ∙ ap (λ b. if b then Some vs else None) (eq-eqb (length (ts ++ vs)) (length ts + count) len)

module _ (setting : NodeSetting) (roomy : 4 ≤ setting.rate)
    (functions_at : (k : ℕ) (fn : Function) → slice_get setting.program.functions k ≡ Some fn
    → (lf : LinearFunction) × (slice_get setting.linear.functions k ≡ Some lf)) where
  open setting use {program, linear, rate, body, n, ih, code_place, code_place.{names, info, z, shapes, context, site, around}}

  abbrev G : (pc : ℕ) (temps : List ℕ) (st : State) (store : Store) (t x s o : ℕ)
      (part : ℕ → State → Store → Part) → Outcome → Type 0
  G = From setting roomy

  abbrev Km : State → Store → Type 0
  Km = Kp setting roomy

  abbrev At : ℕ → List Instruction → Type 0
  At pc is = HasAt linear site.body site.regions pc is

  arguments_runs : (es : Arguments) (rest : List Instruction) (pc : ℕ) (temps : List ℕ)
      (st : State) (store : Store) (t x o : ℕ) (part : ℕ → State → Store → Part)
      (go : List ℕ → State → Outcome) → st.steps_left ≤ n → o + 1 + body + 3 ≤ rate
      → x + arguments_weight es ≤ o
      → ArgumentsFit program z.own info es → At pc
      (arguments_code names es (length temps) pc ++ rest) → Km st store → st.held ≡ site.held
      → ((vs : List ℕ) (mid : State) (after : Store) → length vs ≡ argument_count es
      → mid.steps_left ≤ n → Km mid after → mid.held ≡ site.held
      → At (pc + arguments_size es) rest
      → G (pc + arguments_size es) (temps ++ vs) mid after t (x + arguments_weight es) o o part
      (go vs mid))
      → G pc temps st store t x o o part (each (within program n) es context st go)
  arguments_runs Done rest pc temps st store t x o part go steps light le fits has kept held k =
      let e : pc ≡ pc + 0 = omega arith in
      let h = k [] st store refl steps kept held
      (has_at linear site.body site.regions pc (pc + 0) rest e has) in
      from_at setting roomy (pc + 0) pc temps st store t x o o part (go [] st) (sym e)
      (more linear rate _ st (price t (x + 0) o o) (price t x o o)
      (Wv setting roomy part) (go [] st) (omega arith, omega arith, omega arith)
      (subst (λ ts. G (pc + 0) ts st store t (x + 0) o o part (go [] st)) (append-nil temps) h))
  arguments_runs (Next e es) rest pc temps st store t x o part go steps light le fits has kept
      held k =
      let d = length temps in
      let pc1 = pc + expression_size e in
      let ce = expression_code names e d pc in
      let cs = arguments_code names es (d + 1) pc1 in
      let grouped : (ce ++ cs) ++ rest ≡ ce ++ (cs ++ rest) = append_assoc ce cs rest in
      let has' = subst (λ code. At pc code) grouped has in
      let back = has_after linear site.body site.regions pc (expression_size e) ce (cs ++ rest)
      (expression_length names e d pc) has' in
      operand_runs setting roomy e pc temps st store t x o part
      (λ v st. each (within program n) es context st (λ vs st. go (v ∷ vs) st)) steps light
      (omega arith) fits.0 (has_front linear site.body site.regions pc ce (cs ++ rest) has')
      kept held
      (λ v mid after steps kept held.
      arguments_runs es rest pc1 (temps ++ v ∷ []) mid after t (x + expression_weight e) o part
      (λ vs st. go (v ∷ vs) st) steps light (omega arith) fits.1
      (subst (λ j. At pc1 (arguments_code names es j pc1 ++ rest)) (sym (length_push temps v))
      back) kept held (λ vs mid after len steps kept held last.
      let end : pc1 + arguments_size es ≡ pc
      + (expression_size e + arguments_size es) = omega arith in
      let h = k (v ∷ vs) mid after (ap suc len) steps kept held
      (has_at linear site.body site.regions (pc1 + arguments_size es)
      (pc + (expression_size e + arguments_size es)) rest end last) in
      more linear rate _ mid (price t (x + (expression_weight e + arguments_weight es)) o o)
      (price t (x + expression_weight e + arguments_weight es) o o)
      (Wv setting roomy part) (go (v ∷ vs) mid) (omega arith, omega arith, omega arith)
      (from_at setting roomy (pc + (expression_size e + arguments_size es))
      (pc1 + arguments_size es)
      ((temps ++ v ∷ []) ++ vs) mid after t (x + (expression_weight e + arguments_weight es)) o
      o part (go (v ∷ vs) mid) (sym end)
      (subst (λ ts. G (pc + (expression_size e + arguments_size es)) ts mid after t
      (x + (expression_weight e + arguments_weight es)) o o part (go (v ∷ vs) mid))
      (sym (append_assoc temps (v ∷ []) vs)) h))))

  call_turn : (f count pc : ℕ) (temps vs : List ℕ) (lf : LinearFunction) (st : State)
      (store : Store) (k : ℕ) → At pc (Call f (length temps) count ∷ []) → length vs ≡ count
      → slice_get linear.functions f ≡ Some lf
      → exec linear (suc k) (conf context site pc (temps ++ vs) st store)
      ≡ deeper (depth_weight lf) site.held store st.events (exec linear k
      (begin_function f lf vs site.held (Waits (frame_of context site pc temps) ∷ site.below)
      store st.events))
  unfolding with_some
  call_turn f count pc temps vs lf st store k has len there =
      let d = length temps in
      let begins : List ℕ → List ℕ → LinearFunction
      → Seen = λ ts vs lf. deeper (depth_weight lf) site.held store st.events
      (exec linear k (begin_function f lf vs site.held
      (Waits (frame_of context site pc ts) ∷ site.below) store st.events)) in
      fetch linear rate (conf context site pc (temps ++ vs) st store) (Call f d count) k has.0
      ∙ ap (λ o. with_some st.events o (λ vs'. with_some st.events (slice_get linear.functions f)
      (λ lf. begins (take d (temps ++ vs)) vs' lf))) (last_are temps vs count len)
      ∙ ap (λ o. with_some st.events o (λ lf. begins (take d (temps ++ vs)) vs lf)) there
      ∙ ap (λ ts. begins ts vs lf) (take_at temps vs d refl)

  called_runs : (f : ℕ) (fn : Function) (count pc : ℕ) (temps vs : List ℕ) (st : State)
      (store : Store) (x o : ℕ) → slice_get program.functions f ≡ Some fn → length vs ≡ count
      → count ≡ length fn.parameters → st.steps_left ≤ n → o + 1 + body + 3 ≤ rate → x ≤ o
      → At pc (Call f (length temps) count ∷ []) → Km st store → st.held ≡ site.held
      → G pc (temps ++ vs) st store 14 x o o (pushed context site (pc + 1) temps)
      (enter program (within program n) f (Some fn) vs context st)
  called_runs f fn count pc temps vs st store x o there len same steps light le has kept held =
      let lf = functions_at f fn there in
      first linear rate (conf context site pc (temps ++ vs) st store)
      (λ next. deeper (depth_weight lf.0) site.held store st.events
      (next (begin_function f lf.0 vs site.held
      (Waits (frame_of context site pc temps) ∷ site.below) store st.events))) st st
      (price 13 4 0 0) (price 14 x o o)
      (Wv setting roomy (pushed context site (pc + 1) temps))
      (enter program (within program n) f (Some fn) vs context st)
      (omega arith, omega arith, omega arith) refl refl (prefix_self st.events)
      (λ k. call_turn f count pc temps vs lf.0 st store k has len lf.1)
      (ih.call f fn lf.0 vs (Waits (frame_of context site pc temps) ∷ site.below) site.held
      (pushed context site (pc + 1) temps) code_place pc temps st store
      steps there lf.1 (len ∙ same) (record {
        same_found = ap (λ rs. handlers_in rs context.activation (length site.below)
            ++ handlers linear site.below None) has.1;
        same_functions = refl;
        onward = λ next target st store. unwound_is program linear rate body target context site
            pc temps st store next has.1;
        returns = λ next v st store. refl;
      }) kept held)

  pub call_node : (f : ℕ) (es : Arguments) (pc : ℕ) (temps : List ℕ) (st : State) (store : Store)
      → st.steps_left ≤ n → 1 + node_weight (nodes.Call f es) + body + 4 ≤ rate
      → NodeFits program z.own info (nodes.Call f es)
      → At pc (node_code names (nodes.Call f es) (length temps) pc)
      → Km st store → st.held ≡ site.held
      → RunsIn setting roomy 14 (nodes.Call f es) pc temps st store
  call_node f es pc temps st store steps light fits has kept held =
      let d = length temps in
      let w = 1 + arguments_weight es in
      let pc1 = pc + arguments_size es in
      let fn = fits.1.function in
      let end : pc1 + 1 ≡ pc + (arguments_size es + 1) = omega arith in
      let part = pushed context site (pc + (arguments_size es + 1)) temps in
      arguments_runs es (Call f d (argument_count es) ∷ []) pc temps st store 14 1 w part
      (λ vs st. enter program (within program n) f (slice_get program.functions f) vs context st)
      steps (omega arith) (omega arith) fits.0 has kept held
      (λ vs mid after len steps kept held last.
      subst (λ q. G pc1 (temps ++ vs) mid after 14 w w w (pushed context site q temps)
      (enter program (within program n) f (slice_get program.functions f) vs context mid)) end
      (subst (λ o. G pc1 (temps ++ vs) mid after 14 w w w (pushed context site (pc1 + 1) temps)
      (enter program (within program n) f o vs context mid)) (sym fits.1.there)
      (called_runs f fn (argument_count es) pc1 temps vs mid after w w fits.1.there len
      fits.1.takes steps (omega arith) (omega arith) last kept held)))

  -- ---- built-in functions

  built_in_turn : (b : BuiltIn) (pc : ℕ) (temps vs : List ℕ) (st : State) (store : Store) (k : ℕ)
      → At pc (CallBuiltIn b (length temps) ∷ []) → length vs ≡ count_of b
      → exec linear (suc k) (conf context site pc (temps ++ vs) st store)
      ≡ built_in linear (exec linear k) b vs (conf context site pc temps st store)
  unfolding with_some
  built_in_turn b pc temps vs st store k has len =
      let d = length temps in
      fetch linear rate (conf context site pc (temps ++ vs) st store) (CallBuiltIn b d) k has.0
      ∙ ap (λ o. with_some st.events o (λ vs'. built_in linear (exec linear k) b vs'
      (waiting (conf context site pc (temps ++ vs) st store) d)))
      (last_are temps vs (count_of b) len)
      ∙ ap (λ ts. built_in linear (exec linear k) b vs (conf context site pc ts st store))
      (take_at temps vs d refl)

  -- the vectored handlers change
  handlers_set : (pc : ℕ) (temps vs : List ℕ) (st : State) (store : Store) (x o v : ℕ)
      (handlers : List ℕ) → AllByRecursion (λ f. IsCalled program f 2) handlers → Km st store
      → st.held ≡ site.held
      → ((k : ℕ) → exec linear (suc k) (conf context site pc (temps ++ vs) st store)
      ≡ pushed context site (pc + 1) temps v st (record store { vectored = handlers })
      (exec linear k))
      → x ≤ rate + o → G pc (temps ++ vs) st store 13 x o o (pushed context site (pc + 1) temps)
      (Gives (Value v) (set_vectored st handlers))
  handlers_set pc temps vs st store x o v handlers each kept held turns le =
      let st' : State = set_vectored st handlers in
      let store' : Store = record store { vectored = handlers } in
      record {
        store = store';
        fits = (
          record {
            same_memory = kept.0.same_memory;
            count = kept.0.count;
            activations = kept.0.activations;
            each = kept.0.each;
          },
          kept.1,
          record {
            functions_are = kept.2.functions_are;
            same_handlers = refl;
            are_called = each;
          },
        );
        same = held;
        reaches = stepped linear rate (conf context site pc (temps ++ vs) st store)
            (pushed context site (pc + 1) temps v st' store') st st' 13 x o refl (omega arith) le
            refl (prefix_self st.events) turns;
      }

  built_in_runs : (b : BuiltIn) (pc : ℕ) (temps vs : List ℕ) (st : State) (store : Store)
      (x o : ℕ) → BuiltInFits program b → length vs ≡ count_of b → st.steps_left ≤ n
      → o + 1 + body + 3 ≤ rate → x ≤ o → At pc (CallBuiltIn b (length temps) ∷ [])
      → Km st store → st.held ≡ site.held
      → G pc (temps ++ vs) st store 13 x o o (pushed context site (pc + 1) temps)
      (call_built_in (within program n) b vs context st)
  built_in_runs Put pc temps vs st store x o fits len steps light le has kept held =
      let e = events.Put (signed W64 (get_or vs 0 0)) in
      record {
        store = store;
        fits = kept;
        same = held;
        reaches = stepped linear rate (conf context site pc (temps ++ vs) st store)
            (pushed context site (pc + 1) temps 0 (emit e st) store) st (emit e st) 13 x o refl
            (omega arith) (omega arith) refl (e ∷ [], refl)
            (λ k. built_in_turn Put pc temps vs st store k has len);
      }
  built_in_runs Protect pc temps vs st store x o fits len steps light le has kept held =
      let a = get_or vs 0 0 in
      let mode = signed W32 (get_or vs 1 0) in
      let v = of_test (is_some (rights_asked a mode)) in
      let m = protected st.memory a mode in
      let st' : State = set_memory st m in
      let store' : Store = record store { memory = m } in
      record {
        store = store';
        fits = (memory_alike shapes st.memory st.frames store m kept.0, kept.1, kept.2);
        same = held;
        reaches = stepped linear rate (conf context site pc (temps ++ vs) st store)
            (pushed context site (pc + 1) temps v st' store') st st' 13 x o refl (omega arith)
            (omega arith) refl (prefix_self st.events)
            (λ k. built_in_turn Protect pc temps vs st store k has len
            ∙ ap (λ q. pushed context site (pc + 1) temps v st
            (record store { memory = protected q a mode }) (exec linear k))
            kept.0.same_memory);
      }
  built_in_runs RaiseException pc temps vs st store x o fits len steps light le has kept held =
      let exc : Exception = raised (get_or vs 0 0) (get_or vs 1 0) in
      let part : Part = λ next. raise linear next exc AfterCall
      (conf context site pc temps st store) in
      let w = Wv setting roomy (pushed context site (pc + 1) temps) in
      let last : State → Outcome = λ st. Gives (Value 0) st in
      first linear rate (conf context site pc (temps ++ vs) st store) part st st
      (price 0 0 1 rate) (price 13 x o o) w
      (and_then (within program n (Raise exc) context st) last)
      (omega arith, omega arith, omega arith) refl refl (prefix_self st.events)
      (λ k. built_in_turn RaiseException pc temps vs st store k has len)
      (then_plain linear rate part (λ st store. pushed context site (pc + 1) temps 0 st store) w
      st (price 0 0 1 rate) (price 0 0 0 0) (price 0 0 1 rate)
      (within program n (Raise exc) context st) last
      (joins (omega arith) (omega arith) (omega arith) (omega arith))
      (ih.raised exc AfterCall code_place pc temps st store steps has.1 kept held)
      (λ mid after lower kept held. here_value setting roomy (pc + 1) temps 0 mid after 0 0 0 0
      (omega arith) kept held))
  built_in_runs (AddVectored f) pc temps vs st store x o fits len steps light le has kept held =
      let first = not (nat_eq (low W32 (get_or vs 0 0)) 0) in
      handlers_set pc temps vs st store x o (of_test (can_be_added f st.vectored))
      (added first f st.vectored)
      (each_added (λ f. IsCalled program f 2) first f st.vectored fits.called
      kept.2.are_called) kept held
      (λ k. built_in_turn (AddVectored f) pc temps vs st store k has len
      ∙ ap (λ fs. pushed context site (pc + 1) temps (of_test (can_be_added f fs)) st
      (record store { vectored = added first f fs }) (exec linear k)) kept.2.same_handlers)
      (omega arith)
  built_in_runs (RemoveVectored f) pc temps vs st store x o fits len steps light le has kept
      held =
      handlers_set pc temps vs st store x o (of_test (is_listed f st.vectored))
      (removed f st.vectored)
      (each_left (λ f. IsCalled program f 2) f st.vectored kept.2.are_called) kept held
      (λ k. built_in_turn (RemoveVectored f) pc temps vs st store k has len
      ∙ ap (λ fs. pushed context site (pc + 1) temps (of_test (is_listed f fs)) st
      (record store { vectored = removed f fs }) (exec linear k)) kept.2.same_handlers)
      (omega arith)
  built_in_runs Walk pc temps vs st store x o fits len steps light le has kept held =
      let es = walk_events (reverse st.functions) in
      let same : functions_here site ≡ reverse st.functions = around.functions
      ∙ ap reverse (sym kept.2.functions_are) in
      record {
        store = store;
        fits = kept;
        same = held;
        reaches = stepped linear rate (conf context site pc (temps ++ vs) st store)
            (pushed context site (pc + 1) temps 0 (emit_all es st) store) st (emit_all es st) 13
            x o refl (omega arith) (omega arith) refl (es, refl)
            (λ k. built_in_turn Walk pc temps vs st store k has len
            ∙ ap (λ fs. pushed context site (pc + 1) temps 0 (emit_all (walk_events fs) st) store
            (exec linear k)) same);
      }

  pub built_in_node : (b : BuiltIn) (es : Arguments) (pc : ℕ) (temps : List ℕ) (st : State)
      (store : Store) → st.steps_left ≤ n → 1 + node_weight (nodes.CallBuiltIn b es) + body + 4
      ≤ rate → NodeFits program z.own info (nodes.CallBuiltIn b es)
      → At pc (node_code names (nodes.CallBuiltIn b es) (length temps) pc) → Km st store
      → st.held ≡ site.held → NodeRuns setting roomy (nodes.CallBuiltIn b es) pc temps st store
  built_in_node b es pc temps st store steps light fits has kept held =
      let d = length temps in
      let w = 1 + arguments_weight es in
      let pc1 = pc + arguments_size es in
      let end : pc1 + 1 ≡ pc + (arguments_size es + 1) = omega arith in
      let part = pushed context site (pc + (arguments_size es + 1)) temps in
      arguments_runs es (CallBuiltIn b d ∷ []) pc temps st store 13 1 w part
      (λ vs st. call_built_in (within program n) b vs context st) steps (omega arith)
      (omega arith) fits.0 has kept held
      (λ vs mid after len steps kept held last.
      subst (λ q. G pc1 (temps ++ vs) mid after 13 w w w (pushed context site q temps)
      (call_built_in (within program n) b vs context mid)) end
      (built_in_runs b pc1 temps vs mid after w w fits.2 (len ∙ fits.1) steps (omega arith)
      (omega arith) last kept held))
