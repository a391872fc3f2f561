-- Unwindings and searches over the same that waits go alike, whatever the locals are.
use Rattle.std.proofs.Common.{◌≡◌, ◌≤◌, ℕ, ◌+◌, ◌-◌, ◌^◌, List, [], ◌∷◌, ◌++◌, length, refl, sym, ap, subst, arith}
use Rattle.std.proofs.lemmas.List.{length-replicate}
use Rattle.std.specs.Prelude.{Bool, true, nat_eq, nat_lt, drop, take, replicate, slice_get, Option, Some, None}
use Rattle.lowering_locals.specs.Words.{Event, W32, low, signed, Exception, of_test, noncontinuable, raise_event, handler_arguments, Region, RegionKind, FuncletKind, LinearProgram, LinearFunction, BodyName, FunctionBody, FuncletBody, Handler, Target, Resumption, AfterCall, SameOperation, FilterOf, VectoredAt, Item, Waits, Searches, Unwinds, Store, Configuration, Seen, Finished, Stuck, Next, pick, deeper, at_label, forth, with_last, regions_at, regions_left, handlers, stops, flag_of, begin_finally, run_finally, arrive, target_past, left_store, leave_region, unwind_body, unwind, target_of, accept, consult, search, ask_vectored, ask_at, ask_from, raise, resumed, continued, answer, begin_filter, answered, vectored_answered, begin_function, return, end_finally, end_funclet, end_body, Marks, begins_block, flag_set, set_mark, with_mark, function_of_body, begun_marks, AreActivationsAlike}
use Rattle.seh_num.specs.declared.event.Event.TheVariants as events
use Rattle.source_meaning.specs.declared.ended.Ended.TheVariants as ends
use Rattle.linear_code.specs.declared.program.RegionKind.TheVariants as kinds
use Rattle.linear_code.specs.declared.program.FuncletKind.TheVariants as funclets
use Rattle.linear_code.specs.Program.{depth_weight}
use Rattle.lowering_locals.proofs.Lists.{set_in, set_long, taken_fewer, Alive, taken_alive, set_alive, alive_long}
use Rattle.lowering_locals.proofs.Begins.{begun_in, none_begun, begun_after}
use Rattle.lowering_locals.proofs.Events.{Adds, adds_one, no_block_events, block_events}
use Rattle.lowering_locals.proofs.TurnPairs.{over_store, over, Both, Halt, Move, pick_both, some_both, deeper_both}

-- no more activations live where a body is left
pub left_fewer : (name : BodyName) (k : ℕ) (store : Store)
    → length (left_store name k store).activations ≤ length store.activations
left_fewer (FunctionBody f) k store = taken_fewer k store.activations
left_fewer (FuncletBody j) k store = omega arith

module _ (program : LinearProgram) (marks : Marks) (before : List Event) (left : ℕ) where
  -- the marks where a turn leads to, which leaves so many activations before a function begins
  abbrev pub marks_to : Configuration → Marks
  marks_to c =
      begun_marks (nat_lt left (length c.store.activations))
      (function_of_body program c.frame.body) 2 left (length c.store.activations) marks

  -- the activations that are left are alike, and a local that is written is set
  abbrev pub AfterWrite : Option ℕ → ℕ → Configuration → List (List ℕ) → Type 0
  AfterWrite written k c ys =
      AreActivationsAlike (with_mark (flag_set program
      (begins_block (drop (length before) c.events)) c.frame.body) c.frame.activation
      (with_mark written k (marks_to c))) c.store.activations ys

  abbrev pub After : Configuration → List (List ℕ) → Type 0
  After c ys = AfterWrite None 0 c ys

  -- alike, and no more than were left
  abbrev pub Lives : List (List ℕ) → List (List ℕ) → Type 0
  Lives xs ys = Alive marks xs ys × (length xs ≤ left)

  pub all_live : (xs ys : List (List ℕ)) → Alive marks xs ys → length xs ≡ left → Lives xs ys
  all_live xs ys l n = (l, omega arith)

  pub no_block_after : (written : Option ℕ) (k : ℕ) (c : Configuration) (ys : List (List ℕ))
      → Adds before c.events → length c.store.activations ≤ left → AreActivationsAlike
      (with_mark written k (take (length c.store.activations) marks)) c.store.activations ys
      → AfterWrite written k c ys
  no_block_after written k c ys a le h =
      subst (λ b. AreActivationsAlike (with_mark (flag_set program b c.frame.body)
      c.frame.activation (with_mark written k (marks_to c))) c.store.activations ys)
      (sym (no_block_events before c.events a))
      (subst (λ ms. AreActivationsAlike (with_mark written k ms) c.store.activations ys)
      (sym (none_begun (function_of_body program c.frame.body) 2 left
      (length c.store.activations) marks le)) h)

  pub goes : (c : Configuration) (ys : List (List ℕ)) → Adds before c.events
      → Lives c.store.activations ys → Both After (λ next. next c) (λ next. next (over c ys))
  goes c ys a h = Move c ys (no_block_after None 0 c ys a h.1 h.0) (λ next. refl) (λ next. refl)

  -- ---- unwinding

  pub block_both : (k held : ℕ) (abnormal : Bool) (items : List Item) (c : Configuration)
      (ys : List (List ℕ)) → Adds before c.events → Lives c.store.activations ys
      → Both After (λ next. run_finally program k abnormal held items next c)
      (λ next. run_finally program k abnormal held items next (over c ys))
  block_both k held abnormal items c ys a h =
      some_both After c.events (flag_of (slice_get program.funclets k))
      (flag_of (slice_get program.funclets k))
      (λ next flag. deeper 2 held c.store c.events
      (next (begin_finally k flag abnormal held items c)))
      (λ next flag. deeper 2 held (over_store c.store ys) c.events
      (next (begin_finally k flag abnormal held items (over c ys)))) refl (λ flag e.
      deeper_both After 2 held c.store ys c.events
      (λ next. next (begin_finally k flag abnormal held items c))
      (λ next. next (begin_finally k flag abnormal held items (over c ys)))
      (alive_long marks c.store.activations ys h.0)
      (Move (begin_finally k flag abnormal held items c)
      (set_in ys c.frame.activation flag (of_test abnormal)) (begun flag e) (λ next. refl)
      (λ next. refl)))
    where
      begun : (flag : ℕ) → flag_of (slice_get program.funclets k) ≡ Some flag
          → After (begin_finally k flag abnormal held items c)
          (set_in ys c.frame.activation flag (of_test abnormal))
      begun flag e =
          let n = c.frame.activation in
          let xs' = set_in c.store.activations n flag (of_test abnormal) in
          let ys' = set_in ys n flag (of_test abnormal) in
          let live = length xs' in
          let few : live ≤ left = subst (λ m. m ≤ left)
          (sym (set_long c.store.activations n flag (of_test abnormal))) h.1 in
          let to = begun_marks (nat_lt left live) None 2 left live marks in
          subst (λ b. AreActivationsAlike (with_mark (flag_set program b (FuncletBody k)) n to)
          xs' ys') (sym (block_events before c.events (k + 1) abnormal a))
          (subst (λ o. AreActivationsAlike (with_mark o n to) xs' ys') (sym e)
          (subst (λ ms. AreActivationsAlike (set_mark ms n flag) xs' ys')
          (sym (none_begun None 2 left live marks few))
          (set_alive marks c.store.activations ys n flag (of_test abnormal) h.0)))

  arrive_both : (code : Option ℕ) (t : Target) (c : Configuration) (ys : List (List ℕ))
      → Adds before c.events → Lives c.store.activations ys
      → Both After (λ next. arrive t code next c) (λ next. arrive t code next (over c ys))
  arrive_both None t c ys a h = goes (at_label t.label c) ys a h
  arrive_both (Some code) t c ys a h =
      goes (record c {
        frame = record c.frame
            { next = t.label; temporaries = []; landed = Some code };
        events = c.events ++ events.Except (record { 0 = code }) ∷ [];
      }) ys
      (adds_one before c.events (events.Except (record { 0 = code })) a refl) h

  leave_both : (r : RegionKind) (t : Target) (rest : List Region) (on on' : Next → Seen)
      (c : Configuration) (ys : List (List ℕ)) → Adds before c.events
      → Lives c.store.activations ys → Both After on on'
      → Both After (λ next. leave_region program next t r rest (on next) c)
      (λ next. leave_region program next t r rest (on' next) (over c ys))
  leave_both (kinds.Finally j) t rest on on' c ys a h o = block_both j t.held true
      (Unwinds rest t ∷ Waits c.frame ∷ c.below) c ys a h
  leave_both (kinds.Filter j l) t rest on on' c ys a h o = o
  leave_both (kinds.Always l) t rest on on' c ys a h o = o

  body_both : (t : Target) (out : Next → Store → Seen) (rs : List Region) (c : Configuration)
      (ys : List (List ℕ)) → Adds before c.events → Lives c.store.activations ys
      → Both After (λ next. out next (left_store c.frame.body c.frame.activation c.store))
      (λ next. out next (left_store c.frame.body c.frame.activation (over_store c.store ys)))
      → Both After (λ next. unwind_body program next t (out next) rs c)
      (λ next. unwind_body program next t (out next) rs (over c ys))
  body_both t out [] c ys a h o =
      pick_both After (nat_eq t.depth (length c.below)) (λ next. arrive t t.code next c)
      (λ next. out next (left_store c.frame.body c.frame.activation c.store))
      (λ next. arrive t t.code next (over c ys))
      (λ next. out next (left_store c.frame.body c.frame.activation (over_store c.store ys)))
      (arrive_both t.code t c ys a h) o
  body_both t out (x ∷ rs) c ys a h o =
      pick_both After (stops t x (length c.below)) (λ next. arrive t t.code next c)
      (λ next. leave_region program next t x.kind rs (unwind_body program next t (out next) rs c)
      c)
      (λ next. arrive t t.code next (over c ys))
      (λ next. leave_region program next t x.kind rs
      (unwind_body program next t (out next) rs (over c ys)) (over c ys))
      (arrive_both t.code t c ys a h)
      (leave_both x.kind t rs (λ next. unwind_body program next t (out next) rs c)
      (λ next. unwind_body program next t (out next) rs (over c ys)) c ys a h
      (body_both t out rs c ys a h o))

  -- where a body is left
  out_both : (name : BodyName) (k : ℕ) (store : Store) (ys : List (List ℕ))
      (out : Next → Store → Seen) → Alive marks store.activations ys
      → ((zs : List (List ℕ)) → Alive marks (left_store name k store).activations zs
      → Both After (λ next. out next (left_store name k store))
      (λ next. out next (over_store (left_store name k store) zs)))
      → Both After (λ next. out next (left_store name k store))
      (λ next. out next (left_store name k (over_store store ys)))
  out_both (FunctionBody f) k store ys out h go = go (take k ys)
      (taken_alive k marks store.activations ys h)
  out_both (FuncletBody j) k store ys out h go = go ys h

  pub unwind_both : (t : Target) (items : List Item) (regions : Option (List Region))
      (es : List Event) (store : Store) (ys : List (List ℕ)) → Adds before es
      → Lives store.activations ys
      → Both After (λ next. unwind program next t items regions es store)
      (λ next. unwind program next t items regions es (over_store store ys))
  unwind_both t [] regions es store ys a h = Halt (Stuck es) (λ next. refl) (λ next. refl)
  unwind_both t (Waits f ∷ below) regions es store ys a h =
      let out : Next → Store → Seen = λ next s. unwind program next (target_past f.body t) below
      None es s in
      let few = left_fewer f.body f.activation store in
      let most = h.1 in
      let fewer : length (left_store f.body f.activation store).activations ≤ left = omega arith in
      body_both t out (regions_left regions (regions_at program f.body f.next))
      (record { frame = f; below = below; store = store; events = es }) ys a h
      (out_both f.body f.activation store ys out h.0
      (λ zs p. unwind_both (target_past f.body t) below None es
      (left_store f.body f.activation store) zs a (p, fewer)))
  unwind_both t (Searches exception resumption asked ∷ below) regions es store ys a h =
      unwind_both t below None es store ys a h
  unwind_both t (Unwinds rest older ∷ below) regions es store ys a h =
      unwind_both t below (Some rest) es store ys a h

  -- ---- searching

  -- a raise leaves all activations
  abbrev pub All : List (List ℕ) → List (List ℕ) → Type 0
  All xs ys = Alive marks xs ys × (length xs ≡ left)

  pub living : (xs ys : List (List ℕ)) → All xs ys → Lives xs ys
  living xs ys l = all_live xs ys l.0 l.1

  accept_both : (h : Handler) (exception : Exception) (c : Configuration) (ys : List (List ℕ))
      → Adds before c.events → Lives c.store.activations ys
      → Both After (λ next. accept program h exception next c)
      (λ next. accept program h exception next (over c ys))
  accept_both h exception c ys a l = unwind_both (target_of h exception.code c.frame.held)
      (Waits c.frame ∷ c.below) None c.events c.store ys a l

  consult_both : (k : Option ℕ) (h : Handler) (rest : List Handler) (exception : Exception)
      (resumption : Resumption) (c : Configuration) (ys : List (List ℕ)) → Adds before c.events
      → Lives c.store.activations ys
      → Both After (λ next. consult program k h rest exception resumption next c)
      (λ next. consult program k h rest exception resumption next (over c ys))
  consult_both None h rest exception resumption c ys a l = accept_both h exception c ys a l
  consult_both (Some k) h rest exception resumption c ys a l =
      deeper_both After 2 c.frame.held c.store ys c.events
      (λ next. next (begin_filter k h rest exception resumption c))
      (λ next. next (begin_filter k h rest exception resumption (over c ys)))
      (alive_long marks c.store.activations ys l.0)
      (goes (begin_filter k h rest exception resumption c) ys
      (adds_one before c.events (events.Filter (k + 1)) a refl) l)

  search_both : (found : List Handler) (exception : Exception) (resumption : Resumption)
      (c : Configuration) (ys : List (List ℕ)) → Adds before c.events
      → Lives c.store.activations ys
      → Both After (λ next. search program next found exception resumption c)
      (λ next. search program next found exception resumption (over c ys))
  search_both [] exception resumption c ys a l = Halt
      (Finished (ends.Unhandled (record { 0 = exception.code })) c.events) (λ next. refl)
      (λ next. refl)
  search_both (h ∷ rest) exception resumption c ys a l = consult_both h.filter h rest exception
      resumption c ys a l

  -- ---- vectored handlers

  ask_both : (f place : ℕ) (exception : Exception) (resumption : Resumption) (c : Configuration)
      (ys : List (List ℕ)) → Adds before c.events → All c.store.activations ys
      → Both After (λ next. ask_vectored program next f place exception resumption c)
      (λ next. ask_vectored program next f place exception resumption (over c ys))
  ask_both f place exception resumption c ys a l =
      let asked : Store → Next → LinearFunction → Seen = λ store next function.
      deeper (2 + depth_weight function) c.frame.held store c.events
      (next (begun function store)) in
      some_both After c.events (slice_get program.functions f) (slice_get program.functions f)
      (asked c.store) (asked (over_store c.store ys)) refl (λ function e.
      deeper_both After (2 + depth_weight function) c.frame.held c.store ys c.events
      (λ next. next (begun function c.store))
      (λ next. next (begun function (over_store c.store ys)))
      (alive_long marks c.store.activations ys l.0)
      (Move (begun function c.store) (with_new function) (after function e) (λ next. refl)
      (λ next. ap (λ n. next (begun_in n f
      (c.frame.held + 2 + (function.surplus + function.data_surplus)) below
      (over_store c.store (with_new function)) c.events))
      (alive_long marks c.store.activations ys l.0))))
    where
      vs : List ℕ
      vs = handler_arguments exception

      below : List Item
      below = Searches exception resumption (VectoredAt place) ∷ Waits c.frame ∷ c.below

      begun : LinearFunction → Store → Configuration
      begun function store =
          begin_function f function vs (c.frame.held + 2) below store c.events

      zeros : LinearFunction → List ℕ
      zeros function = replicate (function.body.locals - function.parameters) 0

      with_new : LinearFunction → List (List ℕ)
      with_new function = ys ++ (vs ++ zeros function) ∷ []

      after : (function : LinearFunction) → slice_get program.functions f ≡ Some function
          → After (begun function c.store) (with_new function)
      after function e =
          let xs' = c.store.activations ++ (vs ++ zeros function) ∷ [] in
          let ys' = with_new function in
          let live = length xs' in
          let zs = length-replicate (function.body.locals - function.parameters) 0 in
          subst (λ b. AreActivationsAlike (with_mark (flag_set program b (FunctionBody f))
          (length c.store.activations) (marks_to (begun function c.store))) xs' ys')
          (sym (no_block_events before c.events a))
          (subst (λ (o : Option LinearFunction). AreActivationsAlike
          (begun_marks (nat_lt left live) o 2 left live marks) xs' ys') (sym e)
          (begun_after function left marks c.store.activations ys vs (zeros function)
          (zeros function) 2 refl zs zs l.0 l.1))

  at_both : (o : Option ℕ) (place : ℕ) (exception : Exception) (resumption : Resumption)
      (c : Configuration) (ys : List (List ℕ)) → Adds before c.events → All c.store.activations ys
      → Both After (λ next. ask_at program next o place exception resumption c)
      (λ next. ask_at program next o place exception resumption (over c ys))
  at_both None place exception resumption c ys a l =
      search_both (handlers program (Waits c.frame ∷ c.below) None) exception resumption c ys a
      (living c.store.activations ys l)
  at_both (Some f) place exception resumption c ys a l =
      ask_both f place exception resumption c ys a l

  from_both : (place : ℕ) (exception : Exception) (resumption : Resumption) (c : Configuration)
      (ys : List (List ℕ)) → Adds before c.events → All c.store.activations ys
      → Both After (λ next. ask_from program next place exception resumption c)
      (λ next. ask_from program next place exception resumption (over c ys))
  from_both place exception resumption c ys a l =
      at_both (slice_get c.store.vectored place) place exception resumption c ys a l

  pub raise_both : (exception : Exception) (resumption : Resumption) (c : Configuration)
      (ys : List (List ℕ)) → Adds before c.events → All c.store.activations ys
      → Both After (λ next. raise program next exception resumption c)
      (λ next. raise program next exception resumption (over c ys))
  raise_both exception resumption c ys a l =
      from_both 0 exception resumption
      (record c { events = c.events ++ raise_event exception ∷ [] }) ys
      (adds_one before c.events (raise_event exception) a refl) l

  resumed_both : (resumption : Resumption) (c : Configuration) (ys : List (List ℕ))
      → Adds before c.events → Lives c.store.activations ys
      → Both After (λ next. next (resumed resumption c))
      (λ next. next (resumed resumption (over c ys)))
  resumed_both AfterCall c ys a l = goes (forth (with_last (c.frame.temporaries ++ 0 ∷ []) c)) ys a
      l
  resumed_both SameOperation c ys a l = goes c ys a l

  continued_both : (exception : Exception) (resumption : Resumption) (c : Configuration)
      (ys : List (List ℕ)) → Adds before c.events → All c.store.activations ys
      → Both After (λ next. continued program next exception resumption c)
      (λ next. continued program next exception resumption (over c ys))
  continued_both exception resumption c ys a l =
      pick_both After exception.flag (λ next. raise program next noncontinuable resumption c)
      (λ next. next (resumed resumption c))
      (λ next. raise program next noncontinuable resumption (over c ys))
      (λ next. next (resumed resumption (over c ys)))
      (raise_both noncontinuable resumption c ys a l)
      (resumed_both resumption c ys a (living c.store.activations ys l))

  answered_both : (v : ℕ) (exception : Exception) (resumption : Resumption) (h : Handler)
      (rest : List Handler) (c : Configuration) (ys : List (List ℕ)) → Adds before c.events
      → All c.store.activations ys
      → Both After (λ next. answered program next v exception resumption h rest c)
      (λ next. answered program next v exception resumption h rest (over c ys))
  answered_both v exception resumption h rest c ys a l =
      let chosen : Configuration → Next → Seen = λ d next. pick (nat_lt (low W32 v) (2 ^ 31))
      (accept program h exception next d) (continued program next exception resumption d) in
      let m = living c.store.activations ys l in
      pick_both After (nat_eq (low W32 v) 0) (λ next. search program next rest exception resumption
      c) (chosen c) (λ next. search program next rest exception resumption (over c ys))
      (chosen (over c ys))
      (search_both rest exception resumption c ys a m)
      (pick_both After (nat_lt (low W32 v) (2 ^ 31)) (λ next. accept program h exception next c)
      (λ next. continued program next exception resumption c)
      (λ next. accept program h exception next (over c ys))
      (λ next. continued program next exception resumption (over c ys))
      (accept_both h exception c ys a m) (continued_both exception resumption c ys a l))

  vectored_both : (v place : ℕ) (exception : Exception) (resumption : Resumption)
      (c : Configuration) (ys : List (List ℕ)) → Adds before c.events → All c.store.activations ys
      → Both After (λ next. vectored_answered program next v place exception resumption c)
      (λ next. vectored_answered program next v place exception resumption (over c ys))
  vectored_both v place exception resumption c ys a l =
      pick_both After (nat_lt (low W32 v) (2 ^ 31))
      (λ next. ask_from program next (place + 1) exception resumption c)
      (λ next. continued program next exception resumption c)
      (λ next. ask_from program next (place + 1) exception resumption (over c ys))
      (λ next. continued program next exception resumption (over c ys))
      (from_both (place + 1) exception resumption c ys a l)
      (continued_both exception resumption c ys a l)

  -- ---- ends of bodies

  stuck : (es : List Event) → Both After (λ next. Stuck es) (λ next. Stuck es)
  stuck es = Halt (Stuck es) (λ next. refl) (λ next. refl)

  answer_both : (v : ℕ) (items : List Item) (es : List Event) (store : Store) (ys : List (List ℕ))
      → Adds before es → All store.activations ys
      → Both After (λ next. answer program next v items es store)
      (λ next. answer program next v items es (over_store store ys))
  answer_both v [] es store ys a l = stuck es
  answer_both v (Waits f ∷ below) es store ys a l = stuck es
  answer_both v (Unwinds rest t ∷ below) es store ys a l = stuck es
  answer_both v (Searches exception resumption (VectoredAt place) ∷ below) es store ys a l =
      stuck es
  answer_both v (Searches exception resumption (FilterOf h rest) ∷ []) es store ys a l = stuck es
  answer_both v (Searches exception resumption (FilterOf h rest) ∷ Searches e r s ∷ below) es store
      ys a l =
      stuck es
  answer_both v (Searches exception resumption (FilterOf h rest) ∷ Unwinds s t ∷ below) es store ys
      a l =
      stuck es
  answer_both v (Searches exception resumption (FilterOf h rest) ∷ Waits f ∷ below) es store ys a
      l =
      answered_both v exception resumption h rest
      (record {
        frame = f;
        below = below;
        store = store;
        events = es ++ events.Answer (signed W32 v) ∷ [];
      }) ys
      (adds_one before es (events.Answer (signed W32 v)) a refl) l

  return_both : (v : ℕ) (items : List Item) (es : List Event) (store : Store) (ys : List (List ℕ))
      → Adds before es → All store.activations ys
      → Both After (λ next. return program next v items es store)
      (λ next. return program next v items es (over_store store ys))
  return_both v [] es store ys a l = Halt (Finished (ends.Exit (signed W32 v)) es) (λ next. refl)
      (λ next. refl)
  return_both v (Waits f ∷ below) es store ys a l =
      goes (forth (with_last (f.temporaries ++ v ∷ [])
      (record { frame = f; below = below; store = store; events = es }))) ys a
      (living store.activations ys l)
  return_both v (Unwinds rest t ∷ below) es store ys a l = stuck es
  return_both v (Searches exception resumption (FilterOf h rest) ∷ below) es store ys a l = stuck es
  return_both v (Searches exception resumption (VectoredAt place) ∷ []) es store ys a l = stuck es
  return_both v (Searches exception resumption (VectoredAt place) ∷ Searches e r s ∷ below) es store
      ys a l =
      stuck es
  return_both v (Searches exception resumption (VectoredAt place) ∷ Unwinds s t ∷ below) es store ys
      a l =
      stuck es
  return_both v (Searches exception resumption (VectoredAt place) ∷ Waits f ∷ below) es store ys a
      l =
      vectored_both v place exception resumption
      (record { frame = f; below = below; store = store; events = es }) ys a l

  finally_both : (items : List Item) (es : List Event) (store : Store) (ys : List (List ℕ))
      → Adds before es → Lives store.activations ys
      → Both After (λ next. end_finally program next items es store)
      (λ next. end_finally program next items es (over_store store ys))
  finally_both [] es store ys a l = stuck es
  finally_both (Searches exception resumption asked ∷ below) es store ys a l = stuck es
  finally_both (Waits f ∷ below) es store ys a l = goes
      (forth (record { frame = f; below = below; store = store; events = es })) ys a l
  finally_both (Unwinds rest t ∷ []) es store ys a l = stuck es
  finally_both (Unwinds rest t ∷ Searches exception resumption asked ∷ below) es store ys a l =
      stuck es
  finally_both (Unwinds rest t ∷ Unwinds s older ∷ below) es store ys a l = stuck es
  finally_both (Unwinds rest t ∷ Waits f ∷ below) es store ys a l = unwind_both t (Waits f ∷ below)
      (Some rest) es store ys a l

  funclet_both : (kind : FuncletKind) (v : ℕ) (c : Configuration) (ys : List (List ℕ))
      → Adds before c.events → All c.store.activations ys
      → Both After (λ next. end_funclet program next kind v c)
      (λ next. end_funclet program next kind v (over c ys))
  funclet_both funclets.Filter v c ys a l = answer_both v c.below c.events c.store ys a l
  funclet_both (funclets.Finally flag) v c ys a l = finally_both c.below c.events c.store ys a
      (living c.store.activations ys l)

  -- the end of a body, which leaves so many activations
  pub end_both : (name : BodyName) (v : ℕ) (c : Configuration) (ys : List (List ℕ))
      → Adds before c.events → Alive marks c.store.activations ys
      → length (left_store c.frame.body c.frame.activation c.store).activations ≡ left
      → length (left_store name c.frame.activation c.store).activations ≡ left
      → Both After (λ next. end_body program next name v c)
      (λ next. end_body program next name v (over c ys))
  end_both (FunctionBody f) v c ys a l n m =
      out_both c.frame.body c.frame.activation c.store ys
      (λ next s. return program next v c.below c.events s) l
      (λ zs p. return_both v c.below c.events (left_store c.frame.body c.frame.activation c.store)
      zs a (p, n))
  end_both (FuncletBody k) v c ys a l n m =
      some_both After c.events (slice_get program.funclets k) (slice_get program.funclets k)
      (λ next f. end_funclet program next f.kind v c)
      (λ next f. end_funclet program next f.kind v (over c ys)) refl
      (λ f e. funclet_both f.kind v c ys a (l, m))
