-- Where a turn of an operation, of a call of RaiseException or of a return begins a function, it
-- asks a vectored handler: it takes a code and flags, and what the instruction leaves is below.
use Rattle.std.proofs.Common.{◌≡◌, ℕ, ◌+◌, ◌-◌, ◌^◌, ◌<◌, suc, List, [], ◌∷◌, ◌++◌, length, refl, sym, ap, subst, ◌∙◌, arith, length-append}
use Rattle.std.specs.Prelude.{Bool, true, false, if◌then◌else◌, nat_eq, nat_lt, slice_get, get_or, replicate, Option, Some, None}
use Rattle.seh_num.specs.declared.event.Event.{Event}
use Rattle.seh_num.specs.declared.event.Event.TheVariants as events
use Rattle.seh_num.specs.declared.width.Width.TheVariants.{W32}
use Rattle.seh_num.specs.Widths.{low, signed}
use Rattle.c_operations.specs.declared.built_in.BuiltIn.TheVariants.{RaiseException}
use Rattle.c_operations.specs.declared.operation.Operation.{Operation}
use Rattle.c_operations.specs.Performed.{OperationResult, Gives, Raises, Undefined, performed}
use Rattle.source_meaning.specs.State.{Exception}
use Rattle.source_meaning.specs.Source.{is_reserved}
use Rattle.source_meaning.specs.Expressions.{raised}
use Rattle.source_meaning.specs.Raises.{noncontinuable, raise_event, handler_arguments}
use Rattle.source_meaning.specs.declared.ended.Ended.TheVariants as ends
use Rattle.linear_code.specs.declared.instruction.Instruction.TheVariants as instructions
use Rattle.linear_code.specs.declared.program.Region.{Region}
use Rattle.linear_code.specs.declared.program.RegionKind.{RegionKind}
use Rattle.linear_code.specs.declared.program.RegionKind.TheVariants as kinds
use Rattle.linear_code.specs.declared.program.FuncletKind.TheVariants as funclets
use Rattle.linear_machine.specs.Frames.{Handler, Target, Resumption, AfterCall, SameOperation, Store, forth, with_last, write, read}
use Rattle.linear_machine.specs.Regions.{regions_at, regions_left, handlers, stops}
use Rattle.linear_machine.specs.Unwinding.{flag_of, begin_finally, run_finally, arrive, target_past, left_store, leave_region, unwind_body, unwind}
use Rattle.linear_machine.specs.Searching.{target_of, accept, begin_filter, consult, search, ask_at, ask_from, raise, resumed, continued, answer}
use Rattle.linear_machine.specs.Instructions.{is_constant, operand, written, computed, count_of, return, end_body, end_funclet}
use Rattle.lowering_invariants.specs.Bodies.{IsCallee}
use Rattle.lowering_invariants.specs.Waiting.{IsRaisedIn, AreWaiting, IsAskable, CanBeAsked, IsStacked}
use Rattle.lowering_invariants.proofs.Moves.{Turn, Halts, Moves, pick_turn, some_turn, deeper_turn, kept}
use Rattle.lowering_locals.specs.Marks.{activations_left}
use Rattle.image_runs.specs.Words.{Slot, Instruction, LinearProgram, LinearBody, LinearFunction, LinearFunclet, depth_weight, BodyName, FunctionBody, FuncletBody, body_of, FilterOf, VectoredAt, Item, Waits, Searches, Unwinds, Configuration, Seen, Finished, Stuck, Next, last_temporaries, act, begin_function, waiting, instruction_in, instruction_at, is_separator, separators, separators_in}
use Rattle.image_runs.specs.StepMatches.{IsAskedAt}
use Rattle.image_runs.proofs.Lemmas.{all_at}

-- ---- code that begins with a separator

separator_is : (i : Instruction) → is_separator i ≡ true → i ≡ instructions.Separator
separator_is instructions.Separator e = refl
separator_is i e = absurd (let no : false ≡ true = e in cc)

separator_first : (code : List Instruction) (n : ℕ) → n < separators code
    → slice_get code 0 ≡ Some instructions.Separator
separator_first [] n lt = absurd (omega arith)
separator_first (i ∷ more) n lt = by (is_separator i) refl lt
  where
    by : (b : Bool) → is_separator i ≡ b → n < (if b then suc (separators more) else 0)
        → slice_get (i ∷ more) 0 ≡ Some instructions.Separator
    by true e lt = ap (λ (k : Instruction). Some k) (separator_is i e)
    by false e lt = absurd (omega arith)

pub begins_separately : (o : Option LinearBody) (n : ℕ) → n < separators_in o 0
    → instruction_in o 0 ≡ Some instructions.Separator
begins_separately None n lt = absurd (omega arith)
begins_separately (Some b) n lt = separator_first b.code n lt

module _ (program : LinearProgram) (j : Instruction) (begin : Configuration) where
  -- a vectored handler that an instruction asks, above all activations that it leaves
  pub record IsAskedBy (f : ℕ) (d : Configuration) : Type 0 where
    pub callee : IsCallee program f 2
    pub left : length d.store.activations ≡ activations_left j begin + 1

  -- whoever is at the separator that a function begins with, without an exception that has landed
  -- there, is such a handler
  abbrev pub Ok : Configuration → Type 0
  Ok d = (f : ℕ) → d.frame.body ≡ FunctionBody f → d.frame.next ≡ 0 → d.frame.landed ≡ None
      → instruction_at program d ≡ Some instructions.Separator → IsAskedBy f d

  -- ---- what begins no function

  forth_turn : (c : Configuration) → Turn Ok (λ next. next (forth c))
  forth_turn c = Moves (forth c)
      (λ f b n l i. absurd (let z : c.frame.next + 1 ≡ 0 = n in omega arith)) (λ next. refl)

  -- a funclet
  funclet_turn : (k : ℕ) (d : Configuration) → d.frame.body ≡ FuncletBody k
      → Turn Ok (λ next. next d)
  funclet_turn k d is = Moves d
      (λ f b n l i. absurd (let z : FuncletBody k ≡ FunctionBody f = sym is ∙ b in cc))
      (λ next. refl)

  abbrev HasCode : Target → Type 0
  HasCode t = t.code ≡ None → ⊥

  arrive_turn : (t : Target) (code : Option ℕ) (c : Configuration) → (code ≡ None → ⊥)
      → Turn Ok (λ next. arrive t code next c)
  arrive_turn t None c some = absurd (some refl)
  arrive_turn t (Some code) c some = Moves _
      (λ f b n l i. absurd (let z : Some code ≡ None = l in cc)) (λ next. refl)

  block_turn : (k held : ℕ) (abnormal : Bool) (items : List Item) (c : Configuration)
      → Turn Ok (λ next. run_finally program k abnormal held items next c)
  block_turn k held abnormal items c =
      some_turn Ok c.events (flag_of (slice_get program.funclets k)) _ (λ flag e.
      deeper_turn Ok 2 held c.store c.events _
      (funclet_turn k (begin_finally k flag abnormal held items c) refl))

  leave_turn : (r : RegionKind) (t : Target) (rest : List Region) (on : Next → Seen)
      (c : Configuration) → Turn Ok on
      → Turn Ok (λ next. leave_region program next t r rest (on next) c)
  leave_turn (kinds.Finally k) t rest on c o = block_turn k t.held true
      (Unwinds rest t ∷ Waits c.frame ∷ c.below) c
  leave_turn (kinds.Filter k label) t rest on c o = o
  leave_turn (kinds.Always label) t rest on c o = o

  body_turn : (t : Target) (out : Next → Store → Seen) (rs : List Region) (c : Configuration)
      → HasCode t → ((store : Store) → Turn Ok (λ next. out next store))
      → Turn Ok (λ next. unwind_body program next t (out next) rs c)
  body_turn t out [] c some o =
      pick_turn Ok (nat_eq t.depth (length c.below)) (λ next. arrive t t.code next c)
      (λ next. out next (left_store c.frame.body c.frame.activation c.store))
      (λ e. arrive_turn t t.code c some)
      (λ e. o (left_store c.frame.body c.frame.activation c.store))
  body_turn t out (x ∷ rs) c some o =
      pick_turn Ok (stops t x (length c.below)) (λ next. arrive t t.code next c)
      (λ next. leave_region program next t x.kind rs (unwind_body program next t (out next) rs c)
      c)
      (λ e. arrive_turn t t.code c some)
      (λ e. leave_turn x.kind t rs (λ next. unwind_body program next t (out next) rs c) c
      (body_turn t out rs c some o))

  past_has_code : (name : BodyName) (t : Target) → HasCode t → HasCode (target_past name t)
  past_has_code (FunctionBody f) t some = some
  past_has_code (FuncletBody k) t some = some

  -- an unwinding for an exception
  unwind_turn : (t : Target) (items : List Item) (left : Option (List Region)) (es : List Event)
      (store : Store) → HasCode t
      → Turn Ok (λ next. unwind program next t items left es store)
  unwind_turn t [] left es store some = Halts (Stuck es) (λ next. refl)
  unwind_turn t (Waits w ∷ below) left es store some =
      body_turn t (λ next store. unwind program next (target_past w.body t) below None es store)
      (regions_left left (regions_at program w.body w.next))
      (record { frame = w; below = below; store = store; events = es }) some
      (λ store. unwind_turn (target_past w.body t) below None es store
      (past_has_code w.body t some))
  unwind_turn t (Searches exception resumption asked ∷ below) left es store some =
      unwind_turn t below None es store some
  unwind_turn t (Unwinds rest older ∷ below) left es store some =
      unwind_turn t below (Some rest) es store some

  accept_turn : (h : Handler) (exception : Exception) (c : Configuration)
      → Turn Ok (λ next. accept program h exception next c)
  accept_turn h exception c =
      unwind_turn (target_of h exception.code c.frame.held) (Waits c.frame ∷ c.below) None c.events
      c.store (λ e. let z : Some exception.code ≡ None = e in cc)

  consult_turn : (filter : Option ℕ) (h : Handler) (rest : List Handler) (exception : Exception)
      (resumption : Resumption) (c : Configuration)
      → Turn Ok (λ next. consult program filter h rest exception resumption next c)
  consult_turn None h rest exception resumption c = accept_turn h exception c
  consult_turn (Some k) h rest exception resumption c =
      deeper_turn Ok 2 c.frame.held c.store c.events _
      (funclet_turn k (begin_filter k h rest exception resumption c) refl)

  search_turn : (found : List Handler) (exception : Exception) (resumption : Resumption)
      (c : Configuration) → Turn Ok (λ next. search program next found exception resumption c)
  search_turn [] exception resumption c = Halts
      (Finished (ends.Unhandled (record { 0 = exception.code })) c.events) (λ next. refl)
  search_turn (h ∷ rest) exception resumption c = consult_turn h.filter h rest exception resumption
      c

  -- ---- vectored handlers

  -- those of a store may be asked, above all activations that the instruction leaves
  abbrev CanAsk : Store → Type 0
  CanAsk store =
      (length store.activations ≡ activations_left j begin) × CanBeAsked program store.vectored

  same_function : (f g : ℕ) → FunctionBody f ≡ FunctionBody g → f ≡ g
  same_function f g e = cc

  ask_turn : (asked : Option ℕ) (place : ℕ) (exception : Exception) (resumption : Resumption)
      (c : Configuration) → ((f : ℕ) → asked ≡ Some f → IsCallee program f 2) → CanAsk c.store
      → Turn Ok (λ next. ask_at program next asked place exception resumption c)
  ask_turn None place exception resumption c callee a =
      search_turn (handlers program (Waits c.frame ∷ c.below) None) exception resumption c
  ask_turn (Some f) place exception resumption c callee a =
      some_turn Ok c.events (slice_get program.functions f) _ (λ function e.
      deeper_turn Ok (2 + depth_weight function) c.frame.held c.store c.events _
      (begins function))
    where
      begun : LinearFunction → Configuration
      begun function = begin_function f function (handler_arguments exception) (c.frame.held + 2)
          (Searches exception resumption (VectoredAt place) ∷ Waits c.frame ∷ c.below) c.store
          c.events

      begins : (function : LinearFunction) → Turn Ok (λ next. next (begun function))
      begins function = Moves (begun function) (λ g b n l i. record {
        callee = subst (λ k. IsCallee program k 2) (same_function f g b) (callee f refl);
        left = length-append c.store.activations ((handler_arguments exception
            ++ replicate (function.body.locals - function.parameters) 0) ∷ [])
            ∙ ap (λ n. n + 1) a.0;
      }) (λ next. refl)

  from_turn : (place : ℕ) (exception : Exception) (resumption : Resumption) (c : Configuration)
      → CanAsk c.store → Turn Ok (λ next. ask_from program next place exception resumption c)
  from_turn place exception resumption c a =
      ask_turn (slice_get c.store.vectored place) place exception resumption c
      (λ f e. (all_at (IsAskable program) c.store.vectored place f a.1 e).0.callee) a

  raise_turn : (exception : Exception) (resumption : Resumption) (c : Configuration)
      → CanAsk c.store → Turn Ok (λ next. raise program next exception resumption c)
  raise_turn exception resumption c a = from_turn 0 exception resumption
      (record c { events = c.events ++ raise_event exception ∷ [] }) a

  -- a body that continues is past its call, or at its operation again
  resumed_turn : (resumption : Resumption) (c : Configuration)
      → IsRaisedIn program resumption (Waits c.frame ∷ c.below)
      → Turn Ok (λ next. next (resumed resumption c))
  resumed_turn AfterCall c r = forth_turn (with_last (c.frame.temporaries ++ 0 ∷ []) c)
  resumed_turn SameOperation c r = Moves c
      (λ f b n l i. absurd (let z : Some (instructions.Compute r.to r.operation r.first r.second)
      ≡ Some instructions.Separator = sym r.at ∙ i in cc)) (λ next. refl)

  continued_turn : (exception : Exception) (resumption : Resumption) (c : Configuration)
      → IsRaisedIn program resumption (Waits c.frame ∷ c.below) → CanAsk c.store
      → Turn Ok (λ next. continued program next exception resumption c)
  continued_turn exception resumption c r a =
      pick_turn Ok exception.flag (λ next. raise program next noncontinuable resumption c)
      (λ next. next (resumed resumption c)) (λ e. raise_turn noncontinuable resumption c a)
      (λ e. resumed_turn resumption c r)

  -- ---- ends of bodies

  stuck : (es : List Event) → Turn Ok (λ next. Stuck es)
  stuck es = Halts (Stuck es) (λ next. refl)

  answer_turn : (v : ℕ) (items : List Item) (es : List Event) (store : Store)
      → AreWaiting program items → CanAsk store
      → Turn Ok (λ next. answer program next v items es store)
  answer_turn v [] es store w a = stuck es
  answer_turn v (Waits f ∷ below) es store w a = stuck es
  answer_turn v (Unwinds rest t ∷ below) es store w a = stuck es
  answer_turn v (Searches exception resumption (VectoredAt place) ∷ below) es store w a = stuck es
  answer_turn v (Searches exception resumption (FilterOf h rest) ∷ []) es store w a = stuck es
  answer_turn v (Searches exception resumption (FilterOf h rest) ∷ Searches e r s ∷ below) es store
      w a = stuck es
  answer_turn v (Searches exception resumption (FilterOf h rest) ∷ Unwinds s t ∷ below) es store w
      a = stuck es
  answer_turn v (Searches exception resumption (FilterOf h rest) ∷ Waits f ∷ below) es store w a =
      let c : Configuration = record {
        frame = f;
        below = below;
        store = store;
        events = es ++ events.Answer (signed W32 v) ∷ [];
      } in
      pick_turn Ok (nat_eq (low W32 v) 0)
      (λ next. search program next rest exception resumption c) _
      (λ e. search_turn rest exception resumption c)
      (λ e. pick_turn Ok (nat_lt (low W32 v) (2 ^ 31)) (λ next. accept program h exception next c) _
      (λ e. accept_turn h exception c) (λ e. continued_turn exception resumption c w.1 a))

  return_turn : (v : ℕ) (items : List Item) (es : List Event) (store : Store)
      → AreWaiting program items → CanAsk store
      → Turn Ok (λ next. return program next v items es store)
  return_turn v [] es store w a = Halts (Finished (ends.Exit (signed W32 v)) es) (λ next. refl)
  return_turn v (Waits f ∷ below) es store w a = forth_turn (with_last (f.temporaries ++ v ∷ [])
      (record { frame = f; below = below; store = store; events = es }))
  return_turn v (Unwinds rest t ∷ below) es store w a = stuck es
  return_turn v (Searches exception resumption (FilterOf h rest) ∷ below) es store w a = stuck es
  return_turn v (Searches exception resumption (VectoredAt place) ∷ []) es store w a = stuck es
  return_turn v (Searches exception resumption (VectoredAt place) ∷ Searches e r s ∷ below) es store
      w a = stuck es
  return_turn v (Searches exception resumption (VectoredAt place) ∷ Unwinds s t ∷ below) es store w
      a = stuck es
  return_turn v (Searches exception resumption (VectoredAt place) ∷ Waits f ∷ below) es store w a =
      let c : Configuration = record { frame = f; below = below; store = store; events = es } in
      pick_turn Ok (nat_lt (low W32 v) (2 ^ 31))
      (λ next. ask_from program next (place + 1) exception resumption c) _
      (λ e. from_turn (place + 1) exception resumption c a)
      (λ e. continued_turn exception resumption c w.1 a)

  -- ---- operations

  written_turn : (c : Configuration) (to : Slot) (v : ℕ) → Turn Ok (λ next. written c to v next)
  written_turn c to v = some_turn Ok c.events (write c to v) (λ next d. next (forth d))
      (λ d e. forth_turn d)

  computed_turn : (c : Configuration) (to : Slot) (r : OperationResult) → CanAsk c.store
      → Turn Ok (λ next. computed program next to c r)
  computed_turn c to (Gives v memory) a =
      written_turn (record c { store = record c.store { memory = memory } }) to v
  computed_turn c to (Raises code access) a =
      raise_turn (record { code = code.0; flag = false; access = access }) SameOperation c a
  computed_turn c to (Undefined at) a =
      Halts (Finished (ends.Undefined at) c.events) (λ next. refl)

-- ---- the instructions that ask

module _ (program : LinearProgram) (c : Configuration) (s : IsStacked program c) where
  pub operations_ask : (to : Slot) (o : Operation) (first second : Slot)
      → Turn (Ok program (instructions.Compute to o first second) c)
      (λ next. act program (instructions.Compute to o first second) next c)
  operations_ask to o first second =
      let i = instructions.Compute to o first second in
      some_turn (Ok program i c) c.events (operand (is_constant o) c first) _ (λ a e.
      some_turn (Ok program i c) c.events (operand (is_constant o) c second) _ (λ b g.
      computed_turn program i c c to
      (performed (is_reserved program.globals) o a b c.store.memory) (refl, s.handlers)))

  pub raises_ask : (first : ℕ)
      → Turn (Ok program (instructions.CallBuiltIn RaiseException first) c)
      (λ next. act program (instructions.CallBuiltIn RaiseException first) next c)
  raises_ask first =
      let i = instructions.CallBuiltIn RaiseException first in
      some_turn (Ok program i c) c.events
      (last_temporaries c.frame.temporaries first (count_of RaiseException)) _ (λ vs e.
      raise_turn program i c (raised (get_or vs 0 0) (get_or vs 1 0)) AfterCall (waiting c first)
      (refl, s.handlers))

  -- ---- a function or a filter returns

  left_asks : (name : BodyName) (k : ℕ) (store : Store) → CanBeAsked program store.vectored
      → CanBeAsked program (left_store name k store).vectored
  left_asks (FunctionBody f) k store a = a
  left_asks (FuncletBody j) k store a = a

  abbrev pub IsNoBlock : Type 0
  IsNoBlock = (k : ℕ) (g : LinearFunclet) → c.frame.body ≡ FuncletBody k
      → slice_get program.funclets k ≡ Some g → g.kind ≡ funclets.Filter

  module _ (from : Slot) (no_block : IsNoBlock) where
    abbrev i : Instruction
    i = instructions.Return from

    end_turn : (name : BodyName) (v : ℕ) → c.frame.body ≡ name
        → Turn (Ok program i c) (λ next. end_body program next name v c)
    end_turn (FunctionBody f) v e = return_turn program i c v c.below c.events
        (left_store c.frame.body c.frame.activation c.store) s.below
        (refl, left_asks c.frame.body c.frame.activation c.store s.handlers)
    end_turn (FuncletBody k) v e =
        some_turn (Ok program i c) c.events (slice_get program.funclets k)
        (λ next g. end_funclet program next g.kind v c)
        (λ g at. subst (λ kind. Turn (Ok program i c) (λ next. end_funclet program next kind v c))
        (sym (no_block k g e at)) (answer_turn program i c v c.below c.events c.store s.below (
          sym (ap (λ name. length (left_store name c.frame.activation c.store).activations) e),
          s.handlers,
        )))

    pub returns_ask : Turn (Ok program i c) (λ next. act program i next c)
    returns_ask = some_turn (Ok program i c) c.events (read c from) _
        (λ v e. end_turn c.frame.body v refl)

-- a function that begins in such a turn takes two arguments, above all that the instruction leaves
pub asked_at : (program : LinearProgram) (i : Instruction) (c : Configuration)
    → Turn (Ok program i c) (λ next. act program i next c)
    → (f : ℕ) (function : LinearFunction) (arguments : List ℕ) (held : ℕ) (below : List Item)
    (store : Store) (es : List Event)
    → ((next : Next) → act program i next c
    ≡ next (begin_function f function arguments held below store es))
    → (n : ℕ) → n < separators_in (body_of program (FunctionBody f)) 0
    → IsAskedAt program i c f store
asked_at program i c turn f function arguments held below store es acts n lt =
    let d = begin_function f function arguments held below store es in
    let h = kept (Ok program i c) (λ next. act program i next c) d turn acts f refl refl refl
    (begins_separately (body_of program (FunctionBody f)) n lt) in
    let one = length-append store.activations ((arguments
    ++ replicate (function.body.locals - function.parameters) 0) ∷ []) in
    let more = h.left in
    record { callee = h.callee; left = omega arith }
