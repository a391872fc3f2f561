-- What is claimed of each kind of task inside expressions.
use Rattle.std.proofs.Common.{◌≡◌, ◌≤◌, ℕ, zero, ◌+◌, List, [], ◌∷◌, ◌++◌, length}
use Rattle.std.specs.Prelude.{Bool, false, slice_get, Some, None}
use Rattle.lowering_follows.specs.Words.{Memory, Operation, performed, Expression, Lvalue, Global, Stacked, Indirection, Element, Program, Function, is_reserved, Exception, State, Context, Handler, Eval, Locate, Raise, AskVectored, RunFilter, Retry, raise_event, enter, within, Temporary, LinearProgram, LinearFunction, Resumption, Item, Store, Configuration, deeper, functions_in, with_temporary, regions_at, handlers, unwind, begin_filter, ask_vectored, raise, resumed, vectored_answered, answered, return, begin_function, is_constant, exec, Names, expression_size, locate_size, expression_code, locate_code, ExpressionFits, LvalueFits, IsCalled, expression_weight, lvalue_weight, HasAt, IsPrefixOf, Local}
use Rattle.linear_code.specs.Program.{depth_weight}
use Rattle.linear_code.specs.declared.instruction.Instruction.TheVariants as instructions
use Rattle.lowering_follows.proofs.Lemmas.{prefix_less, events_of, ask_shows, Part, at, Site, found, conf, value_ways, normal_ways, price, Claim}
use Rattle.linear_machine.specs.Frames as machine
use Rattle.linear_machine.specs.Frames.{Next}
use Rattle.linear_machine.proofs.Stretch.{Kept, unwound}
use Rattle.lowering_follows.proofs.Stores.{Shape, everywhere}
use Rattle.lowering_follows.proofs.Environments.{FilterFits, KeptFrom, Env, functions_at}

-- the temporaries after a place was located: its address, and of a local nothing
abbrev pub located : Lvalue → List ℕ → ℕ → List ℕ
located (Local x) temps a = temps
located (Global access n) temps a = temps ++ a ∷ []
located (Stacked access base offset) temps a = temps ++ a ∷ []
located (Indirection access e) temps a = temps ++ a ∷ []
located (Element access e i) temps a = temps ++ a ∷ []

-- at a place, with one temporary more
abbrev pub pushed : Context → Site → ℕ → List ℕ → ℕ → State → Store → Part
pushed context site pc temps v st store = at (conf context site pc (temps ++ v ∷ []) st store)

abbrev pub with_address : Context → Site → ℕ → Lvalue → List ℕ → ℕ → State → Store → Part
with_address context site pc p temps a st store = at
    (conf context site pc (located p temps a) st store)

-- an operation reads two temporaries and writes one
pub record Operands (temps : List ℕ) (to first second a b : ℕ) (after : ℕ → List ℕ) : Type 0 where
  pub reads_first : slice_get temps first ≡ Some a
  pub reads_second : slice_get temps second ≡ Some b
  pub writes : (v : ℕ) → with_temporary temps to v ≡ Some (after v)

module _ (program : Program) (linear : LinearProgram) (rate body : ℕ) where
  abbrev pub Within : List Shape → Store → Kept
  Within shapes base = KeptFrom program linear rate body everywhere shapes base

  abbrev pub Around : Names → Bool → Shape → List Shape → Context → Site → Store → Type 0
  Around names info z shapes context site base = Env program linear rate body everywhere names info
      z shapes context site base

  -- where the code of a part of an expression stands, and what is known there
  pub record CodePlace : Type 0 where
    -- how the code names locals, and whether it stands in a filter
    pub names : Names
    pub info : Bool
    -- the locals of the activation, and those of all
    pub z : Shape
    pub shapes : List Shape
    -- where the source is, and where the linear code is
    pub context : Context
    pub site : Site
    -- the store from which on notes are kept, and what is around the code in it
    pub base : Store
    pub around : Around names info z shapes context site base

  -- two operations come to the same in every memory
  abbrev pub SameOperation' : Operation → (x y a b : ℕ) → Type 0
  SameOperation' o x y a b = (m : Memory) → performed (is_reserved program.globals) o a b m
      ≡ performed (is_reserved program.globals) o x y m

  abbrev pub resumes : Resumption → Context → Site → ℕ → List ℕ → State → Store → Part
  resumes resumption context site pc temps st store = at
      (resumed resumption (conf context site pc temps st store))

  abbrev pub answers_search : Exception → Resumption → machine.Handler → List machine.Handler
      → Context → Site → ℕ → List ℕ → ℕ → State → Store → Part
  answers_search exc resumption f rest context site pc temps v st store next = answered linear next
      v exc resumption f rest (conf context site pc temps st store)

  abbrev pub answers_vectored : (place : ℕ) → Exception → Resumption → Context → Site → ℕ → List ℕ
      → ℕ → State → Store → Part
  answers_vectored place exc resumption context site pc temps v st store next = vectored_answered
      linear next v place exc resumption (conf context site pc temps st store)

  -- what lies below a function: a search and an unwinding make of it what they make of a place, and
  -- a return leads from it to a part
  pub record ReturnsTo (below : List Item) (context : Context) (site : Site) (pc : ℕ)
      (temps : List ℕ) (part : ℕ → State → Store → Part) : Type 0 where
    pub same_found : handlers linear below None ≡ found linear rate context site
    pub same_functions : functions_in below ≡ functions_at site
    pub onward : (next : Next) (target : machine.Target) (st : State) (store : Store)
        → unwind linear next target below None st.events store
        ≡ unwound linear rate context site target temps st store pc next
    pub returns : (next : Next) (v : ℕ) (st : State) (store : Store)
        → return linear next v below st.events store ≡ part v st store next

  -- what is claimed of each kind of task, inside at most n others
  pub record Runs (n : ℕ) : Type 0 where
    pub eval : (e : Expression) (here : CodePlace) (pc : ℕ) (temps : List ℕ) (st : State)
        (store : Store)
        → st.steps_left ≤ n → expression_weight e + body + 4 ≤ rate
        → ExpressionFits program here.z.own here.info e
        → HasAt linear here.site.body here.site.regions pc
        (expression_code here.names e (length temps) pc)
        → Within here.shapes here.base st store
        → st.held ≡ here.site.held
        → Claim linear rate (at (conf here.context here.site pc temps st store)) st
        (price 0 0 (expression_weight e) (expression_weight e))
        (value_ways (pushed here.context here.site (pc + expression_size e) temps)
        (Within here.shapes here.base)
        here.context here.site) (within program n (Eval e) here.context st)
    pub locate : (p : Lvalue) (here : CodePlace) (pc : ℕ) (temps : List ℕ) (st : State)
        (store : Store)
        → st.steps_left ≤ n → 1 + lvalue_weight p + body + 4 ≤ rate
        → LvalueFits program here.z.own here.info p
        → HasAt linear here.site.body here.site.regions pc
        (locate_code here.names p (length temps) pc)
        → Within here.shapes here.base st store
        → st.held ≡ here.site.held
        → Claim linear rate (at (conf here.context here.site pc temps st store)) st
        (price 0 0 (1 + lvalue_weight p) (1 + lvalue_weight p))
        (value_ways (with_address here.context here.site (pc + locate_size p) p temps)
        (Within here.shapes here.base)
        here.context here.site) (within program n (Locate p) here.context st)
    pub raised : (exc : Exception) (resumption : Resumption) (here : CodePlace) (pc : ℕ)
        (temps : List ℕ) (st : State) (store : Store)
        → st.steps_left ≤ n → regions_at linear here.site.body pc ≡ here.site.regions
        → Within here.shapes here.base st store
        → st.held ≡ here.site.held
        → Claim linear rate (λ next. raise linear next exc resumption
        (conf here.context here.site pc temps st store)) st (price 0 0 1 rate)
        (normal_ways (resumes resumption here.context here.site pc temps)
        (Within here.shapes here.base) here.context here.site)
        (within program n (Raise exc) here.context st)
    pub retry : (o : Operation) (x y to first second a b : ℕ) (after : ℕ → List ℕ)
        (here : CodePlace) (pc : ℕ) (temps : List ℕ) (st : State) (store : Store)
        → is_constant o ≡ false → st.steps_left ≤ n
        → HasAt linear here.site.body here.site.regions pc
        (instructions.Compute (Temporary to) o (Temporary first) (Temporary second) ∷ [])
        → Operands temps to first second a b after → SameOperation' o x y a b
        → Within here.shapes here.base st store
        → st.held ≡ here.site.held
        → Claim linear rate (at (conf here.context here.site pc temps st store)) st (price 0 0 0 1)
        (value_ways (λ v st store. at (conf here.context here.site (pc + 1) (after v) st store))
        (Within here.shapes here.base) here.context here.site)
        (within program n (Retry o x y) here.context st)
    pub filter : (k j : ℕ) (e : Expression) (h : Handler) (f : machine.Handler)
        (rest : List machine.Handler) (exc : Exception) (resumption : Resumption)
        (here : CodePlace) (pc : ℕ) (temps : List ℕ) (st : State) (store : Store)
        → st.steps_left ≤ n → regions_at linear here.site.body pc ≡ here.site.regions
        → h.activation ≡ f.activation
        → FilterFits program linear rate body everywhere here.shapes here.base
        h.activation h.abnormal k j e
        → Within here.shapes here.base st store
        → st.held ≡ here.site.held
        → Claim linear rate (λ next. deeper 2 here.site.held store st.events
        (next (begin_filter j f rest exc resumption
        (conf here.context here.site pc temps st store)))) st
        (price 0 1 0 (2 + expression_weight e))
        (value_ways (answers_search exc resumption f rest here.context here.site pc temps)
        (Within here.shapes here.base) here.context here.site)
        (within program n (RunFilter k e h exc) here.context st)
    pub asked : (f place : ℕ) (exc : Exception) (resumption : Resumption) (here : CodePlace)
        (pc : ℕ) (temps : List ℕ) (st : State) (store : Store)
        → IsCalled program f 2 → st.steps_left ≤ n
        → regions_at linear here.site.body pc ≡ here.site.regions
        → Within here.shapes here.base st store
        → st.held ≡ here.site.held
        → Claim linear rate (λ next. ask_vectored linear next f place exc resumption
        (conf here.context here.site pc temps st store)) st (price 0 1 1 rate)
        (normal_ways (resumes resumption here.context here.site pc temps)
        (Within here.shapes here.base) here.context here.site)
        (within program n (AskVectored f place exc) here.context st)
    pub call : (k : ℕ) (fn : Function) (lf : LinearFunction) (vs : List ℕ) (below : List Item)
        (held : ℕ) (part : ℕ → State → Store → Part) (here : CodePlace) (pc : ℕ) (temps : List ℕ)
        (st : State) (store : Store)
        → st.steps_left ≤ n → slice_get program.functions k ≡ Some fn
        → slice_get linear.functions k ≡ Some lf → length vs ≡ length fn.parameters
        → ReturnsTo below here.context here.site pc temps part
        → Within here.shapes here.base st store
        → st.held ≡ held
        → Claim linear rate (λ next. deeper (depth_weight lf) held store st.events
        (next (begin_function k lf vs held below store st.events))) st (price 13 4 0 0)
        (record (value_ways part (Within here.shapes here.base) here.context here.site) {
          held =
              held;
        })
        (enter program (within program n) k (Some fn) vs here.context st)

  pub shown_asked : (f place : ℕ) (exc : Exception) (resumption : Resumption) (c : Configuration)
      → IsPrefixOf c.events
      (events_of (ask_vectored linear (exec linear zero) f place exc resumption c))
  shown_asked f place exc resumption c = ask_shows linear (Some f) place exc resumption c

  pub shown_raise : (exc : Exception) (resumption : Resumption) (c : Configuration)
      → IsPrefixOf c.events (events_of (raise linear (exec linear zero) exc resumption c))
  shown_raise exc resumption c =
      prefix_less c.events _ (raise_event exc)
      (ask_shows linear (slice_get c.store.vectored 0) 0 exc resumption
      (record c { events = c.events ++ raise_event exc ∷ [] }))
