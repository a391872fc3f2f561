-- The host's turns at `put` and at `protect`, and the steps of linear code that they match.
use Rattle.std.proofs.Common.{◌≡◌, ℕ, zero, suc, ◌+◌, ◌%◌, ◌^◌, ◌<◌, ◌≤◌, Bool, true, false, cond, List, [], ◌∷◌, ◌++◌, length, drop, get_or, Some, None, Ok, Err, ℤ, refl, sym, ap, ◌∙◌, arith}
use Rattle.std.specs.Prelude.{Result, slice_get, if◌then◌else◌, is_some}
use Rattle.std.proofs.lemmas.Bool.{eq-eqb}
use Rattle.std.proofs.lemmas.List.{append-nil}
use Rattle.std.proofs.lemmas.Option.{slice_get-get_or}
use Rattle.match_turns.specs.Words.{W32, W64, Event, signed, address_of, service_at, in_host_page, RefusedAccess, Memory, executable, loaded, protected, rights_asked, Rcx, Rdx, Rsp, leading, State, register, hosted, execute, step, Functions, Funclet, Turn, Continues, arrived, back, returned, turned, turn, answer_number, protecting, BuiltIn, Put, Protect, of_test, Temporary, LinearProgram, Configuration, Next, with_some, last_temporaries, count_of, built_in, waiting, act, KeepsStack, Moves, HaveRoom, turns_left, Setting, IsMachineMemory, RepresentsAt}
use Rattle.seh_num.specs.declared.event.Event.TheVariants as events
use Rattle.host_layout.specs.declared.service.Service.TheVariants as services
use Rattle.linear_code.specs.declared.instruction.Instruction.TheVariants as instructions
use Rattle.match_turns.proofs.Lemmas.{IsCounted, slots_here, Surroundings}
use Rattle.match_turns.proofs.Dispatches.DispatchMemory.{memory_untouched}
use Rattle.match_turns.proofs.Calls.ReturnAddressPush.{pushed_untouched, pushed_data}
use Rattle.match_turns.proofs.ArenaRights.{arena_memory, arena_stack}
use Rattle.match_turns.proofs.Services.ServiceCall.{sp, low, top, numbers, returns}
use Rattle.match_turns.proofs.Services.ServiceReturn.{with_given, to, there, memory_there, returned_to, answered, silent_back, served}

module _ (t : Functions) (fs : List Funclet) where
  -- what a step is where RIP is in the host's page
  abbrev hosted_turn : State → ℕ → Turn
  hosted_turn s a = arrived t fs (turned t s (cond (in_host_page a) (Err (hosted a (service_at a)))
      (execute s (leading (executable s.memory 15 s.cpu.rip)))))

  pub at_service : (s : State) (a : ℕ) → s.cpu.rip ≡ a → turn t fs s ≡ hosted_turn s a
  unfolding turn step
  at_service s a e = ap (hosted_turn s) e

  put_turns : (s : State) (ret : ℕ) → s.cpu.rip ≡ address_of services.Put
      → loaded s.memory (register s.cpu Rsp) W64 ≡ Ok ret
      → turn t fs s ≡ arrived t fs (Continues (back s ret)
      (events.Put (signed W64 (register s.cpu Rcx)) ∷ []))
  put_turns s ret e w = at_service s (address_of services.Put) e
      ∙ ap (λ (x : Result ℕ RefusedAccess). arrived t fs
      (returned s x (λ u. Continues u (events.Put (signed W64 (register s.cpu Rcx)) ∷ [])))) w

  protect_turns : (s : State) (ret : ℕ) → s.cpu.rip ≡ address_of services.Protect
      → loaded s.memory (register s.cpu Rsp) W64 ≡ Ok ret
      → turn t fs s ≡ arrived t fs (protecting s (back s ret))
  protect_turns s ret e w = at_service s (address_of services.Protect) e
      ∙ ap (λ (x : Result ℕ RefusedAccess). arrived t fs (returned s x (protecting s))) w

-- ---- linear code

-- what a built-in function is given
given_in : (ts : List ℕ) (first k : ℕ) → get_or (drop first ts) k 0 ≡ get_or ts (first + k) 0
given_in ts zero k = let z : k ≡ 0 + k = omega arith in ap (λ i. get_or ts i 0) z
given_in [] (suc first) k = λ i. 0
given_in (x ∷ ts) (suc first) k = given_in ts first k
    ∙ (let z : suc (first + k) ≡ suc first + k = omega arith in ap (λ i. get_or (x ∷ ts) i 0) z)

pub calls_as : (program : LinearProgram) (c : Configuration) (f : BuiltIn) (first : ℕ)
    → length c.frame.temporaries ≡ first + count_of f → (next : Next)
    → act program (instructions.CallBuiltIn f first) next c
    ≡ built_in program next f (drop first c.frame.temporaries) (waiting c first)
unfolding with_some
calls_as program c f first held next =
    let arguments = drop first c.frame.temporaries in
    let e : last_temporaries c.frame.temporaries first (count_of f) ≡ Some arguments =
    ap (λ (x : Bool). if x then Some arguments else None)
    (eq-eqb (length c.frame.temporaries) (first + count_of f) held) in
    ap (λ o. with_some c.events o (λ vs. built_in program next f vs (waiting c first))) e

pub numbered : (b : Bool) → answer_number b % 2 ^ 64 ≡ of_test b
numbered true = refl
numbered false = refl

module _ (setting : Setting) (roomy : HaveRoom setting.program) where
  open setting use {functions as t, funclets as fs, program, plan as p, sites as q}

  module _ (s : State) (c : Configuration) (b : RepresentsAt setting s c)
      (counted : IsCounted setting c)
      (around : Surroundings setting roomy s c b counted) (f : BuiltIn) (first : ℕ)
      (at : slice_get b.body.slots.code.code c.frame.next ≡ Some (instructions.CallBuiltIn f first))
      (framed : p.leaf c.frame.body ≡ false)
      (within : c.frame.next + 1 < length b.body.slots.code.code)
      (held : length c.frame.temporaries ≤ b.body.slots.code.temporaries)
      (fits : first ≤ length c.frame.temporaries) (free : c.frame.landed ≡ None) where
    -- the number of an argument, for templates and for linear code
    pub argument : (k : ℕ) → first + k < length c.frame.temporaries
        → (numbers setting roomy s c b counted f first at).slots (Temporary (first + k)) ≡ get_or
        (drop first c.frame.temporaries) k 0
    argument k lt = (slots_here setting s c b counted).temporaries (first + k)
        (get_or c.frame.temporaries (first + k) 0)
        (slice_get-get_or c.frame.temporaries (first + k) 0 lt)
        ∙ sym (given_in c.frame.temporaries first k)

    pub pushed_memory : IsMachineMemory setting
        (memory_there setting roomy s c b counted around f first at framed within held fits free)
        c.store.memory
    pushed_memory =
        let v = with_given setting roomy s c b counted around f first at framed
        within held fits free in
        let from = sp setting roomy s c b counted f first at in
        let ret = to setting roomy s c b counted around f first at framed within held
        fits free in
        let l = low setting roomy s c b counted f first at in
        let h = top setting roomy s c b counted f first at in
        memory_untouched t fs program p q s.memory
        (memory_there setting roomy s c b counted around f first at framed within held fits free)
        c.store.memory
        (pushed_untouched v from ret (omega arith) h b.memory.data_alone b.memory.stack) b.memory
        (pushed_data v from ret (omega arith) h b.memory.data_alone b.memory.stack)

    pub same_stack : (m : Memory) (from : ℕ) → KeepsStack m m from
    same_stack m from = record {
      bytes = λ a l u. refl;
      protection = λ a l u. refl;
      code = λ a e. (refl, refl);
      no_more_code = λ a e. e;
    }

  -- `put`
  module _ (s : State) (c : Configuration) (b : RepresentsAt setting s c)
      (counted : IsCounted setting c)
      (around : Surroundings setting roomy s c b counted) (first : ℕ)
      (at : slice_get b.body.slots.code.code c.frame.next
      ≡ Some (instructions.CallBuiltIn Put first)) (framed : p.leaf c.frame.body ≡ false)
      (within : c.frame.next + 1 < length b.body.slots.code.code)
      (held : length c.frame.temporaries ≤ b.body.slots.code.temporaries)
      (count : length c.frame.temporaries ≡ first + 1) (free : c.frame.landed ≡ None) where
    abbrev fits : first ≤ length c.frame.temporaries
    fits = omega arith

    abbrev here : State
    here = there setting roomy s c b counted around Put first at framed within held fits free

    abbrev value : ℕ
    value = register here.cpu Rcx

    abbrev shown : List Event
    shown = events.Put (signed W64 value) ∷ []

    value_is : value ≡ get_or (drop first c.frame.temporaries) 0 0
    value_is =
        let z : first + 0 ≡ first = omega arith in
        ap (λ i. (numbers setting roomy s c b counted Put first at).slots (Temporary i)) (sym z)
        ∙ argument s c b counted around Put first at framed within held fits free 0 (omega arith)

    abbrev after_put : Configuration
    after_put = answered setting roomy s c b counted around Put first at framed within held fits
        free 0 c.store.memory c.store.vectored (c.events ++ shown)

    puts : (next : Next) → act program (instructions.CallBuiltIn Put first) next c ≡ next after_put
    puts next =
        calls_as program c Put first count next
        ∙ ap (λ x. next (answered setting roomy s c b counted around Put first at framed within held
        fits free 0 c.store.memory c.store.vectored
        (c.events ++ events.Put (signed W64 x) ∷ []))) (sym value_is)

    turns : turn t fs here ≡ Continues (returned_to setting roomy s c b counted around Put first at
        framed within held fits free 0 here.memory here.vectored) shown
    turns =
        let u = returned_to setting roomy s c b counted around Put first at framed
        within held fits free 0 here.memory here.vectored in
        let silent = silent_back setting roomy s c b counted around Put first at framed
        within held fits free 0 (omega arith) here.memory c.store.memory here.vectored
        c.store.vectored (c.events ++ shown)
        (same_stack s c b counted around Put first at framed within held fits free here.memory
        (sp setting roomy s c b counted Put first at))
        (pushed_memory s c b counted around Put first at framed within held fits free)
        b.well_formed.listed in
        put_turns t fs here (to setting roomy s c b counted around Put first at framed within held
        fits free) refl (returns setting roomy s c b counted Put first at)
        ∙ ap (λ es. Continues u (shown ++ es)) silent

    pub put_step : Moves t fs program 16 turns_left (RepresentsAt setting) s c
        (instructions.CallBuiltIn Put first)
    put_step =
        served setting roomy s c b counted around Put first at framed within held fits free 0
        (omega arith) here.memory c.store.memory here.vectored c.store.vectored (c.events ++ shown)
        (same_stack s c b counted around Put first at framed within held fits free here.memory
        (sp setting roomy s c b counted Put first at))
        (pushed_memory s c b counted around Put first at framed within held fits free)
        b.well_formed.listed shown turns refl puts

  -- `protect`
  module _ (s : State) (c : Configuration) (b : RepresentsAt setting s c)
      (counted : IsCounted setting c)
      (around : Surroundings setting roomy s c b counted) (first : ℕ)
      (at : slice_get b.body.slots.code.code c.frame.next
      ≡ Some (instructions.CallBuiltIn Protect first)) (framed : p.leaf c.frame.body ≡ false)
      (within : c.frame.next + 1 < length b.body.slots.code.code)
      (held : length c.frame.temporaries ≤ b.body.slots.code.temporaries)
      (count : length c.frame.temporaries ≡ first + 2) (free : c.frame.landed ≡ None) where
    abbrev enough : first ≤ length c.frame.temporaries
    enough = omega arith

    abbrev at_protect : State
    at_protect = there setting roomy s c b counted around Protect first at framed within held enough
        free

    abbrev page : ℕ
    page = register at_protect.cpu Rcx

    abbrev rights : ℤ
    rights = signed W32 (register at_protect.cpu Rdx)

    abbrev result : ℕ
    result = answer_number (is_some (rights_asked page rights)) % 2 ^ 64

    abbrev new_memory : Memory
    new_memory = protected at_protect.memory page rights

    abbrev new_source : Memory
    new_source = protected c.store.memory page rights

    page_is : page ≡ get_or (drop first c.frame.temporaries) 0 0
    page_is =
        let z : first + 0 ≡ first = omega arith in
        ap (λ i. (numbers setting roomy s c b counted Protect first at).slots (Temporary i)) (sym z)
        ∙ argument s c b counted around Protect first at framed within held enough free 0
        (omega arith)

    number_is : register at_protect.cpu Rdx ≡ get_or (drop first c.frame.temporaries) 1 0
    number_is = argument s c b counted around Protect first at framed within held enough free 1
        (omega arith)

    abbrev after_protect : Configuration
    after_protect = answered setting roomy s c b counted around Protect first at framed within held
        enough free result new_source c.store.vectored c.events

    protects : (next : Next) → act program (instructions.CallBuiltIn Protect first) next c
        ≡ next after_protect
    protects next =
        let arrive = λ (a n : ℕ). next (answered setting roomy s c b counted around Protect first at
        framed within held enough free (of_test (is_some (rights_asked a (signed W32 n))))
        (protected c.store.memory a (signed W32 n)) c.store.vectored c.events) in
        calls_as program c Protect first count next
        ∙ ap (λ a. arrive a (get_or (drop first c.frame.temporaries) 1 0)) (sym page_is)
        ∙ ap (arrive page) (sym number_is)
        ∙ ap (λ x. next (answered setting roomy s c b counted around Protect first at framed within
        held enough free x new_source c.store.vectored c.events))
        (sym (numbered (is_some (rights_asked page rights))))

    kept_stack : KeepsStack at_protect.memory new_memory
        (sp setting roomy s c b counted Protect first at)
    kept_stack = arena_stack setting at_protect.memory c.store.memory page rights
        (pushed_memory s c b counted around Protect first at framed within held enough free)
        (sp setting roomy s c b counted Protect first at)

    kept_memory : IsMachineMemory setting new_memory new_source
    kept_memory = arena_memory setting at_protect.memory c.store.memory page rights
        (pushed_memory s c b counted around Protect first at framed within held enough free)

    protect_turn : turn t fs at_protect ≡ Continues
        (returned_to setting roomy s c b counted around Protect first at framed within held enough
        free result new_memory at_protect.vectored) []
    protect_turn =
        let u = returned_to setting roomy s c b counted around Protect first at
        framed within held enough free result new_memory at_protect.vectored in
        let silent = silent_back setting roomy s c b counted around Protect first at
        framed within held enough free result (omega arith) new_memory new_source
        at_protect.vectored c.store.vectored c.events kept_stack kept_memory b.well_formed.listed in
        protect_turns t fs at_protect (to setting roomy s c b counted around Protect first at framed
        within held enough free) refl (returns setting roomy s c b counted Protect first at)
        ∙ ap (λ es. Continues u es) silent

    pub protect_step : Moves t fs program 16 turns_left (RepresentsAt setting) s c
        (instructions.CallBuiltIn Protect first)
    protect_step =
        served setting roomy s c b counted around Protect first at framed within held enough free
        result (omega arith) new_memory new_source at_protect.vectored c.store.vectored c.events
        kept_stack kept_memory b.well_formed.listed [] protect_turn
        (sym (append-nil c.events)) protects
