-- The host's turns at the services that put a vectored handler into their list and take one out,
-- and the steps of linear code that they match.
use Rattle.std.proofs.Common.{◌≡◌, ℕ, ◌+◌, ◌%◌, ◌^◌, ◌<◌, ◌≤◌, Bool, false, List, [], ◌∷◌, length, map, drop, get_or, Some, None, refl, sym, ap, ◌∙◌, arith}
use Rattle.std.specs.Prelude.{slice_get, not, ◌==◌}
use Rattle.std.specs.List.{AllByRecursion}
use Rattle.std.proofs.lemmas.List.{append-nil}
use Rattle.std.proofs.lemmas.Option.{slice_get_within}
use Rattle.vectored_list.specs.Lists.{is_listed, can_be_added, added, removed}
use Rattle.host_model.specs.HostStep.{removing, listed}
use Rattle.match_turns.specs.Words.{W32, low, Rcx, State, register, Continues, arrived, back, turn, answer_number, BuiltIn, AddVectored, RemoveVectored, of_test, Temporary, LinearProgram, Configuration, Next, act, AreListable, CallsBuiltIn, Moves, HaveRoom, turns_left, Setting, RepresentsAt}
use Rattle.linear_code.specs.declared.instruction.Instruction.TheVariants as instructions
use Rattle.match_turns.proofs.Lemmas.{IsCounted, Surroundings}
use Rattle.match_turns.proofs.Services.BuiltInShadow.{calls_it}
use Rattle.match_turns.proofs.VectoredHandlers.ListTurns.{adding_turns, removing_turns, adds, removes}
use Rattle.match_turns.proofs.Services.ServiceCall.{sp, numbers, returns}
use Rattle.match_turns.proofs.Services.ServiceReturn.{to, there, returned_to, answered, silent_back, served}
use Rattle.match_turns.proofs.Services.ServiceTurns.{calls_as, numbered, argument, pushed_memory, same_stack}

-- functions that can be asked are of the program
askable_below : (program : LinearProgram) (fs : List ℕ) → AreListable program fs
    → AllByRecursion (λ f. f < length program.functions) fs
askable_below program [] h = tt
askable_below program (f ∷ fs) h = (
  slice_get_within program.functions f h.0.callee.function h.0.callee.there,
  askable_below program fs h.1,
)

module _ (setting : Setting) (roomy : HaveRoom setting.program) where
  open setting use {functions as t, funclets as fs, program, plan as p, sites as q, image}

  -- different functions have different name thunks, in a program that adds one
  abbrev AreApart : Type 0
  AreApart =
      (f g : ℕ) → f < length program.functions → g < length program.functions
      → p.handler f ≡ p.handler g → f ≡ g

  apart_by : (f : ℕ) → CallsBuiltIn program (AddVectored f) → AreApart
  apart_by f adds = image.handlers_apart (record { function = f; adds = adds })

  -- a handler is taken out; of no handlers none is
  takes_out : (f : ℕ) → f < length program.functions → (s u : State) (gs : List ℕ)
      → AreListable program gs → u.vectored ≡ map p.handler gs → register s.cpu Rcx ≡ p.handler f
      → removing s u ≡ listed u (is_listed f gs) (map p.handler (removed f gs))
  takes_out f few s u [] askable list e =
      ap (λ hs. listed u (is_listed (register s.cpu Rcx) hs) (removed (register s.cpu Rcx) hs)) list
  takes_out f few s u (g ∷ gs) askable list e =
      removes p (length program.functions) (apart_by g askable.0.adds) f (g ∷ gs) few
      (askable_below program (g ∷ gs) askable) s u list e

  -- `AddVectoredExceptionHandler`
  module _ (s : State) (c : Configuration) (b : RepresentsAt setting s c)
      (counted : IsCounted setting c)
      (around : Surroundings setting roomy s c b counted) (f first : ℕ)
      (at : slice_get b.body.slots.code.code c.frame.next
      ≡ Some (instructions.CallBuiltIn (AddVectored f) first))
      (framed : p.leaf c.frame.body ≡ false)
      (within : c.frame.next + 1 < length b.body.slots.code.code)
      (held : length c.frame.temporaries ≤ b.body.slots.code.temporaries)
      (count : length c.frame.temporaries ≡ first + 1) (free : c.frame.landed ≡ None)
      (askable : AreListable program c.store.vectored) where
    abbrev k : BuiltIn
    k = AddVectored f

    abbrev fits : first ≤ length c.frame.temporaries
    fits = omega arith

    abbrev here : State
    here = there setting roomy s c b counted around k first at framed within held fits free

    abbrev gs : List ℕ
    gs = c.store.vectored

    -- whether it comes in front of the others
    abbrev in_front : Bool
    in_front = not (low W32 (register here.cpu Rcx) == 0)

    abbrev result : ℕ
    result = answer_number (can_be_added f gs) % 2 ^ 64

    abbrev new : List ℕ
    new = added in_front f gs

    called : CallsBuiltIn program k
    called = calls_it setting roomy s c b k first at

    few : f < length program.functions
    few = (b.memory.code.built_in k called).names.is_function

    value_is : register here.cpu Rcx ≡ get_or (drop first c.frame.temporaries) 0 0
    value_is =
        let z : first + 0 ≡ first = omega arith in
        ap (λ i. (numbers setting roomy s c b counted k first at).slots (Temporary i)) (sym z)
        ∙ argument setting roomy s c b counted around k first at framed within held fits free 0
        (omega arith)

    abbrev after_adding : Configuration
    after_adding = answered setting roomy s c b counted around k first at framed within held fits
        free result c.store.memory new c.events

    acts : (next : Next) → act program (instructions.CallBuiltIn k first) next c ≡ next after_adding
    acts next =
        let arrive = λ (x n : ℕ). next (answered setting roomy s c b counted around k first at
        framed within held fits free x c.store.memory (added (not (low W32 n == 0)) f gs)
        c.events) in
        calls_as program c k first count next
        ∙ ap (arrive (of_test (can_be_added f gs))) (sym value_is)
        ∙ ap (λ x. arrive x (register here.cpu Rcx)) (sym (numbered (can_be_added f gs)))

    turns : turn t fs here ≡ Continues (returned_to setting roomy s c b counted around k first at
        framed within held fits free result here.memory (map p.handler new)) []
    turns =
        let ret = to setting roomy s c b counted around k first at framed within held fits free in
        let u = returned_to setting roomy s c b counted around k first at framed
        within held fits free result here.memory (map p.handler new) in
        let silent = silent_back setting roomy s c b counted around k first at framed
        within held fits free result (omega arith) here.memory c.store.memory (map p.handler new)
        new c.events
        (same_stack setting roomy s c b counted around k first at framed within held fits free
        here.memory (sp setting roomy s c b counted k first at))
        (pushed_memory setting roomy s c b counted around k first at framed within held fits free)
        refl in
        adding_turns t fs here ret refl (returns setting roomy s c b counted k first at)
        ∙ ap (arrived t fs) (adds p (length program.functions) (apart_by f called) f gs few
        (askable_below program gs askable) here (back here ret) b.well_formed.listed refl)
        ∙ ap (λ es. Continues u es) silent

    pub adding_step : Moves t fs program 16 turns_left (RepresentsAt setting) s c
        (instructions.CallBuiltIn k first)
    adding_step =
        served setting roomy s c b counted around k first at framed within held fits free
        result (omega arith) here.memory c.store.memory (map p.handler new) new c.events
        (same_stack setting roomy s c b counted around k first at framed within held fits free
        here.memory (sp setting roomy s c b counted k first at))
        (pushed_memory setting roomy s c b counted around k first at framed within held fits free)
        refl [] turns (sym (append-nil c.events)) acts

  -- `RemoveVectoredExceptionHandler`
  module _ (s : State) (c : Configuration) (b : RepresentsAt setting s c)
      (counted : IsCounted setting c)
      (around : Surroundings setting roomy s c b counted) (f first : ℕ)
      (at : slice_get b.body.slots.code.code c.frame.next
      ≡ Some (instructions.CallBuiltIn (RemoveVectored f) first))
      (framed : p.leaf c.frame.body ≡ false)
      (within : c.frame.next + 1 < length b.body.slots.code.code)
      (held : length c.frame.temporaries ≤ b.body.slots.code.temporaries)
      (count : length c.frame.temporaries ≡ first + 0) (free : c.frame.landed ≡ None)
      (askable : AreListable program c.store.vectored) where
    abbrev removal : BuiltIn
    removal = RemoveVectored f

    abbrev enough : first ≤ length c.frame.temporaries
    enough = omega arith

    abbrev at_removing : State
    at_removing = there setting roomy s c b counted around removal first at framed within held
        enough free

    abbrev handlers : List ℕ
    handlers = c.store.vectored

    abbrev answer : ℕ
    answer = answer_number (is_listed f handlers) % 2 ^ 64

    abbrev left : List ℕ
    left = removed f handlers

    inside : f < length program.functions
    inside = (b.memory.code.built_in removal
        (calls_it setting roomy s c b removal first at)).names.is_function

    abbrev after_removing : Configuration
    after_removing = answered setting roomy s c b counted around removal first at framed within held
        enough free answer c.store.memory left c.events

    removes_it : (next : Next) → act program (instructions.CallBuiltIn removal first) next c
        ≡ next after_removing
    removes_it next =
        calls_as program c removal first count next
        ∙ ap (λ x. next (answered setting roomy s c b counted around removal first at framed within
        held enough free x c.store.memory left c.events)) (sym (numbered (is_listed f handlers)))

    removing_turn : turn t fs at_removing ≡ Continues
        (returned_to setting roomy s c b counted around removal first at framed within held enough
        free answer at_removing.memory (map p.handler left)) []
    removing_turn =
        let ret = to setting roomy s c b counted around removal first at framed within held enough
        free in
        let u = returned_to setting roomy s c b counted around removal first at framed
        within held enough free answer at_removing.memory (map p.handler left) in
        let silent = silent_back setting roomy s c b counted around removal first at framed
        within held enough free answer (omega arith) at_removing.memory c.store.memory
        (map p.handler left) left c.events
        (same_stack setting roomy s c b counted around removal first at framed within held enough
        free at_removing.memory (sp setting roomy s c b counted removal first at))
        (pushed_memory setting roomy s c b counted around removal first at framed within held
        enough free)
        refl in
        removing_turns t fs at_removing ret refl
        (returns setting roomy s c b counted removal first at)
        ∙ ap (arrived t fs) (takes_out f inside at_removing (back at_removing ret) handlers askable
        b.well_formed.listed refl)
        ∙ ap (λ es. Continues u es) silent

    pub removing_step : Moves t fs program 16 turns_left (RepresentsAt setting) s c
        (instructions.CallBuiltIn removal first)
    removing_step =
        served setting roomy s c b counted around removal first at framed within held enough free
        answer (omega arith) at_removing.memory c.store.memory (map p.handler left) left c.events
        (same_stack setting roomy s c b counted around removal first at framed within held enough
        free at_removing.memory (sp setting roomy s c b counted removal first at))
        (pushed_memory setting roomy s c b counted around removal first at framed within held
        enough free)
        refl [] removing_turn (sym (append-nil c.events)) removes_it
