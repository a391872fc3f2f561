-- The host's turn at `walk`, and the step of linear code that it matches.
use Rattle.std.proofs.Common.{◌≡◌, ℕ, ◌+◌, ◌<◌, ◌≤◌, false, List, [], ◌∷◌, ◌++◌, length, map, Some, None, Ok, refl, ap, ◌∙◌, arith}
use Rattle.std.specs.Prelude.{Result, slice_get}
use Rattle.match_turns.specs.Words.{W64, Event, address_of, RefusedAccess, loaded, Rsp, context_of, State, register, Functions, Funclet, Continues, arrived, back, returned, turn, Walk, Item, Waits, Configuration, Next, waiting, act, StackItem, Activation, On, Moves, HaveRoom, turns_left, Setting, RepresentsAt}
use Rattle.std.proofs.lemmas.List.{append-nil}
use Rattle.source_meaning.specs.State.{walk_events}
use Rattle.linear_machine.specs.Frames.{functions_in}
use Rattle.seh_walk.specs.Walk.{steps}
use Rattle.seh_walk.specs.Controls.{number_at}
use Rattle.host_model.specs.HostStep.{Printed, printed, printed_of, walked, walk_from, walking}
use Rattle.match_stack.specs.ControlAddresses.{NumbersFunctions}
use Rattle.seh_num.specs.declared.event.Event.TheVariants as events
use Rattle.host_layout.specs.declared.service.Service.TheVariants as services
use Rattle.linear_code.specs.declared.instruction.Instruction.TheVariants as instructions
use Rattle.match_turns.proofs.Lemmas.{IsCounted, Surroundings, few_items, in_stack, controls_are_of_the_list, control_addresses_are_of_functions}
use Rattle.match_turns.proofs.Services.ServiceCall.{sp, returns}
use Rattle.match_turns.proofs.Services.ServiceReturn.{to, there, returned_to, answered, silent_back, served}
use Rattle.match_turns.proofs.Services.ServiceTurns.{at_service, calls_as, pushed_memory, same_stack}

module _ (t : Functions) (fs : List Funclet) where
  walk_turns : (s : State) (ret : ℕ) → s.cpu.rip ≡ address_of services.Walk
      → loaded s.memory (register s.cpu Rsp) W64 ≡ Ok ret
      → turn t fs s ≡ arrived t fs (walking t s (back s ret))
  walk_turns s ret e w = at_service t fs s (address_of services.Walk) e
      ∙ ap (λ (x : Result ℕ RefusedAccess). arrived t fs (returned s x (walking t s))) w

-- the numbers of the walk are those that linear code shows
same_events : (functions : List ℕ) → map events.At (map (λ f. f + 1) functions)
    ≡ walk_events functions
same_events [] = refl
same_events (f ∷ functions) = ap (λ es. events.At (f + 1) ∷ es) (same_events functions)

module _ (setting : Setting) (roomy : HaveRoom setting.program) where
  open setting use {functions as t, funclets as fs, program, plan as p}

  module _ (s : State) (c : Configuration) (b : RepresentsAt setting s c)
      (counted : IsCounted setting c)
      (around : Surroundings setting roomy s c b counted) (first : ℕ)
      (at : slice_get b.body.slots.code.code c.frame.next
      ≡ Some (instructions.CallBuiltIn Walk first)) (framed : p.leaf c.frame.body ≡ false)
      (within : c.frame.next + 1 < length b.body.slots.code.code)
      (held : length c.frame.temporaries ≤ b.body.slots.code.temporaries)
      (count : length c.frame.temporaries ≡ first + 0) (free : c.frame.landed ≡ None) where
    abbrev fits : first ≤ length c.frame.temporaries
    fits = omega arith

    abbrev pub here : State
    here = there setting roomy s c b counted around Walk first at framed within held fits free

    -- where the service returns to
    abbrev pub after : State
    after = returned_to setting roomy s c b counted around Walk first at framed within held fits
        free 0 here.memory here.vectored

    abbrev items : List Item
    items = Waits (waiting c first).frame ∷ c.below

    abbrev shown : List Event
    shown = walk_events (functions_in items)

    abbrev after_walk : Configuration
    after_walk = answered setting roomy s c b counted around Walk first at framed within held fits
        free 0 c.store.memory c.store.vectored (c.events ++ shown)

    walks : (next : Next) → act program (instructions.CallBuiltIn Walk first) next c
        ≡ next after_walk
    walks next = calls_as program c Walk first count next

    -- where the list is in the stack there
    module _ (numbers : NumbersFunctions program p (number_at t)) (is : List StackItem)
        (acts : List Activation)
        (on : On t fs program p here.memory (context_of after.cpu) is items acts) where
      printed_there : printed steps t here.memory (walk_from after.cpu)
          ≡ record { events = shown; stop = None }
      printed_there =
          let low = in_stack t fs program p here.memory (context_of after.cpu) is items acts
          on.is_there.stack on.is_there.linked in
          let few = few_items t here.memory (context_of after.cpu) is on.is_there.stack
          (omega arith) in
          ap (printed_of t) (controls_are_of_the_list t here.memory (context_of after.cpu) 0 is
          steps on.is_there.stack (omega arith))
          ∙ ap (λ (es : List Event). let x : Printed = record { events = es; stop = None } in x)
          (ap (λ ns. map events.At ns) (control_addresses_are_of_functions t fs program p
          (number_at t) here.memory (context_of after.cpu) is items acts numbers
          on.is_there.linked)
          ∙ same_events (functions_in items))

      turns : turn t fs here ≡ Continues after shown
      turns =
          let silent = silent_back setting roomy s c b counted around Walk first at framed within
          held fits free 0 (omega arith) here.memory c.store.memory here.vectored c.store.vectored
          (c.events ++ shown)
          (same_stack setting roomy s c b counted around Walk first at framed within held fits free
          here.memory (sp setting roomy s c b counted Walk first at))
          (pushed_memory setting roomy s c b counted around Walk first at framed within held fits
          free) b.well_formed.listed in
          walk_turns t fs here (to setting roomy s c b counted around Walk first at framed within
          held fits free) refl (returns setting roomy s c b counted Walk first at)
          ∙ ap (λ x. arrived t fs (walked after x)) printed_there
          ∙ ap (λ es. Continues after (shown ++ es)) silent
          ∙ ap (Continues after) (append-nil shown)

      pub walk_step : Moves t fs program 16 turns_left (RepresentsAt setting) s c
          (instructions.CallBuiltIn Walk first)
      walk_step =
          served setting roomy s c b counted around Walk first at framed within held fits free 0
          (omega arith) here.memory c.store.memory here.vectored c.store.vectored
          (c.events ++ shown)
          (same_stack setting roomy s c b counted around Walk first at framed within held fits free
          here.memory (sp setting roomy s c b counted Walk first at))
          (pushed_memory setting roomy s c b counted around Walk first at framed within held fits
          free) b.well_formed.listed
          shown turns refl walks
