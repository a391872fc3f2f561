-- Each of these steps is matched.
use Rattle.std.proofs.Common.{◌≡◌, ℕ, ◌+◌, ◌<◌, Bool, true, false, List, ◌∷◌, Option, Some, None, length, refl, sym, ap, subst, ◌∙◌}
use Rattle.std.specs.Prelude.{slice_get}
use Rattle.match_turns.specs.Words.{Rsp, address_of, back, register, context_of, waiting, Waits, StackItem, On, return_at, MachineView, machine, pushed, host_service_of, State, BuiltIn, Put, Protect, Walk, AddVectored, RemoveVectored, Local, Instruction, LinearProgram, Configuration, instruction_at, LandsWell, IsWellMade, IsKnown, Setting, setting_of, RepresentsAt}
use Rattle.linear_code.specs.declared.instruction.Instruction.TheVariants as instructions
use Rattle.match_turns.proofs.Lemmas.{some_is, counted_here, askable_here, around_here, code_at, held_here, goes_inside, ready_here}
use Rattle.match_turns.specs.ServiceLaws.{InformationIsMatched, PutsAreMatched, ProtectsAreMatched, WalksAreMatched, AddsAreMatched, RemovesAreMatched}
use Rattle.match_turns.proofs.Services.ServiceTurns.{put_step, protect_step}
use Rattle.match_turns.proofs.Services.BuiltInRequest as asking
use Rattle.match_turns.proofs.Services.BuiltInShadow.{calls_it}
use Rattle.match_turns.proofs.Dispatches.WalkTurn.{walk_step}
use Rattle.match_turns.proofs.VectoredHandlers.VectoredTurns.{adding_step, removing_step}
use Rattle.match_turns.proofs.Filters.FilterInformationStep.{information_step}

-- only a landing follows what has landed
abbrev is_landing : Instruction → Bool
is_landing (instructions.Landing to) = true
is_landing i = false

pub nothing_landed : (program : LinearProgram) (c : Configuration) (i : Instruction)
    (landed : Option ℕ) → LandsWell program c.frame.body c.frame.next landed
    → instruction_at program c ≡ Some i → is_landing i ≡ false → landed ≡ None
nothing_landed program c i None h e f = refl
nothing_landed program c i (Some v) h e f =
    let same : instructions.Landing (Local h.0)
    ≡ i = some_is (instructions.Landing (Local h.0)) i (sym h.1 ∙ e) in
    absurd (let x : true ≡ false = ap is_landing same ∙ f in cc)

pub information_is_matched : InformationIsMatched
information_is_matched t fs program p q image made reads s c to field b known e =
    let setting : Setting = setting_of t fs program p q image in
    let i = instructions.Information to field in
    let at = code_at setting made s c b known i e in
    let r = reads c.frame.body b.body.slots.code c.frame.next to field b.body.slots.body at in
    information_step setting made.room s c b
    (counted_here setting made c known)
    (around_here setting made s c b known) to field
    (nothing_landed program c i c.frame.landed known.stacked.landed e refl) at
    (held_here setting made s c b known)
    (ready_here setting made s c b known i e) r.0 r.1
    (goes_inside setting made s c b known i e)

-- a body that calls is no leaf
module _ (setting : Setting) (made : IsWellMade setting.program setting.plan) (s : State)
    (c : Configuration) (b : RepresentsAt setting s c) (known : IsKnown setting.program c)
    (f : BuiltIn) (first : ℕ) (e : instruction_at setting.program c ≡ Some
    (instructions.CallBuiltIn f first)) where
  open setting use {plan as p}

  abbrev i : Instruction
  i = instructions.CallBuiltIn f first

  call_here : slice_get b.body.slots.code.code c.frame.next ≡ Some i
  call_here = code_at setting made s c b known i e

  framed : p.leaf c.frame.body ≡ false
  framed = by (p.leaf c.frame.body) refl
    where
      by : (leaf : Bool) → p.leaf c.frame.body ≡ leaf → p.leaf c.frame.body ≡ false
      by false e = e
      by true e = absurd (let no : true ≡ false = made.leaves c.frame.body b.body.slots.code
          c.frame.next i b.body.slots.body e call_here in cc)

  within : c.frame.next + 1 < length b.body.slots.code.code
  within = (made.apart c.frame.body b.body.slots.code b.body.slots.body).within c.frame.next i
      call_here refl

pub puts_are_matched : PutsAreMatched
puts_are_matched t fs program p q image made s c first b known e =
    let setting : Setting = setting_of t fs program p q image in
    let i = instructions.CallBuiltIn Put first in
    put_step setting made.room s c b
    (counted_here setting made c known)
    (around_here setting made s c b known) first
    (call_here setting made s c b known Put first e)
    (framed setting made s c b known Put first e)
    (within setting made s c b known Put first e)
    (held_here setting made s c b known)
    (ready_here setting made s c b known i e)
    (nothing_landed program c i c.frame.landed known.stacked.landed e refl)

pub protects_are_matched : ProtectsAreMatched
protects_are_matched t fs program p q image made s c first b known e =
    let setting : Setting = setting_of t fs program p q image in
    let i = instructions.CallBuiltIn Protect first in
    protect_step setting made.room s c b
    (counted_here setting made c known)
    (around_here setting made s c b known) first
    (call_here setting made s c b known Protect first e)
    (framed setting made s c b known Protect first e)
    (within setting made s c b known Protect first e)
    (held_here setting made s c b known)
    (ready_here setting made s c b known i e)
    (nothing_landed program c i c.frame.landed known.stacked.landed e refl)

-- where `walk` returns to, the body that calls it is on top of the list
module _ (setting : Setting) (made : IsWellMade setting.program setting.plan) (s : State)
    (c : Configuration) (b : RepresentsAt setting s c) (known : IsKnown setting.program c)
    (first : ℕ) (e : instruction_at setting.program c ≡ Some (instructions.CallBuiltIn Walk first))
  where
    open setting use {functions as t, funclets as fs, program, plan as p}

    abbrev given : MachineView
    given = asking.given setting made s c b known Walk first e

    -- the state at the service, where the call's code begins at an address
    abbrev to : ℕ → ℕ
    to a = return_at (p.layout c.frame.body) first (a + 5)

    abbrev there : ℕ → State
    there a = machine (pushed given (register s.cpu Rsp) (to a)) (address_of (host_service_of Walk))
        s.cpu.flags

    abbrev stack : List StackItem
    stack = (asking.asks setting made s c b known Walk first e).is

    abbrev OnAt : ℕ → Type 0
    OnAt a = On t fs program p (there a).memory (context_of (back (there a) (to a)).cpu) stack
        (Waits (waiting c first).frame ∷ c.below) b.body.acts

    on_top : OnAt s.cpu.rip
    on_top = subst OnAt (sym b.rip) (asking.asks setting made s c b known Walk first e).asks.on

pub walks_are_matched : WalksAreMatched
walks_are_matched t fs program p q image made s c first b known e =
    let setting : Setting = setting_of t fs program p q image in
    let i = instructions.CallBuiltIn Walk first in
    let here = call_here setting made s c b known Walk first e in
    walk_step setting made.room s c b
    (counted_here setting made c known)
    (around_here setting made s c b known) first here
    (framed setting made s c b known Walk first e)
    (within setting made s c b known Walk first e)
    (held_here setting made s c b known)
    (ready_here setting made s c b known i e)
    (nothing_landed program c i c.frame.landed known.stacked.landed e refl)
    (image.names (calls_it setting made.room s c b Walk first here))
    (stack setting made s c b known first e) b.body.acts
    (on_top setting made s c b known first e)

pub adds_are_matched : AddsAreMatched
adds_are_matched t fs program p q image made s c f first b known e =
    let setting : Setting = setting_of t fs program p q image in
    let i = instructions.CallBuiltIn (AddVectored f) first in
    adding_step setting made.room s c b
    (counted_here setting made c known)
    (around_here setting made s c b known) f first
    (call_here setting made s c b known (AddVectored f) first e)
    (framed setting made s c b known (AddVectored f) first e)
    (within setting made s c b known (AddVectored f) first e)
    (held_here setting made s c b known)
    (ready_here setting made s c b known i e)
    (nothing_landed program c i c.frame.landed known.stacked.landed e refl)
    (askable_here program c.store.vectored made.whole known.stacked.handlers)

pub removes_are_matched : RemovesAreMatched
removes_are_matched t fs program p q image made s c f first b known e =
    let setting : Setting = setting_of t fs program p q image in
    let i = instructions.CallBuiltIn (RemoveVectored f) first in
    removing_step setting made.room s c b
    (counted_here setting made c known)
    (around_here setting made s c b known) f first
    (call_here setting made s c b known (RemoveVectored f) first e)
    (framed setting made s c b known (RemoveVectored f) first e)
    (within setting made s c b known (RemoveVectored f) first e)
    (held_here setting made s c b known)
    (ready_here setting made s c b known i e)
    (nothing_landed program c i c.frame.landed known.stacked.landed e refl)
    (askable_here program c.store.vectored made.whole known.stacked.handlers)
