-- The body that runs, where an instruction of linear code begins.
--
-- The main definitions: `InBody`, `RepresentsAt`, `turns_left`.
use Rattle.std.specs.Prelude.{◌≡◌, ℕ, ◌+◌, ◌*◌, ◌≤◌, Bool, true, false, List, [], ◌∷◌, length, drop, Some, Ok}
use Rattle.host_layout.specs.declared.range.TheConstants.{STACK_END}
use Rattle.x64_instr.specs.declared.register.Reg.TheVariants.{Rax, Rsp}
use Rattle.x64_machine.specs.Contexts.{context_of}
use Rattle.x64_machine.specs.Effect.{State, register}
use Rattle.virtual_unwind.specs.CallerOf.{Functions}
use Rattle.virtual_unwind.specs.Undone.{word}
use Rattle.host_model.specs.declared.funclet.Funclet.{Funclet}
use Rattle.linear_code.specs.Program.{LinearProgram}
use Rattle.linear_machine.specs.Frames.{BodyName, Asked, FilterOf, VectoredAt, Item, Waits, Searches, Unwinds, Configuration}
use Rattle.template_code.specs.declared.layout.Layout.{Layout}
use Rattle.seh_records.specs.Laws.{AllSmall}
use Rattle.match_stack.specs.Stack.{StackItem, StackFrame, IsAsTold}
use Rattle.match_stack.specs.WalkLaws.{context_below}
use Rattle.match_stack.specs.ImagePlan.{ImagePlan}
use Rattle.match_stack.specs.ItemMatches.{Activation, locals_of, activations_below, temporaries_end, home_end, BodyWaits, HasPointers, IsAbove, ReturnsTo}
use Rattle.match_stack.specs.StackRecords.{On}
use Rattle.match_stack.specs.DispatchStates.{IsWellFormed, host_list}
use Rattle.match_bodies.specs.CodeSites.{Sites}
use Rattle.match_bodies.specs.LocalRegisters.{now_of}
use Rattle.match_bodies.specs.ProgramImages.{IsMachineMemory, frame_of}

-- where the locals of a body end above RSP at the latest, and its temporaries: in a leaf function
-- the temporaries come after the locals, up to the end of the home space above its return address
abbrev pub slots_end : Layout → Bool → ℕ
slots_end y true = y.temporaries
slots_end y false = y.slots

abbrev pub last_temporary : Layout → BodyName → Bool → ℕ
last_temporary y name true = home_end
last_temporary y name false = temporaries_end y name y.slots

-- a leaf function has its return address at RSP, and its caller's registers as they are
pub record IsLeafFrame (s : State) (f : StackFrame) : Type 0 where
  pub returns : word s.memory (register s.cpu Rsp) ≡ Ok f.return_address
  pub others : drop 1 (context_of s.cpu).kept ≡ f.others

-- the frame of a body that runs, a leaf function's or any other's
abbrev pub HasFrame : State → Bool → StackFrame → Type 0
HasFrame s true f = IsLeafFrame s f
HasFrame s false f = IsAsTold s.memory (context_of s.cpu) f

-- what a search holds: two for the return of a vectored handler, which is longer than a filter's
abbrev pub held_for : Asked → ℕ
held_for (FilterOf h rest) = 0
held_for (VectoredAt place) = 2

-- how many temporaries the bodies that wait hold, with what the searches do
abbrev pub held_below : List Item → ℕ
held_below [] = 0
held_below (Waits f ∷ below) = length f.temporaries + held_below below
held_below (Searches exception resumption asked ∷ below) = held_for asked + held_below below
held_below (Unwinds rest target ∷ below) = held_below below

-- turns of the machine that were not needed so far: three for each temporary that is held, since an
-- instruction that makes one takes at most 13 turns, and a call needs the more the more arguments
-- it has; and six for each vectored handler that runs, whose separators have left as many
abbrev pub turns_left : Configuration → ℕ
turns_left c = 3 * (length c.frame.temporaries + held_below c.below)

module _ (t : Functions) (fs : List Funclet) (program : LinearProgram) (p : ImagePlan)
    (q : Sites) where
  -- the body's frame is from RSP up: its slots hold what linear code has in them, above them is
  -- what its codes tell of and the return address, and from there on is the list, with the
  -- registers that whoever called it has
  pub record InBody (s : State) (c : Configuration) : Type 0 where
    pub acts : List Activation
    pub store : c.store.activations ≡ locals_of acts
    pub slots : BodyWaits t fs program p s.memory (context_of s.cpu)
        (now_of (p.leaf c.frame.body) s.cpu)
        (slots_end (p.layout c.frame.body) (p.leaf c.frame.body))
        (last_temporary (p.layout c.frame.body) c.frame.body (p.leaf c.frame.body)) c.frame acts
    pub pointers : HasPointers t fs program p s.memory (p.layout c.frame.body) (register s.cpu Rsp)
        (p.layout c.frame.body).frame c.below
    pub above : IsAbove t fs program p c.frame c.frame.body c.below
    pub home : p.leaf c.frame.body ≡ true → register s.cpu Rsp + home_end ≤ STACK_END
    pub back : ℕ
    pub returns_to : ReturnsTo t fs program p c.below back
    pub others : List ℕ
    pub eight : length others ≡ 8
    pub small : AllSmall others
    pub frame : HasFrame s (p.leaf c.frame.body) (frame_of p c.frame.body back others)
    pub is : List StackItem
    pub below : On t fs program p s.memory (context_below back (register s.cpu Rsp
        + (p.layout c.frame.body).frame + 8) others) is c.below
        (activations_below c.frame.body acts)

  -- an instruction of linear code begins; where an `__except` block has just taken over, RAX is the
  -- exception's code
  pub record RepresentsAt (s : State) (c : Configuration) : Type 0 where
    pub rip : s.cpu.rip ≡ p.address c.frame.body c.frame.next
    pub well_formed : IsWellFormed (host_list p c.store) s
    pub memory : IsMachineMemory t fs program p q s.memory c.store.memory
    pub body : InBody s c
    pub landed : (code : ℕ) → c.frame.landed ≡ Some code → register s.cpu Rax ≡ code
