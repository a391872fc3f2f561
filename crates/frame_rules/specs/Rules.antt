-- The rules for a function with an entry, and the states in which they promise its caller.
--
-- The main definitions: `IsRight`, `IsInFunction`.
use Rattle.std.specs.Prelude.{◌≡◌, ◌≢◌, ◌⊎◌, ℕ, ◌+◌, ◌^◌, ◌<◌, true, List, [], ◌∷◌, ◌++◌, Some, Ok}
use Rattle.x64_machine.specs.Effect.{State}
use Rattle.x64_machine.specs.declared.context.Context.{Context}
use Rattle.eh_tables.specs.declared.code.UnwindOperation.{UnwindOperation}
use Rattle.eh_tables.specs.Infos.{Info}
use Rattle.virtual_unwind.specs.Contexts.{rsp}
use Rattle.virtual_unwind.specs.Undone.{Answer, operations}
use Rattle.virtual_unwind.specs.declared.tail.Role.TheVariants.{Other}
use Rattle.virtual_unwind.specs.Tail.{FetchedInstr, role_of}
use Rattle.virtual_unwind.specs.CallerOf.{CallerFrame, sets_frame}
use Rattle.frame_rules.specs.Codes.{are_allowed, is_ordered}
use Rattle.frame_rules.specs.Prologue.{bytes, PrologueStep, items, codes_onto, ArePrologueSteps}
use Rattle.frame_rules.specs.Body.{Mode, Body, following, is_body}
use Rattle.frame_rules.specs.States.{RunsThrough, InBody, all_leave}

-- a function: its unwind info, the steps of its prologue, and the instructions after it
pub record FramedFunction : Type 0 where
  pub info : Info
  pub steps : List PrologueStep
  pub rest : List FetchedInstr

abbrev pub ops : FramedFunction → List UnwindOperation
ops f = operations f.info.codes

-- the rules for a function with an entry. Its unwind codes are in their order and describe its
-- prologue instruction by instruction. Its body writes neither RSP nor a nonvolatile register that
-- isn't saved, and each epilogue gives back what was taken. `keeps_rules` is the same as a test on
-- decoded instructions.
pub record IsRight (f : FramedFunction) : Type 0 where
  pub offset : f.info.frame_offset < 2 ^ 16
  pub codes : f.info.codes ≡ codes_onto [] f.steps
  pub prologue_size : f.info.prologue_size ≡ bytes (items f.steps)
  pub steps : ArePrologueSteps f.info.frame_register f.info.frame_offset 0 f.steps
  pub ordered : is_ordered (ops f) ≡ true
  pub allowed : are_allowed f.info.frame_register (ops f) ≡ true
  pub frame : f.info.frame_register ≢ 0 → sets_frame (ops f) ≡ true
  pub body : is_body (following f.info.frame_register f.info.frame_offset (ops f) f.rest (Body []))
      ≡ true

-- the mode at a place
abbrev pub mode_following : FramedFunction → List FetchedInstr → Mode → Mode → Type 0
mode_following f xs from to =
    following f.info.frame_register f.info.frame_offset (ops f) xs from ≡ Some to

-- ---- the states, e at the first byte, so far from it

-- on the way through the prologue
pub record InPrologue (f : FramedFunction) (e s : State) (distance : ℕ) : Type 0 where
  pub done : List FetchedInstr
  pub left : List FetchedInstr
  pub parts : items f.steps ≡ done ++ left
  pub before : bytes done < f.info.prologue_size
  pub here : distance ≡ bytes done
  pub runs : RunsThrough e done s

-- in the body, at an instruction that belongs to no epilogue
pub record IsBody (f : FramedFunction) (e s : State) (distance : ℕ) : Type 0 where
  pub following : State  -- the prologue
  pub runs : RunsThrough e (items f.steps) following
  pub done : List FetchedInstr
  pub item : FetchedInstr
  pub left : List FetchedInstr
  pub loaded : List ℕ
  pub parts : f.rest ≡ done ++ (item ∷ left)
  pub mode : mode_following f done (Body []) (Body loaded)
  pub other : role_of f.info.frame_register item.plain item.instr ≡ Other
  pub here : distance ≡ f.info.prologue_size + bytes done
  pub in_body : InBody f.info.frame_register (ops f) f.rest e following s

-- reached from a state of the body by the loads of saved registers and the epilogue's instructions
-- before it
pub record IsLeaving (f : FramedFunction) (e s : State) (distance : ℕ) : Type 0 where
  pub following : State  -- the prologue
  pub runs : RunsThrough e (items f.steps) following
  pub from : State
  pub done : List FetchedInstr
  pub run : List FetchedInstr
  pub left : List FetchedInstr
  pub to : Mode
  pub parts : f.rest ≡ done ++ (run ++ left)
  pub mode : mode_following f done (Body []) (Body [])
  pub mode_here : mode_following f run (Body []) to
  pub leave : all_leave f.info.frame_register f.info.frame_offset (ops f) run ≡ true
  pub here : distance ≡ f.info.prologue_size + (bytes done + bytes run)
  pub in_body : InBody f.info.frame_register (ops f) f.rest e following from
  pub runs_on : RunsThrough from run s
  pub continues : left ≢ []

-- the states of such a function, in its prologue, its body or an epilogue
abbrev pub IsInFunction : FramedFunction → State → State → ℕ → Type 0
IsInFunction f e s distance =
    InPrologue f e s distance ⊎ (IsBody f e s distance ⊎ IsLeaving f e s distance)

-- ---- what is promised

-- a caller is found, with this context, and above this RSP
pub record FindsContext (a : Answer CallerFrame) (c : Context) (stack : ℕ) : Type 0 where
  pub found : CallerFrame
  pub is : a ≡ Ok found
  pub context : found.context ≡ c
  pub rises : stack < rsp c

pub record IsFound (a : Answer CallerFrame) (c : Context) : Type 0 where
  pub found : CallerFrame
  pub is : a ≡ Ok found
  pub context : found.context ≡ c

-- a function of these instructions in its prologue and after it
pub record HasForm (i : Info) (xs ys : List FetchedInstr) : Type 0 where
  pub steps : List PrologueStep
  pub spelled : items steps ≡ xs
  pub right : IsRight (record { info = i; steps = steps; rest = ys })
