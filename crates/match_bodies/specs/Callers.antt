-- Where a walk finds the caller of code that runs.
--
-- The main definitions: `Owed`, `FindsOwed`, `FindsReturn`, `owed_opening`, `owed_pops`.
use Rattle.std.specs.Prelude.{◌≡◌, ℕ, ◌+◌, ◌^◌, ◌<◌, ◌≤◌, Bool, true, false, List, [], ◌∷◌, length, slice_set}
use Rattle.flat_memory.specs.Memory.{Memory}
use Rattle.x64_machine.specs.declared.context.Context.{Context}
use Rattle.x64_machine.specs.Contexts.{context_of}
use Rattle.eh_tables.specs.declared.code.UnwindOperation.{UnwindOperation}
use Rattle.eh_tables.specs.Infos.{Info}
use Rattle.virtual_unwind.specs.Contexts.{get, rsp}
use Rattle.frame_rules.specs.Codes.{are_allowed, pushed}
use Rattle.frame_rules.specs.Frame as rules
use Rattle.frame_rules.specs.Plan.{FramePlan, operations_of}
use Rattle.virtual_unwind.specs.CallerOf.{Functions, CallerFrame, run_by}
use Rattle.virtual_unwind.specs.Undone.{operations}
use Rattle.linear_machine.specs.Frames.{BodyName}
use Rattle.seh_walk.specs.Walk as walk
use Rattle.seh_walk.specs.Walk.{visited}
use Rattle.match_stack.specs.Stack.{StackItem, Framed, Leaf, Searching, Unwinding, after_frame, after_leaf, teller}
use Rattle.match_stack.specs.ImagePlan.{ImagePlan}
use Rattle.match_stack.specs.PlainWalks.{state}

-- the callers of a list of stack items, past its records
abbrev pub callers : Context → List StackItem → List Context
callers c [] = []
callers c (Framed f ∷ is) = after_frame c f ∷ callers (after_frame c f) is
callers c (Leaf back ∷ is) = after_leaf c back ∷ callers (after_leaf c back) is
callers c (Searching r ∷ is) = callers (context_of r.saved) is
callers c (Unwinding r ∷ is) = callers r.walk is

-- what the caller continues with, where the return address is so far above RSP
abbrev pub caller_above : Context → ℕ → ℕ → Context
caller_above c size back = record { rip = back; kept = slice_set c.kept 0 (rsp c + size + 8) }

-- with these nonvolatile registers: RSP at the return address, as where the routine was entered
abbrev pub caller_owed : Context → ℕ → ℕ → List ℕ → Context
caller_owed c size back others = record { rip = back; kept = (rsp c + size) ∷ others }

-- and past it, as the caller continues
abbrev pub caller_left : Context → ℕ → ℕ → List ℕ → Context
caller_left c size back others = record { rip = back; kept = (rsp c + size + 8) ∷ others }

-- a walk comes to a frame, and continues in this context
pub record HasCaller (t : Functions) (m : Memory) (c caller : Context) : Type 0 where
  pub frame : CallerFrame
  pub visits : visited t m (state c 0) ≡ walk.Frame frame (state caller 0)
  pub context : frame.context ≡ caller

-- codes that are still to be undone, with the frame register and how far it is above RSP
pub record Owed : Type 0 where
  pub register : ℕ
  pub offset : ℕ
  pub codes : List UnwindOperation

-- none: the return address is at RSP
abbrev pub nothing_owed : Owed
nothing_owed = record { register = 0; offset = 0; codes = [] }

-- they are still to be undone: the return address is so far above RSP, and the caller has these
-- registers beside RSP
pub record IsOwed (m : Memory) (c : Context) (o : Owed) (size back : ℕ) (others : List ℕ) : Type 0
  where
    pub kept : length c.kept ≡ 9
    pub eight : length others ≡ 8
    pub room : rsp c + size + 8 < 2 ^ 64
    pub small : o.offset ≤ 2 ^ 64
    pub allowed : are_allowed o.register o.codes ≡ true
    pub stack : rules.Stack m (get (caller_owed c size back others)) back (rsp c) (rsp c) o.codes
    pub framed : rules.Framed o.register o.offset (get c) (rsp c) o.codes
    pub unsaved : rules.Others (get (caller_owed c size back others)) (get c) o.codes

-- at an address a walk finds the caller by the codes that are still to be undone there
abbrev pub FindsOwed : Functions → Memory → ℕ → Owed → Type 0
FindsOwed t m rip o =
    (c : Context) (size back : ℕ) (others : List ℕ) → c.rip ≡ rip → IsOwed m c o size back others
    → HasCaller t m c (caller_left c size back others)

-- no codes are left to undo, and the return address is at RSP
abbrev pub FindsReturn : Functions → Memory → ℕ → Type 0
FindsReturn t m rip = FindsOwed t m rip nothing_owed

-- what a body's codes tell, past its prologue; a leaf function has none
abbrev pub owed_by : Info → Bool → Owed
owed_by i true = nothing_owed
owed_by i false =
    record {
      register = i.frame_register;
      offset = i.frame_offset;
      codes = operations i.codes;
    }

-- so many bytes from a function's first byte on: the codes of the instructions that have been run
abbrev pub owed_after : Info → ℕ → Owed
owed_after i d =
    record {
      register = i.frame_register;
      offset = i.frame_offset;
      codes = operations (run_by d i.codes);
    }

-- where an epilogue has loaded the saved registers, all codes but their saves
abbrev pub owed_opening : FramePlan → Owed
owed_opening f =
    record {
      register = f.frame;
      offset = f.distance;
      codes = operations_of (record f { saves = [] });
    }

-- past that, the pushes of the registers that are still to be popped
abbrev pub owed_pops : FramePlan → List ℕ → Owed
owed_pops f left = record { register = f.frame; offset = f.distance; codes = pushed left }

-- what tells of a body's frame: the entry that the body begins in
abbrev pub frame_info : ImagePlan → BodyName → Info
frame_info p name = teller (p.entry name 0)

abbrev pub owed_of : ImagePlan → BodyName → Owed
owed_of p name = owed_by (frame_info p name) (p.leaf name)
