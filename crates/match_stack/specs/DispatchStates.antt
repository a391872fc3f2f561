-- States between two turns of the dispatcher.
--
-- The main definitions: `IsWellFormed`, `host_list`, `Arrives`.
use Rattle.std.specs.Prelude.{◌≡◌, ℕ, ◌+◌, ◌^◌, ◌<◌, List, length, map, Ok}
use Rattle.x64_instr.specs.declared.register.Reg.TheVariants.{Rcx, Rdx, Rsp}
use Rattle.x64_machine.specs.Effect.{State, register}
use Rattle.virtual_unwind.specs.Undone.{word}
use Rattle.virtual_unwind.specs.CallerOf.{Functions}
use Rattle.seh_records.specs.Laws.{AllSmall}
use Rattle.host_model.specs.declared.funclet.Funclet.{Funclet}
use Rattle.linear_code.specs.Program.{LinearProgram}
use Rattle.linear_machine.specs.Frames.{BodyName, Item, Store}
use Rattle.match_stack.specs.Stack.{StackItem}
use Rattle.match_stack.specs.WalkLaws.{context_below}
use Rattle.match_stack.specs.ImagePlan.{ImagePlan, IsFunclet}
use Rattle.match_stack.specs.ItemMatches.{Activation, Reaches}
use Rattle.match_stack.specs.StackRecords.{On}

-- the vectored handlers of linear code, as the host lists them
abbrev pub host_list : ImagePlan → Store → List ℕ
host_list p store = map p.handler store.vectored

-- RIP and the registers are numbers of 64 bits, and the host lists these vectored handlers
pub record IsWellFormed (handlers : List ℕ) (s : State) : Type 0 where
  pub rip_small : s.cpu.rip < 2 ^ 64
  pub count : length s.cpu.registers ≡ 16
  pub small : AllSmall s.cpu.registers
  pub listed : s.vectored ≡ handlers

-- at the first byte of a funclet: RCX is its first argument, RDX leads to its activation, and below
-- its return address is the list
pub record Arrives (t : Functions) (fs : List Funclet) (program : LinearProgram) (p : ImagePlan)
    (s : State) (k activation first : ℕ) (items : List Item) (acts : List Activation)
    (handlers : List ℕ) : Type 0 where
  pub rip : s.cpu.rip ≡ p.funclet k
  pub name : BodyName
  pub funclet : IsFunclet t fs program p name k
  pub argument : register s.cpu Rcx ≡ first
  pub reaches : Reaches t fs program p s.memory name (register s.cpu Rdx) activation acts
  pub at : ℕ
  pub stack : register s.cpu Rsp + 8 ≡ at
  pub at_small : at < 2 ^ 64
  pub back : ℕ
  pub returns : word s.memory (register s.cpu Rsp) ≡ Ok back
  pub is : List StackItem
  pub on : (others : List ℕ) → On t fs program p s.memory
      (context_below back at others) is items acts
  pub well_formed : IsWellFormed handlers s
