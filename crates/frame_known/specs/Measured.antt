-- Instructions of which the table of all instructions says what they may write, and what is known
-- after one.
--
-- The main definitions: `Step`, `after_step`.
use Rattle.std.specs.Prelude.{◌≡◌, ◌⊎◌, ℕ, ◌+◌, ◌%◌, ◌^◌, Bool, true, false, nat_eq, if◌then◌else◌, List, [], ◌∷◌, Option, Some, None, option_map}
use Rattle.seh_num.specs.declared.size.TheConstants.{LONGEST_INSTRUCTION}
use Rattle.flat_memory.specs.Memory.{Memory, executable}
use Rattle.x64_instr.specs.declared.instruction.Instr.{Instr}
use Rattle.x64_instr.specs.declared.instruction.Instr.TheVariants as instrs
use Rattle.x64_instr.specs.declared.instruction.Target.TheVariants.{Relative, Indirect}
use Rattle.x64_instr.specs.Reading.{bit}
use Rattle.x64_instr.specs.Spelling.{leading}
use Rattle.x64_lengths.specs.declared.effects.Effects.{Effects}
use Rattle.x64_lengths.specs.declared.effects.Flow.{Flow}
use Rattle.x64_lengths.specs.declared.effects.Flow.TheVariants as flows
use Rattle.x64_lengths.specs.declared.measure.Measured.{Measured}
use Rattle.x64_lengths.specs.Measures.{measured}
use Rattle.x64_machine.specs.Effect.{State}
use Rattle.frame_rules.specs.Body.{is_a_call}
use Rattle.frame_rules.specs.States.{registers}
use Rattle.frame_known.specs.Knowledge.{Known, Nothing, Knowledge, HasRegisters}
use Rattle.frame_known.specs.After.{from_stack, after, after_call}

-- an instruction of the machine, or another one by what it may write and where it goes on
pub data Step : Type 0 where
  Machine : Instr → Step
  Other : Effects → Step

-- ---- in bytes

abbrev pub other_of : ℕ → Option Measured → Option (Step × ℕ)
other_of at o = option_map (λ m. (Other m.effects, (at + m.length) % 2 ^ 64)) o

abbrev pub step_of : ℕ → Option Measured → Option (Instr × ℕ) → Option (Step × ℕ)
step_of at other None = other_of at other
step_of at other (Some x) = Some (Machine x.0, (at + x.1) % 2 ^ 64)

-- the instruction at an address of a memory, and the address after it
abbrev pub step_at : Memory → ℕ → Option (Step × ℕ)
step_at m at =
    let bytes = executable m LONGEST_INSTRUCTION at in step_of at (measured bytes) (leading bytes)

-- ---- what is known after it

-- registers that may be written, bit r for register r
abbrev pub forgotten_by : ℕ → (ℕ → Known) → ℕ → Known
forgotten_by written now r = if nat_eq (bit r written) 0 then now r else Nothing

abbrev pub after_other : Effects → Knowledge → Knowledge
after_other x known =
    record {
      registers = forgotten_by x.general known.registers;
      words = from_stack (forgotten_by x.general known.registers 4) known.words;
    }

abbrev pub calls : Flow → Bool
calls (flows.Call d) = true
calls flows.CallIndirect = true
calls f = false

abbrev pub is_call : Step → Bool
is_call (Machine x) = is_a_call x
is_call (Other x) = calls x.flow

abbrev pub after_plain : Step → Knowledge → Knowledge
after_plain (Machine x) known = after x known
after_plain (Other x) known = after_other x known

-- a call is taken whole
abbrev pub after_called : Bool → Step → Knowledge → Knowledge
after_called true x known = after_call false known
after_called false x known = after_plain x known

abbrev pub after_step : Step → Knowledge → Knowledge
after_step x known = after_called (is_call x) x known

-- ---- where it goes on, by the address after it

-- where an indirect jump goes isn't known
abbrev pub ways : Instr → ℕ → List ℕ
ways (instrs.JumpIf c d) next = next ∷ ((next + d) % 2 ^ 64) ∷ []
ways (instrs.Jump (Relative d)) next = ((next + d) % 2 ^ 64) ∷ []
ways (instrs.Jump (Indirect to)) next = []
ways instrs.Return next = []
ways x next = next ∷ []

abbrev pub flow_ways : Flow → ℕ → List ℕ
flow_ways (flows.Conditional d) next = next ∷ ((next + d) % 2 ^ 64) ∷ []
flow_ways (flows.Jump d) next = ((next + d) % 2 ^ 64) ∷ []
flow_ways flows.Return next = []
flow_ways flows.JumpIndirect next = []
flow_ways flows.Stops next = []
flow_ways f next = next ∷ []

abbrev pub step_ways : Step → ℕ → List ℕ
step_ways (Machine x) next = ways x next
step_ways (Other x) next = flow_ways x.flow next

-- whether it may go on elsewhere
abbrev pub leaves : Instr → Bool
leaves (instrs.Jump (Indirect to)) = true
leaves instrs.Return = true
leaves x = false

abbrev pub flow_leaves : Flow → Bool
flow_leaves flows.Return = true
flow_leaves flows.JumpIndirect = true
flow_leaves f = false

abbrev pub step_leaves : Step → Bool
step_leaves (Machine x) = leaves x
step_leaves (Other x) = flow_leaves x.flow

-- ---- what a processor does at an instruction that isn't the machine's

abbrev pub OneOf : ℕ → List ℕ → Type 0
OneOf a [] = ⊥
OneOf a (b ∷ bs) = (a ≡ b) ⊎ OneOf a bs

-- no more than the table says: it leaves each register that isn't named as written, and goes on at
-- the next instruction or where it jumps
pub record Obeys (x : Effects) (s t : State) (next : ℕ) : Type 0 where
  pub numbers : HasRegisters t
  pub kept : (r : ℕ) → bit r x.general ≡ 0 → registers t r ≡ registers s r
  pub protection : t.memory.protection ≡ s.memory.protection
  pub way : OneOf t.cpu.rip (flow_ways x.flow next)
