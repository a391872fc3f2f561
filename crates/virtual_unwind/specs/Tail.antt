-- The trailing parts of a legal epilogue, as the machine fetches them, and what they do to a
-- context (Microsoft x64 ABI, "Prolog and epilog").
--
-- The main definition: `tail_at`.
use Rattle.std.specs.Prelude.{◌≡◌, ◌<◌, ℕ, zero, suc, ◌+◌, ◌/◌, ◌%◌, ◌^◌, Bool, true, false, ◌==◌, if◌then◌else◌, List, [], ◌∷◌, Option, Some, None, Ok, slice_index}
use Rattle.seh_num.specs.declared.width.Width.TheVariants.{W64}
use Rattle.seh_num.specs.declared.size.TheConstants.{LONGEST_INSTRUCTION}
use Rattle.flat_memory.specs.Memory.{Memory, executable}
use Rattle.x64_instr.specs.declared.register.Reg.TheVariants.{Rsp}
use Rattle.x64_instr.specs.declared.operand.Base.{Base}
use Rattle.x64_instr.specs.declared.operand.Base.TheVariants as bases
use Rattle.x64_instr.specs.declared.operand.Index.{Index}
use Rattle.x64_instr.specs.declared.operand.RegisterOrMemory.TheVariants as places
use Rattle.x64_instr.specs.declared.operand.Operand.{Operand}
use Rattle.x64_instr.specs.declared.operand.Operand.TheVariants as operands
use Rattle.x64_instr.specs.declared.instruction.Operation.TheVariants.{Add}
use Rattle.x64_instr.specs.declared.instruction.Target.TheVariants.{Indirect}
use Rattle.x64_instr.specs.declared.instruction.Instr.{Instr}
use Rattle.x64_instr.specs.declared.instruction.Instr.TheVariants as instrs
use Rattle.x64_instr.specs.Registers.{number}
use Rattle.x64_instr.specs.Spelling.{leading}
use Rattle.x64_machine.specs.declared.context.Context.{Context}
use Rattle.virtual_unwind.specs.declared.tail.Role.{Role}
use Rattle.virtual_unwind.specs.declared.tail.Role.TheVariants.{Opens, Restores, Ends, Other}
use Rattle.virtual_unwind.specs.Contexts.{get, set, rsp, with_rsp, rsp_raised}
use Rattle.seh_num.specs.Answers.{◌>>=◌}
use Rattle.virtual_unwind.specs.Undone.{Answer, word, popped}

-- ---- instructions as they are fetched

-- an instruction, how many bytes it has, and whether its spelling is one that an end of an epilogue
-- may have
pub record FetchedInstr : Type 0 where
  pub instr : Instr
  pub size : ℕ
  pub plain : Bool

-- the ModRM byte after an opcode of one byte, with no 66 before it
abbrev pub modrm : List ℕ → ℕ
modrm bytes = if slice_index bytes 0 / 16 == 4 then slice_index bytes 2 else slice_index bytes 1

-- a jump through memory whose ModRM mod is 00, a `ret` with no prefix
abbrev pub is_plain : List ℕ → ℕ → Instr → Bool
is_plain bytes n (instrs.Jump (Indirect (places.Memory a))) = modrm bytes / 64 == 0
is_plain bytes n i = n == 1

abbrev pub item_of : List ℕ → Option (Instr × ℕ) → Option FetchedInstr
item_of bytes None = None
item_of bytes (Some x) = Some (record { instr = x.0; size = x.1; plain = is_plain bytes x.1 x.0 })

unfoldable pub fetched_at : Memory → ℕ → Option FetchedInstr
fetched_at m at =
    item_of (executable m LONGEST_INSTRUCTION at) (leading (executable m LONGEST_INSTRUCTION at))

-- bytes that begin with an opcode below 40, of a register and a register or memory
pub record IsPlainArithmetic (bytes : List ℕ) : Type 0 where
  pub first : ℕ
  pub rest : List ℕ
  pub is : bytes ≡ first ∷ rest
  pub low : first < 64
  pub form : first % 8 < 4
  pub one : first == 0x0F ≡ false

-- ---- what an instruction is to an epilogue

abbrev pub opening : Bool → Role
opening true = Opens
opening false = Other

abbrev pub ending : Bool → Role
ending true = Ends
ending false = Other

-- [frame register + constant], where there is a frame register
abbrev pub is_of : ℕ → Base → Option Index → Bool
is_of f (bases.Register r) None = if f == 0 then false else number r == f
is_of f b i = false

-- `add rsp,constant` or `lea rsp,[frame register + constant]`, then 8-byte pops, then an end
abbrev pub role_of : ℕ → Bool → Instr → Role
role_of f plain (instrs.Arithmetic Add W64 (places.Register Rsp) (operands.Immediate v)) = Opens
role_of f plain (instrs.LoadAddress W64 Rsp a) = opening (is_of f a.base a.index)
role_of f plain (instrs.Pop r) = Restores
role_of f plain (instrs.Jump (Indirect (places.Memory a))) = ending plain
role_of f plain instrs.Return = ending plain
role_of f plain i = Other

-- ---- trailing parts

abbrev pub prepend_instr : Instr → Option (List Instr) → Option (List Instr)
prepend_instr i None = None
prepend_instr i (Some is) = Some (i ∷ is)

abbrev pub if_first : Option (List Instr) → Bool → Option (List Instr)
if_first o true = o
if_first o false = None

-- by the instruction that comes first; the others: by its size. An opening comes first alone
abbrev pub by_role : (ℕ → Option (List Instr)) → Bool → FetchedInstr → Role → Option (List Instr)
by_role others first x Opens = if_first (prepend_instr x.instr (others x.size)) first
by_role others first x Restores = prepend_instr x.instr (others x.size)
by_role others first x Ends = Some (x.instr ∷ [])
by_role others first x Other = None

abbrev pub from_item : (ℕ → Option (List Instr)) → ℕ → Bool → Option FetchedInstr
    → Option (List Instr)
from_item others f first None = None
from_item others f first (Some x) = by_role others first x (role_of f x.plain x.instr)

-- the trailing part of at most so many instructions that begins at an address, if there is one
unfoldable pub tail : ℕ → Bool → ℕ → Memory → ℕ → Option (List Instr)
tail zero first f m at = None
tail (suc n) first f m at =
    from_item (λ k. tail n false f m ((at + k) % 2 ^ 64)) f first (fetched_at m at)

-- the rest of a legal epilogue, as it is found at an address: `add rsp` or `lea rsp`, pops, and
-- `ret` or a jump (Microsoft x64 ABI, "Epilog"). No epilogue is longer than the addresses are many.
unfoldable pub tail_at : ℕ → Memory → ℕ → Option (List Instr)
tail_at f m at = tail 0xFFFF_FFFF_FFFF_FFFF true f m at

-- ---- what the instructions of an epilogue do

abbrev pub base_value : Context → Base → ℕ
base_value c (bases.Register r) = get c (number r)
base_value c b = 0

abbrev pub constant : Operand → ℕ
constant (operands.Immediate v) = v
constant o = 0

abbrev pub left_by : Memory → Instr → Context → Answer Context
left_by m (instrs.Arithmetic o w to by) c = Ok (rsp_raised c (constant by))
left_by m (instrs.LoadAddress w to a) c =
    Ok (with_rsp c ((base_value c a.base + a.displacement) % 2 ^ 64))
left_by m (instrs.Pop r) c = word m (rsp c) >>= λ v. Ok (set (rsp_raised c 8) (number r) v)
left_by m i c = popped m c

abbrev pub left : Memory → List Instr → Context → Answer Context
left m [] c = Ok c
left m (i ∷ is) c = left_by m i c >>= left m is
