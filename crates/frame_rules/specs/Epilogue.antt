-- What an epilogue is to be by the codes: it gives back the allocation, pops what was pushed, and
-- ends (Microsoft x64 ABI, "Epilog").
use Rattle.std.specs.Prelude.{ℕ, ◌+◌, ◌%◌, ◌^◌, Bool, true, false, ◌==◌, ◌&&◌, ◌||◌, List, [], ◌∷◌}
use Rattle.seh_num.specs.declared.width.Width.TheVariants.{W64}
use Rattle.x64_instr.specs.declared.register.Reg.TheVariants.{Rsp}
use Rattle.x64_instr.specs.declared.operand.RegisterOrMemory.TheVariants as places
use Rattle.x64_instr.specs.declared.operand.Operand.TheVariants as operands
use Rattle.x64_instr.specs.declared.instruction.Operation.TheVariants.{Add}
use Rattle.x64_instr.specs.declared.instruction.Target.TheVariants.{Indirect}
use Rattle.x64_instr.specs.declared.instruction.Instr.{Instr}
use Rattle.x64_instr.specs.declared.instruction.Instr.TheVariants as instrs
use Rattle.x64_instr.specs.Registers.{number}
use Rattle.eh_tables.specs.declared.code.UnwindOperation.{UnwindOperation}
use Rattle.virtual_unwind.specs.Tail.{is_of}
use Rattle.frame_rules.specs.Codes.{allocation, pushes}

-- the return, or a jump through memory
abbrev pub is_end : Instr → Bool
is_end instrs.Return = true
is_end (instrs.Jump (Indirect (places.Memory a))) = true
is_end x = false

abbrev pub is_pop : ℕ → Instr → Bool
is_pop r (instrs.Pop q) = number q == r
is_pop r x = false

-- these registers popped in this order, and the end
abbrev pub pops : List ℕ → List Instr → Bool
pops [] [] = false
pops [] (x ∷ []) = is_end x
pops [] (x ∷ y ∷ is) = false
pops (r ∷ rs) [] = false
pops (r ∷ rs) (x ∷ is) = is_pop r x && pops rs is

-- n bytes given back, from RSP or from the frame register, which is so far above it
abbrev pub gives_back : ℕ → ℕ → ℕ → Instr → Bool
gives_back f offset n (instrs.Arithmetic Add W64 (places.Register Rsp) (operands.Immediate v)) =
    v == n
gives_back f offset n (instrs.LoadAddress W64 Rsp a) =
    is_of f a.base a.index && ((offset + a.displacement) % 2 ^ 64 == n)
gives_back f offset n x = false

-- where nothing is allocated, nothing need be given back
abbrev pub is_epilogue : ℕ → ℕ → List UnwindOperation → List Instr → Bool
is_epilogue f offset ops [] = false
is_epilogue f offset ops (x ∷ is) =
    (gives_back f offset (allocation ops) x && pops (pushes ops) is) ||
    ((allocation ops == 0) && pops (pushes ops) (x ∷ is))
