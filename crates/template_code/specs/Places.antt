-- Where a local stands: in a register, or in the frame.
--
-- The main definition: `place_of`.
use Rattle.std.specs.Prelude.{ℕ, ◌==◌, nat_lt, if◌then◌else◌, List, ◌∷◌, Option, Some, None}
use Rattle.x64_instr.specs.declared.register.Reg.{Reg}
use Rattle.x64_instr.specs.declared.register.Reg.TheVariants.{Rcx, Rdx, R8, R9}
use Rattle.x64_instr.specs.Registers.{number}
use Rattle.template_code.specs.declared.layout.Layout.{Layout}
use Rattle.template_code.specs.declared.layout.Place.{Place}
use Rattle.template_code.specs.declared.layout.Place.TheVariants.{InRegister, InFrame, Arriving}
use Rattle.template_code.specs.declared.layout.TheConstants.{LOCAL_REGISTERS}

-- by the numbers of the locals that stand in registers, and by these registers
abbrev pub place_among : List (Option ℕ) → List Reg → ℕ → Place
place_among (Some n ∷ ns) (r ∷ rs) x = if n == x then InRegister r else place_among ns rs x
place_among ns rs x = InFrame

-- where a local stands. That is in one of the registers that its function's frame saves, in its
-- word of the frame, or, as a parameter of a leaf function, in the register in which it arrives.
abbrev pub place_of : Layout → ℕ → Place
place_of y x =
    if nat_lt x y.arrivals then Arriving else place_among y.registers LOCAL_REGISTERS x

-- the registers in which the first four parameters arrive (Microsoft x64 ABI, "Parameter passing")
abbrev pub parameter_register : ℕ → Reg
parameter_register i = if i == 0 then Rcx else (if i == 1 then Rdx else (if i == 2 then R8 else R9))

-- the number of a local's register, where it stands in one
abbrev pub register_number : ℕ → Place → Option ℕ
register_number x (InRegister r) = Some (number r)
register_number x InFrame = None
register_number x Arriving = Some (number (parameter_register x))

abbrev pub register_of : Layout → ℕ → Option ℕ
register_of y x = register_number x (place_of y x)
