-- Instructions with which no epilogue begins.
use Rattle.std.specs.Prelude.{◌≡◌, false, List, [], ◌∷◌}
use Rattle.x64_instr.specs.declared.instruction.Instr.{Instr}
use Rattle.linear_code.specs.declared.instruction.Instruction.{Instruction}
use Rattle.linear_code.specs.declared.instruction.Instruction.TheVariants as instructions
use Rattle.x64_templates.specs.Straight.{begins_epilogue}

abbrev pub NoEpilogue : List Instr → Type 0
NoEpilogue [] = Unit {0}
NoEpilogue (i ∷ is) = (begins_epilogue i ≡ false) × NoEpilogue is

-- an instruction that leaves its body
abbrev pub IsReturn : Instruction → Type 0
IsReturn (instructions.Return from) = Unit {0}
IsReturn instruction = ⊥
