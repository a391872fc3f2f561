-- What is appended to code, to regions and to funclets.
use Rattle.std.specs.Prelude.{◌≡◌, ℕ, List, ◌++◌, length, map}
use Rattle.std.specs.Global.{Vec}
use Rattle.linear_code.specs.declared.instruction.Instruction.{Instruction}
use Rattle.linear_code.specs.declared.program.Region.{Region}
use Rattle.linear_code.specs.declared.program.IrFunclet.{IrFunclet}
use Rattle.linear_code.specs.Program.{LinearFunclet, linear_funclet}

-- instructions after those that there were
abbrev pub Appends : Vec Instruction → Vec Instruction → List Instruction → Type 0
Appends old new more = new.items ≡ old.items ++ more

-- code that depends on the place where it begins, which is after all that there was
abbrev pub Places : Vec Instruction → Vec Instruction → (ℕ → List Instruction) → Type 0
Places old new code = Appends old new (code (length old.items))

abbrev pub AppendsRegions : Vec Region → Vec Region → List Region → Type 0
AppendsRegions old new more = new.items ≡ old.items ++ more

abbrev pub AppendsFunclets : Vec IrFunclet → Vec IrFunclet → List LinearFunclet → Type 0
AppendsFunclets old new more = map linear_funclet new.items ≡ map linear_funclet old.items ++ more
