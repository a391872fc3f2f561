-- What a funclet does with what it is called with.
use Rattle.std.specs.Prelude.{ℕ, List, Option, Some, None}
use Rattle.x64_instr.specs.declared.instruction.Instr.{Instr}
use Rattle.template_code.specs.Calls as calls
use Rattle.x64_emit.specs.Near.{IsNear}

-- the base in RDX, or where the frame in RDX is a funclet's, the base that is kept there
abbrev pub keep_base : Option ℕ → ℕ → List Instr
keep_base None b = calls.keep_base b
keep_base (Some parent) b = calls.keep_parents_base parent b

abbrev pub IsParentNear : Option ℕ → Type 0
IsParentNear None = Unit {0}
IsParentNear (Some parent) = IsNear parent

pub record IsKeptNear (parent : Option ℕ) (b : ℕ) : Type 0 where
  pub parent_near : IsParentNear parent
  pub base_near : IsNear b
