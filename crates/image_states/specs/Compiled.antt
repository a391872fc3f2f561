-- Linear programs whose image is what they mean.
use Rattle.std.specs.Prelude.{◌≡◌, ℕ, ◌+◌, ◌<◌, ◌≤◌, ◌⊎◌, false, List, [], ◌∷◌, length, slice_get, Some}
use Rattle.pe_write.specs.Program.{sizes_of, end_at}
use Rattle.linear_code.specs.Program.{LinearBody, LinearFunction, LinearFunclet, LinearProgram}
use Rattle.linear_machine.specs.Frames.{BodyName, body_of}
use Rattle.lowering_invariants.specs.Bodies.{IsWhole}
use Rattle.lowering_invariants.specs.ColdParts.{HasColdParts}
use Rattle.lowering_invariants.specs.Registers.{SparesRegisters}
use Rattle.image_link.specs.Fits.{FitsProgram}
use Rattle.image_link.specs.Routines.{is_leaf}
use Rattle.image_link.specs.Linked.{linked}
use Rattle.image_tables.specs.RegionRanges.{HasRegions}
use Rattle.image_tables.specs.RegionRows.{named, regions, NamesFunclets}
use Rattle.host_layout.specs.declared.limit.TheConstants.{MOST_IMAGE}

abbrev pub IsMember : ℕ → List ℕ → Type 0
IsMember k [] = ⊥
IsMember k (x ∷ xs) = (k ≡ x) ⊎ IsMember k xs

-- a funclet's function has a frame, which has the locals that the funclet works on; its own is
-- below a page
pub record IsFuncletSized (program : LinearProgram) (f : LinearFunclet) : Type 0 where
  pub function : LinearFunction
  pub there : slice_get program.functions f.function ≡ Some function
  pub framed : is_leaf function ≡ false
  pub locals : f.body.locals ≡ function.body.locals
  pub words : f.body.passed + f.body.temporaries ≤ 500

-- it can be linked, into an image within its limit; its regions are ranges, which name each
-- funclet once; its cold parts can stand apart; its funclets name no local that stands in a
-- register
pub record HasWholeImage (program : LinearProgram) : Type 0 where
  pub fits : FitsProgram program
  pub small : end_at (sizes_of (linked program)) ≤ MOST_IMAGE
  pub ranges : HasRegions program
  pub cold : (name : BodyName) (b : LinearBody) → body_of program name ≡ Some b → HasColdParts b
  pub names : NamesFunclets program
  pub all_named : (k : ℕ) → k < length program.funclets → IsMember k (named (regions program))
  pub whole : IsWhole program
  pub funclets : (k : ℕ) (f : LinearFunclet) → slice_get program.funclets k ≡ Some f
      → IsFuncletSized program f
  pub spares : (k : ℕ) (f : LinearFunclet) → slice_get program.funclets k ≡ Some f
      → SparesRegisters program f
