-- What a routine does with what it is called with is code of a body.
use Rattle.std.proofs.Common.{◌≡◌, List, ℕ, zero, suc, ◌+◌, Bool, true, false, cond, ltb, [], ◌∷◌, Option, Some, None, refl, arith}
use Rattle.image_tables.specs.Words.{W32, Rax, Rcx, Rsp, Local, Layout, fetched, keep, local_at, IsNear, argument_code, move, keep_register, parameter_register, stack_parameter, parameter_code, parameters_code, IsEntryNear, base_of}
use Rattle.seh_num.specs.declared.width.Width.TheVariants.{W64}
use Rattle.x64_instr.specs.declared.register.Reg.{Reg}
use Rattle.eh_tables.specs.declared.code.UnwindOperation.{UnwindOperation}
use Rattle.template_code.specs.declared.layout.Place.{Place}
use Rattle.template_code.specs.declared.layout.Place.TheVariants.{InRegister, InFrame, Arriving}
use Rattle.template_code.specs.Places.{place_of}
use Rattle.template_code.specs.Calls.{parameter_placed}
use Rattle.x64_emit.specs.Entries.{keep_base, IsParentNear}
use Rattle.image_link.specs.declared.routine.Entry.{Entry}
use Rattle.image_link.specs.declared.routine.Entry.TheVariants as entries
use Rattle.image_tables.proofs.BodyInstructions.{AreSaved, AllInner, inner_both, signed, register_written, keep_inner}

-- with what the frame saves
module _ (ops : List UnwindOperation) where
  parameter_inner : (y : Layout) (i : ℕ) (few : Bool) → IsNear (local_at y i)
      → IsNear (stack_parameter y i) → AllInner ops
      (cond few (keep_register (parameter_register i) (local_at y i) ∷ [])
      (fetched Rax Rsp (stack_parameter y i) ∷ keep_register Rax (local_at y i) ∷ []))
  parameter_inner y i true lt lt' = ((signed (local_at y i) lt, (λ b. refl), refl), tt)
  parameter_inner y i false lt lt' = (
    (signed (stack_parameter y i) lt', (λ b. refl), refl),
    ((signed (local_at y i) lt, (λ b. refl), refl), tt),
  )

  register_inner : (y : Layout) (i : ℕ) (r : Reg) (few : Bool) → AreSaved ops y
      → place_of y i ≡ InRegister r → IsNear (stack_parameter y i) → AllInner ops
      (cond few (move W64 r (parameter_register i) ∷ []) (fetched r Rsp (stack_parameter y i) ∷ []))
  register_inner y i r true saved e lt =
      ((refl, (λ b. refl), register_written ops y i r saved e), tt)
  register_inner y i r false saved e lt = (
    (signed (stack_parameter y i) lt, (λ b. refl), register_written ops y i r saved e),
    tt,
  )

  placed_inner : (y : Layout) (i : ℕ) (q : Place) → AreSaved ops y → IsNear (local_at y i)
      → IsNear (stack_parameter y i) → place_of y i ≡ q → AllInner ops (parameter_placed y i q)
  placed_inner y i (InRegister r) saved lt lt' e = register_inner y i r (ltb i 4) saved e lt'
  placed_inner y i Arriving saved lt lt' e = tt
  placed_inner y i InFrame saved lt lt' e = parameter_inner y i (ltb i 4) lt lt'

  parameters_inner : (y : Layout) (i n : ℕ) → AreSaved ops y → IsNear (local_at y (i + n))
      → IsNear (stack_parameter y (i + n)) → AllInner ops (parameters_code y i n)
  parameters_inner y i zero saved lt lt' = tt
  parameters_inner y i (suc n) saved lt lt' =
      inner_both ops (parameter_code y i) (parameters_code y (i + 1) n)
      (placed_inner y i (place_of y i) saved (omega arith) (omega arith) refl)
      (parameters_inner y (i + 1) n saved (omega arith) (omega arith))

  base_inner : (parent : Option ℕ) (b : ℕ) → IsParentNear parent → IsNear b
      → AllInner ops (keep_base parent b)
  base_inner None b near lt = ((signed b lt, (λ b. refl), refl), tt)
  base_inner (Some parent) b near lt = (
    (signed parent near, (λ b. refl), refl),
    ((signed b lt, (λ b. refl), refl), tt),
  )

  pub arguments_inner : (y : Layout) (e : Entry) → AreSaved ops y → IsEntryNear y e
      → AllInner ops (argument_code y e)
  arguments_inner y (entries.Function count) saved near =
      let locals = near.1.locals in
      let stack = near.1.stack in
      parameters_inner y 0 count saved (omega arith) (omega arith)
  arguments_inner y (entries.Filter parent) saved near =
      inner_both ops (keep_base parent (base_of y y.base)) (keep_register Rcx y.pointers ∷ [])
      (base_inner parent (base_of y y.base) near.0.parent_near near.0.base_near)
      ((signed y.pointers near.1, (λ b. refl), refl), tt)
  arguments_inner y (entries.Finally parent flag) saved near =
      inner_both ops (keep_base parent (base_of y y.base)) (move W32 Rax Rcx ∷ keep y (Local flag))
      (base_inner parent (base_of y y.base) near.0.parent_near near.0.base_near)
      ((refl, (λ b. refl), refl), keep_inner ops y (Local flag) saved near.1)
