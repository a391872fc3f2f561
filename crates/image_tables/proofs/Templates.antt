-- Each machine instruction of a template that is no return is one of a body.
use Rattle.std.proofs.Common.{Bool, true, false, List, ℕ, zero, suc, ◌+◌, ◌-◌, ◌*◌, ◌^◌, ◌<◌, [], ◌∷◌, ◌++◌, refl, arith}
use Rattle.image_tables.specs.Words.{Rax, Rcx, modrm, opcode_register, BuiltIn, Slot, Temporary, Instruction, Layout, size, sizes, before, work, temporary_at, fetch, keep, operands_code, finish_code, compare_zero, jump_equal, test_code, finally_arguments, Links, template, IsInstructionNear, IsNear, call, arguments_code, begin_call, call_code, passing_code, field_load, IsFieldNear, IsReturn}
use Rattle.eh_tables.specs.declared.code.UnwindOperation.{UnwindOperation}
use Rattle.c_operations.specs.declared.field.Field.{Field}
use Rattle.c_operations.specs.declared.field.Field.TheVariants.{ExceptionCode, ExceptionFlags, NumberParameters, ExceptionInformation}
use Rattle.linear_code.specs.declared.instruction.Instruction.TheVariants as instructions
use Rattle.x64_instr.specs.declared.register.Reg.{Reg}
use Rattle.template_code.specs.Operands.{has_first, has_second}
use Rattle.template_code.specs.Slots.{fetch_if}
use Rattle.image_tables.proofs.Lemmas.{near_signed, test_small, arguments_small, passing_small}
use Rattle.image_tables.proofs.BodyInstructions.{AreSaved, AllInner, inner_both, signed, fetch_inner, fetch_second, keep_inner, before_inner, work_inner}

-- what code refers to is in the image
pub record AreLinksNear (k : Links) : Type 0 where
  pub label : (l : ℕ) → IsNear (k.label l)
  pub function : (f : ℕ) → IsNear (k.function f)
  pub known : (f : BuiltIn) → IsNear (k.known f)
  pub funclet : (f : ℕ) → IsNear (k.funclet f)
  pub local_unwind : IsNear k.local_unwind

-- before a `__finally` block is called
finally_near : (at : ℕ) → at + 256 < 2 ^ 31 → at + sizes finally_arguments + 5 < 2 ^ 31
unfolding size modrm opcode_register
finally_near at lt = omega arith

-- with what the frame saves
module _ (ops : List UnwindOperation) where
  -- ---- calls

  passing_inner : (y : Layout) (first i n : ℕ) → IsNear (temporary_at y (first + i + n))
      → IsNear (8 * (i + n)) → AllInner ops (passing_code y first i n)
  passing_inner y first i zero lt lt' = tt
  passing_inner y first i (suc n) lt lt' = (
    (signed (temporary_at y (first + i)) (omega arith), (λ b. refl), refl),
    (
      (signed (8 * i) (omega arith), (λ b. refl), refl),
      passing_inner y first (i + 1) n (omega arith) (omega arith),
    ),
  )

  arguments_inner : (y : Layout) (first : ℕ) → IsNear (temporary_at y (first + 8))
      → AllInner ops (arguments_code y first)
  arguments_inner y first lt = (
    (signed (temporary_at y first) (omega arith), (λ b. refl), refl),
    (
      (signed (temporary_at y (first + 1)) (omega arith), (λ b. refl), refl),
      (
        (signed (temporary_at y (first + 2)) (omega arith), (λ b. refl), refl),
        ((signed (temporary_at y (first + 3)) (omega arith), (λ b. refl), refl), tt),
      ),
    ),
  )

  call_inner : (y : Layout) (first at to : ℕ) → IsNear (temporary_at y (first + 8))
      → at + 65 < 2 ^ 31
      → IsNear to → AllInner ops (call_code y (Temporary first) first at to)
  call_inner y first at to lt here near =
      let few = arguments_small y first in
      inner_both ops (begin_call y first at to) (keep y (Temporary first))
      (inner_both ops (arguments_code y first)
      (call (at + sizes (arguments_code y first) + 5) to ∷ [])
      (arguments_inner y first lt) (
        (
          near_signed (at + sizes (arguments_code y first) + 5) to
              (omega arith) near,
          (λ b. refl),
          refl,
        ),
        tt,
      ))
      ((signed (temporary_at y first) (omega arith), (λ b. refl), refl), tt)

  -- ---- what a filter reads

  field_inner : (f : Field) → IsFieldNear f → AllInner ops (field_load f ∷ [])
  field_inner ExceptionCode near = ((refl, (λ b. refl), refl), tt)
  field_inner ExceptionFlags near = ((refl, (λ b. refl), refl), tt)
  field_inner NumberParameters near = ((refl, (λ b. refl), refl), tt)
  field_inner (ExceptionInformation k) near = (
    (
      signed (32 + 8 * k) (omega arith),
      (λ b. refl),
      refl,
    ),
    tt,
  )

  -- ---- operands

  fetched_if : (read : Bool) (y : Layout) (r : Reg) (x : Slot) → AllInner ops (fetch y r x)
      → AllInner ops (fetch_if read y r x)
  fetched_if true y r x h = h
  fetched_if false y r x h = tt

  -- ---- all

  pub template_inner : (k : Links) (y : Layout) (at : ℕ) (i : Instruction) → AreLinksNear k
      → AreSaved ops y → IsInstructionNear y i → at + 256 < 2 ^ 31 → (IsReturn i → ⊥)
      → AllInner ops (template k y at i)
  template_inner k y at (instructions.Compute to o first second) links saved near here goes =
      inner_both ops (operands_code y o first second) (finish_code y o to)
      (inner_both ops (fetch_if (has_first o) y Rax first)
      (fetch_if (has_second o) y Rcx second ++ before o)
      (fetched_if (has_first o) y Rax first (fetch_inner ops y first near.1))
      (inner_both ops (fetch_if (has_second o) y Rcx second) (before o)
      (fetched_if (has_second o) y Rcx second (fetch_second ops y second near.2))
      (before_inner ops o)))
      (inner_both ops (work o) (keep y to) (work_inner ops o) (keep_inner ops y to saved near.0))
  template_inner k y at (instructions.Information to field) links saved near here goes =
      let load = field_inner field near.2 in (
        (signed y.pointers near.1, (λ b. refl), refl),
        ((refl, (λ b. refl), refl), (load.0, keep_inner ops y to saved near.0)),
      )
  template_inner k y at (instructions.Landing to) links saved near here goes = keep_inner ops y to
      saved near
  template_inner k y at (instructions.Jump label) links saved near here goes = (
    (
      near_signed (at + 5) (k.label label) (omega arith) (links.label label),
      (λ b. refl),
      refl,
    ),
    tt,
  )
  template_inner k y at (instructions.JumpIfZero slot label) links saved near here goes =
      let small = test_small y slot in
      inner_both ops (fetch y Rax slot) (compare_zero
      ∷ jump_equal (at + sizes (test_code y slot) + 6) (k.label label) ∷ [])
      (fetch_inner ops y slot near) (
        (refl, (λ b. refl), refl),
        (
          (
            near_signed (at + sizes (test_code y slot) + 6)
                (k.label label) (omega arith) (links.label label),
            (λ b. refl),
            refl,
          ),
          tt,
        ),
      )
  template_inner k y at (instructions.Call function first count) links saved near here goes =
      let few = near.few in
      let lt = near.temporaries in
      let passing = passing_code y first 4 (count - 4) in
      let small = passing_small y first count few in
      inner_both ops passing (call_code y (Temporary first) first (at + sizes passing)
      (k.function function))
      (passing_inner y first 4 (count - 4) (omega arith) (omega arith))
      (call_inner y first (at + sizes passing) (k.function function) lt (omega arith)
      (links.function function))
  template_inner k y at (instructions.CallBuiltIn function first) links saved near here goes = (
    (refl, (λ b. refl), refl),
    call_inner y first (at + 5) (k.known function)
        near.temporaries (omega arith) (links.known function),
  )
  template_inner k y at (instructions.CallFinally funclet) links saved near here goes = (
    (refl, (λ b. refl), refl),
    (
      (refl, (λ b. refl), refl),
      (
        (
          near_signed (at + sizes finally_arguments + 5) (k.funclet funclet) (finally_near at here)
              (links.funclet funclet),
          (λ b. refl),
          refl,
        ),
        tt,
      ),
    ),
  )
  template_inner k y at (instructions.LocalUnwind label) links saved near here goes = (
    (refl, (λ b. refl), refl),
    (
      (
        near_signed (at + 10) (k.label label) (omega arith)
            (links.label label),
        (λ b. refl),
        refl,
      ),
      (
        (
          near_signed (at + 15) k.local_unwind (omega arith) links.local_unwind,
          (λ b. refl),
          refl,
        ),
        tt,
      ),
    ),
  )
  template_inner k y at instructions.Separator links saved near here
      goes = ((refl, (λ b. refl), refl), tt)
  template_inner k y at (instructions.Return from) links saved near here goes = absurd (goes tt)
