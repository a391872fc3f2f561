-- Templates are the same wherever everything is moved by as much.
use Rattle.std.proofs.Common.{◌≡◌, ℕ, ◌+◌, ◌-◌, ◌^◌, ◌<◌, ◌≤◌, List, [], ◌∷◌, ◌++◌, None, refl, ap, arith}
use Rattle.std.specs.List.{AllByRecursion}
use Rattle.image_states.specs.Words.{W64, Rax, Rcx, Rsp, Instr, modrm, BuiltIn, Slot, Temporary, Instruction, Layout, size, sizes, fetch, template_size, code_from, IsInstructionNear, Rdx, opcode_register, keep, jump, jump_equal, call, compare_zero, test_code, arguments_code, call_code, clear_result, passing_code, finally_arguments, address_to, Links, template}
use Rattle.x64_instr.specs.declared.operand.Base.TheVariants as bases
use Rattle.x64_instr.specs.declared.instruction.Condition.TheVariants as conditions
use Rattle.x64_instr.specs.declared.instruction.Target.TheVariants.{Relative}
use Rattle.x64_instr.specs.declared.instruction.Instr.TheVariants as instrs
use Rattle.linear_code.specs.declared.instruction.Instruction.TheVariants as instructions
use Rattle.template_code.specs.Operations.{move}
use Rattle.template_code.specs.Jumps.{distance}
use Rattle.x64_emit.specs.Rooms.{code_room}
use Rattle.image_states.proofs.Lemmas.{test_small, arguments_small, passing_small, instruction_in_room}

-- ---- distances

pub away : (base next to next' to' : ℕ) → next' ≡ base + next → to' ≡ base + to → base + next ≤ 2 ^
    64
    → distance next' to' ≡ distance next to
away base next to next' to' e f le = omega arith

-- ---- links

-- all of them are moved
pub record AreMoved (base : ℕ) (k k' : Links) : Type 0 where
  pub label : (l : ℕ) → k'.label l ≡ base + k.label l
  pub function : (f : ℕ) → k'.function f ≡ base + k.function f
  pub known : (f : BuiltIn) → k'.known f ≡ base + k.known f
  pub funclet : (f : ℕ) → k'.funclet f ≡ base + k.funclet f
  pub local_unwind : k'.local_unwind ≡ base + k.local_unwind

module _ (base : ℕ) (small : base ≤ 2 ^ 48) where
  pub call_moved : (next to next' to' : ℕ) → next' ≡ base + next → to' ≡ base + to → next < 2 ^ 48
      → call next' to' ≡ call next to
  call_moved next to next' to' e f lt = ap (λ (d : ℕ). instrs.Call (Relative d))
      (away base next to next' to' e f (omega arith))

  pub jump_moved : (next to next' to' : ℕ) → next' ≡ base + next → to' ≡ base + to → next < 2 ^ 48
      → jump next' to' ≡ jump next to
  jump_moved next to next' to' e f lt = ap (λ (d : ℕ). instrs.Jump (Relative d))
      (away base next to next' to' e f (omega arith))

  equal_moved : (next to next' to' : ℕ) → next' ≡ base + next → to' ≡ base + to → next < 2 ^ 48
      → jump_equal next' to' ≡ jump_equal next to
  equal_moved next to next' to' e f lt = ap (λ (d : ℕ). instrs.JumpIf conditions.Equal d)
      (away base next to next' to' e f (omega arith))

  address_moved : (next to next' to' : ℕ) → next' ≡ base + next → to' ≡ base + to → next < 2 ^ 48
      → address_to next' to' ≡ address_to next to
  address_moved next to next' to' e f lt = ap
      (λ (d : ℕ). instrs.LoadAddress W64 Rdx (record
      { base = bases.Rip; index = None; displacement = d }))
      (away base next to next' to' e f (omega arith))

  call_code_moved : (y : Layout) (result : Slot) (first at to at' to' : ℕ) → at' ≡ base + at
      → to' ≡ base + to → at + 256 < 2 ^ 48 → call_code y result first at' to'
      ≡ call_code y result first at to
  call_code_moved y result first at to at' to' e f lt =
      let few = arguments_small y first in
      let args = arguments_code y first in
      ap (λ (i : Instr). (args ++ (i ∷ [])) ++ keep y result)
      (call_moved (at + sizes args + 5) to (at' + sizes args + 5) to' (omega arith) f
      (omega arith))

  finally_size : sizes finally_arguments ≡ 8
  unfolding size modrm opcode_register
  finally_size = refl

  pub template_moved : (k k' : Links) (y : Layout) (at at' : ℕ) (i : Instruction)
      → AreMoved base k k' → at' ≡ base + at → at + 512 < 2 ^ 48 → IsInstructionNear y i
      → template k' y at' i ≡ template k y at i
  template_moved k k' y at at' (instructions.Compute to o first second) links e lt near = refl
  template_moved k k' y at at' (instructions.Information to field) links e lt near = refl
  template_moved k k' y at at' (instructions.Landing to) links e lt near = refl
  template_moved k k' y at at' (instructions.Jump label) links e lt near = ap
      (λ (i : Instr). i ∷ []) (jump_moved (at + 5) (k.label label) (at' + 5) (k'.label label)
      (omega arith) (links.label label) (omega arith))
  template_moved k k' y at at' (instructions.JumpIfZero slot label) links e lt near =
      let few = test_small y slot in
      ap (λ (i : Instr). fetch y Rax slot ++ (compare_zero ∷ i ∷ []))
      (equal_moved (at + sizes (test_code y slot) + 6) (k.label label)
      (at' + sizes (test_code y slot) + 6) (k'.label label) (omega arith) (links.label label)
      (omega arith))
  template_moved k k' y at at' (instructions.Call function first count) links e lt near =
      let few = passing_small y first count near.few in
      let passing = passing_code y first 4 (count - 4) in
      ap (λ (is : List Instr). passing ++ is)
      (call_code_moved y (Temporary first) first (at + sizes passing) (k.function function)
      (at' + sizes passing) (k'.function function) (omega arith) (links.function function)
      (omega arith))
  template_moved k k' y at at' (instructions.CallBuiltIn function first) links e lt near =
      ap (λ (is : List Instr). clear_result ∷ is)
      (call_code_moved y (Temporary first) first (at + 5) (k.known function) (at' + 5)
      (k'.known function) (omega arith) (links.known function) (omega arith))
  template_moved k k' y at at' (instructions.CallFinally funclet) links e lt near =
      let few = finally_size in
      ap (λ (i : Instr). finally_arguments ++ (i ∷ []))
      (call_moved (at + sizes finally_arguments + 5) (k.funclet funclet)
      (at' + sizes finally_arguments + 5) (k'.funclet funclet) (omega arith)
      (links.funclet funclet) (omega arith))
  template_moved k k' y at at' (instructions.LocalUnwind label) links e lt near =
      λ i. move W64 Rcx Rsp ∷ address_moved (at + 10) (k.label label) (at' + 10) (k'.label label)
      (omega arith) (links.label label) (omega arith) i
      ∷ call_moved (at + 15) k.local_unwind (at' + 15) k'.local_unwind (omega arith)
      links.local_unwind (omega arith) i ∷ []
  template_moved k k' y at at' instructions.Separator links e lt near = refl
  template_moved k k' y at at' (instructions.Return from) links e lt near = refl

  pub code_moved : (k k' : Links) (y : Layout) (at at' : ℕ) (is : List Instruction)
      → AreMoved base k k' → at' ≡ base + at → at + code_room is + 512 < 2 ^ 48
      → AllByRecursion (IsInstructionNear y) is → code_from k' y at' is ≡ code_from k y at is
  code_moved k k' y at at' [] links e lt near = refl
  code_moved k k' y at at' (i ∷ is) links e lt near =
      let few = instruction_in_room y i near.0 in
      λ j. template_moved k k' y at at' i links e (omega arith) near.0 j
      ++ code_moved k k' y (at + template_size y i) (at' + template_size y i) is links
      (omega arith) (omega arith) near.1 j
