-- How many bytes templates take, and which distances fit 32 bits.
use Rattle.std.proofs.Common.{◌≡◌, ℕ, zero, suc, ◌+◌, ◌-◌, ◌%◌, ◌^◌, ◌<◌, Bool, true, false, ltb, leb, List, [], ◌∷◌, ◌++◌, length, get_or, refl, sym, ap, ◌∙◌, arith, inl, inr, zero-add, length-append}
use Rattle.std.specs.Prelude.{◌&&◌, ◌||◌}
use Rattle.std.proofs.lemmas.Bool.{cases_lt, lt-ltb, le-ltb, le-leb}
use Rattle.seh_num.specs.declared.width.Width.TheVariants.{W32, W64}
use Rattle.x64_instr.specs.declared.instruction.Condition.TheVariants as conditions
use Rattle.x64_instr.specs.declared.instruction.Instr.{Instr}
use Rattle.x64_instr.specs.declared.instruction.Instr.TheVariants as instrs
use Rattle.x64_encode.specs.Chosen.{chosen, is_signed, modrm}
use Rattle.linear_code.specs.declared.slot.Slot.{Slot}
use Rattle.linear_code.specs.declared.slot.Slot.TheVariants.{Temporary}
use Rattle.linear_code.specs.declared.instruction.Instruction.{Instruction}
use Rattle.linear_code.specs.declared.instruction.Instruction.TheVariants as instructions
use Rattle.x64_instr.specs.declared.register.Reg.TheVariants.{Rax}
use Rattle.template_code.specs.declared.layout.Layout.{Layout}
use Rattle.template_code.specs.Bytes.{spelled, size, sizes}
use Rattle.template_code.specs.Slots.{fetch, keep}
use Rattle.template_code.specs.Jumps.{distance, jump, jump_equal, call, compare_zero, test_code, jump_if_zero_code, IsNear}
use Rattle.template_code.specs.Calls.{arguments_code, call_code, passing_code, passing_call_code, finally_arguments, address_to}
use Rattle.template_code.specs.Template.{Links, template, template_size, body_size, offset_of, code_from}

pub sizes_spelled : (is : List Instr) → length (spelled is) ≡ sizes is
unfolding size
sizes_spelled [] = refl
sizes_spelled (i ∷ is) = length-append (chosen i) (spelled is)
    ∙ ap (λ n. length (chosen i) + n) (sizes_spelled is)

pub sizes_append : (is js : List Instr) → sizes (is ++ js) ≡ sizes is + sizes js
sizes_append [] js = sym (zero-add (sizes js))
sizes_append (i ∷ is) js = let r = sizes_append is js in omega arith

-- ---- distances

pub arrives : (next to : ℕ) → IsNear next to → (next + distance next to) % 2 ^ 64 ≡ to
arrives next to n = let a = n.0 in let b = n.1 in omega arith

pub short : (next to : ℕ) → IsNear next to → is_signed W32 W64 (distance next to) ≡ true
short next to n = elim (cases_lt (distance next to) (2 ^ 31)) [
  | inl lt ↦ let e : ltb (distance next to) (2 ^ 31)
      ≡ true = lt-ltb (distance next to) (2 ^ 31) lt in
      ap (λ (b : Bool). b || (leb (2 ^ 64 - 2 ^ 31) (distance next to)
      && ltb (distance next to) (2 ^ 64))) e
  | inr ge ↦
      let a = n.0 in let b = n.1 in let c = n.2 in let d = n.3 in
      let e : ltb (distance next to) (2 ^ 31) ≡ false = le-ltb (distance next to) (2 ^ 31) ge in
      let f : leb (2 ^ 64 - 2 ^ 31) (distance next to)
      ≡ true = le-leb (2 ^ 64 - 2 ^ 31) (distance next to) (omega arith) in
      let g : ltb (distance next to) (2 ^ 64)
      ≡ true = lt-ltb (distance next to) (2 ^ 64) (omega arith) in
      ap (λ (x : Bool). x || (leb (2 ^ 64 - 2 ^ 31) (distance next to)
      && ltb (distance next to) (2 ^ 64))) e
      ∙ ap (λ (x : Bool). x && ltb (distance next to) (2 ^ 64)) f
      ∙ g
]

-- ---- sizes don't depend on where things are

pub jump_if_size : (d : ℕ) → size (instrs.JumpIf conditions.Equal d) ≡ 6
unfolding size
jump_if_size d = refl

pub jump_if_zero_size : (y : Layout) (slot : Slot) (at to : ℕ)
    → sizes (jump_if_zero_code y slot at to) ≡ sizes (test_code y slot) + 6
jump_if_zero_size y slot at to =
    let first = fetch y Rax slot in
    let branch = jump_equal (at + sizes (test_code y slot) + 6) to in
    let e = jump_if_size (distance (at + sizes (test_code y slot) + 6) to) in
    omega (
      arith,
      sizes_append first (compare_zero ∷ branch ∷ []),
      sizes_append first (compare_zero ∷ []),
    )

pub call_size : (next to : ℕ) → size (call next to) ≡ 5
unfolding size
call_size next to = refl

pub jump_size : (next to : ℕ) → size (jump next to) ≡ 5
unfolding size
jump_size next to = refl

pub address_size : (next to : ℕ) → size (address_to next to) ≡ 7
unfolding size modrm
address_size next to = refl

pub call_code_size : (y : Layout) (to : Slot) (first at target : ℕ)
    → sizes (call_code y to first at target) ≡ sizes (arguments_code y first) + 5
    + sizes (keep y to)
call_code_size y to first at target =
    let args = arguments_code y first in
    let c = call (at + sizes args + 5) target in
    let e = call_size (at + sizes args + 5) target in
    omega (arith, sizes_append (args ++ (c ∷ [])) (keep y to), sizes_append args (c ∷ []))

pub passing_call_size : (y : Layout) (first count at target : ℕ)
    → sizes (passing_call_code y first count at target)
    ≡ sizes (passing_code y first 4 (count - 4))
    + (sizes (arguments_code y first) + 5 + sizes (keep y (Temporary first)))
passing_call_size y first count at target =
    let passing = passing_code y first 4 (count - 4) in
    let c = call_code_size y (Temporary first) first (at + sizes passing) target in
    omega (
      arith,
      sizes_append passing (call_code y (Temporary first) first (at + sizes passing)
          target),
    )

pub template_sizes : (k : Links) (y : Layout) (at : ℕ) (instruction : Instruction)
    → sizes (template k y at instruction) ≡ template_size y instruction
unfolding template_size
template_sizes k y at (instructions.Compute to o first second) = refl
template_sizes k y at (instructions.Information to field) = refl
template_sizes k y at (instructions.Jump label) = let a = jump_size (at + 5) (k.label label) in
    let b = jump_size 5 0 in omega arith
template_sizes k y at (instructions.JumpIfZero slot label) = jump_if_zero_size y slot at
    (k.label label) ∙ sym (jump_if_zero_size y slot 0 0)
template_sizes k y at (instructions.Landing to) = refl
template_sizes k y at (instructions.Call function first count) = passing_call_size y first count at
    (k.function function) ∙ sym (passing_call_size y first count 0 0)
template_sizes k y at (instructions.CallBuiltIn function first) = let a = call_code_size y
    (Temporary first) first (at + 5) (k.known function) in
    let b = call_code_size y (Temporary first) first 5 0 in omega arith
template_sizes k y at (instructions.CallFinally funclet) = let a = call_size
    (at + sizes finally_arguments + 5) (k.funclet funclet) in
    let b = call_size (0 + sizes finally_arguments + 5) 0 in omega arith
template_sizes k y at (instructions.LocalUnwind label) = let a = call_size (at + 15)
    k.local_unwind in let b = call_size 15 0 in let c = address_size (at + 10) (k.label label) in
    let d = address_size 10 0 in omega arith
template_sizes k y at instructions.Separator = refl
template_sizes k y at (instructions.Return from) = refl

-- ---- bodies

pub body_sizes : (k : Links) (y : Layout) (at : ℕ) (body : List Instruction)
    → sizes (code_from k y at body) ≡ body_size y body
body_sizes k y at [] = refl
body_sizes k y at (instruction ∷ more) =
    let r = body_sizes k y (at + template_size y instruction) more in
    let t = template_sizes k y at instruction in
    omega (
      arith,
      sizes_append (template k y at instruction)
          (code_from k y (at + template_size y instruction) more),
    )

-- the next instruction is placed after it
pub offset_next : (y : Layout) (body : List Instruction) (number : ℕ) (otherwise : Instruction)
    → number < length body → offset_of y body (suc number)
    ≡ offset_of y body number + template_size y (get_or body number otherwise)
offset_next y [] number otherwise lt = absurd (omega arith)
offset_next y (instruction ∷ more) zero otherwise lt = omega arith
offset_next y (instruction ∷ more) (suc number) otherwise lt = let r = offset_next y more number
    otherwise (omega arith) in omega arith
