-- No template but that of a return has an instruction that could be in an epilogue, and sizes of
-- slots are fixed where they are 128 bytes or more above their base.
use Rattle.std.proofs.Common.{◌≡◌, ℕ, zero, suc, ◌+◌, ◌-◌, true, false, List, [], ◌∷◌, ◌++◌, refl, arith}
use Rattle.x64_templates.specs.Words.{Rax, Instr, Slot, Temporary, Field, ExceptionCode, ExceptionFlags, NumberParameters, ExceptionInformation, Instruction, Counts, IsSlot, HasSlots, Layout, begins_epilogue, sizes, fetch, keep, operands_code, finish_code, compare_zero, jump_equal, test_code, begin_call, field_load, Links, template, SlotsHaveRoom, call_code, passing_code}
use Rattle.linear_code.specs.declared.instruction.Instruction.TheVariants as instructions
use Rattle.x64_templates.proofs.Encoded.{Fine, fine_both, fetch_fine, keep_fine, operands_fine, finish_fine}
use Rattle.x64_templates.specs.Epilogues.{NoEpilogue, IsReturn}

no_epilogue_of : (is : List Instr) → Fine is → NoEpilogue is
no_epilogue_of [] f = tt
no_epilogue_of (i ∷ is) f = (f.2, no_epilogue_of is f.3)

no_epilogue_both : (a b : List Instr) → NoEpilogue a → NoEpilogue b → NoEpilogue (a ++ b)
no_epilogue_both [] b p q = q
no_epilogue_both (i ∷ a) b p q = (p.0, no_epilogue_both a b p.1 q)

call_no_epilogue : (y : Layout) (n : Counts) (sp base : ℕ) (to : Slot) (first at target : ℕ)
    → SlotsHaveRoom y n sp base → IsSlot n to → NoEpilogue (call_code y to first at target)
call_no_epilogue y n sp base to first at target room is = no_epilogue_both
    (begin_call y first at target)
    (keep y to) (refl, (refl, (refl, (refl, (refl, tt)))))
    (no_epilogue_of (keep y to) (keep_fine y n sp base to room is))

passing_no_epilogue : (y : Layout) (first i n : ℕ) → NoEpilogue (passing_code y first i n)
passing_no_epilogue y first i zero = tt
passing_no_epilogue y first i (suc n) = (refl, (refl, passing_no_epilogue y first (i + 1) n))

field_no_epilogue : (field : Field) → begins_epilogue (field_load field) ≡ false
field_no_epilogue ExceptionCode = refl
field_no_epilogue ExceptionFlags = refl
field_no_epilogue NumberParameters = refl
field_no_epilogue (ExceptionInformation k) = refl

pub template_no_epilogue : (k : Links) (y : Layout) (n : Counts) (sp base : ℕ) (at : ℕ)
    (instruction : Instruction) → SlotsHaveRoom y n sp base → HasSlots n instruction
    → (IsReturn instruction → ⊥) → NoEpilogue (template k y at instruction)
template_no_epilogue k y n sp base at (instructions.Compute to o first second) room has plain =
    no_epilogue_of
    (operands_code y o first second ++ finish_code y o to)
    (fine_both (operands_code y o first second) (finish_code y o to)
    (operands_fine y n sp base o first second room has.1 has.2)
    (finish_fine y n sp base o to room has.0))
template_no_epilogue k y n sp base at (instructions.Information to field) room has plain = (
  refl,
  (
    refl,
    (
      field_no_epilogue field,
      no_epilogue_of (keep y to) (keep_fine y n sp base to room has),
    ),
  ),
)
template_no_epilogue k y n sp base at (instructions.Jump label) room has plain = (refl, tt)
template_no_epilogue k y n sp base at (instructions.JumpIfZero slot label) room has plain =
    no_epilogue_both
    (fetch y Rax slot) (compare_zero ∷ jump_equal (at + sizes (test_code y slot) + 6)
    (k.label label) ∷ []) (no_epilogue_of (fetch y Rax slot)
    (fetch_fine y n sp base true slot room has))
    (refl, (refl, tt))
template_no_epilogue k y n sp base at (instructions.Landing to) room has plain = no_epilogue_of
    (keep y to)
    (keep_fine y n sp base to room has)
template_no_epilogue k y n sp base at (instructions.Call function first count) room has plain =
    let passing = passing_code y first 4 (count - 4) in
    no_epilogue_both passing (call_code y (Temporary first) first (at + sizes passing)
    (k.function function)) (passing_no_epilogue y first 4 (count - 4))
    (call_no_epilogue y n sp base (Temporary first) first (at + sizes passing) (k.function function)
    room (let few = has.0 in omega arith))
template_no_epilogue k y n sp base at (instructions.CallBuiltIn function first) room has plain = (
  refl,
  call_no_epilogue y n sp base (Temporary first) first (at + 5) (k.known function) room
      (omega arith),
)
template_no_epilogue k y n sp base at (instructions.CallFinally funclet) room has plain =
    (refl, (refl, (refl, tt)))
template_no_epilogue k y n sp base at (instructions.LocalUnwind label) room has plain =
    (refl, (refl, (refl, tt)))
template_no_epilogue k y n sp base at instructions.Separator room has plain = (refl, tt)
template_no_epilogue k y n sp base at (instructions.Return from) room has plain = absurd (plain tt)

-- ---- sizes
