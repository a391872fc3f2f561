-- Ends of epilogues of the forms that both unwinders know, as each of them reads them.
use Rattle.std.proofs.Common.{◌≡◌, ℕ, zero, suc, ◌+◌, ◌-◌, ◌*◌, ◌/◌, ◌%◌, ◌^◌, ◌<◌, Bool, true, false, not, ◌&&◌, ◌||◌, ◌==◌, nat_le, if◌then◌else◌, List, [], ◌∷◌, length, option_map, Option, Some, None, Ok, refl, sym, ap, subst, ◌∙◌, arith}
use Rattle.std.proofs.lemmas.Bool.{and_parts, eqb-true, eq-eqb, ne_eqb}
use Rattle.seh_num.specs.declared.width.Width.TheVariants.{W8, W32, W64}
use Rattle.seh_num.specs.Answers.{◌>>=◌}
use Rattle.flat_memory.specs.Memory.{Memory}
use Rattle.pe_image.specs.Field.{field}
use Rattle.x64_instr.specs.declared.register.Reg.TheVariants.{Rsp}
use Rattle.x64_instr.specs.declared.operand.Base.TheVariants as bases
use Rattle.x64_instr.specs.declared.operand.RegisterOrMemory.TheVariants as places
use Rattle.x64_instr.specs.declared.operand.Operand.TheVariants as operands
use Rattle.x64_instr.specs.declared.instruction.Operation.TheVariants as operations
use Rattle.x64_instr.specs.declared.instruction.Target.TheVariants.{Indirect}
use Rattle.x64_instr.specs.declared.instruction.Instr.{Instr}
use Rattle.x64_instr.specs.declared.instruction.Instr.TheVariants as instrs
use Rattle.x64_instr.specs.Operands.{place}
use Rattle.x64_instr.specs.Registers.{register, number}
use Rattle.x64_instr.specs.Reading.{Read, bit, extended}
use Rattle.x64_instr.specs.Spelling.{instr, leading, after_size, after_prefixes, row, plain_row}
use Rattle.x64_instr.proofs.RegisterNumbers.{number_register}
use Rattle.x64_machine.specs.declared.context.Context.{Context}
use Rattle.virtual_unwind.specs.Contexts.{get, set, rsp, with_rsp, rsp_raised}
use Rattle.virtual_unwind.specs.Undone.{word, popped}
use Rattle.virtual_unwind.specs.declared.tail.Role.TheVariants.{Opens, Ends}
use Rattle.virtual_unwind.specs.Tail as profile
use Rattle.virtual_unwind.specs.Tail.{FetchedInstr, item_of, is_plain, role_of, left_by}
use Rattle.abi_unwind.specs.declared.tail.Part.{Part}
use Rattle.abi_unwind.specs.declared.tail.Part.TheVariants.{Raise, FromFrame, Restore}
use Rattle.abi_unwind.specs.declared.tail.End.TheVariants.{Certain}
use Rattle.abi_unwind.specs.Caller.{ran_one}
use Rattle.abi_unwind.specs.Laws.{is_plain_end}
use Rattle.abi_unwind.specs.Tail.{byte, short, long, sized, is_add, is_lea, popping, opening, end_at}
use Rattle.abi_unwind.proofs.PlainTails.{item, item_is, made}

pub record Ended (f at : ℕ) (b : List ℕ) : Type 0 where
  pub instr : Instr
  pub size : ℕ
  pub is : item b ≡ made b instr size
  pub role : role_of f (is_plain b size instr) instr ≡ Ends
  pub does : (m : Memory) (c : Context) → left_by m instr c ≡ popped m c
  pub certain : end_at at b ≡ Some Certain

return_spelled : (rest : List ℕ) → instr (0xC3 ∷ rest) ≡ Some (instrs.Return, rest)
unfolding instr after_size after_prefixes row plain_row
return_spelled rest = refl

abbrev jumped : ℕ → Instr
jumped n =
    instrs.Jump (Indirect (places.Memory
    (record { base = bases.Rip; index = None; displacement = n })))

jump_spelled : (a b c d : ℕ) (rest : List ℕ)
    → instr (0xFF ∷ 0x25 ∷ a ∷ b ∷ c ∷ d ∷ rest)
    ≡ Some (jumped (extended W32 W64 (field 4 (a ∷ b ∷ c ∷ d ∷ rest) 0)), rest)
unfolding instr after_size after_prefixes row plain_row place
jump_spelled a b c d rest = refl

return_ends : (f at : ℕ) (rest : List ℕ) → Ended f at (0xC3 ∷ rest)
return_ends f at rest =
    let len : length (0xC3 ∷ rest) - length rest ≡ 1 = omega arith in
    record {
      instr = instrs.Return;
      size = 1;
      is = item_is (0xC3 ∷ rest) rest instrs.Return 1 (return_spelled rest) len;
      role = refl;
      does = λ m c. refl;
      certain = refl;
    }

jump_ends : (f at a b c d : ℕ) (rest : List ℕ) → Ended f at (0xFF ∷ 0x25 ∷ a ∷ b ∷ c ∷ d ∷ rest)
jump_ends f at a b c d rest =
    let len : length (0xFF ∷ 0x25 ∷ a ∷ b ∷ c ∷ d ∷ rest) - length rest ≡ 6 = omega arith in
    let by = extended W32 W64 (field 4 (a ∷ b ∷ c ∷ d ∷ rest) 0) in
    record {
      instr = jumped by;
      size = 6;
      is = item_is (0xFF ∷ 0x25 ∷ a ∷ b ∷ c ∷ d ∷ rest) rest (jumped by) 6
          (jump_spelled a b c d rest) len;
      role = refl;
      does = λ m c. refl;
      certain = refl;
    }

far_ends : (f at : ℕ) (b : List ℕ) → byte 0 b ≡ 0xFF → byte 1 b ≡ 0x25
    → nat_le 6 (length b) ≡ true → Ended f at b
far_ends f at [] e g n = absurd cc
far_ends f at (x ∷ []) e g n = absurd cc
far_ends f at (x ∷ y ∷ []) e g n = absurd cc
far_ends f at (x ∷ y ∷ a ∷ []) e g n = absurd cc
far_ends f at (x ∷ y ∷ a ∷ b ∷ []) e g n = absurd cc
far_ends f at (x ∷ y ∷ a ∷ b ∷ c ∷ []) e g n = absurd cc
far_ends f at (x ∷ y ∷ a ∷ b ∷ c ∷ d ∷ rest) e g n =
    let same : 0xFF ∷ 0x25 ∷ a ∷ b ∷ c ∷ d ∷ rest ≡ x ∷ y ∷ a ∷ b ∷ c ∷ d ∷ rest =
    ap (λ v. v ∷ 0x25 ∷ a ∷ b ∷ c ∷ d ∷ rest) (sym e)
    ∙ ap (λ v. x ∷ v ∷ a ∷ b ∷ c ∷ d ∷ rest) (sym g) in
    subst (Ended f at) same (jump_ends f at a b c d rest)

near_ends : (f at : ℕ) (b : List ℕ) → byte 0 b ≡ 0xC3 → Ended f at b
near_ends f at [] e = absurd (omega (arith, e))
near_ends f at (x ∷ rest) e =
    subst (λ (v : ℕ). Ended f at (v ∷ rest)) (sym e) (return_ends f at rest)

pub ended_alike : (f at : ℕ) (b : List ℕ) → is_plain_end b ≡ true → Ended f at b
ended_alike f at b e = go (byte 0 b == 0xC3) refl e
  where
    go : (t : Bool) → (byte 0 b == 0xC3) ≡ t
        → (t || ((byte 0 b == 0xFF) && ((byte 1 b == 0x25) && nat_le 6 (length b)))) ≡ true
        → Ended f at b
    go true p h = near_ends f at b (eqb-true (byte 0 b) 0xC3 p)
    go false p h =
        let p1 = and_parts _ _ h in
        let p2 = and_parts _ _ p1.1 in
        far_ends f at b (eqb-true (byte 0 b) 0xFF p1.0) (eqb-true (byte 1 b) 0x25 p2.0) p2.1
