-- An instruction that is no part of an epilogue, by its first byte.
use Rattle.std.proofs.Common.{◌≡◌, ℕ, ◌/◌, ◌%◌, ◌<◌, Bool, true, false, ◌==◌, List, ◌∷◌, ◌-◌, nat_lt, if◌then◌else◌, Option, Some, None, option_map, length, refl, sym, ap, ◌∙◌, arith, rules}
use Rattle.seh_num.specs.declared.width.Width.{Width}
use Rattle.x64_instr.specs.declared.register.Reg.{Reg}
use Rattle.x64_instr.specs.declared.operand.RegisterOrMemory.{RegisterOrMemory}
use Rattle.x64_instr.specs.declared.operand.RegisterOrMemory.TheVariants as places
use Rattle.x64_instr.specs.declared.operand.Operand.TheVariants as operands
use Rattle.x64_instr.specs.declared.instruction.Operation.{Operation}
use Rattle.x64_instr.specs.declared.instruction.Operation.TheVariants as operations
use Rattle.x64_instr.specs.declared.instruction.Instr.{Instr}
use Rattle.x64_instr.specs.declared.instruction.Instr.TheVariants as instrs
use Rattle.x64_instr.specs.declared.prefixes.Prefixes.{Prefixes}
use Rattle.x64_instr.specs.Operands.{source, sized, rm_and_register}
use Rattle.x64_instr.specs.Reading.{Read, ◌>>=◌}
use Rattle.x64_instr.specs.Spelling.{leading, instr, after_size, after_prefixes, row, operation, given, arithmetic_form, arithmetic_row, rm_r, r_rm}
use Rattle.virtual_unwind.specs.declared.tail.Role.TheVariants.{Other}
use Rattle.virtual_unwind.specs.Tail.{IsPlainArithmetic, FetchedInstr, item_of, is_plain, role_of}
use Rattle.virtual_unwind.specs.After.{Part, part_of, part_from}

other : (f : ℕ) (plain : Bool) (o : Operation) (w : Width) (to : RegisterOrMemory) (r : Reg)
    → role_of f plain (instrs.Arithmetic o w to (operands.Register r)) ≡ Other
other f plain o w to r = search rules

other_source : (f : ℕ) (p : Bool) (o : Operation) (w : Width) (to : Reg) (from : RegisterOrMemory)
    → role_of f p (instrs.Arithmetic o w (places.Register to) (source from)) ≡ Other
other_source f p o w to (places.Register r) = other f p o w (places.Register to) r
other_source f p o w to (places.Memory a) = search rules

abbrev shown_part : ℕ → Bool → List ℕ → Read Instr → Option Part
shown_part f first bytes r = part_from f first (item_of bytes
    (option_map (λ x. (x.0, length bytes - length x.1)) r))

quiet : (f : ℕ) (first : Bool) (bytes : List ℕ) (i : Instr) (rest : List ℕ)
    → ((plain : Bool) → role_of f plain i ≡ Other)
    → None ≡ shown_part f first bytes (Some (i, rest))
quiet f first bytes i rest h =
    let n = length bytes - length rest in
    let x : FetchedInstr = record { instr = i; size = n; plain = is_plain bytes n i } in
    sym (ap (part_of first x) (h (is_plain bytes n i)))

module _ (f : ℕ) (first : Bool) (bytes : List ℕ) (p : Prefixes) (op : ℕ) where
  quiet_rm : (w : Width) (o : Operation) (r : Read (RegisterOrMemory × Reg))
      → None ≡ shown_part f first bytes (r >>= λ x.
      Some (instrs.Arithmetic o w x.0.0 (operands.Register x.0.1), x.1))
  quiet_rm w o None = refl
  quiet_rm w o (Some x) =
      let it = instrs.Arithmetic o w x.0.0 (operands.Register x.0.1) in
      quiet f first bytes it x.1 (λ plain. other f plain o w x.0.0 x.0.1)

  quiet_mr : (w : Width) (o : Operation) (r : Read (RegisterOrMemory × Reg))
      → None ≡ shown_part f first bytes (r >>= λ x.
      Some (instrs.Arithmetic o w (places.Register x.0.1) (source x.0.0), x.1))
  quiet_mr w o None = refl
  quiet_mr w o (Some x) = quiet f first bytes
      (instrs.Arithmetic o w (places.Register x.0.1) (source x.0.0)) x.1
      (λ plain. other_source f plain o w x.0.1 x.0.0)

  abbrev forms : Operation → List ℕ → Bool → Bool → Read Instr
  forms o rest a b =
      if a then rm_r p (sized p op) (instrs.Arithmetic o (sized p op)) rest
      else (if b then r_rm p (sized p op) (sized p op)
      (λ to from. instrs.Arithmetic o (sized p op) (places.Register to) (source from)) rest
      else None)

  quiet_forms : (o : Operation) (rest : List ℕ) (a b : Bool)
      → None ≡ shown_part f first bytes (forms o rest a b)
  quiet_forms o rest true b =
      quiet_rm (sized p op) o (rm_and_register p (sized p op) (sized p op) rest)
  quiet_forms o rest false true =
      quiet_mr (sized p op) o (rm_and_register p (sized p op) (sized p op) rest)
  quiet_forms o rest false false = refl

  quiet_row : (rest : List ℕ) (o : Option Operation)
      → None ≡ shown_part f first bytes (given o rest >>= λ x. arithmetic_form p x.0 op x.1)
  quiet_row rest None = refl
  quiet_row rest (Some o) = quiet_forms o rest (op % 8 / 2 == 0) (op % 8 / 2 == 1)

none_prefixed : (b : ℕ) (rest : List ℕ) → b < 64 → b == 0x0F ≡ false → instr (b ∷ rest)
    ≡ arithmetic_row (record { operand_size = false; has_rex = false; rex = 0 }) b rest
unfolding instr after_size after_prefixes row
none_prefixed b rest low one = search rules

pub no_item : (f : ℕ) (first : Bool) (bytes : List ℕ) → IsPlainArithmetic bytes
    → None ≡ part_from f first (item_of bytes (leading bytes))
no_item f first bytes h =
    let p : Prefixes = record { operand_size = false; has_rex = false; rex = 0 } in
    quiet_row f first bytes p h.first h.rest (operation (h.first / 8))
    ∙ sym (ap (shown_part f first bytes) (ap instr h.is ∙ none_prefixed h.first h.rest h.low h.one))
