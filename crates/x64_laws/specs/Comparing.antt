-- What each condition says after CMP of two numbers (Intel manual, volume 2, Jcc: "below" and
-- "above" of unsigned numbers, "less" and "greater" of signed ones).
--
-- The main definition: `compares`.
use Rattle.std.specs.Prelude.{◌≡◌, ℕ, Bool, not, nat_lt, nat_le, nat_eq, int_lt, int_le, pos, ◌-ℤ◌, IsOkAnd}
use Rattle.seh_num.specs.declared.width.Width.{Width}
use Rattle.seh_num.specs.declared.width.Width.TheVariants.{W8}
use Rattle.seh_num.specs.Widths.{signed, wrapped, if_set}
use Rattle.seh_num.specs.Division.{is_signed}
use Rattle.x64_instr.specs.declared.instruction.Condition.{Condition}
use Rattle.x64_instr.specs.declared.instruction.Condition.TheVariants as conditions
use Rattle.x64_instr.specs.declared.register.Reg.{Reg}
use Rattle.x64_instr.specs.declared.operand.RegisterOrMemory.TheVariants as places
use Rattle.x64_instr.specs.declared.operand.Operand.TheVariants as operands
use Rattle.x64_instr.specs.declared.instruction.Operation.TheVariants.{Compare}
use Rattle.x64_instr.specs.declared.instruction.Instr.TheVariants as instrs
use Rattle.x64_machine.specs.Conditions.{holds}
use Rattle.x64_machine.specs.Effect.{State, effect}
use Rattle.x64_laws.specs.Destinations.{HasRegisters, unsigned_in, Puts}

-- what each condition asks of two numbers, unsigned for "below" and "above", signed for "less" and
-- "greater". In the state after CMP that is what `holds` asks of the flags (`CmpDecides`; Intel
-- manual, volume 2, Jcc).
abbrev pub compares : Condition → Width → ℕ → ℕ → Bool
compares conditions.Equal w a b = nat_eq a b
compares conditions.NotEqual w a b = not (nat_eq a b)
compares conditions.Below w a b = nat_lt a b
compares conditions.AboveOrEqual w a b = nat_le b a
compares conditions.BelowOrEqual w a b = nat_le a b
compares conditions.Above w a b = nat_lt b a
compares conditions.Less w a b = int_lt (signed w a) (signed w b)
compares conditions.GreaterOrEqual w a b = int_le (signed w b) (signed w a)
compares conditions.LessOrEqual w a b = int_le (signed w a) (signed w b)
compares conditions.Greater w a b = int_lt (signed w b) (signed w a)
compares conditions.Overflow w a b = not (is_signed w (signed w a -ℤ signed w b))
compares conditions.NotOverflow w a b = is_signed w (signed w a -ℤ signed w b)
compares conditions.Sign w a b = int_lt (signed w (wrapped w (signed w a -ℤ signed w b))) (pos 0)
compares conditions.NotSign w a b = int_le (pos 0) (signed w (wrapped w (signed w a -ℤ signed w b)))

-- after CMP of two registers each condition is the comparison; all but the flags is as it was
pub record Compared (s : State) (w : Width) (a b : ℕ) (t : State) : Type 0 where
  pub each : (c : Condition) → holds t.cpu.flags c ≡ compares c w a b
  pub registers : t.cpu.registers ≡ s.cpu.registers
  pub rip : t.cpu.rip ≡ s.cpu.rip
  pub memory : t.memory ≡ s.memory

abbrev pub CmpDecides : Type 0
CmpDecides =
    (s : State) (w : Width) (first second : Reg)
    → IsOkAnd (effect s
    (instrs.Arithmetic Compare w (places.Register first) (operands.Register second)))
    (Compared s w (unsigned_in w s first) (unsigned_in w s second))

-- SETcc after CMP leaves a byte of 1 where the comparison holds, and of 0 where it doesn't
abbrev pub SetTellsComparison : Type 0
SetTellsComparison =
    (s : State) (w : Width) (first second to : Reg) (c : Condition) → HasRegisters s
    → IsOkAnd (effect s
    (instrs.Arithmetic Compare w (places.Register first) (operands.Register second)))
    (λ t. IsOkAnd (effect t (instrs.Set c (places.Register to)))
    (Puts t W8 to
    (λ n. n ≡ if_set (compares c w (unsigned_in w s first) (unsigned_in w s second)) 1)
    t.cpu.flags))
