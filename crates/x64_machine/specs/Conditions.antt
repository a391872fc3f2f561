-- What conditions ask of the flags (Intel manual, volume 1, appendix B).
--
-- The main definition: `holds`.
use Rattle.std.specs.Prelude.{Bool, not, ◌||◌}
use Rattle.x64_instr.specs.declared.instruction.Condition.{Condition}
use Rattle.x64_instr.specs.declared.instruction.Condition.TheVariants as conditions
use Rattle.x64_machine.specs.declared.cpu.Flags.{Flags}
use Rattle.x64_machine.specs.Shifts.{differ}

-- what a condition asks of CF, ZF, SF and OF
abbrev pub holds : Flags → Condition → Bool
holds f conditions.Overflow = f.overflow
holds f conditions.NotOverflow = not f.overflow
holds f conditions.Below = f.carry
holds f conditions.AboveOrEqual = not f.carry
holds f conditions.Equal = f.zero
holds f conditions.NotEqual = not f.zero
holds f conditions.BelowOrEqual = f.carry || f.zero
holds f conditions.Above = not (f.carry || f.zero)
holds f conditions.Sign = f.sign
holds f conditions.NotSign = not f.sign
holds f conditions.Less = differ f.sign f.overflow
holds f conditions.GreaterOrEqual = not (differ f.sign f.overflow)
holds f conditions.LessOrEqual = f.zero || differ f.sign f.overflow
holds f conditions.Greater = not (f.zero || differ f.sign f.overflow)
