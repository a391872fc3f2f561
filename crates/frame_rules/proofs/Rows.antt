-- The worked functions, by computing.
use Rattle.std.proofs.Common.{refl}
use Rattle.x64_instr.specs.Operands.{place}
use Rattle.frame_rules.specs.Words.{instr, after_size, after_prefixes, row, plain_row, two_byte_row}
use Rattle.frame_rules.specs.Worked.{spelled, Keep, Break}

pub keep : Keep
unfolding spelled place instr after_size after_prefixes row plain_row two_byte_row
keep = (refl, refl, refl, refl, refl, refl, refl)

pub break : Break
unfolding spelled place instr after_size after_prefixes row plain_row two_byte_row
break = (refl, refl, refl, refl, refl, refl)
