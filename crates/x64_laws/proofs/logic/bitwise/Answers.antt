use Rattle.x64_laws.proofs.Bitwise.{and_is_bitwise, or_is_bitwise, xor_is_bitwise, xor_clears, test_is_bitwise}
use Rattle.x64_laws.proofs.logic.bitwise.Goals as goal

pub returns : goal.returns
returns c = record {
  and = and_is_bitwise;
  or = or_is_bitwise;
  xor = xor_is_bitwise;
  clear = xor_clears;
  test = test_is_bitwise;
}
