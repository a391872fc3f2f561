use Rattle.x64_laws.proofs.Divisions.{div_is_division, div_overflows, idiv_is_division, idiv_overflows, division_by_zero_faults}
use Rattle.x64_laws.proofs.dividing.divisions.Goals as goal

pub returns : goal.returns
returns c = record {
  div = div_is_division;
  div_overflow = div_overflows;
  idiv = idiv_is_division;
  idiv_overflow = idiv_overflows;
  by_zero = division_by_zero_faults;
}
