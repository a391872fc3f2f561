use Rattle.seh.proofs.Calls.{texts_have_one_image}
use Rattle.seh.proofs.MeantCalls.{last_lines_agree, compiled_is_meant, run_is_meant}
use Rattle.seh.proofs.laws.meant_calls.Goals as goal

pub returns : goal.returns
returns c = record {
  one_image = texts_have_one_image;
  last_line = last_lines_agree;
  compiled = compiled_is_meant;
  run = run_is_meant;
}
