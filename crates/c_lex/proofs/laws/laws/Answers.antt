use Rattle.c_lex.proofs.Texts.{tokens_once, no_fault, fault_once}
use Rattle.c_lex.proofs.Total.{each_text}
use Rattle.c_lex.proofs.Covering.{ranges_rise, every_byte}
use Rattle.c_lex.proofs.OnlySpelled.{punctuators_only, keywords_only, reserved_only}
use Rattle.c_lex.proofs.Spelled.{punctuators_spelled, keywords_spelled, reserved_spelled}
use Rattle.c_lex.proofs.laws.laws.Goals as goal

pub returns : goal.returns
returns c = record {
  one_list = tokens_once;
  one_fault = λ text f g at to a b. let s = fault_once text f g at to a b in (s.fault, s.place);
  not_both = no_fault;
  each_text = each_text;
  ranges = ranges_rise;
  every_byte = every_byte;
  spellings = (punctuators_spelled, keywords_spelled, reserved_spelled);
  no_other = (punctuators_only, keywords_only, reserved_only);
}
