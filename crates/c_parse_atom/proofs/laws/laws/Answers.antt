use Rattle.c_syntax.proofs.Fronts as operators
use Rattle.c_parse_atom.proofs.Punctuators as only
use Rattle.c_parse_atom.proofs.laws.laws.Goals as goal

pub returns : goal.returns
returns c = record {
  punctuators = record {
    binary = operators.binary_again;
    assignment = operators.assignment_again;
    unary = operators.unary_again;
    increment = operators.increment_again;
  };
  no_other = record {
    binary = only.binary_only;
    assignment = only.assignment_only;
    unary = only.unary_only;
    increment = only.increment_only;
  };
}
