use Rattle.c_syntax.proofs.Rows as rows
use Rattle.c_syntax.proofs.laws.rows.Goals as goal

pub returns : goal.returns
returns c = record {
  differences = rows.differences;
  product = rows.product;
  cast_of_element = rows.cast_of_element;
  choices = rows.choices;
  assignments = rows.assignments;
  two_arguments = rows.two_arguments;
  nearest_if = rows.nearest_if;
  no_other_if = rows.no_other_if;
}
