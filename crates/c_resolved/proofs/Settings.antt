-- Parts of a function with its variables where these stand: what is around them, and their sizes.
use Rattle.std.specs.Prelude.{Bool, List, Option}
use Rattle.c_checked.specs.Sound as sound
use Rattle.c_checked.specs.Statement as checked
use Rattle.c_resolved.specs.Words.{Size, Node, Lvalue, Arguments, Layout, place_expression, place_node, place_lvalue, place_arguments, place_optional, place_declared, place_all_declared, place_filter, place_statement, place_statements}
use Rattle.c_checked.specs.Expression.{Expression}

-- what is around a part of an expression, and where the variables stand
pub record Setting : Type 0 where
  pub around : sound.TypingContext
  pub layout : Layout

abbrev pub expression_sound : Setting → Expression → Bool
expression_sound S e = sound.expression_sound S.around (place_expression S.layout e)

abbrev pub expression_size : Setting → Expression → Option Size
expression_size S e = sound.expression_size S.around (place_expression S.layout e)

abbrev pub node_sound : Setting → Node → Bool
node_sound S n = sound.node_sound S.around (place_node S.layout n)

abbrev pub node_size : Setting → Node → Option Size
node_size S n = sound.node_size S.around (place_node S.layout n)

abbrev pub lvalue_sound : Setting → Lvalue → Bool
lvalue_sound S p = sound.lvalue_sound S.around (place_lvalue S.layout p)

abbrev pub lvalue_size : Setting → Lvalue → Option Size
lvalue_size S p = sound.lvalue_size S.around (place_lvalue S.layout p)

abbrev pub arguments_sound : Setting → Arguments → Bool
arguments_sound S es = sound.arguments_sound S.around (place_arguments S.layout es)

abbrev pub argument_sizes : Setting → Arguments → List (Option Size)
argument_sizes S es = sound.argument_sizes S.around (place_arguments S.layout es)

abbrev pub optional_sound : Setting → Option Expression → Bool
optional_sound S e = sound.optional_sound S.around (place_optional S.layout e)

abbrev pub condition_sound : Setting → Expression → Bool
condition_sound S e = sound.condition_sound S.around (place_expression S.layout e)

abbrev pub test_sound : Setting → Option Expression → Bool
test_sound S e = sound.test_sound S.around (place_optional S.layout e)

abbrev pub value_fits : Setting → Option Size → Option Expression → Bool
value_fits S size e = sound.value_fits S.around size (place_optional S.layout e)

abbrev pub declared_sound : Setting → checked.Declared → Bool
declared_sound S d = sound.declared_sound S.around (place_declared S.layout d)

abbrev pub all_declared_sound : Setting → List checked.Declared → Bool
all_declared_sound S ds = sound.all_declared_sound S.around (place_all_declared S.layout ds)

abbrev pub filter_sound : Setting → checked.Filter → Bool
filter_sound S f = sound.filter_sound S.around (place_filter S.layout f)

-- ---- statements

-- what is around a statement, and where the variables stand
pub record Inside : Type 0 where
  pub inside : sound.Inside
  pub layout : Layout

abbrev pub scope_in : Inside → Setting
scope_in i = record { around = i.inside.scope; layout = i.layout }

abbrev pub result_sound : Inside → Option Expression → Bool
result_sound i e = sound.result_sound i.inside (place_optional i.layout e)

abbrev pub statement_sound : Inside → checked.Statement → Bool
statement_sound i s = sound.statement_sound i.inside (place_statement i.layout s)

abbrev pub statements_sound : Inside → checked.Statements → Bool
statements_sound i ss = sound.statements_sound i.inside (place_statements i.layout ss)
