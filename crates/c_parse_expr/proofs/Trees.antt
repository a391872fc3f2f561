-- The trees of the code's operands with parentheses.
use Rattle.std.proofs.Common.{◌≡◌, ℕ, map, sym, ap, ◌∙◌}
use Rattle.c_parse_expr.specs.Words.{CType, Identifier, Expression, Call, Parentheses, Cast, node, arguments, expression}
use Rattle.c_syntax.specs.declared.expression.Expr.TheFolds.{fold-roll-Expr}
use Rattle.c_syntax.specs.declared.expression.Expr.TheOpen as opened
use Rattle.c_syntax.specs.declared.expression.Expr.TheVariants as exprs

pub call_is : (name : Identifier) (es : _)
    → expression (exprs.Call name es) ≡ Call name (arguments (map expression es.items))
call_is name es =
    ap expression (sym (exprs.rolls-Call name es))
    ∙ fold-roll-Expr Expression node (opened.Call name es)

pub parentheses_is : (at : ℕ) (e : _)
    → expression (exprs.Parentheses at e) ≡ Parentheses at (expression e.value)
parentheses_is at e =
    ap expression (sym (exprs.rolls-Parentheses at e))
    ∙ fold-roll-Expr Expression node (opened.Parentheses at e)

pub cast_is : (at : ℕ) (to : CType) (e : _)
    → expression (exprs.Cast at to e) ≡ Cast at to (expression e.value)
cast_is at to e =
    ap expression (sym (exprs.rolls-Cast at to e))
    ∙ fold-roll-Expr Expression node (opened.Cast at to e)
