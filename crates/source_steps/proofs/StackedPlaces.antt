-- The code's place of a variable on the data stack, as that of the meaning; and the bytes that are
-- left of an array, modulo 2^64.
use Rattle.std.proofs.Common.{◌≡◌, ℕ, sym, ap, ◌∙◌, arith}
use Rattle.seh_num.specs.declared.width.Width.{Width}
use Rattle.seh_num.specs.declared.width.Width.TheVariants.{W64}
use Rattle.seh_num.specs.Widths.{low}
use Rattle.c_operations.specs.Performed.{before_last}
use Rattle.c_checked.specs.declared.expression.Access.{Access}
use Rattle.c_checked.specs.declared.expression.Lvalue.TheVariants as lvalues
use Rattle.c_checked.specs.declared.expression.Lvalue.TheOpen as opened
use Rattle.c_checked.specs.declared.expression.Lvalue.TheFolds.{fold-roll-Lvalue}
use Rattle.c_checked.specs.Expression as trees
use Rattle.c_checked.specs.Expression.{lvalue, lvalue_layer, node_layer, expression_layer}

pub stacked_is : (access : Access) (base offset : ℕ)
    → lvalue (lvalues.Stacked access base offset) ≡ trees.Stacked access base offset
stacked_is access base offset =
    ap lvalue (sym (lvalues.rolls-Stacked access base offset))
    ∙ fold-roll-Lvalue trees.Lvalue trees.Node trees.Expression lvalue_layer node_layer
    expression_layer (opened.Stacked access base offset)

pub before_same : (w : Width) (b : ℕ) → before_last w (low W64 b) ≡ before_last w b
before_same w b = omega arith
