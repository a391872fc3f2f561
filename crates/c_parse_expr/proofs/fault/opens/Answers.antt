use Rattle.std.proofs.Common.{is_some, ap, sym, ◌∙◌, rules}
use Rattle.c_parse_expr.specs.Words.{Parenthesis}
use Rattle.c_parse_expr.proofs.Beginning.{steps_by, operates_by}
use Rattle.c_parse_expr.proofs.fault.opens.Goals.{then-eq, else-eq}
use Rattle.c_parse_expr.proofs.fault.opens.Goals as goal

pub returns-then-is_some-clause-opens : goal.returns-then-is_some-clause-opens
returns-then-is_some-clause-opens c = λ h.
    elim c.if-eq.branch [
      | then-eq w ↦ Parenthesis (search rules)
      | else-eq w ↦ operates_by c.args.punctuator
          (sym (w.value-is ∙ w.is_some.ensures ∙ ap is_some w.unary_of.ensures) ∙ c.if-is_some.true)
    ]

pub returns-else-is_some-clause-opens : goal.returns-else-is_some-clause-opens
returns-else-is_some-clause-opens c = λ h. steps_by c.args.punctuator
    (sym (c.is_some-else-is_some.ensures ∙ ap is_some c.increment_of.ensures) ∙ h)
