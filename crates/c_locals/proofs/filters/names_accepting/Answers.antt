use Rattle.std.proofs.Common.{◌∙◌, ap}
use Rattle.c_locals.proofs.filters.names_accepting.Goals as goal
use Rattle.c_locals.specs.Words.{Names, is_accepting}

pub returns : goal.returns
returns c = c.is_accepting.ensures ∙ ap is_accepting
    (c.named.ensures ∙ ap (λ (s : Names). s.entity c.args.name) c.context.ensures)
