use Rattle.std.proofs.Common.{◌∙◌}
use Rattle.c_parse_type.proofs.Types.{found_so, base_only}
use Rattle.c_parse_type.proofs.Ends.{ends_base}
use Rattle.c_parse_type.proofs.specifiers.base.Goals as goal

pub returns-clause-found : goal.returns-clause-found
returns-clause-found c = found_so c.specifiers.result (λ x. (x.0, x.1.now)) c.args.tokens.now
    c.specifiers.ensures

pub returns-clause-only : goal.returns-clause-only
returns-clause-only c = λ b rest h n. c.specifiers.ensures ∙ base_only b c.args.tokens.now rest h n

pub returns-clause-far : goal.returns-clause-far
returns-clause-far c = ends_base c.specifiers.result (λ x. (x.0, x.1.now)) c.args.tokens.now
    c.specifiers.ensures
