use Rattle.std.proofs.Common.{◌≡◌, sym, subst, rules}
use Rattle.c_lex.specs.declared.punctuator.Punctuator.{Punctuator}
use Rattle.c_syntax.specs.Tokens.{HasPunctuator}
use Rattle.c_parse_type.proofs.TypesAreRead.{punctuator_is}
use Rattle.c_parse_type.proofs.front.after.Goals as goal

pub returns-then-eq-clause-found : goal.returns-then-eq-clause-found
returns-then-eq-clause-found c =
    let h = punctuator_is c.args.tokens.now c.in-Some.rest.now c.in-Some.found c.in-Some.field-0-1
    (sym c.in-Some.ensures) in
    let q : c.in-Some.found ≡ c.args.wanted = search rules in
    subst (λ (s : Punctuator). HasPunctuator s c.args.tokens.now c.in-Some.rest.now) q
    (c.in-Some.field-0-1, h)
