use Rattle.std.proofs.Common.{◌∙◌, codes, sym, subst, arith}
use Rattle.std.proofs.lemmas.Int.{ints}
use Rattle.clap.specs.Words.{first_of, rows_of, found_of}
use Rattle.clap.proofs.WalkLemmas.{first_value-rows}
use Rattle.command_line.specs.Lines.{IsNumber}
use Rattle.command_line.proofs.Numbers.{number_small}
use Rattle.command_line.proofs.reading.options_of.Goals as goal

pub returns-in-Err-clause-usage : goal.returns-in-Err-clause-usage
returns-in-Err-clause-usage c =
    let text_is = c.get_str.ensures ∙ first_value-rows (found_of c.args.matches.now)
    (codes "turns") in (
      c.in-Err.ensures.usage.0,
      λ o h. c.in-Err.ensures.usage.1 o.turns
          (subst (λ t. IsNumber 10000000 t o.turns) (sym text_is) h.turns),
    )

pub returns-in-Err-number_or-clause-usage : goal.returns-in-Err-number_or-clause-usage
returns-in-Err-number_or-clause-usage c =
    let text_is = c.get_str-2.ensures ∙ first_value-rows (found_of c.args.matches.now)
    (codes "arg") in (
      c.in-Err-number_or.ensures.usage.0,
      λ o h. c.in-Err-number_or.ensures.usage.1 h.argument.0
          (subst (λ t. IsNumber 0 t h.argument.0) (sym text_is) h.argument.1),
    )

pub returns-clause-found : goal.returns-clause-found
returns-clause-found c =
    let turns_is = c.get_str.ensures ∙ first_value-rows (found_of c.args.matches.now)
    (codes "turns") in
    let argument_is = c.get_str-2.ensures ∙ first_value-rows (found_of c.args.matches.now)
    (codes "arg") in
    let n = c.in-Ok-number_or.argument in
    let argument = subst (λ t. IsNumber 0 t n) argument_is c.in-Ok-number_or.ensures.found in
    let small = number_small 0 (first_of (codes "arg") (rows_of (found_of c.args.matches.now))) n
    (omega arith) argument in
    record {
      turns = subst (λ t. IsNumber 10000000 t c.in-Ok.turns) turns_is c.in-Ok.ensures.found;
      argument = (n, argument, omega (arith, ints));
      trace = c.is_set-trace.ensures;
    }
