use Rattle.std.proofs.Common.{List, subst, sym}
use Rattle.c_lex.specs.declared.token.Token.{Token}
use Rattle.c_lex.specs.Text.{IsTokens}
use Rattle.c_text.proofs.Refusing.{no_text, no_program}
use Rattle.c_text.proofs.accepting.read.Goals as goal

pub returns-in-Err : goal.returns-in-Err
returns-in-Err c = record {
  found = tt;
  refused = rw c.lexical.ensures
      (no_text c.args.text.now c.in-Err.error c.in-Err.ensures.refused);
}

pub returns : goal.returns
returns c = record {
  found = tt;
  refused =
      rw c.syntactic.ensures
      (no_program c.args.text.now c.deref.result.now c.in-Err-parse.error
      (subst (λ (z : List Token). IsTokens c.args.text.now z) (sym c.deref.ensures.value)
      c.in-Ok.ensures.found) c.in-Err-parse.ensures.refused);
}

pub returns-in-Ok-parse : goal.returns-in-Ok-parse
returns-in-Ok-parse c = record {
  found = record {
    tokens = c.deref.result.now;
    lexed = subst (λ (z : List Token). IsTokens c.args.text.now z) (sym c.deref.ensures.value)
        c.in-Ok.ensures.found;
    derives = c.in-Ok-parse.ensures.found;
    within = c.in-Ok-parse.ensures.within;
  };
  refused = tt;
}

pub parse-requires : goal.parse-requires
parse-requires c = record {
  tokens = subst (λ (z : List Token). IsTokens c.args.text.now z)
      (sym c.deref.ensures.value) c.in-Ok.ensures.found;
}
