use Rattle.std.proofs.Common.{refl}
use Rattle.std.proofs.lemmas.Result.{err_from_is_err_and}
use Rattle.c_lex.specs.declared.punctuator.Punctuator.TheVariants as punctuators
use Rattle.c_syntax.specs.declared.limit.TheConstants.{MOST_LOCALS, MOST_ARRAY_BYTES}
use Rattle.c_parse.specs.Words.{Remaining, NoPunctuator, APunctuator, NoBlockItems, HasBlockItems, NoParameters, HasParameters, NoTail, HasTail}
use Rattle.c_parse.proofs.Refusing.{placed_in}
use Rattle.c_parse.proofs.Bodies.{in_parameters, in_brace, in_body}
use Rattle.c_parse.proofs.functions.tail.Goals as goal

pub returns-in_err-inner-clause-refused : goal.returns-in_err-inner-clause-refused
returns-in_err-inner-clause-refused c =
    let r = c.from_residual-in_err-inner in
    let p = err_from_is_err_and r.result r.ensures.1 in
    let k = c.in_ok-parameters in
    rw (p.1, p.2) (placed_in c.in_err-inner.field-0.0 (NoPunctuator punctuators.OpenBrace)
    (APunctuator punctuators.OpenBrace) (NoTail c.args.funclets) (HasTail c.args.funclets)
    c.args.text.now k.following.now c.args.tokens.now
    (in_brace c.args.text.now c.args.funclets c.args.tokens.now k.following.now
    k.parameters.items k.ensures.found k.ensures.few) c.in_err-inner.ensures.refused)

pub returns-in_err-body-clause-refused : goal.returns-in_err-body-clause-refused
returns-in_err-body-clause-refused c =
    let r = c.from_residual-in_err-body in
    let p = err_from_is_err_and r.result r.ensures.1 in
    let k = c.in_ok-parameters in
    let left : Remaining =
    record { locals = MOST_LOCALS; bytes = MOST_ARRAY_BYTES; funclets = c.args.funclets } in
    rw (p.1, p.2) (placed_in c.in_err-body.field-0.0 (NoBlockItems 65 left) (HasBlockItems 65 left)
    (NoTail c.args.funclets) (HasTail c.args.funclets) c.args.text.now c.in_ok-inner.inner.now
    c.args.tokens.now (in_body c.args.text.now left c.args.tokens.now k.following.now
    c.in_ok-inner.inner.now k.parameters.items refl refl k.ensures.found k.ensures.few
    c.in_ok-inner.ensures.found) c.in_err-body.ensures.refused)

pub returns-in_err-parameters-clause-refused : goal.returns-in_err-parameters-clause-refused
returns-in_err-parameters-clause-refused c =
    let p = err_from_is_err_and c.from_residual.result c.from_residual.ensures.1 in
    rw (p.1, p.2) (placed_in c.in_err-parameters.field-0.0 NoParameters HasParameters
    (NoTail c.args.funclets) (HasTail c.args.funclets) c.args.text.now c.args.tokens.now
    c.args.tokens.now (in_parameters c.args.text.now c.args.funclets c.args.tokens.now)
    c.in_err-parameters.ensures.refused)
