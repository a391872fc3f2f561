use Rattle.std.proofs.lemmas.Result.{err_from_is_err_and}
use Rattle.c_parse.specs.Words.{NoExternalDeclaration, HasExternalDeclaration, NoGlobals, HasGlobals, NoHead, HasHead}
use Rattle.c_parse.proofs.Refusing.{placed_in, placed_so}
use Rattle.c_parse.proofs.HeadsOfDeclarations.{in_head}
use Rattle.c_parse.proofs.ExternalDeclarations.{as_globals}
use Rattle.c_parse.proofs.program.external_declaration.Goals as goal

pub returns-in_err-head-clause-refused : goal.returns-in_err-head-clause-refused
returns-in_err-head-clause-refused c =
    let p = err_from_is_err_and c.from_residual.result c.from_residual.ensures.1 in
    rw (p.1, p.2) (placed_in c.in_err-head.field-0.0 NoHead HasHead
    (NoExternalDeclaration c.args.counts) (HasExternalDeclaration c.args.counts) c.args.text.now
    c.args.tokens.now c.args.tokens.now
    (in_head c.args.text.now c.args.counts c.args.tokens.now c.requires)
    c.in_err-head.ensures.refused)

pub returns-in_err-globals-in-None-clause-refused :
    goal.returns-in_err-globals-in-None-clause-refused
returns-in_err-globals-in-None-clause-refused c =
    let r = c.from_residual-in_err-globals-in-None in
    let p = err_from_is_err_and r.result r.ensures.1 in
    let k = c.in_ok-head in
    rw (p.1, p.2) (placed_so c.in_err-globals-in-None.field-0.0
    (NoGlobals k.head.base c.args.counts.bytes) (HasGlobals k.head.base c.args.counts.bytes)
    (NoExternalDeclaration c.args.counts) (HasExternalDeclaration c.args.counts) c.args.text.now
    k.head.declarators.now c.args.tokens.now
    (as_globals c.args.text.now c.args.counts k.head.base k.head.pointers k.head.name
    c.args.tokens.now k.head.declarators.now k.head.rest.now c.requires k.ensures.found
    c.in-None.ensures.none) c.in_err-globals-in-None.ensures.refused)
