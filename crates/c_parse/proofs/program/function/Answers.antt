use Rattle.std.proofs.lemmas.Result.{err_from_is_err_and}
use Rattle.c_parse.specs.Words.{NoExternalDeclaration, HasExternalDeclaration, NoTail, HasTail}
use Rattle.c_parse.proofs.Refusing.{placed_in}
use Rattle.c_parse.proofs.ExternalDeclarations.{functions_full, in_tail}
use Rattle.c_parse.proofs.program.function.Goals as goal

pub returns-then-counts-eq0-clause-refused : goal.returns-then-counts-eq0-clause-refused
returns-then-counts-eq0-clause-refused c =
    let k = c.args.head in
    rw c.too_many_functions.ensures
    (functions_full c.args.text.now c.args.counts k.base k.pointers k.name c.args.tokens.now
    k.declarators.now k.rest.now c.args.inner.now c.requires.bytes c.requires.head
    c.requires.parenthesis c.if-counts-eq0.true)

pub returns-in_err-tail-clause-refused : goal.returns-in_err-tail-clause-refused
returns-in_err-tail-clause-refused c =
    let r = c.from_residual in
    let p = err_from_is_err_and r.result r.ensures.1 in
    let k = c.args.head in
    rw (p.1, p.2) (placed_in c.in_err-tail.field-0.0 (NoTail c.args.counts.funclets)
    (HasTail c.args.counts.funclets) (NoExternalDeclaration c.args.counts)
    (HasExternalDeclaration c.args.counts) c.args.text.now c.args.inner.now c.args.tokens.now
    (in_tail c.args.text.now c.args.counts k.base k.pointers k.name c.args.tokens.now
    k.declarators.now k.rest.now c.args.inner.now c.requires.bytes c.requires.head
    c.requires.parenthesis c.if-counts-eq0.false) c.in_err-tail.ensures.refused)
