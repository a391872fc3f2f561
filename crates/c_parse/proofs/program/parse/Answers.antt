use Rattle.std.proofs.lemmas.Result.{err_from_is_err_and}
use Rattle.c_parse.specs.Words.{external_declaration}
use Rattle.c_parse.proofs.Lemmas.{program_once, few_tokens}
use Rattle.std.proofs.Common.{length, map, refl, arith}
use Rattle.c_syntax.proofs.Shorter as shorter
use Rattle.c_syntax.proofs.NodesOfPrograms.{program}
use Rattle.c_parse.specs.Bounds.{IsBounded}
use Rattle.c_parse.proofs.Programs.{begins, continues, ends, within, refuses, memory, some_left}
use Rattle.c_parse.proofs.Programs.{none_left}
use Rattle.c_parse.proofs.program.parse.Goals as goal

pub returns-in_err-next-clause-refused : goal.returns-in_err-next-clause-refused
returns-in_err-next-clause-refused c =
    let r = c.from_residual in
    let p = err_from_is_err_and r.result r.ensures.1 in
    let s = c.loop-rest in
    rw (p.1, p.2) (refuses c.in_err-next.field-0.0 c.args.text.now c.args.tokens.now s.rest.now
    s.external_declarations.items s.counts s.invariant c.requires.tokens
    (some_left s.rest.now c.is_empty.result c.is_empty.ensures c.loop-rest-test.true)
    c.in_err-next.ensures.refused)

pub returns-in_err-next-clause-only : goal.returns-in_err-next-clause-only
returns-in_err-next-clause-only c =
    let r = c.from_residual in
    let p = err_from_is_err_and r.result r.ensures.1 in
    let s = c.loop-rest in
    let q = refuses c.in_err-next.field-0.0 c.args.text.now c.args.tokens.now s.rest.now
    s.external_declarations.items s.counts s.invariant c.requires.tokens
    (some_left s.rest.now c.is_empty.result c.is_empty.ensures c.loop-rest-test.true)
    c.in_err-next.ensures.refused in
    λ xs h w. rw (p.1, p.2) (memory c.in_err-next.field-0.0 c.args.text.now c.args.tokens.now xs q h
    w)

pub loop-rest-smaller : goal.loop-rest-smaller
loop-rest-smaller c =
    shorter.external_declaration c.args.text.now (external_declaration c.in_ok-next.next)
    c.loop-rest.rest.now c.in_ok-next.following.now c.in_ok-next.ensures.found

pub loop-rest-preserved : goal.loop-rest-preserved
loop-rest-preserved c =
    let s = c.loop-rest in
    let k = c.in_ok-next in
    rw c.in_ok-push.ensures.items
    (continues c.args.text.now c.args.tokens.now s.rest.now k.following.now
    s.external_declarations.items s.counts k.less k.next s.invariant k.ensures.found
    k.ensures.taken)

pub returns-clause-only : goal.returns-clause-only
returns-clause-only c =
    let s = c.loop-rest in
    λ xs h w. program_once c.args.text.now (map external_declaration s.external_declarations.items)
    xs c.args.tokens.now c.args.tokens.now refl
    (ends c.args.text.now c.args.tokens.now s.rest.now s.external_declarations.items s.counts
    s.invariant (none_left s.rest.now c.is_empty.result c.is_empty.ensures
    c.loop-rest-test.false)) h

pub returns-clause-few : goal.returns-clause-few
returns-clause-few c =
    let s = c.loop-rest in
    program c.args.text.now (map external_declaration s.external_declarations.items)
    c.args.tokens.now (ends c.args.text.now c.args.tokens.now s.rest.now
    s.external_declarations.items s.counts s.invariant
    (none_left s.rest.now c.is_empty.result c.is_empty.ensures c.loop-rest-test.false))

pub loop-rest-init : goal.loop-rest-init
loop-rest-init c = rw c.new-external_declarations.ensures.items
    (begins c.args.text.now c.args.tokens.now
    (record { functions = 4096; bytes = 0; funclets = 16384 }) refl refl refl)

pub returns-clause-found : goal.returns-clause-found
returns-clause-found c =
    let s = c.loop-rest in
    ends c.args.text.now c.args.tokens.now s.rest.now s.external_declarations.items s.counts
    s.invariant (none_left s.rest.now c.is_empty.result c.is_empty.ensures
    c.loop-rest-test.false)

pub returns-clause-within : goal.returns-clause-within
returns-clause-within c =
    let s = c.loop-rest in
    within c.args.text.now c.args.tokens.now s.rest.now s.external_declarations.items s.counts
    s.invariant

pub invariant_of-result : goal.invariant_of-result
invariant_of-result c =
    let s = c.loop-rest in
    let text = c.args.text.now in
    let whole = ends text c.args.tokens.now s.rest.now s.external_declarations.items s.counts
    s.invariant (none_left s.rest.now c.is_empty.result c.is_empty.ensures
    c.loop-rest-test.false) in
    let a = program text (map external_declaration s.external_declarations.items) c.args.tokens.now
    whole in
    let b = few_tokens text c.args.tokens.now c.requires.tokens in
    let bounded : IsBounded (length text) (map external_declaration s.external_declarations.items) =
    record {
      text = text;
      long = refl;
      within = within text c.args.tokens.now s.rest.now s.external_declarations.items s.counts
          s.invariant;
      few = omega arith;
    } in
    record { bounded = ∣ bounded ∣₁ }
