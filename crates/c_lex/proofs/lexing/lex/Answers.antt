use Rattle.std.proofs.Common.{◌-◌, length, inr, ap, ◌∙◌, arith}
use Rattle.c_lex.specs.Answers.{refused}
use Rattle.c_lex.proofs.Texts.{shorter, begins, no_longer, with_blank, with_token, all_read}
use Rattle.c_lex.proofs.Texts.{fault_read, tokens_once, no_fault, fault_once}
use Rattle.c_lex.proofs.lexing.lex.Goals as goal

pub loop-word-init : goal.loop-word-init
loop-word-init c = begins c.args.text.now c.new-tokens.result.items c.new-tokens.ensures.items

pub overflow_sub-start : goal.overflow_sub-start
overflow_sub-start c = no_longer c.args.text.now c.loop-word.rest.now c.loop-word.tokens.items
    c.loop-word.invariant

pub overflow_sub-end : goal.overflow_sub-end
overflow_sub-end c =
    let n = no_longer c.args.text.now c.loop-word.rest.now c.loop-word.tokens.items
    c.loop-word.invariant in
    let s = shorter c.loop-word.rest.now c.in-Some.ensures.found.0 c.in-Some.after.now
    c.in-Some.word c.in-Some.ensures.found.1 in
    omega arith

pub loop-word-smaller-in_ok-push-in-Lexeme : goal.loop-word-smaller-in_ok-push-in-Lexeme
loop-word-smaller-in_ok-push-in-Lexeme c =
    shorter c.loop-word.rest.now c.in-Some.ensures.found.0 c.in-Some.after.now c.in-Some.word
    c.in-Some.ensures.found.1

pub loop-word-smaller : goal.loop-word-smaller
loop-word-smaller c = shorter c.loop-word.rest.now c.in-Some.ensures.found.0 c.in-Some.after.now
    c.in-Some.word c.in-Some.ensures.found.1

pub loop-word-preserved-in_ok-push-in-Lexeme : goal.loop-word-preserved-in_ok-push-in-Lexeme
loop-word-preserved-in_ok-push-in-Lexeme c =
    with_token c.args.text.now c.loop-word.rest.now c.in-Some.after.now c.in-Some.ensures.found.0
    c.loop-word.tokens.items _ c.in-Some.word c.in-Lexeme.kind c.loop-word.invariant
    c.in-Some.ensures.found.1 c.in-Lexeme.is c.in_ok-push-in-Lexeme.ensures.items

pub loop-word-preserved : goal.loop-word-preserved
loop-word-preserved c = with_blank c.args.text.now c.loop-word.rest.now c.in-Some.after.now
    c.in-Some.ensures.found.0 c.loop-word.tokens.items c.in-Some.word c.loop-word.invariant
    c.in-Some.ensures.found.1 c.in-Blank.is

pub returns-in-Bad-clause-only : goal.returns-in-Bad-clause-only
returns-in-Bad-clause-only c = λ ts h.
    absurd (no_fault c.args.text.now ts c.in-Bad.fault _ h
    (fault_read c.args.text.now c.loop-word.rest.now c.in-Some.after.now
    c.in-Some.ensures.found.0 c.loop-word.tokens.items c.in-Some.word c.in-Bad.fault
    c.loop-word.invariant c.in-Some.ensures.found.1 c.in-Bad.is))

pub returns-in-Bad-clause-refused : goal.returns-in-Bad-clause-refused
returns-in-Bad-clause-refused c =
    inr (
      c.in-Bad.fault,
      length c.args.text.now - length c.loop-word.rest.now,
      c.refused.ensures,
      fault_read c.args.text.now c.loop-word.rest.now c.in-Some.after.now
          c.in-Some.ensures.found.0 c.loop-word.tokens.items c.in-Some.word c.in-Bad.fault
          c.loop-word.invariant c.in-Some.ensures.found.1 c.in-Bad.is,
    )

pub returns-in-Bad-clause-first : goal.returns-in-Bad-clause-first
returns-in-Bad-clause-first c = λ f at h.
    let k = fault_read c.args.text.now c.loop-word.rest.now c.in-Some.after.now
    c.in-Some.ensures.found.0 c.loop-word.tokens.items c.in-Some.word c.in-Bad.fault
    c.loop-word.invariant c.in-Some.ensures.found.1 c.in-Bad.is in
    let s = fault_once c.args.text.now c.in-Bad.fault f _ at k h in
    inr (c.refused.ensures
    ∙ ap (λ g. refused g (length c.args.text.now - length c.loop-word.rest.now)) s.fault
    ∙ ap (λ a. refused f a) s.place)

pub returns-clause-found : goal.returns-clause-found
returns-clause-found c = all_read c.args.text.now c.loop-word.rest.now c.loop-word.tokens.items
    c.loop-word.invariant c.in_default.ensures.none

pub returns-clause-only : goal.returns-clause-only
returns-clause-only c = λ ts h.
    tokens_once c.args.text.now c.loop-word.tokens.items ts
    (all_read c.args.text.now c.loop-word.rest.now c.loop-word.tokens.items
    c.loop-word.invariant c.in_default.ensures.none) h

pub returns-clause-first : goal.returns-clause-first
returns-clause-first c = λ f at h.
    no_fault c.args.text.now c.loop-word.tokens.items f at
    (all_read c.args.text.now c.loop-word.rest.now c.loop-word.tokens.items
    c.loop-word.invariant c.in_default.ensures.none) h
