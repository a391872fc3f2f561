use Rattle.std.proofs.Common.{ap, inl, inr, arith}
use Rattle.c_lex.specs.declared.token.Kind.TheVariants as kinds
use Rattle.c_parse_stmt.proofs.Lemmas.{front, keyword_class}
use Rattle.c_parse_stmt.proofs.Begins.{begins_expression, begins_none, opening_class, shut_punctuator, shut_keyword, front_none, class_is}
use Rattle.c_parse_stmt.proofs.parts.begins_expression.Goals as goal

pub returns-in-Identifier-clause-some : goal.returns-in-Identifier-clause-some
returns-in-Identifier-clause-some c = λ h.
    let s = c.in-Some in
    begins_expression c.args.tokens.now (elim (c.in-Identifier.is) [
      | inl e ↦ let p = class_is c.args.tokens.now s.field-0-1.now s.token kinds.Identifier
          s.ensures e in omega arith
      | inr (inl e) ↦ let p = class_is c.args.tokens.now s.field-0-1.now s.token
          (kinds.Integer e.0 e.1) s.ensures e.2 in omega arith
      | inr (inr e) ↦ let p = class_is c.args.tokens.now s.field-0-1.now s.token
          (kinds.CharacterConstant e.0) s.ensures e.1 in omega arith
    ])

pub returns-in-OpenParenthesis-clause-some : goal.returns-in-OpenParenthesis-clause-some
returns-in-OpenParenthesis-clause-some c = λ h.
    let s = c.in-Some in
    let p = class_is c.args.tokens.now s.field-0-1.now s.token
    (kinds.Punctuator c.in-Punctuator.punctuator) s.ensures c.in-Punctuator.is in
    let q = opening_class c.in-Punctuator.punctuator c.in-OpenParenthesis.is in
    begins_expression c.args.tokens.now (omega arith)

pub returns-in-GetExceptionInformation-clause-some :
    goal.returns-in-GetExceptionInformation-clause-some
returns-in-GetExceptionInformation-clause-some c = λ h.
    let s = c.in-Some in
    let p = class_is c.args.tokens.now s.field-0-1.now s.token (kinds.Keyword c.in-Keyword.keyword)
    s.ensures c.in-Keyword.is in
    let q = ap keyword_class c.in-GetExceptionInformation.is in
    begins_expression c.args.tokens.now (omega arith)

pub returns-in_default-clause-none : goal.returns-in_default-clause-none
returns-in_default-clause-none c = λ h.
    let s = c.in-Some in
    let p = class_is c.args.tokens.now s.field-0-1.now s.token (kinds.Keyword c.in-Keyword.keyword)
    s.ensures c.in-Keyword.is in
    begins_none c.args.tokens.now (λ k. shut_keyword c.in-Keyword.keyword
    c.in_default.not-GetExceptionInformation (omega arith))

pub returns-in_default-matches-clause-none : goal.returns-in_default-matches-clause-none
returns-in_default-matches-clause-none c = λ h.
    let s = c.in-Some in
    let n = c.in_default-matches in
    let p = class_is c.args.tokens.now s.field-0-1.now s.token
    (kinds.Punctuator c.in-Punctuator.punctuator) s.ensures c.in-Punctuator.is in
    begins_none c.args.tokens.now (λ k. shut_punctuator c.in-Punctuator.punctuator
    n.not-OpenParenthesis n.not-PlusPlus n.not-MinusMinus n.not-Plus n.not-Minus n.not-Exclamation
    n.not-Tilde n.not-Star n.not-Ampersand (omega arith))

pub returns-in-Reserved-clause-none : goal.returns-in-Reserved-clause-none
returns-in-Reserved-clause-none c = λ h.
    let s = c.in-Some in
    let p = class_is c.args.tokens.now s.field-0-1.now s.token
    (kinds.Reserved c.in-Reserved.field-0) s.ensures c.in-Reserved.is in
    begins_none c.args.tokens.now (λ k. absurd (omega arith))

pub returns-in-None-clause-none : goal.returns-in-None-clause-none
returns-in-None-clause-none c = λ h.
    let p = ap front (front_none c.args.tokens.now c.in-None.ensures) in
    begins_none c.args.tokens.now (λ k. absurd (omega arith))
