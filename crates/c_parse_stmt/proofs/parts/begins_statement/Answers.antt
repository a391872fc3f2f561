use Rattle.std.proofs.Common.{◌≡◌, true, false, ◌∙◌, refl, sym, ap, inl, inr, arith}
use Rattle.c_lex.specs.declared.punctuator.Punctuator.TheVariants as punctuators
use Rattle.c_lex.specs.declared.token.Kind.TheVariants as kinds
use Rattle.c_parse_stmt.proofs.Lemmas.{punctuator_begins}
use Rattle.c_parse_stmt.proofs.Stating.{begins_statement, begins_empty, begins_evaluation, begins_is, stating_class, not_stating}
use Rattle.c_parse_stmt.proofs.Begins.{front_is}
use Rattle.c_parse_stmt.proofs.NoStatements.{no_statement, keyword_states, punctuator_states, kind_states, no_semicolon, nothing_begins}
use Rattle.c_parse_stmt.proofs.parts.begins_statement.Goals as goal

pub returns-then-begins_expression-clause-some : goal.returns-then-begins_expression-clause-some
returns-then-begins_expression-clause-some c = λ h. begins_evaluation c.args.tokens.now
    (c.if-begins_expression.ensures.some refl)

pub returns-in-If-clause-some : goal.returns-in-If-clause-some
returns-in-If-clause-some c = λ h.
    let s = c.in-Some in
    let p = begins_is c.args.tokens.now s.field-0-1.now s.token (kinds.Keyword c.in-Keyword.keyword)
    s.ensures c.in-Keyword.is in
    let q = stating_class c.in-Keyword.keyword c.in-If.is in
    begins_statement c.args.tokens.now (omega (arith, q.0)) (omega (arith, q.1))

pub returns-in-OpenBrace-clause-some : goal.returns-in-OpenBrace-clause-some
returns-in-OpenBrace-clause-some c = λ h.
    let s = c.in-Some in
    elim (c.in-OpenBrace.is) [
      | inl e ↦
          let p = begins_is c.args.tokens.now s.field-0-1.now s.token
          (kinds.Punctuator c.in-Punctuator.punctuator) s.ensures c.in-Punctuator.is in
          let q = ap punctuator_begins e in
          begins_statement c.args.tokens.now (omega arith) (omega arith)
      | inr e ↦ begins_empty c.args.tokens.now s.field-0-1.now s.token
          (front_is c.args.tokens.now s.field-0-1.now s.token s.ensures)
          (c.in-Punctuator.is ∙ ap kinds.Punctuator e)
    ]

pub returns-in_default-matches : goal.returns-in_default-matches
returns-in_default-matches c =
    let s = c.in-Some in
    let k = c.in-Keyword.keyword in
    let n = c.in_default-matches in
    let p = begins_is c.args.tokens.now s.field-0-1.now s.token (kinds.Keyword k) s.ensures
    c.in-Keyword.is in
    record {
      some = λ h. let e : false ≡ true = h in absurd cc;
      none = λ h. no_statement c.args.tokens.now (c.if-begins_expression.ensures.none refl)
          (λ l u. not_stating k n.not-If n.not-While n.not-Do n.not-For n.not-Return n.not-Break
          n.not-Continue n.not-Leave n.not-Try (keyword_states k (omega arith) (omega arith)))
          (no_semicolon c.args.tokens.now s.field-0-1.now s.token
          (front_is c.args.tokens.now s.field-0-1.now s.token s.ensures)
          (λ e. let q : kinds.Keyword k ≡ kinds.Punctuator punctuators.Semicolon = sym
          c.in-Keyword.is ∙ e in cc));
    }

pub returns-in_default-matches-2 : goal.returns-in_default-matches-2
returns-in_default-matches-2 c =
    let s = c.in-Some in
    let k = c.in-Punctuator.punctuator in
    let n = c.in_default-matches-2 in
    let p = begins_is c.args.tokens.now s.field-0-1.now s.token (kinds.Punctuator k) s.ensures
    c.in-Punctuator.is in
    record {
      some = λ h. let e : false ≡ true = h in absurd cc;
      none = λ h. no_statement c.args.tokens.now (c.if-begins_expression.ensures.none refl)
          (λ l u. n.not-OpenBrace (punctuator_states k (omega arith) (omega arith)))
          (no_semicolon c.args.tokens.now s.field-0-1.now s.token
          (front_is c.args.tokens.now s.field-0-1.now s.token s.ensures)
          (λ e. let q : kinds.Punctuator k ≡ kinds.Punctuator punctuators.Semicolon = sym
          c.in-Punctuator.is ∙ e in n.not-Semicolon cc));
    }

pub returns-in_default : goal.returns-in_default
returns-in_default c =
    let s = c.in-Some in
    let n = c.in_default in
    let p = begins_is c.args.tokens.now s.field-0-1.now s.token s.token.kind s.ensures refl in
    record {
      some = λ h. let e : false ≡ true = h in absurd cc;
      none = λ h. no_statement c.args.tokens.now (c.if-begins_expression.ensures.none refl)
          (λ l u. kind_states s.token.kind n.not-Keyword n.not-Punctuator (omega arith)
          (omega arith))
          (no_semicolon c.args.tokens.now s.field-0-1.now s.token
          (front_is c.args.tokens.now s.field-0-1.now s.token s.ensures)
          (λ e. n.not-Punctuator punctuators.Semicolon e));
    }

pub returns-in-None-clause-none : goal.returns-in-None-clause-none
returns-in-None-clause-none c = λ h.
    let n = nothing_begins c.args.tokens.now c.in-None.ensures in
    no_statement c.args.tokens.now (c.if-begins_expression.ensures.none refl) n.class n.semicolon
