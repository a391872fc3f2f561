use Rattle.std.proofs.Common.{◌≡◌, ◌∷◌, sym, subst, arith, rules}
use Rattle.c_lex.specs.declared.keyword.Keyword.TheVariants as keywords
use Rattle.c_parse_expr.specs.Words.{Keyword, Kind, token, CanBeginExpression, NeverBegins}
use Rattle.c_lex.specs.declared.token.Kind.TheVariants as kinds
use Rattle.c_parse_expr.proofs.Beginning.{plain_begins, keyword_begins, punctuator_begins, never_kind, other_keyword, other_punctuator}
use Rattle.c_parse_expr.proofs.fault.begins_with.Goals as goal

pub returns-in-Identifier-clause-begins : goal.returns-in-Identifier-clause-begins
returns-in-Identifier-clause-begins c = λ h start end rest. plain_begins c.args.kind
    c.in-Identifier.is start end rest

pub returns-in-Keyword-clause-begins : goal.returns-in-Keyword-clause-begins
returns-in-Keyword-clause-begins c = λ h start end rest.
    let q : c.in-Keyword.keyword ≡ keywords.GetExceptionInformation = search rules in
    subst (λ (k : Kind). CanBeginExpression (token k start end ∷ rest)) (sym c.in-Keyword.is)
    (subst (λ (k : Keyword). CanBeginExpression (token (kinds.Keyword k) start end ∷ rest))
    (sym q) (keyword_begins start end rest))

pub returns-in-Keyword-clause-never : goal.returns-in-Keyword-clause-never
returns-in-Keyword-clause-never c = λ h start end rest.
    let q : c.in-Keyword.keyword ≡ keywords.GetExceptionInformation → ⊥ = search rules in
    subst (λ (k : Kind). NeverBegins (token k start end ∷ rest)) (sym c.in-Keyword.is)
    (never_kind (kinds.Keyword c.in-Keyword.keyword) start end rest
    (other_keyword c.in-Keyword.keyword q))

pub returns-in-Reserved-clause-never : goal.returns-in-Reserved-clause-never
returns-in-Reserved-clause-never c = λ h start end rest. subst
    (λ (k : Kind). NeverBegins (token k start end ∷ rest)) (sym c.in-Reserved.is)
    (never_kind (kinds.Reserved c.in-Reserved.field-0) start end rest (omega arith))

pub returns-in-Punctuator-clause-begins : goal.returns-in-Punctuator-clause-begins
returns-in-Punctuator-clause-begins c = λ h start end rest. subst
    (λ (k : Kind). CanBeginExpression (token k start end ∷ rest)) (sym c.in-Punctuator.is)
    (punctuator_begins c.in-Punctuator.punctuator start end rest (c.opens.ensures.opens h))

pub returns-in-Punctuator-clause-never : goal.returns-in-Punctuator-clause-never
returns-in-Punctuator-clause-never c = λ h start end rest. subst
    (λ (k : Kind). NeverBegins (token k start end ∷ rest)) (sym c.in-Punctuator.is)
    (never_kind (kinds.Punctuator c.in-Punctuator.punctuator) start end rest
    (other_punctuator c.in-Punctuator.punctuator (c.opens.ensures.never h)))
