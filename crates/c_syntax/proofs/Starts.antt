-- An expression begins with its first token.
use Rattle.std.proofs.Common.{ℕ, List, refl}
use Rattle.c_syntax.specs.Words.{Kind, Token, Identifier, Expression, Constant, Variable, Information, Call, Parentheses, Index, Postfix, Prefix, Unary, Cast, Binary, Conditional, Assign, Comma, start, SpellsExpression, StartsAt, ExpressionStart, token, IsKind, IsIdentifier}
use Rattle.c_lex.specs.declared.token.Kind.TheVariants as kinds

by_kind : (k : Kind) (at : ℕ) (ts rest : List Token) → IsKind k at ts rest → StartsAt at ts
by_kind k at ts rest h =
    record { first = token k at h.0; more = rest; split = h.1; starts = refl }

by_name : (name : Identifier) (ts rest : List Token) → IsIdentifier name ts rest
    → StartsAt name.start ts
by_name name ts rest h = by_kind kinds.Identifier name.start ts rest (name.end, h)

starts : (text : List ℕ) (e : Expression) (ts rest : List Token) → SpellsExpression text e ts rest
    → StartsAt (start e) ts
starts text (Constant at literal) ts rest h = by_kind _ at ts rest h
starts text (Variable name) ts rest h = by_name name ts rest h
starts text (Information at field) ts rest h =
    by_kind _ at ts h.introduction.after_keyword h.introduction.keyword
starts text (Call name es) ts rest h = by_name name ts h.after_name h.called
starts text (Parentheses at e) ts rest h = by_kind _ at ts h.after_opening h.opening
starts text (Index a at i) ts rest h = starts text a ts h.after_operand h.operand.spells
starts text (Postfix e op at) ts rest h = starts text e ts h.after_operand h.operand.spells
starts text (Prefix at op e) ts rest h = by_kind _ at ts h.after_operator h.operator
starts text (Unary at op e) ts rest h = by_kind _ at ts h.after_operator h.operator
starts text (Cast at to e) ts rest h = by_kind _ at ts h.operator.after_opening h.operator.opening
starts text (Binary a at op b) ts rest h = starts text a ts h.after_operand h.operand.spells
starts text (Conditional c at a b) ts rest h = starts text c ts h.after_operand h.operand.spells
starts text (Assign a at op b) ts rest h = starts text a ts h.after_operand h.operand.spells
starts text (Comma a at b) ts rest h = starts text a ts h.after_operand h.operand.spells

pub begins : ExpressionStart
begins text l e ts rest h = starts text e ts rest h.spells
