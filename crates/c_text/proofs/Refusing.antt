-- The refusal of a text by its characters, and by its tokens.
use Rattle.std.proofs.Common.{◌≡◌, ◌⊎◌, inl, inr, ℕ, List, subst, sym}
use Rattle.c_lex.specs.declared.lexing.LexErr.{LexErr}
use Rattle.c_lex.specs.declared.lexing.LexErr.TheVariants as lexes
use Rattle.c_lex.specs.declared.token.Token.{Token}
use Rattle.c_lex.specs.Text.{IsTokens}
use Rattle.c_parse_expr.specs.declared.refusal.ParseErr.{ParseErr}
use Rattle.c_parse_expr.specs.declared.refusal.ParseErr.TheVariants as parses
use Rattle.c_parse_expr.specs.Refusals.{ParserRefuses}
use Rattle.c_text.specs.Texts.{IsNoText, TextIsRefused, lexical, syntactic}

-- a refusal by characters, or want of memory
pub no_text : (text : List ℕ) (e : LexErr) → (e ≡ lexes.Memory) ⊎ IsNoText text e
    → TextIsRefused text (lexical e)
no_text text (lexes.BadByte at) (inr h) = h
no_text text (lexes.OpenComment at) (inr h) = h
no_text text (lexes.BadChar at) (inr h) = h
no_text text (lexes.BigLiteral at) (inr h) = h
no_text text lexes.Memory h = tt
no_text text e (inl h) = subst (λ x. TextIsRefused text (lexical x)) (sym h) tt

pub no_program : (text : List ℕ) (ts : List Token) (e : ParseErr) → IsTokens text ts
    → ParserRefuses e text ts → TextIsRefused text (syntactic e)
no_program text ts (parses.Unexpected at) h r = record { tokens = ts; lexed = h; refused = r }
no_program text ts (parses.TooDeep at) h r = record { tokens = ts; lexed = h; refused = r }
no_program text ts (parses.TooMany at what) h r = record { tokens = ts; lexed = h; refused = r }
no_program text ts parses.Memory h r = tt
