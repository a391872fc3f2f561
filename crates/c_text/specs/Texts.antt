-- Which texts are accepted, and what each refusal of a text says.
--
-- The main definitions: `IsProgramText`, `IsAccepted`, `IsCheckedAs`, `IsNoText`,
-- `IsRefusedByGrammar`, `IsBroken`, `TextIsRefused`.
use Rattle.std.specs.Prelude.{◌≡◌, ℕ, List, Some}
use Rattle.c_checked.specs.Program.{Program}
use Rattle.c_check.specs.declared.check.CheckErr.{CheckErr}
use Rattle.c_check.specs.declared.check.CheckErr.TheVariants as checks
use Rattle.c_lex.specs.declared.lexing.LexErr.{LexErr}
use Rattle.c_lex.specs.declared.lexing.LexErr.TheVariants as lexes
use Rattle.c_lex.specs.declared.token.Token.{Token}
use Rattle.c_lex.specs.declared.word.Fault.{Fault as LexicalFault}
use Rattle.c_lex.specs.Answers.{refused}
use Rattle.c_lex.specs.Text.{IsTokens, IsLexicalFault}
use Rattle.c_parse_expr.specs.declared.refusal.ParseErr.{ParseErr}
use Rattle.c_parse_expr.specs.declared.refusal.ParseErr.TheVariants as parses
use Rattle.c_parse_expr.specs.Refusals.{ParserRefuses}
use Rattle.c_resolved.specs.declared.fault.Fault.{Fault}
use Rattle.c_resolved.specs.Accepted.{Accepted, reported}
use Rattle.c_resolved.specs.Program.{resolve}
use Rattle.c_syntax.specs.Limits.{Within}
use Rattle.c_syntax.specs.Program.{ExternalDeclaration}
use Rattle.c_syntax.specs.Programs.{IsProgram}
use Rattle.c_text.specs.declared.accepting.TextErr.{TextErr}
use Rattle.c_text.specs.declared.accepting.TextErr.TheVariants as texts

-- the text's tokens are a program of C within the limits
pub record IsProgramText (text : List ℕ) (xs : List ExternalDeclaration) : Type 0 where
  pub tokens : List Token
  pub lexed : IsTokens text tokens
  pub derives : IsProgram text xs tokens
  pub within : Within text xs

-- and it breaks no rule of names, types and jumps
pub record IsAccepted (text : List ℕ) (xs : List ExternalDeclaration) : Type 0 where
  pub read : IsProgramText text xs
  pub rules : Accepted text xs

-- and `p` is what it is resolved to
pub record IsCheckedAs (text : List ℕ) (xs : List ExternalDeclaration) (p : Program) : Type 0 where
  pub accepted : IsAccepted text xs
  pub resolved : p ≡ (resolve text xs).program

-- ---- refusals

-- the first text that is no token, white space or comment is this fault
abbrev pub IsNoText : List ℕ → LexErr → Type 0
IsNoText text e = (f : LexicalFault) × (at : ℕ) × (e ≡ refused f at) × IsLexicalFault text f at

-- the text's tokens have their first fault as the refusal says: no program of C within the limits
-- continues there, by the limit that it names
pub record HasFault (text : List ℕ) (e : ParseErr) : Type 0 where
  pub tokens : List Token
  pub lexed : IsTokens text tokens
  pub refused : ParserRefuses e text tokens

abbrev pub IsRefusedByGrammar : List ℕ → ParseErr → Type 0
IsRefusedByGrammar text (parses.Unexpected at) = HasFault text (parses.Unexpected at)
IsRefusedByGrammar text (parses.TooDeep at) = HasFault text (parses.TooDeep at)
IsRefusedByGrammar text (parses.TooMany at what) = HasFault text (parses.TooMany at what)
IsRefusedByGrammar text parses.Memory = ⊥

-- the text's program breaks rules, and this is the least of them
pub record IsBroken (text : List ℕ) (at : ℕ) (fault : Fault) : Type 0 where
  pub whole : List ExternalDeclaration
  pub read : IsProgramText text whole
  pub least : reported text whole ≡ Some (record { at = at; fault = fault })

-- the refusal `e` says one of these; of one for memory it says nothing
abbrev pub TextIsRefused : List ℕ → TextErr → Type 0
TextIsRefused text (texts.Lex e) = IsNoText text e
TextIsRefused text (texts.Parse e) = IsRefusedByGrammar text e
TextIsRefused text (texts.Check at fault) = IsBroken text at fault
TextIsRefused text texts.Memory = Unit {0}

-- ---- the refusals of the three parts as one

abbrev pub lexical : LexErr → TextErr
lexical (lexes.BadByte at) = texts.Lex (lexes.BadByte at)
lexical (lexes.OpenComment at) = texts.Lex (lexes.OpenComment at)
lexical (lexes.BadChar at) = texts.Lex (lexes.BadChar at)
lexical (lexes.BigLiteral at) = texts.Lex (lexes.BigLiteral at)
lexical lexes.Memory = texts.Memory

abbrev pub syntactic : ParseErr → TextErr
syntactic (parses.Unexpected at) = texts.Parse (parses.Unexpected at)
syntactic (parses.TooDeep at) = texts.Parse (parses.TooDeep at)
syntactic (parses.TooMany at what) = texts.Parse (parses.TooMany at what)
syntactic parses.Memory = texts.Memory

abbrev pub semantic : CheckErr → TextErr
semantic (checks.Broken b) = texts.Check b.at b.fault
semantic checks.Memory = texts.Memory
