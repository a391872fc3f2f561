-- An accepted text has none of the faults that a refusal names.
use Rattle.std.proofs.Common.{◌≡◌, ℕ, List, Some, None, refl, sym, ap, subst, ◌∙◌}
use Rattle.c_lex.specs.declared.lexing.LexErr.{LexErr}
use Rattle.c_lex.specs.declared.token.Token.{Token}
use Rattle.c_lex.specs.Text.{IsTokens}
use Rattle.c_lex.proofs.Texts.{tokens_once, no_fault}
use Rattle.c_parse_expr.specs.declared.refusal.ParseErr.{ParseErr}
use Rattle.c_parse_expr.specs.declared.refusal.ParseErr.TheVariants as parses
use Rattle.c_resolved.specs.declared.fault.Fault.{Fault}
use Rattle.c_resolved.specs.Accepted.{least, reported}
use Rattle.c_resolved.specs.Expressions.{FaultAt}
use Rattle.c_syntax.specs.Limits.{Nesting, Number, order}
use Rattle.c_syntax.specs.Program.{ExternalDeclaration}
use Rattle.c_syntax.specs.Programs.{IsProgram}
use Rattle.c_syntax.specs.Viable.{IsSyntaxFault}
use Rattle.c_syntax.proofs.Files.{one_program}
use Rattle.c_syntax.proofs.FirstFault.{no_fault_in_program}
use Rattle.c_text.specs.declared.accepting.TextErr.TheVariants as texts
use Rattle.c_text.specs.Texts.{IsProgramText, IsAccepted, IsNoText, IsRefusedByGrammar, IsBroken}
use Rattle.c_text.specs.Laws.{AcceptedIsNotRefused, AcceptedIsOne}

-- a text that is read is one program
read_once :
    (text : List ℕ) (xs ys : List ExternalDeclaration)
    → IsProgramText text xs → IsProgramText text ys → xs ≡ ys
read_once text xs ys a b =
    one_program text xs ys (a.tokens, a.lexed, a.derives) (b.tokens, b.lexed, b.derives)

-- it is made of tokens
made_of_tokens :
    (text : List ℕ) (xs : List ExternalDeclaration) (e : LexErr)
    → IsProgramText text xs → IsNoText text e → ⊥
made_of_tokens text xs e a h = no_fault text a.tokens h.0 h.1 a.lexed h.3

-- its tokens have no fault
without_fault :
    (text : List ℕ) (xs : List ExternalDeclaration) (ts : List Token) (n at : ℕ)
    → IsProgramText text xs → IsTokens text ts → IsSyntaxFault n at text ts → ⊥
without_fault text xs ts n at a lexed fault =
    let same = tokens_once text a.tokens ts a.lexed lexed in
    no_fault_in_program text ts n at xs fault
    (subst (λ (us : List Token). IsProgram text xs us) same a.derives) a.within

is_program :
    (text : List ℕ) (xs : List ExternalDeclaration) (e : ParseErr)
    → IsProgramText text xs → IsRefusedByGrammar text e → ⊥
is_program text xs (parses.Unexpected at) a h =
    without_fault text xs h.tokens 0 at a h.lexed h.refused
is_program text xs (parses.TooDeep at) a h =
    without_fault text xs h.tokens (order Nesting) at a h.lexed h.refused
is_program text xs (parses.TooMany at what) a h =
    without_fault text xs h.tokens (order (Number what)) at a h.lexed h.refused
is_program text xs parses.Memory a h = h

-- its program breaks no rule
breaks_no_rule :
    (text : List ℕ) (xs : List ExternalDeclaration) (at : ℕ) (fault : Fault)
    → IsAccepted text xs → IsBroken text at fault → ⊥
breaks_no_rule text xs at fault a h =
    let same = read_once text xs h.whole a.read h.read in
    let none : reported text xs ≡ None = ap least a.rules in
    let broken : FaultAt = record { at = at; fault = fault } in
    let some : None ≡ Some broken = sym none ∙ ap (reported text) same ∙ h.least in
    cc

pub accepted_is_not_refused : AcceptedIsNotRefused
accepted_is_not_refused text xs (texts.Lex e) a h = absurd (made_of_tokens text xs e a.read h)
accepted_is_not_refused text xs (texts.Parse e) a h = absurd (is_program text xs e a.read h)
accepted_is_not_refused text xs (texts.Check at fault) a h =
    absurd (breaks_no_rule text xs at fault a h)
accepted_is_not_refused text xs texts.Memory a h = refl

pub accepted_is_one : AcceptedIsOne
accepted_is_one text xs ys a b = read_once text xs ys a.read b.read
