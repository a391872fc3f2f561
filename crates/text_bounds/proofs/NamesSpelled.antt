-- The names of the functions of a text are spelled in it as identifiers.
use Rattle.std.proofs.Common.{◌≡◌, ℕ, ◌+◌, ◌-◌, List, [], ◌∷◌, ◌++◌, length, take, drop, map, refl, sym, ap, subst, ◌∙◌, arith}
use Rattle.std.specs.List.{AllByRecursion}
use Rattle.std.proofs.lemmas.List.{drop-drop, drop_at}
use Rattle.std.proofs.Math.Seq.{take-append_seam}
use Rattle.c_lex.specs.declared.token.Kind.TheVariants as kinds
use Rattle.c_lex.specs.declared.token.Token.{Token}
use Rattle.c_lex.specs.Laws.{IsCovered}
use Rattle.c_syntax.specs.Program.{ExternalDeclaration, Globals, Function}
use Rattle.c_syntax.specs.Programs.{IsProgram}
use Rattle.c_syntax.specs.declared.expression.Identifier.{Identifier}
use Rattle.c_syntax.specs.Tokens.{token}
use Rattle.c_syntax.proofs.Moves.{type}
use Rattle.c_syntax.proofs.MovesPrograms.{external_declaration}
use Rattle.c_resolved.specs.Scopes.{Scope, spelled}
use Rattle.text_bounds.specs.Words.{lowered_function, function_of, functions_of, IsName, IsNamed}
use Rattle.text_bounds.proofs.NameBytes.{word_named}

-- what is left of a text, from a place on, has these tokens
record IsLeft (text : List ℕ) (ts : List Token) : Type 0 where
  at : ℕ
  left : List ℕ
  from : left ≡ drop at text
  covered : IsCovered at left ts

-- past the gap before a token, and past the token
past : (text left gap bytes rest : List ℕ) (at to : ℕ) → left ≡ drop at text
    → left ≡ gap ++ (bytes ++ rest) → to ≡ at + length gap → drop to text ≡ bytes ++ rest
past text left gap bytes rest at to from split e =
    ap (λ (n : ℕ). drop n text) e ∙ sym (drop-drop (length gap) at text)
    ∙ ap (drop (length gap)) (sym from ∙ split) ∙ drop_at gap (bytes ++ rest) (length gap) refl

after : (text : List ℕ) (front rest : List Token) (at : ℕ) (left : List ℕ)
    → left ≡ drop at text → IsCovered at left (front ++ rest) → IsLeft text rest
after text [] rest at left from k = record { at = at; left = left; from = from; covered = k }
after text (t ∷ front) rest at left from (blanks, gap, bytes, more, split, b, w, start, end, k) =
    let begins = past text left gap bytes more at t.start from split start in
    let ends : drop t.end text ≡ more = ap (λ (n : ℕ). drop n text) end
    ∙ sym (drop-drop (length bytes) t.start text) ∙ ap (drop (length bytes)) begins
    ∙ drop_at bytes more (length bytes) refl in
    after text front rest t.end more (sym ends) k

-- where the tokens are split
after_split : (text : List ℕ) (ts front rest : List Token) → ts ≡ front ++ rest → IsLeft text ts
    → IsLeft text rest
after_split text ts front rest split l =
    after text front rest l.at l.left l.from
    (subst (λ (us : List Token). IsCovered l.at l.left us) split l.covered)

name_spelled : (text : List ℕ) (n : Identifier) (ts rest : List Token)
    → ts ≡ token kinds.Identifier n.start n.end ∷ rest → IsLeft text ts → IsName (spelled text n)
name_spelled text n ts rest e l =
    by (subst (λ (us : List Token). IsCovered l.at l.left us) e l.covered)
  where
    by : IsCovered l.at l.left (token kinds.Identifier n.start n.end ∷ rest)
        → IsName (spelled text n)
    by (blanks, gap, bytes, more, split, b, w, start, end, k) =
        let begins = past text l.left gap bytes more l.at n.start l.from split start in
        let size : n.end - n.start ≡ length bytes = omega (arith, end) in
        let same : spelled text n ≡ bytes =
        (λ i. take (size i) (begins i)) ∙ take-append_seam bytes more in
        subst IsName (sym same) (word_named bytes w)

-- of the functions of a program whose tokens are left
spelled_in : (text : List ℕ) (file : Scope) (xs : List ExternalDeclaration) (ts : List Token)
    (number : ℕ) → IsLeft text ts → IsProgram text xs ts
    → AllByRecursion IsNamed (map lowered_function (functions_of text file xs number).done)
spelled_in text file [] ts number l h = tt
spelled_in text file (Globals b gs ∷ xs) ts number l h =
    let m = external_declaration (Globals b gs) text ts h.0 h.1 in
    spelled_in text file xs h.0 number (after_split text ts m.front h.0 m.split l) h.2
spelled_in text file (Function t n ps body ∷ xs) ts number l h =
    let m = external_declaration (Function t n ps body) text ts h.0 h.1 in
    let before = type t text ts h.1.after_type h.1.returns in
    let named = after_split text ts before.front h.1.after_type before.split l in
    let f = function_of text file t n ps body number in (
      name_spelled text n h.1.after_type h.1.after_name h.1.name named,
      spelled_in text file xs h.0 f.number (after_split text ts m.front h.0 m.split l) h.2,
    )

pub functions_spelled : (text : List ℕ) (file : Scope) (xs : List ExternalDeclaration)
    (ts : List Token) (at : ℕ) (left : List ℕ) (number : ℕ) → left ≡ drop at text
    → IsCovered at left ts → IsProgram text xs ts
    → AllByRecursion IsNamed (map lowered_function (functions_of text file xs number).done)
functions_spelled text file xs ts at left number from k h =
    spelled_in text file xs ts number
    (record { at = at; left = left; from = from; covered = k }) h
