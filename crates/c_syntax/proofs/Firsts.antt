-- What the first token of tokens names holds of all tokens that begin with it.
use Rattle.std.proofs.Common.{◌≡◌, ◌<◌, ℕ, List, [], ◌∷◌, refl, sym, ap, ◌∙◌, subst, arith, inl}
use Rattle.std.proofs.Common.{inr}
use Rattle.c_syntax.specs.Words.{Keyword, Punctuator, Kind, Token, Base, Literal, Identifier, Expression, Constant, literal_kind, IsInteger, Alike, SameFirst, follows, Stops, NoElse, Closed, Statement, Closes, token, IsKind, IsIdentifier, HasPunctuator, HasKeyword, HasWord, spellings, AreKeywords, IsBase}
use Rattle.c_lex.specs.declared.keyword.Keyword.TheVariants as keywords
use Rattle.c_lex.specs.declared.token.Kind.TheVariants as kinds
use Rattle.c_syntax.specs.declared.expression.Base.TheVariants as bases
use Rattle.c_syntax.proofs.Blocks.{begins}
use Rattle.c_syntax.proofs.Failing.{first_keeps}
use Rattle.c_syntax.proofs.Fronts.{keyword_class, Typed, Begun, pick, sound}

-- ---- the same first token

pub first_back : (ts other : List Token) → SameFirst ts other → SameFirst other ts
first_back [] other s = subst (λ z. SameFirst z []) (sym s) refl
first_back (t ∷ ts) other s = subst (λ z. SameFirst z (t ∷ ts)) (sym s.1) (ts, refl)

-- a token at the front of the others is at the front of these
pub first_token : (t : Token) (end ts other : List Token) → SameFirst ts other → other ≡ t ∷ end
    → (more : List Token) × (ts ≡ t ∷ more)
first_token t end ts other s h = subst (λ z. SameFirst z ts) h (first_back ts other s)

-- ---- what follows

same_by : (f : List Token → ℕ) → ((t : Token) (xs ys : List Token) → f (t ∷ ys) ≡ f (t ∷ xs))
    → (ts other : List Token) → SameFirst ts other → f other ≡ f ts
same_by f h [] other s = ap f s
same_by f h (t ∷ ts) other s = ap f s.1 ∙ h t ts s.0

pub same_follows : (ts other : List Token) → SameFirst ts other → follows other ≡ follows ts
same_follows ts other s = same_by follows (λ t xs ys. refl) ts other s

pub same_begins : (ts other : List Token) → SameFirst ts other → begins other ≡ begins ts
same_begins ts other s = same_by begins (λ t xs ys. refl) ts other s

pub stops : (l : ℕ) (ts other : List Token) → SameFirst ts other → Stops l ts → Stops l other
stops l ts other s h = subst (λ n. l < n) (sym (same_follows ts other s)) h

closes_too : (e : Expression) (t : Token) (xs ys : List Token) → Closes e (t ∷ xs)
    → Closes e (t ∷ ys)
closes_too (Constant at literal) t xs ys h = h
closes_too e t xs ys h = h

pub closes : (e : Expression) (ts other : List Token) → SameFirst ts other → Closes e ts
    → Closes e other
closes e ts other s h = first_keeps (λ z. Closes e z) (closes_too e) ts other s h

-- ---- no such token

pub no_kind : (k : Kind) (ts other : List Token) → SameFirst ts other
    → ((at : ℕ) (end : List Token) → IsKind k at ts end → ⊥) → (at : ℕ) (end : List Token)
    → IsKind k at other end → ⊥
no_kind k ts other s none at end h = let q = first_token (token k at h.0) end ts other s h.1 in
    none at q.0 (h.0, q.1)

-- a token of a kind, wherever it is
pub no_kind_anywhere : (k : Kind) (ts other : List Token) → SameFirst ts other
    → ((end : List Token) → (at : ℕ) × IsKind k at ts end → ⊥) → (end : List Token)
    → (at : ℕ) × IsKind k at other end → ⊥
no_kind_anywhere k ts other s none end h =
    no_kind k ts other s (λ at to g. none to (at, g)) h.0 end h.1

pub no_punctuator : (s : Punctuator) (ts other : List Token) → SameFirst ts other
    → ((end : List Token) → HasPunctuator s ts end → ⊥) → (end : List Token)
    → HasPunctuator s other end → ⊥
no_punctuator s ts other f none end h = no_kind_anywhere (kinds.Punctuator s) ts other f none end h

pub no_keyword : (k : Keyword) (ts other : List Token) → SameFirst ts other
    → ((end : List Token) → HasKeyword k ts end → ⊥) → (end : List Token) → HasKeyword k other end
    → ⊥
no_keyword k ts other s none end h = no_kind_anywhere (kinds.Keyword k) ts other s none end h

pub no_name : (ts other : List Token) → SameFirst ts other
    → ((n : Identifier) (end : List Token) → IsIdentifier n ts end → ⊥)
    → (n : Identifier) (end : List Token) → IsIdentifier n other end → ⊥
no_name ts other s none n end h = let q =
    first_token (token kinds.Identifier n.start n.end) end ts other s h in none n q.0 q.1

pub no_integer : (ts other : List Token) → SameFirst ts other
    → ((value at : ℕ) (end : List Token) → IsInteger value at ts end → ⊥)
    → (value at : ℕ) (end : List Token) → IsInteger value at other end → ⊥
no_integer ts other s none value at end h =
    no_kind (kinds.Integer value h.0) ts other s (λ to mid g. none value to mid (h.0, g)) at end h.1

pub no_literal : (ts other : List Token) → SameFirst ts other
    → ((l : Literal) (at : ℕ) (end : List Token) → IsKind (literal_kind l) at ts end → ⊥)
    → (l : Literal) (at : ℕ) (end : List Token) → IsKind (literal_kind l) at other end → ⊥
no_literal ts other s none l at end h = no_kind (literal_kind l) ts other s (none l) at end h

-- in a text that spells the tokens alike
pub no_word : (word text text' : List ℕ) (ts other : List Token) → Alike text text' ts
    → SameFirst ts other → ((end : List Token) → HasWord text word ts end → ⊥) → (end : List Token)
    → HasWord text' word other end → ⊥
no_word word text text' ts other a s none end h =
    let q = first_token (token kinds.Identifier h.0.start h.0.end) end ts other s h.1 in
    none q.0 (h.0, q.1, (subst (λ z. Alike text text' z) q.1 a).0 ∙ h.2)

pub no_else : (ts other : List Token) → SameFirst ts other → NoElse ts → NoElse other
no_else ts other s none = no_keyword keywords.Else ts other s none

pub closed : (z : Statement) (ts other : List Token) → SameFirst ts other → Closed z ts
    → Closed z other
closed z ts other s none = λ d. no_else ts other s (none d)

-- ---- types

-- each keyword of a type is a base alone
pub alone : (k : Keyword) (ts rest : List Token) → keyword_class k ≡ 7 → HasKeyword k ts rest
    → (b : Base) × IsBase b ts rest
alone keywords.Char ts rest c h = (bases.Char, inl (rest, h, refl))
alone keywords.Int ts rest c h = (bases.Int, inl (rest, h, refl))
alone keywords.Long ts rest c h = (bases.Int, inr (inr (inr (inl (rest, h, refl)))))
alone keywords.Short ts rest c h = (bases.Short, inl (rest, h, refl))
alone keywords.Signed ts rest c h = (bases.Int, inr (inl (rest, h, refl)))
alone keywords.Unsigned ts rest c h = (bases.Unsigned, inl (rest, h, refl))
alone keywords.Void ts rest c h = (bases.Void, inl (rest, h, refl))
alone k ts rest c h = absurd (omega arith)

first_word : (ks : List Keyword) (ts rest : List Token) → Typed ks → Begun ks
    → AreKeywords ks ts rest
    → (k : Keyword) × (mid : List Token) × (keyword_class k ≡ 7) × HasKeyword k ts mid
first_word [] ts rest t b h = absurd b
first_word (k ∷ ks) ts rest t b h = (k, h.0, t.0, h.1)

-- a base begins with a keyword that is one alone
pub base_first : (b : Base) (ts rest : List Token) → IsBase b ts rest
    → (k : Keyword) × (mid : List Token) × (keyword_class k ≡ 7) × HasKeyword k ts mid
base_first b ts rest h = let p = pick b (spellings b) ts rest (sound b) h in
    first_word p.words ts rest p.typed p.begun p.are

pub no_base : (ts other : List Token) → SameFirst ts other
    → ((b : Base) (end : List Token) → IsBase b ts end → ⊥) → (b : Base) (end : List Token)
    → IsBase b other end → ⊥
no_base ts other s none b end h =
    let w = base_first b other end h in
    no_keyword w.0 ts other s (λ to g. let x = alone w.0 ts to w.2 g in none x.0 to x.1) w.1 w.3
