-- Phrases one after another: they move together, a failure of the second is one of both, and what
-- completes the second completes both.
use Rattle.std.proofs.Common.{◌≡◌, ℕ, suc, List, [], ◌∷◌, ◌++◌, refl, sym, ap, ◌∙◌, subst}
use Rattle.std.specs.Prelude.{Result, Ok, Err, IfOk, IfErr}
use Rattle.c_parse_stmt.specs.Words.{Keyword, Punctuator, Kind, Token, Family, Alike, SameFirst, place, Able, Onward, Failed, Wraps, token, IsKind, IsKeyword, HasPunctuator, Number, order, ParseErr, Unexpected, TooDeep, TooMany, Memory, IsPlacedRefusal}
use Rattle.c_lex.specs.declared.token.Kind.TheVariants as kinds
use Rattle.c_parse_stmt.proofs.Lemmas.{append_append, append_nothing, alike_inner, first_after, wrapped, Moves}

-- ---- refusals

pub placed : (e : ParseErr) (No Has No' Has' : Family) (text : List ℕ) (ts ts' : List Token)
    → Wraps No Has No' Has' text ts ts' → IsPlacedRefusal e No Has text ts
    → IsPlacedRefusal e No' Has' text ts'
placed (Unexpected at) No Has No' Has' text ts ts' w f = wrapped No Has No' Has' 0 at text ts ts' w
    f
placed (TooDeep at) No Has No' Has' text ts ts' w f = wrapped No Has No' Has' 1 at text ts ts' w f
placed (TooMany at what) No Has No' Has' text ts ts' w f = wrapped No Has No' Has'
    (order (Number what)) at text ts ts' w f
placed Memory No Has No' Has' text ts ts' w f = tt

pub placed_so : {A : Type 0} (r : Result A ParseErr) (No Has No' Has' : Family) (text : List ℕ)
    (ts ts' : List Token) → Wraps No Has No' Has' text ts ts'
    → IfErr r (λ e. IsPlacedRefusal e No Has text ts)
    → IfErr r (λ e. IsPlacedRefusal e No' Has' text ts')
placed_so (Ok x) No Has No' Has' text ts ts' w h = tt
placed_so (Err e) No Has No' Has' text ts ts' w h = placed e No Has No' Has' text ts ts' w h

pub refused_so : {A : Type 0} (r : Result A ParseErr) (P Q : ParseErr → Type 0)
    → ((e : ParseErr) → P e → Q e) → IfErr r P → IfErr r Q
refused_so (Ok x) P Q f h = tt
refused_so (Err e) P Q f h = f e h

pub found_so : {A : Type 0} (r : Result A ParseErr) (P Q : A → Type 0) → ((x : A) → P x → Q x)
    → IfOk r P → IfOk r Q
found_so (Ok x) P Q f h = f x h
found_so (Err e) P Q f h = tt

-- ---- relations

abbrev pub Relation : Type 1
Relation = List ℕ → List Token → List Token → Type 0

pub record Both (R S : Relation) (text : List ℕ) (ts rest : List Token) : Type 0 where
  pub mid : List Token
  pub first : R text ts mid
  pub second : S text mid rest

-- the tokens, whatever follows
abbrev pub Fixed : Relation → List ℕ → List Token → Type 0
Fixed R text ts = (other : List Token) → R text (ts ++ other) other

pub both_fixed : (R S : Relation) (text : List ℕ) (xs ys : List Token) → Fixed R text xs
    → Fixed S text ys → Fixed (Both R S) text (xs ++ ys)
both_fixed R S text xs ys r s other = record {
  mid = ys ++ other;
  first = subst (λ (z : List Token). R text z (ys ++ other)) (sym (append_append xs ys other))
      (r (ys ++ other));
  second = s other;
}

pub both_moves : (R S : Relation) (text : List ℕ) (ts a rest : List Token) → Moves R text ts a
    → Moves S text a rest → Moves (Both R S) text ts rest
both_moves R S text ts a rest m n = record {
  front = m.front ++ n.front;
  split = m.split ∙ ap (λ (z : List Token). m.front ++ z) n.split
      ∙ sym (append_append m.front n.front rest);
  again = λ text' other h. record {
    mid = n.front ++ other;
    first = subst (λ (z : List Token). R text' z (n.front ++ other))
        (sym (append_append m.front n.front other)) (m.again text' (n.front ++ other) h);
    second = n.again text' other (alike_inner text text' m.front a ts m.split h);
  };
}

pub moves_so : (R S : Relation) (text : List ℕ) (ts rest : List Token)
    → ((text' : List ℕ) (us end : List Token) → R text' us end → S text' us end)
    → Moves R text ts rest → Moves S text ts rest
moves_so R S text ts rest f m = record {
  front = m.front;
  split = m.split;
  again = λ text' other h. f text' (m.front ++ other) other (m.again text' other h);
}

-- ---- a phrase after another

pub able_now : (Has : Family) (n : ℕ) (text : List ℕ) (ts : List Token) → Has n text ts
    → Able Has n text ts
able_now Has n text ts h = record {
  more = [];
  has = subst (λ (z : List Token). Has n text z) (sym (append_nothing ts)) h;
}

pub able_more : (Has : Family) (n : ℕ) (text : List ℕ) (xs ys : List Token)
    → Able Has n text (xs ++ ys) → Able Has n text xs
able_more Has n text xs ys a = record {
  more = ys ++ a.more;
  has = subst (λ (z : List Token). Has n text z) (append_append xs ys a.more) a.has;
}

pub wraps : (R : Relation) (No Has No' Has' : Family) (text : List ℕ) (ts rest : List Token)
    → Moves R text ts rest →
    ((n : ℕ) (text' : List ℕ) (all other : List Token) → Alike text text' ts → SameFirst rest other
    → R text' all other → No n text' other → No' n text' all) →
    ((n : ℕ) (text' : List ℕ) (front inner : List Token) → Alike text text' ts → Fixed R text' front
    → Has n text' inner → Able Has' n text' (front ++ inner)) →
    Wraps No Has No' Has' text rest ts
wraps R No Has No' Has' text ts rest m f g = record {
  before = m.front;
  split = m.split;
  no = λ n text' other h s none. f n text' (m.front ++ other) other h s (m.again text' other h)
      none;
  has = λ n text' inner h k has. g n text' m.front inner h (λ other. m.again text' other h) has;
}

pub wraps_wraps : (A B A' B' A'' B'' : Family) (text : List ℕ) (ts ts' ts'' : List Token)
    → Wraps A B A' B' text ts ts' → Wraps A' B' A'' B'' text ts' ts''
    → Wraps A B A'' B'' text ts ts''
wraps_wraps A B A' B' A'' B'' text ts ts' ts'' v w = record {
  before = w.before ++ v.before;
  split = w.split ∙ ap (λ (z : List Token). w.before ++ z) v.split
      ∙ sym (append_append w.before v.before ts);
  no = λ n text' other h s none.
      subst (λ (z : List Token). A'' n text' z) (sym (append_append w.before v.before other))
      (w.no n text' (v.before ++ other) h (subst
      (λ (z : List Token). SameFirst z (v.before ++ other)) (sym v.split)
      (first_after v.before ts other s))
      (v.no n text' other (alike_inner text text' w.before ts' ts'' w.split h) s none));
  has = λ n text' inner h k has.
      let a = v.has n text' inner (alike_inner text text' w.before ts' ts'' w.split h) k has in
      let b = w.has n text' ((v.before ++ inner) ++ a.more) h k a.has in
      let e : w.before ++ ((v.before ++ inner) ++ a.more)
      ≡ ((w.before ++ v.before) ++ inner) ++ a.more = ap (λ (z : List Token). w.before ++ z)
      (append_append v.before inner a.more)
      ∙ sym (append_append w.before v.before (inner ++ a.more))
      ∙ sym (append_append (w.before ++ v.before) inner a.more) in
      let q : (w.before ++ ((v.before ++ inner) ++ a.more)) ++ b.more
      ≡ ((w.before ++ v.before) ++ inner) ++ (a.more ++ b.more) = ap
      (λ (z : List Token). z ++ b.more) e
      ∙ append_append ((w.before ++ v.before) ++ inner) a.more b.more in
      record { more = a.more ++ b.more; has = subst (λ (z : List Token). B'' n text' z) q b.has };
}

pub wraps_same : (A B : Family) (text : List ℕ) (ts : List Token) → Wraps A B A B text ts ts
wraps_same A B text ts = record {
  before = [];
  split = refl;
  no = λ n text' other h s none. none;
  has = λ n text' inner h k has. able_now B n text' inner has;
}

-- ---- a failure after a phrase

-- at the first token after it
pub failed : (R : Relation) (kind : ℕ) (No Has : Family) (text : List ℕ) (ts rest : List Token)
    → Moves R text ts rest →
    ((text' : List ℕ) (all other : List Token) → Alike text text' ts → SameFirst rest other
    → R text' all other → No kind text' all) →
    ((text' : List ℕ) (front : List Token) → Alike text text' ts → Fixed R text' front
    → Able Has 7 text' front) →
    ((text' : List ℕ) (k : ℕ) (front : List Token) → Alike text text' ts → Fixed R text' front
    → kind ≡ suc k → Onward Has k text' front rest) →
    Failed kind (place text rest) No Has text ts
failed R kind No Has text ts rest m f g o = record {
  front = m.front;
  fault = rest;
  split = m.split;
  located = refl;
  against = λ text' other h s. f text' (m.front ++ other) other h s (m.again text' other h);
  able = λ text' h k. g text' m.front h (λ other. m.again text' other h);
  further = λ text' k h s e. o text' k m.front h (λ other. m.again text' other h) e;
}

-- ---- closing tokens, wherever they are

abbrev pub punctuator : Punctuator → Token
punctuator s = token (kinds.Punctuator s) 0 0

abbrev pub word : Keyword → Token
word k = token (kinds.Keyword k) 0 0

pub a_punctuator : (s : Punctuator) (other : List Token)
    → HasPunctuator s (punctuator s ∷ other) other
a_punctuator s other = (0, (0, refl))

pub a_word : (k : Keyword) (other : List Token) → IsKeyword k 0 (word k ∷ other) other
a_word k other = (0, refl)

-- ---- first tokens

-- what begins with a kind begins so with any other rest
pub first_kind : (k : Kind) (at : ℕ) (ts other rest : List Token) → SameFirst ts other
    → IsKind k at ts rest → (more : List Token) × IsKind k at other more
first_kind k at [] other rest s h = absurd cc
first_kind k at (t ∷ ts) other rest s h =
    let e : t ∷ ts ≡ token k at h.0 ∷ rest = h.1 in
    let q : t ≡ token k at h.0 = cc in
    (s.0, (h.0, s.1 ∙ ap (λ (x : Token). x ∷ s.0) q))

pub kind_place : (k : Kind) (at : ℕ) (text : List ℕ) (ts rest : List Token) → IsKind k at ts rest
    → at ≡ place text ts
kind_place k at text ts rest h = sym (ap (λ (x : List Token). place text x) h.1)
