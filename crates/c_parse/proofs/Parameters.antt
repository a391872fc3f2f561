-- Parameters are read as far as they go.
use Rattle.std.proofs.Common.{◌≡◌, ◌≤◌, ◌+◌, ℕ, List, [], ◌∷◌, ◌++◌, length, length-append, Option}
use Rattle.std.proofs.Common.{Some, None, refl, sym, ap, ◌∙◌, subst, arith, inl, inr}
use Rattle.std.specs.Prelude.{IfNone}
use Rattle.std.proofs.lemmas.List.{append-nil, append_cancel_right}
use Rattle.c_lex.specs.declared.keyword.Keyword.TheVariants as keywords
use Rattle.c_lex.specs.declared.punctuator.Punctuator.TheVariants as punctuators
use Rattle.c_lex.specs.declared.token.Kind.TheVariants as kinds
use Rattle.c_parse.specs.Words.{Token, Parameter, CType, Identifier, SameFirst, place, Failed, Wraps, IsParameter, AreMoreParameters, AreParameters, token, IsIdentifier, HasPunctuator, HasKeyword, IsType, NoBase, EndsType, NoPunctuator, APunctuator, NoParameter, HasParameter, IsVoid, NoListed, HasListed, NoParameters, HasParameters}
use Rattle.c_syntax.specs.declared.expression.Base.TheVariants as bases
use Rattle.c_parse.proofs.Lemmas.{append_append, alike_same, first_after, keyword_same, base_front, has_front, name_star, name_type, other_punctuator, parameter_once, parameter_front, void_not}
use Rattle.c_syntax.proofs.Moves as moves
use Rattle.c_syntax.proofs.MovesPrograms as programs
use Rattle.c_syntax.proofs.Firsts as firsts
use Rattle.c_parse.proofs.Lists as listed
use Rattle.c_parse.proofs.Lists.{Begun, Back}
use Rattle.c_parse.proofs.Refusing.{missing, punctuator, named, name, has_it, following, Lacks}
use Rattle.c_parse.proofs.Refusing.{NoIdentifier}

-- ---- one parameter

name_base : (called : Identifier) (ts rest : List Token) → IsIdentifier called ts rest → NoBase ts
name_base called ts rest m b end h = name_type called ts rest m (base_front b ts end h)

abbrev pub word : Token
word = token (kinds.Keyword keywords.Int) 0 0

abbrev pub int_named : Parameter
int_named = record { «of» = record { base = bases.Int; pointers = 0 }; name = named }

pub is_int_named : (other : List Token) → IsParameter int_named (word ∷ name ∷ other) other
is_int_named other = (
  name ∷ other,
  (name ∷ other, inl (name ∷ other, (0, (0, refl)), refl), refl),
  refl,
)

pub no_type : (text : List ℕ) (ts : List Token) → NoBase ts
    → Failed 0 (place text ts) NoParameter HasParameter text ts
no_type text ts none =
    missing NoParameter HasParameter text ts [] ts refl
    (λ text' other s p end (mid, (after, base, stars), called). firsts.no_base ts other s none
    p.«of».base after base)
    (λ text'. record {
      more = word ∷ name ∷ [];
      has = record { tree = int_named; is = is_int_named };
    })

pub no_name : (text : List ℕ) (t : CType) (ts b : List Token) → IsType t ts b → EndsType t ts b
    → NoIdentifier b → Failed 0 (place text b) NoParameter HasParameter text ts
no_name text t ts b is far none =
    let m = moves.type t text ts b is in
    let e : m.front ≡ far.front =
    append_cancel_right m.front far.front b (sym m.split ∙ far.split) in
    missing NoParameter HasParameter text ts far.front b far.split
    (λ text' other s p end h.
    let q = far.only other s p.«of» h.0 h.1 (name_base p.name h.0 end h.2)
    (name_star p.name h.0 end h.2) in
    firsts.no_name b other s none p.name end
    (subst (λ (x : List Token). IsIdentifier p.name x end) (sym q.1) h.2))
    (λ text'. record {
      more = name ∷ [];
      has = record {
        tree = record { «of» = t; name = named };
        is = λ other. following (λ z. IsParameter (record { «of» = t; name = named }) z other)
            far.front (name ∷ []) other (
              name ∷ other,
              subst (λ (x : List Token). IsType t (x ++ name ∷ other) (name ∷ other)) e
                  (m.again text (name ∷ other) (alike_same text ts)),
              refl,
            );
      };
    })

-- ---- `void`

pub none_of : {A : Type 0} (r : Option A) (P Q : Type 0) → (P → Q) → IfNone r P → IfNone r Q
none_of (Some x) P Q f h = tt
none_of None P Q f h = f h

pub no_word : (ts : List Token) → ((rest : List Token) → HasKeyword keywords.Void ts rest → ⊥)
    → (rest : List Token) → IsVoid ts rest → ⊥
no_word ts none rest h = none h.0 h.1

pub not_closed : (ts b : List Token) → HasKeyword keywords.Void ts b
    → Lacks punctuators.CloseParenthesis b → (rest : List Token) → IsVoid ts rest → ⊥
not_closed ts b k l rest h =
    let q = keyword_same keywords.Void keywords.Void ts ts h.0 b refl h.1 k in
    l rest (subst (λ (x : List Token). HasPunctuator punctuators.CloseParenthesis x rest) q.1 h.2)

-- ---- a list of parameters

abbrev pub Parameters : List Token → List Parameter → List Token → Type 0
Parameters ts found rest = Begun AreParameters AreMoreParameters ts found rest

first_back : (ts rest : List Token) (x : Parameter) → IsParameter x ts rest
    → Back AreParameters AreMoreParameters ts (x ∷ []) rest
first_back ts rest x is [] end (inl h) = let a = has_front punctuators.CloseParenthesis ts end h in
    let b = parameter_front x ts rest is in absurd (omega arith)
first_back ts rest x is [] end (inr h) = absurd (void_not x ts ts h.0 end rest refl h.1 h.2 is)
first_back ts rest x is (p ∷ ps) end h =
    let u = parameter_once x p ts ts rest h.0 refl is h.1 in (
      ps,
      ap (λ (z : Parameter). z ∷ ps)
          (sym u.0),
      subst (λ (z : List Token). AreMoreParameters ps z end) (sym u.1) h.2,
    )

pub begins : (text : List ℕ) (ts rest : List Token) (x : Parameter) → IsParameter x ts rest
    → Parameters ts (x ∷ []) rest
begins text ts rest x is =
    let m = programs.parameter x text ts rest is in
    let again : (other : List Token) → IsParameter x (m.front ++ other) other =
    λ other. m.again text other (alike_same text ts) in record {
      front = m.front;
      split = m.split;
      forward = λ other ps end h. (other, again other, h);
      back = λ other s. first_back (m.front ++ other) other x (again other);
    }

pub next : (text : List ℕ) (ts rest b after : List Token) (found : List Parameter) (x : Parameter)
    → HasPunctuator punctuators.Comma rest b → IsParameter x b after → Parameters ts found rest
    → Parameters ts (found ++ x ∷ []) after
next text ts rest b after found x k is d =
    let m = programs.parameter x text b after is in
    listed.next IsParameter punctuators.CloseParenthesis AreParameters parameter_once
    (λ e. cc) ts rest b after m.front found x k m.split
    (λ other. m.again text other (alike_same text b)) d

pub counted : (found : List Parameter) (x : Parameter) → length (found ++ x ∷ []) ≡ length found + 1
counted found x = length-append found (x ∷ [])

pub ends : (ts rest end : List Token) (found : List Parameter) → Parameters ts found rest
    → HasPunctuator punctuators.CloseParenthesis rest end → AreParameters found ts end
ends ts rest end found d h =
    subst (λ (x : List Token). AreParameters found x end) (sym d.split)
    (subst (λ (z : List Parameter). AreParameters z (d.front ++ rest) end) (append-nil found)
    (d.forward rest [] end h))

-- ---- refusals

listed_of : (n : ℕ) (text : List ℕ) (ts : List Token) (ps : List Parameter) → 1 ≤ length ps
    → ((other : List Token) → AreParameters ps (ts ++ other) other) → (4 ≤ n → length ps ≤ 8)
    → HasListed n text ts
listed_of n text ts [] some are few = absurd (omega arith)
listed_of n text ts (p ∷ ps) some are few = record { first = p; others = ps; are = are; few = few }

abbrev close : Token
close = punctuator punctuators.CloseParenthesis

pub in_first : (text : List ℕ) (ts : List Token)
    → Wraps NoParameter HasParameter NoListed HasListed text ts ts
in_first text ts = record {
  before = [];
  split = refl;
  no = λ n text' other a s x p ps end h few. x p h.0 h.1;
  has = λ n text' inner a s h. record {
    more = close ∷ [];
    has = record {
      first = h.tree;
      others = [];
      are = λ other. following (λ z. AreParameters (h.tree ∷ []) z other) inner (close ∷ []) other
          (close ∷ other, h.is (close ∷ other), has_it punctuators.CloseParenthesis other);
      few =
          λ four. omega arith;
    };
  };
}

-- one more after the comma
one_more : (n : ℕ) (text : List ℕ) (ts rest b inner : List Token) (found : List Parameter)
    (p : Parameter) → (d : Parameters ts found rest) → (k : HasPunctuator punctuators.Comma rest b)
    → ((other : List Token) → IsParameter p (inner ++ other) other) → (4 ≤ n → length found + 1 ≤ 8)
    → HasListed n text (d.front ++ token (kinds.Punctuator punctuators.Comma) k.0 k.1.0
    ∷ (inner ++ close ∷ []))
one_more n text ts rest b inner found p d k is few =
    let (comma_at, (comma_end, comma_split)) = k in
    let t = token (kinds.Punctuator punctuators.Comma) comma_at comma_end in
    let e = counted found p in
    listed_of n text (d.front ++ t ∷ (inner ++ close ∷ [])) (found ++ p ∷ []) (omega arith)
    (λ other.
    following (λ z. AreParameters (found ++ p ∷ []) z other) d.front (t ∷ (inner ++ close ∷ []))
    other
    (d.forward (t ∷ (inner ++ close ∷ [] ++ other)) (p ∷ []) other
    (record {
      after_comma = inner ++ close ∷ [] ++ other;
      after_element = close ∷ other;
      comma = (comma_at, (comma_end, refl));
      element =
          following (λ z. IsParameter p z (close ∷ other)) inner (close ∷ []) other
          (is (close ∷ other));
      others = has_it punctuators.CloseParenthesis other;
    })))
    (λ four. let a = few four in omega arith)

no_more : (n left : ℕ) (rest b : List Token) → left ≡ 0 → HasPunctuator punctuators.Comma rest b
    → (ps : List Parameter) (end : List Token) → AreMoreParameters ps rest end → length ps ≤ left
    → ⊥
no_more n left rest b z k [] end m few = let e : punctuators.Comma ≡ punctuators.CloseParenthesis =
    other_punctuator punctuators.Comma punctuators.CloseParenthesis rest rest b end refl k m in
    absurd cc
no_more n left rest b z k (p ∷ ps) end m few = absurd (omega arith)

ended : (ts rest : List Token) (found : List Parameter) (n : ℕ) (text : List ℕ) (left : ℕ)
    → (d : Parameters ts found rest) → left ≤ 7 → left + length found ≡ 8
    → HasListed n text (d.front ++ close ∷ [])
ended ts rest found n text left d low e =
    let q = length-append found (◌++◌ {A = Parameter} [] []) in
    listed_of n text (d.front ++ close ∷ []) (found ++ [])
    (subst (λ (z : List Parameter). 1 ≤ length z) (sym (append-nil found)) (omega arith))
    (λ other. following (λ z. AreParameters (found ++ []) z other) d.front (close ∷ []) other
    (d.forward (close ∷ other) [] other (has_it punctuators.CloseParenthesis other)))
    (λ four. subst (λ (z : List Parameter). length z ≤ 8) (sym (append-nil found)) (omega arith))

pub full : (text : List ℕ) (left : ℕ) (ts rest b : List Token) (found : List Parameter)
    → Parameters ts found rest → left + length found ≡ 8 → left ≡ 0
    → HasPunctuator punctuators.Comma rest b → Failed 4 (place text rest) NoListed HasListed text ts
full text left ts rest b found d e z k =
    let (comma_at, (comma_end, comma_split)) = k in
    let t = token (kinds.Punctuator punctuators.Comma) comma_at comma_end in record {
      front = d.front;
      fault = rest;
      split = d.split;
      located = refl;
      against = λ text' other a s p ps end h few.
          let r = d.back other s (p ∷ ps) end h in
          let l = ap length r.1 in
          let f = length-append found r.0 in
          let w = few (omega arith) in
          let o = subst (λ (x : List Token). SameFirst x other) comma_split s in
          no_more 4 left other o.0 z (comma_at, (comma_end, o.1)) r.0 end r.2 (omega arith);
      able = λ text' a k. record {
        more = close ∷ [];
        has = ended ts rest found 7 text' left d
            (omega arith) e;
      };
      further = λ text' n a s q. record {
        token = t;
        rest = b;
        more = word ∷ name ∷ close ∷ [];
        is = comma_split;
        has = one_more n text' ts rest b (word ∷ name ∷ []) found int_named d k is_int_named
            (λ four. absurd (omega arith));
      };
    }

pub in_next : (text : List ℕ) (left : ℕ) (ts rest b : List Token) (found : List Parameter)
    → Parameters ts found rest → left + length found ≡ 8 → (left ≡ 0 → ⊥)
    → HasPunctuator punctuators.Comma rest b
    → Wraps NoParameter HasParameter NoListed HasListed text b ts
in_next text left ts rest b found d e z k =
    let (comma_at, (comma_end, comma_split)) = k in
    let t = token (kinds.Punctuator punctuators.Comma) comma_at comma_end in record {
      before = d.front ++ t ∷ [];
      split = d.split ∙ ap (λ (x : List Token). d.front ++ x) comma_split
          ∙ sym (append_append d.front (t ∷ []) b);
      no = λ n text' other a s x. following (λ y. NoListed n text' y) d.front (t ∷ []) other
          (λ p ps end h few.
          let r = d.back (t ∷ other)
          (subst (λ (y : List Token). SameFirst y (t ∷ other)) (sym comma_split) (other, refl))
          (p ∷ ps) end h in
          listed.none_next IsParameter punctuators.CloseParenthesis (λ e. cc) (t ∷ other) other
          (comma_at, (comma_end, refl)) x r.0 end r.2);
      has = λ n text' inner a s h. record {
        more = close ∷ [];
        has = following (λ y. HasListed n text' y) (d.front ++ t ∷ []) inner (close ∷ [])
            (following (λ y. HasListed n text' y) d.front (t ∷ []) (inner ++ close ∷ [])
            (one_more n text' ts rest b inner found h.tree d k h.is (λ four. grind arith)));
      };
    }

pub in_end : (text : List ℕ) (left : ℕ) (ts rest : List Token) (found : List Parameter)
    → Parameters ts found rest → left + length found ≡ 8 → left ≤ 7 → Lacks punctuators.Comma rest
    → Wraps (NoPunctuator punctuators.CloseParenthesis) (APunctuator punctuators.CloseParenthesis)
    NoListed HasListed text rest ts
in_end text left ts rest found d e low k = record {
  before = d.front;
  split = d.split;
  no = λ n text' other a s x p ps end h few.
      let r = d.back other s (p ∷ ps) end h in
      listed.no_end IsParameter punctuators.CloseParenthesis other
      (firsts.no_punctuator punctuators.Comma rest other s k) x r.0 end r.2;
  has = λ n text' inner a s h. record {
    more = [];
    has = listed_of n text' (d.front ++ inner ++ []) (found ++ [])
        (subst (λ (z : List Parameter). 1 ≤ length z) (sym (append-nil found)) (omega arith))
        (λ other. following (λ z. AreParameters (found ++ []) z other) (d.front ++ inner) [] other
        (following (λ z. AreParameters (found ++ []) z other) d.front inner other
        (d.forward (inner ++ other) [] other (h other))))
        (λ four. subst (λ (z : List Parameter). length z ≤ 8) (sym (append-nil found))
        (omega arith));
  };
}

-- ---- all parameters

widen : (n : ℕ) (text : List ℕ) (ts : List Token) → HasListed n text ts → HasParameters n text ts
widen n text ts h = record { trees = h.first ∷ h.others; are = h.are; few = h.few }

-- A list doesn't fail where `void` could be before the parenthesis.
no_void : (n : ℕ) (text : List ℕ) (ts front fault other end : List Token) → ts ≡ front ++ fault
    → ((rest : List Token) → IsVoid ts rest → ⊥) → SameFirst fault other
    → ((o : List Token) → SameFirst fault o → NoListed n text (front ++ o))
    → IsVoid (front ++ other) end → ⊥
no_void n text ts [] [] other end p v s f (mid, (void_at, (void_end, void_split)), closing) =
    let e : [] ≡ token (kinds.Keyword keywords.Void) void_at void_end ∷ mid = sym s ∙ void_split in
    cc
no_void n text ts [] (t ∷ us) other end p v s f h =
    let (mid, (void_at, (void_end, void_split)), closing) = h in
    let e : t ∷ s.0 ≡ token (kinds.Keyword keywords.Void) void_at void_end ∷ mid =
    sym s.1 ∙ void_split in
    let q : t ≡ token (kinds.Keyword keywords.Void) void_at void_end = cc in
    let b = name ∷ close ∷ [] in
    f (t ∷ b) (b, refl) (record { «of» = record { base = bases.Void; pointers = 0 }; name = named })
    [] [] (
      close ∷ [],
      (
        b,
        (b, inl (b, (void_at, (void_end, ap (λ (x : Token). x ∷ b) q)), refl), refl),
        refl,
      ),
      has_it punctuators.CloseParenthesis [],
    ) (λ four. omega arith)
no_void n text ts (t ∷ []) fault other end p v s f h =
    let (mid, (void_at, (void_end, void_split)), closing) = h in
    let e : t ∷ other ≡ token (kinds.Keyword keywords.Void) void_at void_end ∷ mid = void_split in
    let q : t ≡ token (kinds.Keyword keywords.Void) void_at void_end = cc in
    let r : other ≡ mid = cc in
    firsts.no_punctuator punctuators.CloseParenthesis fault other s
    (λ rest c. v rest (fault, (void_at, (void_end, p ∙ ap (λ (x : Token). x ∷ fault) q)), c))
    end (subst (λ (x : List Token). HasPunctuator punctuators.CloseParenthesis x end)
    (sym r) closing)
no_void n text ts (t ∷ u ∷ front) fault other end p v s f h =
    let (mid, (void_at, (void_end, void_split)), (close_at, (close_end, close_split))) = h in
    let e : t ∷ u ∷ (front ++ other) ≡ token (kinds.Keyword keywords.Void) void_at void_end ∷ mid =
    void_split in
    let q : t ≡ token (kinds.Keyword keywords.Void) void_at void_end = cc in
    let r : u ∷ (front ++ other) ≡ mid = cc in
    let c : u ∷ (front ++ other) ≡ token (kinds.Punctuator punctuators.CloseParenthesis) close_at
    close_end ∷ end = r ∙ close_split in
    let d : u ≡ token (kinds.Punctuator punctuators.CloseParenthesis) close_at close_end = cc in
    v (front ++ fault) (
      u ∷ (front ++ fault),
      (void_at, (void_end, p ∙ ap (λ (x : Token). x ∷ u ∷ (front ++ fault)) q)),
      (close_at, (close_end, ap (λ (x : Token). x ∷ (front ++ fault)) d)),
    )

none_at_all : (n : ℕ) (text : List ℕ) (ts front fault other : List Token) → ts ≡ front ++ fault
    → Lacks punctuators.CloseParenthesis ts → ((rest : List Token) → IsVoid ts rest → ⊥)
    → SameFirst fault other → ((o : List Token) → SameFirst fault o → NoListed n text (front ++ o))
    → NoParameters n text (front ++ other)
none_at_all n text ts front fault other p c v s f [] end (inl h) few =
    firsts.no_punctuator punctuators.CloseParenthesis ts (front ++ other)
    (subst (λ (x : List Token). SameFirst x (front ++ other)) (sym p)
    (first_after front fault other s)) c end h
none_at_all n text ts front fault other p c v s f [] end (inr h) few =
    no_void n text ts front fault other end p v s f h
none_at_all n text ts front fault other p c v s f (x ∷ xs) end h few = f other s x xs end h few

pub all : (text : List ℕ) (ts : List Token) → Lacks punctuators.CloseParenthesis ts
    → ((rest : List Token) → IsVoid ts rest → ⊥) → (kind at : ℕ)
    → Failed kind at NoListed HasListed text ts → Failed kind at NoParameters HasParameters text ts
all text ts c v kind at f = record {
  front = f.front;
  fault = f.fault;
  split = f.split;
  located = f.located;
  against = λ text' other a s. none_at_all kind text' ts f.front f.fault other f.split c v s
      (λ o q. f.against text' o a q);
  able = λ text' a k. let o = f.able text' a k in
      record { more = o.more; has = widen 7 text' (f.front ++ o.more) o.has };
  further = λ text' k a s e. let o = f.further text' k a s e in
      record {
        token = o.token;
        rest = o.rest;
        more = o.more;
        is = o.is;
        has = widen k text' (f.front ++ o.token ∷ o.more) o.has;
      };
}
