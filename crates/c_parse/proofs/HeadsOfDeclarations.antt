-- A declaration's head is read as far as it goes.
use Rattle.std.proofs.Common.{◌≡◌, ◌≤◌, ℕ, List, [], ◌∷◌, ◌++◌}
use Rattle.std.proofs.Common.{refl, sym, ap, ◌∙◌, subst, arith, inl, Some, None}
use Rattle.std.proofs.lemmas.List.{append_cancel_right}
use Rattle.c_lex.specs.declared.punctuator.Punctuator.TheVariants as punctuators
use Rattle.c_lex.specs.declared.token.Kind.TheVariants as kinds
use Rattle.c_parse.specs.Words.{Token, Base, Identifier, SameFirst, place, Failed, Wraps, Global, Globals, Function, IsExternalDeclaration, token, IsIdentifier, IsBase, AreStars, NoBase, NoStar, EndsBase, Counts, NoExternalDeclaration, HasExternalDeclaration, IsDeclarationHead, NoHead, HasHead}
use Rattle.c_syntax.specs.declared.expression.Base.TheVariants as bases
use Rattle.c_parse.proofs.Lemmas.{append_append, alike_same, first_after, base_front, stars_once, stars_front, NoType, name_star, name_type}
use Rattle.c_syntax.proofs.Firsts as firsts
use Rattle.c_syntax.proofs.Moves as moves
use Rattle.c_parse.proofs.Refusing.{missing, punctuator, named, name, has_it, following}
use Rattle.c_parse.proofs.Refusing.{NoIdentifier}
use Rattle.c_parse.proofs.Placing.{no_elements}
use Rattle.c_parse.proofs.Declarators.{array, is_array}
use Rattle.c_parse.proofs.Parameters.{word}

-- ---- heads

pub declarators_type : (n : ℕ) (called : Identifier) (ts a end : List Token) → AreStars n ts a
    → IsIdentifier called a end → NoType ts
declarators_type n called ts a end s m = stars_front n ts a (name_type called a end m) s

pub no_base : (text : List ℕ) (ts : List Token) → NoBase ts
    → Failed 0 (place text ts) NoHead HasHead text ts
no_base text ts none =
    missing NoHead HasHead text ts [] ts refl
    (λ text' other s b n m d end h. firsts.no_base ts other s none b d h.base)
    (λ text'. record {
      more = word ∷ name ∷ [];
      has = record {
        base = bases.Int;
        pointers = 0;
        name = named;
        is = λ other. (
          name ∷ other,
          record {
            after_stars = name ∷ other;
            base = inl (name ∷ other, (0, (0, refl)), refl);
            stars = refl;
            name = refl;
          },
        );
      };
    })

pub no_name : (text : List ℕ) (b : Base) (k : ℕ) (ts d a : List Token) → IsBase b ts d
    → EndsBase b ts d → AreStars k d a → NoStar a → NoIdentifier a
    → Failed 0 (place text a) NoHead HasHead text ts
no_name text b k ts d a is far s z none =
    let mb = moves.base b text ts d is in
    let e : mb.front ≡ far.front =
    append_cancel_right mb.front far.front d (sym mb.split ∙ far.split) in
    let ms = moves.stars k text d a s in
    let again : (other : List Token) → AreStars k (ms.front ++ other) other =
    λ other. ms.again text other (alike_same text d) in
    missing NoHead HasHead text ts (far.front ++ ms.front) a
    (far.split ∙ ap (λ (x : List Token). far.front ++ x) ms.split
    ∙ sym (append_append far.front ms.front a))
    (λ text' other f. following (λ x. NoHead 0 text' x) far.front ms.front other (λ c n m g end h.
    let t = declarators_type n m g h.after_stars end h.stars h.name in
    let q = far.only (ms.front ++ other)
    (subst (λ (x : List Token). SameFirst x (ms.front ++ other)) (sym ms.split)
    (first_after ms.front a other f)) c g h.base (λ x y w. t (base_front x g y w)) in
    let r = stars_once k n (ms.front ++ other) g other h.after_stars q.1
    (firsts.no_punctuator punctuators.Star a other f z) (name_star m h.after_stars end h.name)
    (again other) h.stars in
    firsts.no_name a other f none m end
    (subst (λ (x : List Token). IsIdentifier m x end) (sym r.1) h.name)))
    (λ text'. record {
      more = name ∷ [];
      has = record {
        base = b;
        pointers = k;
        name = named;
        is = λ other.
            let rest = name ∷ other in
            following (λ x. (g : List Token) × IsDeclarationHead b k named x g other)
            (far.front ++ ms.front)
            (name ∷ []) other
            (following (λ x. (g : List Token) × IsDeclarationHead b k named x g other) far.front
            ms.front rest (
              ms.front ++ rest,
              record {
                after_stars = rest;
                base =
                    subst (λ (x : List Token). IsBase b (x ++ (ms.front ++ rest))
                    (ms.front ++ rest))
                    e (mb.again text (ms.front ++ rest) (alike_same text ts));
                stars = again rest;
                name = refl;
              },
            ));
      };
    })

-- a head is before other tokens
pub record Headed (b : Base) (n : ℕ) (called : Identifier) (ts d rest : List Token) : Type 0 where
  pub front : List Token
  pub split : ts ≡ front ++ d
  pub declared : List Token
  pub split_declared : d ≡ declared ++ rest
  pub again : (other : List Token) → IsBase b (front ++ other) other
  pub declares : (other : List Token)
      → (a : List Token) × AreStars n (declared ++ other) a × IsIdentifier called a other

pub headed : (text : List ℕ) (b : Base) (n : ℕ) (called : Identifier) (ts d rest : List Token)
    → IsDeclarationHead b n called ts d rest → Headed b n called ts d rest
headed text b n called ts d rest h =
    let mb = moves.base b text ts d h.base in
    let ms = moves.stars n text d h.after_stars h.stars in
    let t = token kinds.Identifier called.start called.end in record {
      front = mb.front;
      split = mb.split;
      declared = ms.front ++ t ∷ [];
      split_declared =
          ms.split ∙ ap (λ (x : List Token). ms.front ++ x) h.name
          ∙ sym (append_append ms.front (t ∷ []) rest);
      again = λ other. mb.again text other (alike_same text ts);
      declares = λ other. following
          (λ x. (a : List Token) × AreStars n x a × IsIdentifier called a other) ms.front
          (t ∷ []) other (t ∷ other, ms.again text (t ∷ other) (alike_same text d), refl);
    }

-- with these tokens after it
pub is_head : (b : Base) (n : ℕ) (called : Identifier) (ts d rest : List Token)
    (m : Headed b n called ts d rest) (other : List Token)
    → IsDeclarationHead b n called (m.front ++ (m.declared ++ other)) (m.declared ++ other) other
is_head b n called ts d rest m other =
    let q = m.declares other in
    record { after_stars = q.0; base = m.again (m.declared ++ other); stars = q.1; name = q.2 }

pub whole_split : (b : Base) (n : ℕ) (called : Identifier) (ts d rest : List Token)
    (m : Headed b n called ts d rest) → ts ≡ (m.front ++ m.declared) ++ rest
whole_split b n called ts d rest m =
    m.split ∙ ap (λ (x : List Token). m.front ++ x) m.split_declared
    ∙ sym (append_append m.front m.declared rest)

pub has_head : (n : ℕ) (text : List ℕ) (b : Base) (k : ℕ) (called : Identifier)
    (ts d rest : List Token)
    (m : Headed b k called ts d rest) → HasHead n text (m.front ++ m.declared)
has_head n text b k called ts d rest m =
    record {
      base = b;
      pointers = k;
      name = called;
      is = λ other. following (λ x. (g : List Token) × IsDeclarationHead b k called x g other)
          m.front
          m.declared
          other (m.declared ++ other, is_head b k called ts d rest m other);
    }

-- an array with no elements completes it
pub array_after : (counts : Counts) (n : ℕ) (text : List ℕ) (inner : List Token)
    → counts.bytes ≤ 1048576 → HasHead n text inner
    → HasExternalDeclaration counts n text (inner ++ array)
array_after counts n text inner w h =
    let g : Global = record {
      pointers = h.pointers;
      name = h.name;
      length = Some (record { at = 0; value = 0 });
      initialiser = None;
    } in record {
      tree = Globals h.base (g ∷ []);
      is = λ other.
          let q = h.is (array ++ other) in
          let rest = punctuator punctuators.Semicolon ∷ other in
          following (λ x. IsExternalDeclaration text (Globals h.base (g ∷ [])) x other) inner array
          other (
            q.0,
            q.1.base,
            (
              rest,
              record {
                after_stars = q.1.after_stars;
                after_name = array ++ other;
                after_length = rest;
                stars = q.1.stars;
                name = q.1.name;
                length = is_array other;
                initialiser = refl;
              },
              has_it punctuators.Semicolon other,
            ),
          );
      fits = record {
        each = tt;
        functions = λ five. omega arith;
        bytes = λ six. no_elements h.base h.pointers counts.bytes w;
        funclets =
            λ seven. omega arith;
      };
    }

no_head : (counts : Counts) (n : ℕ) (text : List ℕ) (ts : List Token) → NoHead n text ts
    → NoExternalDeclaration counts n text ts
no_head counts n text ts none (Globals b []) end h w = absurd h.2
no_head counts n text ts none (Globals b (g ∷ gs)) end (mid, base, (after, first, others)) w =
    none b g.pointers g.name mid first.after_name
    (record {
      after_stars = first.after_stars;
      base = base;
      stars = first.stars;
      name = first.name;
    })
no_head counts n text ts none (Function t called ps body) end h w =
    none t.base t.pointers called h.returns.0 h.after_name
    (record { after_stars = h.after_type; base = h.returns.1; stars = h.returns.2; name = h.name })

pub in_head : (text : List ℕ) (counts : Counts) (ts : List Token) → counts.bytes ≤ 1048576
    → Wraps NoHead HasHead (NoExternalDeclaration counts) (HasExternalDeclaration counts) text ts ts
in_head text counts ts w = record {
  before = [];
  split = refl;
  no = λ n text' other a s x. no_head counts n text' other x;
  has = λ n text' inner a s h. record { more = array; has = array_after counts n text' inner w h };
}
