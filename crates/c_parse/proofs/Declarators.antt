-- Globals are read as far as they go.
use Rattle.std.proofs.Common.{◌≡◌, ◌≤◌, ◌<◌, ◌⊎◌, ℕ, suc, false, List, [], ◌∷◌, ◌++◌}
use Rattle.std.proofs.Common.{Option, Some, None, inl, inr, refl, sym, ap, ◌∙◌, subst, arith}
use Rattle.c_lex.specs.declared.punctuator.Punctuator.TheVariants as punctuators
use Rattle.c_lex.specs.declared.token.IntegerType.TheVariants as types
use Rattle.c_lex.specs.declared.token.Kind.TheVariants as kinds
use Rattle.c_parse.specs.Words.{Token, Length, Base, Identifier, SameFirst, place, Onward, Failed, Wraps, Stops, postfix, Single, Several, Global, IsInitialiser, IsLength, AreGlobals, token, IsIdentifier, AreStars, NoStar, ParseErr, Unexpected, TooMany, IsPlacedRefusal, NoInitialiser, HasInitialiser, end_of, NoLength, HasLength, EndsScalar, NoGlobal, HasGlobals}
use Rattle.c_syntax.specs.declared.expression.Literal.TheVariants as literals
use Rattle.c_parse.proofs.Lemmas.{append_append, alike_same, name_same, stars_once, name_star, initialiser_stops, length_once, globals_stop}
use Rattle.c_syntax.proofs.Moves as moves
use Rattle.c_syntax.proofs.MovesPrograms as programs
use Rattle.c_syntax.proofs.Firsts as firsts
use Rattle.c_syntax.specs.declared.limit.Count.TheVariants.{Globals}
use Rattle.c_parse.proofs.Refusing.{missing, punctuator, named, name, digit, has_it, following}
use Rattle.c_parse.proofs.Refusing.{Lacks, NoIdentifier, continues as refusing_continues}
use Rattle.c_parse.proofs.Placing.{no_elements}
use Rattle.c_parse.proofs.Lengths.{length_of, stops}

-- an array with no elements, in each place
abbrev pub array : List Token
array = punctuator punctuators.OpenBracket ∷ digit 0 ∷ punctuator punctuators.CloseBracket
    ∷ punctuator punctuators.Semicolon ∷ []

pub is_array : (other : List Token)
    → IsLength (Some (length_of 0 0)) (array ++ other) (punctuator punctuators.Semicolon ∷ other)
is_array other = record {
  after_opening =
      digit 0 ∷ punctuator punctuators.CloseBracket ∷ punctuator punctuators.Semicolon ∷ other;
  after_inner = punctuator punctuators.CloseBracket ∷ punctuator punctuators.Semicolon ∷ other;
  opening = has_it punctuators.OpenBracket _;
  inner = (types.Int, (0, refl));
  closing = has_it punctuators.CloseBracket _;
}

array_has : (base : Base) (pointers at n : ℕ) (text : List ℕ) → at ≤ 1048576
    → HasLength base pointers at n text array
array_has base pointers at n text w = record {
  length = Some (length_of 0 0);
  initialiser = None;
  others = [];
  is = λ other. record {
    after_length = punctuator punctuators.Semicolon ∷ other;
    after_initialiser = punctuator punctuators.Semicolon ∷ other;
    length = is_array other;
    initialiser = refl;
    others = has_it punctuators.Semicolon other;
  };
  low = λ six. no_elements base pointers at w;
}

no_scalar : (base : Base) (pointers at n : ℕ) (text : List ℕ) (ts : List Token)
    → Lacks punctuators.OpenBracket ts → (Stops postfix ts → ⊥)
    → NoLength base pointers at n text ts
no_scalar base pointers at n text ts l z None i gs end h low =
    z (subst (λ (x : List Token). Stops postfix x) (sym h.length)
    (stops i gs h.after_length h.after_initialiser end h.initialiser h.others))
no_scalar base pointers at n text ts l z (Some m) i gs end h low =
    l h.length.after_opening h.length.opening

pub not_scalar : (text : List ℕ) (base : Base) (pointers at : ℕ) (ts : List Token) → at ≤ 1048576
    → Lacks punctuators.OpenBracket ts → (Stops postfix ts → ⊥)
    → Failed 0 (place text ts) (NoLength base pointers at) (HasLength base pointers at) text ts
not_scalar text base pointers at ts w l z =
    missing (NoLength base pointers at) (HasLength base pointers at) text ts [] ts refl
    (λ text' other s. no_scalar base pointers at 0 text' other
    (firsts.no_punctuator punctuators.OpenBracket ts other s l)
    (refusing_continues postfix ts other s z))
    (λ text'. record { more = array; has = array_has base pointers at 7 text' w })

scalar_far : (base : Base) (pointers at n : ℕ) (text : List ℕ) (ts : List Token) → 6 ≤ n
    → Lacks punctuators.OpenBracket ts → 1048576 < end_of base pointers None at
    → NoLength base pointers at n text ts
scalar_far base pointers at n text ts six l f None i gs end h low = let a = low six in
    absurd (omega arith)
scalar_far base pointers at n text ts six l f (Some m) i gs end h low =
    l h.length.after_opening h.length.opening

punctuator_continues : (base : Base) (pointers at k : ℕ) (text : List ℕ) (ts : List Token)
    → 6 ≡ suc k → EndsScalar ts → Onward (HasLength base pointers at) k text [] ts
punctuator_continues base pointers at k text ts e (rest, inl h) =
    let (sign_at, (sign_end, sign_split)) = h in
    let t = token (kinds.Punctuator punctuators.Semicolon) sign_at sign_end in record {
      token = t;
      rest = rest;
      more = [];
      is = sign_split;
      has = record {
        length = None;
        initialiser = None;
        others = [];
        is = λ other. record {
          after_length = t ∷ other;
          after_initialiser = t ∷ other;
          length = refl;
          initialiser = refl;
          others = (sign_at, (sign_end, refl));
        };
        low = λ six. absurd (omega arith);
      };
    }
punctuator_continues base pointers at k text ts e (rest, inr (inl h)) =
    let (sign_at, (sign_end, sign_split)) = h in
    let t = token (kinds.Punctuator punctuators.Comma) sign_at sign_end in record {
      token = t;
      rest = rest;
      more = name ∷ punctuator punctuators.Semicolon ∷ [];
      is = sign_split;
      has = record {
        length = None;
        initialiser = None;
        others = record { pointers = 0; name = named; length = None; initialiser = None } ∷ [];
        is = λ other.
            let s = punctuator punctuators.Semicolon ∷ other in
            let m = name ∷ s in
            record {
              after_length = t ∷ m;
              after_initialiser = t ∷ m;
              length = refl;
              initialiser = refl;
              others = record {
                after_comma = m;
                after_element = s;
                comma = (sign_at, (sign_end, refl));
                element = record {
                  after_stars = m;
                  after_name = s;
                  after_length = s;
                  stars = refl;
                  name = refl;
                  length = refl;
                  initialiser = refl;
                };
                others = has_it punctuators.Semicolon other;
              };
            };
        low = λ six. absurd (omega arith);
      };
    }
punctuator_continues base pointers at k text ts e (rest, inr (inr h)) =
    let (sign_at, (sign_end, sign_split)) = h in
    let t = token (kinds.Punctuator punctuators.Assign) sign_at sign_end in record {
      token = t;
      rest = rest;
      more = digit 1 ∷ punctuator punctuators.Semicolon ∷ [];
      is = sign_split;
      has = record {
        length = None;
        initialiser = Some (Single
            (record { at = 0; negative = false; literal = literals.Integer 1 types.Int }));
        others = [];
        is = λ other.
            let s = punctuator punctuators.Semicolon ∷ other in
            record {
              after_length = t ∷ digit 1 ∷ s;
              after_initialiser = s;
              length = refl;
              initialiser = (digit 1 ∷ s, (sign_at, (sign_end, refl)), (0, refl));
              others = has_it punctuators.Semicolon other;
            };
        low = λ six. absurd (omega arith);
      };
    }

scalar_too_far : (text : List ℕ) (base : Base) (pointers at : ℕ) (ts : List Token) → at ≤ 1048576
    → Lacks punctuators.OpenBracket ts → 1048576 < end_of base pointers None at → EndsScalar ts
    → Failed 6 (place text ts) (NoLength base pointers at) (HasLength base pointers at) text ts
scalar_too_far text base pointers at ts w l f g = record {
  front = [];
  fault = ts;
  split = refl;
  located = refl;
  against = λ text' other a s. scalar_far base pointers at 6 text' other (omega arith)
      (firsts.no_punctuator punctuators.OpenBracket ts other s l) f;
  able = λ text' a k. record { more = array; has = array_has base pointers at 7 text' w };
  further = λ text' k a s e. punctuator_continues base pointers at k text' ts e g;
}

pub no_ends : (ts : List Token) → Lacks punctuators.Semicolon ts → Lacks punctuators.Comma ts
    → Lacks punctuators.Assign ts → EndsScalar ts → ⊥
no_ends ts a b c (rest, inl h) = a rest h
no_ends ts a b c (rest, inr (inl h)) = b rest h
no_ends ts a b c (rest, inr (inr h)) = c rest h

ends_first : (ts other : List Token) → SameFirst ts other → (EndsScalar ts → ⊥) → EndsScalar other
    → ⊥
ends_first ts other s n =
    no_ends other (firsts.no_punctuator punctuators.Semicolon ts other s (λ end h. n (end, inl h)))
    (firsts.no_punctuator punctuators.Comma ts other s (λ end h. n (end, inr (inl h))))
    (firsts.no_punctuator punctuators.Assign ts other s (λ end h. n (end, inr (inr h))))

at_end : (ts a : List Token) → ts ≡ a → EndsScalar a → EndsScalar ts
at_end ts a p h = subst EndsScalar (sym p) h

no_punctuator : (base : Base) (pointers at n : ℕ) (text : List ℕ) (ts : List Token)
    → Lacks punctuators.OpenBracket ts → (EndsScalar ts → ⊥) → NoLength base pointers at n text ts
no_punctuator base pointers at n text ts l z (Some m) i gs end h low =
    l h.length.after_opening h.length.opening
no_punctuator base pointers at n text ts l z None None [] end h low =
    z (at_end ts h.after_initialiser (h.length ∙ h.initialiser) (end, inl h.others))
no_punctuator base pointers at n text ts l z None None (g ∷ gs) end h low =
    z (at_end ts h.after_initialiser (h.length ∙ h.initialiser)
    (h.others.after_comma, inr (inl h.others.comma)))
no_punctuator base pointers at n text ts l z None (Some (Single c)) gs end h low =
    z (at_end ts h.after_length h.length (h.initialiser.0, inr (inr h.initialiser.1)))
no_punctuator base pointers at n text ts l z None (Some (Several to cs)) gs end h low =
    z (at_end ts h.after_length h.length
    (h.initialiser.after_assign, inr (inr h.initialiser.assign)))

scalar_ends : (text : List ℕ) (base : Base) (pointers at : ℕ) (ts : List Token) → at ≤ 1048576
    → Lacks punctuators.OpenBracket ts → (EndsScalar ts → ⊥)
    → Failed 0 (place text ts) (NoLength base pointers at) (HasLength base pointers at) text ts
scalar_ends text base pointers at ts w l z =
    missing (NoLength base pointers at) (HasLength base pointers at) text ts [] ts refl
    (λ text' other s. no_punctuator base pointers at 0 text' other
    (firsts.no_punctuator punctuators.OpenBracket ts other s l) (ends_first ts other s z))
    (λ text'. record { more = array; has = array_has base pointers at 7 text' w })

pub scalar : (e : ParseErr) (text : List ℕ) (base : Base) (pointers at : ℕ) (ts : List Token)
    → at ≤ 1048576 → Lacks punctuators.OpenBracket ts → 1048576 < end_of base pointers None at
    → ((e ≡ TooMany (place text ts) Globals) × EndsScalar ts)
    ⊎ ((e ≡ Unexpected (place text ts)) × (EndsScalar ts → ⊥))
    → IsPlacedRefusal e (NoLength base pointers at) (HasLength base pointers at) text ts
scalar e text base pointers at ts w l f (inl h) =
    subst (λ (x : ParseErr). IsPlacedRefusal x (NoLength base pointers at)
    (HasLength base pointers at) text
    ts) (sym h.0) (scalar_too_far text base pointers at ts w l f h.1)
scalar e text base pointers at ts w l f (inr h) =
    subst (λ (x : ParseErr). IsPlacedRefusal x (NoLength base pointers at)
    (HasLength base pointers at) text
    ts) (sym h.0) (scalar_ends text base pointers at ts w l h.1)

-- ---- one global

not_named : (base : Base) (at k n : ℕ) (text : List ℕ) (ts d : List Token) → AreStars n ts d
    → NoStar d → NoIdentifier d → NoGlobal base at k text ts
not_named base at k n text ts d s z none g gs end h low =
    let p = stars_once n g.pointers ts ts d h.1.after_stars refl z
    (name_star g.name h.1.after_stars h.1.after_name h.1.name) s h.1.stars in
    none g.name h.1.after_name (subst (λ (x : List Token). IsIdentifier g.name x h.1.after_name)
    (sym p.1) h.1.name)

pub no_name : (text : List ℕ) (base : Base) (at n : ℕ) (ts d : List Token) → at ≤ 1048576
    → AreStars n ts d → NoStar d → NoIdentifier d
    → Failed 0 (place text d) (NoGlobal base at) (HasGlobals base at) text ts
no_name text base at n ts d w s z none =
    let m = moves.stars n text ts d s in
    let again : (other : List Token) → AreStars n (m.front ++ other) other =
    λ other. m.again text other (alike_same text ts) in
    let g : Global = record {
      pointers = n;
      name = named;
      length = Some (length_of 0 0);
      initialiser = None;
    } in
    missing (NoGlobal base at) (HasGlobals base at) text ts m.front d m.split
    (λ text' other f. not_named base at 0 n text' (m.front ++ other) other (again other)
    (firsts.no_punctuator punctuators.Star d other f z) (firsts.no_name d other f none))
    (λ text'. record {
      more = name ∷ array;
      has = record {
        trees = g ∷ [];
        are = λ other.
            let rest = punctuator punctuators.Semicolon ∷ other in
            following (λ x. AreGlobals (g ∷ []) x other) m.front (name ∷ array) other (
              rest,
              record {
                after_stars = name ∷ (array ++ other);
                after_name = array ++ other;
                after_length = rest;
                stars = again (name ∷ (array ++ other));
                name = refl;
                length = is_array other;
                initialiser = refl;
              },
              has_it punctuators.Semicolon other,
            );
        low = λ six. no_elements base n at w;
      };
    })

no_length : (base : Base) (at k n : ℕ) (text : List ℕ) (called : Identifier) (ts d b : List Token)
    → AreStars n ts d → NoStar d → IsIdentifier called d b → NoLength base n at k text b
    → NoGlobal base at k text ts
no_length base at k n text called ts d b s z m none g gs end h low =
    let p = stars_once n g.pointers ts ts d h.1.after_stars refl z
    (name_star g.name h.1.after_stars h.1.after_name h.1.name) s h.1.stars in
    let q = name_same called g.name d h.1.after_stars b h.1.after_name p.1 m h.1.name in
    none g.length g.initialiser gs end
    (record {
      after_length = h.1.after_length;
      after_initialiser = h.0;
      length =
          subst (λ (x : List Token). IsLength g.length x h.1.after_length) (sym q.1) h.1.length;
      initialiser = h.1.initialiser;
      others = h.2;
    }) (λ six. subst (λ (x : ℕ). end_of base x g.length at ≤ 1048576) (sym p.0) (low six))

no_star : (called : Identifier) (other : List Token)
    → NoStar (token kinds.Identifier called.start called.end ∷ other)
no_star called other = name_star called (token kinds.Identifier called.start called.end ∷ other)
    other refl

pub in_length : (text : List ℕ) (base : Base) (at n : ℕ) (called : Identifier) (ts d b : List Token)
    → AreStars n ts d → IsIdentifier called d b
    → Wraps (NoLength base n at) (HasLength base n at) (NoGlobal base at) (HasGlobals base at) text
    b ts
in_length text base at n called ts d b s e =
    let m = moves.stars n text ts d s in
    let again : (other : List Token) → AreStars n (m.front ++ other) other =
    λ other. m.again text other (alike_same text ts) in
    let t = token kinds.Identifier called.start called.end in record {
      before = m.front ++ t ∷ [];
      split = m.split ∙ ap (λ (x : List Token). m.front ++ x) e
          ∙ sym (append_append m.front (t ∷ []) b);
      no = λ k text' other a f x. following (λ z. NoGlobal base at k text' z) m.front (t ∷ []) other
          (no_length base at k n text' called (m.front ++ t ∷ other) (t ∷ other) other
          (again (t ∷ other)) (no_star called other) refl x);
      has = λ k text' inner a f h.
          let g : Global = record {
            pointers = n;
            name = called;
            length = h.length;
            initialiser = h.initialiser;
          } in record {
            more = [];
            has = record {
              trees = g ∷ h.others;
              are = λ other.
                  let q = h.is other in
                  following (λ z. AreGlobals (g ∷ h.others) z other) ((m.front ++ t ∷ []) ++ inner)
                  [] other
                  (following (λ z. AreGlobals (g ∷ h.others) z other) (m.front ++ t ∷ []) inner
                  other
                  (following (λ z. AreGlobals (g ∷ h.others) z other) m.front (t ∷ [])
                  (inner ++ other) (
                    q.after_initialiser,
                    record {
                      after_stars = t ∷ (inner ++ other);
                      after_name = inner ++ other;
                      after_length = q.after_length;
                      stars = again (t ∷ (inner ++ other));
                      name = refl;
                      length = q.length;
                      initialiser = q.initialiser;
                    },
                    q.others,
                  )));
              low = h.low;
            };
          };
    }

no_initialiser : (base : Base) (at k n : ℕ) (text : List ℕ) (called : Identifier)
    (l : Option Length) (ts d b c : List Token) → AreStars n ts d → NoStar d
    → IsIdentifier called d b → IsLength l b c → Stops postfix c → NoInitialiser k text c
    → NoGlobal base at k text ts
no_initialiser base at k n text called l ts d b c s z m e t none g gs end h low =
    let st = globals_stop gs h.0 end h.2 in
    let p = stars_once n g.pointers ts ts d h.1.after_stars refl z
    (name_star g.name h.1.after_stars h.1.after_name h.1.name) s h.1.stars in
    let q = name_same called g.name d h.1.after_stars b h.1.after_name p.1 m h.1.name in
    let r = length_once l g.length b h.1.after_name c h.1.after_length q.1 t
    (initialiser_stops g.initialiser h.1.after_length h.0 st h.1.initialiser) e h.1.length in
    none g.initialiser h.0 (subst (λ (x : List Token). IsInitialiser g.initialiser x h.0)
    (sym r.1) h.1.initialiser) st

pub in_initialiser : (text : List ℕ) (base : Base) (at n : ℕ) (called : Identifier)
    (l : Option Length) (ts d b c : List Token) → AreStars n ts d → IsIdentifier called d b
    → IsLength l b c → Stops postfix c → end_of base n l at ≤ 1048576
    → Wraps NoInitialiser HasInitialiser (NoGlobal base at) (HasGlobals base at) text c ts
in_initialiser text base at n called l ts d b c s e i stop w =
    let m = moves.stars n text ts d s in
    let again : (other : List Token) → AreStars n (m.front ++ other) other =
    λ other. m.again text other (alike_same text ts) in
    let o = programs.length l text b c i in
    let length_again : (other : List Token) → IsLength l (o.front ++ other) other =
    λ other. o.again text other (alike_same text b) in
    let t = token kinds.Identifier called.start called.end in record {
      before = m.front ++ t ∷ o.front;
      split = m.split ∙ ap (λ (x : List Token). m.front ++ x)
          (e ∙ ap (λ (x : List Token). t ∷ x) o.split)
          ∙ sym (append_append m.front (t ∷ o.front) c);
      no = λ k text' other a f x. following (λ z. NoGlobal base at k text' z) m.front
          (t ∷ o.front) other
          (no_initialiser base at k n text' called l (m.front ++ t ∷ (o.front ++ other))
          (t ∷ (o.front ++ other)) (o.front ++ other) other (again (t ∷ (o.front ++ other)))
          (no_star called (o.front ++ other)) refl (length_again other)
          (firsts.stops 1 c other f stop) x);
      has = λ k text' inner a f h.
          let g : Global = record {
            pointers = n;
            name = called;
            length = l;
            initialiser = h.tree;
          } in record {
            more = punctuator punctuators.Semicolon ∷ [];
            has = record {
              trees = g ∷ [];
              are = λ other.
                  let rest = punctuator punctuators.Semicolon ∷ other in
                  following (λ z. AreGlobals (g ∷ []) z other) ((m.front ++ t ∷ o.front) ++ inner)
                  (punctuator punctuators.Semicolon ∷ []) other
                  (following (λ z. AreGlobals (g ∷ []) z other) (m.front ++ t ∷ o.front) inner rest
                  (following (λ z. AreGlobals (g ∷ []) z other) m.front (t ∷ o.front)
                  (inner ++ rest) (
                    rest,
                    record {
                      after_stars = t ∷ (o.front ++ (inner ++ rest));
                      after_name = o.front ++ (inner ++ rest);
                      after_length = inner ++ rest;
                      stars = again (t ∷ (o.front ++ (inner ++ rest)));
                      name = refl;
                      length = length_again (inner ++ rest);
                      initialiser = h.is rest;
                    },
                    has_it punctuators.Semicolon other,
                  )));
              low = λ six. w;
            };
          };
    }
