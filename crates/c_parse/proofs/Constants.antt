-- Constants and initialisers are read as far as they go.
use Rattle.std.proofs.Common.{◌≡◌, ℕ, Bool, true, false, List, [], ◌∷◌, ◌++◌, Some, None, refl, sym}
use Rattle.std.proofs.Common.{ap, ◌∙◌, subst, arith}
use Rattle.std.proofs.lemmas.List.{append-nil}
use Rattle.c_lex.specs.declared.punctuator.Punctuator.TheVariants as punctuators
use Rattle.c_lex.specs.declared.token.IntegerType.TheVariants as types
use Rattle.c_lex.specs.declared.token.Kind.TheVariants as kinds
use Rattle.c_parse.specs.Words.{Token, Literal, literal_kind, SameFirst, place, Failed, Wraps, Stops, assignment, Initialiser, Single, Several, IsLiteral, IsConstant, AreMoreConstants, AreConstants, IsInitialiser, token, IsKind, IsPunctuator, HasPunctuator, NoPunctuator, APunctuator, NoConstant, HasConstant, NoConstants, HasConstants, IsGiven, NoneGiven, HasGiven, NoInitialiser, HasInitialiser}
use Rattle.c_syntax.specs.declared.declaration.Constant.{Constant}
use Rattle.c_syntax.specs.declared.expression.Literal.TheVariants as literals
use Rattle.c_parse.proofs.Lemmas.{append_append, alike_same, punctuator_same, has_same, front, literal_class, constant_once, constants, assign_not, brace_not}
use Rattle.c_syntax.proofs.MovesPrograms as programs
use Rattle.c_syntax.proofs.Firsts as firsts
use Rattle.c_parse.proofs.Lists as listed
use Rattle.c_parse.proofs.Lists.{Begun, Back}
use Rattle.c_parse.proofs.Refusing.{missing, punctuator, digit, has_it, following, Lacks, LacksAt}
use Rattle.c_parse.proofs.Refusing.{NoLiteral, continues as refusing_continues}

-- ---- one constant

not_after : (negative : Bool) (at to : ℕ) (literal : Literal) (ts b end : List Token)
    → IsPunctuator punctuators.Minus to ts b → NoLiteral b → IsLiteral negative at literal ts end
    → ⊥
not_after false at to literal ts b end m none h = let a = ap front h.1 in let c =
    literal_class literal in let d = ap front m.1 in absurd (omega arith)
not_after true at to literal ts b end m none h =
    let q = punctuator_same punctuators.Minus punctuators.Minus to at ts ts b h.after_minus refl m
    h.minus in
    none literal h.place end (subst (λ (x : List Token). IsKind (literal_kind literal) h.place x
    end) (sym q.2) h.literal)

not_alone : (negative : Bool) (at : ℕ) (literal : Literal) (ts end : List Token)
    → LacksAt punctuators.Minus ts → NoLiteral ts → IsLiteral negative at literal ts end → ⊥
not_alone false at literal ts end m none h = none literal at end h
not_alone true at literal ts end m none h = m at h.after_minus h.minus

abbrev one : Literal
one = literals.Integer 1 types.Int

pub no_literal : (text : List ℕ) (to : ℕ) (ts b : List Token)
    → IsPunctuator punctuators.Minus to ts b → NoLiteral b
    → Failed 0 (place text b) NoConstant HasConstant text ts
no_literal text to ts b m none =
    let t = token (kinds.Punctuator punctuators.Minus) to m.0 in
    missing NoConstant HasConstant text ts (t ∷ []) b m.1
    (λ text' other s c end h. not_after c.negative c.at to c.literal (t ∷ other) other end
    (m.0, refl) (firsts.no_literal b other s none) h)
    (λ text'. record {
      more = digit 1 ∷ [];
      has = record {
        tree = record { at = to; negative = true; literal = one };
        is = λ other. record {
          after_minus = digit 1 ∷ other;
          place = 0;
          minus = (m.0, refl);
          literal = (0, refl);
        };
      };
    })

pub neither : (text : List ℕ) (ts : List Token) → LacksAt punctuators.Minus ts → NoLiteral ts
    → Failed 0 (place text ts) NoConstant HasConstant text ts
neither text ts m none =
    missing NoConstant HasConstant text ts [] ts refl
    (λ text' other s c end h. not_alone c.negative c.at c.literal other end
    (firsts.no_kind (kinds.Punctuator punctuators.Minus) ts other s m)
    (firsts.no_literal ts other s none) h)
    (λ text'. record {
      more = digit 1 ∷ [];
      has = record {
        tree = record { at = 0; negative = false; literal = one };
        is = λ other. (0, refl);
      };
    })

-- ---- a list of them

abbrev pub Constants : List Token → List Constant → List Token → Type 0
Constants ts found rest = Begun AreConstants AreMoreConstants ts found rest

first_back : (ts rest : List Token) (c : Constant) → IsConstant c ts rest
    → Back AreConstants AreMoreConstants ts (c ∷ []) rest
first_back ts rest c is [] end h = absurd h
first_back ts rest c is (d ∷ ds) end h =
    let u = constant_once c d ts ts rest h.0 refl is h.1 in (
      ds,
      ap (λ (x : Constant). x ∷ ds)
          (sym u.0),
      subst (λ (z : List Token). AreMoreConstants ds z end) (sym u.1) h.2,
    )

pub begins : (text : List ℕ) (ts rest : List Token) (c : Constant) → IsConstant c ts rest
    → Constants ts (c ∷ []) rest
begins text ts rest c is =
    let m = programs.constant c text ts rest is in
    let again : (other : List Token) → IsConstant c (m.front ++ other) other =
    λ other. m.again text other (alike_same text ts) in record {
      front = m.front;
      split = m.split;
      forward = λ other xs end h. (other, again other, h);
      back = λ other s. first_back (m.front ++ other) other c (again other);
    }

pub next : (text : List ℕ) (ts rest b after : List Token) (found : List Constant) (c : Constant)
    → HasPunctuator punctuators.Comma rest b → IsConstant c b after → Constants ts found rest
    → Constants ts (found ++ c ∷ []) after
next text ts rest b after found c k is d =
    let m = programs.constant c text b after is in
    listed.next IsConstant punctuators.CloseBrace AreConstants constant_once (λ e. cc) ts rest b
    after m.front found c k m.split
    (λ other. m.again text other (alike_same text b)) d

pub ends : (ts rest end : List Token) (found : List Constant) → Constants ts found rest
    → HasPunctuator punctuators.CloseBrace rest end → AreConstants found ts end
ends ts rest end found d h =
    subst (λ (x : List Token). AreConstants found x end) (sym d.split)
    (subst (λ (z : List Constant). AreConstants z (d.front ++ rest) end) (append-nil found)
    (d.forward rest [] end h))

no_first : (ts : List Token) → NoConstant 0 [] ts → NoConstants 0 [] ts
no_first ts none [] end h = absurd h
no_first ts none (c ∷ cs) end h = none c h.0 h.1

pub in_first : (text : List ℕ) (ts : List Token)
    → Wraps NoConstant HasConstant NoConstants HasConstants text ts ts
in_first text ts = record {
  before = [];
  split = refl;
  no = λ n text' other a s x. no_first other x;
  has = λ n text' inner a k h. record {
    more = punctuator punctuators.CloseBrace ∷ [];
    has = record {
      trees = h.tree ∷ [];
      are = λ other. following (λ z. AreConstants (h.tree ∷ []) z other) inner
          (punctuator punctuators.CloseBrace ∷ []) other (
            punctuator punctuators.CloseBrace ∷ other,
            h.is
                (punctuator punctuators.CloseBrace ∷ other),
            has_it punctuators.CloseBrace other,
          );
    };
  };
}

pub in_next : (text : List ℕ) (ts rest b : List Token) (found : List Constant)
    → Constants ts found rest → HasPunctuator punctuators.Comma rest b
    → Wraps NoConstant HasConstant NoConstants HasConstants text b ts
in_next text ts rest b found d k =
    let (comma_at, (comma_end, comma_split)) = k in
    let t = token (kinds.Punctuator punctuators.Comma) comma_at comma_end in record {
      before = d.front ++ t ∷ [];
      split = d.split ∙ ap (λ (z : List Token). d.front ++ z) comma_split
          ∙ sym (append_append d.front (t ∷ []) b);
      no = λ n text' other a s x. following (λ z. NoConstants n text' z) d.front (t ∷ []) other
          (λ cs end h.
          let r = d.back (t ∷ other)
          (subst (λ (z : List Token). SameFirst z (t ∷ other)) (sym comma_split) (other, refl))
          cs end h in
          listed.none_next IsConstant punctuators.CloseBrace (λ e. cc) (t ∷ other) other
          (comma_at, (comma_end, refl)) x r.0 end r.2);
      has = λ n text' inner a s h. record {
        more = punctuator punctuators.CloseBrace ∷ [];
        has = record {
          trees = found ++ h.tree ∷ [];
          are = λ other.
              following (λ z. AreConstants (found ++ h.tree ∷ []) z other)
              ((d.front ++ t ∷ []) ++ inner) (punctuator punctuators.CloseBrace ∷ []) other
              (following (λ z. AreConstants (found ++ h.tree ∷ []) z other) (d.front ++ t ∷ [])
              inner (punctuator punctuators.CloseBrace ∷ other)
              (following (λ z. AreConstants (found ++ h.tree ∷ []) z other) d.front (t ∷ [])
              (inner ++ punctuator punctuators.CloseBrace ∷ other)
              (d.forward (t ∷ (inner ++ punctuator punctuators.CloseBrace ∷ other))
              (h.tree ∷ []) other (record {
                after_comma = inner ++ punctuator punctuators.CloseBrace ∷ other;
                after_element = punctuator punctuators.CloseBrace ∷ other;
                comma = (comma_at, (comma_end, refl));
                element = h.is (punctuator punctuators.CloseBrace ∷ other);
                others = has_it punctuators.CloseBrace other;
              }))));
        };
      };
    }

pub in_end : (text : List ℕ) (ts rest : List Token) (found : List Constant)
    → Constants ts found rest → Lacks punctuators.Comma rest
    → Wraps (NoPunctuator punctuators.CloseBrace) (APunctuator punctuators.CloseBrace) NoConstants
    HasConstants text rest ts
in_end text ts rest found d k = record {
  before = d.front;
  split = d.split;
  no = λ n text' other a s x cs end h.
      let r = d.back other s cs end h in
      listed.no_end IsConstant punctuators.CloseBrace other
      (firsts.no_punctuator punctuators.Comma rest other s k) x r.0 end r.2;
  has = λ n text' inner a s h. record {
    more = [];
    has = record {
      trees = found ++ [];
      are = λ other. following (λ z. AreConstants (found ++ []) z other) (d.front ++ inner) [] other
          (following (λ z. AreConstants (found ++ []) z other) d.front inner other
          (d.forward (inner ++ other) [] other (h other)));
    };
  };
}

-- ---- what is after `=`

none_listed : (ts b : List Token) (at : ℕ) → IsPunctuator punctuators.OpenBrace at ts b
    → NoConstants 0 [] b → NoneGiven 0 [] ts
none_listed ts b at o none (Single c) end h = brace_not c at ts ts end b refl h o
none_listed ts b at o none (Several to cs) end h =
    let q = punctuator_same punctuators.OpenBrace punctuators.OpenBrace to at ts ts h.0 b refl h.1
    o in
    none cs end (subst (λ (z : List Token). AreConstants cs z end) q.2 h.2)

pub in_list : (text : List ℕ) (ts b : List Token) (at : ℕ)
    → IsPunctuator punctuators.OpenBrace at ts b
    → Wraps NoConstants HasConstants NoneGiven HasGiven text b ts
in_list text ts b at o =
    let t = token (kinds.Punctuator punctuators.OpenBrace) at o.0 in record {
      before = t ∷ [];
      split = o.1;
      no = λ n text' other a s x. none_listed (t ∷ other) other at (o.0, refl) x;
      has = λ n text' inner a s h. record {
        more = [];
        has = record {
          tree = Several at h.trees;
          is = λ other. following (λ z. IsGiven (Several at h.trees) z other) (t ∷ inner) [] other
              (inner ++ other, (o.0, refl), h.are other);
        };
      };
    }

none_single : (ts : List Token) → LacksAt punctuators.OpenBrace ts → NoConstant 0 [] ts
    → NoneGiven 0 [] ts
none_single ts o none (Single c) end h = none c end h
none_single ts o none (Several at cs) end h = o at h.0 h.1

pub in_single : (text : List ℕ) (ts : List Token) → LacksAt punctuators.OpenBrace ts
    → Wraps NoConstant HasConstant NoneGiven HasGiven text ts ts
in_single text ts o = record {
  before = [];
  split = refl;
  no = λ n text' other a s x. none_single other
      (firsts.no_kind (kinds.Punctuator punctuators.OpenBrace) ts other s o) x;
  has = λ n text' inner a s h. record {
    more = [];
    has = record {
      tree = Single h.tree;
      is = λ other. following (λ z. IsGiven (Single h.tree) z other) inner [] other (h.is other);
    };
  };
}

given_once : (i j : Initialiser) (ts us rest end : List Token) → ts ≡ us → IsGiven i ts rest
    → IsGiven j us end → rest ≡ end
given_once (Single c) (Single d) ts us rest end p h g = (constant_once c d ts us rest end p h g).1
given_once (Single c) (Several to ds) ts us rest end p h g =
    absurd (brace_not c to ts us rest g.0 p h g.1)
given_once (Several at cs) (Single d) ts us rest end p h g =
    absurd (brace_not d at us ts end h.0 (sym p) g h.1)
given_once (Several at cs) (Several to ds) ts us rest end p h g =
    let b = punctuator_same punctuators.OpenBrace punctuators.OpenBrace at to ts us h.0 g.0 p h.1
    g.1 in
    (constants cs ds h.0 g.0 rest end b.2 h.2 g.2).1

pub assigned : (i : Initialiser) (ts a rest : List Token) → HasPunctuator punctuators.Assign ts a
    → IsGiven i a rest → IsInitialiser (Some i) ts rest
assigned (Single c) ts a rest s h = (a, s, h)
assigned (Several at cs) ts a rest s h = record {
  after_assign = a;
  after_brace = h.0;
  assign = s;
  brace = h.1;
  constants = h.2;
}

after_assign : (i : Initialiser) (ts rest : List Token) → IsInitialiser (Some i) ts rest
    → (a : List Token) × HasPunctuator punctuators.Assign ts a × IsGiven i a rest
after_assign (Single c) ts rest h = h
after_assign (Several at cs) ts rest h =
    (h.after_assign, h.assign, (h.after_brace, h.brace, h.constants))

-- ---- initialisers

none_given : (ts a : List Token) → HasPunctuator punctuators.Assign ts a → NoneGiven 0 [] a
    → NoInitialiser 0 [] ts
none_given ts a s none None end h z = assign_not ts ts end a refl h z s
none_given ts a s none (Some i) end h z =
    let b = after_assign i ts end h in
    none i end (subst (λ (x : List Token). IsGiven i x end)
    (has_same punctuators.Assign ts ts b.0 a refl b.1 s) b.2)

pub in_given : (text : List ℕ) (ts a : List Token) → HasPunctuator punctuators.Assign ts a
    → Wraps NoneGiven HasGiven NoInitialiser HasInitialiser text a ts
in_given text ts a o =
    let (sign_at, (sign_end, sign_split)) = o in
    let t = token (kinds.Punctuator punctuators.Assign) sign_at sign_end in record {
      before = t ∷ [];
      split = sign_split;
      no = λ n text' other b s x. none_given (t ∷ other) other (sign_at, (sign_end, refl)) x;
      has = λ n text' inner b s h. record {
        more = [];
        has = record {
          tree = Some h.tree;
          is = λ other. following (λ z. IsInitialiser (Some h.tree) z other) (t ∷ inner) [] other
              (assigned h.tree (t ∷ (inner ++ other)) (inner ++ other) other
              (sign_at, (sign_end, refl)) (h.is other));
        };
      };
    }

further : (i : Initialiser) (ts a rest : List Token) → HasPunctuator punctuators.Assign ts a
    → IsGiven i a rest → (Stops assignment rest → ⊥) → NoInitialiser 0 [] ts
further i ts a rest s g n None end h z = assign_not ts ts end a refl h z s
further i ts a rest s g n (Some j) end h z =
    let b = after_assign j ts end h in
    n (subst (λ (x : List Token). Stops assignment x)
    (sym (given_once i j a b.0 rest end (has_same punctuators.Assign ts ts a b.0 refl s b.1) g
    b.2)) z)

record Given (i : Initialiser) (ts rest : List Token) : Type 0 where
  front : List Token
  split : ts ≡ front ++ rest
  again : (other : List Token) → IsGiven i (front ++ other) other

given_moves : (text : List ℕ) (i : Initialiser) (ts rest : List Token) → IsGiven i ts rest
    → Given i ts rest
given_moves text (Single c) ts rest h = let m = programs.constant c text ts rest h in
    record {
      front = m.front;
      split = m.split;
      again = λ other. m.again text other
          (alike_same text ts);
    }
given_moves text (Several at cs) ts rest (mid, (brace_end, brace_split), constants) =
    let m = programs.constants cs text mid rest constants in
    let t = token (kinds.Punctuator punctuators.OpenBrace) at brace_end in
    record {
      front = t ∷ m.front;
      split = brace_split ∙ ap (λ (z : List Token). t ∷ z) m.split;
      again = λ other. (
        m.front ++ other,
        (brace_end, refl),
        m.again text other
            (alike_same text mid),
      );
    }

pub goes_further : (text : List ℕ) (i : Initialiser) (ts a rest : List Token)
    → HasPunctuator punctuators.Assign ts a → IsGiven i a rest → (Stops assignment rest → ⊥)
    → Failed 0 (place text rest) NoInitialiser HasInitialiser text ts
goes_further text i ts a rest o g n =
    let (sign_at, (sign_end, sign_split)) = o in
    let t = token (kinds.Punctuator punctuators.Assign) sign_at sign_end in
    let m = given_moves text i a rest g in
    missing NoInitialiser HasInitialiser text ts (t ∷ m.front) rest
    (sign_split ∙ ap (λ (z : List Token). t ∷ z) m.split)
    (λ text' other s. further i (t ∷ (m.front ++ other)) (m.front ++ other) other
    (sign_at, (sign_end, refl)) (m.again other) (refusing_continues assignment rest other s n))
    (λ text'. record {
      more = [];
      has = record {
        tree = Some i;
        is = λ other. following (λ z. IsInitialiser (Some i) z other)
            (t ∷ m.front) [] other (assigned i (t ∷ (m.front ++ other)) (m.front ++ other) other
            (sign_at, (sign_end, refl)) (m.again other));
      };
    })

unassigned : (ts : List Token) → Lacks punctuators.Assign ts → (Stops assignment ts → ⊥)
    → NoInitialiser 0 [] ts
unassigned ts l n None end h z = n (subst (λ (x : List Token). Stops assignment x) (sym h) z)
unassigned ts l n (Some i) end h z = let b = after_assign i ts end h in l b.0 b.1

pub not_assigned : (text : List ℕ) (ts : List Token) → Lacks punctuators.Assign ts
    → (Stops assignment ts → ⊥) → Failed 0 (place text ts) NoInitialiser HasInitialiser text ts
not_assigned text ts l n =
    missing NoInitialiser HasInitialiser text ts [] ts refl
    (λ text' other s. unassigned other (firsts.no_punctuator punctuators.Assign ts other s l)
    (refusing_continues assignment ts other s n))
    (λ text'. record { more = []; has = record { tree = None; is = λ other. refl } })
