-- The globals of a declaration are read in a loop.
use Rattle.std.proofs.Common.{◌≡◌, ◌≤◌, ℕ, List, [], ◌∷◌, ◌++◌, map, refl, sym, ap, ◌∙◌, subst}
use Rattle.std.proofs.Common.{arith}
use Rattle.std.proofs.lemmas.List.{append-nil}
use Rattle.c_lex.specs.declared.punctuator.Punctuator.TheVariants as punctuators
use Rattle.c_lex.specs.declared.token.Kind.TheVariants as kinds
use Rattle.c_parse.specs.Words.{Token, Base, SameFirst, Wraps, Stops, end_of_globals, assignment, Global, global, IsGlobal, AreMoreGlobals, AreGlobals, token, HasPunctuator, NoPunctuator, APunctuator, end_of, NoGlobal, NoGlobals, HasGlobals}
use Rattle.c_syntax.specs.declared.declaration.Global.{Global as Global'}
use Rattle.c_parse.proofs.Lemmas.{append_append, alike_same, has_same, other_punctuator, global_once, globals_stop}
use Rattle.c_syntax.proofs.MovesPrograms as programs
use Rattle.c_syntax.proofs.Firsts as firsts
use Rattle.c_parse.proofs.Lists.{Begun, Back, continues, snoc}
use Rattle.c_parse.proofs.Refusing.{following, Lacks}
use Rattle.c_parse.proofs.Placing.{grows}

-- what was read of the globals of a declaration, up to the rest, and where they end
abbrev pub Read : Base → ℕ → List Token → List Global' → List Token → ℕ → Type 0
Read base at ts found rest now =
    Begun AreGlobals AreMoreGlobals ts (map global found) rest × ((gs : List Global)
    → end_of_globals base (map global found ++ gs) at ≡ end_of_globals base gs now)

first_back : (ts rest : List Token) (x : Global) → IsGlobal x ts rest → Stops assignment rest
    → Back AreGlobals AreMoreGlobals ts (x ∷ []) rest
first_back ts rest x is s [] end h = absurd h
first_back ts rest x is s (g ∷ gs) end h =
    let u = global_once x g ts ts rest h.0 refl s (globals_stop gs h.0 end h.2) is h.1 in (
      gs,
      ap (λ (z : Global). z ∷ gs) (sym u.0),
      subst (λ (z : List Token). AreMoreGlobals gs z end)
          (sym u.1) h.2,
    )

pub begins : (text : List ℕ) (base : Base) (at now : ℕ) (ts rest : List Token) (x : Global')
    → IsGlobal (global x) ts rest → Stops assignment rest
    → now ≡ end_of base (global x).pointers (global x).length at → Read base at ts (x ∷ []) rest now
begins text base at now ts rest x is s e =
    let m = programs.global (global x) text ts rest is in
    let again : (other : List Token) → IsGlobal (global x) (m.front ++ other) other =
    λ other. m.again text other (alike_same text ts) in (
      record {
        front = m.front;
        split = m.split;
        forward = λ other gs end h. (other, again other, h);
        back = λ other f. first_back (m.front ++ other) other (global x) (again other)
            (firsts.stops assignment rest other f s);
      },
      λ gs. ap (λ (n : ℕ). end_of_globals base gs n) (sym e),
    )

next_back : (rest b after : List Token) (x : Global) → HasPunctuator punctuators.Comma rest b
    → IsGlobal x b after → Stops assignment after → (xs : List Global) (end : List Token)
    → AreMoreGlobals xs rest end → (ys : List Global) × (xs ≡ x ∷ ys) × AreMoreGlobals ys after end
next_back rest b after x k is s [] end m = let e : punctuators.Comma ≡ punctuators.Semicolon =
    other_punctuator punctuators.Comma punctuators.Semicolon rest rest b end refl k m in absurd cc
next_back rest b after x k is s (g ∷ gs) end m =
    let p = has_same punctuators.Comma rest rest b m.after_comma refl k m.comma in
    let u = global_once x g b m.after_comma after m.after_element p s
    (globals_stop gs m.after_element end m.others) is m.element in (
      gs,
      ap (λ (z : Global). z ∷ gs) (sym u.0),
      subst (λ (z : List Token). AreMoreGlobals gs z end) (sym u.1) m.others,
    )

mapped : (found : List Global') (x : Global')
    → map global (found ++ x ∷ []) ≡ map global found ++ global x ∷ []
mapped [] x = refl
mapped (y ∷ found) x = ap (λ (z : List Global). global y ∷ z) (mapped found x)

pub next : (text : List ℕ) (base : Base) (at now further : ℕ) (ts rest b after : List Token)
    (found : List Global') (x : Global') → HasPunctuator punctuators.Comma rest b
    → IsGlobal (global x) b after → Stops assignment after
    → further ≡ end_of base (global x).pointers (global x).length now
    → Read base at ts found rest now → Read base at ts (found ++ x ∷ []) after further
next text base at now further ts rest b after found x k is s e d =
    let (comma_at, (comma_end, comma_split)) = k in
    let m = programs.global (global x) text b after is in
    let again : (other : List Token) → IsGlobal (global x) (m.front ++ other) other =
    λ other. m.again text other (alike_same text b) in
    let t = token (kinds.Punctuator punctuators.Comma) comma_at comma_end in
    let r : Begun AreGlobals AreMoreGlobals ts (map global found ++ global x ∷ []) after =
    continues AreGlobals AreMoreGlobals ts rest (t ∷ m.front) after (map global found)
    (global x) (comma_split ∙ ap (λ (z : List Token). t ∷ z) m.split)
    (λ other gs end h. record {
      after_comma = m.front ++ other;
      after_element = other;
      comma = (comma_at, (comma_end, refl));
      element = again other;
      others = h;
    })
    (λ other f. next_back (t ∷ (m.front ++ other)) (m.front ++ other) other (global x)
    (comma_at, (comma_end, refl)) (again other) (firsts.stops assignment after other f s))
    d.0 in (
      subst (λ (z : List Global). Begun AreGlobals AreMoreGlobals ts z after) (sym (mapped found x))
          r,
      λ gs. ap (λ (z : List Global). end_of_globals base (z ++ gs) at) (mapped found x)
          ∙ ap (λ (z : List Global). end_of_globals base z at)
          (snoc (map global found) (global x) gs) ∙ d.1 (global x ∷ gs)
          ∙ ap (λ (n : ℕ). end_of_globals base gs n) (sym e),
    )

pub ends : (base : Base) (at now : ℕ) (ts rest end : List Token) (found : List Global')
    → Read base at ts found rest now → HasPunctuator punctuators.Semicolon rest end
    → AreGlobals (map global found) ts end
ends base at now ts rest end found d h =
    subst (λ (x : List Token). AreGlobals (map global found) x end) (sym d.0.split)
    (subst (λ (z : List Global). AreGlobals z (d.0.front ++ rest) end)
    (append-nil (map global found)) (d.0.forward rest [] end h))

pub ends_at : (base : Base) (at now : ℕ) (ts rest : List Token) (found : List Global')
    → Read base at ts found rest now → now ≡ end_of_globals base (map global found) at
ends_at base at now ts rest found d =
    sym (ap (λ (z : List Global). end_of_globals base z at) (sym (append-nil (map global found)))
    ∙ d.1 [])

-- ---- refusals

no_first : (base : Base) (at n : ℕ) (text : List ℕ) (ts : List Token) → NoGlobal base at n text ts
    → NoGlobals base at n text ts
no_first base at n text ts none [] end h low = absurd h
no_first base at n text ts none (g ∷ gs) end h low =
    none g gs end h (λ six. let a = grows base gs (end_of base g.pointers g.length at) in
    let b = low six in omega arith)

pub in_first : (text : List ℕ) (base : Base) (at : ℕ) (ts : List Token)
    → Wraps (NoGlobal base at) (HasGlobals base at) (NoGlobals base at) (HasGlobals base at) text ts
    ts
in_first text base at ts = record {
  before = [];
  split = refl;
  no = λ n text' other a s x. no_first base at n text' other x;
  has = λ n text' inner a s h. record {
    more = [];
    has = record {
      trees = h.trees;
      are = λ other. following (λ z. AreGlobals h.trees z other)
          inner [] other (h.are other);
      low = h.low;
    };
  };
}

no_more : (base : Base) (now n : ℕ) (text : List ℕ) (rest b : List Token)
    → HasPunctuator punctuators.Comma rest b → NoGlobal base now n text b
    → (gs : List Global) (end : List Token) → AreMoreGlobals gs rest end
    → (6 ≤ n → end_of_globals base gs now ≤ 1048576) → ⊥
no_more base now n text rest b k none [] end m low =
    let e : punctuators.Comma ≡ punctuators.Semicolon =
    other_punctuator punctuators.Comma punctuators.Semicolon rest rest b end refl k m in absurd cc
no_more base now n text rest b k none (g ∷ gs) end m low =
    none g gs end (
      m.after_element,
      subst (λ (z : List Token). IsGlobal g z m.after_element)
          (has_same punctuators.Comma rest rest m.after_comma b refl m.comma k) m.element,
      m.others,
    )
    (λ six. let a = grows base gs
    (end_of base g.pointers g.length now) in let c = low six in omega arith)

listed : (gs : List Global) (rest ts end : List Token) → HasPunctuator punctuators.Comma rest ts
    → AreGlobals gs ts end → AreMoreGlobals gs rest end
listed [] rest ts end k h = absurd h
listed (g ∷ gs) rest ts end k h = record {
  after_comma = ts;
  after_element = h.0;
  comma = k;
  element = h.1;
  others = h.2;
}

pub in_next : (text : List ℕ) (base : Base) (at now : ℕ) (ts rest b : List Token)
    (found : List Global') → Read base at ts found rest now → HasPunctuator punctuators.Comma rest b
    → Wraps (NoGlobal base now) (HasGlobals base now) (NoGlobals base at) (HasGlobals base at) text
    b ts
in_next text base at now ts rest b found d k =
    let (comma_at, (comma_end, comma_split)) = k in
    let t = token (kinds.Punctuator punctuators.Comma) comma_at comma_end in
    let front = d.0.front in record {
      before = front ++ t ∷ [];
      split = d.0.split ∙ ap (λ (z : List Token). front ++ z) comma_split
          ∙ sym (append_append front (t ∷ []) b);
      no = λ n text' other a s x. following (λ z. NoGlobals base at n text' z) front (t ∷ []) other
          (λ gs end h low.
          let r = d.0.back (t ∷ other)
          (subst (λ (z : List Token). SameFirst z (t ∷ other)) (sym comma_split) (other, refl))
          gs end h in
          no_more base now n text' (t ∷ other) other (comma_at, (comma_end, refl)) x r.0 end r.2
          (λ six. subst (λ (m : ℕ). m ≤ 1048576)
          (ap (λ (z : List Global). end_of_globals base z at) r.1 ∙ d.1 r.0) (low six)));
      has = λ n text' inner a s h. record {
        more = [];
        has = record {
          trees = map global found ++ h.trees;
          are = λ other.
              following (λ z. AreGlobals (map global found ++ h.trees) z other)
              ((front ++ t ∷ []) ++ inner) [] other
              (following (λ z. AreGlobals (map global found ++ h.trees) z other) (front ++ t ∷ [])
              inner other
              (following (λ z. AreGlobals (map global found ++ h.trees) z other) front (t ∷ [])
              (inner ++ other)
              (d.0.forward (t ∷ (inner ++ other)) h.trees other
              (listed h.trees (t ∷ (inner ++ other)) (inner ++ other) other
              (comma_at, (comma_end, refl)) (h.are other)))));
          low = λ six. subst (λ (m : ℕ). m ≤ 1048576) (sym (d.1 h.trees)) (h.low six);
        };
      };
    }

no_end : (rest : List Token) → Lacks punctuators.Comma rest → Lacks punctuators.Semicolon rest
    → (gs : List Global) (end : List Token) → AreMoreGlobals gs rest end → ⊥
no_end rest k s [] end m = s end m
no_end rest k s (g ∷ gs) end m = k m.after_comma m.comma

pub in_end : (text : List ℕ) (base : Base) (at now : ℕ) (ts rest : List Token)
    (found : List Global') → Read base at ts found rest now → now ≤ 1048576
    → Lacks punctuators.Comma rest
    → Wraps (NoPunctuator punctuators.Semicolon) (APunctuator punctuators.Semicolon)
    (NoGlobals base at) (HasGlobals base at) text rest ts
in_end text base at now ts rest found d w k = record {
  before = d.0.front;
  split = d.0.split;
  no = λ n text' other a s x gs end h low.
      let r = d.0.back other s gs end h in
      no_end other (firsts.no_punctuator punctuators.Comma rest other s k) x r.0 end r.2;
  has = λ n text' inner a s h. record {
    more = [];
    has = record {
      trees = map global found ++ [];
      are = λ other. following (λ z. AreGlobals (map global found ++ []) z other)
          (d.0.front ++ inner) [] other
          (following (λ z. AreGlobals (map global found ++ []) z other) d.0.front inner other
          (d.0.forward (inner ++ other) [] other (h other)));
      low = λ six. subst (λ (m : ℕ). m ≤ 1048576) (sym (d.1 [])) w;
    };
  };
}
