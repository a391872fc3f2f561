-- A local of a declaration is read as far as it goes.
use Rattle.std.proofs.Common.{◌≡◌, ◌≤◌, ℕ, List, [], ◌∷◌, ◌++◌, Option, Some, None, refl, sym, ap, subst, append_assoc, arith}
use Rattle.c_parse_stmt.specs.Words.{Punctuator, Token, Length, Base, Identifier, Derives, Alike, SameFirst, place, Able, Onward, Failed, Wraps, follows, Stops, end_of_local, assignment, Local, IsLength, IsInitialiser, IsLocal, token, IsIdentifier, HasPunctuator, AreStars, NoStar, NoExpression, HasExpression, NoInitialiser, HasInitialiser, NoLength, HasLength, NoLocal, HasLocal}
use Rattle.c_lex.specs.declared.punctuator.Punctuator.TheVariants as punctuators
use Rattle.c_lex.specs.declared.token.Kind.TheVariants as kinds
use Rattle.c_parse_stmt.proofs.Lemmas.{name_star, first_keeps, has_same, name_same, stars_once, Moves, both, has_punctuator, derives, stars, name, follows_punctuator}
use Rattle.c_parse_stmt.proofs.Begins.{a_name, variable}
use Rattle.c_syntax.proofs.MovesStatements.{length as sizing}
use Rattle.c_parse_stmt.proofs.Begins as begins
use Rattle.c_parse_stmt.proofs.Ends.{flat}
use Rattle.c_parse_stmt.proofs.Lengths.{Bare, same_length, still_bare}
use Rattle.c_parse_stmt.proofs.Placing.{Lacks, lacks_first, has_elsewhere, missing}

-- ---- initialisers

assigned : (ts value rest : List Token) → HasPunctuator punctuators.Assign ts value → ts ≡ rest
    → Stops assignment rest → ⊥
assigned ts value rest h e s =
    let f = follows_punctuator punctuators.Assign h.0 ts value assignment h.1 refl in
    let g = ap follows e in absurd (omega arith)

pub has_first : (s : Punctuator) (ts rest other : List Token) → HasPunctuator s ts rest
    → SameFirst ts other → (end : List Token) × HasPunctuator s other end
has_first s [] rest other h same = absurd cc
has_first s (t ∷ ts) rest other h same = (
  same.0,
  subst (λ (z : List Token). HasPunctuator s z same.0) (sym same.1)
      (has_elsewhere s t ts same.0 rest h),
)

unassigned : (room n : ℕ) (text : List ℕ) → Able (HasInitialiser room) n text []
unassigned room n text = record {
  more = [];
  has =
      record { tree = None; is = λ other. refl; low = λ k. omega arith; over = λ k. omega arith };
}

pub no_room : (text : List ℕ) (ts value : List Token) → HasPunctuator punctuators.Assign ts value
    → Failed 1 (place text ts) (NoInitialiser 0) (HasInitialiser 0) text ts
no_room text ts value h = record {
  front = [];
  fault = ts;
  split = refl;
  located = refl;
  against = against;
  able = λ text' a k. unassigned 0 7 text';
  further = λ text' k a speaks e. let z : 0 ≡ k = omega arith in
      subst (λ n. Onward (HasInitialiser 0) n text' [] ts) z (record {
        token = token (kinds.Punctuator punctuators.Assign) h.0 h.1.0;
        rest = value;
        more = begins.name ∷ [];
        is = h.1.1;
        has = record {
          tree = Some variable;
          is = λ other.
              (_, (h.0, (h.1.0, refl)), record { fits = omega arith; spells = refl });
          low = λ k. absurd (omega arith);
          over = λ k. absurd (omega arith);
        };
      });
}
  where
    against : (text' : List ℕ) (other : List Token) → Alike text text' ts → SameFirst ts other
        → NoInitialiser 0 1 text' other
    against text' other a same None end g st low over = let x = has_first punctuators.Assign ts
        value other h same in assigned other x.0 end x.1 g st
    against text' other a same (Some e) end g st low over = let x = over (omega arith) in
        absurd (omega arith)

pub in_initialiser : (text : List ℕ) (room : ℕ) (ts value : List Token)
    → HasPunctuator punctuators.Assign ts value → 1 ≤ room
    → Wraps (NoExpression assignment 64) (HasExpression assignment 64) (NoInitialiser room)
    (HasInitialiser room) text value ts
in_initialiser text room ts value h some = record {
  before = m.front;
  split = m.split;
  no = against;
  has = λ n text' inner a speaks x. record {
    more = [];
    has = record {
      tree = Some x.tree;
      is = λ other. subst (λ (z : List Token). IsInitialiser text' (Some x.tree) z other)
          (sym (flat m.front inner [] other)) (
            inner ++ other,
            m.again text' (inner ++ other) a,
            x.derives other,
          );
      low = x.low;
      over = λ k. some;
    };
  };
}
  where
    m : Moves (λ t. HasPunctuator punctuators.Assign) text ts value
    m = has_punctuator punctuators.Assign text ts value h

    against : (n : ℕ) (text' : List ℕ) (other : List Token) → Alike text text' ts
        → SameFirst value other → NoExpression assignment 64 n text' other
        → NoInitialiser room n text' (m.front ++ other)
    against n text' other a same none None end g st low over = assigned (m.front ++ other) other end
        (m.again text' other a) g st
    against n text' other a same none (Some e) end g st low over =
        let p = has_same punctuators.Assign (m.front ++ other) (m.front ++ other) g.0 other refl g.1
        (m.again text' other a) in
        none e end (subst (λ (x : List Token). Derives text' assignment e x end) p g.2) st low

pub operator_after : (text : List ℕ) (room : ℕ) (ts : List Token) → follows ts ≤ assignment
    → Lacks punctuators.Assign ts → Failed 0 (place text ts) (NoInitialiser room)
    (HasInitialiser room) text ts
operator_after text room ts l none = missing (NoInitialiser room) (HasInitialiser room) text ts []
    ts refl against (λ text' a k. unassigned room 7 text')
  where
    against : (text' : List ℕ) (other : List Token) → Alike text text' ts → SameFirst ts other
        → NoInitialiser room 0 text' other
    against text' other a same None end h st low over =
        let p = first_keeps (λ z. follows ts ≡ follows z) (λ t xs ys n. n) ts other same refl in
        let q = ap follows h in absurd (omega arith)
    against text' other a same (Some e) end h st low over = lacks_first punctuators.Assign ts other
        same none h.0 h.1

-- ---- one local

-- the shortest one
abbrev pub plain : Local
plain = record { pointers = 0; name = a_name; length = None; initialiser = None }

-- its stars and its name are the same ones
declarator_once : (n : ℕ) (named : Identifier) (ts d b : List Token) (l : Local) (a c : List Token)
    → AreStars n ts d → IsIdentifier named d b → AreStars l.pointers ts a
    → IsIdentifier l.name a c → (n ≡ l.pointers) × (b ≡ c)
declarator_once n named ts d b l a c s m h k =
    let p = stars_once n l.pointers ts ts d a refl (name_star named d b m) (name_star l.name a c k)
    s h in
    let q = name_same named l.name d a b c p.1 m k in
    (p.0, q.1)

pub in_length : (text : List ℕ) (base : Base) (at room n : ℕ) (named : Identifier)
    (ts d b : List Token) → AreStars n ts d → IsIdentifier named d b
    → Wraps (NoLength base n at) (HasLength base n at) (NoLocal base at room)
    (HasLocal base at room) text b ts
in_length text base at room n named ts d b s m =
    let w = both (stars n text ts d s) (name named text d b m) in
    record {
      before = w.front;
      split = w.split;
      no = λ k text' other a same none l end h st low over bytes.
          let g = w.again text' other a in
          let q = declarator_once n named (w.front ++ other) g.0 other l h.after_stars h.after_name
          g.1 g.2 h.stars h.name in
          none l.length l.initialiser end (record {
            after_length = h.after_length;
            length = subst (λ (x : List Token). IsLength l.length x h.after_length) (sym q.1)
                h.length;
            initialiser = h.initialiser;
          }) st (λ i. subst (λ (x : ℕ). end_of_local base x l.length at ≤ 65536) (sym q.0)
          (bytes i));
      has = λ k text' inner a speaks x. record {
        more = [];
        has = record {
          tree = record { pointers = n; name = named; length = Some x.tree; initialiser = None };
          is = λ other.
              let g = w.again text' (inner ++ other) a in
              subst (λ (z : List Token). IsLocal text'
              (record { pointers = n; name = named; length = Some x.tree; initialiser = None }) z
              other) (sym (flat w.front inner [] other)) (record {
                after_stars = g.0;
                after_name = inner ++ other;
                after_length = other;
                stars = g.1;
                name = g.2;
                length = x.is other;
                initialiser = refl;
              });
          low = λ i. omega arith;
          over = λ i. omega arith;
          bytes = x.low;
        };
      };
    }

-- stars, a name and a length
abbrev Declarator : ℕ → Identifier → Option Length → List ℕ → List Token → List Token → Type 0
Declarator n named i text ts rest =
    (d : List Token) × AreStars n ts d
    × ((b : List Token) × IsIdentifier named d b × IsLength i b rest)

pub in_local : (text : List ℕ) (base : Base) (at room n : ℕ) (named : Identifier)
    (i : Option Length) (ts d b c : List Token) → AreStars n ts d → IsIdentifier named d b
    → IsLength i b c → Bare i b → end_of_local base n i at ≤ 65536
    → Wraps (NoInitialiser room) (HasInitialiser room) (NoLocal base at room)
    (HasLocal base at room) text c ts
in_local text base at room n named i ts d b c s m z bare fits =
    let v = sizing i text b c z in
    let w : Moves (Declarator n named i) text ts c = both (stars n text ts d s)
    (both (name named text d b m) v) in
    record {
      before = w.front;
      split = w.split;
      no = λ k text' other a same none l end h st low over bytes.
          let g = w.again text' other a in
          let q = declarator_once n named (w.front ++ other) g.0 g.2.0 l h.after_stars h.after_name
          g.1 g.2.1 h.stars h.name in
          let j = same_length text' i l.length l.initialiser g.2.0 other h.after_length end g.2.2
          (still_bare i b c g.2.0 other z bare g.2.2 same)
          (subst (λ (x : List Token). IsLength l.length x h.after_length) (sym q.1) h.length)
          h.initialiser st in
          none l.initialiser end (subst (λ (x : List Token). IsInitialiser text' l.initialiser x
          end) (sym j.1) h.initialiser) st low over;
      has = λ k text' inner a speaks x. record {
        more = [];
        has = record {
          tree = record { pointers = n; name = named; length = i; initialiser = x.tree };
          is = λ other.
              let g = w.again text' (inner ++ other) a in
              subst (λ (z : List Token). IsLocal text'
              (record { pointers = n; name = named; length = i; initialiser = x.tree }) z other)
              (sym (flat w.front inner [] other)) (record {
                after_stars = g.0;
                after_name = g.2.0;
                after_length = inner ++ other;
                stars = g.1;
                name = g.2.1;
                length = g.2.2;
                initialiser = x.is other;
              });
          low = x.low;
          over = x.over;
          bytes = λ i. fits;
        };
      };
    }

abbrev NoIdentifier : List Token → Type 0
NoIdentifier ts = (named : Identifier) (rest : List Token) → IsIdentifier named ts rest → ⊥

named_elsewhere : (t : Token) (xs ys : List Token) → NoIdentifier (t ∷ xs) → NoIdentifier (t ∷ ys)
named_elsewhere t xs ys none named rest h =
    let p : t ≡ token kinds.Identifier named.start named.end = cc in
    none named xs (ap (λ (z : Token). z ∷ xs) p)

pub no_name : (text : List ℕ) (base : Base) (at room n : ℕ) (ts d : List Token) → at ≤ 65536
    → AreStars n ts d → NoStar d → NoIdentifier d
    → Failed 0 (place text d) (NoLocal base at room) (HasLocal base at room) text ts
no_name text base at room n ts d limit s z none =
    let w = stars n text ts d s in
    missing (NoLocal base at room) (HasLocal base at room) text ts w.front d w.split
    (λ text' other a same l end h st low over bytes.
    let p = stars_once n l.pointers (w.front ++ other) (w.front ++ other) other h.after_stars refl
    (lacks_first punctuators.Star d other same z)
    (name_star l.name h.after_stars h.after_name h.name) (w.again text' other a) h.stars in
    first_keeps NoIdentifier named_elsewhere d other same none l.name h.after_name
    (subst (λ (x : List Token). IsIdentifier l.name x h.after_name) (sym p.1) h.name))
    (λ text' a k. record {
      more = begins.name ∷ [];
      has = record {
        tree = record { pointers = n; name = a_name; length = None; initialiser = None };
        is =
            λ other. subst (λ (z : List Token). IsLocal text'
            (record { pointers = n; name = a_name; length = None; initialiser = None }) z other)
            (sym (append_assoc w.front (begins.name ∷ []) other)) (record {
              after_stars = begins.name ∷ other;
              after_name = other;
              after_length = other;
              stars = w.again text' (begins.name ∷ other) a;
              name = refl;
              length = refl;
              initialiser = refl;
            });
        low = λ k. omega arith;
        over = λ k. omega arith;
        bytes = λ k. limit;
      };
    })
