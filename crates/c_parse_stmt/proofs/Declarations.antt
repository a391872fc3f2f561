-- Locals of a declaration are read as far as they go.
use Rattle.std.proofs.Common.{◌≡◌, ◌≤◌, ◌+◌, ℕ, List, [], ◌∷◌, ◌++◌, length, map, refl, sym, ap, ◌∙◌, subst, append_assoc, arith}
use Rattle.std.proofs.lemmas.List.{append-nil}
use Rattle.c_parse_stmt.specs.Words.{Punctuator, Token, Base, Alike, SameFirst, place, Onward, Failed, Wraps, Stops, height_of, one_over, height_of_locals, one_over_locals, end_of_local, end_of_locals, assignment, Local, local, IsLocal, AreMoreLocals, AreLocals, token, HasPunctuator, NoPunctuator, APunctuator, NoLocal, HasLocal, LocalsWithin, NoMoreLocals, NoLocals, HasLocals, Remaining, bytes_so_far}
use Rattle.c_lex.specs.declared.punctuator.Punctuator.TheVariants as punctuators
use Rattle.c_lex.specs.declared.token.Kind.TheVariants as kinds
use Rattle.c_syntax.specs.declared.statement.Local.{Local as Local'}
use Rattle.c_parse_stmt.proofs.Lemmas.{locals_stop, alike_inner, alike_same, punctuator_same, has_same, both, has_punctuator}
use Rattle.c_syntax.proofs.Declarations.{local as one_local}
use Rattle.c_syntax.proofs.MovesStatements.{local as local_moves}
use Rattle.c_parse_stmt.proofs.Begins.{punctuator, name}
use Rattle.c_parse_stmt.proofs.Declarators.{plain, has_first}
use Rattle.c_parse_stmt.proofs.Ends.{flat, stops_first, same_after}
use Rattle.c_parse_stmt.proofs.Placing.{Lacks, lacks_first}
use Rattle.c_parse_stmt.proofs.ArrayEnds.{locals_grow}

-- ---- lists of locals

-- What was read of the locals, and what is left: they continue with what is at the rest, and there
-- are none if none are there.
pub record Begun (text : List ℕ) (base : Base) (room : ℕ) (whole : Remaining) (ts : List Token)
    (found : List Local') (rest : List Token) (left : Remaining) : Type 0 where
  pub before : List Token
  pub split : ts ≡ before ++ rest
  pub forward : (text' : List ℕ) (other : List Token) → Alike text text' ts
      → (ls : List Local) (end : List Token) → AreMoreLocals text' ls other end
      → AreLocals text' (map local found ++ ls) (before ++ other) end
  pub expressions : height_of_locals (map local found) ≤ 64
  pub statements : one_over_locals (map local found) ≤ room
  pub count : left.locals + length (map local found) ≡ whole.locals
  pub bytes : bytes_so_far left.bytes
      ≡ end_of_locals base (map local found) (bytes_so_far whole.bytes)
  pub funclets : left.funclets ≡ whole.funclets
  pub back : (n : ℕ) (text' : List ℕ) (other : List Token) → Alike text text' ts
      → SameFirst rest other → NoMoreLocals base room left n text' other
      → NoLocals base room whole n text' (before ++ other)

-- what is left after one more
pub record After (base : Base) (whole left : Remaining) (l : Local) : Type 0 where
  pub count : left.locals + 1 ≡ whole.locals
  pub bytes : bytes_so_far left.bytes
      ≡ end_of_local base l.pointers l.length (bytes_so_far whole.bytes)
  pub funclets : left.funclets ≡ whole.funclets

pub after : (base : Base) (whole left : Remaining) (l : Local') (bytes : ℕ)
    → left.locals + 1 ≡ whole.locals → left.bytes ≡ bytes → left.funclets ≡ whole.funclets
    → bytes_so_far bytes
    ≡ end_of_local base (local l).pointers (local l).length (bytes_so_far whole.bytes)
    → After base whole left (local l)
after base whole left l bytes c b f e = record {
  count = c;
  bytes = ap bytes_so_far b ∙ e;
  funclets = f;
}

-- those after the first
less : (base : Base) (n room : ℕ) (whole left : Remaining) (x l : Local) (ls : List Local) → x ≡ l
    → After base whole left x → LocalsWithin base n room whole (l ∷ ls)
    → LocalsWithin base n room left ls
less base n room whole left x l ls same a w = record {
  expressions = λ k. let e = w.expressions k in omega arith;
  statements = λ k. let e = w.statements k in omega arith;
  count = λ k. let e = w.count k in let c = a.count in omega arith;
  bytes = λ k. subst (λ z. end_of_locals base ls z ≤ 65536)
      (sym (a.bytes ∙ ap (λ (z : Local). end_of_local base z.pointers z.length
      (bytes_so_far whole.bytes)) same)) (w.bytes k);
}

first_back : (text : List ℕ) (base : Base) (room : ℕ) (whole left : Remaining) (n : ℕ)
    (ts rest : List Token) (x : Local) → IsLocal text x ts rest → Stops assignment rest
    → After base whole left x
    → NoMoreLocals base room left n text rest → NoLocals base room whole n text ts
first_back text base room whole left n ts rest x is st c none [] end h w = absurd h
first_back text base room whole left n ts rest x is st c none (l ∷ ls) end h w =
    let u = one_local text x l ts ts rest h.0 refl st (locals_stop text ls h.0 end h.2) is h.1 in
    none ls end (subst (λ (z : List Token). AreMoreLocals text ls z end) (sym u.1) h.2)
    (less base n room whole left x l ls u.0 c w)

pub begins : (text : List ℕ) (base : Base) (room : ℕ) (whole left : Remaining)
    (ts rest : List Token)
    (x : Local') → IsLocal text (local x) ts rest → Stops assignment rest
    → height_of (local x).initialiser ≤ 64 → one_over (local x).initialiser ≤ room
    → After base whole left (local x)
    → Begun text base room whole ts (x ∷ []) rest left
begins text base room whole left ts rest x is st low over c =
    let m = local_moves (local x) text ts rest is in
    record {
      before = m.front;
      split = m.split;
      forward = λ text' other a ls end h. (other, m.again text' other a, h);
      expressions = omega arith;
      statements = omega arith;
      count = c.count;
      bytes = c.bytes;
      funclets = c.funclets;
      back = λ n text' other a same. first_back text' base room whole left n (m.front ++ other)
          other (local x) (m.again text' other a) (stops_first assignment rest other same st) c;
    }

map_snoc : (xs : List Local') (x : Local') (ls : List Local)
    → map local (xs ++ x ∷ []) ++ ls ≡ map local xs ++ local x ∷ ls
map_snoc [] x ls = refl
map_snoc (y ∷ xs) x ls = ap (λ (z : List Local). local y ∷ z) (map_snoc xs x ls)

height_more : (n : ℕ) (xs : List Local) (x : Local) → height_of_locals xs ≤ n
    → height_of x.initialiser ≤ n → height_of_locals (xs ++ x ∷ []) ≤ n
height_more n [] x h g = omega arith
height_more n (y ∷ xs) x h g = let r = height_more n xs x (omega arith) g in omega arith

over_more : (n : ℕ) (xs : List Local) (x : Local) → one_over_locals xs ≤ n
    → one_over x.initialiser ≤ n → one_over_locals (xs ++ x ∷ []) ≤ n
over_more n [] x h g = omega arith
over_more n (y ∷ xs) x h g = let r = over_more n xs x (omega arith) g in omega arith

length_more : (xs : List Local) (x : Local) → length (xs ++ x ∷ []) ≡ length xs + 1
length_more [] x = refl
length_more (y ∷ xs) x = let r = length_more xs x in omega arith

end_more : (base : Base) (xs : List Local) (x : Local) (from : ℕ)
    → end_of_locals base (xs ++ x ∷ []) from
    ≡ end_of_local base x.pointers x.length (end_of_locals base xs from)
end_more base [] x from = refl
end_more base (y ∷ xs) x from = end_more base xs x (end_of_local base y.pointers y.length from)

map_more : (xs : List Local') (x : Local') → map local (xs ++ x ∷ []) ≡ map local xs ++ local x ∷ []
map_more xs x = sym (append-nil (map local (xs ++ x ∷ []))) ∙ map_snoc xs x []

other_punctuator : (s z : Punctuator) (ts rest end : List Token) → HasPunctuator s ts rest
    → HasPunctuator z ts end → s ≡ z
other_punctuator s z ts rest end h g = (punctuator_same s z h.0 g.0 ts ts rest end refl h.1 g.1).0

next_back : (text : List ℕ) (base : Base) (room : ℕ) (left more : Remaining) (n : ℕ)
    (rest b after : List Token) (x : Local) → HasPunctuator punctuators.Comma rest b
    → IsLocal text x b after → Stops assignment after → After base left more x
    → NoMoreLocals base room more n text after → NoMoreLocals base room left n text rest
next_back text base room left more n rest b after x c is st e none [] end h w =
    let e : punctuators.Comma ≡ punctuators.Semicolon =
    other_punctuator punctuators.Comma punctuators.Semicolon rest b end c h in cc
next_back text base room left more n rest b after x c is st e none (l ∷ ls) end h w =
    let p = has_same punctuators.Comma rest rest b h.after_comma refl c h.comma in
    let u = one_local text x l b h.after_comma after h.after_element p st
    (locals_stop text ls h.after_element end h.others) is h.element in
    none ls end (subst (λ (z : List Token). AreMoreLocals text ls z end) (sym u.1) h.others)
    (less base n room left more x l ls u.0 e w)

pub continues : (text : List ℕ) (base : Base) (room : ℕ) (whole left more : Remaining)
    (ts rest b after : List Token) (found : List Local') (x : Local')
    → Begun text base room whole ts found rest left
    → HasPunctuator punctuators.Comma rest b → IsLocal text (local x) b after
    → Stops assignment after → height_of (local x).initialiser ≤ 64
    → one_over (local x).initialiser ≤ room → After base left more (local x)
    → Begun text base room whole ts (found ++ x ∷ []) after more
continues text base room whole left more ts rest b after found x d c is st low over e =
    let m = both (has_punctuator punctuators.Comma text rest b c)
    (local_moves (local x) text b after is) in
    record {
      before = d.before ++ m.front;
      split = d.split ∙ ap (λ z. d.before ++ z) m.split ∙ sym (append_assoc d.before m.front after);
      forward = λ text' other a ls end h.
          let g = m.again text' other (alike_inner text text' d.before rest ts d.split a) in
          let f = d.forward text' (m.front ++ other) a (local x ∷ ls) end (record {
            after_comma = g.0;
            after_element = other;
            comma = g.1;
            element = g.2;
            others = h;
          }) in
          subst (λ (z : List Local). AreLocals text' z (d.before ++ m.front ++ other) end)
          (sym (map_snoc found x ls)) (subst
          (λ (z : List Token). AreLocals text' (map local found ++ local x ∷ ls) z end)
          (sym (append_assoc d.before m.front other)) f);
      expressions = subst (λ (z : List Local). height_of_locals z ≤ 64) (sym (map_more found x))
          (height_more 64 (map local found) (local x) d.expressions low);
      statements = subst (λ (z : List Local). one_over_locals z ≤ room) (sym (map_more found x))
          (over_more room (map local found) (local x) d.statements over);
      count = let p = ap length (map_more found x) in
          let q = length_more (map local found) (local x) in let f = d.count in
          let c = e.count in omega arith;
      bytes = e.bytes ∙ ap (end_of_local base (local x).pointers (local x).length) d.bytes
          ∙ sym (end_more base (map local found) (local x) (bytes_so_far whole.bytes))
          ∙ ap (λ (z : List Local). end_of_locals base z (bytes_so_far whole.bytes))
          (sym (map_more found x));
      funclets = e.funclets ∙ d.funclets;
      back = λ n text' other a same none.
          let g = m.again text' other (alike_inner text text' d.before rest ts d.split a) in
          subst (λ (z : List Token). NoLocals base room whole n text' z)
          (sym (append_assoc d.before m.front other))
          (d.back n text' (m.front ++ other) a (same_after m.front after rest other m.split same)
          (next_back text' base room left more n (m.front ++ other) g.0 other (local x) g.1 g.2
          (stops_first assignment after other same st) e none));
    }

pub ends : (text : List ℕ) (base : Base) (room : ℕ) (whole left : Remaining)
    (ts rest end : List Token) (found : List Local')
    → Begun text base room whole ts found rest left
    → HasPunctuator punctuators.Semicolon rest end → AreLocals text (map local found) ts end
ends text base room whole left ts rest end found d h =
    subst (λ (z : List Token). AreLocals text (map local found) z end) (sym d.split)
    (subst (λ (z : List Local). AreLocals text z (d.before ++ rest) end)
    (append-nil (map local found)) (d.forward text rest (alike_same text ts) [] end h))

-- ---- where they fail

-- the locals found so far and further ones, up to the semicolon
closed : (text : List ℕ) (base : Base) (room : ℕ) (whole left : Remaining) (ts rest : List Token)
    (found : List Local') (d : Begun text base room whole ts found rest left) (text' : List ℕ)
    (other end : List Token)
    → Alike text text' ts → HasPunctuator punctuators.Semicolon other end
    → AreLocals text' (map local found) (d.before ++ other) end
closed text base room whole left ts rest found d text' other end a h = subst
    (λ (z : List Local). AreLocals text' z (d.before ++ other) end) (append-nil (map local found))
    (d.forward text' other a [] end h)

pub full : (text : List ℕ) (base : Base) (room : ℕ) (whole left : Remaining)
    (ts rest b : List Token)
    (found : List Local') → Begun text base room whole ts found rest left → left.locals ≡ 0
    → HasPunctuator punctuators.Comma rest b
    → Failed 2 (place text rest) (NoLocals base room whole) (HasLocals base room whole) text ts
full text base room whole left ts rest b found d zero c = record {
  front = d.before;
  fault = rest;
  split = d.split;
  located = refl;
  against = λ text' other a same. d.back 2 text' other a same (against text' other same);
  able = λ text' a k. record {
    more = punctuator punctuators.Semicolon ∷ [];
    has = record {
      trees = map local found;
      are = λ other. subst (λ (z : List Token). AreLocals text' (map local found) z other)
          (sym (append_assoc d.before (punctuator punctuators.Semicolon ∷ []) other))
          (closed text base room whole left ts rest found d text'
          (punctuator punctuators.Semicolon ∷ other) other a (0, (0, refl)));
      within = record {
        expressions = λ k. d.expressions;
        statements = λ k. d.statements;
        count = λ k. let e = d.count in omega arith;
        bytes = λ k. let e = d.bytes in omega arith;
      };
    };
  };
  further = λ text' k a speaks e. let z : 1 ≡ k = omega arith in
      subst (λ n. Onward (HasLocals base room whole) n text' d.before rest) z (record {
        token = token (kinds.Punctuator punctuators.Comma) c.0 c.1.0;
        rest = b;
        more = name ∷ punctuator punctuators.Semicolon ∷ [];
        is = c.1.1;
        has = record {
          trees = map local found ++ plain ∷ [];
          are =
              λ other. subst (λ (z : List Token). AreLocals text'
              (map local found ++ plain ∷ []) z other)
              (sym (append_assoc d.before (token (kinds.Punctuator punctuators.Comma) c.0 c.1.0
              ∷ name ∷ punctuator punctuators.Semicolon ∷ []) other))
              (d.forward text' (token (kinds.Punctuator punctuators.Comma) c.0 c.1.0
              ∷ name ∷ punctuator punctuators.Semicolon ∷ other) a (plain ∷ []) other (record {
                after_comma = _;
                after_element = punctuator punctuators.Semicolon ∷ other;
                comma = (c.0, (c.1.0, refl));
                element = record {
                  after_stars = _;
                  after_name = _;
                  after_length = _;
                  stars = refl;
                  name = refl;
                  length = refl;
                  initialiser = refl;
                };
                others = (0, (0, refl));
              }));
          within = record {
            expressions = λ k. height_more 64 (map local found) plain d.expressions (omega arith);
            statements = λ k. over_more room (map local found) plain d.statements (omega arith);
            count = λ k. absurd (omega arith);
            bytes = λ k. absurd (omega arith);
          };
        };
      });
}
  where
    against : (text' : List ℕ) (other : List Token) → SameFirst rest other
        → NoMoreLocals base room left 2 text' other
    against text' other same [] end h w = let x = has_first punctuators.Comma rest b other c same in
        let e : punctuators.Comma ≡ punctuators.Semicolon = other_punctuator punctuators.Comma
        punctuators.Semicolon other x.0 end x.1 h in cc
    against text' other same (l ∷ ls) end h w = let n = w.count (omega arith) in
        absurd (omega arith)

-- the first array ends before the others do
first_fits : (base : Base) (l : Local) (ls : List Local) (from : ℕ)
    → end_of_locals base (l ∷ ls) from ≤ 65536
    → end_of_local base l.pointers l.length from ≤ 65536
first_fits base l ls from h =
    let a = locals_grow base ls (end_of_local base l.pointers l.length from) in omega arith

next_none : (text : List ℕ) (base : Base) (room : ℕ) (left : Remaining) (n : ℕ)
    (rest b : List Token)
    → HasPunctuator punctuators.Comma rest b
    → NoLocal base (bytes_so_far left.bytes) room n text b → NoMoreLocals base room left n text rest
next_none text base room left n rest b c none [] end h w = let e : punctuators.Comma
    ≡ punctuators.Semicolon = other_punctuator punctuators.Comma punctuators.Semicolon rest b end c
    h in cc
next_none text base room left n rest b c none (l ∷ ls) end h w =
    let p = has_same punctuators.Comma rest rest h.after_comma b refl h.comma c in
    none l h.after_element (subst (λ (z : List Token). IsLocal text l z h.after_element) p
    h.element) (locals_stop text ls h.after_element end h.others)
    (λ k. let e = w.expressions k in omega arith) (λ k. let e = w.statements k in omega arith)
    (λ k. first_fits base l ls (bytes_so_far left.bytes) (w.bytes k))

pub no_next : (text : List ℕ) (base : Base) (room : ℕ) (whole left : Remaining)
    (ts rest b : List Token) (found : List Local') → Begun text base room whole ts found rest left
    → HasPunctuator punctuators.Comma rest b → 1 ≤ left.locals
    → Wraps (NoLocal base (bytes_so_far left.bytes) room)
    (HasLocal base (bytes_so_far left.bytes) room) (NoLocals base room whole)
    (HasLocals base room whole) text b ts
no_next text base room whole left ts rest b found d c some =
    let m = has_punctuator punctuators.Comma text rest b c in
    record {
      before = d.before ++ m.front;
      split = d.split ∙ ap (λ z. d.before ++ z) m.split ∙ sym (append_assoc d.before m.front b);
      no = λ n text' other a same none.
          subst (λ (z : List Token). NoLocals base room whole n text' z)
          (sym (append_assoc d.before m.front other))
          (d.back n text' (m.front ++ other) a (same_after m.front b rest other m.split same)
          (next_none text' base room left n (m.front ++ other) other
          (m.again text' other (alike_inner text text' d.before rest ts d.split a)) none));
      has = λ n text' inner a speaks h. record {
        more = punctuator punctuators.Semicolon ∷ [];
        has = record {
          trees = map local found ++ h.tree ∷ [];
          are = λ other.
              let g = m.again text' (inner ++ punctuator punctuators.Semicolon ∷ other)
              (alike_inner text text' d.before rest ts d.split a) in
              let p = flat (d.before ++ m.front) inner (punctuator punctuators.Semicolon ∷ []) other
              ∙ append_assoc d.before m.front
              (inner ++ punctuator punctuators.Semicolon ∷ other) in
              subst (λ (z : List Token). AreLocals text' (map local found ++ h.tree ∷ []) z other)
              (sym p)
              (d.forward text' (m.front ++ (inner ++ punctuator punctuators.Semicolon ∷ other)) a
              (h.tree ∷ []) other (record {
                after_comma = inner ++ punctuator punctuators.Semicolon ∷ other;
                after_element = punctuator punctuators.Semicolon ∷ other;
                comma = g;
                element = h.is (punctuator punctuators.Semicolon ∷ other);
                others = (0, (0, refl));
              }));
          within = record {
            expressions = λ k. height_more 64 (map local found) h.tree d.expressions (h.low k);
            statements = λ k. over_more room (map local found) h.tree d.statements (h.over k);
            count = λ k. let e = d.count in let f = length_more (map local found) h.tree in
                omega arith;
            bytes = λ k. subst (λ z. z ≤ 65536)
                (ap (end_of_local base h.tree.pointers h.tree.length) d.bytes
                ∙ sym (end_more base (map local found) h.tree (bytes_so_far whole.bytes)))
                (h.bytes k);
          };
        };
      };
    }

unended_at : (text : List ℕ) (base : Base) (room : ℕ) (left : Remaining) (n : ℕ) (rest : List Token)
    → Lacks punctuators.Comma rest
    → Lacks punctuators.Semicolon rest → NoMoreLocals base room left n text rest
unended_at text base room left n rest c s [] end h w = s end h
unended_at text base room left n rest c s (l ∷ ls) end h w = c h.after_comma h.comma

pub unended : (text : List ℕ) (base : Base) (room : ℕ) (whole left : Remaining)
    (ts rest : List Token)
    (found : List Local') → Begun text base room whole ts found rest left
    → Lacks punctuators.Comma rest
    → Wraps (NoPunctuator punctuators.Semicolon) (APunctuator punctuators.Semicolon)
    (NoLocals base room whole) (HasLocals base room whole) text rest ts
unended text base room whole left ts rest found d lacks = record {
  before = d.before;
  split = d.split;
  no = λ n text' other a same none. d.back n text' other a same
      (unended_at text' base room left n other (lacks_first punctuators.Comma rest other same lacks)
      none);
  has = λ n text' inner a speaks h. record {
    more = [];
    has = record {
      trees = map local found;
      are = λ other. subst (λ (z : List Token). AreLocals text' (map local found) z other)
          (sym (flat d.before inner [] other))
          (closed text base room whole left ts rest found d text' (inner ++ other) other a
          (h other));
      within = record {
        expressions = λ k. d.expressions;
        statements = λ k. d.statements;
        count = λ k. let e = d.count in omega arith;
        bytes = λ k. let e = d.bytes in omega arith;
      };
    };
  };
}

pub no_first : (text : List ℕ) (base : Base) (room : ℕ) (left : Remaining) (ts : List Token)
    → 1 ≤ left.locals → Wraps (NoLocal base (bytes_so_far left.bytes) room)
    (HasLocal base (bytes_so_far left.bytes) room) (NoLocals base room left)
    (HasLocals base room left) text ts ts
no_first text base room left ts some = record {
  before = [];
  split = refl;
  no = against;
  has = λ n text' inner a speaks h. record {
    more = punctuator punctuators.Semicolon ∷ [];
    has = record {
      trees = h.tree ∷ [];
      are = λ other. (
        punctuator punctuators.Semicolon ∷ other,
        subst (λ (z : List Token). IsLocal text' h.tree z
            (punctuator punctuators.Semicolon ∷ other))
            (sym (append_assoc inner (punctuator punctuators.Semicolon ∷ []) other))
            (h.is (punctuator punctuators.Semicolon ∷ other)),
        (0, (0, refl)),
      );
      within = record {
        expressions = λ k. let e = h.low k in omega arith;
        statements = λ k. let e = h.over k in omega arith;
        count = λ k. some;
        bytes = h.bytes;
      };
    };
  };
}
  where
    against : (n : ℕ) (text' : List ℕ) (other : List Token) → Alike text text' ts
        → SameFirst ts other → NoLocal base (bytes_so_far left.bytes) room n text' other
        → NoLocals base room left n text' other
    against n text' other a same none [] end h w = absurd h
    against n text' other a same none (l ∷ ls) end h w = none l h.0 h.1
        (locals_stop text' ls h.0 end h.2) (λ k. let e = w.expressions k in omega arith)
        (λ k. let e = w.statements k in omega arith)
        (λ k. first_fits base l ls (bytes_so_far left.bytes) (w.bytes k))
