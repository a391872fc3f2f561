-- A declaration is its base and its locals; what a `for` does first is a declaration or an
-- expression.
use Rattle.std.proofs.Common.{◌≡◌, ◌≤◌, ℕ, List, [], ◌∷◌, ◌++◌, Option, Some, None, refl, sym, ap, ◌∙◌, subst, append_assoc, arith, inl, inr}
use Rattle.std.proofs.lemmas.List.{append_cancel_right}
use Rattle.c_lex.specs.declared.punctuator.Punctuator.TheVariants as punctuators
use Rattle.c_parse_stmt.specs.Words.{Token, Base, Expression, Alike, SameFirst, place, Able, Onward, Failed, Wraps, one_over, one_over_locals, Local, Declaring, Evaluating, AreLocals, IsDeclaration, IsForInitialiser, IsBase, NoBase, EndsBase, NoneUpTo, HasUpTo, NoLocals, HasLocals, NoDeclaration, HasDeclaration, NoForInitialiser, HasForInitialiser, LocalsWithin, Remaining}
use Rattle.c_parse_stmt.proofs.Lemmas.{locals_type, optional_front, base_front, Moves, base}
use Rattle.c_parse_stmt.proofs.Begins.{punctuator, name, base_first}
use Rattle.c_parse_stmt.proofs.Declarators.{plain}
use Rattle.c_parse_stmt.proofs.Ends.{flat}
use Rattle.c_parse_stmt.proofs.Placing.{front_first, missing}

-- ---- declarations

no_base : (text : List ℕ) (ls : List Local) (ts rest : List Token) → AreLocals text ls ts rest
    → NoBase ts
no_base text ls ts rest h b end g = locals_type text ls ts rest h (base_front b ts end g)

pub undeclared : (text : List ℕ) (room : ℕ) (left : Remaining) (ts : List Token) → NoBase ts
    → Failed 0 (place text ts) (NoDeclaration room left) (HasDeclaration room left) text ts
undeclared text room left ts none = missing (NoDeclaration room left) (HasDeclaration room left)
    text ts [] ts refl (λ text' other a same b ls end h w. base_first ts other same none b h.0 h.1)
    (λ text' a k. record { more = []; has = inl refl })

pub full : (text : List ℕ) (room : ℕ) (left : Remaining) (ts following : List Token) (b : Base)
    → left.locals ≡ 0 → IsBase b ts following
    → Failed 2 (place text ts) (NoDeclaration room left) (HasDeclaration room left) text ts
full text room left ts following b zero is = record {
  front = [];
  fault = ts;
  split = refl;
  located = refl;
  against = against;
  able = λ text' a k. record { more = []; has = inl refl };
  further = λ text' k a speaks e. let z : 1 ≡ k = omega arith in
      subst (λ n. Onward (HasDeclaration room left) n text' [] ts) z
      (onward text' m.front m.split (λ other. m.again text' other a));
}
  where
    m : Moves (λ t. IsBase b) text ts following
    m = base b text ts following is

    against : (text' : List ℕ) (other : List Token) → Alike text text' ts → SameFirst ts other
        → NoDeclaration room left 2 text' other
    against text' other a same c [] end h w = absurd h.2
    against text' other a same c (l ∷ ls) end h w = let n = w.count (omega arith) in
        absurd (omega arith)

    onward : (text' : List ℕ) (before : List Token) → ts ≡ before ++ following
        → ((other : List Token) → IsBase b (before ++ other) other)
        → Onward (HasDeclaration room left) 1 text' [] ts
    onward text' [] e f = let p = base_front b [] [] (f []) in absurd (omega arith)
    onward text' (t ∷ before) e f = record {
      token = t;
      rest = before ++ following;
      more = before ++ name ∷ punctuator punctuators.Semicolon ∷ [];
      is = e;
      has = inr (record {
        base = b;
        trees = plain ∷ [];
        is =
            λ other. subst (λ (z : List Token). IsDeclaration text' b (plain ∷ []) (t ∷ z) other)
            (sym (append_assoc before (name ∷ punctuator punctuators.Semicolon ∷ []) other)) (
              name ∷ punctuator punctuators.Semicolon ∷ other,
              f (name ∷ punctuator punctuators.Semicolon ∷ other),
              (
                punctuator punctuators.Semicolon ∷ other,
                record {
                  after_stars = _;
                  after_name = _;
                  after_length = _;
                  stars = refl;
                  name = refl;
                  length = refl;
                  initialiser = refl;
                },
                (0, (0, refl)),
              ),
            );
        within = record {
          expressions = λ k. omega arith;
          statements = λ k. omega arith;
          count = λ k. absurd (omega arith);
          bytes = λ k. absurd (omega arith);
        };
      });
    }

pub no_locals : (text : List ℕ) (room : ℕ) (left : Remaining) (ts following : List Token) (b : Base)
    → IsBase b ts following → EndsBase b ts following
    → Wraps (NoLocals b room left) (HasLocals b room left) (NoDeclaration room left)
    (HasDeclaration room left) text following ts
no_locals text room left ts following b is ends =
    let m = base b text ts following is in
    record {
      before = ends.front;
      split = ends.split;
      no = λ n text' other a same none d ls end h w.
          let u = ends.only other same d h.0 h.1 (no_base text' ls h.0 end h.2) in
          none ls end (subst (λ (z : List Token). AreLocals text' ls z end) (sym u.1) h.2)
          (subst (λ (z : Base). LocalsWithin z n room left ls) (sym u.0) w);
      has = λ n text' inner a speaks h. record {
        more = [];
        has = inr (record {
          base = b;
          trees = h.trees;
          is = λ other.
              let p = append_cancel_right ends.front m.front following (sym ends.split ∙ m.split) in
              subst (λ (z : List Token). IsDeclaration text' b h.trees z other)
              (sym (flat ends.front inner [] other ∙ ap (λ z. z ++ (inner ++ other)) p))
              (inner ++ other, m.again text' (inner ++ other) a, h.are other);
          within = h.within;
        });
      };
    }

-- ---- what a `for` does first

one_at_most : (ls : List Local) → one_over_locals ls ≤ 1
one_at_most [] = omega arith
one_at_most (l ∷ ls) = let a = one_at_most ls in let b = one l.initialiser in omega arith
  where
    one : (e : Option Expression) → one_over e ≤ 1
    one None = omega arith
    one (Some e) = omega arith

some_at_most : (e : Option Expression) → one_over e ≤ 1
some_at_most None = omega arith
some_at_most (Some e) = omega arith

-- nothing, if no declaration is there
first_has : (left : Remaining) (n : ℕ) (text : List ℕ) (ts : List Token)
    → HasDeclaration 1 left n text ts → Able (HasForInitialiser left) n text ts
first_has left n text ts (inl e) = subst (λ z. Able (HasForInitialiser left) n text z) (sym e)
    (record {
      more = punctuator punctuators.Semicolon ∷ [];
      has = record {
        tree = Evaluating None;
        is = λ other.
            (punctuator punctuators.Semicolon ∷ other, refl, (0, (0, refl)));
        low = λ k. omega arith;
        count = λ k. omega arith;
        bytes = λ k. omega arith;
      };
    })
first_has left n text ts (inr d) = record {
  more = [];
  has = record {
    tree = Declaring d.base d.trees;
    is = λ other. subst (λ (z : List Token). IsForInitialiser text (Declaring d.base d.trees) z
        other) (sym (append_assoc ts [] other)) (d.is other);
    low = d.within.expressions;
    count = d.within.count;
    bytes = d.within.bytes;
  };
}

pub no_declaration : (text : List ℕ) (left : Remaining) (ts following : List Token) (b : Base)
    → IsBase b ts following → Wraps (NoDeclaration 1 left) (HasDeclaration 1 left)
    (NoForInitialiser left) (HasForInitialiser left) text ts ts
no_declaration text left ts following b is = record {
  before = [];
  split = refl;
  no = against;
  has = λ n text' inner a speaks h. first_has left n text' inner h;
}
  where
    against : (n : ℕ) (text' : List ℕ) (other : List Token) → Alike text text' ts
        → SameFirst ts other → NoDeclaration 1 left n text' other
        → NoForInitialiser left n text' other
    against n text' other a same none (Declaring d ls) end h low count bytes = none d ls end h
        (record {
          expressions = low;
          statements = λ k. one_at_most ls;
          count = count;
          bytes = bytes;
        })
    against n text' other a same none (Evaluating e) end h low count bytes =
        let p = base_front b ts following is in
        let q = front_first ts other same in
        let c = optional_front text' punctuators.Semicolon e other h.0 end refl h.1 h.2 in
        absurd (omega arith)

pub no_optional : (text : List ℕ) (left : Remaining) (ts : List Token) → NoBase ts
    → Wraps (NoneUpTo punctuators.Semicolon 1) (HasUpTo punctuators.Semicolon 1)
    (NoForInitialiser left) (HasForInitialiser left) text ts ts
no_optional text left ts none = record {
  before = [];
  split = refl;
  no = against;
  has = λ n text' inner a speaks h. record {
    more = [];
    has = record {
      tree = Evaluating h.tree;
      is = λ other. subst (λ (z : List Token). IsForInitialiser text' (Evaluating h.tree) z other)
          (sym (append_assoc inner [] other)) (h.is other);
      low = h.low;
      count = λ k. omega arith;
      bytes = λ k. omega arith;
    };
  };
}
  where
    against : (n : ℕ) (text' : List ℕ) (other : List Token) → Alike text text' ts
        → SameFirst ts other → NoneUpTo punctuators.Semicolon 1 n text' other
        → NoForInitialiser left n text' other
    against n text' other a same nothing (Declaring d ls) end h low count bytes = absurd
        (base_first ts other same none d h.0 h.1)
    against n text' other a same nothing (Evaluating e) end h low count bytes = nothing e end h low
        (λ k. some_at_most e)
