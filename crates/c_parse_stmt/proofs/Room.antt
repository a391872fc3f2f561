-- Where there is room for no statement.
use Rattle.std.proofs.Common.{◌≡◌, ℕ, suc, List, [], ◌∷◌, ◌++◌, Some, None, IsFalse, refl, sym, subst, append_assoc, arith, inl, inr}
use Rattle.c_parse_stmt.specs.Words.{Punctuator, Token, Derives, Alike, SameFirst, place, Able, Onward, Failed, statements_over, over_block_item, comma, Statement, Declare, is_declaration, IsBlockItem, HasPunctuator, NoBase, Remaining, Expressed, BeginsExpression, BeginsNoExpression, Stated, BeginsStatement, BeginsNoStatement, NoneUpTo, HasUpTo, NoBlockItem, HasBlockItem}
use Rattle.c_parse_stmt.proofs.Begins.{base_first, punctuator}
use Rattle.c_parse_stmt.proofs.Placing.{Lacks, lacks_first, missing}

-- ---- an expression up to a punctuator

nothing : (s : Punctuator) (n : ℕ) (text : List ℕ) → Able (HasUpTo s 0) n text []
nothing s n text = record {
  more = punctuator s ∷ [];
  has = record {
    tree = None;
    is = λ other. (punctuator s ∷ other, refl, (0, (0, refl)));
    low = λ k. omega arith;
    over = λ k. omega arith;
  };
}

pub no_expression : (s : Punctuator) (text : List ℕ) (ts : List Token) → Lacks s ts
    → BeginsNoExpression ts → Failed 0 (place text ts) (NoneUpTo s 0) (HasUpTo s 0) text ts
no_expression s text ts lacks free = missing (NoneUpTo s 0) (HasUpTo s 0) text ts [] ts refl
    (against text) (λ text' a k. nothing s 7 text')
  where
    against : (text text' : List ℕ) (other : List Token) → Alike text text' ts → SameFirst ts other
        → NoneUpTo s 0 0 text' other
    against text text' other a same None end h low over = lacks_first s ts other same lacks end
        (subst (λ (z : List Token). HasPunctuator s z end) (sym h.1) h.2)
    against text text' other a same (Some e) end h low over = free text' other same e h.0 h.1

evaluated : (s : Punctuator) (text : List ℕ) (t : Token) → Expressed text t
    → (more : List Token) × HasUpTo s 0 0 text (t ∷ more)
evaluated s text t x = (
  x.more ++ punctuator s ∷ [],
  record {
    tree = Some x.tree;
    is = λ other. (
      punctuator s ∷ other,
      subst (λ z. Derives text comma x.tree (t ∷ z) (punctuator s ∷ other))
          (sym (append_assoc x.more (punctuator s ∷ []) other)) (x.derives (punctuator s ∷ other)),
      (0, (0, refl)),
    );
    low = λ k. absurd (omega arith);
    over = λ k. absurd (omega arith);
  },
)

pub deep_expression : (s : Punctuator) (text : List ℕ) (ts : List Token) → Lacks s ts
    → BeginsExpression ts → Failed 1 (place text ts) (NoneUpTo s 0) (HasUpTo s 0) text ts
deep_expression s text ts lacks b = record {
  front = [];
  fault = ts;
  split = refl;
  located = refl;
  against = against;
  able = λ text' a k. nothing s 7 text';
  further = λ text' k a speaks e. let x = evaluated s text' b.first (b.holds text' speaks) in
      let z : 0 ≡ k = omega arith in subst (λ n. Onward (HasUpTo s 0) n text' [] ts) z
      (record { token = b.first; rest = b.rest; more = x.0; is = b.split; has = x.1 });
}
  where
    against : (text' : List ℕ) (other : List Token) → Alike text text' ts → SameFirst ts other
        → NoneUpTo s 0 1 text' other
    against text' other a same None end h low over = lacks_first s ts other same lacks end
        (subst (λ (z : List Token). HasPunctuator s z end) (sym h.1) h.2)
    against text' other a same (Some e) end h low over = let q = over (omega arith) in
        absurd (omega arith)

-- ---- a statement

undeclared : (text : List ℕ) (s : Statement) (ts rest : List Token) → IsBlockItem text s ts rest
    → NoBase ts → IsFalse (is_declaration s)
undeclared text (Declare base ls) ts rest h none = absurd (none base h.0 h.1)
undeclared text s ts rest h none = refl

room_for : (s : Statement) (n : ℕ) → IsFalse (is_declaration s) → over_block_item s n ≡ suc n
room_for (Declare base ls) n d = absurd cc
room_for s n d = omega arith

pub no_statement : (left : Remaining) (text : List ℕ) (ts : List Token) → NoBase ts
    → BeginsNoStatement ts → Failed 0 (place text ts) (NoBlockItem 0 left) (HasBlockItem 0 left)
    text ts
no_statement left text ts none free =
    missing (NoBlockItem 0 left) (HasBlockItem 0 left) text ts [] ts refl
    (λ text' other a same s end h c w. free text' other same s end h
    (undeclared text' s other end h (base_first ts other same none)))
    (λ text' a k. record { more = []; has = inl refl })

stated : (left : Remaining) (text : List ℕ) (t : Token) → Stated text t
    → (more : List Token) × HasBlockItem 0 left 0 text (t ∷ more)
stated left text t x = (
  x.more,
  inr (record {
    tree = x.tree;
    is = x.is;
    within = record {
      statements = λ k. absurd (omega arith);
      expressions = λ k. absurd (omega arith);
      locals = λ k. absurd (omega arith);
      bytes = λ k. absurd (omega arith);
      funclets = λ k. absurd (omega arith);
    };
  }),
)

pub deep_statement : (left : Remaining) (text : List ℕ) (ts : List Token) → NoBase ts
    → BeginsStatement ts → Failed 1 (place text ts) (NoBlockItem 0 left) (HasBlockItem 0 left) text
    ts
deep_statement left text ts none b = record {
  front = [];
  fault = ts;
  split = refl;
  located = refl;
  against = λ text' other a same s end h c w.
      let d = undeclared text' s other end h (base_first ts other same none) in
      let q = room_for s (statements_over s) d in
      let z = w.statements (omega arith) in
      absurd (omega arith);
  able = λ text' a k. record { more = []; has = inl refl };
  further = λ text' k a speaks e. let x = stated left text' b.first (b.holds text' speaks) in
      let z : 0 ≡ k = omega arith in subst (λ n. Onward (HasBlockItem 0 left) n text' [] ts) z
      (record { token = b.first; rest = b.rest; more = x.0; is = b.split; has = x.1 });
}
