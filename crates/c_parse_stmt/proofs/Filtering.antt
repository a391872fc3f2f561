-- Filters, by whether they accept whatever was raised.
use Rattle.std.proofs.Common.{◌≡◌, ◌≤◌, ℕ, Bool, true, false, List, [], ◌∷◌, ◌++◌, refl, sym, ap, ◌∙◌, subst, append_assoc, arith}
use Rattle.c_parse_stmt.specs.Words.{Token, Expression, height, Alike, SameFirst, Speaks, Able, Failed, Wraps, Number, order, accepts, IsCondition, ParseErr, Unexpected, TooDeep, TooMany, Memory, IsPlacedRefusal, numbers_of, NoFilter, HasFilter, Departs, NoCondition, HasCondition}
use Rattle.c_syntax.proofs.Declarations.{condition}
use Rattle.c_parse_stmt.proofs.Lemmas.{alike_same, first_same}
use Rattle.c_syntax.specs.declared.limit.Count.{Count}
use Rattle.c_syntax.specs.declared.limit.Count.TheVariants.{Locals}

-- ---- where a number is left

numbers_low : (b : Bool) → numbers_of b ≤ 1
numbers_low true = omega arith
numbers_low false = omega arith

pub in_filter : (text : List ℕ) (funclets : ℕ) (ts : List Token) → 1 ≤ funclets
    → Wraps NoCondition HasCondition (NoFilter funclets) (HasFilter funclets) text ts ts
in_filter text funclets ts some = record {
  before = [];
  split = refl;
  no = λ n text' other a same none f end h low count. none f end h low;
  has = λ n text' inner a speaks h. record {
    more = [];
    has = record {
      tree = h.tree;
      is = λ other. subst (λ (z : List Token). IsCondition text' h.tree z other)
          (sym (append_assoc inner [] other)) (h.is other);
      low = h.low;
      count = λ k. let x = numbers_low (accepts text' h.tree) in omega arith;
    };
  };
}

-- ---- where none is left

-- the filter that is there has one
pub no_other : (text : List ℕ) (e : Expression) (ts rest : List Token) → IsCondition text e ts rest
    → accepts text e ≡ false → NoFilter 0 7 text ts
no_other text e ts rest is no_one f end h low n =
    let u = condition text e f ts ts rest end refl is h in
    let a : numbers_of (accepts text f) ≡ 1 = ap (λ (x : Expression). numbers_of (accepts text x))
    (sym u.0) ∙ ap numbers_of no_one in
    let b = n (omega arith) in
    absurd (omega arith)

-- or none does
failed_none : (kind at : ℕ) (text : List ℕ) (ts : List Token)
    → Failed kind at NoCondition HasCondition text ts → NoFilter 0 7 text ts
failed_none kind at text ts d f end h low count =
    d.against text d.fault (alike_same text ts) (first_same d.fault) f end
    (subst (λ (z : List Token). IsCondition text f z end) d.split h) (λ k. low (omega arith))

pub placed_none : (e : ParseErr) (text : List ℕ) (ts : List Token) → (e ≡ Memory → ⊥)
    → IsPlacedRefusal e NoCondition HasCondition text ts → NoFilter 0 7 text ts
placed_none (Unexpected at) text ts m d = failed_none 0 at text ts d
placed_none (TooDeep at) text ts m d = failed_none 1 at text ts d
placed_none (TooMany at what) text ts m d = failed_none (order (Number what)) at text ts d
placed_none Memory text ts m d = absurd (m refl)

-- another filter is there, and each continues where those depart that accept
pub departs_not : (text : List ℕ) (e : Expression) (ts rest fault : List Token)
    → IsCondition text e ts rest → height e ≤ 64 → Departs text ts fault → ⊥
departs_not text e ts rest fault is low d = d.none text fault (alike_same text ts)
    (first_same fault) e rest (subst (λ (z : List Token). IsCondition text e z rest) d.split is)
    (λ k. low)

-- two ways to cut a list
data Cut (xs ys us vs : List Token) : Type 0 where
  same : xs ≡ ys → Cut xs ys us vs
  later : (z : Token) (zs : List Token) → ys ≡ xs ++ z ∷ zs → us ≡ z ∷ (zs ++ vs) → Cut xs ys us vs
  sooner : (z : Token) (zs : List Token) → xs ≡ ys ++ z ∷ zs → vs ≡ z ∷ (zs ++ us) → Cut xs ys us vs

following : (t u : Token) (xs ys us vs : List Token) → t ≡ u → Cut xs ys us vs
    → Cut (t ∷ xs) (u ∷ ys) us vs
following t u xs ys us vs e (same p) = same (ap (λ (z : List Token). t ∷ z) p
    ∙ ap (λ (z : Token). z ∷ ys) e)
following t u xs ys us vs e (later z zs p q) = later z zs
    (ap (λ (z : Token). z ∷ ys) (sym e) ∙ ap (λ (z : List Token). t ∷ z) p) q
following t u xs ys us vs e (sooner z zs p q) = sooner z zs
    (ap (λ (z : Token). z ∷ xs) e ∙ ap (λ (z : List Token). u ∷ z) p) q

cut : (xs ys us vs : List Token) → xs ++ us ≡ ys ++ vs → Cut xs ys us vs
cut [] [] us vs e = same refl
cut [] (y ∷ ys) us vs e = later y ys refl e
cut (x ∷ xs) [] us vs e = sooner x xs refl (sym e)
cut (x ∷ xs) (y ∷ ys) us vs e =
    let p : x ≡ y = cc in
    let q : xs ++ us ≡ ys ++ vs = cc in
    following x y xs ys us vs p (cut xs ys us vs q)

-- A condition fails no sooner than the filters that accept depart; where it goes no further there
-- than they do, it fails there.
stay_able : (kind at : ℕ) (text : List ℕ) (ts rest : List Token)
    (f : Failed kind at NoCondition HasCondition text ts) (d : Departs text ts rest)
    (text' : List ℕ) → Alike text text' ts → Speaks text' → Cut f.front d.front f.fault rest
    → Able (HasFilter 0) 7 text' f.front
stay_able kind at text ts rest f d text' a s (same p) = subst
    (λ (z : List Token). Able (HasFilter 0) 7 text' z) (sym p) (d.able text' a s)
stay_able kind at text ts rest f d text' a s (later z zs p q) =
    let x = d.able text' a s in
    let other = z ∷ (zs ++ x.more) in
    let e : d.front ++ x.more ++ [] ≡ f.front
    ++ (z ∷ (zs ++ x.more) ++ []) = ap (λ (w : List Token). w ++ x.more ++ []) p
    ∙ ap (λ (w : List Token). w ++ []) (append_assoc f.front (z ∷ zs) x.more)
    ∙ append_assoc f.front other [] in
    absurd (f.against text' (other ++ []) a (subst (λ (w : List Token). SameFirst w (other ++ []))
    (sym q) (_, refl)) x.has.tree [] (subst
    (λ (w : List Token). IsCondition text' x.has.tree w []) e (x.has.is []))
    (λ k. x.has.low (omega arith)))
stay_able kind at text ts rest f d text' a s (sooner z zs p q) =
    let x = f.able text' a s in
    let other = z ∷ (zs ++ x.more) in
    let e : f.front ++ x.more ++ [] ≡ d.front
    ++ (z ∷ (zs ++ x.more) ++ []) = ap (λ (w : List Token). w ++ x.more ++ []) p
    ∙ ap (λ (w : List Token). w ++ []) (append_assoc d.front (z ∷ zs) x.more)
    ∙ append_assoc d.front other [] in
    absurd (d.none text' (other ++ []) a (subst (λ (w : List Token). SameFirst w (other ++ []))
    (sym q) (_, refl)) x.has.tree [] (subst
    (λ (w : List Token). IsCondition text' x.has.tree w []) e (x.has.is []))
    (λ k. x.has.low (omega arith)))

stays : (kind at : ℕ) (text : List ℕ) (ts rest : List Token) → kind ≤ 7 → Departs text ts rest
    → Failed kind at NoCondition HasCondition text ts
    → Failed kind at (NoFilter 0) (HasFilter 0) text ts
stays kind at text ts rest l d f = record {
  front = f.front;
  fault = f.fault;
  split = f.split;
  located = f.located;
  against = λ text' other a same e end h low count. f.against text' other a same e end h low;
  able = λ text' a s. stay_able kind at text ts rest f d text' a s
      (cut f.front d.front f.fault rest (sym f.split ∙ d.split));
  further = λ text' k a s e.
      let x = f.further text' k a s e in
      record {
        token = x.token;
        rest = x.rest;
        more = x.more;
        is = x.is;
        has = record {
          tree = x.has.tree;
          is = x.has.is;
          low = x.has.low;
          count = λ j. absurd (omega arith);
        };
      };
}

number_low : (what : Count) → order (Number what) ≤ 7
number_low Locals = omega arith
number_low what = omega arith

pub placed_stays : (e : ParseErr) (text : List ℕ) (ts rest : List Token) → Departs text ts rest
    → IsPlacedRefusal e NoCondition HasCondition text ts
    → IsPlacedRefusal e (NoFilter 0) (HasFilter 0) text ts
placed_stays (Unexpected at) text ts rest d f = stays 0 at text ts rest (omega arith) d f
placed_stays (TooDeep at) text ts rest d f = stays 1 at text ts rest (omega arith) d f
placed_stays (TooMany at what) text ts rest d f = stays (order (Number what)) at text ts rest
    (number_low what) d f
placed_stays Memory text ts rest d f = tt

-- by whether another filter continues
pub decided : {A : Type 0} (b : Bool) → (b ≡ true → A) → (b ≡ false → A) → A
decided true f g = f refl
decided false f g = g refl
