-- A phrase that fails in a greater one fails that one.
use Rattle.std.proofs.Common.{◌≡◌, ℕ, List, [], ◌∷◌, ◌++◌, refl, sym, ap, ◌∙◌, subst, append_assoc}
use Rattle.c_syntax.specs.Words.{Token, Family, Alike, SameFirst, Able, Onward, Failed, Wraps}
pub use Rattle.std.proofs.Common.{append_assoc as append_append, append-nil as append_nothing}

-- ---- lists and their first tokens

pub alike_back : (text other : List ℕ) (xs ys : List Token) → Alike text other (xs ++ ys)
    → Alike text other ys
alike_back text other [] ys h = h
alike_back text other (x ∷ xs) ys h = alike_back text other xs ys h.1

pub alike_same : (text : List ℕ) (ts : List Token) → Alike text text ts
alike_same text [] = tt
alike_same text (t ∷ ts) = (refl, alike_same text ts)

pub first_after : (front fault other : List Token) → SameFirst fault other
    → SameFirst (front ++ fault) (front ++ other)
first_after [] fault other h = h
first_after (t ∷ front) fault other h = (front ++ other, refl)

pub first_same : (ts : List Token) → SameFirst ts ts
first_same [] = refl
first_same (t ∷ ts) = (ts, refl)

-- what holds of tokens by the first of them
pub first_keeps : (P : List Token → Type 0)
    → ((t : Token) (xs ys : List Token) → P (t ∷ xs) → P (t ∷ ys)) → (ts other : List Token)
    → SameFirst ts other → P ts → P other
first_keeps P f [] other h p = subst P (sym h) p
first_keeps P f (t ∷ ts) other h p = subst P (sym h.1) (f t ts h.0 p)

-- ---- a phrase in a greater one

pub alike_inner : (text text' : List ℕ) (before ts ts' : List Token) → ts' ≡ before ++ ts
    → Alike text text' ts' → Alike text text' ts
alike_inner text text' before ts ts' e h =
    alike_back text text' before ts (subst (λ z. Alike text text' z) e h)

onward : (Has Has' : Family) (n : ℕ) (text : List ℕ) (before front fault : List Token)
    → ((inner : List Token) → Has n text inner → Able Has' n text (before ++ inner))
    → Onward Has n text front fault → Onward Has' n text (before ++ front) fault
onward Has Has' n text before front fault f o =
    let a = f (front ++ o.token ∷ o.more) o.has in
    let e : before ++ (front ++ o.token ∷ o.more) ≡ (before ++ front) ++ o.token ∷ o.more =
    sym (append_assoc before front (o.token ∷ o.more)) in
    let q : (before ++ (front ++ o.token ∷ o.more)) ++ a.more ≡ (before ++ front) ++ o.token
    ∷ (o.more ++ a.more) = ap (λ z. z ++ a.more) e
    ∙ append_assoc (before ++ front) (o.token ∷ o.more) a.more in
    record {
      token = o.token;
      rest = o.rest;
      more = o.more ++ a.more;
      is = o.is;
      has = subst (λ z. Has' n text z) q a.has;
    }

able_so : (Has Has' : Family) (n : ℕ) (text : List ℕ) (before front : List Token)
    → ((inner : List Token) → Has n text inner → Able Has' n text (before ++ inner))
    → Able Has n text front → Able Has' n text (before ++ front)
able_so Has Has' n text before front f o =
    let a = f (front ++ o.more) o.has in
    let e : before ++ (front ++ o.more) ≡ (before ++ front) ++ o.more =
    sym (append_assoc before front o.more) in
    let q : (before ++ (front ++ o.more)) ++ a.more ≡ (before ++ front) ++ (o.more ++ a.more) =
    ap (λ z. z ++ a.more) e ∙ append_assoc (before ++ front) o.more a.more in
    record { more = o.more ++ a.more; has = subst (λ z. Has' n text z) q a.has }

pub wrapped : (No Has No' Has' : Family) (kind at : ℕ) (text : List ℕ) (ts ts' : List Token)
    → Wraps No Has No' Has' text ts ts' → Failed kind at No Has text ts
    → Failed kind at No' Has' text ts'
wrapped No Has No' Has' kind at text ts ts' w f = record {
  front = w.before ++ f.front;
  fault = f.fault;
  split = w.split ∙ ap (λ z. w.before ++ z) f.split ∙ sym (append_assoc w.before f.front f.fault);
  located = f.located;
  against = λ text' other a s.
      subst (λ z. No' kind text' z) (sym (append_assoc w.before f.front other))
      (w.no kind text' (f.front ++ other) a
      (subst (λ z. SameFirst z (f.front ++ other)) (sym f.split)
      (first_after f.front f.fault other s))
      (f.against text' other (alike_inner text text' w.before ts ts' w.split a) s));
  able = λ text' a k. able_so Has Has' 7 text' w.before f.front
      (λ inner h. w.has 7 text' inner a k h)
      (f.able text' (alike_inner text text' w.before ts ts' w.split a) k);
  further = λ text' n a k e. onward Has Has' n text' w.before f.front f.fault
      (λ inner h. w.has n text' inner a k h)
      (f.further text' n (alike_inner text text' w.before ts ts' w.split a) k e);
}
