-- Lists with commas between their elements are read in a loop.
use Rattle.std.proofs.Common.{◌≡◌, List, [], ◌∷◌, ◌++◌, refl, sym, ap, ◌∙◌, subst}
use Rattle.c_parse.specs.Words.{Punctuator, Token, SameFirst, Phrase, token, HasPunctuator}
use Rattle.c_lex.specs.declared.punctuator.Punctuator.TheVariants as punctuators
use Rattle.c_lex.specs.declared.token.Kind.TheVariants as kinds
use Rattle.c_syntax.specs.Phrases.{AreMore}
use Rattle.c_parse.proofs.Lemmas.{append_append, first_after, has_same}
use Rattle.c_syntax.proofs.Separated.{other_punctuator}
use Rattle.c_parse.proofs.Refusing.{Lacks}

-- what may be after elements of a list, and whole lists
abbrev pub Listed : Type 0 → Type 1
Listed A = List A → List Token → List Token → Type 0

-- More elements at the rest are a list of all tokens, with what was read before them.
abbrev pub Forward : {A : Type 0} → Listed A → Listed A → List Token → List A → List Token → Type 0
Forward {A} Are More ts found rest = (xs : List A) (end : List Token) → More xs rest end
    → Are (found ++ xs) ts end

-- A list of all tokens begins with what was read, and continues with elements at the rest.
abbrev pub Back : {A : Type 0} → Listed A → Listed A → List Token → List A → List Token → Type 0
Back {A} Are More ts found rest = (xs : List A) (end : List Token) → Are xs ts end
    → (ys : List A) × (xs ≡ found ++ ys) × More ys rest end

-- Elements were read up to the rest: whatever is in its place, and back where that begins with the
-- same token.
pub record Begun {A : Type 0} (Are More : Listed A) (ts : List Token) (found : List A)
    (rest : List Token) : Type 0 where
  pub front : List Token
  pub split : ts ≡ front ++ rest
  pub forward : (other : List Token) → Forward Are More (front ++ other) found other
  pub back : (other : List Token) → SameFirst rest other
      → Back Are More (front ++ other) found other

pub snoc : {A : Type 0} (xs : List A) (x : A) (ys : List A) → (xs ++ x ∷ []) ++ ys ≡ xs ++ x ∷ ys
snoc [] x ys = refl
snoc {A} (z ∷ xs) x ys = ap (λ (l : List A). z ∷ l) (snoc xs x ys)

-- one element more
pub continues : {A : Type 0} (Are More : Listed A) (ts rest mid after : List Token) (found : List A)
    (x : A) → rest ≡ mid ++ after
    → ((other : List Token) (xs : List A) (end : List Token) → More xs other end
    → More (x ∷ xs) (mid ++ other) end)
    → ((other : List Token) → SameFirst after other → (xs : List A) (end : List Token)
    → More xs (mid ++ other) end → (ys : List A) × (xs ≡ x ∷ ys) × More ys other end)
    → Begun Are More ts found rest → Begun Are More ts (found ++ x ∷ []) after
continues {A} Are More ts rest mid after found x p f b d = record {
  front = d.front ++ mid;
  split = d.split ∙ ap (λ (z : List Token). d.front ++ z) p ∙ sym (append_append d.front mid after);
  forward = λ other xs end m.
      subst (λ (z : List Token). Are ((found ++ x ∷ []) ++ xs) z end)
      (sym (append_append d.front mid other))
      (subst (λ (l : List A). Are l (d.front ++ (mid ++ other)) end) (sym (snoc found x xs))
      (d.forward (mid ++ other) (x ∷ xs) end (f other xs end m)));
  back = λ other s xs end h.
      let r = d.back (mid ++ other) (subst (λ (z : List Token). SameFirst z (mid ++ other)) (sym p)
      (first_after mid after other s)) xs end
      (subst (λ (z : List Token). Are xs z end) (append_append d.front mid other) h) in
      let w = b other s r.0 end r.2 in
      (w.0, r.1 ∙ ap (λ (l : List A). found ++ l) w.1 ∙ sym (snoc found x w.0), w.2);
}

-- ---- elements with commas between them

-- there is one element at most at the front, and one rest
abbrev pub OneEach : {A : Type 0} → (A → Phrase) → Type 0
OneEach {A} Element =
    (x y : A) (ts us rest end : List Token) → ts ≡ us → Element x ts rest → Element y us end
    → (x ≡ y) × (rest ≡ end)

-- A comma and an element are the first in every list that continues there.
next_back : {A : Type 0} (Element : A → Phrase) (close : Punctuator) → OneEach Element
    → (punctuators.Comma ≡ close → ⊥)
    → (rest b after : List Token) (x : A) → HasPunctuator punctuators.Comma rest b
    → Element x b after
    → (xs : List A) (end : List Token) → AreMore Element close xs rest end
    → (ys : List A) × (xs ≡ x ∷ ys) × AreMore Element close ys after end
next_back Element close one apart rest b after x k is [] end m =
    absurd (apart (other_punctuator punctuators.Comma close rest rest b end refl k m))
next_back {A} Element close one apart rest b after x k is (y ∷ ys) end m =
    let q = has_same punctuators.Comma rest rest b m.after_comma refl k m.comma in
    let u = one x y b m.after_comma after m.after_element q is m.element in (
      ys,
      ap (λ (z : A). z ∷ ys) (sym u.0),
      subst (λ (z : List Token). AreMore Element close ys z end) (sym u.1) m.others,
    )

-- one element more, after a comma
pub next : {A : Type 0} (Element : A → Phrase) (close : Punctuator) (Are : Listed A)
    → OneEach Element → (punctuators.Comma ≡ close → ⊥)
    → (ts rest b after front : List Token) (found : List A) (x : A)
    → HasPunctuator punctuators.Comma rest b → b ≡ front ++ after
    → ((other : List Token) → Element x (front ++ other) other)
    → Begun Are (AreMore Element close) ts found rest
    → Begun Are (AreMore Element close) ts (found ++ x ∷ []) after
next Element close Are one apart ts rest b after front found x k split again d =
    let (comma_at, (comma_end, comma_split)) = k in
    let t = token (kinds.Punctuator punctuators.Comma) comma_at comma_end in
    continues Are (AreMore Element close) ts rest (t ∷ front) after found x
    (comma_split ∙ ap (λ (z : List Token). t ∷ z) split)
    (λ other xs end h. record {
      after_comma = front ++ other;
      after_element = other;
      comma = (comma_at, (comma_end, refl));
      element = again other;
      others = h;
    })
    (λ other s. next_back Element close one apart (t ∷ (front ++ other)) (front ++ other) other x
    (comma_at, (comma_end, refl)) (again other))
    d

-- Nothing of a list is after a comma that no element is after.
pub none_next : {A : Type 0} (Element : A → Phrase) (close : Punctuator)
    → (punctuators.Comma ≡ close → ⊥) → (rest b : List Token)
    → HasPunctuator punctuators.Comma rest b → ((x : A) (end : List Token) → Element x b end → ⊥)
    → (xs : List A) (end : List Token) → AreMore Element close xs rest end → ⊥
none_next Element close apart rest b k none [] end m =
    apart (other_punctuator punctuators.Comma close rest rest b end refl k m)
none_next Element close apart rest b k none (x ∷ xs) end m =
    none x m.after_element (subst (λ (z : List Token). Element x z m.after_element)
    (has_same punctuators.Comma rest rest m.after_comma b refl m.comma k) m.element)

-- Nothing of a list is where there is neither a comma nor the end.
pub no_end : {A : Type 0} (Element : A → Phrase) (close : Punctuator) (rest : List Token)
    → Lacks punctuators.Comma rest → Lacks close rest
    → (xs : List A) (end : List Token) → AreMore Element close xs rest end → ⊥
no_end Element close rest k s [] end m = s end m
no_end Element close rest k s (x ∷ xs) end m = k m.after_comma m.comma
