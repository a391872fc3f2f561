-- The longest word by its first byte.
use Rattle.std.proofs.Common.{◌≡◌, ◌≢◌, ◌≤◌, ◌-◌, ℕ, true, false, nat_eq, List, [], ◌∷◌, ◌++◌}
use Rattle.std.proofs.Common.{length, take, drop, get_or, refl, sym, ap, subst, ◌∙◌, arith, Option}
use Rattle.std.proofs.lemmas.Bool.{ne_eqb}
use Rattle.c_lex.specs.Vocabulary.{Word, Lexeme, Blank, IsLongest, each, more, span, is_letter, is_digit, is_identifier_byte, identifier_kind, digits, zero, quoted, is_space, is_other_than_line_feed, comment, alone, punctuator, slash, word_from, word}
use Rattle.c_lex.proofs.Fronts.{rest_of}
use Rattle.c_lex.proofs.Wholes.{zero_whole, decimal_whole, quoted_whole}
use Rattle.c_lex.proofs.Taking.{at_end, stops, takes, same, each_takes}

-- ---- after a `/`

abbrev Found : (List ℕ → Option Word) → List ℕ → List ℕ → Word → Type 0
Found of text after x = (w : List ℕ) × IsLongest of text w after x

pub line_found : (text after : List ℕ) (x : Word) → 1 ≤ length text → get_or text 0 0 ≡ 47
    → Found (each is_other_than_line_feed (λ _. Blank)) (take (length text - 1) (drop 1 text)) after
    x → Found slash text after x
line_found [] after x h e k = absurd (omega arith)
line_found (b ∷ bs) after x h e k =
    let l = subst (λ (t : List ℕ). Found (each is_other_than_line_feed (λ _. Blank)) t after x)
    (rest_of b bs) k in (
      b ∷ l.0,
      takes slash (each is_other_than_line_feed (λ _. Blank)) b bs l.0 after x
          (λ v a q. rw e refl) l.1,
    )

pub comment_found : (text after : List ℕ) (x : Word) → 1 ≤ length text → get_or text 0 0 ≡ 42
    → Found comment (take (length text - 1) (drop 1 text)) after x → Found slash text after x
comment_found [] after x h e k = absurd (omega arith)
comment_found (b ∷ bs) after x h e k =
    let l = subst (λ (t : List ℕ). Found comment t after x) (rest_of b bs) k in
    (b ∷ l.0, takes slash comment b bs l.0 after x (λ v a q. rw e refl) l.1)

pub slash_alone : (text : List ℕ) → get_or text 0 0 ≢ 47 → get_or text 0 0 ≢ 42 → (v a : List ℕ)
    → text ≡ v ++ a → slash v ≡ punctuator 47 v
slash_alone text n m [] a e = refl
slash_alone text n m (c ∷ v) a e =
    let h : get_or text 0 0 ≡ c = ap (λ (l : List ℕ). get_or l 0 0) e in
    let f : nat_eq c 47 ≡ false =
    subst (λ b. nat_eq b 47 ≡ false) h (ne_eqb (get_or text 0 0) 47 n) in
    let g : nat_eq c 42 ≡ false =
    subst (λ b. nat_eq b 42 ≡ false) h (ne_eqb (get_or text 0 0) 42 m) in
    rw (f, g) refl

pub slash_found : (text after : List ℕ) (x : Word) → get_or text 0 0 ≢ 47 → get_or text 0 0 ≢ 42
    → Found (punctuator 47) text after x → Found slash text after x
slash_found text after x n m k =
    (k.0, same slash (punctuator 47) text k.0 after x (slash_alone text n m) k.1)

-- ---- by the first byte

module _ (b : ℕ) (bs text after : List ℕ) (x : Word) (split : text ≡ b ∷ bs) where
  -- words of another kind follow the first byte
  following : (of : List ℕ → Option Word) → ((v : List ℕ) → word_from b v ≡ of v)
      → Found of bs after x → (w : List ℕ) × IsLongest word text (b ∷ w) after x
  following of e k = (
    k.0,
    subst (λ (t : List ℕ). IsLongest word t (b ∷ k.0) after x) (sym split)
        (takes word of b bs k.0 after x (λ v a q. e v) k.1),
  )

  pub name_first : is_letter b ≡ true
      → x ≡ Lexeme (identifier_kind (span is_identifier_byte text).0)
      → after ≡ (span is_identifier_byte text).1
      → (w : List ℕ) × IsLongest word text (b ∷ w) after x
  unfolding word_from is_identifier_byte
  name_first l p q =
      let s : span is_identifier_byte (b ∷ bs) ≡ more b (span is_identifier_byte bs) = rw l refl in
      let k = each_takes is_identifier_byte (λ v. Lexeme (identifier_kind (b ∷ v))) bs in
      let p' : x ≡ Lexeme (identifier_kind (b ∷ (span is_identifier_byte bs).0)) =
      p ∙ ap (λ (t : List ℕ). Lexeme (identifier_kind (span is_identifier_byte t).0)) split
      ∙ ap (λ (r : List ℕ × List ℕ). Lexeme (identifier_kind r.0)) s in
      let q' : after ≡ (span is_identifier_byte bs).1 =
      q ∙ ap (λ (t : List ℕ). (span is_identifier_byte t).1) split
      ∙ ap (λ (r : List ℕ × List ℕ). r.1) s in
      following (each is_identifier_byte (λ v. Lexeme (identifier_kind (b ∷ v)))) (λ v. rw l refl)
      ((span is_identifier_byte bs).0, rw (p', q') k)

  pub zero_first : is_letter b ≡ false → b ≡ 48 → Found zero bs after x
      → (w : List ℕ) × IsLongest word text (b ∷ w) after x
  unfolding word_from
  zero_first l e k = following zero (λ v. rw (l, e) (zero_whole v)) k

  pub digit_first : is_letter b ≡ false → b ≢ 48 → is_digit b ≡ true
      → Found (digits 10 (b - 48)) bs after x → (w : List ℕ) × IsLongest word text (b ∷ w) after x
  unfolding word_from
  digit_first l n d k = let f = ne_eqb b 48 n in
      following (digits 10 (b - 48)) (λ v. rw (l, f, d) (decimal_whole b v d)) k

  pub quote_first : is_letter b ≡ false → b ≢ 48 → is_digit b ≡ false → b ≡ 39
      → Found quoted bs after x → (w : List ℕ) × IsLongest word text (b ∷ w) after x
  unfolding word_from
  quote_first l n d e k = let f = ne_eqb b 48 n in
      following quoted (λ v. rw (l, f, d, e) (quoted_whole v)) k

  pub slash_first : is_letter b ≡ false → b ≢ 48 → is_digit b ≡ false → b ≢ 39 → b ≡ 47
      → Found slash bs after x → (w : List ℕ) × IsLongest word text (b ∷ w) after x
  unfolding word_from
  slash_first l n d m e k = let f = ne_eqb b 48 n in let g = ne_eqb b 39 m in
      following slash (λ v. rw (l, f, d, g, e) refl) k

  pub space_first : is_letter b ≡ false → b ≢ 48 → is_digit b ≡ false → b ≢ 39 → b ≢ 47
      → is_space b ≡ true → x ≡ Blank → after ≡ bs
      → (w : List ℕ) × IsLongest word text (b ∷ w) after x
  unfolding word_from
  space_first l n d m o s p q =
      let f = ne_eqb b 48 n in let g = ne_eqb b 39 m in let h = ne_eqb b 47 o in
      following (alone Blank) (λ v. rw (l, f, d, g, h, s) refl) ([], rw (p, q) (only bs))
    where
      only : (bs : List ℕ) → IsLongest (alone Blank) bs [] bs Blank
      only [] = at_end (alone Blank) Blank refl
      only (c ∷ cs) = stops (alone Blank) c cs Blank refl (λ v a q. refl)

  pub punctuator_first : is_letter b ≡ false → b ≢ 48 → is_digit b ≡ false → b ≢ 39 → b ≢ 47
      → is_space b ≡ false → Found (punctuator b) bs after x
      → (w : List ℕ) × IsLongest word text (b ∷ w) after x
  unfolding word_from
  punctuator_first l n d m o s k =
      let f = ne_eqb b 48 n in let g = ne_eqb b 39 m in let h = ne_eqb b 47 o in
      following (punctuator b) (λ v. rw (l, f, d, g, h, s) refl) k
