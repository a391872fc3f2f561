-- Each text has a list of tokens or a first fault.
use Rattle.std.proofs.Common.{◌≡◌, ◌≢◌, ◌≤◌, ◌-◌, ◌⊎◌, inl, inr, ℕ, suc, zero, Bool, true, false}
use Rattle.std.proofs.Common.{nat_eq, List, [], ◌∷◌, ◌++◌, length, refl, subst, arith, Option, Some}
use Rattle.std.proofs.Common.{None}
use Rattle.std.specs.Prelude.{ℤ}
use Rattle.std.proofs.lemmas.Bool.Decides.{nat_tests}
use Rattle.c_lex.specs.declared.token.Kind.TheVariants as kinds
use Rattle.c_lex.specs.Vocabulary.{Token, Word, Lexeme, Blank, Bad, Fault, OpenComment, BadChar, IsLongest, each, span, is_letter, is_digit, is_identifier_byte, identifier_kind, digits, character, quoted, is_space, is_other_than_line_feed, after_end, comment, punctuator, slash, word, Piece, Cut, AreGood, size, tokens_of, IsTokens, IsLexicalFault}
use Rattle.c_lex.specs.Readers as readers
use Rattle.c_lex.specs.IntegerReaders as integers
use Rattle.c_lex.proofs.Taking.{takes, same, each_takes}
use Rattle.c_lex.proofs.Tokens.{punctuators_take, digits_take, zero_found, zero_alone}
use Rattle.c_lex.proofs.Quotes.{quote_found, quote_alone}
use Rattle.c_lex.proofs.CommentEnds.{comment_found, comment_open}
use Rattle.c_lex.proofs.FirstBytes.{slash_alone, name_first, zero_first, digit_first, quote_first}
use Rattle.c_lex.proofs.FirstBytes.{slash_first, space_first, punctuator_first}
use Rattle.c_lex.proofs.Texts.{shorter}

-- some longest word is at the front
record Has (of : List ℕ → Option Word) (text : List ℕ) : Type 0 where
  bytes : List ℕ
  after : List ℕ
  is : Word
  longest : IsLongest of text bytes after is

found : (of : List ℕ → Option Word) (text after : List ℕ) (x : Word)
    → (w : List ℕ) × IsLongest of text w after x → Has of text
found of text after x (w, k) = record { bytes = w; after = after; is = x; longest = k }

pub by_bool : {C : Type 0} (b : Bool) → (b ≡ true → C) → (b ≡ false → C) → C
by_bool true f g = f refl
by_bool false f g = g refl

by_byte : {C : Type 0} (b n : ℕ) → (b ≡ n → C) → (b ≢ n → C) → C
by_byte b n f g = by_bool (nat_eq b n) (λ e. f (grind (arith, nat_tests)))
    (λ e. g (grind (arith, nat_tests)))

has_punctuator : (b : ℕ) (bs : List ℕ) → Has (punctuator b) bs
has_punctuator b bs = let k = punctuators_take b bs in
    record { bytes = k.0; after = _; is = _; longest = k.1 }

has_digits : (base n : ℕ) (bs : List ℕ) → Has (digits base n) bs
has_digits base n bs = let k = digits_take base n bs in
    record { bytes = k.0; after = _; is = _; longest = k.1 }

has_zero : (bs : List ℕ) → Has integers.zero bs
has_zero bs = by (readers.hexadecimal bs) refl
  where
    by : (o : Option (ℕ × List ℕ)) → o ≡ readers.hexadecimal bs → Has integers.zero bs
    by None e = let k = has_digits 8 0 bs in
        found integers.zero bs k.after k.is (zero_alone bs k.after k.is e (k.bytes, k.longest))
    by (Some (d, rest)) e = let k = has_digits 16 d rest in
        found integers.zero bs k.after k.is
        (zero_found bs rest k.after d k.is e (k.bytes, k.longest))

has_quoted : (bs : List ℕ) → Has quoted bs
has_quoted bs = by (character bs) refl
  where
    by : (o : Option (ℤ × List ℕ)) → character bs ≡ o → Has quoted bs
    by None e = record { bytes = []; after = bs; is = Bad BadChar; longest = quote_alone bs e }
    by (Some (v, r)) e = found quoted bs r (Lexeme (kinds.CharacterConstant v))
        (quote_found bs r v e)

has_comment : (bs : List ℕ) → Has comment bs
has_comment bs = by (after_end bs) refl
  where
    by : (o : Option (List ℕ)) → after_end bs ≡ o → Has comment bs
    by None e = record { bytes = bs; after = []; is = Bad OpenComment; longest = comment_open bs e }
    by (Some r) e = found comment bs r Blank (comment_found bs r e)

has_slash : (bs : List ℕ) → Has slash bs
has_slash [] = let k = has_punctuator 47 [] in
    record {
      bytes = k.bytes;
      after = k.after;
      is = k.is;
      longest = same slash (punctuator 47) [] k.bytes k.after k.is nothing k.longest;
    }
  where
    nothing : (v a : List ℕ) → [] ≡ v ++ a → slash v ≡ punctuator 47 v
    nothing [] a e = refl
    nothing (c ∷ v) a e = absurd (cc)
has_slash (b ∷ bs) = by_byte b 47
    (λ e. let k = each_takes is_other_than_line_feed (λ _. Blank) bs in
    record {
      bytes = b ∷ (span is_other_than_line_feed bs).0;
      after = _;
      is = Blank;
      longest = takes slash (each is_other_than_line_feed (λ _. Blank)) b bs
          (span is_other_than_line_feed bs).0 (span is_other_than_line_feed bs).1 Blank
          (λ v a q. rw e refl) k;
    })
    (λ n. by_byte b 42
    (λ e. let k = has_comment bs in
    record {
      bytes = b ∷ k.bytes;
      after = k.after;
      is = k.is;
      longest = takes slash comment b bs k.bytes k.after k.is (λ v a q. rw e refl) k.longest;
    })
    (λ m. let k = has_punctuator 47 (b ∷ bs) in
    record {
      bytes = k.bytes;
      after = k.after;
      is = k.is;
      longest = same slash (punctuator 47)
          (b ∷ bs) k.bytes k.after k.is (slash_alone (b ∷ bs) n m) k.longest;
    }))

-- at each place of a text is a word
has_word : (b : ℕ) (bs : List ℕ) → Has word (b ∷ bs)
has_word b bs = by_bool (is_letter b)
    (λ l. at (span is_identifier_byte (b ∷ bs)).1
    (Lexeme (identifier_kind (span is_identifier_byte (b ∷ bs)).0))
    (name_first b bs (b ∷ bs) (span is_identifier_byte (b ∷ bs)).1
    (Lexeme (identifier_kind (span is_identifier_byte (b ∷ bs)).0)) refl l refl refl))
    (λ l. by_byte b 48
    (λ e. let k = has_zero bs in
    at k.after k.is (zero_first b bs (b ∷ bs) k.after k.is refl l e (k.bytes, k.longest)))
    (λ n. by_bool (is_digit b)
    (λ d. let k = has_digits 10 (b - 48) bs in
    at k.after k.is (digit_first b bs (b ∷ bs) k.after k.is refl l n d (k.bytes, k.longest)))
    (λ d. by_byte b 39
    (λ e. let k = has_quoted bs in
    at k.after k.is (quote_first b bs (b ∷ bs) k.after k.is refl l n d e (k.bytes, k.longest)))
    (λ m. by_byte b 47
    (λ e. let k = has_slash bs in
    at k.after k.is (slash_first b bs (b ∷ bs) k.after k.is refl l n d m e
    (k.bytes, k.longest)))
    (λ o. by_bool (is_space b)
    (λ s. at bs Blank (space_first b bs (b ∷ bs) bs Blank refl l n d m o s refl refl))
    (λ s. let k = has_punctuator b bs in
    at k.after k.is (punctuator_first b bs (b ∷ bs) k.after k.is refl l n d m o s
    (k.bytes, k.longest))))))))
  where
    at : (after : List ℕ) (x : Word) → (w : List ℕ) × IsLongest word (b ∷ bs) (b ∷ w) after x
        → Has word (b ∷ bs)
    at after x (w, k) = record { bytes = b ∷ w; after = after; is = x; longest = k }

-- ---- whole texts

record Ends (rest : List ℕ) : Type 0 where
  fault : Fault
  bytes : List ℕ
  after : List ℕ
  faulty : IsLongest word rest bytes after (Bad fault)

record IsCut (text : List ℕ) : Type 0 where
  pieces : List Piece
  rest : List ℕ
  good : AreGood pieces
  cut : Cut pieces text rest
  ends : (rest ≡ []) ⊎ Ends rest

is_cut : (n : ℕ) (text : List ℕ) → length text ≤ n → IsCut text
is_cut n [] h = record { pieces = []; rest = []; good = tt; cut = refl; ends = inl refl }
is_cut zero (b ∷ bs) h = absurd (omega arith)
is_cut (suc n) (b ∷ bs) h =
    let k = has_word b bs in
    let s = shorter (b ∷ bs) k.bytes k.after k.is k.longest in
    first k.bytes k.after k.is k.longest (is_cut n k.after (omega arith))
  where
    first : (w after : List ℕ) (x : Word) → IsLongest word (b ∷ bs) w after x → IsCut after
        → IsCut (b ∷ bs)
    first w after (Bad f) k c =
        record {
          pieces = [];
          rest = b ∷ bs;
          good = tt;
          cut = refl;
          ends = inr (record { fault = f; bytes = w; after = after; faulty = k });
        }
    first w after (Lexeme kind) k c =
        record {
          pieces = record { bytes = w; is = Lexeme kind } ∷ c.pieces;
          rest = c.rest;
          good = (tt, c.good);
          cut = (after, k, c.cut);
          ends = c.ends;
        }
    first w after Blank k c =
        record {
          pieces = record { bytes = w; is = Blank } ∷ c.pieces;
          rest = c.rest;
          good = (tt, c.good);
          cut = (after, k, c.cut);
          ends = c.ends;
        }

pub each_text : (text : List ℕ)
    → ((ts : List Token) × IsTokens text ts) ⊎ ((f : Fault) × (at : ℕ) × IsLexicalFault text f at)
each_text text = let k = is_cut (length text) text (omega arith) in by k k.ends
  where
    by : (k : IsCut text) → (k.rest ≡ []) ⊎ Ends k.rest
        → ((ts : List Token) × IsTokens text ts)
        ⊎ ((f : Fault) × (at : ℕ) × IsLexicalFault text f at)
    by k (inl e) = inl (
      tokens_of 0 k.pieces,
      record {
        pieces = k.pieces;
        good = k.good;
        cut = subst (λ (r : List ℕ). Cut k.pieces text r) e k.cut;
        exact = refl;
      },
    )
    by k (inr d) = inr (
      d.fault,
      size k.pieces,
      record {
        pieces = k.pieces;
        rest = k.rest;
        good = k.good;
        cut = k.cut;
        place = refl;
        bytes = d.bytes;
        after = d.after;
        faulty =
            d.faulty;
      },
    )
