-- How a text is cut into words, and that it is so in one way.
use Rattle.std.proofs.Common.{◌≡◌, ◌≤◌, ◌<◌, ◌-◌, ◌+◌, ◌⊎◌, inl, inr, ℕ, List, [], ◌∷◌, ◌++◌}
use Rattle.std.proofs.Common.{length, refl, sym, ap, subst, ◌∙◌, arith, Option, Some, length-append}
use Rattle.std.proofs.Common.{append_assoc, add_assoc}
use Rattle.c_lex.specs.declared.token.Kind.{Kind}
use Rattle.c_lex.specs.Vocabulary.{Token, Word, Lexeme, Blank, Bad, Fault, IsLongest, word, Piece, Cut, IsGood, AreGood, size, token, token_of, tokens_of, IsTokens, IsLexicalFault}

-- ---- one word

-- a word has bytes
pub shorter : (text w r : List ℕ) (x : Word) → IsLongest word text w r x → length r < length text
shorter text w r x k = by w k.is (ap length k.split ∙ length-append w r)
  where
    by : (w : List ℕ) → word w ≡ Some x → length text ≡ length w + length r → length r < length text
    by [] i n = absurd (cc)
    by (b ∷ w) i n = omega arith

append_nil : (l : List ℕ) → l ++ [] ≡ l
append_nil [] = refl
append_nil (b ∷ l) = ap (λ (k : List ℕ). b ∷ k) (append_nil l)

-- of two fronts of a text one begins the other
compare : (v r w s : List ℕ) → v ++ r ≡ w ++ s
    → ((m : List ℕ) × (w ≡ v ++ m) × (r ≡ m ++ s)) ⊎ ((m : List ℕ) × (v ≡ w ++ m) × (s ≡ m ++ r))
compare [] r w s e = inl (w, refl, e)
compare (b ∷ v) r [] s e = inr (b ∷ v, refl, sym e)
compare (b ∷ v) r (c ∷ w) s e =
    let h : b ≡ c = cc in
    let t : v ++ r ≡ w ++ s = cc in
    longer h (compare v r w s t)
  where
    longer : b ≡ c → ((m : List ℕ) × (w ≡ v ++ m) × (r ≡ m ++ s))
        ⊎ ((m : List ℕ) × (v ≡ w ++ m) × (s ≡ m ++ r))
        → ((m : List ℕ) × (c ∷ w ≡ b ∷ v ++ m) × (r ≡ m ++ s))
        ⊎ ((m : List ℕ) × (b ∷ v ≡ c ∷ w ++ m) × (s ≡ m ++ r))
    longer h (inl (m, p, q)) = inl (m, cc, q)
    longer h (inr (m, p, q)) = inr (m, cc, q)

record Same {A : Type 0} (w r : List ℕ) (x : A) (v s : List ℕ) (y : A) : Type 0 where
  bytes : w ≡ v
  rest : r ≡ s
  is : x ≡ y

-- there is one longest word
longest_once : {A : Type 0} (of : List ℕ → Option A) (text w r v s : List ℕ) (x y : A)
    → IsLongest of text w r x → IsLongest of text v s y → Same w r x v s y
longest_once {A = A} of text w r v s x y k l = by (compare w r v s (sym k.split ∙ l.split))
  where
    last : (v w s r m : List ℕ) (x y : A) → of w ≡ Some x → of v ≡ Some y → v ≡ w ++ m → r ≡ m ++ s
        → m ≡ [] → Same w r x v s y
    last v w s r m x y i j p q e =
        let h : v ≡ w = p ∙ ap (λ (n : List ℕ). w ++ n) e ∙ append_nil w in
        let n : r ≡ s = q ∙ ap (λ (n : List ℕ). n ++ s) e in
        let o : of v ≡ of w = ap of h in
        record { bytes = sym h; rest = n; is = cc }

    turned : Same v s y w r x → Same w r x v s y
    turned a = record { bytes = sym a.bytes; rest = sym a.rest; is = sym a.is }

    by : ((m : List ℕ) × (v ≡ w ++ m) × (r ≡ m ++ s)) ⊎ ((m : List ℕ) × (w ≡ v ++ m) × (s ≡ m ++ r))
        → Same w r x v s y
    by (inl (m, p, q)) = last v w s r m x y k.is l.is p q (k.longest m s y q (sym (ap of p) ∙ l.is))
    by (inr (m, p, q)) = turned
        (last w v r s m y x l.is k.is p q (l.longest m r x q (sym (ap of p) ∙ k.is)))

-- ---- cuts

pub cut_size : (ps : List Piece) (text rest : List ℕ) → Cut ps text rest
    → length text ≡ size ps + length rest
cut_size [] text rest c = ap length c ∙ omega arith
cut_size (p ∷ ps) text rest (after, k, c) =
    omega (arith, ap length k.split, length-append p.bytes after, cut_size ps after rest c)

pub cut_more : (ps : List Piece) (text rest w after : List ℕ) (x : Word) → Cut ps text rest
    → IsLongest word rest w after x → Cut (ps ++ record { bytes = w; is = x } ∷ []) text after
cut_more [] text rest w after x c k =
    (after, subst (λ (t : List ℕ). IsLongest word t w after x) (sym c) k, refl)
cut_more (p ∷ ps) text rest w after x (mid, l, c) k = (mid, l, cut_more ps mid rest w after x c k)

pub good_more : (ps : List Piece) (w : List ℕ) (x : Word) → AreGood ps → IsGood x
    → AreGood (ps ++ record { bytes = w; is = x } ∷ [])
good_more [] w x g h = (h, tt)
good_more (p ∷ ps) w x (g, gs) h = (g, good_more ps w x gs h)

append_none : (ts : List Token) → ts ++ [] ≡ ts
append_none [] = refl
append_none (t ∷ ts) = ap (λ (us : List Token). t ∷ us) (append_none ts)

pub tokens_more : (ps : List Piece) (at : ℕ) (w : List ℕ) (x : Word)
    → tokens_of at (ps ++ record { bytes = w; is = x } ∷ []) ≡ tokens_of at ps ++ token_of
    (at + size ps) w x
tokens_more [] at w x = append_none (token_of at w x) ∙ ap (λ n. token_of n w x) (omega arith)
tokens_more (p ∷ ps) at w x =
    ap (λ (ts : List Token). token_of at p.bytes p.is ++ ts)
    (tokens_more ps (at + length p.bytes) w x)
    ∙ sym (append_assoc (token_of at p.bytes p.is) (tokens_of (at + length p.bytes) ps)
    (token_of (at + length p.bytes + size ps) w x))
    ∙ ap (λ n. (token_of at p.bytes p.is ++ tokens_of (at + length p.bytes) ps) ++ token_of n w x)
    (add_assoc at (length p.bytes) (size ps))

-- no good word begins there
record Stops (rest : List ℕ) : Type 0 where
  none : (w after : List ℕ) (x : Word) → IsLongest word rest w after x → IsGood x → ⊥

at_end : Stops []
at_end = record { none = λ w after x k g. let h = shorter [] w after x k in omega arith }

at_fault : (rest bytes after : List ℕ) (f : Fault) → IsLongest word rest bytes after (Bad f)
    → Stops rest
at_fault rest bytes after f k =
    record {
      none = λ w a x l g. let s = longest_once word rest w a bytes after x (Bad f) l k in
          subst IsGood s.is g;
    }

record SameCut (ps : List Piece) (r : List ℕ) (qs : List Piece) (s : List ℕ) : Type 0 where
  pieces : ps ≡ qs
  rest : r ≡ s

-- a text is cut in one way, as far as its words are good
cut_once : (ps qs : List Piece) (text r s : List ℕ) → AreGood ps → AreGood qs → Cut ps text r
    → Cut qs text s → Stops r → Stops s → SameCut ps r qs s
cut_once [] [] text r s g h c d x y = record { pieces = refl; rest = sym c ∙ d }
cut_once [] (q ∷ qs) text r s g (h, hs) c (after, k, d) x y =
    absurd (x.none q.bytes after q.is
    (subst (λ (t : List ℕ). IsLongest word t q.bytes after q.is) c k) h)
cut_once (p ∷ ps) [] text r s (g, gs) h (after, k, c) d x y =
    absurd (y.none p.bytes after p.is
    (subst (λ (t : List ℕ). IsLongest word t p.bytes after p.is) d k) g)
cut_once (p ∷ ps) (q ∷ qs) text r s (g, gs) (h, hs) (after, k, c) (later, l, d) x y =
    let m = longest_once word text p.bytes after q.bytes later p.is q.is k l in
    let n = cut_once ps qs after r s gs hs c (subst (λ (t : List ℕ). Cut qs t s) (sym m.rest) d) x
    y in
    let e : p ≡ q = piece_is p.bytes q.bytes p.is q.is m.bytes m.is in
    let f = n.pieces in
    record { pieces = cc; rest = n.rest }
  where
    piece_is : (v w : List ℕ) (x y : Word) → v ≡ w → x ≡ y
        → ◌≡◌ {A = Piece} (record { bytes = v; is = x }) (record { bytes = w; is = y })
    piece_is v w x y a b = ap (λ (u : List ℕ). record { bytes = u; is = x }) a
        ∙ ap (λ (z : Word). record { bytes = w; is = z }) b

-- ---- texts

pub tokens_once : (text : List ℕ) (ts us : List Token) → IsTokens text ts → IsTokens text us
    → ts ≡ us
tokens_once text ts us a b = let c =
    cut_once a.pieces b.pieces text [] [] a.good b.good a.cut b.cut at_end at_end in
    a.exact ∙ ap (tokens_of 0) c.pieces ∙ sym b.exact

pub no_fault : (text : List ℕ) (ts : List Token) (f : Fault) (at : ℕ) → IsTokens text ts
    → IsLexicalFault text f at → ⊥
no_fault text ts f at a b =
    let c = cut_once a.pieces b.pieces text [] b.rest a.good b.good a.cut b.cut at_end
    (at_fault b.rest b.bytes b.after f b.faulty) in
    let k = subst (λ (t : List ℕ). IsLongest word t b.bytes b.after (Bad f))
    (sym c.rest) b.faulty in
    let h = shorter [] b.bytes b.after (Bad f) k in
    omega arith

pub record SameFault (f : Fault) (at : ℕ) (g : Fault) (to : ℕ) : Type 0 where
  pub fault : f ≡ g
  pub place : at ≡ to

pub fault_once : (text : List ℕ) (f g : Fault) (at to : ℕ) → IsLexicalFault text f at
    → IsLexicalFault text g to → SameFault f at g to
fault_once text f g at to a b =
    let c = cut_once a.pieces b.pieces text a.rest b.rest a.good b.good a.cut b.cut
    (at_fault a.rest a.bytes a.after f a.faulty) (at_fault b.rest b.bytes b.after g b.faulty) in
    let k = subst (λ (t : List ℕ). IsLongest word t b.bytes b.after (Bad g))
    (sym c.rest) b.faulty in
    let s = longest_once word a.rest a.bytes a.after b.bytes b.after (Bad f) (Bad g) a.faulty k in
    let e = s.is in
    record { fault = cc; place = a.place ∙ ap size c.pieces ∙ sym b.place }

-- ---- as far as the code has read

pub record IsReadTo (text rest : List ℕ) (tokens : List Token) : Type 0 where
  pub pieces : List Piece
  pub good : AreGood pieces
  pub cut : Cut pieces text rest
  pub exact : tokens ≡ tokens_of 0 pieces

pub begins : (text : List ℕ) (tokens : List Token) → tokens ≡ [] → IsReadTo text text tokens
begins text tokens e = record { pieces = []; good = tt; cut = refl; exact = e }

pub no_longer : (text rest : List ℕ) (tokens : List Token) → IsReadTo text rest tokens
    → length rest ≤ length text
no_longer text rest tokens k = omega (arith, cut_size k.pieces text rest k.cut)

pub with_blank : (text rest after w : List ℕ) (tokens : List Token) (x : Word)
    → IsReadTo text rest tokens → IsLongest word rest w after x → x ≡ Blank
    → IsReadTo text after tokens
with_blank text rest after w tokens x k l e =
    let l' = subst (λ (y : Word). IsLongest word rest w after y) e l in
    record {
      pieces = k.pieces ++ record { bytes = w; is = Blank } ∷ [];
      good = good_more k.pieces w Blank k.good tt;
      cut = cut_more k.pieces text rest w after Blank k.cut l';
      exact = k.exact ∙ sym (tokens_more k.pieces 0 w Blank ∙ append_none (tokens_of 0 k.pieces));
    }

pub with_token : (text rest after w : List ℕ) (tokens more : List Token) (x : Word) (kind : Kind)
    → IsReadTo text rest tokens → IsLongest word rest w after x → x ≡ Lexeme kind
    → more ≡ tokens ++ token kind (length text - length rest) (length text - length after) ∷ []
    → IsReadTo text after more
with_token text rest after w tokens more x kind k l e p =
    let l' = subst (λ (y : Word). IsLongest word rest w after y) e l in
    let n = cut_size k.pieces text rest k.cut in
    let s : 0 + size k.pieces ≡ length text - length rest = omega arith in
    let t : 0 + size k.pieces + length w ≡ length text - length after =
    omega (arith, ap length l.split, length-append w after) in
    record {
      pieces = k.pieces ++ record { bytes = w; is = Lexeme kind } ∷ [];
      good = good_more k.pieces w (Lexeme kind) k.good tt;
      cut = cut_more k.pieces text rest w after (Lexeme kind) k.cut l';
      exact = p ∙ sym (tokens_more k.pieces 0 w (Lexeme kind)
          ∙ ap (λ (u : List Token). u ++ token kind (0 + size k.pieces)
          (0 + size k.pieces + length w) ∷ []) (sym k.exact)
          ∙ ap (λ a. tokens ++ token kind a (0 + size k.pieces + length w) ∷ []) s
          ∙ ap (λ a. tokens ++ token kind (length text - length rest) a ∷ []) t);
    }

pub all_read : (text rest : List ℕ) (tokens : List Token) → IsReadTo text rest tokens → rest ≡ []
    → IsTokens text tokens
all_read text rest tokens k e =
    record {
      pieces = k.pieces;
      good = k.good;
      cut = subst (λ (r : List ℕ). Cut k.pieces text r) e
          k.cut;
      exact = k.exact;
    }

pub fault_read : (text rest after w : List ℕ) (tokens : List Token) (x : Word) (f : Fault)
    → IsReadTo text rest tokens → IsLongest word rest w after x → x ≡ Bad f
    → IsLexicalFault text f (length text - length rest)
fault_read text rest after w tokens x f k l e =
    let n = cut_size k.pieces text rest k.cut in
    record {
      pieces = k.pieces;
      rest = rest;
      good = k.good;
      cut = k.cut;
      place = omega arith;
      bytes = w;
      after = after;
      faulty = subst (λ (y : Word). IsLongest word rest w after y) e l;
    }
