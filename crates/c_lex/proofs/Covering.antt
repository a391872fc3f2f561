-- Tokens' ranges, and what lies between them.
use Rattle.std.proofs.Common.{◌≡◌, ◌≤◌, ◌<◌, ◌+◌, ℕ, List, [], ◌∷◌, ◌++◌, length, refl, sym, ap}
use Rattle.std.proofs.Common.{subst, ◌∙◌, arith, Some, length-append, append_assoc}
use Rattle.c_lex.specs.Vocabulary.{Token, Word, Lexeme, Blank, Bad, word, Piece, Cut, IsGood, AreGood, token_of, tokens_of, IsTokens}
use Rattle.c_lex.specs.Laws.{Rises, IsCovered}
use Rattle.c_lex.proofs.Texts.{shorter}

-- ---- ranges

-- a beginning further down serves too
sooner : (at to end : ℕ) (ts : List Token) → at ≤ to → Rises to ts end → Rises at ts end
sooner at to end [] h r = omega arith
sooner at to end (t ∷ ts) h (a, b, r) = (omega arith, b, r)

rises : (ps : List Piece) (at : ℕ) (text : List ℕ) → AreGood ps → Cut ps text []
    → Rises at (tokens_of at ps) (at + length text)
rises [] at text g c = omega arith
rises (p ∷ ps) at text (g, gs) (after, k, c) =
    by p.is g refl (rises ps (at + length p.bytes) after gs c)
  where
    first : (x : Word) → IsGood x → 0 < length p.bytes
        → Rises (at + length p.bytes) (tokens_of (at + length p.bytes) ps) (at + length text)
        → Rises at (token_of at p.bytes x ++ tokens_of (at + length p.bytes) ps) (at + length text)
    first (Lexeme kind) g h l = (omega arith, omega arith, l)
    first Blank g h l = sooner at (at + length p.bytes) (at + length text)
        (tokens_of (at + length p.bytes) ps) (omega arith) l
    first (Bad f) g h l = absurd g

    by : (x : Word) → IsGood x → p.is ≡ x
        → Rises (at + length p.bytes) (tokens_of (at + length p.bytes) ps)
        (at + length p.bytes + length after)
        → Rises at (token_of at p.bytes x ++ tokens_of (at + length p.bytes) ps) (at + length text)
    by x g e h =
        let n : length text ≡ length p.bytes + length after = ap length k.split
        ∙ length-append p.bytes after in
        let s = shorter text p.bytes after p.is k in
        let later : Rises (at + length p.bytes) (tokens_of (at + length p.bytes) ps)
        (at + length text) = subst (λ m. Rises (at + length p.bytes)
        (tokens_of (at + length p.bytes) ps) m) (omega arith) h in
        first x g (omega arith) later

pub ranges_rise : (text : List ℕ) (ts : List Token) → IsTokens text ts → Rises 0 ts (length text)
ranges_rise text ts k = let e = k.exact in
    rw e (subst (λ m. Rises 0 (tokens_of 0 k.pieces) m) (omega arith)
    (rises k.pieces 0 text k.good k.cut))

-- ---- every byte

-- white space or a comment before what is covered
after_blank : (at : ℕ) (w rest text : List ℕ) (ts : List Token) → text ≡ w ++ rest
    → word w ≡ Some Blank → IsCovered (at + length w) rest ts → IsCovered at text ts
after_blank at w rest text [] e b (ws, k) = (w ∷ ws, (rest, e, b, k))
after_blank at w rest text (t ∷ ts) e b (ws, gap, bytes, more, p, q, r, s, u, k) =
    let l : t.start ≡ at + length (w ++ gap) = omega (arith, length-append w gap) in (
      w ∷ ws,
      w ++ gap,
      bytes,
      more,
      e ∙ ap (λ (v : List ℕ). w ++ v) p
          ∙ sym (append_assoc w gap (bytes ++ more)),
      (gap, refl, b, q),
      r,
      l,
      u,
      k,
    )

covered : (ps : List Piece) (at : ℕ) (text : List ℕ) → AreGood ps → Cut ps text []
    → IsCovered at text (tokens_of at ps)
covered [] at text g c = ([], c)
covered (p ∷ ps) at text (g, gs) (after, k, c) =
    by p.is g refl (covered ps (at + length p.bytes) after gs c)
  where
    by : (x : Word) → IsGood x → p.is ≡ x
        → IsCovered (at + length p.bytes) after (tokens_of (at + length p.bytes) ps)
        → IsCovered at text (token_of at p.bytes x ++ tokens_of (at + length p.bytes) ps)
    by (Lexeme kind) g e h = (
      [],
      [],
      p.bytes,
      after,
      k.split,
      refl,
      k.is
          ∙ ap (λ (y : Word). Some y) e,
      omega arith,
      refl,
      h,
    )
    by Blank g e h = after_blank at p.bytes after text (tokens_of (at + length p.bytes) ps) k.split
        (k.is ∙ ap (λ (y : Word). Some y) e) h
    by (Bad f) g e h = absurd g

pub every_byte : (text : List ℕ) (ts : List Token) → IsTokens text ts → IsCovered 0 text ts
every_byte text ts k = let e = k.exact in rw e (covered k.pieces 0 text k.good k.cut)

-- each token is a byte at least
rises_by : (at : ℕ) (ts : List Token) (end : ℕ) → Rises at ts end → length ts + at ≤ end
rises_by at [] end h = omega arith
rises_by at (t ∷ ts) end h = let a = h.0 in let b = h.1 in let c = rises_by t.end ts end h.2 in
    omega arith

-- A text has no more tokens than bytes.
pub few_tokens : (text : List ℕ) (ts : List Token) → IsTokens text ts → length ts ≤ length text
few_tokens text ts h = let a = rises_by 0 ts (length text) (ranges_rise text ts h) in omega arith
