-- What readers take from the front.
use Rattle.std.proofs.Common.{◌≡◌, ◌≤◌, ◌-◌, ℕ, Bool, true, false, cond, List, [], ◌∷◌, ◌++◌}
use Rattle.std.proofs.Common.{length, take, drop, get_or, refl, sym, ap, ◌∙◌, arith, Option}
use Rattle.std.proofs.Common.{length-append}
use Rattle.std.proofs.Math.Seq.{take-length}
use Rattle.c_lex.specs.Vocabulary.{more, span, one, two, either}

-- ---- texts as patterns of slices have them

pub rest_of : (b : ℕ) (bs : List ℕ) → take (length (b ∷ bs) - 1) (drop 1 (b ∷ bs)) ≡ bs
rest_of b bs = let p : length (b ∷ bs) - 1 ≡ length bs = omega arith in ap (λ n. take n bs) p
    ∙ take-length bs

pub rest_of_two : (a b : ℕ) (bs : List ℕ)
    → take (length (a ∷ b ∷ bs) - 2) (drop 2 (a ∷ b ∷ bs)) ≡ bs
rest_of_two a b bs = let p : length (a ∷ b ∷ bs) - 2 ≡ length bs = omega arith in
    ap (λ n. take n bs) p ∙ take-length bs

pub at_two : {A : Type 0} (of : List ℕ → Option A) (x : A) (text : List ℕ) → 2 ≤ length text
    → two of x text ≡ either (of (get_or text 0 0 ∷ get_or text 1 0 ∷ []))
    (take (length text - 2) (drop 2 text)) (one of x text)
at_two of x [] h = absurd (omega arith)
at_two of x (a ∷ []) h = absurd (omega arith)
at_two of x (a ∷ (b ∷ bs)) h = ap (λ r. either (of (a ∷ b ∷ [])) r (one of x (a ∷ b ∷ bs)))
    (sym (rest_of_two a b bs))

-- ---- spans

pub by_test : {A : Type 0} (P : A → Type 0) (b : Bool) (x y : A) → (b ≡ true → P x)
    → (b ≡ false → P y) → P (cond b x y)
by_test P true x y f g = f refl
by_test P false x y f g = g refl

pub span_split : (p : ℕ → Bool) (bs : List ℕ) → bs ≡ (span p bs).0 ++ (span p bs).1
span_split p [] = refl
span_split p (b ∷ bs) = by_test (λ (r : List ℕ × List ℕ). b ∷ bs ≡ r.0 ++ r.1) (p b)
    (more b (span p bs)) ([], b ∷ bs) (λ e. ap (λ (x : List ℕ). b ∷ x) (span_split p bs))
    (λ e. refl)

pub front_of : (text front rest : List ℕ) → text ≡ front ++ rest
    → take (length text - length rest) text ≡ front
front_of text front rest e =
    rw e (let n : length (front ++ rest) - length rest ≡ length front = omega
    (arith, length-append front rest) in rw n (all front rest))
  where
    all : (front rest : List ℕ) → take (length front) (front ++ rest) ≡ front
    all [] rest = refl
    all (b ∷ bs) rest = ap (λ (x : List ℕ). b ∷ x) (all bs rest)

-- the word that a span is, as the code cuts it
pub span_front : (p : ℕ → Bool) (text : List ℕ)
    → take (length text - length (span p text).1) text ≡ (span p text).0
span_front p text = front_of text (span p text).0 (span p text).1 (span_split p text)

pub span_shorter : (p : ℕ → Bool) (text : List ℕ) → length (span p text).1 ≤ length text
span_shorter p text =
    omega (arith, ap length (span_split p text), length-append (span p text).0 (span p text).1)
