-- Words one after another.
use Rattle.std.proofs.Common.{◌≡◌, ◌⊎◌, inl, inr, ℕ, zero, suc, ◌<◌, List, [], ◌∷◌, length, get_or, refl, ap, sym, ◌∙◌, arith, Option, Some, None, Bool, true, false}
use Rattle.std.specs.Prelude.{nat_eq, slice_set, if◌then◌else◌}
use Rattle.std.proofs.lemmas.Bool.{eqb-true}
use Rattle.known_frames.specs.declared.knowledge.Saved.{Saved}
use Rattle.known_frames.specs.declared.words.Loss.{Loss}
use Rattle.known_frames.specs.Views.{words_of, loses, left, left_if}

-- ---- words taken away

at_head : (loss : Loss) (s : Saved) (b here : Bool) (j : ℕ) (xs ys : List (Option Saved))
    → loses loss s.at ≡ b → nat_eq s.at j ≡ here
    → words_of xs j ≡ (if loses loss j then None else words_of ys j)
    → words_of (left_if b (Some s) ∷ xs) j
    ≡ (if loses loss j then None else (if here then Some s.register else words_of ys j))
at_head loss s true true j xs ys is e h =
    h ∙ ap (λ b. if b then None else words_of ys j) (ap (loses loss) (sym (eqb-true s.at j e)) ∙ is)
    ∙ ap (λ b. if b then None else Some s.register)
    (sym (ap (loses loss) (sym (eqb-true s.at j e)) ∙ is))
at_head loss s true false j xs ys is e h = h
at_head loss s false true j xs ys is e h =
    ap (λ b. if b then Some s.register else words_of xs j) e
    ∙ ap (λ b. if b then None else Some s.register)
    (sym (ap (loses loss) (sym (eqb-true s.at j e)) ∙ is))
at_head loss s false false j xs ys is e h =
    ap (λ b. if b then Some s.register else words_of xs j) e ∙ h

one_left : (loss : Loss) (o : Option Saved) (j : ℕ) (xs ys : List (Option Saved))
    → words_of xs j ≡ (if loses loss j then None else words_of ys j)
    → words_of (left loss o ∷ xs) j ≡ (if loses loss j then None else words_of (o ∷ ys) j)
one_left loss None j xs ys h = h
one_left loss (Some s) j xs ys h =
    at_head loss s (loses loss s.at) (nat_eq s.at j) j xs ys refl refl h

none_left : (b : Bool) → ◌≡◌ {A = Option ℕ} None (if b then None else None)
none_left true = refl
none_left false = refl

pub all_left : (loss : Loss) (xs ys : List (Option Saved)) → length xs ≡ length ys
    → ((k : ℕ) → k < length ys → get_or xs k None ≡ left loss (get_or ys k None)) → (j : ℕ)
    → words_of xs j ≡ (if loses loss j then None else words_of ys j)
all_left loss [] [] e h j = none_left (loses loss j)
all_left loss [] (y ∷ ys) e h j = absurd (omega (arith, e))
all_left loss (x ∷ xs) [] e h j = absurd (omega (arith, e))
all_left loss (x ∷ xs) (y ∷ ys) e h j =
    ap (λ o. words_of (o ∷ xs) j) (h 0 (omega arith))
    ∙ one_left loss y j xs ys
    (all_left loss xs ys (omega (arith, e)) (λ k lt. h (suc k) (omega (arith, lt))) j)

-- ---- a word named

set_head : (s : Saved) (here : Bool) (j : ℕ) (ws : List (Option Saved)) → nat_eq s.at j ≡ here
    → (words_of (Some s ∷ ws) j ≡ words_of ws j)
    ⊎ ((j ≡ s.at) × (words_of (Some s ∷ ws) j ≡ Some s.register))
set_head s true j ws e = inr
    (sym (eqb-true s.at j e), ap (λ b. if b then Some s.register else words_of ws j) e)
set_head s false j ws e = inl (ap (λ b. if b then Some s.register else words_of ws j) e)

abbrev pub Named : List (Option Saved) → List (Option Saved) → Saved → ℕ → Type 0
Named xs ys s j =
    (words_of xs j ≡ words_of ys j) ⊎ ((j ≡ s.at) × (words_of xs j ≡ Some s.register))

past_other : (o : Saved) (here : Bool) (xs ys : List (Option Saved)) (s : Saved) (j : ℕ)
    → nat_eq o.at j ≡ here → Named xs ys s j → Named (Some o ∷ xs) (Some o ∷ ys) s j
past_other o true xs ys s j e h = inl
    (ap (λ b. if b then Some o.register else words_of xs j) e
    ∙ sym (ap (λ b. if b then Some o.register else words_of ys j) e))
past_other o false xs ys s j e (inl h) = inl
    (ap (λ b. if b then Some o.register else words_of xs j) e ∙ h
    ∙ sym (ap (λ b. if b then Some o.register else words_of ys j) e))
past_other o false xs ys s j e (inr h) = inr
    (h.0, ap (λ b. if b then Some o.register else words_of xs j) e ∙ h.1)

past_one : (o : Option Saved) (xs ys : List (Option Saved)) (s : Saved) (j : ℕ)
    → Named xs ys s j → Named (o ∷ xs) (o ∷ ys) s j
past_one None xs ys s j h = h
past_one (Some o) xs ys s j h = past_other o (nat_eq o.at j) xs ys s j refl h

pub named : (ws : List (Option Saved)) (k : ℕ) (s : Saved) → k < length ws
    → get_or ws k None ≡ None → (j : ℕ) → Named (slice_set ws k (Some s)) ws s j
named [] k s lt e j = absurd (omega (arith, lt))
named (None ∷ ws) zero s lt e j = set_head s (nat_eq s.at j) j ws refl
named (Some o ∷ ws) zero s lt e j = absurd cc
named (w ∷ ws) (suc k) s lt e j =
    past_one w (slice_set ws k (Some s)) ws s j (named ws k s (omega (arith, lt)) e j)
