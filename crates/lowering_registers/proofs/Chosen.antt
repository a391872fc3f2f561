-- The first seven that aren't marked, one after another.
use Rattle.std.proofs.Common.{◌≡◌, ℕ, zero, suc, add-one, ◌+◌, ◌<◌, ◌≤◌, Bool, true, false, List, [], ◌∷◌, ◌++◌, length, take, drop, get_or, refl, sym, ap, ◌∙◌, arith, append_assoc}
use Rattle.std.proofs.Math.Seq.{drop-cons}
use Rattle.lowering_registers.specs.Shared.{unshared_if}
use Rattle.lowering_registers.specs.Marks.{unmarked}

-- what is left from a mark on
rest_of : (marks : List Bool) (i : ℕ) (b d : Bool) → i < length marks → get_or marks i d ≡ b
    → unmarked (drop i marks) i ≡ unshared_if b i (unmarked (drop (i + 1) marks) (i + 1))
rest_of marks i b d lt is =
    ap (λ bs. unmarked bs i) (drop-cons marks i d lt ∙ ap (λ k. get_or marks i d ∷ drop k marks)
    (sym (add-one i))) ∙ ap (λ c. unshared_if c i (unmarked (drop (i + 1) marks) (i + 1))) is

-- of a full list nothing more is taken
taken_full : (n : ℕ) (xs ys : List ℕ) → n ≤ length xs → take n (xs ++ ys) ≡ take n xs
taken_full zero xs ys le = refl
taken_full (suc n) [] ys le = absurd (omega arith)
taken_full (suc n) (x ∷ xs) ys le = ap (λ zs. x ∷ zs) (taken_full n xs ys (omega arith))

-- a marked one is left out
pub marked_next : (marks : List Bool) (i : ℕ) (d : Bool) (chosen all : List ℕ) → i < length marks
    → get_or marks i d ≡ true → take 7 (chosen ++ unmarked (drop i marks) i) ≡ all
    → take 7 (chosen ++ unmarked (drop (i + 1) marks) (i + 1)) ≡ all
marked_next marks i d chosen all lt is h =
    sym (ap (λ xs. take 7 (chosen ++ xs)) (rest_of marks i true d lt is)) ∙ h

-- one that isn't comes after those before it
pub chosen_next : (marks : List Bool) (i : ℕ) (d : Bool) (chosen new all : List ℕ)
    → i < length marks → get_or marks i d ≡ false → new ≡ chosen ++ i ∷ []
    → take 7 (chosen ++ unmarked (drop i marks) i) ≡ all
    → take 7 (new ++ unmarked (drop (i + 1) marks) (i + 1)) ≡ all
chosen_next marks i d chosen new all lt is n h =
    let rest = unmarked (drop (i + 1) marks) (i + 1) in
    ap (λ xs. take 7 (xs ++ rest)) n ∙ ap (take 7) (append_assoc chosen (i ∷ []) rest)
    ∙ sym (ap (λ xs. take 7 (chosen ++ xs)) (rest_of marks i false d lt is)) ∙ h

-- after seven none is
pub none_next : (marks : List Bool) (i : ℕ) (chosen all : List ℕ) → 7 ≤ length chosen
    → take 7 (chosen ++ unmarked (drop i marks) i) ≡ all
    → take 7 (chosen ++ unmarked (drop (i + 1) marks) (i + 1)) ≡ all
none_next marks i chosen all full h =
    taken_full 7 chosen (unmarked (drop (i + 1) marks) (i + 1)) full
    ∙ sym (taken_full 7 chosen (unmarked (drop i marks) i) full) ∙ h
