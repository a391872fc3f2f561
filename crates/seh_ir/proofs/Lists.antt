-- Instructions, one after another.
use Rattle.std.proofs.Common.{◌≡◌, ℕ, zero, suc, ◌+◌, ◌<◌, max, List, [], ◌∷◌, length, take, get_or, refl, arith}
use Rattle.seh_ir.specs.Words.{Instruction}
use Rattle.seh_ir.specs.Slots.{instruction_temporaries, temporaries_in, instruction_passes, passed_in}

used_next : (f : Instruction → ℕ) (all : List Instruction → ℕ) → (all [] ≡ 0)
    → ((x : Instruction) (xs : List Instruction) → all (x ∷ xs) ≡ max (f x) (all xs))
    → (items : List Instruction) (i : ℕ) (d : Instruction) → i < length items
    → all (take (suc i) items) ≡ max (all (take i items)) (f (get_or items i d))
used_next f all none some [] i d lt = absurd (omega arith)
used_next f all none some (x ∷ xs) zero d lt = let a = some x [] in omega arith
used_next f all none some (x ∷ xs) (suc i) d lt =
    let r = used_next f all none some xs i d (omega arith) in
    let a = some x (take (suc i) xs) in
    let b = some x (take i xs) in
    omega arith

pub temporaries_next : (items : List Instruction) (i : ℕ) (d : Instruction) (most own next : ℕ)
    → i < length items → most ≡ temporaries_in (take i items)
    → own ≡ instruction_temporaries (get_or items i d) → next ≡ max most own
    → next ≡ temporaries_in (take (i + 1) items)
temporaries_next items i d most own next lt t s n =
    let one : i + 1 ≡ suc i = omega arith in
    let e = used_next instruction_temporaries temporaries_in refl (λ x xs. refl) items i d lt in
    rw one (omega arith)

pub passed_next : (items : List Instruction) (i : ℕ) (d : Instruction) (most own next : ℕ)
    → i < length items → most ≡ passed_in (take i items)
    → own ≡ instruction_passes (get_or items i d) → next ≡ max most own
    → next ≡ passed_in (take (i + 1) items)
passed_next items i d most own next lt t s n =
    let one : i + 1 ≡ suc i = omega arith in
    let e = used_next instruction_passes passed_in refl (λ x xs. refl) items i d lt in
    rw one (omega arith)
