-- One info more of a chain.
use Rattle.std.proofs.Common.{◌≡◌, ℕ, zero, suc, ◌+◌, ◌≤◌, ◌<◌, Some, None, Ok, Err, List, [], ◌∷◌, ◌++◌, append_assoc, refl, sym, ap, ◌∙◌, arith}
use Rattle.std.specs.Prelude.{Result, nat_le}
use Rattle.std.proofs.lemmas.Bool.{lt-ltb, le-leb}
use Rattle.std.proofs.lemmas.List.{append-nil}
use Rattle.eh_tables.specs.Words.{Image, RuntimeFunction, TableErr, ◌>>=◌, unless, onto, prepend, Table, Info, info, Entry, parents, entry}
use Rattle.eh_tables.specs.declared.refusal.TableErr.TheVariants as refusals

pub onto_more : {A : Type 0} (xs : List A) (x : A) (r : Result (List A) TableErr)
    → onto xs (prepend x r) ≡ onto (xs ++ (x ∷ [])) r
onto_more {A = A} xs x (Ok ys) = ap (λ (t : List A). Ok t) (sym (append_assoc xs (x ∷ []) ys))
onto_more xs x (Err e) = refl

pub chain_ends : (n : ℕ) (image : Image) (index : ℕ) (xs : List Info)
    → onto xs (parents n image index None) ≡ Ok xs
chain_ends zero image index xs = ap (λ (t : List Info). Ok t) (append-nil xs)
chain_ends (suc n) image index xs = ap (λ (t : List Info). Ok t) (append-nil xs)

pub chain_stops : (n : ℕ) (image : Image) (index : ℕ) (xs : List Info) (r : RuntimeFunction)
    (e : TableErr) → 0 < n → info image index r.unwind_info ≡ Err e
    → onto xs (parents n image index (Some r)) ≡ Err e
chain_stops zero image index xs r e lt is = absurd (omega arith)
chain_stops (suc n) image index xs r e lt is = ap
    (λ (t : Table Info). onto xs (t >>= λ i. prepend i (parents n image index i.parent))) is

pub chain_continues : (n m : ℕ) (image : Image) (index : ℕ) (xs : List Info) (r : RuntimeFunction)
    (i : Info) → n ≡ m + 1 → info image index r.unwind_info ≡ Ok i
    → onto (xs ++ (i ∷ [])) (parents m image index i.parent)
    ≡ onto xs (parents n image index (Some r))
chain_continues zero m image index xs r i e is = absurd (omega arith)
chain_continues (suc n) m image index xs r i e is =
    let h : n ≡ m = omega arith in
    ap (λ k. onto (xs ++ (i ∷ [])) (parents k image index i.parent)) (sym h)
    ∙ sym (onto_more xs i (parents n image index i.parent))
    ∙ sym (ap (λ (t : Table Info). onto xs (t >>= λ j. prepend j (parents n image index j.parent)))
    is)

pub entry_is : (image : Image) (index last : ℕ) (r : RuntimeFunction) (i : Info) (above : List Info)
    → r.begin < r.end → last ≤ r.begin → info image index r.unwind_info ≡ Ok i
    → parents 31 image index i.parent ≡ Ok above
    → entry image index last r ≡ Ok (record { range = r; info = i; parents = above })
unfolding entry
entry_is image index last r i above some sorted own chain =
    let chained : Table Info → Table Entry = λ t. t >>= λ j. parents 31 image index j.parent
    >>= λ a. Ok (record { range = r; info = j; parents = a }) in
    ap (λ b. unless b (refusals.EmptyRange index)
    >>= λ _. unless (nat_le last r.begin) (refusals.Unsorted index)
    >>= λ _. chained (info image index r.unwind_info)) (lt-ltb r.begin r.end some)
    ∙ ap (λ b. unless b (refusals.Unsorted index) >>= λ _. chained (info image index r.unwind_info))
    (le-leb last r.begin sorted)
    ∙ ap chained own
    ∙ ap (λ (t : Table (List Info)). t >>= λ a. Ok (record { range = r; info = i; parents = a }))
    chain
