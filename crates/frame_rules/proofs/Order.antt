-- Codes in order.
use Rattle.std.proofs.Common.{◌≡◌, ◌≢◌, ℕ, ◌+◌, true, false, List, [], ◌∷◌, refl, sym, ap, subst, ◌∙◌, arith}
use Rattle.std.proofs.lemmas.Bool.{false≢true, and_parts}
use Rattle.frame_rules.specs.Words.{Memory, UnwindOperation, Push, Allocate, SetFrame, Save, SaveVector, MachineFrame, sets_frame, allocation, pushes, pushed, is_allowed, are_allowed, are_pushes, is_allocated, is_ordered, IsWord, Stack, Framed}

-- ---- a list in order, by its first code

pub data Ordered : List UnwindOperation → Type 0 where
  none : Ordered []
  push : {r : ℕ} {xs : List UnwindOperation} → are_pushes xs ≡ true → Ordered xs
      → Ordered (Push r ∷ xs)
  allocate : {n : ℕ} {xs : List UnwindOperation} → are_pushes xs ≡ true → Ordered xs
      → Ordered (Allocate n ∷ xs)
  frame : {xs : List UnwindOperation} → is_allocated xs ≡ true → sets_frame xs ≡ false → Ordered xs
      → Ordered (SetFrame ∷ xs)
  save : {r n : ℕ} {xs : List UnwindOperation} → Ordered xs → Ordered (Save r n ∷ xs)

pub of_pushes : (xs : List UnwindOperation) → are_pushes xs ≡ true → Ordered xs
of_pushes [] h = none
of_pushes (Push r ∷ xs) h = push h (of_pushes xs h)
of_pushes (Allocate n ∷ xs) h = absurd (false≢true h)
of_pushes (SetFrame ∷ xs) h = absurd (false≢true h)
of_pushes (Save r n ∷ xs) h = absurd (false≢true h)
of_pushes (SaveVector r n ∷ xs) h = absurd (false≢true h)
of_pushes (MachineFrame e ∷ xs) h = absurd (false≢true h)

of_allocated : (xs : List UnwindOperation) → is_allocated xs ≡ true → Ordered xs
of_allocated [] h = none
of_allocated (Push r ∷ xs) h = push h (of_pushes xs h)
of_allocated (Allocate n ∷ xs) h = allocate h (of_pushes xs h)
of_allocated (SetFrame ∷ xs) h = absurd (false≢true h)
of_allocated (Save r n ∷ xs) h = absurd (false≢true h)
of_allocated (SaveVector r n ∷ xs) h = absurd (false≢true h)
of_allocated (MachineFrame e ∷ xs) h = absurd (false≢true h)

pub pushes_unframed : (xs : List UnwindOperation) → are_pushes xs ≡ true → sets_frame xs ≡ false
pushes_unframed [] h = refl
pushes_unframed (Push r ∷ xs) h = pushes_unframed xs h
pushes_unframed (Allocate n ∷ xs) h = absurd (false≢true h)
pushes_unframed (SetFrame ∷ xs) h = absurd (false≢true h)
pushes_unframed (Save r n ∷ xs) h = absurd (false≢true h)
pushes_unframed (SaveVector r n ∷ xs) h = absurd (false≢true h)
pushes_unframed (MachineFrame e ∷ xs) h = absurd (false≢true h)

allocated_unframed : (xs : List UnwindOperation) → is_allocated xs ≡ true → sets_frame xs ≡ false
allocated_unframed [] h = refl
allocated_unframed (Push r ∷ xs) h = pushes_unframed xs h
allocated_unframed (Allocate n ∷ xs) h = pushes_unframed xs h
allocated_unframed (SetFrame ∷ xs) h = absurd (false≢true h)
allocated_unframed (Save r n ∷ xs) h = absurd (false≢true h)
allocated_unframed (SaveVector r n ∷ xs) h = absurd (false≢true h)
allocated_unframed (MachineFrame e ∷ xs) h = absurd (false≢true h)

pub ordered : (xs : List UnwindOperation) → is_ordered xs ≡ true → Ordered xs
ordered [] h = none
ordered (Push r ∷ xs) h = push h (of_pushes xs h)
ordered (Allocate n ∷ xs) h = allocate h (of_pushes xs h)
ordered (SetFrame ∷ xs) h = frame h (allocated_unframed xs h) (of_allocated xs h)
ordered (Save r n ∷ xs) h = save (ordered xs h)
ordered (SaveVector r n ∷ xs) h = absurd (false≢true h)
ordered (MachineFrame e ∷ xs) h = absurd (false≢true h)

pub ordered_rest : (x : UnwindOperation) (xs : List UnwindOperation) → Ordered (x ∷ xs) → Ordered xs
ordered_rest (Push r) xs (push p h) = h
ordered_rest (Allocate n) xs (allocate p h) = h
ordered_rest SetFrame xs (frame t p h) = h
ordered_rest (Save r n) xs (save h) = h
ordered_rest (SaveVector r n) xs h = elim h [ ]
ordered_rest (MachineFrame e) xs h = elim h [ ]

-- ---- the frame register, where it is set, is so far above RSP

pub framed_above : (f offset : ℕ) (now : ℕ → ℕ) (at : ℕ) (xs : List UnwindOperation) → Ordered xs
    → sets_frame xs ≡ true → Framed f offset now at xs → now f ≡ at + offset
framed_above f offset now at [] o s h = absurd (false≢true s)
framed_above f offset now at (Push r ∷ xs) (push p o) s h = absurd
    (false≢true (sym (pushes_unframed xs p) ∙ s))
framed_above f offset now at (Allocate n ∷ xs) (allocate p o) s h = absurd
    (false≢true (sym (pushes_unframed xs p) ∙ s))
framed_above f offset now at (SetFrame ∷ xs) o s h = h.0
framed_above f offset now at (Save r n ∷ xs) (save o) s h = framed_above f offset now at xs o s h
framed_above f offset now at (SaveVector r n ∷ xs) o s h = elim o [ ]
framed_above f offset now at (MachineFrame e ∷ xs) o s h = elim o [ ]

pub unframed : (f offset : ℕ) (now : ℕ → ℕ) (at : ℕ) (xs : List UnwindOperation)
    → sets_frame xs ≡ false → Framed f offset now at xs
unframed f offset now at [] h = tt
unframed f offset now at (Push r ∷ xs) h = unframed f offset now (at + 8) xs h
unframed f offset now at (Allocate n ∷ xs) h = unframed f offset now (at + n) xs h
unframed f offset now at (SetFrame ∷ xs) h = absurd (false≢true (sym h))
unframed f offset now at (Save r n ∷ xs) h = unframed f offset now at xs h
unframed f offset now at (SaveVector r n ∷ xs) h = unframed f offset now at xs h
unframed f offset now at (MachineFrame e ∷ xs) h = unframed f offset now at xs h

-- ---- a save comes after the frame register is set, where there is one

abbrev pub Follows : ℕ → UnwindOperation → List UnwindOperation → Type 0
Follows f (Save r n) xs = f ≢ 0 → sets_frame xs ≡ true
Follows f x xs = Unit {0}

abbrev pub AllFollow : ℕ → List UnwindOperation → Type 0
AllFollow f [] = Unit {0}
AllFollow f (x ∷ xs) = Follows f x xs × AllFollow f xs

pushes_follow : (f : ℕ) (xs : List UnwindOperation) → are_pushes xs ≡ true → AllFollow f xs
pushes_follow f [] h = tt
pushes_follow f (Push r ∷ xs) h = (tt, pushes_follow f xs h)
pushes_follow f (Allocate n ∷ xs) h = absurd (false≢true h)
pushes_follow f (SetFrame ∷ xs) h = absurd (false≢true h)
pushes_follow f (Save r n ∷ xs) h = absurd (false≢true h)
pushes_follow f (SaveVector r n ∷ xs) h = absurd (false≢true h)
pushes_follow f (MachineFrame e ∷ xs) h = absurd (false≢true h)

allocated_follow : (f : ℕ) (xs : List UnwindOperation) → is_allocated xs ≡ true → AllFollow f xs
allocated_follow f [] h = tt
allocated_follow f (Push r ∷ xs) h = (tt, pushes_follow f xs h)
allocated_follow f (Allocate n ∷ xs) h = (tt, pushes_follow f xs h)
allocated_follow f (SetFrame ∷ xs) h = absurd (false≢true h)
allocated_follow f (Save r n ∷ xs) h = absurd (false≢true h)
allocated_follow f (SaveVector r n ∷ xs) h = absurd (false≢true h)
allocated_follow f (MachineFrame e ∷ xs) h = absurd (false≢true h)

pub all_follow : (f : ℕ) (xs : List UnwindOperation) → Ordered xs → (f ≢ 0 → sets_frame xs ≡ true)
    → AllFollow f xs
all_follow f [] o s = tt
all_follow f (Push r ∷ xs) (push p o) s = (tt, pushes_follow f xs p)
all_follow f (Allocate n ∷ xs) (allocate p o) s = (tt, pushes_follow f xs p)
all_follow f (SetFrame ∷ xs) (frame t p o) s = (tt, allocated_follow f xs t)
all_follow f (Save r n ∷ xs) (save o) s = (s, all_follow f xs o s)
all_follow f (SaveVector r n ∷ xs) o s = elim o [ ]
all_follow f (MachineFrame e ∷ xs) o s = elim o [ ]

-- ---- past the allocation and the saves there are the pushes

pub pushes_alone : (xs : List UnwindOperation) → are_pushes xs ≡ true → allocation xs ≡ 0
pushes_alone [] h = refl
pushes_alone (Push r ∷ xs) h = let e = pushes_alone xs h in omega arith
pushes_alone (Allocate n ∷ xs) h = absurd (false≢true h)
pushes_alone (SetFrame ∷ xs) h = absurd (false≢true h)
pushes_alone (Save r n ∷ xs) h = absurd (false≢true h)
pushes_alone (SaveVector r n ∷ xs) h = absurd (false≢true h)
pushes_alone (MachineFrame e ∷ xs) h = absurd (false≢true h)

pub stack_opened : (m : Memory) (old : ℕ → ℕ) (back base at : ℕ) (xs : List UnwindOperation)
    → Ordered xs → Stack m old back base at xs
    → Stack m old back base (at + allocation xs) (pushed (pushes xs))
stack_opened m old back base at [] o h = (
  let e = h.0 in
      omega arith,
  subst (λ a. IsWord m a back) (let z : at ≡ at + 0 = omega arith in z) h.1,
)
stack_opened m old back base at (Push r ∷ xs) (push p o) h =
    let z = pushes_alone xs p in
    let e : at ≡ at + (0 + allocation xs) = omega arith in
    let g : at + 8 + allocation xs ≡ at + (0 + allocation xs) + 8 = omega arith in (
      subst (λ a. IsWord m a (old r)) e h.0,
      subst
          (λ a. Stack m old back base a (pushed (pushes xs))) g
          (stack_opened m old back base (at + 8) xs o h.1),
    )
stack_opened m old back base at (Allocate n ∷ xs) (allocate p o) h =
    let g : at + n + allocation xs ≡ at + (n + allocation xs) = omega arith in
    subst (λ a. Stack m old back base a (pushed (pushes xs))) g
    (stack_opened m old back base (at + n) xs o h)
stack_opened m old back base at (SetFrame ∷ xs) (frame t p o) h =
    let g : at + allocation xs ≡ at + (0 + allocation xs) = omega arith in
    subst (λ a. Stack m old back base a (pushed (pushes xs))) g
    (stack_opened m old back base at xs o h)
stack_opened m old back base at (Save r n ∷ xs) (save o) h =
    let g : at + allocation xs ≡ at + (0 + allocation xs) = omega arith in
    subst (λ a. Stack m old back base a (pushed (pushes xs))) g
    (stack_opened m old back base at xs o h.1)
stack_opened m old back base at (SaveVector r n ∷ xs) o h = absurd h
stack_opened m old back base at (MachineFrame e ∷ xs) o h = absurd h

-- the pushed registers
pub pushes_whole : (xs : List UnwindOperation) → are_pushes xs ≡ true → pushed (pushes xs) ≡ xs
pushes_whole [] h = refl
pushes_whole (Push r ∷ xs) h = ap (λ (ys : List UnwindOperation). Push r ∷ ys) (pushes_whole xs h)
pushes_whole (Allocate n ∷ xs) h = absurd (false≢true h)
pushes_whole (SetFrame ∷ xs) h = absurd (false≢true h)
pushes_whole (Save r n ∷ xs) h = absurd (false≢true h)
pushes_whole (SaveVector r n ∷ xs) h = absurd (false≢true h)
pushes_whole (MachineFrame e ∷ xs) h = absurd (false≢true h)

pub pushes_allowed : (f : ℕ) (xs : List UnwindOperation) → Ordered xs → are_allowed f xs ≡ true
    → are_allowed f (pushed (pushes xs)) ≡ true
pushes_allowed f [] o h = refl
pushes_allowed f (Push r ∷ xs) (push p o) h = ap
    (λ (ys : List UnwindOperation). are_allowed f (Push r ∷ ys)) (pushes_whole xs p) ∙ h
pushes_allowed f (Allocate n ∷ xs) (allocate p o) h = pushes_allowed f xs o h
pushes_allowed f (SetFrame ∷ xs) (frame t p o) h = pushes_allowed f xs o
    (and_parts (is_allowed f xs SetFrame) (are_allowed f xs) h).1
pushes_allowed f (Save r n ∷ xs) (save o) h = pushes_allowed f xs o
    (and_parts (is_allowed f xs (Save r n)) (are_allowed f xs) h).1
pushes_allowed f (SaveVector r n ∷ xs) o h = absurd (false≢true h)
pushes_allowed f (MachineFrame e ∷ xs) o h = absurd (false≢true h)
