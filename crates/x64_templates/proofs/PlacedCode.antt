-- Code at its place is fetched as it was placed, and one turn runs its first instruction.
use Rattle.std.proofs.Common.{◌≡◌, ℕ, zero, suc, ◌+◌, ◌-◌, ◌*◌, ◌%◌, ◌^◌, ◌<◌, ◌≤◌, Bool, true, false, cond, ltb, List, [], ◌∷◌, ◌++◌, length, Option, None, Some, Ok, refl, sym, ap, subst, ◌∙◌, arith, inl, inr, length-append}
use Rattle.std.proofs.lemmas.Bool.{le-leb, le-ltb, lt-ltb}
use Rattle.std.proofs.lemmas.List.{append-nil}
use Rattle.x64_templates.specs.Words.{W64, Protection, is_writable, Memory, next, executable, may_read, may_write, first_refused, number_at, with_number, with_bytes, access, unless_refused, Instr, IsEncoding, leading, chosen, is_encodable, ◌>>=◌, State, granted, with_rip, load, store, effect, IsCodeAt, IsPlaced, thunk, Runs, Reaches, Enters, instr, ReachesInside}
use Rattle.x64_instr.proofs.Table as tables
use Rattle.x64_encode.proofs.Written as written
use Rattle.host_layout.specs.Services.{in_host_page}
use Rattle.x64_machine.specs.Effect.{step}

-- ---- memory

-- bytes that all may be accessed: none of them is the first that may not
pub all_may : (may : ℕ → Bool) (n at : ℕ) → at + n < 2 ^ 64
    → ((a : ℕ) → at ≤ a → a < at + n → may a ≡ true) → first_refused may n at ≡ None
unfolding first_refused
all_may may zero at lt h = refl
all_may may (suc n) at lt h =
    let e : next at ≡ at + 1 = omega arith in
    ap (λ b. cond b (first_refused may n (next at)) (Some at)) (h at (omega arith) (omega arith))
    ∙ ap (first_refused may n) e ∙ all_may may n (at + 1) (omega arith)
    (λ a p q. h a (omega arith) (omega arith))

-- equal bytes make equal numbers
pub same_number : (f g : ℕ → ℕ) (n at : ℕ) → at + n < 2 ^ 64
    → ((a : ℕ) → at ≤ a → a < at + n → f a ≡ g a) → number_at f n at ≡ number_at g n at
unfolding number_at
same_number f g zero at lt h = refl
same_number f g (suc n) at lt h =
    let e : next at ≡ at + 1 = omega arith in
    let rest = ap (number_at f n) e ∙ same_number f g n (at + 1) (omega arith)
    (λ a p q. h a (omega arith) (omega arith)) ∙ sym (ap (number_at g n) e) in
    ap (λ x. x + 256 * number_at f n (next at)) (h at (omega arith) (omega arith))
    ∙ ap (λ x. g at + 256 * x) rest

pub store_at : (s : State) (at v : ℕ) → first_refused (may_write s.memory) 8 at ≡ None
    → store s at W64 v ≡ Ok (record s {
      memory = with_bytes s.memory
          (with_number s.memory.byte 8 at v);
    })
store_at s at v h =
    ap (λ (o : Option ℕ). granted (access true o tt)
    >>= λ _. Ok (record s {
      memory = unless_refused o
          (with_bytes s.memory (with_number s.memory.byte 8 at v)) s.memory;
    })) h

pub load_at : (m : Memory) (at : ℕ) → first_refused (may_read m) 8 at ≡ None
    → load m at W64 ≡ Ok (number_at m.byte 8 at)
load_at m at h = ap (λ (o : Option ℕ). granted (access false o (number_at m.byte 8 at))) h

-- ---- bytes of code

-- what is fetched begins with the bytes that are placed there
pub fetches : (m : Memory) (bytes : List ℕ) (n at : ℕ) → length bytes ≤ n → IsCodeAt m at bytes
    → at + length bytes < 2 ^ 64 → (more : List ℕ) × (executable m n at ≡ bytes ++ more)
unfolding executable
fetches m [] n at le h lt = (executable m n at, refl)
fetches m (b ∷ bytes) zero at le h lt = absurd (omega arith)
fetches m (b ∷ bytes) (suc n) at le h lt =
    let e : next at ≡ at + 1 = omega arith in
    let rest = fetches m bytes n (at + 1) (omega arith) h.1 (omega arith) in (
      rest.0,
      ap (λ (c : Bool). cond c (m.byte at ∷ executable m n (next at)) []) h.0.executes
          ∙ ap (λ (x : ℕ). x ∷ executable m n (next at)) h.0.byte
          ∙ ap (λ (a : ℕ). b ∷ executable m n a) e ∙ ap (λ (t : List ℕ). b ∷ t) rest.1,
    )

-- code is where it was, where bytes that may not be written are what they were
pub bytes_kept : (m m' : Memory) (at : ℕ) (bytes : List ℕ)
    → ((a : ℕ) → may_write m a ≡ false → m'.byte a ≡ m.byte a) → m'.protection ≡ m.protection
    → IsCodeAt m at bytes → IsCodeAt m' at bytes
bytes_kept m m' at [] kept same h = tt
bytes_kept m m' at (b ∷ bytes) kept same h =
    let k = h.0 in (
      record {
        byte = kept at k.fixed ∙ k.byte;
        executes = ap (λ (f : ℕ → Protection). (f at).execute) same ∙ k.executes;
        fixed = ap (λ (f : ℕ → Protection). is_writable (f at).rights) same ∙ k.fixed;
      },
      bytes_kept m m' (at + 1) bytes kept same h.1,
    )

-- the parts of code
pub bytes_split : (m : Memory) (at : ℕ) (a b : List ℕ) → IsCodeAt m at (a ++ b)
    → IsCodeAt m at a × IsCodeAt m (at + length a) b
bytes_split m at [] b h = (tt, let e : at ≡ at + 0 = omega arith in subst (λ x. IsCodeAt m x b) e h)
bytes_split m at (x ∷ a) b h =
    let r = bytes_split m (at + 1) a b h.1 in
    let e : at + 1 + length a ≡ at + length (x ∷ a) = omega arith in
    ((h.0, r.0), subst (λ y. IsCodeAt m y b) e r.1)

-- ---- spelled instructions

-- each of the instructions has a spelling
abbrev pub Encodable : List Instr → Type 0
Encodable [] = Unit {0}
Encodable (i ∷ is) = (is_encodable i ≡ true) × Encodable is

pub spells : (i : Instr) → is_encodable i ≡ true → IsEncoding i (chosen i)
spells i e = ap instr (sym (append-nil (chosen i))) ∙ written.again i [] e

-- bytes that begin with a spelling are read as its instruction
pub leading-again : (i : Instr) (bytes more : List ℕ) → IsEncoding i bytes
    → leading (bytes ++ more) ≡ Some (i, length bytes)
leading-again i bytes more h =
    let n : length (bytes ++ more) - length more
    ≡ length bytes = omega (arith, length-append bytes more) in
    rw (tables.again i bytes more h, n) refl

pub thunk_encodable : (away : ℕ) → away < 2 ^ 31 → is_encodable (thunk away) ≡ true
thunk_encodable away lt = let e : ltb away (2 ^ 31) ≡ true = lt-ltb _ _ lt in rw e refl

-- ---- turns

-- code is placed above the host's page
pub outside_page : (a : ℕ) → 0x100000000 ≤ a → in_host_page a ≡ false
outside_page a h = rw (le-leb 0x7FF00000 a (omega arith), le-ltb a 0x7FF01000 (omega arith)) refl

-- an instruction that is placed at RIP is read
pub reads : (s : State) (i : Instr) (bytes : List ℕ) → IsEncoding i bytes → length bytes ≤ 15
    → IsCodeAt s.memory s.cpu.rip bytes → IsPlaced s.cpu.rip (s.cpu.rip + length bytes)
    → leading (executable s.memory 15 s.cpu.rip) ≡ Some (i, length bytes)
reads s i bytes spells short is_there placed =
    let high = placed.high in
    let f = fetches s.memory bytes 15 s.cpu.rip short is_there (omega arith) in
    ap leading f.1 ∙ leading-again i bytes f.0 spells

-- and run
pub steps : (s t : State) (i : Instr) (bytes : List ℕ) → IsEncoding i bytes → length bytes ≤ 15
    → IsCodeAt s.memory s.cpu.rip bytes → IsPlaced s.cpu.rip (s.cpu.rip + length bytes)
    → effect (with_rip s (s.cpu.rip + length bytes)) i ≡ Ok t → step s ≡ Ok t
unfolding step
steps s t i bytes spells short is_there placed e =
    let low = placed.low in
    let high = placed.high in
    let read = reads s i bytes spells short is_there placed in
    let rip : (s.cpu.rip + length bytes) % 2 ^ 64 ≡ s.cpu.rip + length bytes = omega arith in
    rw (outside_page s.cpu.rip low, read, rip) e

-- ---- runs

pub no_turns : (s t : State) → s ≡ t → Reaches 0 s t
no_turns s t e = e

pub one_turn : (s t : State) → Runs s t → Reaches 1 s t
one_turn s t r = (t, r, refl)

pub reaches_then : (m n : ℕ) (s t u : State) → Reaches m s t → Reaches n t u → Reaches (m + n) s u
reaches_then zero n s t u a b = let e : n ≡ 0 + n = omega arith in
    subst (λ k. Reaches k s u) e (subst (λ x. Reaches n x u) (sym a) b)
reaches_then (suc m) n s t u a b =
    let e : suc (m + n) ≡ suc m + n = omega arith in
    subst (λ k. Reaches k s u) e (a.0, a.1, reaches_then m n a.0 t u a.2 b)

reaches_inside : (from to n : ℕ) (s t : State) → Reaches n s t → ReachesInside from to n s t
reaches_inside from to zero s t a = a
reaches_inside from to (suc n) s t a = (a.0, inl a.1, reaches_inside from to n a.0 t a.2)

pub reaches_enters : (from to n : ℕ) (s t : State) → Reaches n s t → Enters from to n s t
reaches_enters from to zero s t a = a
reaches_enters from to (suc n) s t a = (a.0, a.1.steps, reaches_inside from to n a.0 t a.2)

inside_then : (from to m n : ℕ) (s t u : State) → ReachesInside from to m s t
    → ReachesInside from to n t u → ReachesInside from to (m + n) s u
inside_then from to zero n s t u a b = let e : n ≡ 0 + n = omega arith in
    subst (λ k. ReachesInside from to k s u) e
    (subst (λ x. ReachesInside from to n x u) (sym a) b)
inside_then from to (suc m) n s t u a b =
    let e : suc (m + n) ≡ suc m + n = omega arith in
    subst (λ k. ReachesInside from to k s u) e
    (a.0, a.1, inside_then from to m n a.0 t u a.2 b)

-- what is entered strictly between the two addresses is a part of what was entered before
enters_inside : (from to n : ℕ) (t u : State)
    → (0 < n → (from < t.cpu.rip) × (t.cpu.rip < to)) → Enters from to n t u
    → ReachesInside from to n t u
enters_inside from to zero t u inside b = b
enters_inside from to (suc n) t u inside b =
    let i = inside (omega arith) in (b.0, inr (b.1, i.0, i.1), b.2)

pub enters_on : (from to m n : ℕ) (s t u : State) → Enters from to m s t
    → (0 < n → (from < t.cpu.rip) × (t.cpu.rip < to)) → Enters from to n t u
    → Enters from to (m + n) s u
enters_on from to zero n s t u a inside b = let e : n ≡ 0 + n = omega arith in
    subst (λ k. Enters from to k s u) e (subst (λ x. Enters from to n x u) (sym a) b)
enters_on from to (suc m) n s t u a inside b =
    let e : suc (m + n) ≡ suc m + n = omega arith in
    subst (λ k. Enters from to k s u) e (
      a.0,
      a.1,
      inside_then from to m n a.0 t u a.2
          (enters_inside from to n t u inside b),
    )

pub enters_then : (from to m n : ℕ) (s t u : State) → Enters from to m s t → Reaches n t u
    → Enters from to (m + n) s u
enters_then from to zero n s t u a b = let e : n ≡ 0 + n = omega arith in
    subst (λ k. Enters from to k s u) e
    (subst (λ x. Enters from to n x u) (sym a) (reaches_enters from to n t u b))
enters_then from to (suc m) n s t u a b =
    let e : suc (m + n) ≡ suc m + n = omega arith in
    subst (λ k. Enters from to k s u) e
    (a.0, a.1, inside_then from to m n a.0 t u a.2 (reaches_inside from to n t u b))
