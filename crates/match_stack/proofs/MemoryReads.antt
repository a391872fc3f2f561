-- Code and words read the same in memories that agree on their bytes.
use Rattle.std.proofs.Common.{◌≡◌, ℕ, zero, suc, ◌+◌, ◌*◌, ◌%◌, ◌^◌, ◌<◌, ◌≤◌, Bool, true, false, cond, Option, Some, List, [], ◌∷◌, refl, sym, ap, ◌∙◌, arith}
use Rattle.match_stack.specs.Words.{Protection, is_readable, Memory, with_bytes, number_at, access, first_refused, may_read, Instr, word, readable, tail_at, next, executable, FetchedInstr, item_of, fetched_at, from_item, tail, IsWord}
use Rattle.x64_instr.specs.Spelling.{leading}
use Rattle.match_stack.proofs.Lemmas.{same_number}

-- ---- code

-- the same addresses are executable, and have the same bytes
pub record SameCode (m m' : Memory) : Type 0 where
  pub execute : (x : ℕ) → (m'.protection x).execute ≡ (m.protection x).execute
  pub byte : (x : ℕ) → (m.protection x).execute ≡ true → m'.byte x ≡ m.byte x

module _ (m m' : Memory) (same : SameCode m m') where
  executable_same : (n a : ℕ) → executable m' n a ≡ executable m n a
  unfolding executable
  executable_same zero a = refl
  executable_same (suc n) a =
      ap (λ b. cond b (m'.byte a ∷ executable m' n (next a)) []) (same.execute a)
      ∙ here (executable_same n (next a)) ((m.protection a).execute) refl
    where
      here : executable m' n (next a) ≡ executable m n (next a) → (b : Bool)
          → (m.protection a).execute ≡ b → cond b (m'.byte a ∷ executable m' n (next a)) []
          ≡ cond b (m.byte a ∷ executable m n (next a)) []
      here more true e = ap (λ x. x ∷ executable m' n (next a)) (same.byte a e)
          ∙ ap (λ (t : List ℕ). m.byte a ∷ t) more
      here more false e = refl

  fetched_same : (a : ℕ) → fetched_at m' a ≡ fetched_at m a
  unfolding fetched_at
  fetched_same a = ap (λ (bs : List ℕ). item_of bs (leading bs)) (executable_same 15 a)

  tail_same : (n : ℕ) (first : Bool) (f a : ℕ) → tail n first f m' a ≡ tail n first f m a
  unfolding tail
  tail_same zero first f a = refl
  tail_same (suc n) first f a =
      ap (λ (o : Option FetchedInstr). from_item (λ k. tail n false f m' ((a + k) % 2 ^ 64)) f first
      o) (fetched_same a)
      ∙ ap (λ (others : ℕ → Option (List Instr)). from_item others f first (fetched_at m a))
      (λ i k. tail_same n false f ((a + k) % 2 ^ 64) i)

  pub tail_at_same : (f a : ℕ) → tail_at f m' a ≡ tail_at f m a
  unfolding tail_at
  tail_at_same f a = tail_same 0xFFFF_FFFF_FFFF_FFFF true f a

-- ---- words

-- a test that answers the same at the addresses that are tried
pub refused_same : (may may' : ℕ → Bool) (n a : ℕ) → a + n < 2 ^ 64
    → ((x : ℕ) → a ≤ x → x < a + n → may' x ≡ may x)
    → first_refused may' n a ≡ first_refused may n a
unfolding first_refused
refused_same may may' zero a lt h = refl
refused_same may may' (suc n) a lt h =
    let e : next a ≡ a + 1 = omega arith in
    let more = refused_same may may' n (next a) (omega arith)
    (λ x p q. h x (omega arith) (omega arith)) in
    ap (λ b. cond b (first_refused may' n (next a)) (Some a)) (h a (omega arith) (omega arith))
    ∙ ap (λ (o : Option ℕ). cond (may a) o (Some a)) more

pub number_same : (b d : ℕ → ℕ) (n a : ℕ) → a < 2 ^ 64
    → ((i : ℕ) → i < n → b ((a + i) % 2 ^ 64) ≡ d ((a + i) % 2 ^ 64))
    → number_at b n a ≡ number_at d n a
unfolding number_at
number_same b d zero a lt h = refl
number_same b d (suc n) a lt h =
    let z : (a + 0) % 2 ^ 64 ≡ a = omega arith in
    let first : b a ≡ d a = ap b (sym z) ∙ h 0 (omega arith) ∙ ap d z in
    let rest = number_same b d n (next a) (omega arith)
    (λ i il. let e : (next a + i) % 2 ^ 64 ≡ (a + suc i) % 2 ^ 64 = omega arith in ap b e
    ∙ h (suc i) (omega arith) ∙ ap d (sym e)) in
    ap (λ x. x + 256 * number_at b n (next a)) first ∙ ap (λ x. d a + 256 * x) rest

-- where the protections and the bytes of a word are the same
pub word_kept : (m m' : Memory) (a : ℕ) → a + 8 < 2 ^ 64
    → ((x : ℕ) → a ≤ x → x < a + 8 → m'.protection x ≡ m.protection x)
    → ((x : ℕ) → a ≤ x → x < a + 8 → m'.byte x ≡ m.byte x) → word m' a ≡ word m a
word_kept m m' a lt modes h =
    ap (λ (o : Option ℕ). readable a (access false o (number_at m'.byte 8 a)))
    (refused_same (may_read m) (may_read m') 8 a lt
    (λ x p q. ap (λ (r : Protection). is_readable r.rights) (modes x p q)))
    ∙ ap (λ x. readable a (access false (first_refused (may_read m) 8 a) x))
    (number_same m'.byte m.byte 8 a (omega arith)
    (λ i il. let e : (a + i) % 2 ^ 64 ≡ a + i = omega arith in ap m'.byte e
    ∙ h (a + i) (omega arith) (omega arith) ∙ ap m.byte (sym e)))

-- the same of a word that was saved
pub saved_kept : (m m' : Memory) (a v : ℕ) → a + 8 < 2 ^ 64
    → ((x : ℕ) → a ≤ x → x < a + 8 → m'.protection x ≡ m.protection x)
    → ((x : ℕ) → a ≤ x → x < a + 8 → m'.byte x ≡ m.byte x) → IsWord m a v → IsWord m' a v
saved_kept m m' a v lt modes h w = record {
  readable = refused_same (may_read m) (may_read m') 8 a lt
      (λ x p q. ap (λ (r : Protection). is_readable r.rights) (modes x p q)) ∙ w.readable;
  value = same_number m'.byte m.byte 8 a w.high h ∙ w.value;
  high = w.high;
}

pub word_same : (m : Memory) (byte : ℕ → ℕ) (a : ℕ) → a + 8 < 2 ^ 64
    → ((x : ℕ) → a ≤ x → x < a + 8 → byte x ≡ m.byte x) → word (with_bytes m byte) a ≡ word m a
word_same m byte a lt h = word_kept m (with_bytes m byte) a lt (λ x p q. refl) h
