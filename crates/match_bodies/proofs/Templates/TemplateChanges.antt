-- After a run of a template the next instruction begins, with other numbers in the body's slots.
use Rattle.std.proofs.Common.{◌≡◌, ℕ, suc, ◌+◌, ◌*◌, ◌<◌, ◌≤◌, Bool, true, false, Some, Ok, List, [], ◌∷◌, length, refl, sym, ap, subst, ◌∙◌, arith, inl, inr}
use Rattle.std.specs.Prelude.{◌⊎◌, slice_get}
use Rattle.match_bodies.specs.Words.{STACK_START, STACK_END, Protection, is_writable, Memory, may_write, number_at, State, word, is_hidden, Counts, Layout, InTemporaries, InLocals, Activation, HoldsWords, IsData, KeepsStackBut, Changes, KeepsStack}
use Rattle.match_bodies.proofs.Lemmas.{same_number}
use Rattle.match_bodies.proofs.Places.StackWords.{may_read_written, word_is, word_of}
use Rattle.match_bodies.proofs.Places.SlotPlaces.{SlotsPlaced, stack_is_hidden, in_stack_slots}
use Rattle.match_bodies.proofs.Keeping.ProgramKeeping.{KeepsImage}
use Rattle.match_bodies.proofs.Keeping.ChainKeeping.{Keeps}

-- ---- lists of words

-- words that are the numbers of a list, one by one
pub words_are : (m : Memory) (at end : ℕ) (vs : List ℕ) → at + 8 * length vs ≤ end
    → ((i v : ℕ) → slice_get vs i ≡ Some v → word m (at + 8 * i) ≡ Ok v) → HoldsWords m at end vs
words_are m at end [] le h = omega arith
words_are m at end (v ∷ vs) le h = (
  let z : at + 8 * 0 ≡ at = omega arith in subst (λ a. word m a ≡ Ok v) z (h 0 v refl),
  words_are m (at + 8) end vs (omega arith) (λ i x e. let z : at + 8 * suc i
      ≡ at + 8 + 8 * i = omega arith in subst (λ a. word m a ≡ Ok x) z (h (suc i) x e)),
)

-- ---- memory

-- a memory after a change of a body's slots, and of bytes where the source may look
pub record Changed (globals : List ℕ) (s u : State) (y : Layout) (n : Counts) (sp base : ℕ) : Type 0
  where
    pub changes : Changes y n (is_hidden globals) sp base s.memory u.memory
    pub keeps : Keeps s u

module _ (globals : List ℕ) (s u : State) (y : Layout) (n : Counts) (sp k : ℕ)
    (acts : List Activation) (placed : SlotsPlaced s.memory y n.temporaries sp k acts)
    (count : length placed.values ≡ n.locals)
    (changed : Changed globals s u y n sp placed.base) (data_alone : IsData s.memory)
    (may : (a : ℕ) → STACK_START ≤ a → a < STACK_END → may_write s.memory a ≡ true) where
  pub protection_same : (a : ℕ) → u.memory.protection a ≡ s.memory.protection a
  protection_same a = ap (λ (f : ℕ → Protection). f a) changed.keeps.protection

  pub stack_written : (a : ℕ) → STACK_START ≤ a → a < STACK_END → may_write u.memory a ≡ true
  stack_written a l h = ap (λ (x : Protection). is_writable x.rights) (protection_same a)
      ∙ may a l h

  -- a byte of the stack that is in no slot
  pub beside_slots : (a : ℕ) → STACK_START ≤ a → a < STACK_END
      → (InTemporaries y n sp a ⊎ InLocals y n placed.base a → ⊥)
      → u.memory.byte a ≡ s.memory.byte a
  beside_slots a l h out = changed.changes.byte a (stack_is_hidden globals a l h) out

  -- a word of the stack that is in no slot
  pub word_beside : (at v : ℕ) → STACK_START ≤ at → at + 8 ≤ STACK_END
      → ((a : ℕ) → at ≤ a → a < at + 8 → InTemporaries y n sp a ⊎ InLocals y n placed.base a → ⊥)
      → word s.memory at ≡ Ok v → word u.memory at ≡ Ok v
  word_beside at v l h out w =
      word_of u.memory at v (omega arith) (λ a x z. may_read_written u.memory a
      (stack_written a (omega arith) (omega arith)))
      (same_number u.memory.byte s.memory.byte 8 at (omega arith)
      (λ a x z. beside_slots a (omega arith) (omega arith) (out a x z)) ∙ word_is s.memory at v w)

  -- a slot's word
  pub slot_word : (at v : ℕ) → STACK_START ≤ at → at + 8 ≤ STACK_END
      → number_at u.memory.byte 8 at ≡ v → word u.memory at ≡ Ok v
  slot_word at v l h e = word_of u.memory at v (omega arith)
      (λ a x z. may_read_written u.memory a (stack_written a (omega arith) (omega arith))) e

  -- what may be executed isn't written
  pub code_same : (x : ℕ) → (s.memory.protection x).execute ≡ true
      → (u.memory.byte x ≡ s.memory.byte x) × (u.memory.protection x ≡ s.memory.protection x)
  code_same x e = (changed.keeps.fixed x (by (may_write s.memory x) refl), protection_same x)
    where
      by : (b : Bool) → may_write s.memory x ≡ b → may_write s.memory x ≡ false
      by true w = let f : true ≡ false = sym e ∙ data_alone.no_code x w in absurd cc
      by false w = w

  pub no_more_code : (x : ℕ) → (s.memory.protection x).execute ≡ false
      → (u.memory.protection x).execute ≡ false
  no_more_code x e = ap (λ (q : Protection). q.execute) (protection_same x) ∙ e

  pub stays_data : IsData u.memory
  stays_data = record {
    bytes = changed.changes.bytes data_alone.bytes;
    no_code = λ x w. no_more_code x (data_alone.no_code x
        (ap (λ (q : Protection). is_writable q.rights) (sym (protection_same x)) ∙ w));
  }

  pub image_kept : KeepsImage globals s.memory u.memory
  image_kept = record {
    byte = λ a l h own. changed.changes.byte a own
        (λ i. let r = in_stack_slots s.memory y n sp k acts a placed count i in let b = r.1 in
        absurd (omega arith));
    protection = λ a l h own. protection_same a;
  }

  -- the stack above the slots
  pub stack_kept : (low : ℕ) → STACK_START ≤ low → sp + y.temporaries + 8 * n.temporaries ≤ low
      → placed.base + y.locals + 8 * n.locals ≤ low → KeepsStack s.memory u.memory low
  stack_kept low start t l = record {
    bytes = λ x from h. beside_slots x (omega arith) h
        (λ i. elim i [
          | inl z ↦ (let b = z.1 in absurd (omega arith))
          | inr
              z ↦ (let b = z.1 in absurd (omega arith))
        ]);
    protection = λ x from h. protection_same x;
    code = code_same;
    no_more_code = no_more_code;
  }

  -- the stack above the temporaries, but for the locals of an activation further up
  pub stack_kept_but : (low : ℕ) → STACK_START ≤ low → sp + y.temporaries + 8 * n.temporaries ≤ low
      → KeepsStackBut s.memory u.memory low (placed.base + y.locals)
      (placed.base + y.locals + 8 * n.locals)
  stack_kept_but low start t = record {
    bytes = λ x from h out. beside_slots x (omega arith) h
        (λ i. elim i [
          | inl z ↦ (let b = z.1 in absurd (omega arith))
          | inr
              z ↦ (let a = z.0 in let b = z.1 in elim out
              [ inl o ↦ absurd (omega arith) | inr o ↦ absurd (omega arith) ])
        ]);
    protection = λ x from h. protection_same x;
    code = code_same;
    no_more_code = no_more_code;
  }
