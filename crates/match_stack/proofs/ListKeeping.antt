-- The list outlives stores below the stack pointer, and all that leaves the stack from there up as
-- it is.
use Rattle.std.proofs.Common.{◌≡◌, ℕ, ◌+◌, ◌^◌, ◌<◌, ◌≤◌, Bool, true, false, cond, Option, Some, Ok, List, refl, sym, ap, ◌∙◌, arith}
use Rattle.std.specs.Prelude.{nat_lt}
use Rattle.std.proofs.lemmas.Bool.{ltb-false}
use Rattle.match_stack.specs.Words.{STACK_START, STACK_END, Protection, is_readable, Memory, with_bytes, first_refused, may_read, may_write, rsp, word, Functions, misplaced, return_address_at, RECORD_SIZE, PLACED_SIZE, Funclet, LinearProgram, BodyName, FunctionBody, FuncletBody, ImagePlan, Activation, Reaches, KeepsAbove, is_writable, Leads, KeptByStoresBelow, KeptByOtherMemories}
use Rattle.match_stack.proofs.Lemmas.{fetched_by_its_bytes}
use Rattle.match_stack.proofs.MemoryReads.{SameCode, tail_at_same, refused_same, word_kept, word_same, saved_kept}
use Rattle.match_stack.proofs.ListMemories.{ReadsSame, list_kept}

-- ---- stores below the stack pointer

pub word_above : (m : Memory) (byte : ℕ → ℕ) (low at v : ℕ) → KeepsAbove m byte low → low ≤ at
    → at + 8 < 2 ^ 64 → word m at ≡ Ok v → word (with_bytes m byte) at ≡ Ok v
word_above m byte low at v a le lt w = word_same m byte at lt (λ x p q. a.above x (omega arith)) ∙ w

pub misplaced_same : (m : Memory) (byte : ℕ → ℕ) (at : ℕ)
    → misplaced (with_bytes m byte) at ≡ misplaced m at
unfolding misplaced
misplaced_same m byte at = refl

reads_above : (m : Memory) (byte : ℕ → ℕ) (low : ℕ) → KeepsAbove m byte low
    → ReadsSame m (with_bytes m byte) low STACK_END
reads_above m byte low a = record {
  words = λ at v p q w. word_above m byte low at v a p (omega arith) w;
  saved = λ at v p q w. saved_kept m (with_bytes m byte) at v (omega arith) (λ x l h. refl)
      (λ x l h. a.above x (omega arith)) w;
  records = λ at p q. fetched_by_its_bytes m (with_bytes m byte) at (omega arith) refl
      (λ x l h. a.above x (omega arith));
  places = λ at p q. misplaced_same m byte at;
  tails = tail_at_same m (with_bytes m byte) (record { execute = λ x. refl; byte = a.code });
}

pub kept_by_stores_below : KeptByStoresBelow
kept_by_stores_below t fs program p m byte c is items acts a s = list_kept m (with_bytes m byte) t
    fs program p c is items acts (reads_above m byte (rsp c) a) s.stack s.linked

module _ (t : Functions) (fs : List Funclet) (program : LinearProgram) (p : ImagePlan) where
  pub reaches_above : (m : Memory) (byte : ℕ → ℕ) (low : ℕ) (name : BodyName) (frame k : ℕ)
      (acts : List Activation) → KeepsAbove m byte low → low ≤ frame
      → Reaches t fs program p m name frame k acts
      → Reaches t fs program p (with_bytes m byte) name frame k acts
  reaches_above m byte low name frame k acts a le
      h = record { base = h.base; leads = leads name h.leads; activation = h.activation }
    where
      leads : (n : BodyName) → Leads m (p.layout name) n frame h.base
          → Leads (with_bytes m byte) (p.layout name) n frame h.base
      leads (FunctionBody f) e = e
      leads (FuncletBody j) e = let r = e.room in
          record {
            slot = e.slot;
            some = e.some;
            room = e.room;
            kept = word_above m byte low (frame + e.slot) h.base a (omega arith) (omega arith)
                e.kept;
          }

-- ---- other memories

-- another memory with the stack's bytes of a range as they were
pub record KeepsRange (m m' : Memory) (low top : ℕ) : Type 0 where
  pub bytes : (x : ℕ) → low ≤ x → x < top → m'.byte x ≡ m.byte x
  pub protection : (x : ℕ) → STACK_START ≤ x → x < STACK_END → m'.protection x ≡ m.protection x
  pub code : (x : ℕ) → (m.protection x).execute ≡ true
      → (m'.byte x ≡ m.byte x) × (m'.protection x ≡ m.protection x)
  pub no_more_code : (x : ℕ) → (m.protection x).execute ≡ false → (m'.protection x).execute ≡ false

module _ (m m' : Memory) (low top : ℕ) (k : KeepsRange m m' low top) (from : STACK_START ≤ low)
    (to : top ≤ STACK_END) where
  same_code : SameCode m m'
  same_code = record {
    execute = λ x. execute x ((m.protection x).execute) refl;
    byte = λ x e. (k.code x e).0;
  }
    where
      execute : (x : ℕ) (b : Bool) → (m.protection x).execute ≡ b
          → (m'.protection x).execute ≡ (m.protection x).execute
      execute x true e = ap (λ (q : Protection). q.execute) (k.code x e).1
      execute x false e = k.no_more_code x e ∙ sym e

  may_read_same : (x : ℕ) → STACK_START ≤ x → x < STACK_END → may_read m' x ≡ may_read m x
  may_read_same x p q = ap (λ (r : Protection). is_readable r.rights) (k.protection x p q)

  may_write_same : (x : ℕ) → STACK_START ≤ x → x < STACK_END → may_write m' x ≡ may_write m x
  may_write_same x p q = ap (λ (r : Protection). is_writable r.rights) (k.protection x p q)

  -- the return address below a record is in the stack, or there is no room in either memory
  places_same : (at : ℕ) → low ≤ at → at + RECORD_SIZE ≤ top → misplaced m' at ≡ misplaced m at
  unfolding misplaced
  places_same at le fits = ap (λ (o : Option ℕ). cond
      (nat_lt (2 ^ 64) (return_address_at at + PLACED_SIZE)) (Some 0) o)
      (by (nat_lt (return_address_at at) STACK_START) refl)
    where
      by : (b : Bool) → nat_lt (return_address_at at) STACK_START ≡ b
          → cond b (Some (return_address_at at))
          (first_refused (may_write m') PLACED_SIZE (return_address_at at))
          ≡ cond b (Some (return_address_at at))
          (first_refused (may_write m) PLACED_SIZE (return_address_at at))
      by true e = refl
      by false e =
          let h : STACK_START ≤ return_address_at at = ltb-false _ _ e in
          refused_same (may_write m) (may_write m') PLACED_SIZE (return_address_at at) (omega arith)
          (λ x p q. may_write_same x (omega arith) (omega arith))

  pub reads_other : ReadsSame m m' low top
  reads_other = record {
    words = λ at v p q w. word_kept m m' at (omega arith)
        (λ x l h. k.protection x (omega arith) (omega arith))
        (λ x l h. k.bytes x (omega arith) (omega arith)) ∙ w;
    saved = λ at v p q w. saved_kept m m' at v (omega arith)
        (λ x l h. k.protection x (omega arith) (omega arith))
        (λ x l h. k.bytes x (omega arith) (omega arith)) w;
    records = λ at p q.
        fetched_by_its_bytes m m' at (omega arith)
        (refused_same (may_read m) (may_read m') RECORD_SIZE at (omega arith)
        (λ x l h. may_read_same x (omega arith) (omega arith)))
        (λ x l h. k.bytes x (omega arith) (omega arith));
    places = places_same;
    tails = tail_at_same m m' same_code;
  }

pub kept_by_other_memories : KeptByOtherMemories
kept_by_other_memories t fs program p m m' c is items acts k from s = list_kept m m' t fs program p
    c is items acts
    (reads_other m m' (rsp c) STACK_END (record
    { bytes = k.bytes; protection = k.protection; code = k.code; no_more_code = k.no_more_code })
    from (omega arith)) s.stack s.linked
