-- Frames as their unwind codes tell of them: where their words are, and what keeps them.
use Rattle.std.proofs.Common.{◌≡◌, inl, inr, ℕ, ◌+◌, ◌<◌, ◌≤◌, true, ◌&&◌, leb, List, [], ◌∷◌, length, refl, ap, ◌∙◌, arith}
use Rattle.std.specs.Prelude.{slice_index}
use Rattle.std.proofs.lemmas.Bool.{and_parts, false≢true, leb-true}
use Rattle.match_stack.specs.Words.{Memory, with_bytes, Context, rsp, IsWord, StackFrame, IsBetween, IsAsTold, teller, told, at_entry, after_frame}
use Rattle.eh_tables.specs.declared.code.UnwindOperation.{UnwindOperation}
use Rattle.eh_tables.specs.declared.code.UnwindOperation.TheVariants.{Push, Allocate, SetFrame, Save, SaveVector, MachineFrame}
use Rattle.frame_rules.specs.Codes.{depth, allocation, are_apart, may_save, is_allowed, are_allowed}
use Rattle.frame_rules.specs.Frame as rules
use Rattle.frame_rules.specs.Frame.{left_to}
use Rattle.match_stack.proofs.Lemmas.{stack_depth, same_number}
use Rattle.match_stack.specs.Stack.{AreAbove, IsSavedAt}

-- ---- the caller's registers

-- eight numbers are what is at their places
pub eight_numbers : (os : List ℕ) → length os ≡ 8
    → slice_index os 0 ∷ slice_index os 1 ∷ slice_index os 2 ∷ slice_index os 3 ∷ slice_index os 4
    ∷ slice_index os 5 ∷ slice_index os 6 ∷ slice_index os 7 ∷ [] ≡ os
eight_numbers [] n = absurd (omega arith)
eight_numbers (a ∷ []) n = absurd (omega arith)
eight_numbers (a ∷ b ∷ []) n = absurd (omega arith)
eight_numbers (a ∷ b ∷ c ∷ []) n = absurd (omega arith)
eight_numbers (a ∷ b ∷ c ∷ d ∷ []) n = absurd (omega arith)
eight_numbers (a ∷ b ∷ c ∷ d ∷ e ∷ []) n = absurd (omega arith)
eight_numbers (a ∷ b ∷ c ∷ d ∷ e ∷ f ∷ []) n = absurd (omega arith)
eight_numbers (a ∷ b ∷ c ∷ d ∷ e ∷ f ∷ g ∷ []) n = absurd (omega arith)
eight_numbers (a ∷ b ∷ c ∷ d ∷ e ∷ f ∷ g ∷ h ∷ []) n = refl
eight_numbers (a ∷ b ∷ c ∷ d ∷ e ∷ f ∷ g ∷ h ∷ i ∷ os) n = absurd (omega arith)

pub left_is : (c : Context) (f : StackFrame) → length f.others ≡ 8
    → left_to (at_entry c f) f.return_address ≡ after_frame c f
left_is c f n = ap (λ (os : List ℕ).
    let x : Context = record { rip = f.return_address; kept = (rsp c + f.size + 8) ∷ os } in x)
    (eight_numbers f.others n)

-- ---- where the words are

allocation_within : (ops : List UnwindOperation) → allocation ops ≤ depth ops
allocation_within [] = omega arith
allocation_within (Push r ∷ ops) = let e = allocation_within ops in omega arith
allocation_within (Allocate n ∷ ops) = let e = allocation_within ops in omega arith
allocation_within (SetFrame ∷ ops) = let e = allocation_within ops in omega arith
allocation_within (Save r n ∷ ops) = let e = allocation_within ops in omega arith
allocation_within (SaveVector r n ∷ ops) = let e = allocation_within ops in omega arith
allocation_within (MachineFrame n ∷ ops) = let e = allocation_within ops in omega arith

-- a saved register is within the allocation
saved_within : (f r n : ℕ) (ops : List UnwindOperation) → are_allowed f (Save r n ∷ ops) ≡ true
    → n + 8 ≤ depth ops
saved_within f r n ops a =
    let p = and_parts (is_allowed f ops (Save r n)) (are_allowed f ops) a in
    let q = and_parts (may_save r ops) (leb (n + 8) (allocation ops) && are_apart n ops) p.0 in
    let s = and_parts (leb (n + 8) (allocation ops)) (are_apart n ops) q.1 in
    let le = leb-true (n + 8) (allocation ops) s.0 in
    let e = allocation_within ops in
    omega arith

abbrev rest_allowed : (f : ℕ) (x : UnwindOperation) (ops : List UnwindOperation)
    → are_allowed f (x ∷ ops) ≡ true → are_allowed f ops ≡ true
rest_allowed f x ops a = (and_parts (is_allowed f ops x) (are_allowed f ops) a).1

pub saved_low : (low base at : ℕ) (ops : List UnwindOperation) (a : ℕ) → AreAbove low base at ops
    → IsSavedAt base at ops a → low ≤ a
saved_low low base at [] a h o = let p = o.low in omega arith
saved_low low base at (Push r ∷ ops) a h (inl o) = let p = o.low in let q = h.0 in omega arith
saved_low low base at (Push r ∷ ops) a h (inr o) = saved_low low base (at + 8) ops a h.1 o
saved_low low base at (Allocate n ∷ ops) a h o = saved_low low base (at + n) ops a h o
saved_low low base at (SetFrame ∷ ops) a h o = saved_low low base at ops a h o
saved_low low base at (Save r n ∷ ops) a h (inl o) = let p = o.low in let q = h.0 in omega arith
saved_low low base at (Save r n ∷ ops) a h (inr o) = saved_low low base at ops a h.1 o
saved_low low base at (SaveVector r n ∷ ops) a h o = saved_low low base at ops a h o
saved_low low base at (MachineFrame n ∷ ops) a h o = saved_low low base at ops a h o

pub saved_high : (f base at : ℕ) (ops : List UnwindOperation) (a : ℕ) → are_allowed f ops ≡ true
    → base ≤ at → IsSavedAt base at ops a → a < at + depth ops + 8
saved_high f base at [] a h le o = let p = o.high in omega arith
saved_high f base at (Push r ∷ ops) a h le (inl o) = let p = o.high in omega arith
saved_high f base at (Push r ∷ ops) a h le (inr o) =
    let e = saved_high f base (at + 8) ops a (rest_allowed f (Push r) ops h) (omega arith) o in
    omega arith
saved_high f base at (Allocate n ∷ ops) a h le o =
    let e = saved_high f base (at + n) ops a (rest_allowed f (Allocate n) ops h) (omega arith) o in
    omega arith
saved_high f base at (SetFrame ∷ ops) a h le o =
    let e = saved_high f base at ops a (rest_allowed f SetFrame ops h) le o in omega arith
saved_high f base at (Save r n ∷ ops) a h le (inl o) =
    let p = o.high in let q = saved_within f r n ops h in omega arith
saved_high f base at (Save r n ∷ ops) a h le (inr o) =
    let e = saved_high f base at ops a (rest_allowed f (Save r n) ops h) le o in omega arith
saved_high f base at (SaveVector r n ∷ ops) a h le o = absurd (false≢true h)
saved_high f base at (MachineFrame n ∷ ops) a h le o = absurd (false≢true h)

-- the return address is where the frame ends
pub told_depth : (m : Memory) (c : Context) (f : StackFrame) → IsAsTold m c f
    → rsp c + depth (told f) ≡ rsp c + f.size
told_depth m c f h =
    stack_depth m (at_entry c f) f.return_address (rsp c) (rsp c) (told f) h.stack

pub owned_low : (m : Memory) (c : Context) (f : StackFrame) (a : ℕ) → IsAsTold m c f
    → IsSavedAt (rsp c) (rsp c) (told f) a → rsp c + f.slots ≤ a
owned_low m c f a h o = saved_low (rsp c + f.slots) (rsp c) (rsp c) (told f) a h.above o

pub owned_high : (m : Memory) (c : Context) (f : StackFrame) (a : ℕ) → IsAsTold m c f
    → IsSavedAt (rsp c) (rsp c) (told f) a → a < rsp c + f.size + 8
owned_high m c f a h o =
    let e = saved_high (teller f.entry).frame_register (rsp c) (rsp c) (told f) a h.allowed
    (omega arith) o in
    let d = told_depth m c f h in
    omega arith

-- ---- what keeps them

module _ (m m' : Memory) (old : ℕ → ℕ) (back : ℕ) where
  -- words above one address and below another are read as before
  pub stack_above : (low top f base at : ℕ) (ops : List UnwindOperation)
      → ((a v : ℕ) → low ≤ a → a + 8 ≤ top → IsWord m a v → IsWord m' a v)
      → at + depth ops + 8 ≤ top → base ≤ at → are_allowed f ops ≡ true
      → AreAbove low base at ops → rules.Stack m old back base at ops
      → rules.Stack m' old back base at ops
  stack_above low top f base at [] w t le a h s = (s.0, w at back h (omega arith) s.1)
  stack_above low top f base at (Push r ∷ ops) w t le a h s = (
    w at (old r) h.0 (omega arith) s.0,
    stack_above low top f base (at + 8) ops w (omega arith) (omega arith)
        (rest_allowed f (Push r) ops a) h.1 s.1,
  )
  stack_above low top f base at (Allocate n ∷ ops) w t le a h s =
      stack_above low top f base (at + n) ops w (omega arith) (omega arith)
      (rest_allowed f (Allocate n) ops a) h s
  stack_above low top f base at (SetFrame ∷ ops) w t le a h s =
      stack_above low top f base at ops w (omega arith) le (rest_allowed f SetFrame ops a) h s
  stack_above low top f base at (Save r n ∷ ops) w t le a h s = (
    w (base + n) (old r) h.0 (let q = saved_within f r n ops a in omega arith) s.0,
    stack_above low top f base at ops w (omega arith) le (rest_allowed f (Save r n) ops a) h.1 s.1,
  )
  stack_above low top f base at (SaveVector r n ∷ ops) w t le a h s = absurd s
  stack_above low top f base at (MachineFrame n ∷ ops) w t le a h s = absurd s

  -- or each of their bytes is as before
  pub stack_same : (byte : ℕ → ℕ) (base at : ℕ) (ops : List UnwindOperation)
      → ((a : ℕ) → IsSavedAt base at ops a → byte a ≡ m.byte a)
      → rules.Stack m old back base at ops → rules.Stack (with_bytes m byte) old back base at ops
  stack_same byte base at ops same s = go at ops same s
    where
      one : (a v : ℕ) → ((x : ℕ) → IsBetween x a (a + 8) → byte x ≡ m.byte x) → IsWord m a v
          → IsWord (with_bytes m byte) a v
      one a v e w = record {
        readable = w.readable;
        value = same_number byte m.byte 8 a w.high (λ x p q. e x (record { low = p; high = q }))
            ∙ w.value;
        high = w.high;
      }

      go : (at : ℕ) (ops : List UnwindOperation)
          → ((a : ℕ) → IsSavedAt base at ops a → byte a ≡ m.byte a)
          → rules.Stack m old back base at ops
          → rules.Stack (with_bytes m byte) old back base at ops
      go at [] same s = (s.0, one at back same s.1)
      go at (Push r ∷ ops) same s = (
        one at (old r) (λ x o. same x (inl o)) s.0,
        go (at + 8) ops (λ x o. same x (inr o)) s.1,
      )
      go at (Allocate n ∷ ops) same s = go (at + n) ops same s
      go at (SetFrame ∷ ops) same s = go at ops same s
      go at (Save r n ∷ ops) same s = (
        one (base + n) (old r) (λ x o. same x (inl o)) s.0,
        go at ops (λ x o. same x (inr o)) s.1,
      )
      go at (SaveVector r n ∷ ops) same s = absurd s
      go at (MachineFrame n ∷ ops) same s = absurd s

-- a frame is as its codes tell in each memory that has its words
pub told_above : (m m' : Memory) (low top : ℕ) (c : Context) (f : StackFrame)
    → ((a v : ℕ) → low ≤ a → a + 8 ≤ top → IsWord m a v → IsWord m' a v)
    → low ≤ rsp c + f.slots → rsp c + f.size + 8 ≤ top → IsAsTold m c f → IsAsTold m' c f
told_above m m' low top c f w le fits h =
    let d = told_depth m c f h in
    record {
      offset = h.offset;
      allowed = h.allowed;
      base = h.base;
      stack = stack_above m m' (at_entry c f) f.return_address (rsp c + f.slots) top
          (teller f.entry).frame_register (rsp c) (rsp c) (told f)
          (λ a v p q x. w a v (omega arith) q x) (omega arith) (omega arith) h.allowed h.above
          h.stack;
      framed = h.framed;
      others = h.others;
      above = h.above;
    }

pub told_same : (m : Memory) (byte : ℕ → ℕ) (c : Context) (f : StackFrame)
    → ((a : ℕ) → IsSavedAt (rsp c) (rsp c) (told f) a → byte a ≡ m.byte a) → IsAsTold m c f
    → IsAsTold (with_bytes m byte) c f
told_same m byte c f same h = record {
  offset = h.offset;
  allowed = h.allowed;
  base = h.base;
  stack = stack_same m m (at_entry c f) f.return_address byte (rsp c) (rsp c) (told f) same h.stack;
  framed = h.framed;
  others = h.others;
  above = h.above;
}
