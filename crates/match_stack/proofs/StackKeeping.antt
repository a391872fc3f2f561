-- A stack outlives what changes none of its bytes.
use Rattle.std.proofs.Common.{◌≡◌, ℕ, ◌+◌, ◌<◌, ◌≤◌, Bool, true, List, [], ◌∷◌, ◌++◌, refl, ◌∙◌, arith, inl, inr}
use Rattle.match_stack.specs.Words.{answer_return, is_asking, Memory, with_bytes, Context, context_of, rsp, Functions, DispatchRecord, RECORD_SIZE, Kind, is_unwinding, finally_return, StackItem, Framed, Leaf, Searching, Unwinding, RecordIsAt, IsStack, IsBetween, after_frame, ItemIsAt, OwnedBy, context_after, context_at, KeptByOtherStores, NothingBelowIsOwned, SlotsAreFree}
use Rattle.match_stack.proofs.Lemmas.{fetched_by_its_bytes}
use Rattle.match_stack.proofs.ItemVisits.{set_head}
use Rattle.match_stack.proofs.FrameWords.{told_same, owned_low as frame_low, owned_high as frame_high}
use Rattle.match_stack.proofs.MemoryReads.{tail_at_same, word_same}

-- ---- stores elsewhere

within : (a from to : ℕ) → from ≤ a → a < to → IsBetween a from to
within a from to low high = record { low = low; high = high }

-- a record is there, whatever its home space has
pub record_same : (m : Memory) (byte : ℕ → ℕ) (c : Context) (r : DispatchRecord) (at : ℕ)
    (is : Kind → Bool) (next : Context) → ((a : ℕ) → IsBetween a (rsp c + 32) (rsp c + RECORD_SIZE)
    → byte a ≡ m.byte a) → RecordIsAt m c r at is next
    → RecordIsAt (with_bytes m byte) c r at is next
record_same m byte c r at is next same s =
    let above = s.above in
    let small = s.small in
    record {
      at_host = s.at_host;
      fetches = fetched_by_its_bytes m (with_bytes m byte) (rsp c) (omega arith) refl
          (λ x p q. same x (within x (rsp c + 32) (rsp c + RECORD_SIZE) p q)) ∙ s.fetches;
      pointers = word_same m byte (rsp c + 80) (omega arith)
          (λ x p q. same x (within x (rsp c + 32) (rsp c + RECORD_SIZE) (omega arith)
          (omega arith)))
          ∙ s.pointers;
      kind = s.kind;
      above = s.above;
      small = s.small;
    }

item_is_same : (t : Functions) (m : Memory) (byte : ℕ → ℕ) (c : Context) (i : StackItem)
    → ((a : ℕ) → (m.protection a).execute ≡ true → byte a ≡ m.byte a)
    → ((a : ℕ) → OwnedBy c i a → byte a ≡ m.byte a) → ItemIsAt t m c i
    → ItemIsAt t (with_bytes m byte) c i
item_is_same t m byte c (Framed f) code same s =
    let room = s.room in
    record {
      live = s.live;
      not_filter = s.not_filter;
      not_finally = s.not_finally;
      not_vectored = s.not_vectored;
      found = s.found;
      past_prologue = s.past_prologue;
      not_epilogue = tail_at_same m (with_bytes m byte)
          (record { execute = λ x. refl; byte = code }) f.entry.info.frame_register c.rip
          ∙ s.not_epilogue;
      chain = s.chain;
      kept = s.kept;
      eight = s.eight;
      slots = s.slots;
      room = s.room;
      is_told = told_same m byte c f same s.is_told;
    }
item_is_same t m byte c (Leaf back) code same s =
    let room = s.room in
    record {
      live = s.live;
      not_filter = s.not_filter;
      not_finally = s.not_finally;
      not_vectored = s.not_vectored;
      none = s.none;
      kept = s.kept;
      room = s.room;
      returns = word_same m byte (rsp c) (omega arith)
          (λ x p q. same x (within x (rsp c) (rsp c + 8) p q)) ∙ s.returns;
    }
item_is_same t m byte c (Searching r) code same s = record_same m byte c r
    (answer_return r.kind) is_asking (context_of r.saved) same s
item_is_same t m byte c (Unwinding r) code same s = record_same m byte c r finally_return
    is_unwinding r.walk same s

pub kept_by_other_stores : KeptByOtherStores
kept_by_other_stores t m byte c [] agree s = s
kept_by_other_stores t m byte c (i ∷ is) agree s = (
  item_is_same t m byte c i agree.code (λ a o. agree.owned a (inl o)) s.0,
  kept_by_other_stores t m byte (context_after c i) is
      (record { code = agree.code; owned = λ a o. agree.owned a (inr o) }) s.1,
)

-- ---- what isn't owned

-- each item's bytes lie between its RSP and the next one's
pub rises : (t : Functions) (m : Memory) (c : Context) (i : StackItem) → ItemIsAt t m c i
    → rsp c < rsp (context_after c i)
rises t m c (Framed f) s = omega arith
rises t m c (Leaf back) s = let k = s.kept in let e = set_head c.kept (rsp c + 8) (omega arith) in
    omega arith
rises t m c (Searching r) s = let a = s.above in omega arith
rises t m c (Unwinding r) s = let a = s.above in omega arith

owned_low : (t : Functions) (m : Memory) (c : Context) (i : StackItem) (a : ℕ) → ItemIsAt t m c i
    → OwnedBy c i a → rsp c ≤ a
owned_low t m c (Framed f) a s o = let p = frame_low m c f a s.is_told o in omega arith
owned_low t m c (Leaf back) a s o = let p = o.low in omega arith
owned_low t m c (Searching r) a s o = let p = o.low in omega arith
owned_low t m c (Unwinding r) a s o = let p = o.low in omega arith

owned_high : (t : Functions) (m : Memory) (c : Context) (i : StackItem) (a : ℕ) → ItemIsAt t m c i
    → OwnedBy c i a → a < rsp (context_after c i)
owned_high t m c (Framed f) a s o = frame_high m c f a s.is_told o
owned_high t m c (Leaf back) a s o = let k = s.kept in
    let e = set_head c.kept (rsp c + 8) (omega arith) in let p = o.high in omega arith
owned_high t m c (Searching r) a s o = let p = o.high in let q = s.above in omega arith
owned_high t m c (Unwinding r) a s o = let p = o.high in let q = s.above in omega arith

pub nothing_below_is_owned : NothingBelowIsOwned
nothing_below_is_owned t m c [] a s lt o = o
nothing_below_is_owned t m c (i ∷ is) a s lt (inl o) = let p = owned_low t m c i a s.0 o in
    absurd (omega arith)
nothing_below_is_owned t m c (i ∷ is) a s lt (inr o) = let p = rises t m c i s.0 in
    nothing_below_is_owned t m (context_after c i) is a s.1 (omega arith) o

-- RSP rises along the list
along : (t : Functions) (m : Memory) (c : Context) (inner outer : List StackItem)
    → IsStack t m c (inner ++ outer) → rsp c ≤ rsp (context_at c inner)
along t m c [] outer s = omega arith
along t m c (i ∷ inner) outer s = let p = rises t m c i s.0 in
    let q = along t m (context_after c i) inner outer s.1 in omega arith

pub slots_are_free : SlotsAreFree
slots_are_free t m c [] f outer a s w (inl o) = let p = frame_low m c f a s.0.is_told o in
    let q = w.high in absurd (omega arith)
slots_are_free t m c [] f outer a s w (inr o) =
    let q = w.high in
    let k = s.0.slots in
    nothing_below_is_owned t m (after_frame c f) outer a s.1 (omega arith) o
slots_are_free t m c (i ∷ inner) f outer a s w (inl o) =
    let p = owned_high t m c i a s.0 o in
    let q = along t m (context_after c i) inner (Framed f ∷ outer) s.1 in
    let r = w.low in
    absurd (omega arith)
slots_are_free t m c (i ∷ inner) f outer a s w (inr o) = slots_are_free t m (context_after c i)
    inner f outer a s.1 w o
