-- What the dispatcher leaves of the machine's memory beside the source's.
use Rattle.std.proofs.Common.{◌≡◌, ℕ, ◌<◌, ◌≤◌, true, false, List, refl, sym, ap, ◌∙◌, arith, inl, inr}
use Rattle.std.specs.Prelude.{◌⊎◌, nat_le, nat_lt}
use Rattle.std.proofs.lemmas.Bool.{cases_lt, le-leb, lt-ltb}
use Rattle.match_turns.specs.Words.{STACK_START, STACK_END, Protection, is_writable, Memory, may_write, Functions, DispatchRecord, placed, Funclet, is_hidden, LinearProgram, Agrees, ImagePlan, IsData, RecordHasRoom, IsUntouched, Sites}
use Rattle.seh_records.proofs.Placed.{placing_leaves_others}
use Rattle.match_stack.proofs.RecordMemory.{place_of, placed_keeps_above}
use Rattle.match_bodies.specs.ProgramImages.{IsMachineMemory}
use Rattle.match_turns.proofs.Lemmas.{KeepsCode, program_kept}

-- the whole stack is hidden
stack_is_hidden : (globals : List ℕ) (a : ℕ) → STACK_START ≤ a → a < STACK_END
    → is_hidden globals a ≡ true
stack_is_hidden globals a l u =
    let low : nat_le 0x6FFF0000 a ≡ true = le-leb 0x6FFF0000 a (omega arith) in
    let high : nat_lt a 0x70800000 ≡ true = lt-ltb a 0x70800000 u in
    rw (low, high) refl

-- protections and all that isn't in the stack are as they were, and the stack may be written
module _ (t : Functions) (fs : List Funclet) (program : LinearProgram) (p : ImagePlan) (q : Sites)
    (m m' source : Memory) (untouched : IsUntouched m m') where
  outside_stays : (a : ℕ) → (STACK_START ≤ a → a < STACK_END → ⊥) → m'.byte a ≡ m.byte a
  outside_stays a out = by (cases_lt a STACK_START) (cases_lt a STACK_END)
    where
      by : (a < STACK_START) ⊎ (STACK_START ≤ a) → (a < STACK_END) ⊎ (STACK_END ≤ a)
          → m'.byte a ≡ m.byte a
      by (inl l) e = untouched.outside a (inl l)
      by (inr g) (inr h) = untouched.outside a (inr h)
      by (inr g) (inl l) = absurd (out g l)

  still : (a : ℕ) → may_write m' a ≡ may_write m a
  still a = ap (λ (f : ℕ → Protection). is_writable (f a).rights) untouched.protection

  module _ (h : IsMachineMemory t fs program p q m source) where
    pub keeps_code : KeepsCode m m'
    keeps_code = record {
      protection = untouched.protection;
      fixed = λ a fix. outside_stays a (λ l u. let w = h.stack a l u in let z : true ≡ false = sym w
          ∙ fix in absurd cc);
    }

    agrees : Agrees (is_hidden program.globals) m' source
    agrees = record {
      byte = λ a own. outside_stays a (λ l u. let r = stack_is_hidden program.globals a l u in
          let z : true ≡ false = sym r ∙ own in absurd cc) ∙ h.agrees.byte a own;
      protection = λ a own. ap (λ (f : ℕ → Protection). f a) untouched.protection
          ∙ h.agrees.protection a own;
      guard = h.agrees.guard;
      pointer = h.agrees.pointer;
    }

    pub memory_untouched : IsData m' → IsMachineMemory t fs program p q m' source
    memory_untouched data_alone = record {
      data_alone = data_alone;
      agrees = agrees;
      stack = λ a l u. still a ∙ h.stack a l u;
      arena = λ a e. ap (λ (f : ℕ → Protection). (f a).execute) untouched.protection ∙ h.arena a e;
      code = program_kept t fs program p q m m' keeps_code h.code;
    }

-- a record is placed below the list
pub placing : (m : Memory) (at : ℕ) (r : DispatchRecord) (above : ℕ) → IsData m
    → RecordHasRoom m at r above → above ≤ STACK_END → IsUntouched m (placed m at r)
unfolding placed
placing m at r above data_alone room le =
    let below = room.below in
    let small = room.small in
    let low = place_of m at (omega arith) room.room in
    record {
      protection = refl;
      code = (placed_keeps_above m at r 0 above data_alone room (omega arith) above below).code;
      outside = λ x o. by x o low.low;
    }
  where
    by : (x : ℕ) → (x < STACK_START) ⊎ (STACK_END ≤ x) → 0x70000008 ≤ at
        → (placed m at r).byte x ≡ m.byte x
    by x (inl q) l = let below = room.below in
        placing_leaves_others m at r x (omega arith) room.fits (inl (omega arith))
    by x (inr q) l = let below = room.below in
        placing_leaves_others m at r x (omega arith) room.fits (inr (omega arith))
