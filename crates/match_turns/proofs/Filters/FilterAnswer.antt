-- A filter's answer is its low 32 bits.
use Rattle.std.proofs.Common.{◌≡◌, ℕ, ◌^◌, List, [], ◌∷◌, ◌++◌, sym, ap, arith}
use Rattle.std.specs.Prelude.{nat_eq, nat_lt, if◌then◌else◌, ℤ, pos, ◌-ℤ◌}
use Rattle.match_turns.specs.Words.{Event, W32, low, half, limit, Exception, noncontinuable, LinearProgram, Frame, Handler, Resumption, Item, Waits, Searches, Store, Configuration, Seen, Next, pick, search, accept, raise, resumed, answer, FilterOf}
use Rattle.seh_num.specs.declared.event.Event.TheVariants as events

low_twice : (v : ℕ) → low W32 (low W32 v) ≡ low W32 v
low_twice v = omega arith

-- the signed number of some low bits
abbrev signed_of : ℕ → ℤ
signed_of l = if nat_lt l (half W32) then pos l else pos l -ℤ pos (limit W32)

-- linear code that has shown the answer of these low bits
abbrev shown : Frame → List Item → List Event → Store → ℕ → Configuration
shown f below es store l = record {
  frame = f;
  below = below;
  store = store;
  events = es ++ events.Answer (signed_of l) ∷ [];
}

-- what it continues with by them
abbrev by_low : LinearProgram → Next → Exception → Resumption → Handler → List Handler → Frame
    → List Item → List Event → Store → ℕ → Seen
by_low program next exception resumption h rest f below es store l =
    pick (nat_eq l 0) (search program next rest exception resumption (shown f below es store l))
    (pick (nat_lt l (2 ^ 31)) (accept program h exception next (shown f below es store l))
    (pick exception.flag (raise program next noncontinuable resumption (shown f below es store l))
    (next (resumed resumption (shown f below es store l)))))

pub answer_low : (program : LinearProgram) (next : Next) (v : ℕ) (exception : Exception)
    (resumption : Resumption) (h : Handler) (rest : List Handler) (f : Frame) (below : List Item)
    (es : List Event) (store : Store)
    → answer program next v (Searches exception resumption (FilterOf h rest) ∷ Waits f ∷ below) es
    store
    ≡ answer program next (low W32 v) (Searches exception resumption (FilterOf h rest) ∷ Waits f
    ∷ below) es
    store
answer_low program next v exception resumption h rest f below es store = ap
    (by_low program next exception resumption h rest f below es store) (sym (low_twice v))
