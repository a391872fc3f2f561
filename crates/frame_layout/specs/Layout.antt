-- The layout of a frame.
--
-- `Facts`, `frame_of`: how many words a body passes, keeps, and has as temporaries and as locals,
-- how many nonvolatile registers it writes, whether it may have a frame register, and what it
-- weighs. Its frame has, from RSP up, the home space and the further arguments of its calls, these
-- words in this order, and what is saved by `mov`. A word of padding comes next where its depth
-- would not be, with the return address, a multiple of 16 bytes (Microsoft x64 ABI, "x64 stack
-- usage"). What is pushed stands above, below the return address. `IsLaidOut`, `IsFrame` say what a
-- frame is to be.
--
-- The main definitions: `IsFramedBySize`, `FitsFrame`.
use Rattle.std.specs.Prelude.{◌≡◌, ℕ, ◌+◌, ◌-◌, ◌*◌, ◌%◌, ◌^◌, ◌<◌, ◌≤◌, min, max, Bool, true, false, ◌&&◌, nat_le}
use Rattle.frame_layout.specs.declared.frame.Facts.{Facts}
use Rattle.frame_layout.specs.declared.frame.FrameLayout.{FrameLayout}
use Rattle.frame_layout.specs.declared.frame.TheConstants.{LEAST_FRAMED}
use Rattle.template_code.specs.declared.layout.TheConstants.{FRAME_BY_WEIGHT, MOST_WEIGHT}

-- ---- what a routine needs, in words

-- home space and slots
abbrev pub slot_words : Facts → ℕ
slot_words f = 4 + f.passed + f.kept + f.temporaries + f.locals

-- three of the registers are pushed, and the others saved by mov
abbrev pub pushed_count : Facts → ℕ
pushed_count f = min f.registers 3

abbrev pub saved_count : Facts → ℕ
saved_count f = f.registers - 3

-- slots and what is saved by mov
abbrev pub words : Facts → ℕ
words f = slot_words f + saved_count f

-- with these, a word of padding, the pushes, RBP's among them, and the return address it is in the
-- largest frame of its weight
pub record FitsFrame (f : Facts) : Type 0 where
  pub registers : f.registers ≤ 7
  pub weight : f.weight ≤ MOST_WEIGHT
  pub words : 8 * (words f + pushed_count f + 3) ≤ FRAME_BY_WEIGHT * f.weight

-- ---- the fixed allocation

-- so many words, or one more, so that with so many pushes and the return address they are a
-- multiple of 16 bytes
abbrev pub padded : ℕ → ℕ → ℕ
padded words pushes = 8 * (words + (words + pushes + 1) % 2)

-- it has a frame register where it may, and the allocation is large without that
abbrev pub is_framed : Facts → Bool
is_framed f = f.frame_register && nat_le LEAST_FRAMED (padded (words f) (pushed_count f))

-- pushing RBP turns the parity, and leaves the allocation large
abbrev pub size_if : Facts → Bool → ℕ
size_if f true = padded (max (words f) 32) (pushed_count f + 1)
size_if f false = padded (words f) (pushed_count f)

-- ---- the frame

-- the frame register is pushed too
abbrev pub frame_pushes : Bool → ℕ
frame_pushes true = 1
frame_pushes false = 0

abbrev pub frame_if : Facts → Bool → FrameLayout
frame_if f framed = record {
  kept = 8 * (4 + f.passed);
  temporaries = 8 * (4 + f.passed + f.kept);
  locals = 8 * (4 + f.passed + f.kept + f.temporaries);
  slots = 8 * slot_words f;
  saves = saved_count f;
  pushes = pushed_count f;
  framed = framed;
  size = size_if f framed;
  depth = size_if f framed + 8 * (pushed_count f + frame_pushes framed);
}

abbrev pub frame_of : Facts → FrameLayout
frame_of f = frame_if f (is_framed f)

-- ---- what a frame is to be

-- at most three pushes but for RBP's and four saves by mov, these in the fixed allocation
pub record IsFrame (f : FrameLayout) : Type 0 where
  pub pushes : f.pushes ≤ 3
  pub saves : f.saves ≤ 4
  pub some : 0 < f.size
  pub saved : f.slots + 8 * f.saves ≤ f.size
  pub depth : f.depth ≡ f.size + 8 * (f.pushes + frame_pushes f.framed)
  pub small : f.depth < 2 ^ 31

-- home space and the parts one after another below the end of the slots, and RSP a multiple of 16
-- where it is so before the return address is pushed
pub record IsLaidOut (f : Facts) (frame : FrameLayout) : Type 0 where
  pub passed : 32 + 8 * f.passed ≤ frame.kept
  pub kept : frame.kept + 8 * f.kept ≤ frame.temporaries
  pub temporaries : frame.temporaries + 8 * f.temporaries ≤ frame.locals
  pub locals : frame.locals + 8 * f.locals ≤ frame.slots
  pub registers : frame.pushes + frame.saves ≡ f.registers
  pub aligned : (frame.depth + 8) % 16 ≡ 0

-- where it may have a frame register, it has one exactly where its allocation is large
pub record IsFramedBySize (f : Facts) (frame : FrameLayout) : Type 0 where
  pub allowed : frame.framed ≡ true → f.frame_register ≡ true
  pub large : frame.framed ≡ true → LEAST_FRAMED ≤ frame.size
  pub small : f.frame_register ≡ true → frame.framed ≡ false → frame.size < LEAST_FRAMED
