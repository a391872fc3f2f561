-- What the unwind codes of an info are to be. They are in the order from the prologue's last
-- instruction to its first: saves, before them at most one SET_FPREG, before it at most one
-- allocation, before that pushes (Microsoft x64 ABI, "Prolog").
use Rattle.std.specs.Prelude.{ℕ, ◌+◌, Bool, true, false, not, ◌==◌, ◌&&◌, ◌||◌, nat_le, List, [], ◌∷◌}
use Rattle.eh_tables.specs.declared.code.UnwindOperation.{UnwindOperation}
use Rattle.eh_tables.specs.declared.code.UnwindOperation.TheVariants.{Push, Allocate, SetFrame, Save, SaveVector, MachineFrame}
use Rattle.virtual_unwind.specs.Contexts.{is_nonvolatile}

-- ---- how far RSP falls

abbrev pub size : UnwindOperation → ℕ
size (Push r) = 8
size (Allocate n) = n
size SetFrame = 0
size (Save r n) = 0
size (SaveVector r n) = 0
size (MachineFrame e) = 0

abbrev pub depth : List UnwindOperation → ℕ
depth [] = 0
depth (x ∷ xs) = size x + depth xs

-- the fixed allocation
abbrev pub size_allocated : UnwindOperation → ℕ
size_allocated (Allocate n) = n
size_allocated x = 0

abbrev pub allocation : List UnwindOperation → ℕ
allocation [] = 0
allocation (x ∷ xs) = size_allocated x + allocation xs

-- ---- which registers are saved, and where

-- the registers that are pushed, the last one first
abbrev pub with_push : UnwindOperation → List ℕ → List ℕ
with_push (Push r) rs = r ∷ rs
with_push x rs = rs

abbrev pub pushes : List UnwindOperation → List ℕ
pushes [] = []
pushes (x ∷ xs) = with_push x (pushes xs)

abbrev pub pushed : List ℕ → List UnwindOperation
pushed [] = []
pushed (r ∷ rs) = Push r ∷ pushed rs

abbrev pub saves : ℕ → UnwindOperation → Bool
saves r (Push q) = q == r
saves r (Save q n) = q == r
saves r x = false

abbrev pub is_saved : ℕ → List UnwindOperation → Bool
is_saved r [] = false
is_saved r (x ∷ xs) = saves r x || is_saved r xs

-- ---- the order of the codes

abbrev pub are_pushes : List UnwindOperation → Bool
are_pushes [] = true
are_pushes (Push r ∷ xs) = are_pushes xs
are_pushes (x ∷ xs) = false

abbrev pub is_allocated : List UnwindOperation → Bool
is_allocated (Allocate n ∷ xs) = are_pushes xs
is_allocated xs = are_pushes xs

abbrev pub is_framed : List UnwindOperation → Bool
is_framed (SetFrame ∷ xs) = is_allocated xs
is_framed xs = is_allocated xs

abbrev pub is_ordered : List UnwindOperation → Bool
is_ordered (Save r n ∷ xs) = is_ordered xs
is_ordered xs = is_framed xs

-- ---- what each code is to be, by those of the instructions before it

-- a register is saved once, and RSP isn't
abbrev pub may_save : ℕ → List UnwindOperation → Bool
may_save r xs = is_nonvolatile r && (not (r == 4) && not (is_saved r xs))

-- the word at that distance is apart from the words of other saves
abbrev pub is_apart : ℕ → UnwindOperation → Bool
is_apart n (Save r m) = nat_le (n + 8) m || nat_le (m + 8) n
is_apart n x = true

abbrev pub are_apart : ℕ → List UnwindOperation → Bool
are_apart n [] = true
are_apart n (x ∷ xs) = is_apart n x && are_apart n xs

-- f: the frame register
abbrev pub is_allowed : ℕ → List UnwindOperation → UnwindOperation → Bool
is_allowed f xs (Push r) = may_save r xs
is_allowed f xs (Allocate n) = true
is_allowed f xs SetFrame = not (f == 0) && is_saved f xs
is_allowed f xs (Save r n) = may_save r xs && (nat_le (n + 8) (allocation xs) && are_apart n xs)
is_allowed f xs (SaveVector r n) = false
is_allowed f xs (MachineFrame e) = false

abbrev pub are_allowed : ℕ → List UnwindOperation → Bool
are_allowed f [] = true
are_allowed f (x ∷ xs) = is_allowed f xs x && are_allowed f xs
