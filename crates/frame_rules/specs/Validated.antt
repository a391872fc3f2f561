-- The rules as a test on what is decoded: an unwind info, the instructions of its prologue, and
-- those after it up to the entry's end, for an entry that isn't chained. Decode is that these
-- instructions are there.
use Rattle.std.specs.Prelude.{ℕ, ◌+◌, ◌^◌, Bool, true, false, not, ◌==◌, ◌&&◌, ◌||◌, nat_lt, List, [], ◌∷◌, Option, Some, None}
use Rattle.eh_tables.specs.declared.code.UnwindCode.{UnwindCode}
use Rattle.eh_tables.specs.Infos.{Info}
use Rattle.virtual_unwind.specs.Undone.{operations}
use Rattle.virtual_unwind.specs.Tail.{FetchedInstr}
use Rattle.virtual_unwind.specs.CallerOf.{has_frame, sets_frame}
use Rattle.frame_rules.specs.Codes.{are_allowed, is_ordered}
use Rattle.frame_rules.specs.Prologue.{bytes, is_step, are_sized, PrologueStep}
use Rattle.frame_rules.specs.Body.{Body, following, is_body}

-- in the order of execution
abbrev pub turned : List UnwindCode → List UnwindCode → List UnwindCode
turned done [] = done
turned done (c ∷ cs) = turned (c ∷ done) cs

-- ---- Prologue: each code has its instructions

abbrev pub fits : ℕ → ℕ → ℕ → UnwindCode → List FetchedInstr → Bool
fits f offset at c xs =
    is_step f offset c.operation xs && (are_sized xs && (c.offset == at + bytes xs))

abbrev pub before : PrologueStep → Option (List PrologueStep) → Option (List PrologueStep)
before s None = None
before s (Some ss) = Some (s ∷ ss)

abbrev pub with_step : UnwindCode → List FetchedInstr → Option (List PrologueStep) → Bool
    → Option (List PrologueStep) → Option (List PrologueStep)
with_step c xs others true else' = before (record { code = c; items = xs }) others
with_step c xs others false else' = else'

-- a step of three instructions, of one
abbrev pub three : ℕ → ℕ → ℕ → UnwindCode → (List FetchedInstr → Option (List PrologueStep))
    → List FetchedInstr → Option (List PrologueStep)
three f offset at c others (x ∷ y ∷ z ∷ xs) =
    with_step c (x ∷ y ∷ z ∷ []) (others xs) (fits f offset at c (x ∷ y ∷ z ∷ [])) None
three f offset at c others xs = None

abbrev pub one : ℕ → ℕ → ℕ → UnwindCode → (List FetchedInstr → Option (List PrologueStep))
    → List FetchedInstr → Option (List PrologueStep)
one f offset at c others (x ∷ xs) =
    with_step c (x ∷ []) (others xs) (fits f offset at c (x ∷ []))
    (three f offset at c others (x ∷ xs))
one f offset at c others [] = None

abbrev pub none_left : List FetchedInstr → Option (List PrologueStep)
none_left [] = Some []
none_left (x ∷ xs) = None

abbrev pub steps : ℕ → ℕ → ℕ → List UnwindCode → List FetchedInstr → Option (List PrologueStep)
steps f offset at [] xs = none_left xs
steps f offset at (c ∷ cs) xs = one f offset at c (steps f offset c.offset cs) xs

abbrev pub are_steps : Option (List PrologueStep) → Bool
are_steps (Some ss) = true
are_steps None = false

-- ---- the rules

-- Codes
abbrev pub has_codes : Info → Bool
has_codes i =
    are_allowed i.frame_register (operations i.codes) &&
    (not (has_frame i) || sets_frame (operations i.codes))

-- Prologue
abbrev pub has_prologue : Info → List FetchedInstr → Bool
has_prologue i xs =
    is_ordered (operations i.codes) &&
    ((i.prologue_size == bytes xs) && are_steps
    (steps i.frame_register i.frame_offset 0 (turned [] i.codes) xs))

-- StackWrite, Unsaved and Epilogue
abbrev pub has_body : Info → List FetchedInstr → Bool
has_body i xs =
    is_body (following i.frame_register i.frame_offset (operations i.codes) xs (Body []))

abbrev pub keeps_rules : Info → List FetchedInstr → List FetchedInstr → Bool
keeps_rules i xs ys =
    nat_lt i.frame_offset (2 ^ 16) && (has_codes i && (has_prologue i xs && has_body i ys))
