-- What is known at the begin of an entry whose frame is there already: a chained one, or one with
-- codes and without a prologue. It is what the codes describe, as if their stores had just been run
-- one after another: so a word that a later one meets isn't known.
use Rattle.std.specs.Prelude.{ℕ, ◌+◌, ◌-◌, ◌%◌, ◌^◌, Bool, true, false, ◌==◌, ◌&&◌, not, if◌then◌else◌, List, [], ◌∷◌, ◌++◌, Option, Some, None}
use Rattle.eh_tables.specs.declared.code.UnwindOperation.{UnwindOperation}
use Rattle.eh_tables.specs.declared.code.UnwindOperation.TheVariants.{Push, Allocate, SetFrame, Save}
use Rattle.eh_tables.specs.Infos.{Info}
use Rattle.virtual_unwind.specs.Undone.{operations}
use Rattle.virtual_unwind.specs.CallerOf.{run_by}
use Rattle.frame_rules.specs.Codes.{is_saved}
use Rattle.frame_known.specs.Knowledge.{Known, Entry, Place, Nothing, Knowledge, unchanged, at_entry}
use Rattle.frame_known.specs.After.{with_word, meet}

-- where RSP is, by its distance from S
abbrev pub lowered : ℕ → ℕ → ℕ
lowered n k = (k + (2 ^ 64 - n)) % 2 ^ 64

abbrev pub top : List UnwindOperation → ℕ
top [] = 0
top (Push r ∷ xs) = lowered 8 (top xs)
top (Allocate n ∷ xs) = lowered n (top xs)
top (x ∷ xs) = top xs

-- where it was as the frame register was set
abbrev pub top_framed : List UnwindOperation → Option ℕ
top_framed [] = None
top_framed (SetFrame ∷ xs) = Some (top xs)
top_framed (x ∷ xs) = top_framed xs

abbrev pub or_top : Option ℕ → ℕ → ℕ
or_top (Some k) here = k
or_top None here = here

abbrev pub base : List UnwindOperation → ℕ
base xs = or_top (top_framed xs) (top xs)

-- the words, each stored over those before it
abbrev pub words : ℕ → List UnwindOperation → ℕ → Option ℕ
words at [] = λ k. None
words at (Push r ∷ xs) = with_word (words at xs) 8 (top (Push r ∷ xs)) (Entry r)
words at (Save r n ∷ xs) = with_word (words at xs) 8 ((at + n) % 2 ^ 64) (Entry r)
words at (x ∷ xs) = words at xs

-- none of them meets the return address
abbrev pub spare_return : ℕ → List UnwindOperation → Bool
spare_return at [] = true
spare_return at (Push r ∷ xs) = not (meet 8 (top (Push r ∷ xs)) 0) && spare_return at xs
spare_return at (Save r n ∷ xs) = not (meet 8 ((at + n) % 2 ^ 64) 0) && spare_return at xs
spare_return at (x ∷ xs) = spare_return at xs

abbrev pub framed : ℕ → Option ℕ → Known → Known
framed offset (Some k) x = Place ((k + offset) % 2 ^ 64)
framed offset None x = x

-- saved registers are nothing
abbrev pub unless_saved : List UnwindOperation → ℕ → Known
unless_saved xs r = if is_saved r xs then Nothing else unchanged r

abbrev pub registers : ℕ → ℕ → List UnwindOperation → ℕ → Known
registers f offset xs r =
    if r == 4 then Place (top xs)
    else (if r == f then framed offset (top_framed xs) (unless_saved xs r) else unless_saved xs r)

abbrev pub described : Info → List UnwindOperation → Knowledge
described i xs =
    record {
      registers = registers i.frame_register i.frame_offset xs;
      words = words (base xs) xs;
    }

-- the parents' codes whole, then the own ones at the begin
abbrev pub all_operations : List Info → List UnwindOperation
all_operations [] = []
all_operations (i ∷ is) = operations i.codes ++ all_operations is

abbrev pub at_begin : Info → List Info → List UnwindOperation
at_begin i parents = operations (run_by 0 i.codes) ++ all_operations parents

-- ---- what is known at an entry's begin, where its saved words spare the return address

abbrev pub described_if : Info → List UnwindOperation → Bool → Option Knowledge
described_if i xs true = Some (described i xs)
described_if i xs false = None

-- a chained entry, or codes before the first instruction
abbrev pub is_there : List UnwindOperation → List Info → Bool
is_there [] [] = false
is_there [] (p ∷ ps) = true
is_there (x ∷ xs) parents = true

abbrev pub at_begin_of : Info → List Info → Option Knowledge
at_begin_of i parents =
    let xs = at_begin i parents in
    if is_there xs parents then described_if i xs (spare_return (base xs) xs) else Some at_entry
