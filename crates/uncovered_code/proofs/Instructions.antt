-- The instructions of a routine are one list, and write what they may.
use Rattle.std.proofs.Common.{◌≡◌, ℕ, ◌+◌, ◌<◌, ◌≤◌, true, false, List, [], ◌∷◌, Option, Some, refl, sym, ap, subst, ◌∙◌, arith}
use Rattle.flat_memory.specs.Memory.{Memory}
use Rattle.virtual_unwind.specs.Tail.{FetchedInstr, fetched_at}
use Rattle.frame_rules.specs.States.{HasItems}
use Rattle.frame_rules.specs.Body.{Body}
use Rattle.frame_rules.proofs.Bodies.{unwritten}
use Rattle.frame_rules.proofs.Tails.{items_rise}
use Rattle.uncovered_code.specs.Laws.{InstructionsAreOneList, FramelessWritesNoNonvolatile}

some_same : {A : Type 0} → {x y : A} → Some x ≡ Some y → x ≡ y
some_same {x = x} e = ap (λ o. value x o) e
  where
    value : {A : Type 0} → A → Option A → A
    value d (Some v) = v
    value d o = d

-- instructions that are take bytes
rising : (m : Memory) (at : ℕ) (x : FetchedInstr) (xs : List FetchedInstr) (to : ℕ)
    → HasItems m at (x ∷ xs) to → at < to
rising m at x xs to h =
    let more = items_rise m (at + x.size) xs to h.2 in let some = h.1 in omega arith

pub instructions_are_one_list : InstructionsAreOneList
instructions_are_one_list m at to [] [] a b = refl
instructions_are_one_list m at to [] (y ∷ ys) a b =
    let lt = rising m at y ys to b in let e : at ≡ to = a in absurd (omega arith)
instructions_are_one_list m at to (x ∷ xs) [] a b =
    let lt = rising m at x xs to a in let e : at ≡ to = b in absurd (omega arith)
instructions_are_one_list m at to (x ∷ xs) (y ∷ ys) a b =
    let same : x ≡ y = some_same (sym a.0 ∙ b.0) in
    let here = subst (λ (z : FetchedInstr). HasItems m (at + z.size) ys to) (sym same) b.2 in
    ap (λ (z : FetchedInstr). z ∷ xs) same
    ∙ ap (λ (zs : List FetchedInstr). y ∷ zs)
    (instructions_are_one_list m (at + x.size) to xs ys a.2 here)

pub frameless_writes_no_nonvolatile : FramelessWritesNoNonvolatile
frameless_writes_no_nonvolatile rest r body nonvolatile =
    unwritten 0 0 [] r rest (Body []) nonvolatile refl body
