-- Where an entry is kept, its caller is found.
use Rattle.std.proofs.Common.{◌≡◌, ℕ, zero, suc, ◌+◌, ◌%◌, ◌^◌, Bool, List, Option, Some, None, refl, sym, ap, subst, ◌∙◌}
use Rattle.seh_num.specs.declared.size.TheConstants.{LONGEST_INSTRUCTION}
use Rattle.flat_memory.specs.Memory.{Memory, executable}
use Rattle.eh_tables.specs.Tables.{Entry}
use Rattle.virtual_unwind.specs.CallerOf.{Functions, distance}
use Rattle.abi_unwind.specs.declared.tail.Part.{Part}
use Rattle.abi_unwind.specs.declared.tail.Part.TheVariants.{Restore}
use Rattle.abi_unwind.specs.Tail.{Tail, popping, opening, end_at, before, kept, pops_then, pops, pops_at, opened_or, tail_at}
use Rattle.abi_unwind.specs.Caller.{leaves, tail_of}
use Rattle.frame_known.specs.Known.{abi_known, EndsRight}
use Rattle.frame_known.specs.Standing.{AllOf}
use Rattle.frame_known.specs.Kept.{SameCode, code_of, KeptIsFound}
use Rattle.frame_known.proofs.Standing.{walks_are_found}

pops_same : (k : ℕ) (m n : Memory) (at : ℕ) → SameCode m n → pops k n at ≡ pops k m at
unfolding pops
pops_same zero m n at same = refl
pops_same (suc k) m n at same =
    let b = executable m LONGEST_INSTRUCTION at in
    ap (λ b. pops_then (λ j. pops k n ((at + j) % 2 ^ 64)) (end_at at b) (popping b))
    (same LONGEST_INSTRUCTION at) ∙ go (popping b) (λ a. pops_same k m n a same)
  where
    go : (x : Option (ℕ × ℕ)) → ((a : ℕ) → pops k n a ≡ pops k m a)
        → pops_then (λ j. pops k n ((at + j) % 2 ^ 64))
        (end_at at (executable m LONGEST_INSTRUCTION at)) x
        ≡ pops_then (λ j. pops k m ((at + j) % 2 ^ 64))
        (end_at at (executable m LONGEST_INSTRUCTION at)) x
    go None h = refl
    go (Some x) h = ap (before (Restore x.0)) (h ((at + x.1) % 2 ^ 64))

pops_at_same : (m n : Memory) (at : ℕ) → SameCode m n → pops_at n at ≡ pops_at m at
pops_at_same m n at same = pops_same 0xFFFF_FFFF_FFFF_FFFF m n at same

tail_at_same : (f : ℕ) (m n : Memory) (at : ℕ) → SameCode m n → tail_at f n at ≡ tail_at f m at
unfolding tail_at
tail_at_same f m n at same =
    ap (λ b. opened_or (pops_at n at) (λ k. pops_at n ((at + k) % 2 ^ 64)) (opening f b))
    (same LONGEST_INSTRUCTION at)
    ∙ go (opening f (executable m LONGEST_INSTRUCTION at))
  where
    go : (x : Option (Part × ℕ))
        → opened_or (pops_at n at) (λ k. pops_at n ((at + k) % 2 ^ 64)) x
        ≡ opened_or (pops_at m at) (λ k. pops_at m ((at + k) % 2 ^ 64)) x
    go None = pops_at_same m n at same
    go (Some x) = ap (before x.0) (pops_at_same m n ((at + x.1) % 2 ^ 64) same)

tail_same : (t : Functions) (m n : Memory) (entry : Entry) (rip : ℕ) → SameCode m n
    → tail_of t m entry rip ≡ tail_of t n entry rip
tail_same t m n entry rip same = ap (kept (leaves t entry))
    (sym (tail_at_same entry.info.frame_register m n rip same))

pub kept_is_found : KeptIsFound
kept_is_found t reach entry m at e b s n vectors entered is_kept stands walk found same =
    let rip = s.cpu.rip in
    let right = subst (λ (tail : Option (List Part)). AllOf (λ known. EndsRight
    (abi_known reach known (distance t.base rip) entry tail)) (at rip))
    (tail_same t m s.memory entry rip same) (is_kept.right rip found) in
    walks_are_found t reach entry (code_of t m entry) at e b s n vectors entered is_kept.goes_on
    stands walk found right
