-- One step more of an unwinding.
use Rattle.std.proofs.Common.{◌≡◌, ℕ, zero, suc, ◌+◌, ◌<◌, Ok, Err, refl, sym, ap, ◌∙◌, arith}
use Rattle.flat_memory.specs.Memory.{Memory}
use Rattle.virtual_unwind.specs.CallerOf.{Functions}
use Rattle.seh_walk.specs.declared.walk.WalkState.{WalkState}
use Rattle.seh_walk.specs.Walk.{visited, continue_walk}
use Rattle.seh_unwind.specs.declared.unwind_result.UnwindResult.{UnwindResult}
use Rattle.seh_unwind.specs.Unwind.{unwind, decided, lost}

pub unwind-more : (n k : ℕ) (t : Functions) (m : Memory) (frame target : ℕ) (w u : WalkState)
    → n ≡ k + 1 → decided t frame target w (visited t m w) ≡ Ok u
    → unwind k t m frame target u ≡ unwind n t m frame target w
unfolding unwind
unwind-more zero k t m frame target w u e d = absurd (omega arith)
unwind-more (suc n) k t m frame target w u e d = let h : k ≡ n = omega arith in
    ap (λ j. unwind j t m frame target u) h ∙ sym (ap (continue_walk (unwind n t m frame target)) d)

pub unwind-ends : (n : ℕ) (t : Functions) (m : Memory) (frame target : ℕ) (w : WalkState)
    (s : UnwindResult) → 0 < n → decided t frame target w (visited t m w) ≡ Err s
    → unwind n t m frame target w ≡ s
unfolding unwind
unwind-ends zero t m frame target w s lt d = absurd (omega arith)
unwind-ends (suc n) t m frame target w s lt d = ap (continue_walk (unwind n t m frame target)) d

pub unwind-none : (n : ℕ) (t : Functions) (m : Memory) (frame target : ℕ) (w : WalkState) → n ≡ 0
    → unwind n t m frame target w ≡ lost frame
unfolding unwind
unwind-none zero t m frame target w e = refl
unwind-none (suc n) t m frame target w e = absurd (omega arith)

pub ruleset unwind_steps = (unwind-none, unwind-ends)
