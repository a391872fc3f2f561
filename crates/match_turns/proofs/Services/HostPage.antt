-- In the host's page no funclet begins.
use Rattle.std.proofs.Common.{◌≡◌, ℕ, ◌<◌, ◌≤◌, [], length, ap, arith, inl, inr}
use Rattle.std.proofs.lemmas.Option.{slice_get_cases}
use Rattle.match_turns.specs.Words.{Memory, Cpu, distance, arrivals, FuncletBody, funclet_body, Setting, HasProgram}

module _ (setting : Setting) where
  open setting use {functions as t, funclets as fs, program, plan as p, image}

  funclet_high : (m : Memory) (k : ℕ) → HasProgram setting m → k < length program.funclets
      → 0x100000000 ≤ p.funclet k
  funclet_high m k has lt = elim (slice_get_cases program.funclets k).1 [
    | inl x ↦ (has.code (FuncletBody k) x.0.body (ap funclet_body x.2)).placed.low
    | inr x ↦ let le = x.0 in absurd (omega arith)
  ]

  pub host_silent : (m : Memory) (a : ℕ) (c : Cpu) → HasProgram setting m → a < 0x100000000
      → arrivals c (distance t.base a) 1 fs ≡ []
  host_silent m a c has lt = image.funclets.none a (omega arith)
      (λ k inside e. let h = funclet_high m k has inside in absurd (omega arith)) c
