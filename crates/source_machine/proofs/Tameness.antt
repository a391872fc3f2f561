-- Which programs are Tame.
use Rattle.std.proofs.Common.{◌≡◌, ℕ, ◌+◌, ◌-◌, ◌≤◌, sym, ap, ◌∙◌, subst, arith, inl, inr}
use Rattle.std.specs.Prelude.{true}
use Rattle.std.proofs.lemmas.Bool.{cases_lt}
use Rattle.seh_num.specs.Shown.{Shown}
use Rattle.source_machine.specs.Words.{is_calm, Calm, Ended, TameIsCalm, EndedIsTame}
use Rattle.source_meaning.proofs.MoreSteps.{calm_before, end_stays}

pub tame_is_calm : TameIsCalm
tame_is_calm program arg tame n = tame n

pub ended_is_tame : EndedIsTame
ended_is_tame program arg n e at calm = λ m. elim (cases_lt m n)
    [ inl lt ↦ fewer m (omega arith) | inr le ↦ more m le ]
  where
    fewer : (m : ℕ) → m ≤ n → Calm program arg m ≡ true
    fewer m le =
        let all : m + (n - m) ≡ n = omega arith in
        calm_before program arg m (n - m) (subst (λ k. Calm program arg k ≡ true) (sym all) calm)

    more : (m : ℕ) → n ≤ m → Calm program arg m ≡ true
    more m le =
        let all : n + (m - n) ≡ m = omega arith in
        subst (λ k. Calm program arg k ≡ true) all
        (ap (λ (s : Shown Ended). is_calm s.end) (end_stays program arg n (m - n) e at) ∙ calm)
