-- Several steps that are counted at once.
use Rattle.std.proofs.Common.{◌≡◌, ℕ, ap}
use Rattle.std.specs.Prelude.{true, false, nat_lt, None}
use Rattle.source_meaning.specs.Words.{State, End, Outcome, Gives, choose, counting, count_steps}

-- where fewer are left
pub too_few : (n : ℕ) (st : State) (go : State → Outcome) → nat_lt st.steps_left n ≡ true
    → counting n st go ≡ Gives (End None) st
unfolding counting choose
too_few n st go e =
    ap (λ c. choose c (λ st. Gives (End None) st) (λ st. go (count_steps n st)) st) e

-- where enough are left
pub enough : (n : ℕ) (st : State) (go : State → Outcome) → nat_lt st.steps_left n ≡ false
    → counting n st go ≡ go (count_steps n st)
unfolding counting choose
enough n st go e =
    ap (λ c. choose c (λ st. Gives (End None) st) (λ st. go (count_steps n st)) st) e
