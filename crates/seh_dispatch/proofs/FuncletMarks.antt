-- One mark more.
use Rattle.std.proofs.Common.{◌≡◌, ℕ, ◌+◌, ◌%◌, ◌<◌, Bool, true, false, List, length, take, get_or, get_or-set_other, set, sym, ◌∙◌, inl, inr}
use Rattle.std.proofs.lemmas.Bool.{cases_eq}
use Rattle.std.proofs.lemmas.Grind.{get_or-set_at}
use Rattle.std.proofs.lemmas.List.Elements.{All-more, All-weaker}
use Rattle.seh_dispatch.specs.Words.{Funclet, REMAINDERS, AreMarked}
use Rattle.seh_dispatch.proofs.FuncletOrder.{no_funclet}

mark_stays : (marks : List Bool) (i j : ℕ) → i < length marks → get_or marks j false ≡ true
    → get_or (set marks i true) j false ≡ true
mark_stays marks i j lt e = elim (cases_eq j i) [
  | inl same ↦ get_or-set_at marks i j true false same lt
  | inr other ↦ get_or-set_other marks i j true false other ∙ e
]

pub more_marked : (marks : List Bool) (fs : List Funclet) (k i : ℕ) → i < length marks
    → k < length fs → i ≡ (get_or fs k no_funclet).address % REMAINDERS
    → AreMarked marks (take k fs) → AreMarked (set marks i true) (take (k + 1) fs)
more_marked marks fs k i lt within e marked =
    All-more (λ f. get_or (set marks i true) (f.address % REMAINDERS) false ≡ true) fs k no_funclet
    within
    (All-weaker (λ f. get_or marks (f.address % REMAINDERS) false ≡ true)
    (λ f. get_or (set marks i true) (f.address % REMAINDERS) false ≡ true)
    (λ f h. mark_stays marks i (f.address % REMAINDERS) lt h) (take k fs) marked)
    (get_or-set_at marks i _ true false (sym e) lt)
