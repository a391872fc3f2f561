-- One step more of a search.
use Rattle.std.proofs.Common.{◌≡◌, ℕ, zero, suc, ◌+◌, ◌<◌, Ok, Err, refl, sym, ap, ◌∙◌, arith}
use Rattle.flat_memory.specs.Memory.{Memory}
use Rattle.virtual_unwind.specs.CallerOf.{Functions}
use Rattle.seh_walk.specs.declared.walk.WalkState.{WalkState}
use Rattle.seh_walk.specs.Walk.{visited, continue_walk}
use Rattle.seh_search.specs.declared.search_result.SearchResult.{SearchResult}
use Rattle.seh_search.specs.declared.search_result.SearchResult.TheVariants.{Nobody}
use Rattle.seh_search.specs.Search.{search, decided}

pub search-more : (n k : ℕ) (t : Functions) (m : Memory) (w u : WalkState) → n ≡ k + 1
    → decided t w (visited t m w) ≡ Ok u → search k t m u ≡ search n t m w
unfolding search
search-more zero k t m w u e d = absurd (omega arith)
search-more (suc n) k t m w u e d = let h : k ≡ n = omega arith in ap (λ j. search j t m u) h
    ∙ sym (ap (continue_walk (search n t m)) d)

pub search-ends : (n : ℕ) (t : Functions) (m : Memory) (w : WalkState) (s : SearchResult) → 0 < n
    → decided t w (visited t m w) ≡ Err s → search n t m w ≡ s
unfolding search
search-ends zero t m w s lt d = absurd (omega arith)
search-ends (suc n) t m w s lt d = ap (continue_walk (search n t m)) d

pub search-none : (n : ℕ) (t : Functions) (m : Memory) (w : WalkState) → n ≡ 0
    → search n t m w ≡ Nobody
unfolding search
search-none zero t m w e = refl
search-none (suc n) t m w e = absurd (omega arith)

pub ruleset search_steps = (search-none, search-ends)
