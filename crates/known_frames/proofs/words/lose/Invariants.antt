use Rattle.std.proofs.Common.{◌≡◌, ℕ, ◌≤◌, ◌<◌, get_or, length, None}
use Rattle.known_frames.specs.Views.{left}
use Rattle.known_frames.proofs.words.lose.Given as goal

abbrev pub invariant-loop-one : goal.invariant-loop-one
invariant-loop-one l = ((length l.words ≡ length l.initial.words)
    × ((k : ℕ) → l.one-index ≤ k → get_or l.words k None ≡ get_or l.initial.words k None))
    × ((k : ℕ) → k < l.one-index
    → get_or l.words k None ≡ left l.loss (get_or l.initial.words k None))
