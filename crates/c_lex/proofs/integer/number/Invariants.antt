use Rattle.std.proofs.Common.{◌≡◌, ◌^◌, ℕ, length, min}
use Rattle.c_lex.specs.Vocabulary.{number}
use Rattle.c_lex.proofs.integer.number.Given as goal

-- the digits so far make n
abbrev pub invariant-loop-rest : goal.invariant-loop-rest
invariant-loop-rest l =
    (n : ℕ) × (l.value ≡ min n (2 ^ 64)) × (number l.base n l.rest ≡ number l.base l.start l.text)

abbrev pub decreases-loop-rest : goal.decreases-loop-rest
decreases-loop-rest l = length l.rest
