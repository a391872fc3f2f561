-- How many steps a turn of the linear code of an accepted text represents at most.
use Rattle.std.proofs.Common.{◌≡◌, ℕ, ◌+◌, ◌*◌, ◌-◌, ◌≤◌, sym, ap, ◌∙◌, arith}
use native.Mathlib.Nat.{mul-add}
use Rattle.text_bounds.specs.Words.{Program, LinearProgram, lowered, steps_per_turn_of}
use Rattle.text_bounds.proofs.Lemmas.{accepted_is_sound}
use Rattle.lowering_follows.specs.FollowLaws.{NoMore}
use Rattle.lowering_follows.proofs.ProgramLowering.{lowered_follows, lowered_shows_no_more}
use Rattle.text_bounds.specs.StepsPerTurnLaws.{steps_per_turn_in, program_of, StepsPerTurnAreBounded, AcceptedFollows, AcceptedShowsNoMore}
use Rattle.text_bounds.proofs.StepWeights.{resolved_weight}

mul_le : (k a b : ℕ) → a ≤ b → k * a ≤ k * b
mul_le k a b le =
    let e : a + (b - a) ≡ b = omega arith in
    let f : k * b ≡ k * a + k * (b - a) = ap (λ n. k * n) (sym e) ∙ mul-add k a (b - a) in
    omega arith

-- what holds of a number of steps per turn holds of a larger one
slower : (program : Program) (linear : LinearProgram) (steps_per_turn most : ℕ) → steps_per_turn ≤
    most
    → NoMore program linear steps_per_turn → NoMore program linear most
slower program linear steps_per_turn most le h arg m n many = let p = mul_le (m + 1) steps_per_turn
    most le in
    h arg m n (omega arith)

pub steps_per_turn_are_bounded : StepsPerTurnAreBounded
steps_per_turn_are_bounded text xs within bytes few =
    let w = resolved_weight text xs within in omega arith

pub accepted_follows : AcceptedFollows
accepted_follows text xs within accepted = lowered_follows (program_of text xs)
    (accepted_is_sound text xs within accepted)

pub accepted_shows_no_more : AcceptedShowsNoMore
accepted_shows_no_more text xs bytes within accepted few =
    slower (program_of text xs) (lowered (program_of text xs))
    (steps_per_turn_of (program_of text xs))
    (steps_per_turn_in bytes) (steps_per_turn_are_bounded text xs within bytes few)
    (lowered_shows_no_more (program_of text xs) (accepted_is_sound text xs within accepted))
