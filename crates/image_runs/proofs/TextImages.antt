-- The program of an accepted text is sound, and names each local where it is declared.
use Rattle.std.proofs.Common.{ℕ, ◌+◌, List, arith}
use Rattle.std.proofs.lemmas.Nat.{mul-le}
use Rattle.image_runs.specs.Words.{lowered, steps_per_turn_of, steps_per_turn_in, program_of, IsLinkable}
use Rattle.c_syntax.specs.Limits.{Within}
use Rattle.c_syntax.specs.Program.{ExternalDeclaration}
use Rattle.c_resolved.specs.Accepted.{Accepted}
use Rattle.image_runs.proofs.Lemmas.{accepted_is_sound, resolved_is_shallow, steps_per_turn_are_bounded}
use Rattle.c_resolved.proofs.ProgramScopes.{resolved_is_scoped}
use Rattle.lowering_locals.proofs.ProgramSets.{scoped_reads_no_unset}
use Rattle.image_link.specs.Fits.{FitsProgram}
use Rattle.image_runs.proofs.ImageMeaning.{compiled_realise, compiled_show_nothing_more}
use Rattle.image_runs.specs.AcceptedLaws.{AcceptedReadsNoUnset, AcceptedRealise, AcceptedShowNothingMore}

pub linkable : (text : List ℕ) (xs : List ExternalDeclaration) → Within text xs → Accepted text xs
    → FitsProgram (lowered (program_of text xs)) → IsLinkable (program_of text xs)
linkable text xs within accepted fits = record {
  sound = accepted_is_sound text xs within accepted;
  shallow = resolved_is_shallow text xs within;
  fits = fits;
}

pub reads_no_unset : AcceptedReadsNoUnset
reads_no_unset text xs within accepted = scoped_reads_no_unset (program_of text xs)
    (accepted_is_sound text xs within accepted) (resolved_is_scoped text xs)

pub realise : AcceptedRealise
realise text xs bytes within accepted fits w = compiled_realise (program_of text xs)
    (linkable text xs within accepted fits) (reads_no_unset text xs within accepted) bytes w

pub nothing_more : AcceptedShowNothingMore
nothing_more text xs bytes within accepted fits w most few arg m n lt enough_steps calm =
    let slow = steps_per_turn_are_bounded text xs within most few in
    let slower = mul-le (m + 1) (steps_per_turn_of (program_of text xs)) (m + 1)
    (steps_per_turn_in most) (omega arith)
    slow in
    compiled_show_nothing_more (program_of text xs) (linkable text xs within accepted fits)
    (reads_no_unset text xs within accepted) bytes w arg m n lt (omega arith) calm
