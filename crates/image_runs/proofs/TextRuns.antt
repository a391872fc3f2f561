-- The program of an accepted text is sound, and reads no local that hasn't been set.
use Rattle.image_runs.proofs.Lemmas.{accepted_is_sound, resolved_is_shallow}
use Rattle.image_runs.specs.Words.{program_of}
use Rattle.image_runs.proofs.TextImages.{reads_no_unset, nothing_more}
use Rattle.image_runs.specs.TextRuns.{AcceptedPassTheFrames, AcceptedEndAsPrograms}
use Rattle.image_runs.proofs.RunWalks.{passes_the_frames}
use Rattle.image_runs.proofs.RunEnds.{of_meaning}

pub accepted_pass_the_frames : AcceptedPassTheFrames
accepted_pass_the_frames text xs within accepted fits octets arg n running =
    passes_the_frames (program_of text xs) (record {
      sound = accepted_is_sound text xs within accepted;
      shallow = resolved_is_shallow text xs within;
      fits = fits;
    })
    (reads_no_unset text xs within accepted) octets arg n running

pub accepted_end_as_programs : AcceptedEndAsPrograms
accepted_end_as_programs text xs bytes within accepted fits w most few arg m n lt enough_steps calm
    e end =
    let x = nothing_more text xs bytes within accepted fits w most few arg m n lt enough_steps calm
    in
    of_meaning _ e (x.ends e end).0
