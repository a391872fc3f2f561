-- What the host that was loaded shows is what the image shows.
use Rattle.std.proofs.Common.{◌≡◌, ℕ, List, sym, ap, ◌∙◌}
use Rattle.std.proofs.Common.{ℤ}
use Rattle.seh_host.specs.Running.{run_names}
use Rattle.seh.specs.Words.{Image, IsImage, machine, machine_of, Running, first_running, run_of, RunOptions, shown_by, names_read, names_by}

pub shown_is : (options : RunOptions) (bytes : List ℕ) (image : Image) (r : Running)
    → IsImage bytes image → r ≡ first_running image options.argument
    → run_of options.turns r ≡ shown_by options bytes
unfolding machine
shown_is options bytes image r is e = ap (run_of options.turns) e
    ∙ sym (ap (λ read. machine_of read options.argument options.turns) is)

-- and its names are those of the image
pub named_is : (bytes : List ℕ) (image : Image) (arg : ℤ) (r : Running) → IsImage bytes image
    → r ≡ first_running image arg → run_names r ≡ names_by bytes
named_is bytes image arg r is e = ap run_names e
    ∙ sym (ap names_read is)
