-- The memory of ranges that have a dump's memory.
use Rattle.std.proofs.Common.{◌≡◌, ℕ, List, [], ◌∷◌, refl, ap, ◌∙◌}
use Rattle.std.proofs.Math.Path.{fun_ext}
use Rattle.pe_image.specs.Image.{Image}
use Rattle.minidump.specs.declared.structures.MemoryRange.{MemoryRange}
use Rattle.seh_views.specs.declared.c_types.SehRange.{SehRange}
use Rattle.seh_views.specs.Ranges.{held}
use Rattle.seh_views.specs.Snapshot.{code_from, protection_by, byte_by, snapshot}
use Rattle.dump_stacks.specs.Ranges.{memory_ranges, first_byte, IsMemoryOf}
use Rattle.dump_stacks.specs.Stacks.{protection_of, byte_or, dump_memory}
use Rattle.dump_stacks.specs.Laws.{ReadsTheDump}

protection_first : (bytes code : List ℕ)
    → protection_by bytes code ≡ protection_of (first_byte bytes) code
protection_first [] code = refl
protection_first (b ∷ bs) code = refl

byte_first : (bytes code : List ℕ) → byte_by bytes code ≡ byte_or (first_byte bytes) code
byte_first [] code = refl
byte_first (b ∷ bs) code = refl

reads_ranges : (image : Image) (base : ℕ) (file : List ℕ) (ms : List MemoryRange)
    (rs : List SehRange) → IsMemoryOf file ms rs
    → snapshot image base rs ≡ dump_memory image base file ms
reads_ranges image base file ms rs has =
    let p = fun_ext (λ (a : ℕ). protection_first (held a rs) (code_from image base a)
    ∙ ap (λ o. protection_of o (code_from image base a)) (has a)) in
    let b = fun_ext (λ (a : ℕ). byte_first (held a rs) (code_from image base a)
    ∙ ap (λ o. byte_or o (code_from image base a)) (has a)) in
    λ i. record { protection = p i; byte = b i }

pub reads_the_dump : ReadsTheDump
reads_the_dump image base file directory rs has =
    reads_ranges image base file (memory_ranges file directory) rs has
