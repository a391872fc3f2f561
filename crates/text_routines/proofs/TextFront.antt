-- The text of a program begins with the thunks of its services and `__chkstk`.
use Rattle.std.proofs.Common.{◌+◌, List, ◌++◌, ℕ, subst, ◌∙◌, append_assoc}
use Rattle.flat_memory.specs.Memory.{Memory}
use Rattle.frame_rules.specs.Bytes.{IsExecutableAt}
use Rattle.linear_code.specs.Program.{LinearProgram}
use Rattle.template_code.specs.Bytes.{spelled}
use Rattle.image_link.specs.Routines.{routines}
use Rattle.image_link.specs.Text.{front_code, routines_bytes, all_apart_bytes, site_blocks}
use Rattle.image_link.specs.Linked.{text_begin}
use Rattle.image_tables.specs.CodeInMemory.{image_base, HasText}
use Rattle.image_tables.specs.RoutinePlaces.{site_of, routines_begin, cold_begin}

-- the routines, their cold parts, and the blocks of functions
abbrev pub bytes_after : LinearProgram → List ℕ
bytes_after p =
    routines_bytes (site_of p) (routines_begin p) (cold_begin p) (routines p)
    ++ (all_apart_bytes (site_of p) (routines_begin p) (cold_begin p) (routines p)
    ++ site_blocks (site_of p))

pub begins_with_front : (p : LinearProgram) (m : Memory) → HasText m p
    → IsExecutableAt m (image_base + text_begin p.globals)
    (spelled (front_code (site_of p).imports (site_of p).text (site_of p).rdata) ++ bytes_after p)
begins_with_front p m text =
    let s = site_of p in
    let front = spelled (front_code s.imports s.text s.rdata) in
    let hot = routines_bytes s (routines_begin p) (cold_begin p) (routines p) in
    let cold = all_apart_bytes s (routines_begin p) (cold_begin p) (routines p) in
    subst (IsExecutableAt m (image_base + text_begin p.globals))
    (append_assoc (front ++ hot) cold (site_blocks s)
    ∙ append_assoc front hot (cold ++ site_blocks s)) text
