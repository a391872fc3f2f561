-- How many bytes of a routine come before its body.
use Rattle.std.proofs.Common.{◌≡◌, ◌+◌, ◌<◌, ◌≤◌, Option, Some, ap, subst, ◌∙◌, arith}
use Rattle.image_tables.specs.Words.{FrameLayout, info_of, Nothing, sizes, RoutineView, IsFrameNear, IsRoutineNear, frame_code, argument_code, routine_size, entry_size}
use Rattle.image_tables.proofs.FramePlans.{prologue_sizes, prologue_some}
use Rattle.image_tables.proofs.Lemmas.{sizes_append, entry_sizes}

entry_by : (f : FrameLayout) (o : Option FrameLayout) → o ≡ Some f
    → sizes (frame_code 0 0 o) ≡ (info_of f Nothing).prologue_size
entry_by f o e = ap (λ (x : Option FrameLayout). sizes (frame_code 0 0 x)) e
    ∙ prologue_sizes f _

-- that of a routine with a frame is first, and what takes its arguments is after it
pub entry_is : (r : RoutineView) (f : FrameLayout) → IsRoutineNear r → r.frame ≡ Some f
    → entry_size r ≡ (info_of f Nothing).prologue_size + sizes (argument_code r.layout r.entry)
entry_is r f near e =
    let h = entry_by f r.frame e in
    let s = entry_sizes 0 0 r near in
    omega (arith, sizes_append (frame_code 0 0 r.frame) (argument_code r.layout r.entry))

pub entry_least : (r : RoutineView) (f : FrameLayout) → IsRoutineNear r → r.frame ≡ Some f
    → (info_of f Nothing).prologue_size ≤ entry_size r
entry_least r f near e = let is = entry_is r f near e in omega arith

-- so it isn't empty
pub framed_room : (r : RoutineView) (f : FrameLayout) → IsRoutineNear r → r.frame ≡ Some f
    → 0 < routine_size r
framed_room r f near e =
    let some = prologue_some f (subst IsFrameNear e near.frame) in
    let l = entry_least r f near e in
    omega arith
