-- The unwind infos of routines can be written and are aligned.
use Rattle.std.proofs.Common.{◌≡◌, ℕ, ◌+◌, ◌*◌, ◌%◌, ◌^◌, ◌<◌, Bool, true, false, not, replicate, List, [], ◌∷◌, ◌++◌, length, Option, Some, None, refl, arith, length-append}
use Rattle.std.specs.Prelude.{◌||◌}
use Rattle.std.specs.List.{flat_map}
use Rattle.std.proofs.lemmas.List.{length-replicate}
use Rattle.eh_tables.specs.declared.range.RuntimeFunction.{RuntimeFunction}
use Rattle.image_tables.proofs.Lemmas.{can_be_written}
use Rattle.image_tables.specs.Words.{if_set, Nothing, chained_info, CHAINED_SIZE, CanBeWritten, IsRuntimeFunction, Image, ScopeRecord, is_c_handler, unwind_bytes, Region, UnwindOperation, FrameLayout, info_of, codes_of, CSpecificHandler, RoutineView, SiteView, own_addresses, thunk_at, is_finally, has_except, has_finally, trailer, scope_records, scope_table, info_if, info_bytes, has_rows, IsUnwindInfo, HasTrailer, has_c_handler, parent_of, header, padded, trailer_bytes, scope_record_bytes, IsTrailer}
use Rattle.eh_write.specs.declared.unwind_info.Trailer.{Trailer}
use Rattle.pe_image.specs.Numbers.{u32}
use Rattle.eh_tables.specs.declared.code.UnwindOperation.TheVariants.{Push, Allocate, SetFrame, Save, SaveVector, MachineFrame}
use Rattle.eh_write.specs.ReadAgain.{IsOperation}
use Rattle.eh_write.specs.Written.{codes_bytes}
use Rattle.frame_layout.specs.Layout.{IsFrame}
use Rattle.frame_layout.specs.Plans.{IsStep}
use Rattle.frame_layout.proofs.Codes.{codes_all, codes_even, codes_steps}

-- ---- what follows the codes

flags_some : (b except finally : Bool) → if_set (not b || except) 1 + if_set (b || finally) 2 ≡ 0
    → ⊥
flags_some true except finally e = omega arith
flags_some false except finally e = omega arith

pub is_trailer : (h : ℕ) (rs : List Region) → IsTrailer (trailer h rs)
is_trailer h [] e = refl
is_trailer h (r ∷ rs) e = absurd (flags_some (is_finally r.kind) (has_except rs) (has_finally rs) e)

pub has_trailer : (h : ℕ) (rs : List Region) → h < 2 ^ 32 → HasTrailer (trailer h rs)
has_trailer h [] lt = tt
has_trailer h (r ∷ rs) lt = lt

pub no_parent : (h : ℕ) (rs : List Region) → parent_of (trailer h rs) ≡ None
no_parent h [] = refl
no_parent h (r ∷ rs) = refl

pub handled : (image : Image) (f : FrameLayout) (h : ℕ) (rs : List Region)
    → is_c_handler image h ≡ true → has_c_handler image (info_of f (trailer h rs)) ≡ has_rows rs
handled image f h [] c = refl
handled image f h (r ∷ rs) c = c

-- ---- the info

step_is : (framed : Bool) (x : UnwindOperation) → IsStep framed x → IsOperation x
step_is framed (Push r) h = tt
step_is framed (Allocate n) h = (let z : n < 2 ^ 31 = h in omega arith)
step_is framed SetFrame h = tt
step_is framed (Save r n) h = (let z : n < 2 ^ 31 = h.1 in omega arith)
step_is framed (SaveVector r n) h = absurd h
step_is framed (MachineFrame e) h = absurd h

pub is_info : (f : FrameLayout) (t : Trailer) → IsFrame f → HasTrailer t
    → IsUnwindInfo (info_of f t)
is_info f t h has = record {
  operations = codes_all (IsStep f.framed) IsOperation (codes_of f) (step_is f.framed)
      (codes_steps f h);
  trailer = has;
}

-- ---- how many bytes it takes

trailer_four : (h : ℕ) (rs : List Region) → length (trailer_bytes (trailer h rs)) % 4 ≡ 0
unfolding u32
trailer_four h [] = refl
trailer_four h (r ∷ rs) = refl

unwind_four : (f : FrameLayout) (h : ℕ) (rs : List Region)
    → length (unwind_bytes (info_of f (trailer h rs))) % 4 ≡ 0
unfolding unwind_bytes
unwind_four f h rs =
    let bytes = codes_bytes (codes_of f) in
    let even = codes_even (codes_of f) in
    let t = trailer h rs in
    let last = trailer_four h rs in
    omega (
      arith,
      length-append (header (info_of f t) (length bytes))
          (padded bytes ++ trailer_bytes t),
      length-append (padded bytes) (trailer_bytes t),
      length-append bytes (replicate (length bytes % 4) 0),
      length-replicate {A = ℕ} (length bytes % 4) 0,
    )

pub unwind_some : (f : FrameLayout) (t : Trailer) → 0 < length (unwind_bytes (info_of f t))
unfolding unwind_bytes
unwind_some f t = omega arith

records_length : (rs : List ScopeRecord) → length (flat_map scope_record_bytes rs) ≡ 16 * length rs
unfolding u32
records_length [] = refl
records_length (r ∷ rs) = let l = records_length rs in omega arith

scopes_four : (funclets labels : List ℕ) (end : ℕ) (rs : List Region)
    → length (scope_table funclets labels end rs) % 4 ≡ 0
unfolding u32
scopes_four funclets labels end [] = refl
scopes_four funclets labels end (r ∷ rs) = let l = records_length
    (scope_records funclets labels end (r ∷ rs)) in omega arith

info_four : (s : SiteView) (labels : List ℕ) (end : ℕ) (r : RoutineView) (o : Option FrameLayout)
    → length (info_if s labels end r o) % 4 ≡ 0
info_four s labels end r None = refl
info_four s labels end r (Some f) =
    let h = thunk_at s.imports s.text CSpecificHandler in
    let a = unwind_four f h r.body.regions in
    let b = scopes_four s.funclets labels end r.body.regions in
    omega (
      arith,
      length-append (unwind_bytes (info_of f (trailer h r.body.regions)))
          (scope_table s.funclets labels end r.body.regions),
    )

pub info_aligned : (s : SiteView) (at cold : ℕ) (r : RoutineView)
    → length (info_bytes s at cold r) % 4 ≡ 0
unfolding info_bytes
info_aligned s at cold r =
    info_four s (own_addresses at cold r).labels (own_addresses at cold r).end r r.frame

-- ---- the info of a cold part

pub chained_length : (framed : Bool) (parent : RuntimeFunction)
    → length (unwind_bytes (chained_info framed parent)) ≡ CHAINED_SIZE
unfolding unwind_bytes u32
chained_length framed parent = refl

pub chained_is_info : (framed : Bool) (parent : RuntimeFunction) → IsRuntimeFunction parent
    → IsUnwindInfo (chained_info framed parent)
chained_is_info framed parent is = record { operations = tt; trailer = is }

-- it has the frame fields of its function's
pub chained_can_be_written : (f : FrameLayout) (parent : RuntimeFunction) → IsFrame f
    → CanBeWritten (chained_info f.framed parent)
chained_can_be_written f parent frame =
    let h = can_be_written f Nothing frame (λ e. refl) in
    record {
      register = h.register;
      offset = h.offset;
      codes = tt;
      order = tt;
      slots = omega arith;
      trailer = λ e. absurd (let z : 4 ≡ 0 = e in omega arith);
    }
