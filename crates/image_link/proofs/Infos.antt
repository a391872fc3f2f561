-- How many bytes an unwind info with its scope table takes, and one more of them.
use Rattle.std.proofs.Common.{◌≡◌, ℕ, suc, ◌+◌, ◌*◌, ◌%◌, ◌<◌, ◌≤◌, replicate, List, [], ◌∷◌, ◌++◌, length, get_or, drop, drop-cons, Option, Some, None, refl, ap, ◌∙◌, arith, length-append}
use Rattle.std.specs.List.{flat_map}
use Rattle.std.proofs.lemmas.List.{length-map, length-replicate}
use Rattle.eh_write.specs.Written.{codes_bytes}
use Rattle.frame_layout.specs.Layout.{IsFrame}
use Rattle.frame_layout.proofs.Steps.{frame_registers}
use Rattle.frame_layout.proofs.Codes.{codes_few}
use Rattle.eh_tables.specs.declared.scope.ScopeRecord.{ScopeRecord}
use Rattle.eh_write.specs.declared.unwind_info.Trailer.{Trailer}
use Rattle.image_link.specs.Words.{u32, header, padded, unwind_bytes, trailer_bytes, scope_record_bytes, FrameLayout, info_of, codes_of, IsFrameNear, IsRoutineNear, RoutineView, SiteView, routine_size, cold_size, own_addresses, thunk_at, trailer, scope_record, scope_records, scope_table, info_if, info_bytes, info_room, infos_room, infos, range_at, range_of, ranges, Fragment, fragment, fragments_if, fragments_of, fragments, chained_bytes, parts_at, Layout, Instruction, body_size}
use Rattle.linear_code.specs.declared.program.LabelRange.{LabelRange}
use Rattle.template_code.specs.ColdParts.{part_code}
use Rattle.x64_emit.specs.Bodies.{part_ranges}
use Rattle.linear_code.specs.declared.program.Region.{Region}
use Rattle.host_layout.specs.declared.imported.ImportedService.TheVariants.{CSpecificHandler}

-- ---- sizes

records_length : (rs : List ScopeRecord) → length (flat_map scope_record_bytes rs) ≡ 16 * length rs
unfolding u32
records_length [] = refl
records_length (r ∷ rs) = let l = records_length rs in omega arith

trailer_small : (h : ℕ) (rs : List Region) → length (trailer_bytes (trailer h rs)) ≤ 4
unfolding u32
trailer_small h [] = omega arith
trailer_small h (r ∷ rs) = omega arith

scopes_small : (funclets labels : List ℕ) (end : ℕ) (rs : List Region)
    → length (scope_table funclets labels end rs) ≤ 4 + 16 * length rs
unfolding u32
scopes_small funclets labels end [] = omega arith
scopes_small funclets labels end (r ∷ rs) = let l = records_length
    (scope_records funclets labels end (r ∷ rs)) in
    omega (arith, length-map (r ∷ rs) (scope_record funclets labels end))

unwind_small : (f : FrameLayout) (t : Trailer) → IsFrame f → length (trailer_bytes t) ≤ 4
    → length (unwind_bytes (info_of f t)) ≤ 51
unfolding unwind_bytes
unwind_small f t frame le =
    let few = codes_few f (frame_registers f frame) in
    let bytes = codes_bytes (codes_of f) in
    let rest = length bytes % 4 in
    let pad : length (replicate {A = ℕ} rest 0) ≡ rest = length-replicate {A = ℕ} rest 0 in
    omega (
      arith,
      length-append (header (info_of f t) (length bytes))
          (padded bytes ++ trailer_bytes t),
      length-append (padded bytes) (trailer_bytes t),
      length-append bytes (replicate rest 0),
    )

info_by : (s : SiteView) (labels : List ℕ) (end : ℕ) (r : RoutineView) (o : Option FrameLayout)
    → IsFrameNear o
    → length (info_if s labels end r o) + 45 * length r.body.cold ≤ info_room r
info_by s labels end r None near = omega arith
info_by s labels end r (Some f) near =
    let h = thunk_at s.imports s.text CSpecificHandler in
    let t = trailer h r.body.regions in
    let u = unwind_small f t near.0 (trailer_small h r.body.regions) in
    let k = scopes_small s.funclets labels end r.body.regions in
    omega (
      arith,
      length-append (unwind_bytes (info_of f t))
          (scope_table s.funclets labels end r.body.regions),
    )

-- with what tables have for its cold parts
pub info_small : (s : SiteView) (at cold : ℕ) (r : RoutineView) → IsRoutineNear r
    → length (info_bytes s at cold r) + 45 * length r.body.cold ≤ info_room r
unfolding info_bytes
info_small s at cold r near =
    info_by s (own_addresses at cold r).labels (own_addresses at cold r).end r r.frame near.frame

parts_count : (y : Layout) (at : ℕ) (rs : List LabelRange) (code : List Instruction)
    → length (part_ranges y at rs code) ≡ length rs
parts_count y at [] code = refl
parts_count y at (r ∷ rs) code =
    let c = parts_count y (at + body_size y (part_code code r)) rs code in omega arith

pub parts_length : (cold : ℕ) (r : RoutineView) → length (parts_at cold r) ≡ length r.body.cold
parts_length cold r = parts_count r.layout cold r.body.cold r.body.code

-- it has no more fragments than cold parts
pub fragments_few : (info at cold : ℕ) (r : RoutineView)
    → length (fragments_of info at cold r) ≤ length r.body.cold
fragments_few info at cold r = by r.frame
  where
    by : (o : Option FrameLayout)
        → length (fragments_if o (range_at info at r) (parts_at cold r)) ≤ length r.body.cold
    by None = omega arith
    by (Some f) = let p = parts_length cold r in
        omega (arith, length-map (parts_at cold r) (fragment f (range_at info at r)))

pub chained_length : (f : Fragment) → length (chained_bytes f) ≡ 16
unfolding unwind_bytes u32
chained_length f = refl

-- ---- one after another

after : (i : ℕ) → suc i ≡ i + 1
after i = omega arith

pub infos_next : (s : SiteView) (at cold : ℕ) (rs : List RoutineView) (i : ℕ) (d : RoutineView)
    → i < length rs → infos s at cold (drop i rs) ≡ info_bytes s at cold (get_or rs i d)
    ++ infos s (at + routine_size (get_or rs i d)) (cold + cold_size (get_or rs i d))
    (drop (i + 1) rs)
infos_next s at cold rs i d lt = ap (infos s at cold) (drop-cons rs i d lt)
    ∙ ap (λ (n : ℕ). info_bytes s at cold (get_or rs i d)
    ++ infos s (at + routine_size (get_or rs i d)) (cold + cold_size (get_or rs i d))
    (drop n rs)) (after i)

pub ranges_next : (s : SiteView) (info at cold : ℕ) (rs : List RoutineView) (i : ℕ)
    (d : RoutineView) → i < length rs → ranges s info at cold (drop i rs)
    ≡ range_of info at (get_or rs i d)
    ++ ranges s (info + length (info_bytes s at cold (get_or rs i d)))
    (at + routine_size (get_or rs i d)) (cold + cold_size (get_or rs i d)) (drop (i + 1) rs)
ranges_next s info at cold rs i d lt = ap (ranges s info at cold) (drop-cons rs i d lt)
    ∙ ap (λ (n : ℕ). range_of info at (get_or rs i d)
    ++ ranges s (info + length (info_bytes s at cold (get_or rs i d)))
    (at + routine_size (get_or rs i d)) (cold + cold_size (get_or rs i d)) (drop n rs)) (after i)

pub fragments_next : (s : SiteView) (info at cold : ℕ) (rs : List RoutineView) (i : ℕ)
    (d : RoutineView) → i < length rs → fragments s info at cold (drop i rs)
    ≡ fragments_of info at cold (get_or rs i d)
    ++ fragments s (info + length (info_bytes s at cold (get_or rs i d)))
    (at + routine_size (get_or rs i d)) (cold + cold_size (get_or rs i d)) (drop (i + 1) rs)
fragments_next s info at cold rs i d lt = ap (fragments s info at cold) (drop-cons rs i d lt)
    ∙ ap (λ (n : ℕ). fragments_of info at cold (get_or rs i d)
    ++ fragments s (info + length (info_bytes s at cold (get_or rs i d)))
    (at + routine_size (get_or rs i d)) (cold + cold_size (get_or rs i d)) (drop n rs)) (after i)

pub infos_room_next : (rs : List RoutineView) (i : ℕ) (d : RoutineView) → i < length rs
    → infos_room (drop i rs) ≡ info_room (get_or rs i d) + infos_room (drop (i + 1) rs)
infos_room_next rs i d lt = ap infos_room (drop-cons rs i d lt)
    ∙ ap (λ (n : ℕ). info_room (get_or rs i d) + infos_room (drop n rs)) (after i)
