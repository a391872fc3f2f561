use Rattle.std.proofs.Common.{◌≡◌, ◌<◌, ℕ, List, length, take, get_or, sym, ap, subst, ◌∙◌, inl, inr, arith, length-take}
use Rattle.x64_memory.specs.Pages.{IsRestOfPage}
use Rattle.seh_views.specs.declared.snapshot.TheConstants.{DATA}
use Rattle.seh_views.specs.Ranges.{held}
use Rattle.seh_views.specs.Snapshot.{snapshot, code_from}
use Rattle.seh_views.proofs.Rests.{rest_of_range, rest_of_code}
use Rattle.seh_views.proofs.snapshot.SnapshotReadPages.rest_of_page.Goals as goal

pub returns-then-bytes-ne0 : goal.returns-then-bytes-ne0
returns-then-bytes-ne0 c =
    let s = c.args.self.now in
    let is : c.as_bytes-bytes.result.now ≡ held c.args.at s.ranges.now
    = c.as_bytes-bytes.ensures.same ∙ c.bytes_at.ensures in
    let len = ap length is in
    let some : 0 < length (held c.args.at s.ranges.now) = omega arith in
    let small : (i : ℕ) → get_or (held c.args.at s.ranges.now) i 0 < 256 = subst
    (λ (xs : List ℕ). (i : ℕ) → get_or xs i 0 < 256) is c.as_bytes-bytes.ensures.small in
    subst (λ (xs : List ℕ). IsRestOfPage (snapshot s.image.now s.base s.ranges.now) c.args.at DATA
    xs) (sym is) (rest_of_range s.image.now s.base s.ranges.now c.args.at s.ordered some small)

pub returns : goal.returns
returns c =
    let s = c.args.self.now in
    let is : c.as_bytes-bytes.result.now ≡ held c.args.at s.ranges.now
    = c.as_bytes-bytes.ensures.same ∙ c.bytes_at.ensures in
    let len = ap length is in
    let none : length (held c.args.at s.ranges.now) ≡ 0 = omega arith in
    let code : c.as_bytes-code.result.now ≡ code_from s.image.now s.base c.args.at
    = c.as_bytes-code.ensures.same ∙ c.bytes_from.ensures.value in
    let code_len = ap length code in
    let n = length c.first_bytes.result.now in
    let front : c.first_bytes.result.now ≡ take n (code_from s.image.now s.base c.args.at)
    = c.first_bytes.ensures.front ∙ ap (take n) code in
    let front_len = ap length front in
    let taken = length-take n (code_from s.image.now s.base c.args.at) in
    let all : 0 < length c.as_bytes-code.result.now = omega arith in
    let some : 0 < n = c.first_bytes.ensures.some all in
    let least = c.min-room.ensures in
    let within = c.room_at.ensures.within in
    rest_of_code s.image.now s.base s.ranges.now c.args.at s.ordered c.bytes_from.ensures.ascending
    (omega arith) none n c.min-room.result some (omega arith) c.first_bytes.ensures.few
    (λ k d lt. elim (c.room_at.ensures.next k d lt) [
      | inl below ↦ inl below
      | inr above ↦ inr (omega arith)
    ])
    (omega arith) (omega arith) c.as_bytes.result.now (c.as_bytes.ensures.same ∙ front)
    c.as_bytes.ensures.small
