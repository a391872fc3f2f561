-- The entries of a function table are in the order of their addresses.
use Rattle.std.proofs.Common.{◌≡◌, ℕ, ◌+◌, ◌<◌, ◌≤◌, List, [], ◌∷◌, ◌++◌, length, map, Option, Some, None, refl, sym, subst, arith, append_assoc}
use Rattle.std.specs.List.{AllByRecursion}
use Rattle.image_tables.specs.Words.{Entry, Instruction, LabelRange, LinearProgram, FrameLayout, Layout, body_size, AreParts, part_code, RoutineView, routines, IsRoutineNear, SiteView, routine_size, cold_size, total, CHAINED_SIZE, Placed, Cursor, put, past, end_of, parts_from, placed, placed_from, first_cursor, site_of, entries, entry_if, part_entry, chained_if, AreInOrder}
use Rattle.image_tables.specs.Entries.{entries_of, chained_of}
use Rattle.image_tables.proofs.Lookups.{parts_total, cold_parts_total}
use Rattle.image_tables.proofs.PartPlaces.{part_some}
use Rattle.image_tables.proofs.Prologues.{framed_room}

module _ (s : SiteView) where
  order_less : (a b : ℕ) (es : List Entry) → b ≤ a → AreInOrder a es → AreInOrder b es
  order_less a b [] le h = tt
  order_less a b (e ∷ es) le h = let l = h.0 in (omega arith, h.1, h.2)

  order_if : (x : Placed) (o : Option FrameLayout) (es : List Entry) (last : ℕ) → last ≤ x.begin
      → ((f : FrameLayout) → o ≡ Some f → 0 < routine_size x.routine) → AreInOrder (end_of x) es
      → AreInOrder last (entry_if s x o ++ es)
  order_if x None es last le some h = order_less (end_of x) last es (omega arith) h
  order_if x (Some f) es last le some h = let l = some f refl in (le, omega arith, h)

  -- before others that begin where all routines end
  in_order : (c : Cursor) (last : ℕ) (rs : List RoutineView) (others : List Entry)
      → AllByRecursion IsRoutineNear rs
      → last ≤ c.begin → AreInOrder (c.begin + total rs) others
      → AreInOrder last (entries_of s (placed_from s c rs) ++ others)
  in_order c last [] others near le more = order_less (c.begin + 0) last others (omega arith) more
  in_order c last (r ∷ rs) others near le more =
      let same = append_assoc (entry_if s (put c r) r.frame)
      (entries_of s (placed_from s (past s c r) rs)) others in
      let there : c.begin + routine_size r + total rs ≡ c.begin + (routine_size r + total rs) =
      omega arith in
      subst (AreInOrder last) (sym same)
      (order_if (put c r) r.frame (entries_of s (placed_from s (past s c r) rs) ++ others) last le
      (λ f e. framed_room r f near.0 e)
      (in_order (past s c r) (c.begin + routine_size r) rs others near.1 (omega arith)
      (subst (λ (n : ℕ). AreInOrder n others) (sym there) more)))

  -- cold parts
  parts_order : (x : Placed) (f : FrameLayout) (y : Layout) (code : List Instruction)
      (at info from : ℕ) (rs : List LabelRange) (others : List Entry)
      → AreParts from rs (length code) → AreInOrder (at + parts_total y rs code) others
      → AreInOrder at (map (part_entry s x f) (parts_from y at info rs code) ++ others)
  parts_order x f y code at info from [] others parts more = order_less (at + 0) at others
      (omega arith) more
  parts_order x f y code at info from (r ∷ rs) others parts more =
      let end = at + body_size y (part_code code r) in
      let some = part_some y code from r rs parts in
      let there : end + parts_total y rs code
      ≡ at + (body_size y (part_code code r) + parts_total y rs code) = omega arith in (
        (let z : at ≤ at = omega arith in z),
        omega arith,
        parts_order x f y code end (info + CHAINED_SIZE) r.end rs others parts.2
            (subst (λ (n : ℕ). AreInOrder n others) (sym there) more),
      )

  chained_order_if : (x : Placed) (o : Option FrameLayout) (others : List Entry) (last : ℕ)
      → last ≤ x.cold → IsRoutineNear x.routine
      → AreInOrder (x.cold + cold_size x.routine) others
      → AreInOrder last (chained_if s x o ++ others)
  chained_order_if x None others last le near more =
      order_less (x.cold + cold_size x.routine) last others (omega arith) more
  chained_order_if x (Some f) others last le near more =
      let t = cold_parts_total x.routine near in
      order_less x.cold last (chained_if s x (Some f) ++ others) le
      (parts_order x f x.routine.layout x.routine.body.code x.cold x.chained 0
      x.routine.body.cold others near.cold
      (subst (λ (n : ℕ). AreInOrder (x.cold + n) others) t more))

  chained_order : (c : Cursor) (last : ℕ) (rs : List RoutineView) → AllByRecursion IsRoutineNear rs
      → last ≤ c.cold → AreInOrder last (chained_of s (placed_from s c rs))
  chained_order c last [] near le = tt
  chained_order c last (r ∷ rs) near le =
      chained_order_if (put c r) r.frame (chained_of s (placed_from s (past s c r) rs)) last le
      near.0
      (chained_order (past s c r) (c.cold + cold_size r) rs near.1 (omega arith))

pub all_in_order : (p : LinearProgram) → AllByRecursion IsRoutineNear (routines p)
    → AreInOrder 0 (entries p)
all_in_order p near =
    let s = site_of p in
    let c = first_cursor p in
    in_order s c 0 (routines p) (chained_of s (placed p)) near (omega arith)
    (chained_order s c (c.begin + total (routines p)) (routines p) near (omega arith))
