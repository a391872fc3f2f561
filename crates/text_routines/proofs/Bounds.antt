-- Where the pieces of a program's text begin and end: the thunks and `__chkstk`, the routines, and
-- the parts of blocks.
--
-- The main definition: `IsBound`.
use Rattle.std.proofs.Common.{◌≡◌, ℕ, zero, suc, ◌+◌, ◌*◌, ◌^◌, ◌<◌, ◌≤◌, Bool, true, false, List, [], ◌∷◌, ◌++◌, length, get_or, take, drop, Option, Some, None, refl, sym, ap, subst, ◌∙◌, arith, inl, inr, ◌⊎◌}
use Rattle.std.specs.Prelude.{slice_get}
use Rattle.std.proofs.lemmas.Bool.{cases_lt, cases_eq}
use Rattle.linear_code.specs.Program.{LinearProgram}
use Rattle.image_link.specs.declared.handlers.HandlerBlocks.{HandlerBlocks}
use Rattle.image_link.specs.Handlers.{block_size, step_of, stub_size_if}
use Rattle.image_link.specs.Linked.{text_begin}
use Rattle.image_link.specs.Routines.{RoutineView, routines}
use Rattle.image_link.specs.Services.{services_of}
use Rattle.image_link.specs.Text.{SiteView, routine_size, total, bounds}
use Rattle.image_link.proofs.Blocks.{step_more, step_none}
use Rattle.image_tables.specs.RoutinePlaces.{Placed, Cursor, put, past, end_of, placed_from, routines_begin, blocks_of, block_begin}
use Rattle.image_tables.proofs.Lookups.{some_same, none_some, placed_least, placed_most}

-- ---- routines

pub record IsListed (xs : List ℕ) (at : ℕ) : Type 0 where
  pub index : ℕ
  pub is : slice_get xs index ≡ Some at

later : (x : ℕ) (xs : List ℕ) (at : ℕ) → IsListed xs at → IsListed (x ∷ xs) at
later x xs at l = record { index = suc l.index; is = l.is }

-- where the first of them begins
pub first_listed : (at : ℕ) (rs : List RoutineView) → IsListed (bounds at rs) at
first_listed at [] = record { index = 0; is = refl }
first_listed at (r ∷ rs) = record { index = 0; is = refl }

listed_least : (at : ℕ) (rs : List RoutineView) (k b : ℕ) → slice_get (bounds at rs) k ≡ Some b
    → at ≤ b
listed_least at [] zero b e = let s = some_same e in omega arith
listed_least at [] (suc k) b e = absurd (none_some e)
listed_least at (r ∷ rs) zero b e = let s = some_same e in omega arith
listed_least at (r ∷ rs) (suc k) b e =
    let l = listed_least (at + routine_size r) rs k b e in omega arith

pub bound_low : (at : ℕ) (rs : List RoutineView) (b : ℕ) → IsListed (bounds at rs) b → at ≤ b
bound_low at rs b l = listed_least at rs l.index b l.is

listed_most : (at : ℕ) (rs : List RoutineView) (k b : ℕ) → slice_get (bounds at rs) k ≡ Some b
    → b ≤ at + total rs
listed_most at [] zero b e = let s = some_same e in omega arith
listed_most at [] (suc k) b e = absurd (none_some e)
listed_most at (r ∷ rs) zero b e = let s = some_same e in omega arith
listed_most at (r ∷ rs) (suc k) b e =
    let l = listed_most (at + routine_size r) rs k b e in omega arith

pub bound_high : (at : ℕ) (rs : List RoutineView) (b : ℕ) → IsListed (bounds at rs) b
    → b ≤ at + total rs
bound_high at rs b l = listed_most at rs l.index b l.is

module _ (s : SiteView) where
  -- a routine ends where the next one begins
  pub end_listed : (c : Cursor) (rs : List RoutineView) (index : ℕ) (x : Placed)
      → slice_get (placed_from s c rs) index ≡ Some x → IsListed (bounds c.begin rs) (end_of x)
  end_listed c [] index x e = absurd (none_some e)
  end_listed c (r ∷ rs) zero x e =
      subst (λ (n : ℕ). IsListed (bounds c.begin (r ∷ rs)) n) (ap end_of (some_same e))
      (later c.begin (bounds (c.begin + routine_size r) rs) (c.begin + routine_size r)
      (first_listed (c.begin + routine_size r) rs))
  end_listed c (r ∷ rs) (suc index) x e =
      later c.begin (bounds (c.begin + routine_size r) rs) (end_of x)
      (end_listed (past s c r) rs index x e)

  -- and none begins inside another
  none_between : (c : Cursor) (rs : List RoutineView) (index k b : ℕ) (x : Placed)
      → slice_get (placed_from s c rs) index ≡ Some x → slice_get (bounds c.begin rs) k ≡ Some b
      → x.begin < b → b < end_of x → ⊥
  none_between c [] index k b x e is lt lt' = absurd (none_some e)
  none_between c (r ∷ rs) zero zero b x e is lt lt' =
      let begin = ap (λ (y : Placed). y.begin) (some_same e) in
      let at = some_same is in
      omega arith
  none_between c (r ∷ rs) zero (suc k) b x e is lt lt' =
      let end = ap end_of (some_same e) in
      let least = listed_least (c.begin + routine_size r) rs k b is in
      omega arith
  none_between c (r ∷ rs) (suc index) zero b x e is lt lt' =
      let least = placed_least s (past s c r) rs index x e in
      let at = some_same is in
      omega arith
  none_between c (r ∷ rs) (suc index) (suc k) b x e is lt lt' =
      none_between (past s c r) rs index k b x e is lt lt'

  pub bound_apart : (c : Cursor) (rs : List RoutineView) (index b : ℕ) (x : Placed)
      → slice_get (placed_from s c rs) index ≡ Some x → IsListed (bounds c.begin rs) b
      → x.begin < b → b < end_of x → ⊥
  bound_apart c rs index b x e l lt lt' = none_between c rs index l.index b x e l.is lt lt'

-- what a list gives at an index is in it, or what it gives past its end
pub given : (xs : List ℕ) (k d : ℕ) → IsListed xs (get_or xs k d) ⊎ (get_or xs k d ≡ d)
given [] k d = inr refl
given (x ∷ xs) zero d = inl (record { index = 0; is = refl })
given (x ∷ xs) (suc k) d = elim (given xs k d) [
  | inl l ↦ inl (later x xs (get_or xs k d) l)
  | inr e ↦ inr e
]

taken_listed : (n : ℕ) (xs : List ℕ) (k b : ℕ) → slice_get (take n xs) k ≡ Some b → IsListed xs b
taken_listed zero xs k b e = absurd (none_some e)
taken_listed (suc n) [] k b e = absurd (none_some e)
taken_listed (suc n) (x ∷ xs) zero b e = record { index = 0; is = e }
taken_listed (suc n) (x ∷ xs) (suc k) b e = later x xs b (taken_listed n xs k b e)

dropped_listed : (n : ℕ) (xs : List ℕ) (k b : ℕ) → slice_get (drop n xs) k ≡ Some b → IsListed xs b
dropped_listed zero xs k b e = record { index = k; is = e }
dropped_listed (suc n) [] k b e = absurd (none_some e)
dropped_listed (suc n) (x ∷ xs) k b e = later x xs b (dropped_listed n xs k b e)

pub given_taken : (n : ℕ) (xs : List ℕ) (k d : ℕ)
    → IsListed xs (get_or (take n xs) k d) ⊎ (get_or (take n xs) k d ≡ d)
given_taken n xs k d = elim (given (take n xs) k d) [
  | inl l ↦ inl (taken_listed n xs l.index (get_or (take n xs) k d) l.is)
  | inr e ↦ inr e
]

pub given_dropped : (n : ℕ) (xs : List ℕ) (k d : ℕ)
    → IsListed xs (get_or (drop n xs) k d) ⊎ (get_or (drop n xs) k d ≡ d)
given_dropped n xs k d = elim (given (drop n xs) k d) [
  | inl l ↦ inl (dropped_listed n xs l.index (get_or (drop n xs) k d) l.is)
  | inr e ↦ inr e
]

-- ---- parts of blocks

-- a later block is past the whole of an earlier one
pub step_between : (adds removes : Bool) (f g : ℕ) → f < g
    → block_size adds removes * f + block_size adds removes ≤ block_size adds removes * g
step_between true true f g lt = omega arith
step_between true false f g lt = omega arith
step_between false true f g lt = omega arith
step_between false false f g lt = omega arith

-- so far from a block's begin a part of it begins
pub data IsPart (b : HandlerBlocks) (d : ℕ) : Type 0 where
  at_name : d ≡ 0 → IsPart b d
  at_first_stub : d ≡ 15 → IsPart b d
  at_second_stub : b.adds ≡ true → d ≡ 28 → IsPart b d

pub part_small : (b : HandlerBlocks) (d : ℕ) → IsPart b d → d ≤ step_of b
part_small b d (at_name e) = omega arith
part_small b d (at_first_stub e) = omega arith
part_small b d (at_second_stub has e) = let size = ap stub_size_if has in omega arith

-- ---- all

-- an address in a program's text at which a piece of it begins or ends
pub data IsBound (p : LinearProgram) (at : ℕ) : Type 0 where
  front : (i : ℕ) → i ≤ length (services_of p) → at ≡ text_begin p.globals + 6 * i → IsBound p at
  routine : IsListed (bounds (routines_begin p) (routines p)) at → IsBound p at
  block : (f d : ℕ) → IsPart (blocks_of p) d → at ≡ block_begin p f + d → IsBound p at
