-- What stores and `protect` keep.
use Rattle.std.proofs.Common.{◌≡◌, ◌≢◌, ℕ, zero, suc, ◌+◌, ◌/◌, ◌%◌, ◌^◌, ◌<◌, ◌≤◌, Bool, true, false, cond, ltb, ◌&&◌, ℤ, Option, Some, None, refl, ap, ◌∙◌, arith}
use Rattle.std.proofs.lemmas.Bool.{ne_eqb, lt-ltb, le-leb}
use Rattle.seh_num.specs.Widths.{bytes_of}
use Rattle.host_layout.specs.Ranges.{in_arena}
use Rattle.host_layout.specs.declared.range.TheConstants.{PAGE, ARENA_START, ARENA_END}
use Rattle.flat_memory.specs.declared.protection.Rights.{Rights}
use Rattle.flat_memory.specs.declared.protection.Protection.{Protection}
use Rattle.flat_memory.specs.Protections.{is_writable, rights_numbered}
use Rattle.flat_memory.specs.Memory.{Memory, next, first_refused, may_write, with_number, with_bytes, unless_refused, with_rights}
use Rattle.flat_memory.specs.Laws.{IsApart}
use Rattle.flat_memory.proofs.Stores.{untouched}
use Rattle.x64_decoded.specs.Fixed.{IsFixedAt, StaysAt, KeepsFixed}
use Rattle.x64_decoded.specs.Laws.{StoresKeepFixed, ProtectKeepsFixed, KeepingIsTransitive}

pub keeps_same : (m : Memory) → KeepsFixed m m
keeps_same m a f = record { protection = refl; byte = refl }

pub keeps_then : KeepingIsTransitive
keeps_then m n o h k a f =
    let x = h a f in
    let g : IsFixedAt n a = record {
      outside = f.outside;
      read_only = ap (λ (p : Protection). is_writable p.rights) x.protection ∙ f.read_only;
    } in
    let y = k a g in
    record { protection = y.protection ∙ x.protection; byte = y.byte ∙ x.byte }

-- where no address is refused, each passes the test
pub passed : (may : ℕ → Bool) (n at i : ℕ) → first_refused may n at ≡ None → at < 2 ^ 64 → i < n
    → may ((at + i) % 2 ^ 64) ≡ true
unfolding first_refused
passed may zero at i e lt il = absurd (omega arith)
passed may (suc n) at i e lt il = go
    (λ h i il. passed may n (next at) i h (omega arith) il) (may at) refl e i il
  where
    go : (first_refused may n (next at) ≡ None → (i : ℕ) → i < n
        → may ((next at + i) % 2 ^ 64) ≡ true) → (b : Bool) → may at ≡ b
        → cond b (first_refused may n (next at)) (Some at) ≡ None
        → (i : ℕ) → i < suc n → may ((at + i) % 2 ^ 64) ≡ true
    go more false w e i il = absurd cc
    go more true w e zero il = let z : (at + 0) % 2 ^ 64 ≡ at = omega arith in ap may z ∙ w
    go more true w e (suc i) il =
        let z : (at + suc i) % 2 ^ 64 ≡ (next at + i) % 2 ^ 64 = omega arith in
        ap may z ∙ more e i (omega arith)

-- an address that may not be written is none of those that may
pub apart : (m : Memory) (n at a : ℕ) → first_refused (may_write m) n at ≡ None → at < 2 ^ 64
    → may_write m a ≡ false → IsApart a at n
apart m n at a e lt r i il same =
    let t : may_write m a ≡ true = ap (may_write m) same ∙ passed (may_write m) n at i e lt il in
    absurd cc

store_keeps : (m : Memory) (n at v : ℕ) (o : Option ℕ) → first_refused (may_write m) n at ≡ o
    → at < 2 ^ 64 → KeepsFixed m (unless_refused o (with_bytes m (with_number m.byte n at v)) m)
store_keeps m n at v (Some b) e lt a f = record { protection = refl; byte = refl }
store_keeps m n at v None e lt a f = record {
  protection = refl;
  byte = untouched m.byte n at v a (apart m n at a e lt f.read_only) lt;
}

pub stores_keep : StoresKeepFixed
stores_keep m at v w lt = store_keeps m (bytes_of w) at v
    (first_refused (may_write m) (bytes_of w) at) refl lt

-- ---- `protect`

in_arena_is : (a : ℕ) → ARENA_START ≤ a → a < ARENA_END → in_arena a ≡ true
in_arena_is a lo hi = ap (λ b. b && ltb a ARENA_END) (le-leb ARENA_START a lo)
    ∙ lt-ltb a ARENA_END hi

within : (a : ℕ) → in_arena a ≡ true → (ARENA_START ≤ a) × (a < ARENA_END)
within a e = (grind arith, grind arith)

-- the arena is made of whole pages
other_page : (a at : ℕ) → in_arena at ≡ true → in_arena a ≡ false → a / PAGE ≢ at / PAGE
other_page a at h f e =
    let w = within at h in
    let t : in_arena a ≡ true = in_arena_is a (let p = w.0 in omega arith)
    (let q = w.1 in omega arith) in
    absurd cc

rights_keep : (m : Memory) (at : ℕ) (number : ℤ) (b : Bool) → in_arena at ≡ b
    → KeepsFixed m (with_rights m at (cond b (rights_numbered number) None))
rights_keep m at number false e a f = record { protection = refl; byte = refl }
rights_keep m at number true e a f = set (rights_numbered number)
  where
    set : (r : Option Rights) → StaysAt m (with_rights m at r) a
    set None = record { protection = refl; byte = refl }
    set (Some r) = record {
      protection = ap (λ (b : Bool).
          cond b (let q : Protection = record (m.protection a) { rights = r } in q)
          (m.protection a))
          (ne_eqb (a / PAGE) (at / PAGE) (other_page a at e f.outside));
      byte = refl;
    }

pub protect_keeps : ProtectKeepsFixed
protect_keeps m at number = rights_keep m at number (in_arena at) refl
