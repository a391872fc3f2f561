-- Lists stay as a host can have them.
use Rattle.std.proofs.Common.{◌≡◌, ◌≢◌, ◌≤◌, ℕ, suc, Bool, List, [], ◌∷◌, ◌++◌, length, false, true, nat_eq, refl, arith, length-append}
use Rattle.std.specs.Prelude.{if◌then◌else◌}
use Rattle.vectored_list.specs.declared.TheConstants.{MOST_HANDLERS}
use Rattle.vectored_list.specs.Lists.{is_listed, can_be_added, put_in, removed}
use Rattle.vectored_list.specs.Laws.{EachOnce, IsProper, AddingStaysProper, RemovingStaysProper, RemovedIsGone}

listed_behind : (f g : ℕ) (fs : List ℕ) → is_listed f fs ≡ false → f ≢ g
    → is_listed f (fs ++ g ∷ []) ≡ false
listed_behind f g [] none other = grind arith
listed_behind f g (h ∷ fs) none other = grind (arith, listed_behind f g fs)

once_behind : (g : ℕ) (fs : List ℕ) → is_listed g fs ≡ false → EachOnce fs → EachOnce (fs ++ g ∷ [])
once_behind g [] none once = (refl, tt)
once_behind g (f ∷ fs) none once =
    let other : f ≢ g = grind arith in
    let rest : is_listed g fs ≡ false = grind arith in
    (listed_behind f g fs once.0 other, once_behind g fs rest once.1)

listed_less : (f g : ℕ) (fs : List ℕ) → is_listed f fs ≡ false → is_listed f (removed g fs) ≡ false
listed_less f g [] none = refl
listed_less f g (h ∷ fs) none = grind (arith, listed_less f g fs)

once_less : (g : ℕ) (fs : List ℕ) → EachOnce fs → EachOnce (removed g fs)
once_less g [] once = tt
once_less g (f ∷ fs) once = go (once_less g fs once.1) (nat_eq g f)
  where
    go : EachOnce (removed g fs) → (same : Bool)
        → EachOnce (if same then fs else f ∷ removed g fs)
    go rest true = once.1
    go rest false = (listed_less f g fs once.0, rest)

shorter : (g : ℕ) (fs : List ℕ) → length (removed g fs) ≤ length fs
shorter g [] = omega arith
shorter g (f ∷ fs) = grind (arith, shorter g fs)

put_in_stays_proper : (first : Bool) (f : ℕ) (fs : List ℕ) → IsProper fs
    → is_listed f fs ≡ false → suc (length fs) ≤ MOST_HANDLERS → IsProper (put_in first f fs)
put_in_stays_proper true f fs p none room = record { once = (none, p.once); few = room }
put_in_stays_proper false f fs p none room =
    record { once = once_behind f fs none p.once; few = rw length-append (omega (arith, room)) }

pub adding_stays_proper : AddingStaysProper
adding_stays_proper first f fs p = go (can_be_added f fs) refl
  where
    go : (b : Bool) → can_be_added f fs ≡ b → IsProper (if b then put_in first f fs else fs)
    go true e = put_in_stays_proper first f fs p (grind arith) (grind arith)
    go false e = p

pub removing_stays_proper : RemovingStaysProper
removing_stays_proper f fs p =
    record { once = once_less f fs p.once; few = grind (arith, shorter f fs, p.few) }

gone : (f : ℕ) (fs : List ℕ) → EachOnce fs → is_listed f (removed f fs) ≡ false
gone f [] once = refl
gone f (g ∷ fs) once = grind (arith, gone f fs once.1)

pub removed_is_gone : RemovedIsGone
removed_is_gone f fs p = gone f fs p.once
