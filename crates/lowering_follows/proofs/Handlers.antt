-- What holds of each vectored handler stays where one is put in or taken out.
use Rattle.std.proofs.Common.{◌≡◌, ℕ, zero, suc, List, [], ◌∷◌, ◌++◌, subst}
use Rattle.std.proofs.lemmas.Option.{same_Some}
use Rattle.std.specs.List.{AllByRecursion}
use Rattle.std.specs.Prelude.{Bool, true, false, nat_eq, if◌then◌else◌, slice_get, Some}
use Rattle.vectored_list.specs.Lists.{can_be_added, put_in, added, removed}

module _ (P : ℕ → Type 0) where
  abbrev Each : List ℕ → Type 0
  Each = AllByRecursion P

  -- of the one at a place
  pub each_at : (fs : List ℕ) (place f : ℕ) → Each fs → slice_get fs place ≡ Some f → P f
  each_at [] place f all e = absurd (cc)
  each_at (g ∷ fs) zero f all e = subst P (same_Some g f e) all.0
  each_at (g ∷ fs) (suc place) f all e = each_at fs place f all.1 e

  behind : (fs : List ℕ) (f : ℕ) → Each fs → P f → Each (fs ++ f ∷ [])
  behind [] f all p = (p, tt)
  behind (g ∷ fs) f all p = (all.0, behind fs f all.1 p)

  put : (first : Bool) (f : ℕ) (fs : List ℕ) → P f → Each fs → Each (put_in first f fs)
  put true f fs p all = (p, all)
  put false f fs p all = behind fs f all p

  pub each_added : (first : Bool) (f : ℕ) (fs : List ℕ) → P f → Each fs → Each (added first f fs)
  each_added first f fs p all = by_room (can_be_added f fs)
    where
      by_room : (b : Bool) → Each (if b then put_in first f fs else fs)
      by_room true = put first f fs p all
      by_room false = all

  without : (b : Bool) (f : ℕ) (fs rest : List ℕ) → Each (f ∷ fs) → Each rest
      → Each (if b then fs else f ∷ rest)
  without true f fs rest all others = all.1
  without false f fs rest all others = (all.0, others)

  pub each_left : (f : ℕ) (fs : List ℕ) → Each fs → Each (removed f fs)
  each_left f [] all = tt
  each_left f (g ∷ fs) all =
      without (nat_eq f g) g fs (removed f fs) all (each_left f fs all.1)
