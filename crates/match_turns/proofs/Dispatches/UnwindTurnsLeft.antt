-- An unwinding comes to no more temporaries than wait in its list.
use Rattle.std.proofs.Common.{◌≡◌, ℕ, zero, suc, ◌+◌, ◌*◌, ◌≤◌, Bool, true, false, List, [], ◌∷◌, ◌++◌, length, Option, Some, None, refl, arith}
use Rattle.std.specs.Prelude.{replicate, nat_lt, nat_eq, slice_get}
use Rattle.match_turns.specs.Words.{Event, Deep, Region, RegionKind, LinearProgram, Target, Item, Waits, Searches, Unwinds, Store, Configuration, Seen, Running, Finished, Stuck, Next, pick, with_some, deeper, regions_at, regions_left, stops, flag_of, begin_finally, arrive, target_past, left_store, leave_region, unwind_body, unwind, held_below, turns_left}
use Rattle.seh_num.specs.declared.event.Event.TheVariants as events
use Rattle.linear_code.specs.declared.program.RegionKind.TheVariants as kinds

-- a run that shows as many events as turns are left
abbrev pub counting : Next
counting c = Running (replicate (turns_left c) (events.Filter 0))

-- what is seen, if it continues, are no more than so many
abbrev pub IsShort : ℕ → Seen → Type 0
IsShort n (Running es) = length es ≤ n
IsShort n (Finished e es) = Unit {0}
IsShort n (Stuck es) = Unit {0}

replicated : (n : ℕ) (e : Event) → length (replicate n e) ≡ n
replicated zero e = refl
replicated (suc n) e = let r = replicated n e in omega arith

pub counted : (n : ℕ) (c : Configuration) → turns_left c ≤ n → IsShort n (counting c)
counted n c le = let e = replicated (turns_left c) (events.Filter 0) in omega arith

pub counted_back : (n : ℕ) (c : Configuration) → IsShort n (counting c) → turns_left c ≤ n
counted_back n c h = let e = replicated (turns_left c) (events.Filter 0) in
    let x : length (replicate (turns_left c) (events.Filter 0)) ≤ n = h in omega arith

either_short : (n : ℕ) (b : Bool) (x y : Seen) → IsShort n x → IsShort n y → IsShort n (pick b x y)
unfolding pick
either_short n true x y p q = p
either_short n false x y p q = q

module _ (program : LinearProgram) (n : ℕ) where
  arrive_short : (target : Target) (code : Option ℕ) (c : Configuration) → turns_left c ≤ n
      → IsShort n (arrive target code counting c)
  arrive_short target None c le = counted n (record c
      { frame = record c.frame { next = target.label } }) le
  arrive_short target (Some code) c le = counted n
      (record c {
        frame = record c.frame {
          next = target.label;
          temporaries = [];
          landed = Some code;
        };
        events = c.events ++ events.Except (record { 0 = code }) ∷ [];
      })
      (omega arith)

  finally_short : (k : ℕ) (abnormal : Bool) (held : ℕ) (below : List Item) (c : Configuration)
      (o : Option ℕ) → 3 * held_below below ≤ n
      → IsShort n (with_some c.events o (λ flag. deeper 2 held c.store c.events
      (counting (begin_finally k flag abnormal held below c))))
  unfolding with_some
  finally_short k abnormal held below c None le = tt
  finally_short k abnormal held below c (Some flag) le =
      either_short n (nat_lt 1000 (length c.store.activations + held + 2))
      (Finished (Deep 1001) c.events) (counting (begin_finally k flag abnormal held below c)) tt
      (counted n (begin_finally k flag abnormal held below c) (omega arith))

  region_short : (target : Target) (kind : RegionKind) (rest : List Region) (further : Seen)
      (c : Configuration) → turns_left c ≤ n → IsShort n further
      → IsShort n (leave_region program counting target kind rest further c)
  region_short target (kinds.Finally k) rest further c le h = finally_short k true target.held
      (Unwinds rest target ∷ Waits c.frame ∷ c.below) c (flag_of (slice_get program.funclets k)) le
  region_short target (kinds.Filter k label) rest further c le h = h
  region_short target (kinds.Always label) rest further c le h = h

  body_short : (target : Target) (out : Store → Seen) (regions : List Region) (c : Configuration)
      → turns_left c ≤ n → ((store : Store) → IsShort n (out store))
      → IsShort n (unwind_body program counting target out regions c)
  body_short target out [] c le h = either_short n (nat_eq target.depth (length c.below))
      (arrive target target.code counting c) (out
      (left_store c.frame.body c.frame.activation c.store)) (arrive_short target target.code c le)
      (h (left_store c.frame.body c.frame.activation c.store))
  body_short target out (r ∷ regions) c le h =
      either_short n (stops target r (length c.below)) (arrive target target.code counting c)
      (leave_region program counting target r.kind regions
      (unwind_body program counting target out regions c) c)
      (arrive_short target target.code c le)
      (region_short target r.kind regions (unwind_body program counting target out regions c) c le
      (body_short target out regions c le h))

  pub unwind_short : (target : Target) (items : List Item) (left : Option (List Region))
      (es : List Event) (store : Store) → 3 * held_below items ≤ n
      → IsShort n (unwind program counting target items left es store)
  unwind_short target [] left es store le = tt
  unwind_short target (Waits f ∷ below) left es store le =
      body_short target (λ store. unwind program counting (target_past f.body target) below None es
      store) (regions_left left (regions_at program f.body f.next))
      (record { frame = f; below = below; store = store; events = es }) (omega arith)
      (λ store. unwind_short (target_past f.body target) below None es store (omega arith))
  unwind_short target (Searches exception resumption asked ∷ below) left es store le =
      unwind_short target below None es store (omega arith)
  unwind_short target (Unwinds rest older ∷ below) left es store le = unwind_short target below
      (Some rest) es store le
