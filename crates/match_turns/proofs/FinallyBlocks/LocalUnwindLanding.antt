-- A jump out of regions lands in a body that has not just taken over for an exception.
use Rattle.std.proofs.Common.{◌≡◌, ℕ, ◌+◌, Bool, true, false, List, [], ◌∷◌, length, Option, Some, None, refl, sym, ap, subst}
use Rattle.std.specs.Prelude.{nat_lt, nat_eq, slice_get}
use Rattle.match_turns.specs.Words.{Event, Deep, Region, RegionKind, LinearProgram, BodyName, FunctionBody, FuncletBody, Target, Item, Waits, Searches, Unwinds, Store, Configuration, Seen, Running, Finished, Stuck, Next, pick, with_some, deeper, regions_at, regions_left, stops, flag_of, begin_finally, arrive, target_past, left_store, leave_region, unwind_body, unwind, NoneLanded}
use Rattle.seh_num.specs.declared.event.Event.TheVariants as events
use Rattle.linear_code.specs.declared.program.RegionKind.TheVariants as kinds

abbrev pub marks : Option ℕ → List Event
marks None = []
marks (Some code) = events.Filter 0 ∷ []

-- a run that shows whether a body has just taken over
abbrev pub noticing : Next
noticing c = Running (marks c.frame.landed)

abbrev pub IsBare : Seen → Type 0
IsBare (Running es) = es ≡ []
IsBare (Finished e es) = Unit {0}
IsBare (Stuck es) = Unit {0}

pub unmarked : (o : Option ℕ) → marks o ≡ [] → o ≡ None
unmarked None e = refl
unmarked (Some code) e = absurd cc

either_bare : (b : Bool) (x y : Seen) → IsBare x → IsBare y → IsBare (pick b x y)
unfolding pick
either_bare true x y p q = p
either_bare false x y p q = q

past_code : (name : BodyName) (target : Target) → target.code ≡ None
    → (target_past name target).code ≡ None
past_code (FunctionBody f) target e = e
past_code (FuncletBody k) target e = e

module _ (program : LinearProgram) where
  arrive_bare : (target : Target) (c : Configuration) → target.code ≡ None → c.frame.landed ≡ None
      → IsBare (arrive target target.code noticing c)
  arrive_bare target c e unlanded = subst (λ (o : Option ℕ). IsBare (arrive target o noticing c))
      (sym e) (ap marks unlanded)

  finally_bare : (k : ℕ) (abnormal : Bool) (held : ℕ) (below : List Item) (c : Configuration)
      (o : Option ℕ) → IsBare (with_some c.events o
      (λ flag. deeper 2 held c.store c.events
      (noticing (begin_finally k flag abnormal held below c))))
  unfolding with_some
  finally_bare k abnormal held below c None = tt
  finally_bare k abnormal held below c (Some flag) = either_bare
      (nat_lt 1000 (length c.store.activations + held + 2)) (Finished (Deep 1001) c.events)
      (noticing (begin_finally k flag abnormal held below c)) tt refl

  region_bare : (target : Target) (kind : RegionKind) (rest : List Region) (further : Seen)
      (c : Configuration) → IsBare further → IsBare
      (leave_region program noticing target kind rest further c)
  region_bare target (kinds.Finally k) rest further c h = finally_bare k true target.held
      (Unwinds rest target ∷ Waits c.frame ∷ c.below) c (flag_of (slice_get program.funclets k))
  region_bare target (kinds.Filter k label) rest further c h = h
  region_bare target (kinds.Always label) rest further c h = h

  body_bare : (target : Target) (out : Store → Seen) (regions : List Region) (c : Configuration)
      → target.code ≡ None → c.frame.landed ≡ None → ((store : Store) → IsBare (out store))
      → IsBare (unwind_body program noticing target out regions c)
  body_bare target out [] c e unlanded h = either_bare (nat_eq target.depth (length c.below))
      (arrive target target.code noticing c) (out
      (left_store c.frame.body c.frame.activation c.store)) (arrive_bare target c e unlanded)
      (h (left_store c.frame.body c.frame.activation c.store))
  body_bare target out (r ∷ regions) c e unlanded h =
      either_bare (stops target r (length c.below)) (arrive target target.code noticing c)
      (leave_region program noticing target r.kind regions
      (unwind_body program noticing target out regions c) c) (arrive_bare target c e unlanded)
      (region_bare target r.kind regions (unwind_body program noticing target out regions c) c
      (body_bare target out regions c e unlanded h))

  pub unwind_bare : (target : Target) (items : List Item) (left : Option (List Region))
      (es : List Event) (store : Store) → target.code ≡ None → NoneLanded items
      → IsBare (unwind program noticing target items left es store)
  unwind_bare target [] left es store e unlanded = tt
  unwind_bare target (Waits f ∷ below) left es store e unlanded =
      body_bare target (λ store. unwind program noticing (target_past f.body target) below None es
      store) (regions_left left (regions_at program f.body f.next))
      (record { frame = f; below = below; store = store; events = es }) e unlanded.0
      (λ store. unwind_bare (target_past f.body target) below None es store
      (past_code f.body target e) unlanded.1)
  unwind_bare target (Searches exception resumption asked ∷ below) left es store e unlanded =
      unwind_bare target below None es store e unlanded
  unwind_bare target (Unwinds rest older ∷ below) left es store e unlanded = unwind_bare target
      below
      (Some rest) es store e unlanded
