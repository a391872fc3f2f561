-- The first fault past a prologue.
use Rattle.std.proofs.Common.{◌≡◌, ◌⊎◌, ℕ, zero, suc, ◌+◌, ◌-◌, ◌<◌, ◌≤◌, Bool, true, false, List, [], ◌∷◌, length, Option, Some, None, refl, sym, ap, subst, ◌∙◌, arith, inl, inr}
use Rattle.std.proofs.lemmas.Bool.{false≢true}
use Rattle.flat_memory.specs.Memory.{Memory}
use Rattle.x64_instr.specs.declared.instruction.Instr.{Instr}
use Rattle.eh_tables.specs.declared.code.UnwindOperation.{UnwindOperation}
use Rattle.eh_tables.specs.Infos.{Info}
use Rattle.virtual_unwind.specs.Tail.{FetchedInstr, fetched_at}
use Rattle.frame_rules.specs.Body.{written, restored_by, with_restored}
use Rattle.frame_rules.specs.States.{HasItems}
use Rattle.frame_rules.proofs.Tails.{items_rise}
use Rattle.unwind_check.specs.declared.rule.Rule.{Rule}
use Rattle.unwind_check.specs.declared.rule.Rule.TheVariants.{Decode, Chain, Codes, Prologue, StackWrite, Unsaved, Epilogue}
use Rattle.unwind_check.specs.declared.rule.Fault.{Fault}
use Rattle.unwind_check.specs.Boundaries.{fault, unless, or_next}
use Rattle.unwind_check.specs.Bodies.{keeps_stack, keeps_saved, is_own, by_tail, body_from}
use Rattle.unwind_check.specs.FailingRules.{CodeEntry, body_begin, primary_of, operations_of, tail_there, HasInstr, Fails, place_of}
use Rattle.unwind_check.proofs.Reached.{Beyond, one_there}
use Rattle.unwind_check.proofs.TailSteps.{tail_step}
use Rattle.unwind_check.proofs.BodyPlaces.{IsBefore, is_first, fault_fails, both, HasGoodPrologue, Passed, some_items, in_epilogue, outside, opened, not_own}

module _ (e : CodeEntry) (stop : ℕ) (whole : Bool) (good : HasGoodPrologue e stop whole) where
  abbrev m : Memory
  m = e.memory

  abbrev i : Info
  i = primary_of e

  abbrev ops : List UnwindOperation
  ops = operations_of e

  abbrev mid : ℕ
  mid = body_begin e

  -- ---- a boundary at which no rule fails

  early : (b : ℕ) → mid ≤ b → HasInstr e b → (r : Rule) → place_of r < 4 → Fails e b r → ⊥
  early b le has Decode lt (inl none) = none has
  early b le has Decode lt (inr past) = let a = past.1 in let k = good.inside in
      absurd (omega (arith, a, k))
  early b le has Chain lt h = good.chain b h
  early b le has Codes lt h = good.codes b h
  early b le has Prologue lt h = good.prologue b h
  early b le has StackWrite lt h = absurd (omega (arith, lt))
  early b le has Unsaved lt h = absurd (omega (arith, lt))
  early b le has Epilogue lt h = absurd (omega (arith, lt))

  clean : (at : ℕ) (loaded : List ℕ) (left : ℕ) → 0 < left → mid ≤ at → HasInstr e at
      → Passed e at loaded left → (r : Rule) → Fails e at r → ⊥
  clean at loaded left pos le has p Decode h = early at le has Decode (omega arith) h
  clean at loaded left pos le has p Chain h = early at le has Chain (omega arith) h
  clean at loaded left pos le has p Codes h = early at le has Codes (omega arith) h
  clean at loaded left pos le has p Prologue h = early at le has Prologue (omega arith) h
  clean at loaded left pos le has p StackWrite h =
      both (tail_there e at) (p.own pos).rest h.is.outside (p.own pos).there
  clean at loaded left pos le has p Unsaved h =
      both (tail_there e at) (p.own pos).rest h.is.outside (p.own pos).there
  clean at loaded left pos le has p Epilogue h =
      let own = p.own pos in
      let c = p.count in
      h.other (record {
        opening = own.opening;
        end = p.end;
        is = own.is;
        from = own.from;
        before = some_items m at p.ahead p.end p.going (omega (arith, c, pos));
      })

  has_instr : (at : ℕ) (x : FetchedInstr) → mid ≤ at → fetched_at m at ≡ Some x → 0 < x.size
      → at + x.size ≤ e.to → HasInstr e at
  has_instr at x le there pos inside =
      record { item = x; there = there; sized = pos; inside = inside; apart = inr le }

  -- what is reached is the place itself or past the instruction there
  here_or_next : (at : ℕ) (x : FetchedInstr) → fetched_at m at ≡ Some x → (ys : List FetchedInstr)
      (b : ℕ) → HasItems m at ys b → (at ≡ b) ⊎ Beyond m (at + x.size) b
  here_or_next at x there [] b g = inl g
  here_or_next at x there (y ∷ ys) b g = inr (record {
    left = ys;
    items = subst (λ (z : FetchedInstr). HasItems m (at + z.size) ys b)
        (one_there m at y x g.0 there) g.2;
  })

  -- ---- the rules that are asked of an instruction outside epilogues

  no_stack_write : (at : ℕ) (x : FetchedInstr) → mid ≤ at → HasInstr e at
      → fetched_at m at ≡ Some x → (r : Rule) → place_of r < 4 → Fails e at r → ⊥
  no_stack_write at x le has there r lt h = early at le has r lt h

  no_unsaved : (at : ℕ) (x : FetchedInstr) → mid ≤ at → HasInstr e at
      → fetched_at m at ≡ Some x → keeps_stack i.frame_register (written x.instr) ≡ true
      → (r : Rule) → place_of r < 5 → Fails e at r → ⊥
  no_unsaved at x le has there k StackWrite lt h =
      let same = one_there m at h.item x h.is.there there in
      false≢true (sym h.writes ∙ ap (λ (z : FetchedInstr).
      keeps_stack i.frame_register (written z.instr)) same ∙ k)
  no_unsaved at x le has there k Unsaved lt h = absurd (omega (arith, lt))
  no_unsaved at x le has there k Epilogue lt h = absurd (omega (arith, lt))
  no_unsaved at x le has there k Decode lt h = early at le has Decode (omega arith) h
  no_unsaved at x le has there k Chain lt h = early at le has Chain (omega arith) h
  no_unsaved at x le has there k Codes lt h = early at le has Codes (omega arith) h
  no_unsaved at x le has there k Prologue lt h = early at le has Prologue (omega arith) h

  nothing : (at : ℕ) (x : FetchedInstr) → mid ≤ at → HasInstr e at
      → fetched_at m at ≡ Some x → tail_there e at ≡ None
      → keeps_stack i.frame_register (written x.instr) ≡ true
      → keeps_saved ops (written x.instr) ≡ true → (r : Rule) → Fails e at r → ⊥
  nothing at x le has there none k s Unsaved h =
      let same = one_there m at h.item x h.is.there there in
      false≢true (sym h.writes ∙ ap (λ (z : FetchedInstr). keeps_saved ops
      (written z.instr)) same ∙ s)
  nothing at x le has there none k s Epilogue h = both (tail_there e at) h.rest none h.there
  nothing at x le has there none k s StackWrite h =
      no_unsaved at x le has there k StackWrite (omega arith) h
  nothing at x le has there none k s Decode h = early at le has Decode (omega arith) h
  nothing at x le has there none k s Chain h = early at le has Chain (omega arith) h
  nothing at x le has there none k s Codes h = early at le has Codes (omega arith) h
  nothing at x le has there none k s Prologue h = early at le has Prologue (omega arith) h

  -- before the rule Epilogue
  in_tail : (at : ℕ) (is : List Instr) → mid ≤ at → HasInstr e at → tail_there e at ≡ Some is
      → (r : Rule) → place_of r < 6 → Fails e at r → ⊥
  in_tail at is le has some StackWrite lt h = both (tail_there e at) is h.is.outside some
  in_tail at is le has some Unsaved lt h = both (tail_there e at) is h.is.outside some
  in_tail at is le has some Epilogue lt h = absurd (omega (arith, lt))
  in_tail at is le has some Decode lt h = early at le has Decode (omega arith) h
  in_tail at is le has some Chain lt h = early at le has Chain (omega arith) h
  in_tail at is le has some Codes lt h = early at le has Codes (omega arith) h
  in_tail at is le has some Prologue lt h = early at le has Prologue (omega arith) h

  -- ---- the first fault of a body is at the first boundary

  one_or_more : (at : ℕ) (x : FetchedInstr) (is : List Instr) → fetched_at m at ≡ Some x
      → at + x.size ≤ e.to → tail_there e at ≡ Some is → length is ≡ (length is - 1) + 1
  one_or_more at x is there inside some =
      let l = good.low in
      let s = tail_step i.frame_register m at x is (omega (arith, l, inside)) there some in
      let n = ap length s.all in
      omega (arith, n)

  pub body_first : (xs : List FetchedInstr) (at : ℕ) (loaded : List ℕ) (left : ℕ) → mid ≤ at
      → Passed e at loaded left → HasItems m at xs stop → (ys : List FetchedInstr) (b : ℕ)
      → HasItems m at ys b → b < e.to → (r : Rule) → Fails e b r
      → IsBefore (body_from m i whole xs at loaded left) b r
  body_first [] at loaded left le p h ys b g lt r fails = go whole refl
    where
      go : (w : Bool) → whole ≡ w → IsBefore (unless w at Decode) b r
      go true w = let f = good.full w in let rise = items_rise m at ys b g in let z : at
          ≡ stop = h in
          absurd (omega (arith, f, rise, z, lt))
      go false w = is_first e at Decode b r (items_rise m at ys b g)
          (λ r l z. absurd (omega (arith, l))) fails
  body_first (x ∷ xs) at loaded (suc k) le p h ys b g lt r fails =
      let rise = items_rise m (at + x.size) xs stop h.2 in
      let most = good.most in
      let inside : at + x.size ≤ e.to = omega (arith, rise, most) in
      elim (here_or_next at x h.0 ys b g) [
        | inl eq ↦ absurd (clean at loaded (suc k) (omega arith) le
            (has_instr at x le h.0 h.1 inside) p r (subst (λ q. Fails e q r) (sym eq) fails))
        | inr more ↦ body_first xs (at + x.size) [] k (omega (arith, le))
            (in_epilogue e stop whole good at loaded (suc k) k x
            (omega arith) h.0 h.1 inside p) h.2 more.left b more.items
            lt r fails
      ]
  body_first (x ∷ xs) at loaded zero le p h ys b g lt r fails = go (tail_there e at) refl
      (λ rs n q w. body_first xs (at + x.size) rs n (omega
      (arith, le)) q h.2 w.left b w.items lt r fails)
    where
      inside : at + x.size ≤ e.to
      inside =
          let rise = items_rise m (at + x.size) xs stop h.2 in
          let most = good.most in
          omega (arith, rise, most)

      has : HasInstr e at
      has = has_instr at x le h.0 h.1 inside

      up : at ≤ b
      up = items_rise m at ys b g

      first : (rule : Rule) → ((r : Rule) → place_of r < place_of rule → Fails e at r → ⊥)
          → IsBefore (fault at rule) b r
      first rule none = is_first e at rule b r up none fails

      passing : (rs : List ℕ) (n : ℕ) → ((r : Rule) → Fails e at r → ⊥)
          → Passed e (at + x.size) rs n
          → ((rs : List ℕ) (n : ℕ) → Passed e (at + x.size) rs n → Beyond m (at + x.size) b
          → IsBefore (body_from m i whole xs (at + x.size) rs n) b r)
          → IsBefore (body_from m i whole xs (at + x.size) rs n) b r
      passing rs n none q more = elim (here_or_next at x h.0 ys b g) [
        | inl eq ↦ absurd (none r (subst (λ q. Fails e q r) (sym eq) fails))
        | inr w ↦ more rs n q w
      ]

      loads : List ℕ
      loads = with_restored loaded (restored_by i.frame_register i.frame_offset ops x.instr)

      by_writes : (a c : Bool) → tail_there e at ≡ None
          → keeps_stack i.frame_register (written x.instr) ≡ a
          → keeps_saved ops (written x.instr) ≡ c
          → ((rs : List ℕ) (n : ℕ) → Passed e (at + x.size) rs n → Beyond m (at + x.size) b
          → IsBefore (body_from m i whole xs (at + x.size) rs n) b r)
          → IsBefore (or_next (or_next (unless a at StackWrite) (unless c at Unsaved))
          (body_from m i whole xs (at + x.size) loads 0)) b r
      by_writes false c none ea ec more = first StackWrite (no_stack_write at x le has h.0)
      by_writes true false none ea ec more = first Unsaved (no_unsaved at x le has h.0 ea)
      by_writes true true none ea ec more = passing loads 0 (nothing at x le has h.0 none ea ec)
          (outside e stop whole good at loaded x h.0 h.1 none p) more

      by_own : (is : List Instr) (a : Bool) → tail_there e at ≡ Some is
          → is_own i.frame_register i.frame_offset ops loaded (x ∷ xs) is ≡ a
          → ((rs : List ℕ) (n : ℕ) → Passed e (at + x.size) rs n → Beyond m (at + x.size) b
          → IsBefore (body_from m i whole xs (at + x.size) rs n) b r)
          → IsBefore (or_next (unless a at Epilogue)
          (body_from m i whole xs (at + x.size) [] (length is - 1))) b r
      by_own is false some ea more = first Epilogue (in_tail at is le has some)
      by_own is true some ea more =
          let n = one_or_more at x is h.0 inside some in
          let q = opened e stop whole good at loaded x xs is some ea h p in
          passing [] (length is - 1) (clean at loaded (length is) (omega (arith, n)) le has q)
          (in_epilogue e stop whole good at loaded (length is)
          (length is - 1) x n h.0 h.1 inside q) more

      go : (o : Option (List Instr)) → tail_there e at ≡ o
          → ((rs : List ℕ) (n : ℕ) → Passed e (at + x.size) rs n → Beyond m (at + x.size) b
          → IsBefore (body_from m i whole xs (at + x.size) rs n) b r)
          → IsBefore (by_tail i (body_from m i whole xs) at loaded x xs o) b r
      go None none more = by_writes (keeps_stack i.frame_register (written x.instr))
          (keeps_saved ops (written x.instr)) none refl refl more
      go (Some is) some more = by_own is
          (is_own i.frame_register i.frame_offset ops loaded (x ∷ xs) is) some refl more

  -- ---- and its rule fails there

  pub body_fails : (xs : List FetchedInstr) (at : ℕ) (loaded : List ℕ) (left : ℕ) → mid ≤ at
      → Passed e at loaded left → HasItems m at xs stop → (f : Fault)
      → body_from m i whole xs at loaded left ≡ Some f → Fails e f.at f.rule
  body_fails [] at loaded left le p h f is = go whole is
    where
      go : (w : Bool) → unless w at Decode ≡ Some f → Fails e f.at f.rule
      go true q = absurd cc
      go false q = fault_fails e at Decode f q (inl (λ has.
          good.none (record {
            item = has.item;
            there = subst (λ k. fetched_at m k ≡ Some has.item) h has.there;
            sized = has.sized;
            inside = subst (λ k. k + has.item.size ≤ e.to) h has.inside;
          })))
  body_fails (x ∷ xs) at loaded (suc k) le p h f is =
      let rise = items_rise m (at + x.size) xs stop h.2 in
      let most = good.most in
      let inside : at + x.size ≤ e.to = omega (arith, rise, most) in
      body_fails xs (at + x.size) [] k (omega (arith, le))
      (in_epilogue e stop whole good at loaded (suc k) k x (omega arith) h.0 h.1 inside p) h.2 f is
  body_fails (x ∷ xs) at loaded zero le p h f is = go (tail_there e at) refl is
      (λ rs n q w. body_fails xs (at + x.size) rs n (omega (arith, le)) q h.2 f w)
    where
      inside : at + x.size ≤ e.to
      inside =
          let rise = items_rise m (at + x.size) xs stop h.2 in
          let most = good.most in
          omega (arith, rise, most)

      loads : List ℕ
      loads = with_restored loaded (restored_by i.frame_register i.frame_offset ops x.instr)

      by_writes : (a c : Bool) → tail_there e at ≡ None
          → keeps_stack i.frame_register (written x.instr) ≡ a
          → keeps_saved ops (written x.instr) ≡ c
          → or_next (or_next (unless a at StackWrite) (unless c at Unsaved))
          (body_from m i whole xs (at + x.size) loads 0) ≡ Some f
          → ((rs : List ℕ) (n : ℕ) → Passed e (at + x.size) rs n
          → body_from m i whole xs (at + x.size) rs n ≡ Some f → Fails e f.at f.rule)
          → Fails e f.at f.rule
      by_writes false c none ea ec q more = fault_fails e at StackWrite f q
          (record { item = x; is = record { there = h.0; past = le; outside = none }; writes = ea })
      by_writes true false none ea ec q more = fault_fails e at Unsaved f q
          (record { item = x; is = record { there = h.0; past = le; outside = none }; writes = ec })
      by_writes true true none ea ec q more = more loads 0
          (outside e stop whole good at loaded x h.0 h.1 none p) q

      by_own : (is : List Instr) (a : Bool) → tail_there e at ≡ Some is
          → is_own i.frame_register i.frame_offset ops loaded (x ∷ xs) is ≡ a
          → or_next (unless a at Epilogue)
          (body_from m i whole xs (at + x.size) [] (length is - 1)) ≡ Some f
          → ((rs : List ℕ) (n : ℕ) → Passed e (at + x.size) rs n
          → body_from m i whole xs (at + x.size) rs n ≡ Some f → Fails e f.at f.rule)
          → Fails e f.at f.rule
      by_own is false some ea q more = fault_fails e at Epilogue f q (record {
        past = le;
        rest = is;
        there = some;
        other = not_own e stop whole good at loaded x xs is some ea h p;
      })
      by_own is true some ea q more =
          let n = one_or_more at x is h.0 inside some in
          more [] (length is - 1) (in_epilogue e stop whole good at loaded (length is)
          (length is - 1) x n h.0 h.1 inside
          (opened e stop whole good at loaded x xs is some ea h p)) q

      go : (o : Option (List Instr)) → tail_there e at ≡ o
          → by_tail i (body_from m i whole xs) at loaded x xs o ≡ Some f
          → ((rs : List ℕ) (n : ℕ) → Passed e (at + x.size) rs n
          → body_from m i whole xs (at + x.size) rs n ≡ Some f → Fails e f.at f.rule)
          → Fails e f.at f.rule
      go None none q more = by_writes (keeps_stack i.frame_register (written x.instr))
          (keeps_saved ops (written x.instr)) none refl refl q more
      go (Some is) some q more = by_own is
          (is_own i.frame_register i.frame_offset ops loaded (x ∷ xs) is) some refl q more
