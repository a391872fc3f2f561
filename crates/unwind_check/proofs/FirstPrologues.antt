-- The first fault of a prologue.
use Rattle.std.proofs.Common.{◌≡◌, ◌⊎◌, ℕ, zero, suc, ◌+◌, ◌<◌, ◌≤◌, Bool, true, false, ◌&&◌, eqb, ltb, leb, List, [], ◌∷◌, Option, Some, None, refl, sym, ap, subst, ◌∙◌, arith, inl, inr}
use Rattle.std.proofs.lemmas.Bool.{false≢true, and_from, eqb-true, lt-ltb, le-leb}
use Rattle.flat_memory.specs.Memory.{Memory}
use Rattle.eh_tables.specs.declared.code.UnwindCode.{UnwindCode}
use Rattle.virtual_unwind.specs.Tail.{FetchedInstr, fetched_at}
use Rattle.frame_rules.specs.States.{HasItems}
use Rattle.frame_rules.specs.Validated.{turned, fits}
use Rattle.frame_rules.proofs.Tails.{items_rise}
use Rattle.unwind_check.specs.declared.rule.Rule.TheVariants.{Decode, Prologue}
use Rattle.unwind_check.specs.declared.rule.Fault.{Fault}
use Rattle.unwind_check.specs.Boundaries.{fault, unless}
use Rattle.unwind_tails.specs.Instructions.{Decoded, if_inside, from_item, or_end, decoded}
use Rattle.unwind_check.specs.Prologues.{Site, is_probed, cont, by_three, prologue_from, is_call_of}
use Rattle.unwind_check.specs.Faults.{prologue_of, site}
use Rattle.unwind_check.specs.FailingRules.{CodeEntry, prologue_instrs, Leads, here, past_one, past_three, AreOther, HasOtherInstr, LacksInstr}
use Rattle.unwind_check.proofs.Boundaries.{ends_at}
use Rattle.unwind_check.proofs.Reached.{StandsAt, one_there}
use Rattle.std.proofs.lemmas.Bool.{and_parts}

-- ---- where decoding stops no instruction stands

pub none_at_stop : (n : ℕ) (m : Memory) (at to stop : ℕ) → to ≤ at + n
    → HasItems m at (decoded n m at to).items stop → StandsAt m stop to → ⊥
unfolding decoded
none_at_stop zero m at to stop le h s =
    let z : at ≡ stop = h in
    let a = s.sized in
    let b = s.inside in
    absurd (omega (arith, z, a, b, le))
none_at_stop (suc n) m at to stop le h s = by_end
    (λ k g q. none_at_stop n m k to stop g q s) (eqb at to) refl h
  where
    others : ℕ → Decoded
    others k = decoded n m k to

    inside : ((k : ℕ) → to ≤ k + n → HasItems m k (others k).items stop → ⊥) → (x : FetchedInstr)
        → fetched_at m at ≡ Some x → (b : Bool) → (ltb 0 x.size && leb (at + x.size) to) ≡ b
        → HasItems m at (if_inside others at x b).items stop → ⊥
    inside more x e true t g = let p = g.1 in more (at + x.size) (omega (arith, p, le)) g.2
    inside more x e false t g =
        let z : at ≡ stop = g in
        let same : s.item ≡ x = one_there m at s.item x
        (subst (λ k. fetched_at m k ≡ Some s.item) (sym z) s.there) e in
        let a = subst (λ (y : FetchedInstr). 0 < y.size) same s.sized in
        let b = subst (λ (y : FetchedInstr). stop + y.size ≤ to) same s.inside in
        false≢true (sym t ∙ and_from (ltb 0 x.size) (leb (at + x.size) to) (lt-ltb 0 x.size a)
        (le-leb (at + x.size) to (omega (arith, b, z))))

    none : (o : Option FetchedInstr) → o ≡ None → o ≡ Some s.item → ⊥
    none o a b = absurd cc

    by_item : ((k : ℕ) → to ≤ k + n → HasItems m k (others k).items stop → ⊥)
        → (o : Option FetchedInstr) → fetched_at m at ≡ o
        → HasItems m at (from_item others at to o).items stop → ⊥
    by_item more None e g =
        let z : at ≡ stop = g in
        none (fetched_at m at) e (subst (λ k. fetched_at m k ≡ Some s.item) (sym z) s.there)
    by_item more (Some x) e g = inside more x e (ltb 0 x.size && leb (at + x.size) to) refl g

    by_end : ((k : ℕ) → to ≤ k + n → HasItems m k (others k).items stop → ⊥) → (b : Bool)
        → eqb at to ≡ b
        → HasItems m at (or_end (from_item others at to (fetched_at m at)) b).items stop → ⊥
    by_end more true e g =
        let z : at ≡ stop = g in
        let y = eqb-true at to e in
        let a = s.sized in
        let b = s.inside in
        absurd (omega (arith, z, y, a, b))
    by_end more false e g = by_item more (fetched_at m at) refl g

-- ---- what codes and instructions lead to

leads_on : (s : Site) (w : Bool) (d : ℕ) (cs : List UnwindCode) (xs : List FetchedInstr) (k : ℕ)
    (ds : List UnwindCode) (ys : List FetchedInstr) → Leads s d cs xs k ds ys
    → prologue_from s w d cs xs ≡ prologue_from s w k ds ys
leads_on s w d cs xs k ds ys here = refl
leads_on s w d (c ∷ cs) (x ∷ xs) k ds ys (past_one fit more) =
    ap (λ b. cont (prologue_from s w c.offset cs xs) b
    (by_three s (prologue_from s w c.offset cs) d c (x ∷ xs))) fit
    ∙ leads_on s w c.offset cs xs k ds ys more
leads_on s w d (c ∷ cs) (x ∷ y ∷ z ∷ xs) k ds ys (past_three miss probed more) =
    ap (λ b. cont (prologue_from s w c.offset cs (y ∷ z ∷ xs)) b
    (by_three s (prologue_from s w c.offset cs) d c (x ∷ y ∷ z ∷ xs))) miss
    ∙ ap (λ b. cont (prologue_from s w c.offset cs xs) b (fault (s.begin + d) Prologue)) probed
    ∙ leads_on s w c.offset cs xs k ds ys more

other_is : (s : Site) (w : Bool) (d : ℕ) (cs : List UnwindCode) (x : FetchedInstr)
    (xs : List FetchedInstr) → AreOther s d cs (x ∷ xs)
    → prologue_from s w d cs (x ∷ xs) ≡ fault (s.begin + d) Prologue
other_is s w d [] x xs o = refl
other_is s w d (c ∷ cs) x [] o = ap (λ b. cont (prologue_from s w c.offset cs []) b
    (by_three s (prologue_from s w c.offset cs) d c (x ∷ []))) o
other_is s w d (c ∷ cs) x (y ∷ []) o = ap (λ b. cont (prologue_from s w c.offset cs (y ∷ [])) b
    (by_three s (prologue_from s w c.offset cs) d c (x ∷ y ∷ []))) o
other_is s w d (c ∷ cs) x (y ∷ z ∷ zs) o =
    ap (λ b. cont (prologue_from s w c.offset cs (y ∷ z ∷ zs)) b
    (by_three s (prologue_from s w c.offset cs) d c (x ∷ y ∷ z ∷ zs))) o.0
    ∙ ap (λ b. cont (prologue_from s w c.offset cs zs) b (fault (s.begin + d) Prologue)) o.1

same_fault : (x y : Fault) → Some x ≡ Some y → x ≡ y
same_fault x y e = cc

module _ (e : CodeEntry) where
  abbrev s : Site
  s = site e.memory e.probe e.begin e.info

  abbrev codes : List UnwindCode
  codes = turned [] e.info.codes

  abbrev xs : List FetchedInstr
  xs = prologue_instrs e

  abbrev w : Bool
  w = (prologue_of e.memory e.begin e.to e.info).is_whole

  -- the fault of the prologue
  abbrev pub prologue_answer : Option Fault
  prologue_answer = prologue_from s w 0 codes xs

  pub other_fault : (at : ℕ) → HasOtherInstr e at → prologue_answer ≡ fault at Prologue
  other_fault at h = leads_on s w 0 codes xs h.distance h.codes (h.item ∷ h.left) h.leads
      ∙ other_is s w h.distance h.codes h.item h.left h.other
      ∙ ap (λ k. fault k Prologue) (sym h.place)

  pub lacks_fault : LacksInstr e → prologue_answer ≡ fault e.begin Prologue
  lacks_fault h = leads_on s w 0 codes xs h.distance (h.code ∷ h.codes) [] h.leads

  -- ---- which fault it is

  -- a code has no instruction; an instruction isn't what its code says; or decoding stops
  abbrev pub IsKind : ℕ → Fault → Type 0
  IsKind stop f =
      ((f ≡ record { at = e.begin; rule = Prologue }) × LacksInstr e)
      ⊎ (((f.rule ≡ Prologue) × (HasOtherInstr e f.at × (f.at < stop)))
      ⊎ ((f.rule ≡ Decode) × ((w ≡ false) × (f.at ≡ stop))))

  other_kind : (stop : ℕ) (f : Fault) (d : ℕ) (cs : List UnwindCode) (y : FetchedInstr)
      (ys : List FetchedInstr) → HasItems e.memory (e.begin + d) (y ∷ ys) stop
      → Leads s 0 codes xs d cs (y ∷ ys) → AreOther s d cs (y ∷ ys)
      → fault (e.begin + d) Prologue ≡ Some f → IsKind stop f
  other_kind stop f d cs y ys h leads other is =
      let same = same_fault (record { at = e.begin + d; rule = Prologue }) f is in
      let rise = items_rise e.memory (e.begin + d + y.size) ys stop h.2 in
      let pos = h.1 in
      let o : HasOtherInstr e (e.begin + d) = record {
        distance = d;
        codes = cs;
        item = y;
        left = ys;
        leads = leads;
        place = refl;
        other = other;
      } in
      let lt : e.begin + d < stop = omega (arith, rise, pos) in
      inr (inl (
        sym (ap (λ (z : Fault). z.rule) same),
        (
          subst (λ (z : Fault). HasOtherInstr e z.at) same o,
          subst (λ (z : Fault). z.at < stop) same lt,
        ),
      ))

  pub kind : (stop : ℕ) (f : Fault) (d : ℕ) (cs : List UnwindCode) (ys : List FetchedInstr)
      → HasItems e.memory (e.begin + d) ys stop
      → ((k : ℕ) (ds : List UnwindCode) (zs : List FetchedInstr) → Leads s d cs ys k ds zs
      → Leads s 0 codes xs k ds zs)
      → prologue_from s w d cs ys ≡ Some f → IsKind stop f
  kind stop f d [] [] h on is = go w refl is
    where
      go : (b : Bool) → w ≡ b → unless b (e.begin + d) Decode ≡ Some f → IsKind stop f
      go true q g = absurd cc
      go false q g =
          let same = same_fault (record { at = e.begin + d; rule = Decode }) f g in
          inr (inr (
            sym (ap (λ (z : Fault). z.rule) same),
            (q, sym (ap (λ (z : Fault). z.at) same) ∙ h),
          ))
  kind stop f d [] (y ∷ ys) h on is = other_kind stop f d [] y ys h (on d [] (y ∷ ys) here) tt is
  kind stop f d (c ∷ cs) [] h on is = inl (
    sym (same_fault (record { at = e.begin; rule = Prologue }) f is),
    record { distance = d; code = c; codes = cs; leads = on d (c ∷ cs) [] here },
  )
  kind stop f d (c ∷ cs) (y ∷ ys) h on is = first
      (λ zs g k. kind stop f c.offset cs zs g k) (fits s.frame_register s.frame_offset d c (y ∷ []))
      refl is
    where
      third : (y2 y3 : FetchedInstr) (zs : List FetchedInstr)
          → HasItems e.memory (e.begin + d) (y ∷ y2 ∷ y3 ∷ zs) stop
          → is_probed s d c y y2 y3 ≡ true → HasItems e.memory (e.begin + c.offset) zs stop
      third y2 y3 zs g t =
          let fit = (and_parts (fits s.frame_register s.frame_offset d c (y ∷ y2 ∷ y3 ∷ []))
          (is_call_of s.memory s.probe (s.begin + d + y.size + y2.size) y2.instr) t).0 in
          let end = ends_at s.frame_register s.frame_offset d c (y ∷ y2 ∷ y3 ∷ []) fit in
          let at : e.begin + d + y.size + y2.size + y3.size ≡ e.begin + c.offset = omega arith in
          subst (λ a. HasItems e.memory a zs stop) at g.2.2.2

      second : (ys : List FetchedInstr) → HasItems e.memory (e.begin + d) (y ∷ ys) stop
          → ((k : ℕ) (ds : List UnwindCode) (zs : List FetchedInstr)
          → Leads s d (c ∷ cs) (y ∷ ys) k ds zs → Leads s 0 codes xs k ds zs)
          → fits s.frame_register s.frame_offset d c (y ∷ []) ≡ false
          → by_three s (prologue_from s w c.offset cs) d c (y ∷ ys) ≡ Some f
          → ((zs : List FetchedInstr) → HasItems e.memory (e.begin + c.offset) zs stop
          → ((k : ℕ) (ds : List UnwindCode) (vs : List FetchedInstr)
          → Leads s c.offset cs zs k ds vs → Leads s 0 codes xs k ds vs)
          → prologue_from s w c.offset cs zs ≡ Some f → IsKind stop f)
          → IsKind stop f
      second [] g on miss q more =
          other_kind stop f d (c ∷ cs) y [] g (on d (c ∷ cs) (y ∷ []) here) miss q
      second (y2 ∷ []) g on miss q more =
          other_kind stop f d (c ∷ cs) y (y2 ∷ []) g (on d (c ∷ cs) (y ∷ y2 ∷ []) here) miss q
      second (y2 ∷ y3 ∷ zs) g on miss q more = go (is_probed s d c y y2 y3) refl q
        where
          go : (b : Bool) → is_probed s d c y y2 y3 ≡ b
              → cont (prologue_from s w c.offset cs zs) b (fault (s.begin + d) Prologue) ≡ Some f
              → IsKind stop f
          go false t q = other_kind stop f d (c ∷ cs) y (y2 ∷ y3 ∷ zs) g
              (on d (c ∷ cs) (y ∷ y2 ∷ y3 ∷ zs) here) (miss, t) q
          go true t q = more zs (third y2 y3 zs g t) (λ k ds vs l. on k ds vs
              (past_three miss t l)) q

      first : ((zs : List FetchedInstr) → HasItems e.memory (e.begin + c.offset) zs stop
          → ((k : ℕ) (ds : List UnwindCode) (vs : List FetchedInstr)
          → Leads s c.offset cs zs k ds vs → Leads s 0 codes xs k ds vs)
          → prologue_from s w c.offset cs zs ≡ Some f → IsKind stop f)
          → (b : Bool) → fits s.frame_register s.frame_offset d c (y ∷ []) ≡ b
          → cont (prologue_from s w c.offset cs ys) b
          (by_three s (prologue_from s w c.offset cs) d c (y ∷ ys)) ≡ Some f → IsKind stop f
      first more true t q =
          let end = ends_at s.frame_register s.frame_offset d c (y ∷ []) t in
          let at : e.begin + d + y.size ≡ e.begin + c.offset = omega arith in
          more ys (subst (λ a. HasItems e.memory a ys stop) at h.2)
          (λ k ds vs l. on k ds vs (past_one t l)) q
      first more false t q = second ys h on t q more
