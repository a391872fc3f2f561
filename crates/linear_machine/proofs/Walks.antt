-- What a search comes to over what waits, and where an unwinding stops.
use Rattle.std.proofs.Common.{◌≡◌, ◌⊎◌, inl, inr, ℕ, suc, ◌<◌, ◌≤◌, List, [], ◌∷◌, ◌++◌, length, refl, ap, sym, ◌∙◌, subst, arith, append_assoc}
use Rattle.std.proofs.lemmas.Bool.{eq-eqb, ne_eqb, lt-ltb, le-ltb, le-leb, lt-leb, and_from, and_left, and_right, or_right, or_from}
use Rattle.std.specs.Prelude.{true, false, ◌||◌, nat_eq, nat_le, nat_lt, Option, Some, None}
use Rattle.linear_machine.specs.Words.{Region, RegionKind, LinearProgram, Handler, Target, Item, Waits, Searches, Unwinds, Store, Configuration, Seen, Next, pick, regions_at, regions_left, holds, handlers_of, handlers_in, handlers, leads_to, stops, arrive, left_store, run_finally, leave_region, unwind_body}
use Rattle.linear_code.specs.declared.program.RegionKind.TheVariants as kinds
use Rattle.linear_machine.proofs.Stretch.{Picked}

pub picked_less : (fs : List Handler) (level : ℕ) (f : Handler) → Picked fs level f
    → level < length fs
picked_less [] level f p = absurd p
picked_less (g ∷ rest) level f (inl p) = let e = p.0 in omega arith
picked_less (g ∷ rest) level f (inr p) = let e = picked_less rest level f p in omega arith

pub picked_at : (pre : List Handler) (f : Handler) (rest : List Handler) (level : ℕ)
    → length rest ≡ level → Picked (pre ++ f ∷ rest) level f
picked_at [] f rest level e = inl (e, refl)
picked_at (g ∷ pre) f rest level e = inr (picked_at pre f rest level e)

-- an `__except` block begins where its region ends
abbrev pub BlockAt : RegionKind → ℕ → Type 0
BlockAt (kinds.Finally k) end = Unit {0}
BlockAt (kinds.Filter k target) end = target ≡ end
BlockAt (kinds.Always target) end = target ≡ end

-- a region holds each place from lo up to hi, and hi too, and its block begins where it ends
pub record IsAround (r : Region) (lo hi : ℕ) : Type 0 where
  pub begin : r.begin ≤ lo
  pub end : hi < r.end
  pub block : BlockAt r.kind r.end

abbrev pub Around : List Region → (lo hi : ℕ) → Type 0
Around [] lo hi = Unit {0}
Around (r ∷ regions) lo hi = IsAround r lo hi × Around regions lo hi

pub around_part : (regions : List Region) (lo hi lo' hi' : ℕ) → lo ≤ lo' → hi' ≤ hi
    → Around regions lo hi → Around regions lo' hi'
around_part [] lo hi lo' hi' a b h = tt
around_part (r ∷ regions) lo hi lo' hi' a b h = let x = h.0 in (
  record { begin = omega arith; end = omega arith; block = h.0.block },
  around_part regions lo hi lo' hi' a b h.1,
)

-- of a frame below the one of this depth, or of that with a block after this place
abbrev pub Inside : (depth hi : ℕ) → Handler → Type 0
Inside depth hi f = (f.depth < depth) ⊎ ((f.depth ≡ depth) × (hi < f.target))

-- an unwinding that leaves this region, in the frame of this depth
abbrev pub Outward : Target → Region → ℕ → Type 0
Outward target r depth = (target.depth < depth)
    ⊎ ((r.end < target.label) ⊎ (target.label < r.begin))

-- a handler is the region's own, or among the others
picked_kind : (kind : RegionKind) (activation depth end : ℕ) (rest : List Handler) (level : ℕ)
    (f : Handler) → BlockAt kind end → Picked (handlers_of kind activation depth ++ rest) level f
    → Picked rest level f ⊎ ((f.depth ≡ depth) × (f.target ≡ end))
picked_kind (kinds.Finally k) activation depth end rest level f block p = inl p
picked_kind (kinds.Filter k target) activation depth end rest level f block (inl p) = subst
    (λ f. Picked rest level f ⊎ ((f.depth ≡ depth) × (f.target ≡ end))) p.1 (inr (refl, block))
picked_kind (kinds.Filter k target) activation depth end rest level f block (inr p) = inl p
picked_kind (kinds.Always target) activation depth end rest level f block (inl p) = subst
    (λ f. Picked rest level f ⊎ ((f.depth ≡ depth) × (f.target ≡ end))) p.1 (inr (refl, block))
picked_kind (kinds.Always target) activation depth end rest level f block (inr p) = inl p

-- the same of its depth alone
picked_depth_of : (kind : RegionKind) (activation depth : ℕ) (rest : List Handler) (level : ℕ)
    (f : Handler) → Picked (handlers_of kind activation depth ++ rest) level f
    → Picked rest level f ⊎ (f.depth ≡ depth)
picked_depth_of (kinds.Finally k) activation depth rest level f p = inl p
picked_depth_of (kinds.Filter k target) activation depth rest level f (inl p) = subst
    (λ f. Picked rest level f ⊎ (f.depth ≡ depth)) p.1 (inr refl)
picked_depth_of (kinds.Filter k target) activation depth rest level f (inr p) = inl p
picked_depth_of (kinds.Always target) activation depth rest level f (inl p) = subst
    (λ f. Picked rest level f ⊎ (f.depth ≡ depth)) p.1 (inr refl)
picked_depth_of (kinds.Always target) activation depth rest level f (inr p) = inl p

regroup : (xs ys zs : List Handler) (level : ℕ) (f : Handler) → Picked ((xs ++ ys) ++ zs) level f
    → Picked (xs ++ (ys ++ zs)) level f
regroup [] ys zs level f p = p
regroup (x ∷ xs) ys zs level f (inl p) = inl (ap length (sym (append_assoc xs ys zs)) ∙ p.0, p.1)
regroup (x ∷ xs) ys zs level f (inr p) = inr (regroup xs ys zs level f p)

inside_by : (r : Region) (depth hi : ℕ) (P : Type 0) (f : Handler) → hi < r.end
    → (P → Inside depth hi f) → P ⊎ ((f.depth ≡ depth) × (f.target ≡ r.end)) → Inside depth hi f
inside_by r depth hi P f b go (inl q) = go q
inside_by r depth hi P f b go (inr q) = let e = q.1 in inr (q.0, omega arith)

picked_in : (regions : List Region) (activation depth lo hi : ℕ) (rest : List Handler) (level : ℕ)
    (f : Handler) → Around regions lo hi → (Picked rest level f → f.depth < depth)
    → Picked (handlers_in regions activation depth ++ rest) level f → Inside depth hi f
picked_in [] activation depth lo hi rest level f around low p = inl (low p)
picked_in (r ∷ regions) activation depth lo hi rest level f around low p =
    inside_by r depth hi (Picked (handlers_in regions activation depth ++ rest) level f) f
    around.0.end (picked_in regions activation depth lo hi rest level f around.1 low)
    (picked_kind r.kind activation depth r.end (handlers_in regions activation depth ++ rest) level
    f around.0.block (regroup (handlers_of r.kind activation depth)
    (handlers_in regions activation depth) rest level f p))

depth_by : (depth : ℕ) (P : Type 0) (f : Handler) → (P → f.depth < suc depth)
    → P ⊎ (f.depth ≡ depth) → f.depth < suc depth
depth_by depth P f go (inl q) = go q
depth_by depth P f go (inr q) = omega arith

picked_depth : (regions : List Region) (activation depth : ℕ) (rest : List Handler) (level : ℕ)
    (f : Handler) → (Picked rest level f → f.depth < depth)
    → Picked (handlers_in regions activation depth ++ rest) level f → f.depth < suc depth
picked_depth [] activation depth rest level f low p = let e = low p in omega arith
picked_depth (r ∷ regions) activation depth rest level f low p =
    depth_by depth (Picked (handlers_in regions activation depth ++ rest) level f) f
    (picked_depth regions activation depth rest level f low)
    (picked_depth_of r.kind activation depth (handlers_in regions activation depth ++ rest) level f
    (regroup (handlers_of r.kind activation depth) (handlers_in regions activation depth) rest
    level f p))

module _ (linear : LinearProgram) where
  pub handlers_below : (items : List Item) (left : Option (List Region)) (level : ℕ) (f : Handler)
      → Picked (handlers linear items left) level f → f.depth < length items
  handlers_below [] left level f p = absurd p
  handlers_below (Waits b ∷ below) left level f p =
      picked_depth (regions_left left (regions_at linear b.body b.next)) b.activation (length below)
      (handlers linear below None) level f (handlers_below below None level f) p
  handlers_below (Searches exception resumption asked ∷ below) left level f p =
      let e = handlers_below below None level f p in omega arith
  handlers_below (Unwinds rest target ∷ below) left level f p = let e = handlers_below below
      (Some rest) level f p in omega arith

  -- what a search comes to from a body with these regions
  pub picked_inside : (regions : List Region) (activation lo hi : ℕ) (below : List Item) (level : ℕ)
      (f : Handler) → Around regions lo hi → Picked
      (handlers_in regions activation (length below) ++ handlers linear below None) level f
      → Inside (length below) hi f
  picked_inside regions activation lo hi below level f around p =
      picked_in regions activation (length below) lo hi (handlers linear below None) level f around
      (handlers_below below None level f) p

-- ---- the stop rule

holds_not : (r : Region) (label : ℕ) → ((r.end < label) ⊎ (label < r.begin)) → holds label r ≡ false
holds_not r label (inl p) = and_right (nat_le r.begin label) (nat_lt label r.end)
    (le-ltb label r.end (omega arith))
holds_not r label (inr p) = and_left (nat_le r.begin label) (nat_lt label r.end)
    (lt-leb r.begin label p)

pub holds_yes : (r : Region) (label : ℕ) → r.begin ≤ label → label < r.end → holds label r ≡ true
holds_yes r label p q = and_from (nat_le r.begin label) (nat_lt label r.end)
    (le-leb r.begin label p) (lt-ltb label r.end q)

-- a region whose block lies at its end doesn't lead to a place before it or after that
leads_not : (kind : RegionKind) (begin end label : ℕ) → BlockAt kind end → begin ≤ end
    → ((end < label) ⊎ (label < begin)) → leads_to kind label ≡ false
leads_not (kinds.Finally k) begin end label block le p = refl
leads_not (kinds.Filter k target) begin end label block le (inl p) = ne_eqb target label
    (λ e. omega arith)
leads_not (kinds.Filter k target) begin end label block le (inr p) = ne_eqb target label
    (λ e. omega arith)
leads_not (kinds.Always target) begin end label block le (inl p) = ne_eqb target label
    (λ e. omega arith)
leads_not (kinds.Always target) begin end label block le (inr p) = ne_eqb target label
    (λ e. omega arith)

pub further : (target : Target) (r : Region) (depth : ℕ) → BlockAt r.kind r.end → r.begin ≤ r.end
    → Outward target r depth → stops target r depth ≡ false
further target r depth block le (inl p) =
    and_left (nat_eq target.depth depth) (holds target.label r || leads_to r.kind target.label)
    (ne_eqb target.depth depth (λ e. omega arith))
further target r depth block le (inr p) =
    and_right (nat_eq target.depth depth) (holds target.label r || leads_to r.kind target.label)
    (or_from (holds target.label r) (leads_to r.kind target.label) (holds_not r target.label p)
    (leads_not r.kind r.begin r.end target.label block le p))

-- the first of these regions, if there is one, stops an unwinding to this place of their frame
abbrev pub FindsRegions : ℕ → List Region → Type 0
FindsRegions label [] = Unit {0}
FindsRegions label (r ∷ regions) = (holds label r || leads_to r.kind label) ≡ true

-- of a `__try` with an `__except`
abbrev pub IsExcept : RegionKind → ℕ → Type 0
IsExcept (kinds.Finally k) target = ⊥
IsExcept (kinds.Filter k label) target = label ≡ target
IsExcept (kinds.Always label) target = label ≡ target

except_leads : (kind : RegionKind) (target : ℕ) → IsExcept kind target → leads_to kind target ≡ true
except_leads (kinds.Finally k) target e = absurd e
except_leads (kinds.Filter k label) target e = eq-eqb label target e
except_leads (kinds.Always label) target e = eq-eqb label target e

-- it stops what goes to its block
pub finds_own : (r : Region) (target : ℕ) (regions : List Region) → IsExcept r.kind target
    → FindsRegions target (r ∷ regions)
finds_own r target regions e = or_right (holds target r) (leads_to r.kind target)
    (except_leads r.kind target e)

pub except_left : (linear : LinearProgram) (next : Next) (target : Target) (kind : RegionKind)
    (label : ℕ) (regions : List Region) (seen : Seen) (c : Configuration) → IsExcept kind label
    → leave_region linear next target kind regions seen c ≡ seen
except_left linear next target (kinds.Finally k) label regions seen c e = absurd e
except_left linear next target (kinds.Filter k l) label regions seen c e = refl
except_left linear next target (kinds.Always l) label regions seen c e = refl

module _ (linear : LinearProgram) where
  pub lands : (next : Next) (target : Target) (out : Store → Seen) (regions : List Region)
      (c : Configuration) → target.depth ≡ length c.below → FindsRegions target.label regions
      → unwind_body linear next target out regions c ≡ arrive target target.code next c
  unfolding pick
  lands next target out [] c d e =
      ap (λ b. pick b (arrive target target.code next c)
      (out (left_store c.frame.body c.frame.activation c.store)))
      (eq-eqb target.depth (length c.below) d)
  lands next target out (r ∷ regions) c d e =
      ap (λ b. pick b (arrive target target.code next c)
      (leave_region linear next target r.kind regions
      (unwind_body linear next target out regions c) c))
      (and_from (nat_eq target.depth (length c.below))
      (holds target.label r || leads_to r.kind target.label)
      (eq-eqb target.depth (length c.below) d) e)

  -- a region that isn't the end is left
  left_following : (next : Next) (target : Target) (out : Store → Seen) (r : Region)
      (regions : List Region) (c : Configuration) → BlockAt r.kind r.end → r.begin ≤ r.end
      → Outward target r (length c.below)
      → unwind_body linear next target out (r ∷ regions) c
      ≡ leave_region linear next target r.kind regions
      (unwind_body linear next target out regions c) c
  unfolding pick
  left_following next target out r regions c block le o =
      ap (λ b. pick b (arrive target target.code next c)
      (leave_region linear next target r.kind regions
      (unwind_body linear next target out regions c) c))
      (further target r (length c.below) block le o)

  pub skips : (next : Next) (target : Target) (out : Store → Seen) (r : Region) (label : ℕ)
      (regions : List Region) (c : Configuration) → IsExcept r.kind label → BlockAt r.kind r.end
      → r.begin ≤ r.end → Outward target r (length c.below)
      → unwind_body linear next target out (r ∷ regions) c
      ≡ unwind_body linear next target out regions c
  skips next target out r label regions c e block le o =
      left_following next target out r regions c block le o
      ∙ except_left linear next target r.kind label regions
      (unwind_body linear next target out regions c) c e

  pub starts : (next : Next) (target : Target) (out : Store → Seen) (begin end k : ℕ)
      (regions : List Region) (c : Configuration) → begin ≤ end
      → Outward target (record { begin = begin; end = end; kind = kinds.Finally k })
      (length c.below)
      → unwind_body linear next target out (record
      { begin = begin; end = end; kind = kinds.Finally k } ∷ regions) c
      ≡ run_finally linear k true target.held (Unwinds regions target ∷ Waits c.frame ∷ c.below)
      next c
  starts next target out begin end k regions c le o = left_following next target out
      (record { begin = begin; end = end; kind = kinds.Finally k }) regions c tt le o

  pub leaves : (next : Next) (target : Target) (out : Store → Seen) (c : Configuration)
      → target.depth < length c.below → unwind_body linear next target out [] c
      ≡ out (left_store c.frame.body c.frame.activation c.store)
  unfolding pick
  leaves next target out c d =
      ap (λ b. pick b (arrive target target.code next c)
      (out (left_store c.frame.body c.frame.activation c.store)))
      (ne_eqb target.depth (length c.below) (λ e. omega arith))
