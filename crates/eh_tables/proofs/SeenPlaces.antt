-- Runs of places, and the records that have them.
use Rattle.std.proofs.Common.{◌≡◌, ℕ, ◌+◌, ◌-◌, ◌/◌, ◌^◌, ◌<◌, ◌≤◌, ◌⊎◌, ◌≢◌, true, false, Some, None, Option, cond, min, max, sym, ap, ◌∙◌, arith, inl, inr}
use Rattle.std.specs.Ordering.{nat_cmp, is_eq}
use Rattle.std.specs.declared.cmp.Ordering.TheVariants.{Less, Equal, Greater}
use Rattle.std.specs.Cmp.{nat_cmp_is}
use Rattle.std.specs.BTreeMap.{BTreeMap, get, is_at}
use Rattle.std.proofs.lemmas.Bool.{cases_eq, cases_lt, cases_order}
use Rattle.eh_tables.specs.declared.seen_records.SeenRecords.{SeenRecords}
use Rattle.eh_tables.specs.SeenRecords.{place, InRun, WasSeen, IsRecordOf}

-- ---- keys

here : (k q : ℕ) → q ≡ k → is_at (nat_cmp k) q ≡ true
here k q e = ap is_eq (sym (nat_cmp_is k q Equal (sym e)))

elsewhere : (k q : ℕ) → q ≢ k → is_at (nat_cmp k) q ≡ false
elsewhere k q n = elim (cases_order k q) [
  | inl e ↦ absurd (n (sym e))
  | inr h ↦ elim h [
    | inl lt ↦ ap is_eq (sym (nat_cmp_is k q Less lt))
    | inr gt ↦ ap is_eq (sym (nat_cmp_is k q Greater gt))
  ]
]

-- ---- places

pub record_of : (rva count at : ℕ) → rva / 16 + count < 2 ^ 60 → at < 2 ^ 64 → place rva ≤ place at
    → place at < place rva + count → IsRecordOf rva count at
record_of rva count at fits small from to = record {
  row = place at - place rva;
  within = omega arith;
  is = omega arith;
}

-- ---- runs

none : {X : Type 0} (x : ℕ) → (let o : Option ℕ = None in o) ≡ Some x → X
none x h = absurd cc

-- without one of them
pub in_other : (old new : BTreeMap ℕ ℕ) (k p : ℕ)
    → ((q : ℕ) → get nat_cmp new q ≡ cond (is_at (nat_cmp k) q) None (get nat_cmp old q))
    → InRun new p → InRun old p
in_other old new k p has r = elim (cases_eq r.from k) [
  | inl same ↦ none r.to (sym (has r.from ∙ ap (λ b. cond b None (get nat_cmp old r.from))
      (here k r.from same)) ∙ r.run)
  | inr other ↦ record {
    from = r.from;
    to = r.to;
    run = sym (has r.from ∙ ap (λ b. cond b None (get nat_cmp old r.from))
        (elsewhere k r.from other)) ∙ r.run;
    begun = r.begun;
    goes_on = r.goes_on;
  }
]

-- with one more
pub in_more : (old new : BTreeMap ℕ ℕ) (k x p : ℕ)
    → ((q : ℕ) → get nat_cmp new q ≡ cond (is_at (nat_cmp k) q) (Some x) (get nat_cmp old q))
    → InRun new p → InRun old p ⊎ ((k ≤ p) × (p < x))
in_more old new k x p has r = elim (cases_eq r.from k) [
  | inl same ↦
      let there : Some x ≡ Some r.to = sym (has r.from
      ∙ ap (λ b. cond b (Some x) (get nat_cmp old r.from)) (here k r.from same)) ∙ r.run in
      let end : x ≡ r.to = cc in
      let from = r.begun in
      let to = r.goes_on in
      inr (omega arith, omega arith)
  | inr other ↦ inl (record {
    from = r.from;
    to = r.to;
    run = sym (has r.from ∙ ap (λ b. cond b (Some x) (get nat_cmp old r.from))
        (elsewhere k r.from other)) ∙ r.run;
    begun = r.begun;
    goes_on = r.goes_on;
  })
]

-- ---- runs that are joined

-- each place of a run is that of a record that is added, or was in a run
abbrev pub AreJoined : BTreeMap ℕ ℕ → ℕ → ℕ → ℕ → ℕ → Type 0
AreJoined runs begin end first last =
    (p : ℕ) → first ≤ p → p < last → InRun runs p ⊎ ((begin ≤ p) × (p < end))

pub one_joined : (old now : BTreeMap ℕ ℕ) (begin end first last from to low high : ℕ)
    → ((p : ℕ) → InRun now p → InRun old p) → AreJoined old begin end first last
    → get nat_cmp now from ≡ Some to → from ≤ end → begin ≤ to → first ≤ begin → end ≤ last
    → low ≡ min first from → high ≡ max last to → AreJoined old begin end low high
one_joined old now begin end first last from to low high kept before run f t g h is_low is_high p
    le lt = elim (cases_lt p from) [
      | inl less ↦ before p (omega arith) (omega arith)
      | inr ge ↦ elim (cases_lt p to) [
        | inl inside ↦ inl (kept p (record {
          from = from;
          to = to;
          run = run;
          begun = ge;
          goes_on = inside;
        }))
        | inr past ↦ before p (omega arith) (omega arith)
      ]
    ]

module _ (old new : SeenRecords) (now : BTreeMap ℕ ℕ) (rva count begin first last : ℕ)
    (fits : rva / 16 + count < 2 ^ 60) (is : begin ≡ place rva)
    (kept : (p : ℕ) → InRun now p → InRun old.runs p)
    (joined : AreJoined old.runs begin (begin + count) first last)
    (has : (q : ℕ) → get nat_cmp new.runs q
    ≡ cond (is_at (nat_cmp first) q) (Some last) (get nat_cmp now q)) where
  pub added : (at : ℕ) → WasSeen new at → WasSeen old at ⊎ IsRecordOf rva count at
  added at seen = elim (in_more now new.runs first last (place at) has seen.in_run) [
    | inl r ↦ inl (record { fits = seen.fits; in_run = kept (place at) r })
    | inr here ↦ elim (joined (place at) here.0 here.1) [
      | inl r ↦ inl (record { fits = seen.fits; in_run = r })
      | inr both ↦
          let small = seen.fits in
          inr (record_of rva count at fits small (omega (arith, both.0))
          (omega (arith, both.1)))
    ]
  ]
