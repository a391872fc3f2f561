-- A map of numbers after an insertion, key by key.
use Rattle.std.proofs.Common.{◌≡◌, ◌≢◌, ℕ, true, false, cond, Some, ap, sym, ◌∙◌, inl, inr}
use Rattle.std.specs.Ordering.{nat_cmp, is_eq}
use Rattle.std.specs.declared.cmp.Ordering.TheVariants.{Less, Equal, Greater}
use Rattle.std.specs.Cmp.{nat_cmp_is}
use Rattle.std.specs.BTreeMap.{BTreeMap, get, is_at}
use Rattle.std.proofs.lemmas.Bool.{cases_order}

here : (k q : ℕ) → q ≡ k → is_at (nat_cmp k) q ≡ true
here k q e = ap is_eq (sym (nat_cmp_is k q Equal (sym e)))

elsewhere : (k q : ℕ) → q ≢ k → is_at (nat_cmp k) q ≡ false
elsewhere k q n = elim (cases_order k q) [
  | inl e ↦ absurd (n (sym e))
  | inr h ↦ elim h [
    | inl lt ↦ ap is_eq (sym (nat_cmp_is k q Less lt))
    | inr gt ↦ ap is_eq (sym (nat_cmp_is k q Greater gt))
  ]
]

module _ {X : Type 0} (old new : BTreeMap ℕ X) (k : ℕ) (x : X)
    (has : (q : ℕ) → get nat_cmp new q ≡ cond (is_at (nat_cmp k) q) (Some x) (get nat_cmp old q))
  where
    pub at_key : (q : ℕ) → q ≡ k → get nat_cmp new q ≡ Some x
    at_key q e = has q ∙ ap (λ b. cond b (Some x) (get nat_cmp old q)) (here k q e)

    pub off_key : (q : ℕ) → q ≢ k → get nat_cmp new q ≡ get nat_cmp old q
    off_key q n = has q ∙ ap (λ b. cond b (Some x) (get nat_cmp old q)) (elsewhere k q n)
