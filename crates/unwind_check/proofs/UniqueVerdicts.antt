-- At most one verdict is that of the entries of a table.
use Rattle.std.proofs.Common.{◌≡◌, ℕ, zero, suc, List, [], ◌∷◌, ◌++◌, length, refl, sym, ap, subst, ◌∙◌, arith, inl, inr}
use Rattle.std.specs.Prelude.{All}
use Rattle.std.proofs.lemmas.List.Elements.{All-head, All-tail}
use Rattle.eh_tables.specs.Tables.{Entry}
use Rattle.unwind_check.specs.declared.rule.Rule.{Rule}
use Rattle.unwind_check.specs.declared.rule.Rule.TheVariants.{Decode, Chain, Codes, Prologue, StackWrite, Unsaved, Epilogue}
use Rattle.unwind_check.specs.declared.rule.Fault.{Fault}
use Rattle.unwind_check.specs.declared.rule.Verdict.{Verdict}
use Rattle.unwind_check.specs.declared.rule.Verdict.TheVariants.{Yes, No}
use Rattle.unwind_check.specs.FailingRules.{CodeEntry, place_of, IsLeastFault}
use Rattle.unwind_check.specs.Verdicts.{ImageCode, entry_in, IsKept, VerdictsAreUnique}

-- ---- one fault is the least

abbrev rule_at : ℕ → Rule
rule_at zero = Decode
rule_at (suc zero) = Chain
rule_at (suc (suc zero)) = Codes
rule_at (suc (suc (suc zero))) = Prologue
rule_at (suc (suc (suc (suc zero)))) = StackWrite
rule_at (suc (suc (suc (suc (suc zero))))) = Unsaved
rule_at (suc (suc (suc (suc (suc (suc k)))))) = Epilogue

at_place : (r : Rule) → rule_at (place_of r) ≡ r
at_place Decode = refl
at_place Chain = refl
at_place Codes = refl
at_place Prologue = refl
at_place StackWrite = refl
at_place Unsaved = refl
at_place Epilogue = refl

same_rule : (r s : Rule) → place_of r ≡ place_of s → r ≡ s
same_rule r s e = sym (at_place r) ∙ ap rule_at e ∙ at_place s

same_fault : (f g : Fault) → f.at ≡ g.at → f.rule ≡ g.rule → f ≡ g
same_fault f g a r =
    ap (λ k. let x : Fault = record { at = k; rule = f.rule } in x) a
    ∙ ap (λ (q : Rule). let x : Fault = record { at = g.at; rule = q } in x) r

pub one_least : (e : CodeEntry) (f g : Fault) → IsLeastFault e f → IsLeastFault e g → f ≡ g
one_least e f g h k = elim (h.first g.at g.rule k.boundary k.fails) [
  | inl below ↦ elim (k.first f.at f.rule h.boundary h.fails) [
    | inl above ↦ absurd (omega (arith, below, above))
    | inr same ↦ let s = same.0 in absurd (omega (arith, below, s))
  ]
  | inr same ↦ elim (k.first f.at f.rule h.boundary h.fails) [
    | inl above ↦ let s = same.0 in absurd (omega (arith, above, s))
    | inr back ↦
        let a = same.1 in
        let b = back.1 in
        same_fault f g same.0 (same_rule f.rule g.rule (omega (arith, a, b)))
  ]
]

-- ---- one entry is the first

kept_there : (c : ImageCode) (before : List Entry) (e : Entry) (after : List Entry)
    → All (IsKept c) (before ++ (e ∷ after)) → IsKept c e
kept_there c [] e after all = All-head (IsKept c) e after all
kept_there c (x ∷ before) e after all = kept_there c before e after
    (All-tail (IsKept c) x (before ++ (e ∷ after)) all)

not_both : (c : ImageCode) (e : Entry) (f : Fault) → IsKept c e → IsLeastFault (entry_in c e) f → ⊥
not_both c e f kept least = kept.rules f.at f.rule least.boundary least.fails

head_of : (x y : Entry) (xs ys : List Entry) → x ∷ xs ≡ y ∷ ys → x ≡ y
head_of x y xs ys e = cc

tail_of : (x y : Entry) (xs ys : List Entry) → x ∷ xs ≡ y ∷ ys → xs ≡ ys
tail_of x y xs ys e = cc

one_first : (c : ImageCode) (b d : List Entry) (x y : Entry) (a k : List Entry) (f g : Fault)
    → b ++ (x ∷ a) ≡ d ++ (y ∷ k) → All (IsKept c) b → All (IsKept c) d
    → IsLeastFault (entry_in c x) f → IsLeastFault (entry_in c y) g
    → (length b ≡ length d) × (f ≡ g)
one_first c [] [] x y a k f g e p q h l =
    let same = head_of x y a k e in (
      refl,
      one_least (entry_in c y) f g
          (subst (λ (z : Entry). IsLeastFault (entry_in c z) f) same h) l,
    )
one_first c [] (w ∷ d) x y a k f g e p q h l =
    let same = head_of x w a (d ++ (y ∷ k)) e in
    absurd (not_both c w f (All-head (IsKept c) w d q)
    (subst (λ (z : Entry). IsLeastFault (entry_in c z) f) same h))
one_first c (w ∷ b) [] x y a k f g e p q h l =
    let same = head_of w y (b ++ (x ∷ a)) k e in
    absurd (not_both c w g (All-head (IsKept c) w b p)
    (subst (λ (z : Entry). IsLeastFault (entry_in c z) g) (sym same) l))
one_first c (w ∷ b) (v ∷ d) x y a k f g e p q h l =
    let r = one_first c b d x y a k f g (tail_of w v (b ++ (x ∷ a)) (d ++ (y ∷ k)) e)
    (All-tail (IsKept c) w b p) (All-tail (IsKept c) v d q) h l in
    let n = r.0 in
    (omega (arith, n), r.1)

pub verdicts_are_unique : VerdictsAreUnique
verdicts_are_unique c es (Yes n) (Yes k) h g =
    ap (λ j. let v : Verdict = Yes j in v) (sym h.1 ∙ g.1)
verdicts_are_unique c es (Yes n) (No k g) h l = absurd (not_both c l.entry g
    (kept_there c l.before l.entry l.after (subst (All (IsKept c)) l.parts h.0)) l.least)
verdicts_are_unique c es (No k f) (Yes n) h l = absurd (not_both c h.entry f
    (kept_there c h.before h.entry h.after (subst (All (IsKept c)) h.parts l.0)) h.least)
verdicts_are_unique c es (No j f) (No k g) h l =
    let r = one_first c h.before l.before h.entry l.entry h.after l.after f g
    (sym h.parts ∙ l.parts) h.kept l.kept h.least l.least in
    ap (λ n. let v : Verdict = No n f in v) (sym h.index ∙ r.0 ∙ l.index)
    ∙ ap (λ (x : Fault). let v : Verdict = No k x in v) r.1
