-- An image has one verdict.
use Rattle.std.proofs.Common.{◌≡◌, ℕ, zero, suc, inl, inr, List, [], ◌∷◌, ◌++◌, length, Ok, refl, sym, ap, subst, ◌∙◌, arith}
use Rattle.std.proofs.lemmas.List.Elements.{All-head, All-tail}
use Rattle.eh_tables.specs.Tables.{Entry, tables}
use Rattle.unwind_check.specs.declared.rule.Rule.{Rule}
use Rattle.unwind_check.specs.declared.rule.Rule.TheVariants.{Decode, Chain, Codes, Prologue, StackWrite, Unsaved, Epilogue}
use Rattle.unwind_check.specs.declared.rule.Fault.{Fault}
use Rattle.unwind_check.specs.declared.rule.Verdict.{Verdict}
use Rattle.unwind_check.specs.declared.rule.Verdict.TheVariants.{Yes, No}
use Rattle.unwind_check.specs.FailingRules.{CodeEntry, place_of, IsFirstOf, IsLeastFault}
use Rattle.unwind_check.specs.Verdicts.{ImageCode, entry_in, IsKept, AllAreKept, IsFirstFault, IsVerdict}
use Rattle.pe_image.specs.Image.{Image}
use Rattle.pe_image.specs.Reading.{reading}
use Rattle.eh_tables.specs.Answer.{Table}
use Rattle.image_code.specs.Verdicts.{checked_code}
use Rattle.x64_emit.specs.declared.entry.TheConstants.{CHECK_STACK}
use Rattle.seh.specs.CheckLaws.{ImagesHaveOneVerdict}
use Rattle.seh.proofs.Completeness.{one_image}

-- ---- one fault of an entry

abbrev rule_at : ℕ → Rule
rule_at zero = Decode
rule_at (suc zero) = Chain
rule_at (suc (suc zero)) = Codes
rule_at (suc (suc (suc zero))) = Prologue
rule_at (suc (suc (suc (suc zero)))) = StackWrite
rule_at (suc (suc (suc (suc (suc zero))))) = Unsaved
rule_at (suc (suc (suc (suc (suc (suc n)))))) = Epilogue

its_place : (r : Rule) → rule_at (place_of r) ≡ r
its_place Decode = refl
its_place Chain = refl
its_place Codes = refl
its_place Prologue = refl
its_place StackWrite = refl
its_place Unsaved = refl
its_place Epilogue = refl

rule_once : (r q : Rule) → place_of r ≡ place_of q → r ≡ q
rule_once r q e = sym (its_place r) ∙ ap rule_at e ∙ its_place q

fault_once : (e : CodeEntry) (f g : Fault) → IsLeastFault e f → IsLeastFault e g → f ≡ g
fault_once e f g a b = by (a.first g.at g.rule b.boundary b.fails)
    (b.first f.at f.rule a.boundary a.fails)
  where
    by : IsFirstOf f g.at g.rule → IsFirstOf g f.at f.rule → f ≡ g
    by (inl lt) (inl gt) = absurd (omega (arith, lt, gt))
    by (inl lt) (inr x) = let q = x.0 in absurd (omega (arith, lt, q))
    by (inr x) (inl gt) = let q = x.0 in absurd (omega (arith, gt, q))
    by (inr x) (inr y) =
        let le = x.1 in
        let ge = y.1 in
        let rule = rule_once f.rule g.rule (omega (arith, le, ge)) in
        let at = x.0 in
        λ j. record { at = at j; rule = rule j }

-- ---- one entry

-- where two lists begin with entries that are kept, and then have one that isn't, it is the same
record Same (a b : List Entry) (x y : Entry) : Type 0 where
  index : length a ≡ length b
  entry : x ≡ y

module _ (c : ImageCode) where
  not_kept : (e : Entry) (f : Fault) → IsLeastFault (entry_in c e) f → IsKept c e → ⊥
  not_kept e f least kept = kept.rules f.at f.rule least.boundary least.fails

  same_head : (x y : Entry) (p q : List Entry) → x ∷ p ≡ y ∷ q → x ≡ y
  same_head x y p q e = cc

  same_tail : (x y : Entry) (p q : List Entry) → x ∷ p ≡ y ∷ q → p ≡ q
  same_tail x y p q e = cc

  one_place : (a b : List Entry) (x y : Entry) (p q : List Entry) → a ++ (x ∷ p) ≡ b ++ (y ∷ q)
      → AllAreKept c a → AllAreKept c b → (IsKept c x → ⊥) → (IsKept c y → ⊥) → Same a b x y
  one_place [] [] x y p q e h g nx ny = record { index = refl; entry = same_head x y p q e }
  one_place [] (z ∷ b) x y p q e h g nx ny =
      absurd (nx (subst (IsKept c) (sym (same_head x z p (b ++ (y ∷ q)) e))
      (All-head (IsKept c) z b g)))
  one_place (z ∷ a) [] x y p q e h g nx ny =
      absurd (ny (subst (IsKept c) (same_head z y (a ++ (x ∷ p)) q e) (All-head (IsKept c) z a h)))
  one_place (z ∷ a) (w ∷ b) x y p q e h g nx ny =
      let rest = one_place a b x y p q (same_tail z w (a ++ (x ∷ p)) (b ++ (y ∷ q)) e)
      (All-tail (IsKept c) z a h) (All-tail (IsKept c) w b g) nx ny in
      record { index = ap suc rest.index; entry = rest.entry }

  kept_there : (a : List Entry) (x : Entry) (p : List Entry) → AllAreKept c (a ++ (x ∷ p))
      → IsKept c x
  kept_there [] x p h = All-head (IsKept c) x p h
  kept_there (z ∷ a) x p h = kept_there a x p (All-tail (IsKept c) z (a ++ (x ∷ p)) h)

  not_both : (es : List Entry) (k : ℕ) (f : Fault) → AllAreKept c es → IsFirstFault c es k f → ⊥
  not_both es k f all h =
      not_kept h.entry f h.least
      (kept_there h.before h.entry h.after (subst (AllAreKept c) h.parts all))

  first_once : (es : List Entry) (k j : ℕ) (f g : Fault) → IsFirstFault c es k f
      → IsFirstFault c es j g → No k f ≡ No j g
  first_once es k j f g h i =
      let same = one_place h.before i.before h.entry i.entry h.after i.after (sym h.parts ∙ i.parts)
      h.kept i.kept (not_kept h.entry f h.least) (not_kept i.entry g i.least) in
      let index : k ≡ j = sym h.index ∙ same.index ∙ i.index in
      let least = subst (λ (e : Entry). IsLeastFault (entry_in c e) f) same.entry h.least in
      let fault = fault_once (entry_in c i.entry) f g least i.least in
      λ t. No (index t) (fault t)

verdict_once : (c : ImageCode) (es : List Entry) (a b : Verdict) → IsVerdict c es a
    → IsVerdict c es b → a ≡ b
verdict_once c es (Yes n) (Yes m) h g = ap Yes (sym h.1 ∙ g.1)
verdict_once c es (Yes n) (No k f) h g = absurd (not_both c es k f h.0 g)
verdict_once c es (No k f) (Yes n) h g = absurd (not_both c es k f g.0 h)
verdict_once c es (No k f) (No j g) h i = first_once c es k j f g h i

-- ---- one image

-- a function table is read as one list of entries
pub one_table : (t : Table (List Entry)) (xs ys : List Entry) → t ≡ Ok xs → t ≡ Ok ys → xs ≡ ys
one_table t xs ys is also = let q : Ok xs ≡ Ok ys = sym is ∙ also in cc

pub images_have_one_verdict : ImagesHaveOneVerdict
images_have_one_verdict bytes a b h g =
    let same = one_image (reading bytes) h.image g.image h.is g.is in
    let read : tables g.image ≡ Ok h.comes.entries =
    subst (λ (i : Image). tables i ≡ Ok h.comes.entries) same h.comes.read in
    let listed = one_table (tables g.image) h.comes.entries g.comes.entries read g.comes.read in
    let of_image : IsVerdict (checked_code g.image CHECK_STACK) h.comes.entries a =
    subst (λ (i : Image). IsVerdict (checked_code i CHECK_STACK) h.comes.entries a) same
    h.comes.is in
    let of_entries : IsVerdict (checked_code g.image CHECK_STACK) g.comes.entries a =
    subst (λ (es : List Entry). IsVerdict (checked_code g.image CHECK_STACK) es a) listed
    of_image in
    verdict_once (checked_code g.image CHECK_STACK) g.comes.entries a b of_entries g.comes.is
