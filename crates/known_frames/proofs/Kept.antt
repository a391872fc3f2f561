-- The registers that a call keeps.
use Rattle.std.proofs.Common.{◌≡◌, ℕ, zero, suc, ◌<◌, ◌≤◌, List, [], ◌∷◌, length, get_or, refl, sym, ◌∙◌, arith, Bool, true, false}
use Rattle.std.specs.Prelude.{nat_eq, if◌then◌else◌}
use Rattle.std.proofs.lemmas.List.{get_or_past}
use Rattle.virtual_unwind.specs.Contexts.{is_nonvolatile}
use Rattle.frame_known.specs.declared.known.Known.{Known}
use Rattle.frame_known.specs.declared.known.Known.TheVariants.{Nothing}
use Rattle.frame_known.specs.Known.{kept}
use Rattle.x64_instr.specs.Reading.{bit}
use Rattle.frame_known.specs.Measured.{forgotten_by}
use Rattle.known_frames.specs.Views.{registers_of}

-- ---- sixteen of them

abbrev pub upper : Known → List Known → List Known
upper d ks = get_or ks 12 d ∷ get_or ks 13 d ∷ get_or ks 14 d ∷ get_or ks 15 d ∷ []

abbrev pub middle : Known → List Known → List Known
middle d ks =
    let more = Nothing ∷ Nothing ∷ Nothing ∷ Nothing ∷ upper d ks in
    get_or ks 4 d ∷ get_or ks 5 d ∷ get_or ks 6 d ∷ get_or ks 7 d ∷ more

abbrev pub of_sixteen : Known → List Known → List Known
of_sixteen d ks = Nothing ∷ Nothing ∷ Nothing ∷ get_or ks 3 d ∷ middle d ks

abbrev pub KeptAt : List Known → Known → ℕ → Type 0
KeptAt ks d r = registers_of (of_sixteen d ks) r ≡ kept (registers_of ks) r

-- ---- by number

neither : (b : Bool) (x : Known) → x ≡ Nothing → Nothing ≡ (if b then x else Nothing)
neither true x e = sym e
neither false x e = refl

past : (ks : List Known) (d : Known) (r : ℕ) → length ks ≡ 16 → 16 ≤ r → KeptAt ks d r
past ks d r n le =
    get_or_past (of_sixteen d ks) r Nothing le
    ∙ neither (is_nonvolatile r) (registers_of ks r)
    (get_or_past ks r Nothing (omega (arith, n, le)))

within : (ks : List Known) (d : Known) (i : ℕ) → i < length ks → get_or ks i d ≡ registers_of ks i
within [] d i lt = absurd (omega (arith, lt))
within (k ∷ ks) d zero lt = refl
within (k ∷ ks) d (suc i) lt = within ks d i (omega (arith, lt))

abbrev pub up : ℕ → ℕ
up r = suc (suc (suc (suc r)))

by_four : (P : ℕ → Type 0) → P 0 → P 1 → P 2 → P 3 → ((r : ℕ) → P (up r)) → (r : ℕ) → P r
by_four P a b c d more zero = a
by_four P a b c d more (suc zero) = b
by_four P a b c d more (suc (suc zero)) = c
by_four P a b c d more (suc (suc (suc zero))) = d
by_four P a b c d more (suc (suc (suc (suc r)))) = more r

from_twelve : (ks : List Known) (d : Known) → length ks ≡ 16 → (r : ℕ)
    → KeptAt ks d (up (up (up r)))
from_twelve ks d n =
    by_four (λ r. KeptAt ks d (up (up (up r)))) (within ks d 12 (omega (arith, n)))
    (within ks d 13 (omega (arith, n))) (within ks d 14 (omega (arith, n)))
    (within ks d 15 (omega (arith, n))) (λ r. past ks d (up (up (up (up r)))) n (omega arith))

from_eight : (ks : List Known) (d : Known) → length ks ≡ 16 → (r : ℕ) → KeptAt ks d (up (up r))
from_eight ks d n =
    by_four (λ r. KeptAt ks d (up (up r))) refl refl refl refl (from_twelve ks d n)

from_four : (ks : List Known) (d : Known) → length ks ≡ 16 → (r : ℕ) → KeptAt ks d (up r)
from_four ks d n =
    by_four (λ r. KeptAt ks d (up r)) (within ks d 4 (omega (arith, n)))
    (within ks d 5 (omega (arith, n))) (within ks d 6 (omega (arith, n)))
    (within ks d 7 (omega (arith, n))) (from_eight ks d n)

pub kept_registers : (ks : List Known) (d : Known) (r : ℕ) → length ks ≡ 16 → KeptAt ks d r
kept_registers ks d r n =
    by_four (KeptAt ks d) refl refl refl (within ks d 3 (omega (arith, n))) (from_four ks d n) r

-- ---- made one by one

pub four_made : (f : ℕ → Known) (a b c d : Known) (xs : List Known) → a ≡ f 0 → b ≡ f 1 → c ≡ f 2
    → d ≡ f 3 → ((r : ℕ) → registers_of xs r ≡ f (up r)) → (r : ℕ)
    → registers_of (a ∷ b ∷ c ∷ d ∷ xs) r ≡ f r
four_made f a b c d xs e1 e2 e3 e4 more =
    by_four (λ r. registers_of (a ∷ b ∷ c ∷ d ∷ xs) r ≡ f r) e1 e2 e3 e4 more

pub nothing_past : (general : ℕ) (ks : List Known) (r : ℕ) → length ks ≡ 16 → 16 ≤ r
    → Nothing ≡ forgotten_by general (registers_of ks) r
nothing_past general ks r n le =
    neither (nat_eq (bit r general) 0) (registers_of ks r)
    (get_or_past ks r Nothing (omega (arith, n, le)))
