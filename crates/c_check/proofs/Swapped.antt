-- The least fault that is kept doesn't depend on the order of the faults.
use Rattle.std.proofs.Common.{◌≡◌, ℕ, zero, suc, Bool, true, false, cond, List, [], ◌∷◌, ◌++◌, Option, Some, None, refl, sym, ap, ◌∙◌, arith}
use Rattle.std.specs.Prelude.{nat_lt, nat_eq, ◌&&◌, ◌||◌}
use Rattle.std.proofs.lemmas.Bool.Decides.{nat_tests}
use Rattle.c_check.proofs.Lemmas.{kept_append}
use Rattle.c_check.specs.Words.{kept_one, kept, rank, is_earlier, NoMain, UnknownName, Duplicate, NotLvalue, TypeClash, ArgCount, LeaveOutsideTry, JumpOutOfFinally, JumpOutsideLoop, CodeOutsideFilter, InfoOutsideFilter, AbnormalOutsideFinally, BadInitialiser, FaultAt}
use Rattle.c_resolved.specs.declared.fault.Fault.{Fault}

-- ---- faults at one place of one rank are one

abbrev fault_of : ℕ → Fault
fault_of zero = NoMain
fault_of (suc zero) = UnknownName
fault_of (suc (suc zero)) = Duplicate
fault_of (suc (suc (suc zero))) = NotLvalue
fault_of (suc (suc (suc (suc zero)))) = TypeClash
fault_of (suc (suc (suc (suc (suc zero))))) = ArgCount
fault_of (suc (suc (suc (suc (suc (suc zero)))))) = LeaveOutsideTry
fault_of (suc (suc (suc (suc (suc (suc (suc zero))))))) = JumpOutOfFinally
fault_of (suc (suc (suc (suc (suc (suc (suc (suc zero)))))))) = JumpOutsideLoop
fault_of (suc (suc (suc (suc (suc (suc (suc (suc (suc zero))))))))) = CodeOutsideFilter
fault_of (suc (suc (suc (suc (suc (suc (suc (suc (suc (suc zero)))))))))) = InfoOutsideFilter
fault_of (suc (suc (suc (suc (suc (suc (suc (suc (suc (suc (suc zero))))))))))) =
    AbnormalOutsideFinally
fault_of (suc (suc (suc (suc (suc (suc (suc (suc (suc (suc (suc (suc n)))))))))))) = BadInitialiser

fault_of_rank : (f : Fault) → fault_of (rank f) ≡ f
fault_of_rank NoMain = refl
fault_of_rank UnknownName = refl
fault_of_rank Duplicate = refl
fault_of_rank NotLvalue = refl
fault_of_rank TypeClash = refl
fault_of_rank ArgCount = refl
fault_of_rank LeaveOutsideTry = refl
fault_of_rank JumpOutOfFinally = refl
fault_of_rank JumpOutsideLoop = refl
fault_of_rank CodeOutsideFilter = refl
fault_of_rank InfoOutsideFilter = refl
fault_of_rank AbnormalOutsideFinally = refl
fault_of_rank BadInitialiser = refl

rank_is : (f g : Fault) → rank f ≡ rank g → f ≡ g
rank_is f g p = sym (fault_of_rank f) ∙ ap fault_of p ∙ fault_of_rank g

same_place : (fa fr ga gr : ℕ) → (nat_lt fa ga || (nat_eq fa ga && nat_lt fr gr)) ≡ false
    → (nat_lt ga fa || (nat_eq ga fa && nat_lt gr fr)) ≡ false → fa ≡ ga
same_place fa fr ga gr p q = grind (arith, nat_tests)

same_rank : (fa fr ga gr : ℕ) → (nat_lt fa ga || (nat_eq fa ga && nat_lt fr gr)) ≡ false
    → (nat_lt ga fa || (nat_eq ga fa && nat_lt gr fr)) ≡ false → fr ≡ gr
same_rank fa fr ga gr p q = grind (arith, nat_tests)

-- neither is earlier
same : (f g : FaultAt) → is_earlier f g ≡ false → is_earlier g f ≡ false → f ≡ g
same f g p q =
    let at = same_place f.at (rank f.fault) g.at (rank g.fault) p q in
    let fault = rank_is f.fault g.fault (same_rank f.at (rank f.fault) g.at (rank g.fault) p q) in
    λ i. record { at = at i; fault = fault i }

-- not both are earlier
apart : (fa fr ga gr : ℕ) → (nat_lt fa ga || (nat_eq fa ga && nat_lt fr gr)) ≡ true
    → (nat_lt ga fa || (nat_eq ga fa && nat_lt gr fr)) ≡ true → ⊥
apart fa fr ga gr p q = grind (arith, nat_tests)

through : (ba br fa fr ga gr : ℕ) → (nat_lt ba fa || (nat_eq ba fa && nat_lt br fr)) ≡ true
    → (nat_lt fa ga || (nat_eq fa ga && nat_lt fr gr)) ≡ true
    → (nat_lt ba ga || (nat_eq ba ga && nat_lt br gr)) ≡ true
through ba br fa fr ga gr p q = grind (arith, nat_tests)

-- ---- two faults in either order

abbrev of_two : Bool → FaultAt → FaultAt → Option FaultAt
of_two b f g = cond b (Some g) (Some f)

two : (f g : FaultAt) → of_two (is_earlier g f) f g ≡ of_two (is_earlier f g) g f
two f g = by (is_earlier g f) (is_earlier f g) refl refl
  where
    by : (p q : Bool) → is_earlier g f ≡ p → is_earlier f g ≡ q → of_two p f g ≡ of_two q g f
    by true true e h = absurd (apart g.at (rank g.fault) f.at (rank f.fault) e h)
    by true false e h = refl
    by false true e h = refl
    by false false e h = ap (λ x. Some x) (same f g h e)

kept_after : (first : Bool) (h f g : FaultAt)
    → kept_one (cond first (Some f) (Some h)) g
    ≡ cond first (of_two (is_earlier g f) f g) (of_two (is_earlier g h) h g)
kept_after true h f g = refl
kept_after false h f g = refl

three : (h f g : FaultAt) → kept_one (kept_one (Some h) f) g ≡ kept_one (kept_one (Some h) g) f
three h f g = kept_after (is_earlier f h) h f g
    ∙ by (is_earlier f h) (is_earlier g h) (is_earlier g f) (is_earlier f g) refl refl refl refl
    ∙ sym (kept_after (is_earlier g h) h g f)
  where
    by : (p q r s : Bool) → is_earlier f h ≡ p → is_earlier g h ≡ q → is_earlier g f ≡ r
        → is_earlier f g ≡ s
        → cond (is_earlier f h) (of_two (is_earlier g f) f g) (of_two (is_earlier g h) h g)
        ≡ cond (is_earlier g h) (of_two (is_earlier f g) g f) (of_two (is_earlier f h) h f)
    by true true r s e e' e'' e''' = ap (λ k. cond k (of_two (is_earlier g f) f g)
        (of_two (is_earlier g h) h g)) e ∙ two f g
        ∙ sym (ap (λ k. cond k (of_two (is_earlier f g) g f) (of_two (is_earlier f h) h f)) e')
    by true false true s e e' e'' e''' =
        absurd (let t = through g.at (rank g.fault) f.at (rank f.fault) h.at (rank h.fault) e'' e in
        cc)
    by true false false s e e' e'' e''' =
        ap (λ k. cond k (of_two (is_earlier g f) f g) (of_two (is_earlier g h) h g)) e
        ∙ ap (λ k. of_two k f g) e''
        ∙ sym (ap (λ k. cond k (of_two (is_earlier f g) g f) (of_two (is_earlier f h) h f)) e'
        ∙ ap (λ k. of_two k h f) e)
    by false true r true e e' e'' e''' =
        absurd (let t = through f.at (rank f.fault) g.at (rank g.fault) h.at (rank h.fault) e'''
        e' in cc)
    by false true r false e e' e'' e''' =
        ap (λ k. cond k (of_two (is_earlier g f) f g) (of_two (is_earlier g h) h g)) e
        ∙ ap (λ k. of_two k h g) e'
        ∙ sym (ap (λ k. cond k (of_two (is_earlier f g) g f) (of_two (is_earlier f h) h f)) e'
        ∙ ap (λ k. of_two k g f) e''')
    by false false r s e e' e'' e''' =
        ap (λ k. cond k (of_two (is_earlier g f) f g) (of_two (is_earlier g h) h g)) e
        ∙ ap (λ k. of_two k h g) e'
        ∙ sym (ap (λ k. cond k (of_two (is_earlier f g) g f) (of_two (is_earlier f h) h f)) e'
        ∙ ap (λ k. of_two k h f) e)

one_after : (w : Option FaultAt) (f g : FaultAt)
    → kept_one (kept_one w f) g ≡ kept_one (kept_one w g) f
one_after None f g = two f g
one_after (Some h) f g = three h f g

-- ---- lists in either order

one_last : (w : Option FaultAt) (f : FaultAt) (fs : List FaultAt)
    → kept (kept_one w f) fs ≡ kept_one (kept w fs) f
one_last w f [] = refl
one_last w f (g ∷ fs) = ap (λ k. kept k fs) (one_after w f g) ∙ one_last (kept_one w g) f fs

pub kept_swapped : (w : Option FaultAt) (a b : List FaultAt) → kept (kept w a) b ≡ kept (kept w b) a
kept_swapped w [] b = refl
kept_swapped w (f ∷ a) b = kept_swapped (kept_one w f) a b ∙ ap (λ k. kept k a) (one_last w f b)

-- two parts in the other order
pub kept_after_other : (w : Option FaultAt) (a b : List FaultAt)
    → kept w (a ++ b) ≡ kept (kept w b) a
kept_after_other w a b = kept_append w a b ∙ kept_swapped w a b
