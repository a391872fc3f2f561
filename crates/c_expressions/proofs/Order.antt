-- What is kept of a whole list is its least fault.
use Rattle.std.proofs.Common.{◌≡◌, ℕ, Bool, true, false, cond, List, [], ◌∷◌, Option, Some, None, refl, sym, ap, ◌∙◌, arith}
use Rattle.std.specs.Prelude.{nat_lt, nat_eq, ◌&&◌, ◌||◌}
use Rattle.std.proofs.lemmas.Bool.Decides.{nat_tests}
use Rattle.c_expressions.specs.Words.{kept_one, kept, FaultAt}
use Rattle.c_resolved.specs.Accepted.{rank, is_earlier, earlier, least}

chain : (ba br fa fr ga gr : ℕ) → (nat_lt ba fa || (nat_eq ba fa && nat_lt br fr)) ≡ true
    → (nat_lt fa ga || (nat_eq fa ga && nat_lt fr gr)) ≡ true
    → (nat_lt ba ga || (nat_eq ba ga && nat_lt br gr)) ≡ true
chain ba br fa fr ga gr p q = grind (arith, nat_tests)

no_chain : (ba br fa fr ga gr : ℕ) → (nat_lt ba fa || (nat_eq ba fa && nat_lt br fr)) ≡ false
    → (nat_lt fa ga || (nat_eq fa ga && nat_lt fr gr)) ≡ false
    → (nat_lt ba ga || (nat_eq ba ga && nat_lt br gr)) ≡ false
no_chain ba br fa fr ga gr p q = grind (arith, nat_tests)

some_cond : (b : Bool) (x y : FaultAt) → cond b (Some x) (Some y) ≡ Some (cond b x y)
some_cond true x y = refl
some_cond false x y = refl

-- of three faults the least is kept, in whichever order two of them are compared first
three : (g f b : FaultAt) (p q : Bool) → is_earlier f g ≡ p → is_earlier b f ≡ q
    → kept_one (kept_one (Some g) f) b ≡ kept_one (Some g) (earlier f (Some b))
three g f b true true e h =
    let m : is_earlier b g ≡ true = chain b.at (rank b.fault) f.at (rank f.fault) g.at
    (rank g.fault) h e in
    ap (λ k. kept_one (cond k (Some f) (Some g)) b) e ∙ ap (λ k. cond k (Some b) (Some f)) h
    ∙ sym (ap (λ k. kept_one (Some g) (cond k b f)) h ∙ ap (λ k. cond k (Some b) (Some g)) m)
three g f b true false e h =
    ap (λ k. kept_one (cond k (Some f) (Some g)) b) e ∙ ap (λ k. cond k (Some b) (Some f)) h
    ∙ sym (ap (λ k. kept_one (Some g) (cond k b f)) h ∙ ap (λ k. cond k (Some f) (Some g)) e)
three g f b false true e h = ap (λ k. kept_one (cond k (Some f) (Some g)) b) e
    ∙ sym (ap (λ k. kept_one (Some g) (cond k b f)) h)
three g f b false false e h =
    let m : is_earlier b g ≡ false = no_chain b.at (rank b.fault) f.at (rank f.fault) g.at
    (rank g.fault) h e in
    ap (λ k. kept_one (cond k (Some f) (Some g)) b) e ∙ ap (λ k. cond k (Some b) (Some g)) m
    ∙ sym (ap (λ k. kept_one (Some g) (cond k b f)) h ∙ ap (λ k. cond k (Some f) (Some g)) e)

abbrev pub merged : Option FaultAt → Option FaultAt → Option FaultAt
merged w None = w
merged w (Some f) = kept_one w f

first_of_two : (f : FaultAt) (o : Option FaultAt) → merged (Some f) o ≡ Some (earlier f o)
first_of_two f None = refl
first_of_two f (Some b) = some_cond (is_earlier b f) b f

step : (w : Option FaultAt) (f : FaultAt) (o : Option FaultAt)
    → merged (kept_one w f) o ≡ kept_one w (earlier f o)
step None f o = first_of_two f o
step (Some g) f None = refl
step (Some g) f (Some b) = three g f b (is_earlier f g) (is_earlier b f) refl refl

kept_merged : (w : Option FaultAt) (fs : List FaultAt) → kept w fs ≡ merged w (least fs)
kept_merged w [] = refl
kept_merged w (f ∷ fs) = kept_merged (kept_one w f) fs ∙ step w f (least fs)

none_first : (o : Option FaultAt) → merged None o ≡ o
none_first None = refl
none_first (Some f) = refl

pub kept_least : (fs : List FaultAt) → kept None fs ≡ least fs
kept_least fs = kept_merged None fs ∙ none_first (least fs)

pub nothing_kept : (fs : List FaultAt) → kept None fs ≡ None → fs ≡ []
nothing_kept [] e = refl
nothing_kept (f ∷ fs) e = absurd (let h = sym (kept_least (f ∷ fs)) ∙ e in cc)
