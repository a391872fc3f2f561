-- Places of locals: no two locals stand in one register.
use Rattle.std.proofs.Common.{◌≡◌, ◌≢◌, ℕ, zero, suc, ◌<◌, ◌≤◌, ◌==◌, Bool, true, false, cond, ltb, List, [], ◌∷◌, length, drop, get_or, Option, Some, None, refl, sym, ap, ◌∙◌, subst, arith, inl, inr}
use Rattle.std.specs.Prelude.{◌⊎◌}
use Rattle.std.proofs.lemmas.Bool.{cases_lt, le-ltb, eqb-true, ne_eqb}
use Rattle.x64_instr.specs.Registers.{number}
use Rattle.x64_instr.specs.declared.register.Reg.{Reg}
use Rattle.template_code.specs.declared.layout.Layout.{Layout}
use Rattle.template_code.specs.declared.layout.Place.{Place}
use Rattle.template_code.specs.declared.layout.Place.TheVariants.{InRegister, InFrame, Arriving}
use Rattle.template_code.specs.declared.layout.TheConstants.{LOCAL_REGISTERS}
use Rattle.template_code.specs.Places.{place_among, place_of}

-- registers in the order of their numbers, all above one
abbrev AreRising : ℕ → List Reg → Type 0
AreRising n [] = Unit {0}
AreRising n (r ∷ rs) = (n < number r) × AreRising (number r) rs

rising_more : (n m : ℕ) (rs : List Reg) → n < m → AreRising m rs → AreRising n rs
rising_more n m [] lt h = tt
rising_more n m (r ∷ rs) lt h = (let l = h.0 in omega arith, h.1)

abbrev register_of : Reg → Place → Reg
register_of r (InRegister q) = q
register_of r InFrame = r
register_of r Arriving = r

same_register : (q r : Reg) → InRegister q ≡ InRegister r → number q ≡ number r
same_register q r e = ap (λ (p : Place). number (register_of q p)) e

-- the register of a local is one of them
above_all : (ns : List (Option ℕ)) (rs : List Reg) (x n : ℕ) (r : Reg) → AreRising n rs
    → place_among ns rs x ≡ InRegister r → n < number r
above_all [] rs x n r h e = absurd cc
above_all (None ∷ ns) rs x n r h e = absurd cc
above_all (Some k ∷ ns) [] x n r h e = absurd cc
above_all (Some k ∷ ns) (q ∷ rs) x n r h e = by (k == x) e
    (λ f. above_all ns rs x n r (rising_more n (number q) rs h.0 h.1) f)
  where
    by : (t : Bool) → cond t (InRegister q) (place_among ns rs x) ≡ InRegister r
        → (place_among ns rs x ≡ InRegister r → n < number r) → n < number r
    by true e more = let l = h.0 in let s = same_register q r e in omega arith
    by false e more = more e

apart : (ns : List (Option ℕ)) (rs : List Reg) (x z n : ℕ) (r s : Reg) → number r ≡ number s
    → AreRising n rs → place_among ns rs x ≡ InRegister r → place_among ns rs z ≡ InRegister s
    → x ≡ z
apart [] rs x z n r s is h e f = absurd cc
apart (None ∷ ns) rs x z n r s is h e f = absurd cc
apart (Some k ∷ ns) [] x z n r s is h e f = absurd cc
apart (Some k ∷ ns) (q ∷ rs) x z n r s is h e f = by (k == x) (k == z) refl refl e f
    (λ a b. apart ns rs x z (number q) r s is h.1 a b)
  where
    by : (t u : Bool) → (k == x) ≡ t → (k == z) ≡ u
        → cond t (InRegister q) (place_among ns rs x) ≡ InRegister r
        → cond u (InRegister q) (place_among ns rs z) ≡ InRegister s
        → (place_among ns rs x ≡ InRegister r → place_among ns rs z ≡ InRegister s → x ≡ z)
        → x ≡ z
    by true true l m e f more = let a = eqb-true k x l in let b = eqb-true k z m in omega arith
    by true false l m e f more = let a = same_register q r e in
        let b = above_all ns rs z (number q) s h.1 f in absurd (omega arith)
    by false true l m e f more = let a = same_register q s f in
        let b = above_all ns rs x (number q) r h.1 e in absurd (omega arith)
    by false false l m e f more = more e f

are_rising : AreRising 2 LOCAL_REGISTERS
are_rising = (
  omega arith,
  (omega arith, (omega arith, (omega arith, (omega arith, (omega arith, (omega arith, tt)))))),
)

-- a parameter that stays in the register in which it arrives
pub arriving_low : (y : Layout) (x : ℕ) → place_of y x ≡ Arriving → x < y.arrivals
arriving_low y x e = by (cases_lt x y.arrivals)
  where
    among : (ns : List (Option ℕ)) (rs : List Reg) → place_among ns rs x ≡ Arriving → ⊥
    among [] rs e = absurd cc
    among (None ∷ ns) rs e = absurd cc
    among (Some k ∷ ns) [] e = absurd cc
    among (Some k ∷ ns) (q ∷ rs) e = one (k == x) e (among ns rs)
      where
        one : (t : Bool) → cond t (InRegister q) (place_among ns rs x) ≡ Arriving
            → (place_among ns rs x ≡ Arriving → ⊥) → ⊥
        one true e more = absurd cc
        one false e more = more e

    by : (x < y.arrivals) ⊎ (y.arrivals ≤ x) → x < y.arrivals
    by (inl lt) = lt
    by (inr le) = absurd (among y.registers LOCAL_REGISTERS
        (sym (ap (λ (t : Bool). cond t Arriving (place_among y.registers LOCAL_REGISTERS x))
        (le-ltb x y.arrivals le)) ∙ e))

-- any other local
pub place_late : (y : Layout) (x : ℕ) → y.arrivals ≤ x
    → place_of y x ≡ place_among y.registers LOCAL_REGISTERS x
place_late y x le = ap (λ (t : Bool). cond t Arriving (place_among y.registers LOCAL_REGISTERS x))
    (le-ltb x y.arrivals le)

-- a local in one of the registers of locals
among_of : (y : Layout) (x : ℕ) (r : Reg) → place_of y x ≡ InRegister r
    → place_among y.registers LOCAL_REGISTERS x ≡ InRegister r
among_of y x r e = by (ltb x y.arrivals) e
  where
    by : (t : Bool) → cond t Arriving (place_among y.registers LOCAL_REGISTERS x) ≡ InRegister r
        → place_among y.registers LOCAL_REGISTERS x ≡ InRegister r
    by true e = absurd cc
    by false e = e

-- no two locals stand in one register
pub places_apart : (y : Layout) (x z : ℕ) (r s : Reg) → place_of y x ≡ InRegister r
    → place_of y z ≡ InRegister s → number r ≡ number s → x ≡ z
places_apart y x z r s e f is = apart y.registers LOCAL_REGISTERS x z 2 r s is are_rising
    (among_of y x r e) (among_of y z s f)

-- ---- a local in a register is in one of those of locals

abbrev pub Each : (Reg → Type 0) → List Reg → Type 0
Each P [] = Unit {0}
Each P (r ∷ rs) = P r × Each P rs

each_place : (P : Reg → Type 0) (ns : List (Option ℕ)) (rs : List Reg) (x : ℕ) (r : Reg)
    → Each P rs → place_among ns rs x ≡ InRegister r → P r
each_place P [] rs x r h e = absurd cc
each_place P (None ∷ ns) rs x r h e = absurd cc
each_place P (Some k ∷ ns) [] x r h e = absurd cc
each_place P (Some k ∷ ns) (q ∷ rs) x r h e = by (k == x) e (λ f. each_place P ns rs x r h.1 f)
  where
    by : (t : Bool) → cond t (InRegister q) (place_among ns rs x) ≡ InRegister r
        → (place_among ns rs x ≡ InRegister r → P r) → P r
    by true e more = subst P (ap (register_of q) e) h.0
    by false e more = more e

-- what holds of each register of locals holds of the place of each local
pub place_register : (P : Reg → Type 0) (y : Layout) (x : ℕ) (r : Reg) → Each P LOCAL_REGISTERS
    → place_of y x ≡ InRegister r → P r
place_register P y x r h e =
    each_place P y.registers LOCAL_REGISTERS x r h (among_of y x r e)

-- ---- one register after another

-- where the number of another local is, the place is further on
pub place_passed : (ns : List (Option ℕ)) (rs : List Reg) (i x k : ℕ) → i < length rs
    → get_or ns i None ≡ Some k → k ≢ x
    → place_among (drop i ns) (drop i rs) x ≡ place_among (drop (suc i) ns) (drop (suc i) rs) x
place_passed [] rs i x k l e ne = absurd cc
place_passed (n ∷ ns) [] i x k l e ne = absurd (omega arith)
place_passed (n ∷ ns) (q ∷ rs) zero x k l e ne =
    ap (λ (o : Option ℕ). place_among (o ∷ ns) (q ∷ rs) x) e
    ∙ ap (λ (t : Bool). cond t (InRegister q) (place_among ns rs x)) (ne_eqb k x ne)
place_passed (n ∷ ns) (q ∷ rs) (suc i) x k l e ne =
    place_passed ns rs i x k (omega arith) e ne
