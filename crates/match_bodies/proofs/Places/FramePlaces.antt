-- The locals of an activation with other registers beside them, and with other numbers.
use Rattle.std.proofs.Common.{◌≡◌, ℕ, ◌+◌, ◌≤◌, Option, Some, None, List, [], ◌∷◌, length, refl, sym, subst, ◌∙◌, arith}
use Rattle.std.specs.Prelude.{slice_index}
use Rattle.match_bodies.specs.Words.{Memory, Context, get, rsp, Layout, BodyName, Activation, IsInPlace, HoldsPlaces, HasActivation, IsInFrame, FrameWords, IsLeft, LeavesRegisters}

-- ---- an activation at another context

-- with the same registers, whatever RIP is
pub activation_with : (m : Memory) (register : ℕ → Option ℕ) (y : Layout) (c c' : Context)
    (size k : ℕ) (acts : List Activation) (name : BodyName) → c'.kept ≡ c.kept
    → HasActivation m (get c) register y (rsp c) size k acts name
    → HasActivation m (get c') register y (rsp c') size k acts name
activation_with m register y c c' size k acts name same h =
    subst (λ (ks : List ℕ). HasActivation m (get (record { rip = c'.rip; kept = ks })) register y
    (slice_index ks 0) size k acts name) (sym same) (going c.rip c.kept h)
  where
    going : (rip : ℕ) (kept : List ℕ)
        → HasActivation m (get (record { rip = rip; kept = kept })) register y
        (slice_index kept 0) size k acts name
        → HasActivation m (get (record { rip = c'.rip; kept = kept })) register y
        (slice_index kept 0) size k acts name
    going rip kept h = h

-- ---- other numbers in its words

in_place : (m m' : Memory) (now : ℕ → ℕ) (at v w : ℕ) (o : Option ℕ) → IsInPlace m now at v o
    → IsInFrame m' at w o → IsLeft v w o → IsInPlace m' now at w o
in_place m m' now at v w None h f l = f
in_place m m' now at v w (Some r) h f l = h ∙ l

-- those in registers as they were, and the others in their words
pub in_places : (m m' : Memory) (now : ℕ → ℕ) (mine : ℕ → Option ℕ) (i at end later : ℕ)
    (vs ws : List ℕ)
    → HoldsPlaces m now mine i at later vs → FrameWords m' mine i at end ws
    → LeavesRegisters mine i vs ws → end ≤ later → HoldsPlaces m' now mine i at later ws
in_places m m' now mine i at end later [] [] h f l le = h
in_places m m' now mine i at end later (v ∷ vs) (w ∷ ws) h f l le = (
  in_place m m' now at v w (mine i) h.0 f.0 l.0,
  in_places m m' now mine (i + 1) (at + 8) end later vs ws h.1 f.1 l.1 le,
)
in_places m m' now mine i at end later [] (w ∷ ws) h f l le = absurd l
in_places m m' now mine i at end later (v ∷ vs) [] h f l le = absurd l

pub as_many : (r : ℕ → Option ℕ) (i : ℕ) (vs ws : List ℕ) → LeavesRegisters r i vs ws
    → length ws ≡ length vs
as_many r i [] [] l = refl
as_many r i (v ∷ vs) (w ∷ ws) l = let e = as_many r (i + 1) vs ws l.1 in omega arith
as_many r i [] (w ∷ ws) l = absurd l
as_many r i (v ∷ vs) [] l = absurd l
