-- A walk gives a body's caller, and where it finds the return address at the body's instructions.
use Rattle.std.proofs.Common.{◌≡◌, ◌<◌, Some, List, ◌∷◌, length, subst, arith, inl, inr}
use Rattle.std.proofs.lemmas.Option.{slice_get_cases}
use Rattle.match_bodies.specs.Words.{Memory, Context, Functions, Funclet, LinearProgram, LinearBody, BodyName, body_of, state, ImagePlan, GivesCallers, Sites, HasCaller, FindsOwed, owed_of, HasProgram, IsProgramImage, setting_of}
use Rattle.match_bodies.proofs.Lemmas.{past_frame}
use Rattle.match_bodies.proofs.Walks.ReturnAddresses.{label_found}
use Rattle.std.specs.Prelude.{ℕ}

-- a walk that comes to a frame gives its caller, and then what it gives from there
pub gives_caller : (t : Functions) (m : Memory) (c caller : Context) (cs : List Context)
    → HasCaller t m c caller → GivesCallers t m (state caller 0) cs
    → GivesCallers t m (state c 0) (caller ∷ cs)
gives_caller t m c caller cs h g = subst (λ (x : Context). GivesCallers t m (state c 0) (x ∷ cs))
    h.context (past_frame t m (state c 0) h.frame (state caller 0) cs h.visits g)

-- at the first machine instruction of an instruction, by its number
pub begin_finds : (t : Functions) (fs : List Funclet) (program : LinearProgram) (p : ImagePlan)
    (q : Sites) (image : IsProgramImage t fs program p q) (m : Memory) (name : BodyName)
    (b : LinearBody) (label : ℕ)
    → body_of program name ≡ Some b → HasProgram t fs program p q m → label < length b.code
    → FindsOwed t m (p.address name label) (owed_of p name)
begin_finds t fs program p q image m name b label there has lt = elim
    (slice_get_cases b.code label).1 [
      | inl x ↦ label_found (setting_of t fs program p q image) name b there m has label x.0 x.2
      | inr x ↦ let le = x.0 in absurd (omega arith)
    ]
