-- How many temporaries a body holds at its first instruction, after one, and after a write.
use Rattle.std.proofs.Common.{◌≡◌, ℕ, suc, ◌+◌, List, [], ◌∷◌, ◌++◌, length, refl, sym, ap, ◌∙◌, arith, length-append}
use Rattle.std.proofs.lemmas.Bool.{leb-true}
use Rattle.std.proofs.lemmas.List.{length-take-le}
use Rattle.std.specs.Prelude.{Bool, true, false, nat_le, take, if◌then◌else◌, Option, Some, None}
use Rattle.lowering_invariants.specs.Words.{Instruction, LinearBody, with_temporary, instruction_in, after, depth_at, depth_in}
use Rattle.lowering_invariants.proofs.Ready.{chosen}
use Rattle.lowering_invariants.proofs.Scans.{Leads, depth_next, leads_at}
use Rattle.lowering_invariants.proofs.Places.DepthStatements.{BodyLeads}
use Rattle.lowering_invariants.proofs.Stacks.StackTargets.{same_it}

starts_at : (code : List Instruction) → depth_at code 0 ≡ 0
starts_at [] = refl
starts_at (i ∷ is) = refl

pub starts_in : (o : Option LinearBody) → depth_in o 0 ≡ 0
starts_in None = refl
starts_in (Some b) = starts_at b.code

pub next_in : (o : Option LinearBody) (label : ℕ) (i : Instruction)
    → instruction_in o label ≡ Some i → depth_in o (label + 1) ≡ after i (depth_in o label)
next_in None label i e = absurd (cc)
next_in (Some b) label i e = let s : label + 1 ≡ suc label = omega arith in ap (depth_at b.code) s
    ∙ depth_next b.code 0 label i e

pub leads_in : (o : Option LinearBody) (label : ℕ) (i : Instruction)
    → ((b : LinearBody) → o ≡ Some b → BodyLeads b) → instruction_in o label ≡ Some i → Leads
    (depth_in o) (depth_in o label) i
leads_in None label i h e = absurd (cc)
leads_in (Some b) label i h e = leads_at (depth_at b.code) b.code 0 label i e (h b refl)

-- the temporaries after one is written
pub written_length : (ts : List ℕ) (i v : ℕ) (us : List ℕ) → with_temporary ts i v ≡ Some us
    → length us ≡ i + 1
written_length ts i v us e =
    let le = leb-true i (length ts) (chosen (nat_le i (length ts)) _ us e) in
    ap length (sym (it (nat_le i (length ts)) (take i ts ++ v ∷ []) us e))
    ∙ length-append (take i ts) (v ∷ []) ∙ ap (λ n. n + 1) (length-take-le i ts le)
  where
    it : (b : Bool) (x y : List ℕ) → (if b then Some x else None) ≡ Some y → x ≡ y
    it true x y e = same_it x y e
    it false x y e = absurd (cc)
