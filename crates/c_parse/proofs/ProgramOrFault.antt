-- Tokens without a first fault are those of a program within the limits.
use Rattle.std.proofs.Common.{◌≡◌, ℕ, zero, suc, List, [], ◌∷◌, ◌++◌, refl, sym, subst, ◌∙◌, arith}
use Rattle.std.proofs.lemmas.List.{append-nil}
use Rattle.c_parse.specs.Words.{Token, place, every_limit, Within, IsProgram, Viable, ContinuesWithin}
use Rattle.c_parse.proofs.Lemmas.{append_append}
use Rattle.c_parse.specs.Laws.{IsNoProgram, HasNoFault, ProgramOrFault}

nothing_within : (text : List ℕ) → Within text []
nothing_within text =
    record {
      each = tt;
      functions = λ five. omega arith;
      bytes = λ six. omega arith;
      numbered = λ seven. omega arith;
    }

module _ (text : List ℕ) (ts : List Token) (faultless : HasNoFault text ts) where
  -- tokens before a place continue there within the first n limits: if they didn't, then they
  -- wouldn't within fewer, and there would be a fault
  continues : (front fault : List Token) → ts ≡ front ++ fault → Viable every_limit text front
      → (n : ℕ) → (ContinuesWithin n text front fault → ⊥) → ⊥
  continues front fault split viable zero stops =
      faultless 0 (place text fault)
      (record {
        front = front;
        fault = fault;
        split = split;
        located = refl;
        viable = viable;
        stops = stops;
        fewer = λ k e. absurd (omega arith);
      })
  continues front fault split viable (suc n) stops =
      continues front fault split viable n (λ before. faultless (suc n) (place text fault) (record {
        front = front;
        fault = fault;
        split = split;
        located = refl;
        viable = viable;
        stops = stops;
        fewer = λ k e. let same : n ≡ k = omega arith in
            subst (λ (m : ℕ). ContinuesWithin m text front fault) same before;
      }))

  -- token by token, up to the end
  whole : (front fault : List Token) → ts ≡ front ++ fault → Viable every_limit text front
      → IsNoProgram text ts → ⊥
  whole front [] split viable none =
      continues front [] split viable every_limit
      (λ here. none here.0 (subst (λ (z : List Token). IsProgram text here.0 z)
      (sym (split ∙ append-nil front)) here.1) here.2)
  whole front (t ∷ rest) split viable none =
      continues front (t ∷ rest) split viable every_limit
      (λ here. whole (front ++ t ∷ []) rest (split ∙ sym (append_append front (t ∷ []) rest))
      here none)

pub program_or_fault : ProgramOrFault
program_or_fault text ts none faultless =
    whole text ts faultless [] ts refl
    (record {
      beyond = [];
      more = [];
      program = [];
      derives = refl;
      within = nothing_within (text ++ []);
    }) none
