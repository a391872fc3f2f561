-- The host's turns at the services that put a vectored handler into their list and take one out,
-- by the functions that are listed.
use Rattle.std.proofs.Common.{◌≡◌, ℕ, ◌<◌, List, map, Ok, ap, ◌∙◌}
use Rattle.std.specs.Prelude.{Result, not, ◌==◌}
use Rattle.match_turns.specs.Words.{W32, W64, low, address_of, RefusedAccess, loaded, Rcx, Rdx, Rsp, State, register, Functions, Funclet, arrived, turn, back, returned, ImagePlan}
use Rattle.host_layout.specs.declared.service.Service.TheVariants as services
use Rattle.host_model.specs.HostStep.{adding, removing, listed}
use Rattle.vectored_list.specs.Lists.{is_listed, can_be_added, added, removed}
use Rattle.match_turns.proofs.HostTurns.{at_service}
use Rattle.match_turns.proofs.VectoredHandlers.HandlerLists.{AreBelow, listed_so, can_be_added_so, added_so, removed_so}

module _ (t : Functions) (fs : List Funclet) where
  pub adding_turns : (s : State) (ret : ℕ) → s.cpu.rip ≡ address_of services.AddVectored
      → loaded s.memory (register s.cpu Rsp) W64 ≡ Ok ret
      → turn t fs s ≡ arrived t fs (adding s (back s ret))
  adding_turns s ret e w = at_service t fs s (address_of services.AddVectored) e
      ∙ ap (λ (x : Result ℕ RefusedAccess). arrived t fs (returned s x (adding s))) w

  pub removing_turns : (s : State) (ret : ℕ) → s.cpu.rip ≡ address_of services.RemoveVectored
      → loaded s.memory (register s.cpu Rsp) W64 ≡ Ok ret
      → turn t fs s ≡ arrived t fs (removing s (back s ret))
  removing_turns s ret e w = at_service t fs s (address_of services.RemoveVectored) e
      ∙ ap (λ (x : Result ℕ RefusedAccess). arrived t fs (returned s x (removing s))) w

-- the list is of the name thunks of these functions
module _ (p : ImagePlan) (count : ℕ)
    (apart : (f g : ℕ) → f < count → g < count → p.handler f ≡ p.handler g → f ≡ g)
    (f : ℕ) (gs : List ℕ) (few : f < count) (known : AreBelow p.handler count apart gs)
    (s u : State) (list : u.vectored ≡ map p.handler gs) where
  pub adds : register s.cpu Rdx ≡ p.handler f
      → adding s u ≡ listed u (can_be_added f gs)
      (map p.handler (added (not (low W32 (register s.cpu Rcx) == 0)) f gs))
  adds e =
      let first = not (low W32 (register s.cpu Rcx) == 0) in
      ap (λ h. listed u (can_be_added h u.vectored) (added first h u.vectored)) e
      ∙ ap (λ hs. listed u (can_be_added (p.handler f) hs) (added first (p.handler f) hs)) list
      ∙ ap (λ b. listed u b (added first (p.handler f) (map p.handler gs)))
      (can_be_added_so p.handler count apart f gs few known)
      ∙ ap (listed u (can_be_added f gs))
      (added_so p.handler count apart first f gs few known)

  pub removes : register s.cpu Rcx ≡ p.handler f
      → removing s u ≡ listed u (is_listed f gs) (map p.handler (removed f gs))
  removes e =
      ap (λ h. listed u (is_listed h u.vectored) (removed h u.vectored)) e
      ∙ ap (λ hs. listed u (is_listed (p.handler f) hs) (removed (p.handler f) hs)) list
      ∙ ap (λ b. listed u b (removed (p.handler f) (map p.handler gs)))
      (listed_so p.handler count apart f gs few known)
      ∙ ap (listed u (is_listed f gs)) (removed_so p.handler count apart f gs few known)
