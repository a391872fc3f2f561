-- What the code of a program refers to is where a piece of its text begins.
use Rattle.std.proofs.Common.{◌≡◌, ◌⊎◌, ℕ, ◌+◌, ◌*◌, ◌<◌, ◌≤◌, Bool, true, false, cond, ltb, List, length, get_or, take, drop, refl, sym, ap, subst, ◌∙◌, arith, inl, inr}
use Rattle.std.proofs.lemmas.Bool.{cases_Bool, ltb-true}
use Rattle.host_layout.specs.declared.imported.ImportedService.{ImportedService}
use Rattle.host_layout.specs.declared.imported.ImportedService.TheVariants as imports
use Rattle.c_operations.specs.declared.built_in.BuiltIn.{BuiltIn}
use Rattle.c_operations.specs.declared.built_in.BuiltIn.TheVariants.{Put, Protect, RaiseException, Walk, AddVectored, RemoveVectored}
use Rattle.pe_write.specs.ImportTables.{place_of}
use Rattle.linear_code.specs.Program.{LinearProgram}
use Rattle.x64_emit.specs.declared.links.Stubs.{Stubs}
use Rattle.x64_emit.specs.Linking.{address_or, stub_of, thunk_of}
use Rattle.image_link.specs.Handlers.{adding_of, removing_of, stub_size_if}
use Rattle.image_link.specs.Linked.{text_begin}
use Rattle.image_link.specs.Routines.{routines}
use Rattle.image_link.specs.Services.{services_of}
use Rattle.image_link.specs.Text.{bounds, thunk_at, thunks_at}
use Rattle.image_link.proofs.Front.{place_small}
use Rattle.image_tables.specs.CodeInMemory.{links}
use Rattle.image_tables.specs.RoutinePlaces.{Placed, site_of, routines_begin, blocks_of, block_begin}
use Rattle.text_routines.proofs.Bounds.{IsListed, given_taken, given_dropped, IsPart, at_name, at_first_stub, at_second_stub, IsBound, front, routine, block}
use Rattle.text_routines.proofs.CodeCalls.{LinksLead}

-- an address is a bound, or none of the text
module _ (p : LinearProgram) (P : ℕ → Type 0) (nowhere : P 0)
    (bound : (at : ℕ) → IsBound p at → P at) where
  thunk_leads : (v : ImportedService) → P (thunk_at (services_of p) (text_begin p.globals) v)
  thunk_leads v =
      bound (thunk_at (services_of p) (text_begin p.globals) v)
      (front (place_of (services_of p) v) (place_small (services_of p) v) refl)

  listed_leads : (at : ℕ)
      → (IsListed (bounds (routines_begin p) (routines p)) at) ⊎ (at ≡ 0) → P at
  listed_leads at (inl l) = bound at (routine l)
  listed_leads at (inr e) = subst P (sym e) nowhere

  pub function_leads : (f : ℕ) → P (address_or (site_of p).functions f 0)
  function_leads f =
      listed_leads (address_or (site_of p).functions f 0)
      (given_taken (length p.functions) (bounds (routines_begin p) (routines p)) f 0)

  pub funclet_leads : (f : ℕ) → P (address_or (site_of p).funclets f 0)
  funclet_leads f =
      listed_leads (address_or (site_of p).funclets f 0)
      (given_dropped (length p.functions) (bounds (routines_begin p) (routines p)) f 0)

  -- a stub of a function's block
  stub_leads : (s : Stubs) (f : ℕ) → P (s.first + s.step * f) → P (stub_of s f)
  stub_leads s f h = by (ltb f s.count)
    where
      by : (b : Bool) → P (cond b (s.first + s.step * f) 0)
      by true = h
      by false = nowhere

  adding_leads : (f : ℕ) → P (stub_of (adding_of (blocks_of p)) f)
  adding_leads f =
      let s = adding_of (blocks_of p) in
      stub_leads s f (bound (s.first + s.step * f)
      (block f 15 (at_first_stub refl) (omega arith)))

  removing_leads : (f : ℕ) → P (stub_of (removing_of (blocks_of p)) f)
  removing_leads f =
      let s = removing_of (blocks_of p) in
      stub_leads s f (bound (s.first + s.step * f) (elim (cases_Bool (blocks_of p).adds) [
        | inl adds ↦ (let size = ap stub_size_if adds in
            block f 28 (at_second_stub adds refl) (omega arith))
        | inr none ↦ (let size = ap stub_size_if none in
            block f 15 (at_first_stub refl) (omega arith))
      ]))

  known_leads : (f : BuiltIn)
      → P (thunk_of (thunks_at (services_of p) (text_begin p.globals) (blocks_of p)) f)
  known_leads Put = thunk_leads imports.Put
  known_leads Protect = thunk_leads imports.Protect
  known_leads RaiseException = thunk_leads imports.RaiseException
  known_leads Walk = thunk_leads imports.Walk
  known_leads (AddVectored f) = adding_leads f
  known_leads (RemoveVectored f) = removing_leads f

  pub links_lead : (x : Placed) → LinksLead P (links p x)
  links_lead x =
      record {
        function = function_leads;
        known = known_leads;
        funclet = funclet_leads;
        local_unwind = thunk_leads imports.LocalUnwind;
      }
