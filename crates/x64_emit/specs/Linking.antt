-- Where everything is that code refers to.
--
-- The main definitions: `links_of`, `stub_of`.
use Rattle.std.specs.Prelude.{ℕ, ◌+◌, ◌*◌, nat_lt, if◌then◌else◌, List, get_or}
use Rattle.c_operations.specs.declared.built_in.BuiltIn.{BuiltIn}
use Rattle.c_operations.specs.declared.built_in.BuiltIn.TheVariants.{Put, Protect, RaiseException, Walk, AddVectored, RemoveVectored}
use Rattle.template_code.specs.Template.{Links}
use Rattle.x64_emit.specs.declared.links.Stubs.{Stubs}
use Rattle.x64_emit.specs.declared.links.Thunks.{Thunks}
use Rattle.x64_emit.specs.Near.{IsNear, AreNear}

pub record Addresses : Type 0 where
  pub labels : List ℕ
  pub end : ℕ
  pub functions : List ℕ
  pub funclets : List ℕ
  pub thunks : Thunks

-- the stubs and what is behind the last one
abbrev pub AreStubsNear : Stubs → Type 0
AreStubsNear s = IsNear (s.first + s.step * s.count)

pub record AreAddressesNear (a : Addresses) : Type 0 where
  pub labels : AreNear a.labels
  pub end : IsNear a.end
  pub functions : AreNear a.functions
  pub funclets : AreNear a.funclets
  pub put : IsNear a.thunks.put
  pub protect : IsNear a.thunks.protect
  pub raise_exception : IsNear a.thunks.raise_exception
  pub local_unwind : IsNear a.thunks.local_unwind
  pub walk : IsNear a.thunks.walk
  pub adding : AreStubsNear a.thunks.adding
  pub removing : AreStubsNear a.thunks.removing

abbrev pub address_or : List ℕ → ℕ → ℕ → ℕ
address_or addresses index other = get_or addresses index other

-- the stub of the function of an index
abbrev pub stub_of : Stubs → ℕ → ℕ
stub_of s f = if nat_lt f s.count then s.first + s.step * f else 0

abbrev pub thunk_of : Thunks → BuiltIn → ℕ
thunk_of t Put = t.put
thunk_of t Protect = t.protect
thunk_of t RaiseException = t.raise_exception
thunk_of t Walk = t.walk
thunk_of t (AddVectored f) = stub_of t.adding f
thunk_of t (RemoveVectored f) = stub_of t.removing f

-- the links of a body by the addresses of its labels, of functions, funclets and thunks
abbrev pub links_of : Addresses → Links
links_of a = record {
  label = λ l. address_or a.labels l a.end;
  function = λ f. address_or a.functions f 0;
  known = thunk_of a.thunks;
  funclet = λ f. address_or a.funclets f 0;
  local_unwind = a.thunks.local_unwind;
}
