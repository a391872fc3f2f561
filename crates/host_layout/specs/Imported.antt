-- The services that images import: their names, and the order of their slots (own).
--
-- `name_of`, `number_of`: the name of such a service and its place among all of them, by the bytes
-- of their names;
--
-- The main definition: `services`.
use Rattle.std.specs.Prelude.{ℕ, List, [], ◌∷◌, slice_get, Option}
use Rattle.host_layout.specs.declared.name.TheConstants as names
use Rattle.host_layout.specs.declared.imported.ImportedService.{ImportedService}
use Rattle.host_layout.specs.declared.imported.ImportedService.TheVariants.{AddVectored, RaiseException, RemoveVectored, CSpecificHandler, LocalUnwind, Protect, Put, Walk}
use Rattle.host_layout.specs.declared.service.Service.{Service}
use Rattle.host_layout.specs.declared.service.Service.TheVariants as host

abbrev pub name_of : ImportedService → List ℕ
name_of AddVectored = names.ADD_VECTORED_EXCEPTION_HANDLER.now
name_of RaiseException = names.RAISE_EXCEPTION.now
name_of RemoveVectored = names.REMOVE_VECTORED_EXCEPTION_HANDLER.now
name_of CSpecificHandler = names.C_SPECIFIC_HANDLER.now
name_of LocalUnwind = names.LOCAL_UNWIND.now
name_of Protect = names.PROTECT.now
name_of Put = names.PUT.now
name_of Walk = names.WALK.now

-- what the host does for it
abbrev pub service_of : ImportedService → Service
service_of AddVectored = host.AddVectored
service_of RaiseException = host.RaiseException
service_of RemoveVectored = host.RemoveVectored
service_of CSpecificHandler = host.CSpecificHandler
service_of LocalUnwind = host.LocalUnwind
service_of Protect = host.Protect
service_of Put = host.Put
service_of Walk = host.Walk

-- those that every program imports, in the order of their slots
abbrev pub services : List ImportedService
services = RaiseException ∷ CSpecificHandler ∷ LocalUnwind ∷ Protect ∷ Put ∷ []

-- all of them: the others are imported where a program calls them
abbrev pub all_services : List ImportedService
all_services =
    AddVectored ∷ RaiseException ∷ RemoveVectored ∷ CSpecificHandler ∷ LocalUnwind ∷ Protect ∷ Put
    ∷ Walk ∷ []

abbrev pub service_in_slot : ℕ → Option ImportedService
service_in_slot n = slice_get all_services n

-- the place of each in that order
abbrev pub number_of : ImportedService → ℕ
number_of AddVectored = 0
number_of RaiseException = 1
number_of RemoveVectored = 2
number_of CSpecificHandler = 3
number_of LocalUnwind = 4
number_of Protect = 5
number_of Put = 6
number_of Walk = 7
