-- The host's services: their addresses, and the names by which images import them (own).
--
-- `address_of`, `service_at`: the address of each service in the host's page, and the service at an
-- address. In their order they are `put`, `protect`, `RaiseException`, `__C_specific_handler`,
-- `_local_unwind`, where filters return, where `__finally` blocks return,
-- `AddVectoredExceptionHandler`, `RemoveVectoredExceptionHandler`, where vectored handlers return,
-- and `walk`. Each is 16 bytes after the one before, from 0x7FF00010 on (own).
--
-- The main definition: `service_named`.
use Rattle.std.specs.Prelude.{ℕ, Bool, ◌&&◌, ◌==◌, nat_le, nat_lt, if◌then◌else◌, List, Option, Some, None}
use Rattle.std.specs.Str.{bytes_eq}
use Rattle.host_layout.specs.declared.range.TheConstants.{HOST_PAGE_START, HOST_PAGE_END}
use Rattle.host_layout.specs.declared.name.TheConstants as names
use Rattle.host_layout.specs.declared.service.TheConstants.{PUT_AT, PROTECT_AT, RAISE_EXCEPTION_AT, C_SPECIFIC_HANDLER_AT, LOCAL_UNWIND_AT, FILTER_RETURN_AT, FINALLY_RETURN_AT, ADD_VECTORED_AT, REMOVE_VECTORED_AT, VECTORED_RETURN_AT, WALK_AT}
use Rattle.host_layout.specs.declared.service.Service.{Service}
use Rattle.host_layout.specs.declared.service.Service.TheVariants.{Put, Protect, RaiseException, CSpecificHandler, LocalUnwind, FilterReturn, FinallyReturn, AddVectored, RemoveVectored, VectoredReturn, Walk}

-- the page in which they are, and no instruction
abbrev pub in_host_page : ℕ → Bool
in_host_page a = nat_le HOST_PAGE_START a && nat_lt a HOST_PAGE_END

abbrev pub address_of : Service → ℕ
address_of Put = PUT_AT
address_of Protect = PROTECT_AT
address_of RaiseException = RAISE_EXCEPTION_AT
address_of CSpecificHandler = C_SPECIFIC_HANDLER_AT
address_of LocalUnwind = LOCAL_UNWIND_AT
address_of FilterReturn = FILTER_RETURN_AT
address_of FinallyReturn = FINALLY_RETURN_AT
address_of AddVectored = ADD_VECTORED_AT
address_of RemoveVectored = REMOVE_VECTORED_AT
address_of VectoredReturn = VECTORED_RETURN_AT
address_of Walk = WALK_AT

-- the service at an address
abbrev pub service_at : ℕ → Option Service
service_at a =
    if a == PUT_AT then Some Put
    else (if a == PROTECT_AT then Some Protect
    else (if a == RAISE_EXCEPTION_AT then Some RaiseException
    else (if a == C_SPECIFIC_HANDLER_AT then Some CSpecificHandler
    else (if a == LOCAL_UNWIND_AT then Some LocalUnwind
    else (if a == FILTER_RETURN_AT then Some FilterReturn
    else (if a == FINALLY_RETURN_AT then Some FinallyReturn
    else (if a == ADD_VECTORED_AT then Some AddVectored
    else (if a == REMOVE_VECTORED_AT then Some RemoveVectored
    else (if a == VECTORED_RETURN_AT then Some VectoredReturn
    else (if a == WALK_AT then Some Walk
    else None))))))))))

-- the service that an image imports by a name: any but the three returns (own)
abbrev pub service_named : List ℕ → Option Service
service_named name =
    if bytes_eq name names.ADD_VECTORED_EXCEPTION_HANDLER.now then Some AddVectored
    else (if bytes_eq name names.RAISE_EXCEPTION.now then Some RaiseException
    else (if bytes_eq name names.REMOVE_VECTORED_EXCEPTION_HANDLER.now then Some RemoveVectored
    else (if bytes_eq name names.C_SPECIFIC_HANDLER.now then Some CSpecificHandler
    else (if bytes_eq name names.LOCAL_UNWIND.now then Some LocalUnwind
    else (if bytes_eq name names.PROTECT.now then Some Protect
    else (if bytes_eq name names.PUT.now then Some Put
    else (if bytes_eq name names.WALK.now then Some Walk
    else None)))))))
