-- Images with handlers, run by computing.
use Rattle.std.proofs.Common.{refl}
use Rattle.host_model.specs.Images.{ShowsFilterAndFinally, ShowsContinuedRaise, ShowsContinuedInVain, ShowsAcceptedFault, ShowsLocalUnwind, ShowsRaiseInFilter, ShowsRaiseInFinally, ShowsRaisesInFilters, ShowsContinuedAccess, ShowsVectoredHandler, ShowsVectoredInVain}
use Rattle.host_model.proofs.Computed.{computed_image}

pub shows_filter_and_finally : ShowsFilterAndFinally
unfolding computed_image
shows_filter_and_finally = refl

pub shows_continued_raise : ShowsContinuedRaise
unfolding computed_image
shows_continued_raise = refl

pub shows_continued_in_vain : ShowsContinuedInVain
unfolding computed_image
shows_continued_in_vain = refl

pub shows_accepted_fault : ShowsAcceptedFault
unfolding computed_image
shows_accepted_fault = refl

pub shows_local_unwind : ShowsLocalUnwind
unfolding computed_image
shows_local_unwind = refl

pub shows_raise_in_filter : ShowsRaiseInFilter
unfolding computed_image
shows_raise_in_filter = refl

pub shows_raise_in_finally : ShowsRaiseInFinally
unfolding computed_image
shows_raise_in_finally = refl

pub shows_raises_in_filters : ShowsRaisesInFilters
unfolding computed_image
shows_raises_in_filters = refl

pub shows_continued_access : ShowsContinuedAccess
unfolding computed_image
shows_continued_access = refl

pub shows_vectored_handler : ShowsVectoredHandler
unfolding computed_image
shows_vectored_handler = refl

pub shows_vectored_in_vain : ShowsVectoredInVain
unfolding computed_image
shows_vectored_in_vain = refl
