use Rattle.c_parse_type.proofs.Types.{stars_no_base, type_from}
use Rattle.c_parse_type.proofs.Ends.{ends_type}
use Rattle.c_parse_type.proofs.specifiers.c_type.Goals as goal

pub returns-clause-only : goal.returns-clause-only
returns-clause-only c = λ t end h x y. type_from c.in_ok-base.rest.now c.stars-pointers.result.1.now
    end c.in_ok-base.base c.stars-pointers.result.0 t
    (c.in_ok-base.ensures.only t.base h.0 h.1 (stars_no_base t.pointers h.0 end h.2 x))
    c.stars-pointers.ensures.found c.stars-pointers.ensures.all h.2 y

pub returns-clause-far : goal.returns-clause-far
returns-clause-far c = ends_type c.in_ok-base.base c.stars-pointers.result.0 c.args.tokens.now
    c.in_ok-base.rest.now c.stars-pointers.result.1.now c.in_ok-base.ensures.far
    c.stars-pointers.ensures.found c.stars-pointers.ensures.all
