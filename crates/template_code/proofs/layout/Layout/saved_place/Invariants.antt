use Rattle.std.proofs.Common.{◌≡◌, drop}
use Rattle.template_code.specs.Places.{place_among}
use Rattle.template_code.specs.declared.layout.TheConstants.{LOCAL_REGISTERS}
use Rattle.template_code.proofs.layout.Layout.saved_place.Given as goal

abbrev pub invariant-loop-index : goal.invariant-loop-index
invariant-loop-index l = place_among l.self.registers LOCAL_REGISTERS l.local
    ≡ place_among (drop l.index l.self.registers) (drop l.index LOCAL_REGISTERS) l.local
